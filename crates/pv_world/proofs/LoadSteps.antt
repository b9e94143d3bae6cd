-- What the pieces of an access come to.
use Rattle.std.proofs.Common.{◌≡◌, ℕ, List, [], ◌++◌, Option, Some, None, Result, Ok, Err, refl, sym, ap, ◌∙◌, subst}
use Rattle.std.specs.Option.{option_map}
use Rattle.std.proofs.lemmas.List.{append_assoc, append-nil}
use Rattle.pv_prov.specs.declared.names.Prov.{Prov}
use Rattle.pv_inst.specs.declared.values.Tried.{Tried}
use Rattle.pv_inst.specs.declared.values.Miss.{Miss}
use Rattle.pv_inst.specs.Table.{Table}
use Rattle.pv_inst.specs.Use.{after_use}
use Rattle.pv_shadow.specs.declared.byte.Byte.{Byte}
use Rattle.pv_shadow.specs.Whole.{whole_name}
use Rattle.pv_object.specs.declared.values.Pointer.{Pointer}
use Rattle.pv_object.specs.declared.values.Value.{Value}
use Rattle.pv_object.specs.declared.values.Stop.{Stop}
use Rattle.pv_object.specs.declared.values.Stop.TheVariants as stop
use Rattle.pv_fault.specs.declared.verdict.Verdict.TheVariants as verdict
use Rattle.pv_object.specs.Memory.{Mem, with_table as with_instances}
use Rattle.pv_object.specs.Loading.{Loaded, loaded_test}
use Rattle.pv_object.specs.Loads.{OrNoPair, whole_pointer}
use Rattle.pv_object.proofs.Wholes.{whole_parts, whole_load}
use Rattle.pv_watch.specs.declared.event.What.{What}
use Rattle.pv_world.specs.declared.failing.Blame.{Blame}
use Rattle.pv_world.specs.declared.got.Got.{Got}
use Rattle.pv_world.specs.declared.got.Failure.{Failure}
use Rattle.pv_world.specs.declared.got.Failure.TheVariants as failure
use Rattle.pv_world.specs.declared.got.Shape.{Shape}
use Rattle.pv_world.specs.declared.got.Shape.TheVariants as shape
use Rattle.pv_world.specs.Worlds.{Scalar, World, with_table}
use Rattle.pv_world.specs.Telling.{telling, no_telling, event_of_use, live_test, exposures, all_told, pairings, blame_of, fault_of, verdict_of}
use Rattle.pv_world.specs.Worths.{wrong_of}
use Rattle.pv_world.specs.Accesses.{scalar_as, scalar_by, worth_in}
use Rattle.pv_world.specs.Loads.{stop_blame, loaded_seen, valued_seen, ReadsOn}
use Rattle.pv_world.specs.Coming.{Came, Seen, Gave, Ended, Faulted, coming_of, worth_of}
use Rattle.pv_world.proofs.Comings.{came_fails}

pub load_ok : (P : Type 0) (w v : World) (s : Shape) (o q : Option Blame) (x : Value × Tried) (U : Table) (es fs : List What) (L : Loaded)
    → OrNoPair P (Ok x) w.memory.table U L → v ≡ with_table w (all_told U) → fs ≡ es ++ pairings w.memory.table U ++ event_of_use live_test x.1 ++ exposures U
    → loaded_seen es w s o q L ≡ Gave (Scalar x.0) v fs
load_ok P w v s o q x U es fs (Ok y, T) h vs ts = let e : x ≡ y = let k = h.0 in cc in rw (← e, ← h.1, vs, ts) refl
load_ok P w v s o q x U es fs (Err z, T) h vs ts = let k = h.0 in absurd cc

fails_as : (f : Failure) (y : Stop) (w v : World) (s : Shape) (o q : Option Blame) (U : Table) (es fs : List What) (L : Loaded)
    → (Err y ≡ L.0) × (U ≡ L.1) → v ≡ with_table w U → Faulted f (wrong_of y) fs (es ++ fault_of (stop_blame s y o q) (verdict_of (wrong_of y)))
    → Came worth_of (Err f) v fs (loaded_seen es w s o q L)
fails_as f y w v s o q U es fs (Ok x, T) h vs F = let k = h.0 in absurd cc
fails_as f y w v s o q U es fs (Err z, T) h vs F =
    let e : y ≡ z = let k = h.0 in cc in
    let E : Stop → Type 0 = λ x. loaded_seen es w s o q (Err x, T) ≡ Ended (wrong_of y) v (es ++ fault_of (stop_blame s y o q) (verdict_of (wrong_of y))) in
    came_fails worth_of f (wrong_of y) v fs (es ++ fault_of (stop_blame s y o q) (verdict_of (wrong_of y))) (loaded_seen es w s o q (Err z, T)) (subst E e (rw (vs, h.1) refl)) F

pub load_err : (P : Type 0) (f : Failure) (y : Stop) (w v : World) (s : Shape) (o q : Option Blame) (U : Table) (es fs : List What) (L : Loaded)
    → OrNoPair P (Err y) w.memory.table U L → v ≡ with_table w U → (y ≡ stop.NoMemory → f ≡ failure.NoMemory) → Faulted f (wrong_of y) fs (es ++ fault_of (stop_blame s y o q) (verdict_of (wrong_of y)))
    → Came worth_of (Err f) v fs (loaded_seen es w s o q L)
load_err P f stop.NoMemory w v s o q U es fs L h vs n F = rw (n refl) tt
load_err P f (stop.Ends (verdict.Undefined g)) w v s o q U es fs L h vs n F = fails_as f (stop.Ends (verdict.Undefined g)) w v s o q U es fs L h vs F
load_err P f (stop.Ends verdict.Indeterminate) w v s o q U es fs L h vs n F = fails_as f (stop.Ends verdict.Indeterminate) w v s o q U es fs L h vs F
load_err P f (stop.Ends verdict.Undecided) w v s o q U es fs L h vs n F = fails_as f (stop.Ends verdict.Undecided) w v s o q U es fs L h vs F

-- the same of a pointer that was stored whole, of which no pair is made
pub whole_ok : (w v : World) (o q : Option Blame) (x : Value × Tried) (p : Pointer) (m : Mem) (es fs : List What)
    → Ok x ≡ (loaded_test w.memory.table p).0 → m ≡ with_instances w.memory (loaded_test w.memory.table p).1
    → v ≡ with_table w (all_told m.table) → fs ≡ es ++ pairings w.memory.table m.table ++ event_of_use live_test x.1 ++ exposures m.table
    → loaded_seen es w shape.Pointer o q (loaded_test w.memory.table p) ≡ Gave (Scalar x.0) v fs
whole_ok w v o q x p m es fs r t vs ts =
    load_ok ⊥ w v shape.Pointer o q x m.table es fs (loaded_test w.memory.table p) (r, ap (λ (n : Mem). n.table) t) vs ts

pub whole_err : (f : Failure) (y : Stop) (w v : World) (o q : Option Blame) (p : Pointer) (m : Mem) (es fs : List What)
    → Err y ≡ (loaded_test w.memory.table p).0 → m ≡ with_instances w.memory (loaded_test w.memory.table p).1
    → v ≡ with_table w m.table → Faulted f (wrong_of y) fs (es ++ fault_of (stop_blame shape.Pointer y o q) (verdict_of (wrong_of y)))
    → Came worth_of (Err f) v fs (loaded_seen es w shape.Pointer o q (loaded_test w.memory.table p))
whole_err f y w v o q p m es fs r t vs F =
    fails_as f y w v shape.Pointer o q m.table es fs (loaded_test w.memory.table p) (r, ap (λ (n : Mem). n.table) t) vs F

four : (es us ps xs ys : List What) → es ++ (us ++ ps ++ xs ++ ys) ≡ es ++ us ++ ps ++ xs ++ ys
four es us ps xs ys =
    sym (append_assoc es (us ++ ps ++ xs) ys)
    ∙ ap (λ l. l ++ ys) (sym (append_assoc es (us ++ ps) xs) ∙ ap (λ l. l ++ xs) (sym (append_assoc es us ps)))

scalar_same : (es us : List What) (w0 w : World) (bytes : List Byte) (s : Shape) (p : Option Prov) (L : Loaded)
    → coming_of es w0 (scalar_by w bytes s p (telling us) L) ≡ loaded_seen (es ++ us) w s (option_map (blame_of w0.memory) p) (option_map (blame_of w0.memory) (whole_name bytes)) L
scalar_same es us w0 w bytes s p (Ok r, T) = ap (Gave (Scalar r.0) (with_table w (all_told T))) (four es us (pairings w.memory.table T) (event_of_use live_test r.1) (exposures T))
scalar_same es us w0 w bytes shape.Pointer p (Err (stop.Ends (verdict.Undefined f)), T) = refl
scalar_same es us w0 w bytes shape.Pointer p (Err (stop.Ends verdict.Indeterminate), T) = refl
scalar_same es us w0 w bytes shape.Pointer p (Err (stop.Ends verdict.Undecided), T) = refl
scalar_same es us w0 w bytes shape.Pointer p (Err stop.NoMemory, T) = refl
scalar_same es us w0 w bytes (shape.Int k) p (Err y, T) = refl
scalar_same es us w0 w bytes shape.Whole p (Err y, T) = refl

valued_same : (es us : List What) (w0 w : World) (bytes : List Byte) (s : Shape) (origin : Option ℕ) (p : Option Prov)
    → coming_of es w0 (worth_in w bytes s origin p (telling us)) ≡ valued_seen (es ++ us) w bytes s origin (option_map (blame_of w0.memory) p) (option_map (blame_of w0.memory) (whole_name bytes))
valued_same es us w0 w bytes shape.Whole origin p = refl
valued_same es us w0 w bytes shape.Pointer origin p = scalar_same es us w0 w bytes shape.Pointer p (scalar_as w.memory.table bytes shape.Pointer)
valued_same es us w0 w bytes (shape.Int k) origin p = scalar_same es us w0 w bytes (shape.Int k) p (scalar_as w.memory.table bytes (shape.Int k))

-- the value of bytes, behind what was told before
came_valued : (r : Result Got Failure) (w0 w v : World) (es us fs : List What) (bytes : List Byte) (s : Shape) (origin : Option ℕ) (p : Option Prov) (o q : Option Blame)
    → o ≡ option_map (blame_of w0.memory) p → q ≡ option_map (blame_of w0.memory) (whole_name bytes)
    → Came worth_of r v fs (valued_seen (es ++ us) w bytes s origin o q) → Came worth_of r v fs (coming_of es w0 (worth_in w bytes s origin p (telling us)))
came_valued r w0 w v es us fs bytes s origin p o q os qs h =
    let C : Seen → Type 0 = λ x. Came worth_of r v fs x in
    let O : Option Blame → Type 0 = λ b. C (valued_seen (es ++ us) w bytes s origin b q) in
    let Q : Option Blame → Type 0 = λ b. C (valued_seen (es ++ us) w bytes s origin (option_map (blame_of w0.memory) p) b) in
    subst C (sym (valued_same es us w0 w bytes s origin p)) (subst Q qs (subst O os h))

-- the value of a part
pub came_part : (r : Result Got Failure) (w v : World) (es fs : List What) (bytes : List Byte) (s : Shape) (q : Option Blame)
    → q ≡ option_map (blame_of w.memory) (whole_name bytes) → Came worth_of r v fs (valued_seen es w bytes s None None q) → Came worth_of r v fs (coming_of es w (worth_in w bytes s None None no_telling))
came_part r w v es fs bytes s q qs h =
    let E : List What → Type 0 = λ l. Came worth_of r v fs (valued_seen l w bytes s None None q) in
    came_valued r w w v es [] fs bytes s None None None q refl qs (subst E (sym (append-nil es)) h)

-- the value of bytes that were reached
pub came_read : (r : Result Got Failure) (w v : World) (bs fs : List What) (bytes : List Byte) (s : Shape) (a : ℕ) (p : Pointer) (b : Blame) (q : Option Blame)
    → ((M : Mem) (t : Result Tried Miss) → w.memory.table ≡ after_use M.table p.prov t → b ≡ blame_of M p.prov → q ≡ option_map (blame_of M) (whole_name bytes))
    → Came worth_of r v fs (valued_seen bs w bytes s (Some a) (Some b) q) → ReadsOn w bytes s a p b r v bs fs
came_read r w v bs fs bytes s a p b q qs h = λ w0 t es us T B E.
    let F : List What → Type 0 = λ l. Came worth_of r v fs (valued_seen l w bytes s (Some a) (Some b) q) in
    came_valued r w0 w v es us fs bytes s (Some a) (Some p.prov) (Some b) q (ap Some B) (qs w0.memory t T B) (subst F E h)

-- the value of a pointer that was reached, and was stored whole
pub came_whole : (r : Result Got Failure) (w v : World) (bs fs : List What) (bytes : List Byte) (a : ℕ) (p q : Pointer) (b c : Blame)
    → Some q ≡ whole_pointer bytes
    → ((M : Mem) (t : Result Tried Miss) → w.memory.table ≡ after_use M.table p.prov t → b ≡ blame_of M p.prov → c ≡ blame_of M q.prov)
    → Came worth_of r v fs (loaded_seen bs w shape.Pointer (Some b) (Some c) (loaded_test w.memory.table q)) → ReadsOn w bytes shape.Pointer a p b r v bs fs
came_whole r w v bs fs bytes a p q b c e blamed h =
    let L : Loaded → Type 0 = λ l. Came worth_of r v fs (loaded_seen bs w shape.Pointer (Some b) (Some c) l) in
    let named = (whole_parts bytes q e).1 in
    came_read r w v bs fs bytes shape.Pointer a p b (Some c)
    (λ M t T B. ap Some (blamed M t T B) ∙ sym (ap (option_map (blame_of M)) named))
    (subst L (sym (whole_load w.memory.table bytes q e)) h)
