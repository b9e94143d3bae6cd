-- What a use found is what is told of it, also where a later check ends the run.
use Rattle.std.proofs.Common.{◌≡◌, ℕ, ℤ, Bool, not, if◌then◌else◌, List, ◌++◌, Some, Result, Ok, Err, refl, sym, ap, ◌∙◌, subst}
use Rattle.std.proofs.lemmas.List.{append_assoc}
use Rattle.pv_inst.specs.declared.values.Tried.{Tried}
use Rattle.pv_inst.specs.declared.values.Miss.{Miss}
use Rattle.pv_inst.specs.declared.values.Test.TheVariants.{Live}
use Rattle.pv_inst.specs.Table.{Table}
use Rattle.pv_inst.specs.Use.{use_answer}
use Rattle.pv_object.specs.declared.values.Pointer.{Pointer}
use Rattle.pv_object.specs.declared.values.Stop.{Stop}
use Rattle.pv_object.specs.Answers.{survivors}
use Rattle.pv_watch.specs.declared.event.What.{What}
use Rattle.pv_world.specs.declared.got.Failure.{Failure}
use Rattle.pv_world.specs.Worlds.{Wrong, World, with_table}
use Rattle.pv_world.specs.Worths.{int, pointer, truth_int, wrong_of}
use Rattle.pv_world.specs.Telling.{event_of_use, uses, live_test, exposures, all_told, blame_of, fault_of, verdict_of}
use Rattle.pv_world.specs.Conversions.{recast_by, number_by}
use Rattle.pv_world.specs.Pointers.{equal_by}
use Rattle.pv_world.specs.Coming.{Came, Faulted, Gave, coming_of, worth_of}
use Rattle.pv_world.proofs.Comings.{came_fails}

pub told_use : (n : ℕ) (r : Result Tried Miss) (tried : Tried) → tried ≡ survivors r → event_of_use n tried ≡ uses n r
told_use n (Ok t) tried e = ap (event_of_use n) e
told_use n (Err m) tried e = ap (event_of_use n) e

pub told_next : (n : ℕ) (r : Result Tried Miss) (tried : Tried) (es fs : List What) → fs ≡ es ++ event_of_use n tried → tried ≡ survivors r → fs ≡ es ++ uses n r
told_next n r tried es fs h e = h ∙ ap (λ us. es ++ us) (told_use n r tried e)

-- the same behind which a fault is told
pub fault_next : (n : ℕ) (r : Result Tried Miss) (tried : Tried) (f : Failure) (y : Wrong) (es fs more : List What) → Faulted f y fs (es ++ event_of_use n tried ++ more) → tried ≡ survivors r → Faulted f y fs (es ++ uses n r ++ more)
fault_next n r tried f y es fs more h e = subst (λ us. Faulted f y fs (es ++ us ++ more)) (told_use n r tried e) h

-- ---- a pointer to another pointer type

pub recast_gave : (w v : World) (p : Pointer) (tried : Tried) (es fs : List What) (c : Result Tried Stop × Table)
    → Ok tried ≡ c.0 → v ≡ with_table w c.1 → fs ≡ es ++ event_of_use live_test tried → tried ≡ survivors (use_answer w.memory.table p.prov Live) → coming_of es w (recast_by w p c) ≡ Gave (pointer p) v fs
recast_gave w v p tried es fs (Ok x, T) h vs ts u =
    ap (λ us. Gave (pointer p) (with_table w T) (es ++ us)) (sym (told_use live_test (use_answer w.memory.table p.prov Live) tried u)) ∙ rw (ts, vs) refl
recast_gave w v p tried es fs (Err y, T) h vs ts u = absurd cc

pub recast_stops : (w v : World) (p : Pointer) (tried : Tried) (f : Failure) (y : Stop) (es fs : List What) (c : Result Tried Stop × Table)
    → Err y ≡ c.0 → v ≡ with_table w c.1 → Faulted f (wrong_of y) fs (es ++ event_of_use live_test tried ++ fault_of (Some (blame_of w.memory p.prov)) (verdict_of (wrong_of y)))
    → tried ≡ survivors (use_answer w.memory.table p.prov Live) → Came worth_of (Err f) v fs (coming_of es w (recast_by w p c))
recast_stops w v p tried f y es fs (Ok x, T) h vs F u = absurd cc
recast_stops w v p tried f y es fs (Err z, T) h vs F u =
    let e : z ≡ y = cc in
    let r = use_answer w.memory.table p.prov Live in
    let more = fault_of (Some (blame_of w.memory p.prov)) (verdict_of (wrong_of y)) in
    came_fails worth_of f (wrong_of y) v fs (es ++ uses live_test r ++ more) (coming_of es w (recast_by w p (Err z, T))) (rw (e, vs) refl) (fault_next live_test r tried f (wrong_of y) es fs more F u)

-- ---- a pointer to an integer type

pub number_stops : (w v : World) (p : Pointer) (tried : Tried) (f : Failure) (y : Stop) (es fs : List What) (c : Result (ℤ × Tried) Stop × Table)
    → Err y ≡ c.0 → v ≡ with_table w c.1 → Faulted f (wrong_of y) fs (es ++ event_of_use live_test tried ++ fault_of (Some (blame_of w.memory p.prov)) (verdict_of (wrong_of y)))
    → tried ≡ survivors (use_answer w.memory.table p.prov Live) → Came worth_of (Err f) v fs (coming_of es w (number_by w p c))
number_stops w v p tried f y es fs (Ok x, T) h vs F u = absurd cc
number_stops w v p tried f y es fs (Err z, T) h vs F u =
    let e : z ≡ y = cc in
    let r = use_answer w.memory.table p.prov Live in
    let more = fault_of (Some (blame_of w.memory p.prov)) (verdict_of (wrong_of y)) in
    came_fails worth_of f (wrong_of y) v fs (es ++ uses live_test r ++ more) (coming_of es w (number_by w p (Err z, T))) (rw (e, vs) refl) (fault_next live_test r tried f (wrong_of y) es fs more F u)

-- ---- two pointers

pub equal_stops : (negated : Bool) (w v : World) (p q : Pointer) (tried : Tried) (f : Failure) (y : Stop) (es fs : List What) (c : Result (Bool × Tried × Tried) Stop × Table)
    → Err y ≡ c.0 → v ≡ with_table w c.1 → Faulted f (wrong_of y) fs (es ++ event_of_use live_test tried ++ fault_of (Some (blame_of w.memory p.prov)) (verdict_of (wrong_of y)))
    → tried ≡ survivors (use_answer w.memory.table p.prov Live) → Came worth_of (Err f) v fs (coming_of es w (equal_by negated w p q c))
equal_stops negated w v p q tried f y es fs (Ok x, T) h vs F u = absurd cc
equal_stops negated w v p q tried f y es fs (Err z, T) h vs F u =
    let e : z ≡ y = cc in
    let r = use_answer w.memory.table p.prov Live in
    let more = fault_of (Some (blame_of w.memory p.prov)) (verdict_of (wrong_of y)) in
    came_fails worth_of f (wrong_of y) v fs (es ++ uses live_test r ++ more) (coming_of es w (equal_by negated w p q (Err z, T))) (rw (e, vs) refl) (fault_next live_test r tried f (wrong_of y) es fs more F u)

pub equal_gave : (negated : Bool) (w v : World) (p q : Pointer) (x : Bool × Tried × Tried) (es fs : List What) (c : Result (Bool × Tried × Tried) Stop × Table)
    → Ok x ≡ c.0 → v ≡ with_table w c.1 → fs ≡ es ++ (event_of_use live_test x.1 ++ event_of_use live_test x.2) → x.1 ≡ survivors (use_answer w.memory.table p.prov Live)
    → coming_of es w (equal_by negated w p q c) ≡ Gave (truth_int (if negated then not x.0 else x.0)) v fs
equal_gave negated w v p q x es fs (Ok r, T) h vs ts u =
    let e : r ≡ x = cc in
    let g = λ (k : Bool × Tried × Tried) (us : List What). Gave (truth_int (if negated then not k.0 else k.0)) (with_table w T) (es ++ (us ++ event_of_use live_test k.2)) in
    ap (λ k. g k (uses live_test (use_answer w.memory.table p.prov Live))) e
    ∙ ap (g x) (sym (told_use live_test (use_answer w.memory.table p.prov Live) x.1 u)) ∙ rw (ts, vs) refl
equal_gave negated w v p q x es fs (Err y, T) h vs ts u = absurd cc

pub number_gave : (w v : World) (p : Pointer) (x : ℤ × Tried) (es gs fs : List What) (c : Result (ℤ × Tried) Stop × Table)
    → Ok x ≡ c.0 → v ≡ with_table w (all_told c.1) → gs ≡ es ++ event_of_use live_test x.1 → fs ≡ gs ++ exposures c.1 → x.1 ≡ survivors (use_answer w.memory.table p.prov Live)
    → coming_of es w (number_by w p c) ≡ Gave (int x.0) v fs
number_gave w v p x es gs fs (Ok r, T) h vs ts us u =
    let e : r ≡ x = cc in
    let g = λ (k : ℤ × Tried) (ls : List What). Gave (int k.0) (with_table w (all_told T)) (es ++ (ls ++ exposures T)) in
    ap (λ k. g k (uses live_test (use_answer w.memory.table p.prov Live))) e
    ∙ ap (g x) (sym (told_use live_test (use_answer w.memory.table p.prov Live) x.1 u))
    ∙ rw (us, ts, vs) (ap (Gave (int x.0) (with_table w (all_told T))) (sym (append_assoc es (event_of_use live_test x.1) (exposures T))))
number_gave w v p x es gs fs (Err y, T) h vs ts us u = absurd cc
