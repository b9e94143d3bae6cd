-- Steps of a call of the library (C17 7.1.4) in both runs. What is noted differs, and is looked at by watchers alone.
use Rattle.std.proofs.Common.{◌≡◌, ℕ, zero, suc, ◌+◌, ◌-◌, ◌^◌, min, ◌==◌, Bool, true, false, cond, List, [], ◌∷◌, ◌++◌, length, Option, Some, None, Result, Ok, Err, refl, sym, ap, subst, inl, inr}
use Rattle.pv_num.specs.declared.kinds.IntKind.TheVariants.{UChar}
use Rattle.pv_inst.specs.declared.values.Tried.{Tried}
use Rattle.pv_inst.specs.Table.{Table}
use Rattle.pv_shadow.specs.declared.byte.Byte.{Byte}
use Rattle.pv_shadow.specs.Bytes.{bytes_from}
use Rattle.pv_object.specs.declared.values.Pointer.{Pointer}
use Rattle.pv_object.specs.declared.values.Reach.{Reach}
use Rattle.pv_object.specs.declared.values.Scalar.TheVariants as scalar
use Rattle.pv_object.specs.declared.values.Stop.{Stop}
use Rattle.pv_object.specs.declared.values.Stop.TheVariants as stop
use Rattle.pv_fault.specs.declared.verdict.Verdict.TheVariants as verdict
use Rattle.pv_object.specs.declared.values.Asker.{Asker}
use Rattle.pv_object.specs.declared.values.Value.{Value}
use Rattle.pv_object.specs.declared.values.Value.TheVariants as value
use Rattle.pv_object.specs.Memory.{Mem}
use Rattle.pv_object.specs.Access.{fault, reach}
use Rattle.pv_shadow.specs.Whole.{number_in}
use Rattle.pv_object.specs.Loading.{Loaded, load, value_of, integer_of, exposed_by}
use Rattle.pv_libc.specs.declared.values.Note.{Note}
use Rattle.pv_libc.specs.Steps.{Now, Did, answer_now, stop_now, next_by, next, about_by, about, reached_by, reach_for, with_exposures, in_table}
use Rattle.pv_libc.specs.Characters.{character_of, character_loaded, character_in, character_at, characters_from, too_far, string_from, string_at, most}
use Rattle.pv_exec.proofs.Memory.Rows.{Sound, Leads, led-itself, led-trans}
use Rattle.pv_exec.proofs.Memory.Tables.{leading}
use Rattle.pv_exec.proofs.Memory.Pointers.{reach-leads, value-leads}
use Rattle.pv_exec.proofs.Settling.Sides.{on_table, on_memory, Allows, Covers}
use Rattle.pv_exec.proofs.Settling.Along.{IsFault, Ends, Along, Similar, before}
use Rattle.pv_exec.proofs.Settling.Pointers.{SameFirst, Equal, value-along}
use Rattle.pv_exec.proofs.Settling.Reaching.{Reaches, reach-along}
use Rattle.pv_exec.proofs.Settling.Accesses.{reach-covers}
use Rattle.pv_exec.proofs.Settling.Exposures.{bytes-pairs}

-- where a call of the settled run stands, with notes of its own
abbrev pub on_now : List Bool → List Note → Now → Now
on_now ds ns S = record { memory = on_memory ds S.memory; notes = ns }

-- two answers, with the memories that are left
abbrev pub Beside : {A : Type 0} → List Bool → (A → A → Type 0) → Result A Stop → Mem → Result A Stop → Mem → Type 0
Beside ds V (Ok a) M (Ok a') M' = V a a' × Allows ds M.table.pairs × (M' ≡ on_memory ds M)
Beside ds V (Ok a) M (Err y') M' = IsFault y' × (Allows ds M.table.pairs → ⊥)
Beside ds V (Err y) M r' M' = Ends ds y M.table r'

abbrev pub Walks : {A : Type 0} → List Bool → (A → A → Type 0) → Did A → Did A → Type 0
Walks ds V d d' = Beside ds V d.answer d.after.memory d'.answer d'.after.memory

pub lost-beside : {A : Type 0} (ds : List Bool) (V : A → A → Type 0) (r : Result A Stop) (M : Mem) (y' : Stop) (M' : Mem) → IsFault y' → (Allows ds M.table.pairs → ⊥) → Beside ds V r M (Err y') M'
lost-beside ds V (Ok a) M y' M' f n = (f, n)
lost-beside ds V (Err (stop.Ends (verdict.Undefined g))) M y' M' f n = f
lost-beside ds V (Err (stop.Ends verdict.Undecided)) M y' M' f n = tt
lost-beside ds V (Err stop.NoMemory) M y' M' f n = tt
lost-beside ds V (Err (stop.Ends verdict.Indeterminate)) M y' M' f n = inr (f, n)

pub beside : {A : Type 0} (ds : List Bool) (V : A → A → Type 0) (r r' : Result A Stop) (M M' : Mem) → Similar V r r' → Allows ds M.table.pairs → M' ≡ on_memory ds M → Beside ds V r M r' M'
beside ds V (Ok a) (Ok a') M M' h al e = (h, al, e)
beside ds V (Ok a) (Err y') M M' h al e = absurd h
beside ds V (Err (stop.Ends (verdict.Undefined f))) r' M M' h al e = h
beside ds V (Err (stop.Ends verdict.Indeterminate)) r' M M' h al e = inl (h, al)
beside ds V (Err (stop.Ends verdict.Undecided)) r' M M' h al e = tt
beside ds V (Err stop.NoMemory) r' M M' h al e = tt

abbrev stop_in : {A : Type 0} → Stop → Result A Stop → Stop
stop_in z (Ok a) = z
stop_in z (Err y) = y

-- from the tables to the memories around them
pub beside-along : {A : Type 0} (ds : List Bool) (V : A → A → Type 0) (M : Mem) (got got' : Result A Stop × Table) → Along ds V got got' → Beside ds V got.0 (record M { table = got.1 }) got'.0 (record (on_memory ds M) { table = got'.1 })
beside-along ds V M ((Ok a), U) ((Ok a'), U') h = (h.0, h.1, ap (λ (W : Table). record M { table = W }) h.2)
beside-along ds V M ((Ok a), U) ((Err y'), U') h = h
beside-along ds V M ((Err y), U) (r', U') h = h

-- a step of a call
pub record Goes (F : Type 0) (ds : List Bool) (A : Type 0) (V : A → A → Type 0) (f f' : Now → Did A) : Type 0 where
  pub leads : (S : Now) → Leads F S.memory.table (f S).after.memory.table
  pub covers : (S : Now) → Covers ds S.memory.table.pairs → Covers ds (f S).after.memory.table.pairs
  pub walks : (S : Now) (ns : List Note) → Sound F S.memory.table.instances S.memory.table.pairs → Allows ds S.memory.table.pairs → Covers ds S.memory.table.pairs → Walks ds V (f S) (f' (on_now ds ns S))

module _ (F : Type 0) (ds : List Bool) where
  pub done-goes : {A : Type 0} (V : A → A → Type 0) (a a' : A) → V a a' → Goes F ds A V (answer_now a) (answer_now a')
  done-goes V a a' h = record { leads = λ S. led-itself; covers = λ S c. c; walks = λ S ns so al c. (h, al, refl) }

  pub halted-goes : {A : Type 0} (V : A → A → Type 0) (c : _) (x : _) → Goes F ds A V (stop_now (fault c x)) (stop_now (fault c x))
  halted-goes V c x = record { leads = λ S. led-itself; covers = λ S c. c; walks = λ S ns so al c. tt }

  pub either-goes : {A : Type 0} (V : A → A → Type 0) (b : Bool) (f f' g g' : Now → Did A) → Goes F ds A V f f' → Goes F ds A V g g' → Goes F ds A V (λ S. cond b (f S) (g S)) (λ S. cond b (f' S) (g' S))
  either-goes V true f f' g g' h k = h
  either-goes V false f f' g g' h k = k

  -- one step behind another
  module _ {A B : Type 0} (V : A → A → Type 0) (W : B → B → Type 0) (same : (a : A) → V a a) (f f' : Now → Did A) (g g' : A → Now → Did B) (h : Goes F ds A V f f') (k : (a a' : A) → V a a' → Goes F ds B W (g a) (g' a')) where
    next-leads : (S : Now) (r : Result A Stop) (d : Did A) → Leads F S.memory.table d.after.memory.table → Leads F S.memory.table (next_by r d g).after.memory.table
    next-leads S (Ok a) d l = led-trans l ((k a a (same a)).leads d.after)
    next-leads S (Err y) d l = l

    next-covers : (r : Result A Stop) (d : Did A) → Covers ds d.after.memory.table.pairs → Covers ds (next_by r d g).after.memory.table.pairs
    next-covers (Ok a) d c = (k a a (same a)).covers d.after c
    next-covers (Err y) d c = c

    ends-next : (y : Stop) (T : Table) (d' : Did A) (r' : Result A Stop) → Ends {A = A} ds y T r' → Ends {A = B} ds y T (next_by r' d' g').answer
    ends-next (stop.Ends (verdict.Undefined x)) T d' (Ok a') e = absurd e
    ends-next (stop.Ends (verdict.Undefined x)) T d' (Err y') e = e
    ends-next (stop.Ends verdict.Undecided) T d' r' e = tt
    ends-next stop.NoMemory T d' r' e = tt
    ends-next (stop.Ends verdict.Indeterminate) T d' (Ok a') (inl e) = absurd (cc)
    ends-next (stop.Ends verdict.Indeterminate) T d' (Ok a') (inr e) = absurd e.0
    ends-next (stop.Ends verdict.Indeterminate) T d' (Err y') (inl e) = inl (ap (λ x. Err x) (ap (stop_in y') e.0), e.1)
    ends-next (stop.Ends verdict.Indeterminate) T d' (Err y') (inr e) = inr e

    next-by : (d d' : Did A) (r r' : Result A Stop) → Sound F d.after.memory.table.instances d.after.memory.table.pairs → Covers ds d.after.memory.table.pairs → Beside ds V r d.after.memory r' d'.after.memory
        → Walks ds W (next_by r d g) (next_by r' d' g')
    next-by d d' (Ok a) (Ok a') so c b =
        subst (λ (T : Now). Walks ds W (g a d.after) (g' a' T)) (λ i. record { memory = sym b.2 i; notes = d'.after.notes })
        ((k a a' b.0).walks d.after d'.after.notes so b.1 c)
    next-by d d' (Ok a) (Err y') so c b =
        lost-beside ds W (g a d.after).answer (g a d.after).after.memory y' d'.after.memory b.0
        (λ al. b.1 (before ds d.after.memory.table.pairs (g a d.after).after.memory.table.pairs ((k a a (same a)).leads d.after).settle al))
    next-by d d' (Err y) r' so c b = ends-next y d.after.memory.table d' r' b

    pub next-goes : Goes F ds B W (λ S. next (f S) g) (λ S. next (f' S) g')
    next-goes = record {
      leads = λ S. next-leads S (f S).answer (f S) (h.leads S);
      covers = λ S c. next-covers (f S).answer (f S) (h.covers S c);
      walks = λ S ns so al c. next-by (f S) (f' (on_now ds ns S)) (f S).answer (f' (on_now ds ns S)).answer ((h.leads S).sound so) (h.covers S c) (h.walks S ns so al c);
    }

  -- what is noted where a step stops
  about-memory : {A : Type 0} (n : Note) (r : Result A Stop) (d : Did A) → (about_by r n d).after.memory ≡ d.after.memory
  about-memory n (Ok a) d = refl
  about-memory n (Err y) d = refl

  about-answer : {A : Type 0} (n : Note) (r : Result A Stop) (d : Did A) → d.answer ≡ r → (about_by r n d).answer ≡ r
  about-answer n (Ok a) d e = e
  about-answer n (Err y) d e = refl

  pub about-goes : {A : Type 0} (V : A → A → Type 0) (n n' : Note) (f f' : Now → Did A) → Goes F ds A V f f' → Goes F ds A V (λ S. about n (f S)) (λ S. about n' (f' S))
  about-goes V n n' f f' h = record {
    leads = λ S. subst (λ (M : Mem). Leads F S.memory.table M.table) (sym (about-memory n (f S).answer (f S))) (h.leads S);
    covers = λ S c. subst (λ (M : Mem). Covers ds M.table.pairs) (sym (about-memory n (f S).answer (f S))) (h.covers S c);
    walks = λ S ns so al c. about-walks V n n' (f S) (f' (on_now ds ns S)) (h.walks S ns so al c);
  }
    where
      about-walks : {A : Type 0} (V : A → A → Type 0) (n n' : Note) (d d' : Did A) → Walks ds V d d' → Walks ds V (about n d) (about n' d')
      about-walks {A} V n n' d d' w =
          let m = about-memory n d.answer d in
          let m' = about-memory n' d'.answer d' in
          let a = about-answer n d.answer d refl in
          let a' = about-answer n' d'.answer d' refl in
          subst (λ x. Beside ds V x (about n d).after.memory (about n' d').answer (about n' d').after.memory) (sym a)
          (subst (λ x. Beside ds V d.answer (about n d).after.memory x (about n' d').after.memory) (sym a')
          (subst (λ x. Beside ds V d.answer x d'.answer (about n' d').after.memory) (sym m)
          (subst (λ x. Beside ds V d.answer d.after.memory d'.answer x) (sym m') w)))

  -- the checks of an access (7.24.1p2, 7.1.4p1)
  pub reached-goes : (by : Asker) (write : Bool) (p : Pointer) (n n' : Note) (k : ℕ) → Goes F ds Reach (Reaches k) (reach_for by write (record { pointer = p; stopped = n }) k) (reach_for by write (record { pointer = p; stopped = n' }) k)
  reached-goes by write p n n' k =
      about-goes (Reaches k) n n' (λ S. reached_by by write (record { pointer = p; stopped = n }) k S (reach S.memory.table p k 1 write by)) (λ S. reached_by by write (record { pointer = p; stopped = n' }) k S (reach S.memory.table p k 1 write by))
      (record {
        leads = λ S. reach-leads (leading F) S.memory p k 1 write by;
        covers = λ S c. reach-covers ds S.memory.table p k 1 write by c;
        walks = λ S ns so al c. beside-along ds (Reaches k) S.memory (reach S.memory.table p k 1 write by) (reach (on_table ds S.memory.table) p k 1 write by) (reach-along F ds S.memory.table p k 1 write by so al c);
      })

  pub same-reach : (k : ℕ) (r : Reach) → Reaches k r r
  same-reach k r = (refl, λ some. (refl, refl))

  -- characters (7.24.1p3)
  character-same : (v : Value) (t t' : Tried) → Similar Equal (character_of (Ok (v, t))) (character_of (Ok (v, t')))
  character-same (value.Int n) t t' = refl
  character-same value.Unset t t' = refl
  character-same (value.Pointer p) t t' = refl

  value-covers : (T : Table) (bytes : List Byte) → Covers ds T.pairs → Covers ds (value_of T bytes (scalar.Int UChar)).1.pairs
  value-covers T bytes c = by (number_in bytes)
    where
      trap : (b : Bool) (x y : Loaded) → Covers ds x.1.pairs → Covers ds y.1.pairs → Covers ds (cond b x y).1.pairs
      trap true x y h g = h
      trap false x y h g = g

      shown : Covers ds (exposed_by T bytes).pairs
      shown = subst (λ ts. Covers ds ts) (sym (bytes-pairs T bytes)) c

      by : (o : Option ℕ) → Covers ds (integer_of T UChar bytes o).1.pairs
      by None = shown
      by (Some n) = shown

  loaded-beside : (S : Now) (ns : List Note) (got got' : Loaded) → Along ds SameFirst got got' → Walks ds Equal (character_loaded S got) (character_loaded (on_now ds ns S) got')
  loaded-beside S ns ((Ok (v, t)), U) ((Ok (v', t')), U') h =
      beside ds Equal (character_of (Ok (v, t))) (character_of (Ok (v', t'))) (with_exposures (in_table S U)).memory (with_exposures (in_table (on_now ds ns S) U')).memory
      (subst (λ x. Similar Equal (character_of (Ok (v, t))) (character_of (Ok (x, t')))) (sym h.0) (character-same v t t')) h.1 (ap (λ (W : Table). record S.memory { table = record W { pending = [] } }) h.2)
  loaded-beside S ns ((Ok (v, t)), U) ((Err y'), U') h = lost-beside ds Equal (character_of (Ok (v, t))) (with_exposures (in_table S U)).memory y' (with_exposures (in_table (on_now ds ns S) U')).memory h.0 h.1
  loaded-beside S ns ((Err (stop.Ends (verdict.Undefined f))), U) ((Ok x), U') h = absurd h
  loaded-beside S ns ((Err (stop.Ends (verdict.Undefined f))), U) ((Err y'), U') h = h
  loaded-beside S ns ((Err (stop.Ends verdict.Undecided)), U) (r', U') h = tt
  loaded-beside S ns ((Err stop.NoMemory), U) (r', U') h = tt
  loaded-beside S ns ((Err (stop.Ends verdict.Indeterminate)), U) ((Ok x), U') (inl h) = absurd (cc)
  loaded-beside S ns ((Err (stop.Ends verdict.Indeterminate)), U) ((Ok x), U') (inr h) = absurd h.0
  loaded-beside S ns ((Err (stop.Ends verdict.Indeterminate)), U) ((Err y'), U') (inl h) = inl (ap (λ x. Err x) (ap (stop_in y') h.0), h.1)
  loaded-beside S ns ((Err (stop.Ends verdict.Indeterminate)), U) ((Err y'), U') (inr h) = inr h

  pub character-goes : (p : Pointer) (n n' : Note) (a : ℕ) → Goes F ds ℕ Equal (character_in (record { pointer = p; stopped = n }) a) (character_in (record { pointer = p; stopped = n' }) a)
  character-goes p n n' a =
      about-goes Equal n n' (λ S. character_loaded S (load S.memory a (scalar.Int UChar))) (λ S. character_loaded S (load S.memory a (scalar.Int UChar)))
      (record {
        leads = λ S. value-leads (leading F) S.memory (bytes_from S.memory.bytes a 1) (scalar.Int UChar);
        covers = λ S c. value-covers S.memory.table (bytes_from S.memory.bytes a 1) c;
        walks = λ S ns so al c. loaded-beside S ns (load S.memory a (scalar.Int UChar)) (load (on_memory ds S.memory) a (scalar.Int UChar)) (value-along F ds S.memory.table (bytes_from S.memory.bytes a 1) (scalar.Int UChar) so al c);
      })

  pub at-goes : (by : Asker) (p : Pointer) (n n' : Note) (i : ℕ) → Goes F ds ℕ Equal (character_at by (record { pointer = p; stopped = n }) i) (character_at by (record { pointer = p; stopped = n' }) i)
  at-goes by p n n' i =
      let q : Pointer = record p { address = min (p.address + i) (2 ^ 64 - 1) } in
      next-goes (Reaches 1) Equal (same-reach 1) (reach_for by false (record { pointer = q; stopped = n }) 1) (reach_for by false (record { pointer = q; stopped = n' }) 1)
      (λ r T. character_in (record { pointer = q; stopped = n }) r.address T) (λ r T. character_in (record { pointer = q; stopped = n' }) r.address T)
      (reached-goes by false q n n' 1)
      (λ r r' h. subst (λ a. Goes F ds ℕ Equal (character_in (record { pointer = q; stopped = n }) r.address) (character_in (record { pointer = q; stopped = n' }) a)) (sym h.0) (character-goes q n n' r.address))

  pub row-goes : (k : ℕ) (p : Pointer) (n n' : Note) (a : ℕ) (read : List ℕ) → Goes F ds (List ℕ) Equal (characters_from k (record { pointer = p; stopped = n }) a read) (characters_from k (record { pointer = p; stopped = n' }) a read)
  row-goes zero p n n' a read = done-goes Equal read read refl
  row-goes (suc k) p n n' a read =
      next-goes Equal Equal (λ x. refl) (character_in (record { pointer = p; stopped = n }) a) (character_in (record { pointer = p; stopped = n' }) a)
      (λ c T. characters_from k (record { pointer = p; stopped = n }) (a + 1) (read ++ c ∷ []) T) (λ c T. characters_from k (record { pointer = p; stopped = n' }) (a + 1) (read ++ c ∷ []) T)
      (character-goes p n n' a)
      (λ c c' e. subst (λ x. Goes F ds (List ℕ) Equal (characters_from k (record { pointer = p; stopped = n }) (a + 1) (read ++ c ∷ [])) (characters_from k (record { pointer = p; stopped = n' }) (a + 1) (read ++ x ∷ []))) (sym e) (row-goes k p n n' (a + 1) (read ++ c ∷ [])))

  -- strings (7.1.1p1)
  pub far-goes : {A : Type 0} (V : A → A → Type 0) (by : Asker) (p : Pointer) (n n' : Note) → Goes F ds A V (too_far by (record { pointer = p; stopped = n })) (too_far by (record { pointer = p; stopped = n' }))
  far-goes V by p n n' = record { leads = λ S. led-itself; covers = λ S c. c; walks = λ S ns so al c. tt }

  strings-go : (k : ℕ) (by : Asker) (p : Pointer) (n n' : Note) (read : List ℕ) → Goes F ds (List ℕ) Equal (string_from k by (record { pointer = p; stopped = n }) read) (string_from k by (record { pointer = p; stopped = n' }) read)
  strings-go zero by p n n' read = far-goes Equal by p n n'
  strings-go (suc k) by p n n' read =
      next-goes Equal Equal (λ x. refl) (character_at by (record { pointer = p; stopped = n }) (length read)) (character_at by (record { pointer = p; stopped = n' }) (length read))
      (λ c T. cond (c == 0) (answer_now read T) (string_from k by (record { pointer = p; stopped = n }) (read ++ c ∷ []) T)) (λ c T. cond (c == 0) (answer_now read T) (string_from k by (record { pointer = p; stopped = n' }) (read ++ c ∷ []) T))
      (at-goes by p n n' (length read))
      (λ c c' e. subst (λ x. Goes F ds (List ℕ) Equal (λ T. cond (c == 0) (answer_now read T) (string_from k by (record { pointer = p; stopped = n }) (read ++ c ∷ []) T)) (λ T. cond (x == 0) (answer_now read T) (string_from k by (record { pointer = p; stopped = n' }) (read ++ x ∷ []) T))) (sym e)
      (either-goes Equal (c == 0) (answer_now read) (answer_now read) (string_from k by (record { pointer = p; stopped = n }) (read ++ c ∷ [])) (string_from k by (record { pointer = p; stopped = n' }) (read ++ c ∷ [])) (done-goes Equal read read refl) (strings-go k by p n n' (read ++ c ∷ []))))

  pub text-goes : (by : Asker) (p : Pointer) (n n' : Note) → Goes F ds (List ℕ) Equal (string_at by (record { pointer = p; stopped = n })) (string_at by (record { pointer = p; stopped = n' }))
  text-goes by p n n' = strings-go most by p n n' []
