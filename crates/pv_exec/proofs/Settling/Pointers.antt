-- Operations on pointers and loads (C17 6.3.2.3, 6.5.6, 6.5.9, 6.3.2.1) in both runs.
use Rattle.std.proofs.Common.{◌≡◌, ℕ, ℤ, pos, Bool, true, false, cond, List, Option, Some, None, Result, Ok, Err, refl, sym, ap, ◌∙◌, subst, inl}
use Rattle.pv_num.specs.declared.kinds.IntKind.{IntKind}
use Rattle.pv_fault.specs.declared.faults.Clause.{Clause}
use Rattle.pv_fault.specs.declared.faults.Clause.TheVariants as clause
use Rattle.pv_fault.specs.declared.faults.Reason.TheVariants as reason
use Rattle.pv_num.specs.Kinds.{fits_of, convert_of, is_character_kind as is_character}
use Rattle.pv_prov.specs.declared.names.Prov.{Prov}
use Rattle.pv_prov.specs.Names.{is_empty}
use Rattle.pv_inst.specs.declared.values.Test.TheVariants.{Live, Range}
use Rattle.pv_inst.specs.declared.values.Tried.{Tried}
use Rattle.pv_inst.specs.declared.values.Miss.{Miss}
use Rattle.pv_inst.specs.Table.{Table}
use Rattle.pv_inst.specs.Use.{use_answer, after_use, empty_use}
use Rattle.pv_inst.specs.Finding.{name_at, after_name}
use Rattle.pv_shadow.specs.declared.byte.Byte.{Byte}
use Rattle.pv_shadow.specs.Whole.{whole_name, number_in}
use Rattle.pv_object.specs.declared.values.Pointer.{Pointer}
use Rattle.pv_object.specs.declared.values.Scalar.{Scalar}
use Rattle.pv_object.specs.declared.values.Scalar.TheVariants as scalar
use Rattle.pv_object.specs.declared.values.Value.{Value}
use Rattle.pv_object.specs.declared.values.Value.TheVariants as value
use Rattle.pv_object.specs.declared.values.Stop.{Stop}
use Rattle.pv_object.specs.Access.{fault, is_null}
use Rattle.pv_object.specs.Loading.{loaded_test, pointer_named, pointer_of, exposed_by, integer_of, is_trap, value_of}
use Rattle.pv_object.specs.OperationParts.{live_answer, truth_by, equal_by, moved_by, address_on}
use Rattle.pv_object.specs.Operations.{ended_stop, truth, equal_after, pointer_equality, recast_by, recast, to_int, to_int_after, exposed_to, move_under, to_ptr, address_of}
use Rattle.pv_exec.proofs.Memory.Rows.{Sound, Leads}
use Rattle.pv_exec.proofs.Memory.Tables.{use-leads}
use Rattle.pv_exec.proofs.Settling.Sides.{on_table, Allows, Covers, Nearly, nearly}
use Rattle.pv_exec.proofs.Settling.Uses.{Agree, use-agrees, settled-covers}
use Rattle.pv_exec.proofs.Settling.Exposures.{expose-on, bytes-on, expose-pairs, bytes-pairs}
use Rattle.pv_exec.proofs.Settling.Finding.{name-on, after-on, after-allows, after-nearly, name-passes}
use Rattle.pv_exec.proofs.Settling.Along.{IsFault, Along, lost, Similar, either-along, range-fault, by-use, before}

-- the same value, whatever was tried
abbrev pub SameFirst : {A : Type 0} → A × Tried → A × Tried → Type 0
SameFirst a a' = a'.0 ≡ a.0

abbrev pub SameOne : {A : Type 0} → A × Tried × Tried → A × Tried × Tried → Type 0
SameOne a a' = a'.0 ≡ a.0

abbrev pub Anyhow : {A : Type 0} → A → A → Type 0
Anyhow a a' = Unit {0}

abbrev pub Equal : {A : Type 0} → A → A → Type 0
Equal a a' = a' ≡ a

module _ (F : Type 0) (ds : List Bool) where
  -- both stop by this fault, and nothing has changed
  pub halted : {A : Type 0} (V : A → A → Type 0) (c : Clause) (x : _) (T : Table) → Along ds V (Err (fault c x), T) (Err (fault c x), on_table ds T)
  halted V c x T = tt

  -- truth, other pointer types, moves
  pub truth-along : (T : Table) (p : Pointer) → Allows ds T.pairs → Covers ds T.pairs → Along ds SameFirst (truth T p) (truth (on_table ds T) p)
  truth-along T p al c = by-use ds SameFirst (truth_by p) T p.prov Live al c (λ t t'. refl) (λ m. tt)

  recast-similar : (p : Pointer) (b : Bool) (t t' : Tried) → Similar Anyhow (cond b (Ok t) (Err (fault clause.PointerToPointer reason.Misaligned))) (cond b (Ok t') (Err (fault clause.PointerToPointer reason.Misaligned)))
  recast-similar p true t t' = tt
  recast-similar p false t t' = tt

  pub recast-along : (T : Table) (p : Pointer) (align : ℕ) → Allows ds T.pairs → Covers ds T.pairs → Along ds Anyhow (recast T p align) (recast (on_table ds T) p align)
  recast-along T p align al c = by-use ds Anyhow (recast_by p align) T p.prov Live al c (λ t t'. recast-similar p _ t t') (λ m. tt)

  pub move-along : (k : Clause) (T : Table) (p : Pointer) (by : ℤ) → Allows ds T.pairs → Covers ds T.pairs → Along ds SameFirst (move_under k T p by) (move_under k (on_table ds T) p by)
  move-along k T p by al c =
      either-along ds SameFirst (is_null p) _ _ _ _ tt
      (either-along ds SameFirst (is_empty p.prov) _ _ _ _ tt
      (by-use ds SameFirst (moved_by k p (address_on p.address by)) T p.prov (Range (address_on p.address by) 0) al c (λ t t'. refl) (λ m. range-fault k m)))

  -- equality: two uses
  equal-by : (T T' : Table) (p q : Pointer) (r r' : Result Tried Miss) → Covers ds T.pairs → Sound F T.instances T.pairs → Leads F T (after_use T p.prov r) → T' ≡ on_table ds T → Agree ds r (after_use T p.prov r) r' (after_use T' p.prov r')
      → Along ds SameOne (equal_after T p q r) (equal_after T' p q r')
  equal-by T T' p q (Err m) (Err m') c s l e h = tt
  equal-by T T' p q (Err m) (Ok t') c s l e h = absurd h
  equal-by T T' p q (Ok t) (Err m') c s l e h =
      let U = after_use T p.prov (Ok t) in
      lost ds SameOne (equal_by p q t (use_answer U q.prov Live)) (after_use U q.prov (use_answer U q.prov Live)) ended_stop T' tt
      (λ a. h (before ds U.pairs (after_use U q.prov (use_answer U q.prov Live)).pairs (use-leads {F = F} U q.prov Live).settle a))
  equal-by T T' p q (Ok t) (Ok t') c s l e h =
      let U = after_use T p.prov (Ok t) in
      subst (λ (W : Table). Along ds SameOne (equal_by p q t (use_answer U q.prov Live), after_use U q.prov (use_answer U q.prov Live)) (equal_by p q t' (use_answer W q.prov Live), after_use W q.prov (use_answer W q.prov Live))) (sym h.1)
      (two t t' (use_answer U q.prov Live) (use_answer (on_table ds U) q.prov Live) (use-agrees ds U q.prov Live h.0))
    where
      two : (t t' : Tried) (r r' : Result Tried Miss) → let U = after_use T p.prov (Ok t) in Agree ds r (after_use U q.prov r) r' (after_use (on_table ds U) q.prov r')
          → Along ds SameOne (equal_by p q t r, after_use U q.prov r) (equal_by p q t' r', after_use (on_table ds U) q.prov r')
      two t t' (Ok x) (Ok x') h =
          let U = after_use T p.prov (Ok t) in
          (refl, h.0, h.1, nearly ds (after_use U q.prov (Ok x)).pairs (settled-covers ds U q.prov (Ok x) (settled-covers ds T p.prov (Ok t) c)))
      two t t' (Ok x) (Err m') h = (tt, h)
      two t t' (Err m) (Ok x') h = absurd h
      two t t' (Err m) (Err m') h = tt

  pub equal-along : (T : Table) (p q : Pointer) → Sound F T.instances T.pairs → Allows ds T.pairs → Covers ds T.pairs → Along ds SameOne (pointer_equality T p q) (pointer_equality (on_table ds T) p q)
  equal-along T p q s al c = equal-by T (on_table ds T) p q (use_answer T p.prov Live) (use_answer (on_table ds T) p.prov Live) c s (use-leads {F = F} T p.prov Live) refl (use-agrees ds T p.prov Live al)

  -- to an integer type: a use, and exposure
  exposed-along : (U : Table) (p : Pointer) (fits : Bool) (t t' : Tried) → Sound F U.instances U.pairs → Allows ds U.pairs → Covers ds U.pairs → Along ds SameFirst (exposed_to U p fits t) (exposed_to (on_table ds U) p fits t')
  exposed-along U p false t t' s al c = tt
  exposed-along U p true t t' s al c =
      (refl, subst (λ ts. Allows ds ts) (sym (expose-pairs U p.prov)) al, expose-on ds U p.prov s, subst (λ ts. Nearly ds ts) (sym (expose-pairs U p.prov)) (nearly ds U.pairs c))

  exposed-lost : (U : Table) (p : Pointer) (fits : Bool) (t : Tried) (y' : Stop) (U' : Table) → IsFault y' → (Allows ds U.pairs → ⊥) → Along ds SameFirst (exposed_to U p fits t) (Err y', U')
  exposed-lost U p false t y' U' f n = f
  exposed-lost U p true t y' U' f n = (f, λ a. n (subst (λ ts. Allows ds ts) (expose-pairs U p.prov) a))

  int-by : (T T' : Table) (p : Pointer) (k : IntKind) (r r' : Result Tried Miss) → Covers ds T.pairs → Sound F T.instances T.pairs → Leads F T (after_use T p.prov r) → Agree ds r (after_use T p.prov r) r' (after_use T' p.prov r')
      → Along ds SameFirst (to_int_after T p k r) (to_int_after T' p k r')
  int-by T T' p k (Err m) (Err m') c s l h = tt
  int-by T T' p k (Err m) (Ok t') c s l h = absurd h
  int-by T T' p k (Ok t) (Err m') c s l h = exposed-lost (after_use T p.prov (Ok t)) p (fits_of k (pos p.address)) t ended_stop T' tt h
  int-by T T' p k (Ok t) (Ok t') c s l h =
      let U = after_use T p.prov (Ok t) in
      subst (λ (W : Table). Along ds SameFirst (exposed_to U p (fits_of k (pos p.address)) t) (exposed_to W p (fits_of k (pos p.address)) t')) (sym h.1)
      (exposed-along U p (fits_of k (pos p.address)) t t' (l.sound s) h.0 (settled-covers ds T p.prov (Ok t) c))

  pub int-along : (T : Table) (p : Pointer) (k : IntKind) → Sound F T.instances T.pairs → Allows ds T.pairs → Covers ds T.pairs → Along ds SameFirst (to_int T p k) (to_int (on_table ds T) p k)
  int-along T p k s al c = int-by T (on_table ds T) p k (use_answer T p.prov Live) (use_answer (on_table ds T) p.prov Live) c s (use-leads {F = F} T p.prov Live) (use-agrees ds T p.prov Live al)

  -- from an integer: here pairs are made
  pub pointer-along : (T : Table) (n : ℤ) → Allows ds T.pairs → Covers ds T.pairs → Along ds Equal (to_ptr T n) (to_ptr (on_table ds T) n)
  pointer-along T n al c =
      let a = address_of n in
      (ap (λ (p : Prov). record { address = a; prov = p }) (name-on ds T a), after-allows ds T a c al, after-on ds T a c, after-nearly ds T a c)

  -- loads
  pub tested-along : (T : Table) (p : Pointer) → Allows ds T.pairs → Covers ds T.pairs → Along ds SameFirst (loaded_test T p) (loaded_test (on_table ds T) p)
  tested-along T p al c = by-use ds SameFirst (live_answer p) T p.prov Live al c (λ t t'. refl) (λ m. tt)

  -- a name that was just found
  new-by : (U : Table) (p : Pointer) (r r' : Result Tried Miss) (t : Tried) → r ≡ Ok t → after_use U p.prov (Ok t) ≡ U → Allows ds U.pairs → Nearly ds U.pairs → Agree ds r (after_use U p.prov r) r' (after_use (on_table ds U) p.prov r')
      → Along ds SameFirst (live_answer p r, after_use U p.prov r) (live_answer p r', after_use (on_table ds U) p.prov r')
  new-by U p (Err m) r' t e f al n h = absurd (cc)
  new-by U p (Ok x) (Err m') t e f al n h = absurd (h (subst (λ (W : Table). Allows ds W.pairs) (sym f ∙ ap (λ q. after_use U p.prov q) (sym e)) al))
  new-by U p (Ok x) (Ok x') t e f al n h = (refl, h.0, h.1, subst (λ (W : Table). Nearly ds W.pairs) (sym f ∙ ap (λ q. after_use U p.prov q) (sym e)) n)

  new-along : (U : Table) (p : Pointer) (t : Tried) → use_answer U p.prov Live ≡ Ok t → after_use U p.prov (Ok t) ≡ U → Allows ds U.pairs → Nearly ds U.pairs → Along ds SameFirst (loaded_test U p) (loaded_test (on_table ds U) p)
  new-along U p t e f al n = new-by U p (use_answer U p.prov Live) (use_answer (on_table ds U) p.prov Live) t e f al n (use-agrees ds U p.prov Live al)

  named-along : (T : Table) (o : Option Prov) (a : ℕ) → Allows ds T.pairs → Covers ds T.pairs → Along ds SameFirst (pointer_named T o a) (pointer_named (on_table ds T) o a)
  named-along T (Some p) a al c = tested-along T (record { address = a; prov = p }) al c
  named-along T None a al c =
      let U = after_name T a in
      let p : Pointer = record { address = a; prov = name_at T a } in
      let found = name-passes T a in
      subst (λ (W : Table). Along ds SameFirst (loaded_test U p) (loaded_test W (record { address = a; prov = name_at (on_table ds T) a }))) (sym (after-on ds T a c))
      (subst (λ (x : Prov). Along ds SameFirst (loaded_test U p) (loaded_test (on_table ds U) (record { address = a; prov = x }))) (sym (name-on ds T a))
      (new-along U p found.0 found.1 found.2 (after-allows ds T a c al) (after-nearly ds T a c)))

  pointers-along : (T : Table) (bytes : List Byte) (o : Option ℕ) → Allows ds T.pairs → Covers ds T.pairs → Along ds SameFirst (pointer_of T bytes o) (pointer_of (on_table ds T) bytes o)
  pointers-along T bytes None al c = inl (refl, al)
  pointers-along T bytes (Some a) al c = named-along T (whole_name bytes) a al c

  shown-along : (T : Table) (bytes : List Byte) (v : Value × Tried) → Sound F T.instances T.pairs → Allows ds T.pairs → Covers ds T.pairs → Along ds SameFirst (Ok v, exposed_by T bytes) (Ok v, exposed_by (on_table ds T) bytes)
  shown-along T bytes v s al c =
      (refl, subst (λ ts. Allows ds ts) (sym (bytes-pairs T bytes)) al, bytes-on ds T bytes s, subst (λ ts. Nearly ds ts) (sym (bytes-pairs T bytes)) (nearly ds T.pairs c))

  integers-along : (T : Table) (k : IntKind) (bytes : List Byte) (o : Option ℕ) → Sound F T.instances T.pairs → Allows ds T.pairs → Covers ds T.pairs → Along ds SameFirst (integer_of T k bytes o) (integer_of (on_table ds T) k bytes o)
  integers-along T k bytes None s al c = either-along ds SameFirst (is_character k) _ _ _ _ (shown-along T bytes (value.Unset, empty_use) s al c) (inl (refl, al))
  integers-along T k bytes (Some n) s al c = either-along ds SameFirst (is_trap k n) _ _ _ _ tt (shown-along T bytes (value.Int (convert_of k (pos n)), empty_use) s al c)

  pub value-along : (T : Table) (bytes : List Byte) (t : Scalar) → Sound F T.instances T.pairs → Allows ds T.pairs → Covers ds T.pairs → Along ds SameFirst (value_of T bytes t) (value_of (on_table ds T) bytes t)
  value-along T bytes (scalar.Int k) s al c = integers-along T k bytes (number_in bytes) s al c
  value-along T bytes scalar.Pointer s al c = pointers-along T bytes (number_in bytes) al c
