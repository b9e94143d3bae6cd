-- What operations on pointers and loads give is of its type, with names that were made (C17 6.3.2.3, 6.5.6, 6.2.6.1).
use Rattle.std.proofs.Common.{◌≡◌, ℕ, ◌+◌, ◌<◌, ◌≤◌, ◌^◌, ℤ, pos, negsuc, Bool, true, false, ◌||◌, cond, List, length, Option, Some, None, Result, Ok, Err, refl, sym, arith}
use Rattle.std.proofs.lemmas.Bool.{false≢true}
use Rattle.std.proofs.lemmas.Option.{none-some}
use Rattle.pv_num.specs.declared.kinds.IntKind.{IntKind}
use Rattle.pv_fault.specs.declared.faults.Clause.{Clause}
use Rattle.pv_num.specs.Kinds.{convert_of, is_character_kind as is_character}
use Rattle.pv_num.proofs.Congruence.{equal_fits}
use Rattle.pv_prov.specs.declared.names.Prov.{Prov}
use Rattle.pv_prov.specs.declared.names.Stands.{Stands}
use Rattle.pv_prov.specs.Names.{is_empty, stands}
use Rattle.pv_inst.specs.declared.values.Instance.{Instance}
use Rattle.pv_inst.specs.declared.values.Test.TheVariants.{Live, Range}
use Rattle.pv_inst.specs.declared.values.Tried.{Tried}
use Rattle.pv_inst.specs.declared.values.Miss.{Miss}
use Rattle.pv_inst.specs.Table.{Table, instance_at, IsMadeIn}
use Rattle.pv_inst.specs.Use.{use_answer, after_use}
use Rattle.pv_inst.specs.Finding.{name_at, after_name}
use Rattle.pv_inst.specs.TwoPointers.{same_miss, miss_of_two, same_by, same_answer}
use Rattle.pv_shadow.specs.declared.byte.Byte.{Byte}
use Rattle.pv_shadow.specs.Whole.{whole_name, number_in}
use Rattle.pv_object.specs.declared.values.Pointer.{Pointer}
use Rattle.pv_object.specs.declared.values.Scalar.{Scalar}
use Rattle.pv_object.specs.declared.values.Scalar.TheVariants as scalar
use Rattle.pv_object.specs.declared.values.Stop.{Stop}
use Rattle.pv_object.specs.Values.{IsOf}
use Rattle.pv_object.specs.Encoding.{size_of}
use Rattle.pv_object.specs.Access.{is_null}
use Rattle.pv_object.specs.Loading.{Loaded, pointer_named, pointer_of, is_trap, integer_of, value_of}
use Rattle.pv_object.specs.OperationParts.{live_answer, moved_by, address_on, both_or_stop}
use Rattle.pv_object.specs.Operations.{address_of, move_under, together}
use Rattle.pv_object.proofs.Later.{made_later, settled_later}
use Rattle.pv_typed.specs.Known.{Each}
use Rattle.pv_guards.specs.Fair.{IsFair, IsFairPointer, IsFairValue}
use Rattle.pv_guards.proofs.Fair.{number-small, whole-fair}
use Rattle.pv_guards.proofs.Found.{name-fair, range-low}

-- a pointer with an address, whose name was made in the table that is left
abbrev pub IsPointing : Table → Pointer → Type 0
IsPointing T p = (p.address < 2 ^ 64) × IsFairPointer T p

-- where a load answers, its value is of the type
abbrev pub Loads : Scalar → Loaded → Type 0
Loads t (Ok r, T) = IsOf t r.0 × IsFairValue T r.0
Loads t (Err y, T) = Unit {0}

-- where an operation on a pointer answers, it is one
abbrev pub Points : Result (Pointer × Tried) Stop × Table → Type 0
Points (Ok r, T) = IsPointing T r.0
Points (Err y, T) = Unit {0}

-- a name is used
pub settled-made : (T : Table) (p q : Prov) (r : Result Tried Miss) → IsMadeIn T q → IsMadeIn (after_use T p r) q
settled-made T p q r h = made_later T (after_use T p r) q (settled_later T p r) h

address-small : (n : ℤ) → address_of n < 2 ^ 64
address-small (pos a) = omega arith
address-small (negsuc a) = omega arith

low-small : (a : ℕ) → a < 2 ^ 48 → a < 2 ^ 64
low-small a h = omega (arith, h)

module _ (T : Table) (within : (i : ℕ) (x : Instance) → instance_at T.instances i ≡ Some x → x.base + x.size ≤ 2 ^ 47) where
  -- loads
  loads-if : (t : Scalar) (c : Bool) (x y : Loaded) → (c ≡ true → Loads t x) → Loads t y → Loads t (cond c x y)
  loads-if t true x y h g = h refl
  loads-if t false x y h g = g

  integer-loads : (k : IntKind) (bytes : List Byte) (o : Option ℕ) → Loads (scalar.Int k) (integer_of T k bytes o)
  integer-loads k bytes None = loads-if (scalar.Int k) (is_character k) _ _ (λ e. (e, tt)) tt
  integer-loads k bytes (Some n) = loads-if (scalar.Int k) (is_trap k n) _ _ (λ e. tt) (equal_fits k (pos n) (convert_of k (pos n)) refl refl, tt)

  live-loads : (U : Table) (p : Pointer) (r : Result Tried Miss) → IsPointing U p → Loads scalar.Pointer (live_answer p r, after_use U p.prov r)
  live-loads U p (Ok tried) h = (h.0, (settled-made U p.prov p.prov (Ok tried) h.1.0, h.1.1))
  live-loads U p (Err m) h = tt

  named-loads : (o : Option Prov) (bytes : List Byte) (a : ℕ) → whole_name bytes ≡ o → length bytes ≡ 8 → Each (IsFair T) bytes → number_in bytes ≡ Some a → Loads scalar.Pointer (pointer_named T o a)
  named-loads (Some p) bytes a e l h f =
      live-loads T (record { address = a; prov = p }) (use_answer T p Live) (number-small T bytes a l h f, whole-fair T bytes p a h e f)
  named-loads None bytes a e l h f =
      live-loads (after_name T a) (record { address = a; prov = name_at T a }) (use_answer (after_name T a) (name_at T a) Live) (number-small T bytes a l h f, name-fair T within a)

  pointer-loads : (bytes : List Byte) (o : Option ℕ) → number_in bytes ≡ o → length bytes ≡ 8 → Each (IsFair T) bytes → Loads scalar.Pointer (pointer_of T bytes o)
  pointer-loads bytes None e l h = tt
  pointer-loads bytes (Some a) e l h = named-loads (whole_name bytes) bytes a refl l h e

  pub value-loads : (t : Scalar) (bytes : List Byte) → length bytes ≡ size_of t → Each (IsFair T) bytes → Loads t (value_of T bytes t)
  value-loads (scalar.Int k) bytes l h = integer-loads k bytes (number_in bytes)
  value-loads scalar.Pointer bytes l h = pointer-loads bytes (number_in bytes) refl l h

  -- 6.3.2.3p5: an integer that is converted
  pub ptr-points : (n : ℤ) → IsPointing (after_name T (address_of n)) (record { address = address_of n; prov = name_at T (address_of n) })
  ptr-points n = (address-small n, name-fair T within (address_of n))

  -- 6.5.6p8: a pointer that is moved
  moved-points : (c : Clause) (p : Pointer) (a : ℕ) (r : Result Tried Miss) → use_answer T p.prov (Range a 0) ≡ r → IsMadeIn T p.prov → Points (moved_by c p a r, after_use T p.prov r)
  moved-points c p a (Err m) e h = tt
  moved-points c p a (Ok tried) e h =
      let l = range-low T within p.prov a 0 tried e in
      (low-small a l, (settled-made T p.prov p.prov (Ok tried) h, λ q. l))

  points-if : (b : Bool) (w v : Result (Pointer × Tried) Stop × Table) → Points w → Points v → Points (cond b w v)
  points-if true w v h g = h
  points-if false w v h g = g

  pub move-points : (c : Clause) (p : Pointer) (by : ℤ) → IsMadeIn T p.prov → Points (move_under c T p by)
  move-points c p by h =
      points-if (is_null p) _ _ tt
      (points-if (is_empty p.prov) _ _ tt (moved-points c p (address_on p.address by) (use_answer T p.prov (Range (address_on p.address by) 0)) refl h))

  -- 6.5.6p9: two pointers that are settled to what they have in common have names
  if-none : (c : Bool) (m : Miss) (o : Option Miss) → cond c (Some m) o ≡ None → c ≡ false
  if-none true m o e = absurd (none-some m (sym e))
  if-none false m o e = refl

  or-left : (a b : Bool) → (a || b) ≡ false → a ≡ false
  or-left true b e = e
  or-left false b e = refl

  or-right : (a b : Bool) → (a || b) ≡ false → b ≡ false
  or-right true b e = absurd (false≢true (sym e))
  or-right false b e = e

  two-named : (p q : Prov) (s r : Stands) → miss_of_two T.instances p q s r ≡ None → (is_empty p ≡ false) × (is_empty q ≡ false)
  unfolding miss_of_two
  two-named p q s r e =
      let f = if-none (is_empty p || is_empty q) _ _ e in
      (or-left (is_empty p) (is_empty q) f, or-right (is_empty p) (is_empty q) f)

  same-named : (p q : Prov) (o : Option Miss) (both : Tried × Tried) → same_miss T p q ≡ o → same_by o T p q ≡ Ok both → (is_empty p ≡ false) × (is_empty q ≡ false)
  same-named p q (Some m) both e f = absurd cc
  same-named p q None both e f = two-named p q (stands T.pairs p) (stands T.pairs q) e

  or-named : (c : Clause) (p q : Prov) (r : Result (Tried × Tried) Miss) (both : Tried × Tried) → same_answer T p q ≡ r → both_or_stop c r ≡ Ok both → (is_empty p ≡ false) × (is_empty q ≡ false)
  or-named c p q (Ok x) both e f = same-named p q (same_miss T p q) x refl e
  or-named c p q (Err m) both e f = absurd cc

  together-by : (b : Bool) (c : Clause) (p q : Prov) (y : Stop) (U V : Table) (both : Tried × Tried) → (cond {A = Result (Tried × Tried) Stop × Table} b (Err y, U) (both_or_stop c (same_answer T p q), V)).0 ≡ Ok both → (is_empty p ≡ false) × (is_empty q ≡ false)
  together-by true c p q y U V both e = absurd cc
  together-by false c p q y U V both e = or-named c p q (same_answer T p q) both refl e

  pub together-named : (c : Clause) (p q : Pointer) (both : Tried × Tried) → (together c T p q).0 ≡ Ok both → (is_empty p.prov ≡ false) × (is_empty q.prov ≡ false)
  together-named c p q both e = together-by (is_null p || is_null q) c p.prov q.prov _ _ _ both e
