-- What bytes are worth rests on their values, names and indices alone, and what a value is stored as has the marks of the store (C17 6.2.6.1, 6.5p6).
use Rattle.std.proofs.Common.{◌≡◌, ℕ, ◌+◌, ◌&&◌, ◌/◌, List, [], ◌∷◌, Option, Some, None, Ok, Err, pos, option_map, option_and_then, if◌then◌else◌, refl, ap, ◌∙◌}
use Rattle.pv_num.specs.declared.kinds.IntKind.{IntKind}
use Rattle.pv_num.specs.Kinds.{convert_of, width, bits_of, is_character_kind as is_character}
use Rattle.pv_fault.specs.declared.faults.Clause.TheVariants as clause
use Rattle.pv_fault.specs.declared.faults.Reason.TheVariants as reason
use Rattle.pv_prov.specs.declared.names.Prov.{Prov}
use Rattle.pv_prov.specs.Names.{same_name}
use Rattle.pv_inst.specs.Table.{Table}
use Rattle.pv_inst.specs.Use.{empty_use}
use Rattle.pv_inst.specs.Exposure.{expose}
use Rattle.pv_types.specs.Known.{Known}
use Rattle.pv_shadow.specs.declared.byte.Byte.{Byte}
use Rattle.pv_shadow.specs.Whole.{values_of, number_of, has_index, is_whole, whole_name, little_endian, number_in}
use Rattle.pv_object.specs.declared.values.Scalar.{Scalar}
use Rattle.pv_object.specs.declared.values.Scalar.TheVariants as scalar
use Rattle.pv_object.specs.declared.values.Value.{Value}
use Rattle.pv_object.specs.declared.values.Value.TheVariants as value
use Rattle.pv_object.specs.declared.values.Stop.TheVariants.{Ends}
use Rattle.pv_fault.specs.declared.verdict.Verdict.TheVariants.{Indeterminate}
use Rattle.pv_object.specs.Encoding.{encode}
use Rattle.pv_object.specs.Access.{fault}
use Rattle.pv_object.specs.Loading.{exposed_by, pointer_named, pointer_of, is_trap, integer_of, value_of}
use Rattle.pv_numbering.proofs.Marks.{AlikeBytes}
use Rattle.pv_numbering.proofs.Bytes.{AlikeNumbers, alike_plain, alike_pointed}

module _ (m m' : Known) where
  values-same : (xs xs' : List Byte) → AlikeBytes m m' xs xs' → values_of xs' ≡ values_of xs
  values-same [] [] h = refl
  values-same (x ∷ xs) (x' ∷ xs') h = λ i. option_and_then (λ v. option_map (λ vs. v ∷ vs) (values-same xs xs' h.1 i)) (h.0.value i)
  values-same [] (x' ∷ xs') h = absurd h
  values-same (x ∷ xs) [] h = absurd h

  number-same : (xs xs' : List Byte) → AlikeBytes m m' xs xs' → number_in xs' ≡ number_in xs
  number-same xs xs' h = ap (option_map number_of) (values-same xs xs' h)

  is_whole-same : (p : Prov) (j : ℕ) (xs xs' : List Byte) → AlikeBytes m m' xs xs' → is_whole p j xs' ≡ is_whole p j xs
  is_whole-same p j [] [] h = refl
  is_whole-same p j (x ∷ xs) (x' ∷ xs') h = λ i. (same_name (h.0.prov i) p && has_index (h.0.index i) j) && is_whole-same p (j + 1) xs xs' h.1 i
  is_whole-same p j [] (x' ∷ xs') h = absurd h
  is_whole-same p j (x ∷ xs) [] h = absurd h

  pub whole_name-same : (xs xs' : List Byte) → AlikeBytes m m' xs xs' → whole_name xs' ≡ whole_name xs
  whole_name-same [] [] h = refl
  whole_name-same (x ∷ xs) (x' ∷ xs') h =
      ap (λ p. if is_whole p 0 (x' ∷ xs') then Some p else None) h.0.prov
      ∙ ap (λ c. if c then Some x.prov else None) (is_whole-same x.prov 0 (x ∷ xs) (x' ∷ xs') h)
  whole_name-same [] (x' ∷ xs') h = absurd h
  whole_name-same (x ∷ xs) [] h = absurd h

  exposed-same : (T : Table) (xs xs' : List Byte) → AlikeBytes m m' xs xs' → exposed_by T xs' ≡ exposed_by T xs
  exposed-same T [] [] h = refl
  exposed-same T (x ∷ xs) (x' ∷ xs') h = ap (λ p. exposed_by (expose T p) xs') h.0.prov ∙ exposed-same (expose T x.prov) xs xs' h.1
  exposed-same T [] (x' ∷ xs') h = absurd h
  exposed-same T (x ∷ xs) [] h = absurd h

  integer-same : (T : Table) (k : IntKind) (xs xs' : List Byte) (o : Option ℕ) → AlikeBytes m m' xs xs' → integer_of T k xs' o ≡ integer_of T k xs o
  integer-same T k xs xs' None h = λ i. if is_character k then (Ok (value.Unset, empty_use), exposed-same T xs xs' h i) else (Err (Ends Indeterminate), T)
  integer-same T k xs xs' (Some n) h = λ i.
      if is_trap k n then (Err (fault clause.Traps reason.Trap), T) else (Ok (value.Int (convert_of k (pos n)), empty_use), exposed-same T xs xs' h i)

  pointer-same : (T : Table) (xs xs' : List Byte) (o : Option ℕ) → AlikeBytes m m' xs xs' → pointer_of T xs' o ≡ pointer_of T xs o
  pointer-same T xs xs' None h = refl
  pointer-same T xs xs' (Some a) h = ap (λ n. pointer_named T n a) (whole_name-same xs xs' h)

  pub value-same : (T : Table) (s : Scalar) (xs xs' : List Byte) → AlikeBytes m m' xs xs' → value_of T xs' s ≡ value_of T xs s
  value-same T (scalar.Int k) xs xs' h = ap (integer_of T k xs') (number-same xs xs' h) ∙ integer-same T k xs xs' (number_in xs) h
  value-same T scalar.Pointer xs xs' h = ap (pointer_of T xs') (number-same xs xs' h) ∙ pointer-same T xs xs' (number_in xs) h

  pub alike_encode : (s : Scalar) (v : Value) (o o' : Option ℕ) → AlikeNumbers m m' o o' → AlikeBytes m m' (encode s v o) (encode s v o')
  alike_encode (scalar.Int k) (value.Int n) o o' h = alike_plain m m' o o' 0 (little_endian (width k / 8) (bits_of k n)) h
  alike_encode (scalar.Int k) value.Unset None None h = (record { value = refl; prov = refl; index = refl; mark = tt }, tt)
  alike_encode (scalar.Int k) value.Unset (Some n) (Some n') h = (record { value = refl; prov = refl; index = refl; mark = h 0 }, tt)
  alike_encode (scalar.Int k) value.Unset None (Some n') h = absurd h
  alike_encode (scalar.Int k) value.Unset (Some n) None h = absurd h
  alike_encode (scalar.Int k) (value.Pointer p) o o' h = tt
  alike_encode scalar.Pointer (value.Pointer p) o o' h = alike_pointed m m' o o' p.prov 0 (little_endian 8 p.address) h
  alike_encode scalar.Pointer (value.Int n) o o' h = tt
  alike_encode scalar.Pointer value.Unset o o' h = tt
