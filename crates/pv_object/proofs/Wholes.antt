-- A pointer that was stored whole: what its bytes are.
use Rattle.std.proofs.Common.{◌≡◌, ℕ, List, Option, Some, None, sym, ap, ◌∙◌, All, unwrap_or}
use Rattle.std.specs.Option.{option_map, option_and_then}
use Rattle.std.proofs.lemmas.Option.{none-some}
use Rattle.pv_prov.specs.declared.names.Prov.{Prov}
use Rattle.pv_inst.specs.Table.{Table}
use Rattle.pv_shadow.specs.declared.byte.Byte.{Byte}
use Rattle.pv_shadow.specs.Whole.{whole_name, number_in}
use Rattle.pv_shadow.specs.Readings.{pointer_in}
use Rattle.pv_object.specs.declared.values.Pointer.{Pointer}
use Rattle.pv_object.specs.declared.values.Scalar.TheVariants as scalar
use Rattle.pv_object.specs.Loading.{value_of, pointer_of, pointer_named, loaded_test}
use Rattle.pv_object.specs.Loads.{whole_pointer}
use Rattle.pv_object.proofs.Contents.{whole_made}

-- an address and a name are a pointer
abbrev pub named : ℕ × Prov → Pointer
named x = record { address = x.0; prov = x.1 }

pub whole_is : (bytes : List Byte) (a : ℕ) (p : Prov) → Some (a, p) ≡ pointer_in bytes → Some (record { address = a; prov = p }) ≡ whole_pointer bytes
whole_is bytes a p e = ap (option_map named) e

pub none_is : (bytes : List Byte) → None ≡ pointer_in bytes → None ≡ whole_pointer bytes
none_is bytes e = ap (option_map named) e

parts_by : (n : Option ℕ) (w : Option Prov) (q : Pointer) → Some q ≡ option_map named (option_and_then (λ a. option_map (λ p. (a, p)) w) n) → (n ≡ Some q.address) × (w ≡ Some q.prov)
parts_by None w q e = absurd (none-some q (sym e))
parts_by (Some n) None q e = absurd (none-some q (sym e))
parts_by (Some n) (Some w) q e =
    let f : Option Pointer → Pointer = λ o. unwrap_or o q in
    let k : q ≡ named (n, w) = ap f e in
    (ap (λ (x : Pointer). Some x.address) (sym k), ap (λ (x : Pointer). Some x.prov) (sym k))

-- its bytes have values, which are its address, and one name, which is its own
pub whole_parts : (bytes : List Byte) (q : Pointer) → Some q ≡ whole_pointer bytes → (number_in bytes ≡ Some q.address) × (whole_name bytes ≡ Some q.prov)
whole_parts bytes q e = parts_by (number_in bytes) (whole_name bytes) q e

-- the name was made, where those of the bytes were
pub pointer_made : (P : Prov → Type 0) (bytes : List Byte) (q : Pointer) → All (λ (x : Byte). P x.prov) bytes → Some q ≡ whole_pointer bytes → P q.prov
pointer_made P bytes q all e = whole_made P bytes q.prov all (sym (whole_parts bytes q e).1)

-- a load of the bytes is the live test of the pointer
pub whole_load : (T : Table) (bytes : List Byte) (q : Pointer) → Some q ≡ whole_pointer bytes → value_of T bytes scalar.Pointer ≡ loaded_test T q
whole_load T bytes q e = let k = whole_parts bytes q e in ap (pointer_of T bytes) k.0 ∙ ap (λ o. pointer_named T o q.address) k.1
