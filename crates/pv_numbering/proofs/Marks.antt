-- Abstract bytes in two runs of one unit, whose types have other numbers: they differ in the numbers of their marks alone (C17 6.5p6).
use Rattle.std.specs.Prelude.{◌≡◌, ℕ, List, [], ◌∷◌, Option, Some, None}
use Rattle.std.specs.FinMap.{get}
use Rattle.pv_types.specs.Ty.{Ty}
use Rattle.pv_types.specs.Known.{Known}
use Rattle.pv_effect.specs.EffectiveType.{accepts}
use Rattle.pv_shadow.specs.declared.byte.Byte.{Byte}
use Rattle.pv_shadow.specs.Bytes.{Store}

-- 6.5p7: each scalar type accepts both marks, or none of them, each mark by its own table of types
abbrev pub AcceptedAlike : (m m' : Known) → (x x' : ℕ × ℕ) → Type 0
AcceptedAlike m m' x x' = (j : ℕ) (t : Ty) → accepts m' x' j t ≡ accepts m x j t

-- 6.5p6: a byte has a mark in both, or in none
abbrev pub AlikeMarks : (m m' : Known) → Option (ℕ × ℕ) → Option (ℕ × ℕ) → Type 0
AlikeMarks m m' None None = Unit {0}
AlikeMarks m m' (Some x) (Some x') = AcceptedAlike m m' x x'
AlikeMarks m m' None (Some x') = ⊥
AlikeMarks m m' (Some x) None = ⊥

-- the memory model: two abstract bytes that differ in their marks alone, which are alike
pub record AlikeByte (m m' : Known) (x x' : Byte) : Type 0 where
  pub value : x'.value ≡ x.value
  pub prov : x'.prov ≡ x.prov
  pub index : x'.index ≡ x.index
  pub mark : AlikeMarks m m' x.mark x'.mark

-- 6.2.6.1p2: the same of bytes in a row
abbrev pub AlikeBytes : (m m' : Known) → List Byte → List Byte → Type 0
AlikeBytes m m' [] [] = Unit {0}
AlikeBytes m m' (x ∷ xs) (x' ∷ xs') = AlikeByte m m' x x' × AlikeBytes m m' xs xs'
AlikeBytes m m' [] (x' ∷ xs') = ⊥
AlikeBytes m m' (x ∷ xs) [] = ⊥

-- the memory model: an address has a byte in both, or in none
abbrev pub AlikeAt : (m m' : Known) → Option Byte → Option Byte → Type 0
AlikeAt m m' None None = Unit {0}
AlikeAt m m' (Some x) (Some x') = AlikeByte m m' x x'
AlikeAt m m' None (Some x') = ⊥
AlikeAt m m' (Some x) None = ⊥

-- the memory model: two maps of bytes
abbrev pub AlikeStores : (m m' : Known) → Store → Store → Type 0
AlikeStores m m' b b' = (a : ℕ) → AlikeAt m m' (get b a) (get b' a)
