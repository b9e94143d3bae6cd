-- A bridge: what a part of an object that the code goes to stands for.
use Rattle.std.specs.Prelude.{◌≡◌, ◌⊎◌, ℕ, ◌+◌, ◌*◌, ◌<◌, ◌≤◌, ◌^◌, ◌==◌, Bool, true, ◌&&◌, nat_le, if◌then◌else◌, length, List, Option, Some, None}
use Rattle.pv_types.specs.Ty.{Ty, ArrayOf}
use Rattle.pv_types.specs.Known.{Known, tree, env}
use Rattle.pv_types.specs.Layouts.{Part, Entry, layout_in, is_complete_in}
use Rattle.pv_unit.specs.declared.parts.Subobject.{Subobject}
use Rattle.pv_unit.specs.Parts.{can_be_initialized}

-- a part of an object (6.7.9p17) that the code goes to
abbrev pub part_of : Known → Subobject → Part
part_of m p = record { offset = p.offset; t = tree m p.t.0 }

-- it lies within the largest object; an array of unknown size is a whole object
abbrev pub fits : List Entry → ℕ → Ty → Bool
fits env o t = if is_complete_in env t then nat_le (o + (layout_in env t).size) (2 ^ 32) else (can_be_initialized env t && (o == 0))

-- a part of an object (6.7.9p17) that is in the table of types
pub record IsPart (m : Known) (p : Subobject) : Type 0 where
  pub known : p.t.0 < length m.terms
  pub fits : fits (env m) p.offset (tree m p.t.0) ≡ true

-- a part of complete type (6.7.9p3), within the largest object
pub record IsInner (m : Known) (p : Subobject) : Type 0 where
  pub known : p.t.0 < length m.terms
  pub complete : is_complete_in (env m) (tree m p.t.0) ≡ true
  pub end : p.offset + (layout_in (env m) (tree m p.t.0)).size ≤ 2 ^ 32

-- the same, where there is a part (6.7.9p17)
abbrev pub IsInnerIf : Known → Option Subobject → Type 0
IsInnerIf m None = Unit {0}
IsInnerIf m (Some p) = IsInner m p

-- so many elements of this size lie within the largest object; an array of unknown size is a whole object
abbrev pub HasRoom : (size offset : ℕ) → Option ℕ → Type 0
HasRoom size offset None = (size ≤ 2 ^ 32) × (offset ≡ 0)
HasRoom size offset (Some n) = (0 < n) × (offset + n * size ≤ 2 ^ 32)

-- no more than one element of an array of unknown size, or no more than lie within the largest object
abbrev pub HasSpace : List Entry → Ty → ℕ → Type 0
HasSpace env (ArrayOf t None) n = (n ≤ 1) ⊎ (n * (layout_in env t).size ≤ 2 ^ 32)
HasSpace env t n = Unit {0}

-- the same, where so many parts of the type have initializers (6.7.9p22)
abbrev pub HasSpaceIf : List Entry → Ty → Option ℕ → Type 0
HasSpaceIf env t None = Unit {0}
HasSpaceIf env t (Some n) = HasSpace env t n
