-- A bridge: the same questions to the tables of a unit alone.
use Rattle.std.specs.Prelude.{◌≡◌, ℕ, Bool, ◌<◌, ◌≤◌, ◌^◌, IsTrue, length, None, true, false}
use Rattle.pv_types.specs.Ty.{Ty, PointerTo}
use Rattle.pv_types.specs.Known.{Known, tree, env}
use Rattle.pv_types.specs.Layouts.{layout_in, is_complete_in}
use Rattle.pv_types.specs.Sorts.{bare_type}
use Rattle.pv_typed.specs.Tables.{Stored, whole_unit}
use Rattle.pv_world.specs.declared.got.How.{How}
use Rattle.pv_eval.specs.declared.types.Complete.{Complete}
use Rattle.pv_eval.specs.States.{Setting}
use Rattle.pv_eval.specs.TypeForms.{number_of, shape_of, pointed_to, alignment_by}
use Rattle.pv_eval.specs.Conversions.{how_by}

-- what operations look at in the setting of a run of the unit: neither the bound nor the sides
abbrev pub setting_of : Stored → Setting
setting_of u = record { unit = whole_unit u; types = u.known; bound = 0; sides = None; zap = true }

-- 6.5.3.4p2: the size of a type, by the table of types
abbrev pub size_in : Known → Ty → ℕ
size_in m t = (layout_in (env m) t).size

-- 6.3.2.3p7: its alignment, 1 where it is incomplete
abbrev pub align_in : Known → Ty → ℕ
align_in m t = alignment_by (env m) t

-- 6.5p6: its number, qualifiers aside
abbrev pub number_in : Known → Ty → ℕ
number_in m t = number_of m (bare_type t)

-- 6.5.6p8: the size of what it points to
abbrev pub element_in : Known → Ty → ℕ
element_in m t = size_in m (pointed_to t)

-- 6.3.2.3p7: the alignment of what it points to
abbrev pub alignment_in : Known → Ty → ℕ
alignment_in m t = alignment_by (env m) (pointed_to t)

-- 6.3: which conversion leads from a type to a type
abbrev pub how_in : Known → (implied : Bool) → (from to : Ty) → How
how_in m implied from to = how_by (env m) implied (shape_of from) (shape_of to) (pointed_to to)

-- 6.2.5p1: a complete object type of at most 2 ^ 32 bytes
pub record IsComplete (m : Known) (l : Complete) : Type 0 where
  pub known : l.t.0 < length m.terms
  pub complete : IsTrue (is_complete_in (env m) (tree m l.t.0))
  pub size : l.size ≡ size_in m (tree m l.t.0)
  pub small : size_in m (tree m l.t.0) ≤ 2 ^ 32
  pub some : 1 ≤ l.size

-- 6.2.5p20: a pointer type without qualifiers
abbrev pub points : Ty → Bool
points (PointerTo t) = true
points _ = false
