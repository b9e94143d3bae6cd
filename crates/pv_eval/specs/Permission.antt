-- Which accesses the effective type of an object permits (C17 6.5p6, 6.5p7).
use Rattle.std.specs.Prelude.{ℕ, Bool, false, ◌||◌, List, Option, Some, None, map, if◌then◌else◌}
use Rattle.pv_types.specs.Ty.{Ty}
use Rattle.pv_types.specs.Layouts.{Part, layout_in}
use Rattle.pv_effect.specs.EffectiveType.{permits_declared, permits_marks}
use Rattle.pv_types.specs.Sorts.{is_character}
use Rattle.pv_inst.specs.declared.values.Instance.{Instance}
use Rattle.pv_inst.specs.declared.values.Kind.{Kind}
use Rattle.pv_inst.specs.declared.values.Kind.TheVariants.{Declared, Literal, Heap, Function}
use Rattle.pv_inst.specs.Table.{instance_at}
use Rattle.pv_shadow.specs.declared.byte.Byte.{Byte}
use Rattle.pv_shadow.specs.Bytes.{bytes_from}
use Rattle.pv_object.specs.declared.values.Reach.{Reach}
use Rattle.pv_typed.specs.TypedUnits.{layouts, object_at}
use Rattle.pv_world.specs.Worlds.{World}
use Rattle.pv_world.specs.Objects.{owner_of}
use Rattle.pv_eval.specs.States.{Setting}
use Rattle.pv_eval.specs.TypeForms.{Lvalue}
use Rattle.pv_eval.specs.Objects.{has_extent}

-- 6.5p6, footnote 88: the effective type of a declared object is its declared type, here as the parts that it has
abbrev pub parts_of : Setting → Ty → List Part
parts_of b t = (layout_in (layouts b.unit) t).parts

-- 6.7p7: which is complete
abbrev pub type_by : Setting → Option ℕ → Option Ty
type_by b None = None
type_by b (Some o) = if has_extent b (object_at b.unit o).t then Some (object_at b.unit o).t else None

-- 6.5p7: an access at this offset of an object with this declared type; where there is no such object, at a character type alone
abbrev pub permits_object : Setting → Option Ty → (offset : ℕ) → Ty → Bool
permits_object b None offset want = is_character want
permits_object b (Some t) offset want = permits_declared (parts_of b t) offset want

-- 6.5p7: by the kind of the instance: a literal is an array of `char` (6.4.5p6); a write into an allocation makes its effective type (6.5p6)
abbrev pub permits_in : Setting → World → Lvalue → Reach → (writes : Bool) → Kind → Bool
permits_in b w l at writes (Declared constant) = permits_object b (type_by b (owner_of w at.inst)) at.offset l.t
permits_in b w l at writes Literal = is_character l.t
-- 6.2.5p1: a function is no object: no access comes to it
permits_in b w l at writes Function = false
permits_in b w l at writes Heap = writes || permits_marks b.types (parts_of b l.t) (map (λ (x : Byte). x.mark) (bytes_from w.memory.bytes at.address l.size))

-- 6.5p7: the instance that was reached is there, and its kind permits the access
abbrev pub permits_row : Setting → World → Lvalue → Reach → (writes : Bool) → Option Instance → Bool
permits_row b w l at writes None = false
permits_row b w l at writes (Some x) = permits_in b w l at writes x.kind

-- 6.5p7: the object's effective type permits the access
abbrev pub permits : Setting → World → Lvalue → Reach → (writes : Bool) → Bool
permits b w l at writes = permits_row b w l at writes (instance_at w.memory.table.instances at.inst)
