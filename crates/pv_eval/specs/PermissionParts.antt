-- A bridge: what functions answer that do a part of what Permission says.
use Rattle.pv_shadow.specs.declared.byte.Byte.{Byte}
use Rattle.std.specs.Prelude.{List, Option, map, ℕ}
use Rattle.pv_eval.specs.States.{Setting}
use Rattle.pv_types.specs.Ty.{Ty}
use Rattle.pv_world.specs.Worlds.{World}
use Rattle.pv_world.specs.Objects.{owner_of}
use Rattle.pv_eval.specs.Permission.{type_by}

-- by which types the bytes of an allocation were stored
abbrev pub marks_of : List Byte → List (Option (ℕ × ℕ))
marks_of bytes = map (λ (x : Byte). x.mark) bytes

-- the declared type of an instance is that of the object that it was made for
abbrev pub type_of_instance : Setting → World → ℕ → Option Ty
type_of_instance b w i = type_by b (owner_of w i)
