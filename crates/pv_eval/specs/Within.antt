-- Lvalues of a unit's types, and parts of values that are taken out (C17 6.3.2.1p1, 6.5.2.3p3): bridges to the code.
use Rattle.std.specs.Prelude.{◌≡◌, ℕ, List, Result}
use Rattle.pv_types.specs.declared.terms.TypeId.{TypeId}
use Rattle.pv_types.specs.Ty.{Ty}
use Rattle.pv_types.specs.Known.{Known, tree}
use Rattle.pv_typed.specs.Tables.{Stored}
use Rattle.pv_watch.specs.declared.event.What.{What}
use Rattle.pv_world.specs.declared.got.Got.{Got}
use Rattle.pv_world.specs.declared.got.Failure.{Failure}
use Rattle.pv_world.specs.Worlds.{Worth, World}
use Rattle.pv_world.specs.Coming.{Did, worth_of}
use Rattle.pv_eval.specs.States.{Setting}
use Rattle.pv_eval.specs.TypeForms.{Lvalue, lvalue, shape_of}
use Rattle.pv_eval.specs.Sizes.{setting_of, size_in}
use Rattle.pv_eval.specs.Operations.{TakesPart, does}

-- 6.3.2.1p1: the lvalue of a type of the unit
abbrev pub lvalue_in : Stored → TypeId → Lvalue
lvalue_in u t = lvalue (setting_of u) (tree u.known t.0)

-- 6.5.2.3p3: a member of this type is taken out of a value
abbrev pub PartTaken : Known → Ty → (offset : ℕ) → Worth → Result Got Failure → (old new : World) → (before after : List What) → Type 0
PartTaken m t offset v r old new es fs =
    (b : Setting) (l : Lvalue) → l.size ≡ size_in m t → l.shape ≡ shape_of t → Did worth_of (does b (TakesPart offset l v)) r old new es fs
