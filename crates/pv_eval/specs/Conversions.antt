-- Which conversion leads from a type to a type (C17 6.3).
use Rattle.std.specs.Prelude.{Bool, true, false, ◌&&◌, List, if◌then◌else◌}
use Rattle.pv_num.specs.declared.kinds.IntKind.{IntKind}
use Rattle.pv_num.specs.declared.kinds.IntKind.TheVariants as kind
use Rattle.pv_types.specs.Ty.{Ty}
use Rattle.pv_types.specs.Layouts.{Entry}
use Rattle.pv_num.specs.Kinds.{is_character_kind}
use Rattle.pv_world.specs.declared.got.Shape.{Shape}
use Rattle.pv_world.specs.declared.got.Shape.TheVariants as shape
use Rattle.pv_world.specs.declared.got.How.{How}
use Rattle.pv_world.specs.declared.got.How.TheVariants.{Rounds, Passes, Tests, Numbers, Points, Recasts, Voids}
use Rattle.pv_eval.specs.States.{Setting}
use Rattle.pv_typed.specs.TypedUnits.{layouts}
use Rattle.pv_eval.specs.TypeForms.{shape_of, pointed_to, alignment_by}

-- 6.3.1.2, 6.3.1.3, 6.3.2.3p6: to an integer type
abbrev pub how_to_int : (implied : Bool) → Shape → IntKind → How
how_to_int true (shape.Int j) k = if is_character_kind j && is_character_kind k then Passes k else Rounds k
how_to_int false (shape.Int j) k = Rounds k
how_to_int implied shape.Pointer kind.Bool = Tests
how_to_int implied shape.Pointer k = Numbers k
how_to_int implied shape.Whole k = Rounds k

-- 6.3.2.3p5, p7: to a type of pointers to this one
abbrev pub how_to_pointer : List Entry → Shape → Ty → How
how_to_pointer env shape.Pointer t = Recasts (alignment_by env t)
how_to_pointer env _ t = Points

-- 6.3: by how values of the two types look, and what the second one points to. 6.3.2.2: to any other type a value is given up
abbrev pub how_by : List Entry → (implied : Bool) → (from to : Shape) → (pointee : Ty) → How
how_by env implied from (shape.Int k) t = how_to_int implied from k
how_by env implied from shape.Pointer t = how_to_pointer env from t
how_by env implied from shape.Whole t = Voids

-- 6.3p1, 6.5.4p5: from this type to that one, implied or by a cast
abbrev pub how_to : Setting → (implied : Bool) → (from to : Ty) → How
how_to b implied from to = how_by (layouts b.unit) implied (shape_of from) (shape_of to) (pointed_to to)
