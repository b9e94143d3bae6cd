-- Arguments of a call of the library, as it looks at them (C17 7.21.6.1p8).
use Rattle.std.specs.Prelude.{if◌then◌else◌}
use Rattle.pv_types.specs.Ty.{Ty, VoidTy, IntTy, PointerTo, ConstOf}
use Rattle.pv_types.specs.Sorts.{is_character}
use Rattle.pv_typed.specs.TypedTree.{TypedTree, type_of}
use Rattle.pv_libc.specs.declared.values.Arg.{Arg}
use Rattle.pv_libc.specs.declared.values.Shape.{Shape}
use Rattle.pv_libc.specs.declared.values.Shape.TheVariants as shape
use Rattle.pv_world.specs.Worlds.{Worth}
use Rattle.pv_world.specs.Worths.{value_of}

-- 7.21.6.1p8: what a pointer points to, qualifiers aside: a character type, `void`, or another one
abbrev pub shape_to : Ty → Shape
shape_to VoidTy = shape.Void
shape_to (ConstOf t) = shape_to t
shape_to t = if is_character t then shape.Text else shape.Other

-- 7.21.6.1p8: an argument's type, as a conversion of the format asks for it
abbrev pub argument_shape : Ty → Shape
argument_shape (IntTy k) = shape.Int k
argument_shape (PointerTo t) = shape_to t
argument_shape (ConstOf t) = argument_shape t
argument_shape _ = shape.Other

-- 7.21.6.1p8: an argument with its value
abbrev pub argument : TypedTree → Worth → Arg
argument x v = record { value = value_of v; shape = argument_shape (type_of x) }
