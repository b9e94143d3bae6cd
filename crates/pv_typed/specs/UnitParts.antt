-- A bridge: what functions answer that do a part of what TypedUnits says.
use Rattle.pv_types.specs.Ty.{VoidTy}
use Rattle.std.specs.Prelude.{[], false, None}
use Rattle.pv_typed.specs.TypedUnits.{TypedObject, TypedFunction, Literal}

-- what stands for an object (6.2.4) whose number the unit hasn't: a helper of lists
abbrev pub no_object : TypedObject
no_object = record { name = 0; t = VoidTy; line = 0; lasting = false; braced = false; inits = [] }

-- the same for a function (6.9.1)
abbrev pub no_function : TypedFunction
no_function = record { name = 0; t = VoidTy; line = 0; params = []; body = None }

-- the same for a string literal (6.4.5)
abbrev pub no_literal : Literal
no_literal = record { bytes = []; line = 0 }
