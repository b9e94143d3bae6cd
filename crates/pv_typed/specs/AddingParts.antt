-- A bridge: what functions answer that do a part of what Adding says.
use Rattle.pv_typed.specs.TypedUnits.{TypedFunction, WholeUnit}
use Rattle.std.specs.Prelude.{[], ℕ, ◌∷◌, ◌++◌, ◌+◌}

-- 6.9.1p9: a function with one more parameter
abbrev pub taking : TypedFunction → ℕ → TypedFunction
taking x o = record x { params = x.params ++ (o ∷ []) }

-- 6.9p1: one more external declaration
abbrev pub with_declaration : WholeUnit → WholeUnit
with_declaration u = record u { declarations = u.declarations + 1 }
