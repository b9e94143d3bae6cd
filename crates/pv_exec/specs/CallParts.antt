-- A bridge: what functions answer that do a part of what Calls says.
use Rattle.std.specs.Prelude.{Bool}
use Rattle.pv_typed.specs.TypedUnits.{TypedFunction, WholeUnit}
use Rattle.pv_typed.specs.Mains.{named_main}

-- 5.1.2.2.1p1: the function `main`
abbrev pub is_main : WholeUnit → TypedFunction → Bool
is_main u f = named_main u.names f.name
