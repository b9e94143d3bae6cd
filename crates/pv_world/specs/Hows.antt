-- A bridge: how values are converted (C17 6.3).
use Rattle.std.specs.Prelude.{◌≤◌}
use Rattle.pv_world.specs.declared.got.How.{How}
use Rattle.pv_world.specs.declared.got.How.TheVariants.{Rounds, Passes, Tests, Numbers, Points, Recasts, Voids}

-- 6.2.8p1: an alignment that is asked for is 1 at least
abbrev pub IsHow : How → Type 0
IsHow (Recasts align) = 1 ≤ align
IsHow (Rounds k) = Unit {0}
IsHow (Passes k) = Unit {0}
IsHow Tests = Unit {0}
IsHow (Numbers k) = Unit {0}
IsHow Points = Unit {0}
IsHow Voids = Unit {0}
