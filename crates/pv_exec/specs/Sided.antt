-- Sides of pairs.
use Rattle.std.specs.Prelude.{Bool, true, false}
use Rattle.pv_exec.specs.declared.sides.Side.{Side}
use Rattle.pv_exec.specs.declared.sides.Side.TheVariants.{Low, High}

-- the memory model: the side of a pair of candidates, by whether it is the high one
abbrev pub side_of : Bool → Side
side_of true = High
side_of false = Low

-- the memory model: whether a side of a pair of candidates is the high one
abbrev pub is_high : Side → Bool
is_high High = true
is_high Low = false
