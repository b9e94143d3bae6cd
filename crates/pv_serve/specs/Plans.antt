-- A bridge: what functions answer that do a part of what Judged says.
use Rattle.std.specs.Prelude.{false, ℕ, Bool, None, true, Option, List}
use Rattle.pv_serve.specs.Judged.{Plan}

-- a run that is watched, and whose pairs are settled late (the memory model)
abbrev pub late_plan : (bound : ℕ) (zap : Bool) → Plan
late_plan bound zap = record { bound = bound; zap = zap; sides = None; settles = false }

-- the memory model: a settled run: by these sides, or late where none are given
abbrev pub settled_plan : (bound : ℕ) (zap : Bool) (sides : Option (List Bool)) → Plan
settled_plan bound zap sides = record { bound = bound; zap = zap; sides = sides; settles = true }
