-- What an operation does to a world.
use Rattle.std.specs.declared.option.Option.{Option}
use Rattle.pv_prov.specs.declared.names.Prov.{Prov}
use Rattle.pv_world.specs.Worlds.{Worth, World, Wrong}
use Rattle.pv_world.specs.declared.failing.Blame.{Blame}
use Rattle.pv_world.specs.Telling.{Told}

-- 5.1.2.3p2: its value and the world after it; or why it ends the run, the name of the pointer whose check stopped, if there is one,
-- and the world as it stands then; or the same with the candidates of that pointer, as they stood before. Each with what was told
pub data Done : Type 0 where
  Answers : Worth → World → Told → Done
  Fails : Wrong → Option Prov → World → Told → Done
  Breaks : Wrong → Option Blame → World → Told → Done
