-- A bridge: what functions answer that do a part of what Acting says.
use Rattle.std.specs.Prelude.{Bool, not, ℕ, Option, false, ◌&&◌}
use Rattle.pv_world.specs.Worlds.{World}
use Rattle.pv_prov.specs.Names.{after_narrowing}
use Rattle.pv_prov.specs.declared.pairs.Twin.{Twin}
use Rattle.std.specs.Option.{option_map_or}

-- pair k keeps its high candidate alone, or its low one
abbrev pub one_kept : World → (pair : ℕ) → (high : Bool) → World
one_kept w k high = record w { memory = record w.memory { table = record w.memory.table { pairs = after_narrowing w.memory.table.pairs k (not high) high } } }

-- the memory model: a pair that stands for both of its candidates still
abbrev pub keeps_both : Option Twin → Bool
keeps_both o = option_map_or (λ (t : Twin). t.keeps_low && t.keeps_high) o false
