-- A bridge: what functions answer that do a part of what Callees says.
use Rattle.pv_world.specs.Worlds.{Worth}
use Rattle.pv_world.specs.Worths.{int_of}
use Rattle.std.specs.Prelude.{unsigned_abs, ℕ}

-- 6.5.2.2p1: the number of the function that was found
abbrev pub function_in : Worth → ℕ
function_in v = unsigned_abs (int_of v)
