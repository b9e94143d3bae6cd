-- A bridge: what functions answer that do a part of what Table says.
use Rattle.pv_inst.specs.declared.values.Instance.{Instance}
use Rattle.std.specs.Prelude.{ℕ, if◌then◌else◌}

-- 6.2.4p2: what an instance adds to the bytes that are reserved: its size, while it lives
abbrev pub live_size : Instance → ℕ
live_size x = if x.live then x.size else 0
