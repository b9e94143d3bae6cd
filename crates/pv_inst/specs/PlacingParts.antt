-- A bridge: what functions answer that do a part of what Placing says.
use Rattle.std.specs.Prelude.{◌+◌, ◌*◌, ℕ, ◌/◌, Bool, true, Option, nat_lt, false}
use Rattle.std.specs.Option.{option_map_or}
use Rattle.pv_inst.specs.declared.values.Instance.{Instance}
use Rattle.pv_inst.specs.Placing.{Request}

-- 6.2.8p2: the next multiple of 16, which suits every type of this target (7.22.3p1)
abbrev pub multiple_of_16 : ℕ → ℕ
multiple_of_16 a = (a + 15) / 16 * 16

-- the base (6.2.4p2) is less than that of the best one so far
abbrev pub is_nearer : Option (ℕ × ℕ) → ℕ → Bool
is_nearer best b = option_map_or (λ (c : ℕ × ℕ). nat_lt b c.1) best true

-- 6.2.4p2: an instance begins live; and it begins not exposed (the memory model)
abbrev pub fresh : Request → ℕ → ℕ → Instance
fresh r k base = record { name = r.name; k = k; base = base; size = r.size; kind = r.kind; live = true; exposed = false }
