-- A bridge: what functions answer that do a part of what Ending says.
use Rattle.pv_inst.specs.declared.values.Instance.{Instance}
use Rattle.pv_inst.specs.Table.{with_instance, Table}
use Rattle.std.specs.Prelude.{false, ℕ, Option}
use Rattle.std.specs.Option.{option_map_or}

-- 6.2.4p2: the instance, ended. Its base and size stay
abbrev pub over : Instance → Instance
over x = record x { live = false }

-- 6.2.4p2: the table in which the instance has ended, where it was made. Its base and size stay
abbrev pub ending : Table → ℕ → Option Instance → Table
ending T i x =
    option_map_or (λ (x : Instance). record T { instances = with_instance T.instances i (record x { live = false }) }) x T
