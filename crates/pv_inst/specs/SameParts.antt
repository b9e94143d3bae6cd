-- A bridge: what functions answer that do a part of what TwoPointers and Use say.
use Rattle.pv_inst.specs.Table.{Table}
use Rattle.pv_inst.specs.TwoPointers.{after_left, same_right}
use Rattle.pv_inst.specs.Use.{after_use, passes}
use Rattle.pv_inst.specs.declared.values.Test.{Test}
use Rattle.pv_inst.specs.declared.values.Instance.{Instance}
use Rattle.std.specs.Prelude.{Ok, Bool, Option, false}
use Rattle.pv_prov.specs.declared.names.Prov.{Prov}
use Rattle.std.specs.Option.{option_map_or}

-- the memory model: the table in which both names keep their survivors alone
abbrev pub after_both : Table → Prov → Prov → Table
after_both T p q = after_use (after_left T p q) q (Ok (same_right T p q))

-- the memory model: the instance was made, and passes the test
abbrev pub made_passes : (zap : Bool) → Option Instance → Test → Bool
made_passes zap x t = option_map_or (λ (x : Instance). passes zap x t) x false
