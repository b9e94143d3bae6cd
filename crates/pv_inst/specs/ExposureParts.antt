-- A bridge: what functions answer that do a part of what Exposure says.
use Rattle.std.specs.Prelude.{true}
use Rattle.pv_inst.specs.declared.values.Instance.{Instance}
use Rattle.pv_inst.specs.Table.{Table}
use Rattle.pv_inst.specs.Exposure.{expose_one}
use Rattle.pv_prov.specs.declared.names.Stands.{Stands}

-- the memory model, exposure: the instance, exposed
abbrev pub exposure_from : Instance → Instance
exposure_from x = record x { exposed = true }

-- the memory model, exposure: both candidates, the low one first
abbrev pub expose_two : Table → Stands → Table
expose_two T s = expose_one (expose_one T s.low) s.high
