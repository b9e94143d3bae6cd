-- A bridge: tables of a unit that can be run and described (C17 6.9).
use Rattle.std.specs.Prelude.{is_some, IsTrue}
use Rattle.pv_typed.specs.Tables.{Stored, whole_unit}
use Rattle.pv_typed.specs.Known.{AreKnown}
use Rattle.pv_typed.specs.Mains.{main_of}
use Rattle.pv_describe.specs.Bounds.{AreSmall}
use Rattle.pv_exec.specs.Laying.{HasNoEmptyTag}

-- 6.9: tables that can be run and described: what they name is there, `main` is defined, no type is too large, and each structure
-- and union has a byte (6.7.2.1p8)
pub record IsFit (unit : Stored) : Type 0 where
  pub known : AreKnown unit
  pub main : IsTrue (is_some (main_of (whole_unit unit)))
  pub small : AreSmall unit.known
  pub filled : HasNoEmptyTag unit
