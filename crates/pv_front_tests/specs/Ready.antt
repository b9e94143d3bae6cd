-- A bridge: tables of a unit in which a line of words is read.
use Rattle.std.specs.Prelude.{◌<◌, length}
use Rattle.pv_types.specs.declared.terms.TypeId.{TypeId}
use Rattle.pv_typed.specs.Tables.{Stored}
use Rattle.pv_typed.specs.Known.{AreKnown}

-- 6.9p1: all parts of a unit are there, the structure of the lines too
abbrev pub IsReady : Stored → TypeId → Type 0
IsReady u s = AreKnown u × (s.0 < length u.known.terms)
