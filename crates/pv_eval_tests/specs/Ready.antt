-- A bridge: a unit that is made by hand.
use Rattle.std.specs.Prelude.{◌<◌, length}
use Rattle.pv_types.specs.declared.terms.TypeId.{TypeId}
use Rattle.pv_typed.specs.Tables.{Stored}
use Rattle.pv_typed.specs.Known.{AreKnown}

-- 6.9p1: all parts of a unit are there, and the type `int`
abbrev pub IsReady : Stored → TypeId → Type 0
IsReady u int = AreKnown u × (int.0 < length u.known.terms)
