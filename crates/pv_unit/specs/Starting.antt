-- A bridge: the tables and the scopes before the first declaration of a unit.
use Rattle.std.specs.Prelude.{◌≡◌, ℕ, List, ◌∷◌, [], ◌++◌}
use Rattle.pv_token.specs.Table.{Table}
use Rattle.pv_typed.specs.Known.{AreKnown}
use Rattle.pv_typed.specs.Formed.{no_tables}
use Rattle.pv_typed.specs.Tables.{Stored, whole_unit}
use Rattle.pv_typed.specs.TypedUnits.{WholeUnit}
use Rattle.pv_check.specs.Raw.{Raw, no_raw}
use Rattle.pv_unit.specs.Units.{unit_at_first}

-- the names (6.4.2.1) with one more behind them
abbrev pub with_name_behind : WholeUnit → List ℕ → WholeUnit
with_name_behind u text = record u { names = u.names ++ (text ∷ []) }

-- tables before the first declaration (6.9p1): no entry, and the names of the tokens behind the two that no token has
pub record IsFirst (t : Table) (m : Stored) : Type 0 where
  pub unit : whole_unit m ≡ (unit_at_first t).state.unit
  pub types : m.known ≡ no_tables.known
  pub known : AreKnown m

-- the scope of a file (6.2.1p4)
abbrev pub first_raw : Raw
first_raw = record { scopes = no_raw ∷ []; used = [] }
