-- A bridge: the stores of initializers as the code keeps them, and what the answers of the code that types an initializer stand for.
use Rattle.std.specs.Prelude.{ℕ, ◌<◌, length, List, ◌++◌, map, Option, Some, None, option_map}
use Rattle.pv_typed.specs.declared.entries.Init.{Init}
use Rattle.pv_typed.specs.Known.{Each}
use Rattle.pv_typed.specs.Formed.{HasValue}
use Rattle.pv_typed.specs.Tables.{Stored, nodes, store_in}
use Rattle.pv_typed.specs.TypedUnits.{Store}
use Rattle.pv_check.specs.Raw.{Raw}
use Rattle.pv_check.specs.Open.{state_in, IsOpen, Goes}
use Rattle.pv_check.specs.State.{State}
use Rattle.pv_unit.specs.Rules.{After}
use Rattle.pv_unit.specs.Initializers.{Stores}

-- what a store of an initializer (6.7.9) names is in the tables
abbrev pub IsStore : Stored → Init → Type 0
IsStore m x = (x.t.0 < length m.known.terms) × HasValue m x.what

-- what stores of initializers (6.7.9) name is in the tables
abbrev pub AreStores : Stored → List Init → Type 0
AreStores m xs = Each (IsStore m) xs

-- the stores of initializers (6.7.9) that the code keeps
abbrev pub stores_in : Stored → List Init → List Store
stores_in m xs = map (store_in m.known (nodes m)) xs

-- the stores that were made (6.7.9), the number of parts that have initializers, and the state behind them
abbrev pub stores_if : List (List ℕ) → Raw → Stored → List Init → Option ℕ → Option (After State Stores)
stores_if texts s m out None = None
stores_if texts s m out (Some n) = Some (record { value = record { stores = stores_in m out; count = n }; state = state_in texts s m })

-- further stores behind those that there are, in list order (6.7.9p19)
abbrev pub behind : List Store → After State Stores → After State Stores
behind before x = record { value = record { stores = before ++ x.value.stores; count = x.value.count }; state = x.state }

-- the stores that a rule of initializers (6.7.9) makes of the state, behind those that there are
abbrev pub stores_by : (State → Option (After State Stores)) → List (List ℕ) → Raw → Stored → List Init → Option (After State Stores)
stores_by rule texts s m out = option_map (behind (stores_in m out)) (rule (state_in texts s m))

-- behind an initializer (6.7.9) the tables have more, the scopes are open over them, and what the stores name is there
pub record Fills (old new : Stored) (s : Raw) (out : List Init) : Type 0 where
  pub goes : Goes old new
  pub opened : IsOpen new s
  pub stores : AreStores new out

-- the same, where an initializer (6.7.9) has an answer
abbrev pub FillsIf : {A : Type 0} → Stored → Stored → Raw → List Init → Option A → Type 0
FillsIf old new s out None = Unit {0}
FillsIf old new s out (Some n) = Fills old new s out
