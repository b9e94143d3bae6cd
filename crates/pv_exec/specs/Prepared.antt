-- Stores of static initializers as the code makes them (C17 5.1.2p1): a bridge to what comes before `main`.
use Rattle.std.specs.Prelude.{◌≡◌, ℕ, List, ◌∷◌, drop, Result}
use Rattle.pv_typed.specs.TypedUnits.{Store, object_at}
use Rattle.pv_typed.specs.Tables.{Stored}
use Rattle.pv_eval.specs.declared.failure.Failure.{Failure}
use Rattle.pv_eval.specs.Moments.{Always, state_of}
use Rattle.pv_eval.specs.Machines.{Machine}
use Rattle.pv_eval.specs.Moments.{Made}
use Rattle.pv_exec.specs.OfRuns.{store_static}

-- 5.1.2p1, 6.7.9p11: the store with this place in the initializer was made
abbrev pub StoresOne : Stored → (object i : ℕ) → Result (Unit {0}) Failure → Machine → Machine → Type 0
StoresOne u o i r old new =
    Always u old.moment (λ b out es. (x : Store) (xs : List Store) → drop i (object_at b.unit o).inits ≡ x ∷ xs → Made (store_static b o x x.what (state_of old.moment out es)) r (state_of new.moment out es))
