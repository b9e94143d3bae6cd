-- Two runs that nobody can tell apart (C17 5.1.2.3).
use Rattle.std.specs.Prelude.{◌≡◌}
use Rattle.pv_world.specs.Worlds.{Worth}
use Rattle.pv_eval.specs.States.{Res, end_of}
use Rattle.pv_exec.specs.Run.{outcome_of, sides_at}

-- 5.1.2.3p6, p1: they end for the same reason, after as many turns; they printed the same, and their memory had the same history (the
-- memory model), with the same sides of pairs
pub record SameRun (r r' : Res Worth) : Type 0 where
  pub outcome : outcome_of r' ≡ outcome_of r
  pub taken : (end_of r').taken ≡ (end_of r).taken
  pub output : (end_of r').output ≡ (end_of r).output
  pub events : (end_of r').events ≡ (end_of r).events
  pub sides : sides_at (end_of r') ≡ sides_at (end_of r)
