-- A source comes to one verdict: what the laws say of it. A source that is to be run has the verdict of its run.
use Rattle.std.specs.Prelude.{◌≡◌, ℕ, Bool, List, Option, Some, is_none, if◌then◌else◌}
use Rattle.pv_serve.specs.declared.words.Task.{Task}
use Rattle.pv_serve.specs.Verdicts.{Verdict, Ending, Ended, Settled}
use Rattle.pv_serve.specs.Judged.{Judged, RunEnds, IsToRun, Plan, plan_of}

-- 5.1.2.3: the verdict that the end of a run is, of a unit that is run so
abbrev pub verdict_by : Plan → Ending → Verdict
verdict_by p e = if p.settles then Settled e p.bound (is_none p.sides) else Ended e p.bound

-- 5.1.2.3: the verdict of a source that is to be run is that of its run
pub record IsLeftToRun (source script : List ℕ) (t : Task) (sides : Option (List Bool)) : Type 0 where
  pub plan : Plan
  pub asks : plan_of t sides ≡ Some plan
  pub job : IsToRun source script
  pub verdict : (e : Ending) → RunEnds job.unit job.lines plan.bound plan.zap plan.sides e → Judged source script t sides (verdict_by plan e)

-- 5.1.2.3: the source is run, and both verdicts are ends of its run
pub record BothRun (source script : List ℕ) (t : Task) (sides : Option (List Bool)) (v w : Verdict) : Type 0 where
  pub plan : Plan
  pub asks : plan_of t sides ≡ Some plan
  pub job : IsToRun source script
  pub one : Ending
  pub other : Ending
  pub ends : RunEnds job.unit job.lines plan.bound plan.zap plan.sides one
  pub others : RunEnds job.unit job.lines plan.bound plan.zap plan.sides other
  pub is_one : v ≡ verdict_by plan one
  pub is_other : w ≡ verdict_by plan other
