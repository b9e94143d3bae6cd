-- Evaluation and the run of a unit (C17 5.1.2, 6.5) without the guards: the definitions of runs over operations as their rules have them, where there is
-- no outcome where C has no rule.
use Rattle.std.specs.Prelude.{List}
use Rattle.pv_script.specs.Lines.{ScriptLine}
use Rattle.pv_typed.specs.TypedTree.{TypedTree}
use Rattle.pv_seq.specs.Sequencing.{Access}
use Rattle.pv_world.specs.Worlds.{Worth}
use Rattle.pv_eval.specs.States.{Setting, State, Res}
use Rattle.pv_eval.specs.Sequenced.{Given}
use Rattle.pv_eval.specs.Steps.{Calling}
use Rattle.pv_eval.specs.Evaluation.{ev_by}
use Rattle.pv_exec.specs.Run.{run_of_by}
use Rattle.pv_guards.specs.Plain.{act_plainly, rules}

-- 6.5p1: without the guards
abbrev pub ev : Setting → Calling → TypedTree → List Access → State → Res Given
ev = ev_by act_plainly

-- 5.1.2p1: without the guards
abbrev pub run_of : Setting → List ScriptLine → Res Worth
run_of = run_of_by rules
