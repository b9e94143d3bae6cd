-- What `judge` answers is a judgement of a run, as a task asks for it.
use Rattle.std.proofs.Common.{ℕ, Bool, List, map, sym, ap, subst}
use Rattle.std.specs.Prelude.{None}
use Rattle.pv_watch.specs.Slots.{Told}
use Rattle.pv_exec.specs.Answering.{end_of}
use Rattle.pv_exec.specs.Outlets.{event_of}
use Rattle.pv_serve.specs.declared.words.Task.TheVariants as task
use Rattle.pv_serve.specs.declared.judging.Judgement.{Judgement}
use Rattle.pv_serve.specs.declared.judging.Judgement.TheVariants as judgement
use Rattle.pv_serve.specs.Verdicts.{Ended}
use Rattle.pv_serve.specs.Judged.{Fit}
use Rattle.pv_serve.specs.Outside.{Sunk, Halls}
use Rattle.pv_serve.specs.Judging.{IsJudged, ending_of, nothing_shown}
use Rattle.pv_serve.specs.Settling.{IsOutcome}
use Rattle.pv_serve.proofs.RunLemmas.{shown_by, run_ends}

pub judged_of : (source script : List ℕ) (bound : ℕ) (zap : Bool) (out : Sunk) (hall : Halls) (j : Judgement) → IsOutcome source script bound zap None out hall j
    → IsJudged source script (task.Run bound zap) None out hall j
judged_of source script bound zap out hall (judgement.Ran ran names most) is =
    let r = is.1 in
    record {
      shown = shown_by r.run;
      judged = Fit r.job.lines r.job.unit r.job.short r.job.reads r.job.comes (
        ending_of ran names (shown_by r.run),
        run_ends r.job.unit r.job.lines bound zap None r.run ran names r.runs r.holds.ended r.holds.named,
        ap (λ (n : ℕ). Ended (ending_of ran names (shown_by r.run)) n) is.0,
      );
      right = tt;
      gains = r.holds.gains;
      told = subst (λ (texts : List (List ℕ)). Told hall.old (map event_of (end_of r.run).events) texts hall.new) (sym r.holds.named) r.holds.told;
    }
judged_of source script bound zap out hall (judgement.Settled ran names most listed) is = absurd is
judged_of source script bound zap out hall (judgement.Described text) is = absurd is
judged_of source script bound zap out hall (judgement.Source why) is = record {
  shown = nothing_shown;
  judged = is.0.judged (task.Run bound zap) None;
  right = tt;
  gains = is.1.gains;
  told = is.1.told;
}
judged_of source script bound zap out hall (judgement.Script why) is = record {
  shown = nothing_shown;
  judged = is.0.judged (task.Run bound zap) None;
  right = tt;
  gains = is.1.gains;
  told = is.1.told;
}
