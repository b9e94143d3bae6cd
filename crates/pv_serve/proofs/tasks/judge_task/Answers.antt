use Rattle.std.proofs.Common.{refl, inl}
use Rattle.pv_script.proofs.GainsLemmas.{gains_nothing}
use Rattle.pv_serve.specs.Outside.{sink_change}
use Rattle.pv_serve.proofs.RunLemmas.{judged_nothing, judged_fit, cut_fit}
use Rattle.pv_serve.proofs.tasks.judge_task.Goals as goal

pub judge_unit-requires : goal.judge_unit-requires
judge_unit-requires g c = record { fit = (rw c.in-Ok-Program.field-0-is at c.in-Ok-Program.ensures).fit; task = c.requires }

pub returns-in-Ok-Program : goal.returns-in-Ok-Program
returns-in-Ok-Program g c =
    let p = (rw c.in-Ok-Program.field-0-is at c.in-Ok-Program.ensures) in
    record {
      judged = judged_fit _ _ _ _ _ _ _ _ _ p.short p.reads p.comes c.judge_unit.ensures.judged;
      part = cut_fit _ _ _ _ _ _ (sink_change g.O.Sink.written g.O.Sink.faults _ _) _ _ p.short p.reads p.comes c.judge_unit.ensures.part;
      cause = c.judge_unit.ensures.cause;
    }

pub returns-in-Ok-Source : goal.returns-in-Ok-Source
returns-in-Ok-Source g c = record {
  judged = judged_nothing _ _ _ _ _ _ _ (refl, refl) ((rw c.in-Ok-Source.field-0-is at c.in-Ok-Source.ensures).judged _ _) tt refl refl;
  part = tt;
  cause = tt;
}

pub returns-in-Ok-Script : goal.returns-in-Ok-Script
returns-in-Ok-Script g c = record {
  judged = judged_nothing _ _ _ _ _ _ _ (refl, refl) ((rw c.in-Ok-Script.field-0-is at c.in-Ok-Script.ensures).judged _ _) tt refl refl;
  part = tt;
  cause = tt;
}

pub returns-in-Err : goal.returns-in-Err
returns-in-Err g c = record {
  judged = tt;
  part = inl (gains_nothing _);
  cause = tt;
}
