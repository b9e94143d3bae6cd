use Rattle.std.proofs.Common.{refl, inl}
use Rattle.pv_script.proofs.GainsLemmas.{gains_nothing}
use Rattle.pv_serve.proofs.LateLemmas.{if_none}
use Rattle.pv_serve.proofs.LoadLemmas.{quiet}
use Rattle.pv_serve.proofs.judging.judge.Goals as goal

pub run_program-requires : goal.run_program-requires
run_program-requires g c = record { fit = (rw c.in-Ok-Program.field-0-is at c.in-Ok-Program.ensures).fit; bound = c.requires }

pub returns-in-Ok-Program : goal.returns-in-Ok-Program
returns-in-Ok-Program g c = record {
  judged = c.run_program.ensures.judged _ _ (rw c.in-Ok-Program.field-0-is at c.in-Ok-Program.ensures);
  part = c.run_program.ensures.part _ _ (rw c.in-Ok-Program.field-0-is at c.in-Ok-Program.ensures);
  cause = c.run_program.ensures.cause;
  late = c.run_program.ensures.late _ _ (rw c.in-Ok-Program.field-0-is at c.in-Ok-Program.ensures);
  sooner = c.run_program.ensures.sooner _ _ (rw c.in-Ok-Program.field-0-is at c.in-Ok-Program.ensures);
  streams = c.run_program.ensures.streams _ _ (rw c.in-Ok-Program.field-0-is at c.in-Ok-Program.ensures);
}

pub returns-in-Ok-Source : goal.returns-in-Ok-Source
returns-in-Ok-Source g c = record {
  judged = ((rw c.in-Ok-Source.field-0-is at c.in-Ok-Source.ensures), quiet _ _ refl refl);
  part = tt;
  cause = tt;
  late = if_none _ _ tt;
  sooner = if_none _ _ tt;
  streams = tt;
}

pub returns-in-Ok-Script : goal.returns-in-Ok-Script
returns-in-Ok-Script g c = record {
  judged = ((rw c.in-Ok-Script.field-0-is at c.in-Ok-Script.ensures), quiet _ _ refl refl);
  part = tt;
  cause = tt;
  late = if_none _ _ tt;
  sooner = if_none _ _ tt;
  streams = tt;
}

pub returns-in-Err : goal.returns-in-Err
returns-in-Err g c = record {
  judged = tt;
  part = inl (gains_nothing _);
  cause = tt;
  late = tt;
  sooner = tt;
  streams = tt;
}
