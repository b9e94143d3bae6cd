use Rattle.std.proofs.Common.{arith}
use Rattle.pv_serve.proofs.RunLemmas.{runnable}
use Rattle.pv_state.specs.Answering.{look_of}
use Rattle.pv_state.proofs.TellingLemmas.{all_told_at}
use Rattle.pv_state.proofs.running.text_of_run.Goals as goal

pub run-requires : goal.run-requires
run-requires g c = record {
  runnable = runnable _ c.requires.fit.known;
  main = c.requires.fit.main;
  bound = omega (arith, c.bound_at-bound.ensures.most, c.requires.bound);
}

pub returns : goal.returns
returns g c =
    all_told_at c.args.unit.now c.args.lines (look_of c.args.look) c.args.place _ _ _ c.bound_at-bound.ensures.value c.in-Ok.ensures.ran c.place_text.ensures
