use Rattle.pv_state.specs.Answering.{look_of}
use Rattle.pv_state.proofs.TellingLemmas.{end_told}
use Rattle.pv_state.proofs.running.place_text.Goals as goal

pub returns-in-End : goal.returns-in-End
returns-in-End c = λ run h. end_told c.args.unit.now (look_of c.args.look) c.args.place c.args.ran.now run _ c.in-End.is h c.end_text.ensures
