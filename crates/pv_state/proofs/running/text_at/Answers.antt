use Rattle.pv_state.specs.Answering.{look_of}
use Rattle.pv_state.proofs.TellingLemmas.{by_script}
use Rattle.pv_state.proofs.running.text_at.Goals as goal

pub returns-in-Ok : goal.returns-in-Ok
returns-in-Ok c = λ lines is. by_script c.args.unit.now (look_of c.args.look) c.args.place c.args.script.now _ lines _ c.in-Ok.ensures is c.text_by.ensures
