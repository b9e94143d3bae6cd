use Rattle.std.proofs.Common.{refl}
use Rattle.pv_state.specs.Answering.{look_of}
use Rattle.pv_state.proofs.TellingLemmas.{told_reply}
use Rattle.pv_state.proofs.running.shown.Goals as goal

pub returns-clause-answered : goal.returns-clause-answered
returns-clause-answered c = λ source loaded.
    told_reply source c.args.script.now _ c.args.unit c.args.lines (look_of c.args.look) c.args.places.now (record { status = 0; text = c.in_ok-text.text }) loaded (c.in_ok-text.ensures c.args.lines c.requires.reads) refl
