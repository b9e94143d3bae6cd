use Rattle.pv_shown.proofs.Turns as lemmas
use Rattle.pv_shown.proofs.walking.turns_rise.Goals as goal

pub returns : goal.returns
returns c = lemmas.turns_rise c.args.names.now c.args.lines.now c.requires
