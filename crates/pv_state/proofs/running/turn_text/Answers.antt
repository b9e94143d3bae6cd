use Rattle.std.proofs.Common.{sym, ◌∙◌}
use Rattle.pv_state.proofs.TellingLemmas.{due_told}
use Rattle.pv_state.proofs.running.turn_text.Goals as goal

pub returns-then-is_turns : goal.returns-then-is_turns
returns-then-is_turns c = λ run h. due_told c.args.unit.now c.args.all c.args.turn c.args.ran.now run _ h (sym c.is_turns.ensures ∙ c.if-is_turns.true) c.due_text.ensures
