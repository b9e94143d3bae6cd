use Rattle.pv_journal_laws.proofs.FirstTurns.{first_events, turns_so, turns_only_so}
use Rattle.pv_journal_laws.proofs.laws.lesser_bound_tells_first_events.Goals as goal

pub returns-clause-events : goal.returns-clause-events
returns-clause-events c = first_events

pub returns-clause-turns : goal.returns-clause-turns
returns-clause-turns c = λ u sides zap script n m le. (turns_so u sides zap script n m le, turns_only_so u sides zap script n m le)
