use Rattle.pv_shown.proofs.past.Past.note.Goals as goal

pub returns-in-Ended : goal.returns-in-Ended
returns-in-Ended c = rw c.in-Ended.is (c.end.ensures.lives, c.end.ensures.ties)

pub returns-in-Exposed : goal.returns-in-Exposed
returns-in-Exposed c = rw c.in-Exposed.is (c.expose.ensures.lives, c.expose.ensures.ties)
