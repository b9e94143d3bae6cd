use Rattle.pv_step.proofs.running.show.Goals as goal

pub unreachable-requires : goal.unreachable-requires
unreachable-requires c =
    c.one_verdict.ensures.not_both c.args.journal.now c.requires.0 _ c.is_text.ensures c.requires.1 (rw c.in-Err-Bad.field-0-is at c.in-Err-Bad.ensures.bad)
