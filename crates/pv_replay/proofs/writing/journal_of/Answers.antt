use Rattle.std.proofs.Common.{refl}
use Rattle.pv_replay.proofs.writing.journal_of.Goals as goal

pub returns-clause-written : goal.returns-clause-written
returns-clause-written g c =
    c.reply_to.ensures.written c.args.text.now.source.items c.args.text.now.script.items c.args.turns _ _ c.requires.hall refl
    (rw c.as_slice-script.ensures.value at (rw c.as_slice-source.ensures.value at c.in-Ok.ensures.judged))
