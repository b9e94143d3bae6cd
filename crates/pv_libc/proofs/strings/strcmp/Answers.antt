use Rattle.std.proofs.Common.{Ok, sym, subst, refl}
use Rattle.pv_libc.specs.declared.values.Reply.{Reply}
use Rattle.pv_libc.specs.Steps.{Did, with_notes}
use Rattle.pv_libc.specs.Answers.{OrNoMemory}
use Rattle.pv_libc.proofs.strings.strcmp.Goals as goal

pub returns-in-Some : goal.returns-in-Some
returns-in-Some c =
    let notes = c.args.notes.now.items in
    let S = with_notes c.args.memory.now notes in
    let P : Did Reply → Type 0 = λ d. OrNoMemory (Ok c.in-Some.reply) S d in
    subst P (sym (c.in-Some.ensures notes)) (refl, refl)
