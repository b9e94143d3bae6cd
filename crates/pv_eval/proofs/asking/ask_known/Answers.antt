use Rattle.std.proofs.Common.{◌++◌, ap, ◌∙◌, subst}
use Rattle.pv_object.specs.Memory.{Mem}
use Rattle.pv_libc.specs.Steps.{with_notes}
use Rattle.pv_libc.specs.Answers.{OrNoMemory, behind}
use Rattle.pv_libc.specs.Calls.{reply_to_call}
use Rattle.pv_world.specs.Coming.{Did, worth_of}
use Rattle.pv_eval.specs.Library.{blame_in}
use Rattle.pv_eval.specs.LibraryParts.{all_noted}
use Rattle.pv_eval.specs.Moments.{come_to}
use Rattle.pv_eval.proofs.Replies.{asks_wrote}
use Rattle.pv_eval.proofs.asking.ask_known.Goals as goal

pub returns : goal.returns
returns c =
    let w = c.args.world.now in
    let v = c.call_in-reply.new.world in
    let r = c.call_in-reply.result in
    let notes = c.call_in-reply.new.notes.items in
    let told = c.args.told.now.items in
    let more = c.tell_notes.new.told.items in
    let es = c.replied.new.told.items in
    asks_wrote c.args.f c.args.args.now w v notes r (c.is_spent.ensures.no c.if-is_spent.false)
    (subst (λ ns. OrNoMemory r (with_notes v.memory notes) (behind ns (reply_to_call c.args.f c.args.args.now w.memory))) c.new-notes.ensures.items c.call_in-reply.ensures.answer)
    c.replied.result told more es c.args.text.now.items c.call_in-reply.new.text.items c.call_in-reply.ensures.world
    (c.in-Ok.ensures ∙ ap (λ (M : Mem). told ++ all_noted M.table c.deref.result.now) c.memory.ensures ∙ ap (λ ns. told ++ all_noted v.memory.table ns) c.deref.ensures.value)
    (subst (λ b. Did worth_of (come_to b r) c.replied.result v v more es) (c.blame_in.ensures ∙ ap blame_in c.deref-2.ensures.value) (c.replied.ensures v))
    c.call_in-reply.ensures.text c.call_in-reply.ensures.kept
