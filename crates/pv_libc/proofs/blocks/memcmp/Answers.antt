use Rattle.std.proofs.Common.{Result, Ok, false, refl, sym, subst}
use Rattle.pv_inst.specs.WellFormed.{IsWellFormed}
use Rattle.pv_object.specs.declared.values.Asker.TheVariants.{Text}
use Rattle.pv_object.specs.declared.values.Stop.{Stop}
use Rattle.pv_object.proofs.Later.{reach_later}
use Rattle.pv_libc.specs.declared.values.Reply.{Reply}
use Rattle.pv_libc.specs.Steps.{Did, with_notes, next, reach_for}
use Rattle.pv_libc.specs.Answers.{OrNoMemory}
use Rattle.pv_libc.specs.Ahead.{rows_compared}
use Rattle.pv_libc.proofs.Steps.{or_next}
use Rattle.pv_libc.proofs.Reaches.{reach_bound}
use Rattle.pv_libc.proofs.blocks.memcmp.Goals as goal

pub plain_difference-requires-clause-left : goal.plain_difference-requires-clause-left
plain_difference-requires-clause-left c =
    reach_bound _ c.in-Ok.left c.args.n (subst IsWellFormed c.instances.ensures c.well_formed-2.ensures)
    (reach_later _ _ c.in-Ok.left c.args.n c.reached-2.ensures.later c.in-Ok.ensures.within)

pub plain_difference-requires-clause-right : goal.plain_difference-requires-clause-right
plain_difference-requires-clause-right c =
    reach_bound _ c.in-Ok-reached.right c.args.n (subst IsWellFormed c.instances.ensures c.well_formed-2.ensures) c.in-Ok-reached.ensures.within

pub returns-in-Some : goal.returns-in-Some
returns-in-Some c =
    let p = c.args.p in
    let q = c.args.q in
    let n = c.args.n in
    let left = c.in-Ok.left in
    let right = c.in-Ok-reached.right in
    let S = with_notes c.args.memory.now c.args.notes.now.items in
    let T = with_notes c.reached.new.memory c.reached.new.notes.items in
    let U = with_notes c.reached-2.new.memory c.reached-2.new.notes.items in
    let answer : Result Reply Stop = Ok c.in-Some.reply in
    let P : Did Reply → Type 0 = λ d. OrNoMemory answer U d in
    let here = subst P (sym (c.in-Some.ensures p q c.reached-2.new.notes.items)) (refl, refl) in
    or_next answer U (reach_for Text false p n S) left T (λ l V. next (reach_for Text false q n V) (λ r W. rows_compared p q l.address r.address n W)) c.in-Ok.ensures.answer.0 c.in-Ok.ensures.answer.1
    (or_next answer U (reach_for Text false q n T) right U (λ r W. rows_compared p q left.address r.address n W) c.in-Ok-reached.ensures.answer.0 c.in-Ok-reached.ensures.answer.1 here)
