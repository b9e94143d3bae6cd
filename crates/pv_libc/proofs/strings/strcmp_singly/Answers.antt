use Rattle.std.proofs.Common.{rules, ◌≡◌, ◌<◌, ◌+◌, ◌-◌, eqb, true, false, Ok, Err, pos, refl, sym, ap, ◌∙◌, subst}
use Rattle.pv_object.proofs.Later.{made_later}
use Rattle.pv_libc.specs.Steps.{Did, with_notes}
use Rattle.pv_libc.specs.Answers.{OrNoMemory}
use Rattle.pv_libc.specs.declared.values.Reply.{Reply}
use Rattle.pv_libc.specs.declared.values.Reply.TheVariants as reply
use Rattle.pv_object.specs.declared.values.Value.TheVariants as value
use Rattle.pv_libc.specs.Characters.{most}
use Rattle.pv_libc.specs.Strings.{compared_from}
use Rattle.pv_libc.proofs.Running.{compared_left, compared_right, compared_both, by_different, by_zero, by_rest, equal_is}
use Rattle.pv_libc.proofs.strings.strcmp_singly.Goals as goal

pub returns-in-Err : goal.returns-in-Err
returns-in-Err c =
    let before : c.loop-i.i < most = search rules in
    let at = with_notes c.loop-i.memory c.loop-i.notes.items in
    let end = with_notes c.character_at.new.memory c.character_at.new.notes.items in
    let P : Did Reply → Type 0 = λ d. OrNoMemory (Err c.in-Err.stop) end d in
    subst P c.loop-i.invariant.same (compared_left most c.loop-i.i c.args.p c.args.q at before end c.in-Err.stop c.in-Err.ensures.answer)

pub returns-in-Err-character_at : goal.returns-in-Err-character_at
returns-in-Err-character_at c =
    let before : c.loop-i.i < most = search rules in
    let at = with_notes c.loop-i.memory c.loop-i.notes.items in
    let one = with_notes c.character_at.new.memory c.character_at.new.notes.items in
    let end = with_notes c.character_at-in-loop-i.new.memory c.character_at-in-loop-i.new.notes.items in
    let P : Did Reply → Type 0 = λ d. OrNoMemory (Err c.in-Err-character_at.stop) end d in
    subst P c.loop-i.invariant.same (compared_right most c.loop-i.i c.args.p c.args.q at before one c.in-Ok.a c.in-Ok.ensures.answer.0 c.in-Ok.ensures.answer.1 end c.in-Err-character_at.stop c.in-Err-character_at.ensures.answer)

pub returns-then-a-b : goal.returns-then-a-b
returns-then-a-b c =
    let before : c.loop-i.i < most = search rules in
    let differ : eqb c.in-Ok.a c.in-Ok-character_at.b ≡ false = search rules in
    let at = with_notes c.loop-i.memory c.loop-i.notes.items in
    let one = with_notes c.character_at.new.memory c.character_at.new.notes.items in
    let two = with_notes c.character_at-in-loop-i.new.memory c.character_at-in-loop-i.new.notes.items in
    let both = compared_both most c.loop-i.i c.args.p c.args.q at before one c.in-Ok.a c.in-Ok.ensures.answer.0 c.in-Ok.ensures.answer.1 two c.in-Ok-character_at.b c.in-Ok-character_at.ensures.answer.0 c.in-Ok-character_at.ensures.answer.1 in
    let rest = compared_from (most - (c.loop-i.i + 1)) c.args.p c.args.q (c.loop-i.i + 1) two in
    let P : Did Reply → Type 0 = λ d. OrNoMemory (Ok c.sign_of.result) two d in
    subst P (sym (by_different c.in-Ok.a c.in-Ok-character_at.b two rest differ) ∙ sym both ∙ c.loop-i.invariant.same) (ap (λ (r : Reply). Ok r) c.sign_of.ensures, refl)

pub returns-then-a-eq0 : goal.returns-then-a-eq0
returns-then-a-eq0 c =
    let before : c.loop-i.i < most = search rules in
    let same : eqb c.in-Ok.a c.in-Ok-character_at.b ≡ true = search rules in
    let zero : eqb c.in-Ok.a 0 ≡ true = search rules in
    let at = with_notes c.loop-i.memory c.loop-i.notes.items in
    let one = with_notes c.character_at.new.memory c.character_at.new.notes.items in
    let two = with_notes c.character_at-in-loop-i.new.memory c.character_at-in-loop-i.new.notes.items in
    let both = compared_both most c.loop-i.i c.args.p c.args.q at before one c.in-Ok.a c.in-Ok.ensures.answer.0 c.in-Ok.ensures.answer.1 two c.in-Ok-character_at.b c.in-Ok-character_at.ensures.answer.0 c.in-Ok-character_at.ensures.answer.1 in
    let rest = compared_from (most - (c.loop-i.i + 1)) c.args.p c.args.q (c.loop-i.i + 1) two in
    let P : Did Reply → Type 0 = λ d. OrNoMemory (Ok (reply.Value (value.Int (pos 0)))) two d in
    subst P (sym (by_zero c.in-Ok.a c.in-Ok-character_at.b two rest same zero) ∙ sym both ∙ c.loop-i.invariant.same) (refl, refl)

pub loop-i-preserved : goal.loop-i-preserved
loop-i-preserved c =
    let before : c.loop-i.i < most = search rules in
    let same : eqb c.in-Ok.a c.in-Ok-character_at.b ≡ true = equal_is c.in-Ok.a c.in-Ok-character_at.b c.if-a-b.false in
    let more : eqb c.in-Ok.a 0 ≡ false = search rules in
    let at = with_notes c.loop-i.memory c.loop-i.notes.items in
    let one = with_notes c.character_at.new.memory c.character_at.new.notes.items in
    let two = with_notes c.character_at-in-loop-i.new.memory c.character_at-in-loop-i.new.notes.items in
    let both = compared_both most c.loop-i.i c.args.p c.args.q at before one c.in-Ok.a c.in-Ok.ensures.answer.0 c.in-Ok.ensures.answer.1 two c.in-Ok-character_at.b c.in-Ok-character_at.ensures.answer.0 c.in-Ok-character_at.ensures.answer.1 in
    let rest = compared_from (most - (c.loop-i.i + 1)) c.args.p c.args.q (c.loop-i.i + 1) two in
    record {
      same = sym (by_rest c.in-Ok.a c.in-Ok-character_at.b two rest same more) ∙ sym both ∙ c.loop-i.invariant.same;
      left = made_later _ _ c.args.p.pointer.prov c.character_at-in-loop-i.ensures.later (made_later _ _ c.args.p.pointer.prov c.character_at.ensures.later c.loop-i.invariant.left);
      right = made_later _ _ c.args.q.pointer.prov c.character_at-in-loop-i.ensures.later (made_later _ _ c.args.q.pointer.prov c.character_at.ensures.later c.loop-i.invariant.right);
    }
