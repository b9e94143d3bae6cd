use Rattle.std.proofs.Common.{rules, ◌≡◌, ◌<◌, ◌+◌, ◌-◌, eqb, true, false, sym, ap, ◌∙◌, arith}
use Rattle.pv_libc.specs.declared.values.Reply.{Reply}
use Rattle.pv_libc.specs.Steps.{answer_now, with_notes}
use Rattle.pv_libc.specs.Characters.{most}
use Rattle.pv_libc.specs.Strings.{compared_from}
use Rattle.pv_libc.proofs.Running.{by_different, by_zero, by_rest, equal_is}
use Rattle.pv_libc.proofs.Ahead.{compared_plain}
use Rattle.pv_libc.proofs.known.plain_comparison.Goals as goal

pub step-requires-clause-told : goal.step-requires-clause-told
step-requires-clause-told c = c.is_told.ensures c.if-not-is_told.false

pub returns-then-a-b : goal.returns-then-a-b
returns-then-a-b c = λ notes.
    let M = c.args.memory.now in
    let S = with_notes M notes in
    let i = c.loop-i.i in
    let a = c.in_ok-one.one.character in
    let b = c.in_ok-other.other.character in
    let before : i < most = omega (arith, c.in_ok-left_room.ensures.few) in
    let differ : eqb a b ≡ false = search rules in
    sym (c.loop-i.invariant.same notes)
    ∙ compared_plain M c.args.p c.args.q i a b before c.in_ok-one.ensures.character c.in_ok-other.ensures.character notes
    ∙ by_different a b S (compared_from (most - (i + 1)) c.args.p c.args.q (i + 1) S) differ
    ∙ ap (λ (r : Reply). answer_now r S) (sym c.sign_of.ensures)

pub returns-then-a-eq0 : goal.returns-then-a-eq0
returns-then-a-eq0 c = λ notes.
    let M = c.args.memory.now in
    let S = with_notes M notes in
    let i = c.loop-i.i in
    let a = c.in_ok-one.one.character in
    let b = c.in_ok-other.other.character in
    let before : i < most = omega (arith, c.in_ok-left_room.ensures.few) in
    let same : eqb a b ≡ true = equal_is a b c.if-a-b.false in
    let zero : eqb a 0 ≡ true = search rules in
    sym (c.loop-i.invariant.same notes)
    ∙ compared_plain M c.args.p c.args.q i a b before c.in_ok-one.ensures.character c.in_ok-other.ensures.character notes
    ∙ by_zero a b S (compared_from (most - (i + 1)) c.args.p c.args.q (i + 1) S) same zero

pub loop-i-preserved : goal.loop-i-preserved
loop-i-preserved c =
    let M = c.args.memory.now in
    let i = c.loop-i.i in
    let a = c.in_ok-one.one.character in
    let b = c.in_ok-other.other.character in
    let before : i < most = omega (arith, c.in_ok-left_room.ensures.few) in
    let same : eqb a b ≡ true = equal_is a b c.if-a-b.false in
    let more : eqb a 0 ≡ false = search rules in
    record {
      left = c.in_ok-one.ensures.behind;
      right = c.in_ok-other.ensures.behind;
      same = λ notes.
          let S = with_notes M notes in
          sym (by_rest a b S (compared_from (most - (i + 1)) c.args.p c.args.q (i + 1) S) same more)
          ∙ sym (compared_plain M c.args.p c.args.q i a b before c.in_ok-one.ensures.character c.in_ok-other.ensures.character notes)
          ∙ c.loop-i.invariant.same notes;
    }
