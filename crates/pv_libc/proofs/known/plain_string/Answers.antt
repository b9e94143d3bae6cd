use Rattle.std.proofs.Common.{rules, ◌≡◌, ◌<◌, ◌+◌, ◌-◌, ℕ, List, [], ◌∷◌, ◌++◌, length, eqb, true, false, sym, ap, ◌∙◌, arith, length-append}
use Rattle.pv_libc.specs.Steps.{Did, with_notes}
use Rattle.pv_libc.specs.Characters.{most, string_from}
use Rattle.pv_libc.proofs.Running.{string_ends, string_next}
use Rattle.pv_libc.proofs.known.plain_string.Goals as goal

pub step-requires-clause-told : goal.step-requires-clause-told
step-requires-clause-told c = c.is_told.ensures c.if-not-is_told.false

pub returns-then-c-eq0 : goal.returns-then-c-eq0
returns-then-c-eq0 c =
    let before : c.loop-i.i < most = omega (arith, c.in_ok-few.ensures.few) in
    let zero : eqb c.in_ok-next.next.character 0 ≡ true = search rules in
    record {
      few = omega (arith, before, c.loop-i.invariant.count);
      is = λ by notes.
          let S = with_notes c.args.memory.now notes in
          let h = c.in_ok-next.ensures.character by notes in
          sym (c.loop-i.invariant.same by notes)
          ∙ string_ends most c.loop-i.i by c.args.given c.loop-i.read.items S before c.loop-i.invariant.count S c.in_ok-next.next.character (sym (ap (λ (d : Did ℕ). d.answer) h)) (sym (ap (λ (d : Did ℕ). d.after) h)) zero;
    }

pub loop-i-preserved : goal.loop-i-preserved
loop-i-preserved c =
    let before : c.loop-i.i < most = omega (arith, c.in_ok-few.ensures.few) in
    let v = c.in_ok-next.next.character in
    let more : eqb v 0 ≡ false = search rules in
    let items : c.push.new.self.items ≡ c.loop-i.read.items ++ v ∷ [] = search rules in
    let longer : length (c.loop-i.read.items ++ v ∷ []) ≡ c.loop-i.i + 1 = omega (arith, length-append c.loop-i.read.items (v ∷ []), c.loop-i.invariant.count) in
    record {
      count = ap (λ (xs : List ℕ). length xs) items ∙ longer;
      known = c.in_ok-next.ensures.behind;
      same = λ by notes.
          let S = with_notes c.args.memory.now notes in
          let h = c.in_ok-next.ensures.character by notes in
          ap (λ (xs : List ℕ). string_from (most - (c.loop-i.i + 1)) by c.args.given xs S) items
          ∙ sym (string_next most c.loop-i.i by c.args.given c.loop-i.read.items S before c.loop-i.invariant.count S v (sym (ap (λ (d : Did ℕ). d.answer) h)) (sym (ap (λ (d : Did ℕ). d.after) h)) more)
          ∙ c.loop-i.invariant.same by notes;
    }
