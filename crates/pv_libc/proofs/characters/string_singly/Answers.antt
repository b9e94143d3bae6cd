use Rattle.std.proofs.Common.{rules, ◌≡◌, ◌<◌, ◌+◌, ◌-◌, ℕ, List, [], ◌∷◌, ◌++◌, length, eqb, true, false, Ok, Err, refl, sym, ap, ◌∙◌, subst, arith, length-append}
use Rattle.pv_object.proofs.Later.{made_later, later_both}
use Rattle.pv_libc.specs.Steps.{Did, with_notes}
use Rattle.pv_libc.specs.Answers.{OrNoMemory}
use Rattle.pv_libc.specs.Characters.{most, string_from}
use Rattle.pv_libc.proofs.Running.{string_stops, string_ends, string_next}
use Rattle.pv_libc.proofs.characters.string_singly.Goals as goal

pub returns-in-Err-clause-answer : goal.returns-in-Err-clause-answer
returns-in-Err-clause-answer c =
    let before : c.loop-i.i < most = search rules in
    let at = with_notes c.loop-i.memory c.loop-i.notes.items in
    let end = with_notes c.character_at.new.memory c.character_at.new.notes.items in
    let P : Did (List ℕ) → Type 0 = λ d. OrNoMemory (Err c.in-Err.stop) end d in
    subst P c.loop-i.invariant.same (string_stops most c.loop-i.i c.args.by c.args.given c.loop-i.read.items at before c.loop-i.invariant.count end c.in-Err.stop c.in-Err.ensures.answer)

pub loop-i-preserved : goal.loop-i-preserved
loop-i-preserved c =
    let before : c.loop-i.i < most = search rules in
    let more : eqb c.in-Ok.c 0 ≡ false = search rules in
    let items : c.push.new.self.items ≡ c.loop-i.read.items ++ c.in-Ok.c ∷ [] = search rules in
    let at = with_notes c.loop-i.memory c.loop-i.notes.items in
    let after = with_notes c.character_at.new.memory c.character_at.new.notes.items in
    let on = string_next most c.loop-i.i c.args.by c.args.given c.loop-i.read.items at before c.loop-i.invariant.count after c.in-Ok.c c.in-Ok.ensures.answer.0 c.in-Ok.ensures.answer.1 more in
    let longer : length (c.loop-i.read.items ++ c.in-Ok.c ∷ []) ≡ c.loop-i.i + 1 = omega (arith, length-append c.loop-i.read.items (c.in-Ok.c ∷ []), c.loop-i.invariant.count) in
    record {
      count = ap (λ (xs : List ℕ). length xs) items ∙ longer;
      same = ap (λ (xs : List ℕ). string_from (most - (c.loop-i.i + 1)) c.args.by c.args.given xs after) items ∙ sym on ∙ c.loop-i.invariant.same;
      made = made_later _ _ c.args.given.pointer.prov c.character_at.ensures.later c.loop-i.invariant.made;
      later = later_both _ _ _ c.loop-i.invariant.later c.character_at.ensures.later;
    }

pub returns-in-Ok-eq0-clause-answer : goal.returns-in-Ok-eq0-clause-answer
returns-in-Ok-eq0-clause-answer c =
    let before : c.loop-i.i < most = search rules in
    let zero : eqb c.in-Ok-eq0.field-0 0 ≡ true = search rules in
    let at = with_notes c.loop-i.memory c.loop-i.notes.items in
    let end = with_notes c.character_at.new.memory c.character_at.new.notes.items in
    let here = string_ends most c.loop-i.i c.args.by c.args.given c.loop-i.read.items at before c.loop-i.invariant.count end c.in-Ok-eq0.field-0 c.in-Ok-eq0.ensures.answer.0 c.in-Ok-eq0.ensures.answer.1 zero in
    let P : Did (List ℕ) → Type 0 = λ d. OrNoMemory (Ok c.loop-i.read.items) end d in
    subst P (sym here ∙ c.loop-i.invariant.same) (refl, refl)
