use Rattle.std.proofs.Common.{rules, ◌≡◌, ◌<◌, ◌+◌, ◌-◌, ℕ, List, [], ◌∷◌, ◌++◌, Ok, Err, sym, ap, ◌∙◌, subst}
use Rattle.pv_object.proofs.Later.{later_both, reach_later}
use Rattle.pv_libc.specs.Steps.{Did, with_notes}
use Rattle.pv_libc.specs.Answers.{OrNoMemory}
use Rattle.pv_libc.specs.Characters.{character_in, characters_from}
use Rattle.pv_libc.proofs.Running.{characters_stop, characters_next}
use Rattle.pv_libc.proofs.blocks.characters.Goals as goal

pub returns-in-Err-clause-answer : goal.returns-in-Err-clause-answer
returns-in-Err-clause-answer c =
    let before : c.loop-i.i < c.args.n = search rules in
    let a = c.args.at.now.address in
    let at = with_notes c.loop-i.memory c.loop-i.notes.items in
    let end = with_notes c.character_in.new.memory c.character_in.new.notes.items in
    let place : c.within-place.result.address ≡ a + c.loop-i.i = ap (λ r. r.address) c.within-place.ensures in
    let Q : ℕ → Type 0 = λ b. OrNoMemory (Err c.in-Err.stop) end (character_in c.args.given b at) in
    let P : Did (List ℕ) → Type 0 = λ d. OrNoMemory (Err c.in-Err.stop) end d in
    subst P c.loop-i.invariant.same (characters_stop c.args.n c.loop-i.i a c.args.given c.loop-i.read.items at before end c.in-Err.stop (subst Q place c.in-Err.ensures.answer))

pub loop-i-preserved : goal.loop-i-preserved
loop-i-preserved c =
    let before : c.loop-i.i < c.args.n = search rules in
    let a = c.args.at.now.address in
    let i = c.loop-i.i in
    let at = with_notes c.loop-i.memory c.loop-i.notes.items in
    let after = with_notes c.character_in.new.memory c.character_in.new.notes.items in
    let place : c.within-place.result.address ≡ a + i = ap (λ r. r.address) c.within-place.ensures in
    let Q : ℕ → Type 0 = λ b. OrNoMemory (Ok c.in-Ok.c) after (character_in c.args.given b at) in
    let got : OrNoMemory (Ok c.in-Ok.c) after (character_in c.args.given (a + i) at) = subst Q place c.in-Ok.ensures.answer in
    let items : c.push.new.self.items ≡ c.loop-i.read.items ++ c.in-Ok.c ∷ [] = search rules in
    let on = characters_next c.args.n i a c.args.given c.loop-i.read.items at before after c.in-Ok.c got.0 got.1 in
    record {
      same = ap (λ (xs : List ℕ). characters_from (c.args.n - (i + 1)) c.args.given (a + (i + 1)) xs after) items ∙ sym on ∙ c.loop-i.invariant.same;
      reached = reach_later _ _ c.args.at.now c.args.n c.character_in.ensures.later c.loop-i.invariant.reached;
      later = later_both _ _ _ c.loop-i.invariant.later c.character_in.ensures.later;
    }
