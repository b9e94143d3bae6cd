use Rattle.std.proofs.Common.{rules, subst, ◌≡◌, ◌<◌, ◌≤◌, ℕ, List, length, slice_index_or, true, false, ◌∙◌, sym, ap, arith}
use Rattle.pv_check.specs.Open.{state_of}
use Rattle.pv_check.specs.Raw.{Raw}
use Rattle.pv_unit.specs.Definitions.{is_finished}
use Rattle.pv_unit.specs.Entering.{entity_of, no_entity}
use Rattle.pv_unit.specs.There.{IsThere}
use Rattle.pv_unit.proofs.Ends.{not_finished, one_finished, all_finished, there_at}
use Rattle.pv_unit.proofs.ending.are_finished.Goals as goal

pub is_finished-requires-clause-there : goal.is_finished-requires-clause-there
is_finished-requires-clause-there c =
    let es = c.args.entities.now in
    let lt : c.loop-i.i < length es = omega arith in
    subst (IsThere c.args.into.now) (sym c.at.ensures) (there_at c.args.into.now es c.loop-i.i (entity_of no_entity) lt c.requires.there)

pub loop-i-preserved : goal.loop-i-preserved
loop-i-preserved c = λ (texts : List (List ℕ)) (s : Raw).
    let es = c.args.entities.now in
    let st = state_of texts false s c.args.into.now in
    let lt : c.loop-i.i < length es = omega arith in
    let yes : c.is_finished.result ≡ true = search rules in
    let here : is_finished st (slice_index_or es c.loop-i.i (entity_of no_entity)) ≡ true = ap (is_finished st) (sym c.at.ensures) ∙ (sym (c.is_finished.ensures texts s) ∙ yes) in
    one_finished st es c.loop-i.i (entity_of no_entity) lt here ∙ c.loop-i.invariant texts s

pub returns-then-not-is_finished : goal.returns-then-not-is_finished
returns-then-not-is_finished c = λ (texts : List (List ℕ)) (s : Raw).
    let es = c.args.entities.now in
    let st = state_of texts false s c.args.into.now in
    let lt : c.loop-i.i < length es = omega arith in
    let no : c.is_finished.result ≡ false = search rules in
    let here : is_finished st (slice_index_or es c.loop-i.i (entity_of no_entity)) ≡ false = ap (is_finished st) (sym c.at.ensures) ∙ (sym (c.is_finished.ensures texts s) ∙ no) in
    sym (sym (c.loop-i.invariant texts s) ∙ not_finished st es c.loop-i.i (entity_of no_entity) lt here)

pub returns : goal.returns
returns c = λ (texts : List (List ℕ)) (s : Raw).
    let es = c.args.entities.now in
    let le : length es ≤ c.loop-i.i = omega arith in
    sym (sym (c.loop-i.invariant texts s) ∙ all_finished (state_of texts false s c.args.into.now) es c.loop-i.i le)
