use Rattle.std.proofs.Common.{rules, ◌≡◌, ◌∙◌, ◌<◌, ◌≤◌, ℕ, List, Some, length, slice_index_or, true, false, sym, ap, arith}
use Rattle.pv_check.specs.Open.{state_of}
use Rattle.pv_unit.specs.Entering.{entity_of, no_entity}
use Rattle.pv_unit.specs.Redeclarations.{Entity}
use Rattle.pv_unit.specs.Units.{is_unresolved}
use Rattle.pv_unit.proofs.Resolutions.{none_unresolved, resolved_next, unresolved_here}
use Rattle.pv_unit.proofs.resolving.unresolved.Goals as goal

pub returns-then-is_unresolved : goal.returns-then-is_unresolved
returns-then-is_unresolved c = λ (texts : List (List ℕ)).
    let es = c.args.outer.now.entities in
    let st = state_of texts false c.args.s.now c.args.into.now in
    let lt : c.loop-i.i < length es = omega arith in
    let is : c.is_unresolved.result ≡ true = search rules in
    let here : is_unresolved st (slice_index_or es c.loop-i.i (entity_of no_entity)) ≡ true = ap (is_unresolved st) (sym c.at-e.ensures) ∙ (sym (c.is_unresolved.ensures texts) ∙ is) in
    ap (λ (e : Entity). Some e.name) c.at-e.ensures ∙ unresolved_here st es c.loop-i.i (entity_of no_entity) lt here ∙ c.loop-i.invariant texts

pub loop-i-preserved : goal.loop-i-preserved
loop-i-preserved c = λ (texts : List (List ℕ)).
    let es = c.args.outer.now.entities in
    let st = state_of texts false c.args.s.now c.args.into.now in
    let lt : c.loop-i.i < length es = omega arith in
    let is : c.is_unresolved.result ≡ false = search rules in
    let here : is_unresolved st (slice_index_or es c.loop-i.i (entity_of no_entity)) ≡ false = ap (is_unresolved st) (sym c.at-e.ensures) ∙ (sym (c.is_unresolved.ensures texts) ∙ is) in
    resolved_next st es c.loop-i.i (entity_of no_entity) lt here ∙ c.loop-i.invariant texts

pub returns : goal.returns
returns c = λ (texts : List (List ℕ)).
    let es = c.args.outer.now.entities in
    let le : length es ≤ c.loop-i.i = omega arith in
    none_unresolved (state_of texts false c.args.s.now c.args.into.now) es c.loop-i.i le ∙ c.loop-i.invariant texts
