use Rattle.std.proofs.Common.{IfSome, Some, false, subst, sym, ap, ◌∙◌}
use Rattle.pv_check.specs.Open.{state_of, TagKnown}
use Rattle.pv_check.specs.Raw.{tag_meaning_if}
use Rattle.pv_typed.specs.Constants.{and_then}
use Rattle.pv_check.specs.Tags.{composite_named}
use Rattle.pv_check.proofs.Opening.{inner_tag_known}
use Rattle.pv_check.proofs.Showing.{inner_tag_shown}
use Rattle.pv_unit.specs.DeclaredIn.{state_on}
use Rattle.pv_unit.proofs.DeclaredRows.{state_of_type}
use Rattle.pv_unit.proofs.declarators.composite_alone.Goals as goal

pub composite_named-requires-clause-found : goal.composite_named-requires-clause-found
composite_named-requires-clause-found c =
    subst (λ o. IfSome o (TagKnown c.args.into.now)) (sym c.inner_tag-found.ensures) (inner_tag_known c.args.into.now c.args.s.now c.args.name c.requires.opened)

pub returns-clause-answer : goal.returns-clause-answer
returns-clause-answer c = λ texts.
    let start = state_of texts false c.args.s.now c.args.into.now in
    ap (state_on texts c.composite_named.new.s c.composite_named.new.into) c.is_some.ensures
    ∙ state_of_type texts c.composite_named.new.s c.composite_named.new.into c.in_ok-r.r
    ∙ ap (λ o. and_then o (λ a. Some a.state)) (c.in_ok-r.ensures.answer texts false
    ∙ ap (λ f. composite_named c.args.union c.args.name f start) (ap (tag_meaning_if c.args.into.now.known) c.inner_tag-found.ensures ∙ sym (inner_tag_shown c.args.into.now.known c.args.s.now.scopes c.args.name c.requires.opened.some)))
