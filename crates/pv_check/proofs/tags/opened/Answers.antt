use Rattle.std.proofs.Common.{IfSome, Some, subst, sym, ap, ◌∙◌}
use Rattle.pv_check.specs.Open.{state_of, TagKnown}
use Rattle.pv_check.specs.Tags.{tag_before_list, opened_named}
use Rattle.pv_check.specs.Raw.{tag_meaning_if}
use Rattle.pv_check.proofs.Opening.{inner_tag_known, open_goes}
use Rattle.pv_check.proofs.TagRows.{unnamed_after}
use Rattle.pv_check.proofs.Showing.{inner_tag_shown}
use Rattle.pv_check.proofs.tags.opened.Goals as goal

pub opened_named-requires-clause-found : goal.opened_named-requires-clause-found
opened_named-requires-clause-found c =
    subst (λ o. IfSome o (TagKnown c.args.into.now)) (sym c.inner_tag-found.ensures) (inner_tag_known c.args.into.now c.args.s.now c.in-Some.n c.requires.opened)

pub returns-in_ok-number-in-None-clause-opened : goal.returns-in_ok-number-in-None-clause-opened
returns-in_ok-number-in-None-clause-opened c = open_goes c.args.into.now c.new_tag.new.into c.args.s.now c.requires.opened c.in_ok-number-in-None.ensures.goes

pub returns-in_ok-number-in-None-clause-answer : goal.returns-in_ok-number-in-None-clause-answer
returns-in_ok-number-in-None-clause-answer c = λ texts u.
    ap Some (unnamed_after texts u c.args.into.now c.new_tag.new.into c.args.s.now c.args.union c.in_ok-number-in-None.number c.requires.opened c.in_ok-number-in-None.ensures.goes c.in_ok-number-in-None.ensures.number c.in_ok-number-in-None.ensures.whole)
    ∙ ap (λ o. tag_before_list c.args.union o (state_of texts u c.args.s.now c.args.into.now)) (sym c.in-None.is)

pub returns-in_ok-r-in-Some-clause-answer : goal.returns-in_ok-r-in-Some-clause-answer
returns-in_ok-r-in-Some-clause-answer c = λ texts u.
    c.in_ok-r-in-Some.ensures.answer texts u
    ∙ ap (λ f. opened_named c.args.union c.in-Some.n f (state_of texts u c.args.s.now c.args.into.now))
    (ap (tag_meaning_if c.args.into.now.known) c.inner_tag-found.ensures ∙ sym (inner_tag_shown c.args.into.now.known c.args.s.now.scopes c.in-Some.n c.requires.opened.some))
    ∙ ap (λ o. tag_before_list c.args.union o (state_of texts u c.args.s.now c.args.into.now)) (sym c.in-Some.is)
