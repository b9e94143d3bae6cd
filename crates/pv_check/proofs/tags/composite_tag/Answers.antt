use Rattle.std.proofs.Common.{IfSome, subst, sym, ap, ◌∙◌}
use Rattle.pv_check.specs.Open.{state_of, TagKnown}
use Rattle.pv_check.specs.Tags.{composite_named}
use Rattle.pv_check.specs.Raw.{tag_meaning_if}
use Rattle.pv_check.proofs.Opening.{look_tag_known}
use Rattle.pv_check.proofs.Showing.{look_tag_shown}
use Rattle.pv_check.proofs.tags.composite_tag.Goals as goal

pub composite_named-requires-clause-found : goal.composite_named-requires-clause-found
composite_named-requires-clause-found c =
    subst (λ o. IfSome o (TagKnown c.args.into.now)) (sym c.tag_entry-found.ensures) (look_tag_known c.args.into.now c.args.s.now.scopes c.args.name c.requires.opened.scopes)

pub returns-clause-answer : goal.returns-clause-answer
returns-clause-answer c = λ texts u.
    c.in_ok-r.ensures.answer texts u
    ∙ ap (λ f. composite_named c.args.union c.args.name f (state_of texts u c.args.s.now c.args.into.now))
    (ap (tag_meaning_if c.args.into.now.known) c.tag_entry-found.ensures ∙ sym (look_tag_shown c.args.into.now.known c.args.s.now.scopes c.args.name))
