use Rattle.std.proofs.Common.{sym, ap, ◌∙◌}
use Rattle.pv_check.specs.Open.{state_of}
use Rattle.pv_check.specs.Tags.{enumeration_named}
use Rattle.pv_check.specs.Raw.{tag_meaning_if}
use Rattle.pv_check.proofs.Showing.{look_tag_shown}
use Rattle.pv_check.proofs.tags.enumeration_tag.Goals as goal

pub returns-clause-answer : goal.returns-clause-answer
returns-clause-answer c = λ texts u.
    c.in_ok-r.ensures.answer texts u
    ∙ ap (λ f. enumeration_named f (state_of texts u c.args.s.now c.args.into.now))
    (ap (tag_meaning_if c.args.into.now.known) c.tag_entry-found.ensures ∙ sym (look_tag_shown c.args.into.now.known c.args.s.now.scopes c.args.name))
