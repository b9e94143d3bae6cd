use Rattle.std.proofs.Common.{rules, [], ◌≡◌, ℕ, Bool, true, Some, None, sym, ap, ◌∙◌, Option}
use Rattle.std.specs.Prelude.{if◌then◌else◌}
use Rattle.pv_check.specs.declared.scopes.TagEntry.TheVariants as tag
use Rattle.pv_check.specs.Raw.{tag_meaning_if}
use Rattle.pv_check.specs.State.{After}
use Rattle.pv_check.specs.Open.{state_of}
use Rattle.pv_check.specs.Tags.{opened_named}
use Rattle.pv_check.proofs.TagRows.{same_kind_known}
use Rattle.pv_check.proofs.tags.opened_named.Goals as goal

pub returns-in_ok-number-in-None-clause-answer : goal.returns-in_ok-number-in-None-clause-answer
returns-in_ok-number-in-None-clause-answer c = λ texts u.
    ap Some (c.in_ok-number-in-None.ensures.answer texts u)
    ∙ ap (λ f. opened_named c.args.union c.args.name (tag_meaning_if c.args.into.now.known f) (state_of texts u c.args.s.now c.args.into.now)) (sym c.in-None.is)

pub returns-then-may_open-clause-answer : goal.returns-then-may_open-clause-answer
returns-then-may_open-clause-answer c = λ texts u.
    let is : c.args.found ≡ Some (tag.Composite c.in-Some-Composite.number) = search rules in
    let after : Bool → Option (After ℕ) = λ b. if b then Some (record { value = c.in-Some-Composite.number; state = state_of texts u c.args.s.now c.args.into.now }) else None in
    ap after (sym c.if-may_open.true ∙ c.may_open.ensures texts u c.args.s.now)
    ∙ ap (λ f. opened_named c.args.union c.args.name (tag_meaning_if c.args.into.now.known f) (state_of texts u c.args.s.now c.args.into.now)) (sym is)

pub returns-else-may_open-clause-answer : goal.returns-else-may_open-clause-answer
returns-else-may_open-clause-answer c = λ texts u.
    let is : c.args.found ≡ Some (tag.Composite c.in-Some-Composite.number) = search rules in
    let after : Bool → Option (After ℕ) = λ b. if b then Some (record { value = c.in-Some-Composite.number; state = state_of texts u c.args.s.now c.args.into.now }) else None in
    ap after (sym c.if-may_open.false ∙ c.may_open.ensures texts u c.args.s.now)
    ∙ ap (λ f. opened_named c.args.union c.args.name (tag_meaning_if c.args.into.now.known f) (state_of texts u c.args.s.now c.args.into.now)) (sym is)

pub returns-then-may_open-clause-known : goal.returns-then-may_open-clause-known
returns-then-may_open-clause-known c =
    let is : c.args.found ≡ Some (tag.Composite c.in-Some-Composite.number) = search rules in
    same_kind_known c.args.into.now c.args.found c.args.union c.in-Some-Composite.number _ c.requires.found is
    (sym (c.may_open.ensures [] true c.args.s.now) ∙ c.if-may_open.true)
