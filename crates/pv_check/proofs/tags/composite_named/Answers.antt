use Rattle.std.proofs.Common.{rules, ◌≡◌, Bool, Some, None, sym, ap, ◌∙◌, Option}
use Rattle.std.specs.Bool.{beq}
use Rattle.std.specs.Prelude.{if◌then◌else◌}
use Rattle.pv_types.specs.Ty.{Ty}
use Rattle.pv_types.specs.Layouts.{tag_type}
use Rattle.pv_check.specs.declared.scopes.TagEntry.TheVariants as tag
use Rattle.pv_check.specs.Raw.{tag_meaning_if}
use Rattle.pv_check.specs.State.{After}
use Rattle.pv_check.specs.Open.{state_of}
use Rattle.pv_check.specs.Tags.{composite_named, declared_new}
use Rattle.pv_check.proofs.Opening.{open_goes}
use Rattle.pv_check.proofs.TagRows.{known_after, typed_after}
use Rattle.pv_check.proofs.tags.composite_named.Goals as goal

pub returns-in_ok-t-in-None-clause-answer : goal.returns-in_ok-t-in-None-clause-answer
returns-in_ok-t-in-None-clause-answer c = λ texts u.
    ap Some (typed_after texts u c.declared_new.new.into c.composite_type.new.into c.declared_new.new.s c.args.union c.in_ok-number-in-None.number c.in_ok-t-in-None.t
    (declared_new c.args.name c.args.union (state_of texts u c.args.s.now c.args.into.now)) c.in_ok-number-in-None.ensures.opened c.in_ok-t-in-None.ensures.goes
    c.in_ok-t-in-None.ensures.whole c.in_ok-t-in-None.ensures.tree (c.in_ok-number-in-None.ensures.answer texts u))
    ∙ ap (λ f. composite_named c.args.union c.args.name (tag_meaning_if c.args.into.now.known f) (state_of texts u c.args.s.now c.args.into.now)) (sym c.in-None.is)

pub returns-in_ok-t-in-Some-Composite-clause-opened : goal.returns-in_ok-t-in-Some-Composite-clause-opened
returns-in_ok-t-in-Some-Composite-clause-opened c =
    open_goes c.args.into.now c.composite_type-then-other-union.new.into c.args.s.now c.requires.opened c.in_ok-t-in-Some-Composite.ensures.goes

pub returns-in_ok-t-in-Some-Composite-clause-answer : goal.returns-in_ok-t-in-Some-Composite-clause-answer
returns-in_ok-t-in-Some-Composite-clause-answer c = λ texts u.
    let is : c.args.found ≡ Some (tag.Composite c.in-Some-Composite.number) = search rules in
    let after : Bool → Option (After Ty) = λ b. if b then Some (record { value = tag_type c.is_union-other.result c.in-Some-Composite.number; state = state_of texts u c.args.s.now c.args.into.now }) else None in
    let named : Bool → Option (After Ty) = λ o. if beq o c.args.union then Some (record { value = tag_type o c.in-Some-Composite.number; state = state_of texts u c.args.s.now c.args.into.now }) else None in
    ap Some (known_after texts u c.args.into.now c.composite_type-then-other-union.new.into c.args.s.now (tag_type c.is_union-other.result c.in-Some-Composite.number) c.in_ok-t-in-Some-Composite.t c.requires.opened
    c.in_ok-t-in-Some-Composite.ensures.goes c.in_ok-t-in-Some-Composite.ensures.whole c.in_ok-t-in-Some-Composite.ensures.tree)
    ∙ ap after (sym c.if-other-union.true)
    ∙ ap named c.is_union-other.ensures
    ∙ ap (λ f. composite_named c.args.union c.args.name (tag_meaning_if c.args.into.now.known f) (state_of texts u c.args.s.now c.args.into.now)) (sym is)

pub returns-else-other-union-clause-answer : goal.returns-else-other-union-clause-answer
returns-else-other-union-clause-answer c = λ texts u.
    let is : c.args.found ≡ Some (tag.Composite c.in-Some-Composite.number) = search rules in
    let named : Bool → Option (After Ty) = λ o. if beq o c.args.union then Some (record { value = tag_type o c.in-Some-Composite.number; state = state_of texts u c.args.s.now c.args.into.now }) else None in
    let after : Bool → Option (After Ty) = λ b. if b then Some (record { value = tag_type c.is_union-other.result c.in-Some-Composite.number; state = state_of texts u c.args.s.now c.args.into.now }) else None in
    ap after (sym c.if-other-union.false)
    ∙ ap named c.is_union-other.ensures
    ∙ ap (λ f. composite_named c.args.union c.args.name (tag_meaning_if c.args.into.now.known f) (state_of texts u c.args.s.now c.args.into.now)) (sym is)
