use Rattle.std.proofs.Common.{Option, sym, ap, ◌∙◌}
use Rattle.pv_types.specs.Known.{tree}
use Rattle.pv_types.specs.Ty.{Ty}
use Rattle.pv_check.specs.Growing.{type_if}
use Rattle.pv_check.specs.MembersRead.{members_shown}
use Rattle.pv_check.specs.Open.{state_of}
use Rattle.pv_check.specs.Rows.{member_of}
use Rattle.pv_check.specs.State.{give}
use Rattle.pv_typed.specs.Constants.{and_then}
use Rattle.pv_check.specs.Stepping.{steps_in}
use Rattle.pv_check.specs.Tags.{with_member}
use Rattle.pv_check.proofs.Opening.{open_goes}
use Rattle.pv_check.proofs.MemberRows.{member_after, list_known}
use Rattle.pv_check.proofs.composites.member_of.Goals as goal

pub returns-in_default-2-clause-opened : goal.returns-in_default-2-clause-opened
returns-in_default-2-clause-opened c = open_goes c.args.into.now c.derived_in.new.into c.args.s.now c.requires.opened c.in_ok-t.ensures.goes

pub returns-in_default-2-clause-answer : goal.returns-in_default-2-clause-answer
returns-in_default-2-clause-answer c = λ texts u g.
    let st = state_of texts u c.args.s.now c.args.into.now in
    ap (λ (o : Option Ty). and_then o (λ v. give (with_member st (members_shown c.args.into.now.known c.args.members) c.in-Some.name v) st))
    (ap (type_if c.derived_in.new.into.known) (sym c.in_default-2.is) ∙ c.in_ok-t.ensures.tree)
    ∙ ap (λ k. member_of k (tree c.args.into.now.known c.args.base.0) (members_shown c.args.into.now.known c.args.members) (record { value = record { list = steps_in c.args.into.now.known c.args.steps.now; signature = g }; state = st })) (sym c.in-Some.is)

pub with_member-requires-clause-members : goal.with_member-requires-clause-members
with_member-requires-clause-members c = list_known c.args.into.now c.derived_in.new.into c.args.members c.in_ok-t.ensures.goes c.requires.members

pub returns-clause-opened : goal.returns-clause-opened
returns-clause-opened c = open_goes c.args.into.now c.derived_in.new.into c.args.s.now c.requires.opened c.in_ok-t.ensures.goes

pub returns-clause-answer : goal.returns-clause-answer
returns-clause-answer c = λ texts u g.
    let st = state_of texts u c.args.s.now c.args.into.now in
    member_after texts u c.args.into.now c.derived_in.new.into c.args.s.now c.args.members c.in-Some.name c.in-Some-2.t _ c.in_ok-r.r c.requires.opened c.in_ok-t.ensures.goes c.in_ok-t.ensures.whole c.requires.members
    (ap (type_if c.derived_in.new.into.known) (sym c.in-Some-2.is) ∙ c.in_ok-t.ensures.tree) (c.in_ok-r.ensures.answer texts u c.args.s.now)
    ∙ ap (λ k. member_of k (tree c.args.into.now.known c.args.base.0) (members_shown c.args.into.now.known c.args.members) (record { value = record { list = steps_in c.args.into.now.known c.args.steps.now; signature = g }; state = st })) (sym c.in-Some.is)
