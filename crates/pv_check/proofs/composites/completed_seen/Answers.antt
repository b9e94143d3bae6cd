use Rattle.std.proofs.Common.{◌≡◌, ◌<◌, length, Option, sym, ap, ◌∙◌, rules}
use Rattle.pv_types.specs.Ty.{Ty}
use Rattle.pv_check.specs.Open.{state_of, after_type, IsOpen, Goes}
use Rattle.pv_check.specs.Seeing.{seen_in}
use Rattle.pv_check.specs.Specifiers.{with_type, Seen as WhatIsSeen}
use Rattle.pv_check.specs.State.{After, give}
use Rattle.pv_typed.specs.Constants.{and_then}
use Rattle.pv_check.specs.Tags.{completion_of}
use Rattle.pv_check.proofs.MemberRows.{no_members, has_members}
use Rattle.pv_check.proofs.SeenRows.{named_after, named_known}
use Rattle.pv_check.proofs.SpecifierRows.{there, kept}
use Rattle.pv_check.proofs.composites.completed_seen.Goals as goal

pub returns-then-is_empty-clause-answer : goal.returns-then-is_empty-clause-answer
returns-then-is_empty-clause-answer c = λ texts u.
    let none : length c.args.members.list.items ≡ 0 = search rules in
    no_members c.args.into.now.known c.args.members (state_of texts u c.args.s.now c.args.into.now) _ none

pub returns-in_default-clause-answer : goal.returns-in_default-clause-answer
returns-in_default-clause-answer c = λ texts u.
    let some : 0 < length c.args.members.list.items = search rules in
    let m = c.args.into.now.known in
    let st = state_of texts u c.args.s.now c.args.into.now in
    let k : After Ty → Option (After WhatIsSeen) = λ a. give (with_type (seen_in m c.args.seen) a.value) a.state in
    ap (λ (o : Option (After Ty)). and_then o k) (ap (after_type texts u c.args.s.now c.completed.new.into) (sym c.in_default.is) ∙ c.in_ok-t.ensures.answer texts u)
    ∙ has_members m c.args.members st (λ x. and_then (completion_of c.args.union c.args.name c.args.number x.value x.state) k) some

pub returns-clause-opened : goal.returns-clause-opened
returns-clause-opened c = kept c.with_type.result (there (λ k. IsOpen c.completed.new.into c.args.s.now) c.in-Some.is c.in_ok-t.ensures.opened)

pub returns-clause-goes : goal.returns-clause-goes
returns-clause-goes c = kept c.with_type.result (there (λ k. Goes c.args.into.now c.completed.new.into) c.in-Some.is c.in_ok-t.ensures.goes)

pub returns-clause-known : goal.returns-clause-known
returns-clause-known c = named_known c.completed.new.into.known c.with_type.result c.in-Some.t c.with_type.ensures.named (search rules)

pub returns-clause-answer : goal.returns-clause-answer
returns-clause-answer c = λ texts u.
    let some : 0 < length c.args.members.list.items = search rules in
    let m = c.args.into.now.known in
    let st = state_of texts u c.args.s.now c.args.into.now in
    let k : After Ty → Option (After WhatIsSeen) = λ a. give (with_type (seen_in m c.args.seen) a.value) a.state in
    named_after texts u c.args.into.now c.completed.new.into c.args.s.now c.args.seen c.in-Some.t c.with_type.result _
    (there (λ x. Goes c.args.into.now c.completed.new.into) c.in-Some.is c.in_ok-t.ensures.goes) c.requires.named
    (c.with_type.ensures.value c.completed.new.into.known) (ap (after_type texts u c.args.s.now c.completed.new.into) (sym c.in-Some.is) ∙ c.in_ok-t.ensures.answer texts u)
    ∙ has_members m c.args.members st (λ x. and_then (completion_of c.args.union c.args.name c.args.number x.value x.state) k) some
