-- Lists of members and of enumerators (C17 6.7.2.1, 6.7.2.2): what each comes to, and that its parts are there.
use Rattle.std.proofs.Common.{◌≡◌, ℕ, ℤ, ◌<◌, ◌≤◌, Bool, true, false, Some, None, Option, List, length, get_or, refl, sym, ap, subst, ◌∙◌, to_z, of_z, rules, arith}
use Rattle.std.specs.Prelude.{if◌then◌else◌}
use Rattle.std.proofs.lemmas.Int.{to_z-of_z}
use Rattle.std.proofs.lemmas.List.{take_all}
use Rattle.std.specs.Int.{w128}
use Rattle.pv_num.specs.declared.kinds.IntKind.TheVariants as kind
use Rattle.pv_tree.specs.declared.nodes.NodeId.{NodeId}
use Rattle.pv_tree.specs.Syntax.{Trees, OfDeclarator}
use Rattle.pv_tree.specs.Tables.{Is, is_expression, list_at, is_declarator, declarator_at, is_specifier, is_declaration, optional_at, tree_at, trees_at, trees_of}
use Rattle.pv_types.specs.declared.terms.TypeId.{TypeId}
use Rattle.pv_types.specs.Known.{tree}
use Rattle.pv_types.specs.Layouts.{Named}
use Rattle.pv_types.specs.Ty.{Ty, IntTy}
use Rattle.pv_check.specs.declared.derivations.Step.{Step}
use Rattle.pv_check.specs.Declarators.{after_steps, after_value, signature_if, steps_shown, StepsKnown}
use Rattle.pv_check.specs.Derivations.{Steps as WholeSteps, declared_name}
use Rattle.pv_check.specs.MembersRead.{members_shown, after_members, AreMembers}
use Rattle.pv_check.specs.Open.{state_of, IsOpen, Goes, HasTag, after_number, after_type}
use Rattle.pv_check.specs.Rows.{member_of}
use Rattle.pv_check.specs.Seeing.{seen_in}
use Rattle.pv_check.specs.Specifiers.{Seen as WhatIsSeen, with_type}
use Rattle.pv_check.specs.State.{State, After, give}
use Rattle.pv_typed.specs.Constants.{and_then}
use Rattle.pv_check.specs.Stepping.{steps_in, AreSteps}
use Rattle.pv_check.specs.Tags.{closed_enumeration, completion_of, enumerator_step}
use Rattle.pv_check.specs.TagParts.{some_members}
use Rattle.pv_check.specs.Typing.{members, member_in, member_declarators, member_declarator, enumerators, enumerator_in, enumerator_value}
use Rattle.pv_check.proofs.Descending.{above_all, has_at, list_above, lower_at}
use Rattle.pv_check.proofs.ListRows.{one_more, none_in, if_goes, has_within, declarator_is, value_at}
use Rattle.pv_check.proofs.MemberRows.{list_known, list_stays}
use Rattle.pv_check.proofs.Opening.{has_tag_stays, then_goes}
use Rattle.pv_check.proofs.SeenRows.{is_type, seen_stays, type_known}
use Rattle.pv_check.proofs.SpecifierRows.{kept, there}
use Rattle.pv_check.proofs.TypeNameRows.{no_type, with_type_then}
use Rattle.pv_check.proofs.+typed.Goals as goal

abbrev first : NodeId
first = record { 0 = 0 }

pub listed::composite_listed-returns-in_default-clause-answer : goal.listed::composite_listed-returns-in_default-clause-answer
listed::composite_listed-returns-in_default-clause-answer t c =
    ap (λ (o : Option (After ℕ)). and_then o (λ (o : After ℕ). and_then (and_then (members (trees_at c.args.u.now.forest c.args.list) o.state) some_members) (λ m. and_then (completion_of c.args.union c.args.tag o.value m.value m.state) (λ a. give (with_type (seen_in c.args.into.now.known c.args.seen) a.value) a.state)))) (ap (after_number c.args.t.now.texts c.args.unevaluated c.opened.new.s c.opened.new.into) (sym c.in_default.is) ∙ c.in_ok-number.ensures.answer c.args.t.now.texts c.args.unevaluated)

pub listed::composite_listed-returns-in_default-2-clause-answer : goal.listed::composite_listed-returns-in_default-2-clause-answer
listed::composite_listed-returns-in_default-2-clause-answer t c =
    ap (λ (o : Option (After (List Named))). and_then (and_then o some_members) (λ (m : After (List Named)). and_then (completion_of c.args.union c.args.tag c.in-Some.number m.value m.state) (λ a. give (with_type (seen_in c.args.into.now.known c.args.seen) a.value) a.state))) (ap (after_members c.args.t.now.texts c.args.unevaluated c.members.new.s c.members.new.into) (sym c.in_default-2.is) ∙ c.in_ok-ms.ensures.answer)
    ∙ ap (λ (o : Option (After ℕ)). and_then o (λ (o : After ℕ). and_then (and_then (members (trees_at c.args.u.now.forest c.args.list) o.state) some_members) (λ m. and_then (completion_of c.args.union c.args.tag o.value m.value m.state) (λ a. give (with_type (seen_in c.args.into.now.known c.args.seen) a.value) a.state)))) (ap (after_number c.args.t.now.texts c.args.unevaluated c.opened.new.s c.opened.new.into) (sym c.in-Some.is) ∙ c.in_ok-number.ensures.answer c.args.t.now.texts c.args.unevaluated)

pub listed::composite_listed-completed_seen-requires-clause-tag : goal.listed::composite_listed-completed_seen-requires-clause-tag
listed::composite_listed-completed_seen-requires-clause-tag t c =
    has_tag_stays c.opened.new.into c.members.new.into (there (λ x. Goes c.opened.new.into c.members.new.into) c.in-Some-2.is c.in_ok-ms.ensures.goes) c.args.union c.in-Some.number (there (λ n. HasTag c.opened.new.into c.args.union n) c.in-Some.is c.in_ok-number.ensures.known)

pub listed::composite_listed-completed_seen-requires-clause-named : goal.listed::composite_listed-completed_seen-requires-clause-named
listed::composite_listed-completed_seen-requires-clause-named t c =
    type_known c.args.into.now c.members.new.into c.args.seen.named (then_goes c.args.into.now c.opened.new.into c.members.new.into c.in_ok-number.ensures.goes (there (λ x. Goes c.opened.new.into c.members.new.into) c.in-Some-2.is c.in_ok-ms.ensures.goes)) c.requires.named

pub listed::composite_listed-returns-clause-goes : goal.listed::composite_listed-returns-clause-goes
listed::composite_listed-returns-clause-goes t c =
    if_goes c.in_ok-r.r c.args.into.now c.members.new.into c.completed_seen.new.into (then_goes c.args.into.now c.opened.new.into c.members.new.into c.in_ok-number.ensures.goes (there (λ x. Goes c.opened.new.into c.members.new.into) c.in-Some-2.is c.in_ok-ms.ensures.goes)) c.in_ok-r.ensures.goes

pub listed::composite_listed-returns-clause-answer : goal.listed::composite_listed-returns-clause-answer
listed::composite_listed-returns-clause-answer t c =
    let goes = then_goes c.args.into.now c.opened.new.into c.members.new.into c.in_ok-number.ensures.goes (there (λ x. Goes c.opened.new.into c.members.new.into) c.in-Some-2.is c.in_ok-ms.ensures.goes) in
    c.in_ok-r.ensures.answer c.args.t.now.texts c.args.unevaluated
    ∙ ap (λ (x : WhatIsSeen). and_then (some_members (record { value = members_shown c.members.new.into.known c.in-Some-2.ms; state = (state_of c.args.t.now.texts c.args.unevaluated c.members.new.s c.members.new.into) })) (λ m. and_then (completion_of c.args.union c.args.tag c.in-Some.number m.value m.state) (λ a. give (with_type x a.value) a.state))) (seen_stays c.args.into.now c.members.new.into c.args.seen goes c.requires.named)
    ∙ ap (λ (o : Option (After (List Named))). and_then (and_then o some_members) (λ (m : After (List Named)). and_then (completion_of c.args.union c.args.tag c.in-Some.number m.value m.state) (λ a. give (with_type (seen_in c.args.into.now.known c.args.seen) a.value) a.state))) (ap (after_members c.args.t.now.texts c.args.unevaluated c.members.new.s c.members.new.into) (sym c.in-Some-2.is) ∙ c.in_ok-ms.ensures.answer)
    ∙ ap (λ (o : Option (After ℕ)). and_then o (λ (o : After ℕ). and_then (and_then (members (trees_at c.args.u.now.forest c.args.list) o.state) some_members) (λ m. and_then (completion_of c.args.union c.args.tag o.value m.value m.state) (λ a. give (with_type (seen_in c.args.into.now.known c.args.seen) a.value) a.state)))) (ap (after_number c.args.t.now.texts c.args.unevaluated c.opened.new.s c.opened.new.into) (sym c.in-Some.is) ∙ c.in_ok-number.ensures.answer c.args.t.now.texts c.args.unevaluated)

pub listed::members-returns-in_default-clause-answer : goal.listed::members-returns-in_default-clause-answer
listed::members-returns-in_default-clause-answer t c =
    let f = c.args.u.now.forest in
    let a : After (List Named) = record { value = members_shown c.loop-i.into.known c.loop-i.ms; state = (state_of c.args.t.now.texts c.args.unevaluated c.loop-i.s c.loop-i.into) } in
    none_in members member_in (λ before x z. refl) f c.args.list c.list-nodes.result.now c.loop-i.i first (state_of c.args.t.now.texts c.args.unevaluated c.args.s.now c.args.into.now) a c.list-nodes.ensures c.loop-i-test.true c.loop-i.invariant.4 (ap (after_members c.args.t.now.texts c.args.unevaluated c.member.new.s c.member.new.into) (sym c.in_default.is) ∙ c.in_ok-more.ensures.answer)

pub listed::members-loop-i-preserved : goal.listed::members-loop-i-preserved
listed::members-loop-i-preserved t c =
    let f = c.args.u.now.forest in
    let s = (state_of c.args.t.now.texts c.args.unevaluated c.args.s.now c.args.into.now) in
    let a : After (List Named) = record { value = members_shown c.loop-i.into.known c.loop-i.ms; state = (state_of c.args.t.now.texts c.args.unevaluated c.loop-i.s c.loop-i.into) } in
    let goes : Goes c.loop-i.into c.member.new.into = there (λ x. Goes c.loop-i.into c.member.new.into) c.in-Some.is c.in_ok-more.ensures.goes in (
      omega (arith, c.loop-i-test.true),
      there (λ x. IsOpen c.member.new.into c.member.new.s) c.in-Some.is c.in_ok-more.ensures.opened,
      then_goes c.args.into.now c.loop-i.into c.member.new.into c.loop-i.invariant.2 goes,
      there (AreMembers c.member.new.into.known) c.in-Some.is c.in_ok-more.ensures.members,
      ap (after_members c.args.t.now.texts c.args.unevaluated c.member.new.s c.member.new.into) (sym c.in-Some.is) ∙ c.in_ok-more.ensures.answer ∙ one_more members member_in (λ before x z. refl) f c.list-nodes.result.now c.loop-i.i first s a c.loop-i-test.true c.loop-i.invariant.4,
    )

pub listed::member-returns-in_default-clause-answer : goal.listed::member-returns-in_default-clause-answer
listed::member-returns-in_default-clause-answer t c =
    let f = c.args.u.now.forest in
    no_type (trees_at f c.in-Member.specs) (state_of c.args.t.now.texts c.args.unevaluated c.args.s.now c.args.into.now) (λ (b : After Ty). member_declarators (trees_at f c.in-Member.declarators) b.value (members_shown c.args.into.now.known c.args.before) b.state) (ap (after_type c.args.t.now.texts c.args.unevaluated c.specified_type.new.s c.specified_type.new.into) (sym c.in_default.is) ∙ c.in_ok-base-in-Member.ensures.answer)
    ∙ ap (λ x. member_in x (record { value = (members_shown c.args.into.now.known c.args.before); state = (state_of c.args.t.now.texts c.args.unevaluated c.args.s.now c.args.into.now) })) (sym c.in-Member.ensures.tree)

pub listed::member-returns-in_ok-r-in-Member-clause-goes : goal.listed::member-returns-in_ok-r-in-Member-clause-goes
listed::member-returns-in_ok-r-in-Member-clause-goes t c =
    if_goes c.in_ok-r-in-Member.r c.args.into.now c.specified_type.new.into c.member_declarators.new.into (there (λ k. Goes c.args.into.now c.specified_type.new.into) c.in-Some.is c.in_ok-base-in-Member.ensures.goes) c.in_ok-r-in-Member.ensures.goes

pub listed::member-returns-in_ok-r-in-Member-clause-answer : goal.listed::member-returns-in_ok-r-in-Member-clause-answer
listed::member-returns-in_ok-r-in-Member-clause-answer t c =
    let f = c.args.u.now.forest in
    let st = (state_of c.args.t.now.texts c.args.unevaluated c.specified_type.new.s c.specified_type.new.into) in
    c.in_ok-r-in-Member.ensures.answer
    ∙ ap (λ ms. member_declarators (trees_at f c.in-Member.declarators) (tree c.specified_type.new.into.known c.in-Some.base.0) ms st) (list_stays c.args.into.now c.specified_type.new.into c.args.before (there (λ k. Goes c.args.into.now c.specified_type.new.into) c.in-Some.is c.in_ok-base-in-Member.ensures.goes) c.requires.members)
    ∙ with_type_then (trees_at f c.in-Member.specs) (state_of c.args.t.now.texts c.args.unevaluated c.args.s.now c.args.into.now) (λ (b : After Ty). member_declarators (trees_at f c.in-Member.declarators) b.value (members_shown c.args.into.now.known c.args.before) b.state) (record { value = tree c.specified_type.new.into.known c.in-Some.base.0; state = st }) (ap (after_type c.args.t.now.texts c.args.unevaluated c.specified_type.new.s c.specified_type.new.into) (sym c.in-Some.is) ∙ c.in_ok-base-in-Member.ensures.answer)
    ∙ ap (λ x. member_in x (record { value = (members_shown c.args.into.now.known c.args.before); state = (state_of c.args.t.now.texts c.args.unevaluated c.args.s.now c.args.into.now) })) (sym c.in-Member.ensures.tree)

pub listed::member_declarators-returns-in_default-clause-answer : goal.listed::member_declarators-returns-in_default-clause-answer
listed::member_declarators-returns-in_default-clause-answer t c =
    let f = c.args.u.now.forest in
    let a : After (List Named) = record { value = members_shown c.loop-i.into.known c.loop-i.ms; state = (state_of c.args.t.now.texts c.args.unevaluated c.loop-i.s c.loop-i.into) } in
    none_in (λ (ts : Trees) (z : State). member_declarators ts (tree c.args.into.now.known c.args.base.0) (members_shown c.args.into.now.known c.args.before) z) (member_declarator (tree c.args.into.now.known c.args.base.0)) (λ before x z. refl) f c.args.list c.list-nodes.result.now c.loop-i.i first (state_of c.args.t.now.texts c.args.unevaluated c.args.s.now c.args.into.now) a c.list-nodes.ensures c.loop-i-test.true c.loop-i.invariant.4 (ap (after_members c.args.t.now.texts c.args.unevaluated c.member_declarator.new.s c.member_declarator.new.into) (sym c.in_default.is) ∙ c.in_ok-more.ensures.answer ∙ ap (λ (v : Ty). member_declarator v (tree_at f (get_or c.list-nodes.result.now c.loop-i.i first)) a) (c.loop-i.invariant.2.grown.types c.args.base.0 c.requires.base))

pub listed::member_declarators-loop-i-preserved : goal.listed::member_declarators-loop-i-preserved
listed::member_declarators-loop-i-preserved t c =
    let f = c.args.u.now.forest in
    let s = (state_of c.args.t.now.texts c.args.unevaluated c.args.s.now c.args.into.now) in
    let a : After (List Named) = record { value = members_shown c.loop-i.into.known c.loop-i.ms; state = (state_of c.args.t.now.texts c.args.unevaluated c.loop-i.s c.loop-i.into) } in
    let goes : Goes c.loop-i.into c.member_declarator.new.into = there (λ x. Goes c.loop-i.into c.member_declarator.new.into) c.in-Some.is c.in_ok-more.ensures.goes in (
      omega (arith, c.loop-i-test.true),
      there (λ x. IsOpen c.member_declarator.new.into c.member_declarator.new.s) c.in-Some.is c.in_ok-more.ensures.opened,
      then_goes c.args.into.now c.loop-i.into c.member_declarator.new.into c.loop-i.invariant.2 goes,
      there (AreMembers c.member_declarator.new.into.known) c.in-Some.is c.in_ok-more.ensures.members,
      ap (after_members c.args.t.now.texts c.args.unevaluated c.member_declarator.new.s c.member_declarator.new.into) (sym c.in-Some.is) ∙ c.in_ok-more.ensures.answer ∙ ap (λ (v : Ty). member_declarator v (tree_at f (get_or c.list-nodes.result.now c.loop-i.i first)) a) (c.loop-i.invariant.2.grown.types c.args.base.0 c.requires.base) ∙ one_more (λ (ts : Trees) (z : State). member_declarators ts (tree c.args.into.now.known c.args.base.0) (members_shown c.args.into.now.known c.args.before) z) (member_declarator (tree c.args.into.now.known c.args.base.0)) (λ before x z. refl) f c.list-nodes.result.now c.loop-i.i first s a c.loop-i-test.true c.loop-i.invariant.4,
    )

pub listed::member_declarator-returns-in_default-clause-answer : goal.listed::member_declarator-returns-in_default-clause-answer
listed::member_declarator-returns-in_default-clause-answer t c =
    let f = c.args.u.now.forest in
    let at : tree_at f c.args.n ≡ OfDeclarator (declarator_at f c.args.n) = declarator_is (tree_at f c.args.n) c.requires.node.1 in
    ap (λ (o : Option (After WholeSteps)). and_then o (member_of (declared_name (declarator_at f c.args.n)) (tree c.args.into.now.known c.args.base.0) (members_shown c.args.into.now.known c.args.before))) (ap (after_steps c.args.t.now.texts c.args.unevaluated c.steps_of.new.s c.steps_of.new.into) (sym c.in_default.is) ∙ c.in_ok-steps.ensures.answer)
    ∙ ap (λ x. member_declarator (tree c.args.into.now.known c.args.base.0) x (record { value = (members_shown c.args.into.now.known c.args.before); state = (state_of c.args.t.now.texts c.args.unevaluated c.args.s.now c.args.into.now) })) (sym at)

pub listed::member_declarator-member_of-requires-clause-base : goal.listed::member_declarator-member_of-requires-clause-base
listed::member_declarator-member_of-requires-clause-base t c =
    type_known c.args.into.now c.steps_of.new.into (Some c.args.base) (there (λ k. Goes c.args.into.now c.steps_of.new.into) c.in-Some.is c.in_ok-steps.ensures.goes) c.requires.base

pub listed::member_declarator-member_of-requires-clause-steps : goal.listed::member_declarator-member_of-requires-clause-steps
listed::member_declarator-member_of-requires-clause-steps t c =
    subst (AreSteps c.steps_of.new.into.known) (sym c.deref.ensures.value) (there (StepsKnown c.steps_of.new.into) c.in-Some.is c.in_ok-steps.ensures.known).0

pub listed::member_declarator-member_of-requires-clause-members : goal.listed::member_declarator-member_of-requires-clause-members
listed::member_declarator-member_of-requires-clause-members t c =
    list_known c.args.into.now c.steps_of.new.into c.args.before (there (λ k. Goes c.args.into.now c.steps_of.new.into) c.in-Some.is c.in_ok-steps.ensures.goes) c.requires.members

pub listed::member_declarator-returns-clause-goes : goal.listed::member_declarator-returns-clause-goes
listed::member_declarator-returns-clause-goes t c =
    kept c.in_ok-r.r (then_goes c.args.into.now c.steps_of.new.into c.member_of.new.into (there (λ k. Goes c.args.into.now c.steps_of.new.into) c.in-Some.is c.in_ok-steps.ensures.goes) c.in_ok-r.ensures.goes)

pub listed::member_declarator-returns-clause-answer : goal.listed::member_declarator-returns-clause-answer
listed::member_declarator-returns-clause-answer t c =
    let f = c.args.u.now.forest in
    let at : tree_at f c.args.n ≡ OfDeclarator (declarator_at f c.args.n) = declarator_is (tree_at f c.args.n) c.requires.node.1 in
    let goes : Goes c.args.into.now c.steps_of.new.into = (there (λ k. Goes c.args.into.now c.steps_of.new.into) c.in-Some.is c.in_ok-steps.ensures.goes) in
    let k = c.steps_of.new.into.known in
    let st = (state_of c.args.t.now.texts c.args.unevaluated c.steps_of.new.s c.steps_of.new.into) in
    c.in_ok-r.ensures.answer c.args.t.now.texts c.args.unevaluated (signature_if k c.in-Some.steps.signature)
    ∙ ap (λ (xs : List Step). member_of c.declared_name-named.result (tree k c.args.base.0) (members_shown k c.args.before) (record { value = record { list = steps_in k xs; signature = signature_if k c.in-Some.steps.signature }; state = st })) c.deref.ensures.value
    ∙ ap (λ o. member_of o (tree k c.args.base.0) (members_shown k c.args.before) (record { value = steps_shown k c.in-Some.steps; state = st })) c.declared_name-named.ensures
    ∙ ap (λ (v : Ty). member_of (declared_name (declarator_at f c.args.n)) v (members_shown k c.args.before) (record { value = steps_shown k c.in-Some.steps; state = st })) (goes.grown.types c.args.base.0 c.requires.base)
    ∙ ap (λ ms. member_of (declared_name (declarator_at f c.args.n)) (tree c.args.into.now.known c.args.base.0) ms (record { value = steps_shown k c.in-Some.steps; state = st })) (list_stays c.args.into.now c.steps_of.new.into c.args.before goes c.requires.members)
    ∙ ap (λ (o : Option (After WholeSteps)). and_then o (member_of (declared_name (declarator_at f c.args.n)) (tree c.args.into.now.known c.args.base.0) (members_shown c.args.into.now.known c.args.before))) (ap (after_steps c.args.t.now.texts c.args.unevaluated c.steps_of.new.s c.steps_of.new.into) (sym c.in-Some.is) ∙ c.in_ok-steps.ensures.answer)
    ∙ ap (λ x. member_declarator (tree c.args.into.now.known c.args.base.0) x (record { value = (members_shown c.args.into.now.known c.args.before); state = (state_of c.args.t.now.texts c.args.unevaluated c.args.s.now c.args.into.now) })) (sym at)

pub listed::enumeration_listed-returns-then-not-branch-clause-answer : goal.listed::enumeration_listed-returns-then-not-branch-clause-answer
listed::enumeration_listed-returns-then-not-branch-clause-answer t c =
    let no : c.in_ok-opened_enumeration.field-0 ≡ false = search rules in
    ap (λ (o : Option State). and_then o (λ (o : State). and_then (enumerators (trees_at c.args.u.now.forest c.args.list) o) (λ e. give (with_type (seen_in c.args.into.now.known c.args.seen) (IntTy kind.Int)) (closed_enumeration c.args.tag e.state)))) (ap (λ (b : Bool). if b then Some (state_of c.args.t.now.texts c.args.unevaluated c.opened_enumeration.new.s c.args.into.now) else None) (sym no) ∙ c.in_ok-opened_enumeration.ensures.answer c.args.t.now.texts c.args.unevaluated)

pub listed::enumeration_listed-returns-in_default-clause-answer : goal.listed::enumeration_listed-returns-in_default-clause-answer
listed::enumeration_listed-returns-in_default-clause-answer t c =
    let yes : c.in_ok-opened_enumeration.field-0 ≡ true = search rules in
    ap (λ (o : Option (After ℤ)). and_then o (λ (e : After ℤ). give (with_type (seen_in c.args.into.now.known c.args.seen) (IntTy kind.Int)) (closed_enumeration c.args.tag e.state))) (ap (after_value c.args.t.now.texts c.args.unevaluated c.enumerators.new.s c.enumerators.new.into) (sym c.in_default.is) ∙ c.in_ok-_last.ensures.answer)
    ∙ ap (λ (o : Option State). and_then o (λ (o : State). and_then (enumerators (trees_at c.args.u.now.forest c.args.list) o) (λ e. give (with_type (seen_in c.args.into.now.known c.args.seen) (IntTy kind.Int)) (closed_enumeration c.args.tag e.state)))) (ap (λ (b : Bool). if b then Some (state_of c.args.t.now.texts c.args.unevaluated c.opened_enumeration.new.s c.args.into.now) else None) (sym yes) ∙ c.in_ok-opened_enumeration.ensures.answer c.args.t.now.texts c.args.unevaluated)

pub listed::enumeration_listed-enumeration_seen-requires-clause-named : goal.listed::enumeration_listed-enumeration_seen-requires-clause-named
listed::enumeration_listed-enumeration_seen-requires-clause-named t c =
    type_known c.args.into.now c.enumerators.new.into c.args.seen.named (there (λ x. Goes c.args.into.now c.enumerators.new.into) c.in-Some.is c.in_ok-_last.ensures.goes) c.requires.named

pub listed::enumeration_listed-returns-clause-goes : goal.listed::enumeration_listed-returns-clause-goes
listed::enumeration_listed-returns-clause-goes t c =
    kept c.in_ok-r.r (then_goes c.args.into.now c.enumerators.new.into c.enumeration_seen.new.into (there (λ x. Goes c.args.into.now c.enumerators.new.into) c.in-Some.is c.in_ok-_last.ensures.goes) c.in_ok-r.ensures.goes)

pub listed::enumeration_listed-returns-clause-answer : goal.listed::enumeration_listed-returns-clause-answer
listed::enumeration_listed-returns-clause-answer t c =
    let yes : c.in_ok-opened_enumeration.field-0 ≡ true = search rules in
    c.in_ok-r.ensures.answer c.args.t.now.texts c.args.unevaluated
    ∙ ap (λ (x : WhatIsSeen). give (with_type x (IntTy kind.Int)) (closed_enumeration c.args.tag (state_of c.args.t.now.texts c.args.unevaluated c.enumerators.new.s c.enumerators.new.into))) (seen_stays c.args.into.now c.enumerators.new.into c.args.seen (there (λ x. Goes c.args.into.now c.enumerators.new.into) c.in-Some.is c.in_ok-_last.ensures.goes) c.requires.named)
    ∙ ap (λ (o : Option (After ℤ)). and_then o (λ (e : After ℤ). give (with_type (seen_in c.args.into.now.known c.args.seen) (IntTy kind.Int)) (closed_enumeration c.args.tag e.state))) (ap (after_value c.args.t.now.texts c.args.unevaluated c.enumerators.new.s c.enumerators.new.into) (sym c.in-Some.is) ∙ c.in_ok-_last.ensures.answer)
    ∙ ap (λ (o : Option State). and_then o (λ (o : State). and_then (enumerators (trees_at c.args.u.now.forest c.args.list) o) (λ e. give (with_type (seen_in c.args.into.now.known c.args.seen) (IntTy kind.Int)) (closed_enumeration c.args.tag e.state)))) (ap (λ (b : Bool). if b then Some (state_of c.args.t.now.texts c.args.unevaluated c.opened_enumeration.new.s c.args.into.now) else None) (sym yes) ∙ c.in_ok-opened_enumeration.ensures.answer c.args.t.now.texts c.args.unevaluated)

pub listed::enumerators-returns-in_default-clause-answer : goal.listed::enumerators-returns-in_default-clause-answer
listed::enumerators-returns-in_default-clause-answer t c =
    let f = c.args.u.now.forest in
    let a : After ℤ = record { value = to_z w128 c.loop-i.next-bits; state = (state_of c.args.t.now.texts c.args.unevaluated c.loop-i.s c.loop-i.into) } in
    none_in enumerators enumerator_in (λ before x z. refl) f c.args.list c.list-nodes.result.now c.loop-i.i first (state_of c.args.t.now.texts c.args.unevaluated c.args.s.now c.args.into.now) a c.list-nodes.ensures c.loop-i-test.true c.loop-i.invariant.3 (ap (after_value c.args.t.now.texts c.args.unevaluated c.enumerator.new.s c.enumerator.new.into) (sym c.in_default.is) ∙ c.in_ok-more.ensures.answer)

pub listed::enumerators-loop-i-preserved : goal.listed::enumerators-loop-i-preserved
listed::enumerators-loop-i-preserved t c =
    let f = c.args.u.now.forest in
    let s = (state_of c.args.t.now.texts c.args.unevaluated c.args.s.now c.args.into.now) in
    let a : After ℤ = record { value = to_z w128 c.loop-i.next-bits; state = (state_of c.args.t.now.texts c.args.unevaluated c.loop-i.s c.loop-i.into) } in
    let goes : Goes c.loop-i.into c.enumerator.new.into = there (λ x. Goes c.loop-i.into c.enumerator.new.into) c.in-Some.is c.in_ok-more.ensures.goes in (
      omega (arith, c.loop-i-test.true),
      there (λ x. IsOpen c.enumerator.new.into c.enumerator.new.s) c.in-Some.is c.in_ok-more.ensures.opened,
      then_goes c.args.into.now c.loop-i.into c.enumerator.new.into c.loop-i.invariant.2 goes,
      ap (λ (v : ℤ). Some (record { value = v; state = (state_of c.args.t.now.texts c.args.unevaluated c.enumerator.new.s c.enumerator.new.into) })) (to_z-of_z w128 c.in-Some.more (search rules)) ∙ ap (after_value c.args.t.now.texts c.args.unevaluated c.enumerator.new.s c.enumerator.new.into) (sym c.in-Some.is) ∙ c.in_ok-more.ensures.answer ∙ one_more enumerators enumerator_in (λ before x z. refl) f c.list-nodes.result.now c.loop-i.i first s a c.loop-i-test.true c.loop-i.invariant.3,
    )

pub listed::enumerators-returns-clause-answer : goal.listed::enumerators-returns-clause-answer
listed::enumerators-returns-clause-answer t c =
    let f = c.args.u.now.forest in
    let le : length c.list-nodes.result.now ≤ c.loop-i.i = c.loop-i-test.false in
    c.loop-i.invariant.3
    ∙ ap (λ xs. enumerators (trees_of f xs) (state_of c.args.t.now.texts c.args.unevaluated c.args.s.now c.args.into.now)) (take_all c.loop-i.i c.list-nodes.result.now le ∙ c.list-nodes.ensures)

pub listed::enumerator_value-returns-in-None-clause-answer : goal.listed::enumerator_value-returns-in-None-clause-answer
listed::enumerator_value-returns-in-None-clause-answer t c =
    let f = c.args.u.now.forest in
    ap (λ (v : ℤ). Some (record { value = v; state = (state_of c.args.t.now.texts c.args.unevaluated c.args.s.now c.args.into.now) })) (to_z-of_z w128 c.args.next c.ranges.next)
    ∙ ap (λ o. enumerator_value (optional_at f o) c.args.next (state_of c.args.t.now.texts c.args.unevaluated c.args.s.now c.args.into.now)) (sym c.in-None.is)

pub listed::enumerator-returns-in_default-clause-answer : goal.listed::enumerator-returns-in_default-clause-answer
listed::enumerator-returns-in_default-clause-answer t c =
    let f = c.args.u.now.forest in
    ap (λ (o : Option (After ℤ)). and_then o (λ (b : After ℤ). enumerator_step c.in-Enumerator.name b.value b.state)) (ap (after_value c.args.t.now.texts c.args.unevaluated c.enumerator_value.new.s c.enumerator_value.new.into) (sym c.in_default.is) ∙ c.in_ok-k-in-Enumerator.ensures.answer ∙ ap (λ (v : ℤ). enumerator_value (optional_at f c.in-Enumerator.value) v (state_of c.args.t.now.texts c.args.unevaluated c.args.s.now c.args.into.now)) (to_z-of_z w128 c.args.next c.ranges.next))
    ∙ ap (λ x. enumerator_in x (record { value = c.args.next; state = (state_of c.args.t.now.texts c.args.unevaluated c.args.s.now c.args.into.now) })) (sym c.in-Enumerator.ensures.tree)

pub listed::enumerator-returns-in_ok-r-in-Enumerator-clause-goes : goal.listed::enumerator-returns-in_ok-r-in-Enumerator-clause-goes
listed::enumerator-returns-in_ok-r-in-Enumerator-clause-goes t c =
    kept c.in_ok-r-in-Enumerator.r (there (λ k. Goes c.args.into.now c.enumerator_value.new.into) c.in-Some.is c.in_ok-k-in-Enumerator.ensures.goes)

pub listed::enumerator-returns-in_ok-r-in-Enumerator-clause-answer : goal.listed::enumerator-returns-in_ok-r-in-Enumerator-clause-answer
listed::enumerator-returns-in_ok-r-in-Enumerator-clause-answer t c =
    let f = c.args.u.now.forest in
    let k : to_z w128 (of_z w128 c.in-Some.k) ≡ c.in-Some.k = to_z-of_z w128 c.in-Some.k (search rules) in
    c.in_ok-r-in-Enumerator.ensures.answer c.args.t.now.texts c.args.unevaluated
    ∙ ap (λ (v : ℤ). enumerator_step c.in-Enumerator.name v (state_of c.args.t.now.texts c.args.unevaluated c.enumerator_value.new.s c.enumerator_value.new.into)) k
    ∙ ap (λ (o : Option (After ℤ)). and_then o (λ (b : After ℤ). enumerator_step c.in-Enumerator.name b.value b.state)) (ap (after_value c.args.t.now.texts c.args.unevaluated c.enumerator_value.new.s c.enumerator_value.new.into) (sym c.in-Some.is) ∙ c.in_ok-k-in-Enumerator.ensures.answer ∙ ap (λ (v : ℤ). enumerator_value (optional_at f c.in-Enumerator.value) v (state_of c.args.t.now.texts c.args.unevaluated c.args.s.now c.args.into.now)) (to_z-of_z w128 c.args.next c.ranges.next))
    ∙ ap (λ x. enumerator_in x (record { value = c.args.next; state = (state_of c.args.t.now.texts c.args.unevaluated c.args.s.now c.args.into.now) })) (sym c.in-Enumerator.ensures.tree)

pub listed::enumerators-enumerator-requires : goal.listed::enumerators-enumerator-requires
listed::enumerators-enumerator-requires t c =
    let f = c.args.u.now.forest in
    let low = lower_at f c.args.list c.list-nodes.result.now c.loop-i.i first c.list-nodes.ensures c.loop-i-test.true in
    let node = has_at f is_declaration (length f.trees) c.args.list c.list-nodes.result.now c.loop-i.i first c.list-nodes.ensures c.requires.list c.loop-i-test.true in
    (omega (arith, c.decreases, low), (node, c.loop-i.invariant.1))

pub listed::members-member-requires : goal.listed::members-member-requires
listed::members-member-requires t c =
    let f = c.args.u.now.forest in
    let low = lower_at f c.args.list c.list-nodes.result.now c.loop-i.i first c.list-nodes.ensures c.loop-i-test.true in
    let node = has_at f is_declaration (length f.trees) c.args.list c.list-nodes.result.now c.loop-i.i first c.list-nodes.ensures c.requires.list c.loop-i-test.true in
    (omega (arith, c.decreases, low), (node, (c.loop-i.invariant.1, c.loop-i.invariant.3)))

pub listed::member_declarators-member_declarator-requires : goal.listed::member_declarators-member_declarator-requires
listed::member_declarators-member_declarator-requires t c =
    let f = c.args.u.now.forest in
    let low = lower_at f c.args.list c.list-nodes.result.now c.loop-i.i first c.list-nodes.ensures c.loop-i-test.true in
    let node = has_at f is_declarator (length f.trees) c.args.list c.list-nodes.result.now c.loop-i.i first c.list-nodes.ensures c.requires.list c.loop-i-test.true in
    (omega (arith, c.decreases, low), (node, (c.loop-i.invariant.1, (type_known c.args.into.now c.loop-i.into (Some c.args.base) c.loop-i.invariant.2 c.requires.base, c.loop-i.invariant.3))))

pub listed::member-specified_type-requires : goal.listed::member-specified_type-requires
listed::member-specified_type-requires t c =
    let f = c.args.u.now.forest in
    let ch = c.in-Member.ensures.children.0 in
    let lower : above_all (list_at f c.in-Member.specs) ≤ c.args.n.0 = list_above f is_specifier c.args.n.0 c.in-Member.specs ch in
    (omega (arith, c.decreases, lower), (has_within f is_specifier c.args.n.0 (length f.trees) c.in-Member.specs c.requires.node.0 ch, c.requires.opened))

pub listed::member-member_declarators-requires : goal.listed::member-member_declarators-requires
listed::member-member_declarators-requires t c =
    let f = c.args.u.now.forest in
    let ch = c.in-Member.ensures.children.1 in
    let lower : above_all (list_at f c.in-Member.declarators) ≤ c.args.n.0 = list_above f is_declarator c.args.n.0 c.in-Member.declarators ch in
    (omega (arith, c.decreases, lower), (has_within f is_declarator c.args.n.0 (length f.trees) c.in-Member.declarators c.requires.node.0 ch, (there (λ k. IsOpen c.specified_type.new.into c.specified_type.new.s) c.in-Some.is c.in_ok-base-in-Member.ensures.opened, (there (λ (x : TypeId). x.0 < length c.specified_type.new.into.known.terms) c.in-Some.is (is_type c.specified_type.new.into.known _ c.in_ok-base-in-Member.ensures.known), list_known c.args.into.now c.specified_type.new.into c.args.before (there (λ k. Goes c.args.into.now c.specified_type.new.into) c.in-Some.is c.in_ok-base-in-Member.ensures.goes) c.requires.members))))

pub listed::enumerator_value-returns-in_ok-r-in-Some-clause-answer : goal.listed::enumerator_value-returns-in_ok-r-in-Some-clause-answer
listed::enumerator_value-returns-in_ok-r-in-Some-clause-answer t c =
    c.in_ok-r-in-Some.ensures.answer ∙ value_at c.args.u.now.forest c.args.value c.in-Some.n c.args.next (state_of c.args.t.now.texts c.args.unevaluated c.args.s.now c.args.into.now) c.in-Some.is (there (λ n. Is c.args.u.now is_expression n) c.in-Some.is c.requires.node).1
