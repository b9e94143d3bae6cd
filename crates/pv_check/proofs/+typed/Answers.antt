mod Lists
use Rattle.std.proofs.Common.{◌≡◌, ℕ, ℤ, ◌<◌, ◌≤◌, ◌+◌, ◌-◌, ◌*◌, ◌^◌, true, false, Some, Option, List, [], ◌∷◌, ◌++◌, IfOk, length, map, get_or, refl, sym, ap, subst, ◌∙◌, to_z, of_z, w32, rules, arith}
use Rattle.std.proofs.lemmas.Int.{to_z-of_z}
use Rattle.std.proofs.lemmas.List.{map-append}
use Rattle.std.specs.Int.{w128}
use Rattle.pv_tree.specs.declared.nodes.NodeId.{NodeId}
use Rattle.pv_tree.specs.TreeLines.{tree_line}
use Rattle.pv_tree.specs.Nodes.{specifier_of}
use Rattle.pv_tree.specs.Syntax.{Name, Number, Character, Text, Call, Member, Arrow, Present, PostIncrement, PostDecrement, PreIncrement, PreDecrement, Unary, Index, Binary, Assign, Comma, Conditional, DeclarationTree, TypeName}
use Rattle.pv_tree.specs.Tables.{Is, HasList, is_expression, list_at, is_declarator, as_expression, expression_at as expression_of_node, as_specifier, specifier_at, is_specifier, is_declaration, optional_at, tree_at, trees_at, arguments_at, as_declaration, declaration_at}
use Rattle.pv_types.specs.declared.terms.TypeId.{TypeId}
use Rattle.pv_types.specs.Known.{env, tree}
use Rattle.pv_types.specs.Ty.{Ty}
use Rattle.pv_typed.specs.Known.{Each}
use Rattle.pv_typed.specs.NodeTrees.{expression_at, IsExpression}
use Rattle.pv_typed.specs.TypedTree.{TypedTree}
use Rattle.pv_typed.proofs.Each.{each_append}
use Rattle.pv_check.specs.declared.derivations.Step.{Step}
use Rattle.pv_check.specs.declared.parameters.Parameter.{Parameter}
use Rattle.pv_check.specs.Arms.{after_node, OpenIf}
use Rattle.pv_check.specs.Declarators.{after_steps, after_value, after_parameter, after_parameters, parameter_shown, parameters_shown, signature_if, steps_shown, ParameterKnown, StepsKnown}
use Rattle.pv_check.specs.Derivations.{size_of, Parameter as WholeParameter, Steps as WholeSteps, derived_type, optional_name}
use Rattle.pv_check.specs.Forms.{with_pointer}
use Rattle.pv_check.specs.Growing.{IsType}
use Rattle.pv_check.specs.ListedRows.{list_of}
use Rattle.pv_check.specs.Open.{state_of, IsOpen, Goes, after_type}
use Rattle.pv_check.specs.Passing.{after_nodes}
use Rattle.pv_check.specs.RowParts.{with_argument, call, known_size, parameter_of, by_function, pointed_callee}
use Rattle.pv_check.specs.Rows.{Callee, operand}
use Rattle.pv_check.specs.Seeing.{seen_in}
use Rattle.pv_check.specs.SeenAfter.{after_seen}
use Rattle.pv_check.specs.Specifiers.{Seen as WhatIsSeen}
use Rattle.pv_check.specs.State.{After, give}
use Rattle.pv_typed.specs.Constants.{and_then}
use Rattle.pv_check.specs.Stepping.{steps_in, AreSteps}
use Rattle.pv_check.specs.Typing.{types, arguments, optional_steps, type_named, specifier, specifiers, specifier_in, parameters, parameter_in}
use Rattle.pv_check.specs.WordRows.{total}
use Rattle.pv_check.proofs.ArmLaws.{arrow_one, goes_trans, goes_then_kept}
use Rattle.pv_check.specs.Callees.{after_callee, callee_in, AreCalled}
use Rattle.pv_check.proofs.CallRows.{called_there, callee_known, callee_stays, named_callee, valued_callee}
use Rattle.pv_check.proofs.DeclaratorRows.{more_known, known_kept, shown_kept}
use Rattle.pv_check.proofs.FormRows.{array_form, function_behind, listed, no_size, none_within, pointer_form, sized}
use Rattle.pv_check.proofs.Descending.{above, above_all, has_at, list_above, lower_at, optional_above, optional_inside}
use Rattle.pv_check.proofs.Leaving.{as_deep}
use Rattle.pv_check.proofs.ListRows.{one_more, none_in, argument_more, no_argument_in, if_goes, has_within, declarator_is, size_at}
use Rattle.pv_check.proofs.NodeRows.{typed_as}
use Rattle.pv_check.proofs.Opening.{open_goes, same_goes, then_goes}
use Rattle.pv_check.proofs.ParameterRows.{parameters_known, parameters_stay}
use Rattle.pv_check.proofs.PassingRows.{nodes_known, nodes_stay}
use Rattle.pv_check.proofs.SeenRows.{is_type, type_known}
use Rattle.pv_check.proofs.SpecifierRows.{kept, specifier_tree, there}
use Rattle.pv_check.proofs.TypeNameRows.{no_base, no_type, none_named, some_named, specified_after, with_type_then}
use Rattle.pv_check.proofs.+typed.Goals as goal
use Rattle.pv_check.proofs.+typed.Answers.Lists as lists

abbrev first : NodeId
first = record { 0 = 0 }

pub expressions::cast_to-returns-clause-goes : goal.expressions::cast_to-returns-clause-goes
expressions::cast_to-returns-clause-goes t c = kept c.in_ok-r.r (goes_then_kept _ _ _ (goes_trans _ _ _ (there (λ v. Goes _ _) c.in-Some.is c.in_ok-x.ensures.goes) (there (λ v. Goes _ _) c.in-Some-2.is c.in_ok-y.ensures.goes)) c.in_ok-r.ensures.kept)

pub expressions::measured-returns-clause-goes : goal.expressions::measured-returns-clause-goes
expressions::measured-returns-clause-goes t c = kept c.in_ok-r.r (goes_then_kept _ _ _ (there (λ v. Goes _ _) c.in-Some.is c.in_ok-x.ensures.goes) c.in_ok-r.ensures.kept)

pub expressions::of_one-returns-clause-goes : goal.expressions::of_one-returns-clause-goes
expressions::of_one-returns-clause-goes t c = kept c.in_ok-r.r (goes_then_kept _ _ _ (there (λ v. Goes _ _) c.in-Some.is c.in_ok-x.ensures.goes) c.in_ok-r.ensures.kept)

pub expressions::of_two-returns-clause-goes : goal.expressions::of_two-returns-clause-goes
expressions::of_two-returns-clause-goes t c = kept c.in_ok-r.r (goes_then_kept _ _ _ (goes_trans _ _ _ (there (λ v. Goes _ _) c.in-Some.is c.in_ok-x.ensures.goes) (there (λ v. Goes _ _) c.in-Some-2.is c.in_ok-y.ensures.goes)) c.in_ok-r.ensures.kept)

pub expressions::of_three-returns-clause-goes : goal.expressions::of_three-returns-clause-goes
expressions::of_three-returns-clause-goes t c = kept c.in_ok-r.r (goes_then_kept _ _ _ (goes_trans _ _ _ (there (λ v. Goes _ _) c.in-Some.is c.in_ok-x.ensures.goes) (goes_trans _ _ _ (there (λ v. Goes _ _) c.in-Some-2.is c.in_ok-y.ensures.goes) (there (λ v. Goes _ _) c.in-Some-3.is c.in_ok-z.ensures.goes))) c.in_ok-r.ensures.kept)

pub expressions::operand-returns-clause-goes : goal.expressions::operand-returns-clause-goes
expressions::operand-returns-clause-goes t c = kept c.in_ok-r.r (goes_then_kept _ _ _ (there (λ v. Goes _ _) c.in-Some.is c.in_ok-x.ensures.goes) c.in_ok-r.ensures.kept)

pub expressions::typed-returns-in-PostIncrement-clause-typed : goal.expressions::typed-returns-in-PostIncrement-clause-typed
expressions::typed-returns-in-PostIncrement-clause-typed t c =
    typed_as c.args.t.now.texts c.args.hidden c.args.s.now c.of_one-in-PostIncrement.new.s c.args.into.now c.of_one-in-PostIncrement.new.into c.of_one-in-PostIncrement.result (ap as_expression c.in-PostIncrement.ensures.tree ∙ ap (λ (l : ℕ). PostIncrement l (expression_of_node c.args.u.now.forest c.in-PostIncrement.a)) (sym c.line-line.ensures)) c.of_one-in-PostIncrement.ensures.typed

pub expressions::typed-returns-in-PostDecrement-clause-typed : goal.expressions::typed-returns-in-PostDecrement-clause-typed
expressions::typed-returns-in-PostDecrement-clause-typed t c =
    typed_as c.args.t.now.texts c.args.hidden c.args.s.now c.of_one-in-PostDecrement.new.s c.args.into.now c.of_one-in-PostDecrement.new.into c.of_one-in-PostDecrement.result (ap as_expression c.in-PostDecrement.ensures.tree ∙ ap (λ (l : ℕ). PostDecrement l (expression_of_node c.args.u.now.forest c.in-PostDecrement.a)) (sym c.line-line.ensures)) c.of_one-in-PostDecrement.ensures.typed

pub expressions::typed-returns-in-PreIncrement-clause-typed : goal.expressions::typed-returns-in-PreIncrement-clause-typed
expressions::typed-returns-in-PreIncrement-clause-typed t c =
    typed_as c.args.t.now.texts c.args.hidden c.args.s.now c.of_one-in-PreIncrement.new.s c.args.into.now c.of_one-in-PreIncrement.new.into c.of_one-in-PreIncrement.result (ap as_expression c.in-PreIncrement.ensures.tree ∙ ap (λ (l : ℕ). PreIncrement l (expression_of_node c.args.u.now.forest c.in-PreIncrement.a)) (sym c.line-line.ensures)) c.of_one-in-PreIncrement.ensures.typed

pub expressions::typed-returns-in-PreDecrement-clause-typed : goal.expressions::typed-returns-in-PreDecrement-clause-typed
expressions::typed-returns-in-PreDecrement-clause-typed t c =
    typed_as c.args.t.now.texts c.args.hidden c.args.s.now c.of_one-in-PreDecrement.new.s c.args.into.now c.of_one-in-PreDecrement.new.into c.of_one-in-PreDecrement.result (ap as_expression c.in-PreDecrement.ensures.tree ∙ ap (λ (l : ℕ). PreDecrement l (expression_of_node c.args.u.now.forest c.in-PreDecrement.a)) (sym c.line-line.ensures)) c.of_one-in-PreDecrement.ensures.typed

pub expressions::typed-returns-in-Unary-clause-typed : goal.expressions::typed-returns-in-Unary-clause-typed
expressions::typed-returns-in-Unary-clause-typed t c =
    typed_as c.args.t.now.texts c.args.hidden c.args.s.now c.of_one-in-Unary.new.s c.args.into.now c.of_one-in-Unary.new.into c.of_one-in-Unary.result (ap as_expression c.in-Unary.ensures.tree ∙ ap (λ (l : ℕ). Unary l c.in-Unary.op (expression_of_node c.args.u.now.forest c.in-Unary.a)) (sym c.line-line.ensures)) c.of_one-in-Unary.ensures.typed

pub expressions::typed-returns-in-Index-clause-typed : goal.expressions::typed-returns-in-Index-clause-typed
expressions::typed-returns-in-Index-clause-typed t c =
    typed_as c.args.t.now.texts c.args.hidden c.args.s.now c.of_two.new.s c.args.into.now c.of_two.new.into c.of_two.result (ap as_expression c.in-Index.ensures.tree ∙ ap (λ (l : ℕ). Index l (expression_of_node c.args.u.now.forest c.in-Index.a) (expression_of_node c.args.u.now.forest c.in-Index.b)) (sym c.line-line.ensures)) c.of_two.ensures.typed

pub expressions::typed-returns-in-Comma-clause-typed : goal.expressions::typed-returns-in-Comma-clause-typed
expressions::typed-returns-in-Comma-clause-typed t c =
    typed_as c.args.t.now.texts c.args.hidden c.args.s.now c.of_two-in-Comma.new.s c.args.into.now c.of_two-in-Comma.new.into c.of_two-in-Comma.result (ap as_expression c.in-Comma.ensures.tree ∙ ap (λ (l : ℕ). Comma l (expression_of_node c.args.u.now.forest c.in-Comma.a) (expression_of_node c.args.u.now.forest c.in-Comma.b)) (sym c.line-line.ensures)) c.of_two-in-Comma.ensures.typed

pub expressions::typed-returns-in-Binary-clause-typed : goal.expressions::typed-returns-in-Binary-clause-typed
expressions::typed-returns-in-Binary-clause-typed t c =
    typed_as c.args.t.now.texts c.args.hidden c.args.s.now c.of_two-in-Binary.new.s c.args.into.now c.of_two-in-Binary.new.into c.of_two-in-Binary.result (ap as_expression c.in-Binary.ensures.tree ∙ ap (λ (l : ℕ). Binary l c.in-Binary.op (expression_of_node c.args.u.now.forest c.in-Binary.a) (expression_of_node c.args.u.now.forest c.in-Binary.b)) (sym c.line-line.ensures)) c.of_two-in-Binary.ensures.typed

pub expressions::typed-returns-in-Assign-clause-typed : goal.expressions::typed-returns-in-Assign-clause-typed
expressions::typed-returns-in-Assign-clause-typed t c =
    typed_as c.args.t.now.texts c.args.hidden c.args.s.now c.of_two-in-Assign.new.s c.args.into.now c.of_two-in-Assign.new.into c.of_two-in-Assign.result (ap as_expression c.in-Assign.ensures.tree ∙ ap (λ (l : ℕ). Assign l c.in-Assign.op (expression_of_node c.args.u.now.forest c.in-Assign.a) (expression_of_node c.args.u.now.forest c.in-Assign.b)) (sym c.line-line.ensures)) c.of_two-in-Assign.ensures.typed

pub expressions::typed-returns-in-Conditional-clause-typed : goal.expressions::typed-returns-in-Conditional-clause-typed
expressions::typed-returns-in-Conditional-clause-typed t c =
    typed_as c.args.t.now.texts c.args.hidden c.args.s.now c.of_three.new.s c.args.into.now c.of_three.new.into c.of_three.result (ap as_expression c.in-Conditional.ensures.tree ∙ ap (λ (l : ℕ). Conditional l (expression_of_node c.args.u.now.forest c.in-Conditional.a) (expression_of_node c.args.u.now.forest c.in-Conditional.b) (expression_of_node c.args.u.now.forest c.in-Conditional.c)) (sym c.line-line.ensures)) c.of_three.ensures.typed

pub expressions::typed-returns-in-Name-clause-typed : goal.expressions::typed-returns-in-Name-clause-typed
expressions::typed-returns-in-Name-clause-typed t c =
    typed_as c.args.t.now.texts c.args.hidden c.args.s.now c.name.new.s c.args.into.now c.name.new.into c.name.result (ap as_expression c.in-Name.ensures.tree ∙ ap (λ (l : ℕ). Name l c.in-Name.n) (sym c.line-line.ensures)) (c.name.ensures.typed c.args.t.now.texts)

pub expressions::typed-returns-in-Number-clause-typed : goal.expressions::typed-returns-in-Number-clause-typed
expressions::typed-returns-in-Number-clause-typed t c =
    typed_as c.args.t.now.texts c.args.hidden c.args.s.now c.args.s.now c.args.into.now c.number.new.into c.number.result (ap as_expression c.in-Number.ensures.tree ∙ ap (λ (l : ℕ). Number l c.in-Number.value c.in-Number.decimal c.in-Number.unsigned c.in-Number.longs) (sym c.line-line.ensures)) (c.number.ensures.typed c.args.t.now.texts)

pub expressions::typed-returns-in-Character-clause-typed : goal.expressions::typed-returns-in-Character-clause-typed
expressions::typed-returns-in-Character-clause-typed t c =
    let e : to_z w32 (of_z w32 c.in-Character.value) ≡ c.in-Character.value = to_z-of_z w32 c.in-Character.value (search rules) in
    typed_as c.args.t.now.texts c.args.hidden c.args.s.now c.args.s.now c.args.into.now c.letter.new.into c.letter.result (ap as_expression c.in-Character.ensures.tree ∙ ap (λ (l : ℕ). Character l c.in-Character.value) (sym c.line-line.ensures) ∙ ap (λ (n : ℤ). Character c.line-line.result n) (sym e)) (c.letter.ensures.typed c.args.t.now.texts)

pub expressions::typed-returns-in-Text-clause-typed : goal.expressions::typed-returns-in-Text-clause-typed
expressions::typed-returns-in-Text-clause-typed t c =
    typed_as c.args.t.now.texts c.args.hidden c.args.s.now c.args.s.now c.args.into.now c.text.new.into c.text.result (ap as_expression c.in-Text.ensures.tree ∙ ap (λ (l : ℕ). Text l c.in-Text.first c.in-Text.more) (sym c.line-line.ensures)) c.text.ensures.typed

pub expressions::sizeof_named-returns-clause-goes : goal.expressions::sizeof_named-returns-clause-goes
expressions::sizeof_named-returns-clause-goes t c = kept c.in_ok-r.r (goes_then_kept _ _ _ (there (λ v. Goes _ _) c.in-Some.is c.in_ok-x.ensures.goes) c.in_ok-r.ensures.kept)

pub type_names::type_named-returns-in-Some-clause-typed : goal.type_names::type_named-returns-in-Some-clause-typed
type_names::type_named-returns-in-Some-clause-typed t c =
    let f = c.args.u.now.forest in
    let z = state_of c.args.t.now.texts c.args.hidden c.args.s.now c.args.into.now in
    let line = tree_line (tree_at f c.args.n) in
    let at : declaration_at f c.args.n ≡ TypeName line (trees_at f c.in-TypeName.specs) (optional_at f c.in-TypeName.declarator) = ap as_declaration c.in-TypeName.ensures.tree in
    let P : Option (After Ty) → Type 0 = λ x. IfOk c.word_type.result (λ r. after_type c.args.t.now.texts c.args.hidden c.args.s.now c.word_type.new.into r ≡ x) in
    subst P (sym (ap (λ d. type_named d z) at ∙ c.in-Some.ensures line z)) (c.word_type.ensures.answer c.args.t.now.texts c.args.hidden)

pub type_names::type_named-returns-in-None-clause-typed : goal.type_names::type_named-returns-in-None-clause-typed
type_names::type_named-returns-in-None-clause-typed t c =
    let f = c.args.u.now.forest in
    let line = tree_line (tree_at f c.args.n) in
    let at : declaration_at f c.args.n ≡ TypeName line (trees_at f c.in-TypeName.specs) (optional_at f c.in-TypeName.declarator) = ap as_declaration c.in-TypeName.ensures.tree in
    let P : DeclarationTree → Type 0 = λ x. IfOk c.type_name.result (λ r. after_type c.args.t.now.texts c.args.hidden c.type_name.new.s c.type_name.new.into r ≡ type_named x (state_of c.args.t.now.texts c.args.hidden c.args.s.now c.args.into.now)) in
    subst P (sym at) (c.type_name.ensures.answer line)

pub expressions::typed-returns-in_ok-r-in-Call-clause-typed : goal.expressions::typed-returns-in_ok-r-in-Call-clause-typed
expressions::typed-returns-in_ok-r-in-Call-clause-typed t c =
    let f = c.args.u.now.forest in
    let at : expression_of_node f c.args.e ≡ Call c.line-line.result (expression_of_node f c.in-Call.f) (arguments_at f c.in-Call.args) = ap as_expression c.in-Call.ensures.tree ∙ ap (λ (l : ℕ). Call l (expression_of_node f c.in-Call.f) (arguments_at f c.in-Call.args)) (sym c.line-line.ensures) in
    c.in_ok-r-in-Call.ensures.typed ∙ ap (λ x. types x (state_of c.args.t.now.texts c.args.hidden c.args.s.now c.args.into.now)) (sym at)

pub expressions::call_to-returns-in_default-clause-typed : goal.expressions::call_to-returns-in_default-clause-typed
expressions::call_to-returns-in_default-clause-typed t c =
    ap (λ (o : Option (After Callee)). and_then o (λ d. and_then (arguments (arguments_at c.args.u.now.forest c.args.args) d.state) (call c.args.line d.value)))
    (ap (after_callee c.args.t.now.texts c.args.hidden c.callee_of.new.s c.callee_of.new.into) (sym c.in_default.is) ∙ c.in_ok-c.ensures.typed)

pub expressions::call_to-returns-in_default-2-clause-typed : goal.expressions::call_to-returns-in_default-2-clause-typed
expressions::call_to-returns-in_default-2-clause-typed t c =
    ap (λ (o : Option (After (List TypedTree))). and_then o (call c.args.line (callee_in c.callee_of.new.into c.in-Some.c))) (ap (after_nodes c.args.t.now.texts c.args.hidden c.arguments.new.s c.arguments.new.into) (sym c.in_default-2.is) ∙ c.in_ok-list.ensures.typed)
    ∙ ap (λ (o : Option (After Callee)). and_then o (λ d. and_then (arguments (arguments_at c.args.u.now.forest c.args.args) d.state) (call c.args.line d.value)))
    (ap (after_callee c.args.t.now.texts c.args.hidden c.callee_of.new.s c.callee_of.new.into) (sym c.in-Some.is) ∙ c.in_ok-c.ensures.typed)

pub expressions::call_to-returns-clause-typed : goal.expressions::call_to-returns-clause-typed
expressions::call_to-returns-clause-typed t c =
    c.in_ok-r.ensures.typed c.args.t.now.texts
    ∙ ap (λ (ns : List NodeId). call c.args.line (callee_in c.arguments.new.into c.in-Some.c) (record { value = map (expression_at c.arguments.new.into) ns; state = (state_of c.args.t.now.texts c.args.hidden c.arguments.new.s c.arguments.new.into) })) c.deref.ensures.value
    ∙ ap (λ (d : Callee). call c.args.line d (record { value = map (expression_at c.arguments.new.into) c.in-Some-2.list.items; state = (state_of c.args.t.now.texts c.args.hidden c.arguments.new.s c.arguments.new.into) })) (callee_stays _ _ c.in-Some.c (there (λ v. Goes _ _) c.in-Some-2.is c.in_ok-list.ensures.goes).grown (called_there c.callee_of.new.into c.callee_of.new.s _ c.in-Some.c c.in-Some.is c.in_ok-c.ensures.open).0)
    ∙ ap (λ (o : Option (After (List TypedTree))). and_then o (call c.args.line (callee_in c.callee_of.new.into c.in-Some.c))) (ap (after_nodes c.args.t.now.texts c.args.hidden c.arguments.new.s c.arguments.new.into) (sym c.in-Some-2.is) ∙ c.in_ok-list.ensures.typed)
    ∙ ap (λ (o : Option (After Callee)). and_then o (λ d. and_then (arguments (arguments_at c.args.u.now.forest c.args.args) d.state) (call c.args.line d.value)))
    (ap (after_callee c.args.t.now.texts c.args.hidden c.callee_of.new.s c.callee_of.new.into) (sym c.in-Some.is) ∙ c.in_ok-c.ensures.typed)

pub expressions::call_to-returns-clause-goes : goal.expressions::call_to-returns-clause-goes
expressions::call_to-returns-clause-goes t c =
    kept c.in_ok-r.r (goes_then_kept _ _ _ (goes_trans _ _ _ (there (λ v. Goes _ _) c.in-Some.is c.in_ok-c.ensures.goes) (there (λ v. Goes _ _) c.in-Some-2.is c.in_ok-list.ensures.goes)) c.in_ok-r.ensures.kept)

pub expressions::call_to-call-requires-clause-callee : goal.expressions::call_to-call-requires-clause-callee
expressions::call_to-call-requires-clause-callee t c =
    callee_known c.callee_of.new.into c.arguments.new.into c.in-Some.c (there (λ v. Goes _ _) c.in-Some-2.is c.in_ok-list.ensures.goes).grown (called_there c.callee_of.new.into c.callee_of.new.s _ c.in-Some.c c.in-Some.is c.in_ok-c.ensures.open).0

pub expressions::call_to-callee_of-requires : goal.expressions::call_to-callee_of-requires
expressions::call_to-callee_of-requires t c = (omega (arith, c.decreases), (c.requires.node, c.requires.open))

pub expressions::call_to-arguments-requires : goal.expressions::call_to-arguments-requires
expressions::call_to-arguments-requires t c = (omega (arith, c.decreases), (c.requires.list, (called_there c.callee_of.new.into c.callee_of.new.s _ c.in-Some.c c.in-Some.is c.in_ok-c.ensures.open).1))

pub expressions::callee_of-operand-requires : goal.expressions::callee_of-operand-requires
expressions::callee_of-operand-requires t c = (omega (arith, c.decreases), (c.requires.node, c.in_ok-c.ensures.open))

pub expressions::callee_of-returns-in-Some-clause-open : goal.expressions::callee_of-returns-in-Some-clause-open
expressions::callee_of-returns-in-Some-clause-open t c = (there (λ f. f < length c.args.into.now.functions) c.in-Some.is c.in_ok-c.ensures.known, c.in_ok-c.ensures.open)

pub expressions::callee_of-returns-in-Some-clause-typed : goal.expressions::callee_of-returns-in-Some-clause-typed
expressions::callee_of-returns-in-Some-clause-typed t c =
    let e = expression_of_node c.args.u.now.forest c.args.f in
    let before = state_of c.args.t.now.texts c.args.hidden c.args.s.now c.args.into.now in
    let is = subst (λ o. AreCalled c.args.t.now.texts c.args.hidden c.used_callee.new.s c.args.into.now e before o) c.in-Some.is (c.in_ok-c.ensures.value c.args.t.now.texts c.args.hidden) in
    named_callee c.args.t.now.texts c.args.hidden c.used_callee.new.s c.args.into.now e before c.in-Some.c (operand (types e before)) is

pub expressions::callee_of-returns-in-Some-clause-goes : goal.expressions::callee_of-returns-in-Some-clause-goes
expressions::callee_of-returns-in-Some-clause-goes t c = same_goes c.args.into.now

pub expressions::callee_of-returns-in_default-2-clause-typed : goal.expressions::callee_of-returns-in_default-2-clause-typed
expressions::callee_of-returns-in_default-2-clause-typed t c =
    let e = expression_of_node c.args.u.now.forest c.args.f in
    let before = state_of c.args.t.now.texts c.args.hidden c.args.s.now c.args.into.now in
    let is = subst (λ o. AreCalled c.args.t.now.texts c.args.hidden c.used_callee.new.s c.args.into.now e before o) c.in_default.is (c.in_ok-c.ensures.value c.args.t.now.texts c.args.hidden) in
    ap pointed_callee (ap (after_node c.args.t.now.texts c.args.hidden c.operand.new.s c.operand.new.into) (sym c.in_default-2.is) ∙ c.in_ok-a.ensures.typed)
    ∙ valued_callee c.args.t.now.texts c.args.hidden c.used_callee.new.s c.args.into.now e before (λ z. operand (types e z)) is

pub expressions::callee_of-returns-clause-open : goal.expressions::callee_of-returns-clause-open
expressions::callee_of-returns-clause-open t c = subst (λ o. OpenIf c.operand.new.into c.operand.new.s o) c.in-Some-2.is c.in_ok-a.ensures.open

pub expressions::callee_of-returns-clause-typed : goal.expressions::callee_of-returns-clause-typed
expressions::callee_of-returns-clause-typed t c =
    let e = expression_of_node c.args.u.now.forest c.args.f in
    let before = state_of c.args.t.now.texts c.args.hidden c.args.s.now c.args.into.now in
    let is = subst (λ o. AreCalled c.args.t.now.texts c.args.hidden c.used_callee.new.s c.args.into.now e before o) c.in_default.is (c.in_ok-c.ensures.value c.args.t.now.texts c.args.hidden) in
    ap pointed_callee (ap (after_node c.args.t.now.texts c.args.hidden c.operand.new.s c.operand.new.into) (sym c.in-Some-2.is) ∙ c.in_ok-a.ensures.typed)
    ∙ valued_callee c.args.t.now.texts c.args.hidden c.used_callee.new.s c.args.into.now e before (λ z. operand (types e z)) is

pub expressions::callee_of-returns-clause-goes : goal.expressions::callee_of-returns-clause-goes
expressions::callee_of-returns-clause-goes t c = there (λ v. Goes _ _) c.in-Some-2.is c.in_ok-a.ensures.goes

pub expressions::arguments-returns-in_default-clause-typed : goal.expressions::arguments-returns-in_default-clause-typed
expressions::arguments-returns-in_default-clause-typed t c =
    let f = c.args.u.now.forest in
    let a : After (List TypedTree) = record { value = map (expression_at c.loop-i.into) c.loop-i.list.items; state = (state_of c.args.t.now.texts c.args.hidden c.loop-i.s c.loop-i.into) } in
    no_argument_in f c.args.args c.list-nodes.result.now c.loop-i.i first (state_of c.args.t.now.texts c.args.hidden c.args.s.now c.args.into.now) a c.list-nodes.ensures c.loop-i-test.true c.loop-i.invariant.4 (ap (after_node c.args.t.now.texts c.args.hidden c.operand.new.s c.operand.new.into) (sym c.in_default.is) ∙ c.in_ok-x.ensures.typed)

pub expressions::arguments-loop-i-preserved : goal.expressions::arguments-loop-i-preserved
expressions::arguments-loop-i-preserved t c =
    let f = c.args.u.now.forest in
    let s = (state_of c.args.t.now.texts c.args.hidden c.args.s.now c.args.into.now) in
    let m = c.loop-i.into in
    let b = c.operand.new.into in
    let a : After (List TypedTree) = record { value = map (expression_at m) c.loop-i.list.items; state = (state_of c.args.t.now.texts c.args.hidden c.loop-i.s m) } in
    let here = argument_more f c.list-nodes.result.now c.loop-i.i first s a c.loop-i-test.true c.loop-i.invariant.4 in
    let goes : Goes m b = there (λ v. Goes m b) c.in-Some.is c.in_ok-x.ensures.goes in
    let opened : IsExpression b c.in-Some.x × IsOpen b c.operand.new.s = subst (λ o. OpenIf b c.operand.new.s o) c.in-Some.is c.in_ok-x.ensures.open in
    let more : map (expression_at b) (c.loop-i.list.items ++ (c.in-Some.x ∷ [])) ≡ map (expression_at m) c.loop-i.list.items ++ (expression_at b c.in-Some.x ∷ []) =
    map-append (expression_at b) c.loop-i.list.items (c.in-Some.x ∷ []) ∙ ap (λ xs. xs ++ (expression_at b c.in-Some.x ∷ [])) (nodes_stay m b c.loop-i.list.items goes.grown c.loop-i.invariant.3) in (
      omega (arith, c.loop-i-test.true),
      opened.1,
      then_goes c.args.into.now m b c.loop-i.invariant.2 goes,
      subst (λ (xs : List NodeId). Each (IsExpression b) xs) (sym c.in_ok-push.ensures.items) (each_append (IsExpression b) c.loop-i.list.items (c.in-Some.x ∷ []) (nodes_known m b c.loop-i.list.items goes.grown c.loop-i.invariant.3) (opened.0, tt)),
      ap (λ (xs : List NodeId). Some (record { value = map (expression_at b) xs; state = (state_of c.args.t.now.texts c.args.hidden c.operand.new.s b) })) c.in_ok-push.ensures.items
          ∙ ap (λ (xs : List TypedTree). Some (record { value = xs; state = (state_of c.args.t.now.texts c.args.hidden c.operand.new.s b) })) more
          ∙ ap (λ (o : Option (After TypedTree)). and_then o (with_argument (map (expression_at m) c.loop-i.list.items))) (ap (after_node c.args.t.now.texts c.args.hidden c.operand.new.s b) (sym c.in-Some.is) ∙ c.in_ok-x.ensures.typed)
          ∙ here,
    )

pub specifying::specifiers-returns-in_default-clause-answer : goal.specifying::specifiers-returns-in_default-clause-answer
specifying::specifiers-returns-in_default-clause-answer t c =
    let f = c.args.u.now.forest in
    let is : is_specifier (tree_at f (get_or c.list-nodes.result.now c.loop-i.i first)) ≡ true = search rules in
    let a : After WhatIsSeen = record { value = seen_in c.loop-i.into.known c.loop-i.seen; state = (state_of c.args.t.now.texts c.args.unevaluated c.loop-i.s c.loop-i.into) } in
    none_in specifiers specifier_in (λ before x z. refl) f c.args.list c.list-nodes.result.now c.loop-i.i first (state_of c.args.t.now.texts c.args.unevaluated c.args.s.now c.args.into.now) a c.list-nodes.ensures c.loop-i-test.true c.loop-i.invariant.5 (ap (after_seen c.args.t.now.texts c.args.unevaluated c.specifier.new.s c.specifier.new.into) (sym c.in_default.is) ∙ c.in_ok-more.ensures.answer ∙ specifier_tree (tree_at f (get_or c.list-nodes.result.now c.loop-i.i first)) a is)

pub specifying::specifiers-loop-i-preserved : goal.specifying::specifiers-loop-i-preserved
specifying::specifiers-loop-i-preserved t c =
    let f = c.args.u.now.forest in
    let s = (state_of c.args.t.now.texts c.args.unevaluated c.args.s.now c.args.into.now) in
    let is : is_specifier (tree_at f (get_or c.list-nodes.result.now c.loop-i.i first)) ≡ true = search rules in
    let a : After WhatIsSeen = record { value = seen_in c.loop-i.into.known c.loop-i.seen; state = (state_of c.args.t.now.texts c.args.unevaluated c.loop-i.s c.loop-i.into) } in
    let here = one_more specifiers specifier_in (λ before x z. refl) f c.list-nodes.result.now c.loop-i.i first s a c.loop-i-test.true c.loop-i.invariant.5 in
    let goes : Goes c.loop-i.into c.specifier.new.into = there (λ x. Goes c.loop-i.into c.specifier.new.into) c.in-Some.is c.in_ok-more.ensures.goes in
    let words : total c.in-Some.more.words ≤ total c.loop-i.seen.words + 1 = there (λ x. total x.words ≤ total c.loop-i.seen.words + 1) c.in-Some.is c.in_ok-more.ensures.bounded in
    let counted : total c.loop-i.seen.words ≤ c.loop-i.i = c.loop-i.invariant.4 in (
      omega (arith, c.loop-i-test.true),
      there (λ x. IsOpen c.specifier.new.into c.specifier.new.s) c.in-Some.is c.in_ok-more.ensures.opened,
      then_goes c.args.into.now c.loop-i.into c.specifier.new.into c.loop-i.invariant.2 goes,
      there (λ x. IsType c.specifier.new.into.known x.named) c.in-Some.is c.in_ok-more.ensures.known,
      omega (arith, words, counted),
      ap (after_seen c.args.t.now.texts c.args.unevaluated c.specifier.new.s c.specifier.new.into) (sym c.in-Some.is) ∙ c.in_ok-more.ensures.answer ∙ specifier_tree (tree_at f (get_or c.list-nodes.result.now c.loop-i.i first)) a is ∙ here,
    )

pub specifying::specifier-returns-in_ok-r-in-Some-clause-answer : goal.specifying::specifier-returns-in_ok-r-in-Some-clause-answer
specifying::specifier-returns-in_ok-r-in-Some-clause-answer t c =
    let f = c.args.u.now.forest in
    let at : specifier_at f c.args.n ≡ specifier_of f (tree_line (tree_at f c.args.n)) c.spec-spec.result = ap as_specifier c.spec-spec.ensures.tree in
    c.in_ok-r-in-Some.ensures.answer ∙ sym (c.in-Some.ensures.value f (tree_line (tree_at f c.args.n)) (seen_in c.args.into.now.known c.args.seen) (state_of c.args.t.now.texts c.args.unevaluated c.args.s.now c.args.into.now)) ∙ ap (λ x. specifier x (seen_in c.args.into.now.known c.args.seen) (state_of c.args.t.now.texts c.args.unevaluated c.args.s.now c.args.into.now)) (sym at)

pub specifying::specifier-returns-in_ok-r-in-None-clause-answer : goal.specifying::specifier-returns-in_ok-r-in-None-clause-answer
specifying::specifier-returns-in_ok-r-in-None-clause-answer t c =
    let f = c.args.u.now.forest in
    let at : specifier_at f c.args.n ≡ specifier_of f (tree_line (tree_at f c.args.n)) c.spec-spec.result = ap as_specifier c.spec-spec.ensures.tree in
    c.in_ok-r-in-None.ensures.answer f (tree_line (tree_at f c.args.n)) ∙ ap (λ x. specifier x (seen_in c.args.into.now.known c.args.seen) (state_of c.args.t.now.texts c.args.unevaluated c.args.s.now c.args.into.now)) (sym at)

pub specifying::specifier-plain_specifier-requires-clause-plain : goal.specifying::specifier-plain_specifier-requires-clause-plain
specifying::specifier-plain_specifier-requires-clause-plain t c = c.listed_of.ensures.others c.in-None.is

pub listed::composite_listed-returns-in_default-clause-answer : goal.listed::composite_listed-returns-in_default-clause-answer
listed::composite_listed-returns-in_default-clause-answer = lists.listed::composite_listed-returns-in_default-clause-answer

pub listed::composite_listed-returns-in_default-2-clause-answer : goal.listed::composite_listed-returns-in_default-2-clause-answer
listed::composite_listed-returns-in_default-2-clause-answer = lists.listed::composite_listed-returns-in_default-2-clause-answer

pub listed::composite_listed-completed_seen-requires-clause-tag : goal.listed::composite_listed-completed_seen-requires-clause-tag
listed::composite_listed-completed_seen-requires-clause-tag = lists.listed::composite_listed-completed_seen-requires-clause-tag

pub listed::composite_listed-completed_seen-requires-clause-named : goal.listed::composite_listed-completed_seen-requires-clause-named
listed::composite_listed-completed_seen-requires-clause-named = lists.listed::composite_listed-completed_seen-requires-clause-named

pub listed::composite_listed-returns-clause-goes : goal.listed::composite_listed-returns-clause-goes
listed::composite_listed-returns-clause-goes = lists.listed::composite_listed-returns-clause-goes

pub listed::composite_listed-returns-clause-answer : goal.listed::composite_listed-returns-clause-answer
listed::composite_listed-returns-clause-answer = lists.listed::composite_listed-returns-clause-answer

pub listed::members-returns-in_default-clause-answer : goal.listed::members-returns-in_default-clause-answer
listed::members-returns-in_default-clause-answer = lists.listed::members-returns-in_default-clause-answer

pub listed::members-loop-i-preserved : goal.listed::members-loop-i-preserved
listed::members-loop-i-preserved = lists.listed::members-loop-i-preserved

pub listed::member-returns-in_default-clause-answer : goal.listed::member-returns-in_default-clause-answer
listed::member-returns-in_default-clause-answer = lists.listed::member-returns-in_default-clause-answer

pub listed::member-returns-in_ok-r-in-Member-clause-goes : goal.listed::member-returns-in_ok-r-in-Member-clause-goes
listed::member-returns-in_ok-r-in-Member-clause-goes = lists.listed::member-returns-in_ok-r-in-Member-clause-goes

pub listed::member-returns-in_ok-r-in-Member-clause-answer : goal.listed::member-returns-in_ok-r-in-Member-clause-answer
listed::member-returns-in_ok-r-in-Member-clause-answer = lists.listed::member-returns-in_ok-r-in-Member-clause-answer

pub listed::member_declarators-returns-in_default-clause-answer : goal.listed::member_declarators-returns-in_default-clause-answer
listed::member_declarators-returns-in_default-clause-answer = lists.listed::member_declarators-returns-in_default-clause-answer

pub listed::member_declarators-loop-i-preserved : goal.listed::member_declarators-loop-i-preserved
listed::member_declarators-loop-i-preserved = lists.listed::member_declarators-loop-i-preserved

pub listed::member_declarator-returns-in_default-clause-answer : goal.listed::member_declarator-returns-in_default-clause-answer
listed::member_declarator-returns-in_default-clause-answer = lists.listed::member_declarator-returns-in_default-clause-answer

pub listed::member_declarator-member_of-requires-clause-base : goal.listed::member_declarator-member_of-requires-clause-base
listed::member_declarator-member_of-requires-clause-base = lists.listed::member_declarator-member_of-requires-clause-base

pub listed::member_declarator-member_of-requires-clause-steps : goal.listed::member_declarator-member_of-requires-clause-steps
listed::member_declarator-member_of-requires-clause-steps = lists.listed::member_declarator-member_of-requires-clause-steps

pub listed::member_declarator-member_of-requires-clause-members : goal.listed::member_declarator-member_of-requires-clause-members
listed::member_declarator-member_of-requires-clause-members = lists.listed::member_declarator-member_of-requires-clause-members

pub listed::member_declarator-returns-clause-goes : goal.listed::member_declarator-returns-clause-goes
listed::member_declarator-returns-clause-goes = lists.listed::member_declarator-returns-clause-goes

pub listed::member_declarator-returns-clause-answer : goal.listed::member_declarator-returns-clause-answer
listed::member_declarator-returns-clause-answer = lists.listed::member_declarator-returns-clause-answer

pub listed::enumeration_listed-returns-then-not-branch-clause-answer : goal.listed::enumeration_listed-returns-then-not-branch-clause-answer
listed::enumeration_listed-returns-then-not-branch-clause-answer = lists.listed::enumeration_listed-returns-then-not-branch-clause-answer

pub listed::enumeration_listed-returns-in_default-clause-answer : goal.listed::enumeration_listed-returns-in_default-clause-answer
listed::enumeration_listed-returns-in_default-clause-answer = lists.listed::enumeration_listed-returns-in_default-clause-answer

pub listed::enumeration_listed-enumeration_seen-requires-clause-named : goal.listed::enumeration_listed-enumeration_seen-requires-clause-named
listed::enumeration_listed-enumeration_seen-requires-clause-named = lists.listed::enumeration_listed-enumeration_seen-requires-clause-named

pub listed::enumeration_listed-returns-clause-goes : goal.listed::enumeration_listed-returns-clause-goes
listed::enumeration_listed-returns-clause-goes = lists.listed::enumeration_listed-returns-clause-goes

pub listed::enumeration_listed-returns-clause-answer : goal.listed::enumeration_listed-returns-clause-answer
listed::enumeration_listed-returns-clause-answer = lists.listed::enumeration_listed-returns-clause-answer

pub listed::enumerators-returns-in_default-clause-answer : goal.listed::enumerators-returns-in_default-clause-answer
listed::enumerators-returns-in_default-clause-answer = lists.listed::enumerators-returns-in_default-clause-answer

pub listed::enumerators-loop-i-preserved : goal.listed::enumerators-loop-i-preserved
listed::enumerators-loop-i-preserved = lists.listed::enumerators-loop-i-preserved

pub listed::enumerators-returns-clause-answer : goal.listed::enumerators-returns-clause-answer
listed::enumerators-returns-clause-answer = lists.listed::enumerators-returns-clause-answer

pub listed::enumerator_value-returns-in-None-clause-answer : goal.listed::enumerator_value-returns-in-None-clause-answer
listed::enumerator_value-returns-in-None-clause-answer = lists.listed::enumerator_value-returns-in-None-clause-answer

pub listed::enumerator-returns-in_default-clause-answer : goal.listed::enumerator-returns-in_default-clause-answer
listed::enumerator-returns-in_default-clause-answer = lists.listed::enumerator-returns-in_default-clause-answer

pub listed::enumerator-returns-in_ok-r-in-Enumerator-clause-goes : goal.listed::enumerator-returns-in_ok-r-in-Enumerator-clause-goes
listed::enumerator-returns-in_ok-r-in-Enumerator-clause-goes = lists.listed::enumerator-returns-in_ok-r-in-Enumerator-clause-goes

pub listed::enumerator-returns-in_ok-r-in-Enumerator-clause-answer : goal.listed::enumerator-returns-in_ok-r-in-Enumerator-clause-answer
listed::enumerator-returns-in_ok-r-in-Enumerator-clause-answer = lists.listed::enumerator-returns-in_ok-r-in-Enumerator-clause-answer

pub type_names::specified_type-returns-clause-goes : goal.type_names::specified_type-returns-clause-goes
type_names::specified_type-returns-clause-goes t c =
    kept c.in_ok-r.r (then_goes c.args.into.now c.specifiers.new.into c.base_type.new.into (there (λ k. Goes c.args.into.now c.specifiers.new.into) c.in-Some.is c.in_ok-seen.ensures.goes) c.in_ok-r.ensures.goes)

pub type_names::specified_type-returns-clause-answer : goal.type_names::specified_type-returns-clause-answer
type_names::specified_type-returns-clause-answer t c =
    specified_after (trees_at c.args.u.now.forest c.args.specs) (state_of c.args.t.now.texts c.args.unevaluated c.args.s.now c.args.into.now) c.args.t.now.texts c.args.unevaluated c.specifiers.new.into c.base_type.new.into c.specifiers.new.s c.in-Some.seen c.in_ok-r.r
    (there (λ x. IsOpen c.specifiers.new.into c.specifiers.new.s) c.in-Some.is c.in_ok-seen.ensures.opened) c.in_ok-r.ensures.goes c.in_ok-r.ensures.whole
    (ap (after_seen c.args.t.now.texts c.args.unevaluated c.specifiers.new.s c.specifiers.new.into) (sym c.in-Some.is) ∙ c.in_ok-seen.ensures.answer) c.in_ok-r.ensures.tree

pub type_names::type_name-returns-in_default-clause-answer : goal.type_names::type_name-returns-in_default-clause-answer
type_names::type_name-returns-in_default-clause-answer t c = λ line.
    no_base (trees_at c.args.u.now.forest c.args.specs) (optional_at c.args.u.now.forest c.args.declarator) line (state_of c.args.t.now.texts c.args.unevaluated c.args.s.now c.args.into.now) (ap (after_type c.args.t.now.texts c.args.unevaluated c.specified_type.new.s c.specified_type.new.into) (sym c.in_default.is) ∙ c.in_ok-base.ensures.answer)

pub type_names::type_name-returns-in_default-2-clause-answer : goal.type_names::type_name-returns-in_default-2-clause-answer
type_names::type_name-returns-in_default-2-clause-answer t c = λ line.
    none_named (trees_at c.args.u.now.forest c.args.specs) (optional_at c.args.u.now.forest c.args.declarator) line (state_of c.args.t.now.texts c.args.unevaluated c.args.s.now c.args.into.now) (record { value = tree c.specified_type.new.into.known c.in-Some.base.0; state = (state_of c.args.t.now.texts c.args.unevaluated c.specified_type.new.s c.specified_type.new.into) }) (ap (after_type c.args.t.now.texts c.args.unevaluated c.specified_type.new.s c.specified_type.new.into) (sym c.in-Some.is) ∙ c.in_ok-base.ensures.answer) (ap (after_steps c.args.t.now.texts c.args.unevaluated c.optional_steps.new.s c.optional_steps.new.into) (sym c.in_default-2.is) ∙ c.in_ok-steps.ensures.answer)

pub type_names::type_name-derived_in-requires-clause-steps : goal.type_names::type_name-derived_in-requires-clause-steps
type_names::type_name-derived_in-requires-clause-steps t c =
    subst (AreSteps c.optional_steps.new.into.known) (sym c.deref.ensures.value) (there (StepsKnown c.optional_steps.new.into) c.in-Some-2.is c.in_ok-steps.ensures.known).0

pub type_names::type_name-returns-clause-opened : goal.type_names::type_name-returns-clause-opened
type_names::type_name-returns-clause-opened t c =
    kept c.in_ok-r.r (open_goes c.optional_steps.new.into c.derived_in.new.into c.optional_steps.new.s (there (λ x. IsOpen c.optional_steps.new.into c.optional_steps.new.s) c.in-Some-2.is c.in_ok-steps.ensures.opened) c.in_ok-r.ensures.goes)

pub type_names::type_name-returns-clause-goes : goal.type_names::type_name-returns-clause-goes
type_names::type_name-returns-clause-goes t c =
    kept c.in_ok-r.r (then_goes c.args.into.now c.optional_steps.new.into c.derived_in.new.into (then_goes c.args.into.now c.specified_type.new.into c.optional_steps.new.into (there (λ x. Goes c.args.into.now c.specified_type.new.into) c.in-Some.is c.in_ok-base.ensures.goes) (there (λ x. Goes c.specified_type.new.into c.optional_steps.new.into) c.in-Some-2.is c.in_ok-steps.ensures.goes)) c.in_ok-r.ensures.goes)

pub type_names::type_name-returns-clause-answer : goal.type_names::type_name-returns-clause-answer
type_names::type_name-returns-clause-answer t c = λ line.
    some_named (trees_at c.args.u.now.forest c.args.specs) (optional_at c.args.u.now.forest c.args.declarator) line (state_of c.args.t.now.texts c.args.unevaluated c.args.s.now c.args.into.now) c.args.t.now.texts c.args.unevaluated c.specified_type.new.into c.optional_steps.new.into c.derived_in.new.into c.optional_steps.new.s c.specified_type.new.s c.in-Some.base c.in-Some-2.steps c.in_ok-r.r
    (there (λ (x : TypeId). x.0 < length c.specified_type.new.into.known.terms) c.in-Some.is (is_type c.specified_type.new.into.known _ c.in_ok-base.ensures.known)) (there (λ x. Goes c.specified_type.new.into c.optional_steps.new.into) c.in-Some-2.is c.in_ok-steps.ensures.goes) (there (λ x. IsOpen c.optional_steps.new.into c.optional_steps.new.s) c.in-Some-2.is c.in_ok-steps.ensures.opened) c.in_ok-r.ensures.goes c.in_ok-r.ensures.whole
    (ap (after_type c.args.t.now.texts c.args.unevaluated c.specified_type.new.s c.specified_type.new.into) (sym c.in-Some.is) ∙ c.in_ok-base.ensures.answer) (ap (after_steps c.args.t.now.texts c.args.unevaluated c.optional_steps.new.s c.optional_steps.new.into) (sym c.in-Some-2.is) ∙ c.in_ok-steps.ensures.answer)
    (c.in_ok-r.ensures.tree ∙ ap (λ xs. derived_type false (env c.optional_steps.new.into.known) (steps_in c.optional_steps.new.into.known xs) (tree c.optional_steps.new.into.known c.in-Some.base.0)) c.deref.ensures.value)

pub declarators::steps_of-returns-in_ok-r-in-Paren-clause-answer : goal.declarators::steps_of-returns-in_ok-r-in-Paren-clause-answer
declarators::steps_of-returns-in_ok-r-in-Paren-clause-answer t c = c.in_ok-r-in-Paren.ensures.answer ∙ c.in-Paren.ensures.answer c.args.t.now.texts c.args.unevaluated

pub declarators::steps_of-returns-in_default-clause-answer : goal.declarators::steps_of-returns-in_default-clause-answer
declarators::steps_of-returns-in_default-clause-answer t c =
    none_within (optional_at c.args.u.now.forest c.in-Pointer.d) (state_of c.args.t.now.texts c.args.unevaluated c.args.s.now c.args.into.now) (with_pointer c.in-Pointer.constant)
    (ap (after_steps c.args.t.now.texts c.args.unevaluated c.optional_steps.new.s c.optional_steps.new.into) (sym c.in_default.is) ∙ c.in_ok-x-in-Pointer.ensures.answer)
    ∙ c.in-Pointer.ensures.answer c.args.t.now.texts c.args.unevaluated

pub declarators::steps_of-returns-in_ok-r-in-Pointer-clause-known : goal.declarators::steps_of-returns-in_ok-r-in-Pointer-clause-known
declarators::steps_of-returns-in_ok-r-in-Pointer-clause-known t c =
    more_known c.optional_steps.new.into c.in-Some.x c.in_ok-r-in-Pointer.r _ (there (StepsKnown c.optional_steps.new.into) c.in-Some.is c.in_ok-x-in-Pointer.ensures.known) tt c.in_ok-r-in-Pointer.ensures.list c.in_ok-r-in-Pointer.ensures.signature

pub declarators::steps_of-returns-in_ok-r-in-Pointer-clause-answer : goal.declarators::steps_of-returns-in_ok-r-in-Pointer-clause-answer
declarators::steps_of-returns-in_ok-r-in-Pointer-clause-answer t c =
    pointer_form c.optional_steps.new.into.known (state_of c.args.t.now.texts c.args.unevaluated c.optional_steps.new.s c.optional_steps.new.into) (state_of c.args.t.now.texts c.args.unevaluated c.args.s.now c.args.into.now)
    c.in-Some.x c.in_ok-r-in-Pointer.r c.in-Pointer.constant (optional_at c.args.u.now.forest c.in-Pointer.d)
    (ap (after_steps c.args.t.now.texts c.args.unevaluated c.optional_steps.new.s c.optional_steps.new.into) (sym c.in-Some.is) ∙ c.in_ok-x-in-Pointer.ensures.answer) c.in_ok-r-in-Pointer.ensures.list c.in_ok-r-in-Pointer.ensures.signature
    ∙ c.in-Pointer.ensures.answer c.args.t.now.texts c.args.unevaluated

pub declarators::steps_of-returns-in_default-2-clause-answer : goal.declarators::steps_of-returns-in_default-2-clause-answer
declarators::steps_of-returns-in_default-2-clause-answer t c =
    none_within (optional_at c.args.u.now.forest c.in-Array.d) (state_of c.args.t.now.texts c.args.unevaluated c.args.s.now c.args.into.now) (sized (optional_at c.args.u.now.forest c.in-Array.size))
    (ap (after_steps c.args.t.now.texts c.args.unevaluated c.optional_steps-in-Array.new.s c.optional_steps-in-Array.new.into) (sym c.in_default-2.is) ∙ c.in_ok-x-in-Array.ensures.answer)
    ∙ c.in-Array.ensures.answer c.args.t.now.texts c.args.unevaluated

pub declarators::steps_of-returns-in_default-3-clause-answer : goal.declarators::steps_of-returns-in_default-3-clause-answer
declarators::steps_of-returns-in_default-3-clause-answer t c =
    no_size (steps_shown c.optional_steps-in-Array.new.into.known c.in-Some-2.x) (state_of c.args.t.now.texts c.args.unevaluated c.optional_steps-in-Array.new.s c.optional_steps-in-Array.new.into) (state_of c.args.t.now.texts c.args.unevaluated c.args.s.now c.args.into.now)
    (optional_at c.args.u.now.forest c.in-Array.d) (optional_at c.args.u.now.forest c.in-Array.size)
    (ap (after_steps c.args.t.now.texts c.args.unevaluated c.optional_steps-in-Array.new.s c.optional_steps-in-Array.new.into) (sym c.in-Some-2.is) ∙ c.in_ok-x-in-Array.ensures.answer)
    (ap (after_value c.args.t.now.texts c.args.unevaluated c.array_size.new.s c.array_size.new.into) (sym c.in_default-3.is) ∙ c.in_ok-count-in-Array.ensures.answer)
    ∙ c.in-Array.ensures.answer c.args.t.now.texts c.args.unevaluated

pub declarators::steps_of-returns-in_ok-r-in-Array-clause-goes : goal.declarators::steps_of-returns-in_ok-r-in-Array-clause-goes
declarators::steps_of-returns-in_ok-r-in-Array-clause-goes t c =
    then_goes c.args.into.now c.optional_steps-in-Array.new.into c.array_size.new.into (there (λ k. Goes c.args.into.now c.optional_steps-in-Array.new.into) c.in-Some-2.is c.in_ok-x-in-Array.ensures.goes) (there (λ k. Goes c.optional_steps-in-Array.new.into c.array_size.new.into) c.in-Some-3.is c.in_ok-count-in-Array.ensures.goes)

pub declarators::steps_of-returns-in_ok-r-in-Array-clause-known : goal.declarators::steps_of-returns-in_ok-r-in-Array-clause-known
declarators::steps_of-returns-in_ok-r-in-Array-clause-known t c =
    more_known c.array_size.new.into c.in-Some-2.x c.in_ok-r-in-Array.r _ (known_kept c.optional_steps-in-Array.new.into c.array_size.new.into c.in-Some-2.x (there (λ k. Goes c.optional_steps-in-Array.new.into c.array_size.new.into) c.in-Some-3.is c.in_ok-count-in-Array.ensures.goes) (there (StepsKnown c.optional_steps-in-Array.new.into) c.in-Some-2.is c.in_ok-x-in-Array.ensures.known)) tt c.in_ok-r-in-Array.ensures.list c.in_ok-r-in-Array.ensures.signature

pub declarators::steps_of-returns-in_ok-r-in-Array-clause-answer : goal.declarators::steps_of-returns-in_ok-r-in-Array-clause-answer
declarators::steps_of-returns-in_ok-r-in-Array-clause-answer t c =
    array_form c.optional_steps-in-Array.new.into c.array_size.new.into
    (state_of c.args.t.now.texts c.args.unevaluated c.array_size.new.s c.array_size.new.into) (state_of c.args.t.now.texts c.args.unevaluated c.optional_steps-in-Array.new.s c.optional_steps-in-Array.new.into) (state_of c.args.t.now.texts c.args.unevaluated c.args.s.now c.args.into.now)
    c.in-Some-2.x c.in_ok-r-in-Array.r c.in-Some-3.count (optional_at c.args.u.now.forest c.in-Array.d) (optional_at c.args.u.now.forest c.in-Array.size)
    (there (λ k. Goes c.optional_steps-in-Array.new.into c.array_size.new.into) c.in-Some-3.is c.in_ok-count-in-Array.ensures.goes) (there (StepsKnown c.optional_steps-in-Array.new.into) c.in-Some-2.is c.in_ok-x-in-Array.ensures.known)
    (ap (after_steps c.args.t.now.texts c.args.unevaluated c.optional_steps-in-Array.new.s c.optional_steps-in-Array.new.into) (sym c.in-Some-2.is) ∙ c.in_ok-x-in-Array.ensures.answer)
    (ap (after_value c.args.t.now.texts c.args.unevaluated c.array_size.new.s c.array_size.new.into) (sym c.in-Some-3.is) ∙ c.in_ok-count-in-Array.ensures.answer) c.in_ok-r-in-Array.ensures.list c.in_ok-r-in-Array.ensures.signature
    ∙ c.in-Array.ensures.answer c.args.t.now.texts c.args.unevaluated

pub declarators::steps_of-returns-in_default-4-clause-answer : goal.declarators::steps_of-returns-in_default-4-clause-answer
declarators::steps_of-returns-in_default-4-clause-answer t c =
    none_within (optional_at c.args.u.now.forest c.in-Function.d) (state_of c.args.t.now.texts c.args.unevaluated c.args.s.now c.args.into.now) (listed (trees_at c.args.u.now.forest c.in-Function.list) c.in-Function.variadic)
    (ap (after_steps c.args.t.now.texts c.args.unevaluated c.optional_steps-in-Function.new.s c.optional_steps-in-Function.new.into) (sym c.in_default-4.is) ∙ c.in_ok-x-in-Function.ensures.answer)
    ∙ c.in-Function.ensures.answer c.args.t.now.texts c.args.unevaluated

pub declarators::steps_of-returns-in_ok-r-in-Function-clause-goes : goal.declarators::steps_of-returns-in_ok-r-in-Function-clause-goes
declarators::steps_of-returns-in_ok-r-in-Function-clause-goes t c =
    if_goes c.in_ok-r-in-Function.r c.args.into.now c.optional_steps-in-Function.new.into c.with_parameters.new.into (there (λ k. Goes c.args.into.now c.optional_steps-in-Function.new.into) c.in-Some-4.is c.in_ok-x-in-Function.ensures.goes) c.in_ok-r-in-Function.ensures.goes

pub declarators::steps_of-returns-in_ok-r-in-Function-clause-answer : goal.declarators::steps_of-returns-in_ok-r-in-Function-clause-answer
declarators::steps_of-returns-in_ok-r-in-Function-clause-answer t c =
    c.in_ok-r-in-Function.ensures.answer
    ∙ function_behind (trees_at c.args.u.now.forest c.in-Function.list) c.in-Function.variadic (steps_shown c.optional_steps-in-Function.new.into.known c.in-Some-4.x) (state_of c.args.t.now.texts c.args.unevaluated c.optional_steps-in-Function.new.s c.optional_steps-in-Function.new.into) (state_of c.args.t.now.texts c.args.unevaluated c.args.s.now c.args.into.now) (optional_at c.args.u.now.forest c.in-Function.d)
    (ap (after_steps c.args.t.now.texts c.args.unevaluated c.optional_steps-in-Function.new.s c.optional_steps-in-Function.new.into) (sym c.in-Some-4.is) ∙ c.in_ok-x-in-Function.ensures.answer)
    ∙ c.in-Function.ensures.answer c.args.t.now.texts c.args.unevaluated

pub declarators::steps_of-optional_steps-requires : goal.declarators::steps_of-optional_steps-requires
declarators::steps_of-optional_steps-requires t c =
    let f = c.args.u.now.forest in
    let beside : above 5 c.in-Pointer.d ≤ c.args.n.0 * 8 = optional_above f is_declarator c.args.n.0 c.in-Pointer.d c.in-Pointer.ensures.parts in
    (omega (arith, c.decreases, beside), (optional_inside f is_declarator c.args.n.0 (length f.trees) c.in-Pointer.d c.requires.node.0 c.in-Pointer.ensures.parts, c.requires.opened))

pub declarators::steps_of-optional_steps-requires-in-Array : goal.declarators::steps_of-optional_steps-requires-in-Array
declarators::steps_of-optional_steps-requires-in-Array t c =
    let f = c.args.u.now.forest in
    let beside : above 5 c.in-Array.d ≤ c.args.n.0 * 8 = optional_above f is_declarator c.args.n.0 c.in-Array.d c.in-Array.ensures.parts.0 in
    (omega (arith, c.decreases, beside), (optional_inside f is_declarator c.args.n.0 (length f.trees) c.in-Array.d c.requires.node.0 c.in-Array.ensures.parts.0, c.requires.opened))

pub declarators::steps_of-array_size-requires : goal.declarators::steps_of-array_size-requires
declarators::steps_of-array_size-requires t c =
    let f = c.args.u.now.forest in
    let beside : above 5 c.in-Array.size ≤ c.args.n.0 * 8 = optional_above f is_expression c.args.n.0 c.in-Array.size c.in-Array.ensures.parts.1 in
    (omega (arith, c.decreases, beside), (optional_inside f is_expression c.args.n.0 (length f.trees) c.in-Array.size c.requires.node.0 c.in-Array.ensures.parts.1, there (λ k. IsOpen c.optional_steps-in-Array.new.into c.optional_steps-in-Array.new.s) c.in-Some-2.is c.in_ok-x-in-Array.ensures.opened))

pub declarators::steps_of-optional_steps-requires-in-Function : goal.declarators::steps_of-optional_steps-requires-in-Function
declarators::steps_of-optional_steps-requires-in-Function t c =
    let f = c.args.u.now.forest in
    let beside : above 5 c.in-Function.d ≤ c.args.n.0 * 8 = optional_above f is_declarator c.args.n.0 c.in-Function.d c.in-Function.ensures.parts.0 in
    (omega (arith, c.decreases, beside), (optional_inside f is_declarator c.args.n.0 (length f.trees) c.in-Function.d c.requires.node.0 c.in-Function.ensures.parts.0, c.requires.opened))

pub declarators::steps_of-with_parameters-requires : goal.declarators::steps_of-with_parameters-requires
declarators::steps_of-with_parameters-requires t c =
    let f = c.args.u.now.forest in
    let ch = c.in-Function.ensures.parts.1 in
    let lower : above_all (list_at f c.in-Function.list) ≤ c.args.n.0 = list_above f is_declaration c.args.n.0 c.in-Function.list ch in
    (omega (arith, c.decreases, lower), (has_within f is_declaration c.args.n.0 (length f.trees) c.in-Function.list c.requires.node.0 ch, (there (λ k. IsOpen c.optional_steps-in-Function.new.into c.optional_steps-in-Function.new.s) c.in-Some-4.is c.in_ok-x-in-Function.ensures.opened, there (StepsKnown c.optional_steps-in-Function.new.into) c.in-Some-4.is c.in_ok-x-in-Function.ensures.known)))

pub parameter_lists::with_parameters-returns-in_default-clause-answer : goal.parameter_lists::with_parameters-returns-in_default-clause-answer
parameter_lists::with_parameters-returns-in_default-clause-answer t c =
    ap (λ (o : Option (After (List WholeParameter))). and_then o (by_function c.args.variadic (steps_shown c.args.into.now.known c.args.x))) (ap (after_parameters c.args.t.now.texts c.args.unevaluated c.parameters.new.s c.parameters.new.into) (sym c.in_default.is) ∙ c.in_ok-ps.ensures.answer ∙ ap (parameters (trees_at c.args.u.now.forest c.args.list)) (c.in_ok-entered.ensures.answer c.args.t.now.texts c.args.unevaluated))

pub parameter_lists::with_parameters-by_function-requires-clause-deep : goal.parameter_lists::with_parameters-by_function-requires-clause-deep
parameter_lists::with_parameters-by_function-requires-clause-deep t c =
    let same = as_deep (trees_at c.args.u.now.forest c.args.list) c.args.t.now.texts c.args.unevaluated c.args.into.now c.parameters.new.into c.entered.new.s c.parameters.new.s _ (ap (after_parameters c.args.t.now.texts c.args.unevaluated c.parameters.new.s c.parameters.new.into) (sym c.in-Some.is) ∙ c.in_ok-ps.ensures.answer) in
    let deeper = c.in_ok-entered.ensures.deeper in
    let some : 0 < length c.args.s.now.scopes = c.requires.opened.some in
    omega (arith, same, deeper, some)

pub parameter_lists::with_parameters-by_function-requires-clause-steps : goal.parameter_lists::with_parameters-by_function-requires-clause-steps
parameter_lists::with_parameters-by_function-requires-clause-steps t c =
    known_kept c.args.into.now c.parameters.new.into c.args.x (there (λ v. Goes c.args.into.now c.parameters.new.into) c.in-Some.is c.in_ok-ps.ensures.goes) c.requires.steps

pub parameter_lists::with_parameters-returns-clause-goes : goal.parameter_lists::with_parameters-returns-clause-goes
parameter_lists::with_parameters-returns-clause-goes t c =
    kept c.in_ok-r.r (then_goes c.args.into.now c.parameters.new.into c.by_function.new.into (there (λ v. Goes c.args.into.now c.parameters.new.into) c.in-Some.is c.in_ok-ps.ensures.goes) c.in_ok-r.ensures.goes)

pub parameter_lists::with_parameters-returns-clause-answer : goal.parameter_lists::with_parameters-returns-clause-answer
parameter_lists::with_parameters-returns-clause-answer t c =
    c.in_ok-r.ensures.answer c.args.t.now.texts c.args.unevaluated
    ∙ ap (λ x. by_function c.args.variadic x (record { value = parameters_shown c.parameters.new.into.known c.in-Some.ps.items; state = (state_of c.args.t.now.texts c.args.unevaluated c.parameters.new.s c.parameters.new.into) })) (shown_kept c.args.into.now c.parameters.new.into c.args.x (there (λ v. Goes c.args.into.now c.parameters.new.into) c.in-Some.is c.in_ok-ps.ensures.goes) c.requires.steps)
    ∙ ap (λ (o : Option (After (List WholeParameter))). and_then o (by_function c.args.variadic (steps_shown c.args.into.now.known c.args.x))) (ap (after_parameters c.args.t.now.texts c.args.unevaluated c.parameters.new.s c.parameters.new.into) (sym c.in-Some.is) ∙ c.in_ok-ps.ensures.answer ∙ ap (parameters (trees_at c.args.u.now.forest c.args.list)) (c.in_ok-entered.ensures.answer c.args.t.now.texts c.args.unevaluated))

pub parameter_lists::parameters-returns-in_default-clause-answer : goal.parameter_lists::parameters-returns-in_default-clause-answer
parameter_lists::parameters-returns-in_default-clause-answer t c =
    let f = c.args.u.now.forest in
    let a : After (List WholeParameter) = record { value = parameters_shown c.loop-i.into.known c.loop-i.ps.items; state = (state_of c.args.t.now.texts c.args.unevaluated c.loop-i.s c.loop-i.into) } in
    none_in parameters parameter_in (λ before x z. refl) f c.args.list c.list-nodes.result.now c.loop-i.i first (state_of c.args.t.now.texts c.args.unevaluated c.args.s.now c.args.into.now) a c.list-nodes.ensures c.loop-i-test.true c.loop-i.invariant.4 (ap (after_parameter c.args.t.now.texts c.args.unevaluated c.parameter.new.s c.parameter.new.into a.value) (sym c.in_default.is) ∙ c.in_ok-p.ensures.answer a.value)

pub parameter_lists::parameters-loop-i-preserved : goal.parameter_lists::parameters-loop-i-preserved
parameter_lists::parameters-loop-i-preserved t c =
    let f = c.args.u.now.forest in
    let s = (state_of c.args.t.now.texts c.args.unevaluated c.args.s.now c.args.into.now) in
    let m = c.loop-i.into in
    let b = c.parameter.new.into in
    let a : After (List WholeParameter) = record { value = parameters_shown c.loop-i.into.known c.loop-i.ps.items; state = (state_of c.args.t.now.texts c.args.unevaluated c.loop-i.s c.loop-i.into) } in
    let goes : Goes m b = there (λ x. Goes m b) c.in-Some.is c.in_ok-p.ensures.goes in
    let more : parameters_shown b.known (c.loop-i.ps.items ++ (c.in-Some.p ∷ [])) ≡ a.value ++ (parameter_shown b.known c.in-Some.p ∷ []) =
    map-append (parameter_shown b.known) c.loop-i.ps.items (c.in-Some.p ∷ []) ∙ ap (λ xs. xs ++ (parameter_shown b.known c.in-Some.p ∷ [])) (parameters_stay m b c.loop-i.ps.items goes c.loop-i.invariant.3) in (
      omega (arith, c.loop-i-test.true),
      there (λ x. IsOpen b c.parameter.new.s) c.in-Some.is c.in_ok-p.ensures.opened,
      then_goes c.args.into.now m b c.loop-i.invariant.2 goes,
      subst (λ (xs : List Parameter). Each (ParameterKnown b) xs) (sym c.in_ok-push.ensures.items) (each_append (ParameterKnown b) c.loop-i.ps.items (c.in-Some.p ∷ []) (parameters_known m b c.loop-i.ps.items goes c.loop-i.invariant.3) (there (ParameterKnown b) c.in-Some.is c.in_ok-p.ensures.known, tt)),
      ap (λ (xs : List Parameter). Some (record { value = parameters_shown b.known xs; state = (state_of c.args.t.now.texts c.args.unevaluated c.parameter.new.s b) })) c.in_ok-push.ensures.items
          ∙ ap (λ (xs : List WholeParameter). Some (record { value = xs; state = (state_of c.args.t.now.texts c.args.unevaluated c.parameter.new.s b) })) more
          ∙ ap (after_parameter c.args.t.now.texts c.args.unevaluated c.parameter.new.s b a.value) (sym c.in-Some.is) ∙ c.in_ok-p.ensures.answer a.value ∙ one_more parameters parameter_in (λ before x z. refl) f c.list-nodes.result.now c.loop-i.i first s a c.loop-i-test.true c.loop-i.invariant.4,
    )

pub parameter_lists::parameter-returns-in_default-clause-answer : goal.parameter_lists::parameter-returns-in_default-clause-answer
parameter_lists::parameter-returns-in_default-clause-answer t c = λ before.
    let f = c.args.u.now.forest in
    no_type (trees_at f c.in-Parameter.specs) (state_of c.args.t.now.texts c.args.unevaluated c.args.s.now c.args.into.now) (λ (b : After Ty). and_then (optional_steps (optional_at f c.in-Parameter.declarator) b.state) (parameter_of (optional_name (optional_at f c.in-Parameter.declarator)) b.value before)) (ap (after_type c.args.t.now.texts c.args.unevaluated c.specified_type.new.s c.specified_type.new.into) (sym c.in_default.is) ∙ c.in_ok-base-in-Parameter.ensures.answer)
    ∙ ap (λ x. parameter_in x (record { value = before; state = (state_of c.args.t.now.texts c.args.unevaluated c.args.s.now c.args.into.now) })) (sym c.in-Parameter.ensures.tree)

pub parameter_lists::parameter-returns-in_default-2-clause-answer : goal.parameter_lists::parameter-returns-in_default-2-clause-answer
parameter_lists::parameter-returns-in_default-2-clause-answer t c = λ before.
    let f = c.args.u.now.forest in
    ap (λ (o : Option (After WholeSteps)). and_then o (parameter_of (optional_name (optional_at f c.in-Parameter.declarator)) (tree c.specified_type.new.into.known c.in-Some.base.0) before)) (ap (after_steps c.args.t.now.texts c.args.unevaluated c.optional_steps.new.s c.optional_steps.new.into) (sym c.in_default-2.is) ∙ c.in_ok-steps-in-Parameter.ensures.answer)
    ∙ with_type_then (trees_at f c.in-Parameter.specs) (state_of c.args.t.now.texts c.args.unevaluated c.args.s.now c.args.into.now) (λ (b : After Ty). and_then (optional_steps (optional_at f c.in-Parameter.declarator) b.state) (parameter_of (optional_name (optional_at f c.in-Parameter.declarator)) b.value before)) (record { value = tree c.specified_type.new.into.known c.in-Some.base.0; state = (state_of c.args.t.now.texts c.args.unevaluated c.specified_type.new.s c.specified_type.new.into) }) (ap (after_type c.args.t.now.texts c.args.unevaluated c.specified_type.new.s c.specified_type.new.into) (sym c.in-Some.is) ∙ c.in_ok-base-in-Parameter.ensures.answer)
    ∙ ap (λ x. parameter_in x (record { value = before; state = (state_of c.args.t.now.texts c.args.unevaluated c.args.s.now c.args.into.now) })) (sym c.in-Parameter.ensures.tree)

pub parameter_lists::parameter-parameter_of-requires-clause-base : goal.parameter_lists::parameter-parameter_of-requires-clause-base
parameter_lists::parameter-parameter_of-requires-clause-base t c =
    type_known c.specified_type.new.into c.optional_steps.new.into (Some c.in-Some.base) (there (λ x. Goes c.specified_type.new.into c.optional_steps.new.into) c.in-Some-2.is c.in_ok-steps-in-Parameter.ensures.goes)
    (there (λ (x : TypeId). x.0 < length c.specified_type.new.into.known.terms) c.in-Some.is (is_type c.specified_type.new.into.known _ c.in_ok-base-in-Parameter.ensures.known))

pub parameter_lists::parameter-parameter_of-requires-clause-steps : goal.parameter_lists::parameter-parameter_of-requires-clause-steps
parameter_lists::parameter-parameter_of-requires-clause-steps t c =
    subst (AreSteps c.optional_steps.new.into.known) (sym c.deref.ensures.value) (there (StepsKnown c.optional_steps.new.into) c.in-Some-2.is c.in_ok-steps-in-Parameter.ensures.known).0

pub parameter_lists::parameter-returns-in_ok-r-in-Parameter-clause-goes : goal.parameter_lists::parameter-returns-in_ok-r-in-Parameter-clause-goes
parameter_lists::parameter-returns-in_ok-r-in-Parameter-clause-goes t c =
    kept c.in_ok-r-in-Parameter.r (then_goes c.args.into.now c.optional_steps.new.into c.parameter_of.new.into (then_goes c.args.into.now c.specified_type.new.into c.optional_steps.new.into (there (λ x. Goes c.args.into.now c.specified_type.new.into) c.in-Some.is c.in_ok-base-in-Parameter.ensures.goes) (there (λ x. Goes c.specified_type.new.into c.optional_steps.new.into) c.in-Some-2.is c.in_ok-steps-in-Parameter.ensures.goes)) c.in_ok-r-in-Parameter.ensures.goes)

pub parameter_lists::parameter-returns-in_ok-r-in-Parameter-clause-answer : goal.parameter_lists::parameter-returns-in_ok-r-in-Parameter-clause-answer
parameter_lists::parameter-returns-in_ok-r-in-Parameter-clause-answer t c = λ before.
    let f = c.args.u.now.forest in
    let goes : Goes c.specified_type.new.into c.optional_steps.new.into = (there (λ x. Goes c.specified_type.new.into c.optional_steps.new.into) c.in-Some-2.is c.in_ok-steps-in-Parameter.ensures.goes) in
    let k = c.optional_steps.new.into.known in
    let st = (state_of c.args.t.now.texts c.args.unevaluated c.optional_steps.new.s c.optional_steps.new.into) in
    c.in_ok-r-in-Parameter.ensures.answer c.args.t.now.texts c.args.unevaluated before (signature_if k c.in-Some-2.steps.signature)
    ∙ ap (λ (xs : List Step). parameter_of c.optional_name-named.result (tree k c.in-Some.base.0) before (record { value = record { list = steps_in k xs; signature = signature_if k c.in-Some-2.steps.signature }; state = st })) c.deref.ensures.value
    ∙ ap (λ o. parameter_of o (tree k c.in-Some.base.0) before (record { value = steps_shown k c.in-Some-2.steps; state = st })) c.optional_name-named.ensures
    ∙ ap (λ (v : Ty). parameter_of (optional_name (optional_at f c.in-Parameter.declarator)) v before (record { value = steps_shown k c.in-Some-2.steps; state = st })) (goes.grown.types c.in-Some.base.0 (there (λ (x : TypeId). x.0 < length c.specified_type.new.into.known.terms) c.in-Some.is (is_type c.specified_type.new.into.known _ c.in_ok-base-in-Parameter.ensures.known)))
    ∙ ap (λ (o : Option (After WholeSteps)). and_then o (parameter_of (optional_name (optional_at f c.in-Parameter.declarator)) (tree c.specified_type.new.into.known c.in-Some.base.0) before)) (ap (after_steps c.args.t.now.texts c.args.unevaluated c.optional_steps.new.s c.optional_steps.new.into) (sym c.in-Some-2.is) ∙ c.in_ok-steps-in-Parameter.ensures.answer)
    ∙ with_type_then (trees_at f c.in-Parameter.specs) (state_of c.args.t.now.texts c.args.unevaluated c.args.s.now c.args.into.now) (λ (b : After Ty). and_then (optional_steps (optional_at f c.in-Parameter.declarator) b.state) (parameter_of (optional_name (optional_at f c.in-Parameter.declarator)) b.value before)) (record { value = tree c.specified_type.new.into.known c.in-Some.base.0; state = (state_of c.args.t.now.texts c.args.unevaluated c.specified_type.new.s c.specified_type.new.into) }) (ap (after_type c.args.t.now.texts c.args.unevaluated c.specified_type.new.s c.specified_type.new.into) (sym c.in-Some.is) ∙ c.in_ok-base-in-Parameter.ensures.answer)
    ∙ ap (λ x. parameter_in x (record { value = before; state = (state_of c.args.t.now.texts c.args.unevaluated c.args.s.now c.args.into.now) })) (sym c.in-Parameter.ensures.tree)

pub expressions::typed-returns-in-Member-clause-typed : goal.expressions::typed-returns-in-Member-clause-typed
expressions::typed-returns-in-Member-clause-typed t c =
    typed_as c.args.t.now.texts c.args.hidden c.args.s.now c.of_one.new.s c.args.into.now c.of_one.new.into c.of_one.result (ap as_expression c.in-Member.ensures.tree ∙ ap (λ (l : ℕ). Member l (expression_of_node c.args.u.now.forest c.in-Member.a) c.in-Member.n) (sym c.line-line.ensures)) c.of_one.ensures.typed

pub expressions::typed-returns-in-Arrow-clause-typed : goal.expressions::typed-returns-in-Arrow-clause-typed
expressions::typed-returns-in-Arrow-clause-typed t c =
    let f = c.args.u.now.forest in
    let at : expression_of_node f c.args.e ≡ Arrow c.line-line.result (expression_of_node f c.in-Arrow.a) c.in-Arrow.n = ap as_expression c.in-Arrow.ensures.tree ∙ ap (λ (l : ℕ). Arrow l (expression_of_node f c.in-Arrow.a) c.in-Arrow.n) (sym c.line-line.ensures) in
    let P : Option (After TypedTree) → Type 0 = λ y. IfOk c.of_one-in-Arrow.result (λ r. after_node c.args.t.now.texts c.args.hidden c.of_one-in-Arrow.new.s c.of_one-in-Arrow.new.into r ≡ y) in
    subst P (arrow_one (types (expression_of_node f c.in-Arrow.a) (state_of c.args.t.now.texts c.args.hidden c.args.s.now c.args.into.now)) c.line-line.result c.in-Arrow.n ∙ ap (λ x. types x (state_of c.args.t.now.texts c.args.hidden c.args.s.now c.args.into.now)) (sym at)) c.of_one-in-Arrow.ensures.typed

pub declarators::optional_steps-returns-in_ok-r-in-Some-clause-answer : goal.declarators::optional_steps-returns-in_ok-r-in-Some-clause-answer
declarators::optional_steps-returns-in_ok-r-in-Some-clause-answer t c =
    let f = c.args.u.now.forest in
    let kind = there (λ k. Is c.args.u.now is_declarator k) c.in-Some.is c.requires.node in
    c.in_ok-r-in-Some.ensures.answer
    ∙ ap (λ x. optional_steps (Present x) (state_of c.args.t.now.texts c.args.unevaluated c.args.s.now c.args.into.now)) (sym (declarator_is (tree_at f c.in-Some.n) kind.1))
    ∙ ap (λ o. optional_steps (optional_at f o) (state_of c.args.t.now.texts c.args.unevaluated c.args.s.now c.args.into.now)) (sym c.in-Some.is)

pub expressions::arguments-operand-requires : goal.expressions::arguments-operand-requires
expressions::arguments-operand-requires t c =
    let f = c.args.u.now.forest in
    let low = lower_at f c.args.args c.list-nodes.result.now c.loop-i.i first c.list-nodes.ensures c.loop-i-test.true in
    let node = has_at f is_expression (length f.trees) c.args.args c.list-nodes.result.now c.loop-i.i first c.list-nodes.ensures c.requires.list c.loop-i-test.true in
    (omega (arith, c.decreases, low), (node, c.loop-i.invariant.1))

pub listed::enumerators-enumerator-requires : goal.listed::enumerators-enumerator-requires
listed::enumerators-enumerator-requires = lists.listed::enumerators-enumerator-requires

pub listed::members-member-requires : goal.listed::members-member-requires
listed::members-member-requires = lists.listed::members-member-requires

pub parameter_lists::parameters-parameter-requires : goal.parameter_lists::parameters-parameter-requires
parameter_lists::parameters-parameter-requires t c =
    let f = c.args.u.now.forest in
    let low = lower_at f c.args.list c.list-nodes.result.now c.loop-i.i first c.list-nodes.ensures c.loop-i-test.true in
    let node = has_at f is_declaration (length f.trees) c.args.list c.list-nodes.result.now c.loop-i.i first c.list-nodes.ensures c.requires.list c.loop-i-test.true in
    (omega (arith, c.decreases, low), (node, c.loop-i.invariant.1))

pub listed::member_declarators-member_declarator-requires : goal.listed::member_declarators-member_declarator-requires
listed::member_declarators-member_declarator-requires = lists.listed::member_declarators-member_declarator-requires

pub specifying::specifiers-specifier-requires : goal.specifying::specifiers-specifier-requires
specifying::specifiers-specifier-requires t c =
    let f = c.args.u.now.forest in
    let lt : c.loop-i.i < length c.list-nodes.result.now = c.loop-i-test.true in
    let low = lower_at f c.args.list c.list-nodes.result.now c.loop-i.i first c.list-nodes.ensures lt in
    let node = has_at f is_specifier (length f.trees) c.args.list c.list-nodes.result.now c.loop-i.i first c.list-nodes.ensures c.requires.list lt in
    let counted : total c.loop-i.seen.words ≤ c.loop-i.i = c.loop-i.invariant.4 in
    let few : total c.loop-i.seen.words < 2 ^ 64 - 1 = search (rules, lt, counted) in
    (omega (arith, c.decreases, low), (node, (c.loop-i.invariant.1, (c.loop-i.invariant.3, few))))

pub expressions::typed-call_to-requires : goal.expressions::typed-call_to-requires
expressions::typed-call_to-requires t c =
    let f = c.args.u.now.forest in
    let ch = c.in-Call.ensures.children in
    let here : c.args.e.0 < length f.trees = c.requires.node.0 in
    let below : c.in-Call.f.0 < c.args.e.0 = ch.0.0 in
    let lower : above_all (list_at f c.in-Call.args) ≤ c.args.e.0 = list_above f is_expression c.args.e.0 c.in-Call.args ch.1 in
    (omega (arith, c.decreases, lower, below), ((omega (arith, below, here), ch.0.1), (has_within f is_expression c.args.e.0 (length f.trees) c.in-Call.args c.requires.node.0 ch.1, c.requires.open)))

pub listed::member-specified_type-requires : goal.listed::member-specified_type-requires
listed::member-specified_type-requires = lists.listed::member-specified_type-requires

pub parameter_lists::parameter-specified_type-requires : goal.parameter_lists::parameter-specified_type-requires
parameter_lists::parameter-specified_type-requires t c =
    let f = c.args.u.now.forest in
    let ch = c.in-Parameter.ensures.children.0 in
    let lower : above_all (list_at f c.in-Parameter.specs) ≤ c.args.n.0 = list_above f is_specifier c.args.n.0 c.in-Parameter.specs ch in
    (omega (arith, c.decreases, lower), (has_within f is_specifier c.args.n.0 (length f.trees) c.in-Parameter.specs c.requires.node.0 ch, c.requires.opened))

pub listed::member-member_declarators-requires : goal.listed::member-member_declarators-requires
listed::member-member_declarators-requires = lists.listed::member-member_declarators-requires

pub specifying::specifier-listed_specifier-requires : goal.specifying::specifier-listed_specifier-requires
specifying::specifier-listed_specifier-requires t c =
    let f = c.args.u.now.forest in
    let ch = there (λ x. HasList f c.args.n.0 is_declaration (list_of x)) c.in-Some.is (c.listed_of.ensures.lists f c.args.n.0 c.spec-spec.ensures.children) in
    let lower : above_all (list_at f (list_of c.in-Some.x)) ≤ c.args.n.0 = list_above f is_declaration c.args.n.0 (list_of c.in-Some.x) ch in
    (omega (arith, c.decreases, lower), (has_within f is_declaration c.args.n.0 (length f.trees) (list_of c.in-Some.x) c.requires.node.0 ch, (c.requires.opened, c.requires.named)))

pub type_names::type_named-type_name-requires : goal.type_names::type_named-type_name-requires
type_names::type_named-type_name-requires t c =
    let f = c.args.u.now.forest in
    let ch = c.in-TypeName.ensures.children.0 in
    let lower : above_all (list_at f c.in-TypeName.specs) ≤ c.args.n.0 = list_above f is_specifier c.args.n.0 c.in-TypeName.specs ch in
    let beside : above 5 c.in-TypeName.declarator ≤ c.args.n.0 * 8 = optional_above f is_declarator c.args.n.0 c.in-TypeName.declarator c.in-TypeName.ensures.children.1 in
    (omega (arith, c.decreases, lower, beside), (has_within f is_specifier c.args.n.0 (length f.trees) c.in-TypeName.specs c.requires.node.0 ch, (optional_inside f is_declarator c.args.n.0 (length f.trees) c.in-TypeName.declarator c.requires.node.0 c.in-TypeName.ensures.children.1, c.requires.open)))

pub declarators::array_size-returns-in_default-2-clause-answer : goal.declarators::array_size-returns-in_default-2-clause-answer
declarators::array_size-returns-in_default-2-clause-answer t c =
    ap (λ (o : Option (After ℤ)). and_then o known_size) (ap (after_value c.args.t.now.texts c.args.unevaluated c.integer_at.new.s c.integer_at.new.into) (sym c.in_default-2.is) ∙ c.in_ok-k.ensures.answer)
    ∙ size_at c.args.u.now.forest c.args.size c.in-Some.n (state_of c.args.t.now.texts c.args.unevaluated c.args.s.now c.args.into.now) c.in-Some.is (there (λ n. Is c.args.u.now is_expression n) c.in-Some.is c.requires.node).1

pub declarators::array_size-returns-in-Some-size_of-clause-answer : goal.declarators::array_size-returns-in-Some-size_of-clause-answer
declarators::array_size-returns-in-Some-size_of-clause-answer t c =
    let k : to_z w128 (of_z w128 c.in-Some-2.k) ≡ c.in-Some-2.k = to_z-of_z w128 c.in-Some-2.k (search rules) in
    ap (λ (o : Option ℕ). and_then o (λ n. give (Some (Some n)) (state_of c.args.t.now.texts c.args.unevaluated c.integer_at.new.s c.integer_at.new.into))) (c.in-Some-size_of.ensures ∙ ap size_of k)
    ∙ ap (λ (o : Option (After ℤ)). and_then o known_size) (ap (after_value c.args.t.now.texts c.args.unevaluated c.integer_at.new.s c.integer_at.new.into) (sym c.in-Some-2.is) ∙ c.in_ok-k.ensures.answer)
    ∙ size_at c.args.u.now.forest c.args.size c.in-Some.n (state_of c.args.t.now.texts c.args.unevaluated c.args.s.now c.args.into.now) c.in-Some.is (there (λ n. Is c.args.u.now is_expression n) c.in-Some.is c.requires.node).1

pub declarators::array_size-returns-in-None-clause-answer : goal.declarators::array_size-returns-in-None-clause-answer
declarators::array_size-returns-in-None-clause-answer t c =
    let k : to_z w128 (of_z w128 c.in-Some-2.k) ≡ c.in-Some-2.k = to_z-of_z w128 c.in-Some-2.k (search rules) in
    ap (λ (o : Option ℕ). and_then o (λ n. give (Some (Some n)) (state_of c.args.t.now.texts c.args.unevaluated c.integer_at.new.s c.integer_at.new.into))) (c.in-None.ensures ∙ ap size_of k)
    ∙ ap (λ (o : Option (After ℤ)). and_then o known_size) (ap (after_value c.args.t.now.texts c.args.unevaluated c.integer_at.new.s c.integer_at.new.into) (sym c.in-Some-2.is) ∙ c.in_ok-k.ensures.answer)
    ∙ size_at c.args.u.now.forest c.args.size c.in-Some.n (state_of c.args.t.now.texts c.args.unevaluated c.args.s.now c.args.into.now) c.in-Some.is (there (λ n. Is c.args.u.now is_expression n) c.in-Some.is c.requires.node).1

pub listed::enumerator_value-returns-in_ok-r-in-Some-clause-answer : goal.listed::enumerator_value-returns-in_ok-r-in-Some-clause-answer
listed::enumerator_value-returns-in_ok-r-in-Some-clause-answer = lists.listed::enumerator_value-returns-in_ok-r-in-Some-clause-answer
