use Rattle.std.proofs.Common.{rules, ◌≡◌, ◌<◌, ◌∙◌, IfSome, length, true, false, Some, None}
use Rattle.pv_tree.specs.Tables.{expression_at as expression_of_node, tree_at}
use Rattle.pv_types.specs.Known.{tree}
use Rattle.pv_types.specs.Sorts.{bare_type}
use Rattle.pv_typed.specs.NodeTrees.{expression_at, IsExpression}
use Rattle.pv_check.specs.Arms.{after_node, OpenIf}
use Rattle.pv_check.specs.Kept.{expression_if}
use Rattle.pv_check.specs.Open.{state_of, Goes}
use Rattle.pv_check.specs.Rows.{operand}
use Rattle.pv_check.specs.Typing.{types}
use Rattle.pv_check.specs.Values.{as_if_assigned}
use Rattle.pv_unit.specs.InitializerParts.{is_allowed}
use Rattle.pv_unit.specs.Stores.{stores_in}
use Rattle.pv_unit.specs.Subobjects.{part_of}
use Rattle.pv_unit.specs.ValueRules.{values}
use Rattle.pv_unit.proofs.Singles.{line_is, single_forbidden, single_of, single_unassigned, single_untyped}
use Rattle.pv_unit.proofs.initializers.single.Goals as goal

pub returns-in_default-clause-typed : goal.returns-in_default-clause-typed
returns-in_default-clause-typed c =
    let m0 = c.args.into.now in
    let m1 = c.operand.new.into in
    let f = c.args.u.now.forest in
    let a = expression_of_node f c.args.a in
    let st = state_of c.args.t.now.texts false c.args.s.now m0 in
    let none : None ≡ operand (types a st) = rw c.in_default.is at c.in_ok-value.ensures.typed in
    single_untyped c.args.lasting (part_of m0.known c.args.part) a st (stores_in m0 c.args.out.now.items) none

pub returns-in_default-2-clause-typed : goal.returns-in_default-2-clause-typed
returns-in_default-2-clause-typed c =
    let m0 = c.args.into.now in
    let m1 = c.operand.new.into in
    let f = c.args.u.now.forest in
    let a = expression_of_node f c.args.a in
    let bared : tree m1.known c.bare-target.result.0 ≡ bare_type (tree m1.known c.args.part.t.0) = rw c.types.ensures at c.bare-target.ensures.tree in
    let typed : after_node c.args.t.now.texts false c.operand.new.s m1 (Some c.in-Some.value) ≡ operand (types a (state_of c.args.t.now.texts false c.args.s.now m0)) = rw c.in-Some.is at c.in_ok-value.ensures.typed in
    let goes : Goes m0 m1 = rw c.in-Some.is at c.in_ok-value.ensures.goes in
    let none : None ≡ as_if_assigned (tree m1.known c.bare-target.result.0) (expression_at m1 c.in-Some.value) = rw c.in_default-2.is at c.in_ok-converted.ensures.typed in
    single_unassigned c.args.lasting c.args.t.now.texts m0 m1 c.args.s.now c.operand.new.s c.args.part a c.bare-target.result c.in-Some.value (stores_in m0 c.args.out.now.items) goes c.requires.part typed bared none

pub returns-then-not-allowed-clause-typed : goal.returns-then-not-allowed-clause-typed
returns-then-not-allowed-clause-typed c =
    let m0 = c.args.into.now in
    let m1 = c.operand.new.into in
    let f = c.args.u.now.forest in
    let a = expression_of_node f c.args.a in
    let bared : tree m1.known c.bare-target.result.0 ≡ bare_type (tree m1.known c.args.part.t.0) = rw c.types.ensures at c.bare-target.ensures.tree in
    let typed : after_node c.args.t.now.texts false c.operand.new.s m1 (Some c.in-Some.value) ≡ operand (types a (state_of c.args.t.now.texts false c.args.s.now m0)) = rw c.in-Some.is at c.in_ok-value.ensures.typed in
    let goes : Goes m0 m1 = rw c.in-Some.is at c.in_ok-value.ensures.goes in
    let opened : OpenIf m1 c.operand.new.s (Some c.in-Some.value) = rw c.in-Some.is at c.in_ok-value.ensures.open in
    let m2 = c.assigned.new.into in
    let as_is : expression_if m2 (Some c.in-Some-2.converted) ≡ as_if_assigned (tree m1.known c.bare-target.result.0) (expression_at m1 c.in-Some.value) = rw c.in-Some-2.is at c.in_ok-converted.ensures.typed in
    let may : is_allowed values c.args.lasting (state_of c.args.t.now.texts false c.operand.new.s m2) (expression_at m2 c.in-Some-2.converted) ≡ false = search rules in
    single_forbidden c.args.lasting c.args.t.now.texts m0 m1 m2 c.args.s.now c.operand.new.s c.args.part a c.bare-target.result c.in-Some.value c.in-Some-2.converted (stores_in m0 c.args.out.now.items) goes opened.1 c.in_ok-converted.ensures.kept c.requires.part typed bared as_is may

pub returns-clause-typed : goal.returns-clause-typed
returns-clause-typed c =
    let m0 = c.args.into.now in
    let m1 = c.operand.new.into in
    let f = c.args.u.now.forest in
    let a = expression_of_node f c.args.a in
    let bared : tree m1.known c.bare-target.result.0 ≡ bare_type (tree m1.known c.args.part.t.0) = rw c.types.ensures at c.bare-target.ensures.tree in
    let typed : after_node c.args.t.now.texts false c.operand.new.s m1 (Some c.in-Some.value) ≡ operand (types a (state_of c.args.t.now.texts false c.args.s.now m0)) = rw c.in-Some.is at c.in_ok-value.ensures.typed in
    let goes : Goes m0 m1 = rw c.in-Some.is at c.in_ok-value.ensures.goes in
    let opened : OpenIf m1 c.operand.new.s (Some c.in-Some.value) = rw c.in-Some.is at c.in_ok-value.ensures.open in
    let m2 = c.assigned.new.into in
    let as_is : expression_if m2 (Some c.in-Some-2.converted) ≡ as_if_assigned (tree m1.known c.bare-target.result.0) (expression_at m1 c.in-Some.value) = rw c.in-Some-2.is at c.in_ok-converted.ensures.typed in
    let there : IfSome (Some c.in-Some-2.converted) (λ v. IsExpression m2 v) = rw c.in-Some-2.is at c.in_ok-converted.ensures.node in
    let earlier : c.bare-target.result.0 < length m1.known.terms = rw c.types.ensures at c.bare-target.ensures.known in
    let may : is_allowed values c.args.lasting (state_of c.args.t.now.texts false c.operand.new.s m2) (expression_at m2 c.in-Some-2.converted) ≡ true = search rules in
    let line = c.line-line.ensures ∙ line_is (tree_at f c.args.a) c.requires.node.1 in
    (single_of c.args.lasting c.args.t.now.texts m0 m1 m2 c.args.s.now c.operand.new.s c.args.part a c.bare-target.result c.line-line.result c.in-Some.value c.in-Some-2.converted c.args.out.now.items c.push.new.self.items
    goes opened.1 c.in_ok-converted.ensures.kept c.requires.stores c.requires.part typed bared earlier as_is there may line c.in_ok-push.ensures.items).typed

pub returns-clause-fills : goal.returns-clause-fills
returns-clause-fills c =
    let m0 = c.args.into.now in
    let m1 = c.operand.new.into in
    let f = c.args.u.now.forest in
    let a = expression_of_node f c.args.a in
    let bared : tree m1.known c.bare-target.result.0 ≡ bare_type (tree m1.known c.args.part.t.0) = rw c.types.ensures at c.bare-target.ensures.tree in
    let typed : after_node c.args.t.now.texts false c.operand.new.s m1 (Some c.in-Some.value) ≡ operand (types a (state_of c.args.t.now.texts false c.args.s.now m0)) = rw c.in-Some.is at c.in_ok-value.ensures.typed in
    let goes : Goes m0 m1 = rw c.in-Some.is at c.in_ok-value.ensures.goes in
    let opened : OpenIf m1 c.operand.new.s (Some c.in-Some.value) = rw c.in-Some.is at c.in_ok-value.ensures.open in
    let m2 = c.assigned.new.into in
    let as_is : expression_if m2 (Some c.in-Some-2.converted) ≡ as_if_assigned (tree m1.known c.bare-target.result.0) (expression_at m1 c.in-Some.value) = rw c.in-Some-2.is at c.in_ok-converted.ensures.typed in
    let there : IfSome (Some c.in-Some-2.converted) (λ v. IsExpression m2 v) = rw c.in-Some-2.is at c.in_ok-converted.ensures.node in
    let earlier : c.bare-target.result.0 < length m1.known.terms = rw c.types.ensures at c.bare-target.ensures.known in
    let may : is_allowed values c.args.lasting (state_of c.args.t.now.texts false c.operand.new.s m2) (expression_at m2 c.in-Some-2.converted) ≡ true = search rules in
    let line = c.line-line.ensures ∙ line_is (tree_at f c.args.a) c.requires.node.1 in
    (single_of c.args.lasting c.args.t.now.texts m0 m1 m2 c.args.s.now c.operand.new.s c.args.part a c.bare-target.result c.line-line.result c.in-Some.value c.in-Some-2.converted c.args.out.now.items c.push.new.self.items
    goes opened.1 c.in_ok-converted.ensures.kept c.requires.stores c.requires.part typed bared earlier as_is there may line c.in_ok-push.ensures.items).fills
