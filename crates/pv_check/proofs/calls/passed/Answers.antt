use Rattle.std.proofs.Common.{◌≡◌, ◌+◌, ◌<◌, ◌≤◌, Some, None, List, [], ◌∷◌, ◌++◌, length, map, drop, get_or, subst, sym, ap, arith, ◌∙◌, rules}
use Rattle.std.proofs.lemmas.List.{map-append}
use Rattle.pv_tree.specs.declared.nodes.NodeId.{NodeId}
use Rattle.pv_types.specs.Known.{trees, tys_in}
use Rattle.pv_types.specs.Ty.{Tys}
use Rattle.pv_typed.specs.Known.{Each}
use Rattle.pv_typed.specs.NodeTrees.{expression_at, IsExpression}
use Rattle.pv_typed.specs.TypedTree.{TypedTree}
use Rattle.pv_typed.proofs.Each.{each_at, each_append}
use Rattle.pv_check.specs.Calls.{passed_arguments}
use Rattle.pv_check.specs.Kept.{Kept, expression_if}
use Rattle.pv_check.specs.Passing.{one_passed}
use Rattle.pv_check.proofs.Keeping.{kept_refl, kept_trans}
use Rattle.pv_check.proofs.PassingRows.{joined, joined_nil, passed_on, passed_stops, too_few, expression_stays, nodes_known, nodes_stay}
use Rattle.pv_check.proofs.SpecifierRows.{there}
use Rattle.pv_check.proofs.TypeLists.{tys_stay, below_drop, below_more}
use Rattle.pv_check.proofs.calls.passed.Goals as goal

abbrev first : NodeId
first = record { 0 = 0 }

pub loop-i-init : goal.loop-i-init
loop-i-init c =
    let a = c.args.into.now in
    let e : c.new-list.result.items ≡ [] = search rules in
    let whole = passed_arguments (tys_in (trees a.known) c.args.types.now) c.args.variadic (map (expression_at a) c.args.args.now) in
    (omega arith, c.requires.known, kept_refl a, subst (λ (xs : List NodeId). Each (IsExpression a) xs) (sym e) tt, ap (λ (xs : List NodeId). joined (map (expression_at a) xs) whole) e ∙ joined_nil whole)

pub argument-requires-clause-types : goal.argument-requires-clause-types
argument-requires-clause-types c = below_more (length c.args.into.now.known.terms) (length c.loop-i.into.known.terms) c.args.types.now c.loop-i.invariant.2.grown.terms c.requires.types

pub argument-requires-clause-node : goal.argument-requires-clause-node
argument-requires-clause-node c =
    let lt : c.loop-i.i < length c.args.args.now = c.loop-i-test.true in
    expression_stays c.args.into.now c.loop-i.into c.loop-i.invariant.2.grown (get_or c.args.args.now c.loop-i.i first) (each_at (IsExpression c.args.into.now) first c.args.args.now c.requires.nodes c.loop-i.i lt)

pub returns-in_default-clause-typed : goal.returns-in_default-clause-typed
returns-in_default-clause-typed c =
    let a = c.args.into.now in
    let m = c.loop-i.into in
    let lt : c.loop-i.i < length c.args.args.now = c.loop-i-test.true in
    let n = get_or c.args.args.now c.loop-i.i first in
    let types : tys_in (trees m.known) (drop c.loop-i.i c.args.types.now) ≡ tys_in (trees a.known) (drop c.loop-i.i c.args.types.now) =
    tys_stay a.known m.known _ c.loop-i.invariant.2.grown.types (below_drop _ c.loop-i.i c.args.types.now c.requires.types) in
    let tree : expression_at m n ≡ expression_at a n = c.loop-i.invariant.2.grown.expressions n (each_at (IsExpression a) first c.args.args.now c.requires.nodes c.loop-i.i lt).0 in
    let none : one_passed (tys_in (trees a.known) (drop c.loop-i.i c.args.types.now)) c.args.variadic (expression_at a n) ≡ None =
    ap (λ (ts : Tys). one_passed ts c.args.variadic (expression_at a n)) (sym types)
    ∙ ap (one_passed (tys_in (trees m.known) (drop c.loop-i.i c.args.types.now)) c.args.variadic) (sym tree)
    ∙ sym c.in_ok-x.ensures.typed ∙ ap (expression_if c.argument.new.into) c.in_default.is in
    passed_stops (trees a.known) c.args.types.now c.args.variadic (expression_at a) c.args.args.now c.loop-i.i first lt _ none ∙ c.loop-i.invariant.4

pub loop-i-preserved : goal.loop-i-preserved
loop-i-preserved c =
    let a = c.args.into.now in
    let m = c.loop-i.into in
    let b = c.argument.new.into in
    let lt : c.loop-i.i < length c.args.args.now = c.loop-i-test.true in
    let n = get_or c.args.args.now c.loop-i.i first in
    let kept : Kept m b = c.in_ok-x.ensures.kept in
    let node : IsExpression b c.in-Some.x = there (λ v. IsExpression b v) c.in-Some.is c.in_ok-x.ensures.node in
    let types : tys_in (trees m.known) (drop c.loop-i.i c.args.types.now) ≡ tys_in (trees a.known) (drop c.loop-i.i c.args.types.now) =
    tys_stay a.known m.known _ c.loop-i.invariant.2.grown.types (below_drop _ c.loop-i.i c.args.types.now c.requires.types) in
    let tree : expression_at m n ≡ expression_at a n = c.loop-i.invariant.2.grown.expressions n (each_at (IsExpression a) first c.args.args.now c.requires.nodes c.loop-i.i lt).0 in
    let some : one_passed (tys_in (trees a.known) (drop c.loop-i.i c.args.types.now)) c.args.variadic (expression_at a n) ≡ Some (expression_at b c.in-Some.x) =
    ap (λ (ts : Tys). one_passed ts c.args.variadic (expression_at a n)) (sym types)
    ∙ ap (one_passed (tys_in (trees m.known) (drop c.loop-i.i c.args.types.now)) c.args.variadic) (sym tree)
    ∙ sym c.in_ok-x.ensures.typed ∙ ap (expression_if b) c.in-Some.is in
    let more : map (expression_at b) (c.loop-i.list.items ++ (c.in-Some.x ∷ [])) ≡ map (expression_at m) c.loop-i.list.items ++ (expression_at b c.in-Some.x ∷ []) =
    map-append (expression_at b) c.loop-i.list.items (c.in-Some.x ∷ []) ∙ ap (λ xs. xs ++ (expression_at b c.in-Some.x ∷ [])) (nodes_stay m b c.loop-i.list.items kept.grown c.loop-i.invariant.3) in (
      omega (arith, lt),
      kept.grown.known c.loop-i.invariant.1,
      kept_trans a m b c.loop-i.invariant.2 kept,
      subst (λ (xs : List NodeId). Each (IsExpression b) xs) (sym c.in_ok-push.ensures.items) (each_append (IsExpression b) c.loop-i.list.items (c.in-Some.x ∷ []) (nodes_known m b c.loop-i.list.items kept.grown c.loop-i.invariant.3) (node, tt)),
      ap (λ (xs : List NodeId). joined (map (expression_at b) xs) (passed_arguments (tys_in (trees a.known) (drop (c.loop-i.i + 1) c.args.types.now)) c.args.variadic (map (expression_at a) (drop (c.loop-i.i + 1) c.args.args.now)))) c.in_ok-push.ensures.items
          ∙ ap (λ (xs : List TypedTree). joined xs (passed_arguments (tys_in (trees a.known) (drop (c.loop-i.i + 1) c.args.types.now)) c.args.variadic (map (expression_at a) (drop (c.loop-i.i + 1) c.args.args.now)))) more
          ∙ passed_on (trees a.known) c.args.types.now c.args.variadic (expression_at a) c.args.args.now c.loop-i.i first lt (map (expression_at m) c.loop-i.list.items) (expression_at b c.in-Some.x) some
          ∙ c.loop-i.invariant.4,
    )

pub returns-then-args-types-clause-typed : goal.returns-then-args-types-clause-typed
returns-then-args-types-clause-typed c =
    let a = c.args.into.now in
    let le : length c.args.args.now ≤ c.loop-i.i = c.loop-i-test.false in
    let k : c.loop-i.i < length c.args.types.now = omega arith in
    too_few (trees a.known) c.args.types.now c.args.variadic (expression_at a) c.args.args.now c.loop-i.i le (map (expression_at c.loop-i.into) c.loop-i.list.items) k ∙ c.loop-i.invariant.4
