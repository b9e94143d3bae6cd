use Rattle.std.proofs.Common.{rules, option_map, ◌≡◌, ◌<◌, ◌∙◌, ap, length, get_or, arith, true, false, Some, None}
use Rattle.pv_tree.specs.declared.nodes.NodeId.{NodeId}
use Rattle.pv_tree.specs.TreeLines.{tree_line}
use Rattle.pv_tree.specs.Tables.{tree_at, initializer_at, expression_at as expression_of_node, is_initializer}
use Rattle.pv_types.specs.Formed.{completions}
use Rattle.pv_check.specs.Open.{state_of}
use Rattle.pv_unit.specs.Initializers.{Each, Zero, shape_of, initializer_stores}
use Rattle.pv_unit.specs.Parts.{part_at}
use Rattle.pv_unit.specs.Stores.{FillsIf, behind, stores_if, stores_in}
use Rattle.pv_unit.specs.Subobjects.{part_of}
use Rattle.pv_unit.specs.ValueRules.{values}
use Rattle.pv_unit.proofs.Each.{going_missing, going_refused, going_next, initialized_shape, list_of}
use Rattle.pv_unit.proofs.Singles.{ok_same}
use Rattle.pv_unit.proofs.initializers.+initializing.Goals as goal

abbrev no_id : NodeId
no_id = record { 0 = 0 }

pub each-returns-in_default-part_at-clause-typed : goal.each-returns-in_default-part_at-clause-typed
each-returns-in_default-part_at-clause-typed t c =
    let f = c.args.u.now.forest in
    let m0 = c.args.into.now in
    let m = c.loop-n.into in
    let texts = c.args.t.now.texts in
    let list = c.list-list.result.now in
    let lt : c.loop-n.n-index < length list = omega arith in
    let kind : is_initializer (tree_at f (get_or list c.loop-n.n-index no_id)) ≡ true = search rules in
    let none : None ≡ part_at (completions m.known) (part_of m.known c.args.part) c.loop-n.count = rw c.types.ensures at c.in_default-part_at.ensures.part in
    going_missing c.args.lasting texts m0 m c.args.s.now c.loop-n.s c.args.part f list (stores_in m0 c.args.out.now.items) c.loop-n.n-index c.loop-n.count c.loop-n.out.items no_id c.loop-n.invariant lt kind c.requires.part.known none
    ∙ list_of values c.args.lasting (part_of m0.known c.args.part) f c.args.i c.in-Braces.inits c.in-Braces.comma (tree_line (tree_at f c.args.i)) list (stores_in m0 c.args.out.now.items) (state_of texts false c.args.s.now m0) c.in-Braces.ensures.tree c.list-list.ensures

pub each-returns-in_default-2-clause-typed : goal.each-returns-in_default-2-clause-typed
each-returns-in_default-2-clause-typed t c =
    let f = c.args.u.now.forest in
    let m0 = c.args.into.now in
    let m = c.loop-n.into in
    let texts = c.args.t.now.texts in
    let list = c.list-list.result.now in
    let lt : c.loop-n.n-index < length list = omega arith in
    let kind : is_initializer (tree_at f (get_or list c.loop-n.n-index no_id)) ≡ true = search rules in
    let place : Some (part_of m.known c.in-Some.inner) ≡ part_at (completions m.known) (part_of m.known c.args.part) c.loop-n.count = rw c.types.ensures at c.in-Some.ensures.part in
    let i = initializer_at f (get_or list c.loop-n.n-index no_id) in
    let none : None ≡ option_map (behind (stores_in m c.loop-n.out.items)) (initializer_stores values c.args.lasting (part_of m.known c.in-Some.inner) i (state_of texts false c.loop-n.s m)) = rw c.in_default-2.is at c.in_ok-initializer.ensures.typed in
    going_refused c.args.lasting texts m0 m c.args.s.now c.loop-n.s c.args.part f list (stores_in m0 c.args.out.now.items) c.loop-n.n-index c.loop-n.count c.loop-n.out.items no_id c.loop-n.invariant lt kind c.requires.part.known c.in-Some.inner place none
    ∙ list_of values c.args.lasting (part_of m0.known c.args.part) f c.args.i c.in-Braces.inits c.in-Braces.comma (tree_line (tree_at f c.args.i)) list (stores_in m0 c.args.out.now.items) (state_of texts false c.args.s.now m0) c.in-Braces.ensures.tree c.list-list.ensures

pub each-loop-n-preserved : goal.each-loop-n-preserved
each-loop-n-preserved t c =
    let f = c.args.u.now.forest in
    let m0 = c.args.into.now in
    let m = c.loop-n.into in
    let texts = c.args.t.now.texts in
    let list = c.list-list.result.now in
    let lt : c.loop-n.n-index < length list = omega arith in
    let kind : is_initializer (tree_at f (get_or list c.loop-n.n-index no_id)) ≡ true = search rules in
    let place : Some (part_of m.known c.in-Some.inner) ≡ part_at (completions m.known) (part_of m.known c.args.part) c.loop-n.count = rw c.types.ensures at c.in-Some.ensures.part in
    let new = c.initializer.new in
    let i = initializer_at f (get_or list c.loop-n.n-index no_id) in
    let typed : stores_if texts new.s new.into new.out.items (Some c.in-Some-2.field-0) ≡ option_map (behind (stores_in m c.loop-n.out.items)) (initializer_stores values c.args.lasting (part_of m.known c.in-Some.inner) i (state_of texts false c.loop-n.s m)) = rw c.in-Some-2.is at c.in_ok-initializer.ensures.typed in
    let fills : FillsIf m new.into new.s new.out.items (Some c.in-Some-2.field-0) = rw c.in-Some-2.is at c.in_ok-initializer.ensures.fills in
    going_next c.args.lasting texts m0 m c.args.s.now c.loop-n.s c.args.part f list (stores_in m0 c.args.out.now.items) c.loop-n.n-index c.loop-n.count c.loop-n.out.items no_id c.loop-n.invariant lt kind c.requires.part.known new.into new.s c.in-Some.inner c.in-Some-2.field-0 new.out.items place typed fills

pub initializer-returns-in-Zero-clause-typed : goal.initializer-returns-in-Zero-clause-typed
initializer-returns-in-Zero-clause-typed t c =
    let f = c.args.u.now.forest in
    let m = c.args.into.now in
    let i = initializer_at f c.args.i in
    let shape : Zero (expression_of_node f c.in-Zero.a) ≡ shape_of (completions m.known) (part_of m.known c.args.part) i = rw c.types.ensures at c.in-Zero.ensures.shape in
    let same = initialized_shape c.args.lasting c.args.t.now.texts c.args.s.now m c.args.part i (Zero (expression_of_node f c.in-Zero.a)) shape in
    ok_same _ _ _ c.zero.result (ap (option_map (behind (stores_in m c.args.out.now.items))) same) c.zero.ensures.typed

pub initializer-returns-in-Each-clause-typed : goal.initializer-returns-in-Each-clause-typed
initializer-returns-in-Each-clause-typed t c =
    let f = c.args.u.now.forest in
    let m = c.args.into.now in
    let i = initializer_at f c.args.i in
    let shape : Each ≡ shape_of (completions m.known) (part_of m.known c.args.part) i = rw c.types.ensures at c.in-Each.ensures.shape in
    let same = initialized_shape c.args.lasting c.args.t.now.texts c.args.s.now m c.args.part i Each shape in
    ok_same _ _ _ c.each.result (ap (option_map (behind (stores_in m c.args.out.now.items))) same) c.each.ensures.typed
