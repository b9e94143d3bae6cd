use Rattle.std.proofs.Common.{◌≡◌, ap, option_map, Some, None}
use Rattle.pv_tree.specs.Tables.{expression_at as expression_of_node}
use Rattle.pv_types.specs.Formed.{completions}
use Rattle.pv_unit.specs.InitializerParts.{zero_leaf}
use Rattle.pv_unit.specs.Stores.{behind, stores_in}
use Rattle.pv_unit.specs.Subobjects.{part_of}
use Rattle.pv_unit.proofs.Singles.{ok_same, zero_none, zero_some}
use Rattle.pv_unit.proofs.initializers.zero.Goals as goal

pub returns-in-Some-clause-typed : goal.returns-in-Some-clause-typed
returns-in-Some-clause-typed c =
    let m = c.args.into.now in
    let a = expression_of_node c.args.u.now.forest c.args.a in
    let leaf : Some (part_of m.known c.in-Some.leaf) ≡ zero_leaf (completions m.known) (part_of m.known c.args.part) = rw c.types.ensures at c.in-Some.ensures.part in
    ok_same _ _ _ c.single.result (ap (option_map (behind (stores_in m c.args.out.now.items))) (zero_some c.args.lasting c.args.t.now.texts c.args.s.now m c.args.part c.in-Some.leaf a leaf)) c.single.ensures.typed

pub returns-in-None-clause-typed : goal.returns-in-None-clause-typed
returns-in-None-clause-typed c =
    let m = c.args.into.now in
    let a = expression_of_node c.args.u.now.forest c.args.a in
    let none : None ≡ zero_leaf (completions m.known) (part_of m.known c.args.part) = rw c.types.ensures at c.in-None.ensures.part in
    zero_none c.args.lasting c.args.t.now.texts c.args.s.now m c.args.part a (stores_in m c.args.out.now.items) none
