use Rattle.std.proofs.Common.{true, Some, map, ap, ◌∙◌}
use Rattle.pv_types.specs.Known.{tree}
use Rattle.pv_types.specs.Ty.{Ty}
use Rattle.pv_typed.specs.NodeTrees.{expression_at}
use Rattle.pv_typed.specs.TypedTree.{TypedTree, Node, Arguments, arguments_of, CallPointer}
use Rattle.pv_check.proofs.PassingRows.{list_shown}
use Rattle.pv_check.proofs.calls.pointed_call.Goals as goal

pub returns-clause-typed : goal.returns-clause-typed
returns-clause-typed c =
    let a = c.args.into.now in
    let m = c.listed.new.into in
    let args : Arguments = arguments_of (map (expression_at a) c.args.args.now) in
    ap Some
    (c.in_ok-r.ensures.tree
    ∙ ap (λ (x : Arguments). Node (tree m.known c.args.t.0) c.args.line true (CallPointer (expression_at m c.args.a) x)) (list_shown m c.in_ok-l.l c.args.args.now c.in_ok-l.ensures.list ∙ ap arguments_of c.in_ok-l.ensures.trees)
    ∙ ap (λ (x : TypedTree). Node (tree m.known c.args.t.0) c.args.line true (CallPointer x args)) (c.in_ok-l.ensures.kept.grown.expressions c.args.a c.requires.callee.0)
    ∙ ap (λ (v : Ty). Node v c.args.line true (CallPointer (expression_at a c.args.a) args)) (c.in_ok-l.ensures.kept.grown.types c.args.t.0 c.requires.target))
