use Rattle.std.proofs.Common.{◌≡◌, Bool, true, Some, None, map, sym, ap, ◌∙◌, rules}
use Rattle.std.specs.Prelude.{if◌then◌else◌}
use Rattle.pv_types.specs.Known.{tree}
use Rattle.pv_types.specs.Ty.{Ty}
use Rattle.pv_typed.specs.NodeTrees.{expression_at}
use Rattle.pv_typed.specs.TypedTree.{Node, Arguments, arguments_of, LibraryCall}
use Rattle.pv_check.proofs.PassingRows.{list_shown}
use Rattle.pv_check.proofs.calls.library_call.Goals as goal

pub returns-clause-typed : goal.returns-clause-typed
returns-clause-typed c =
    let a = c.args.into.now in
    let m = c.listed.new.into in
    let args : Arguments = arguments_of (map (expression_at a) c.args.args.now) in
    let may : c.may_pass.result ≡ true = search rules in
    ap Some
    (c.in_ok-r.ensures.tree
    ∙ ap (λ (x : Arguments). Node (tree m.known c.args.t.0) c.args.line true (LibraryCall c.args.f x)) (list_shown m c.in_ok-l.l c.args.args.now c.in_ok-l.ensures.list ∙ ap arguments_of c.in_ok-l.ensures.trees)
    ∙ ap (λ (v : Ty). Node v c.args.line true (LibraryCall c.args.f args)) (c.in_ok-l.ensures.kept.grown.types c.args.t.0 c.requires.target))
    ∙ ap (λ (b : Bool). if b then Some (Node (tree a.known c.args.t.0) c.args.line true (LibraryCall c.args.f args)) else None) (sym may ∙ c.may_pass.ensures)
