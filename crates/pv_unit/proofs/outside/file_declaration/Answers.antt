use Rattle.std.proofs.Common.{List, ◌≡◌, ◌<◌, IfOk, Option, length, sym, ap, subst, ◌∙◌}
use Rattle.pv_tree.specs.declared.nodes.NodeId.{NodeId}
use Rattle.pv_tree.specs.TreeLines.{tree_line}
use Rattle.pv_tree.specs.Syntax.{Declaration}
use Rattle.pv_tree.specs.Tables.{tree_at, trees_at, list_at, declaration_at, as_declaration}
use Rattle.pv_unit.specs.Redeclarations.{UnitState}
use Rattle.pv_unit.specs.Declarations.{file_declaration}
use Rattle.pv_unit.specs.Outside.{unit_state, unit_if}
use Rattle.pv_unit.proofs.AloneRows.{declared_is}
use Rattle.pv_unit.proofs.outside.file_declaration.Goals as goal

pub returns-then-declarators-gt0-clause-answer : goal.returns-then-declarators-gt0-clause-answer
returns-then-declarators-gt0-clause-answer c =
    let f = c.args.u.now.forest in
    let line = tree_line (tree_at f c.args.n) in
    let u = unit_state c.args.t.now.texts c.args.s.now c.args.into.now c.args.outer.now in
    let some : 0 < length (list_at f c.in-Declaration.declared) = subst (λ (xs : List NodeId). 0 < length xs) c.list-declarators.ensures c.if-declarators-gt0.true in
    let at : declaration_at f c.args.n ≡ Declaration line (trees_at f c.in-Declaration.specs) (trees_at f c.in-Declaration.declared) = ap as_declaration c.in-Declaration.ensures.tree in
    subst (λ (y : Option UnitState). IfOk c.file_declared.result (λ b. unit_if c.args.t.now.texts c.file_declared.new.s c.file_declared.new.into c.file_declared.new.outer b ≡ y))
    (declared_is line (trees_at f c.in-Declaration.specs) f (list_at f c.in-Declaration.declared) u some ∙ ap (λ d. file_declaration d u) (sym at)) c.file_declared.ensures.answer
