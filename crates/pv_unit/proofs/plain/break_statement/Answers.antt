use Rattle.std.proofs.Common.{rules, ◌≡◌, true, false}
use Rattle.pv_tree.specs.TreeLines.{tree_line}
use Rattle.pv_tree.specs.Tables.{tree_at, statement_at as statement_of}
use Rattle.pv_typed.specs.NodeTrees.{statement_at}
use Rattle.pv_typed.specs.TypedStatement as typed
use Rattle.pv_check.specs.Open.{state_of}
use Rattle.pv_unit.specs.Stated.{around_in}
use Rattle.pv_unit.proofs.Moving.{made_is}
use Rattle.pv_unit.proofs.PlainRows.{break_is}
use Rattle.pv_unit.proofs.plain.break_statement.Goals as goal

pub returns-in_ok-made-clause-typed : goal.returns-in_ok-made-clause-typed
returns-in_ok-made-clause-typed c =
    let texts = c.args.t.now.texts in
    let f = c.args.u.now.forest in
    let a = c.args.into.now in
    let line = tree_line (tree_at f c.args.n) in
    let may : c.args.w.breaks ≡ true = search rules in
    let tree : statement_at c.add.new.into c.in_ok-made.made ≡ typed.Break line = search rules in
    break_is (around_in a.known c.args.w) line (statement_of f c.args.n) (state_of texts false c.args.s.now a) _ c.requires.is may
    (made_is texts c.args.s.now a c.add.new.into c.in_ok-made.made (typed.Break line) tree (c.in_ok-made.ensures.state texts))
