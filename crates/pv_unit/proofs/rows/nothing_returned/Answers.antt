use Rattle.std.proofs.Common.{rules, ◌≡◌, ◌∙◌, ap, sym, Bool, Some, None, true, false}
use Rattle.std.specs.Prelude.{if◌then◌else◌}
use Rattle.pv_types.specs.Known.{tree}
use Rattle.pv_typed.specs.TypedStatement.{Return}
use Rattle.pv_typed.specs.NodeTrees.{statement_at}
use Rattle.pv_check.specs.Open.{state_of}
use Rattle.pv_types.specs.Sorts.{is_void}
use Rattle.pv_check.specs.State.{give}
use Rattle.pv_unit.proofs.Moving.{made_is}
use Rattle.pv_unit.proofs.rows.nothing_returned.Goals as goal

pub returns-in_ok-made-clause-typed : goal.returns-in_ok-made-clause-typed
returns-in_ok-made-clause-typed c = λ texts.
    let a = c.args.into.now in
    let yes : is_void (tree a.known c.args.returned.0) ≡ true = search rules in
    let is : statement_at c.add.new.into c.in_ok-made.made ≡ Return c.args.line None = search rules in
    made_is texts c.args.s.now a c.add.new.into c.in_ok-made.made (Return c.args.line None) is (c.in_ok-made.ensures.state texts)
    ∙ sym (ap (λ (b : Bool). if b then give (Some (Return c.args.line None)) (state_of texts false c.args.s.now a) else None) yes)
