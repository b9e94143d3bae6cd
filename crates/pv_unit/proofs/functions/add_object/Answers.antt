use Rattle.std.proofs.Common.{rules, ◌≡◌}
use Rattle.pv_typed.specs.Adding.{with_param}
use Rattle.pv_typed.specs.Formed.{Grown}
use Rattle.pv_typed.specs.Tables.{whole_unit}
use Rattle.pv_check.proofs.Literals.{goes_same_types}
use Rattle.pv_unit.proofs.FunctionRows.{param_added}
use Rattle.pv_unit.proofs.Moving.{moves_tables}
use Rattle.pv_unit.proofs.functions.add_object.Goals as goal

pub returns-clause-moves : goal.returns-clause-moves
returns-clause-moves c =
    let a = c.args.into.now in
    let b = c.add_param.new.self in
    let grown : Grown a b = search rules in
    let same : b.known ≡ a.known = search rules in
    moves_tables a b c.args.s.now c.requires.opened (goes_same_types a b grown same)

pub returns-clause-state : goal.returns-clause-state
returns-clause-state c = λ texts.
    let a = c.args.into.now in
    let b = c.add_param.new.self in
    let grown : Grown a b = search rules in
    let same : b.known ≡ a.known = search rules in
    let is : whole_unit b ≡ with_param (whole_unit a) c.args.f c.args.o = search rules in
    param_added texts a b c.args.s.now c.args.f c.args.o c.requires.opened (goes_same_types a b grown same) is
