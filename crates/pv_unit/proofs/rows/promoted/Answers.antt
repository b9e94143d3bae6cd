use Rattle.std.proofs.Common.{rules, ◌≡◌, Some, None, false}
use Rattle.pv_typed.specs.TypedTree.{type_of}
use Rattle.pv_typed.specs.NodeTrees.{expression_at}
use Rattle.pv_types.specs.Sorts.{kind_of}
use Rattle.pv_check.proofs.ArmLaws.{goes_kept}
use Rattle.pv_check.proofs.Opening.{state_stays}
use Rattle.pv_unit.proofs.Moving.{moves_tables}
use Rattle.pv_unit.proofs.ValueRows.{promoted_done}
use Rattle.pv_unit.proofs.rows.promoted.Goals as goal

pub returns-in_default-clause-moves : goal.returns-in_default-clause-moves
returns-in_default-clause-moves c = moves_tables c.args.into.now c.promoted_value.new.into c.args.s.now c.requires.opened (goes_kept c.args.into.now c.promoted_value.new.into c.in_ok-value.ensures.kept)

pub returns-clause-moves : goal.returns-clause-moves
returns-clause-moves c = moves_tables c.args.into.now c.promoted_value.new.into c.args.s.now c.requires.opened (goes_kept c.args.into.now c.promoted_value.new.into c.in_ok-value.ensures.kept)

pub returns-in_default-clause-typed : goal.returns-in_default-clause-typed
returns-in_default-clause-typed c = λ texts.
    let b = c.promoted_value.new.into in
    let kind : None ≡ kind_of (type_of (expression_at b c.in_ok-value.value)) = search rules in
    promoted_done texts c.args.s.now c.args.into.now b c.args.found c.in_ok-value.value None c.in_ok-value.ensures.value kind
    (state_stays texts false c.args.into.now b c.args.s.now c.requires.opened (goes_kept c.args.into.now b c.in_ok-value.ensures.kept) c.in_ok-value.ensures.kept.whole)

pub returns-clause-typed : goal.returns-clause-typed
returns-clause-typed c = λ texts.
    let b = c.promoted_value.new.into in
    let kind : Some c.in-Some.kind ≡ kind_of (type_of (expression_at b c.in_ok-value.value)) = search rules in
    promoted_done texts c.args.s.now c.args.into.now b c.args.found c.in_ok-value.value (Some c.in-Some.kind) c.in_ok-value.ensures.value kind
    (state_stays texts false c.args.into.now b c.args.s.now c.requires.opened (goes_kept c.args.into.now b c.in_ok-value.ensures.kept) c.in_ok-value.ensures.kept.whole)
