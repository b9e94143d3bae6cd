use Rattle.std.proofs.Common.{rules, ◌≡◌, ◌∙◌, ◌<◌, ◌+◌, ap, length, false, Some, None, arith}
use Rattle.pv_tree.specs.Tables.{trees_at}
use Rattle.pv_types.specs.Known.{tree}
use Rattle.pv_check.specs.Open.{state_of}
use Rattle.pv_check.specs.Raw.{raw_of, scope_shown}
use Rattle.pv_check.specs.State.{State}
use Rattle.pv_typed.specs.Constants.{and_then}
use Rattle.pv_unit.specs.Bodies.{left_items}
use Rattle.pv_unit.specs.Functions.{within}
use Rattle.pv_unit.specs.FunctionParts.{body_of}
use Rattle.pv_unit.specs.Stated.{items_in, statements_in, Moves}
use Rattle.pv_unit.specs.TypedStatements.{typed_items}
use Rattle.pv_unit.proofs.functions.scoped.Goals as goal

pub leave-requires-clause-within : goal.leave-requires-clause-within
leave-requires-clause-within c =
    let m : Moves c.args.into.now c.reenter.new.s c.all_items.new.into c.all_items.new.s = search rules in
    let deep : length c.all_items.new.s.scopes ≡ length c.reenter.new.s.scopes = m.deep in
    let more : length c.reenter.new.s.scopes ≡ length c.args.s.now.scopes + 1 = search rules in
    let some : 0 < length c.args.s.now.scopes = c.requires.opened.some in
    omega (arith, deep, more, some)

pub leave-requires-clause-opened : goal.leave-requires-clause-opened
leave-requires-clause-opened c =
    let m : Moves c.args.into.now c.reenter.new.s c.all_items.new.into c.all_items.new.s = search rules in
    m.opened

pub returns-clause-moves : goal.returns-clause-moves
returns-clause-moves c =
    let m : Moves c.args.into.now c.reenter.new.s c.all_items.new.into c.all_items.new.s = search rules in
    let deep : length c.all_items.new.s.scopes ≡ length c.reenter.new.s.scopes = m.deep in
    let more : length c.reenter.new.s.scopes ≡ length c.args.s.now.scopes + 1 = search rules in
    let less : length c.leave.new.s.scopes + 1 ≡ length c.all_items.new.s.scopes = c.leave.ensures.deep in
    record { opened = c.leave.ensures.opened; goes = m.goes; deep = omega (arith, deep, more, less) }

pub returns-clause-answer : goal.returns-clause-answer
returns-clause-answer c =
    let texts = c.args.t.now.texts in
    let ts = trees_at c.args.u.now.forest c.args.list in
    let a = c.args.into.now in
    let b = c.all_items.new.into in
    let ns = c.all_items.new.items.items in
    let r = body_of (tree a.known c.args.result_type.0) in
    let entered : state_of texts false c.reenter.new.s a ≡ within (scope_shown a.known (raw_of c.args.scope)) (state_of texts false c.args.s.now a) = c.in_ok-reenter.ensures.state texts in
    let typed : Some (items_in texts c.all_items.new.s b ns) ≡ typed_items r ts (state_of texts false c.reenter.new.s a) = search rules in
    ap (λ (z : State). Some (record { value = statements_in b ns; state = z })) (c.leave.ensures.state texts)
    ∙ ap (λ q. and_then q left_items) (typed ∙ ap (typed_items r ts) entered)

pub returns-then-not-branch-clause-answer : goal.returns-then-not-branch-clause-answer
returns-then-not-branch-clause-answer c =
    let texts = c.args.t.now.texts in
    let ts = trees_at c.args.u.now.forest c.args.list in
    let a = c.args.into.now in
    let r = body_of (tree a.known c.args.result_type.0) in
    let entered : state_of texts false c.reenter.new.s a ≡ within (scope_shown a.known (raw_of c.args.scope)) (state_of texts false c.args.s.now a) = c.in_ok-reenter.ensures.state texts in
    let typed : None ≡ typed_items r ts (state_of texts false c.reenter.new.s a) = search rules in
    ap (λ q. and_then q left_items) (typed ∙ ap (typed_items r ts) entered)
