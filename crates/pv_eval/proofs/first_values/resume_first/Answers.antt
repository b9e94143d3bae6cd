use Rattle.std.proofs.Common.{refl, sym, ap, ◌∙◌}
use Rattle.std.specs.Prelude.{true, false, []}
use Rattle.pv_eval.specs.declared.frames.Stage.TheVariants.{Later, Second}
use Rattle.pv_eval.specs.Sequenced.{operand}
use Rattle.pv_eval.specs.Evaluation.{ev}
use Rattle.pv_seq.specs.Rivals.{top}
use Rattle.pv_typed.specs.TypedTree.{type_of, line_of}
use Rattle.pv_typed.specs.Tables.{nodes}
use Rattle.pv_typed.specs.NodeTrees.{expression_at}
use Rattle.pv_world.specs.Worths.{pointer_of}
use Rattle.pv_eval.specs.TypeForms.{lvalue}
use Rattle.pv_eval.specs.Accesses.{access_to}
use Rattle.pv_world.specs.Coming.{worth_of}
use Rattle.pv_eval.specs.Moments.{state_of}
use Rattle.pv_eval.proofs.Cases.{stays_itself, came-given, access-given, access-below, access-some, goes-on, frame-is, second-there}
use Rattle.pv_eval.proofs.Given.{given-alone}
use Rattle.pv_eval.proofs.first_values.resume_first.Goals as goal

pub returns-in-Not-clause-led : goal.returns-in-Not-clause-led
returns-in-Not-clause-led c = λ b out es hs hl call. rw (c.in-Not.is, c.give.ensures, ← (c.line_of-line.ensures.expression c.requires.there)) (came-given b call c.args.unit.now c.negate.result _ c.args.journal.now _ (c.negate.ensures.acted b out es hs hl))

pub returns-in-Member-clause-led : goal.returns-in-Member-clause-led
returns-in-Member-clause-led c = λ b out es hs hl call. rw (c.in-Member.is, c.give-in-Member.ensures, ← (c.line_of-line.ensures.expression c.requires.there)) (came-given b call c.args.unit.now c.select.result _ c.args.journal.now _ (c.select.ensures.acted b out es hs hl))

pub returns-in-Arrow-clause-led : goal.returns-in-Arrow-clause-led
returns-in-Arrow-clause-led c = λ b out es hs hl call. rw (c.in-Arrow.is, c.give-in-Arrow.ensures, ← (c.line_of-line.ensures.expression c.requires.there)) (came-given b call c.args.unit.now c.select-in-Arrow.result _ c.args.journal.now _ (c.select-in-Arrow.ensures.acted b out es hs hl))

pub returns-in-Cast-clause-led : goal.returns-in-Cast-clause-led
returns-in-Cast-clause-led c = λ b out es hs hl call. rw (c.in-Cast.is, c.give-in-Cast.ensures, ← (c.line_of-line.ensures.expression c.requires.there), ← c.type_of.ensures.tree, ← c.type_of-in-Cast.ensures.tree) (came-given b call c.args.unit.now c.convert.result _ c.args.journal.now _ (c.convert.ensures.acted b out es hs hl))

pub returns-in-Read-clause-led : goal.returns-in-Read-clause-led
returns-in-Read-clause-led c = λ b out es hs hl call. rw (c.in-Read.is, c.give-in-Read.ensures, ← (c.line_of-line.ensures.expression c.requires.there)) (access-given b call c.args.unit.now c.args.moment.now (λ b. access_to (lvalue b (type_of (expression_at c.args.unit.now c.in-Read.a))) (pointer_of (worth_of c.args.v)) false) c.read.result _ c.args.journal.now c.read.new.journal _ hs (c.read.ensures.acted b out es hs hl) c.read.ensures.noted)

pub returns-in-Read-clause-below : goal.returns-in-Read-clause-below
returns-in-Read-clause-below c = rw c.give-in-Read.ensures (access-below c.args.unit.now c.args.moment.now _ c.read.result c.args.journal.now c.read.new.journal c.read.ensures.noted)

pub returns-in-Read-clause-some : goal.returns-in-Read-clause-some
returns-in-Read-clause-some c = rw c.give-in-Read.ensures (access-some c.args.unit.now c.args.moment.now _ c.read.result c.args.journal.now c.read.new.journal c.read.ensures.noted)

pub returns-in-Comma-clause-led : goal.returns-in-Comma-clause-led
returns-in-Comma-clause-led c = λ b out es hs hl call. rw (frame-is b call c.args.unit.now c.args.n c.args.x c.requires.form (Later true), c.sequence_point.ensures, c.in-Comma.is) refl

pub returns-in-Some : goal.returns-in-Some
returns-in-Some c =
    let u = c.args.unit.now in
    let x = expression_at u c.args.n in
    let second = sym c.second_operand.ensures ∙ c.in-Some.is in
    record {
      led = λ b out es hs hl call.
          goes-on b call (type_of x) (line_of x) u.lists (nodes u) [] (state_of c.args.moment.now out es) (top c.args.journal.now) (worth_of c.args.v) c.args.x c.in-Some.d second
          ∙ ap (operand (ev b call (expression_at u c.in-Some.d)) (top c.args.journal.now) (state_of c.args.moment.now out es)) (sym (frame-is b call u c.args.n c.args.x c.requires.form (Second c.args.v)));
      stays = stays_itself _;
      below = refl;
      some = c.requires.some;
      fits = (second-there u c.args.n c.in-Some.d c.args.x c.requires.there c.requires.operands second, (c.requires.there, tt));
    }

pub returns-in-Indirection-clause-led : goal.returns-in-Indirection-clause-led
returns-in-Indirection-clause-led c = λ b out es hs hl call. rw (c.in-Indirection.is, c.give-in-Indirection.ensures, ← (c.line_of-line.ensures.expression c.requires.there), ← c.is_none-nothing.ensures) (came-given b call c.args.unit.now c.follow.result _ c.args.journal.now _ (c.follow.ensures.acted b out es hs hl))

pub returns-in-MemberOfValue-clause-led : goal.returns-in-MemberOfValue-clause-led
returns-in-MemberOfValue-clause-led c = λ b out es hs hl call. rw (c.in-MemberOfValue.is, c.give-in-MemberOfValue.ensures, ← (c.line_of-line.ensures.expression c.requires.there), ← c.type_of-in-MemberOfValue.ensures.tree) (came-given b call c.args.unit.now c.part.result _ c.args.journal.now _ (c.part.ensures.acted b out es hs hl))

pub returns-in-Unary-clause-led : goal.returns-in-Unary-clause-led
returns-in-Unary-clause-led c = λ b out es hs hl call. rw (c.in-Unary.is, ← (c.line_of-line.ensures.expression c.requires.there)) (c.unary.ensures.led b out es hs hl call c.args.journal.now)

pub returns-in-CompoundAssign-clause-led : goal.returns-in-CompoundAssign-clause-led
returns-in-CompoundAssign-clause-led c = λ b out es hs hl call. rw (c.in-CompoundAssign.is, ← (c.line_of-line.ensures.expression c.requires.there)) (c.read_place.ensures.led b out es hs hl call)

pub returns-in-PointerAssign-clause-led : goal.returns-in-PointerAssign-clause-led
returns-in-PointerAssign-clause-led c = λ b out es hs hl call. rw (c.in-PointerAssign.is, ← (c.line_of-line.ensures.expression c.requires.there)) (c.read_place-in-PointerAssign.ensures.led b out es hs hl call)

pub returns-in-Increment-clause-led : goal.returns-in-Increment-clause-led
returns-in-Increment-clause-led c = λ b out es hs hl call. rw (c.in-Increment.is, ← (c.line_of-line.ensures.expression c.requires.there)) (c.increment.ensures.led b out es hs hl call)

pub returns-in-None-clause-led : goal.returns-in-None-clause-led
returns-in-None-clause-led c = λ b out es hs hl call.
    let u = c.args.unit.now in
    let x = expression_at u c.args.n in
    given-alone b call (type_of x) (line_of x) u.lists (nodes u) (top c.args.journal.now) (worth_of c.args.v) (state_of c.args.moment.now out es) c.args.x (sym c.second_operand.ensures ∙ c.in-None.is)
    (record {
      not-Read = c.in_default.not-Read;
      not-Indirection = c.in_default.not-Indirection;
      not-Member = c.in_default.not-Member;
      not-Arrow = c.in_default.not-Arrow;
      not-MemberOfValue = c.in_default.not-MemberOfValue;
      not-Unary = c.in_default.not-Unary;
      not-Not = c.in_default.not-Not;
      not-Cast = c.in_default.not-Cast;
      not-LogicalAnd = c.in_default.not-LogicalAnd;
      not-LogicalOr = c.in_default.not-LogicalOr;
      not-Conditional = c.in_default.not-Conditional;
      not-Comma = c.in_default.not-Comma;
      not-CompoundAssign = c.in_default.not-CompoundAssign;
      not-PointerAssign = c.in_default.not-PointerAssign;
      not-Increment = c.in_default.not-Increment;
      not-CallPointer = c.in_default.not-CallPointer;
    })
