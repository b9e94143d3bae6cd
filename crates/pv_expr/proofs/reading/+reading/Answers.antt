use Rattle.std.proofs.Common.{◌∙◌, ◌+◌, ◌≤◌, sym, drop, length, arith, refl}
use Rattle.std.proofs.lemmas.Result.{IfOk-from_err}
use Rattle.pv_tree.specs.Tables.{expression_at, is_expression}
use Rattle.pv_tree.proofs.Kept.{extends_same, extends_then, is_kept}
use Rattle.pv_expr_forms.specs.Sources.{known_names}
use Rattle.pv_expr_forms.specs.Reader.{read, longest_tree}
use Rattle.pv_expr_forms.proofs.Answered.{moved, got, got_none, read_none, read_some, grew, grew_out}
use Rattle.pv_expr_forms.proofs.Calls.{call_none, call_there, call_forward, call_nodes, call_kept, call_end, call_stop, call_next, call_last}
use Rattle.pv_expr_forms.proofs.Listing.{called_close, no_items, start_with}
use Rattle.pv_expr_forms.proofs.Naming.{tied_kept}
use Rattle.pv_expr_forms.proofs.Readings.{nothing, head_end, head_first, measure_first, longer_in, deeper_none, deeper_low, deeper_on, grown_in}
use Rattle.pv_expr_forms.proofs.Operands.{call_is, asked_none, asked_nothing, asked_done}
use Rattle.pv_expr_forms.proofs.Steps.{grown_on, longer_goes}
use Rattle.pv_expr.proofs.Opens.{opening_kept, enclosed_nothing, enclosed_done}
use Rattle.pv_expr.proofs.Tight.{head_tight}
use Rattle.pv_expr.proofs.Goes.{suffix_is, operand_none, operand_done, operand_asks}
use Rattle.pv_expr.proofs.reading.+reading.Goals as goal

-- ---- no depth, no tree

pub read_tree-returns-then-depth-eq0 : goal.read_tree-returns-then-depth-eq0
read_tree-returns-then-depth-eq0 g t c = record {
  keeps = extends_same _;
  answer = nothing _ _ _ (read_none _ _ _ _ c.if-depth-eq0.true);
}

-- ---- read_head, where no operand is read

pub read_head-returns-in_default : goal.read_head-returns-in_default
read_head-returns-in_default g t c = record {
  keeps = extends_same _;
  answer = nothing _ _ _ (head_end _ _ _ _ c.in_default.ensures);
}

pub read_head-returns-then-measures_type : goal.read_head-returns-then-measures_type
read_head-returns-then-measures_type g t c = record {
  keeps = c.measure.ensures.keeps;
  answer =
      moved _ _ _ _ _ (head_first _ _ _ c.in-Some.token _ _ _ c.in-Some.ensures.0 (measure_first _ _ _ _ _ c.args.source.now.tokens.now.tokens (c.args.at + 1) (sym (c.measures_type.ensures.is (g.R.TypeReader.types c.args.source.now.reader.now) c.args.into.now) ∙ c.if-measures_type.true))) c.measure.ensures.answer;
}

-- ---- grow

pub grow-loop-longer-init : goal.grow-loop-longer-init
grow-loop-longer-init g t c = record { node = c.requires.node; place = c.requires.ready.place; keeps = extends_same _; tied = c.requires.ready.tied; same = refl }

pub grow-loop-longer-smaller : goal.grow-loop-longer-smaller
grow-loop-longer-smaller g t c =
    let e = grew (known_names g.R.TypeReader.types c.args.source.now c.loop-longer.into) (read (known_names g.R.TypeReader.types c.args.source.now c.loop-longer.into) c.args.below) c.args.level c.args.below c.loop-longer.into c.extend.new.into c.args.source.now.tokens.now.tokens c.loop-longer.left c.loop-longer.next c.in_ok-longer.field-0 c.in_ok-longer.ensures.answer c.in-Some.longer c.in-Some.end c.in-Some.is in
    let s = longer_goes (known_names g.R.TypeReader.types c.args.source.now c.loop-longer.into) (read (known_names g.R.TypeReader.types c.args.source.now c.loop-longer.into) c.args.below) c.args.level c.args.below (expression_at c.loop-longer.into.forest c.loop-longer.left) (drop c.loop-longer.next c.args.source.now.tokens.now.tokens) (expression_at c.extend.new.into.forest c.in-Some.longer) (drop c.in-Some.end c.args.source.now.tokens.now.tokens) e in
    omega (arith, s.grows, s.was_shallow)

pub grow-loop-longer-preserved : goal.grow-loop-longer-preserved
grow-loop-longer-preserved g t c =
    let a = longer_in c.args.source.now.typedefs.now (g.R.TypeReader.types c.args.source.now.reader.now) c.args.into.now c.loop-longer.into c.extend.new.into c.args.source.now.tokens.now.tokens c.requires.ready.tied c.loop-longer.invariant.keeps c.args.level c.args.below (expression_at c.loop-longer.into.forest c.loop-longer.left) (drop c.loop-longer.next c.args.source.now.tokens.now.tokens) c.in_ok-longer.field-0 c.in_ok-longer.ensures.answer in
    let h = got c.extend.new.into c.args.source.now.tokens.now.tokens c.in_ok-longer.field-0 _ c.in-Some.longer c.in-Some.end a c.in-Some.is in
    let e = grew (known_names g.R.TypeReader.types c.args.source.now c.args.into.now) (read (known_names g.R.TypeReader.types c.args.source.now c.args.into.now) c.args.below) c.args.level c.args.below c.loop-longer.into c.extend.new.into c.args.source.now.tokens.now.tokens c.loop-longer.left c.loop-longer.next c.in_ok-longer.field-0 a c.in-Some.longer c.in-Some.end c.in-Some.is in
    let keeps = extends_then c.args.into.now c.loop-longer.into c.extend.new.into c.loop-longer.invariant.keeps c.extend.ensures.keeps in
    record {
      node = h.1;
      place = h.2;
      keeps = keeps;
      tied = tied_kept (g.R.TypeReader.types c.args.source.now.reader.now) c.args.into.now c.extend.new.into c.args.source.now.tokens.now.tokens c.requires.ready.tied keeps;
      same = sym (grown_on (known_names g.R.TypeReader.types c.args.source.now c.args.into.now) (read (known_names g.R.TypeReader.types c.args.source.now c.args.into.now) c.args.below) c.args.level c.args.below (expression_at c.loop-longer.into.forest c.loop-longer.left) (drop c.loop-longer.next c.args.source.now.tokens.now.tokens) (expression_at c.extend.new.into.forest c.in-Some.longer) (drop c.in-Some.end c.args.source.now.tokens.now.tokens) e) ∙ c.loop-longer.invariant.same;
    }

pub grow-returns-in-None : goal.grow-returns-in-None
grow-returns-in-None g t c = record {
  keeps = extends_then c.args.into.now c.loop-longer.into c.extend.new.into c.loop-longer.invariant.keeps c.extend.ensures.keeps;
  answer =
      let a = longer_in c.args.source.now.typedefs.now (g.R.TypeReader.types c.args.source.now.reader.now) c.args.into.now c.loop-longer.into c.extend.new.into c.args.source.now.tokens.now.tokens c.requires.ready.tied c.loop-longer.invariant.keeps c.args.level c.args.below (expression_at c.loop-longer.into.forest c.loop-longer.left) (drop c.loop-longer.next c.args.source.now.tokens.now.tokens) c.in_ok-longer.field-0 c.in_ok-longer.ensures.answer in
      grew_out (known_names g.R.TypeReader.types c.args.source.now c.args.into.now) (read (known_names g.R.TypeReader.types c.args.source.now c.args.into.now) c.args.below) c.args.level c.args.below c.loop-longer.into c.extend.new.into c.args.source.now.tokens.now.tokens c.loop-longer.left c.loop-longer.next c.in_ok-longer.field-0 a
      (longest_tree (known_names g.R.TypeReader.types c.args.source.now c.args.into.now) (read (known_names g.R.TypeReader.types c.args.source.now c.args.into.now) c.args.below) c.args.level c.args.below (expression_at c.args.into.now.forest c.args.first) (drop c.args.at c.args.source.now.tokens.now.tokens))
      c.in-None.is c.extend.ensures.keeps c.loop-longer.invariant.node c.loop-longer.invariant.place c.loop-longer.invariant.same;
}

-- ---- arguments

pub arguments-returns-in-Some : goal.arguments-returns-in-Some
arguments-returns-in-Some g t c = record {
  keeps = c.call.ensures.keeps;
  answer = moved _ _ _ _ _ (called_close _ _ _ _ c.in-Some.ensures.0) c.call.ensures.ok;
}

pub arguments-loop-list-init : goal.arguments-loop-list-init
arguments-loop-list-init g t c = record { nodes = no_items c.args.into.now _ c.new-list.ensures.items; place = c.requires.ready.place; keeps = extends_same _; tied = c.requires.ready.tied; same = start_with _ c.args.into.now _ _ c.new-list.ensures.items }

pub arguments-returns-in_default-2 : goal.arguments-returns-in_default-2
arguments-returns-in_default-2 g t c = record {
  keeps = extends_then c.args.into.now c.loop-list.into c.read_tree.new.into c.loop-list.invariant.keeps c.read_tree.ensures.keeps;
  answer =
      call_none c.args.source.now.typedefs.now (g.R.TypeReader.types c.args.source.now.reader.now) c.args.into.now c.loop-list.into c.read_tree.new.into c.args.source.now.tokens.now.tokens c.args.at c.args.below c.args.callee c.loop-list.list.items c.loop-list.next c.requires.ready.tied c.loop-list.invariant.keeps c.loop-list.invariant.nodes c.loop-list.invariant.place c.in_default.ensures c.loop-list.invariant.same c.read_tree.ensures.keeps c.in_ok-argument.field-0 c.in_ok-argument.ensures.answer c.in_default-2.is;
}

pub arguments-returns-in_default-peek : goal.arguments-returns-in_default-peek
arguments-returns-in_default-peek g t c = record {
  keeps = extends_then c.args.into.now c.loop-list.into c.read_tree.new.into c.loop-list.invariant.keeps c.read_tree.ensures.keeps;
  answer =
      call_end c.args.source.now.typedefs.now (g.R.TypeReader.types c.args.source.now.reader.now) c.args.into.now c.loop-list.into c.read_tree.new.into c.args.source.now.tokens.now.tokens c.args.at c.args.below c.args.callee c.loop-list.list.items c.loop-list.next c.requires.ready.tied c.loop-list.invariant.keeps c.loop-list.invariant.nodes c.loop-list.invariant.place c.in_default.ensures c.loop-list.invariant.same c.read_tree.ensures.keeps c.in_ok-argument.field-0 c.in_ok-argument.ensures.answer c.in-Some-2.argument c.in-Some-2.end c.in-Some-2.is c.in_default-peek.ensures;
}

pub arguments-loop-list-smaller : goal.arguments-loop-list-smaller
arguments-loop-list-smaller g t c =
    let far = call_forward c.args.source.now.typedefs.now (g.R.TypeReader.types c.args.source.now.reader.now) c.args.into.now c.loop-list.into c.read_tree.new.into c.args.source.now.tokens.now.tokens c.args.at c.args.below c.args.callee c.loop-list.list.items c.loop-list.next c.requires.ready.tied c.loop-list.invariant.keeps c.loop-list.invariant.nodes c.loop-list.invariant.place c.in_default.ensures c.loop-list.invariant.same c.read_tree.ensures.keeps c.in_ok-argument.field-0 c.in_ok-argument.ensures.answer c.in-Some-2.argument c.in-Some-2.end c.in-Some-2.is in
    let there = call_there c.args.source.now.typedefs.now (g.R.TypeReader.types c.args.source.now.reader.now) c.args.into.now c.loop-list.into c.read_tree.new.into c.args.source.now.tokens.now.tokens c.args.at c.args.below c.args.callee c.loop-list.list.items c.loop-list.next c.requires.ready.tied c.loop-list.invariant.keeps c.loop-list.invariant.nodes c.loop-list.invariant.place c.in_default.ensures c.loop-list.invariant.same c.read_tree.ensures.keeps c.in_ok-argument.field-0 c.in_ok-argument.ensures.answer c.in-Some-2.argument c.in-Some-2.end c.in-Some-2.is in
    let place : c.in-Some-2.end ≤ length c.args.source.now.tokens.now.tokens = there.1 in
    omega (arith, far, place)

pub arguments-loop-list-preserved : goal.arguments-loop-list-preserved
arguments-loop-list-preserved g t c =
    let keeps = call_kept c.args.source.now.typedefs.now (g.R.TypeReader.types c.args.source.now.reader.now) c.args.into.now c.loop-list.into c.read_tree.new.into c.args.source.now.tokens.now.tokens c.args.at c.args.below c.args.callee c.loop-list.list.items c.loop-list.next c.requires.ready.tied c.loop-list.invariant.keeps c.loop-list.invariant.nodes c.loop-list.invariant.place c.in_default.ensures c.loop-list.invariant.same c.read_tree.ensures.keeps c.in_ok-argument.field-0 c.in_ok-argument.ensures.answer c.in-Some-2.argument c.in-Some-2.end c.in-Some-2.is in
    record {
      nodes = call_nodes c.args.source.now.typedefs.now (g.R.TypeReader.types c.args.source.now.reader.now) c.args.into.now c.loop-list.into c.read_tree.new.into c.args.source.now.tokens.now.tokens c.args.at c.args.below c.args.callee c.loop-list.list.items c.loop-list.next c.requires.ready.tied c.loop-list.invariant.keeps c.loop-list.invariant.nodes c.loop-list.invariant.place c.in_default.ensures c.loop-list.invariant.same c.read_tree.ensures.keeps c.in_ok-argument.field-0 c.in_ok-argument.ensures.answer c.in-Some-2.argument c.in-Some-2.end c.in-Some-2.is c.push.new.self.items c.in_ok-push.ensures.items;
      place = omega (arith, c.in-Some-peek.ensures.1);
      keeps = keeps;
      tied = tied_kept (g.R.TypeReader.types c.args.source.now.reader.now) c.args.into.now c.read_tree.new.into c.args.source.now.tokens.now.tokens c.requires.ready.tied keeps;
      same = call_next c.args.source.now.typedefs.now (g.R.TypeReader.types c.args.source.now.reader.now) c.args.into.now c.loop-list.into c.read_tree.new.into c.args.source.now.tokens.now.tokens c.args.at c.args.below c.args.callee c.loop-list.list.items c.loop-list.next c.requires.ready.tied c.loop-list.invariant.keeps c.loop-list.invariant.nodes c.loop-list.invariant.place c.in_default.ensures c.loop-list.invariant.same c.read_tree.ensures.keeps c.in_ok-argument.field-0 c.in_ok-argument.ensures.answer c.in-Some-2.argument c.in-Some-2.end c.in-Some-2.is c.in-Some-peek.token (drop (c.in-Some-2.end + 1) c.args.source.now.tokens.now.tokens) c.in-Some-peek.ensures.0 c.push.new.self.items c.in_ok-push.ensures.items (sym c.is_comma.ensures ∙ c.if-is_comma.true);
    }

pub arguments-call-requires-then-is_close-clause-arguments : goal.arguments-call-requires-then-is_close-clause-arguments
arguments-call-requires-then-is_close-clause-arguments g t c = call_nodes c.args.source.now.typedefs.now (g.R.TypeReader.types c.args.source.now.reader.now) c.args.into.now c.loop-list.into c.read_tree.new.into c.args.source.now.tokens.now.tokens c.args.at c.args.below c.args.callee c.loop-list.list.items c.loop-list.next c.requires.ready.tied c.loop-list.invariant.keeps c.loop-list.invariant.nodes c.loop-list.invariant.place c.in_default.ensures c.loop-list.invariant.same c.read_tree.ensures.keeps c.in_ok-argument.field-0 c.in_ok-argument.ensures.answer c.in-Some-2.argument c.in-Some-2.end c.in-Some-2.is c.deref.result.now (c.deref.ensures.value ∙ c.in_ok-push.ensures.items)

pub arguments-returns-then-is_close : goal.arguments-returns-then-is_close
arguments-returns-then-is_close g t c = record {
  keeps = extends_then c.args.into.now c.read_tree.new.into c.call-then-is_close.new.into (extends_then c.args.into.now c.loop-list.into c.read_tree.new.into c.loop-list.invariant.keeps c.read_tree.ensures.keeps) c.call-then-is_close.ensures.keeps;
  answer =
      moved _ _ _ _ _ (call_last c.args.source.now.typedefs.now (g.R.TypeReader.types c.args.source.now.reader.now) c.args.into.now c.loop-list.into c.read_tree.new.into c.args.source.now.tokens.now.tokens c.args.at c.args.below c.args.callee c.loop-list.list.items c.loop-list.next c.requires.ready.tied c.loop-list.invariant.keeps c.loop-list.invariant.nodes c.loop-list.invariant.place c.in_default.ensures c.loop-list.invariant.same c.read_tree.ensures.keeps c.in_ok-argument.field-0 c.in_ok-argument.ensures.answer c.in-Some-2.argument c.in-Some-2.end c.in-Some-2.is c.in-Some-peek.token (drop (c.in-Some-2.end + 1) c.args.source.now.tokens.now.tokens) c.in-Some-peek.ensures.0 c.deref.result.now (c.deref.ensures.value ∙ c.in_ok-push.ensures.items) (sym c.is_comma.ensures ∙ c.if-is_comma.false) (sym c.is_close.ensures ∙ c.if-is_close.true) c.requires.node) c.call-then-is_close.ensures.ok;
}

pub arguments-returns-in-loop-list : goal.arguments-returns-in-loop-list
arguments-returns-in-loop-list g t c = record {
  keeps = extends_then c.args.into.now c.loop-list.into c.read_tree.new.into c.loop-list.invariant.keeps c.read_tree.ensures.keeps;
  answer =
      call_stop c.args.source.now.typedefs.now (g.R.TypeReader.types c.args.source.now.reader.now) c.args.into.now c.loop-list.into c.read_tree.new.into c.args.source.now.tokens.now.tokens c.args.at c.args.below c.args.callee c.loop-list.list.items c.loop-list.next c.requires.ready.tied c.loop-list.invariant.keeps c.loop-list.invariant.nodes c.loop-list.invariant.place c.in_default.ensures c.loop-list.invariant.same c.read_tree.ensures.keeps c.in_ok-argument.field-0 c.in_ok-argument.ensures.answer c.in-Some-2.argument c.in-Some-2.end c.in-Some-2.is c.in-Some-peek.token (drop (c.in-Some-2.end + 1) c.args.source.now.tokens.now.tokens) c.in-Some-peek.ensures.0 (sym c.is_comma.ensures ∙ c.if-is_comma.false) (sym c.is_close.ensures ∙ c.if-is_close.false);
}

-- ---- ask, once its operand is read

pub ask-returns-in_default : goal.ask-returns-in_default
ask-returns-in_default g t c = record {
  keeps = extends_same _;
  answer =
      nothing _ _ _ (asked_none (read (known_names g.R.TypeReader.types c.args.source.now c.args.into.now) c.args.below) (expression_at c.args.into.now.forest c.args.condition) (expression_at c.args.into.now.forest c.args.yes) (drop c.args.at c.args.source.now.tokens.now.tokens) c.in_default.ensures);
}

pub ask-returns-in-None : goal.ask-returns-in-None
ask-returns-in-None g t c = record {
  keeps = c.read_tree.ensures.keeps;
  answer =
      nothing _ _ _ (asked_nothing (read (known_names g.R.TypeReader.types c.args.source.now c.args.into.now) c.args.below) (expression_at c.args.into.now.forest c.args.condition) (expression_at c.args.into.now.forest c.args.yes) (drop c.args.at c.args.source.now.tokens.now.tokens) (drop c.in-Some.next c.args.source.now.tokens.now.tokens) c.in-Some.ensures.0 (got_none c.read_tree.new.into c.args.source.now.tokens.now.tokens c.in_ok-no.field-0 _ c.in_ok-no.ensures.answer c.in-None.is));
}

pub ask-returns-in-Some-2 : goal.ask-returns-in-Some-2
ask-returns-in-Some-2 g t c = record {
  keeps = extends_then c.args.into.now c.read_tree.new.into c.found.new.into c.read_tree.ensures.keeps c.found.ensures.keeps;
  answer =
      moved _ _ _ _ _ (asked_done c.args.into.now c.read_tree.new.into c.args.source.now.tokens.now.tokens c.read_tree.ensures.keeps (read (known_names g.R.TypeReader.types c.args.source.now c.args.into.now) c.args.below) c.args.at c.args.condition c.args.yes c.requires.condition c.requires.yes c.in-Some.next c.in-Some.ensures.0 c.in_ok-no.field-0 c.in_ok-no.ensures.answer c.in-Some-2.no c.in-Some-2.end c.in-Some-2.is c.line_of-line.result c.line_of-line.ensures) c.found.ensures.ok;
}

-- ---- what a node's parts have to be

pub ask-found-requires-clause-place : goal.ask-found-requires-clause-place
ask-found-requires-clause-place g t c = (got c.read_tree.new.into c.args.source.now.tokens.now.tokens c.in_ok-no.field-0 _ c.in-Some-2.no c.in-Some-2.end c.in_ok-no.ensures.answer c.in-Some-2.is).2

pub ask-line_of-line-requires : goal.ask-line_of-line-requires
ask-line_of-line-requires g t c = is_kept c.args.into.now c.read_tree.new.into is_expression c.args.condition c.read_tree.ensures.keeps c.requires.condition

pub arguments-call-requires-clause-place : goal.arguments-call-requires-clause-place
arguments-call-requires-clause-place g t c = c.in-Some.ensures.1

pub arguments-call-requires-clause-callee : goal.arguments-call-requires-clause-callee
arguments-call-requires-clause-callee g t c = c.requires.node

-- ---- where a tree is read

pub ask-read_tree-requires : goal.ask-read_tree-requires
ask-read_tree-requires g t c κs within = (omega arith, (within, record { place = c.in-Some.ensures.1; tied = c.requires.ready.tied }))

pub arguments-read_tree-requires : goal.arguments-read_tree-requires
arguments-read_tree-requires g t c κs within = (omega arith, (within, record { place = c.loop-list.invariant.place; tied = c.loop-list.invariant.tied }))

pub grow-extend-requires : goal.grow-extend-requires
grow-extend-requires g t c κs within = (omega arith, (within, (record { place = c.loop-longer.invariant.place; tied = c.loop-longer.invariant.tied }, c.loop-longer.invariant.node)))

-- ---- what a new node's parts are, and where it ends

pub ask-found-requires-clause-children : goal.ask-found-requires-clause-children
ask-found-requires-clause-children g t c = (is_kept c.args.into.now c.read_tree.new.into is_expression c.args.condition c.read_tree.ensures.keeps c.requires.condition, is_kept c.args.into.now c.read_tree.new.into is_expression c.args.yes c.read_tree.ensures.keeps c.requires.yes, (got c.read_tree.new.into c.args.source.now.tokens.now.tokens c.in_ok-no.field-0 _ c.in-Some-2.no c.in-Some-2.end c.in_ok-no.ensures.answer c.in-Some-2.is).1)

pub arguments-call-requires-then-is_close-clause-place : goal.arguments-call-requires-then-is_close-clause-place
arguments-call-requires-then-is_close-clause-place g t c = omega (arith, c.in-Some-peek.ensures.1)

pub arguments-peek-requires : goal.arguments-peek-requires
arguments-peek-requires g t c = (got c.read_tree.new.into c.args.source.now.tokens.now.tokens c.in_ok-argument.field-0 _ c.in-Some-2.argument c.in-Some-2.end c.in_ok-argument.ensures.answer c.in-Some-2.is).2

pub arguments-call-requires-then-is_close-clause-callee : goal.arguments-call-requires-then-is_close-clause-callee
arguments-call-requires-then-is_close-clause-callee g t c = is_kept c.args.into.now c.read_tree.new.into is_expression c.args.callee (extends_then c.args.into.now c.loop-list.into c.read_tree.new.into c.loop-list.invariant.keeps c.read_tree.ensures.keeps) c.requires.node

-- ---- by the first token

pub read_head-measures_type-requires : goal.read_head-measures_type-requires
read_head-measures_type-requires g t c = omega (arith, c.in-Some.ensures.1)

pub read_head-measure-requires : goal.read_head-measure-requires
read_head-measure-requires g t c = record { place = c.measures_type.ensures.place c.if-measures_type.true; tied = c.requires.tied }

pub read_head-peek-requires : goal.read_head-peek-requires
read_head-peek-requires g t c = c.requires.place

pub ask-after_colon-requires : goal.ask-after_colon-requires
ask-after_colon-requires g t c = c.requires.ready.place

pub arguments-after_close-requires : goal.arguments-after_close-requires
arguments-after_close-requires g t c = c.requires.ready.place

-- ---- want of memory

pub ask-returns-in_err-no : goal.ask-returns-in_err-no
ask-returns-in_err-no g t c = record {
  keeps = c.read_tree.ensures.keeps;
  answer = IfOk-from_err _ _ c.from_residual.ensures.0;
}

pub grow-returns-in_err-longer : goal.grow-returns-in_err-longer
grow-returns-in_err-longer g t c = record {
  keeps = extends_then c.args.into.now c.loop-longer.into c.extend.new.into c.loop-longer.invariant.keeps c.extend.ensures.keeps;
  answer = IfOk-from_err _ _ c.from_residual.ensures.0;
}

pub arguments-returns-in_err-argument : goal.arguments-returns-in_err-argument
arguments-returns-in_err-argument g t c = record {
  keeps = extends_then c.args.into.now c.loop-list.into c.read_tree.new.into c.loop-list.invariant.keeps c.read_tree.ensures.keeps;
  answer = IfOk-from_err _ _ c.from_residual.ensures.0;
}

pub arguments-returns-in_err-push : goal.arguments-returns-in_err-push
arguments-returns-in_err-push g t c = record {
  keeps = extends_then c.args.into.now c.loop-list.into c.read_tree.new.into c.loop-list.invariant.keeps c.read_tree.ensures.keeps;
  answer = IfOk-from_err _ _ c.from_residual-in_err-push.ensures.0;
}

-- ---- read_tree

pub read_tree-read_head-requires : goal.read_tree-read_head-requires
read_tree-read_head-requires g t c κs within = (omega arith, (within, c.requires))

pub read_tree-returns-in_err-read_head : goal.read_tree-returns-in_err-read_head
read_tree-returns-in_err-read_head g t c = record {
  keeps = c.read_head.ensures.keeps;
  answer = IfOk-from_err _ _ c.from_residual.ensures.0;
}

pub read_tree-returns-in-None : goal.read_tree-returns-in-None
read_tree-returns-in-None g t c = record {
  keeps = c.read_head.ensures.keeps;
  answer =
      nothing _ _ _ (deeper_none _ _ _ _ _ (got_none c.read_head.new.into c.args.source.now.tokens.now.tokens _ _ c.in_ok-read_head.ensures.answer c.in-None.is) ∙ read_some _ c.args.depth _ _ (omega arith));
}

pub read_tree-is_looser-requires-clause-node : goal.read_tree-is_looser-requires-clause-node
read_tree-is_looser-requires-clause-node g t c = (got c.read_head.new.into c.args.source.now.tokens.now.tokens c.in_ok-read_head.field-0 _ c.in-Some.first c.in-Some.next c.in_ok-read_head.ensures.answer c.in-Some.is).1

pub read_tree-is_looser-requires-clause-cast : goal.read_tree-is_looser-requires-clause-cast
read_tree-is_looser-requires-clause-cast g t c =
    let h = got c.read_head.new.into c.args.source.now.tokens.now.tokens c.in_ok-read_head.field-0 _ c.in-Some.first c.in-Some.next c.in_ok-read_head.ensures.answer c.in-Some.is in
    head_tight _ _ _ _ _ _ (sym h.0)

pub read_tree-returns-then-is_looser : goal.read_tree-returns-then-is_looser
read_tree-returns-then-is_looser g t c = record {
  keeps = c.read_head.ensures.keeps;
  answer =
      let h = got c.read_head.new.into c.args.source.now.tokens.now.tokens c.in_ok-read_head.field-0 _ c.in-Some.first c.in-Some.next c.in_ok-read_head.ensures.answer c.in-Some.is in
      nothing _ _ _ (deeper_low _ _ _ _ _ _ _ h.0 (c.is_looser.ensures.looser c.if-is_looser.true) ∙ read_some _ c.args.depth _ _ (omega arith));
}

pub read_tree-returns-else-is_looser : goal.read_tree-returns-else-is_looser
read_tree-returns-else-is_looser g t c = record {
  keeps = extends_then c.args.into.now c.read_head.new.into c.grow.new.into c.read_head.ensures.keeps c.grow.ensures.keeps;
  answer =
      let h = got c.read_head.new.into c.args.source.now.tokens.now.tokens c.in_ok-read_head.field-0 _ c.in-Some.first c.in-Some.next c.in_ok-read_head.ensures.answer c.in-Some.is in
      moved _ _ _ _ _ (grown_in c.args.source.now.typedefs.now (g.R.TypeReader.types c.args.source.now.reader.now) c.args.into.now c.read_head.new.into c.args.source.now.tokens.now.tokens c.requires.tied c.read_head.ensures.keeps _ _ _ _ ∙ deeper_on _ _ _ _ _ _ _ h.0 (c.is_looser.ensures.tight c.if-is_looser.false) ∙ read_some _ c.args.depth _ _ (omega arith)) c.grow.ensures.answer;
}

pub read_tree-grow-requires : goal.read_tree-grow-requires
read_tree-grow-requires g t c κs within =
    let h = got c.read_head.new.into c.args.source.now.tokens.now.tokens c.in_ok-read_head.field-0 _ c.in-Some.first c.in-Some.next c.in_ok-read_head.ensures.answer c.in-Some.is in
    let tied = tied_kept (g.R.TypeReader.types c.args.source.now.reader.now) c.args.into.now c.read_head.new.into c.args.source.now.tokens.now.tokens c.requires.tied c.read_head.ensures.keeps in
    (omega arith, (within, (record { place = h.2; tied = tied }, h.1)))

-- ---- extend

pub extend-follow_at-requires-clause-place : goal.extend-follow_at-requires-clause-place
extend-follow_at-requires-clause-place g t c = c.requires.ready.place

pub extend-follow_at-requires-clause-left : goal.extend-follow_at-requires-clause-left
extend-follow_at-requires-clause-left g t c = c.requires.node

pub extend-returns-in_default : goal.extend-returns-in_default
extend-returns-in_default g t c = record {
  keeps = extends_same _;
  answer = nothing _ _ _ (c.in_default.ensures _ _);
}

pub extend-arguments-requires : goal.extend-arguments-requires
extend-arguments-requires g t c κs within = (omega arith, (within, (record { place = omega (arith, c.in-Some.ensures.1); tied = c.requires.ready.tied }, c.requires.node)))

pub extend-returns-in-Call : goal.extend-returns-in-Call
extend-returns-in-Call g t c = record {
  keeps = c.arguments.ensures.keeps;
  answer = moved _ _ _ _ _ (call_is _ _ _ _ c.in-Some.follow c.in-Call.is ∙ c.in-Some.ensures.0 _ _) c.arguments.ensures.answer;
}

pub extend-suffixed-requires-clause-place : goal.extend-suffixed-requires-clause-place
extend-suffixed-requires-clause-place g t c = omega (arith, c.in-Some.ensures.1)

pub extend-suffixed-requires-clause-tree : goal.extend-suffixed-requires-clause-tree
extend-suffixed-requires-clause-tree g t c = c.requires.node

pub extend-returns-in_default-follow : goal.extend-returns-in_default-follow
extend-returns-in_default-follow g t c = record {
  keeps = c.suffixed.ensures.keeps;
  answer =
      moved _ _ _ _ _ (suffix_is c.args.source.now.typedefs.now (g.R.TypeReader.types c.args.source.now.reader.now) c.args.into.now c.args.source.now.tokens.now.tokens _ _ _ c.in-Some.follow (sym c.in-None.ensures) c.in_default-follow.not-Call ∙ c.in-Some.ensures.0 _ _) c.suffixed.ensures.ok;
}

pub extend-read_tree-requires : goal.extend-read_tree-requires
extend-read_tree-requires g t c κs within = (omega arith, (within, record { place = omega (arith, c.in-Some.ensures.1); tied = c.requires.ready.tied }))

pub extend-returns-in_err-read_tree-in-Some-operand_level : goal.extend-returns-in_err-read_tree-in-Some-operand_level
extend-returns-in_err-read_tree-in-Some-operand_level g t c = record {
  keeps = c.read_tree.ensures.keeps;
  answer = IfOk-from_err _ _ c.from_residual.ensures.0;
}

pub extend-returns-in-None-2 : goal.extend-returns-in-None-2
extend-returns-in-None-2 g t c = record {
  keeps = c.read_tree.ensures.keeps;
  answer =
      nothing _ _ _ (operand_none _ _ _ _ c.in-Some.follow c.in-Some-operand_level.tightness (sym c.in-Some-operand_level.ensures) (got_none c.read_tree.new.into c.args.source.now.tokens.now.tokens _ _ c.in_ok-read_tree-in-Some-operand_level.ensures.answer c.in-None-2.is) ∙ c.in-Some.ensures.0 _ _);
}

pub extend-ask-requires : goal.extend-ask-requires
extend-ask-requires g t c κs within =
    let h = got c.read_tree.new.into c.args.source.now.tokens.now.tokens c.in_ok-read_tree-in-Some-operand_level.field-0 _ c.in-Some-2.operand c.in-Some-2.next c.in_ok-read_tree-in-Some-operand_level.ensures.answer c.in-Some-2.is in
    let tied = tied_kept (g.R.TypeReader.types c.args.source.now.reader.now) c.args.into.now c.read_tree.new.into c.args.source.now.tokens.now.tokens c.requires.ready.tied c.read_tree.ensures.keeps in
    let condition = is_kept c.args.into.now c.read_tree.new.into is_expression c.args.left c.read_tree.ensures.keeps c.requires.node in
    (omega arith, (within, (record { place = h.2; tied = tied }, (condition, h.1))))

pub extend-returns-in-Ask : goal.extend-returns-in-Ask
extend-returns-in-Ask g t c = record {
  keeps = extends_then c.args.into.now c.read_tree.new.into c.ask.new.into c.read_tree.ensures.keeps c.ask.ensures.keeps;
  answer =
      moved _ _ _ _ _ (operand_asks c.args.source.now.typedefs.now (g.R.TypeReader.types c.args.source.now.reader.now) c.args.into.now c.read_tree.new.into c.args.source.now.tokens.now.tokens c.requires.ready.tied c.read_tree.ensures.keeps c.args.below (c.args.at + 1) c.args.left c.requires.node c.in-Some.follow c.in-Some-operand_level.tightness (sym c.in-Some-operand_level.ensures) c.in-Ask.is c.in_ok-read_tree-in-Some-operand_level.field-0 c.in_ok-read_tree-in-Some-operand_level.ensures.answer c.in-Some-2.operand c.in-Some-2.next c.in-Some-2.is ∙ c.in-Some.ensures.0 _ _) c.ask.ensures.answer;
}

pub extend-combined-requires-clause-place : goal.extend-combined-requires-clause-place
extend-combined-requires-clause-place g t c = (got c.read_tree.new.into c.args.source.now.tokens.now.tokens c.in_ok-read_tree-in-Some-operand_level.field-0 _ c.in-Some-2.operand c.in-Some-2.next c.in_ok-read_tree-in-Some-operand_level.ensures.answer c.in-Some-2.is).2

pub extend-combined-requires-clause-left : goal.extend-combined-requires-clause-left
extend-combined-requires-clause-left g t c = is_kept c.args.into.now c.read_tree.new.into is_expression c.args.left c.read_tree.ensures.keeps c.requires.node

pub extend-combined-requires-clause-right : goal.extend-combined-requires-clause-right
extend-combined-requires-clause-right g t c = (got c.read_tree.new.into c.args.source.now.tokens.now.tokens c.in_ok-read_tree-in-Some-operand_level.field-0 _ c.in-Some-2.operand c.in-Some-2.next c.in_ok-read_tree-in-Some-operand_level.ensures.answer c.in-Some-2.is).1

pub extend-returns-in_default-follow-2 : goal.extend-returns-in_default-follow-2
extend-returns-in_default-follow-2 g t c = record {
  keeps = extends_then c.args.into.now c.read_tree.new.into c.combined.new.into c.read_tree.ensures.keeps c.combined.ensures.keeps;
  answer =
      moved _ _ _ _ _ (operand_done c.args.into.now c.read_tree.new.into c.args.source.now.tokens.now.tokens c.read_tree.ensures.keeps _ _ (c.args.at + 1) c.args.left c.requires.node c.in-Some.follow c.in-Some-operand_level.tightness (sym c.in-Some-operand_level.ensures) c.in_default-follow-2.not-Ask c.in_ok-read_tree-in-Some-operand_level.field-0 c.in_ok-read_tree-in-Some-operand_level.ensures.answer c.in-Some-2.operand c.in-Some-2.next c.in-Some-2.is ∙ c.in-Some.ensures.0 _ _) c.combined.ensures.ok;
}

-- ---- read_head

pub read_head-opening_at-requires : goal.read_head-opening_at-requires
read_head-opening_at-requires g t c = record { place = omega (arith, c.in-Some.ensures.1); tied = c.requires.tied }

pub read_head-leaf-requires : goal.read_head-leaf-requires
read_head-leaf-requires g t c = omega (arith, c.in-Some.ensures.1)

pub read_head-returns-in_default-opening_at : goal.read_head-returns-in_default-opening_at
read_head-returns-in_default-opening_at g t c = record {
  keeps = c.leaf.ensures.keeps;
  answer =
      moved _ _ _ _ _ (head_first _ _ _ c.in-Some.token _ _ _ c.in-Some.ensures.0 (c.in_default-opening_at.ensures _ _ (sym (c.measures_type.ensures.is (g.R.TypeReader.types c.args.source.now.reader.now) c.args.into.now) ∙ c.if-measures_type.false))) c.leaf.ensures.ok;
}

pub read_head-read_tree-requires : goal.read_head-read_tree-requires
read_head-read_tree-requires g t c κs within = (omega arith, (within, record { place = c.in-Some-opening_at.ensures.2; tied = c.requires.tied }))

pub read_head-returns-in_err-operand : goal.read_head-returns-in_err-operand
read_head-returns-in_err-operand g t c = record {
  keeps = c.read_tree.ensures.keeps;
  answer = IfOk-from_err _ _ c.from_residual.ensures.0;
}

pub read_head-returns-in-None : goal.read_head-returns-in-None
read_head-returns-in-None g t c = record {
  keeps = c.read_tree.ensures.keeps;
  answer =
      nothing _ _ _ (head_first _ _ _ c.in-Some.token _ _ _ c.in-Some.ensures.0 (enclosed_nothing c.args.into.now.forest c.in-Some.token.line c.in-Some-opening_at.form (read (known_names g.R.TypeReader.types c.args.source.now c.args.into.now) c.args.below) (drop c.in-Some-opening_at.start c.args.source.now.tokens.now.tokens) _ c.operand.ensures (got_none c.read_tree.new.into c.args.source.now.tokens.now.tokens _ _ c.in_ok-operand.ensures.answer c.in-None.is) ∙ c.in-Some-opening_at.ensures.0 (read (known_names g.R.TypeReader.types c.args.source.now c.args.into.now) c.args.below) c.in-Some.token.line (sym (c.measures_type.ensures.is (g.R.TypeReader.types c.args.source.now.reader.now) c.args.into.now) ∙ c.if-measures_type.false)));
}

pub read_head-enclosed-requires-clause-place : goal.read_head-enclosed-requires-clause-place
read_head-enclosed-requires-clause-place g t c = (got c.read_tree.new.into c.args.source.now.tokens.now.tokens c.in_ok-operand.field-0 _ c.in-Some-2.operand c.in-Some-2.end c.in_ok-operand.ensures.answer c.in-Some-2.is).2

pub read_head-enclosed-requires-clause-operand : goal.read_head-enclosed-requires-clause-operand
read_head-enclosed-requires-clause-operand g t c = (got c.read_tree.new.into c.args.source.now.tokens.now.tokens c.in_ok-operand.field-0 _ c.in-Some-2.operand c.in-Some-2.end c.in_ok-operand.ensures.answer c.in-Some-2.is).1

pub read_head-enclosed-requires-clause-form : goal.read_head-enclosed-requires-clause-form
read_head-enclosed-requires-clause-form g t c = opening_kept c.args.into.now c.read_tree.new.into c.in-Some-opening_at.form c.read_tree.ensures.keeps c.in-Some-opening_at.ensures.1

pub read_head-returns-in-Some-2 : goal.read_head-returns-in-Some-2
read_head-returns-in-Some-2 g t c = record {
  keeps = extends_then c.args.into.now c.read_tree.new.into c.enclosed.new.into c.read_tree.ensures.keeps c.enclosed.ensures.keeps;
  answer =
      moved _ _ _ _ _ (head_first _ _ _ c.in-Some.token _ _ _ c.in-Some.ensures.0 (enclosed_done c.args.into.now c.read_tree.new.into c.args.source.now.tokens.now.tokens c.read_tree.ensures.keeps c.in-Some.token.line c.in-Some-opening_at.form c.in-Some-opening_at.ensures.1 (read (known_names g.R.TypeReader.types c.args.source.now c.args.into.now) c.args.below) (drop c.in-Some-opening_at.start c.args.source.now.tokens.now.tokens) _ c.operand.ensures c.in_ok-operand.field-0 c.in_ok-operand.ensures.answer c.in-Some-2.operand c.in-Some-2.end c.in-Some-2.is ∙ c.in-Some-opening_at.ensures.0 (read (known_names g.R.TypeReader.types c.args.source.now c.args.into.now) c.args.below) c.in-Some.token.line (sym (c.measures_type.ensures.is (g.R.TypeReader.types c.args.source.now.reader.now) c.args.into.now) ∙ c.if-measures_type.false))) c.enclosed.ensures.ok;
}
