use Rattle.std.proofs.Common.{◌∙◌, ap, drop, arith, ℕ, List, Some}
use Rattle.std.proofs.lemmas.Result.{IfOk-from_err}
use Rattle.pv_token.specs.declared.token_table.Token.{Token}
use Rattle.pv_tree.specs.declared.nodes.NodeId.{NodeId}
use Rattle.pv_tree.specs.Places.{Initializers}
use Rattle.pv_tree.specs.Syntax.{Initial, Braces, Tree, Trees, OfInitializer}
use Rattle.pv_tree.specs.Tables.{expression_at, trees_of, is_expression, is_initializer}
use Rattle.pv_tree.proofs.Kept.{extends_same, extends_then}
use Rattle.pv_decl_forms.specs.Pieces.{comma_list}
use Rattle.pv_decl_forms.specs.Reader.{listed_in_braces, readers}
use Rattle.pv_decl_forms.proofs.Growing.{all_as}
use Rattle.pv_decl_forms.proofs.Answered.{moved, nothing, got}
use Rattle.pv_decl_forms.proofs.Initials.{initializer_zero, initializer_braced, initializer_some, initializer_none}
use Rattle.pv_decl_forms.proofs.Loops.{no_parts, start_list}
use Rattle.pv_decl.specs.Filled.{list_map}
use Rattle.pv_decl.proofs.Looping.{past_comma, list_done, list_stop, list_turn}
use Rattle.pv_expr_forms.specs.Sources.{known_names}
use Rattle.pv_decl.proofs.declarations.Declarations.+initializing.Goals as goal

pub initializer-returns-then-depth-eq0 : goal.initializer-returns-then-depth-eq0
initializer-returns-then-depth-eq0 g t c = record {
  keeps = extends_same _;
  answer = nothing _ _ _ _ (initializer_zero _ _ _ c.if-depth-eq0.true);
}

pub initializer-returns-in-Some : goal.initializer-returns-in-Some
initializer-returns-in-Some g t c = record {
  keeps = extends_then _ _ _ c.initializers.ensures.keeps c.braces_of.ensures.keeps;
  answer =
      let tokens = c.args.self.now.source.tokens.now.tokens in
      let here = drop c.args.at tokens in
      let v = c.initializers.new.into in
      let parts = ap (λ (ns : List NodeId). let x : Trees × List Token = (trees_of v.forest ns, drop c.in_ok-parts.end tokens) in x) c.deref.ensures.value ∙ c.in_ok-parts.ensures.answer.is in
      moved _ _ _ _ _ _
      (ap (λ (l : ℕ). listed_in_braces (λ inits comma. OfInitializer (Braces l inits comma)) (trees_of v.forest c.deref.result.now, drop c.in_ok-parts.end tokens)) c.line_at-line.ensures
      ∙ initializer_braced (known_names g.R.TypeReader.types c.args.self.now.source c.args.into.now) c.args.depth here (drop c.in-Some.inside tokens) (trees_of v.forest c.deref.result.now, drop c.in_ok-parts.end tokens) (omega arith) c.in-Some.ensures.0 parts) c.braces_of.ensures.ok;
}

pub initializer-returns-in-Some-2 : goal.initializer-returns-in-Some-2
initializer-returns-in-Some-2 g t c = record {
  keeps = extends_then _ _ _ c.assigned.ensures.keeps c.found_initializer.ensures.keeps;
  answer =
      let tokens = c.args.self.now.source.tokens.now.tokens in
      let v = c.assigned.new.into in
      moved _ _ _ _ _ _
      (ap (λ (l : ℕ). let x : Tree × List Token = (OfInitializer (Initial l (expression_at v.forest c.in-Some-2.value)), drop c.in-Some-2.end tokens) in Some x) c.line_at-line.ensures
      ∙ initializer_some (known_names g.R.TypeReader.types c.args.self.now.source c.args.into.now) c.args.depth (drop c.args.at tokens) (omega arith) c.in_default.ensures v tokens c.in_ok-value.field-0 c.in_ok-value.ensures.answer c.in-Some-2.value c.in-Some-2.end c.in-Some-2.is) c.found_initializer.ensures.ok;
}

pub initializer-returns-in-None : goal.initializer-returns-in-None
initializer-returns-in-None g t c = record {
  keeps = c.assigned.ensures.keeps;
  answer =
      nothing _ _ _ _ (initializer_none (known_names g.R.TypeReader.types c.args.self.now.source c.args.into.now) c.args.depth (drop c.args.at c.args.self.now.source.tokens.now.tokens) (omega arith) c.in_default.ensures c.assigned.new.into c.args.self.now.source.tokens.now.tokens c.in_ok-value.field-0 c.in_ok-value.ensures.answer c.in-None.is);
}

pub initializers-loop-parts-init : goal.initializers-loop-parts-init
initializers-loop-parts-init g t c = record {
  nodes = no_parts is_initializer c.args.into.now _ c.new-parts.ensures.items;
  place = c.requires.place;
  where_behind = c.requires.place;
  keeps = extends_same _;
  tied = c.requires.tied;
  same = start_list _ c.args.into.now _ _ c.new-parts.ensures.items;
}

pub initializers-returns-in_default : goal.initializers-returns-in_default
initializers-returns-in_default g t c = record {
  keeps = extends_then _ _ _ c.loop-parts.invariant.keeps c.initializer.ensures.keeps;
  answer =
      list_done (list_map c.args.self.now.lists.now) c.args.self.now.source.typedefs.now (g.R.TypeReader.types c.args.self.now.source.reader.now) c.args.into.now c.loop-parts.into c.initializer.new.into c.args.self.now.source.tokens.now.tokens c.requires.tied c.loop-parts.invariant.keeps c.initializer.ensures.keeps is_initializer c.args.depth Initializers c.loop-parts.parts.items c.loop-parts.invariant.nodes c.loop-parts.next c.loop-parts.invariant.place c.in_ok-found.field-0 c.in_ok-found.ensures.answer c.loop-parts.behind c.loop-parts.invariant.where_behind (comma_list (readers (known_names g.R.TypeReader.types c.args.self.now.source c.args.into.now) c.args.depth Initializers) (drop c.args.at c.args.self.now.source.tokens.now.tokens)) c.loop-parts.invariant.same c.in_default.is;
}

pub initializers-loop-parts-smaller : goal.initializers-loop-parts-smaller
initializers-loop-parts-smaller g t c = omega (arith, past_comma (list_map c.args.self.now.lists.now) c.args.self.now.source.typedefs.now (g.R.TypeReader.types c.args.self.now.source.reader.now) c.args.into.now c.loop-parts.into c.initializer.new.into c.args.self.now.source.tokens.now.tokens c.requires.tied c.loop-parts.invariant.keeps c.initializer.ensures.keeps is_initializer c.args.depth Initializers c.loop-parts.parts.items c.loop-parts.invariant.nodes c.loop-parts.next c.loop-parts.invariant.place c.in_ok-found.field-0 c.in_ok-found.ensures.answer c.in-Some.found c.in-Some.end c.in-Some.is c.in-Some-after.following c.in-Some-after.ensures.1 c.in-Some-after.ensures.0, c.in-Some-after.ensures.1)

pub initializers-loop-parts-preserved : goal.initializers-loop-parts-preserved
initializers-loop-parts-preserved g t c = list_turn (list_map c.args.self.now.lists.now) c.args.self.now.source.typedefs.now (g.R.TypeReader.types c.args.self.now.source.reader.now) c.args.into.now c.loop-parts.into c.initializer.new.into c.args.self.now.source.tokens.now.tokens c.requires.tied c.loop-parts.invariant.keeps c.initializer.ensures.keeps is_initializer c.args.depth Initializers c.loop-parts.parts.items c.loop-parts.invariant.nodes c.loop-parts.next c.loop-parts.invariant.place c.in_ok-found.field-0 c.in_ok-found.ensures.answer c.loop-parts.behind c.loop-parts.invariant.where_behind (comma_list (readers (known_names g.R.TypeReader.types c.args.self.now.source c.args.into.now) c.args.depth Initializers) (drop c.args.at c.args.self.now.source.tokens.now.tokens)) c.loop-parts.invariant.same c.in-Some.found c.in-Some.end c.in-Some.is c.push.new.self.items c.in_ok-push.ensures.items c.in-Some-after.following c.in-Some-after.ensures.0 c.in-Some-after.ensures.1

pub initializers-returns-in-None : goal.initializers-returns-in-None
initializers-returns-in-None g t c = record {
  keeps = extends_then _ _ _ c.loop-parts.invariant.keeps c.initializer.ensures.keeps;
  answer =
      list_stop (list_map c.args.self.now.lists.now) c.args.self.now.source.typedefs.now (g.R.TypeReader.types c.args.self.now.source.reader.now) c.args.into.now c.loop-parts.into c.initializer.new.into c.args.self.now.source.tokens.now.tokens c.requires.tied c.loop-parts.invariant.keeps c.initializer.ensures.keeps is_initializer c.args.depth Initializers c.loop-parts.parts.items c.loop-parts.invariant.nodes c.loop-parts.next c.loop-parts.invariant.place c.in_ok-found.field-0 c.in_ok-found.ensures.answer c.loop-parts.behind c.loop-parts.invariant.where_behind (comma_list (readers (known_names g.R.TypeReader.types c.args.self.now.source c.args.into.now) c.args.depth Initializers) (drop c.args.at c.args.self.now.source.tokens.now.tokens)) c.loop-parts.invariant.same c.in-Some.found c.in-Some.end c.in-Some.is c.push.new.self.items c.in_ok-push.ensures.items c.in-None.ensures;
}

pub initializer-line_at-line-requires : goal.initializer-line_at-line-requires
initializer-line_at-line-requires g t c = c.requires.place

pub initializer-after-requires : goal.initializer-after-requires
initializer-after-requires g t c = c.requires.place

pub initializer-braces_of-requires-clause-place : goal.initializer-braces_of-requires-clause-place
initializer-braces_of-requires-clause-place g t c = c.in_ok-parts.ensures.answer.place

pub initializer-braces_of-requires-clause-inits : goal.initializer-braces_of-requires-clause-inits
initializer-braces_of-requires-clause-inits g t c = all_as c.initializers.new.into is_initializer _ _ c.deref.ensures.value c.in_ok-parts.ensures.answer.there

pub initializer-assigned-requires : goal.initializer-assigned-requires
initializer-assigned-requires g t c = c.requires

pub initializer-returns-in_err-parts : goal.initializer-returns-in_err-parts
initializer-returns-in_err-parts g t c = record {
  keeps = c.initializers.ensures.keeps;
  answer = IfOk-from_err _ _ c.from_residual.ensures.0;
}

pub initializer-returns-in_err-value : goal.initializer-returns-in_err-value
initializer-returns-in_err-value g t c = record {
  keeps = c.assigned.ensures.keeps;
  answer = IfOk-from_err _ _ c.from_residual-in_err-value.ensures.0;
}

pub initializers-returns-in_err-found : goal.initializers-returns-in_err-found
initializers-returns-in_err-found g t c = record {
  keeps = extends_then _ _ _ c.loop-parts.invariant.keeps c.initializer.ensures.keeps;
  answer = IfOk-from_err _ _ c.from_residual.ensures.0;
}

pub initializers-returns-in_err-push : goal.initializers-returns-in_err-push
initializers-returns-in_err-push g t c = record {
  keeps = extends_then _ _ _ c.loop-parts.invariant.keeps c.initializer.ensures.keeps;
  answer = IfOk-from_err _ _ c.from_residual-in_err-push.ensures.0;
}

pub initializer-overflow_sub-depth : goal.initializer-overflow_sub-depth
initializer-overflow_sub-depth g t c = omega (arith, c.if-depth-eq0.false)

pub initializer-overflow_sub-depth-2 : goal.initializer-overflow_sub-depth-2
initializer-overflow_sub-depth-2 g t c = omega (arith, c.if-depth-eq0.false)

pub initializer-initializers-requires : goal.initializer-initializers-requires
initializer-initializers-requires g t c = λ κs within. (omega (arith, c.decreases, c.if-depth-eq0.false), (within, record { place = c.in-Some.ensures.1; tied = c.requires.tied }))

pub initializer-found_initializer-requires-clause-place : goal.initializer-found_initializer-requires-clause-place
initializer-found_initializer-requires-clause-place g t c = (got c.assigned.new.into is_expression c.args.self.now.source.tokens.now.tokens c.in_ok-value.field-0 _ c.in-Some-2.value c.in-Some-2.end c.in_ok-value.ensures.answer c.in-Some-2.is).2

pub initializer-found_initializer-requires-clause-children : goal.initializer-found_initializer-requires-clause-children
initializer-found_initializer-requires-clause-children g t c = (got c.assigned.new.into is_expression c.args.self.now.source.tokens.now.tokens c.in_ok-value.field-0 _ c.in-Some-2.value c.in-Some-2.end c.in_ok-value.ensures.answer c.in-Some-2.is).1

pub initializers-initializer-requires : goal.initializers-initializer-requires
initializers-initializer-requires g t c = λ κs within. (omega (arith, c.decreases), (within, record { place = c.loop-parts.invariant.place; tied = c.loop-parts.invariant.tied }))

pub initializers-after-requires : goal.initializers-after-requires
initializers-after-requires g t c = (got c.initializer.new.into is_initializer c.args.self.now.source.tokens.now.tokens c.in_ok-found.field-0 _ c.in-Some.found c.in-Some.end c.in_ok-found.ensures.answer c.in-Some.is).2
