use Rattle.std.proofs.Common.{◌≤◌, drop, length, arith}
use Rattle.std.proofs.lemmas.Result.{IfOk-from_err}
use Rattle.pv_tree.specs.Syntax.{NoTrees}
use Rattle.pv_tree.specs.Tables.{is_statement}
use Rattle.pv_tree.proofs.Kept.{extends_same, extends_then}
use Rattle.pv_expr_forms.proofs.Naming.{tied_kept}
use Rattle.pv_decl_forms.specs.Pieces.{row}
use Rattle.pv_decl_forms.proofs.Loops.{at_start, no_parts, start_row, goes_forward, part_there, parts_there, row_ends, row_goes}
use Rattle.pv_stmt_forms.specs.Statements.{label}
use Rattle.pv_stmt_forms.proofs.Shorter.{labels_shorten}
use Rattle.pv_expr_forms.specs.Sources.{known_names}
use Rattle.pv_stmt.proofs.parts.labels.Goals as goal

pub loop-labels-init : goal.loop-labels-init
loop-labels-init g c = record {
  nodes = no_parts is_statement c.args.into.now _ c.new-labels.ensures.items;
  place = c.requires.place;
  keeps = extends_same _;
  tied = c.requires.tied;
  same = start_row _ c.args.into.now _ _ c.new-labels.ensures.items;
}

pub returns-in_default : goal.returns-in_default
returns-in_default g c = record {
  keeps = extends_then c.args.into.now c.loop-labels.into c.label.new.into c.loop-labels.invariant.keeps c.label.ensures.keeps;
  answer =
      row_ends is_statement c.loop-labels.into c.label.new.into c.label.ensures.keeps c.args.source.now.tokens.now.tokens (label (known_names g.R.TypeReader.types c.args.source.now c.args.into.now) c.args.depth) c.loop-labels.labels.items c.loop-labels.invariant.nodes c.loop-labels.next c.loop-labels.invariant.place c.in_ok-found.field-0 (at_start c.args.source.now.typedefs.now (g.R.TypeReader.types c.args.source.now.reader.now) c.args.into.now c.loop-labels.into c.label.new.into c.args.source.now.tokens.now.tokens c.requires.tied c.loop-labels.invariant.keeps is_statement c.in_ok-found.field-0 (λ n. label n c.args.depth (drop c.loop-labels.next c.args.source.now.tokens.now.tokens)) c.in_ok-found.ensures.answer) (labels_shorten c.args.source.now.typedefs.now (g.R.TypeReader.types c.args.source.now.reader.now) c.args.into.now c.args.source.now.tokens.now.tokens c.requires.tied c.args.depth) (row (label (known_names g.R.TypeReader.types c.args.source.now c.args.into.now) c.args.depth) NoTrees (drop c.args.at c.args.source.now.tokens.now.tokens)) c.loop-labels.invariant.same c.in_default.is;
}

pub loop-labels-smaller : goal.loop-labels-smaller
loop-labels-smaller g c =
    let far = goes_forward is_statement c.loop-labels.into c.label.new.into c.label.ensures.keeps c.args.source.now.tokens.now.tokens (label (known_names g.R.TypeReader.types c.args.source.now c.args.into.now) c.args.depth) c.loop-labels.labels.items c.loop-labels.invariant.nodes c.loop-labels.next c.loop-labels.invariant.place c.in_ok-found.field-0 (at_start c.args.source.now.typedefs.now (g.R.TypeReader.types c.args.source.now.reader.now) c.args.into.now c.loop-labels.into c.label.new.into c.args.source.now.tokens.now.tokens c.requires.tied c.loop-labels.invariant.keeps is_statement c.in_ok-found.field-0 (λ n. label n c.args.depth (drop c.loop-labels.next c.args.source.now.tokens.now.tokens)) c.in_ok-found.ensures.answer) (labels_shorten c.args.source.now.typedefs.now (g.R.TypeReader.types c.args.source.now.reader.now) c.args.into.now c.args.source.now.tokens.now.tokens c.requires.tied c.args.depth) c.in-Some.found c.in-Some.end c.in-Some.is in
    let there = part_there is_statement c.loop-labels.into c.label.new.into c.label.ensures.keeps c.args.source.now.tokens.now.tokens (label (known_names g.R.TypeReader.types c.args.source.now c.args.into.now) c.args.depth) c.loop-labels.labels.items c.loop-labels.invariant.nodes c.loop-labels.next c.loop-labels.invariant.place c.in_ok-found.field-0 (at_start c.args.source.now.typedefs.now (g.R.TypeReader.types c.args.source.now.reader.now) c.args.into.now c.loop-labels.into c.label.new.into c.args.source.now.tokens.now.tokens c.requires.tied c.loop-labels.invariant.keeps is_statement c.in_ok-found.field-0 (λ n. label n c.args.depth (drop c.loop-labels.next c.args.source.now.tokens.now.tokens)) c.in_ok-found.ensures.answer) c.in-Some.found c.in-Some.end c.in-Some.is in
    let end : c.in-Some.end ≤ length c.args.source.now.tokens.now.tokens = there.1 in
    omega (arith, far, end)

pub loop-labels-preserved : goal.loop-labels-preserved
loop-labels-preserved g c =
    let keeps = extends_then c.args.into.now c.loop-labels.into c.label.new.into c.loop-labels.invariant.keeps c.label.ensures.keeps in
    record {
      nodes = parts_there is_statement c.loop-labels.into c.label.new.into c.label.ensures.keeps c.args.source.now.tokens.now.tokens (label (known_names g.R.TypeReader.types c.args.source.now c.args.into.now) c.args.depth) c.loop-labels.labels.items c.loop-labels.invariant.nodes c.loop-labels.next c.loop-labels.invariant.place c.in_ok-found.field-0 (at_start c.args.source.now.typedefs.now (g.R.TypeReader.types c.args.source.now.reader.now) c.args.into.now c.loop-labels.into c.label.new.into c.args.source.now.tokens.now.tokens c.requires.tied c.loop-labels.invariant.keeps is_statement c.in_ok-found.field-0 (λ n. label n c.args.depth (drop c.loop-labels.next c.args.source.now.tokens.now.tokens)) c.in_ok-found.ensures.answer) c.in-Some.found c.in-Some.end c.in-Some.is c.push.new.self.items c.in_ok-push.ensures.items;
      place = (part_there is_statement c.loop-labels.into c.label.new.into c.label.ensures.keeps c.args.source.now.tokens.now.tokens (label (known_names g.R.TypeReader.types c.args.source.now c.args.into.now) c.args.depth) c.loop-labels.labels.items c.loop-labels.invariant.nodes c.loop-labels.next c.loop-labels.invariant.place c.in_ok-found.field-0 (at_start c.args.source.now.typedefs.now (g.R.TypeReader.types c.args.source.now.reader.now) c.args.into.now c.loop-labels.into c.label.new.into c.args.source.now.tokens.now.tokens c.requires.tied c.loop-labels.invariant.keeps is_statement c.in_ok-found.field-0 (λ n. label n c.args.depth (drop c.loop-labels.next c.args.source.now.tokens.now.tokens)) c.in_ok-found.ensures.answer) c.in-Some.found c.in-Some.end c.in-Some.is).1;
      keeps = keeps;
      tied = tied_kept (g.R.TypeReader.types c.args.source.now.reader.now) c.args.into.now c.label.new.into c.args.source.now.tokens.now.tokens c.requires.tied keeps;
      same = row_goes is_statement c.loop-labels.into c.label.new.into c.label.ensures.keeps c.args.source.now.tokens.now.tokens (label (known_names g.R.TypeReader.types c.args.source.now c.args.into.now) c.args.depth) c.loop-labels.labels.items c.loop-labels.invariant.nodes c.loop-labels.next c.loop-labels.invariant.place c.in_ok-found.field-0 (at_start c.args.source.now.typedefs.now (g.R.TypeReader.types c.args.source.now.reader.now) c.args.into.now c.loop-labels.into c.label.new.into c.args.source.now.tokens.now.tokens c.requires.tied c.loop-labels.invariant.keeps is_statement c.in_ok-found.field-0 (λ n. label n c.args.depth (drop c.loop-labels.next c.args.source.now.tokens.now.tokens)) c.in_ok-found.ensures.answer) (labels_shorten c.args.source.now.typedefs.now (g.R.TypeReader.types c.args.source.now.reader.now) c.args.into.now c.args.source.now.tokens.now.tokens c.requires.tied c.args.depth) (row (label (known_names g.R.TypeReader.types c.args.source.now c.args.into.now) c.args.depth) NoTrees (drop c.args.at c.args.source.now.tokens.now.tokens)) c.loop-labels.invariant.same c.in-Some.found c.in-Some.end c.in-Some.is c.push.new.self.items c.in_ok-push.ensures.items;
    }

pub label-requires : goal.label-requires
label-requires g c = record { place = c.loop-labels.invariant.place; tied = c.loop-labels.invariant.tied }

pub returns-in_err-found : goal.returns-in_err-found
returns-in_err-found g c = record {
  keeps = extends_then c.args.into.now c.loop-labels.into c.label.new.into c.loop-labels.invariant.keeps c.label.ensures.keeps;
  answer = IfOk-from_err _ _ c.from_residual.ensures.0;
}

pub returns-in_err-push : goal.returns-in_err-push
returns-in_err-push g c = record {
  keeps = extends_then c.args.into.now c.loop-labels.into c.label.new.into c.loop-labels.invariant.keeps c.label.ensures.keeps;
  answer = IfOk-from_err _ _ c.from_residual-in_err-push.ensures.0;
}
