use Rattle.std.proofs.Common.{◌≤◌, ◌<◌, drop, length, arith, refl, None}
use Rattle.std.proofs.lemmas.Result.{IfOk-from_err}
use Rattle.pv_tree.specs.Places.{InitDeclarators}
use Rattle.pv_tree.specs.Syntax.{NoTrees, Then}
use Rattle.pv_tree.specs.Tables.{tree_at, is_declaration}
use Rattle.pv_tree.proofs.Kept.{extends_same, extends_then}
use Rattle.pv_expr_forms.specs.Known.{names_in}
use Rattle.pv_decl_forms.specs.Pieces.{row, after_comma}
use Rattle.pv_decl_forms.specs.Reader.{readers}
use Rattle.pv_decl_forms.proofs.Loops.{commas_shorten, at_start, goes_forward, part_there, parts_there, row_ends, row_goes}
use Rattle.pv_decl_forms.proofs.Outer.{comma_none, comma_some, one_part, start_one}
use Rattle.pv_decl.specs.Filled.{list_map}
use Rattle.pv_decl.proofs.Givens.{given_kept}
use Rattle.pv_expr_forms.specs.Sources.{known_names}
use Rattle.pv_decl.proofs.declarations.Declarations.declared.Goals as goal

pub loop-next-init : goal.loop-next-init
loop-next-init g c =
    let u = c.args.into.now in
    let tokens = c.args.self.now.source.tokens.now.tokens in
    let names = known_names g.R.TypeReader.types c.args.self.now.source u in
    record {
      nodes = one_part is_declaration u c.args.first c.push.new.self.items c.new-declared.result.items c.new-declared.ensures.items c.in_ok-push.ensures.items c.requires.first;
      place = c.requires.ready.place;
      keeps = extends_same _;
      tied = c.requires.ready.tied;
      same = start_one (after_comma (readers names c.args.below InitDeclarators)) u c.args.first c.push.new.self.items c.new-declared.result.items (drop c.args.at tokens) c.new-declared.ensures.items c.in_ok-push.ensures.items;
    }

-- no comma
pub returns-in_default : goal.returns-in_default
returns-in_default g c = record {
  keeps = c.loop-next.invariant.keeps;
  answer =
      let tokens = c.args.self.now.source.tokens.now.tokens in
      let types = g.R.TypeReader.types c.args.self.now.source.reader.now in
      let u = c.args.into.now in
      let v = c.loop-next.into in
      let part = after_comma (readers (names_in c.args.self.now.source.typedefs.now types u tokens) c.args.below InitDeclarators) in
      row_ends is_declaration v v (extends_same v) tokens part c.loop-next.declared.items c.loop-next.invariant.nodes c.loop-next.behind c.loop-next.invariant.place None
      (comma_none v is_declaration tokens (readers (names_in c.args.self.now.source.typedefs.now types u tokens) c.args.below InitDeclarators) c.loop-next.behind c.in_default.ensures)
      (commas_shorten c.args.self.now.source.typedefs.now types u tokens c.requires.ready.tied.tied c.args.below InitDeclarators)
      (row part (Then NoTrees (tree_at u.forest c.args.first)) (drop c.args.at tokens)) c.loop-next.invariant.same refl;
}

-- nothing that can be read behind a comma
pub returns-in_default-2 : goal.returns-in_default-2
returns-in_default-2 g c = record {
  keeps = extends_then _ _ _ c.loop-next.invariant.keeps c.init_declarator.ensures.keeps;
  answer =
      let tokens = c.args.self.now.source.tokens.now.tokens in
      let types = g.R.TypeReader.types c.args.self.now.source.reader.now in
      let u = c.args.into.now in
      let v = c.loop-next.into in
      let w = c.init_declarator.new.into in
      let read = readers (names_in c.args.self.now.source.typedefs.now types u tokens) c.args.below InitDeclarators in
      row_ends is_declaration v w c.init_declarator.ensures.keeps tokens (after_comma read) c.loop-next.declared.items c.loop-next.invariant.nodes c.loop-next.behind c.loop-next.invariant.place c.in_ok-found.field-0
      (comma_some w is_declaration tokens read c.loop-next.behind c.in-Some.next c.in_ok-found.field-0 c.in-Some.ensures.0
      (at_start c.args.self.now.source.typedefs.now types u v w tokens c.requires.ready.tied.tied c.loop-next.invariant.keeps is_declaration c.in_ok-found.field-0 (λ n. readers n c.args.below InitDeclarators (drop c.in-Some.next tokens)) c.in_ok-found.ensures.answer))
      (commas_shorten c.args.self.now.source.typedefs.now types u tokens c.requires.ready.tied.tied c.args.below InitDeclarators)
      (row (after_comma read) (Then NoTrees (tree_at u.forest c.args.first)) (drop c.args.at tokens)) c.loop-next.invariant.same c.in_default-2.is;
}

pub loop-next-smaller : goal.loop-next-smaller
loop-next-smaller g c =
    let tokens = c.args.self.now.source.tokens.now.tokens in
    let types = g.R.TypeReader.types c.args.self.now.source.reader.now in
    let u = c.args.into.now in
    let v = c.loop-next.into in
    let w = c.init_declarator.new.into in
    let read = readers (names_in c.args.self.now.source.typedefs.now types u tokens) c.args.below InitDeclarators in
    let a = comma_some w is_declaration tokens read c.loop-next.behind c.in-Some.next c.in_ok-found.field-0 c.in-Some.ensures.0
    (at_start c.args.self.now.source.typedefs.now types u v w tokens c.requires.ready.tied.tied c.loop-next.invariant.keeps is_declaration c.in_ok-found.field-0 (λ n. readers n c.args.below InitDeclarators (drop c.in-Some.next tokens)) c.in_ok-found.ensures.answer) in
    let far : c.loop-next.behind < c.in-Some-2.end = goes_forward is_declaration v w c.init_declarator.ensures.keeps tokens (after_comma read) c.loop-next.declared.items c.loop-next.invariant.nodes c.loop-next.behind c.loop-next.invariant.place c.in_ok-found.field-0 a
    (commas_shorten c.args.self.now.source.typedefs.now types u tokens c.requires.ready.tied.tied c.args.below InitDeclarators) c.in-Some-2.found c.in-Some-2.end c.in-Some-2.is in
    let end : c.in-Some-2.end ≤ length tokens = (part_there is_declaration v w c.init_declarator.ensures.keeps tokens (after_comma read) c.loop-next.declared.items c.loop-next.invariant.nodes c.loop-next.behind c.loop-next.invariant.place c.in_ok-found.field-0 a c.in-Some-2.found c.in-Some-2.end c.in-Some-2.is).1 in
    omega (arith, far, end)

pub loop-next-preserved : goal.loop-next-preserved
loop-next-preserved g c =
    let tokens = c.args.self.now.source.tokens.now.tokens in
    let types = g.R.TypeReader.types c.args.self.now.source.reader.now in
    let u = c.args.into.now in
    let v = c.loop-next.into in
    let w = c.init_declarator.new.into in
    let read = readers (names_in c.args.self.now.source.typedefs.now types u tokens) c.args.below InitDeclarators in
    let a = comma_some w is_declaration tokens read c.loop-next.behind c.in-Some.next c.in_ok-found.field-0 c.in-Some.ensures.0
    (at_start c.args.self.now.source.typedefs.now types u v w tokens c.requires.ready.tied.tied c.loop-next.invariant.keeps is_declaration c.in_ok-found.field-0 (λ n. readers n c.args.below InitDeclarators (drop c.in-Some.next tokens)) c.in_ok-found.ensures.answer) in
    let keeps = extends_then u v w c.loop-next.invariant.keeps c.init_declarator.ensures.keeps in
    record {
      nodes = parts_there is_declaration v w c.init_declarator.ensures.keeps tokens (after_comma read) c.loop-next.declared.items c.loop-next.invariant.nodes c.loop-next.behind c.loop-next.invariant.place c.in_ok-found.field-0 a c.in-Some-2.found c.in-Some-2.end c.in-Some-2.is c.push-in-loop-next.new.self.items c.in_ok-push-2.ensures.items;
      place = (part_there is_declaration v w c.init_declarator.ensures.keeps tokens (after_comma read) c.loop-next.declared.items c.loop-next.invariant.nodes c.loop-next.behind c.loop-next.invariant.place c.in_ok-found.field-0 a c.in-Some-2.found c.in-Some-2.end c.in-Some-2.is).1;
      keeps = keeps;
      tied = given_kept (list_map c.args.self.now.lists.now) c.args.self.now.source.typedefs.now types u w tokens c.requires.ready.tied keeps;
      same = row_goes is_declaration v w c.init_declarator.ensures.keeps tokens (after_comma read) c.loop-next.declared.items c.loop-next.invariant.nodes c.loop-next.behind c.loop-next.invariant.place c.in_ok-found.field-0 a
          (commas_shorten c.args.self.now.source.typedefs.now types u tokens c.requires.ready.tied.tied c.args.below InitDeclarators)
          (row (after_comma read) (Then NoTrees (tree_at u.forest c.args.first)) (drop c.args.at tokens)) c.loop-next.invariant.same c.in-Some-2.found c.in-Some-2.end c.in-Some-2.is c.push-in-loop-next.new.self.items c.in_ok-push-2.ensures.items;
    }

pub after-requires : goal.after-requires
after-requires g c = c.loop-next.invariant.place

pub init_declarator-requires : goal.init_declarator-requires
init_declarator-requires g c = record { place = c.in-Some.ensures.1; tied = c.loop-next.invariant.tied }

pub returns-in_err-push : goal.returns-in_err-push
returns-in_err-push g c = record {
  keeps = extends_same _;
  answer = IfOk-from_err _ _ c.from_residual.ensures.0;
}

pub returns-in_err-found : goal.returns-in_err-found
returns-in_err-found g c = record {
  keeps = extends_then _ _ _ c.loop-next.invariant.keeps c.init_declarator.ensures.keeps;
  answer = IfOk-from_err _ _ c.from_residual-in_err-found.ensures.0;
}

pub returns-in_err-push-2 : goal.returns-in_err-push-2
returns-in_err-push-2 g c = record {
  keeps = extends_then _ _ _ c.loop-next.invariant.keeps c.init_declarator.ensures.keeps;
  answer = IfOk-from_err _ _ c.before.from_residual-in_err-push-2.ensures.0;
}
