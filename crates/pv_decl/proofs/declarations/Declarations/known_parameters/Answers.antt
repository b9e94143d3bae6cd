use Rattle.std.proofs.Common.{sym, ap, ◌∙◌, arith, drop, length, Some}
use Rattle.pv_tree.specs.Syntax.{Tree}
use Rattle.pv_tree.specs.Tables.{optional_at, is_declaration}
use Rattle.pv_tree.proofs.Kept.{extends_same}
use Rattle.pv_decl_forms.specs.Parts.{function_of}
use Rattle.pv_decl_forms.specs.Pieces.{Piece}
use Rattle.pv_decl_forms.proofs.Answered.{moved, nothing}
use Rattle.pv_decl.specs.Filled.{list_map}
use Rattle.pv_decl.proofs.Givens.{parts_of, varies, is_function, known_there, known_none, known_deep, known_shallow, known_function, list_below}
use Rattle.pv_decl.proofs.declarations.Declarations.known_parameters.Goals as goal

pub returns-in_default : goal.returns-in_default
returns-in_default g c = record {
  keeps = extends_same _;
  answer =
      nothing _ _ _ _ (known_none (list_map c.args.self.now.lists.now) c.args.self.now.source.typedefs.now (g.R.TypeReader.types c.args.self.now.source.reader.now) c.args.into.now c.args.self.now.source.tokens.now.tokens
      c.requires.ready.tied c.args.at c.requires.ready.place c.args.list c.requires.list (function_of c.args.line (optional_at c.args.into.now.forest c.args.left)) c.args.below c.requires.shallow c.in_default.is);
}

pub depth-requires : goal.depth-requires
depth-requires g c =
    (known_there (list_map c.args.self.now.lists.now) c.args.self.now.source.typedefs.now (g.R.TypeReader.types c.args.self.now.source.reader.now) c.args.into.now c.args.self.now.source.tokens.now.tokens
    c.requires.ready.tied c.args.at c.requires.ready.place c.args.list c.requires.list c.in-Some.known c.in-Some.end c.in-Some.is).1.0

pub declarator-requires : goal.declarator-requires
declarator-requires g c =
    (known_there (list_map c.args.self.now.lists.now) c.args.self.now.source.typedefs.now (g.R.TypeReader.types c.args.self.now.source.reader.now) c.args.into.now c.args.self.now.source.tokens.now.tokens
    c.requires.ready.tied c.args.at c.requires.ready.place c.args.list c.requires.list c.in-Some.known c.in-Some.end c.in-Some.is).1

pub found_declarator-requires-clause-place : goal.found_declarator-requires-clause-place
found_declarator-requires-clause-place g c =
    (known_there (list_map c.args.self.now.lists.now) c.args.self.now.source.typedefs.now (g.R.TypeReader.types c.args.self.now.source.reader.now) c.args.into.now c.args.self.now.source.tokens.now.tokens
    c.requires.ready.tied c.args.at c.requires.ready.place c.args.list c.requires.list c.in-Some.known c.in-Some.end c.in-Some.is).2

pub returns-then-depth-below : goal.returns-then-depth-below
returns-then-depth-below g c = record {
  keeps = extends_same _;
  answer =
      nothing _ _ _ _ (known_deep (list_map c.args.self.now.lists.now) c.args.self.now.source.typedefs.now (g.R.TypeReader.types c.args.self.now.source.reader.now) c.args.into.now c.args.self.now.source.tokens.now.tokens
      c.requires.ready.tied c.args.at c.requires.ready.place c.args.list c.requires.list (function_of c.args.line (optional_at c.args.into.now.forest c.args.left)) c.args.below c.requires.shallow
      c.in-Some.known c.in-Some.end c.in-Some.is (omega (arith, c.depth.ensures.value, c.if-depth-below.true)));
}

pub returns-in_default-declarator : goal.returns-in_default-declarator
returns-in_default-declarator g c =
    let f = known_function (list_map c.args.self.now.lists.now) c.args.self.now.source.typedefs.now (g.R.TypeReader.types c.args.self.now.source.reader.now) c.args.into.now c.args.self.now.source.tokens.now.tokens
    c.requires.ready.tied c.args.at c.requires.ready.place c.args.list c.requires.list c.in-Some.known c.in-Some.end c.in-Some.is in
    let n = is_function c.args.into.now.forest _ c.declarator.result f.0 f.1 (sym c.declarator.ensures.tree ∙ f.2) in
    absurd (c.in_default-declarator.not-AbstractFunction n.0 n.1 n.2 n.3)

pub returns : goal.returns
returns g c = record {
  keeps = c.found_declarator.ensures.keeps;
  answer =
      let u = c.args.into.now in
      let make = function_of c.args.line (optional_at u.forest c.args.left) in
      let end = drop c.in-Some.end c.args.self.now.source.tokens.now.tokens in
      let tree = c.in-AbstractFunction.ensures.tree in
      moved _ _ _ _ _ _
      (ap (λ (t : Tree). let y : Piece = Some (t, end) in y) (c.function_node-function.ensures.is c.args.line)
      ∙ ap (λ (t : Tree). let y : Piece = Some (make (parts_of t) (varies t), end) in y) (sym tree)
      ∙ known_shallow (list_map c.args.self.now.lists.now) c.args.self.now.source.typedefs.now (g.R.TypeReader.types c.args.self.now.source.reader.now) u c.args.self.now.source.tokens.now.tokens
      c.requires.ready.tied c.args.at c.requires.ready.place c.args.list c.requires.list make c.args.below c.requires.shallow
      c.in-Some.known c.in-Some.end c.in-Some.is (omega (arith, c.depth.ensures.value, c.if-depth-below.false)))
      c.found_declarator.ensures.ok;
}

pub function_node-function-requires : goal.function_node-function-requires
function_node-function-requires g c = c.requires.left

pub overflow_add-below : goal.overflow_add-below
overflow_add-below g c = omega (arith, c.requires.shallow)

pub found_declarator-requires-clause-children : goal.found_declarator-requires-clause-children
found_declarator-requires-clause-children g c =
    let f = c.args.into.now.forest in
    let there = known_there (list_map c.args.self.now.lists.now) c.args.self.now.source.typedefs.now (g.R.TypeReader.types c.args.self.now.source.reader.now) c.args.into.now c.args.self.now.source.tokens.now.tokens
    c.requires.ready.tied c.args.at c.requires.ready.place c.args.list c.requires.list c.in-Some.known c.in-Some.end c.in-Some.is in
    c.function_node-function.ensures.children (list_below f is_declaration c.in-Some.known.0 (length f.trees) c.in-AbstractFunction.parameters there.1.0 c.in-AbstractFunction.ensures.children.1)
