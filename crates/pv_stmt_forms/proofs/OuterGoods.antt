-- What is read as an external declaration fits, and spells what was taken.
use Rattle.std.proofs.Common.{◌≡◌, ◌≤◌, ◌<◌, ℕ, zero, suc, true, List, [], ◌∷◌, ◌++◌, length, Some, option_map, refl, sym, ap, subst, ◌∙◌, arith}
use Rattle.std.proofs.lemmas.Bool.{and_parts}
use Rattle.std.proofs.lemmas.List.{length-append}
use Rattle.pv_token.specs.declared.token_table.Token.{Token}
use Rattle.pv_token.specs.declared.token_table.TokenKind.{TokenKind}
use Rattle.pv_tree.specs.Syntax.{DeclarationTree, Function, Declaration, Parameter, DeclaratorTree, Block, Tree, OfDeclaration, OfDeclarator, OfStatement, Trees, NoTrees, Present, is_external}
use Rattle.pv_tree.specs.Depths.{declaration_depth}
use Rattle.pv_tree.specs.Spelling.{declaration_tokens, declarator_tokens, statement_tokens, trees_tokens}
use Rattle.pv_tree.specs.Spells.{Names, Fits}
use Rattle.pv_tree.specs.Tables.{as_declaration, as_statement}
use Rattle.pv_tree.specs.Places.{is_block, is_named}
use Rattle.pv_tree.specs.Fitting.{DeclarationFits, StatementFits, past}
use Rattle.pv_expr_forms.proofs.Runs.{Takes, takes_then, takes_parts, takes_rest}
use Rattle.pv_expr_forms.proofs.Steps.{mapped, followed}
use Rattle.pv_expr_forms.proofs.Heads.{IsSpelled}
use Rattle.pv_decl_forms.specs.Pieces.{row}
use Rattle.pv_decl_forms.specs.Grammar.{opens_block, is_declared}
use Rattle.pv_decl_forms.specs.Reader.{declaration}
use Rattle.pv_decl_forms.proofs.Marks.{open_brace_is}
use Rattle.pv_decl_forms.proofs.Steps.{piece_is}
use Rattle.pv_decl_forms.proofs.Goods.{known_behind}
use Rattle.pv_decl_forms.proofs.Externals.{declaration_good}
use Rattle.pv_stmt_forms.specs.Statements.{Statements, SwitchBlocks, item, block, statement_of, statement_by, readers}
use Rattle.pv_stmt_forms.specs.Externals.{with_block, external}
use Rattle.pv_stmt_forms.proofs.FormTokens.{block_end_is}
use Rattle.pv_stmt_forms.proofs.StatementGoods.{statement_good}

-- a declaration, or a function definition
pub record Outer (names : Names) (deep : ℕ) (here : List Token) (a : Tree) (rest : List Token) : Type 0 where
  pub is : OfDeclaration (as_declaration a) ≡ a
  pub external : is_external (OfDeclaration (as_declaration a)) ≡ true
  pub fits : DeclarationFits names.is_type (Fits names) (as_declaration a) here
  pub shallow : declaration_depth (as_declaration a) ≤ deep
  pub spells : 0 < length (declaration_tokens (as_declaration a))
  pub takes : Takes (declaration_tokens (as_declaration a)) here rest

-- what begins with a brace is a block
block_there : (names : Names) (deep : ℕ) (ts : List Token) (a : Tree) (rest : List Token) → opens_block ts ≡ true
    → readers names deep Statements ts ≡ Some (a, rest) → is_block (as_statement a) ≡ true
unfolding readers statement_by statement_of block
block_there names zero ts a rest o e = absurd cc
block_there names (suc below) [] a rest o e = absurd cc
block_there names (suc below) (t ∷ ts) a rest o e =
    let read = readers names below Statements in
    let k = open_brace_is t.kind o in
    let begun = ap (λ (y : TokenKind). statement_of names below read (readers names below SwitchBlocks) t.line y (t ∷ ts) ts) (sym k) ∙ e in
    let c = block_end_is (λ items. OfStatement (Block t.line items)) (row (item names below read) NoTrees ts) a rest begun in
    ap (λ (y : Tree). is_block (as_statement y)) (sym c.1)

module _ (names : Names) (K : List Token → Type 0) (spelled : IsSpelled names K) (below : ℕ) where
  function_good : (line : ℕ) (specs : Trees) (m : DeclaratorTree) (here mid : List Token) (a : Tree) (rest : List Token) → K mid
      → is_named m ≡ true → opens_block mid ≡ true
      → DeclarationFits names.is_type (Fits names) (Parameter line specs (Present (OfDeclarator m))) here
      → declaration_depth (Parameter line specs (Present (OfDeclarator m))) ≤ suc below
      → 0 < length (trees_tokens specs ++ declarator_tokens m) → Takes (trees_tokens specs ++ declarator_tokens m) here mid
      → option_map {U = Tree × List Token} (λ x. (OfDeclaration (Function line specs m (as_statement x.0)), x.1)) (readers names below Statements mid) ≡ Some (a, rest)
      → Outer names (suc below) here a rest
  function_good line specs m here mid a rest known named opens f d spells h e =
      let w = mapped (λ (x : Tree × List Token). let z : Tree × List Token = (OfDeclaration (Function line specs m (as_statement x.0)), x.1) in z) (readers names below Statements mid) (a, rest) e in
      let x = w.0 in
      let b = statement_good names K spelled below Statements mid x.0 x.1 known w.1 in
      let ss = trees_tokens specs in
      let ms = declarator_tokens m in
      let bs = statement_tokens (as_statement x.0) in
      let p = takes_parts ss ms here mid h in
      let at : past ms (past ss here) ≡ mid = ap (λ (y : List Token). past ms y) (takes_rest ss here p.0 p.1) ∙ takes_rest ms p.0 mid p.2 in
      subst (λ (y : Tree × List Token). Outer names (suc below) here y.0 y.1) w.2 (record {
        is = refl;
        external = refl;
        fits = (f.0, f.1, f.2, named, f.3.1, block_there names below mid x.0 x.1 opens w.1, subst (λ (y : List Token). StatementFits names.is_type (Fits names) (as_statement x.0) y) (sym at) b.fits);
        shallow = omega (arith, d, b.shallow);
        spells = omega (arith, spells, length-append ss ms, length-append ss (ms ++ bs), length-append ms bs);
        takes = takes_then ss (ms ++ bs) here p.0 x.1 p.1 (takes_then ms bs p.0 mid x.1 p.2 b.takes);
      })

  with_block_good : (d : DeclarationTree) (here mid : List Token) (a : Tree) (rest : List Token) → K mid → is_declared d mid ≡ true
      → DeclarationFits names.is_type (Fits names) d here → declaration_depth d ≤ suc below → 0 < length (declaration_tokens d)
      → Takes (declaration_tokens d) here mid → with_block names below (OfDeclaration d) mid ≡ Some (a, rest) → Outer names (suc below) here a rest
  unfolding with_block
  with_block_good (Declaration line specs declared) here mid a rest known s f d spells h e =
      subst (λ (y : Tree × List Token). Outer names (suc below) here y.0 y.1) (piece_is _ _ _ _ e)
      (record { is = refl; external = refl; fits = f; shallow = d; spells = spells; takes = h })
  with_block_good (Parameter line specs (Present (OfDeclarator m))) here mid a rest known s f d spells h e =
      let both = and_parts (is_named m) (opens_block mid) s in
      function_good line specs m here mid a rest known both.0 both.1 f d spells h e
  with_block_good _ here mid a rest known s f d spells h e = absurd cc

pub external_good : (names : Names) (K : List Token → Type 0) → IsSpelled names K → (deep : ℕ) (here : List Token) (a : Tree) (rest : List Token) → K here
    → external names deep here ≡ Some (a, rest) → Outer names deep here a rest
unfolding external
external_good names K spelled zero here a rest known e = absurd cc
external_good names K spelled (suc below) here a rest known e =
    let f = followed (λ (x : Tree × List Token). with_block names below x.0 x.1) (declaration names (suc below) here) (a, rest) e in
    let x = f.0 in
    let d = declaration_good names K spelled (suc below) here x.0 x.1 known f.1 in
    with_block_good names K spelled below d.tree here x.1 a rest (known_behind names K spelled (declaration_tokens d.tree) here x.1 d.takes known) d.stands d.fits d.shallow d.spells d.takes
    (ap (λ (y : Tree). with_block names below y x.1) d.is ∙ f.2)
