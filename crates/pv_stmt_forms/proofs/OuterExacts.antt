-- What is spelled as an external declaration is read, whatever follows.
use Rattle.std.proofs.Common.{◌≡◌, ◌≤◌, ℕ, zero, suc, true, false, List, [], ◌∷◌, ◌++◌, Some, refl, ap, subst, ◌∙◌, arith}
use Rattle.pv_token.specs.declared.token_table.Token.{Token}
use Rattle.pv_tree.specs.Syntax.{DeclarationTree, Function, Declaration, Parameter, DeclaratorTree, Block, OfDeclaration, OfDeclarator, Trees, Present, is_external}
use Rattle.pv_tree.specs.Depths.{declaration_depth}
use Rattle.pv_tree.specs.Spelling.{declaration_tokens, declarator_tokens, statement_tokens, trees_tokens}
use Rattle.pv_tree.specs.Spells.{Names, Fits}
use Rattle.pv_tree.specs.Fitting.{DeclarationFits, StatementFits, past}
use Rattle.pv_expr_forms.proofs.Runs.{Takes, takes_then, takes_parts, takes_rest}
use Rattle.pv_expr_forms.proofs.Heads.{IsSpelled}
use Rattle.pv_decl_forms.specs.Pieces.{is_open_brace}
use Rattle.pv_decl_forms.specs.Grammar.{opens_block}
use Rattle.pv_decl_forms.proofs.Goods.{known_behind}
use Rattle.pv_decl_forms.proofs.Declarings.{declaration_exact}
use Rattle.pv_stmt_forms.specs.Externals.{with_block, external}
use Rattle.pv_stmt_forms.proofs.StatementExacts.{statement_exact}

block_opens : (line : ℕ) (items : Trees) (here rest : List Token) → Takes (statement_tokens (Block line items)) here rest → opens_block here ≡ true
block_opens line items [] rest h = absurd h
block_opens line items (t ∷ ts) rest h = ap is_open_brace h.0

module _ (names : Names) (K : List Token → Type 0) (spelled : IsSpelled names K) (below : ℕ) where
  function_exact : (line : ℕ) (specs : Trees) (m : DeclaratorTree) (first : ℕ) (items : Trees) (here rest : List Token) → K here
      → DeclarationFits names.is_type (Fits names) (Function line specs m (Block first items)) here
      → declaration_depth (Function line specs m (Block first items)) ≤ suc below → Takes (declaration_tokens (Function line specs m (Block first items))) here rest
      → external names (suc below) here ≡ Some (OfDeclaration (Function line specs m (Block first items)), rest)
  unfolding external with_block
  function_exact line specs m first items here rest known f d h =
      let ss = trees_tokens specs in
      let ms = declarator_tokens m in
      let bs = statement_tokens (Block first items) in
      let p = takes_parts ss (ms ++ bs) here rest h in
      let q = takes_parts ms bs p.0 rest p.2 in
      let run = takes_then ss ms here p.0 q.0 p.1 q.1 in
      let known' = known_behind names K spelled (ss ++ ms) here q.0 run known in
      let at : past ms (past ss here) ≡ q.0 = ap (λ (y : List Token). past ms y) (takes_rest ss here p.0 p.1) ∙ takes_rest ms p.0 q.0 q.1 in
      let head = declaration_exact names K spelled (suc below) (Parameter line specs (Present (OfDeclarator m))) here q.0 known (rw (f.3, block_opens first items q.0 rest q.2) refl) (f.0, f.1, f.2, (refl, f.4)) (omega (arith, d)) run in
      let b = statement_exact names K spelled below (Block first items) q.0 rest known' refl (subst (λ (y : List Token). StatementFits names.is_type (Fits names) (Block first items) y) at f.6) (omega (arith, d)) q.2 (λ open'. absurd cc) in
      rw (head, b) refl

  declaration_read : (line : ℕ) (specs declared : Trees) (here rest : List Token) → K here
      → DeclarationFits names.is_type (Fits names) (Declaration line specs declared) here → declaration_depth (Declaration line specs declared) ≤ suc below
      → Takes (declaration_tokens (Declaration line specs declared)) here rest
      → external names (suc below) here ≡ Some (OfDeclaration (Declaration line specs declared), rest)
  unfolding external with_block
  declaration_read line specs declared here rest known f d h = rw (declaration_exact names K spelled (suc below) (Declaration line specs declared) here rest known refl f d h) refl

pub external_exact : (names : Names) (K : List Token → Type 0) → IsSpelled names K → (deep : ℕ) (d : DeclarationTree) (here rest : List Token) → K here
    → is_external (OfDeclaration d) ≡ true → DeclarationFits names.is_type (Fits names) d here → declaration_depth d ≤ deep
    → Takes (declaration_tokens d) here rest → external names deep here ≡ Some (OfDeclaration d, rest)
external_exact names K spelled zero (Declaration line specs declared) here rest known s f d h = absurd (omega (arith, d))
external_exact names K spelled zero (Function line specs m b) here rest known s f d h = absurd (omega (arith, d))
external_exact names K spelled (suc below) (Declaration line specs declared) here rest known s f d h =
    declaration_read names K spelled below line specs declared here rest known f d h
external_exact names K spelled (suc below) (Function line specs m (Block first items)) here rest known s f d h =
    function_exact names K spelled below line specs m first items here rest known f d h
external_exact names K spelled (suc below) (Function line specs m _) here rest known s f d h = absurd (let e : false ≡ true = f.5 in cc)
external_exact names K spelled deep _ here rest known s f d h = absurd cc
