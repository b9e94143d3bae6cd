-- Parts in a row are read where they are spelled, wherever one part can end before the next.
use Rattle.std.proofs.Common.{◌≡◌, ◌≤◌, ℕ, true, List, Some, None, ap, subst, ◌∙◌, arith}
use Rattle.pv_token.specs.declared.token_table.Token.{Token}
use Rattle.pv_tree.specs.Syntax.{Tree, Trees, NoTrees, Then}
use Rattle.pv_tree.specs.Depths.{tree_depth, trees_depth}
use Rattle.pv_tree.specs.Spelling.{tree_tokens, trees_tokens}
use Rattle.pv_tree.specs.Spells.{Names, Fits}
use Rattle.pv_tree.specs.Places.{Place, stands}
use Rattle.pv_tree.specs.Fitting.{TreeFits, RowFits}
use Rattle.pv_expr_forms.proofs.Runs.{Takes, takes_parts, takes_rest}
use Rattle.pv_expr_forms.proofs.Heads.{IsSpelled}
use Rattle.pv_decl_forms.specs.Pieces.{Piece, row}
use Rattle.pv_decl_forms.proofs.Steps.{Shortens, row_next}
use Rattle.pv_decl_forms.proofs.Goods.{known_behind}
use Rattle.pv_decl_forms.proofs.Stops.{row_quits}

-- what stands at a place is read, where what follows lets it end
abbrev pub ExactWhere : Names → (K : List Token → Type 0) → Place → (depth : ℕ) → (Lets : List Token → Type 0) → (List Token → Piece) → Type 0
ExactWhere names K place depth Lets read = (t : Tree) (here rest : List Token) → K here → stands place t ≡ true → TreeFits names.is_type (Fits names) t here → tree_depth t ≤ depth → Takes (tree_tokens t) here rest → Lets rest → read here ≡ Some (t, rest)

-- what stands at a place lets what stands before it end
abbrev pub LetsEnd : Names → Place → (Lets : List Token → Type 0) → Type 0
LetsEnd names place Lets = (t : Tree) (here rest : List Token) → stands place t ≡ true → TreeFits names.is_type (Fits names) t here → Takes (tree_tokens t) here rest → Lets here

module _ (names : Names) (K : List Token → Type 0) (spelled : IsSpelled names K) (place : Place) (depth : ℕ) (Lets : List Token → Type 0) (read : List Token → Piece) (short : Shortens K read)
    (exact : ExactWhere names K place depth Lets read) (starts : LetsEnd names place Lets) where
  -- reading comes to parts in a row, and goes on from there
  row_comes : (parts : Trees) (here rest : List Token) → K here → RowFits names.is_type (Fits names) place parts here → trees_depth parts ≤ depth
      → Takes (trees_tokens parts) here rest → Lets rest → row read NoTrees here ≡ row read parts rest
  row_comes NoTrees here rest known f d h s = ap (row read NoTrees) h
  row_comes (Then before last) here rest known f d h s =
      let p = takes_parts (trees_tokens before) (tree_tokens last) here rest h in
      let at = takes_rest (trees_tokens before) here p.0 p.1 in
      let f' = subst (λ (x : List Token). TreeFits names.is_type (Fits names) last x) at f.2 in
      let known' = known_behind names K spelled (trees_tokens before) here p.0 p.1 known in
      row_comes before here p.0 known f.0 (omega (arith, d)) p.1 (starts last p.0 rest f.1 f' p.2)
      ∙ row_next K read short before p.0 last rest known' (exact last p.0 rest known' f.1 f' (omega (arith, d)) p.2 s)

  pub row_whole : (parts : Trees) (here rest : List Token) → K here → RowFits names.is_type (Fits names) place parts here → trees_depth parts ≤ depth
      → Takes (trees_tokens parts) here rest → Lets rest → read rest ≡ None → row read NoTrees here ≡ (parts, rest)
  row_whole parts here rest known f d h s none = row_comes parts here rest known f d h s ∙ row_quits read parts rest none
