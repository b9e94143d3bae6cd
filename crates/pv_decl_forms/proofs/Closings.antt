-- What is spelled so is read: parameters to their parenthesis, and lists in braces.
use Rattle.std.proofs.Common.{◌≡◌, ◌≤◌, ℕ, Bool, true, false, List, [], ◌∷◌, ◌++◌, Option, Some, None, refl, sym, ap, subst, ◌∙◌}
use Rattle.pv_token.specs.declared.token_table.Token.{Token}
use Rattle.pv_token.specs.declared.token_table.TokenKind.TheVariants as kind
use Rattle.pv_token.specs.declared.marks.Mark.TheVariants as mark
use Rattle.pv_tree.specs.Syntax.{Tree, Trees, NoTrees}
use Rattle.pv_tree.specs.Depths.{trees_depth}
use Rattle.pv_tree.specs.Spelling.{trees_tokens, listed_tokens, comma_tokens, variadic_tokens}
use Rattle.pv_tree.specs.Spells.{Names, Fits}
use Rattle.pv_tree.specs.Places.{Place, Parameters, some, may_be_variadic}
use Rattle.pv_tree.specs.Fitting.{RowFits, ListFits}
use Rattle.pv_expr_forms.specs.Reader.{is_comma, is_close, after}
use Rattle.pv_expr_forms.proofs.Runs.{Takes, takes_parts, parts_at}
use Rattle.pv_expr_forms.proofs.Heads.{IsSpelled}
use Rattle.pv_decl_forms.specs.Pieces.{Piece, Reads, is_close_brace, found_in, row, after_comma, comma_list}
use Rattle.pv_decl_forms.specs.Declarators.{behind_parameters, with_parameters, parameters_behind}
use Rattle.pv_decl_forms.specs.Reader.{brace_closed, listed_in_braces, row_in_braces}
use Rattle.pv_decl_forms.proofs.Marks.{after_taken, after_other}
use Rattle.pv_decl_forms.proofs.Steps.{Shortens}
use Rattle.pv_decl_forms.proofs.Stops.{Closes, Shuts, closes_on, shuts_on, closes_stops, closed_shuts}
use Rattle.pv_decl_forms.proofs.Exacts.{ExactBy, Starts, no_comma, comma_alone, row_exact, listed_exact, varied_exact}

-- where a list ends
pub record Ending (read : List Token → Piece) (ts : List Token) : Type 0 where
  pub ends : Closes ts
  pub none : after_comma read ts ≡ None

pub semicolon_ends : (read : List Token → Piece) (t : Token) (ts : List Token) → t.kind ≡ kind.Mark mark.Semicolon → Ending read (t ∷ ts)
semicolon_ends read t ts k = record {
  ends = closes_on (kind.Mark mark.Semicolon) t ts k refl;
  none = no_comma read (kind.Mark mark.Semicolon) t ts k refl;
}

varied_ends : (read : List Token → Piece) → ((ts : List Token) → Shuts ts → read ts ≡ None)
    → (variadic : Bool) (ts : List Token) (c : Token) (rest : List Token)
    → Takes (variadic_tokens variadic) ts (c ∷ rest) → c.kind ≡ kind.Mark mark.CloseParen → Ending read ts
varied_ends read none true [] c rest h k = absurd h
varied_ends read none true (t ∷ []) c rest h k = absurd h.1
varied_ends read none true (t ∷ u ∷ ts) c rest h k = record {
  ends = closes_on (kind.Mark mark.Comma) t (u ∷ ts) h.0 refl;
  none = comma_alone read (t ∷ u ∷ ts) (u ∷ ts) (h.0, refl) (none (u ∷ ts) (shuts_on (kind.Mark mark.Ellipsis) u ts h.1.0 refl));
}
varied_ends read none false ts c rest h k = subst (λ (x : List Token). Ending read x) (sym h) (record {
  ends = closes_on (kind.Mark mark.CloseParen) c rest k refl;
  none = no_comma read (kind.Mark mark.CloseParen) c rest k refl;
})

comma_ends : (read : List Token → Piece) → ((ts : List Token) → Shuts ts → read ts ≡ None)
    → (comma : Bool) (ts : List Token) (c : Token) (rest : List Token)
    → Takes (comma_tokens comma) ts (c ∷ rest) → c.kind ≡ kind.Mark mark.CloseBrace → Ending read ts
comma_ends read none true [] c rest h k = absurd h
comma_ends read none true (t ∷ ts) c rest h k = record {
  ends = closes_on (kind.Mark mark.Comma) t ts h.0 refl;
  none = comma_alone read (t ∷ ts) (c ∷ rest) h (none (c ∷ rest) (shuts_on (kind.Mark mark.CloseBrace) c rest k refl));
}
comma_ends read none false ts c rest h k = subst (λ (x : List Token). Ending read x) (sym h) (record {
  ends = closes_on (kind.Mark mark.CloseBrace) c rest k refl;
  none = no_comma read (kind.Mark mark.CloseBrace) c rest k refl;
})

comma_exact : (comma : Bool) (ts : List Token) (c : Token) (rest : List Token) → Takes (comma_tokens comma) ts (c ∷ rest)
    → c.kind ≡ kind.Mark mark.CloseBrace
    → found_in (after is_comma ts) ts ≡ (comma, c ∷ rest)
comma_exact true [] c rest h k = absurd h
comma_exact true (t ∷ ts) c rest h k = ap (λ (x : Option (List Token)). found_in x (t ∷ ts)) (after_taken is_comma (kind.Mark mark.Comma) (t ∷ ts) (c ∷ rest) refl h)
comma_exact false ts c rest h k =
    ap (λ (x : List Token). found_in (after is_comma x) x) h ∙ ap (λ (x : Option (List Token)). found_in x (c ∷ rest)) (after_other is_comma (kind.Mark mark.CloseBrace) c rest k refl)

module _ (names : Names) (K : List Token → Type 0) (spelled : IsSpelled names K) (place : Place) (depth : ℕ) (read : List Token → Piece) (exact : ExactBy names K place depth read)
    (none : (ts : List Token) → Shuts ts → read ts ≡ None) where
  pub list_ended : Shortens K (after_comma read) → (parts : Trees) (here rest : List Token) → K here
      → ListFits names.is_type (Fits names) place parts here → trees_depth parts ≤ depth
      → Takes (listed_tokens parts) here rest → Ending read rest → comma_list read here ≡ (parts, rest)
  list_ended short parts here rest known f d h e =
      listed_exact names K spelled place depth read exact short parts here rest known f d h (closes_stops place rest e.ends) e.none (λ empty. none rest (closed_shuts rest e.ends))

  pub braces_exact : Shortens K (after_comma read) → (make : Trees → Bool → Tree) (parts : Trees) (comma : Bool) (here rest : List Token) → K here
      → some parts ≡ true
      → ListFits names.is_type (Fits names) place parts here → trees_depth parts ≤ depth
      → Takes ((listed_tokens parts ++ comma_tokens comma) ++ kind.Mark mark.CloseBrace ∷ []) here rest
      → listed_in_braces make (comma_list read here) ≡ Some (make parts comma, rest)
  unfolding listed_in_braces brace_closed
  braces_exact short make parts comma here rest known has f d h =
      let p = parts_at (listed_tokens parts ++ comma_tokens comma) (kind.Mark mark.CloseBrace) [] here rest h in
      let q = takes_parts (listed_tokens parts) (comma_tokens comma) here (p.token ∷ p.after) p.left in
      let l = list_ended short parts here q.0 known f d q.1 (comma_ends read none comma q.0 p.token p.after q.2 p.kind) in
      let c = comma_exact comma q.0 p.token p.after q.2 p.kind in
      let b = after_taken is_close_brace (kind.Mark mark.CloseBrace) (p.token ∷ p.after) rest refl (p.kind, p.right) in
      rw (l, has, c, b) refl

  pub row_braces_exact : Shortens K read → Starts names place → (make : Trees → Tree) (parts : Trees) (here rest : List Token) → K here
      → some parts ≡ true
      → RowFits names.is_type (Fits names) place parts here → trees_depth parts ≤ depth
      → Takes (trees_tokens parts ++ kind.Mark mark.CloseBrace ∷ []) here rest
      → row_in_braces make (row read NoTrees here) ≡ Some (make parts, rest)
  unfolding row_in_braces
  row_braces_exact short starts make parts here rest known has f d h =
      let p = parts_at (trees_tokens parts) (kind.Mark mark.CloseBrace) [] here rest h in
      let end = closes_on (kind.Mark mark.CloseBrace) p.token p.after p.kind refl in
      let l = row_exact names K spelled place depth read exact short starts parts here (p.token ∷ p.after) known f d p.left (closes_stops place (p.token ∷ p.after) end) (none (p.token ∷ p.after) (closed_shuts (p.token ∷ p.after) end)) in
      let b = after_taken is_close_brace (kind.Mark mark.CloseBrace) (p.token ∷ p.after) rest refl (p.kind, p.right) in
      rw (l, has, b) refl

pub parametrized_exact : (names : Names) (K : List Token → Type 0) → IsSpelled names K → (depth : ℕ) (r : Reads)
    → ExactBy names K Parameters depth (r Parameters)
    → ((ts : List Token) → Shuts ts → r Parameters ts ≡ None) → Shortens K (after_comma (r Parameters))
    → (make : Trees → Bool → Tree) (parameters : Trees) (variadic : Bool)
    (ts rest : List Token) → K ts → may_be_variadic parameters variadic ≡ true → ListFits names.is_type (Fits names) Parameters parameters ts
    → trees_depth parameters ≤ depth
    → Takes ((listed_tokens parameters ++ variadic_tokens variadic) ++ kind.Mark mark.CloseParen ∷ []) ts rest
    → parameters_behind make r ts ≡ Some (make parameters variadic, rest)
unfolding parameters_behind with_parameters behind_parameters
parametrized_exact names K spelled depth r exact none short make parameters variadic ts rest known may f d h =
    let p = parts_at (listed_tokens parameters ++ variadic_tokens variadic) (kind.Mark mark.CloseParen) [] ts rest h in
    let q = takes_parts (listed_tokens parameters) (variadic_tokens variadic) ts (p.token ∷ p.after) p.left in
    let l = list_ended names K spelled Parameters depth (r Parameters) exact none short parameters ts q.0 known f d q.1 (varied_ends (r Parameters) none variadic q.0 p.token p.after q.2 p.kind) in
    let v = varied_exact parameters variadic q.0 p.token p.after may q.2 p.kind in
    let c = after_taken is_close (kind.Mark mark.CloseParen) (p.token ∷ p.after) rest refl (p.kind, p.right) in
    rw (l, v, c) refl
