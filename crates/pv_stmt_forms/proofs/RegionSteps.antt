-- Where an external declaration may end, token by token.
use Rattle.std.proofs.Common.{◌≡◌, ◌<◌, ◌≤◌, ◌+◌, ◌-◌, ℕ, zero, suc, true, List, [], ◌∷◌, drop, Some, slice_get, subst, sym, refl, arith}
use Rattle.pv_token.specs.declared.token_table.Token.{Token}
use Rattle.pv_token.specs.declared.token_table.TokenKind.{TokenKind}
use Rattle.pv_token.specs.declared.token_table.TokenKind.TheVariants as kind
use Rattle.pv_token.specs.declared.marks.Mark.TheVariants as mark
use Rattle.pv_expr_forms.proofs.Places.{peeked}
use Rattle.pv_decl_forms.specs.Pieces.{is_semicolon}
use Rattle.pv_stmt_forms.specs.RegionEnds.{braces_behind, NoneEnds}

-- a token opens one brace at most
pub braces_grow : (k : TokenKind) (braces : ℕ) → braces_behind k braces ≤ braces + 1
braces_grow (kind.Mark mark.OpenBrace) braces = omega arith
braces_grow (kind.Mark mark.CloseBrace) braces = omega arith
braces_grow _ braces = omega arith

-- of fewer tokens none ends either
pub none_of_fewer : (braces count : ℕ) (ts : List Token) → NoneEnds braces (suc count) ts → NoneEnds braces count ts
none_of_fewer braces zero ts h = tt
none_of_fewer braces (suc count) [] h = tt
none_of_fewer braces (suc count) (t ∷ ts) h = (h.0, none_of_fewer (braces_behind t.kind braces) count ts h.1)

-- what is known of the tokens from a place on, once those before it are read
abbrev pub Known : List Token → (from at braces : ℕ) → Type 0
Known tokens from at braces = (n m : ℕ) → from + m ≡ at + n → NoneEnds braces n (drop at tokens) → NoneEnds 0 m (drop from tokens)

-- behind one that ends nothing
pub known_next : (tokens : List Token) (from at braces next : ℕ) (t : Token) → slice_get tokens at ≡ Some t → Known tokens from at braces
    → (is_semicolon t.kind ≡ true → 0 < braces) → next ≡ braces_behind t.kind braces → Known tokens from (at + 1) next
known_next tokens from at braces next t e known inner is n m s h =
    known (suc n) m (omega (arith, s)) (subst (λ (ts : List Token). NoneEnds braces (suc n) ts) (sym (peeked tokens at t e)) (inner, subst (λ (k : ℕ). NoneEnds k n (drop (at + 1) tokens)) is h))

-- up to a place where one ends
pub known_behind : (tokens : List Token) (from at braces : ℕ) → from ≤ at → Known tokens from at braces → NoneEnds 0 (at + 1 - 1 - from) (drop from tokens)
known_behind tokens from at braces le known = known 0 (at + 1 - 1 - from) (omega (arith, le)) tt

module _ (tokens : List Token) (from at braces : ℕ) (le : from ≤ at) (known : Known tokens from at braces) where
  last_by : (k : ℕ) → k ≡ at - from → NoneEnds 0 (at - 1 - from) (drop from tokens)
  last_by zero e = let same : 0 ≡ at - 1 - from = omega (arith, e) in subst (λ (j : ℕ). NoneEnds 0 j (drop from tokens)) same tt
  last_by (suc k) e =
      let same : k ≡ at - 1 - from = omega (arith, e) in
      let whole : from + suc k ≡ at + 0 = omega (arith, e, le) in
      subst (λ (j : ℕ). NoneEnds 0 j (drop from tokens)) same (none_of_fewer 0 k (drop from tokens) (known 0 (suc k) whole tt))

  -- of all tokens but the last
  pub known_last : NoneEnds 0 (at - 1 - from) (drop from tokens)
  known_last = last_by (at - from) refl
