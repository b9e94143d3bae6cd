-- What a run of kinds takes from a list of tokens, and what it leaves.
use Rattle.std.proofs.Common.{◌≡◌, ◌+◌, ℕ, suc, List, [], ◌∷◌, ◌++◌, length, take, drop, refl, sym, ap, subst, ◌∙◌, arith}
use Rattle.pv_token.specs.declared.token_table.Token.{Token}
use Rattle.pv_token.specs.declared.token_table.TokenKind.{TokenKind}
use Rattle.pv_tree.specs.Grammar.{kinds}

-- tokens of these kinds stand here, with rest behind them
abbrev pub Takes : List TokenKind → (here rest : List Token) → Type 0
Takes [] here rest = here ≡ rest
Takes (k ∷ ks) [] rest = ⊥
Takes (k ∷ ks) (t ∷ ts) rest = (t.kind ≡ k) × Takes ks ts rest

-- ---- runs in a row

pub takes_then : (ks ls : List TokenKind) (here mid rest : List Token) → Takes ks here mid → Takes ls mid rest → Takes (ks ++ ls) here rest
takes_then [] ls here mid rest h k = subst (λ (x : List Token). Takes ls x rest) (sym h) k
takes_then (x ∷ ks) ls [] mid rest h k = absurd h
takes_then (x ∷ ks) ls (t ∷ ts) mid rest h k = (h.0, takes_then ks ls ts mid rest h.1 k)

pub takes_parts : (ks ls : List TokenKind) (here rest : List Token) → Takes (ks ++ ls) here rest → (mid : List Token) × Takes ks here mid × Takes ls mid rest
takes_parts [] ls here rest h = (here, refl, h)
takes_parts (x ∷ ks) ls [] rest h = absurd h
takes_parts (x ∷ ks) ls (t ∷ ts) rest h = let p = takes_parts ks ls ts rest h.1 in (p.0, (h.0, p.1), p.2)

-- kinds before a kind, and those behind it
pub record Parts (ks : List TokenKind) (k : TokenKind) (ls : List TokenKind) (here rest : List Token) : Type 0 where
  pub token : Token
  pub after : List Token
  pub left : Takes ks here (token ∷ after)
  pub kind : token.kind ≡ k
  pub right : Takes ls after rest

pub parts_at : (ks : List TokenKind) (k : TokenKind) (ls : List TokenKind) (here rest : List Token) → Takes (ks ++ (k ∷ ls)) here rest → Parts ks k ls here rest
parts_at [] k ls [] rest h = absurd h
parts_at [] k ls (t ∷ ts) rest h = record { token = t; after = ts; left = refl; kind = h.0; right = h.1 }
parts_at (x ∷ ks) k ls [] rest h = absurd h
parts_at (x ∷ ks) k ls (t ∷ ts) rest h =
    let p = parts_at ks k ls ts rest h.1 in
    record { token = p.token; after = p.after; left = (h.0, p.left); kind = p.kind; right = p.right }

-- ---- what is left

pub takes_behind : (n : ℕ) (ks : List TokenKind) (here rest : List Token) → Takes ks here rest → drop (length ks + n) here ≡ drop n rest
takes_behind n [] here rest h =
    let e : 0 + n ≡ n = omega arith in
    ap (λ (k : ℕ). drop k here) e ∙ ap (drop n) h
takes_behind n (k ∷ ks) [] rest h = absurd h
takes_behind n (k ∷ ks) (t ∷ ts) rest h =
    let e : suc (length ks) + n ≡ suc (length ks + n) = omega arith in
    ap (λ (k : ℕ). drop k (t ∷ ts)) e ∙ takes_behind n ks ts rest h.1

pub takes_rest : (ks : List TokenKind) (here rest : List Token) → Takes ks here rest → drop (length ks) here ≡ rest
takes_rest [] here rest h = h
takes_rest (k ∷ ks) [] rest h = absurd h
takes_rest (k ∷ ks) (t ∷ ts) rest h = takes_rest ks ts rest h.1

pub takes_length : (ks : List TokenKind) (here rest : List Token) → Takes ks here rest → length here ≡ length ks + length rest
takes_length [] here rest h = omega (arith, ap length h)
takes_length (k ∷ ks) [] rest h = absurd h
takes_length (k ∷ ks) (t ∷ ts) rest h = omega (arith, takes_length ks ts rest h.1)

-- what holds of what is left behind a token holds of what is left behind a run
pub takes_known : (K : List Token → Type 0) → ((t : Token) (ts : List Token) → K (t ∷ ts) → K ts) → (ks : List TokenKind) (here rest : List Token) → Takes ks here rest
    → K here → K rest
takes_known K tail [] here rest h known = subst K h known
takes_known K tail (k ∷ ks) [] rest h known = absurd h
takes_known K tail (k ∷ ks) (t ∷ ts) rest h known = takes_known K tail ks ts rest h.1 (tail t ts known)

-- ---- runs and kinds

pub takes_kinds : (front rest : List Token) → Takes (kinds front) (front ++ rest) rest
takes_kinds [] rest = refl
takes_kinds (t ∷ ts) rest = (refl, takes_kinds ts rest)

pub kinds_taken : (ks : List TokenKind) (here rest : List Token) → Takes ks here rest → ks ≡ kinds (take (length ks) here)
kinds_taken [] here rest h = refl
kinds_taken (k ∷ ks) [] rest h = absurd h
kinds_taken (k ∷ ks) (t ∷ ts) rest h = ap (λ (x : TokenKind). x ∷ ks) (sym h.0) ∙ ap (λ (x : List TokenKind). t.kind ∷ x) (kinds_taken ks ts rest h.1)

pub takes_by_kinds : (ks : List TokenKind) (here rest : List Token) → kinds here ≡ ks ++ kinds rest → drop (length ks) here ≡ rest → Takes ks here rest
takes_by_kinds [] here rest e d = d
takes_by_kinds (k ∷ ks) [] rest e d = absurd cc
takes_by_kinds (k ∷ ks) (t ∷ ts) rest e d =
    let first : t.kind ≡ k = cc in
    let others : kinds ts ≡ ks ++ kinds rest = cc in
    (first, takes_by_kinds ks ts rest others d)

-- behind a token, kinds and one kind more
pub takes_past : (t : Token) (ks : List TokenKind) (k : TokenKind) (ts mid rest : List Token) → Takes ks ts mid → Takes (k ∷ []) mid rest
    → drop (length ks + 2) (t ∷ ts) ≡ rest
takes_past t ks k ts mid rest h c =
    let e : length ks + 2 ≡ suc (length ks + 1) = omega arith in
    ap (λ (n : ℕ). drop n (t ∷ ts)) e ∙ takes_behind 1 ks ts mid h ∙ takes_rest (k ∷ []) mid rest c

pub takes_next : (ks : List TokenKind) (k : TokenKind) (here mid rest : List Token) → Takes ks here mid → Takes (k ∷ []) mid rest → drop (length ks + 1) here ≡ rest
takes_next ks k here mid rest h c = takes_behind 1 ks here mid h ∙ takes_rest (k ∷ []) mid rest c

-- ---- a run that begins with a kind

pub record Begun (k : TokenKind) (ks : List TokenKind) (here rest : List Token) : Type 0 where
  pub token : Token
  pub after : List Token
  pub is : here ≡ token ∷ after
  pub kind : token.kind ≡ k
  pub right : Takes ks after rest

pub begun_at : (k : TokenKind) (ks : List TokenKind) (here rest : List Token) → Takes (k ∷ ks) here rest → Begun k ks here rest
begun_at k ks [] rest h = absurd h
begun_at k ks (t ∷ ts) rest h = record { token = t; after = ts; is = refl; kind = h.0; right = h.1 }

pub one_token : (k : TokenKind) (t : Token) (ts : List Token) → t.kind ≡ k → Takes (k ∷ []) (t ∷ ts) ts
one_token k t ts e = (e, refl)
