-- Where the tokens of a source begin.
use Rattle.std.proofs.Common.{◌≡◌, ℕ, zero, suc, ◌+◌, ◌-◌, ◌≤◌, Bool, true, false, List, [], ◌∷◌, ◌++◌, length, map, drop, sym, ap, ◌∙◌, arith}
use Rattle.std.specs.Prelude.{Option, Some, None, option_map, slice_get, if◌then◌else◌}
use Rattle.std.proofs.lemmas.List.{drop_more}
use Rattle.std.proofs.lemmas.Option.{get_or_from_slice_get, slice_get_within}
use Rattle.pv_token.specs.declared.token_table.Token.{Token}
use Rattle.pv_token.specs.Said.{Said, Spelt}
use Rattle.pv_token.specs.Table.{Table, says, spelt_of}
use Rattle.pv_lex.specs.Pieces.{What, White, Comment, Marker, Spelling, Piece}
use Rattle.pv_lex.specs.Rows.{Place, behind_piece, spelt_here, tokens_among}
use Rattle.pv_lex.specs.Lexes.{Lexes}
use Rattle.pvwhere.specs.Places.{start_of, is_named, first_named}

-- ---- a token of the table

drop_here : (ts : List Token) (i : ℕ) (t : Token) → slice_get ts i ≡ Some t → drop i ts ≡ t ∷ drop (i + 1) ts
drop_here ts i t e = drop_more ts i t (slice_get_within ts i t e) ∙ ap (λ (x : Token). x ∷ drop (i + 1) ts) (get_or_from_slice_get ts i t t e)

pub start_here : (end : ℕ) (ts : List Token) (i : ℕ) (t : Token) → slice_get ts i ≡ Some t → t.start ≡ start_of end (drop i ts)
start_here end ts i t e = sym (ap (start_of end) (drop_here ts i t e))

module _ (end : ℕ) (names : List (List ℕ)) (text : List ℕ) (ts : List Token) (i : ℕ) (t : Token) (at : slice_get ts i ≡ Some t) where
  one_here : (b : Bool) → is_named names text t.kind ≡ b
      → first_named end names text (drop i ts) ≡ (if b then t.start else first_named end names text (drop (i + 1) ts))
  one_here b e =
      ap (first_named end names text) (drop_here ts i t at)
      ∙ ap (λ (c : Bool). if c then t.start else first_named end names text (drop (i + 1) ts)) e

  -- the name stands here
  pub name_here : first_named end names text (drop i ts) ≡ first_named end names text ts → is_named names text t.kind ≡ true → t.start ≡ first_named end names text ts
  name_here same e = sym (one_here true e) ∙ same

  -- it is looked for behind
  pub name_behind : first_named end names text (drop i ts) ≡ first_named end names text ts → is_named names text t.kind ≡ false
      → first_named end names text (drop (i + 1) ts) ≡ first_named end names text ts
  name_behind same e = sym (one_here false e) ∙ same

-- ---- no token begins beyond the end

abbrev Within : (end : ℕ) → List Spelt → Type 0
Within end [] = Unit {0}
Within end (s ∷ ss) = (s.start ≤ end) × Within end ss

here_within : (end start line : ℕ) (w : What) (ss : List Spelt) → start ≤ end → Within end ss → Within end (spelt_here start line w ++ ss)
here_within end start line (White b) ss le h = h
here_within end start line (Comment n) ss le h = h
here_within end start line (Marker n) ss le h = h
here_within end start line (Spelling s) ss le h = (le, h)

spelt_within : (whole : ℕ) (p : Place) (xs : List Piece) → Within whole (tokens_among whole p xs)
spelt_within whole p [] = tt
spelt_within whole p (x ∷ xs) =
    here_within whole (whole - length p.text) p.line x.what (tokens_among whole (behind_piece x p) xs) (omega arith) (spelt_within whole (behind_piece x p) xs)

abbrev pub BeginWithin : (end : ℕ) → List Token → Type 0
BeginWithin end [] = Unit {0}
BeginWithin end (t ∷ ts) = (t.start ≤ end) × BeginWithin end ts

some_start : (o : Option Said) (start line : ℕ) (s : Spelt) → option_map (λ x. record { said = x; start = start; line = line }) o ≡ Some s → start ≡ s.start
some_start None start line s e = absurd cc
some_start (Some x) start line s e = let y : Spelt = record { said = x; start = start; line = line } in let same : y ≡ s = cc in ap (λ (z : Spelt). z.start) same

told_within : (end : ℕ) (names texts : List (List ℕ)) (ts : List Token) (ss : List Spelt) → map (spelt_of names texts) ts ≡ map Some ss → Within end ss → BeginWithin end ts
told_within end names texts [] ss e h = tt
told_within end names texts (t ∷ ts) [] e h = absurd cc
told_within end names texts (t ∷ ts) (s ∷ ss) e h =
    let one : spelt_of names texts t ≡ Some s = cc in
    let others : map (spelt_of names texts) ts ≡ map Some ss = cc in
    let start = some_start (says names texts t.kind) t.start t.line s one in
    (omega (arith, start, h.0), told_within end names texts ts ss others h.1)

pub lexed_within : (source : List ℕ) (t : Table) → Lexes source t → BeginWithin (length source) t.tokens
lexed_within source t l =
    told_within (length source) t.names t.texts t.tokens (tokens_among (length source) (record { text = source; line = 1; fresh = true }) l.pieces) l.tells.tokens
    (spelt_within (length source) (record { text = source; line = 1; fresh = true }) l.pieces)

pub start_within : (end : ℕ) (ts : List Token) (i : ℕ) → BeginWithin end ts → start_of end (drop i ts) ≤ end
start_within end [] zero h = omega arith
start_within end [] (suc i) h = omega arith
start_within end (t ∷ ts) zero h = h.0
start_within end (t ∷ ts) (suc i) h = start_within end ts i h.1

either_within : (b : Bool) (end x y : ℕ) → x ≤ end → y ≤ end → (if b then x else y) ≤ end
either_within true end x y p q = p
either_within false end x y p q = q

pub named_within : (end : ℕ) (names : List (List ℕ)) (text : List ℕ) (ts : List Token) → BeginWithin end ts → first_named end names text ts ≤ end
named_within end names text [] h = omega arith
named_within end names text (t ∷ ts) h = either_within (is_named names text t.kind) end t.start (first_named end names text ts) h.0 (named_within end names text ts h.1)
