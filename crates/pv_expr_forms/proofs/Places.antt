-- Tokens at places.
use Rattle.std.proofs.Common.{◌≡◌, ◌<◌, ◌+◌, ℕ, zero, suc, true, List, [], ◌∷◌, length, drop, Some, slice_get, refl, sym, ap, ◌∙◌, arith, add-one, drop-cons}
use Rattle.std.proofs.lemmas.Option.{slice_get_within, get_or_from_slice_get}
use Rattle.pv_token.specs.declared.token_table.Token.{Token}
use Rattle.pv_expr_forms.specs.Reader.{texts_in_row}
use Rattle.pv_expr_forms.specs.Parts.{is_text_next}

-- the token that is got at a place begins the tokens from there
pub peeked : (tokens : List Token) (at : ℕ) (t : Token) → slice_get tokens at ≡ Some t → drop at tokens ≡ t ∷ drop (at + 1) tokens
peeked tokens at t e =
    rw add-one (drop-cons tokens at t (slice_get_within tokens at t e) ∙ ap (λ (x : Token). x ∷ drop (suc at) tokens) (get_or_from_slice_get tokens at t t e))

-- behind the first token of those from a place
pub behind_first : (tokens : List Token) (at next : ℕ) (t : Token) (ts : List Token) → drop at tokens ≡ t ∷ ts → next ≡ suc at → (drop next tokens ≡ ts) × (at < length tokens)
behind_first [] zero next t ts e n = absurd cc
behind_first [] (suc at) next t ts e n = absurd cc
behind_first (x ∷ xs) zero next t ts e n = (rw n (cc), omega arith)
behind_first (x ∷ xs) (suc at) next t ts e n = let k = behind_first xs at (suc at) t ts e refl in (rw n k.0, omega (arith, k.1))

text_on : (n : ℕ) (ts rest : List Token) → is_text_next n ts ≡ true → ((t : Token) (others : List Token) → ts ≡ t ∷ others → others ≡ rest) → texts_in_row n ts ≡ suc (texts_in_row (suc n) rest)
text_on n [] rest e h = absurd cc
text_on n (t ∷ ts) rest e h = rw (e, h t ts refl) refl

text_there : (tokens : List Token) (at n : ℕ) (ts : List Token) → drop at tokens ≡ ts → is_text_next n ts ≡ true → at < length tokens
text_there tokens at n [] d e = absurd cc
text_there tokens at n (t ∷ ts) d e = (behind_first tokens at (suc at) t ts d refl).1

-- a string literal more in the row
pub text_more : (tokens : List Token) (at n : ℕ) → is_text_next n (drop at tokens) ≡ true → (at < length tokens) × (texts_in_row n (drop at tokens) ≡ suc (texts_in_row (suc n) (drop (at + 1) tokens)))
text_more tokens at n e =
    (text_there tokens at n (drop at tokens) refl e, text_on n (drop at tokens) (drop (at + 1) tokens) e (λ t others is. sym (behind_first tokens at (at + 1) t others is (omega arith)).0))
