-- Words `const` in a row, by places.
use Rattle.std.proofs.Common.{◌≡◌, ◌<◌, ◌+◌, ℕ, suc, true, List, [], ◌∷◌, length, drop, refl, sym, arith}
use Rattle.pv_token.specs.declared.token_table.Token.{Token}
use Rattle.pv_expr_forms.proofs.Places.{behind_first}
use Rattle.pv_decl_forms.specs.Declarators.{consts_in_row}
use Rattle.pv_decl_forms.specs.Parts.{is_const_next}

const_on : (ts rest : List Token) → is_const_next ts ≡ true → ((t : Token) (others : List Token) → ts ≡ t ∷ others → others ≡ rest) → consts_in_row ts ≡ suc (consts_in_row rest)
const_on [] rest e h = absurd cc
const_on (t ∷ ts) rest e h = rw (e, h t ts refl) refl

const_there : (tokens : List Token) (at : ℕ) (ts : List Token) → drop at tokens ≡ ts → is_const_next ts ≡ true → at < length tokens
const_there tokens at [] d e = absurd cc
const_there tokens at (t ∷ ts) d e = (behind_first tokens at (suc at) t ts d refl).1

-- one more
pub const_more : (tokens : List Token) (at : ℕ) → is_const_next (drop at tokens) ≡ true → (at < length tokens) × (consts_in_row (drop at tokens) ≡ suc (consts_in_row (drop (at + 1) tokens)))
const_more tokens at e =
    (const_there tokens at (drop at tokens) refl e, const_on (drop at tokens) (drop (at + 1) tokens) e (λ t others is. sym (behind_first tokens at (at + 1) t others is (omega arith)).0))
