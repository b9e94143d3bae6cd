-- Words at the front of a text.
use Rattle.std.proofs.Common.{◌≡◌, ℕ, ◌<◌, Bool, true, false, List, [], ◌∷◌, length, get_or, refl, arith}
use Rattle.pv_lex.specs.Bytes.{is_white, is_letter}
use Rattle.pv_lex.specs.Words.{word_at}
use Rattle.pv_lex.specs.Stands.{stands}
use Rattle.pv_lex.proofs.Taking.{pick, pass}

pub stands_word : (text : List ℕ) → 0 < length text → is_white (get_or text 0 0) ≡ false → is_letter (get_or text 0 0) ≡ true → (fresh : Bool) → stands fresh text ≡ word_at text
unfolding stands
stands_word [] some white letter fresh = absurd (omega (arith, some))
stands_word (b ∷ bs) some white letter fresh = pass (is_white b) _ _ _ white (pick (is_letter b) (word_at (b ∷ bs)) _ _ letter refl)
