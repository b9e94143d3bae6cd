-- Words of a line.
use Rattle.std.proofs.Common.{◌≡◌, ℕ, zero, suc, ◌<◌, Bool, true, false, ◌&&◌, List, [], ◌∷◌, refl, arith}
use Rattle.std.specs.Prelude.{nat_le}
use Rattle.std.specs.List.{list_all}
use Rattle.std.specs.Str.{IsAscii, IsUtf8}
use Rattle.std.proofs.lemmas.Bool.Decides.{nat_tests}
use Rattle.std.proofs.lemmas.Str.{IsUtf8-from_ascii}
use Rattle.pv_cases.specs.Cases.{is_word}

halves : (a b : Bool) → (a && b) ≡ true → (a ≡ true) × (b ≡ true)
halves true b h = (refl, h)
halves false b h = absurd cc

low : (b : ℕ) → (nat_le 33 b && nat_le b 126) ≡ true → b < 128
low b h = let upper = (halves (nat_le 33 b) (nat_le b 126) h).1 in grind (arith, nat_tests)

plain_ascii : (bs : List ℕ) → list_all (λ b. nat_le 33 b && nat_le b 126) bs ≡ true → IsAscii bs
plain_ascii [] h i = omega arith
plain_ascii (b ∷ bs) h zero = low b (halves (nat_le 33 b && nat_le b 126) (list_all (λ c. nat_le 33 c && nat_le c 126) bs) h).0
plain_ascii (b ∷ bs) h (suc i) = plain_ascii bs (halves (nat_le 33 b && nat_le b 126) (list_all (λ c. nat_le 33 c && nat_le c 126) bs) h).1 i

-- a word is a text
pub word_utf8 : (bs : List ℕ) → is_word bs ≡ true → IsUtf8 bs
word_utf8 bs h = IsUtf8-from_ascii bs (plain_ascii bs (halves _ _ h).1)
