-- Texts in a row, grouped to the right.
use Rattle.std.proofs.Common.{◌≡◌, ℕ, List, ◌++◌, refl, ap, ◌∙◌, append_assoc}

pub five : (a b c d e : List ℕ) → a ++ b ++ c ++ d ++ e ≡ a ++ (b ++ (c ++ (d ++ e)))
five a b c d e = simp append_assoc refl

-- a text, and behind it the five of a line and the turns
pub six : (a b c d e f : List ℕ) → a ++ (b ++ c ++ d ++ e ++ f) ≡ a ++ (b ++ (c ++ (d ++ (e ++ f))))
six a b c d e f = ap (λ (x : List ℕ). a ++ x) (five b c d e f)

pub nine : (a b c d e f g h i : List ℕ) → a ++ b ++ c ++ d ++ (e ++ f ++ g ++ h ++ i) ≡ a ++ (b ++ (c ++ (d ++ (e ++ (f ++ (g ++ (h ++ i)))))))
nine a b c d e f g h i = simp append_assoc refl

-- a text, a name behind it, and another text
pub placed : (text one rest two a r b n k kk l ll t ts f : List ℕ) → text ≡ a ++ (r ++ b) → one ≡ text ++ n → rest ≡ k ++ (kk ++ (l ++ (ll ++ (t ++ (ts ++ f))))) → two ≡ one ++ rest
    → two ≡ a ++ r ++ b ++ n ++ k ++ kk ++ (l ++ ll ++ t ++ ts ++ f)
placed text one rest two a r b n k kk l ll t ts f begins named ends whole =
    whole ∙ ap (λ (x : List ℕ). x ++ rest) (named ∙ ap (λ (x : List ℕ). x ++ n) begins) ∙ ap (λ (x : List ℕ). ((a ++ (r ++ b)) ++ n) ++ x) ends ∙ simp append_assoc refl
