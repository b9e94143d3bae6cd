-- The two characters with which a text begins.
use Rattle.std.proofs.Common.{◌≡◌, ℕ, ◌<◌, ◌≤◌, Bool, true, false, ◌&&◌, List, [], ◌∷◌, length, get_or, nat_eq, refl, ap, ◌∙◌, arith}
use Rattle.std.specs.List.{starts_with}
use Rattle.std.proofs.lemmas.Bool.Decides.{nat_tests}

turned : (a b : ℕ) → nat_eq a b ≡ nat_eq b a
turned a b = grind (arith, nat_tests)

never : (t : Bool) → t && false ≡ false
never true = refl
never false = refl

alone : (t : Bool) → t && true ≡ t
alone true = refl
alone false = refl

-- the first one is another
pub pair_first : (text : List ℕ) (a b : ℕ) → nat_eq (get_or text 0 0) a ≡ false → starts_with nat_eq text (a ∷ b ∷ []) ≡ false
pair_first [] a b h = refl
pair_first (x ∷ []) a b h = never (nat_eq a x)
pair_first (x ∷ y ∷ ys) a b h = ap (λ t. t && (nat_eq b y && true)) (turned a x ∙ h)

-- there is no second one
pub pair_short : (text : List ℕ) (a b : ℕ) → length text ≤ 1 → starts_with nat_eq text (a ∷ b ∷ []) ≡ false
pair_short [] a b h = refl
pair_short (x ∷ []) a b h = never (nat_eq a x)
pair_short (x ∷ y ∷ ys) a b h = absurd (omega (arith, h))

-- the first one is the same
pub pair_second : (text : List ℕ) (a b : ℕ) → nat_eq (get_or text 0 0) a ≡ true → 1 < length text → starts_with nat_eq text (a ∷ b ∷ []) ≡ nat_eq (get_or text 1 0) b
pair_second [] a b h lt = absurd (omega (arith, lt))
pair_second (x ∷ []) a b h lt = absurd (omega (arith, lt))
pair_second (x ∷ y ∷ ys) a b h lt = ap (λ t. t && (nat_eq b y && true)) (turned a x ∙ h) ∙ alone (nat_eq b y) ∙ turned b y
