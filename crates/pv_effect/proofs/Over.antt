-- Which parts cover a byte: of lists in a row, of moved ones, of elements one after the other.
use Rattle.std.proofs.Common.{◌≡◌, ℕ, zero, suc, ◌+◌, ◌-◌, ◌*◌, ◌%◌, ◌/◌, ◌<◌, ◌≤◌, Bool, true, false, cond, ◌&&◌, ◌||◌, nat_le, nat_lt, List, [], ◌∷◌, ◌++◌, refl, sym, ◌∙◌, ap, arith, ◌⊎◌, inl, inr}
use Rattle.std.proofs.Math.Nat.{div-lt_iff_lt-mul, div-mul-le_self, mod-eq-sub-div-mul, mul-le-mul_left, mul-div-le}
use Rattle.std.proofs.lemmas.Bool.Decides.{nat_tests}
use Rattle.pv_types.specs.Ty.{Ty}
use Rattle.pv_types.specs.Layouts.{Part, Entry, layout_in, shifted_parts, parts_of_elements}
use Rattle.pv_layout.specs.Parts.{leaves}
use Rattle.pv_types.specs.Sorts.{is_scalar}
use Rattle.pv_layout.proofs.PartLaws.{lt_test, ge_test}
use Rattle.pv_effect.specs.EffectiveType.{covers, some_over}

-- every part ends within this many bytes
abbrev pub AreInside : List Entry → ℕ → List Part → Type 0
AreInside env s [] = Unit {0}
AreInside env s (p ∷ ps) = (p.offset + (layout_in env p.t).size ≤ s) × AreInside env s ps

or_assoc : (a b c : Bool) → ((a || b) || c) ≡ (a || (b || c))
or_assoc true b c = refl
or_assoc false b c = refl

pub or_none : (a : Bool) → (a || false) ≡ a
or_none true = refl
or_none false = refl

and_none : (a b : Bool) → ((a && false) && b) ≡ false
and_none true b = refl
and_none false b = refl

pub some_over-append : (env : List Entry) (f : ℕ → Ty → Bool) (b : ℕ) (xs ys : List Part) → some_over env f b (xs ++ ys) ≡ (some_over env f b xs || some_over env f b ys)
some_over-append env f b [] ys = refl
some_over-append env f b (p ∷ xs) ys =
    ap (λ c. (covers env b p && f (b - p.offset) p.t) || c) (some_over-append env f b xs ys)
    ∙ sym (or_assoc (covers env b p && f (b - p.offset) p.t) (some_over env f b xs) (some_over env f b ys))

begins_test : (k o b : ℕ) → k ≤ b → nat_le (k + o) b ≡ nat_le o (b - k)
begins_test k o b h = grind (arith, nat_tests)

ends_test : (k o b s : ℕ) → k ≤ b → nat_lt b (k + o + s) ≡ nat_lt (b - k) (o + s)
ends_test k o b s h = grind (arith, nat_tests)

later_test : (k o b : ℕ) → b < k → nat_le (k + o) b ≡ false
later_test k o b h = grind (arith, nat_tests)

past_test : (s e b : ℕ) → e ≤ s → s ≤ b → nat_lt b e ≡ false
past_test s e b h k = grind (arith, nat_tests)

two_steps : (b k o : ℕ) → b - (k + o) ≡ b - k - o
two_steps b k o = omega arith

pub some_over-shifted : (env : List Entry) (f : ℕ → Ty → Bool) (k b : ℕ) (ps : List Part) → k ≤ b → some_over env f b (shifted_parts k ps) ≡ some_over env f (b - k) ps
some_over-shifted env f k b [] h = refl
some_over-shifted env f k b (p ∷ ps) h =
    rw (begins_test k p.offset b h, ends_test k p.offset b (layout_in env p.t).size h, two_steps b k p.offset, some_over-shifted env f k b ps h) refl

pub some_over-before : (env : List Entry) (f : ℕ → Ty → Bool) (k b : ℕ) (ps : List Part) → b < k → some_over env f b (shifted_parts k ps) ≡ false
some_over-before env f k b [] h = refl
some_over-before env f k b (p ∷ ps) h = rw (later_test k p.offset b h) (some_over-before env f k b ps h)

pub some_over-past : (env : List Entry) (f : ℕ → Ty → Bool) (s b : ℕ) (ps : List Part) → AreInside env s ps → s ≤ b → some_over env f b ps ≡ false
some_over-past env f s b [] i h = refl
some_over-past env f s b (p ∷ ps) i h =
    rw (past_test s (p.offset + (layout_in env p.t).size) b i.0 h, and_none (nat_le p.offset b) (f (b - p.offset) p.t)) (some_over-past env f s b ps i.1 h)

three_ways : (q n : ℕ) → (q < n) ⊎ ((q ≡ n) ⊎ (n < q))
three_ways q n = grind arith

below_step : (b s n : ℕ) → 0 < s → b / s < n → b < n * s
below_step b s n h lt = (div-lt_iff_lt-mul {k = s} {x = b} {y = n} h).0 lt

at_step : (b s n : ℕ) → 0 < s → b / s ≡ n → (n * s ≤ b) × (b - n * s ≡ b % s)
at_step b s n h e = rw (← e) (div-mul-le_self b s, sym (mod-eq-sub-div-mul b s))

above_step : (b s n : ℕ) → 0 < s → n < b / s → (n * s ≤ b) × (s ≤ b - n * s)
above_step b s n h lt =
    let up : s * (n + 1) ≤ s * (b / s) = mul-le-mul_left s (omega arith) in
    let all : s * (b / s) ≤ b = mul-div-le b s in
    (omega (arith, up, all), omega (arith, up, all))

-- the byte lies in the element of its division
pub over_repeated : (env : List Entry) (f : ℕ → Ty → Bool) (s b : ℕ) (ps : List Part) (n : ℕ) → 0 < s → AreInside env s ps
    → some_over env f b (parts_of_elements n s ps) ≡ (nat_lt (b / s) n && some_over env f (b % s) ps)
over_repeated env f s b ps zero h i = rw (ge_test (b / s) 0 (omega arith)) refl
over_repeated env f s b ps (suc n) h i =
    some_over-append env f b (parts_of_elements n s ps) (shifted_parts (n * s) ps)
    ∙ ap (λ c. c || some_over env f b (shifted_parts (n * s) ps)) (over_repeated env f s b ps n h i)
    ∙ elim (three_ways (b / s) n) [
      | inl lt ↦ rw (lt_test (b / s) n lt, lt_test (b / s) (suc n) (omega arith), some_over-before env f (n * s) b ps (below_step b s n h lt)) (or_none (some_over env f (b % s) ps))
      | inr rest ↦ elim rest [
        | inl e ↦ rw (ge_test (b / s) n (omega arith), lt_test (b / s) (suc n) (omega arith), some_over-shifted env f (n * s) b ps (at_step b s n h e).0, (at_step b s n h e).1) refl
        | inr gt ↦ rw (ge_test (b / s) n (omega arith), ge_test (b / s) (suc n) (omega arith), some_over-shifted env f (n * s) b ps (above_step b s n h gt).0) (some_over-past env f s (b - n * s) ps i (above_step b s n h gt).1)
      ]
    ]

leaves_step : (b here there : Bool) (env : List Entry) (g : ℕ → Ty → Bool) (o : ℕ) (p : Part) (ps : List Part) → covers env o p ≡ here → some_over env g o (leaves ps) ≡ there
    → some_over env g o (cond b (p ∷ leaves ps) (leaves ps)) ≡ (here && (b && g (o - p.offset) p.t) || there)
leaves_step true here there env g o p ps e f = rw (e, f) refl
leaves_step false true there env g o p ps e f = f
leaves_step false false there env g o p ps e f = f

-- a scalar part passes where a part passes that is a scalar
pub over_leaves : (env : List Entry) (g : ℕ → Ty → Bool) (o : ℕ) (ps : List Part) → some_over env g o (leaves ps) ≡ some_over env (λ j t. is_scalar t && g j t) o ps
over_leaves env g o [] = refl
over_leaves env g o (p ∷ ps) = leaves_step (is_scalar p.t) (covers env o p) (some_over env (λ j t. is_scalar t && g j t) o ps) env g o p ps refl (over_leaves env g o ps)
