-- The difference of two pointers into one instance is a `long` (C17 6.5.6p9).
use Rattle.std.proofs.Common.{◌≡◌, ℕ, ◌<◌, ◌≤◌, ◌^◌, ℤ, pos, ◌-ℤ◌, Bool, true, false, cond, Some, None, subst, arith, int_eq, FitsSigned, w64}
use Rattle.std.specs.Prelude.{int_div, int_rem, ◌<ℤ◌}
use Rattle.std.proofs.lemmas.Int.{ints, quot_fits}
use Rattle.std.proofs.lemmas.Option.{none-some}
use Rattle.pv_num.specs.declared.kinds.IntKind.TheVariants.{Long}
use Rattle.pv_num.specs.Kinds.{Fits}
use Rattle.pv_world.specs.Pointers.{in_elements}

some-if : (c : Bool) (m n : ℤ) → cond c (Some m) None ≡ Some n → m ≡ n
some-if true m n e = cc
some-if false m n e = absurd (none-some n e)

long-fits : (n : ℤ) → FitsSigned w64 n → Fits Long n
long-fits n h = grind (arith, ints)

signed-fits : (a c : ℕ) → a < 2 ^ 48 → c < 2 ^ 48 → FitsSigned w64 (pos a -ℤ pos c)
signed-fits a c l h = grind (arith, ints)

positive : (size : ℕ) → 1 ≤ size → pos 0 <ℤ pos size
positive size h = grind (arith, ints)

pub difference-fits : (a c size : ℕ) (n : ℤ) → a < 2 ^ 48 → c < 2 ^ 48 → 1 ≤ size → in_elements (pos a -ℤ pos c) size ≡ Some n → Fits Long n
difference-fits a c size n l h some e =
    let d = pos a -ℤ pos c in
    let q = some-if (int_eq (int_rem d (pos size)) (pos 0)) (int_div d (pos size)) n e in
    long-fits n (subst (λ z. FitsSigned w64 z) q (quot_fits w64 d (pos size) (signed-fits a c l h) (positive size some)))
