-- Texts in a row, and what is told of a case, by its line.
use Rattle.std.proofs.Common.{◌≡◌, ℕ, Bool, true, false, ◌&&◌, List, ◌++◌, refl, sym, ap, ◌∙◌, append_assoc, Vec, Global}
use Rattle.std.specs.Prelude.{if◌then◌else◌}
use Rattle.pv_cases.specs.Suites.{Wanted, Gave, CaseTold, has_line, has_output, differs_at, pass_line, output_line, other_line, told_of}

pub three : (a b c : List ℕ) → a ++ b ++ c ≡ a ++ (b ++ c)
three a b c = append_assoc a b c

pub five : (a b c d e : List ℕ) → a ++ b ++ c ++ d ++ e ≡ a ++ (b ++ (c ++ (d ++ e)))
five a b c d e = simp append_assoc refl

-- the bytes of a text
pub bytes_are : (v w : Vec ℕ Global) (text : List ℕ) → v ≡ w → w.items ≡ text → v.items ≡ text
bytes_are v w text e is = ap (λ (x : Vec ℕ Global). x.items) e ∙ is

abbrev told_by : (n : ℕ) (w : Wanted) (g : Gave) (line output : Bool) → CaseTold
told_by n w g line output = record {
  line = if line then (if output then pass_line n else output_line n (differs_at w.output g.output)) else other_line n g.line;
  passed = line && output;
  clause = g.clause;
}

-- what is told of a case that printed something else
pub output_told : (n : ℕ) (w : Wanted) (g : Gave) (text : List ℕ) → has_line w g ≡ true → has_output w.output g.output ≡ false → text ≡ output_line n (differs_at w.output g.output)
    → ◌≡◌ {A = CaseTold} (record { line = text; passed = false; clause = g.clause }) (told_of n w g)
output_told n w g text line output is = (λ i. record { line = is i; passed = false; clause = g.clause }) ∙ sym (λ i. told_by n w g (line i) (output i))
