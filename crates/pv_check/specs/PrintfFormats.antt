-- The formats of `printf` (7.21.6.1), and its name.
use Rattle.std.specs.Prelude.{ℕ, Bool, true, false, ◌==◌, ◌&&◌, ◌||◌, if◌then◌else◌, List, [], ◌∷◌, codes, nat_eq, slice_index_or}
use Rattle.std.specs.Cmp.Lexicographic.{pointwise}

-- 7.21.6.1p8: `d`, `u` or `x`: the bytes of the conversions of integers that the profile has
abbrev pub is_number_conversion : ℕ → Bool
is_number_conversion c = (c == 100) || ((c == 117) || (c == 120))

-- 7.21.6.1p8: `c`, `s`, `p` or `%`
abbrev pub is_other_conversion : ℕ → Bool
is_other_conversion c = (c == 99) || ((c == 115) || ((c == 112) || (c == 37)))

-- 7.21.6.1p3: every `%` begins one of %d %u %x %c %s %p %ld %lu %lx %%
-- worked: format_argument_rows, conversion_rows (proofs/FormatExamples)
abbrev mutual
  pub is_format : List ℕ → Bool
  is_format [] = true
  is_format (c ∷ cs) = if c == 37 then is_conversion cs else is_format cs

  pub is_conversion : List ℕ → Bool
  is_conversion [] = false
  is_conversion (c ∷ cs) = if c == 108 then is_long_conversion cs else (is_number_conversion c || is_other_conversion c) && is_format cs

  pub is_long_conversion : List ℕ → Bool
  is_long_conversion [] = false
  is_long_conversion (c ∷ cs) = is_number_conversion c && is_format cs

-- 7.21.6.3p1: the name is `printf`
abbrev pub is_printf : List (List ℕ) → ℕ → Bool
is_printf texts n = pointwise nat_eq (slice_index_or texts n []) (codes "printf")
