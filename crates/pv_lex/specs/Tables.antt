-- Looking up spellings in a table: a list of a spelling and what it stands for.
use Rattle.std.specs.Prelude.{ℕ, List, [], ◌∷◌, Option, Some, None, cond, nat_eq}
use Rattle.std.specs.List.{starts_with}
use Rattle.std.specs.Cmp.Lexicographic.{pointwise}

-- The first row whose spelling stands at the front of the text. In a table whose longer spellings come first it is the longest (6.4p4).
abbrev pub first_row : {A : Type 0} → List (List ℕ × A) → List ℕ → Option (List ℕ × A)
first_row [] text = None
first_row (row ∷ rows) text = cond (starts_with nat_eq text row.0) (Some row) (first_row rows text)

-- What the row whose spelling is the whole text stands for (6.4.1p2: a keyword is the whole word).
abbrev pub row_of : {A : Type 0} → List (List ℕ × A) → List ℕ → Option A
row_of [] text = None
row_of (row ∷ rows) text = cond (pointwise nat_eq text row.0) (Some row.1) (row_of rows text)
