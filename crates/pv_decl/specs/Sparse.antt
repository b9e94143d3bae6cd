-- A bridge: what is found at places (6.7.7, 6.7.6.3), by its number, where at most of them nothing is.
use Rattle.std.specs.Prelude.{ℕ, zero, suc, ◌≤◌, List, [], ◌∷◌, length, Option, None, slice_get}

-- what a number stands for: none for 0, else the value before it
abbrev pub found_in : {T : Type 0} (values : List T) → ℕ → Option T
found_in values zero = None
found_in values (suc i) = slice_get values i

-- each of these numbers is of the values, or of nothing
abbrev pub AreFound : {T : Type 0} (values : List T) → List ℕ → Type 0
AreFound values [] = Unit {0}
AreFound values (n ∷ ns) = (n ≤ length values) × AreFound values ns
