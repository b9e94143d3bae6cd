-- A bridge: texts by number, with one more.
use Rattle.std.specs.Prelude.{ℕ, List, [], ◌∷◌, ◌++◌, if◌then◌else◌, nat_eq, ◌≡◌, ◌<◌, ◌^◌, length}
use Rattle.std.specs.List.{list_any}
use Rattle.std.specs.Cmp.Lexicographic.{pointwise}
use Rattle.pv_script.specs.Names.{name_at}

-- a text that is new goes behind the others; two texts are equal where all bytes are the same (C17 6.4.2.1p6)
abbrev pub with_text : List (List ℕ) → List ℕ → List (List ℕ)
with_text names text = if list_any (pointwise nat_eq text) names then names else names ++ (text ∷ [])

-- no text has two numbers, so that one identifier has one (C17 6.4.2.1p6), and a number fits 32 bits
pub record AreNames (names : List (List ℕ)) : Type 0 where
  pub distinct : (i j : ℕ) → i < length names → j < length names → name_at names i ≡ name_at names j → i ≡ j
  pub few : length names < 2 ^ 32
