-- Which names the instances of a run have: those of the objects and functions of its unit (C17 6.2.1), of string literals (6.4.5p6) and of
-- allocations (7.22.3).
use Rattle.std.specs.Prelude.{◌≡◌, ◌<◌, ℕ, true, List, length, codes}
use Rattle.pv_script.specs.Words.{is_name}
use Rattle.pv_script.specs.Names.{name_at as text_of}
use Rattle.pv_typed.specs.Known.{Each}
use Rattle.pv_typed.specs.TypedUnits.{WholeUnit, TypedObject, TypedFunction}

-- the number is that of a text, and that is a name which instances may have (6.2.1, 6.4.5p6, 7.22.3)
abbrev pub IsNamed : List (List ℕ) → ℕ → Type 0
IsNamed names n = (n < length names) × (is_name (text_of names n) ≡ true)

-- 6.4.2.1p6: no text has two numbers
pub record AreDistinct (names : List (List ℕ)) : Type 0 where
  pub distinct : (i j : ℕ) → i < length names → j < length names → text_of names i ≡ text_of names j → i ≡ j

-- 6.2.1: no text has two numbers, the first two are the names that no source has, and each object and each function has a name
pub record HasNames (u : WholeUnit) : Type 0 where
  pub distinct : AreDistinct u.names
  pub two : 1 < length u.names
  pub literal : text_of u.names 0 ≡ codes "@lit"
  pub heap : text_of u.names 1 ≡ codes "@heap"
  pub objects : Each (λ (x : TypedObject). IsNamed u.names x.name) u.objects
  pub functions : Each (λ (x : TypedFunction). IsNamed u.names x.name) u.functions
