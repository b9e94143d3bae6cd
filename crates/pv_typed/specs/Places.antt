-- A bridge: addresses whose place is there, numbers that a constant may be, and a unit with more types completed.
use Rattle.std.specs.Prelude.{◌<◌, length, ◌^◌, ℤ, pos, neg_ℤ, ◌≤ℤ◌, ◌≡◌, ℕ, ◌≤◌, true, Some, ◌-◌}
use Rattle.pv_types.specs.Ty.{Ty}
use Rattle.pv_typed.specs.declared.values.Const.{Const}
use Rattle.pv_typed.specs.declared.values.Const.TheVariants as const
use Rattle.pv_typed.specs.TypedTree.{Function, Address}
use Rattle.pv_typed.specs.Tables.{Stored}
use Rattle.pv_typed.specs.TypedUnits.{WholeUnit, object_at, literal_at}
use Rattle.pv_typed.specs.Addresses.{size_in}
use Rattle.pv_typed.specs.AddressParts.{or_zero}

-- an object (6.2.4), a function (6.9.1) or a literal (6.4.5p6) that is there
abbrev pub IsPlace : Stored → Const → Type 0
IsPlace s (const.Address o offset) = o < length s.objects
IsPlace s (const.Function f) = f < length s.functions
IsPlace s (const.Literal l offset) = l < length s.literals
IsPlace s _ = Unit {0}

-- 6.5.6p8: what an address may be moved by: more than any object or literal has bytes
abbrev pub IsDistance : ℤ → Type 0
IsDistance n = (neg_ℤ (pos (2 ^ 97)) ≤ℤ n) × (n ≤ℤ pos (2 ^ 97))

-- 6.2.5p22, 6.2.7p3: v has what u has, where more types are complete, and more objects and literals may be there
pub record Completes (u v : WholeUnit) : Type 0 where
  pub lasting : (o : ℕ) → (object_at u o).lasting ≡ true → (object_at v o).lasting ≡ true
  pub bounds : (o : ℕ) → or_zero (size_in u (object_at u o).t) ≤ or_zero (size_in v (object_at v o).t)
  pub literals : (l : ℕ) → length (literal_at u l).bytes ≤ length (literal_at v l).bytes
  pub sizes : (t : Ty) (n : ℕ) → size_in u t ≡ Some n → size_in v t ≡ Some n

-- 6.2.5p17: a number that some integer kind has
abbrev pub IsNumber : ℤ → Type 0
IsNumber n = (neg_ℤ (pos (2 ^ 63)) ≤ℤ n) × (n ≤ℤ pos (2 ^ 64 - 1))
