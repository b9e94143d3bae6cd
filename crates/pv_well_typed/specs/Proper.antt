-- Types as declarations make them (C17 6.2.5, 6.7.3, 6.7.6): what holds of the type of every expression.
use Rattle.std.specs.Prelude.{◌≡◌, ◌≤◌, ◌*◌, ◌^◌, ℕ, true, false, Option, Some, None}
use Rattle.pv_types.specs.Ty.{Ty, VoidTy, IntTy, PointerTo, ArrayOf, StructTag, UnionTag, FunctionTy, ConstOf}
use Rattle.pv_types.specs.Known.{heading_at}
use Rattle.pv_types.specs.Layouts.{layout_in, is_complete_in}
use Rattle.pv_typed.specs.TypedUnits.{WholeUnit, layouts}
use Rattle.pv_guards.specs.Typed.{AreFixed}

-- 6.3.2.1p2, 6.3.2.2: a type that an expression has which is no lvalue: that of a value, without qualifiers, or `void`. Around
-- these alone a `const` stands (6.7.3p9)
abbrev pub IsValueOrVoid : Ty → Type 0
IsValueOrVoid VoidTy = Unit {0}
IsValueOrVoid (IntTy k) = Unit {0}
IsValueOrVoid (PointerTo t) = Unit {0}
IsValueOrVoid (StructTag n) = Unit {0}
IsValueOrVoid (UnionTag n) = Unit {0}
IsValueOrVoid _ = ⊥

-- 6.7.6.2p1, 5.2.4.1p1: an array of so many elements takes at most 2 ^ 32 bytes
abbrev pub IsSmallArray : WholeUnit → Ty → Option ℕ → Type 0
IsSmallArray v t None = Unit {0}
IsSmallArray v t (Some n) = n * (layout_in (layouts v) t).size ≤ 2 ^ 32

-- 6.7.2.3p2: a tag stands behind the one word that it was declared with; 6.7.6.2p1: an array's elements are of a complete type; 6.7.6.3p1,
-- p5: a function returns neither an array nor a function, and its result has no qualifier; 6.5.2.2p9: a type has `...` where no function
-- that the unit defines has one; 6.7.3p5, p9: `const` stands once, and of an array in its elements' type
abbrev pub IsProper : WholeUnit → Ty → Type 0
IsProper v VoidTy = Unit {0}
IsProper v (IntTy k) = Unit {0}
IsProper v (PointerTo t) = IsProper v t
IsProper v (ArrayOf t n) = IsProper v t × (is_complete_in (layouts v) t ≡ true) × IsSmallArray v t n
IsProper v (StructTag n) = (heading_at v.headings n).union ≡ false
IsProper v (UnionTag n) = (heading_at v.headings n).union ≡ true
IsProper v (FunctionTy t ts variadic) = IsValueOrVoid t × IsProper v t × (variadic ≡ true → AreFixed v)
IsProper v (ConstOf t) = IsValueOrVoid t × IsProper v t
