-- Through which types an object may be accessed (C17 6.5p6, 6.5p7). A copy, by `memcpy` or by assignment, takes the marks of its bytes
-- along: pv_object/specs/Copying.
use Rattle.std.specs.Prelude.{ℕ, suc, ◌+◌, ◌-◌, Bool, true, false, not, ◌&&◌, ◌||◌, ◌==◌, nat_le, nat_lt, if◌then◌else◌, Some, None, List, [], ◌∷◌, length}
use Rattle.std.specs.declared.option.Option.{Option}
use Rattle.pv_types.specs.Ty.{Ty}
use Rattle.pv_types.specs.Sorts.{is_character, is_composite, bare_type}
use Rattle.pv_types.specs.SameTypes.{same_type}
use Rattle.pv_types.specs.Layouts.{Part, Entry, layout_in}
use Rattle.pv_types.specs.Known.{Known, tree, env}
use Rattle.pv_layout.specs.Parts.{some_at, leaves, agrees, suits, are_counterparts}

-- 6.5p7: at this offset of a declared object, whose type has these parts, the type may be accessed. A structure or union
-- asks for a part that is one; a scalar for a scalar part; an array, through which nothing is accessed (6.3.2.1p3), finds none
abbrev pub permits_declared : List Part → ℕ → Ty → Bool
permits_declared parts o want =
    if is_character want then true
    else if is_composite want then some_at (suits want) o parts
    else some_at (agrees want) o (leaves parts)

-- 6.5p7: qualifiers aside, the type or its signed or unsigned counterpart (6.2.5p6)
abbrev pub same_or_counterpart : Ty → Ty → Bool
same_or_counterpart t u = same_type (bare_type t) (bare_type u) || are_counterparts (bare_type t) (bare_type u)

-- 6.5p6: a byte of an object without a declared type is marked by its last store: the number of the type that was stored, and
-- which of that type's bytes it is. 6.5p7: a scalar of type t accepts the mark on its byte j where that byte of the type was
-- stored; a character accepts every mark. A number of no type is accepted by characters alone
abbrev pub accepts : Known → ℕ × ℕ → ℕ → Ty → Bool
accepts m (u, k) j t = is_character t || (nat_lt u (length m.terms) && ((k == j) && same_or_counterpart t (tree m u)))

-- every mark, and none: with it `some_over` tells whether a byte lies in any scalar, or is padding (6.2.6.1p6)
abbrev pub anything : ℕ → Ty → Bool
anything j t = true

-- a part covers as many bytes as its type has (6.2.6.1p2), from where it begins on
abbrev pub covers : List Entry → ℕ → Part → Bool
covers env b p = nat_le p.offset b && nat_lt b (p.offset + (layout_in env p.t).size)

-- 6.5p7: some part covers the byte, and passes with the number that the byte has in it
abbrev pub some_over : List Entry → (ℕ → Ty → Bool) → ℕ → List Part → Bool
some_over env f b [] = false
some_over env f b (p ∷ ps) = (covers env b p && f (b - p.offset) p.t) || some_over env f b ps

-- 6.5p7: a byte may be read as one of an object with these scalar parts where it has no mark, where it lies in none of them
-- (6.2.6.1p6: padding), or where one that it lies in accepts the mark
abbrev pub permits_byte : Known → List Part → ℕ → Option (ℕ × ℕ) → Bool
permits_byte m scalars b None = true
permits_byte m scalars b (Some mark) = some_over (env m) (accepts m mark) b scalars || not (some_over (env m) anything b scalars)

-- 6.5p7: each of the bytes in a row, from byte b on, may be read as one of an object with these scalar parts
abbrev pub permits_bytes : Known → List Part → ℕ → List (Option (ℕ × ℕ)) → Bool
permits_bytes m scalars b [] = true
permits_bytes m scalars b (x ∷ xs) = permits_byte m scalars b x && permits_bytes m scalars (suc b) xs

-- 6.5p6, 6.5p7: an object without a declared type, whose bytes have these marks, may be read at the type that has these parts; a scalar
-- is its own one scalar part
abbrev pub permits_marks : Known → List Part → List (Option (ℕ × ℕ)) → Bool
permits_marks m parts marks = permits_bytes m (leaves parts) 0 marks
