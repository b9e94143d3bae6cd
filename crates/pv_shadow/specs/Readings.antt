-- A bridge: what is asked of abstract bytes, and the number or the pointer that they are.
use Rattle.std.specs.Prelude.{ℕ, ◌+◌, ◌<◌, IsSome, IsSomeAnd, ◌≡◌, Bool, true, false, ◌&&◌, ◌==◌, None, Some, List, [], ◌∷◌, Option, if◌then◌else◌}
use Rattle.std.specs.FinMap.{get}
use Rattle.std.specs.Option.{option_map, option_and_then}
use Rattle.pv_prov.specs.declared.names.Prov.{Prov}
use Rattle.pv_prov.specs.Names.{is_empty}
use Rattle.pv_shadow.specs.Bytes.{Store}
use Rattle.pv_shadow.specs.declared.byte.Byte.{Byte}
use Rattle.pv_shadow.specs.Packed.{digit_at, IsNameless}
use Rattle.pv_shadow.specs.Whole.{number_in, whole_name}

-- the memory model: every address from a on, n of them, has a byte
abbrev pub HasBytes : Store → ℕ → ℕ → Type 0
HasBytes m a n = (i : ℕ) → i < n → IsSome (get m (a + i))

-- the memory model: none of these addresses has a byte
abbrev pub HasNone : Store → ℕ → ℕ → Type 0
HasNone m a n = (i : ℕ) → i < n → get m (a + i) ≡ None

-- the memory model: the address and the name of bytes that are a pointer stored whole: they have values, one name, and the indices from 0 in order
abbrev pub pointer_in : List Byte → Option (ℕ × Prov)
pointer_in bytes = option_and_then (λ a. option_map (λ p. (a, p)) (whole_name bytes)) (number_in bytes)

-- the memory model: none of the bytes has a name, so that nothing is exposed by reading them
abbrev pub are_nameless : List Byte → Bool
are_nameless [] = true
are_nameless (b ∷ bs) = is_empty b.prov && are_nameless bs

-- 6.2.6.1p4, the memory model: the number that bytes are, the least significant first, if each has a value and none has a name
abbrev pub nameless_number : List Byte → Option ℕ
nameless_number bytes = if are_nameless bytes then number_in bytes else None

-- 6.2.6.1p4, the memory model: the n bytes from a on have the digits of this number as their values, the least significant first, and none has a name
abbrev pub HasDigits : Store → (a n : ℕ) → ℕ → Type 0
HasDigits m a n k = (j : ℕ) → j < n → IsSomeAnd (get m (a + j)) (IsNameless (digit_at k j))

-- 6.5p6: the mark is that of byte j of a store of this type
abbrev pub has_mark : Option (ℕ × ℕ) → (stored j : ℕ) → Bool
has_mark None t j = false
has_mark (Some m) t j = m.0 == t && m.1 == j

-- 6.5p6: the bytes have the marks of one store of this type, from byte j on
abbrev pub are_marked : List Byte → (stored j : ℕ) → Bool
are_marked [] t j = true
are_marked (b ∷ bs) t j = has_mark b.mark t j && are_marked bs t (j + 1)
