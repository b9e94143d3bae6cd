-- A bridge: what the index knows of the first accesses in a list: a narrow one is found at each of its bytes, a wide one by its number.
use Rattle.std.specs.Prelude.{◌≡◌, ℕ, ◌<◌, ◌≤◌, true, false, Bool, ◌&&◌, nat_lt, nat_le, List, length, get_or}
use Rattle.pv_seq.specs.Sequencing.{Access, clash}
use Rattle.pv_seq.specs.Marks.{AllMarked}
use Rattle.pv_seq.specs.declared.index.Index.{Index}

-- an access of no more bytes than a number has, and not near the last address
abbrev pub is_narrow : Access → Bool
is_narrow a = nat_le a.length 16 && nat_lt a.place 9223372036854775808

-- what stands for an access where a list has none
abbrev pub no_access : Access
no_access = record { place = 0; length = 0; writes = false }

-- the number of an access stands in a list
abbrev pub Stands : List ℕ → ℕ → Type 0
Stands numbers n = (i : ℕ) × (i < length numbers) × (get_or numbers i 0 ≡ n)

-- the index has the access of number n, a read or a modification: a narrow write among the writes, a narrow read among the reads,
-- and a wide one by its number
abbrev pub IsFound : Index → Access → ℕ → Type 0
IsFound x a n = (is_narrow a ≡ true → a.writes ≡ true → AllMarked x.writes a.place a.length n) × (is_narrow a ≡ true → a.writes ≡ false → AllMarked x.reads a.place a.length n)
    × (is_narrow a ≡ false → Stands x.wide.items n)

-- so it is with the first accesses of a list, as many as the index knows
abbrev pub AreFound : Index → List Access → Type 0
AreFound x accesses = (x.known ≤ length accesses) × ((n : ℕ) → n < x.known → IsFound x (get_or accesses n no_access) n)

-- none of the accesses with numbers from `start` to before `end` conflicts (6.5p2)
abbrev pub NoneClash : Access → List Access → (start end : ℕ) → Type 0
NoneClash a accesses start end = (n : ℕ) → start ≤ n → n < end → clash a (get_or accesses n no_access) ≡ false
