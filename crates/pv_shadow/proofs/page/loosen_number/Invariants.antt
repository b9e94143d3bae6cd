use Rattle.std.proofs.Common.{◌≡◌, ℕ, ◌+◌, ◌<◌, length, get_or, Some}
use Rattle.pv_shadow.specs.Packed.{byte_packed, absent, number_byte}
use Rattle.pv_shadow.proofs.Ranges.{IsOutside}
use Rattle.pv_shadow.proofs.page.loosen_number.Given as goal

-- the places so far have the bytes of the cell, and all others are as they were
abbrev pub invariant-loop-j : goal.invariant-loop-j
invariant-loop-j l = record {
  long : length l.slots ≡ 256;
  bytes : (k : ℕ) → k < l.j → byte_packed (get_or l.slots (l.f + k) absent) ≡ Some (number_byte l.head k);
  single : (k : ℕ) → k < l.j → (get_or l.slots (l.f + k) absent).kind < 48;
  others : (q : ℕ) → IsOutside l.f l.j q → get_or l.slots q absent ≡ get_or l.initial.slots q absent;
}
