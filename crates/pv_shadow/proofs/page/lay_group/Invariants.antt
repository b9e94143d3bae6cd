use Rattle.std.proofs.Common.{◌≡◌, ℕ, ◌+◌, ◌<◌, length, get_or}
use Rattle.pv_shadow.specs.Packed.{absent}
use Rattle.pv_shadow.proofs.Ranges.{IsOutside}
use Rattle.pv_shadow.proofs.page.lay_group.Given as goal

-- the places so far have theirs, and all others are as they were
abbrev pub invariant-loop-k : goal.invariant-loop-k
invariant-loop-k l = record {
  long : length l.slots ≡ 256;
  done : (j : ℕ) → j < l.k → get_or l.slots (l.g + j) absent ≡ get_or l.group j absent;
  others : (q : ℕ) → IsOutside l.g l.k q → get_or l.slots q absent ≡ get_or l.initial.slots q absent;
}
