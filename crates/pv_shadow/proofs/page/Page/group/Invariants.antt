use Rattle.std.proofs.Common.{◌≡◌, ℕ, ◌+◌, ◌<◌, length, get_or}
use Rattle.pv_shadow.specs.Packed.{absent}
use Rattle.pv_shadow.proofs.page.Page.group.Given as goal

-- the places so far are those of the page
abbrev pub invariant-loop-k : goal.invariant-loop-k
invariant-loop-k l = record {
  long : length l.group ≡ 8;
  done : (j : ℕ) → j < l.k → get_or l.group j absent ≡ get_or l.self-inside.slots.value (l.g + j) absent;
}
