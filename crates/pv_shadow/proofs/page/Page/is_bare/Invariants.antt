use Rattle.std.proofs.Common.{◌≡◌, ℕ, ◌<◌, get_or}
use Rattle.pv_shadow.specs.Packed.{absent}
use Rattle.pv_shadow.proofs.page.Page.is_bare.Given as goal

-- where the kinds so far are 0 together, each of them is
abbrev pub invariant-loop-k : goal.invariant-loop-k
invariant-loop-k l = l.kinds ≡ 0 → (j : ℕ) → j < l.k → (get_or l.self-inside.slots.value j absent).kind ≡ 0
