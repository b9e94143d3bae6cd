use Rattle.std.proofs.Common.{◌≡◌, ◌++◌, drop, map}
use Rattle.pv_libc.specs.Calls.{offer}
use Rattle.pv_libc.proofs.calls.offer.Given as goal

-- those that are left, behind those offered
abbrev pub invariant-loop-i : goal.invariant-loop-i
invariant-loop-i l = l.offered.items ++ map (offer l.memory) (drop l.i l.args) ≡ map (offer l.memory) (drop 1 l.args)
