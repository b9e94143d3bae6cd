use Rattle.std.proofs.Common.{◌≡◌, ℕ, Bool, map, take}
use Rattle.pv_check.specs.Raw.{used_of}
use Rattle.pv_unit.specs.Resolving.{has_use}
use Rattle.pv_unit.specs.UnitParts.{is_used}
use Rattle.pv_unit.proofs.resolving.uses_of.Given as goal

abbrev pub invariant-loop-what : goal.invariant-loop-what
invariant-loop-what l = (f : Bool) (k : ℕ) → has_use l.all f k ≡ is_used f k (map used_of (take l.what-index l.used))
