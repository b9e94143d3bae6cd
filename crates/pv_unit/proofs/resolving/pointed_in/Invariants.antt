use Rattle.std.proofs.Common.{◌≡◌, ℕ, nat_eq, map, take}
use Rattle.std.specs.List.{list_any}
use Rattle.pv_check.specs.Raw.{used_of}
use Rattle.pv_unit.specs.UnitParts.{is_pointed}
use Rattle.pv_unit.proofs.resolving.pointed_in.Given as goal

abbrev pub invariant-loop-what : goal.invariant-loop-what
invariant-loop-what l = (k : ℕ) → list_any (nat_eq k) l.all.keys ≡ is_pointed k (map used_of (take l.what-index l.used))
