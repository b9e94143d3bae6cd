use Rattle.std.proofs.Common.{◌≡◌, drop}
use Rattle.pv_types.specs.Numbers.{number_of}
use Rattle.pv_types.proofs.Numbered.{numbers_from}
use Rattle.pv_types.proofs.naming.first_named.Given as goal

abbrev pub invariant-loop-place : goal.invariant-loop-place
invariant-loop-place l = numbers_from l.place l.name (drop l.place l.members) ≡ number_of l.name l.members
