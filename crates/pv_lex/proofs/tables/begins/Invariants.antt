use Rattle.std.proofs.Common.{◌≡◌, ◌-◌, length, nat_eq}
use Rattle.std.specs.List.{starts_with}
use Rattle.pv_lex.proofs.Fronts.{rest_begins}
use Rattle.pv_lex.proofs.tables.begins.Given as goal

abbrev pub invariant-loop-n : goal.invariant-loop-n
invariant-loop-n l = starts_with nat_eq l.text l.front ≡ rest_begins l.text l.front l.n

abbrev pub decreases-loop-n : goal.decreases-loop-n
decreases-loop-n l = length l.front - l.n
