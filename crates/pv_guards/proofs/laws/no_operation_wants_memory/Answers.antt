use Rattle.pv_guards.proofs.Wants.{never-wants, call-had}
use Rattle.pv_guards.proofs.laws.no_operation_wants_memory.Goals as goal

pub returns : goal.returns
returns c = record { operations = never-wants; calls = call-had }
