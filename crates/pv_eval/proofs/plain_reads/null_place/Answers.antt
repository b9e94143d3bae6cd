use Rattle.std.proofs.Common.{ℕ, sym, ap}
use Rattle.pv_prov.specs.declared.names.Prov.TheVariants.{Empty}
use Rattle.pv_world.specs.Worths.{pointer}
use Rattle.pv_eval.proofs.PlainPointers.{looked_empty}
use Rattle.pv_eval.proofs.plain_reads.null_place.Goals as goal

pub returns-then-address-eq0-clause-value : goal.returns-then-address-eq0-clause-value
returns-then-address-eq0-clause-value c = ap (λ (a : ℕ). pointer (record { address = a; prov = Empty })) (sym c.if-address-eq0.true)

pub returns-then-address-eq0-clause-looked : goal.returns-then-address-eq0-clause-looked
returns-then-address-eq0-clause-looked c = looked_empty c.args.world.now.memory.table c.args.address c.if-address-eq0.true
