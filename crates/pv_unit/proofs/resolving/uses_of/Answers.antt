use Rattle.std.proofs.Common.{◌<◌, ℕ, Bool, length, arith}
use Rattle.pv_check.specs.declared.scopes.Named.TheVariants as named
use Rattle.pv_unit.specs.Resolving.{has_use}
use Rattle.pv_unit.proofs.Resolutions.{used_next}
use Rattle.pv_unit.proofs.resolving.uses_of.Goals as goal

pub loop-what-preserved : goal.loop-what-preserved
loop-what-preserved c = λ (f : Bool) (k : ℕ).
    let lt : c.loop-what.what-index < length c.args.used.now = omega arith in
    used_next f k c.args.used.now c.loop-what.what-index (named.Object 0) (has_use c.loop-what.all f k) (has_use c.add_use.new.all f k) lt (c.loop-what.invariant f k) (c.in_ok-add_use.ensures f k)
