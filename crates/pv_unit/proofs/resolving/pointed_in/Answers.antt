use Rattle.std.proofs.Common.{◌<◌, ℕ, nat_eq, length, arith}
use Rattle.std.specs.List.{list_any}
use Rattle.pv_check.specs.declared.scopes.Named.TheVariants as named
use Rattle.pv_unit.proofs.Resolutions.{pointed_next}
use Rattle.pv_unit.proofs.resolving.pointed_in.Goals as goal

pub loop-what-preserved : goal.loop-what-preserved
loop-what-preserved c = λ (k : ℕ).
    let lt : c.loop-what.what-index < length c.args.used.now = omega arith in
    pointed_next k c.args.used.now c.loop-what.what-index (named.Object 0) (list_any (nat_eq k) c.loop-what.all.keys) (list_any (nat_eq k) c.add_pointed.new.all.keys) lt (c.loop-what.invariant k) (c.in_ok-add_pointed.ensures k)
