use Rattle.std.proofs.Common.{List, All, sym, subst, deque_len, deque_capacity}
use Rattle.pv_prov.specs.declared.pairs.Twin.{Twin}
use Rattle.pv_inst.specs.WellFormed.{HasMet}
use Rattle.pv_inst.proofs.Meetings.{kept_pairs, met_kept}
use Rattle.pv_inst.proofs.instances.Instances.keep.Goals as goal

pub invariant_of-self : goal.invariant_of-self
invariant_of-self c =
    let xs = c.self.inside.instances.items in
    let ts = c.self.inside.pairs in
    let P : List Twin → Type 0 = λ us. All (HasMet xs) us in
    kept_pairs xs ts c.keep.new.self c.self.inside.live c.self.inside.cursor (deque_len c.self.inside.pending) (deque_capacity c.self.inside.pending) c.self.inside.top c.self.inside.places.entries c.self.invariant
    (subst P (sym c.keep.ensures) (met_kept xs ts c.args.k c.args.low c.args.high c.self.invariant.met))
