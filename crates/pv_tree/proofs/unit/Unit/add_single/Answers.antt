use Rattle.std.proofs.Common.{◌≡◌, ◌<◌, ◌-◌, ◌^◌, ◌∷◌, [], length, ap, arith}
use Rattle.pv_tree.specs.Tables.{Tables}
use Rattle.pv_tree.proofs.Reading.{list_seen, list_formed}
use Rattle.pv_tree.proofs.unit.Unit.add_single.Goals as goal

pub invariant_of-self-2 : goal.invariant_of-self-2
invariant_of-self-2 c =
    let few : length c.self.inside.lists < 2 ^ 32 - 1 = omega arith in
    rw c.in_ok-add_one.ensures.added
    (list_formed c.self.inside.lists c.self.inside.rows c.self.inside.externals.items c.args.self.now c.self.invariant (c.self.view_is) (c.args.n ∷ []) few)

pub returns-clause-made : goal.returns-clause-made
returns-clause-made c =
    let len : c.len-index.result ≡ length c.args.self.now.forest.lists = omega (arith, ap (λ (s : Tables). length s.forest.lists) c.self.view_is) in (
      rw c.in_ok-add_one.ensures.added
          (list_seen c.self.inside.lists c.self.inside.rows c.self.inside.externals.items c.args.self.now c.self.invariant (c.self.view_is) (c.args.n ∷ [])),
      len,
    )
