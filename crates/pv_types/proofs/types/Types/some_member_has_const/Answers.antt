use Rattle.std.proofs.Common.{◌<◌, ◌≤◌, ◌∙◌, ap, sym, arith, length}
use Rattle.std.proofs.Math.ListN.{drop_of_length-le}
use Rattle.pv_types.specs.Known.{trees, env, named_in}
use Rattle.pv_types.proofs.Parted.{any_const, const_of_members, looked_hit}
use Rattle.pv_types.proofs.Peeling.{nobody}
use Rattle.pv_types.proofs.types.Types.some_member_has_const.Goals as goal

pub returns-then-has_const : goal.returns-then-has_const
returns-then-has_const c = λ n union.
    let m = c.args.self.now in
    let all = named_in (trees m) c.args.members.now in
    let lt : c.loop-m.m-index < length c.args.members.now = omega arith in
    sym (const_of_members (env m) n union all ∙ looked_hit m all c.loop-m.m-index c.args.members.now nobody lt c.loop-m.invariant (sym c.has_const.ensures ∙ c.if-has_const.true))

pub returns : goal.returns
returns c = λ n union.
    let m = c.args.self.now in
    let all = named_in (trees m) c.args.members.now in
    let le : length c.args.members.now ≤ c.loop-m.m-index = omega arith in
    sym (const_of_members (env m) n union all ∙ c.loop-m.invariant.rest ∙ ap (λ ms. any_const (env m) (named_in (trees m) ms)) (drop_of_length-le c.args.members.now le))
