use Rattle.std.proofs.Common.{◌≡◌, IsTrue, is_some, nat_lt, ap, arith, length}
use Rattle.pv_types.specs.Known.{env}
use Rattle.pv_types.specs.Formed.{members_in, IsBuilt}
use Rattle.pv_types.specs.Layouts.{look}
use Rattle.pv_values.proofs.Shaped.{some_true, union_some, union_parts_within}
use Rattle.pv_values.proofs.shapes.union_shape.Goals as goal

pub returns-clause-shape : goal.returns-clause-shape
returns-clause-shape c =
    let m = c.args.u.now.known in
    let there : is_some (look (env m) c.args.tag) ≡ nat_lt 0 (length c.members-count.result.now) = rw c.types-types.ensures at c.members-count.ensures.complete in
    let items : c.members-count.result.now ≡ members_in m.done c.args.tag = rw c.types-types.ensures at c.members-count.ensures.value in
    union_some c.args.u.now c.args.tag (length c.members-count.result.now) c.braced.result c.in_ok-parts.parts c.braced.ensures c.in_ok-parts.ensures (ap length items) there (omega arith)

pub returns-clause-parts : goal.returns-clause-parts
returns-clause-parts c =
    let m = c.args.u.now.known in
    let built : IsBuilt m = rw (← c.types-types.ensures) c.members-count.ensures.built in
    let there : is_some (look (env m) c.args.tag) ≡ nat_lt 0 (length c.members-count.result.now) = rw c.types-types.ensures at c.members-count.ensures.complete in
    let complete : IsTrue (is_some (look (env m) c.args.tag)) = some_true _ (length c.members-count.result.now) there (omega arith) in
    rw c.braced.ensures (union_parts_within m c.args.tag c.in_ok-parts.parts.items built complete c.in_ok-parts.ensures)
