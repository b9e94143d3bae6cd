use Rattle.std.proofs.Common.{◌∙◌, sym, ap}
use Rattle.pv_types.specs.Known.{env}
use Rattle.pv_types.specs.Layouts.{layout_in, is_complete_in}
use Rattle.pv_types.proofs.Made.{flag}
use Rattle.pv_type_tests.proofs.types.held.Goals as goal

pub member_over-requires-clause-complete : goal.member_over-requires-clause-complete
member_over-requires-clause-complete c =
    let m = c.args.types.now in
    let same = ap (is_complete_in (env m)) (sym c.in-Struct.ensures.tree) in
    rw same c.requires.complete

pub member_over-requires-clause-structure : goal.member_over-requires-clause-structure
member_over-requires-clause-structure c = flag c.args.types.now c.in-Struct.tag c.in-Struct.ensures.built (member_over-requires-clause-complete c) ∙ c.in-Struct.ensures.tagged.1

pub member_over-requires-clause-small : goal.member_over-requires-clause-small
member_over-requires-clause-small c =
    let m = c.args.types.now in
    let same = ap (λ t. (layout_in (env m) t).size) (sym c.in-Struct.ensures.tree) in
    rw same c.requires.small
