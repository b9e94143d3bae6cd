use Rattle.std.proofs.Common.{rules, ◌∙◌, IsTrue, is_some}
use Rattle.pv_types.specs.Known.{env}
use Rattle.pv_types.specs.Layouts.{look}
use Rattle.pv_types.proofs.Made.{flag}
use Rattle.pv_describe.proofs.describing.add_union.Goals as goal

pub add_union_members-requires-clause-union : goal.add_union_members-requires-clause-union
add_union_members-requires-clause-union c =
    let there : IsTrue (is_some (look (env c.args.u.now.known) c.args.tag)) = search rules in
    flag c.args.u.now.known c.args.tag c.requires.built there ∙ c.requires.union
