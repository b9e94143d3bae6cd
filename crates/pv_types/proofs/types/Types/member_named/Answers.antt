use Rattle.pv_types.proofs.Numbered.{all_differ}
use Rattle.pv_types.proofs.types.Types.member_named.Goals as goal

pub is_named-requires : goal.is_named-requires
is_named-requires c = rw c.members-members.ensures.value (all_differ c.args.self.now c.args.tag c.members-members.ensures.built)
