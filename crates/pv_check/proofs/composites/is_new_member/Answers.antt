use Rattle.std.proofs.Common.{ap, ◌∙◌}
use Rattle.std.proofs.Common.{not}
use Rattle.pv_check.proofs.MemberRows.{new_named}
use Rattle.pv_check.proofs.composites.is_new_member.Goals as goal

pub returns : goal.returns
returns c = λ ts. ap not c.contains.ensures ∙ new_named ts c.args.name c.args.members.now.list.items c.args.members.now.names.keys c.requires
