use Rattle.std.proofs.Common.{◌<◌, ◌∙◌, Some, IfSome, length, sym, ap, subst}
use Rattle.pv_types.specs.Formed.{members_in}
use Rattle.pv_types.proofs.Numbered.{named_below}
use Rattle.pv_layout.specs.Places.{member_at}
use Rattle.pv_layout.proofs.Numbers.{at_beginning, union_named}
use Rattle.pv_layout.proofs.members.union_member.Goals as goal

pub beginning-requires : goal.beginning-requires
beginning-requires c =
    let ms = members_in c.args.types.now.done c.args.tag in
    rw c.members.ensures.value (subst (λ n. IfSome n (λ k. k < length ms)) (sym c.in-Some.ensures) (named_below c.args.name ms))

pub returns-in-Some : goal.returns-in-Some
returns-in-Some c =
    let ms = members_in c.args.types.now.done c.args.tag in
    ap (λ r. Some r) c.beginning.ensures ∙ ap (λ xs. Some (0, (member_at xs c.in-Some.number).t)) c.members.ensures.value
    ∙ ap (λ n. at_beginning n ms) c.in-Some.ensures ∙ sym (union_named c.args.types.now c.args.name ms)

pub returns-in-None : goal.returns-in-None
returns-in-None c =
    let ms = members_in c.args.types.now.done c.args.tag in
    ap (λ n. at_beginning n ms) c.in-None.ensures ∙ sym (union_named c.args.types.now c.args.name ms)
