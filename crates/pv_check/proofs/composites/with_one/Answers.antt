use Rattle.std.proofs.Common.{sym, ap, ◌∙◌, map, refl}
use Rattle.pv_types.specs.declared.terms.Member.{Member}
use Rattle.pv_check.proofs.MemberRows.{name_inserted}
use Rattle.pv_check.proofs.composites.with_one.Goals as goal

pub returns-clause-names : goal.returns-clause-names
returns-clause-names c =
    let x : Member = record { name = c.args.name; t = c.args.t } in
    c.in_ok-insert.ensures.keys
    ∙ name_inserted c.args.name c.args.members.list.items x c.args.members.names.keys refl c.requires.named c.requires.fresh
    ∙ ap (map (λ (y : Member). y.name)) (sym c.in_ok-push.ensures.items)
