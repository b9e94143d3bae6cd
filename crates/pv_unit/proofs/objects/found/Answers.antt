use Rattle.std.proofs.Common.{IfSome, subst, sym, ap, ◌∙◌}
use Rattle.pv_check.specs.Open.{EntryKnown}
use Rattle.pv_check.specs.Raw.{meaning_if}
use Rattle.pv_check.proofs.Showing.{inner_name_shown}
use Rattle.pv_unit.proofs.Naming.{inner_name_known}
use Rattle.pv_unit.proofs.objects.found.Goals as goal

pub returns-clause-known : goal.returns-clause-known
returns-clause-known c = subst (λ o. IfSome o (EntryKnown c.args.into.now)) (sym c.inner.ensures) (inner_name_known c.args.into.now c.args.s.now c.args.name c.requires)

pub returns-clause-meaning : goal.returns-clause-meaning
returns-clause-meaning c = λ texts u.
    ap (meaning_if c.args.into.now.known) c.inner.ensures ∙ sym (inner_name_shown c.args.into.now.known c.args.s.now.scopes c.args.name c.requires.some)
