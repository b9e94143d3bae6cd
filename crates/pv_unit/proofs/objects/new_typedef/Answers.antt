use Rattle.pv_check.specs.declared.scopes.Entry.TheVariants as entry
use Rattle.pv_check.proofs.Opening.{same_goes}
use Rattle.pv_unit.proofs.Naming.{open_named, state_named}
use Rattle.pv_unit.proofs.objects.new_typedef.Goals as goal

pub returns-clause-opened : goal.returns-clause-opened
returns-clause-opened c =
    open_named c.args.into.now c.args.into.now c.args.s.now c.named.new.s c.args.name (entry.Typedef c.args.t) c.requires.opened (same_goes c.args.into.now) c.requires.known c.in_ok-named.ensures

pub returns-clause-answer : goal.returns-clause-answer
returns-clause-answer c = λ texts u.
    state_named texts u c.args.into.now c.args.into.now c.args.s.now c.named.new.s c.args.name (entry.Typedef c.args.t) c.requires.opened (same_goes c.args.into.now) c.in_ok-named.ensures
