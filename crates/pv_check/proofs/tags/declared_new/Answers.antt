use Rattle.pv_check.specs.declared.scopes.TagEntry.TheVariants as tag
use Rattle.pv_check.proofs.Opening.{open_tagged}
use Rattle.pv_check.proofs.TagRows.{declared_after}
use Rattle.pv_check.proofs.tags.declared_new.Goals as goal

pub returns-clause-opened : goal.returns-clause-opened
returns-clause-opened c =
    open_tagged c.args.into.now c.new_tag.new.into c.args.s.now c.bind_tag.new.self c.args.name (tag.Composite c.in_ok-number.number)
    c.requires.opened c.in_ok-number.ensures.goes c.in_ok-number.ensures.known.0 c.in_ok-bind_tag.ensures

pub returns-clause-answer : goal.returns-clause-answer
returns-clause-answer c = λ texts u.
    declared_after texts u c.args.into.now c.new_tag.new.into c.args.s.now c.bind_tag.new.self c.args.name c.args.union c.in_ok-number.number
    c.requires.opened c.in_ok-number.ensures.goes c.in_ok-bind_tag.ensures c.in_ok-number.ensures.known.1 c.in_ok-number.ensures.number c.in_ok-number.ensures.whole
