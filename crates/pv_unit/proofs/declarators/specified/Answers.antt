use Rattle.std.proofs.Common.{false, sym, ap, ◌∙◌}
use Rattle.pv_tree.specs.Tables.{trees_at}
use Rattle.pv_check.specs.Open.{state_of, IsOpen, Goes}
use Rattle.pv_check.specs.SeenAfter.{after_seen}
use Rattle.pv_check.proofs.Opening.{open_goes, then_goes}
use Rattle.pv_check.proofs.SpecifierRows.{there, kept}
use Rattle.pv_unit.proofs.DeclaredRows.{specified_done}
use Rattle.pv_unit.proofs.declarators.specified.Goals as goal

pub returns-clause-opened : goal.returns-clause-opened
returns-clause-opened c =
    kept c.in_ok-r.r (open_goes c.specifiers.new.into c.concluded.new.into c.specifiers.new.s (there (λ x. IsOpen c.specifiers.new.into c.specifiers.new.s) c.in-Some.is c.in_ok-seen.ensures.opened) c.in_ok-r.ensures.goes)

pub returns-clause-goes : goal.returns-clause-goes
returns-clause-goes c =
    kept c.in_ok-r.r (then_goes c.args.into.now c.specifiers.new.into c.concluded.new.into (there (λ x. Goes c.args.into.now c.specifiers.new.into) c.in-Some.is c.in_ok-seen.ensures.goes) c.in_ok-r.ensures.goes)

pub returns-clause-answer : goal.returns-clause-answer
returns-clause-answer c =
    specified_done c.args.t.now.texts (trees_at c.args.u.now.forest c.args.list) (state_of c.args.t.now.texts false c.args.s.now c.args.into.now) c.specifiers.new.into c.concluded.new.into c.specifiers.new.s c.in-Some.seen c.in_ok-r.r
    (there (λ x. IsOpen c.specifiers.new.into c.specifiers.new.s) c.in-Some.is c.in_ok-seen.ensures.opened) c.in_ok-r.ensures.goes c.in_ok-r.ensures.whole
    (ap (after_seen c.args.t.now.texts false c.specifiers.new.s c.specifiers.new.into) (sym c.in-Some.is) ∙ c.in_ok-seen.ensures.answer) c.in_ok-r.ensures.value
