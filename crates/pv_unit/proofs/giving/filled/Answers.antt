use Rattle.pv_check.proofs.Literals.{goes_same_types}
use Rattle.pv_check.proofs.Opening.{open_goes, then_goes}
use Rattle.pv_unit.proofs.GivenRows.{object_given}
use Rattle.pv_unit.proofs.giving.filled.Goals as goal

pub returns-clause-opened : goal.returns-clause-opened
returns-clause-opened c =
    let m0 = c.args.into.now in
    let m1 = c.stored.new.into in
    let m2 = c.set_object.new.self in
    let first = goes_same_types m0 m1 c.in_ok-stored.ensures.grown c.in_ok-stored.ensures.types in
    let second = goes_same_types m1 m2 c.set_object.ensures.grown c.set_object.ensures.types in
    open_goes m0 m2 c.args.s.now c.requires.opened (then_goes m0 m1 m2 first second)

pub returns-clause-answer : goal.returns-clause-answer
returns-clause-answer c = λ texts.
    let m0 = c.args.into.now in
    let m1 = c.stored.new.into in
    let m2 = c.set_object.new.self in
    let first = goes_same_types m0 m1 c.in_ok-stored.ensures.grown c.in_ok-stored.ensures.types in
    let second = goes_same_types m1 m2 c.set_object.ensures.grown c.set_object.ensures.types in
    object_given texts m0 m1 m2 c.args.s.now c.args.o c.object-old.result c.args.x c.args.stores.now c.requires.opened (then_goes m0 m1 m2 first second) c.requires.object c.object-old.ensures.object
    c.in_ok-stored.ensures.whole c.in_ok-stored.ensures.types c.set_object.ensures.whole
