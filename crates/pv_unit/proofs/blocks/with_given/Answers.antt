use Rattle.std.proofs.Common.{rules, ◌≡◌, true, false, sym, ap, ◌∙◌, ◌<◌, ◌≤◌, length, arith}
use Rattle.pv_tree.specs.Tables.{initializer_at}
use Rattle.pv_typed.specs.Tables.{whole_unit}
use Rattle.pv_typed.specs.TypedUnits.{object_at}
use Rattle.pv_check.specs.Open.{state_of, Goes}
use Rattle.pv_unit.specs.DeclaredIn.{state_on}
use Rattle.pv_unit.specs.ValueRules.{typed_initializer}
use Rattle.pv_unit.proofs.BlockRows.{given_done}
use Rattle.pv_unit.proofs.blocks.with_given.Goals as goal

pub returns-clause-answer : goal.returns-clause-answer
returns-clause-answer c =
    let has : c.in_ok-has.has ≡ true = search rules in
    let goes : Goes c.args.into.now c.given.new.into = search rules in
    let more : length c.args.into.now.objects ≤ length c.given.new.into.objects = goes.grown.objects in
    let lt : c.args.o < length c.given.new.into.objects = omega (arith, more, c.requires.object) in
    given_done c.args.t.now.texts c.given.new.s c.given.new.into c.args.o c.is_whole.result
    (typed_initializer c.args.lasting (object_at (whole_unit c.args.into.now) c.args.o).t (initializer_at c.args.u.now.forest c.args.i) (state_of c.args.t.now.texts false c.args.s.now c.args.into.now)) lt
    (ap (state_on c.args.t.now.texts c.given.new.s c.given.new.into) (sym has) ∙ c.in_ok-has.ensures.answer) (c.is_whole.ensures c.args.t.now.texts)
