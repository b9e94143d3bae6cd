use Rattle.std.proofs.Common.{◌≡◌, true, false, length, sym, ap, ◌∙◌}
use Rattle.std.proofs.lemmas.List.{length-map}
use Rattle.pv_types.specs.Known.{tree}
use Rattle.pv_tree.specs.Tables.{optional_at}
use Rattle.pv_typed.specs.Tables.{whole_unit, nodes, object_in}
use Rattle.pv_check.specs.Open.{state_of}
use Rattle.pv_unit.specs.DeclaredIn.{state_on}
use Rattle.pv_unit.proofs.BlockRows.{is_bound, object_taken, object_new}
use Rattle.pv_unit.proofs.blocks.block_object.Goals as goal

pub returns-then-is_some-clause-answer : goal.returns-then-is_some-clause-answer
returns-then-is_some-clause-answer c =
    object_taken c.args.lasting (tree c.args.into.now.known c.args.made.0) (c.args.name, c.args.line) (optional_at c.args.u.now.forest c.args.init) (state_of c.args.t.now.texts false c.args.s.now c.args.into.now)
    (is_bound c.args.t.now.texts c.args.s.now c.args.into.now c.args.name c.found.result c.is_some.result c.is_some.ensures (c.found.ensures.meaning c.args.t.now.texts false) ∙ c.if-is_some.true)

pub returns-then-done-clause-answer : goal.returns-then-done-clause-answer
returns-then-done-clause-answer c =
    let texts = c.args.t.now.texts in
    let number : c.in_ok-o.o ≡ length (whole_unit c.args.into.now).objects = c.in_ok-o.ensures.number.0 ∙ sym (length-map c.args.into.now.objects (object_in c.args.into.now.known (nodes c.args.into.now))) in
    object_new c.args.lasting (tree c.args.into.now.known c.args.made.0) (c.args.name, c.args.line) (optional_at c.args.u.now.forest c.args.init) (state_of texts false c.args.s.now c.args.into.now)
    (state_of texts false c.new_object.new.s c.new_object.new.into) c.in_ok-o.o (state_on texts c.with_initializer.new.s c.with_initializer.new.into true)
    (is_bound texts c.args.s.now c.args.into.now c.args.name c.found.result c.is_some.result c.is_some.ensures (c.found.ensures.meaning texts false) ∙ c.if-is_some.false)
    number (c.in_ok-o.ensures.answer texts false) (ap (state_on texts c.with_initializer.new.s c.with_initializer.new.into) (sym c.if-done.true) ∙ c.in_ok-done.ensures.answer)

pub returns-else-done-clause-answer : goal.returns-else-done-clause-answer
returns-else-done-clause-answer c =
    let texts = c.args.t.now.texts in
    let number : c.in_ok-o.o ≡ length (whole_unit c.args.into.now).objects = c.in_ok-o.ensures.number.0 ∙ sym (length-map c.args.into.now.objects (object_in c.args.into.now.known (nodes c.args.into.now))) in
    object_new c.args.lasting (tree c.args.into.now.known c.args.made.0) (c.args.name, c.args.line) (optional_at c.args.u.now.forest c.args.init) (state_of texts false c.args.s.now c.args.into.now)
    (state_of texts false c.new_object.new.s c.new_object.new.into) c.in_ok-o.o (state_on texts c.with_initializer.new.s c.with_initializer.new.into false)
    (is_bound texts c.args.s.now c.args.into.now c.args.name c.found.result c.is_some.result c.is_some.ensures (c.found.ensures.meaning texts false) ∙ c.if-is_some.false)
    number (c.in_ok-o.ensures.answer texts false) (ap (state_on texts c.with_initializer.new.s c.with_initializer.new.into) (sym c.if-done.false) ∙ c.in_ok-done.ensures.answer)
