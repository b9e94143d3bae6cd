use Rattle.std.proofs.Common.{◌≡◌, ◌+◌, ◌<◌, length, arith}
use Rattle.pv_types.specs.Known.{tree}
use Rattle.pv_check.specs.declared.scopes.Entry.TheVariants as entry
use Rattle.pv_check.proofs.Literals.{goes_same_types}
use Rattle.pv_unit.proofs.Naming.{open_named, object_named}
use Rattle.pv_unit.proofs.objects.new_object.Goals as goal

pub returns-clause-goes : goal.returns-clause-goes
returns-clause-goes c = goes_same_types c.args.into.now c.add_object.new.self c.in_ok-o.ensures.grown c.in_ok-o.ensures.types

pub returns-clause-opened : goal.returns-clause-opened
returns-clause-opened c =
    let number : c.in_ok-o.o ≡ length c.args.into.now.objects = c.in_ok-o.ensures.number in
    let more : length c.add_object.new.self.objects ≡ length c.args.into.now.objects + 1 = c.in_ok-o.ensures.more in
    let there : c.in_ok-o.o < length c.add_object.new.self.objects = omega (arith, number, more) in
    open_named c.args.into.now c.add_object.new.self c.args.s.now c.named.new.s c.args.name (entry.Object c.in_ok-o.o) c.requires.opened (returns-clause-goes c) there c.in_ok-named.ensures

pub returns-clause-answer : goal.returns-clause-answer
returns-clause-answer c = λ texts u.
    object_named texts u c.args.into.now c.add_object.new.self c.args.s.now c.named.new.s c.args.name c.args.line c.in_ok-o.o c.in_ok-known.known (tree c.args.into.now.known c.args.t.0) c.args.lasting
    c.requires.opened (returns-clause-goes c) c.in_ok-known.ensures.0 c.in_ok-o.ensures.whole c.in_ok-o.ensures.number c.in_ok-named.ensures
