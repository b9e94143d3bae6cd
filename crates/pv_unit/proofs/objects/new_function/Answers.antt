use Rattle.std.proofs.Common.{◌≡◌, ◌+◌, ◌<◌, length, arith}
use Rattle.pv_types.specs.Known.{tree}
use Rattle.pv_check.specs.declared.scopes.Entry.TheVariants as entry
use Rattle.pv_check.proofs.Literals.{goes_same_types}
use Rattle.pv_unit.proofs.Naming.{open_named, function_named}
use Rattle.pv_unit.proofs.objects.new_function.Goals as goal

pub returns-clause-goes : goal.returns-clause-goes
returns-clause-goes c = goes_same_types c.args.into.now c.add_function.new.self c.in_ok-f.ensures.grown c.in_ok-f.ensures.types

pub returns-clause-opened : goal.returns-clause-opened
returns-clause-opened c =
    let number : c.in_ok-f.f ≡ length c.args.into.now.functions = c.in_ok-f.ensures.number in
    let more : length c.add_function.new.self.functions ≡ length c.args.into.now.functions + 1 = c.in_ok-f.ensures.more in
    let there : c.in_ok-f.f < length c.add_function.new.self.functions = omega (arith, number, more) in
    open_named c.args.into.now c.add_function.new.self c.args.s.now c.named.new.s c.args.name (entry.Function c.in_ok-f.f) c.requires.opened (returns-clause-goes c) there c.in_ok-named.ensures

pub returns-clause-answer : goal.returns-clause-answer
returns-clause-answer c = λ texts u.
    function_named texts u c.args.into.now c.add_function.new.self c.args.s.now c.named.new.s c.args.name c.args.line c.in_ok-f.f c.in_ok-known.known (tree c.args.into.now.known c.args.t.0)
    c.requires.opened (returns-clause-goes c) c.in_ok-known.ensures.0 c.in_ok-f.ensures.whole c.in_ok-f.ensures.number c.in_ok-named.ensures
