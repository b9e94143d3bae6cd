use Rattle.std.proofs.Common.{◌≡◌, ◌++◌, ◌∷◌, [], arith, length}
use Rattle.std.specs.Prelude.{map}
use Rattle.std.proofs.lemmas.Grind.{common_steps}
use Rattle.pv_typed.specs.NodeTrees.{expression_at}
use Rattle.pv_world.specs.Coming.{worth_of}
use Rattle.pv_eval.proofs.LibraryCalls.{child-there}
use Rattle.pv_eval.proofs.PlainCalls.{first_argument, next_argument, all_arguments}
use Rattle.pv_eval.proofs.plain_calls.arguments.Goals as goal

pub each-init : goal.each-init
each-init c =
    let u = c.args.unit.now in
    let ids = c.children-children.result.now in
    record {
      comes = first_argument u c.args.world.now c.args.f ids c.args.n c.args.l c.lent-values.result.items c.args.notes.now.items c.args.taken c.children-children.ensures c.requires.form c.lent-values.ensures c.requires.quiet;
      more = omega arith;
      within = omega (arith, c.requires.room);
    }

pub argument-requires-clause-there : goal.argument-requires-clause-there
argument-requires-clause-there c = child-there c.args.unit.now c.args.l c.args.n c.each.i c.children-children.result.now c.children-children.ensures c.requires.list c.requires.there.0 c.each-test.true

pub argument-requires-clause-room : goal.argument-requires-clause-room
argument-requires-clause-room c = c.each.invariant.within

pub each-preserved : goal.each-preserved
each-preserved c =
    let u = c.args.unit.now in
    let ids = c.children-children.result.now in
    let inv = c.each.invariant in
    let v = c.in-Some.v in
    let items : c.push.new.self.items ≡ c.each.values.items ++ v ∷ [] = grind (arith, common_steps) in
    record {
      comes = next_argument u c.args.world.now c.args.f ids (expression_at u c.args.n) c.each.i c.each.values.items c.push.new.self.items v c.each.notes.items c.argument.new.notes.items c.args.taken c.each.at c.in-Some.behind c.each-test.true inv.comes c.in-Some.ensures.some items;
      more = omega (arith, inv.more, c.in-Some.ensures.more);
      within = c.in-Some.ensures.within;
    }

pub returns-clause-some : goal.returns-clause-some
returns-clause-some c = all_arguments c.args.unit.now c.args.world.now c.args.f c.children-children.result.now (expression_at c.args.unit.now c.args.n) c.each.i (map worth_of c.each.values.items) c.each.notes.items c.args.taken c.each.at (omega (arith, c.each-test.false)) c.each.invariant.comes

pub returns-clause-more : goal.returns-clause-more
returns-clause-more c = c.each.invariant.more

pub returns-clause-within : goal.returns-clause-within
returns-clause-within c = c.each.invariant.within
