use Rattle.std.proofs.Common.{◌<◌, ◌≤◌, ℕ, Vec, Global, subst}
use Rattle.std.specs.Prelude.{map}
use Rattle.pv_typed.specs.TypedTree.{NoArguments}
use Rattle.pv_typed.specs.NodeTrees.{expression_at}
use Rattle.pv_seq.specs.Frames.{AllRead}
use Rattle.pv_world.specs.Coming.{worth_of}
use Rattle.pv_world.specs.declared.got.Got.{Got}
use Rattle.pv_eval.specs.Moments.{Moment, sides_of}
use Rattle.pv_eval.specs.Plainly.{ComesToArguments}
use Rattle.pv_eval.specs.AtOnce.{CallsAmong, CutAmong}
use Rattle.pv_eval.proofs.PlainSteps.{some_map}
use Rattle.pv_eval.proofs.PlainCalls.{calls_among, cut_calls}
use Rattle.pv_eval.proofs.moment.Moment.call_arguments.Goals as goal

pub arguments-requires-clause-quiet : goal.arguments-requires-clause-quiet
arguments-requires-clause-quiet c = c.clear.ensures.items

pub returns-clause-some : goal.returns-clause-some
returns-clause-some c =
    let u = c.args.unit.now in
    let n = c.args.n in
    let f = c.args.f in
    let m = c.self.inside in
    let all = c.arguments.new.notes.items in
    let was : Moment = record { world = m.world; printed = m.printed.items; total = m.total; waiting = m.waiting.items; taken = m.taken; sides = sides_of m.sides } in
    some_map (λ (r : Vec Got Global × ℕ). ComesToArguments u m.world (expression_at u n) f (map worth_of r.0.items) NoArguments all m.taken r.1)
    (λ (r : Vec Got Global × ℕ). CallsAmong u n f (map worth_of r.0.items) all c.args.self.now (record c.args.self.now { taken = r.1 }))
    c.arguments.result
    (λ r h. subst (λ (o : Moment). CallsAmong u n f (map worth_of r.0.items) all o (record o { taken = r.1 })) c.self.view_is (calls_among u n f (map worth_of r.0.items) all r.1 was h))
    c.arguments.ensures.some

pub returns-clause-cut : goal.returns-clause-cut
returns-clause-cut c =
    let u = c.args.unit.now in
    let n = c.args.n in
    let f = c.args.f in
    let m = c.self.inside in
    let all = c.arguments.new.notes.items in
    let was : Moment = record { world = m.world; printed = m.printed.items; total = m.total; waiting = m.waiting.items; taken = m.taken; sides = sides_of m.sides } in
    some_map (λ (r : Vec Got Global × ℕ). ComesToArguments u m.world (expression_at u n) f (map worth_of r.0.items) NoArguments all m.taken r.1)
    (λ (r : Vec Got Global × ℕ). CutAmong u n c.args.self.now (record c.args.self.now { taken = r.1 }))
    c.arguments.result
    (λ r h. subst (λ (o : Moment). CutAmong u n o (record o { taken = r.1 })) c.self.view_is (cut_calls u n f (map worth_of r.0.items) all r.1 was h))
    c.arguments.ensures.some

pub returns-clause-reads : goal.returns-clause-reads
returns-clause-reads c =
    let u = c.args.unit.now in
    let m = c.self.inside in
    let all = c.arguments.new.notes.items in
    some_map (λ (r : Vec Got Global × ℕ). ComesToArguments u m.world (expression_at u c.args.n) c.args.f (map worth_of r.0.items) NoArguments all m.taken r.1)
    (λ (r : Vec Got Global × ℕ). AllRead all)
    c.arguments.result
    (λ r h. h.only)
    c.arguments.ensures.some
