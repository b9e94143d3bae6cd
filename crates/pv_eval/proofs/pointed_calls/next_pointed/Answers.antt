use Rattle.std.proofs.Common.{◌≡◌, ◌-◌, suc, arith, length, ◌∙◌, ap, Err}
use Rattle.std.specs.Prelude.{map}
use Rattle.std.proofs.lemmas.Grind.{common_steps}
use Rattle.pv_seq.specs.Rivals.{top}
use Rattle.pv_typed.specs.TypedTree.{form_of, line_of, type_of}
use Rattle.pv_typed.specs.Tables.{nodes}
use Rattle.pv_typed.specs.NodeTrees.{expression_at, list_at}
use Rattle.pv_types.specs.Known.{tree}
use Rattle.pv_world.specs.Coming.{worth_of}
use Rattle.pv_eval.specs.TypeForms.{pointed_to}
use Rattle.pv_eval.specs.Frames.{callee_of, passed_of}
use Rattle.pv_eval.specs.Moments.{state_of}
use Rattle.pv_eval.proofs.Cases.{led-from}
use Rattle.pv_eval.proofs.LibraryCalls.{child-there}
use Rattle.pv_eval.proofs.Pointed.{pointed-one, pointed-none, pointed-more, callee-removed, passed-removed, pointed-asked, pointed-stopped}
use Rattle.pv_eval.proofs.pointed_calls.next_pointed.Goals as goal

pub returns-then-i-children-clause-led : goal.returns-then-i-children-clause-led
returns-then-i-children-clause-led c = λ b out es hs hl call js.
    let count : c.len-i.result ≡ length c.args.got.items = grind (arith, common_steps) in
    let many : length c.args.got.items ≡ suc (c.len-i.result - 1) = omega (arith, count, c.requires.some) in
    pointed-one b call c.args.unit.now c.args.n c.args.a c.args.l c.children-children.result.now c.children-children.ensures c.args.got (c.len-i.result - 1) many c.requires.form c.if-i-children.true (top js) (state_of c.args.moment.now out es)

pub returns-then-i-children-clause-fits : goal.returns-then-i-children-clause-fits
returns-then-i-children-clause-fits c =
    let u = c.args.unit.now in
    let i = c.len-i.result - 1 in
    let count : c.len-i.result ≡ length c.args.got.items = grind (arith, common_steps) in
    let many : length c.args.got.items ≡ suc i = omega (arith, count, c.requires.some) in (
      child-there u c.args.l c.args.n i c.children-children.result.now c.children-children.ensures c.requires.list c.requires.there.0 c.if-i-children.true,
      (c.requires.there, pointed-more (form_of (expression_at u c.args.n)) (expression_at u c.args.a) (nodes u) (list_at u c.args.l) c.children-children.result.now i _ c.children-children.ensures many c.requires.form c.if-i-children.true),
    )

pub returns-in-Ok-clause-led : goal.returns-in-Ok-clause-led
returns-in-Ok-clause-led c = λ b out es hs hl call js.
    let u = c.args.unit.now in
    let i = c.len-i.result - 1 in
    let ws = map worth_of c.args.got.items in
    let s = state_of c.args.moment.now out es in
    let count : c.len-i.result ≡ length c.args.got.items = grind (arith, common_steps) in
    let many : length c.args.got.items ≡ suc i = omega (arith, count, c.requires.some) in
    pointed-none b call u c.args.n c.args.a c.args.l c.children-children.result.now c.children-children.ensures c.args.got i many (omega (arith, c.if-i-children.false)) (top js) s
    ∙ pointed-asked b call u (line_of (expression_at u c.args.n)) c.line_of-line.result (pointed_to (type_of (expression_at u c.args.a))) (pointed_to (tree u.known c.type_of.result.0)) (callee_of ws) (worth_of c.remove-callee.result) (passed_of ws) (map worth_of c.remove-callee.new.self.items) (top js) s
    (c.line_of-line.ensures.expression c.requires.there) (ap pointed_to c.type_of.ensures.tree) (callee-removed c.args.got.items c.remove-callee.result c.requires.some c.remove-callee.ensures.value) (passed-removed c.args.got.items c.remove-callee.new.self.items c.requires.some c.remove-callee.ensures.items)
    c.in-Ok.f (state_of c.find.new.self out es) (c.in-Ok.ensures.found b out es hs hl)

pub returns-in-Err-clause-led : goal.returns-in-Err-clause-led
returns-in-Err-clause-led c = λ b out es hs hl call js.
    let u = c.args.unit.now in
    let i = c.len-i.result - 1 in
    let ws = map worth_of c.args.got.items in
    let s = state_of c.args.moment.now out es in
    let count : c.len-i.result ≡ length c.args.got.items = grind (arith, common_steps) in
    let many : length c.args.got.items ≡ suc i = omega (arith, count, c.requires.some) in
    led-from b call u _ _ (Err c.in-Err.e) js (state_of c.find.new.self out es)
    (pointed-none b call u c.args.n c.args.a c.args.l c.children-children.result.now c.children-children.ensures c.args.got i many (omega (arith, c.if-i-children.false)) (top js) s)
    (pointed-stopped b call u (line_of (expression_at u c.args.n)) c.line_of-line.result (pointed_to (type_of (expression_at u c.args.a))) (pointed_to (tree u.known c.type_of.result.0)) (callee_of ws) (worth_of c.remove-callee.result) (passed_of ws) (map worth_of c.remove-callee.new.self.items) (top js) s
    (c.line_of-line.ensures.expression c.requires.there) (ap pointed_to c.type_of.ensures.tree) (callee-removed c.args.got.items c.remove-callee.result c.requires.some c.remove-callee.ensures.value) (passed-removed c.args.got.items c.remove-callee.new.self.items c.requires.some c.remove-callee.ensures.items)
    c.in-Err.e js (state_of c.find.new.self out es) (c.in-Err.ensures.found b out es hs hl))
