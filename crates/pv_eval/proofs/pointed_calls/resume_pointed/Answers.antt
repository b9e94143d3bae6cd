use Rattle.std.proofs.Common.{◌≡◌, ◌-◌, ◌<◌, ◌∷◌, ◌++◌, [], ℕ, suc, arith, length, sym, ap, ◌∙◌, subst, Err}
use Rattle.std.specs.Prelude.{map}
use Rattle.std.proofs.lemmas.Grind.{common_steps}
use Rattle.pv_seq.specs.Rivals.{top}
use Rattle.pv_typed.specs.TypedTree.{type_of, line_of, CallPointer}
use Rattle.pv_typed.specs.Nodes.{arguments_in}
use Rattle.pv_typed.specs.Tables.{nodes}
use Rattle.pv_typed.specs.NodeTrees.{expression_at, list_at}
use Rattle.pv_world.specs.Coming.{worth_of}
use Rattle.pv_eval.specs.Moments.{state_of}
use Rattle.pv_eval.specs.Frames.{argument_after}
use Rattle.pv_eval.specs.Ahead.{Led}
use Rattle.pv_eval.proofs.Cases.{came-stops, led-from, then-gives, setting-stays, before-stays, stays_both}
use Rattle.pv_eval.proofs.Pointed.{pointed-led, through-more}
use Rattle.pv_eval.proofs.pointed_calls.resume_pointed.Goals as goal

pub returns-then-i-eq0-clause-led : goal.returns-then-i-eq0-clause-led
returns-then-i-eq0-clause-led c = λ b out es hs hl call js.
    let u = c.args.unit.now in
    let x = expression_at u c.args.n in
    let none : length c.args.got.items ≡ 0 = grind (arith, common_steps) in
    let P : ℕ → Type 0 = λ q. Led b call u (argument_after b call (type_of x) (line_of x) (CallPointer (expression_at u c.args.a) (arguments_in (nodes u) (list_at u c.args.l))) q (map worth_of c.args.got.items) (top js) (worth_of c.args.v) (state_of c.args.moment.now out es)) c.begin_pointed.result js (state_of c.begin_pointed.new.moment out es) in
    subst P (sym none) (c.begin_pointed.ensures.led b out es hs hl call js)

pub returns-in-Err-clause-led : goal.returns-in-Err-clause-led
returns-in-Err-clause-led c = λ b out es hs hl call js.
    let u = c.args.unit.now in
    let i = c.len-i.result - 1 in
    let count : c.len-i.result ≡ length c.args.got.items = grind (arith, common_steps) in
    let many : length c.args.got.items ≡ suc i = omega (arith, count, c.if-i-eq0.false) in
    let within : i < length c.children-children.result.now = omega (arith, many, c.requires.more, ap length c.children-children.ensures) in
    pointed-led b call u c.args.n c.args.a c.args.l c.children-children.result.now c.children-children.ensures c.args.got i many (worth_of c.args.v) (state_of c.args.moment.now out es) (Err c.in-Err.e) js (state_of c.hand.new.moment out es) within
    (came-stops b call u _ _ c.in-Err.e js _ (c.in-Err.ensures.came b out es hs hl))

pub returns-clause-led : goal.returns-clause-led
returns-clause-led c = λ b out es hs hl call js.
    let u = c.args.unit.now in
    let i = c.len-i.result - 1 in
    let st = c.in-Ok.ensures.stays in
    let count : c.len-i.result ≡ length c.args.got.items = grind (arith, common_steps) in
    let many : length c.args.got.items ≡ suc i = omega (arith, count, c.if-i-eq0.false) in
    let within : i < length c.children-children.result.now = omega (arith, many, c.requires.more, ap length c.children-children.ensures) in
    let items : c.push.new.self.items ≡ c.args.got.items ++ c.in-Ok.v ∷ [] = grind (arith, common_steps) in
    pointed-led b call u c.args.n c.args.a c.args.l c.children-children.result.now c.children-children.ensures c.args.got i many (worth_of c.args.v) (state_of c.args.moment.now out es) c.next_pointed.result js (state_of c.next_pointed.new.moment out es) within
    (led-from b call u _ _ c.next_pointed.result js (state_of c.next_pointed.new.moment out es)
    (then-gives _ _ _ _ (c.in-Ok.ensures.came b out es hs hl)
    ∙ through-more b call u c.args.n c.args.a c.args.l c.args.got.items c.push.new.self.items c.in-Ok.v i (top js) (state_of c.hand.new.moment out es) items many)
    (c.next_pointed.ensures.led b out es (setting-stays b u _ _ st hs) (before-stays _ _ out st hl) call js))

pub returns-clause-stays : goal.returns-clause-stays
returns-clause-stays c = stays_both _ _ _ c.in-Ok.ensures.stays c.next_pointed.ensures.stays
