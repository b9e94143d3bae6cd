use Rattle.std.proofs.Common.{◌≡◌, ◌+◌, sym, ap, ◌∙◌, ◌++◌, ◌∷◌, [], arith, length, length-append}
use Rattle.std.specs.Prelude.{map, Err}
use Rattle.std.proofs.lemmas.Grind.{common_steps}
use Rattle.pv_seq.specs.Rivals.{top}
use Rattle.pv_typed.specs.TypedTree.{Arguments, type_of, line_of}
use Rattle.pv_typed.specs.Nodes.{arguments_in}
use Rattle.pv_typed.specs.Tables.{nodes}
use Rattle.pv_typed.specs.NodeTrees.{expression_at, list_at}
use Rattle.pv_world.specs.Coming.{worth_of}
use Rattle.pv_eval.specs.OfRuns.{ev_ask}
use Rattle.pv_eval.specs.Moments.{state_of}
use Rattle.pv_eval.specs.Frames.{arguments_from, asked_with}
use Rattle.pv_eval.proofs.Cases.{came-stops, then-gives, led-from, setting-stays, before-stays}
use Rattle.pv_eval.proofs.LibraryCalls.{asked-led, asked-next}
use Rattle.pv_eval.proofs.Cases.{stays_both}
use Rattle.pv_eval.proofs.library.resume_library.Goals as goal

pub returns-in-Err-clause-led : goal.returns-in-Err-clause-led
returns-in-Err-clause-led c = λ b out es hs hl call.
    let u = c.args.unit.now in
    let x = expression_at u c.args.n in
    asked-led b call u c.args.n (line_of x) c.len-i.result c.in-LibraryCall.f c.in-LibraryCall.l c.args.got c.children-children.result.now c.children-children.ensures (grind (arith, common_steps)) (type_of x) c.args.x (worth_of c.args.v) (state_of c.args.moment.now out es) (Err c.in-Err.e) c.args.journal.now (top c.args.journal.now) (state_of c.hand.new.moment out es) c.in-LibraryCall.is c.if-i-children.true
    (came-stops b call u _ _ c.in-Err.e c.args.journal.now _ (c.in-Err.ensures.came b out es hs hl))

pub returns-clause-led : goal.returns-clause-led
returns-clause-led c = λ b out es hs hl call.
    let u = c.args.unit.now in
    let x = expression_at u c.args.n in
    let xs : Arguments = arguments_in (nodes u) (list_at u c.in-LibraryCall.l) in
    let s1 = c.in-Ok.ensures.stays in
    let items : c.push.new.self.items ≡ c.args.got.items ++ c.in-Ok.v ∷ [] = grind (arith, common_steps) in
    let long : length c.push.new.self.items ≡ length c.args.got.items + 1 = ap length items ∙ length-append c.args.got.items (c.in-Ok.v ∷ []) in
    asked-led b call u c.args.n (line_of x) c.len-i.result c.in-LibraryCall.f c.in-LibraryCall.l c.args.got c.children-children.result.now c.children-children.ensures (grind (arith, common_steps)) (type_of x) c.args.x (worth_of c.args.v) (state_of c.args.moment.now out es) c.next_or_ask.result c.next_or_ask.new.journal (top c.args.journal.now) (state_of c.next_or_ask.new.moment out es) c.in-LibraryCall.is c.if-i-children.true
    (led-from b call u _ _ c.next_or_ask.result c.next_or_ask.new.journal _
    (then-gives _ _ _ _ (c.in-Ok.ensures.came b out es hs hl)
    ∙ ap (λ g. ev_ask b call (line_of x) c.in-LibraryCall.f g (arguments_from xs (length c.args.got.items + 1)) (top c.args.journal.now) (state_of c.hand.new.moment out es)) (asked-next b call u c.args.n (line_of x) c.len-i.result c.in-LibraryCall.f c.in-LibraryCall.l c.args.got c.children-children.result.now c.children-children.ensures (grind (arith, common_steps)) c.if-i-children.true c.in-Ok.v c.push.new.self.items items)
    ∙ ap (λ k. ev_ask b call (line_of x) c.in-LibraryCall.f (asked_with xs (map worth_of c.push.new.self.items)) (arguments_from xs k) (top c.args.journal.now) (state_of c.hand.new.moment out es)) (sym long)
    ∙ ap (λ k. ev_ask b call k c.in-LibraryCall.f (asked_with xs (map worth_of c.push.new.self.items)) (arguments_from xs (length c.push.new.self.items)) (top c.args.journal.now) (state_of c.hand.new.moment out es)) (sym (c.line_of.ensures.expression c.requires.there)))
    (c.next_or_ask.ensures.led b out es (setting-stays b u _ _ s1 hs) (before-stays _ _ out s1 hl) call))

pub returns-clause-stays : goal.returns-clause-stays
returns-clause-stays c = stays_both _ _ _ c.in-Ok.ensures.stays c.next_or_ask.ensures.stays
