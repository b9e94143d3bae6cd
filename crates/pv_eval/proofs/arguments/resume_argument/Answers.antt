use Rattle.std.proofs.Common.{◌≡◌, ◌+◌, sym, ap, ◌∙◌, ◌++◌, ◌∷◌, [], arith, length, length-append, subst}
use Rattle.std.specs.Prelude.{map, Err, Ok}
use Rattle.std.proofs.lemmas.Grind.{common_steps}
use Rattle.pv_seq.specs.Rivals.{top}
use Rattle.pv_typed.specs.TypedTree.{type_of, line_of}
use Rattle.pv_typed.specs.declared.nodes.Typed.{Typed}
use Rattle.pv_typed.specs.Nodes.{form_in, arguments_in}
use Rattle.pv_typed.specs.Tables.{nodes}
use Rattle.pv_typed.specs.NodeTrees.{expression_at, list_at}
use Rattle.pv_eval.specs.OfRuns.{ev_call}
use Rattle.pv_world.specs.Coming.{worth_of}
use Rattle.pv_eval.specs.Moments.{state_of}
use Rattle.pv_eval.specs.Frames.{arguments_from, argument_after}
use Rattle.pv_eval.specs.Ahead.{Led}
use Rattle.pv_eval.proofs.Cases.{came-stops, then-gives}
use Rattle.pv_eval.proofs.Calls.{argument-led, map-last}
use Rattle.pv_eval.proofs.arguments.resume_argument.Goals as goal

pub returns-in-Err-clause-led : goal.returns-in-Err-clause-led
returns-in-Err-clause-led c = λ b out es hs hl call.
    let u = c.args.unit.now in
    let x = expression_at u c.args.n in
    argument-led b call u c.args.n (line_of x) c.in-Call.f c.len-i.result c.in-Call.l c.args.got c.children-children.result.now c.children-children.ensures (grind (arith, common_steps)) (type_of x) c.args.x (worth_of c.args.v) (state_of c.args.moment.now out es) (Err c.in-Err.e) c.args.journal.now (state_of c.hand.new.moment out es) c.in-Call.is c.if-i-children.true
    (came-stops b call u _ _ c.in-Err.e c.args.journal.now _ (c.in-Err.ensures.came b out es hs hl))

pub returns-else-is_err-clause-led : goal.returns-else-is_err-clause-led
returns-else-is_err-clause-led c = λ b out es hs hl call.
    let u = c.args.unit.now in
    let x = expression_at u c.args.n in
    let items : c.push.new.self.items ≡ c.args.got.items ++ c.in-Ok.v ∷ [] = grind (arith, common_steps) in
    argument-led b call u c.args.n (line_of x) c.in-Call.f c.len-i.result c.in-Call.l c.args.got c.children-children.result.now c.children-children.ensures (grind (arith, common_steps)) (type_of x) c.args.x (worth_of c.args.v) (state_of c.args.moment.now out es) (Ok c.next_argument.result) c.args.journal.now (state_of c.hand.new.moment out es) c.in-Call.is c.if-i-children.true
    (then-gives _ _ _ _ (c.in-Ok.ensures.came b out es hs hl)
    ∙ ap (λ g. ev_call b call (line_of x) c.in-Call.f g (arguments_from (arguments_in (nodes u) (list_at u c.in-Call.l)) (length c.args.got.items + 1)) (top c.args.journal.now) (state_of c.hand.new.moment out es)) (sym (ap (map worth_of) items ∙ map-last c.args.got.items c.in-Ok.v))
    ∙ ap (λ k. ev_call b call k c.in-Call.f (map worth_of c.push.new.self.items) (arguments_from (arguments_in (nodes u) (list_at u c.in-Call.l)) (length c.args.got.items + 1)) (top c.args.journal.now) (state_of c.hand.new.moment out es)) (sym (c.line_of.ensures.expression c.requires.there))
    ∙ ap (λ k. ev_call b call c.line_of.result c.in-Call.f (map worth_of c.push.new.self.items) (arguments_from (arguments_in (nodes u) (list_at u c.in-Call.l)) k) (top c.args.journal.now) (state_of c.hand.new.moment out es)) (sym (ap length items ∙ length-append c.args.got.items (c.in-Ok.v ∷ [])))
    ∙ sym (c.next_argument.ensures.means b call (top c.args.journal.now) (state_of c.hand.new.moment out es)))

pub returns-in-CallPointer-clause-led : goal.returns-in-CallPointer-clause-led
returns-in-CallPointer-clause-led c = λ b out es hs hl call.
    let u = c.args.unit.now in
    let x = expression_at u c.args.n in
    let P : Typed → Type 0 = λ y. Led b call u (argument_after b call (type_of x) (line_of x) (form_in u.lists (nodes u) y) (length c.args.got.items) (map worth_of c.args.got.items) (top c.args.journal.now) (worth_of c.args.v) (state_of c.args.moment.now out es)) c.resume_pointed.result c.args.journal.now (state_of c.resume_pointed.new.moment out es) in
    subst P (sym c.in-CallPointer.is) (c.resume_pointed.ensures.led b out es hs hl call c.args.journal.now)
