use Rattle.std.proofs.Common.{sym, ap, ◌∙◌, ◌∷◌, arith, length}
use Rattle.std.specs.Prelude.{map}
use Rattle.std.proofs.lemmas.Grind.{common_steps}
use Rattle.pv_seq.specs.Sequencing.{open_against}
use Rattle.pv_typed.specs.TypedTree.{Arguments, form_of}
use Rattle.pv_typed.specs.Nodes.{arguments_in}
use Rattle.pv_typed.specs.Tables.{nodes}
use Rattle.pv_typed.specs.NodeTrees.{expression_at, list_at}
use Rattle.pv_world.specs.Coming.{worth_of}
use Rattle.pv_eval.specs.Evaluation.{ev_by, ev}
use Rattle.pv_eval.specs.OfRuns.{ev_ask}
use Rattle.pv_eval.specs.Moments.{state_of}
use Rattle.pv_eval.specs.Frames.{arguments_from, asked_with}
use Rattle.pv_eval.proofs.Cases.{came-given, led-from}
use Rattle.pv_eval.proofs.LibraryCalls.{asked-none, next-asked, all-asked}
use Rattle.pv_eval.proofs.LibraryCalls.{child-there, library-more}
use Rattle.pv_eval.proofs.library.begin_library.Goals as goal

pub returns-then-i-children-clause-led : goal.returns-then-i-children-clause-led
unfolding ev_by
returns-then-i-children-clause-led c = λ b out es hs hl call fs js.
    let u = c.args.unit.now in
    let xs : Arguments = arguments_in (nodes u) (list_at u c.args.l) in
    let s = state_of c.args.moment.now out es in
    ap (λ g. ev_ask b call c.args.line c.args.f g xs (open_against fs) s) (sym (ap (λ z. asked_with xs (map worth_of z)) c.new-got.ensures.items ∙ asked-none xs))
    ∙ ap (λ k. ev_ask b call c.args.line c.args.f (asked_with xs (map worth_of c.new-got.result.items)) (arguments_from xs k) (open_against fs) s) (sym (ap length c.new-got.ensures.items))
    ∙ sym (next-asked b call u c.args.n c.args.line c.len-i.result c.args.f c.args.l c.new-got.result c.children-children.result.now c.children-children.ensures (grind (arith, common_steps)) (open_against fs) s c.requires.form c.requires.line c.if-i-children.true)

pub returns-else-i-children-clause-led : goal.returns-else-i-children-clause-led
unfolding ev_by
returns-else-i-children-clause-led c = λ b out es hs hl call fs js.
    let u = c.args.unit.now in
    let xs : Arguments = arguments_in (nodes u) (list_at u c.args.l) in
    let s = state_of c.args.moment.now out es in
    led-from b call u _ _ c.give.result (open_against fs ∷ js) _
    (ap (λ g. ev_ask b call c.args.line c.args.f g xs (open_against fs) s) (sym (ap (λ z. asked_with xs (map worth_of z)) c.new-got.ensures.items ∙ asked-none xs))
    ∙ ap (λ k. ev_ask b call c.args.line c.args.f (asked_with xs (map worth_of c.new-got.result.items)) (arguments_from xs k) (open_against fs) s) (sym (ap length c.new-got.ensures.items))
    ∙ all-asked b call u c.args.n c.args.line c.len-i.result c.args.f c.args.l c.new-got.result c.children-children.result.now c.children-children.ensures (grind (arith, common_steps)) (open_against fs) s (omega (arith, c.if-i-children.false)))
    (rw c.give.ensures (came-given b call u c.ask.result _ (open_against fs ∷ js) _ (c.ask.ensures.acted b out es hs hl)))

pub returns-then-i-children-clause-fits : goal.returns-then-i-children-clause-fits
returns-then-i-children-clause-fits c =
    let u = c.args.unit.now in
    (child-there u c.args.l c.args.n c.len-i.result c.children-children.result.now c.children-children.ensures c.requires.list c.requires.there.0 c.if-i-children.true, (c.requires.there, library-more (form_of (expression_at u c.args.n)) c.args.f (nodes u) (list_at u c.args.l) c.children-children.result.now c.len-i.result _ c.children-children.ensures (grind (arith, common_steps)) c.requires.form c.if-i-children.true))
