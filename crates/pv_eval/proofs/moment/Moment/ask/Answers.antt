use Rattle.std.proofs.Common.{ap, ◌∙◌, map}
use Rattle.pv_typed.specs.Nodes.{arguments_in}
use Rattle.pv_typed.specs.Tables.{nodes}
use Rattle.pv_typed.specs.NodeTrees.{list_at}
use Rattle.pv_world.specs.Coming.{worth_of}
use Rattle.pv_eval.specs.Frames.{asked_with}
use Rattle.pv_eval.specs.Operations.{Asks, does}
use Rattle.pv_eval.specs.Moments.{Came, state_of}
use Rattle.pv_eval.proofs.Printing.{wrote_by, closing_text, stays_from}
use Rattle.pv_eval.proofs.moment.Moment.ask.Goals as goal

pub returns-clause-acted : goal.returns-clause-acted
returns-clause-acted c = λ b out es hs hf.
    let u = c.args.unit.now in
    let ts = nodes u in
    let f = c.args.f in
    let ids = list_at u c.args.l in
    let args = c.deref-2.result.now in
    let answer = c.ask_in-answer.result in
    let w = c.self.inside.world in
    let v = c.ask_in-answer.new.world in
    let told = c.deref-3.result.now in
    let text = c.deref-4.result.now in
    closing_text b u (Asks f (asked_with (arguments_in ts ids) (map worth_of c.args.got.now.items))) (Asks f args) c.args.line
    answer _ _ v told text out es (λ z. Came z c.close_printed.result (state_of c.close_printed.new.self out es))
    c.self.view_is hs hf
    (ap (Asks f) (c.deref-2.ensures.value
    ∙ c.in-Ok.ensures
    ∙ ap (λ ns. asked_with (arguments_in ts ns) (map worth_of c.deref.result.now)) c.children.ensures
    ∙ ap (λ vs. asked_with (arguments_in ts ids) (map worth_of vs)) c.deref.ensures.value))
    (wrote_by (does b (Asks f args)) answer w v _ _ told _ _ text c.new-told.ensures.items c.deref-3.ensures.value c.new-text.ensures.items c.deref-4.ensures.value (c.ask_in-answer.ensures b))
    (λ op s f made. c.close_printed.ensures.acted b _ op out es s c.pairs_made-before.ensures f made)

pub returns-clause-stays : goal.returns-clause-stays
returns-clause-stays c = stays_from _ _ _ _ c.self.view_is c.close_printed.ensures.stays
