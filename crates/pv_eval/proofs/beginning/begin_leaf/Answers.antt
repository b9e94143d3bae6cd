use Rattle.std.proofs.Common.{◌∷◌, ap, sym}
use Rattle.pv_eval.specs.Sequenced.{node_value}
use Rattle.std.proofs.Common.{◌≡◌, arith}
use Rattle.std.proofs.lemmas.Int.{to_z-of_z}
use Rattle.pv_world.specs.Worths.{int}
use Rattle.pv_world.specs.Coming.{worth_of}
use Rattle.pv_eval.specs.Moments.{state_of}
use Rattle.pv_seq.specs.Sequencing.{open_against}
use Rattle.pv_eval.specs.Evaluation.{ev_by, ev}
use Rattle.pv_eval.specs.OfRuns.{ev_call}
use Rattle.std.proofs.Common.{◌∙◌}
use Rattle.std.specs.Prelude.{map, length}
use Rattle.pv_eval.specs.Frames.{arguments_from}
use Rattle.pv_typed.specs.Nodes.{arguments_in}
use Rattle.pv_typed.specs.Tables.{nodes}
use Rattle.pv_typed.specs.NodeTrees.{list_at}
use Rattle.pv_eval.proofs.Cases.{came-given}
use Rattle.pv_eval.proofs.beginning.begin_leaf.Goals as goal

pub returns-in-Constant-clause-led : goal.returns-in-Constant-clause-led
unfolding ev_by
returns-in-Constant-clause-led c = λ b out es hs hl call t j js.
    let e : worth_of c.integer.result ≡ int c.in-Constant.k = grind (arith, to_z-of_z) in
    rw c.in-Constant.is (ap (λ v. node_value (open_against j.foes) v (state_of c.args.moment.now out es)) (sym e))

pub returns-in-Sizeof-clause-led : goal.returns-in-Sizeof-clause-led
unfolding ev_by
returns-in-Sizeof-clause-led c = λ b out es hs hl call t j js. rw c.in-Sizeof.is (ap (λ v. node_value (open_against j.foes) v (state_of c.args.moment.now out es)) (sym c.size.ensures))

pub returns-in-LargeConstant-clause-led : goal.returns-in-LargeConstant-clause-led
unfolding ev_by
returns-in-LargeConstant-clause-led c = λ b out es hs hl call t j js.
    rw c.in-LargeConstant.is (ap (λ v. node_value (open_against j.foes) v (state_of c.args.moment.now out es)) (sym c.size-in-LargeConstant.ensures))

pub returns-in-Object-clause-led : goal.returns-in-Object-clause-led
unfolding ev_by
returns-in-Object-clause-led c = λ b out es hs hl call t j js. rw (c.in-Object.is, c.give.ensures) (came-given b call c.args.unit.now c.object.result _ (open_against j.foes ∷ js) _ (c.object.ensures.acted b out es hs hl))

pub returns-in-String-clause-led : goal.returns-in-String-clause-led
unfolding ev_by
returns-in-String-clause-led c = λ b out es hs hl call t j js. rw (c.in-String.is, c.give-in-String.ensures) (came-given b call c.args.unit.now c.literal.result _ (open_against j.foes ∷ js) _ (c.literal.ensures.acted b out es hs hl))

pub returns-in-Function-clause-led : goal.returns-in-Function-clause-led
unfolding ev_by
returns-in-Function-clause-led c = λ b out es hs hl call t j js. rw (c.in-Function.is, c.give-in-Function.ensures) (came-given b call c.args.unit.now c.function.result _ (open_against j.foes ∷ js) _ (c.function.ensures.acted b out es hs hl))

pub returns-in-Call-clause-led : goal.returns-in-Call-clause-led
unfolding ev_by
returns-in-Call-clause-led c = λ b out es hs hl call t j js.
    let u = c.args.unit.now in
    rw c.in-Call.is
    (ap (λ g. ev_call b call c.args.line c.in-Call.f (map worth_of g) (arguments_from (arguments_in (nodes u) (list_at u c.in-Call.l)) (length g)) (open_against j.foes) (state_of c.args.moment.now out es)) (sym c.new.ensures.items)
    ∙ sym (c.next_argument.ensures.means b call (open_against j.foes) (state_of c.args.moment.now out es)))

pub returns-in-LibraryCall-clause-led : goal.returns-in-LibraryCall-clause-led
unfolding ev_by
returns-in-LibraryCall-clause-led c = λ b out es hs hl call t j js. rw c.in-LibraryCall.is (c.begin_library.ensures.led b out es hs hl call j.foes js)
