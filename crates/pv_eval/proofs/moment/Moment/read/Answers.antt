use Rattle.std.proofs.Common.{false, refl, subst}
use Rattle.pv_types.specs.Ty.{Ty}
use Rattle.pv_types.specs.Known.{tree}
use Rattle.pv_seq.specs.Sequencing.{rivals}
use Rattle.pv_seq.specs.Rivals.{top}
use Rattle.pv_world.specs.Worths.{pointer_of}
use Rattle.pv_world.specs.Coming.{Did, worth_of}
use Rattle.pv_typed.specs.TypedTree.{type_of}
use Rattle.pv_typed.specs.NodeTrees.{expression_at}
use Rattle.pv_eval.specs.TypeForms.{lvalue}
use Rattle.pv_eval.specs.Sizes.{setting_of}
use Rattle.pv_eval.specs.Accesses.{access_to}
use Rattle.pv_eval.specs.Operations.{Reads, does}
use Rattle.pv_eval.specs.Moments.{Came as CameTo, state_of}
use Rattle.pv_eval.proofs.Chosen.{did_in, closing}
use Rattle.pv_eval.proofs.Through.{noted_closed, below_closed, some_closed, access_is}
use Rattle.pv_eval.proofs.moment.Moment.read.Goals as goal

pub returns-clause-acted : goal.returns-clause-acted
returns-clause-acted c = λ b out es hs hf.
    let u = c.args.unit.now in
    let T = type_of (expression_at u c.args.a) in
    let place = worth_of c.args.place.now in
    let r = c.read_place-answer.result in
    let P : Ty → Type 0 = λ x. Did worth_of (does (setting_of u) (Reads (lvalue (setting_of u) x) place (rivals (top c.args.journal.now)))) r c.self.inside.world c.read_place-answer.new.world c.new-told.result.items c.read_place-answer.new.told.items in
    let did = subst P c.type_of-t.ensures.tree c.read_place-answer.ensures.did in
    closing worth_of (λ z. CameTo z c.close.result (state_of c.close.new.self out es)) b u (Reads (lvalue b T) place (rivals (top c.args.journal.now))) (Reads (lvalue b T) place (rivals (top c.args.journal.now))) c.args.line r _ _ _ _ _ _ out es
    c.self.view_is hs hf c.new-told.ensures.items c.deref.ensures.value refl
    (did_in worth_of b u (λ s. Reads (lvalue s T) place (rivals (top c.args.journal.now))) r _ _ _ _ hs.unit hs.types refl did)
    (λ op s f d. c.close.ensures.acted b _ op out es s c.pairs_made-before.ensures f d)

pub returns-clause-noted : goal.returns-clause-noted
returns-clause-noted c =
    let u = c.args.unit.now in
    let T = type_of (expression_at u c.args.a) in
    let place = worth_of c.args.place.now in
    noted_closed (access_to (lvalue (setting_of u) (tree u.known c.type_of-t.result.0)) (pointer_of place) false) c.read_place-answer.result c.args.journal.now c.read_place-answer.new.journal (λ b. access_to (lvalue b T) (pointer_of place) false) u _ c.close.result
    c.close.ensures.same c.read_place-answer.ensures.noted (λ b hs. access_is b u _ T (pointer_of place) false hs.unit c.type_of-t.ensures.tree)

pub returns-clause-below : goal.returns-clause-below
returns-clause-below c =
    let u = c.args.unit.now in
    let T = type_of (expression_at u c.args.a) in
    let place = worth_of c.args.place.now in
    below_closed (access_to (lvalue (setting_of u) (tree u.known c.type_of-t.result.0)) (pointer_of place) false) c.read_place-answer.result c.args.journal.now c.read_place-answer.new.journal c.close.result c.close.ensures.same c.read_place-answer.ensures.noted

pub returns-clause-some : goal.returns-clause-some
returns-clause-some c =
    let u = c.args.unit.now in
    let T = type_of (expression_at u c.args.a) in
    let place = worth_of c.args.place.now in
    some_closed (access_to (lvalue (setting_of u) (tree u.known c.type_of-t.result.0)) (pointer_of place) false) c.read_place-answer.result c.args.journal.now c.read_place-answer.new.journal c.close.result c.close.ensures.same c.read_place-answer.ensures.noted
