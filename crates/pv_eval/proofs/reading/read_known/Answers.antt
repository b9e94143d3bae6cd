use Rattle.std.proofs.Common.{◌≡◌, ◌∷◌, false, sym, ap, ◌∙◌, subst}
use Rattle.std.specs.Prelude.{OnOk}
use Rattle.pv_types.specs.Known.{tree}
use Rattle.pv_object.specs.declared.values.Pointer.{Pointer}
use Rattle.pv_seq.specs.Sequencing.{Access, with_access, rivals}
use Rattle.pv_seq.specs.SequencingParts.{access_of}
use Rattle.pv_seq.specs.Rivals.{top, below}
use Rattle.pv_world.specs.Worths.{pointer_of}
use Rattle.pv_world.specs.Coming.{Did, worth_of}
use Rattle.pv_eval.specs.TypeForms.{lvalue}
use Rattle.pv_world.specs.Suiting.{knows_worth}
use Rattle.pv_eval.specs.Sizes.{setting_of}
use Rattle.pv_eval.specs.AccessParts.{reads_from}
use Rattle.pv_eval.specs.Operations.{Reads}
use Rattle.pv_world.proofs.Guards.{both_of}
use Rattle.pv_eval.proofs.Chosen.{suited, unsuited}
use Rattle.pv_eval.proofs.Through.{fits_lvalue, lvalue_fits, right_false}
use Rattle.pv_eval.proofs.reading.read_known.Goals as goal

pub read_from-requires-clause-made : goal.read_from-requires-clause-made
read_from-requires-clause-made c = c.pointer_of.ensures.made c.args.world.now.memory.table (c.knows.ensures.made c.if-knows.true)

pub returns-then-knows-clause-did : goal.returns-then-knows-clause-did
returns-then-knows-clause-did c =
    let u = c.args.unit.now in
    let l = lvalue (setting_of u) (tree u.known c.args.l.t.0) in
    let w = c.args.world.now in
    let place = worth_of c.args.place.now in
    let rs = rivals (top c.args.journal.now) in
    let known = both_of (fits_lvalue u (tree u.known c.args.l.t.0)) (knows_worth w.memory.table place) (lvalue_fits u c.args.l c.requires.complete) (sym c.knows.ensures.value ∙ c.if-knows.true) in
    let P : Pointer → Type 0 = λ p. Did worth_of (reads_from (setting_of u) l p rs) c.read_from.result w c.read_from.new.world c.args.told.now.items c.read_from.new.told.items in
    suited worth_of (setting_of u) (Reads l place (rivals (top c.args.journal.now))) w c.read_from.result _ _ _ known (subst P c.pointer_of.ensures.value c.read_from.ensures.did)

pub returns-then-knows-clause-noted : goal.returns-then-knows-clause-noted
returns-then-knows-clause-noted c =
    let u = c.args.unit.now in
    let l = lvalue (setting_of u) (tree u.known c.args.l.t.0) in
    let w = c.args.world.now in
    let place = worth_of c.args.place.now in
    let P : Access → Type 0 = λ a. OnOk c.read_from.result (c.read_from.new.journal ≡ with_access a (top c.args.journal.now) ∷ below c.args.journal.now) in
    subst P (ap (λ (q : Pointer). access_of q.address c.args.l.size false) c.pointer_of.ensures.value ∙ ap (λ n. access_of (pointer_of place).address n false) c.requires.complete.size)
    c.read_from.ensures.noted

pub returns-else-knows-clause-did : goal.returns-else-knows-clause-did
returns-else-knows-clause-did c =
    let u = c.args.unit.now in
    let l = lvalue (setting_of u) (tree u.known c.args.l.t.0) in
    let w = c.args.world.now in
    let place = worth_of c.args.place.now in
    unsuited worth_of (setting_of u) (Reads l place (rivals (top c.args.journal.now))) w c.unfit.result _ _
    (right_false (fits_lvalue u (tree u.known c.args.l.t.0)) (knows_worth w.memory.table place) (sym c.knows.ensures.value ∙ c.if-knows.false)) c.unfit.ensures
