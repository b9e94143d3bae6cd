use Rattle.std.proofs.Common.{◌≡◌, ℕ, ◌∷◌, true, sym, ap, ◌∙◌, subst}
use Rattle.std.specs.Prelude.{OnOk, ◌&&◌}
use Rattle.pv_types.specs.Known.{Known, tree}
use Rattle.pv_object.specs.declared.values.Pointer.{Pointer}
use Rattle.pv_seq.specs.Sequencing.{Access, with_access, rivals}
use Rattle.pv_seq.specs.SequencingParts.{access_of}
use Rattle.pv_seq.specs.Rivals.{top, below}
use Rattle.pv_world.specs.declared.got.Shape.{Shape}
use Rattle.pv_world.specs.Worlds.{Worth}
use Rattle.pv_world.specs.Worths.{pointer_of}
use Rattle.pv_world.specs.Doing.{Done}
use Rattle.pv_world.specs.Preconditions.{IsStored, HasSizeOf}
use Rattle.pv_world.specs.Coming.{Did, Came, coming_of, worth_of}
use Rattle.pv_eval.specs.TypeForms.{lvalue, shape_of}
use Rattle.pv_world.specs.Suiting.{is_stored, knows_worth}
use Rattle.pv_eval.specs.Sizes.{setting_of, size_in}
use Rattle.pv_eval.specs.Accesses.{writes_to}
use Rattle.pv_eval.specs.Operations.{Writes}
use Rattle.pv_world.proofs.Guards.{both_of}
use Rattle.pv_eval.proofs.Settings.{scalar_sized}
use Rattle.pv_eval.proofs.Chosen.{suited, unsuited}
use Rattle.pv_eval.proofs.Through.{fits_lvalue, lvalue_fits, right_false, stored_present}
use Rattle.pv_eval.proofs.reading.write_known.Goals as goal

pub write_to-requires-clause-value : goal.write_to-requires-clause-value
write_to-requires-clause-value c =
    let k = c.types.result.now in
    let shaped = c.shape.ensures ∙ ap (λ (m : Known). shape_of (tree m c.args.l.t.0)) c.types.ensures in
    let size = c.requires.complete.size ∙ ap (λ (m : Known). size_in m (tree m c.args.l.t.0)) (sym c.types.ensures) in
    let P1 : Shape → Type 0 = λ s. HasSizeOf s c.args.l.size in
    let P2 : ℕ → Type 0 = λ n. HasSizeOf (shape_of (tree k c.args.l.t.0)) n in
    let has = subst P1 (sym c.shape.ensures) (subst P2 (sym size) (scalar_sized k (tree k c.args.l.t.0))) in
    let P3 : Shape → Type 0 = λ s. IsStored s c.args.l.size (worth_of c.args.v) in
    let stored = subst P3 shaped (c.can_write.ensures.stored has c.if-can_write.true) in
    stored

pub write_to-requires-clause-value_made : goal.write_to-requires-clause-value_made
write_to-requires-clause-value_made c = c.can_write.ensures.made c.if-can_write.true

pub write_to-requires-clause-made : goal.write_to-requires-clause-made
write_to-requires-clause-made c = c.pointer_of.ensures.made c.args.world.now.memory.table (c.can_write.ensures.place c.if-can_write.true)

pub returns-then-can_write-clause-did : goal.returns-then-can_write-clause-did
returns-then-can_write-clause-did c =
    let u = c.args.unit.now in
    let l = lvalue (setting_of u) (tree u.known c.args.l.t.0) in
    let w = c.args.world.now in
    let place = worth_of c.args.place.now in
    let v = worth_of c.args.v in
    let rs = rivals (top c.args.journal.now) in
    let k = c.types.result.now in
    let shaped = c.shape.ensures ∙ ap (λ (m : Known). shape_of (tree m c.args.l.t.0)) c.types.ensures in
    let size = c.requires.complete.size ∙ ap (λ (m : Known). size_in m (tree m c.args.l.t.0)) (sym c.types.ensures) in
    let P1 : Shape → Type 0 = λ s. HasSizeOf s c.args.l.size in
    let P2 : ℕ → Type 0 = λ n. HasSizeOf (shape_of (tree k c.args.l.t.0)) n in
    let has = subst P1 (sym c.shape.ensures) (subst P2 (sym size) (scalar_sized k (tree k c.args.l.t.0))) in
    let P3 : Shape → Type 0 = λ s. IsStored s c.args.l.size (worth_of c.args.v) in
    let stored = subst P3 shaped (c.can_write.ensures.stored has c.if-can_write.true) in
    let both = knows_worth w.memory.table place && knows_worth w.memory.table v in
    let tested = c.can_write.ensures.value ∙ ap (λ (s : Shape). is_stored s c.args.l.size v && both) shaped ∙ ap (λ n. is_stored (shape_of (tree u.known c.args.l.t.0)) n v && both) c.requires.complete.size in
    let fits = fits_lvalue u (tree u.known c.args.l.t.0) in
    let right = is_stored (shape_of (tree u.known c.args.l.t.0)) (size_in u.known (tree u.known c.args.l.t.0)) v && both in
    let known = both_of fits right (lvalue_fits u c.args.l c.requires.complete) (sym tested ∙ c.if-can_write.true) in
    let r = c.write_to.result in
    let P : Pointer → Type 0 = λ p. Did worth_of (λ x. writes_to (setting_of u) l p c.args.from rs x v) r w c.write_to.new.world c.args.told.now.items c.write_to.new.told.items in
    let did = subst P c.pointer_of.ensures.value c.write_to.ensures.did in
    let go : Worth → Done = writes_to (setting_of u) l (pointer_of place) c.args.from rs w in
    let Q : Done → Type 0 = λ d. Came worth_of r c.write_to.new.world c.write_to.new.told.items (coming_of c.args.told.now.items w d) in
    suited worth_of (setting_of u) (Writes l place v c.args.from (rivals (top c.args.journal.now))) w r _ _ _ known (subst Q (sym (stored_present _ _ v w go stored)) did)

pub returns-then-can_write-clause-noted : goal.returns-then-can_write-clause-noted
returns-then-can_write-clause-noted c =
    let u = c.args.unit.now in
    let l = lvalue (setting_of u) (tree u.known c.args.l.t.0) in
    let w = c.args.world.now in
    let place = worth_of c.args.place.now in
    let P : Access → Type 0 = λ a. OnOk c.write_to.result (c.write_to.new.journal ≡ with_access a (top c.args.journal.now) ∷ below c.args.journal.now) in
    subst P (ap (λ (q : Pointer). access_of q.address c.args.l.size true) c.pointer_of.ensures.value ∙ ap (λ n. access_of (pointer_of place).address n true) c.requires.complete.size)
    c.write_to.ensures.noted

pub returns-else-can_write-clause-did : goal.returns-else-can_write-clause-did
returns-else-can_write-clause-did c =
    let u = c.args.unit.now in
    let l = lvalue (setting_of u) (tree u.known c.args.l.t.0) in
    let w = c.args.world.now in
    let place = worth_of c.args.place.now in
    let v = worth_of c.args.v in
    let k = c.types.result.now in
    let shaped = c.shape.ensures ∙ ap (λ (m : Known). shape_of (tree m c.args.l.t.0)) c.types.ensures in
    let both = knows_worth w.memory.table place && knows_worth w.memory.table v in
    let tested = c.can_write.ensures.value ∙ ap (λ (s : Shape). is_stored s c.args.l.size v && both) shaped ∙ ap (λ n. is_stored (shape_of (tree u.known c.args.l.t.0)) n v && both) c.requires.complete.size in
    let fits = fits_lvalue u (tree u.known c.args.l.t.0) in
    let right = is_stored (shape_of (tree u.known c.args.l.t.0)) (size_in u.known (tree u.known c.args.l.t.0)) v && both in
    unsuited worth_of (setting_of u) (Writes l place v c.args.from (rivals (top c.args.journal.now))) w c.unfit.result _ _ (right_false fits right (sym tested ∙ c.if-can_write.false)) c.unfit.ensures
