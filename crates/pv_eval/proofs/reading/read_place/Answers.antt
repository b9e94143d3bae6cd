use Rattle.std.proofs.Common.{◌≡◌, ◌∷◌, false, subst}
use Rattle.std.specs.Prelude.{OnOk, ◌&&◌}
use Rattle.pv_types.specs.declared.terms.TypeId.{TypeId}
use Rattle.pv_types.specs.Known.{Known, tree, env}
use Rattle.pv_types.specs.Layouts.{is_complete_in}
use Rattle.pv_seq.specs.Sequencing.{with_access, rivals}
use Rattle.pv_seq.specs.Rivals.{top, below}
use Rattle.pv_world.specs.Worths.{pointer_of}
use Rattle.pv_world.specs.Coming.{Did, worth_of}
use Rattle.pv_eval.specs.TypeForms.{lvalue}
use Rattle.pv_world.specs.Suiting.{is_size}
use Rattle.pv_eval.specs.Sizes.{setting_of, size_in, IsComplete}
use Rattle.pv_eval.specs.Accesses.{access_to}
use Rattle.pv_eval.specs.Operations.{Reads, does}
use Rattle.pv_eval.proofs.Chosen.{unsuited}
use Rattle.pv_eval.proofs.Through.{fits_lvalue, lvalue_unfit, left_false}
use Rattle.pv_eval.proofs.reading.read_place.Goals as goal

pub read_known-requires-clause-complete : goal.read_known-requires-clause-complete
read_known-requires-clause-complete c = subst (λ (m : Known). IsComplete m c.in-Some.l) c.types.ensures c.in-Some.ensures.complete

pub returns-in-Some-clause-did : goal.returns-in-Some-clause-did
returns-in-Some-clause-did c =
    let u = c.args.unit.now in
    let w = c.args.world.now in
    let place = worth_of c.args.place.now in
    let P : TypeId → Type 0 = λ x. Did worth_of (does (setting_of u) (Reads (lvalue (setting_of u) (tree u.known x.0)) place (rivals (top c.args.journal.now)))) c.read_known.result w c.read_known.new.world c.args.told.now.items c.read_known.new.told.items in
    subst P c.in-Some.ensures.same c.read_known.ensures.did

pub returns-in-Some-clause-noted : goal.returns-in-Some-clause-noted
returns-in-Some-clause-noted c =
    let u = c.args.unit.now in
    let place = worth_of c.args.place.now in
    let P : TypeId → Type 0 = λ x. OnOk c.read_known.result (c.read_known.new.journal ≡ with_access (access_to (lvalue (setting_of u) (tree u.known x.0)) (pointer_of place) false) (top c.args.journal.now) ∷ below c.args.journal.now) in
    subst P c.in-Some.ensures.same c.read_known.ensures.noted

pub returns-in-None-clause-did : goal.returns-in-None-clause-did
returns-in-None-clause-did c =
    let u = c.args.unit.now in
    let w = c.args.world.now in
    let place = worth_of c.args.place.now in
    let T = tree u.known c.args.t.0 in
    let P : Known → Type 0 = λ m. false ≡ (is_complete_in (env m) (tree m c.args.t.0) && is_size (size_in m (tree m c.args.t.0))) in
    let unfit = lvalue_unfit u T (subst P c.types.ensures c.in-None.ensures.test) in
    unsuited worth_of (setting_of u) (Reads (lvalue (setting_of u) T) place (rivals (top c.args.journal.now))) w c.unfit.result _ _ (left_false (fits_lvalue u T) _ unfit) c.unfit.ensures
