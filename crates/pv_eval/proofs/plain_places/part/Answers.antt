use Rattle.std.proofs.Common.{Some, FitsSigned, rules, sym, ap, ◌∙◌, subst, ℤ, w64, to_z, of_z}
use Rattle.std.specs.Int.{w128}
use Rattle.std.proofs.lemmas.Int.{to_z-of_z}
use Rattle.pv_fault.specs.declared.faults.Clause.TheVariants.{Indirection}
use Rattle.pv_world.specs.Worlds.{Worth}
use Rattle.pv_world.specs.Worths.{pointer}
use Rattle.pv_eval.specs.Operations.{Selects}
use Rattle.pv_eval.specs.Plainly.{GivesAt, HasMoved, found_worth, pointer_at}
use Rattle.pv_eval.proofs.PlainPlaces.{selected_some}
use Rattle.pv_eval.proofs.plain_places.part.Goals as goal

pub returns-in-Some : goal.returns-in-Some
returns-in-Some c =
    let w = c.args.world.now in
    let p = c.in-Place.p in
    let q = pointer (pointer_at c.in-Some.q) in
    let ff : FitsSigned w128 c.from.result = search rules in
    let fb : FitsSigned w64 c.in_ok-by.by = search rules in
    let h : HasMoved Indirection w.memory.table (pointer_at p) (to_z w64 (of_z w64 c.in_ok-by.by)) (pointer_at c.in-Some.q) = c.in-Some.ensures Indirection in
    subst (λ (v : Worth). GivesAt w (λ b. Selects c.args.offset v) q) (sym (ap found_worth c.in-Place.is))
    (selected_some w p c.args.offset c.in_ok-by.by (Some c.in-Some.q)
    (c.in_ok-by.ensures ∙ to_z-of_z w128 c.from.result ff ∙ c.from.ensures)
    (subst (λ (z : ℤ). HasMoved Indirection w.memory.table (pointer_at p) z (pointer_at c.in-Some.q)) (to_z-of_z w64 c.in_ok-by.by fb) h))
