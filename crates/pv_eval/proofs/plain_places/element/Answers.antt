use Rattle.std.proofs.Common.{◌^◌, Some, FitsSigned, rules, sym, ap, ◌∙◌, subst, ℤ, true, w64, to_z, of_z}
use Rattle.std.specs.Int.{w128}
use Rattle.std.proofs.lemmas.Int.{to_z-of_z}
use Rattle.std.proofs.lemmas.Bool.{le-leb}
use Rattle.pv_fault.specs.declared.faults.Clause.TheVariants.{AdditionOfPointers}
use Rattle.pv_world.specs.Worlds.{Worth}
use Rattle.pv_world.specs.Worths.{int, pointer}
use Rattle.pv_world.specs.Pointers.{distance}
use Rattle.pv_world.specs.Suiting.{is_small}
use Rattle.pv_eval.specs.Operations.{Moves}
use Rattle.pv_eval.specs.Plainly.{GivesAt, HasMoved, found_worth, pointer_at}
use Rattle.pv_eval.proofs.PlainPlaces.{stepped_some}
use Rattle.pv_eval.proofs.plain_places.element.Goals as goal

pub returns-in-Some : goal.returns-in-Some
returns-in-Some c =
    let w = c.args.world.now in
    let minus = c.args.minus in
    let size = c.args.size in
    let p = c.in-Place.p in
    let q = pointer (pointer_at c.in-Some.q) in
    let n = c.in_ok-n.n in
    let fn : FitsSigned w64 n = search rules in
    let ff : FitsSigned w128 c.from.result = search rules in
    let fd : FitsSigned w128 c.distance.result = search rules in
    let fb : FitsSigned w64 c.in_ok-by.by = search rules in
    let h : HasMoved AdditionOfPointers w.memory.table (pointer_at p) (to_z w64 (of_z w64 c.in_ok-by.by)) (pointer_at c.in-Some.q) = c.in-Some.ensures AdditionOfPointers in
    subst (λ (v : Worth). GivesAt w (λ b. Moves minus true size v (found_worth c.args.index)) q) (sym (ap found_worth c.in-Place.is))
    (subst (λ (v : Worth). GivesAt w (λ b. Moves minus true size (pointer (pointer_at p)) v) q) (sym c.in_ok-n.ensures)
    (stepped_some w p minus size n c.in_ok-by.by (Some c.in-Some.q) (le-leb size (2 ^ 32) c.requires)
    (ap (λ (z : ℤ). is_small (int z)) (sym (to_z-of_z w64 n fn)) ∙ sym c.is_small.ensures ∙ c.if-not-is_small.false)
    (c.in_ok-by.ensures ∙ to_z-of_z w128 c.distance.result fd ∙ c.distance.ensures ∙ ap (distance minus size) (to_z-of_z w128 c.from.result ff ∙ c.from.ensures ∙ to_z-of_z w64 n fn))
    (subst (λ (z : ℤ). HasMoved AdditionOfPointers w.memory.table (pointer_at p) z (pointer_at c.in-Some.q)) (to_z-of_z w64 c.in_ok-by.by fb) h)))
