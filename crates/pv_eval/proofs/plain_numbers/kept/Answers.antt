use Rattle.std.proofs.Common.{IfSome, Some, FitsSigned, rules, sym, ap, ◌∙◌, subst, ℤ, to_z, of_z, w64, ◌≡◌}
use Rattle.std.specs.Int.{w128}
use Rattle.std.proofs.lemmas.Int.{to_z-of_z}
use Rattle.pv_num.specs.Kinds.{Fits, convert_of}
use Rattle.pv_world.specs.Worths.{int}
use Rattle.pv_world.specs.Suiting.{is_small}
use Rattle.pv_eval.specs.Plainly.{found_worth}
use Rattle.pv_eval.proofs.PlainNumbers.{member_kept, kept_some}
use Rattle.pv_eval.proofs.plain_numbers.kept.Goals as goal

pub returns-then-fits : goal.returns-then-fits
returns-then-fits c =
    let n = c.in_ok-x.x in
    let f : FitsSigned w128 c.from-n.result = search rules in
    let fx : FitsSigned w64 n = search rules in
    let x : to_z w128 (of_z w128 c.from-n.result) ≡ n = to_z-of_z w128 c.from-n.result f ∙ c.from-n.ensures ∙ to_z-of_z w64 n fx in
    kept_some c.args.kind c.args.v n n (Some c.args.v) c.in_ok-x.ensures
    (ap (λ (z : ℤ). is_small (int z)) (sym (to_z-of_z w64 n fx)) ∙ sym c.is_small.ensures ∙ c.if-not-is_small.false)
    (sym (member_kept c.args.kind n (subst (Fits c.args.kind) x (c.fits.ensures.members.0 c.if-fits.true))))
    c.in_ok-x.ensures

pub returns : goal.returns
returns c =
    let n = c.in_ok-x.x in
    let f : FitsSigned w128 c.from-n.result = search rules in
    let fz : FitsSigned w128 c.convert.result = search rules in
    let fx : FitsSigned w64 n = search rules in
    let x : to_z w128 (of_z w128 c.from-n.result) ≡ n = to_z-of_z w128 c.from-n.result f ∙ c.from-n.ensures ∙ to_z-of_z w64 n fx in
    kept_some c.args.kind c.args.v n c.convert.result c.integer.result c.in_ok-x.ensures
    (ap (λ (z : ℤ). is_small (int z)) (sym (to_z-of_z w64 n fx)) ∙ sym c.is_small.ensures ∙ c.if-not-is_small.false)
    (c.convert.ensures.value ∙ ap (convert_of c.args.kind) x)
    (subst (λ (z : ℤ). IfSome c.integer.result (λ q. found_worth q ≡ int z)) (to_z-of_z w128 c.convert.result fz) c.integer.ensures)
