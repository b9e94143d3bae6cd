use Rattle.std.proofs.Common.{◌≡◌, IfSome, FitsSigned, rules, sym, ap, ◌∙◌, subst, ℤ, pos, ◌≤ℤ◌, arith}
use Rattle.std.specs.Int.{w128}
use Rattle.std.proofs.lemmas.Int.{ints, to_z-of_z}
use Rattle.pv_num.specs.Kinds.{greatest_member, convert_of}
use Rattle.pv_world.specs.Worths.{int}
use Rattle.pv_eval.specs.Plainly.{found_worth}
use Rattle.pv_eval.proofs.PlainReads.{member_stays}
use Rattle.pv_eval.proofs.plain_reads.valued.Goals as goal

pub returns-then-number-greatest : goal.returns-then-number-greatest
returns-then-number-greatest c =
    let least : pos c.args.number ≤ℤ pos c.greatest.result = omega (arith, ints, c.if-number-greatest.true) in
    let member : pos c.args.number ≤ℤ greatest_member c.args.kind = subst (λ (z : ℤ). pos c.args.number ≤ℤ z) c.greatest.ensures least in
    subst (λ (z : ℤ). IfSome c.natural.result (λ q. found_worth q ≡ int z)) (sym (member_stays c.args.kind c.args.number member)) c.natural.ensures

pub returns : goal.returns
returns c =
    let f : FitsSigned w128 c.from.result = search rules in
    let fz : FitsSigned w128 c.convert.result = search rules in
    let value : c.convert.result ≡ convert_of c.args.kind (pos c.args.number) = c.convert.ensures.value ∙ ap (convert_of c.args.kind) (to_z-of_z w128 c.from.result f ∙ c.from.ensures) in
    subst (λ (z : ℤ). IfSome c.integer.result (λ q. found_worth q ≡ int z)) (to_z-of_z w128 c.convert.result fz ∙ value) c.integer.ensures
