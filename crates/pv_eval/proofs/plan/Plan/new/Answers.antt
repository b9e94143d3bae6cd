use Rattle.std.proofs.Common.{◌≡◌, ◌+◌, ◌++◌, [], ◌∷◌, length, arith, rules, sym, ◌∙◌, ap, subst}
use Rattle.std.proofs.lemmas.Grind.{common_steps}
use Rattle.std.proofs.lemmas.List.{length_push}
use Rattle.pv_eval.specs.Codes.{AreCodes}
use Rattle.pv_eval.specs.declared.codes.Code.{Code}
use Rattle.std.specs.Prelude.{List}
use Rattle.pv_eval.proofs.PlainCodes.{codes_more, codes_none}
use Rattle.pv_eval.proofs.plan.Plan.new.Goals as goal

pub loop-n-init : goal.loop-n-init
loop-n-init c =
    let e : c.new-codes.result.items ≡ [] = search rules in
    record {
      codes = subst (AreCodes c.args.unit.now) (sym e) (codes_none c.args.unit.now);
      place = ap (λ (cs : List Code). length cs) e;
    }

pub loop-n-preserved : goal.loop-n-preserved
loop-n-preserved c =
    let u = c.args.unit.now in
    let old = c.loop-n.codes.items in
    let code = c.code_of-code.result in
    let items : c.push.new.self.items ≡ old ++ code ∷ [] = grind (arith, common_steps) in
    let place = c.loop-n.invariant.place in
    let long = length_push old code in
    record {
      codes = subst (AreCodes u) (sym items) (codes_more u old code (record { 0 = c.loop-n.n }) (sym place) c.loop-n.invariant.codes c.code_of-code.ensures);
      place = ap (λ (cs : List Code). length cs) items ∙ long ∙ ap (λ k. k + 1) place;
    }

pub returns-then-is_err : goal.returns-then-is_err
returns-then-is_err c =
    let items : c.push.new.self.items ≡ c.loop-n.codes.items = grind (arith, common_steps) in
    subst (AreCodes c.args.unit.now) (sym items) c.loop-n.invariant.codes

pub returns : goal.returns
returns c = c.loop-n.invariant.codes
