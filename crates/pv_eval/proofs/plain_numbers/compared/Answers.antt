use Rattle.std.proofs.Common.{◌≡◌, FitsSigned, rules, ◌∙◌, to_z, of_z, w64}
use Rattle.std.specs.Int.{w128}
use Rattle.std.proofs.lemmas.Int.{to_z-of_z}
use Rattle.pv_num.specs.declared.operators.BinOp.TheVariants.{Lt, Gt, Le, Ge}
use Rattle.pv_eval.proofs.PlainNumbers.{compared_is}
use Rattle.pv_eval.proofs.plain_numbers.compared.Goals as goal

pub returns-in-Lt : goal.returns-in-Lt
returns-in-Lt c = λ k.
    let fx : FitsSigned w128 c.from-left.result = search rules in
    let fy : FitsSigned w128 c.from-right.result = search rules in
    let left : to_z w128 (of_z w128 c.from-left.result) ≡ c.args.x = to_z-of_z w128 c.from-left.result fx ∙ c.from-left.ensures ∙ to_z-of_z w64 c.args.x c.ranges.x in
    let right : to_z w128 (of_z w128 c.from-right.result) ≡ c.args.y = to_z-of_z w128 c.from-right.result fy ∙ c.from-right.ensures ∙ to_z-of_z w64 c.args.y c.ranges.y in
    compared_is c.args.op Lt k c.args.x c.args.y (to_z w128 (of_z w128 c.from-left.result)) (to_z w128 (of_z w128 c.from-right.result)) c.in-Lt.is left right

pub returns-in-Gt : goal.returns-in-Gt
returns-in-Gt c = λ k.
    let fx : FitsSigned w128 c.from-left.result = search rules in
    let fy : FitsSigned w128 c.from-right.result = search rules in
    let left : to_z w128 (of_z w128 c.from-left.result) ≡ c.args.x = to_z-of_z w128 c.from-left.result fx ∙ c.from-left.ensures ∙ to_z-of_z w64 c.args.x c.ranges.x in
    let right : to_z w128 (of_z w128 c.from-right.result) ≡ c.args.y = to_z-of_z w128 c.from-right.result fy ∙ c.from-right.ensures ∙ to_z-of_z w64 c.args.y c.ranges.y in
    compared_is c.args.op Gt k c.args.x c.args.y (to_z w128 (of_z w128 c.from-left.result)) (to_z w128 (of_z w128 c.from-right.result)) c.in-Gt.is left right

pub returns-in-Le : goal.returns-in-Le
returns-in-Le c = λ k.
    let fx : FitsSigned w128 c.from-left.result = search rules in
    let fy : FitsSigned w128 c.from-right.result = search rules in
    let left : to_z w128 (of_z w128 c.from-left.result) ≡ c.args.x = to_z-of_z w128 c.from-left.result fx ∙ c.from-left.ensures ∙ to_z-of_z w64 c.args.x c.ranges.x in
    let right : to_z w128 (of_z w128 c.from-right.result) ≡ c.args.y = to_z-of_z w128 c.from-right.result fy ∙ c.from-right.ensures ∙ to_z-of_z w64 c.args.y c.ranges.y in
    compared_is c.args.op Le k c.args.x c.args.y (to_z w128 (of_z w128 c.from-left.result)) (to_z w128 (of_z w128 c.from-right.result)) c.in-Le.is left right

pub returns-in-Ge : goal.returns-in-Ge
returns-in-Ge c = λ k.
    let fx : FitsSigned w128 c.from-left.result = search rules in
    let fy : FitsSigned w128 c.from-right.result = search rules in
    let left : to_z w128 (of_z w128 c.from-left.result) ≡ c.args.x = to_z-of_z w128 c.from-left.result fx ∙ c.from-left.ensures ∙ to_z-of_z w64 c.args.x c.ranges.x in
    let right : to_z w128 (of_z w128 c.from-right.result) ≡ c.args.y = to_z-of_z w128 c.from-right.result fy ∙ c.from-right.ensures ∙ to_z-of_z w64 c.args.y c.ranges.y in
    compared_is c.args.op Ge k c.args.x c.args.y (to_z w128 (of_z w128 c.from-left.result)) (to_z w128 (of_z w128 c.from-right.result)) c.in-Ge.is left right
