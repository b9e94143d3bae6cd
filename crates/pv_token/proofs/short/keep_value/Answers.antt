use Rattle.std.proofs.Common.{◌∙◌, [], ◌∷◌, get_or, sym, ap, length, length-append, arith}
use Rattle.std.proofs.lemmas.List.{get_or_push}
use Rattle.pv_token.proofs.short.keep_value.Goals as goal

pub overflow_cast-place : goal.overflow_cast-place
overflow_cast-place c = omega (arith, c.requires.few, c.len-place.ensures, c.args.values.now.ok.0)

pub returns-clause-place : goal.returns-clause-place
returns-clause-place c =
    ap (λ vs. get_or vs c.len-place.result 0) c.push_reserved.ensures.items
    ∙ get_or_push c.args.values.now.items c.args.value 0 c.len-place.result (sym (c.len-place.ensures ∙ c.args.values.now.ok.0))

pub returns-clause-within : goal.returns-clause-within
returns-clause-within c =
    omega (arith, c.len-place.ensures, c.args.values.now.ok.0, ap length c.push_reserved.ensures.items, length-append c.args.values.now.items (c.args.value ∷ []))
