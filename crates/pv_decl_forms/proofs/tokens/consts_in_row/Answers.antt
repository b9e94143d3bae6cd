use Rattle.std.proofs.Common.{◌≡◌, ◌∙◌, true, arith, drop, sym}
use Rattle.pv_decl_forms.specs.Parts.{is_const_next}
use Rattle.pv_decl_forms.proofs.Consts.{const_more}
use Rattle.pv_decl_forms.proofs.tokens.consts_in_row.Goals as goal

pub loop-count-preserved : goal.loop-count-preserved
loop-count-preserved c =
    let tokens = c.args.tokens.now.tokens in
    let here : is_const_next (drop c.loop-count.next tokens) ≡ true = sym c.is_const_next.ensures.is ∙ c.loop-count-test.true in
    let k = const_more tokens c.loop-count.next here in
    record { far = omega arith; place = omega (arith, k.0); count = omega (arith, k.1) }
