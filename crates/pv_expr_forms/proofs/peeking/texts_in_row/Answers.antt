use Rattle.std.proofs.Common.{◌≡◌, ◌+◌, ◌∙◌, ℕ, suc, true, arith, drop, sym, ap}
use Rattle.pv_expr_forms.specs.Reader.{texts_in_row}
use Rattle.pv_expr_forms.specs.Parts.{is_text_next}
use Rattle.pv_expr_forms.proofs.Places.{text_more}
use Rattle.pv_expr_forms.proofs.peeking.texts_in_row.Goals as goal

pub loop-more-preserved : goal.loop-more-preserved
loop-more-preserved c =
    let tokens = c.args.tokens.now.tokens in
    let here : is_text_next (c.args.first + 1 + c.loop-more.more) (drop c.loop-more.next tokens) ≡ true = sym c.is_text_next.ensures.is ∙ c.loop-more-test.true in
    let k = text_more tokens c.loop-more.next (c.args.first + 1 + c.loop-more.more) here in
    let n : c.args.first + 1 + (c.loop-more.more + 1) ≡ suc (c.args.first + 1 + c.loop-more.more) = omega arith in
    let e = ap (λ (m : ℕ). texts_in_row m (drop (c.loop-more.next + 1) tokens)) n in
    record { far = omega arith; place = omega (arith, k.0); count = omega (arith, k.1, e) }
