use Rattle.std.proofs.Common.{◌≡◌, Bool, true, false, ◌&&◌, refl, sym, ap, ◌∙◌}
use Rattle.pv_lex.specs.Words.{is_wide}
use Rattle.pv_lex.proofs.pieces.is_prefix.Goals as goal

no_quote : (s : Bool) → false ≡ (s && false)
no_quote true = refl
no_quote false = refl

a_quote : (s : Bool) → s ≡ (s && true)
a_quote true = refl
a_quote false = refl

pub returns-then-not-begins_quote : goal.returns-then-not-begins_quote
returns-then-not-begins_quote c = no_quote (is_wide c.args.word.now) ∙ ap (λ q. is_wide c.args.word.now && q) (sym (sym c.begins_quote.ensures ∙ c.if-not-begins_quote.true))

pub returns : goal.returns
returns c = c.is_wide.ensures ∙ a_quote (is_wide c.args.word.now) ∙ ap (λ q. is_wide c.args.word.now && q) (sym (sym c.begins_quote.ensures ∙ c.if-not-begins_quote.false))
