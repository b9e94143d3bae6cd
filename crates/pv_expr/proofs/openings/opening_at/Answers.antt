use Rattle.std.proofs.Common.{sym, ◌∙◌}
use Rattle.pv_expr_forms.proofs.Readings.{leaf_first}
use Rattle.pv_expr.proofs.Opens.{opens_operator, opens_paren, opens_cast, opens_nothing}
use Rattle.pv_expr.proofs.openings.opening_at.Goals as goal

pub returns-then-not-begins_type : goal.returns-then-not-begins_type
returns-then-not-begins_type g c = (λ r line m. opens_paren _ r _ line _ _ _ (sym c.is_open.ensures ∙ c.if-is_open.true) (sym (c.begins_type.ensures (g.R.TypeReader.types c.args.source.now.reader.now) c.args.into.now) ∙ c.if-not-begins_type.true), tt, c.requires.place)

pub returns-in_default : goal.returns-in_default
returns-in_default g c r line m = opens_nothing _ r _ line _ _ _ (sym c.is_open.ensures ∙ c.if-is_open.true) (sym (c.begins_type.ensures (g.R.TypeReader.types c.args.source.now.reader.now) c.args.into.now) ∙ c.if-not-begins_type.false) c.in_default.ensures

pub returns-then-is_open : goal.returns-then-is_open
returns-then-is_open g c = (λ r line m. opens_cast _ r _ line _ _ _ c.in-Some.name _ (sym c.is_open.ensures ∙ c.if-is_open.true) (sym (c.begins_type.ensures (g.R.TypeReader.types c.args.source.now.reader.now) c.args.into.now) ∙ c.if-not-begins_type.false) c.in-Some.ensures.0, c.in-Some.ensures.1, c.in-Some.ensures.2)

pub returns-in-Some-prefix_of : goal.returns-in-Some-prefix_of
returns-in-Some-prefix_of g c = (λ r line m. opens_operator _ r _ line _ _ _ c.in-Some-prefix_of.op (sym c.is_open.ensures ∙ c.if-is_open.false) m (sym c.in-Some-prefix_of.ensures), tt, c.requires.place)

pub returns-in-None : goal.returns-in-None
returns-in-None g c r line m = leaf_first c.args.source.now.typedefs.now (g.R.TypeReader.types c.args.source.now.reader.now) c.args.into.now c.args.source.now.tokens.now.tokens r _ line _ _ (sym c.is_open.ensures ∙ c.if-is_open.false) (sym c.in-None.ensures)
