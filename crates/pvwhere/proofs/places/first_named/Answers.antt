use Rattle.std.proofs.Common.{sym, ◌∙◌}
use Rattle.pvwhere.proofs.TokenLemmas.{name_here, name_behind}
use Rattle.pvwhere.proofs.places.first_named.Goals as goal

pub returns-then-is_named : goal.returns-then-is_named
returns-then-is_named c =
    name_here c.args.end c.args.tokens.now.names c.args.name.now c.args.tokens.now.tokens c.loop-index.index c.at-token.result c.at-token.ensures
    c.loop-index.invariant (sym c.is_named.ensures ∙ c.if-is_named.true)

pub loop-index-preserved : goal.loop-index-preserved
loop-index-preserved c =
    name_behind c.args.end c.args.tokens.now.names c.args.name.now c.args.tokens.now.tokens c.loop-index.index c.at-token.result c.at-token.ensures
    c.loop-index.invariant (sym c.is_named.ensures ∙ c.if-is_named.false)
