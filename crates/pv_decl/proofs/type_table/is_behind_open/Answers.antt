use Rattle.std.proofs.Common.{◌≡◌, ◌∙◌, ◌<◌, ◌-◌, ℕ, zero, suc, List, drop, sym, ap, arith}
use Rattle.pv_token.specs.declared.token_table.Token.{Token}
use Rattle.pv_decl.specs.NameTables.{is_behind_open, opens}
use Rattle.pv_decl.proofs.type_table.is_behind_open.Goals as goal

-- the token before a place decides
behind : (tokens : List Token) (at : ℕ) → 0 < at → opens (drop (at - 1) tokens) ≡ is_behind_open tokens at
behind tokens zero p = absurd (omega (arith, p))
behind tokens (suc before) p = ap (λ (n : ℕ). opens (drop n tokens)) (omega arith)

pub returns-then-at-eq0 : goal.returns-then-at-eq0
returns-then-at-eq0 c = sym (ap (is_behind_open c.args.t.now.tokens) c.if-at-eq0.true)

pub overflow_sub-at : goal.overflow_sub-at
overflow_sub-at c = omega (arith, c.if-at-eq0.false)

pub peek-requires : goal.peek-requires
peek-requires c = omega (arith, c.requires)

pub returns-in-None : goal.returns-in-None
returns-in-None c = sym (ap opens c.in-None.ensures) ∙ behind c.args.t.now.tokens c.args.at (omega (arith, c.if-at-eq0.false))
