use Rattle.std.proofs.Common.{◌≡◌, ◌+◌, ◌∷◌, ◌∙◌, ◌||◌, Bool, false, List, ap, sym, drop}
use Rattle.pv_token.specs.declared.token_table.Token.{Token}
use Rattle.pv_tree.specs.Spells.{Names, begins_type, kind_begins_type}
use Rattle.pv_expr_forms.specs.Known.{names_in}
use Rattle.pv_expr_forms.specs.Reader.{is_close}
use Rattle.pv_decl_forms.specs.Declarators.{opens_parameters}
use Rattle.pv_decl_forms.proofs.tokens.opens_parameters.Goals as goal

not_closed : (names : Names) (ts : List Token) (t : Token) (rest : List Token) → ts ≡ t ∷ rest → is_close t.kind ≡ false → begins_type names ts ≡ opens_parameters names ts
not_closed names ts t rest e other = ap (begins_type names) e ∙ ap (λ (b : Bool). b || kind_begins_type names t.kind) (sym other) ∙ ap (opens_parameters names) (sym e)

pub returns-else-is_close : goal.returns-else-is_close
returns-else-is_close c = λ types u.
    let tokens = c.args.tokens.now.tokens in
    c.begins_type.ensures types u
    ∙ not_closed (names_in c.args.typedefs.now types u tokens) (drop c.args.at tokens) c.in-Some.token (drop (c.args.at + 1) tokens) c.in-Some.ensures.0 (sym c.is_close.ensures ∙ c.if-is_close.false)
