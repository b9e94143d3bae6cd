use Rattle.std.proofs.Common.{◌<◌, Some, length, slice_get, sym, ap, ◌∙◌, subst, arith}
use Rattle.std.proofs.lemmas.List.{length-map}
use Rattle.pv_token.specs.Short.{kind_of, token_of, IsThere}
use Rattle.pv_token.specs.Table.{Table}
use Rattle.pv_token.proofs.Shortened.{read_there, token_read}
use Rattle.pv_token.proofs.token_table.Tokens.at.Goals as goal

pub index-token-requires : goal.index-token-requires
index-token-requires c = omega (arith, c.requires, c.self.inside.tokens.ok.0, ap (λ (t : Table). length t.tokens) c.self.view_is, length-map c.self.inside.tokens.items (token_of c.self.inside.values.items))

pub kind_of-requires : goal.kind_of-requires
kind_of-requires c =
    let within : c.args.i < length c.self.inside.tokens.items = omega (arith, c.requires, ap (λ (t : Table). length t.tokens) c.self.view_is, length-map c.self.inside.tokens.items (token_of c.self.inside.values.items)) in
    subst (λ vs. IsThere (length vs) c.index-token.result.now.kind) (sym c.as_slice.ensures.value)
    (read_there c.self.inside.values.items c.self.inside.tokens.items c.args.i c.index-token.result.now within c.index-token.ensures (length c.self.inside.values.items) c.self.invariant.0.there)

pub returns : goal.returns
returns c =
    let within : c.args.i < length c.self.inside.tokens.items = omega (arith, c.requires, ap (λ (t : Table). length t.tokens) c.self.view_is, length-map c.self.inside.tokens.items (token_of c.self.inside.values.items)) in
    let kind = c.kind_of.ensures ∙ ap (λ vs. kind_of vs c.index-token.result.now.kind) c.as_slice.ensures.value in
    ap (λ (t : Table). slice_get t.tokens c.args.i) (sym c.self.view_is)
    ∙ token_read c.self.inside.values.items c.self.inside.tokens.items c.args.i c.index-token.result.now within c.index-token.ensures
    ∙ ap (λ k. Some (record { kind = k; start = c.index-token.result.now.start; line = c.index-token.result.now.line })) (sym kind)
