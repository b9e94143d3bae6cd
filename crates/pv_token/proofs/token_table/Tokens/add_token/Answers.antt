use Rattle.std.proofs.Common.{List, [], ◌∷◌, ◌++◌, length, map, sym, ap, ◌∙◌, subst, arith}
use Rattle.std.proofs.lemmas.List.{length-map}
use Rattle.pv_token.specs.declared.token_table.Token.{Token}
use Rattle.pv_token.specs.Said.{Spelt}
use Rattle.pv_token.specs.Views.{said_of}
use Rattle.pv_token.specs.Short.{token_of, values_with}
use Rattle.pv_token.specs.Table.{Table}
use Rattle.pv_token.specs.Kept.{Adds}
use Rattle.pv_token.proofs.Shortened.{short_token, token_added, short_added}
use Rattle.pv_token.proofs.token_table.Tokens.add_token.Goals as goal

pub invariant_of-self-2 : goal.invariant_of-self-2
invariant_of-self-2 c = (
  short_added c.self.inside.values.items c.self.inside.tokens.items c.self.invariant.0 c.in_ok-kind.kind c.short_kind-short.result c.args.start c.args.line c.short_kind-short.new.values.items c.push_reserved.new.self.items
      (c.short_kind-short.ensures.values ∙ ap (λ vs. values_with vs c.in_ok-kind.kind) c.reserve-2.ensures.items)
      (c.push_reserved.ensures.items ∙ ap (λ ts. ts ++ short_token c.short_kind-short.result c.args.start c.args.line ∷ []) c.reserve.ensures.items)
      c.short_kind-short.ensures.there
      (omega (arith, c.requires.tokens, ap (λ (t : Table). length t.tokens) c.self.view_is, length-map c.self.inside.tokens.items (token_of c.self.inside.values.items))),
  omega (arith, c.requires.names, c.in_ok-kind.ensures.names_room, ap (λ (t : Table). length t.names) c.self.view_is, length-map c.self.inside.names.keys (λ v. v.items)),
  omega (arith, c.requires.texts, c.in_ok-kind.ensures.texts_room, ap (λ (t : Table). length t.texts) c.self.view_is, length-map c.self.inside.texts.items (λ v. v.items)),
)

pub returns-clause-told : goal.returns-clause-told
returns-clause-told c =
    let names = map (λ v. v.items) c.keep.new.names.keys in
    let texts = map (λ v. v.items) c.keep.new.texts.items in
    let tokens : List Token = map (token_of c.self.inside.values.items) c.self.inside.tokens.items in
    let told : List Spelt = record { said = said_of c.args.kind; start = c.args.start; line = c.args.line } ∷ [] in
    subst (λ before. Adds before (record { tokens = map (token_of c.short_kind-short.new.values.items) c.push_reserved.new.self.items; names = names; texts = texts }) told) c.self.view_is
    (subst (λ ts. Adds (record { tokens = tokens; names = map (λ v. v.items) c.self.inside.names.keys; texts = map (λ v. v.items) c.self.inside.texts.items }) (record { tokens = ts; names = names; texts = texts }) told)
    (sym (token_added c.self.inside.values.items c.self.inside.tokens.items c.self.invariant.0 c.in_ok-kind.kind c.short_kind-short.result c.args.start c.args.line c.short_kind-short.new.values.items c.push_reserved.new.self.items
    (c.short_kind-short.ensures.values ∙ ap (λ vs. values_with vs c.in_ok-kind.kind) c.reserve-2.ensures.items)
    (c.push_reserved.ensures.items ∙ ap (λ ts. ts ++ short_token c.short_kind-short.result c.args.start c.args.line ∷ []) c.reserve.ensures.items)
    c.short_kind-short.ensures.kind))
    (c.in_ok-kind.ensures.kept tokens c.args.start c.args.line))
