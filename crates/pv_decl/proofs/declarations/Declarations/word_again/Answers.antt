use Rattle.std.proofs.Common.{sym, ap, ◌∙◌, drop, nat_eq}
use Rattle.indexmap.specs.IndexSet.{contains}
use Rattle.pv_token.specs.declared.token_table.TokenKind.{TokenKind}
use Rattle.pv_decl_forms.specs.Parts.{plain_of}
use Rattle.pv_decl.specs.Filled.{list_map}
use Rattle.pv_decl.proofs.Words.{word_again}
use Rattle.pv_decl.proofs.declarations.Declarations.word_again.Goals as goal

pub word_of-requires : goal.word_of-requires
word_of-requires g c = (c.requires.ready.tied.tied _ _ (sym c.in-Some.ensures)).node

pub returns-in-Some-word_of : goal.returns-in-Some-word_of
returns-in-Some-word_of g c = λ depth.
    let tokens = c.args.self.now.source.tokens.now.tokens in
    let is_type = contains nat_eq c.args.self.now.source.typedefs.now in
    word_again (list_map c.args.self.now.lists.now) c.args.self.now.source.typedefs.now (g.R.TypeReader.types c.args.self.now.source.reader.now) c.args.into.now tokens
    c.requires.ready.tied c.args.at c.args.next c.requires.ready.place c.args.token c.requires.here c.requires.plain c.requires.closed c.requires.place depth
    c.in-Some.name c.in-Some-word_of.field-0 (c.requires.ready.tied.tied _ _ (sym c.in-Some.ensures)).node c.in-Some-word_of.ensures.specifier
    (ap (λ (k : TokenKind). plain_of is_type c.args.token.line k (drop c.args.next tokens)) c.in-Word.is ∙ c.in-Some-word_of.ensures.word is_type (drop c.args.next tokens))
    c.in-Some-word_of.ensures.tree
