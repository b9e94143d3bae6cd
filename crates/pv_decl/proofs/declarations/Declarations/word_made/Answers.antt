use Rattle.pv_tree.proofs.Kept.{extends_then}
use Rattle.pv_decl_forms.proofs.Answered.{moved, nothing}
use Rattle.pv_decl.specs.Filled.{list_map}
use Rattle.pv_decl.proofs.Words.{word_none, word_some}
use Rattle.pv_decl.proofs.declarations.Declarations.word_made.Goals as goal

pub returns-in_default : goal.returns-in_default
returns-in_default g c = λ depth. record {
  keeps = c.plain.ensures.keeps;
  answer =
      nothing _ _ _ _ (word_none (list_map c.args.self.now.lists.now) c.args.self.now.source.typedefs.now (g.R.TypeReader.types c.args.self.now.source.reader.now) c.args.into.now c.plain.new.into c.args.self.now.source.tokens.now.tokens
      c.requires.ready.tied c.plain.ensures.keeps c.args.at c.args.next c.requires.ready.place c.args.token c.requires.here c.requires.plain c.requires.closed c.in_ok-word.word c.in_ok-word.ensures.ok depth c.in_default.is);
}

pub returns : goal.returns
returns g c = λ depth. record {
  keeps = extends_then _ _ _ c.plain.ensures.keeps c.type_word_of.ensures.keeps;
  answer =
      moved _ _ _ _ _ _ (word_some (list_map c.args.self.now.lists.now) c.args.self.now.source.typedefs.now (g.R.TypeReader.types c.args.self.now.source.reader.now) c.args.into.now c.plain.new.into c.args.self.now.source.tokens.now.tokens
      c.requires.ready.tied c.plain.ensures.keeps c.args.at c.args.next c.requires.ready.place c.args.token c.requires.here c.requires.plain c.requires.closed c.in_ok-word.word c.in_ok-word.ensures.ok depth c.in-Some.spec c.in-Some.end c.in-Some.is) c.type_word_of.ensures.ok;
}
