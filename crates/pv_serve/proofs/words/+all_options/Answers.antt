use Rattle.std.proofs.Common.{sym, subst}
use Rattle.std.specs.Prelude.{Option}
use Rattle.pv_serve.specs.Words.{Options}
use Rattle.pv_serve.specs.ReadWords.{AreOptions}
use Rattle.pv_serve.proofs.WordsLemmas.{two_more, one_left}
use Rattle.pv_serve.proofs.words.+all_options.Goals as goal

pub returns-in_ok-more-in-len2-up-clause-words : goal.returns-in_ok-more-in-len2-up-clause-words
returns-in_ok-more-in-len2-up-clause-words t c =
    let e = two_more _ c.args.words.now _ _ _ _ _ _ c.in-len2-up.len_at_least c.name-item.is c.value-item.is c.as_str.ensures.value c.as_str-in-len2-up.ensures.value c.in_ok-more-in-len2-up.ensures.words in
    subst (λ (q : Option Options). AreOptions c.all_options.result q) (sym e) c.all_options.ensures.words

pub returns-in_default-clause-words : goal.returns-in_default-clause-words
returns-in_default-clause-words t c = one_left _ _ _ c.in_default.len_at_least c.in_default.len_below
