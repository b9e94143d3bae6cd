-- A bridge: what functions answer that do a part of what Words says.
use Rattle.pv_check.specs.declared.words.TypeWords.{TypeWords}
use Rattle.pv_check.specs.Words.{no_words, with_word}
use Rattle.std.specs.List.{fold}
use Rattle.std.specs.Prelude.{List}
use Rattle.pv_token.specs.declared.words.Word.{Word}

-- 6.7.2p2: how often each type word stands in a list
abbrev pub count_of_words : List Word → TypeWords
count_of_words ws = fold with_word no_words ws
