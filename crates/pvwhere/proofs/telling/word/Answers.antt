use Rattle.pvwhere.proofs.AnswerLemmas.{word_by}
use Rattle.pvwhere.proofs.telling.word.Goals as goal

pub returns-in-Lex : goal.returns-in-Lex
returns-in-Lex c = word_by _ _ _ c.in-Lex.is (c.fault_word.ensures _)

pub returns-in-Check : goal.returns-in-Check
returns-in-Check c = word_by _ _ _ c.in-Check.is (c.unit_word.ensures _)
