use Rattle.pv_serve.proofs.ComesLemmas.{lexed_if, faulty}
use Rattle.pv_serve.proofs.checking.typed.Goals as goal

pub returns-in-Ok-clause-comes : goal.returns-in-Ok-clause-comes
returns-in-Ok-clause-comes c = lexed_if _ _ _ c.in-Ok.ensures.whole c.of_tokens.ensures.comes

pub returns-in-Ok-clause-parts : goal.returns-in-Ok-clause-parts
returns-in-Ok-clause-parts c = c.of_tokens.ensures.parts c.args.source.now c.in-Ok.ensures.whole

pub word_of-requires : goal.word_of-requires
word_of-requires c = c.in-Err.ensures.within

pub returns-in_ok-word-in-Err-clause-comes : goal.returns-in_ok-word-in-Err-clause-comes
returns-in_ok-word-in-Err-clause-comes c = faulty _ _ _ c.in-Err.ensures.fault c.in_ok-word-in-Err.ensures

pub returns-in_ok-word-in-Err-clause-parts : goal.returns-in_ok-word-in-Err-clause-parts
returns-in_ok-word-in-Err-clause-parts c = c.in_ok-word-in-Err.ensures
