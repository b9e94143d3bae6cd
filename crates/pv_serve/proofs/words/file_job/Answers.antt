use Rattle.pv_serve.proofs.WordsLemmas.{no_file_named}
use Rattle.pv_serve.proofs.words.file_job.Goals as goal

pub returns-in_default-clause-words : goal.returns-in_default-clause-words
returns-in_default-clause-words c = no_file_named c.args.words.now c.in_default.len_below
