use Rattle.pv_state.proofs.WordLemmas.{one_more, no_file, file_asks, no_words}
use Rattle.pv_state.proofs.words.job_asked.Goals as goal

pub returns-then-is_empty-clause-asked : goal.returns-then-is_empty-clause-asked
returns-then-is_empty-clause-asked c =
    no_file _ _ _ _ (one_more c.args.words.now _ _ c.in-len1-up.len_at_least c.file-item.is c.as_str-name.ensures.value) c.is_empty.ensures c.if-is_empty.true

pub returns-else-is_empty-clause-asked : goal.returns-else-is_empty-clause-asked
returns-else-is_empty-clause-asked c =
    file_asks _ _ _ _ _ c.asked_by.result (one_more c.args.words.now _ _ c.in-len1-up.len_at_least c.file-item.is c.as_str-name.ensures.value) c.is_empty.ensures c.if-is_empty.false
    c.no_options.ensures.said c.asked_by.ensures.asked

pub returns-in_default-clause-asked : goal.returns-in_default-clause-asked
returns-in_default-clause-asked c = no_words c.args.words.now c.in_default.len_below
