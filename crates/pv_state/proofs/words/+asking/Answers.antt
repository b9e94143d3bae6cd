use Rattle.std.proofs.Common.{sym, ◌∙◌, arith}
use Rattle.pv_serve.specs.ReadWords.{options_read}
use Rattle.pv_state.proofs.WordLemmas.{one_more, none_left, end_asks, place_asks, asked_twice, all_asks, value_asks, more_asks, valued_none, valued_end}
use Rattle.pv_state.proofs.words.+asking.Goals as goal

pub asked_by-returns-in-empty-clause-asked : goal.asked_by-returns-in-empty-clause-asked
asked_by-returns-in-empty-clause-asked t c =
    end_asks c.args.file.now (options_read c.args.options) c.args.all _ c.job_of.result (none_left c.args.words.now (omega arith)) c.job_of.ensures.asked

pub asked_by-returns-then-not-is_option-clause-asked : goal.asked_by-returns-then-not-is_option-clause-asked
asked_by-returns-then-not-is_option-clause-asked t c =
    place_asks c.args.file.now (options_read c.args.options) c.args.all _ _ _ c.job_of-then-not-is_option.result (one_more c.args.words.now _ _ c.in-len1-up.len_at_least c.word-item.is c.as_str-name.ensures.value)
    (sym c.is_option.ensures ∙ c.if-not-is_option.true) c.job_of-then-not-is_option.ensures.asked

pub asked_by-returns-then-all-clause-asked : goal.asked_by-returns-then-all-clause-asked
asked_by-returns-then-all-clause-asked t c =
    asked_twice c.args.file.now (options_read c.args.options) c.args.all _ _ _ (one_more c.args.words.now _ _ c.in-len1-up.len_at_least c.word-item.is c.as_str-name.ensures.value)
    (sym c.is_option.ensures ∙ c.if-not-is_option.false) (sym c.eq.ensures ∙ c.if-eq.true) c.if-all.true

pub asked_by-returns-then-eq-clause-asked : goal.asked_by-returns-then-eq-clause-asked
asked_by-returns-then-eq-clause-asked t c =
    all_asks c.args.file.now (options_read c.args.options) c.args.all _ _ _ c.asked_by.result (one_more c.args.words.now _ _ c.in-len1-up.len_at_least c.word-item.is c.as_str-name.ensures.value)
    (sym c.is_option.ensures ∙ c.if-not-is_option.false) (sym c.eq.ensures ∙ c.if-eq.true) c.if-all.false c.asked_by.ensures.asked

pub asked_by-returns-else-eq-clause-asked : goal.asked_by-returns-else-eq-clause-asked
asked_by-returns-else-eq-clause-asked t c =
    value_asks c.args.file.now (options_read c.args.options) c.args.all _ _ _ c.with_value.result (one_more c.args.words.now _ _ c.in-len1-up.len_at_least c.word-item.is c.as_str-name.ensures.value)
    (sym c.is_option.ensures ∙ c.if-not-is_option.false) (sym c.eq.ensures ∙ c.if-eq.false) c.with_value.ensures.asked

pub with_value-returns-in_ok-more-in-len1-up-clause-asked : goal.with_value-returns-in_ok-more-in-len1-up-clause-asked
with_value-returns-in_ok-more-in-len1-up-clause-asked t c =
    more_asks c.args.file.now (options_read c.args.options) _ c.args.all _ c.args.name.now _ _ c.asked_by.result
    (one_more c.args.words.now _ _ c.in-len1-up.len_at_least c.value-item.is c.as_str.ensures.value) c.in_ok-more-in-len1-up.ensures.words c.asked_by.ensures.asked

pub with_value-returns-in_err-more-in-len1-up-clause-asked : goal.with_value-returns-in_err-more-in-len1-up-clause-asked
with_value-returns-in_err-more-in-len1-up-clause-asked t c =
    rw c.from_residual.ensures (valued_none c.args.file.now (options_read c.args.options) c.args.all _ c.args.name.now _ _
    (one_more c.args.words.now _ _ c.in-len1-up.len_at_least c.value-item.is c.as_str.ensures.value) c.in_err-more-in-len1-up.ensures.words)

pub with_value-returns-in_default-clause-asked : goal.with_value-returns-in_default-clause-asked
with_value-returns-in_default-clause-asked t c =
    valued_end c.args.file.now (options_read c.args.options) c.args.all _ c.args.name.now (none_left c.args.words.now c.in_default.len_below)
