use Rattle.std.proofs.Common.{sym, ◌∙◌, arith}
use Rattle.pv_serve.specs.ReadWords.{options_read}
use Rattle.pv_state.proofs.WordLemmas.{too_many, no_job, some_job}
use Rattle.pv_state.proofs.words.job_of.Goals as goal

pub returns-then-places-gt-MOST_PLACES-clause-asked : goal.returns-then-places-gt-MOST_PLACES-clause-asked
returns-then-places-gt-MOST_PLACES-clause-asked c = too_many c.args.file.now (options_read c.args.options) c.args.all c.args.places.now (omega arith)

pub returns-then-not-are_places-clause-asked : goal.returns-then-not-are_places-clause-asked
returns-then-not-are_places-clause-asked c =
    no_job c.args.file.now (options_read c.args.options) c.args.all c.args.places.now c.unwrap_or-bound.result (omega arith) c.unwrap_or-bound.ensures
    (sym c.are_places.ensures ∙ c.if-not-are_places.true)

pub returns-clause-asked : goal.returns-clause-asked
returns-clause-asked c =
    some_job c.args.file.now (options_read c.args.options) c.args.all c.args.places.now c.unwrap_or-bound.result c.unwrap_or.result (omega arith) c.unwrap_or-bound.ensures c.unwrap_or.ensures
    (sym c.are_places.ensures ∙ c.if-not-are_places.false)
