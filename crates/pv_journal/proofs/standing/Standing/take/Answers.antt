use Rattle.std.proofs.Common.{sym, ap, ◌∙◌}
use Rattle.std.specs.Option.{option_map}
use Rattle.pv_journal.specs.Views.{row_of}
use Rattle.pv_journal.specs.Standing.{state_under}
use Rattle.pv_journal.proofs.Added.{more_itself}
use Rattle.pv_journal.proofs.Walking.{takes_by, takes_none}
use Rattle.pv_journal.proofs.standing.Standing.take.Goals as goal

pub returns-in-Some-clause-takes : goal.returns-in-Some-clause-takes
returns-in-Some-clause-takes c =
    takes_by c.pass.result (state_under c.args.names.now c.args.self.now) c.args.text.now (row_of c.in-Some.read) c.pass.new.names c.pass.new.self
    (sym c.in_ok-read.ensures ∙ ap (option_map row_of) c.in-Some.is) c.pass.ensures.passes

pub returns-in-None-clause-takes : goal.returns-in-None-clause-takes
returns-in-None-clause-takes c = takes_none (state_under c.args.names.now c.args.self.now) c.args.text.now (sym c.in_ok-read.ensures ∙ ap (option_map row_of) c.in-None.is)

pub returns-in_err-read-clause-more : goal.returns-in_err-read-clause-more
returns-in_err-read-clause-more c = more_itself _

pub returns-in-None-clause-more : goal.returns-in-None-clause-more
returns-in-None-clause-more c = more_itself _
