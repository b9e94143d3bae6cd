use Rattle.pv_journal.specs.Views.{row_of}
use Rattle.pv_journal.specs.Standing.{state_under}
use Rattle.pv_journal.proofs.Added.{more_itself}
use Rattle.pv_journal.proofs.Walking.{passes_late, passes_some, passes_none, known_turned}
use Rattle.pv_journal.proofs.standing.Standing.pass.Goals as goal

pub returns-then-not-may_follow-clause-passes : goal.returns-then-not-may_follow-clause-passes
returns-then-not-may_follow-clause-passes c = passes_late (state_under c.args.names.now c.args.self.now) (row_of c.args.read.now) c.may_follow.result c.is_word.ensures c.may_follow.ensures c.if-not-may_follow.true

pub returns-then-not-may_follow-clause-more : goal.returns-then-not-may_follow-clause-more
returns-then-not-may_follow-clause-more c = more_itself _

pub change-requires-clause-known : goal.change-requires-clause-known
change-requires-clause-known c = known_turned _ _ c.args.self.now _ c.numbered.ensures.more c.requires

pub change-requires-clause-said : goal.change-requires-clause-said
change-requires-clause-said c = c.in_ok-what.ensures.said.known

pub returns-then-branch-clause-passes : goal.returns-then-branch-clause-passes
returns-then-branch-clause-passes c =
    passes_some c.args.names.now c.numbered.new.names c.args.self.now c.change.new.self (row_of c.args.read.now) c.in_ok-what.what c.numbered.ensures.more c.requires c.is_word.ensures
    c.may_follow.result c.may_follow.ensures c.if-not-may_follow.false c.in_ok-what.ensures.said c.in_ok-change.field-0 c.if-branch.true c.in_ok-change.ensures

pub returns-else-branch-clause-passes : goal.returns-else-branch-clause-passes
returns-else-branch-clause-passes c =
    passes_none c.args.names.now c.numbered.new.names c.args.self.now c.change.new.self (row_of c.args.read.now) c.in_ok-what.what c.numbered.ensures.more c.requires c.is_word.ensures
    c.may_follow.result c.may_follow.ensures c.if-not-may_follow.false c.in_ok-what.ensures.said c.in_ok-change.field-0 c.if-branch.false c.in_ok-change.ensures
