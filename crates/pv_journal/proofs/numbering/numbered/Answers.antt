use Rattle.pv_journal.proofs.Added.{number_made, number_ended, number_exposed, number_paired, number_used, number_fault}
use Rattle.pv_journal.proofs.numbering.numbered.Goals as goal

pub returns-in_ok-key-in-Made-clause-said : goal.returns-in_ok-key-in-Made-clause-said
returns-in_ok-key-in-Made-clause-said c = number_made _ _ _ _ _ _ c.in-Made.is c.in_ok-key-in-Made.ensures.called

pub returns-in_ok-key-in-Ended-clause-said : goal.returns-in_ok-key-in-Ended-clause-said
returns-in_ok-key-in-Ended-clause-said c = number_ended _ _ _ _ c.in-Ended.is c.in_ok-key-in-Ended.ensures.called

pub returns-in_ok-key-in-Exposed-clause-said : goal.returns-in_ok-key-in-Exposed-clause-said
returns-in_ok-key-in-Exposed-clause-said c = number_exposed _ _ _ _ c.in-Exposed.is c.in_ok-key-in-Exposed.ensures.called

pub returns-in_ok-low-in-Paired-clause-said : goal.returns-in_ok-low-in-Paired-clause-said
returns-in_ok-low-in-Paired-clause-said c = number_paired _ _ _ _ _ _ _ _ c.in-Paired.is c.in_ok-low-in-Paired.ensures.first c.in_ok-low-in-Paired.ensures.second

pub returns-in_ok-first-in-Used-clause-said : goal.returns-in_ok-first-in-Used-clause-said
returns-in_ok-first-in-Used-clause-said c = number_used _ _ _ _ _ _ _ _ c.in-Used.is c.in_ok-first-in-Used.ensures.first c.in_ok-first-in-Used.ensures.second

pub returns-in-Fault-clause-said : goal.returns-in-Fault-clause-said
returns-in-Fault-clause-said c = number_fault _ _ c.in-Fault.is
