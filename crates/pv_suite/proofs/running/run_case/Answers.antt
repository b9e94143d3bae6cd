use Rattle.pv_suite.specs.Answering.{ended_view}
use Rattle.pv_suite.proofs.CaseLemmas.{compared, of_bytes}
use Rattle.pv_suite.proofs.running.run_case.Goals as goal

pub returns-in-Ok : goal.returns-in-Ok
returns-in-Ok c = (
  ended_view c.in_ok-ended.ended,
  of_bytes _ _ _ _ c.args.case.bound (ended_view c.in_ok-ended.ended) c.as_slice.ensures.value c.as_slice-2.ensures.value c.in_ok-ended.ensures,
  compared c.args.number _ _ _ _ _ _ _ _ _ c.in-Ok.ensures c.bytes_of.ensures c.as_slice-3.ensures.value c.bytes.ensures,
)
