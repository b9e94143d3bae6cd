use Rattle.std.proofs.Common.{map, Vec, Global, Ok}
use Rattle.pv_serve.specs.Replying.{reply_view}
use Rattle.pv_cases.specs.declared.list.Case.{Case}
use Rattle.pv_cases.specs.Cases.{cases_of}
use Rattle.pv_cases.specs.Views.{case_view}
use Rattle.pv_suite.proofs.ListLemmas.{by_reading, cases_rose, refused_answered}
use Rattle.pv_suite.proofs.answering.answer.Goals as goal

pub answer_cases-requires : goal.answer_cases-requires
answer_cases-requires g c = rw c.as_slice.ensures.value c.in-Ok.ensures.bounds

pub returns-in-Ok-clause-reply : goal.returns-in-Ok-clause-reply
returns-in-Ok-clause-reply g c =
    by_reading reply_view (cases_of c.args.list.now) (Ok (map case_view c.in-Ok.cases.items)) (g.F.Files.held c.args.files.now) c.answer_cases.result c.in-Ok.ensures.cases
    (rw c.as_slice.ensures.value at c.answer_cases.ensures.reply)

pub returns-in-Ok-clause-cause : goal.returns-in-Ok-clause-cause
returns-in-Ok-clause-cause g c = λ h.
    cases_rose (cases_of c.args.list.now) (map case_view c.in-Ok.cases.items) (g.F.Files.held c.args.files.now) _ _ c.in-Ok.ensures.cases (rw c.as_slice.ensures.value at (c.answer_cases.ensures.cause h))

pub returns-in-Err-clause-reply : goal.returns-in-Err-clause-reply
returns-in-Err-clause-reply g c =
    refused_answered reply_view (cases_of c.args.list.now) c.in-Err.error (g.F.Files.held c.args.files.now) (λ (v : Vec Case Global). map case_view v.items) c.refuse.result _
    c.in-Err.ensures.cases c.refuse.ensures.reply c.refuse.ensures.memory
