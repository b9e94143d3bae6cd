use Rattle.pv_serve.specs.Replying.{reply_view, WasTold}
use Rattle.pv_cases.specs.Cases.{cases_of}
use Rattle.pv_suite.proofs.ListLemmas.{list_own}
use Rattle.pv_suite.proofs.calling.suite_of.Goals as goal

pub tell_reply-requires : goal.tell_reply-requires
tell_reply-requires g c = (list_own (cases_of c.args.list.now) (g.F.Files.held c.args.files.now) (reply_view c.in-Ok.reply) c.in-Ok.ensures.reply).no_write_fault

pub returns-in-Ok-clause-served : goal.returns-in-Ok-clause-served
returns-in-Ok-clause-served g c =
    WasTold (reply_view c.in-Ok.reply) c.in-Ok.ensures.reply
    (list_own (cases_of c.args.list.now) (g.F.Files.held c.args.files.now) (reply_view c.in-Ok.reply) c.in-Ok.ensures.reply) c.tell_reply.ensures
