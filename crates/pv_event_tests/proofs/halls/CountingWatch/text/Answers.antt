use Rattle.std.proofs.Common.{rules, ◌++◌, codes, length}
use Rattle.std.specs.Fmt.{decimal}
use Rattle.pv_watch.proofs.OwnKinds.{own_text}
use Rattle.pv_event_tests.proofs.halls.CountingWatch.text.Goals as goal

pub returns : goal.returns
returns c = own_text (record {
  number = c.args.self.now.kind;
  text = λ wants seen names. decimal (length seen) ++ codes " " ++ decimal (length names) ++ codes "\n";
}) _ _ _ _ (search rules) (search rules)
