use Rattle.std.proofs.Common.{sym}
use Rattle.std.proofs.lemmas.List.{length-map}
use Rattle.pv_cases.specs.Views.{told_view}
use Rattle.pv_cases.proofs.reporting.count_of.Goals as goal

pub returns : goal.returns
returns c = sym (length-map c.args.told.now told_view)
