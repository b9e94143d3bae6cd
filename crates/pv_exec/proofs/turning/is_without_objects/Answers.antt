use Rattle.std.proofs.Common.{length, sym, ◌∙◌}
use Rattle.std.proofs.lemmas.Bool.{eqb-true}
use Rattle.pv_exec.proofs.Opening.{no-items}
use Rattle.pv_exec.proofs.turning.is_without_objects.Goals as goal

pub returns : goal.returns
returns c = λ none. sym c.declared.ensures.objects ∙ no-items c.declared.result.now (eqb-true (length c.declared.result.now) 0 (sym c.is_empty.ensures ∙ none))
