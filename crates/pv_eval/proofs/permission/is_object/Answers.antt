use Rattle.std.proofs.Common.{Some, sym, ap, ◌∙◌}
use Rattle.std.proofs.lemmas.Bool.{eqb-true}
use Rattle.pv_eval.proofs.permission.is_object.Goals as goal

pub returns : goal.returns
returns c = λ begins. record {
  declared = sym c.is_declared.ensures ∙ c.if-not-is_declared.false;
  owner = sym c.owner.ensures ∙ c.in-Some.is ∙ ap Some c.if-whose-o.false;
  offset = eqb-true c.args.at.now.offset 0 begins;
}
