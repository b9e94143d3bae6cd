use Rattle.std.proofs.Common.{◌∙◌, sym}
use Rattle.pv_decl_forms.proofs.Listing.{variadic_so}
use Rattle.pv_decl_forms.proofs.pieces.variadic_at.Goals as goal

pub returns-clause-is : goal.returns-clause-is
returns-clause-is c = λ f. variadic_so f c.args.parameters.now _ _ (sym c.is_empty.ensures ∙ c.if-is_empty.false) c.ellipsis_at.ensures.is
