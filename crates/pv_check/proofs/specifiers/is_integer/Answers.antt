use Rattle.std.proofs.Common.{sym, ◌∙◌}
use Rattle.pv_types.specs.Known.{tree}
use Rattle.pv_types.specs.Ty.{IntTy}
use Rattle.pv_check.proofs.Same.{same_equal}
use Rattle.pv_check.proofs.specifiers.is_integer.Goals as goal

pub returns-clause-tree : goal.returns-clause-tree
returns-clause-tree c = λ e. same_equal (tree c.args.types.now c.args.t.0) (IntTy c.args.kind) (sym c.has_kind.ensures ∙ e)
