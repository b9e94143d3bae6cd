use Rattle.std.proofs.Common.{[], ◌∷◌, ◌++◌, sym, ◌∙◌, append_assoc}
use Rattle.std.specs.Prelude.{codes}
use Rattle.std.specs.Fmt.{decimal}
use Rattle.pv_gen.proofs.texts.statement.Goals as goal

pub returns : goal.returns
returns c =
    c.in_ok-format.ensures.ok ∙ sym (append_assoc (codes "  { unsigned long a = (unsigned long)&v" ++ decimal c.args.k) (codes "; int *p = (int *)a; s = s + *p; }") (10 ∷ []))
