use Rattle.std.proofs.Common.{◌∙◌, sym}
use Rattle.pv_types.specs.Known.{tree, env}
use Rattle.pv_types.specs.Layouts.{layout_in}
use Rattle.pv_effect.specs.Searches.{is_sought}
use Rattle.pv_effect.proofs.Over.{over_leaves}
use Rattle.pv_effect.proofs.bytes.lies_in.Goals as goal

pub returns : goal.returns
returns c =
    let m = c.args.types.now in
    c.found.ensures ∙ sym (over_leaves (env m) (is_sought m c.args.sought) c.args.offset (layout_in (env m) (tree m c.args.t.0)).parts)
