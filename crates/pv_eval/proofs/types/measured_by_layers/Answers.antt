use Rattle.std.proofs.Common.{◌≡◌, Some, sym, ap, ◌∙◌, arith}
use Rattle.pv_types.specs.declared.extent.Extent.{Extent}
use Rattle.pv_types.specs.Layouts.{up_to}
use Rattle.pv_types.specs.Known.{tree}
use Rattle.pv_types.proofs.Peeling.{positive_size}
use Rattle.pv_eval.specs.Sizes.{size_in}
use Rattle.pv_eval.proofs.Numbers.{kept}
use Rattle.pv_eval.proofs.types.measured_by_layers.Goals as goal

pub returns-in-Some-clause-complete : goal.returns-in-Some-clause-complete
returns-in-Some-clause-complete c =
    let m = c.args.types.now in
    let is : up_to (size_in m (tree m c.args.t.0)) ≡ Some c.in-Some.size = sym (ap (λ (e : Extent). e.size) c.extent.ensures.extent) ∙ c.in-Some.is in
    let k = kept (size_in m (tree m c.args.t.0)) c.in-Some.size is in
    let complete = sym c.is_complete.ensures.complete ∙ c.if-is_complete.true in
    let positive = positive_size m c.args.t.0 c.extent.ensures.built complete in
    record {
      known = c.is_complete.ensures.known c.if-is_complete.true;
      complete = complete;
      size = sym k.same;
      small = k.small;
      some = omega (arith, positive, k.same);
    }
