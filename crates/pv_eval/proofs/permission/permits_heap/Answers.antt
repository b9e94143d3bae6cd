use Rattle.std.proofs.Common.{sym, ap, ◌∙◌, length}
use Rattle.std.proofs.lemmas.List.{length-map}
use Rattle.pv_types.specs.Known.{Known, tree}
use Rattle.pv_shadow.specs.declared.byte.Byte.{Byte}
use Rattle.pv_shadow.proofs.Ranges.{length-read}
use Rattle.pv_eval.specs.Sizes.{size_in}
use Rattle.pv_eval.proofs.permission.permits_heap.Goals as goal

pub permits_marks-requires-clause-each : goal.permits_marks-requires-clause-each
permits_marks-requires-clause-each c =
    ap length (c.deref-2.ensures.value ∙ c.in_ok-marks.ensures)
    ∙ length-map c.deref.result.now (λ (x : Byte). x.mark)
    ∙ ap length (c.deref.ensures.value ∙ c.in_ok-bytes.ensures.bytes)
    ∙ length-read _ _ c.args.size
    ∙ c.requires.size
    ∙ ap (λ (k : Known). size_in k (tree k c.args.want.0)) (sym c.types.ensures)
