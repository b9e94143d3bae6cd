use Rattle.std.proofs.Common.{◌+◌, set, ap, ◌∙◌}
use Rattle.pv_shadow.specs.declared.packed.Packed.{Packed}
use Rattle.pv_shadow.specs.Packed.{page_bytes}
use Rattle.pv_shadow.proofs.Cells.{celled}
use Rattle.pv_shadow.proofs.page.put_cell.Goals as goal

pub returns-clause-put : goal.returns-clause-put
returns-clause-put c =
    let behind : Packed = record { name = c.args.address; mark = 0; value = 0; index = 0; place = 0; kind = 0 } in
    ap (λ h. page_bytes (set (set c.args.slots.now c.args.g h) (c.args.g + 1) behind)) c.head_of.ensures
    ∙ celled c.args.slots.now c.args.g c.args.prov c.args.mark behind c.requires.long c.requires.first c.requires.within
