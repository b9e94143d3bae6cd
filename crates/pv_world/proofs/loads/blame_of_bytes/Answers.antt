use Rattle.std.proofs.Common.{sym, ◌∙◌}
use Rattle.pv_prov.specs.declared.names.Prov.{Prov}
use Rattle.pv_inst.specs.Table.{IsMadeIn}
use Rattle.pv_object.proofs.Contents.{whole_made}
use Rattle.pv_world.proofs.loads.blame_of_bytes.Goals as goal

pub blame_of-requires : goal.blame_of-requires
blame_of-requires c =
    let P : Prov → Type 0 = λ p. IsMadeIn c.args.memory.now.table p in
    whole_made P c.args.bytes.now c.in-Some.p c.requires (sym c.in-Some.is ∙ c.whole_name.ensures)
