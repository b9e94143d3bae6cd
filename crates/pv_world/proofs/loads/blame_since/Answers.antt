use Rattle.std.proofs.Common.{Some, sym, ap, ◌∙◌}
use Rattle.std.specs.Option.{option_map}
use Rattle.pv_prov.specs.declared.names.Prov.{Prov}
use Rattle.pv_inst.specs.Table.{IsMadeIn}
use Rattle.pv_object.proofs.Contents.{whole_made}
use Rattle.pv_world.specs.Telling.{blame_of}
use Rattle.pv_world.proofs.loads.blame_since.Goals as goal

pub blame_within-requires-clause-loaded : goal.blame_within-requires-clause-loaded
blame_within-requires-clause-loaded c =
    let P : Prov → Type 0 = λ p. IsMadeIn c.args.memory.now.table p in
    whole_made P c.args.bytes.now c.in-Some.q c.requires.made (sym c.in-Some.is ∙ c.whole_name.ensures)

pub returns : goal.returns
returns c = λ M t is blamed.
    let found = sym c.whole_name.ensures ∙ c.in-Some.is in
    ap Some (c.blame_within.ensures M t is blamed) ∙ sym (ap (option_map (blame_of M)) found)
