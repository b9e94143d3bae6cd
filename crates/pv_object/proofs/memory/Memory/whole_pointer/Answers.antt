use Rattle.std.proofs.Common.{sym, subst}
use Rattle.pv_prov.specs.declared.names.Prov.{Prov}
use Rattle.pv_inst.specs.Table.{IsMadeIn}
use Rattle.pv_shadow.specs.Bytes.{bytes_from}
use Rattle.pv_object.specs.Memory.{Mem}
use Rattle.pv_object.specs.Reaching.{IsReach}
use Rattle.pv_object.proofs.Contents.{reached_bytes, read_made}
use Rattle.pv_object.proofs.Wholes.{whole_is, pointer_made}
use Rattle.pv_object.proofs.memory.Memory.whole_pointer.Goals as goal

pub pointer-requires-clause-there : goal.pointer-requires-clause-there
pointer-requires-clause-there c =
    let P : Mem → Type 0 = λ M. IsReach M.table c.args.at.now 8 in
    reached_bytes c.self.inside.table c.self.inside.bytes c.args.at.now 8 c.self.invariant (subst P (sym c.self.view_is) c.requires)

pub returns-in-Some-clause-made : goal.returns-in-Some-clause-made
returns-in-Some-clause-made c =
    let P : Mem → Type 0 = λ M. IsReach M.table c.args.at.now 8 in
    let T = c.self.inside.table in
    let b = c.self.inside.bytes in
    let there = reached_bytes T b c.args.at.now 8 c.self.invariant (subst P (sym c.self.view_is) c.requires) in
    let bytes = bytes_from b c.args.at.now.address 8 in
    let Q : Prov → Type 0 = λ p. IsMadeIn T p in
    let made = pointer_made Q bytes (record { address = c.in-Some.address; prov = c.in-Some.prov }) (read_made T b c.args.at.now.address 8 c.self.invariant there) (whole_is bytes c.in-Some.address c.in-Some.prov c.in-Some.ensures) in
    let R : Mem → Type 0 = λ M. IsMadeIn M.table c.in-Some.prov in
    subst R c.self.view_is made
