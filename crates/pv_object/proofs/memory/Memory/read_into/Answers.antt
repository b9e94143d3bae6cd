use Rattle.std.proofs.Common.{All, List, length, sym, subst}
use Rattle.pv_inst.specs.Table.{IsMadeIn}
use Rattle.pv_shadow.specs.declared.byte.Byte.{Byte}
use Rattle.pv_object.specs.Memory.{Mem}
use Rattle.pv_object.specs.Reaching.{IsReach}
use Rattle.pv_object.proofs.Contents.{reached_bytes, read_made}
use Rattle.pv_object.proofs.memory.Memory.read_into.Goals as goal

pub read-requires-clause-there : goal.read-requires-clause-there
read-requires-clause-there c =
    let n = length c.args.into.now in
    let P : Mem → Type 0 = λ M. IsReach M.table c.args.at.now n in
    reached_bytes c.self.inside.table c.self.inside.bytes c.args.at.now n c.self.invariant (subst P (sym c.self.view_is) c.requires)

pub returns-clause-made : goal.returns-clause-made
returns-clause-made c =
    let n = length c.args.into.now in
    let P : Mem → Type 0 = λ M. IsReach M.table c.args.at.now n in
    let T = c.self.inside.table in
    let b = c.self.inside.bytes in
    let there = reached_bytes T b c.args.at.now n c.self.invariant (subst P (sym c.self.view_is) c.requires) in
    let Q : List Byte → Type 0 = λ bs. All (λ (x : Byte). IsMadeIn T x.prov) bs in
    let R : Mem → Type 0 = λ M. All (λ (x : Byte). IsMadeIn M.table x.prov) c.read.new.into in
    subst R c.self.view_is (subst Q (sym c.read.ensures) (read_made T b c.args.at.now.address n c.self.invariant there))
