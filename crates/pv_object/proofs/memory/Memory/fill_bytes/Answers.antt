use Rattle.std.proofs.Common.{ℕ, List, replicate, sym, subst}
use Rattle.std.proofs.lemmas.List.{length-replicate}
use Rattle.std.proofs.lemmas.List.Elements.{All-replicate}
use Rattle.pv_inst.specs.Table.{IsMadeIn}
use Rattle.pv_shadow.specs.declared.byte.Byte.{Byte}
use Rattle.pv_shadow.specs.Bytes.{Store}
use Rattle.pv_shadow.specs.Readings.{HasBytes}
use Rattle.pv_object.specs.Memory.{Mem}
use Rattle.pv_object.specs.Reaching.{HasLiveBytes, IsReach}
use Rattle.pv_object.proofs.Contents.{reached_bytes, written_live}
use Rattle.pv_object.proofs.memory.Memory.fill_bytes.Goals as goal

pub fill-requires-clause-there : goal.fill-requires-clause-there
fill-requires-clause-there c =
    let P : Mem → Type 0 = λ M. IsReach M.table c.args.at.now c.args.n in
    reached_bytes c.self.inside.table c.self.inside.bytes c.args.at.now c.args.n c.self.invariant (subst P (sym c.self.view_is) c.requires.reached)

pub invariant_of-self : goal.invariant_of-self
invariant_of-self c =
    let P : Mem → Type 0 = λ M. IsReach M.table c.args.at.now c.args.n in
    let Q : Mem → Type 0 = λ M. IsMadeIn M.table c.args.byte.prov in
    let R : Store → Type 0 = λ b. HasLiveBytes c.self.inside.table b in
    let S : ℕ → Type 0 = λ n. HasBytes c.self.inside.bytes c.args.at.now.address n in
    let bytes : List Byte = replicate c.args.n c.args.byte in
    let there = reached_bytes c.self.inside.table c.self.inside.bytes c.args.at.now c.args.n c.self.invariant (subst P (sym c.self.view_is) c.requires.reached) in
    let made = All-replicate (λ (b : Byte). IsMadeIn c.self.inside.table b.prov) c.args.n c.args.byte (subst Q (sym c.self.view_is) c.requires.made) in
    subst R (sym c.fill.ensures) (written_live c.self.inside.table c.self.inside.bytes c.args.at.now.address bytes c.self.invariant (subst S (sym (length-replicate c.args.n c.args.byte)) there) made)
