use Rattle.std.proofs.Common.{◌≡◌, ℕ, List, map, length, take, All, sym, ap, ◌∙◌, subst, arith}
use Rattle.std.proofs.lemmas.List.{take_all}
use Rattle.pv_inst.specs.Table.{IsMadeIn}
use Rattle.pv_shadow.specs.declared.byte.Byte.{Byte}
use Rattle.pv_libc.specs.Blocks.{plain_byte}
use Rattle.pv_libc.proofs.Putting.{row_made}
use Rattle.pv_libc.proofs.blocks.put_few.Goals as goal

pub write_bytes-requires-clause-made : goal.write_bytes-requires-clause-made
write_bytes-requires-clause-made c =
    let text = c.args.text.now in
    let bytes = c.loop-i.bytes in
    let all : c.loop-i.i ≡ length text = omega arith in
    let row : take (length text) bytes ≡ map plain_byte text = subst (λ (n : ℕ). take n bytes ≡ map plain_byte (take n text)) all c.loop-i.invariant.so_far ∙ ap (λ (vs : List ℕ). map plain_byte vs) (take_all (length text) text (omega arith)) in
    let P : List Byte → Type 0 = λ bs. All (λ (b : Byte). IsMadeIn c.args.memory.now.table b.prov) bs in
    subst P (sym row) (row_made c.args.memory.now.table text)
