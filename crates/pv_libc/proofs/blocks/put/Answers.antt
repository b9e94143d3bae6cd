use Rattle.std.proofs.Common.{◌≡◌, ℕ, ◌+◌, [], ◌∷◌, ◌++◌, map, length, drop, sym, ap, ◌∙◌, subst, arith}
use Rattle.std.proofs.lemmas.List.Edits.{length-between}
use Rattle.std.specs.Prelude.{slice_range}
use Rattle.pv_object.specs.declared.values.Reach.{Reach}
use Rattle.pv_object.specs.Memory.{Mem}
use Rattle.pv_object.specs.Reaching.{IsReach}
use Rattle.pv_object.specs.Copying.{with_bytes}
use Rattle.pv_libc.specs.Blocks.{plain_byte}
use Rattle.pv_libc.proofs.Reaches.{reach_within}
use Rattle.pv_libc.proofs.Putting.{put_more}
use Rattle.pv_libc.proofs.blocks.put.Goals as goal

pub put_few-requires-clause-reached : goal.put_few-requires-clause-reached
put_few-requires-clause-reached c =
    let T = c.loop-i.memory.table in
    let text = c.args.text.now in
    let i = c.loop-i.i in
    let few = c.min-few.result in
    let long : few ≡ length (slice_range text i (i + few)) = sym (length-between text i (i + few) (omega arith) ∙ omega arith) in
    let P : Reach → Type 0 = λ r. IsReach T r few in
    subst (λ (n : ℕ). IsReach T c.within-place.result n) long (subst P (sym c.within-place.ensures) (reach_within T c.args.at.now (length text + 1) i few (omega arith) c.loop-i.invariant.reached))

pub loop-i-preserved : goal.loop-i-preserved
loop-i-preserved c =
    let M = c.loop-i.memory in
    let text = c.args.text.now in
    let a = c.args.at.now.address in
    let i = c.loop-i.i in
    let few = c.min-few.result in
    let place : c.within-place.result.address ≡ a + i = ap (λ (r : Reach). r.address) c.within-place.ensures in
    let part = map plain_byte (slice_range text i (i + few)) in
    let after : c.put_few.new.memory ≡ with_bytes M (a + i) part = c.put_few.ensures ∙ ap (λ (q : ℕ). with_bytes M q part) place in
    record {
      few = omega arith;
      rest = ap (λ (N : Mem). with_bytes N (a + (i + few)) (map plain_byte (drop (i + few) text ++ 0 ∷ []))) after ∙ put_more M a i few text (omega arith) ∙ c.loop-i.invariant.rest;
      reached = subst (λ (N : Mem). IsReach N.table c.args.at.now (length text + 1)) (sym after) c.loop-i.invariant.reached;
    }
