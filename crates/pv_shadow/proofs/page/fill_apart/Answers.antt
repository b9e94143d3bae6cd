use Rattle.std.proofs.Common.{◌+◌, ◌<◌, get_or, set, replicate, None, sym, ap, subst, ◌∙◌, inl, inr, ⊎_elim, arith}
use Rattle.std.proofs.lemmas.List.{get_or-set_same, get_or-set_other, length-set, length-replicate, get_or-replicate}
use Rattle.pv_shadow.specs.declared.packed.Packed.{Packed}
use Rattle.pv_shadow.specs.Packed.{byte_packed, absent}
use Rattle.pv_shadow.proofs.Pages.{same_or_not}
use Rattle.pv_shadow.proofs.Cells.{replaced}
use Rattle.pv_shadow.proofs.page.fill_apart.Goals as goal

pub loop-k-preserved : goal.loop-k-preserved
loop-k-preserved c = record {
  long = length-set c.loop-k.slots (c.args.i + c.loop-k.k) c.args.x ∙ c.loop-k.invariant.long;
  done = λ j h. ⊎_elim
      (λ e. ap (λ q. get_or (set c.loop-k.slots (c.args.i + c.loop-k.k) c.args.x) (c.args.i + q) absent) e
      ∙ get_or-set_same c.loop-k.slots (c.args.i + c.loop-k.k) c.args.x absent (omega (arith, c.loop-k.invariant.long)))
      (λ n. get_or-set_other c.loop-k.slots (c.args.i + c.loop-k.k) (c.args.i + j) c.args.x absent (λ e. n (omega arith)) ∙ c.loop-k.invariant.done j (omega arith))
      (same_or_not j c.loop-k.k);
  others = λ q o. get_or-set_other c.loop-k.slots (c.args.i + c.loop-k.k) q c.args.x absent (⊎_elim (λ l. λ e. omega arith) (λ r. λ e. omega arith) o)
      ∙ c.loop-k.invariant.others q (⊎_elim (λ l. inl l) (λ r. inr (omega arith)) o);
}

pub returns-clause-filled : goal.returns-clause-filled
returns-clause-filled c = replaced c.args.slots.now c.loop-k.slots c.args.i c.args.n c.requires.front c.requires.back
    (λ k h. subst (λ (y : Packed). y.kind < 48) (sym (c.loop-k.invariant.done k (omega arith))) c.requires.single)
    (λ q o. c.loop-k.invariant.others q (⊎_elim (λ l. inl l) (λ r. inr (omega arith)) o))
    (replicate c.args.n (byte_packed c.args.x)) c.requires.within (length-replicate c.args.n (byte_packed c.args.x))
    (λ k h. ap byte_packed (c.loop-k.invariant.done k (omega arith)) ∙ sym (get_or-replicate c.args.n k (byte_packed c.args.x) None h))
