use Rattle.std.proofs.Common.{◌+◌, get_or, set, sym, ap, ◌∙◌, inl, inr, ⊎_elim, arith}
use Rattle.std.proofs.lemmas.List.{get_or-set_same, get_or-set_other, length-set}
use Rattle.pv_shadow.specs.declared.packed.Packed.{Packed}
use Rattle.pv_shadow.specs.Packed.{absent}
use Rattle.pv_shadow.proofs.Pages.{same_or_not}
use Rattle.pv_shadow.proofs.Cells.{group_laid}
use Rattle.pv_shadow.proofs.page.lay_group.Goals as goal

pub loop-k-preserved : goal.loop-k-preserved
loop-k-preserved c =
    let x : Packed = get_or c.args.group.now c.loop-k.k absent in
    record {
      long = length-set c.loop-k.slots (c.args.g + c.loop-k.k) x ∙ c.loop-k.invariant.long;
      done = λ j h. ⊎_elim
          (λ e. ap (λ q. get_or (set c.loop-k.slots (c.args.g + c.loop-k.k) x) (c.args.g + q) absent) e
          ∙ get_or-set_same c.loop-k.slots (c.args.g + c.loop-k.k) x absent (omega (arith, c.loop-k.invariant.long, c.requires.first, c.requires.within)) ∙ sym (ap (λ q. get_or c.args.group.now q absent) e))
          (λ n. get_or-set_other c.loop-k.slots (c.args.g + c.loop-k.k) (c.args.g + j) x absent (λ e. n (omega arith)) ∙ c.loop-k.invariant.done j (omega arith))
          (same_or_not j c.loop-k.k);
      others = λ q o. get_or-set_other c.loop-k.slots (c.args.g + c.loop-k.k) q x absent (⊎_elim (λ l. λ e. omega arith) (λ r. λ e. omega arith) o)
          ∙ c.loop-k.invariant.others q (⊎_elim (λ l. inl l) (λ r. inr (omega arith)) o);
    }

pub returns-clause-laid : goal.returns-clause-laid
returns-clause-laid c = group_laid c.args.slots.now c.loop-k.slots c.args.group.now c.args.g c.requires.first c.requires.within
    (λ j h. c.loop-k.invariant.done j (omega arith))
    (λ q o. c.loop-k.invariant.others q (⊎_elim (λ l. inl l) (λ r. inr (omega arith)) o))
