use Rattle.std.proofs.Common.{◌+◌, get_or, set, sym, ap, ◌∙◌, ⊎_elim, arith}
use Rattle.std.proofs.lemmas.List.{get_or-set_same, get_or-set_other, length-set}
use Rattle.pv_shadow.specs.declared.packed.Packed.{Packed}
use Rattle.pv_shadow.specs.Packed.{absent}
use Rattle.pv_shadow.proofs.Pages.{same_or_not}
use Rattle.pv_shadow.proofs.Cells.{group_seen}
use Rattle.pv_shadow.proofs.page.Page.group.Goals as goal

pub loop-k-preserved : goal.loop-k-preserved
loop-k-preserved c =
    let x : Packed = get_or c.deref.result.now (c.args.g + c.loop-k.k) absent in
    record {
      long = length-set c.loop-k.group c.loop-k.k x ∙ c.loop-k.invariant.long;
      done = λ j h. ⊎_elim
          (λ e. ap (λ q. get_or (set c.loop-k.group c.loop-k.k x) q absent) e ∙ get_or-set_same c.loop-k.group c.loop-k.k x absent (omega (arith, c.loop-k.invariant.long))
          ∙ ap (λ ys. get_or ys (c.args.g + c.loop-k.k) absent) c.deref.ensures ∙ sym (ap (λ q. get_or c.self.inside.slots.value (c.args.g + q) absent) e))
          (λ n. get_or-set_other c.loop-k.group c.loop-k.k j x absent (λ e. n (omega arith)) ∙ c.loop-k.invariant.done j (omega arith))
          (same_or_not j c.loop-k.k);
    }

pub returns : goal.returns
returns c = rw (← c.self.view_is) (λ k h. group_seen c.self.inside.slots.value c.loop-k.group c.args.g k c.requires.first c.requires.within h (λ j l. c.loop-k.invariant.done j (omega arith)))
