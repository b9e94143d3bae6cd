use Rattle.std.proofs.Common.{◌≡◌, ◌+◌, ◌<◌, get_or, set, Some, sym, ap, subst, ◌∙◌, inl, inr, ⊎_elim, arith}
use Rattle.std.proofs.lemmas.List.{get_or-set_same, get_or-set_other, length-set}
use Rattle.pv_shadow.specs.declared.packed.Packed.{Packed}
use Rattle.pv_shadow.specs.Packed.{byte_packed, absent, number_byte}
use Rattle.pv_shadow.proofs.Pages.{same_or_not}
use Rattle.pv_shadow.proofs.Cells.{loosened_number, loosened_range}
use Rattle.pv_shadow.proofs.page.loosen_number.Goals as goal

pub loop-j-preserved : goal.loop-j-preserved
loop-j-preserved c =
    let head : Packed = get_or c.args.slots.now c.args.f absent in
    record {
      long = length-set c.loop-j.slots (c.args.f + c.loop-j.j) c.pack.result ∙ c.loop-j.invariant.long;
      bytes = λ k h. ⊎_elim
          (λ e. ap (λ q. byte_packed (get_or (set c.loop-j.slots (c.args.f + c.loop-j.j) c.pack.result) (c.args.f + q) absent)) e
          ∙ ap byte_packed (get_or-set_same c.loop-j.slots (c.args.f + c.loop-j.j) c.pack.result absent (omega (arith, c.loop-j.invariant.long, c.requires.first)))
          ∙ c.pack.ensures.is ∙ ap Some c.number_byte.ensures ∙ ap (λ q. Some (number_byte head q)) (sym e))
          (λ n. ap byte_packed (get_or-set_other c.loop-j.slots (c.args.f + c.loop-j.j) (c.args.f + k) c.pack.result absent (λ e. n (omega arith)))
          ∙ c.loop-j.invariant.bytes k (omega arith))
          (same_or_not k c.loop-j.j);
      single = λ k h. ⊎_elim
          (λ e. subst (λ (y : Packed). y.kind < 48) (sym (ap (λ q. get_or (set c.loop-j.slots (c.args.f + c.loop-j.j) c.pack.result) (c.args.f + q) absent) e
          ∙ get_or-set_same c.loop-j.slots (c.args.f + c.loop-j.j) c.pack.result absent (omega (arith, c.loop-j.invariant.long, c.requires.first)))) c.pack.ensures.single)
          (λ n. subst (λ (y : Packed). y.kind < 48) (sym (get_or-set_other c.loop-j.slots (c.args.f + c.loop-j.j) (c.args.f + k) c.pack.result absent (λ e. n (omega arith))))
          (c.loop-j.invariant.single k (omega arith)))
          (same_or_not k c.loop-j.j);
      others = λ q o. get_or-set_other c.loop-j.slots (c.args.f + c.loop-j.j) q c.pack.result absent (⊎_elim (λ l. λ e. omega arith) (λ r. λ e. omega arith) o)
          ∙ c.loop-j.invariant.others q (⊎_elim (λ l. inl l) (λ r. inr (omega arith)) o);
    }

pub returns-clause-same : goal.returns-clause-same
returns-clause-same c = loosened_number c.args.slots.now c.loop-j.slots c.args.f c.requires.first c.requires.head c.requires.cell (λ k h. c.loop-j.invariant.bytes k (omega arith))
    (λ k h. c.loop-j.invariant.single k (omega arith))
    (λ q o. c.loop-j.invariant.others q (⊎_elim (λ l. inl l) (λ r. inr (omega arith)) o))

pub returns-clause-single : goal.returns-clause-single
returns-clause-single c =
    let z : c.args.f + 0 ≡ c.args.f = omega arith in
    subst (λ q. (get_or c.loop-j.slots q absent).kind < 48) z (c.loop-j.invariant.single 0 (omega arith))

pub returns-clause-loosened : goal.returns-clause-loosened
returns-clause-loosened c = loosened_range c.args.slots.now c.loop-j.slots c.args.f 4
    (λ k h. c.loop-j.invariant.single k (omega arith))
    (λ q o. c.loop-j.invariant.others q (⊎_elim (λ l. inl l) (λ r. inr (omega arith)) o))
