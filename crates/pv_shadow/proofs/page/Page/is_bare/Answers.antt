use Rattle.std.proofs.Common.{◌≡◌, ℕ, get_or, sym, subst, ⊎_elim, arith}
use Rattle.std.proofs.lemmas.Bool.{eqb-true}
use Rattle.std.proofs.lemmas.Nat.{le_or_l, le_or_r}
use Rattle.pv_shadow.specs.declared.packed.Packed.{Packed}
use Rattle.pv_shadow.specs.Packed.{absent}
use Rattle.pv_shadow.proofs.Pages.{same_or_not}
use Rattle.pv_shadow.proofs.Cells.{none_kept}
use Rattle.pv_shadow.proofs.page.Page.is_bare.Goals as goal

pub loop-k-init : goal.loop-k-init
loop-k-init c = λ z j h. absurd (omega (arith, h))

pub loop-k-preserved : goal.loop-k-preserved
loop-k-preserved c = λ z j h.
    let xs = c.self.inside.slots.value in
    let x : Packed = get_or c.deref.result.now c.loop-k.k absent in
    let below = le_or_l c.loop-k.kinds x.kind in
    let beside = le_or_r c.loop-k.kinds x.kind in
    let so_far : c.loop-k.kinds ≡ 0 = omega (arith, z, below) in
    let last : x.kind ≡ 0 = omega (arith, z, beside) in
    let here : (get_or xs c.loop-k.k absent).kind ≡ 0 = subst (λ ys. (get_or ys c.loop-k.k absent).kind ≡ 0) c.deref.ensures last in
    ⊎_elim (λ e. subst (λ (q : ℕ). (get_or xs q absent).kind ≡ 0) (sym e) here) (λ n. c.loop-k.invariant so_far j (omega arith)) (same_or_not j c.loop-k.k)

pub returns : goal.returns
returns c = λ t. rw (← c.self.view_is) (none_kept c.self.inside.slots.value (λ j h. c.loop-k.invariant (eqb-true c.loop-k.kinds 0 t) j (omega arith)))
