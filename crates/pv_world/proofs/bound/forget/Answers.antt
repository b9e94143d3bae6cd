use Rattle.std.proofs.Common.{◌≡◌, ℕ, ◌<◌, ◌==◌, true, List, length, get_or, refl, ap, subst, ◌∙◌, arith}
use Rattle.std.specs.FinMap.{insert}
use Rattle.pv_world.specs.BoundParts.{with_bindings}
use Rattle.pv_world.proofs.Bindings.{renewed}
use Rattle.pv_world.proofs.bound.forget.Goals as goal

pub returns-in_default : goal.returns-in_default
returns-in_default c = λ m i. refl

pub remove-requires : goal.remove-requires
remove-requires c = (omega arith, subst (λ (ys : List (ℕ × ℕ)). c.in-Some.k < length ys) c.as_slice.ensures.value c.in-Some.ensures.within)

pub returns : goal.returns
returns c = λ m i.
    let xs = c.args.few.now.items in
    let within : c.in-Some.k < length xs = subst (λ (ys : List (ℕ × ℕ)). c.in-Some.k < length ys) c.as_slice.ensures.value c.in-Some.ensures.within in
    let number : (c.args.n == (get_or xs c.in-Some.k (0, 0)).0) ≡ true = subst (λ (ys : List (ℕ × ℕ)). (c.args.n == (get_or ys c.in-Some.k (0, 0)).0) ≡ true) c.as_slice.ensures.value c.in-Some.ensures.number in
    ap (λ ys. insert (with_bindings m ys) c.args.n i) c.remove.ensures.items ∙ renewed xs c.in-Some.k c.args.n i m within number
