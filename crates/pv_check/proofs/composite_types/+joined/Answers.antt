use Rattle.std.proofs.Common.{◌≡◌, ◌<◌, ◌≤◌, IsTrue, length, arith, ◌∙◌, ap, subst}
use Rattle.pv_types.specs.Ty.{ArrayOf, Ty}
use Rattle.pv_types.specs.Formed.{are_adjusted, parameters_at}
use Rattle.pv_types.specs.Known.{Known, tree, trees, tys_in}
use Rattle.pv_types.specs.KnownParts.{list_at}
use Rattle.pv_types.specs.Matching.{Matches, MatchAll}
use Rattle.pv_types.proofs.Matched.{matching_array, matching_parameters, matching_result}
use Rattle.pv_check.specs.Growing.{Grows}
use Rattle.pv_check.proofs.Growth.{then_grows}
use Rattle.pv_check.proofs.Joining.{adjusted_composites, composite_same, sized_joined, right_at, next_at, more_at, done_at, matching_grown}
use Rattle.pv_check.proofs.composite_types.+joined.Goals as goal

pub joined-returns-then-a-b-clause-tree : goal.joined-returns-then-a-b-clause-tree
joined-returns-then-a-b-clause-tree t c = composite_same c.args.types.now c.args.a.0 c.args.b.0 c.if-a-b.true

pub joined-interned-requires-in-Array-clause-sized : goal.joined-interned-requires-in-Array-clause-sized
joined-interned-requires-in-Array-clause-sized t c = λ all.
    let m : Known = c.args.types.now in
    let k : Known = c.joined-in-Array.new.types in
    let grows : Grows m k = c.in_ok-inner-in-Array.ensures.grows in
    let terms : length m.terms ≤ length k.terms = grows.more.terms in
    let la : c.args.a.0 < length m.terms = c.requires.left in
    let lb : c.args.b.0 < length m.terms = c.requires.right in
    let x : Ty = tree m c.in-Array.t.0 in
    let y : Ty = tree m c.in-Array-view.u.0 in
    let left : tree m c.args.a.0 ≡ ArrayOf x c.in-Array.m = c.in-Array.ensures.tree in
    let right : tree m c.args.b.0 ≡ ArrayOf y c.in-Array-view.n = c.in-Array-view.ensures.tree in
    let both : Matches (ArrayOf x c.in-Array.m) (ArrayOf y c.in-Array-view.n) =
    subst (λ (w : Ty). Matches w (ArrayOf y c.in-Array-view.n)) left (subst (λ (w : Ty). Matches (tree m c.args.a.0) w) right c.requires.matching) in
    let size = c.known_size.ensures in
    rw size (sized_joined k c.args.a.0 c.args.b.0 c.in_ok-inner-in-Array.inner.0 x y c.in-Array.m c.in-Array-view.n all (omega (arith, la, terms)) (omega (arith, lb, terms)) c.in_ok-inner-in-Array.ensures.known
    (matching_array x y c.in-Array.m c.in-Array-view.n both) (grows.more.trees c.args.a.0 la ∙ left) (grows.more.trees c.args.b.0 lb ∙ right) c.in_ok-inner-in-Array.ensures.tree)

pub joined_function-joined_list-requires : goal.joined_function-joined_list-requires
joined_function-joined_list-requires t c =
    let m : Known = c.args.types.now in
    let firsts : c.deref.result.now ≡ list_at m.lists c.args.left.params = c.deref.ensures.value ∙ c.in-Ok.ensures.items ∙ c.param_list.ensures.value in
    let seconds : c.deref-2.result.now ≡ list_at m.lists c.args.right.params = c.deref-2.ensures.value ∙ c.in-Ok-from_slice.ensures.items ∙ c.param_list-2.ensures.value in
    let all : MatchAll (parameters_at m c.args.left.params) (parameters_at m c.args.right.params) =
    matching_parameters (tree m c.args.left.result.0) (tree m c.args.right.result.0) (parameters_at m c.args.left.params) (parameters_at m c.args.right.params) c.args.left.variadic c.args.right.variadic c.requires.matching in
    (omega (arith, c.decreases), (c.requires.bound, (rw firsts c.requires.left.2, (rw seconds c.requires.right.2, rw (firsts, seconds) all))))

pub joined_function-listed-requires-clause-adjusted : goal.joined_function-listed-requires-clause-adjusted
joined_function-listed-requires-clause-adjusted t c =
    let m : Known = c.args.types.now in
    let firsts : c.deref.result.now ≡ c.param_list.result.now = c.deref.ensures.value ∙ c.in-Ok.ensures.items in
    let left : IsTrue (are_adjusted (tys_in (trees m) c.deref.result.now)) = rw firsts c.param_list.ensures.adjusted in
    ap are_adjusted c.in-Ok-joined_list.ensures.list ∙ adjusted_composites (tys_in (trees m) c.deref.result.now) (tys_in (trees m) c.deref-2.result.now) left

pub joined_function-joined-requires : goal.joined_function-joined-requires
joined_function-joined-requires t c =
    let m : Known = c.args.types.now in
    let k : Known = c.listed.new.types in
    let grows : Grows m k = then_grows m c.joined_list.new.types k c.in-Ok-joined_list.ensures.grows c.in-Ok-listed.ensures.grows in
    let terms : length m.terms ≤ length k.terms = grows.more.terms in
    let bound : c.args.bound ≤ length m.terms = c.requires.bound in
    let below : c.args.left.result.0 < c.args.bound = c.requires.left.0 in
    let la : c.args.left.result.0 < length m.terms = omega (arith, bound, below) in
    let lb : c.args.right.result.0 < length m.terms = c.requires.right.0 in
    let both : Matches (tree m c.args.left.result.0) (tree m c.args.right.result.0) =
    matching_result (tree m c.args.left.result.0) (tree m c.args.right.result.0) (parameters_at m c.args.left.params) (parameters_at m c.args.right.params) c.args.left.variadic c.args.right.variadic c.requires.matching in
    (omega (arith, c.decreases, below), (omega (arith, la, terms), (omega (arith, lb, terms), matching_grown m k c.args.left.result.0 c.args.right.result.0 grows.more la lb both)))

pub joined_list-bounds-right-i : goal.joined_list-bounds-right-i
joined_list-bounds-right-i t c =
    let lt : c.loop-i.i < length c.args.left.now = omega arith in
    right_at c.args.types.now c.loop-i.types c.args.bound c.args.left.now c.args.right.now c.loop-i.list.items c.loop-i.i lt c.loop-i.invariant

pub joined_list-joined-requires : goal.joined_list-joined-requires
joined_list-joined-requires t c =
    let lt : c.loop-i.i < length c.args.left.now = omega arith in
    let next = next_at c.args.types.now c.loop-i.types c.args.bound c.args.left.now c.args.right.now c.loop-i.list.items c.loop-i.i lt c.loop-i.invariant c.requires.bound in
    let below = next.left in
    (omega (arith, c.decreases, below), (next.left_known, (next.right_known, next.matching)))

pub joined_list-loop-i-preserved : goal.joined_list-loop-i-preserved
joined_list-loop-i-preserved t c =
    let lt : c.loop-i.i < length c.args.left.now = omega arith in
    rw c.in_ok-push.ensures.items (more_at c.args.types.now c.loop-i.types c.args.bound c.args.left.now c.args.right.now c.loop-i.list.items c.loop-i.i lt c.loop-i.invariant
    c.joined.new.types c.in-Ok.one c.requires.bound c.in-Ok.ensures.grows c.in-Ok.ensures.known c.in-Ok.ensures.tree)

pub joined_list-returns-clause-list : goal.joined_list-returns-clause-list
joined_list-returns-clause-list t c =
    let le : length c.args.left.now ≤ c.loop-i.i = omega arith in
    done_at c.args.types.now c.loop-i.types c.args.bound c.args.left.now c.args.right.now c.loop-i.list.items c.loop-i.i le c.loop-i.invariant

pub joined-returns-in_ok-r-in-Pointer-clause-known : goal.joined-returns-in_ok-r-in-Pointer-clause-known
joined-returns-in_ok-r-in-Pointer-clause-known t c = c.in_ok-r-in-Pointer.ensures.known

pub joined-returns-in_ok-r-in-Pointer-clause-grows : goal.joined-returns-in_ok-r-in-Pointer-clause-grows
joined-returns-in_ok-r-in-Pointer-clause-grows t c = then_grows _ _ _ c.in_ok-inner-in-Pointer.ensures.grows c.in_ok-r-in-Pointer.ensures.grows

pub joined-returns-in_ok-r-in-Array-clause-known : goal.joined-returns-in_ok-r-in-Array-clause-known
joined-returns-in_ok-r-in-Array-clause-known t c = c.in_ok-r-in-Array.ensures.known

pub joined-returns-in_ok-r-in-Array-clause-grows : goal.joined-returns-in_ok-r-in-Array-clause-grows
joined-returns-in_ok-r-in-Array-clause-grows t c = then_grows _ _ _ c.in_ok-inner-in-Array.ensures.grows c.in_ok-r-in-Array.ensures.grows

pub joined-returns-in_ok-r-in-Const-clause-known : goal.joined-returns-in_ok-r-in-Const-clause-known
joined-returns-in_ok-r-in-Const-clause-known t c = c.in_ok-r-in-Const.ensures.known

pub joined-returns-in_ok-r-in-Const-clause-grows : goal.joined-returns-in_ok-r-in-Const-clause-grows
joined-returns-in_ok-r-in-Const-clause-grows t c = then_grows _ _ _ c.in_ok-inner-in-Const.ensures.grows c.in_ok-r-in-Const.ensures.grows

pub joined_function-returns-clause-known : goal.joined_function-returns-clause-known
joined_function-returns-clause-known t c = c.in-Ok-interned.ensures.known

pub joined_function-returns-clause-grows : goal.joined_function-returns-clause-grows
joined_function-returns-clause-grows t c = then_grows _ _ _ c.in-Ok-joined_list.ensures.grows (then_grows _ _ _ c.in-Ok-listed.ensures.grows (then_grows _ _ _ c.in-Ok-joined.ensures.grows c.in-Ok-interned.ensures.grows))
