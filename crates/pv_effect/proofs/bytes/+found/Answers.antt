use Rattle.std.proofs.Common.{◌≡◌, ◌<◌, ◌≤◌, ◌^◌, ◌*◌, ◌∙◌, IsTrue, is_some, ◌||◌, true, false, refl, get_or, length, sym, ap, arith}
use Rattle.pv_types.specs.Known.{tree, env}
use Rattle.pv_types.specs.Layouts.{layout_in, look}
use Rattle.pv_types.specs.LayoutParts.{part_count, or_none}
use Rattle.pv_types.proofs.Fills.{lt_true}
use Rattle.pv_types.proofs.Made.{flag, made}
use Rattle.pv_types.proofs.Peeling.{whole_array}
use Rattle.pv_layout.proofs.Ahead.{nobody}
use Rattle.pv_layout.proofs.Below.{one_of}
use Rattle.pv_layout.proofs.Unions.{around_start, around_hit, around_miss, around_same, around_next, around_none, inside_at, union_found}
use Rattle.pv_layout.proofs.Stripped.{Stripped, stripped_count}
use Rattle.pv_effect.specs.EffectiveType.{some_over}
use Rattle.pv_effect.specs.Searches.{passes}
use Rattle.pv_effect.proofs.Descents.{array_below, descent_to, joins_over, struct_whole, union_whole}
use Rattle.pv_effect.proofs.bytes.+found.Goals as goal
use Rattle.pv_effect.proofs.bytes.+found.Goals.{found_in_others-then-m-main+else-found, found_in_others-else-m-main}

pub below-in_array-requires-clause-small : goal.below-in_array-requires-clause-small
below-in_array-requires-clause-small t c =
    let m = c.args.types.now in
    let is = rw c.in-Array-default-Some.field-1-is at c.in-Array-default-Some.ensures.tree in
    let e = c.in-Array-default-Some.element.0 in
    let n = c.in-Array-default-Some.n in
    let whole = whole_array m c.args.t.0 e n c.requires.complete is in
    let size : n * (layout_in (env m) (tree m e)).size ≤ 2 ^ 32 = rw is at c.requires.small in
    one_of n (layout_in (env m) (tree m e)).size whole.0 size

pub below-in_structure-requires-clause-structure : goal.below-in_structure-requires-clause-structure
below-in_structure-requires-clause-structure t c =
    let there : IsTrue (is_some (look (env c.args.types.now) c.in-Struct.tag)) = rw c.in-Struct.ensures.tree at c.requires.complete in
    flag c.args.types.now c.in-Struct.tag c.in-Struct.ensures.built there ∙ c.in-Struct.ensures.tagged.1

pub below-in_union-requires : goal.below-in_union-requires
below-in_union-requires t c =
    let m = c.args.types.now in
    let is = c.in-Union.ensures.tree in
    let there : IsTrue (is_some (look (env m) c.in-Union.tag)) = rw is at c.requires.complete in
    let deep : part_count (layout_in (env m) (tree m c.args.t.0)) ≡ part_count (or_none (look (env m) c.in-Union.tag)) = ap (λ x. part_count (layout_in (env m) x)) is in
    let small : (or_none (look (env m) c.in-Union.tag)).size ≤ 2 ^ 32 = rw is at c.requires.small in
    (omega (arith, deep), (c.in-Union.ensures.tagged.0, (there, (flag m c.in-Union.tag c.in-Union.ensures.built there ∙ c.in-Union.ensures.tagged.1, small))))

pub below-returns-in-Struct-clause-value : goal.below-returns-in-Struct-clause-value
below-returns-in-Struct-clause-value t c =
    let m = c.args.types.now in
    let there : IsTrue (is_some (look (env m) c.in-Struct.tag)) = rw c.in-Struct.ensures.tree at c.requires.complete in
    let structure = flag m c.in-Struct.tag c.in-Struct.ensures.built there ∙ c.in-Struct.ensures.tagged.1 in
    struct_whole m c.args.t.0 c.in-Struct.tag c.args.offset c.args.sought _ c.in-Struct.ensures.built there structure c.in-Struct.ensures.tree (c.in_structure.ensures.value (passes m c.args.sought))

pub below-returns-in-Union-clause-value : goal.below-returns-in-Union-clause-value
below-returns-in-Union-clause-value t c =
    let m = c.args.types.now in
    let there : IsTrue (is_some (look (env m) c.in-Union.tag)) = rw c.in-Union.ensures.tree at c.requires.complete in
    let union = flag m c.in-Union.tag c.in-Union.ensures.built there ∙ c.in-Union.ensures.tagged.1 in
    union_whole m c.args.t.0 c.in-Union.tag c.args.offset c.args.sought _ c.in-Union.ensures.built there union c.in-Union.ensures.tree c.in_union.ensures.value

pub found_in_others-loop-m-init : goal.found_in_others-loop-m-init
found_in_others-loop-m-init t c = rw c.members-m-items.ensures.value (around_start c.args.types.now (some_over (env c.args.types.now) (passes c.args.types.now c.args.sought) c.args.offset) c.args.tag c.args.main.0 c.members-m-items.ensures.built c.requires.complete c.requires.union c.requires.small)

pub found_in_others-returns-then-found : goal.found_in_others-returns-then-found
found_in_others-returns-then-found t c =
    let lt : c.loop-m.m-index < length c.members-m-items.result.now = omega arith in
    around_hit c.args.types.now (some_over (env c.args.types.now) (passes c.args.types.now c.args.sought) c.args.offset) (joins_over (env c.args.types.now) (passes c.args.types.now c.args.sought) c.args.offset) c.args.tag c.args.main.0 c.loop-m.m-index c.members-m-items.result.now nobody lt c.loop-m.invariant (sym c.found.ensures ∙ c.if-found.true)

pub found_in_others-loop-m-preserved : goal.found_in_others-loop-m-preserved
found_in_others-loop-m-preserved t c =
    let lt : c.loop-m.m-index < length c.members-m-items.result.now = omega arith in
    elim c.if-m-main.branch [
      | found_in_others-then-m-main+else-found w ↦ around_miss c.args.types.now (some_over (env c.args.types.now) (passes c.args.types.now c.args.sought) c.args.offset) (joins_over (env c.args.types.now) (passes c.args.types.now c.args.sought) c.args.offset) c.args.tag c.args.main.0 c.loop-m.m-index c.members-m-items.result.now nobody lt c.loop-m.invariant (sym w.found.ensures ∙ w.if-found.false)
      | found_in_others-else-m-main w ↦ around_same c.args.types.now (some_over (env c.args.types.now) (passes c.args.types.now c.args.sought) c.args.offset) (joins_over (env c.args.types.now) (passes c.args.types.now c.args.sought) c.args.offset) c.args.tag c.args.main.0 c.loop-m.m-index c.members-m-items.result.now nobody lt c.loop-m.invariant w.if-m-main.false
    ]

pub in_union-last_deep-requires-clause-known : goal.in_union-last_deep-requires-clause-known
in_union-last_deep-requires-clause-known t c = rw c.members-members.ensures.value (made c.args.types.now c.args.tag c.members-members.ensures.built c.requires.complete).known

pub in_union-returns-then-found_in_others-clause-value : goal.in_union-returns-then-found_in_others-clause-value
in_union-returns-then-found_in_others-clause-value t c =
    let m = c.args.types.now in
    let has = some_over (env m) (passes m c.args.sought) c.args.offset in
    let main = (get_or c.members-members.result.now c.last_deep.result nobody).t.0 in
    union_found m (some_over (env c.args.types.now) (passes c.args.types.now c.args.sought) c.args.offset) (joins_over (env c.args.types.now) (passes c.args.types.now c.args.sought) c.args.offset) c.args.tag c.last_deep.result c.members-members.result.now nobody main true c.last_deep.ensures.in_range c.members-members.ensures.value refl
    (ap (λ b. b || has (layout_in (env m) (tree m main)).parts) (sym c.if-found_in_others.true) ∙ c.found_in_others.ensures)

pub in_union-returns-else-found_in_others-clause-value : goal.in_union-returns-else-found_in_others-clause-value
in_union-returns-else-found_in_others-clause-value t c =
    let m = c.args.types.now in
    let has = some_over (env m) (passes m c.args.sought) c.args.offset in
    let main = (get_or c.members-members.result.now c.last_deep.result nobody).t.0 in
    union_found m (some_over (env c.args.types.now) (passes c.args.types.now c.args.sought) c.args.offset) (joins_over (env c.args.types.now) (passes c.args.types.now c.args.sought) c.args.offset) c.args.tag c.last_deep.result c.members-members.result.now nobody main false c.last_deep.ensures.in_range c.members-members.ensures.value refl
    (ap (λ b. b || has (layout_in (env m) (tree m main)).parts) (sym c.if-found_in_others.false) ∙ c.found_in_others.ensures)

pub in_union-returns-else-found_in_others-clause-below : goal.in_union-returns-else-found_in_others-clause-below
in_union-returns-else-found_in_others-clause-below t c =
    let m = c.args.types.now in
    let all = around_start m (some_over (env c.args.types.now) (passes c.args.types.now c.args.sought) c.args.offset) c.args.tag 0 c.members-members.ensures.built c.requires.complete c.requires.union c.requires.small in
    let n = inside_at m (some_over (env c.args.types.now) (passes c.args.types.now c.args.sought) c.args.offset) c.args.tag 0 c.last_deep.result c.members-members.result.now nobody c.last_deep.ensures.in_range (rw c.members-members.ensures.value all) in
    (n.known, n.complete, n.small, n.lower)

pub below-view-requires : goal.below-view-requires
below-view-requires t c = c.requires.known

pub below-returns-in-Int-clause-below : goal.below-returns-in-Int-clause-below
below-returns-in-Int-clause-below t c = tt

pub below-returns-in-Void-2-clause-below : goal.below-returns-in-Void-2-clause-below
below-returns-in-Void-2-clause-below t c = tt

pub found_in_others-members-m-items-requires : goal.found_in_others-members-m-items-requires
found_in_others-members-m-items-requires t c = c.requires.made

pub found_in_others-found-requires : goal.found_in_others-found-requires
found_in_others-found-requires t c =
    let lt : c.loop-m.m-index < length c.members-m-items.result.now = omega arith in
    let n = around_next c.args.types.now (some_over (env c.args.types.now) (passes c.args.types.now c.args.sought) c.args.offset) c.args.tag c.args.main.0 c.loop-m.m-index c.members-m-items.result.now nobody lt c.loop-m.invariant in
    (omega (arith, n.lower), (n.known, (n.complete, n.small)))

pub found_in_others-returns : goal.found_in_others-returns
found_in_others-returns t c =
    let ge : length c.members-m-items.result.now ≤ c.loop-m.m-index = omega arith in
    around_none c.args.types.now (some_over (env c.args.types.now) (passes c.args.types.now c.args.sought) c.args.offset) (joins_over (env c.args.types.now) (passes c.args.types.now c.args.sought) c.args.offset) c.args.tag c.args.main.0 c.loop-m.m-index c.members-m-items.result.now ge c.loop-m.invariant

pub in_union-members-members-requires : goal.in_union-members-members-requires
in_union-members-members-requires t c = c.requires.made

pub in_union-last_deep-requires-clause-some : goal.in_union-last_deep-requires-clause-some
in_union-last_deep-requires-clause-some t c = lt_true 0 _ (rw c.members-members.ensures.complete at c.requires.complete)

pub in_union-bounds-members-last_deep : goal.in_union-bounds-members-last_deep
in_union-bounds-members-last_deep t c = c.last_deep.ensures.in_range

pub in_union-found_in_others-requires : goal.in_union-found_in_others-requires
in_union-found_in_others-requires t c = (omega arith, (c.requires.made, (c.requires.complete, (c.requires.union, c.requires.small))))

pub in_union-returns-then-found_in_others-clause-below : goal.in_union-returns-then-found_in_others-clause-below
in_union-returns-then-found_in_others-clause-below t c = tt

pub below-in_scalar-requires-clause-known : goal.below-in_scalar-requires-clause-known
below-in_scalar-requires-clause-known t c = c.requires.known

pub below-in_scalar-requires-clause-complete : goal.below-in_scalar-requires-clause-complete
below-in_scalar-requires-clause-complete t c = c.requires.complete

pub below-in_scalar-requires-clause-small : goal.below-in_scalar-requires-clause-small
below-in_scalar-requires-clause-small t c = c.requires.small

pub found-loop-answer-init : goal.found-loop-answer-init
found-loop-answer-init t c =
    let m = c.args.types.now in
    let h : Stripped m c.bare-at.result.0 c.args.t.0 = record { built = c.bare-at.ensures.built; inner = c.bare-at.ensures.known; known = c.requires.known; is = c.bare-at.ensures.tree; complete = c.requires.complete } in
    descent_to m c.args.sought c.args.t.0 c.args.offset c.args.t.0 c.args.offset c.bare-at.result.0 h c.requires.small (omega arith) refl

pub found-below-requires : goal.found-below-requires
found-below-requires t c =
    let h = c.loop-answer.invariant in
    (omega (arith, h.lower), (h.known, (h.unqualified, (h.complete, h.small))))

pub found-loop-answer-smaller : goal.found-loop-answer-smaller
found-loop-answer-smaller t c =
    let m = c.args.types.now in
    let low = c.in-In.ensures.below in
    let h : Stripped m c.bare-at-in-In.result.0 c.in-In.t.0 = record { built = c.bare-at-in-In.ensures.built; inner = c.bare-at-in-In.ensures.known; known = low.0; is = c.bare-at-in-In.ensures.tree; complete = low.1 } in
    let count = stripped_count m c.bare-at-in-In.result.0 c.in-In.t.0 h in
    let fewer = low.3 in
    omega (arith, count, fewer)

pub found-loop-answer-preserved : goal.found-loop-answer-preserved
found-loop-answer-preserved t c =
    let m = c.args.types.now in
    let before = c.loop-answer.invariant in
    let low = c.in-In.ensures.below in
    let h : Stripped m c.bare-at-in-In.result.0 c.in-In.t.0 = record { built = c.bare-at-in-In.ensures.built; inner = c.bare-at-in-In.ensures.known; known = low.0; is = c.bare-at-in-In.ensures.tree; complete = low.1 } in
    let fewer = low.3 in
    let lower = before.lower in
    descent_to m c.args.sought c.args.t.0 c.args.offset c.in-In.t.0 c.in-In.offset c.bare-at-in-In.result.0 h low.2 (omega (arith, fewer, lower)) (before.same ∙ sym c.in-In.ensures.value)

pub below-returns-in-Array-default-Some-clause-below : goal.below-returns-in-Array-default-Some-clause-below
below-returns-in-Array-default-Some-clause-below t c =
    let m = c.args.types.now in
    let is = rw c.in-Array-default-Some.field-1-is at c.in-Array-default-Some.ensures.tree in
    let whole = whole_array m c.args.t.0 c.in-Array-default-Some.element.0 c.in-Array-default-Some.n c.requires.complete is in
    array_below m c.args.t.0 c.in-Array-default-Some.element.0 c.in-Array-default-Some.n _ is whole.0 c.in_array.ensures.below
