-- Integer and pointer types as accesses look at them.
use Rattle.std.proofs.Common.{◌≡◌, ℕ, Bool, true, ◌<◌, ◌≤◌, ◌^◌, IsTrue, List, length, Some, None, refl, sym, ap, ◌∙◌, subst, arith}
use Rattle.std.specs.Prelude.{◌/◌, ◌&&◌, if◌then◌else◌}
use Rattle.std.proofs.lemmas.Bool.{le-leb}
use Rattle.pv_num.specs.declared.kinds.IntKind.{IntKind}
use Rattle.pv_num.specs.Kinds.{width}
use Rattle.pv_types.specs.Ty.{Ty, VoidTy, IntTy, PointerTo, ArrayOf, StructTag, UnionTag, FunctionTy, ConstOf}
use Rattle.pv_types.specs.declared.terms.TypeId.{TypeId}
use Rattle.pv_types.specs.Known.{Known, tree, env}
use Rattle.pv_types.specs.Layouts.{Entry, up_to, is_complete_in, layout_in}
use Rattle.pv_world.specs.declared.got.Shape.TheVariants as shape
use Rattle.pv_eval.specs.declared.types.Complete.{Complete}
use Rattle.pv_eval.specs.TypeForms.{alignment_by, shape_of}
use Rattle.pv_world.specs.Suiting.{is_size}
use Rattle.pv_eval.specs.Sizes.{size_in, IsComplete, points}
use Rattle.pv_world.proofs.Guards.{both_of}

pub integer_complete : (m : Known) (t : TypeId) (k : IntKind) (n : ℕ) → t.0 < length m.terms → tree m t.0 ≡ IntTy k → n ≡ width k / 8 → 1 ≤ n → n ≤ 8 → IsComplete m (record { t = t; size = n })
integer_complete m t k n known e sized some few =
    let size : size_in m (tree m t.0) ≡ n = ap (size_in m) e ∙ sym sized in
    record { known = known; complete = ap (is_complete_in (env m)) e; size = sym size; small = omega (arith, size, few); some = some }

pub integer_size : (m : Known) (i : ℕ) (k : IntKind) (n : ℕ) → tree m i ≡ IntTy k → n ≡ width k / 8 → n ≤ 8 → Some n ≡ up_to (size_in m (tree m i))
integer_size m i k n e sized few =
    let size : size_in m (tree m i) ≡ n = ap (size_in m) e ∙ sym sized in
    sym (ap up_to size ∙ ap (λ c. if c then Some n else None) (le-leb n (2 ^ 32) (omega (arith, few))))

pub integer_align : (m : Known) (i : ℕ) (k : IntKind) (n : ℕ) → tree m i ≡ IntTy k → n ≡ width k / 8 → n ≡ (layout_in (env m) (tree m i)).align
integer_align m i k n e sized = sized ∙ ap (λ (t : Ty). (layout_in (env m) t).align) (sym e)

pub integer_form : (m : Known) (i : ℕ) (k : IntKind) → tree m i ≡ IntTy k → shape.Int k ≡ shape_of (tree m i)
integer_form m i k e = ap shape_of (sym e)

-- a pointer type
pub record IsPointer (es : List Entry) (t : Ty) : Type 0 where
  pub complete : IsTrue (is_complete_in es t)
  pub size : (layout_in es t).size ≡ 8
  pub align : (layout_in es t).align ≡ 8
  pub form : shape.Pointer ≡ shape_of t

pub pointer_is : (es : List Entry) (t : Ty) → IsTrue (points t) → IsPointer es t
pointer_is es (PointerTo t) h = record { complete = refl; size = refl; align = refl; form = refl }
pointer_is es VoidTy h = absurd cc
pointer_is es (IntTy k) h = absurd cc
pointer_is es (ArrayOf t n) h = absurd cc
pointer_is es (StructTag n) h = absurd cc
pointer_is es (UnionTag n) h = absurd cc
pointer_is es (FunctionTy t ts v) h = absurd cc
pointer_is es (ConstOf t) h = absurd cc

pub pointer_complete : (m : Known) (t : TypeId) → t.0 < length m.terms → IsTrue (points (tree m t.0)) → IsComplete m (record { t = t; size = 8 })
pointer_complete m t known h =
    let p = pointer_is (env m) (tree m t.0) h in
    record { known = known; complete = p.complete; size = sym p.size; small = omega (arith, p.size); some = omega arith }

-- what a complete type says of the type with its number
pub complete_test : (m : Known) (l : Complete) (t : TypeId) → l.t ≡ t → IsComplete m l → true ≡ (is_complete_in (env m) (tree m t.0) && is_size (size_in m (tree m t.0)))
complete_test m l t same h =
    subst (λ (q : TypeId). true ≡ (is_complete_in (env m) (tree m q.0) && is_size (size_in m (tree m q.0)))) same
    (sym (both_of (is_complete_in (env m) (tree m l.t.0)) (is_size (size_in m (tree m l.t.0))) h.complete (le-leb (size_in m (tree m l.t.0)) (2 ^ 32) h.small)))

pub complete_align : (m : Known) (l : Complete) (t : TypeId) (align : ℕ) → l.t ≡ t → IsComplete m l → align ≡ (layout_in (env m) (tree m l.t.0)).align → align ≡ alignment_by (env m) (tree m t.0)
complete_align m l t align same h is =
    subst (λ (q : TypeId). align ≡ alignment_by (env m) (tree m q.0)) same
    (is ∙ sym (ap (λ (b : Bool). if b then (layout_in (env m) (tree m l.t.0)).align else 1) h.complete))
