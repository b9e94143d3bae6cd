-- Conversions that give a value in any world.
use Rattle.std.proofs.Common.{◌≡◌, ℕ, Bool, true, sym, ap, ◌∙◌, arith, subst, Some, None, FitsSigned, w64, to_z, of_z}
use Rattle.std.specs.Prelude.{ℤ, pos, ◌==◌, ◌+◌, length, Option, IfSome, if◌then◌else◌, Ok, Err}
use Rattle.std.proofs.Math.Nat.{zero-mod}
use Rattle.std.proofs.lemmas.Int.{to_z-of_z}
use Rattle.std.proofs.lemmas.List.{drop_all}
use Rattle.pv_num.specs.declared.kinds.IntKind.{IntKind}
use Rattle.pv_fault.specs.declared.faults.Clause.TheVariants as clause
use Rattle.pv_fault.specs.declared.faults.Reason.TheVariants as reason
use Rattle.pv_types.specs.Ty.{Ty}
use Rattle.pv_inst.specs.Use.{empty_use}
use Rattle.pv_object.specs.Access.{fault}
use Rattle.pv_typed.specs.TypedTree.{TypedTree, Convert, type_of, form_of}
use Rattle.pv_typed.specs.TypedUnits.{layouts}
use Rattle.pv_world.specs.declared.got.Shape.{Shape}
use Rattle.pv_world.specs.declared.got.Shape.TheVariants as shape
use Rattle.pv_world.specs.declared.got.How.TheVariants.{Points, Recasts}
use Rattle.pv_world.specs.Worlds.{Worth, World}
use Rattle.pv_world.specs.Worths.{int, pointer, null_pointer}
use Rattle.pv_world.specs.Conversions.{recast_by}
use Rattle.pv_world.specs.Telling.{no_telling, telling, each_paired}
use Rattle.pv_world.specs.Doing.{Answers}
use Rattle.pv_eval.specs.States.{Setting}
use Rattle.pv_eval.specs.Operations.{Converts, does}
use Rattle.pv_eval.specs.Conversions.{how_by, how_to}
use Rattle.pv_eval.specs.TypeForms.{shape_of, pointed_to, alignment_by}
use Rattle.pv_eval.specs.declared.plain.Found.{Found}
use Rattle.pv_eval.specs.Plainly.{AlwaysGives, IsConverted, found_worth}
use Rattle.pv_eval.proofs.PlainNumbers.{converted_at}

-- a number of 64 bits that are 0
pub zero_bits : (x : ℤ) → FitsSigned w64 x → of_z w64 x ≡ 0 → x ≡ pos 0
zero_bits x fits e = sym (to_z-of_z w64 x fits) ∙ ap (to_z w64) e

-- 0 becomes null, of which no pair is made
zero_points : (b : Setting) (w : World) → does b (Converts Points (int (pos 0))) w ≡ Answers (pointer null_pointer) w no_telling
zero_points b w =
    let T = w.memory.table in
    ap (λ ts. Answers (pointer null_pointer) w (telling (each_paired T (length T.pairs + 1) ts))) (drop_all (length T.pairs) T.pairs (omega arith))

pub zero_some : (from to : Ty) (k : IntKind) (x : ℤ) → shape_of from ≡ shape.Int k → shape_of to ≡ shape.Pointer → x ≡ pos 0
    → (implied : Bool) → AlwaysGives (λ b. Converts (how_to b implied from to) (int x)) (pointer null_pointer)
zero_some from to k x e f is implied = λ b w.
    ap (λ (s : Shape). does b (Converts (how_by (layouts b.unit) implied s (shape_of to) (pointed_to to)) (int x)) w) e
    ∙ ap (λ (s : Shape). does b (Converts (how_by (layouts b.unit) implied (shape.Int k) s (pointed_to to)) (int x)) w) f
    ∙ ap (λ (n : ℤ). does b (Converts Points (int n)) w) is
    ∙ zero_points b w

-- null is aligned for each type
null_recasts : (b : Setting) (w : World) (n : ℕ) → does b (Converts (Recasts n) (pointer null_pointer)) w ≡ Answers (pointer null_pointer) w no_telling
null_recasts b w n =
    ap (λ (m : ℕ). recast_by w null_pointer (if m == 0 then Ok empty_use else Err (fault clause.PointerToPointer reason.Misaligned), w.memory.table)) (zero-mod n)

pub null_some : (from to : Ty) → shape_of from ≡ shape.Pointer → shape_of to ≡ shape.Pointer → (implied : Bool) → AlwaysGives (λ b. Converts (how_to b implied from to) (pointer null_pointer)) (pointer null_pointer)
null_some from to e f implied = λ b w.
    ap (λ (s : Shape). does b (Converts (how_by (layouts b.unit) implied s (shape_of to) (pointed_to to)) (pointer null_pointer)) w) e
    ∙ ap (λ (s : Shape). does b (Converts (how_by (layouts b.unit) implied shape.Pointer s (pointed_to to)) (pointer null_pointer)) w) f
    ∙ null_recasts b w (alignment_by (layouts b.unit) (pointed_to to))

-- the operand of a node, converted by its own node
pub changed_some : (x i : TypedTree) (from to : Ty) (v : Worth) (r : Option Found) → form_of x ≡ Convert i → from ≡ type_of i → to ≡ type_of x
    → IfSome r (λ z. AlwaysGives (λ b. Converts (how_to b true from to) v) (found_worth z)) → IfSome r (λ z. IsConverted x v (found_worth z))
changed_some x i from to v None form e f h = tt
changed_some x i from to v (Some z) form e f h =
    converted_at x i v (found_worth z) form
    (subst (λ (t : Ty). AlwaysGives (λ b. Converts (how_to b true t (type_of x)) v) (found_worth z)) e
    (subst (λ (t : Ty). AlwaysGives (λ b. Converts (how_to b true from t) v) (found_worth z)) f h))
