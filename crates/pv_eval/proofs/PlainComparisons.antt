-- Comparisons of pointers that pass their live tests, and leave the world as it is.
use Rattle.std.proofs.Common.{◌≡◌, ℕ, Bool, true, false, refl, sym, ap, ◌∙◌, Some, None}
use Rattle.std.specs.Ordering.{int_eq}
use Rattle.std.specs.Prelude.{ℤ, pos, not, ◌==◌, ◌++◌, Option, IfSome, if◌then◌else◌, Ok}
use Rattle.pv_num.specs.declared.operators.BinOp.{BinOp}
use Rattle.pv_inst.specs.declared.values.Test.TheVariants.{Live}
use Rattle.pv_inst.specs.Table.{Table}
use Rattle.pv_inst.specs.Use.{use_answer, after_use}
use Rattle.pv_object.specs.Operations.{equal_after}
use Rattle.pv_object.specs.OperationParts.{equal_by, truth_by}
use Rattle.pv_tree.specs.declared.nodes.NodeId.{NodeId}
use Rattle.pv_types.specs.Ty.{Ty}
use Rattle.pv_typed.specs.declared.nodes.Typed.TheVariants as typed
use Rattle.pv_typed.specs.Tables.{Stored}
use Rattle.pv_typed.specs.NodeTrees.{expression_at}
use Rattle.pv_world.specs.Worlds.{Worth, World}
use Rattle.pv_world.specs.Worths.{int, pointer, truth_int, missing_value}
use Rattle.pv_world.specs.Telling.{no_telling, telling, uses, event_of_use, live_test}
use Rattle.pv_world.specs.ObjectParts.{used_pair}
use Rattle.pv_world.specs.Doing.{Answers, Fails}
use Rattle.pv_world.specs.Conversions.{opposite, tests, truth_by as truth_of}
use Rattle.pv_world.specs.Pointers.{equals, equal_by as equal_of}
use Rattle.pv_eval.specs.States.{then_do}
use Rattle.pv_world.specs.Suiting.{knows}
use Rattle.pv_eval.specs.Operations.{Equals, Negates, Tests, does}
use Rattle.pv_eval.specs.Sequenced.{node_value}
use Rattle.pv_eval.specs.OfRuns.{work, with_conversion}
use Rattle.pv_eval.specs.Steps.{is_unequal}
use Rattle.pv_eval.specs.declared.plain.Found.{Found}
use Rattle.pv_eval.specs.Plainly.{setting_by, state_with, has_read, GivesAt, GivesWithBoth, IsConverted, IsLooked, found_worth}
use Rattle.pv_world.proofs.Guards.{both_of}
use Rattle.pv_eval.proofs.PlainNumbers.{act_gives}

module _ (w : World) where
  abbrev T : Table
  T = w.memory.table

  abbrev unequal : (negated same : Bool) → Bool
  unequal negated same = if negated then not same else same

  pub compares : (negated : Bool) (v x : Worth) (a c : ℕ) → IsLooked T v a → IsLooked T x c → GivesAt w (λ b. Equals negated v x) (truth_int (unequal negated (a == c)))
  compares negated v x a c hv hx = λ b.
      let p = hv.named in
      let q = hx.named in
      ap (λ y. does b (Equals negated y x) w) hv.is
      ∙ ap (λ y. does b (Equals negated (pointer p) y) w) hx.is
      ∙ ap (λ d. if d then equals negated (pointer p) (pointer q) w else Fails missing_value None w no_telling) (both_of (knows T p.prov) (knows T q.prov) hv.known hx.known)
      ∙ ap (λ r. equal_of negated w p q (equal_after T p q r)) hv.used
      ∙ ap (λ (U : Table). equal_of negated w p q (equal_by p q hv.tried (use_answer U q.prov Live), after_use U q.prov (use_answer U q.prov Live))) hv.stays
      ∙ ap (λ r. equal_of negated w p q (equal_by p q hv.tried r, after_use T q.prov r)) hx.used
      ∙ ap (λ (U : Table). equal_of negated w p q (Ok (p.address == q.address, hv.tried, hx.tried), U)) hx.stays
      ∙ ap (λ r. Answers (truth_int (unequal negated (p.address == q.address))) w (telling (uses live_test r ++ event_of_use live_test hx.tried))) hv.used
      ∙ ap (λ k. Answers (truth_int (unequal negated (p.address == q.address))) w (telling (used_pair k live_test hv.tried ++ event_of_use live_test hx.tried))) hv.single
      ∙ ap (λ k. Answers (truth_int (unequal negated (p.address == q.address))) w (telling (used_pair k live_test hx.tried))) hx.single
      ∙ ap (λ m. Answers (truth_int (unequal negated (m == q.address))) w no_telling) hv.address
      ∙ ap (λ m. Answers (truth_int (unequal negated (a == m))) w no_telling) hx.address

  -- a pointer compared with 0
  opposed : (c : Bool) → opposite (not c) ≡ truth_int c
  opposed true = refl
  opposed false = refl

  pub number_negated : (n : ℤ) (v : Worth) → v ≡ truth_int (int_eq n (pos 0)) → GivesAt w (λ b. Negates (int n)) v
  number_negated n v e = λ b. ap (λ y. Answers y w no_telling) (opposed (int_eq n (pos 0)) ∙ sym e)

  pub negates : (v : Worth) (a : ℕ) → IsLooked T v a → GivesAt w (λ b. Negates v) (truth_int (a == 0))
  negates v a hv = λ b.
      let p = hv.named in
      ap (λ y. does b (Negates y) w) hv.is
      ∙ ap (λ d. if d then tests opposite (pointer p) w else Fails missing_value None w no_telling) hv.known
      ∙ ap (λ r. truth_of w p (truth_by p r, after_use T p.prov r) opposite) hv.used
      ∙ ap (λ (U : Table). truth_of w p (Ok (not (p.address == 0), hv.tried), U) opposite) hv.stays
      ∙ ap (λ k. Answers (opposite (not (p.address == 0))) w (telling (used_pair k live_test hv.tried))) hv.single
      ∙ ap (λ y. Answers y w no_telling) (opposed (p.address == 0))
      ∙ ap (λ m. Answers (truth_int (m == 0)) w no_telling) hv.address

  -- and as a controlling expression asks
  pub number_tested : (n : ℤ) (t : Bool) → t ≡ not (int_eq n (pos 0)) → GivesAt w (λ b. Tests (int n)) (truth_int t)
  number_tested n t e = λ b. ap (λ c. Answers (truth_int c) w no_telling) (sym e)

  pub pointer_tested : (v : Worth) (a : ℕ) (t : Bool) → IsLooked T v a → t ≡ not (a == 0) → GivesAt w (λ b. Tests v) (truth_int t)
  pointer_tested v a t hv e = λ b.
      let p = hv.named in
      ap (λ y. does b (Tests y) w) hv.is
      ∙ ap (λ d. if d then tests truth_int (pointer p) w else Fails missing_value None w no_telling) hv.known
      ∙ ap (λ r. truth_of w p (truth_by p r, after_use T p.prov r) truth_int) hv.used
      ∙ ap (λ (U : Table). truth_of w p (Ok (not (p.address == 0), hv.tried), U) truth_int) hv.stays
      ∙ ap (λ k. Answers (truth_int (not (p.address == 0))) w (telling (used_pair k live_test hv.tried))) hv.single
      ∙ ap (λ m. Answers (truth_int (not (m == 0))) w no_telling) hv.address
      ∙ ap (λ c. Answers (truth_int c) w no_telling) (sym e)

-- an operator on two pointers
pub gives_equality : (u : Stored) (w : World) (t : Ty) (op : BinOp) (negated : Bool) (a d : NodeId) (x y left right v : Worth) → IsConverted (expression_at u a) x left → IsConverted (expression_at u d) y right
    → negated ≡ is_unequal op → GivesAt w (λ b. Equals negated left right) v → GivesWithBoth u w t (typed.PointerEquality op a d) x y v
gives_equality u w t op negated a d x y left right v hx hy e h = record {
  turns = λ turn. refl;
  gives = λ call bound sides zap line fs gs out es n hf ha.
      let b = setting_by u bound sides zap in
      let s = state_with w out es n in
      let j = has_read fs gs in
      record {
        reads = ha;
        is =
            ap (λ r. then_do r (λ v s. then_do (with_conversion b (expression_at u d) y s) (λ z s. work b line (Equals (is_unequal op) v z) j s))) (hx b w out es n)
            ∙ ap (λ r. then_do r (λ z s. work b line (Equals (is_unequal op) left z) j s)) (hy b w out es n)
            ∙ ap (λ c. work b line (Equals c left right) j s) (sym e)
            ∙ ap (λ r. then_do r (node_value j)) (act_gives w out es n b line (Equals negated left right) v (h b));
      };
}

pub equality_some : (u : Stored) (w : World) (t : Ty) (op : BinOp) (negated : Bool) (a d : NodeId) (x y left right : Worth) (r : Option Found) → IsConverted (expression_at u a) x left → IsConverted (expression_at u d) y right
    → negated ≡ is_unequal op → IfSome r (λ v. GivesAt w (λ b. Equals negated left right) (found_worth v)) → IfSome r (λ v. GivesWithBoth u w t (typed.PointerEquality op a d) x y (found_worth v))
equality_some u w t op negated a d x y left right None hx hy e h = tt
equality_some u w t op negated a d x y left right (Some v) hx hy e h = gives_equality u w t op negated a d x y left right (found_worth v) hx hy e h
