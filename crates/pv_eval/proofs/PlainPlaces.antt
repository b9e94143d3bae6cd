-- Pointers that move within their instance, and leave the world as it is.
use Rattle.std.proofs.Common.{◌≡◌, ℕ, ◌+◌, ◌≤◌, Bool, true, false, refl, sym, ap, ◌∙◌, arith, Some, None}
use Rattle.std.specs.Prelude.{ℤ, pos, ◌&&◌, ◌==◌, Option, IfSome, if◌then◌else◌, Err}
use Rattle.pv_fault.specs.declared.faults.Clause.{Clause}
use Rattle.pv_fault.specs.declared.faults.Clause.TheVariants as clause
use Rattle.pv_fault.specs.declared.faults.Reason.TheVariants as reason
use Rattle.pv_prov.specs.declared.names.Prov.TheVariants.{Inst}
use Rattle.pv_inst.specs.declared.values.Info.{Info}
use Rattle.pv_inst.specs.declared.values.Kind.{Kind}
use Rattle.pv_inst.specs.Table.{Table, instance_at}
use Rattle.pv_inst.specs.Infos.{info_of}
use Rattle.pv_inst.specs.Use.{is_function, holds}
use Rattle.pv_object.specs.declared.values.Pointer.{Pointer}
use Rattle.pv_object.specs.Access.{fault}
use Rattle.pv_object.specs.Operations.{moved_to, move_under}
use Rattle.pv_object.specs.OperationParts.{address_on, moved_by}
use Rattle.pv_tree.specs.declared.nodes.NodeId.{NodeId}
use Rattle.pv_types.specs.Ty.{Ty}
use Rattle.pv_typed.specs.declared.nodes.Sign.{Sign}
use Rattle.pv_typed.specs.declared.nodes.Typed.TheVariants as typed
use Rattle.pv_typed.specs.TypedTree.{type_of}
use Rattle.pv_typed.specs.Tables.{Stored}
use Rattle.pv_typed.specs.NodeTrees.{expression_at}
use Rattle.pv_world.specs.Worlds.{Worth, World}
use Rattle.pv_world.specs.Worths.{int, pointer, missing_value}
use Rattle.pv_world.specs.Telling.{no_telling}
use Rattle.pv_world.specs.Doing.{Fails}
use Rattle.pv_world.specs.Pointers.{distance, moves, moved_by as moved_so}
use Rattle.pv_world.specs.PointerParts.{selects}
use Rattle.pv_eval.specs.States.{then_do}
use Rattle.pv_eval.specs.TypeForms.{element_size}
use Rattle.pv_types.specs.Sorts.{is_pointer}
use Rattle.pv_eval.specs.Sizes.{setting_of}
use Rattle.pv_world.specs.Suiting.{knows_worth, is_small, is_size}
use Rattle.pv_eval.specs.Operations.{Moves, Selects, does}
use Rattle.pv_eval.specs.Sequenced.{node_value}
use Rattle.pv_eval.specs.Steps.{is_minus}
use Rattle.pv_eval.specs.declared.plain.Found.{Found}
use Rattle.pv_eval.specs.declared.plain.Spot.{Spot}
use Rattle.pv_eval.specs.Plainly.{setting_by, has_read, GivesAt, GivesWithBoth, HasMoved, found_worth, pointer_at}
use Rattle.pv_world.proofs.Guards.{both_of}
use Rattle.pv_eval.proofs.Through.{right_false}
use Rattle.pv_eval.proofs.PlainReads.{used, live_known}
use Rattle.pv_eval.proofs.PlainNumbers.{act_gives}

-- no byte is held by each kind
none_held : (k : Kind) → holds k 0 ≡ true
none_held k = by (is_function k)
  where
    by : (c : Bool) → (if c then 0 == 0 else true) ≡ true
    by true = refl
    by false = refl

pub has_moved : (T : Table) (i a to : ℕ) (by : ℤ) (y : Info) (c : Clause) → info_of (instance_at T.instances i) ≡ Some y → address_on a by ≡ to → y.base ≤ to → to ≤ y.base + y.size
    → HasMoved c T (record { address = a; prov = Inst i }) by (record { address = to; prov = Inst i })
has_moved T i a to by y c there is low high =
    let p : Pointer = record { address = a; prov = Inst i } in
    record {
      known = live_known T i y there;
      is =
          ap (λ b. if b then (Err (fault c reason.Null), T) else moved_to c T p (address_on a by)) (right_false (a == 0) false refl)
          ∙ ap (moved_to c T p) is
          ∙ ap (λ r. (moved_by c p to r, T)) (used T i to 0 y there low (omega (arith, high)) (none_held y.kind));
    }

module _ (w : World) (p : Spot) where
  pub selected_some : (offset : ℕ) (by : ℤ) (r : Option Spot) → by ≡ pos offset → IfSome r (λ q. HasMoved clause.Indirection w.memory.table (pointer_at p) by (pointer_at q)) → IfSome r (λ q. GivesAt w (λ b. Selects offset (pointer (pointer_at p))) (pointer (pointer_at q)))
  selected_some offset by None e h = tt
  selected_some offset by (Some q) e h = λ b.
      ap (λ c. if c then selects offset (pointer (pointer_at p)) w else Fails missing_value None w no_telling) h.known
      ∙ ap (λ (n : ℤ). moved_so w (pointer_at p) (move_under clause.Indirection w.memory.table (pointer_at p) n)) (sym e)
      ∙ ap (moved_so w (pointer_at p)) h.is

  pub stepped_some : (minus : Bool) (size : ℕ) (k by : ℤ) (r : Option Spot) → is_size size ≡ true → is_small (int k) ≡ true → by ≡ distance minus size k
      → IfSome r (λ q. HasMoved clause.AdditionOfPointers w.memory.table (pointer_at p) by (pointer_at q)) → IfSome r (λ q. GivesAt w (λ b. Moves minus true size (pointer (pointer_at p)) (int k)) (pointer (pointer_at q)))
  stepped_some minus size k by None sized small e h = tt
  stepped_some minus size k by (Some q) sized small e h = λ b.
      let v = pointer (pointer_at p) in
      let T = w.memory.table in
      ap (λ c. if c then moves minus true size v (int k) w else Fails missing_value None w no_telling)
      (both_of (is_size size) ((is_small v && is_small (int k)) && (knows_worth T v && knows_worth T (int k))) sized
      (both_of (is_small v && is_small (int k)) (knows_worth T v && knows_worth T (int k)) (both_of (is_small v) (is_small (int k)) refl small) (both_of (knows_worth T v) true h.known refl)))
      ∙ ap (λ (n : ℤ). moved_so w (pointer_at p) (move_under clause.AdditionOfPointers T (pointer_at p) n)) (sym e)
      ∙ ap (moved_so w (pointer_at p)) h.is

-- nodes with a pointer and an integer
module _ (u : Stored) (w : World) (a d : NodeId) (size : ℕ) (first second : Worth) (pointing : is_pointer (type_of (expression_at u a)) ≡ true) where
  pub subscript_some : (t : Ty) (r : Option Found) → size ≡ element_size (setting_of u) (type_of (expression_at u a)) → IfSome r (λ v. GivesAt w (λ b. Moves false true size first second) (found_worth v))
      → IfSome r (λ v. GivesWithBoth u w t (typed.Subscript a d) first second (found_worth v))
  subscript_some t None e h = tt
  subscript_some t (Some v) e h =
      let x = type_of (expression_at u a) in
      let y = type_of (expression_at u d) in
      record {
        turns = λ turn. refl;
        gives = λ call bound sides zap line fs gs out es n hf hg.
            let b = setting_by u bound sides zap in
            record {
              reads = hg;
              is =
                  ap (λ r. then_do r (node_value (has_read fs gs)))
                  (act_gives w out es n b line (Moves false (is_pointer x) (element_size b (if is_pointer x then x else y)) first second) (found_worth v)
                  (ap (λ c. does b (Moves false c (element_size b (if c then x else y)) first second) w) pointing
                  ∙ ap (λ (k : ℕ). does b (Moves false true k first second) w) (sym e)
                  ∙ h b));
            };
      }

  pub summed_some : (t : Ty) (sign : Sign) (minus : Bool) (r : Option Found) → minus ≡ is_minus sign → size ≡ element_size (setting_of u) t → IfSome r (λ v. GivesAt w (λ b. Moves minus true size first second) (found_worth v))
      → IfSome r (λ v. GivesWithBoth u w t (typed.PointerSum sign a d) first second (found_worth v))
  summed_some t sign minus None f e h = tt
  summed_some t sign minus (Some v) f e h =
      let x = type_of (expression_at u a) in
      record {
        turns = λ turn. refl;
        gives = λ call bound sides zap line fs gs out es n hf hg.
            let b = setting_by u bound sides zap in
            record {
              reads = hg;
              is =
                  ap (λ r. then_do r (node_value (has_read fs gs)))
                  (act_gives w out es n b line (Moves (is_minus sign) (is_pointer x) (element_size b t) first second) (found_worth v)
                  (ap (λ c. does b (Moves (is_minus sign) c (element_size b t) first second) w) pointing
                  ∙ ap (λ c. does b (Moves c true (element_size b t) first second) w) (sym f)
                  ∙ ap (λ (k : ℕ). does b (Moves minus true k first second) w) (sym e)
                  ∙ h b));
            };
      }
