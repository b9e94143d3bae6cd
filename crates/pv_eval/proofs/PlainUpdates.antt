-- Full expressions that read a plain lvalue and store a value there.
use Rattle.std.proofs.Common.{◌≡◌, ℕ, ◌+◌, ◌++◌, Bool, true, false, List, [], ◌∷◌, refl, sym, ap, ◌∙◌, arith, subst, Some}
use Rattle.std.specs.Prelude.{pos, Option, None, if◌then◌else◌}
use Rattle.pv_num.specs.declared.kinds.IntKind.{IntKind}
use Rattle.pv_num.specs.declared.operators.BinOp.{BinOp}
use Rattle.pv_num.specs.declared.operators.BinOp.TheVariants as op
use Rattle.pv_tree.specs.declared.nodes.NodeId.{NodeId}
use Rattle.pv_types.specs.Ty.{Ty, VoidTy, IntTy, PointerTo, ArrayOf, StructTag, UnionTag, FunctionTy, ConstOf}
use Rattle.pv_object.specs.declared.values.Pointer.{Pointer}
use Rattle.pv_typed.specs.declared.nodes.IncrementOperator.{IncrementOperator}
use Rattle.pv_typed.specs.declared.nodes.Sign.{Sign}
use Rattle.pv_typed.specs.declared.nodes.Typed.{Typed}
use Rattle.pv_typed.specs.declared.nodes.Typed.TheVariants as typed
use Rattle.pv_typed.specs.TypedTree.{TypedTree, Node, type_of, line_of, form_of}
use Rattle.pv_typed.specs.Trees.{takes_turn}
use Rattle.pv_typed.specs.Tables.{Stored, nodes}
use Rattle.pv_typed.specs.NodeTrees.{expression_at}
use Rattle.pv_typed.specs.Plain.{with_own_turn, sum_of_turns, turns_of}
use Rattle.pv_seq.specs.Sequencing.{Open, with_access}
use Rattle.pv_world.specs.declared.got.How.TheVariants.{Rounds}
use Rattle.pv_world.specs.declared.got.Shape.TheVariants as shape
use Rattle.pv_world.specs.Worlds.{Worth, World}
use Rattle.pv_world.specs.Worths.{int, pointer}
use Rattle.pv_world.specs.Objects.{put_at}
use Rattle.pv_eval.specs.declared.marked.Marked.{Marked}
use Rattle.pv_eval.specs.States.{Setting, State, Res, Gives, then_do}
use Rattle.pv_eval.specs.TypeForms.{lvalue, shape_of, kind_of, element_size}
use Rattle.pv_types.specs.Sorts.{is_pointer}
use Rattle.pv_num.specs.Kinds.{promotion_of}
use Rattle.pv_eval.specs.Sizes.{setting_of}
use Rattle.pv_eval.specs.Accesses.{access_to}
use Rattle.pv_eval.specs.Operations.{Converts, Calculates, Moves, Reads, Writes, does, act}
use Rattle.pv_eval.specs.Sequenced.{node_value, operand}
use Rattle.pv_eval.specs.Steps.{Calling, takes, is_minus, is_down, is_after}
use Rattle.pv_eval.specs.OfRuns.{with_conversion, reading, writing, combining, stepping, ev_form}
use Rattle.pv_eval.specs.Evaluation.{ev}
use Rattle.pv_eval.specs.Frames.{first_after, both_after}
use Rattle.pv_eval.specs.Ahead.{first_operand_of}
use Rattle.pv_eval.specs.Plainly.{setting_by, state_with, has_read, Yields, form_by, GivesValue, whole_turns, Performs, AlwaysGives, GivesAt, IsConverted, ReadsFrom, StoresAt, StepsTo, CombinesTo}
use Rattle.pv_eval.proofs.Cases.{begins}
use Rattle.pv_eval.proofs.PlainSteps.{with_turn, reads_both, node_begun, node_stops, operand_stops}
use Rattle.pv_eval.proofs.PlainNumbers.{act_gives}
use Rattle.pv_eval.proofs.PlainStores.{root_whole, act_puts, value_from, operand_value}

-- the operator, and the conversion back
combining_gives : (w : World) (out : List ℕ) (es : List Marked) (n : ℕ) (b : Setting) (line : ℕ) (o : BinOp) (k back : IntKind) (v x y z : Worth) → AlwaysGives (λ b. Calculates o k v x) y → AlwaysGives (λ b. Converts (Rounds back) y) z
    → combining b line o k back v x (state_with w out es n) ≡ Gives z (state_with w out es n)
combining_gives w out es n b line o k back v x y z h g =
    ap (λ r. then_do r (λ v s. act b line (Converts (Rounds back) v) s)) (act_gives w out es n b line (Calculates o k v x) y (h b w))
    ∙ act_gives w out es n b line (Converts (Rounds back) y) z (g b w)

pub combines_to : (x : TypedTree) (o : BinOp) (k back : IntKind) (v w left right y z : Worth) → AlwaysGives (λ b. Converts (Rounds k) v) left → IsConverted x w right → AlwaysGives (λ b. Calculates o k left right) y
    → AlwaysGives (λ b. Converts (Rounds back) y) z → CombinesTo x o k back v w z
combines_to x o k back v w left right y z hl hr hc hz = λ b world line out es n go.
    ap (λ r. then_do r (λ v s. then_do (with_conversion b x w s) (λ w s. then_do (combining b line o k back v w s) go))) (act_gives world out es n b line (Converts (Rounds k) v) left (hl b world))
    ∙ ap (λ r. then_do r (λ w s. then_do (combining b line o k back left w s) go)) (hr b world out es n)
    ∙ ap (λ r. then_do r go) (combining_gives world out es n b line o k back left right y z hc hz)

-- a type whose values look like an integer's, or a pointer's
int_shape : (t : Ty) (k : IntKind) → shape_of t ≡ shape.Int k → (is_pointer t ≡ false) × (kind_of t ≡ k)
int_shape VoidTy k e = absurd cc
int_shape (IntTy j) k e = (refl, cc)
int_shape (PointerTo t) k e = absurd cc
int_shape (ArrayOf t n) k e = absurd cc
int_shape (StructTag n) k e = absurd cc
int_shape (UnionTag n) k e = absurd cc
int_shape (FunctionTy t ts v) k e = absurd cc
int_shape (ConstOf t) k e = int_shape t k e

module _ (u : Stored) (w : World) (t : Ty) (o : IncrementOperator) (v z : Worth) where
  abbrev operator : BinOp
  operator = if is_down o then op.Sub else op.Add

  abbrev by_form : Setting → ℕ → State → (pointer : Bool) → (kind : IntKind) → Res Worth
  by_form b line s c j = if c then act b line (Moves (is_down o) true (element_size b t) v (int (pos 1))) s else combining b line operator (promotion_of j) j v (int (pos 1)) s

  pub steps_number : (k : IntKind) (y : Worth) → shape_of t ≡ shape.Int k → AlwaysGives (λ b. Calculates operator (promotion_of k) v (int (pos 1))) y → AlwaysGives (λ b. Converts (Rounds k) y) z → StepsTo u w t o v z
  steps_number k y form h g = λ bound sides zap line out es n.
      let b = setting_by u bound sides zap in
      let s = state_with w out es n in
      let parts = int_shape t k form in
      ap (λ c. by_form b line s c (kind_of t)) parts.0
      ∙ ap (by_form b line s false) parts.1
      ∙ combining_gives w out es n b line operator (promotion_of k) k v (int (pos 1)) y z h g

  pub steps_pointer : (size : ℕ) → is_pointer t ≡ true → size ≡ element_size (setting_of u) t → GivesAt w (λ b. Moves (is_down o) true size v (int (pos 1))) z → StepsTo u w t o v z
  steps_pointer size pointing e h = λ bound sides zap line out es n.
      let b = setting_by u bound sides zap in
      let s = state_with w out es n in
      ap (λ c. by_form b line s c (kind_of t)) pointing
      ∙ act_gives w out es n b line (Moves (is_down o) true (element_size b t) v (int (pos 1))) z (ap (λ (k : ℕ). does b (Moves (is_down o) true k v (int (pos 1))) w) (sym e) ∙ h b)

-- `++` and `--` of an lvalue
pub performs_increment : (u : Stored) (w new : World) (m a : NodeId) (o : IncrementOperator) (p : Pointer) (v z : Worth) → form_of (expression_at u m) ≡ form_by u (typed.Increment o a) → Yields u w (expression_at u a) (pointer p)
    → ReadsFrom u w (type_of (expression_at u a)) p v → StepsTo u w (type_of (expression_at u m)) o v z → StoresAt u w (type_of (expression_at u a)) p z new → Performs u w new (expression_at u m) (if is_after o then v else z)
performs_increment u w new m a o p v z form y hr hs st =
    let x = expression_at u m in
    let xa = expression_at u a in
    let row = typed.Increment o a in
    let result = if is_after o then v else z in
    subst (λ (q : World). Performs u w q x result) (sym st.is) (record {
      turns = y.turns + 1;
      are = root_whole x (form_by u row) (with_own_turn true (turns_of xa)) form (λ t line turn. refl) ∙ ap (with_own_turn true) y.are;
      gives = λ call bound sides zap out es n room.
          let b = setting_by u bound sides zap in
          let t = type_of x in
          let line = line_of x in
          let l = lvalue b (type_of xa) in
          let after = put_at w p.address st.bytes in
          let last : n + 1 + y.turns ≡ n + (y.turns + 1) = omega arith in
          subst (λ k. GivesValue (ev b call x [] (state_with w out es n)) result (state_with after out es k)) last
          (value_from _ _ result _
          (node_begun u w call bound sides zap out es x (form_by u row) [] n y.turns form (omega (arith, room))
          ∙ begins b call t line u.lists (nodes u) [] (state_with w out es (n + 1)) row a refl)
          (operand_value u w call bound sides zap out es xa (pointer p) result y [] (n + 1) (first_after b call t line (form_by u row)) _ tt (omega (arith, room))
          (λ more hm.
          let j = has_read [] more in
          let i = has_read [] (more ++ access_to l p false ∷ []) in
          let k = n + 1 + y.turns in
          record {
            given = record { value = result; all = (more ++ access_to l p false ∷ []) ++ access_to l p true ∷ []; loose = access_to l p true ∷ [] };
            value = refl;
            is =
                ap (λ r. then_do r (λ q s. then_do (stepping b line t o q s) (λ r s. writing b l line (pointer p) r None i s (λ j r s. node_value j (if is_after o then q else r) s)))) (act_gives w out es k b line (Reads l (pointer p) []) v (hr bound sides zap [] tt))
                ∙ ap (λ r. then_do r (λ r s. writing b l line (pointer p) r None i s (λ j r s. node_value j (if is_after o then v else r) s))) (hs bound sides zap line out es k)
                ∙ ap (λ r. then_do r (λ r s. node_value (with_access (access_to l p true) i) (if is_after o then v else r) s)) (act_puts w p.address st.bytes out es k b line (Writes l (pointer p) z None []) z (st.writes bound sides zap));
          })));
      stops = λ call bound sides zap out es n low high.
          let b = setting_by u bound sides zap in
          let t = type_of x in
          let line = line_of x in
          node_stops u w call bound sides zap out es x (form_by u row) [] n y.turns form low (omega (arith, high)) (λ below above.
          begins b call t line u.lists (nodes u) [] (state_with w out es (n + 1)) row a refl
          ∙ operand_stops u w call bound sides zap out es xa (pointer p) y [] [] (n + 1) 0 (first_after b call t line (form_by u row)) tt tt below (omega (arith, above)) (λ le more hm. absurd (omega (arith, le, above))));
    })

-- a node that reads the lvalue of its first operand before the second one is evaluated, and stores a value there
pub record IsUpdate (u : Stored) (row : Typed) (a d : NodeId) : Type 0 where
  pub first : first_operand_of row ≡ Some a
  pub takes : (turn : Bool) → takes turn (form_by u row) ≡ true
  pub turns : (t : Ty) (line : ℕ) (turn : Bool) → whole_turns (Node t line turn (form_by u row)) ≡ with_own_turn true (sum_of_turns (turns_of (expression_at u a)) (turns_of (expression_at u d)))
  pub goes : (b : Setting) (call : Calling) (t : Ty) (line : ℕ) (j : Open) (p : Worth) (s : State)
      → first_after b call t line (form_by u row) j p s ≡ reading b (lvalue b (type_of (expression_at u a))) line p j s (λ j v s. operand (ev b call (expression_at u d)) j s (both_after b call t line (form_by u row) p v))

-- what it stores, with the place, what was read and the value of its second operand
abbrev Stores : Stored → World → Ty → Typed → (a : NodeId) → (place read second z : Worth) → Type 0
Stores u w t row a p v second z =
    (call : Calling) (bound : ℕ) (sides : Option (List Bool)) (zap : Bool) (line : ℕ) (j : Open) (out : List ℕ) (es : List Marked) (n : ℕ)
    → both_after (setting_by u bound sides zap) call t line (form_by u row) p v j second (state_with w out es n) ≡ writing (setting_by u bound sides zap) (lvalue (setting_by u bound sides zap) (type_of (expression_at u a))) line p z None j (state_with w out es n) node_value

performs_update : (u : Stored) (w new : World) (m a d : NodeId) (row : Typed) (p : Pointer) (v second z : Worth) → form_of (expression_at u m) ≡ form_by u row → IsUpdate u row a d → Yields u w (expression_at u a) (pointer p)
    → ReadsFrom u w (type_of (expression_at u a)) p v → Yields u w (expression_at u d) second → Stores u w (type_of (expression_at u m)) row a (pointer p) v second z → StoresAt u w (type_of (expression_at u a)) p z new → Performs u w new (expression_at u m) z
performs_update u w new m a d row p v second z form is y hr yd hb st =
    let x = expression_at u m in
    let xa = expression_at u a in
    let xd = expression_at u d in
    let f = form_by u row in
    let counts : (k : ℕ) → with_turn (takes (takes_turn x) f) k ≡ k + 1 = λ k. ap (λ c. with_turn c k) (is.takes (takes_turn x)) in
    subst (λ (q : World). Performs u w q x z) (sym st.is) (record {
      turns = y.turns + yd.turns + 1;
      are = root_whole x f (with_own_turn true (sum_of_turns (turns_of xa) (turns_of xd))) form is.turns ∙ ap (λ o. with_own_turn true (sum_of_turns o (turns_of xd))) y.are ∙ ap (λ o. with_own_turn true (sum_of_turns (Some y.turns) o)) yd.are;
      gives = λ call bound sides zap out es n room.
          let b = setting_by u bound sides zap in
          let t = type_of x in
          let line = line_of x in
          let l = lvalue b (type_of xa) in
          let after = put_at w p.address st.bytes in
          let last : n + 1 + y.turns + yd.turns ≡ n + (y.turns + yd.turns + 1) = omega arith in
          subst (λ k. GivesValue (ev b call x [] (state_with w out es n)) z (state_with after out es k)) last
          (value_from _ _ z _
          (node_begun u w call bound sides zap out es x f [] n (y.turns + yd.turns) form (omega (arith, counts (y.turns + yd.turns), room))
          ∙ ap (λ k. ev_form b call t line f [] (state_with w out es k)) (counts n)
          ∙ begins b call t line u.lists (nodes u) [] (state_with w out es (n + 1)) row a is.first)
          (operand_value u w call bound sides zap out es xa (pointer p) z y [] (n + 1) (first_after b call t line f) _ tt (omega (arith, room))
          (λ more hm.
          let near = more ++ access_to l p false ∷ [] in
          value_from _ _ z _
          (is.goes b call t line (has_read [] more) (pointer p) (state_with w out es (n + 1 + y.turns))
          ∙ ap (λ r. then_do r (λ v s. operand (ev b call xd) (has_read [] near) s (both_after b call t line f (pointer p) v))) (act_gives w out es (n + 1 + y.turns) b line (Reads l (pointer p) []) v (hr bound sides zap [] tt)))
          (operand_value u w call bound sides zap out es xd second z yd near (n + 1 + y.turns) (both_after b call t line f (pointer p) v) _ (reads_both more (access_to l p false ∷ []) hm (refl, tt)) (omega (arith, room))
          (λ rest hs.
          let j = has_read [] (near ++ rest) in
          record {
            given = record { value = z; all = (near ++ rest) ++ access_to l p true ∷ []; loose = access_to l p true ∷ [] };
            value = refl;
            is =
                hb call bound sides zap line j out es (n + 1 + y.turns + yd.turns)
                ∙ ap (λ r. then_do r (λ v s. node_value (with_access (access_to l p true) j) v s)) (act_puts w p.address st.bytes out es (n + 1 + y.turns + yd.turns) b line (Writes l (pointer p) z None []) z (st.writes bound sides zap));
          })))));
      stops = λ call bound sides zap out es n low high.
          let b = setting_by u bound sides zap in
          let t = type_of x in
          let line = line_of x in
          let l = lvalue b (type_of xa) in
          node_stops u w call bound sides zap out es x f [] n (y.turns + yd.turns) form low (omega (arith, counts (y.turns + yd.turns), high)) (λ below above.
          ap (λ k. ev_form b call t line f [] (state_with w out es k)) (counts n)
          ∙ begins b call t line u.lists (nodes u) [] (state_with w out es (n + 1)) row a is.first
          ∙ operand_stops u w call bound sides zap out es xa (pointer p) y [] [] (n + 1) yd.turns (first_after b call t line f) tt tt (omega (arith, counts n, below)) (omega (arith, counts n, above)) (λ le more hm.
          let near = more ++ access_to l p false ∷ [] in
          is.goes b call t line (has_read [] more) (pointer p) (state_with w out es (n + 1 + y.turns))
          ∙ ap (λ r. then_do r (λ v s. operand (ev b call xd) (has_read [] near) s (both_after b call t line f (pointer p) v))) (act_gives w out es (n + 1 + y.turns) b line (Reads l (pointer p) []) v (hr bound sides zap [] tt))
          ∙ operand_stops u w call bound sides zap out es xd second yd [] near (n + 1 + y.turns) 0 (both_after b call t line f (pointer p) v) tt (reads_both more (access_to l p false ∷ []) hm (refl, tt)) le (omega (arith, counts n, above))
          (λ within rest hs. absurd (omega (arith, counts n, within, above)))));
    })

-- a compound assignment of integers
pub performs_compound : (u : Stored) (w new : World) (m a d : NodeId) (o : BinOp) (k : IntKind) (p : Pointer) (v second z : Worth) → form_of (expression_at u m) ≡ form_by u (typed.CompoundAssign o k a d) → Yields u w (expression_at u a) (pointer p)
    → ReadsFrom u w (type_of (expression_at u a)) p v → Yields u w (expression_at u d) second → CombinesTo (expression_at u d) o k (kind_of (type_of (expression_at u m))) v second z → StoresAt u w (type_of (expression_at u a)) p z new
    → Performs u w new (expression_at u m) z
performs_compound u w new m a d o k p v second z form y hr yd hc st =
    performs_update u w new m a d (typed.CompoundAssign o k a d) p v second z form
    (record { first = refl; takes = λ turn. refl; turns = λ t line turn. refl; goes = λ b call t line j p s. refl }) y hr yd
    (λ call bound sides zap line j out es n.
    let b = setting_by u bound sides zap in
    hc b w line out es n (λ v s. writing b (lvalue b (type_of (expression_at u a))) line (pointer p) v None j s node_value)) st

-- a pointer that is moved
pub performs_pointer : (u : Stored) (w new : World) (m a d : NodeId) (sign : Sign) (minus : Bool) (size : ℕ) (p : Pointer) (v second z : Worth) → form_of (expression_at u m) ≡ form_by u (typed.PointerAssign sign a d)
    → minus ≡ is_minus sign → size ≡ element_size (setting_of u) (type_of (expression_at u m)) → Yields u w (expression_at u a) (pointer p)
    → ReadsFrom u w (type_of (expression_at u a)) p v → Yields u w (expression_at u d) second → GivesAt w (λ b. Moves minus true size v second) z → StoresAt u w (type_of (expression_at u a)) p z new
    → Performs u w new (expression_at u m) z
performs_pointer u w new m a d sign minus size p v second z form em sized y hr yd h st =
    let t = type_of (expression_at u m) in
    performs_update u w new m a d (typed.PointerAssign sign a d) p v second z form
    (record { first = refl; takes = λ turn. refl; turns = λ t line turn. refl; goes = λ b call t line j p s. refl }) y hr yd
    (λ call bound sides zap line j out es n.
    let b = setting_by u bound sides zap in
    ap (λ r. then_do r (λ v s. writing b (lvalue b (type_of (expression_at u a))) line (pointer p) v None j s node_value))
    (act_gives w out es n b line (Moves (is_minus sign) true (element_size b t) v second) z
    (ap (λ c. does b (Moves c true (element_size b t) v second) w) (sym em) ∙ ap (λ (k : ℕ). does b (Moves minus true k v second) w) (sym sized) ∙ h b))) st
