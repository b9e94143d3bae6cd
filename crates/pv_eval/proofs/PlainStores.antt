-- Full expressions that are plain but for a store at their root.
use Rattle.std.proofs.Common.{◌≡◌, ℕ, ◌+◌, ◌++◌, ◌≤◌, Bool, true, false, List, [], ◌∷◌, refl, sym, ap, ◌∙◌, arith, subst, Some, None, append-nil}
use Rattle.std.specs.Prelude.{◌&&◌, nat_le, Option, IfSome, slice_get, if◌then◌else◌}
use Rattle.pv_fault.specs.declared.faults.Clause.TheVariants.{EffectiveTypes}
use Rattle.pv_fault.specs.declared.faults.Reason.TheVariants.{WrongType}
use Rattle.pv_prov.specs.declared.names.Prov.TheVariants.{Inst}
use Rattle.pv_tree.specs.declared.nodes.NodeId.{NodeId}
use Rattle.pv_types.specs.Ty.{Ty}
use Rattle.pv_shadow.specs.declared.byte.Byte.{Byte}
use Rattle.pv_object.specs.declared.values.Pointer.{Pointer}
use Rattle.pv_object.specs.declared.values.Reach.{Reach}
use Rattle.pv_typed.specs.declared.nodes.Typed.TheVariants as typed
use Rattle.pv_typed.specs.TypedTree.{TypedTree, Node, Form, Assign, CompoundAssign, PointerAssign, Increment, Read, type_of, line_of, form_of}
use Rattle.pv_typed.specs.Tables.{Stored, nodes}
use Rattle.pv_typed.specs.NodeTrees.{expression_at}
use Rattle.pv_typed.specs.Plain.{with_own_turn, sum_of_turns, turns_within, turns_of}
use Rattle.pv_seq.specs.Sequencing.{Access, Open, rivals, with_access}
use Rattle.pv_world.specs.declared.got.Shape.{Shape}
use Rattle.pv_world.specs.Worlds.{Worth, World}
use Rattle.pv_world.specs.Worths.{int, pointer, null_pointer, missing_value, undefined_behaviour, on_present_value}
use Rattle.pv_world.specs.Objects.{put_at}
use Rattle.pv_world.specs.Telling.{no_telling, telling, uses, range_test}
use Rattle.pv_world.specs.Doing.{Done, Answers, Fails}
use Rattle.pv_world.specs.Accesses.{reaching_by, stored_as}
use Rattle.pv_world.specs.AccessParts.{range_use}
use Rattle.pv_eval.specs.declared.marked.Marked.{Marked}
use Rattle.pv_eval.specs.declared.plain.Found.{Found}
use Rattle.pv_eval.specs.declared.plain.Found.TheVariants as found
use Rattle.pv_eval.specs.States.{Setting, State, Res, Gives, then_do}
use Rattle.pv_eval.specs.Acting.{after_telling as told_of, pair_count, by_side, answer_with_sides, after_doing}
use Rattle.pv_eval.specs.TypeForms.{Lvalue, lvalue}
use Rattle.pv_eval.specs.Sizes.{setting_of}
use Rattle.pv_world.specs.Suiting.{is_stored, knows_worth}
use Rattle.pv_eval.specs.Permission.{permits}
use Rattle.pv_eval.specs.Accesses.{access_to, writes_permitted, writes_at, writes_to, writes}
use Rattle.pv_eval.specs.Operations.{Op, Writes, does, act}
use Rattle.pv_eval.specs.Sequenced.{Given, with_given, node_value, operand}
use Rattle.pv_eval.specs.Steps.{Calling, source_of}
use Rattle.pv_eval.specs.OfRuns.{writing}
use Rattle.pv_eval.specs.Evaluation.{ev}
use Rattle.pv_eval.specs.Frames.{first_after, second_after}
use Rattle.pv_eval.specs.Plainly.{setting_by, state_with, AreReads, has_read, Yields, form_by, GivesValue, whole_turns, Performs, WritesTo, StoresAt, IsConverted, HasReached, found_worth}
use Rattle.pv_eval.proofs.Cases.{begins, goes-on}
use Rattle.pv_world.proofs.Guards.{both_of}
use Rattle.pv_eval.proofs.Through.{fits_lvalue}
use Rattle.pv_eval.proofs.PlainSteps.{node_begun, node_stops, operand_stops}
use Rattle.pv_eval.proofs.PlainNumbers.{not_less}

-- an expression that is plain
pub turns_plain : (x : TypedTree) (k : ℕ) → turns_of x ≡ Some k → whole_turns x ≡ Some k
turns_plain (Node t line turn (Assign a d)) k e = absurd cc
turns_plain (Node t line turn (CompoundAssign o i a d)) k e = absurd cc
turns_plain (Node t line turn (PointerAssign sign a d)) k e = absurd cc
turns_plain (Node t line turn (Increment o a)) k e = absurd cc
turns_plain (Node t line turn f) k e = e

pub performs_plain : (u : Stored) (w new : World) (x : TypedTree) (v : Worth) → new ≡ w → Yields u w x v → Performs u w new x v
performs_plain u w new x v same y = subst (λ (z : World). Performs u w z x v) (sym same) (record {
  turns = y.turns;
  are = turns_plain x y.turns y.are;
  gives = λ call bound sides zap out es n room.
      let g = y.gives call bound sides zap [] out es n tt room in
      record { given = record { value = v; all = y.accesses; loose = [] }; value = refl; is = g.is };
  stops = λ call bound sides zap out es n low high. y.stops call bound sides zap [] out es n tt low high;
})

-- how many turns are kept
pub capped_some : (o : Option ℕ) (k : ℕ) → Some k ≡ turns_within o → o ≡ Some k
capped_some None k e = absurd cc
capped_some (Some n) k e = by (nat_le n 1000) e
  where
    by : (c : Bool) → Some k ≡ (if c then Some n else None) → Some n ≡ Some k
    by true e = sym e
    by false e = absurd cc

pub plain_whole : (x : TypedTree) (k : ℕ) → Some k ≡ turns_within (turns_of x) → whole_turns x ≡ Some k
plain_whole x k e = turns_plain x k (capped_some (turns_of x) k e)

-- the turns of operands, and that of their node
pub both_turns : (y z : TypedTree) (j k : ℕ) → Some j ≡ turns_within (turns_of y) → Some k ≡ turns_within (turns_of z) → with_own_turn true (sum_of_turns (turns_of y) (turns_of z)) ≡ Some (j + k + 1)
both_turns y z j k e h =
    ap (λ o. with_own_turn true (sum_of_turns o (turns_of z))) (capped_some (turns_of y) j e)
    ∙ ap (λ o. with_own_turn true (sum_of_turns (Some j) o)) (capped_some (turns_of z) k h)

pub one_turns : (y : TypedTree) (j : ℕ) → Some j ≡ turns_within (turns_of y) → with_own_turn true (turns_of y) ≡ Some (j + 1)
one_turns y j e = ap (with_own_turn true) (capped_some (turns_of y) j e)

-- the turns of a root, by its form
pub root_whole : (x : TypedTree) (f : Form) (o : Option ℕ) → form_of x ≡ f → ((t : Ty) (line : ℕ) (turn : Bool) → whole_turns (Node t line turn f) ≡ o) → whole_turns x ≡ o
root_whole (Node t line turn g) f o form h = ap (λ (q : Form). whole_turns (Node t line turn q)) form ∙ h t line turn

pub root_some : (x : TypedTree) (f : Form) (o r : Option ℕ) → form_of x ≡ f → ((t : Ty) (line : ℕ) (turn : Bool) → whole_turns (Node t line turn f) ≡ o) → IfSome r (λ k. o ≡ Some k) → IfSome r (λ k. whole_turns x ≡ Some k)
root_some x f o None form h e = tt
root_some x f o (Some k) form h e = root_whole x f o form h ∙ e

-- a store that tells nothing
module _ (w : World) (a : ℕ) (bytes : List Byte) (out : List ℕ) (es : List Marked) (n : ℕ) where
  abbrev new : World
  new = put_at w a bytes

  told_nothing : told_of new no_telling (state_with w out es n) ≡ state_with new out es n
  told_nothing = ap (λ (o : List ℕ). state_with new o (es ++ []) n) (append-nil out) ∙ ap (λ (e : List Marked). state_with new out e n) (append-nil es)

  answered_put : (sides : Option (List Bool)) (v : Worth) (line : ℕ) → answer_with_sides sides v line new no_telling (state_with w out es n) ≡ Gives v (state_with new out es n)
  answered_put None v line = ap (Gives v) told_nothing
  answered_put (Some sides) v line =
      ap (λ c. if c then by_side (slice_get sides (pair_count w)) v line new no_telling (state_with w out es n) else Gives v (told_of new no_telling (state_with w out es n))) (not_less (pair_count w))
      ∙ ap (Gives v) told_nothing

  pub act_puts : (b : Setting) (line : ℕ) (op : Op) (v : Worth) → does b op w ≡ Answers v new no_telling → act b line op (state_with w out es n) ≡ Gives v (state_with new out es n)
  act_puts b line op v h = ap (λ d. after_doing b line d (state_with w out es n)) h ∙ answered_put b.sides v line

-- the operand of a store was read from no structure
from_nowhere : (x : TypedTree) (v : Found) → source_of x (found_worth v) ≡ None
from_nowhere (Node t line turn (Read a)) (found.Number k) = refl
from_nowhere (Node t line turn (Read a)) (found.Place p) = refl
from_nowhere (Node t line turn (Read a)) found.Null = refl
from_nowhere (Node t line turn f) v = refl

pub value_from : (r r' : Res Given) (v : Worth) (s : State) → r ≡ r' → GivesValue r' v s → GivesValue r v s
value_from r r' v s e h = record { given = h.given; value = h.value; is = e ∙ h.is }

-- an operand, and then what follows
pub operand_value : (u : Stored) (w : World) (call : Calling) (bound : ℕ) (sides : Option (List Bool)) (zap : Bool) (out : List ℕ) (es : List Marked) (x : TypedTree) (first v : Worth) (y : Yields u w x first) (gs : List Access) (n : ℕ)
    (go : Open → Worth → State → Res Given) (s : State) → AreReads gs → n + y.turns ≤ bound
    → ((more : List Access) → AreReads more → GivesValue (go (has_read [] (gs ++ more)) first (state_with w out es (n + y.turns))) v s)
    → GivesValue (operand (ev (setting_by u bound sides zap) call x) (has_read [] gs) (state_with w out es n) go) v s
operand_value u w call bound sides zap out es x first v y gs n go s hg room k =
    let g = y.gives call bound sides zap gs out es n hg room in
    value_from _ _ v s (ap (λ r. then_do r (λ (g : Given) s. go (with_given (has_read [] gs) g) g.value s)) g.is) (k y.accesses g.reads)

-- the assignment of a value
pub performs_assign : (u : Stored) (w new : World) (m a d : NodeId) (p : Pointer) (second v : Found) → form_of (expression_at u m) ≡ form_by u (typed.Assign a d) → Yields u w (expression_at u a) (pointer p) → Yields u w (expression_at u d) (found_worth second)
    → IsConverted (expression_at u d) (found_worth second) (found_worth v) → StoresAt u w (type_of (expression_at u a)) p (found_worth v) new → Performs u w new (expression_at u m) (found_worth v)
performs_assign u w new m a d p second v form y z hv st =
    let x = expression_at u m in
    let xa = expression_at u a in
    let xd = expression_at u d in
    subst (λ (o : World). Performs u w o x (found_worth v)) (sym st.is) (record {
      turns = y.turns + z.turns + 1;
      are = assigns_turns x xa xd y.turns z.turns form y.are z.are;
      gives = λ call bound sides zap out es n room.
          let b = setting_by u bound sides zap in
          let t = type_of x in
          let line = line_of x in
          let after = put_at w p.address st.bytes in
          let last : n + 1 + y.turns + z.turns ≡ n + (y.turns + z.turns + 1) = omega arith in
          subst (λ k. GivesValue (ev b call x [] (state_with w out es n)) (found_worth v) (state_with after out es k)) last
          (value_from _ _ (found_worth v) _
          (node_begun u w call bound sides zap out es x (form_by u (typed.Assign a d)) [] n (y.turns + z.turns) form (omega (arith, room))
          ∙ begins b call t line u.lists (nodes u) [] (state_with w out es (n + 1)) (typed.Assign a d) a refl)
          (operand_value u w call bound sides zap out es xa (pointer p) (found_worth v) y [] (n + 1) (first_after b call t line (form_by u (typed.Assign a d))) _ tt (omega (arith, room))
          (λ more hm. value_from _ _ (found_worth v) _
          (goes-on b call t line u.lists (nodes u) [] (state_with w out es (n + 1 + y.turns)) (has_read [] more) (pointer p) (typed.Assign a d) d refl)
          (operand_value u w call bound sides zap out es xd (found_worth second) (found_worth v) z more (n + 1 + y.turns) (second_after b call t line (form_by u (typed.Assign a d)) (pointer p)) _ hm (omega (arith, room))
          (λ rest hr.
          let l = lvalue b (type_of xa) in
          let j = has_read [] (more ++ rest) in
          let k = n + 1 + y.turns + z.turns in
          record {
            given = record { value = found_worth v; all = (more ++ rest) ++ access_to l p true ∷ []; loose = access_to l p true ∷ [] };
            value = refl;
            is =
                ap (λ r. then_do r (λ v s. writing b l line (pointer p) v (source_of xd v) j s node_value)) (hv b w out es k)
                ∙ ap (λ o. then_do (act b line (Writes l (pointer p) (found_worth v) o (rivals j)) (state_with w out es k)) (λ v s. node_value (with_access (access_to l p true) j) v s)) (from_nowhere xd v)
                ∙ ap (λ r. then_do r (λ v s. node_value (with_access (access_to l p true) j) v s)) (act_puts w p.address st.bytes out es k b line (Writes l (pointer p) (found_worth v) None []) (found_worth v) (st.writes bound sides zap));
          })))));
      stops = λ call bound sides zap out es n low high.
          let b = setting_by u bound sides zap in
          let t = type_of x in
          let line = line_of x in
          node_stops u w call bound sides zap out es x (form_by u (typed.Assign a d)) [] n (y.turns + z.turns) form low (omega (arith, high)) (λ below above.
          begins b call t line u.lists (nodes u) [] (state_with w out es (n + 1)) (typed.Assign a d) a refl
          ∙ operand_stops u w call bound sides zap out es xa (pointer p) y [] [] (n + 1) z.turns (first_after b call t line (form_by u (typed.Assign a d))) tt tt below above (λ le more hm.
          goes-on b call t line u.lists (nodes u) [] (state_with w out es (n + 1 + y.turns)) (has_read [] more) (pointer p) (typed.Assign a d) d refl
          ∙ operand_stops u w call bound sides zap out es xd (found_worth second) z [] more (n + 1 + y.turns) 0 (second_after b call t line (form_by u (typed.Assign a d)) (pointer p)) tt hm le (omega (arith, above))
          (λ more' rest hr. absurd (omega (arith, more', above)))));
    })
  where
    assigns_turns : (x y z : TypedTree) (j k : ℕ) → form_of x ≡ Assign y z → turns_of y ≡ Some j → turns_of z ≡ Some k → whole_turns x ≡ Some (j + k + 1)
    assigns_turns (Node t line turn f) y z j k form e h =
        ap (λ (g : Form). whole_turns (Node t line turn g)) form
        ∙ ap (λ o. with_own_turn true (sum_of_turns o (turns_of z))) e
        ∙ ap (λ o. with_own_turn true (sum_of_turns (Some j) o)) h

-- a write of what was found, that was reached and is permitted
module _ (u : Stored) (w : World) (t : Ty) (p : Pointer) (at : Reach) (fits : fits_lvalue u t ≡ true) where
  abbrev l : Lvalue
  l = lvalue (setting_of u) t

  abbrev stored : Worth → List Byte
  stored v = stored_as l.number l.shape v

  written_by : (v : Worth) → ((go : Worth → Done) → on_present_value v w go ≡ go v) → HasReached w.memory.table p l.size l.align true at → permits (setting_of u) w l at true ≡ true
      → (is_stored l.shape l.size v && (knows_worth w.memory.table (pointer p) && knows_worth w.memory.table v)) ≡ true → WritesTo u w t p v (stored v)
  written_by v there reached permitted can = λ bound sides zap.
      let b = setting_by u bound sides zap in
      ap (λ c. if c then writes b l (pointer p) v None [] w else Fails missing_value None w no_telling)
      (both_of (fits_lvalue u t) (is_stored l.shape l.size v && (knows_worth w.memory.table (pointer p) && knows_worth w.memory.table v)) fits can)
      ∙ there (writes_to b l p None [] w)
      ∙ ap (λ x. reaching_by w p (range_use w.memory.table p l.size) x (writes_at b l p v None [])) reached.is
      ∙ ap (λ x. writes_at b l p v None [] at w (telling (uses range_test x))) reached.used
      ∙ ap (λ c. if c then writes_permitted l p v None [] at w no_telling else Fails (undefined_behaviour EffectiveTypes WrongType) (Some p.prov) w no_telling) permitted
      ∙ ap (λ a. Answers v (put_at w a (stored v)) no_telling) reached.address

  pub written : (v : Found) → HasReached w.memory.table p l.size l.align true at → permits (setting_of u) w l at true ≡ true
      → (is_stored l.shape l.size (found_worth v) && (knows_worth w.memory.table (pointer p) && knows_worth w.memory.table (found_worth v))) ≡ true → WritesTo u w t p (found_worth v) (stored (found_worth v))
  written (found.Number k) = written_by (int k) (λ go. refl)
  written (found.Place q) = written_by (pointer (record { address = q.address; prov = Inst q.inst })) (λ go. refl)
  written found.Null = written_by (pointer null_pointer) (λ go. refl)

pub store_given : (u : Stored) (w : World) (t : Ty) (p : Pointer) (at : Reach) (v : Found) → fits_lvalue u t ≡ true → (form : Shape) (size align number : ℕ) (place value : Worth) (later : World)
    → form ≡ (lvalue (setting_of u) t).shape → size ≡ (lvalue (setting_of u) t).size → align ≡ (lvalue (setting_of u) t).align → number ≡ (lvalue (setting_of u) t).number → place ≡ pointer p → value ≡ found_worth v
    → HasReached w.memory.table p size align true at → permits (setting_of u) w (lvalue (setting_of u) t) at true ≡ true
    → (is_stored form size value && (knows_worth w.memory.table place && knows_worth w.memory.table value)) ≡ true → later ≡ put_at w at.address (stored_as number form value) → StoresAt u w t p (found_worth v) later
store_given u w t p at v fits form size align number place value later ef es ea en ep ev reached permitted can is =
    let m = lvalue (setting_of u) t in
    let T = w.memory.table in
    let here : HasReached T p m.size m.align true at =
    subst (λ (n : ℕ). HasReached T p m.size n true at) ea (subst (λ (n : ℕ). HasReached T p n align true at) es reached) in
    let may : (is_stored m.shape m.size (found_worth v) && (knows_worth T (pointer p) && knows_worth T (found_worth v))) ≡ true =
    ap (λ (s : Shape). is_stored s m.size (found_worth v) && (knows_worth T (pointer p) && knows_worth T (found_worth v))) (sym ef)
    ∙ ap (λ (n : ℕ). is_stored form n (found_worth v) && (knows_worth T (pointer p) && knows_worth T (found_worth v))) (sym es)
    ∙ ap (λ (q : Worth). is_stored form size (found_worth v) && (knows_worth T q && knows_worth T (found_worth v))) (sym ep)
    ∙ ap (λ (q : Worth). is_stored form size q && (knows_worth T place && knows_worth T q)) (sym ev)
    ∙ can in
    record {
      bytes = stored_as m.number m.shape (found_worth v);
      writes = written u w t p at fits v here permitted may;
      is =
          is
          ∙ ap (λ (a : ℕ). put_at w a (stored_as number form value)) reached.address
          ∙ ap (λ (n : ℕ). put_at w p.address (stored_as n form value)) en
          ∙ ap (λ (s : Shape). put_at w p.address (stored_as m.number s value)) ef
          ∙ ap (λ (q : Worth). put_at w p.address (stored_as m.number m.shape q)) ev;
    }
