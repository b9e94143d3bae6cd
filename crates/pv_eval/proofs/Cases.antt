-- The first operations of nodes, one case for each kind.
use Rattle.std.proofs.Common.{◌≡◌, ℕ, ◌+◌, ◌++◌, ◌<◌, List, [], ◌∷◌, refl, sym, ap, ◌∙◌, arith, subst, Some, None}
use Rattle.std.specs.Prelude.{ℤ, Bool, true, false, if◌then◌else◌, Result, Ok, Err, Option, reverse, ◌-◌, IfSome, IfOk, ◌≤◌}
use Rattle.std.proofs.lemmas.Bool.{lt-ltb}
use Rattle.pv_types.specs.Ty.{Ty}
use Rattle.pv_tree.specs.declared.nodes.NodeId.{NodeId}
use Rattle.pv_typed.specs.declared.nodes.Typed.{Typed}
use Rattle.pv_typed.specs.declared.nodes.Typed.TheVariants as typed
use Rattle.pv_typed.specs.TypedTree.{TypedTree, Node, type_of, line_of, form_of}
use Rattle.pv_typed.specs.Trees.{takes_turn}
use Rattle.pv_typed.specs.Nodes.{Tree, form_in, expression_in}
use Rattle.pv_typed.specs.Tables.{Stored, nodes, whole_unit}
use Rattle.pv_typed.specs.NodeTrees.{expression_at, IsExpression}
use Rattle.pv_typed.specs.Children.{HasKind, HasOperands}
use Rattle.pv_eval.specs.declared.frames.Stage.{Stage}
use Rattle.pv_seq.specs.Sequencing.{Access, Open, open_against, with_access, with_operand}
use Rattle.pv_seq.specs.Rivals.{top, below}
use Rattle.pv_world.specs.Worlds.{Worth}
use Rattle.pv_eval.specs.States.{Setting, State, Res, Gives, Stops, Turns, then_do, spend}
use Rattle.pv_eval.specs.Sequenced.{Given, node_value, operand}
use Rattle.pv_eval.specs.Steps.{Calling, takes, tick_if}
use Rattle.pv_eval.specs.Evaluation.{ev_by, ev}
use Rattle.pv_eval.specs.OfRuns.{ev_form}
use Rattle.pv_world.specs.declared.got.Got.{Got}
use Rattle.pv_eval.specs.declared.failure.Failure.{Failure}
use Rattle.pv_eval.specs.declared.failure.Failure.TheVariants as failure
use Rattle.pv_eval.specs.declared.frames.Move.{Move}
use Rattle.pv_eval.specs.declared.frames.Frame.{Frame}
use Rattle.pv_eval.specs.declared.frames.Stage.TheVariants as stage
use Rattle.std.proofs.Common.{length}
use Rattle.pv_world.specs.Coming.{worth_of}
use Rattle.pv_eval.specs.Moments.{Moment, IsSetting, Follows, Stays, Came, Needed, Tested, Noted}
use Rattle.pv_eval.specs.Frames.{first_after, second_after, stage_after, frame_after, after}
use Rattle.std.proofs.Common.{length-append}
use Rattle.std.proofs.lemmas.List.{reverse-append}
use Rattle.pv_eval.specs.Stack.{rest}
use Rattle.pv_eval.specs.declared.frames.Now.{Now}
use Rattle.pv_eval.specs.declared.frames.Now.TheVariants.{Value, Due}
use Rattle.pv_eval.specs.Ahead.{ahead, zip, stack, Kept, means, Led, first_operand_of, second_operand_of, takes_of, move_of, IsChoice}
use Rattle.pv_eval.specs.Operations.{Tests, act}

-- a node with operands begins with the first one
module _ (b : Setting) (call : Calling) (t : Ty) (line : ℕ) (ls : List (List NodeId)) (ts : List Tree) (fs : List Access) (s : State) where
  abbrev Begins : Typed → NodeId → Type 0
  Begins x a = ev_form b call t line (form_in ls ts x) fs s ≡ operand (ev b call (expression_in ts a)) (open_against fs) s (first_after b call t line (form_in ls ts x))

  abbrev BeginsIf : Typed → Option NodeId → Type 0
  BeginsIf x None = Unit {0}
  BeginsIf x (Some a) = Begins x a

  pub begins-if : (x : Typed) → BeginsIf x (first_operand_of x)
  unfolding ev_by
  begins-if (typed.Subscript a d) = refl
  begins-if (typed.Member a k) = refl
  begins-if (typed.MemberOfValue a k) = refl
  begins-if (typed.Arrow a k) = refl
  begins-if (typed.Increment o a) = refl
  begins-if (typed.Address a) = refl
  begins-if (typed.Indirection a) = refl
  begins-if (typed.Unary o a) = refl
  begins-if (typed.Not a) = refl
  begins-if (typed.Cast a) = refl
  begins-if (typed.Arithmetic o a d) = refl
  begins-if (typed.PointerSum g a d) = refl
  begins-if (typed.PointerDifference a d) = refl
  begins-if (typed.PointerOrder o a d) = refl
  begins-if (typed.PointerEquality o a d) = refl
  begins-if (typed.LogicalAnd a d) = refl
  begins-if (typed.LogicalOr a d) = refl
  begins-if (typed.Conditional a d e) = refl
  begins-if (typed.Assign a d) = refl
  begins-if (typed.CompoundAssign o k a d) = refl
  begins-if (typed.PointerAssign g a d) = refl
  begins-if (typed.Comma a d) = refl
  begins-if (typed.Read a) = refl
  begins-if (typed.ArrayPointer a) = refl
  begins-if (typed.Convert a) = refl
  begins-if (typed.CallPointer a l) = refl
  begins-if (typed.Constant k) = tt
  begins-if (typed.LargeConstant k) = tt
  begins-if (typed.Object o) = tt
  begins-if (typed.Function f) = tt
  begins-if (typed.String l) = tt
  begins-if (typed.Call f l) = tt
  begins-if (typed.LibraryCall f l) = tt
  begins-if (typed.Sizeof k) = tt

  pub begins : (x : Typed) (a : NodeId) → first_operand_of x ≡ Some a → Begins x a
  begins x a e = subst (BeginsIf x) e (begins-if x)

  -- and goes on with the second one
  abbrev GoesOnIf : Open → Worth → Typed → Option NodeId → Type 0
  GoesOnIf j v x None = Unit {0}
  GoesOnIf j v x (Some d) = first_after b call t line (form_in ls ts x) j v s ≡ operand (ev b call (expression_in ts d)) j s (second_after b call t line (form_in ls ts x) v)

  pub goes-on-if : (j : Open) (v : Worth) (x : Typed) → GoesOnIf j v x (second_operand_of x)
  goes-on-if j v (typed.Subscript a d) = refl
  goes-on-if j v (typed.Arithmetic o a d) = refl
  goes-on-if j v (typed.PointerSum g a d) = refl
  goes-on-if j v (typed.PointerDifference a d) = refl
  goes-on-if j v (typed.PointerOrder o a d) = refl
  goes-on-if j v (typed.PointerEquality o a d) = refl
  goes-on-if j v (typed.Assign a d) = refl
  goes-on-if j v x = tt

  pub goes-on : (j : Open) (v : Worth) (x : Typed) (d : NodeId) → second_operand_of x ≡ Some d → GoesOnIf j v x (Some d)
  goes-on j v x d e = subst (GoesOnIf j v x) e (goes-on-if j v x)

-- a node that takes a turn takes it first; one that takes none goes on at once
module _ (b : Setting) (call : Calling) (fs : List Access) where
  pub ev-node : (x : TypedTree) (s : State) → ev b call x fs s ≡ tick_if (takes (takes_turn x) (form_of x)) b s (ev_form b call (type_of x) (line_of x) (form_of x) fs)
  unfolding ev_by
  ev-node (Node t line turn x) s = refl

  pub ev-turn : (x : TypedTree) (s : State) → takes (takes_turn x) (form_of x) ≡ true → s.taken < b.bound → ev b call x fs s ≡ ev_form b call (type_of x) (line_of x) (form_of x) fs (spend s)
  ev-turn x s h lt =
      ev-node x s
      ∙ ap (λ k. tick_if k b s (ev_form b call (type_of x) (line_of x) (form_of x) fs)) h
      ∙ ap (λ k. if k then ev_form b call (type_of x) (line_of x) (form_of x) fs (spend s) else Stops Turns s) (lt-ltb s.taken b.bound lt)

  pub ev-no-turn : (x : TypedTree) (s : State) → takes (takes_turn x) (form_of x) ≡ false → ev b call x fs s ≡ ev_form b call (type_of x) (line_of x) (form_of x) fs s
  ev-no-turn x s h = ev-node x s ∙ ap (λ k. tick_if k b s (ev_form b call (type_of x) (line_of x) (form_of x) fs)) h

-- an operation whose value is the node's
pub came-given : (b : Setting) (call : Calling) (u : Stored) (r : Result Got Failure) (res : Res Worth) (js : List Open) (s : State) → Came res r s → Led b call u (then_do res (node_value (top js))) (move_of r) js s
came-given b call u (Ok v) res js s h = ap (λ z. then_do z (node_value (top js))) h
came-given b call u (Err failure.NoMemory) res js s h = tt
came-given b call u (Err (failure.Stop y line)) res js s h = ap (λ z. then_do z (node_value (top js))) h

-- what stays while an operation is made
pub setting-ticked : (b : Setting) (u : Stored) (m n : Moment) → n ≡ record m { taken = m.taken + 1 } → IsSetting b u m → IsSetting b u n
setting-ticked b u m n e h = subst (IsSetting b u) (sym e) (record { unit = h.unit; types = h.types; sides = h.sides })

pub setting-stays : (b : Setting) (u : Stored) (m n : Moment) → Stays m n → IsSetting b u m → IsSetting b u n
setting-stays b u m n e h = record { unit = h.unit; types = h.types; sides = h.sides ∙ sym e.sides }

pub before-stays : (m n : Moment) (out : List ℕ) → Stays m n → Follows m (length out) → Follows n (length out)
before-stays m n out e h = e.total (length out) h

pub stays_both : (l m n : Moment) → Stays l m → Stays m n → Stays l n
stays_both l m n d e = record {
  total = λ k h. e.total k (d.total k h);
  taken = e.taken ∙ d.taken;
  sides = e.sides ∙ d.sides;
}

pub stays_itself : (m : Moment) → Stays m m
stays_itself m = record { total = λ k h. h; taken = refl; sides = refl }

-- the first operation of a node
module _ (b : Setting) (call : Calling) (u : Stored) (n : NodeId) (x : Typed) (fs : List Access) (s t : State) (form : form_of (expression_at u n) ≡ form_in u.lists (nodes u) x) where
  waits : (a : NodeId) → first_operand_of x ≡ Some a → ev_form b call (type_of (expression_at u n)) (line_of (expression_at u n)) (form_of (expression_at u n)) fs t ≡ operand (ev b call (expression_at u a)) (open_against fs) t (frame_after b call u (record { node = n; stage = stage.First }))
  unfolding frame_after
  waits a h =
      let p : Ty = type_of (expression_at u n) in
      let l : ℕ = line_of (expression_at u n) in
      ap (λ f. ev_form b call p l f fs t) form
      ∙ begins b call p l u.lists (nodes u) fs t x a h
      ∙ ap (λ f. operand (ev b call (expression_at u a)) (open_against fs) t (first_after b call p l f)) (sym form)

  pub begun-operand : (a : NodeId) → first_operand_of x ≡ Some a → takes (takes_turn (expression_at u n)) (form_of (expression_at u n)) ≡ true → s.taken < b.bound → t ≡ spend s → ev b call (expression_at u n) fs s ≡ operand (ev b call (expression_at u a)) (open_against fs) t (frame_after b call u (record { node = n; stage = stage.First }))
  begun-operand a h k lt e =
      ev-turn b call fs (expression_at u n) s k lt
      ∙ ap (ev_form b call (type_of (expression_at u n)) (line_of (expression_at u n)) (form_of (expression_at u n)) fs) (sym e)
      ∙ waits a h

  pub begun-leaf : takes (takes_turn (expression_at u n)) (form_of (expression_at u n)) ≡ true → s.taken < b.bound → t ≡ spend s → ev b call (expression_at u n) fs s ≡ ev_form b call (type_of (expression_at u n)) (line_of (expression_at u n)) (form_in u.lists (nodes u) x) fs t
  begun-leaf k lt e =
      ev-turn b call fs (expression_at u n) s k lt
      ∙ ap (ev_form b call (type_of (expression_at u n)) (line_of (expression_at u n)) (form_of (expression_at u n)) fs) (sym e)
      ∙ ap (λ f. ev_form b call (type_of (expression_at u n)) (line_of (expression_at u n)) f fs t) form

  -- a node without a turn of its own
  pub waits-at-once : (a : NodeId) → first_operand_of x ≡ Some a → takes (takes_turn (expression_at u n)) (form_of (expression_at u n)) ≡ false → ev b call (expression_at u n) fs t ≡ operand (ev b call (expression_at u a)) (open_against fs) t (frame_after b call u (record { node = n; stage = stage.First }))
  waits-at-once a h k = ev-no-turn b call fs (expression_at u n) t k ∙ waits a h

pub led-from : (b : Setting) (call : Calling) (u : Stored) (w w' : Res Given) (r : Result Move Failure) (js : List Open) (s : State) → w ≡ w' → Led b call u w' r js s → Led b call u w r js s
led-from b call u w w' r js s e h = subst (λ z. Led b call u z r js s) (sym e) h

pub takes-form : (ls : List (List NodeId)) (ts : List Tree) (turn : Bool) (x : Typed) → takes turn (form_in ls ts x) ≡ takes_of turn x
takes-form ls ts turn (typed.Subscript a d) = refl
takes-form ls ts turn (typed.Indirection a) = refl
takes-form ls ts turn (typed.Read a) = refl
takes-form ls ts turn (typed.ArrayPointer a) = refl
takes-form ls ts turn (typed.Convert a) = refl
takes-form ls ts turn (typed.Member a k) = refl
takes-form ls ts turn (typed.MemberOfValue a k) = refl
takes-form ls ts turn (typed.Arrow a k) = refl
takes-form ls ts turn (typed.Increment o a) = refl
takes-form ls ts turn (typed.Address a) = refl
takes-form ls ts turn (typed.Unary o a) = refl
takes-form ls ts turn (typed.Not a) = refl
takes-form ls ts turn (typed.Cast a) = refl
takes-form ls ts turn (typed.Arithmetic o a d) = refl
takes-form ls ts turn (typed.PointerSum g a d) = refl
takes-form ls ts turn (typed.PointerDifference a d) = refl
takes-form ls ts turn (typed.PointerOrder o a d) = refl
takes-form ls ts turn (typed.PointerEquality o a d) = refl
takes-form ls ts turn (typed.LogicalAnd a d) = refl
takes-form ls ts turn (typed.LogicalOr a d) = refl
takes-form ls ts turn (typed.Conditional a d e) = refl
takes-form ls ts turn (typed.Assign a d) = refl
takes-form ls ts turn (typed.CompoundAssign o k a d) = refl
takes-form ls ts turn (typed.PointerAssign g a d) = refl
takes-form ls ts turn (typed.Comma a d) = refl
takes-form ls ts turn (typed.Constant k) = refl
takes-form ls ts turn (typed.LargeConstant k) = refl
takes-form ls ts turn (typed.Object o) = refl
takes-form ls ts turn (typed.Function f) = refl
takes-form ls ts turn (typed.String l) = refl
takes-form ls ts turn (typed.Call f l) = refl
takes-form ls ts turn (typed.CallPointer a l) = refl
takes-form ls ts turn (typed.LibraryCall f l) = refl
takes-form ls ts turn (typed.Sizeof k) = refl

pub if-some : {A : Type 0} (r : Option A) (P : A → Type 0) → ((a : A) → r ≡ Some a → P a) → IfSome r P
if-some None P h = tt
if-some (Some a) P h = h a refl

-- a read or a write of the node's own, and then its value
pub access-given : (b : Setting) (call : Calling) (u : Stored) (m : Moment) (a : Setting → Access) (r : Result Got Failure) (res : Res Worth) (old new : List Open) (s : State) → IsSetting b u m → Came res r s → Noted a r old new u m → Led b call u (then_do res (λ v s. node_value (with_access (a b) (top old)) v s)) (move_of r) new s
access-given b call u m a (Ok v) res old new s hs h k = ap (λ z. then_do z (λ v s. node_value (with_access (a b) (top old)) v s)) h ∙ ap (λ js. node_value (top js) (worth_of v) s) (sym (k b hs))
access-given b call u m a (Err failure.NoMemory) res old new s hs h k = tt
access-given b call u m a (Err (failure.Stop y line)) res old new s hs h k = ap (λ z. then_do z (λ v s. node_value (with_access (a b) (top old)) v s)) h

-- the setting of a unit
abbrev some_setting : Stored → Moment → Setting
some_setting u m = record { unit = whole_unit u; types = u.known; bound = 0; sides = m.sides; zap = true }

some-is : (u : Stored) (m : Moment) → IsSetting (some_setting u m) u m
some-is u m = record { unit = refl; types = refl; sides = refl }

pub access-below : (u : Stored) (m : Moment) (a : Setting → Access) (r : Result Got Failure) (old new : List Open) → Noted a r old new u m → IfOk (move_of r) (λ x. below new ≡ below old)
access-below u m a (Ok v) old new k = ap below (k (some_setting u m) (some-is u m))
access-below u m a (Err e) old new k = tt

pub access-some : (u : Stored) (m : Moment) (a : Setting → Access) (r : Result Got Failure) (old new : List Open) → Noted a r old new u m → IfOk (move_of r) (λ x. 1 ≤ length new)
access-some u m a (Ok v) old new k = let e = ap length (k (some_setting u m) (some-is u m)) in omega (arith, e)
access-some u m a (Err e) old new k = tt

-- what a frame does, by its node's row
pub frame-is : (b : Setting) (call : Calling) (u : Stored) (n : NodeId) (x : Typed) → form_of (expression_at u n) ≡ form_in u.lists (nodes u) x → (g : Stage) → frame_after b call u (record { node = n; stage = g }) ≡ stage_after b call (type_of (expression_at u n)) (line_of (expression_at u n)) (form_in u.lists (nodes u) x) g
unfolding frame_after
frame-is b call u n x form g = ap (λ f. stage_after b call (type_of (expression_at u n)) (line_of (expression_at u n)) f g) form

-- the second operand is there
abbrev ThereIf : Stored → ℕ → Option NodeId → Type 0
ThereIf u n None = Unit {0}
ThereIf u n (Some d) = HasKind u.rows n true d

second-if : (u : Stored) (n : ℕ) (x : Typed) → HasOperands u.rows u.lists n x → ThereIf u n (second_operand_of x)
second-if u n (typed.Subscript a d) h = h.0.1.0
second-if u n (typed.Arithmetic o a d) h = h.0.1.0
second-if u n (typed.PointerSum g a d) h = h.0.1.0
second-if u n (typed.PointerDifference a d) h = h.0.1.0
second-if u n (typed.PointerOrder o a d) h = h.0.1.0
second-if u n (typed.PointerEquality o a d) h = h.0.1.0
second-if u n (typed.Assign a d) h = h.0.1.0
second-if u n x h = tt

pub second-there : (u : Stored) (n d : NodeId) (x : Typed) → IsExpression u n → HasOperands u.rows u.lists n.0 x → second_operand_of x ≡ Some d → IsExpression u d
second-there u n d x there h e = let k : HasKind u.rows n.0 true d = subst (ThereIf u n.0) e (second-if u n.0 x h) in (omega (arith, k.0, there.0), k.1)

pub then-gives : {A B : Type 0} (r : Res A) (k : A → State → Res B) (a : A) (s : State) → r ≡ Gives a s → then_do r k ≡ k a s
then-gives r k a s e = ap (λ z. then_do z k) e

pub came-stops : (b : Setting) (call : Calling) (u : Stored) (r : Res Worth) (k : Worth → State → Res Given) (e : Failure) (js : List Open) (s : State) → Came r (Err e) s → Led b call u (then_do r k) (Err e) js s
came-stops b call u r k failure.NoMemory js s h = tt
came-stops b call u r k (failure.Stop y line) js s h = ap (λ z. then_do z k) h

pub tested-stops : (b : Setting) (call : Calling) (u : Stored) (r : Res Worth) (k : Worth → State → Res Given) (e : Failure) (js : List Open) (s : State) → Tested r (Err e) s → Led b call u (then_do r k) (Err e) js s
tested-stops b call u r k failure.NoMemory js s h = tt
tested-stops b call u r k (failure.Stop y line) js s h = ap (λ z. then_do z k) h

pub choice-stops : (b : Setting) (call : Calling) (u : Stored) (t : Ty) (line : ℕ) (x : Typed) (j : Open) (v : Worth) (s : State) (e : Failure) (js : List Open) (s' : State) → IsChoice x → Tested (act b line (Tests v) s) (Err e) s' → Led b call u (first_after b call t line (form_in u.lists (nodes u) x) j v s) (Err e) js s'
choice-stops b call u t line (typed.LogicalAnd a d) j v s e js s' i h = tested-stops b call u _ _ e js s' h
choice-stops b call u t line (typed.LogicalOr a d) j v s e js s' i h = tested-stops b call u _ _ e js s' h
choice-stops b call u t line (typed.Conditional a d f) j v s e js s' i h = tested-stops b call u _ _ e js s' h
choice-stops b call u t line x j v s e js s' i h = absurd i

pub led-then : (b : Setting) (call : Calling) (u : Stored) (r : Res Worth) (k : Worth → State → Res Given) (v : Worth) (t : State) (x : Result Move Failure) (js : List Open) (s : State) → r ≡ Gives v t → Led b call u (k v t) x js s → Led b call u (then_do r k) x js s
led-then b call u r k v t x js s e h = subst (λ z. Led b call u (then_do z k) x js s) (sym e) h

-- what a frame does, by its stage
pub resumed : (b : Setting) (call : Calling) (u : Stored) (f : Frame) (x : Typed) (g : Stage) (j : Open) (v : Worth) (s : State) (r : Result Move Failure) (js : List Open) (t : State) → form_of (expression_at u f.node) ≡ form_in u.lists (nodes u) x → f.stage ≡ g → Led b call u (stage_after b call (type_of (expression_at u f.node)) (line_of (expression_at u f.node)) (form_in u.lists (nodes u) x) g j v s) r js t → Led b call u (frame_after b call u f j v s) r js t
resumed b call u f x g j v s r js t form e h =
    subst (λ k. Led b call u (k j v s) r js t) (sym (frame-is b call u f.node x form f.stage))
    (subst (λ g. Led b call u (stage_after b call (type_of (expression_at u f.node)) (line_of (expression_at u f.node)) (form_in u.lists (nodes u) x) g j v s) r js t) (sym e) h)

-- after a node: what its frame does
pub popped : (b : Setting) (call : Calling) (u : Stored) (items rests : List Frame) (f : Frame) (js : List Open) (v : Got) (s : State) → items ≡ rests ++ f ∷ [] → length js ≡ length items + 1 → ahead b call u items js (Value v) s ≡ then_do (frame_after b call u f (with_operand (top (below js)) (top js)) (worth_of v) s) (rest (after b call u) (stack rests (below (below js))))
popped b call u items rests f [] v s e h = absurd (omega arith)
popped b call u items rests f (j ∷ []) v s e h = absurd (omega (arith, ap length e, length-append rests (f ∷ [])))
popped b call u items rests f (j ∷ (k ∷ ks)) v s e h =
    ap (λ xs. rest (after b call u) (zip xs (k ∷ ks)) (record { value = worth_of v; all = j.all; loose = j.loose }) s) (ap reverse e ∙ reverse-append rests (f ∷ []))

-- and then where the operation leads
pub led-kept : (b : Setting) (call : Calling) (u : Stored) (w w' : Res Given) (r : Result Now Failure) (fs : List Frame) (js : List Open) (s : State) → w ≡ w' → Kept b call u w' r fs js s → Kept b call u w r fs js s
led-kept b call u w w' r fs js s e h = subst (λ z. Kept b call u z r fs js s) (sym e) h

pub led-stops : (b : Setting) (call : Calling) (u : Stored) (w : Res Given) (k : Given → State → Res Given) (e : Failure) (ks js : List Open) (fs : List Frame) (s : State) → Led b call u w (Err e) ks s → Kept b call u (then_do w k) (Err e) fs js s
led-stops b call u w k failure.NoMemory ks js fs s h = tt
led-stops b call u w k (failure.Stop y line) ks js fs s h = ap (λ z. then_do z k) h

module _ (b : Setting) (call : Calling) (u : Stored) (items rests : List Frame) (f : Frame) (js leave : List Open) (v : Got) (s : State) (e : items ≡ rests ++ f ∷ []) (h : length js ≡ length items + 1) (l : leave ≡ with_operand (top (below js)) (top js) ∷ below (below js)) where
  left : ahead b call u items js (Value v) s ≡ then_do (frame_after b call u f (top leave) (worth_of v) s) (rest (after b call u) (stack rests (below leave)))
  left =
      popped b call u items rests f js v s e h
      ∙ ap (λ z. then_do (frame_after b call u f (top z) (worth_of v) s) (rest (after b call u) (stack rests (below z)))) (sym l)

  pub went-on : (jr : List Open) (led : Move) (t : State) → below jr ≡ below leave → frame_after b call u f (top leave) (worth_of v) s ≡ means b call u led (top jr) t → ahead b call u items js (Value v) s ≡ then_do (means b call u led (top jr) t) (rest (after b call u) (stack rests (below jr)))
  went-on jr led t k m =
      left
      ∙ ap (λ z. then_do z (rest (after b call u) (stack rests (below leave)))) m
      ∙ ap (λ z. then_do (means b call u led (top jr) t) (rest (after b call u) (stack rests z))) (sym k)

  pub went-out : (x : Failure) (ks kt : List Open) (fs : List Frame) (t : State) → Led b call u (frame_after b call u f (top leave) (worth_of v) s) (Err x) ks t → Kept b call u (ahead b call u items js (Value v) s) (Err x) fs kt t
  went-out x ks kt fs t m = led-kept b call u _ _ (Err x) fs kt t left (led-stops b call u _ _ x ks kt fs t m)

pub ok-any : {A B : Type 0} {P : Type 0} (r : Result A B) → P → IfOk r (λ x. P)
ok-any (Ok x) p = p
ok-any (Err x) p = tt

some-length : (js : List Open) → 1 ≤ length js → length js ≡ length (below js) + 1
some-length [] h = absurd (omega (arith, h))
some-length (j ∷ js) h = omega arith

below-length : (js : List Open) → length (below js) ≡ length js - 1
below-length [] = refl
below-length (j ∷ js) = omega arith

pub matched-after : (items rests : List Frame) (f : Frame) (js leave jr : List Open) → items ≡ rests ++ f ∷ [] → length js ≡ length items + 1 → leave ≡ with_operand (top (below js)) (top js) ∷ below (below js) → below jr ≡ below leave → 1 ≤ length jr → length jr ≡ length rests + 1
matched-after items rests f js leave jr e h l k n =
    let a = some-length jr n in
    let c = ap length k in
    let d = ap (λ z. length (below z)) l in
    let g = below-length (below js) in
    let i = below-length js in
    let m = ap length e in
    let o = length-append rests (f ∷ []) in
    omega (arith, a, c, d, g, i, m, o, h)

-- before a node
module _ (b : Setting) (call : Calling) (u : Stored) (fs : List Frame) (js : List Open) (n : NodeId) (s : State) (fresh : top js ≡ open_against (top js).foes) where
  pub begun-on : (led : Move) (t : State) → ev b call (expression_at u n) (top js).foes s ≡ means b call u led (open_against (top js).foes) t → ahead b call u fs js (Due n) s ≡ then_do (means b call u led (top js) t) (rest (after b call u) (stack fs (below js)))
  begun-on led t m =
      ap (λ z. then_do z (rest (after b call u) (stack fs (below js)))) (m ∙ ap (λ j. means b call u led j t) (sym fresh))

  pub begun-out : (x : Failure) (ks kt : List Open) (gs : List Frame) (t : State) → Led b call u (ev b call (expression_at u n) (top js).foes s) (Err x) ks t → Kept b call u (ahead b call u fs js (Due n) s) (Err x) gs kt t
  begun-out x ks kt gs t m = led-stops b call u _ _ x ks kt gs t m

pub setting-begun : (b : Setting) (u : Stored) (m n : Moment) → n.sides ≡ m.sides → IsSetting b u m → IsSetting b u n
setting-begun b u m n e h = record { unit = h.unit; types = h.types; sides = h.sides ∙ sym e }

pub came-stopped : (r : Res Worth) (k : Worth → State → Res Worth) (e : Failure) (s : State) → Came r (Err e) s → Came (then_do r k) (Err e) s
came-stopped r k failure.NoMemory s h = tt
came-stopped r k (failure.Stop y line) s h = ap (λ z. then_do z k) h

pub came-then : (r : Res Worth) (k : Worth → State → Res Worth) (v : Worth) (t : State) (x : Result Got Failure) (s : State) → r ≡ Gives v t → Came (k v t) x s → Came (then_do r k) x s
came-then r k v t x s e h = subst (λ z. Came (then_do z k) x s) (sym e) h

-- the same of a number
pub needed-stopped : (r : Res Worth) (k : Worth → State → Res Worth) (e : Failure) (s : State) → Came r (Err e) s → Needed (then_do r k) (Err e) s
needed-stopped r k failure.NoMemory s h = tt
needed-stopped r k (failure.Stop y line) s h = ap (λ z. then_do z k) h

pub needed-then : (r : Res Worth) (k : Worth → State → Res Worth) (v : Worth) (t : State) (x : Result ℤ Failure) (s : State) → r ≡ Gives v t → Needed (k v t) x s → Needed (then_do r k) x s
needed-then r k v t x s e h = subst (λ z. Needed (then_do z k) x s) (sym e) h
