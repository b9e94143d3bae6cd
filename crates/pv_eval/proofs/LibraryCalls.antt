-- The arguments of a call of the library.
use Rattle.std.proofs.Common.{◌≡◌, ℕ, zero, suc, ◌+◌, ◌<◌, ◌≤◌, List, [], ◌∷◌, ◌++◌, length, refl, sym, ap, ◌∙◌, arith, subst, Vec, Global}
use Rattle.std.specs.Prelude.{map, slice_index_or, Result, true}
use Rattle.pv_library.specs.declared.library.Library.{Library}
use Rattle.pv_types.specs.Ty.{Ty}
use Rattle.pv_tree.specs.declared.nodes.NodeId.{NodeId}
use Rattle.pv_tree.specs.declared.nodes.ListId.{ListId}
use Rattle.pv_typed.specs.declared.nodes.Typed.{Typed}
use Rattle.pv_typed.specs.declared.nodes.Typed.TheVariants as typed
use Rattle.pv_typed.specs.TypedTree.{Form, Arguments, NoArguments, MoreArguments, Call, LibraryCall, type_of, line_of, form_of}
use Rattle.pv_typed.specs.Nodes.{Tree, form_in, arguments_in}
use Rattle.pv_typed.specs.Tables.{Stored, nodes}
use Rattle.pv_typed.specs.NodeTrees.{expression_at, list_at, IsExpression}
use Rattle.pv_typed.specs.Children.{HasKind, HasKinds}
use Rattle.pv_typed.specs.Known.{Each}
use Rattle.pv_seq.specs.Sequencing.{Open}
use Rattle.pv_world.specs.Worlds.{Worth}
use Rattle.pv_world.specs.declared.got.Got.{Got}
use Rattle.pv_world.specs.Coming.{worth_of}
use Rattle.pv_eval.specs.States.{Setting, State, then_do}
use Rattle.pv_eval.specs.Sequenced.{operand}
use Rattle.pv_eval.specs.Arguments.{argument}
use Rattle.pv_eval.specs.Steps.{Calling}
use Rattle.pv_eval.specs.OfRuns.{accepted_value, ev_ask}
use Rattle.pv_eval.specs.Evaluation.{ev_by, ev}
use Rattle.pv_eval.specs.declared.failure.Failure.{Failure}
use Rattle.pv_eval.specs.declared.frames.Move.{Move}
use Rattle.pv_eval.specs.declared.frames.Stage.TheVariants.{Argument}
use Rattle.pv_eval.specs.Frames.{count, arguments_count, argument_at, arguments_from, asked_with, argument_after, stage_after, frame_after}
use Rattle.pv_eval.specs.Ahead.{Led}
use Rattle.pv_eval.proofs.Calls.{none, map-last, argument-is, from-more, from-none}

pub count_length : (ts : List Tree) (ids : List NodeId) → count (arguments_in ts ids) ≡ length ids
count_length ts [] = refl
count_length ts (n ∷ ns) = ap suc (count_length ts ns)

pub asked-none : (xs : Arguments) → asked_with xs [] ≡ []
asked-none NoArguments = refl
asked-none (MoreArguments x xs) = refl

-- one more value
pub asked-last : (xs : Arguments) (vs : List Worth) (v : Worth) → length vs < count xs → asked_with xs (vs ++ v ∷ []) ≡ asked_with xs vs ++ argument (argument_at xs (length vs)) v ∷ []
asked-last NoArguments vs v h = absurd (omega (arith, h))
asked-last (MoreArguments x xs) [] v h = ap (λ z. argument x v ∷ z) (asked-none xs)
asked-last (MoreArguments x xs) (w ∷ vs) v h = ap (λ z. argument x w ∷ z) (asked-last xs vs v (omega (arith, h)))

pub map-length : (gs : List Got) → length (map worth_of gs) ≡ length gs
map-length [] = refl
map-length (g ∷ gs) = ap suc (map-length gs)

module _ (b : Setting) (call : Calling) (u : Stored) (n : NodeId) (line i : ℕ) (f : Library) (l : ListId) (got : Vec Got Global) (ids : List NodeId) (same : ids ≡ list_at u l) (many : i ≡ length got.items) where
  abbrev xs : Arguments
  xs = arguments_in (nodes u) (list_at u l)

  abbrev gots : List Worth
  gots = map worth_of got.items

  within : i < length ids → length got.items < length (list_at u l)
  within lt = subst (λ z. length got.items < length z) same (subst (λ k. k < length ids) many lt)

  at : i < length ids → argument_at xs (length got.items) ≡ expression_at u (slice_index_or ids i none)
  at lt =
      argument-is (nodes u) (list_at u l) (length got.items) (within lt)
      ∙ ap (λ z. expression_at u (slice_index_or z (length got.items) none)) (sym same)
      ∙ ap (λ k. expression_at u (slice_index_or ids k none)) (sym many)

  -- the next argument
  pub next-asked : (j : Open) (s : State) → form_of (expression_at u n) ≡ LibraryCall f xs → line ≡ line_of (expression_at u n) → i < length ids → operand (ev b call (expression_at u (slice_index_or ids i none))) j s (frame_after b call u (record { node = n; stage = Argument got })) ≡ ev_ask b call line f (asked_with xs gots) (arguments_from xs (length got.items)) j s
  unfolding frame_after ev_by
  next-asked j s form is lt =
      let m : ℕ = length got.items in
      let one : suc m ≡ m + 1 = omega arith in
      let t : Ty = type_of (expression_at u n) in
      let k : ℕ = line_of (expression_at u n) in
      ap (λ x. operand (ev b call x) j s (frame_after b call u (record { node = n; stage = Argument got }))) (sym (at lt))
      ∙ ap (λ g. operand (ev b call (argument_at xs m)) j s (stage_after b call t k g (Argument got))) form
      ∙ ap (λ q. operand (ev b call (argument_at xs m)) j s (λ j v s. then_do (accepted_value b (argument_at xs m) v s) (λ v s. ev_ask b call k f (asked_with xs gots ++ argument (argument_at xs m) v ∷ []) (arguments_from xs q) j s))) (sym one)
      ∙ ap (λ x. operand (ev b call x) j s (λ j v s. then_do (accepted_value b x v s) (λ v s. ev_ask b call k f (asked_with xs gots ++ argument x v ∷ []) (arguments_from xs (suc m)) j s))) (argument-is (nodes u) (list_at u l) m (within lt))
      ∙ ap (λ z. ev_ask b call k f (asked_with xs gots) z j s) (sym (from-more (nodes u) (list_at u l) m (within lt)))
      ∙ ap (λ k. ev_ask b call k f (asked_with xs gots) (arguments_from xs m) j s) (sym is)

  -- or the call
  pub all-asked : (j : Open) (s : State) → length ids ≤ i → ev_ask b call line f (asked_with xs gots) (arguments_from xs (length got.items)) j s ≡ ev_ask b call line f (asked_with xs gots) NoArguments j s
  all-asked j s h = ap (λ z. ev_ask b call line f (asked_with xs gots) z j s) (from-none (nodes u) (list_at u l) (length got.items) (subst (λ z. length z ≤ length got.items) same (subst (λ k. length ids ≤ k) many h)))

  pub asked-next : i < length ids → (v : Got) (items : List Got) → items ≡ got.items ++ v ∷ [] → asked_with xs gots ++ argument (expression_at u (slice_index_or ids i none)) (worth_of v) ∷ [] ≡ asked_with xs (map worth_of items)
  asked-next lt v items e =
      ap (λ x. asked_with xs gots ++ argument x (worth_of v) ∷ []) (sym (at lt))
      ∙ ap (λ k. asked_with xs gots ++ argument (argument_at xs k) (worth_of v) ∷ []) (sym (map-length got.items))
      ∙ sym (asked-last xs gots (worth_of v) (omega (arith, within lt, count_length (nodes u) (list_at u l), map-length got.items)))
      ∙ ap (asked_with xs) (sym (ap (map worth_of) e ∙ map-last got.items v))

  -- with the value of an argument
  pub asked-led : (t : Ty) (x : Typed) (v : Worth) (s : State) (r : Result Move Failure) (js : List Open) (j : Open) (s' : State) → x ≡ typed.LibraryCall f l → i < length ids → Led b call u (then_do (accepted_value b (expression_at u (slice_index_or ids i none)) v s) (λ v s. ev_ask b call line f (asked_with xs gots ++ argument (expression_at u (slice_index_or ids i none)) v ∷ []) (arguments_from xs (length got.items + 1)) j s)) r js s' → Led b call u (argument_after b call t line (form_in u.lists (nodes u) x) (length got.items) gots j v s) r js s'
  asked-led t x v s r js j s' is lt h =
      subst (λ y. Led b call u (argument_after b call t line (form_in u.lists (nodes u) y) (length got.items) gots j v s) r js s') (sym is)
      (subst (λ y. Led b call u (then_do (accepted_value b y v s) (λ v s. ev_ask b call line f (asked_with xs gots ++ argument y v ∷ []) (arguments_from xs (length got.items + 1)) j s)) r js s') (sym (at lt)) h)

each-at : {A : Type 0} (P : A → Type 0) (zs : List A) (i : ℕ) (d : A) → Each P zs → i < length zs → P (slice_index_or zs i d)
each-at P [] i d h lt = absurd (omega (arith, lt))
each-at P (z ∷ zs) zero d h lt = h.0
each-at P (z ∷ zs) (suc i) d h lt = each-at P zs i d h.1 (omega (arith, lt))

pub child-there : (u : Stored) (l : ListId) (n : NodeId) (i : ℕ) (ids : List NodeId) → ids ≡ list_at u l → HasKinds u.rows u.lists n.0 true l → n.0 < length u.rows → i < length ids → IsExpression u (slice_index_or ids i none)
child-there u l n i ids same kinds there lt =
    let h = each-at (HasKind u.rows n.0 true) ids i none (subst (Each (HasKind u.rows n.0 true)) (sym same) kinds.1) lt in
    (omega (arith, h.0, there), h.1)

pub call-more : (x : Form) (f : ℕ) (ts : List Tree) (ls ids : List NodeId) (i k : ℕ) → ids ≡ ls → i ≡ k → x ≡ Call f (arguments_in ts ls) → i < length ids → k < arguments_count x
call-more x f ts ls ids i k same many e lt = subst (λ z. k < arguments_count z) (sym e) (omega (arith, count_length ts ls, ap length same, many, lt))

pub library-more : (x : Form) (f : Library) (ts : List Tree) (ls ids : List NodeId) (i k : ℕ) → ids ≡ ls → i ≡ k → x ≡ LibraryCall f (arguments_in ts ls) → i < length ids → k < arguments_count x
library-more x f ts ls ids i k same many e lt = subst (λ z. k < arguments_count z) (sym e) (omega (arith, count_length ts ls, ap length same, many, lt))
