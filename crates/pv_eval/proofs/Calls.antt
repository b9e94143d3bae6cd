-- The arguments of a call.
use Rattle.std.proofs.Common.{◌≡◌, ℕ, zero, suc, ◌+◌, ◌<◌, ◌≤◌, List, [], ◌∷◌, ◌++◌, length, refl, sym, ap, ◌∙◌, arith, subst}
use Rattle.std.specs.Prelude.{map, slice_index_or, Result}
use Rattle.pv_types.specs.Ty.{Ty}
use Rattle.pv_tree.specs.declared.nodes.NodeId.{NodeId}
use Rattle.pv_tree.specs.declared.nodes.ListId.{ListId}
use Rattle.pv_typed.specs.declared.nodes.Typed.{Typed}
use Rattle.pv_typed.specs.declared.nodes.Typed.TheVariants as typed
use Rattle.pv_typed.specs.TypedTree.{Arguments, NoArguments, MoreArguments, Call, type_of, line_of, form_of}
use Rattle.pv_typed.specs.Nodes.{Tree, form_in, expression_in, arguments_in}
use Rattle.pv_typed.specs.Tables.{Stored, nodes}
use Rattle.pv_typed.specs.NodeTrees.{expression_at, list_at}
use Rattle.pv_seq.specs.Sequencing.{Open}
use Rattle.pv_seq.specs.Rivals.{top}
use Rattle.pv_world.specs.Worlds.{Worth}
use Rattle.pv_eval.specs.States.{Setting, State, then_do}
use Rattle.pv_eval.specs.Sequenced.{operand}
use Rattle.pv_eval.specs.Steps.{Calling}
use Rattle.pv_eval.specs.OfRuns.{accepted_value, ev_call}
use Rattle.pv_eval.specs.Evaluation.{ev_by, ev}
use Rattle.std.proofs.Common.{Vec, Global}
use Rattle.pv_world.specs.declared.got.Got.{Got}
use Rattle.pv_eval.specs.declared.failure.Failure.{Failure}
use Rattle.pv_eval.specs.declared.frames.Move.{Move}
use Rattle.pv_eval.specs.declared.frames.Stage.TheVariants.{Argument}
use Rattle.pv_world.specs.Coming.{worth_of}
use Rattle.pv_eval.specs.Frames.{argument_at, arguments_from, argument_after, stage_after, frame_after}
use Rattle.pv_eval.specs.Ahead.{Led}

abbrev pub none : NodeId
none = record { 0 = 0 }

pub argument-is : (ts : List Tree) (ids : List NodeId) (i : ℕ) → i < length ids → argument_at (arguments_in ts ids) i ≡ expression_in ts (slice_index_or ids i none)
argument-is ts [] i h = absurd (omega (arith, h))
argument-is ts (a ∷ rest) zero h = refl
argument-is ts (a ∷ rest) (suc i) h = argument-is ts rest i (omega (arith, h))

pub from-more : (ts : List Tree) (ids : List NodeId) (i : ℕ) → i < length ids → arguments_from (arguments_in ts ids) i ≡ MoreArguments (expression_in ts (slice_index_or ids i none)) (arguments_from (arguments_in ts ids) (suc i))
from-more ts [] i h = absurd (omega (arith, h))
from-more ts (a ∷ rest) zero h = refl
from-more ts (a ∷ rest) (suc i) h = from-more ts rest i (omega (arith, h))

pub from-none : (ts : List Tree) (ids : List NodeId) (i : ℕ) → length ids ≤ i → arguments_from (arguments_in ts ids) i ≡ NoArguments
from-none ts [] zero h = refl
from-none ts [] (suc i) h = refl
from-none ts (a ∷ rest) zero h = absurd (omega (arith, h))
from-none ts (a ∷ rest) (suc i) h = from-none ts rest i (omega (arith, h))

pub map-last : (gs : List Got) (g : Got) → map worth_of (gs ++ g ∷ []) ≡ map worth_of gs ++ worth_of g ∷ []
map-last [] g = refl
map-last (h ∷ hs) g = ap (λ ws. worth_of h ∷ ws) (map-last hs g)

module _ (b : Setting) (call : Calling) (u : Stored) (n : NodeId) (line f i : ℕ) (l : ListId) (got : Vec Got Global) (ids : List NodeId) (same : ids ≡ list_at u l) (count : i ≡ length got.items) where
  abbrev xs : Arguments
  xs = arguments_in (nodes u) (list_at u l)

  pub next-one : (j : Open) (s : State) → form_of (expression_at u n) ≡ Call f xs → line ≡ line_of (expression_at u n) → i < length ids → operand (ev b call (expression_at u (slice_index_or ids i none))) j s (frame_after b call u (record { node = n; stage = Argument got })) ≡ ev_call b call line f (map worth_of got.items) (arguments_from xs (length got.items)) j s
  unfolding frame_after ev_by
  next-one j s form is lt =
      let m : ℕ = length got.items in
      let lt' : m < length (list_at u l) = subst (λ z. m < length z) same (subst (λ k. k < length ids) count lt) in
      let one : suc m ≡ m + 1 = omega arith in
      let t : Ty = type_of (expression_at u n) in
      let k : ℕ = line_of (expression_at u n) in
      ap (λ k. operand (ev b call (expression_at u (slice_index_or ids k none))) j s (frame_after b call u (record { node = n; stage = Argument got }))) count
      ∙ ap (λ z. operand (ev b call (expression_at u (slice_index_or z m none))) j s (frame_after b call u (record { node = n; stage = Argument got }))) same
      ∙ ap (λ g. operand (ev b call (expression_at u (slice_index_or (list_at u l) m none))) j s (stage_after b call t k g (Argument got))) form
      ∙ ap (λ x. operand (ev b call (expression_at u (slice_index_or (list_at u l) m none))) j s (λ j v s. then_do (accepted_value b x v s) (λ v s. ev_call b call k f (map worth_of got.items ++ v ∷ []) (arguments_from xs (m + 1)) j s))) (argument-is (nodes u) (list_at u l) m lt')
      ∙ ap (λ q. operand (ev b call (expression_at u (slice_index_or (list_at u l) m none))) j s (λ j v s. then_do (accepted_value b (expression_at u (slice_index_or (list_at u l) m none)) v s) (λ v s. ev_call b call k f (map worth_of got.items ++ v ∷ []) (arguments_from xs q) j s))) (sym one)
      ∙ ap (λ z. ev_call b call k f (map worth_of got.items) z j s) (sym (from-more (nodes u) (list_at u l) m lt'))
      ∙ ap (λ k. ev_call b call k f (map worth_of got.items) (arguments_from xs m) j s) (sym is)

  pub next-none : (j : Open) (s : State) → length ids ≤ i → ev_call b call line f (map worth_of got.items) NoArguments j s ≡ ev_call b call line f (map worth_of got.items) (arguments_from xs (length got.items)) j s
  next-none j s h = ap (λ z. ev_call b call line f (map worth_of got.items) z j s) (sym (from-none (nodes u) (list_at u l) (length got.items) (subst (λ z. length z ≤ length got.items) same (subst (λ k. length ids ≤ k) count h))))

  pub argument-led : (t : Ty) (x : Typed) (v : Worth) (s : State) (r : Result Move Failure) (js : List Open) (s' : State) → x ≡ typed.Call f l → i < length ids → Led b call u (then_do (accepted_value b (expression_at u (slice_index_or ids i none)) v s) (λ v s. ev_call b call line f (map worth_of got.items ++ v ∷ []) (arguments_from xs (length got.items + 1)) (top js) s)) r js s' → Led b call u (argument_after b call t line (form_in u.lists (nodes u) x) (length got.items) (map worth_of got.items) (top js) v s) r js s'
  argument-led t x v s r js s' is lt h =
      let lt' : length got.items < length (list_at u l) = subst (λ z. length got.items < length z) same (subst (λ k. k < length ids) count lt) in
      let a : argument_at xs (length got.items) ≡ expression_at u (slice_index_or ids i none) = argument-is (nodes u) (list_at u l) (length got.items) lt' ∙ ap (λ z. expression_at u (slice_index_or z (length got.items) none)) (sym same) ∙ ap (λ k. expression_at u (slice_index_or ids k none)) (sym count) in
      subst (λ y. Led b call u (argument_after b call t line (form_in u.lists (nodes u) y) (length got.items) (map worth_of got.items) (top js) v s) r js s') (sym is)
      (subst (λ y. Led b call u (then_do (accepted_value b y v s) (λ v s. ev_call b call line f (map worth_of got.items ++ v ∷ []) (arguments_from xs (length got.items + 1)) (top js) s)) r js s') (sym a) h)
