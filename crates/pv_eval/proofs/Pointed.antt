-- The arguments of a call by a value: what the call has begins with that value.
use Rattle.std.proofs.Common.{◌≡◌, ℕ, suc, ◌+◌, ◌-◌, ◌<◌, ◌≤◌, List, [], ◌∷◌, ◌++◌, length, refl, sym, ap, ◌∙◌, arith, subst, Vec, Global, length-append}
use Rattle.std.specs.Prelude.{map, slice_index_or, Result, Ok, Err}
use Rattle.std.specs.List.{remove}
use Rattle.pv_types.specs.Ty.{Ty}
use Rattle.pv_tree.specs.declared.nodes.NodeId.{NodeId}
use Rattle.pv_tree.specs.declared.nodes.ListId.{ListId}
use Rattle.pv_typed.specs.TypedTree.{TypedTree, Form, Arguments, NoArguments, MoreArguments, CallPointer, type_of, line_of, form_of}
use Rattle.pv_typed.specs.Nodes.{Tree, arguments_in}
use Rattle.pv_typed.specs.Tables.{Stored, nodes}
use Rattle.pv_typed.specs.NodeTrees.{expression_at, list_at}
use Rattle.pv_seq.specs.Sequencing.{Open, sequence_point}
use Rattle.pv_seq.specs.Rivals.{top}
use Rattle.pv_world.specs.Worlds.{Worth, Nothing}
use Rattle.pv_world.specs.declared.got.Got.{Got}
use Rattle.pv_world.specs.Coming.{worth_of}
use Rattle.pv_eval.specs.States.{Setting, State, Res, Gives, then_do}
use Rattle.pv_eval.specs.Operations.{Finds, act}
use Rattle.pv_eval.specs.CalleeParts.{function_in}
use Rattle.pv_eval.specs.Moments.{Called, by_number}
use Rattle.pv_eval.specs.TypeForms.{pointed_to}
use Rattle.pv_eval.specs.Sequenced.{Given, node_value, operand}
use Rattle.pv_eval.specs.Steps.{Calling}
use Rattle.pv_eval.specs.OfRuns.{accepted_value, ev_through}
use Rattle.pv_eval.specs.Evaluation.{ev_by, ev}
use Rattle.pv_eval.specs.declared.failure.Failure.{Failure}
use Rattle.pv_eval.specs.declared.failure.Failure.TheVariants as failure
use Rattle.pv_eval.specs.declared.frames.Move.{Move}
use Rattle.pv_eval.specs.declared.frames.Stage.TheVariants.{Argument}
use Rattle.pv_eval.specs.Frames.{argument_at, arguments_from, arguments_count, argument_after, stage_after, frame_after, callee_of, passed_of}
use Rattle.pv_eval.specs.Ahead.{Led}
use Rattle.pv_eval.specs.Pieces.{through, with_pointed}
use Rattle.pv_eval.proofs.Cases.{led-from}
use Rattle.pv_eval.proofs.Calls.{none, argument-is, from-more, from-none, map-last}
use Rattle.pv_eval.proofs.LibraryCalls.{count_length, map-length}

-- the first of a list that is not empty stays the first, and what is behind it grows
pub callee-kept : (ws : List Worth) (v : Worth) → 1 ≤ length ws → callee_of (ws ++ v ∷ []) ≡ callee_of ws
callee-kept [] v h = absurd (omega (arith, h))
callee-kept (w ∷ ws) v h = refl

pub passed-more : (ws : List Worth) (v : Worth) → 1 ≤ length ws → passed_of (ws ++ v ∷ []) ≡ passed_of ws ++ v ∷ []
passed-more [] v h = absurd (omega (arith, h))
passed-more (w ∷ ws) v h = refl

module _ (b : Setting) (call : Calling) (u : Stored) (n a : NodeId) (l : ListId) (ids : List NodeId) (same : ids ≡ list_at u l) where
  abbrev xs : Arguments
  xs = arguments_in (nodes u) (list_at u l)

  abbrev called : Ty
  called = pointed_to (type_of (expression_at u a))

  abbrev line : ℕ
  line = line_of (expression_at u n)

  -- what a call does with the value of an argument, behind these
  abbrev on : List Worth → TypedTree → (next : ℕ) → Open → Worth → State → Res Given
  on ws x q j v s = then_do (accepted_value b x v s) (λ v s. ev_through b call line called (callee_of ws) (passed_of ws ++ v ∷ []) (arguments_from xs q) j s)

  module _ (got : Vec Got Global) (i : ℕ) (many : length got.items ≡ suc i) where
    abbrev ws : List Worth
    ws = map worth_of got.items

    one-less : length ws - 1 ≡ i
    one-less = omega (arith, many, map-length got.items)

    child : i < length ids → argument_at xs i ≡ expression_at u (slice_index_or ids i none)
    child lt =
        let lt' : i < length (list_at u l) = subst (λ z. i < length z) same lt in
        argument-is (nodes u) (list_at u l) i lt' ∙ ap (λ z. expression_at u (slice_index_or z i none)) (sym same)

    -- the next argument
    pub pointed-one : form_of (expression_at u n) ≡ CallPointer (expression_at u a) xs → i < length ids → (j : Open) (s : State) → through u n a l ws b call j s ≡ operand (ev b call (expression_at u (slice_index_or ids i none))) j s (frame_after b call u (record { node = n; stage = Argument got }))
    unfolding frame_after ev_by
    pointed-one form lt j s =
        let x = expression_at u (slice_index_or ids i none) in
        let t : Ty = type_of (expression_at u n) in
        let lt' : i < length (list_at u l) = subst (λ z. i < length z) same lt in
        ap (λ q. ev_through b call line called (callee_of ws) (passed_of ws) (arguments_from xs q) j s) one-less
        ∙ ap (λ z. ev_through b call line called (callee_of ws) (passed_of ws) z j s) (from-more (nodes u) (list_at u l) i lt')
        ∙ ap (λ z. operand (ev b call (expression_at u (slice_index_or z i none))) j s (on ws (expression_at u (slice_index_or z i none)) (suc i))) (sym same)
        ∙ ap (λ y. operand (ev b call x) j s (on ws y (suc i))) (sym (child lt))
        ∙ ap (λ q. operand (ev b call x) j s (argument_after b call t line (CallPointer (expression_at u a) xs) q ws)) (sym many)
        ∙ ap (λ g. operand (ev b call x) j s (stage_after b call t line g (Argument got))) (sym form)

    -- or the call
    pub pointed-none : length ids ≤ i → (j : Open) (s : State) → through u n a l ws b call j s ≡ ev_through b call line called (callee_of ws) (passed_of ws) NoArguments j s
    pointed-none h j s =
        ap (λ q. ev_through b call line called (callee_of ws) (passed_of ws) (arguments_from xs q) j s) one-less
        ∙ ap (λ z. ev_through b call line called (callee_of ws) (passed_of ws) z j s) (from-none (nodes u) (list_at u l) i (subst (λ z. length z ≤ i) same h))

    -- with the value of an argument
    pub pointed-led : (v : Worth) (s : State) (r : Result Move Failure) (js : List Open) (s' : State) → i < length ids
        → Led b call u (on ws (expression_at u (slice_index_or ids i none)) (suc i) (top js) v s) r js s'
        → Led b call u (with_pointed u n a l got.items v b call (top js) s) r js s'
    pointed-led v s r js s' lt h =
        subst (λ q. Led b call u (argument_after b call (type_of (expression_at u n)) line (CallPointer (expression_at u a) xs) q ws (top js) v s) r js s') (sym many)
        (subst (λ y. Led b call u (on ws y (suc i) (top js) v s) r js s') (sym (child lt)) h)

-- one value more
pub through-more : (b : Setting) (call : Calling) (u : Stored) (n a : NodeId) (l : ListId) (got items : List Got) (v : Got) (i : ℕ) (j : Open) (s : State) → items ≡ got ++ v ∷ [] → length got ≡ suc i
    → ev_through b call (line_of (expression_at u n)) (pointed_to (type_of (expression_at u a))) (callee_of (map worth_of got)) (passed_of (map worth_of got) ++ worth_of v ∷ []) (arguments_from (arguments_in (nodes u) (list_at u l)) (suc i)) j s
    ≡ through u n a l (map worth_of items) b call j s
through-more b call u n a l got items v i j s e many =
    let xs = arguments_in (nodes u) (list_at u l) in
    let t = pointed_to (type_of (expression_at u a)) in
    let k = line_of (expression_at u n) in
    let ws = map worth_of got in
    let some : 1 ≤ length ws = omega (arith, many, map-length got) in
    let all : map worth_of items ≡ ws ++ worth_of v ∷ [] = ap (map worth_of) e ∙ map-last got v in
    let count : length (map worth_of items) - 1 ≡ suc i = omega (arith, many, ap length e, map-length items, length-append got (v ∷ [])) in
    ap (λ p. ev_through b call k t p (passed_of ws ++ worth_of v ∷ []) (arguments_from xs (suc i)) j s) (sym (ap callee_of all ∙ callee-kept ws (worth_of v) some))
    ∙ ap (λ ps. ev_through b call k t (callee_of (map worth_of items)) ps (arguments_from xs (suc i)) j s) (sym (ap passed_of all ∙ passed-more ws (worth_of v) some))
    ∙ ap (λ q. ev_through b call k t (callee_of (map worth_of items)) (passed_of (map worth_of items)) (arguments_from xs q) j s) (sym count)

-- one argument is left at least
pub pointed-more : (x : Form) (a : TypedTree) (ts : List Tree) (ls ids : List NodeId) (i k : ℕ) → ids ≡ ls → k ≡ suc i → x ≡ CallPointer a (arguments_in ts ls) → i < length ids → k < arguments_count x
pointed-more x a ts ls ids i k same many e lt = subst (λ z. k < arguments_count z) (sym e) (omega (arith, count_length ts ls, ap length same, many, lt))

-- the first of what a call by a value has is taken out
pub callee-removed : (gs : List Got) (x : Got) → 1 ≤ length gs → x ≡ slice_index_or gs 0 x → callee_of (map worth_of gs) ≡ worth_of x
callee-removed [] x h e = absurd (omega (arith, h))
callee-removed (g ∷ gs) x h e = ap worth_of (sym e)

pub passed-removed : (gs rest : List Got) → 1 ≤ length gs → rest ≡ remove gs 0 → passed_of (map worth_of gs) ≡ map worth_of rest
passed-removed [] rest h e = absurd (omega (arith, h))
passed-removed (g ∷ gs) rest h e = ap (map worth_of) (sym e)

-- which function is called, once all arguments are there
module _ (b : Setting) (call : Calling) (u : Stored) (line line' : ℕ) (t t' : Ty) (p p' : Worth) (args args' : List Worth) (j : Open) (s : State) (el : line' ≡ line) (et : t' ≡ t) (ep : p ≡ p') (ea : args ≡ args') where
  asks : List Worth → ℕ → Worth → State → Res Given
  asks vs k f s = then_do (call (function_in f) vs k s) (node_value (sequence_point j))

  asked-function : ev_through b call line t p args NoArguments j s ≡ then_do (act b line' (Finds t' p') s) (asks args' line')
  unfolding ev_by asks
  asked-function =
      ap (λ k. then_do (act b k (Finds t p) s) (asks args k)) (sym el)
      ∙ ap (λ x. then_do (act b line' (Finds x p) s) (asks args line')) (sym et)
      ∙ ap (λ x. then_do (act b line' (Finds t' x) s) (asks args line')) ep
      ∙ ap (λ vs. then_do (act b line' (Finds t' p') s) (asks vs line')) ea

  pub pointed-asked : (f : ℕ) (s' : State) → act b line' (Finds t' p') s ≡ Gives (by_number f) s' → ev_through b call line t p args NoArguments j s ≡ then_do (call f args' line' s') (node_value (sequence_point j))
  unfolding asks
  pointed-asked f s' h = asked-function ∙ ap (λ (r : Res Worth). then_do r (asks args' line')) h

  called-stops : (r : Res Worth) (k : Worth → State → Res Given) (e : Failure) (js : List Open) (s' : State) → Called r (Err e) s' → Led b call u (then_do r k) (Err e) js s'
  called-stops r k failure.NoMemory js s' h = tt
  called-stops r k (failure.Stop y at) js s' h = ap (λ z. then_do z k) h

  pub pointed-stopped : (e : Failure) (js : List Open) (s' : State) → Called (act b line' (Finds t' p') s) (Err e) s' → Led b call u (ev_through b call line t p args NoArguments j s) (Err e) js s'
  pointed-stopped e js s' h = led-from b call u _ _ (Err e) js s' asked-function (called-stops (act b line' (Finds t' p') s) (asks args' line') e js s' h)
