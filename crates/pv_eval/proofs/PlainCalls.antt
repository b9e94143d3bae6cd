-- Calls of the program's functions whose arguments are plain.
use Rattle.std.proofs.Common.{◌≡◌, ℕ, suc, ◌+◌, ◌++◌, ◌<◌, ◌≤◌, List, [], ◌∷◌, length, sym, ap, ◌∙◌, arith, subst, Some, ⊎_elim, Vec, Global}
use Rattle.std.specs.Prelude.{map, slice_index_or}
use Rattle.std.proofs.lemmas.Bool.{cases_lt}
use Rattle.pv_tree.specs.declared.nodes.NodeId.{NodeId}
use Rattle.pv_tree.specs.declared.nodes.ListId.{ListId}
use Rattle.pv_typed.specs.TypedTree.{TypedTree, Arguments, NoArguments, MoreArguments, Call, line_of, form_of}
use Rattle.pv_typed.specs.Nodes.{arguments_in}
use Rattle.pv_typed.specs.Tables.{Stored, nodes}
use Rattle.pv_typed.specs.NodeTrees.{expression_at, list_at}
use Rattle.pv_seq.specs.Sequencing.{Access, Open, open_against, sequence_point}
use Rattle.pv_seq.specs.Frames.{with_reads}
use Rattle.pv_seq.specs.Rivals.{top, below}
use Rattle.pv_world.specs.Worlds.{Worth, World}
use Rattle.pv_world.specs.Coming.{worth_of}
use Rattle.pv_world.specs.declared.got.Got.{Got}
use Rattle.pv_eval.specs.declared.frames.Frame.{Frame}
use Rattle.pv_eval.specs.declared.frames.Now.{Now}
use Rattle.pv_eval.specs.declared.frames.Now.TheVariants.{Due, Asked}
use Rattle.pv_eval.specs.States.{Setting, State, Res, Gives, Stops, Turns, then_do}
use Rattle.pv_eval.specs.Sequenced.{Given, with_given, node_value}
use Rattle.pv_eval.specs.Steps.{Calling}
use Rattle.pv_eval.specs.OfRuns.{accepted_value, ev_call}
use Rattle.pv_eval.specs.Evaluation.{ev_by, ev}
use Rattle.pv_eval.specs.Stack.{rest}
use Rattle.pv_eval.specs.Frames.{after, arguments_from}
use Rattle.pv_eval.specs.Ahead.{ahead, stack}
use Rattle.pv_eval.specs.Moments.{Moment, state_of}
use Rattle.pv_eval.specs.Plainly.{setting_by, state_with, AreReads, has_read, HandsNoting, ComesToArguments}
use Rattle.pv_eval.specs.AtOnce.{CallsAmong, CutAmong}
use Rattle.pv_eval.proofs.PlainSteps.{reads_both, node_begun, node_stops}
use Rattle.pv_eval.proofs.Calls.{none, from-more, from-none, map-last}

pub same_turns : (j k : ℕ) → Some j ≡ Some k → j ≡ k
same_turns j k e = cc

-- a call whose turn was taken
pub comes_first : (u : Stored) (w : World) (x : TypedTree) (f : ℕ) (xs : Arguments) (k : ℕ) → form_of x ≡ Call f xs → ComesToArguments u w x f [] xs [] k (k + 1)
unfolding ev_by
comes_first u w x f xs k form = record {
  only = tt;
  gives = λ call bound sides zap fs out es hf room.
      let left : k + (0 + 1) ≤ bound = omega (arith, room) in
      node_begun u w call bound sides zap out es x (Call f xs) fs k 0 form left;
  stops = λ call bound sides zap fs out es hf low high.
      let over : bound < k + (0 + 1) = omega (arith, high) in
      node_stops u w call bound sides zap out es x (Call f xs) fs k 0 form low over (λ below above. absurd (omega (arith, below, above)));
}

-- one argument more
module _ (u : Stored) (w : World) (tree : TypedTree) (f : ℕ) (got : List Worth) (x : TypedTree) (xs : Arguments) (all : List Access) (from at : ℕ) where
  pub comes_on : (behind : ℕ) (v : Worth) (now : List Access) → ComesToArguments u w tree f got (MoreArguments x xs) all from at → HandsNoting u w x at behind v all now → ComesToArguments u w tree f (got ++ v ∷ []) xs now from behind
  unfolding ev_by
  comes_on behind v now h g = record {
    only = subst AreReads (sym g.noted) (reads_both all g.yields.accesses h.only g.yields.only);
    gives = λ call bound sides zap fs out es hf room.
        let b : Setting = setting_by u bound sides zap in
        let y = g.yields in
        let go = λ (r : Res Given). then_do r (λ (q : Given) s. then_do (accepted_value b x q.value s) (λ z s. ev_call b call (line_of tree) f (got ++ z ∷ []) xs (with_given (has_read fs all) q) s)) in
        h.gives call bound sides zap fs out es hf (omega (arith, g.are, room))
        ∙ ap go (y.gives call bound sides zap (fs ++ all) out es at (reads_both fs all hf h.only) (omega (arith, g.are, room))).is
        ∙ ap (λ (r : Res Worth). then_do r (λ z s. ev_call b call (line_of tree) f (got ++ z ∷ []) xs (has_read fs (all ++ y.accesses)) s)) (g.hands b out es (at + y.turns))
        ∙ ap (λ (qs : List Access). ev_call b call (line_of tree) f (got ++ v ∷ []) xs (has_read fs qs) (state_with w out es (at + y.turns))) (sym g.noted)
        ∙ ap (λ (m : ℕ). ev_call b call (line_of tree) f (got ++ v ∷ []) xs (has_read fs now) (state_with w out es m)) (sym g.are);
    stops = λ call bound sides zap fs out es hf low high.
        let b : Setting = setting_by u bound sides zap in
        let y = g.yields in
        let go = λ (r : Res Given). then_do r (λ (q : Given) s. then_do (accepted_value b x q.value s) (λ z s. ev_call b call (line_of tree) f (got ++ z ∷ []) xs (with_given (has_read fs all) q) s)) in
        ⊎_elim
        (λ lt. h.stops call bound sides zap fs out es hf low lt)
        (λ le. h.gives call bound sides zap fs out es hf le ∙ ap go (y.stops call bound sides zap (fs ++ all) out es at (reads_both fs all hf h.only) le (omega (arith, g.are, high))))
        (cases_lt bound at);
  }

-- the arguments of a list, one after the other
module _ (u : Stored) (w : World) (f : ℕ) (ids : List NodeId) where
  abbrev xs : Arguments
  xs = arguments_in (nodes u) ids

  pub first_argument : (n : NodeId) (l : ListId) (gs : List Got) (all : List Access) (k : ℕ) → ids ≡ list_at u l → form_of (expression_at u n) ≡ Call f (arguments_in (nodes u) (list_at u l)) → gs ≡ [] → all ≡ []
      → ComesToArguments u w (expression_at u n) f (map worth_of gs) (arguments_from xs 0) all k (k + 1)
  first_argument n l gs all k same form empty quiet =
      let x : TypedTree = expression_at u n in
      subst (λ (hs : List Got). ComesToArguments u w x f (map worth_of hs) (arguments_from xs 0) all k (k + 1)) (sym empty)
      (subst (λ (qs : List Access). ComesToArguments u w x f (map worth_of []) (arguments_from xs 0) qs k (k + 1)) (sym quiet)
      (comes_first u w x f xs k (form ∙ ap (λ (ls : List NodeId). Call f (arguments_in (nodes u) ls)) (sym same))))

  pub next_argument : (x : TypedTree) (i : ℕ) (gs hs : List Got) (v : Got) (all now : List Access) (from at behind : ℕ) → i < length ids → ComesToArguments u w x f (map worth_of gs) (arguments_from xs i) all from at
      → HandsNoting u w (expression_at u (slice_index_or ids i none)) at behind (worth_of v) all now → hs ≡ gs ++ v ∷ [] → ComesToArguments u w x f (map worth_of hs) (arguments_from xs (i + 1)) now from behind
  next_argument x i gs hs v all now from at behind lt h g items =
      let one : suc i ≡ i + 1 = omega arith in
      let last : map worth_of hs ≡ map worth_of gs ++ worth_of v ∷ [] = ap (map worth_of) items ∙ map-last gs v in
      subst (λ (ws : List Worth). ComesToArguments u w x f ws (arguments_from xs (i + 1)) now from behind) (sym last)
      (subst (λ (m : ℕ). ComesToArguments u w x f (map worth_of gs ++ worth_of v ∷ []) (arguments_from xs m) now from behind) one
      (comes_on u w x f (map worth_of gs) (expression_at u (slice_index_or ids i none)) (arguments_from xs (suc i)) all from at behind (worth_of v) now
      (subst (λ (ys : Arguments). ComesToArguments u w x f (map worth_of gs) ys all from at) (from-more (nodes u) ids i lt) h) g))

  pub all_arguments : (x : TypedTree) (i : ℕ) (got : List Worth) (all : List Access) (from at : ℕ) → length ids ≤ i → ComesToArguments u w x f got (arguments_from xs i) all from at → ComesToArguments u w x f got NoArguments all from at
  all_arguments x i got all from at le h = subst (λ (ys : Arguments). ComesToArguments u w x f got ys all from at) (from-none (nodes u) ids i le) h

-- a call that has its arguments is made
module _ (u : Stored) (n : NodeId) (f : ℕ) (got : List Worth) (all : List Access) (k : ℕ) (old : Moment) where
  pub calls_among : ComesToArguments u old.world (expression_at u n) f got NoArguments all old.taken k → CallsAmong u n f got all old (record old { taken = k })
  unfolding ev_by
  calls_among h = λ b out es hs hl call fs reads room.
      let x : TypedTree = expression_at u n in
      let s : State = state_of old out es in
      let s' : State = state_of (record old { taken = k }) out es in
      let setting : setting_by u b.bound b.sides b.zap ≡ b = λ i. record { unit = sym hs.unit i; types = sym hs.types i; bound = b.bound; sides = b.sides; zap = b.zap } in
      subst (λ (c : Setting). ev c call x fs s ≡ ev_call c call (line_of x) f got NoArguments (has_read fs all) s') setting (h.gives call b.bound b.sides b.zap fs (out ++ old.printed) (es ++ old.waiting) reads room)

  pub cut_calls : ComesToArguments u old.world (expression_at u n) f got NoArguments all old.taken k → CutAmong u n old (record old { taken = k })
  cut_calls h = λ b out es hs hl call fs reads low high.
      let x : TypedTree = expression_at u n in
      let setting : setting_by u b.bound b.sides b.zap ≡ b = λ i. record { unit = sym hs.unit i; types = sym hs.types i; bound = b.bound; sides = b.sides; zap = b.zap } in
      subst (λ (c : Setting). ev c call x fs (state_of old out es) ≡ Stops Turns (state_of (record old { taken = b.bound }) out es)) setting
      (h.stops call b.bound b.sides b.zap fs (out ++ old.printed) (es ++ old.waiting) reads low high)

-- a call that is due is handed up, and what its arguments read is noted
pub goes_call : (b : Setting) (call : Calling) (u : Stored) (fs : List Frame) (js ks : List Open) (place : Now) (n : NodeId) (f : ℕ) (args : Vec Got Global) (line : ℕ) (all : List Access) (s s' : State) → place ≡ Due n
    → top js ≡ open_against (top js).foes → ks ≡ with_reads all (top js) ∷ below js → ev b call (expression_at u n) (top js).foes s ≡ then_do (call f (map worth_of args.items) line s') (node_value (sequence_point (has_read (top js).foes all)))
    → ahead b call u fs js place s ≡ ahead b call u fs ks (Asked f args line) s'
goes_call b call u fs js ks place n f args line all s s' at begun is h =
    ap (λ (p : Now). ahead b call u fs js p s) at
    ∙ ap (λ r. then_do r (rest (after b call u) (stack fs (below js)))) h
    ∙ ap (λ (j : Open). then_do (then_do (call f (map worth_of args.items) line s') (node_value (sequence_point (with_reads all j)))) (rest (after b call u) (stack fs (below js)))) (sym begun)
    ∙ ap (λ (qs : List Open). ahead b call u fs qs (Asked f args line) s') (sym is)
