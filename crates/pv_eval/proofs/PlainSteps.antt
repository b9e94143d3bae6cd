-- A plain expression, node by node: what its operands give, and then what it gives itself.
use Rattle.std.proofs.Common.{◌≡◌, ℕ, ◌+◌, ◌++◌, ◌<◌, ◌≤◌, Bool, true, false, List, [], ◌∷◌, refl, ap, ◌∙◌, arith, subst, Some, None, ⊎_elim, sym, append-nil, append_assoc}
use Rattle.std.specs.Prelude.{Option, IfSome, if◌then◌else◌}
use Rattle.std.proofs.lemmas.Bool.{lt-ltb, le-ltb, cases_lt}
use Rattle.pv_tree.specs.declared.nodes.NodeId.{NodeId}
use Rattle.pv_typed.specs.declared.nodes.Typed.{Typed}
use Rattle.pv_typed.specs.TypedTree.{TypedTree, Node, Form, type_of, line_of, form_of}
use Rattle.pv_typed.specs.Trees.{takes_turn}
use Rattle.pv_typed.specs.Tables.{Stored, nodes}
use Rattle.pv_typed.specs.NodeTrees.{expression_at}
use Rattle.pv_typed.specs.Plain.{with_own_turn, sum_of_turns, turns_of, turns_of_form}
use Rattle.pv_seq.specs.Sequencing.{Access, Open}
use Rattle.pv_world.specs.Worlds.{Worth, World}
use Rattle.pv_eval.specs.declared.marked.Marked.{Marked}
use Rattle.pv_eval.specs.States.{Setting, State, Res, Stops, Turns, then_do, spend}
use Rattle.pv_eval.specs.Sequenced.{Given, with_given, operand}
use Rattle.pv_eval.specs.Steps.{Calling, takes, tick_if}
use Rattle.pv_eval.specs.Evaluation.{ev}
use Rattle.pv_eval.specs.OfRuns.{ev_form}
use Rattle.pv_eval.specs.Frames.{first_after, second_after}
use Rattle.pv_eval.specs.Ahead.{first_operand_of, second_operand_of}
use Rattle.pv_eval.specs.Plainly.{setting_by, state_with, AreReads, has_read, OnlyReads, Yields, form_by, turns_at, GivesAlone, GivesWith, GivesReading, GivesWithBoth, YieldsNoting, GivesNoting, found_worth}
use Rattle.pv_eval.specs.declared.plain.Found.{Found}
use Rattle.pv_eval.proofs.Cases.{ev-node, begins, goes-on}

-- what holds of what was found
pub some_map : {A : Type 0} (P Q : A → Type 0) (r : Option A) → ((a : A) → P a → Q a) → IfSome r P → IfSome r Q
some_map P Q None f h = tt
some_map P Q (Some a) f h = f a h

pub reads_both : (xs ys : List Access) → AreReads xs → AreReads ys → AreReads (xs ++ ys)
reads_both [] ys h k = k
reads_both (x ∷ xs) ys h k = (h.0, reads_both xs ys h.1 k)

-- the same piece of the run, and the same number of turns
pub only_from : (r r' : Res Given) (all : List Access) (v : Worth) (s : State) → r ≡ r' → OnlyReads r' all v s → OnlyReads r all v s
only_from r r' all v s e h = record { reads = h.reads; is = e ∙ h.is }

-- a number of turns with that of a node, where it takes one
abbrev pub with_turn : Bool → ℕ → ℕ
with_turn true n = n + 1
with_turn false n = n

counted_some : (c : Bool) (k : ℕ) → with_own_turn c (Some k) ≡ Some (with_turn c k)
counted_some true k = refl
counted_some false k = refl

turn_first : (c : Bool) (n k : ℕ) → with_turn c n + k ≡ n + with_turn c k
turn_first true n k = omega arith
turn_first false n k = refl

turn_room : (c : Bool) (n k bound : ℕ) → n + with_turn c k ≤ bound → with_turn c n + k ≤ bound
turn_room true n k bound h = omega (arith, h)
turn_room false n k bound h = h

turns_node : (x : TypedTree) → turns_of x ≡ turns_of_form (takes_turn x) (form_of x)
turns_node (Node t line turn f) = refl

module _ (u : Stored) (w : World) (call : Calling) (bound : ℕ) (sides : Option (List Bool)) (zap : Bool) (out : List ℕ) (es : List Marked) where
  abbrev b : Setting
  b = setting_by u bound sides zap

  -- the turn of a node is taken
  ticked : {A : Type 0} (c : Bool) (n : ℕ) (go : State → Res A) → with_turn c n ≤ bound → tick_if c b (state_with w out es n) go ≡ go (state_with w out es (with_turn c n))
  ticked true n go h = ap (λ t. if t then go (spend (state_with w out es n)) else Stops Turns (state_with w out es n)) (lt-ltb n bound (omega (arith, h)))
  ticked false n go h = refl

  -- or there is none left, or too few behind it
  stopped : {A : Type 0} (c : Bool) (n k : ℕ) (go : State → Res A) → n ≤ bound → bound < n + with_turn c k
      → (with_turn c n ≤ bound → bound < with_turn c n + k → go (state_with w out es (with_turn c n)) ≡ Stops Turns (state_with w out es bound)) → tick_if c b (state_with w out es n) go ≡ Stops Turns (state_with w out es bound)
  stopped false n k go low high h = h low high
  stopped true n k go low high h =
      ⊎_elim
      (λ lt. ticked true n go (omega (arith, lt)) ∙ h (omega (arith, lt)) (omega (arith, high)))
      (λ le.
      let last : n ≡ bound = omega (arith, low, le) in
      ap (λ t. if t then go (spend (state_with w out es n)) else Stops Turns (state_with w out es n)) (le-ltb n bound le) ∙ ap (λ m. Stops Turns (state_with w out es m)) last)
      (cases_lt n bound)

  -- an operand, and then what follows
  pub operand_only : (x : TypedTree) (first v : Worth) (y : Yields u w x first) (fs gs all : List Access) (n : ℕ) (go : Open → Worth → State → Res Given) (s : State) → AreReads fs → AreReads gs → n + y.turns ≤ bound
      → (AreReads y.accesses → OnlyReads (go (has_read fs (gs ++ y.accesses)) first (state_with w out es (n + y.turns))) all v s)
      → OnlyReads (operand (ev b call x) (has_read fs gs) (state_with w out es n) go) all v s
  operand_only x first v y fs gs all n go s hf hg room k =
      let g = y.gives call bound sides zap (fs ++ gs) out es n (reads_both fs gs hf hg) room in
      let h = k g.reads in
      record {
        reads = h.reads;
        is = ap (λ r. then_do r (λ (g : Given) s. go (with_given (has_read fs gs) g) g.value s)) g.is ∙ h.is;
      }

  -- an operand that stops, or what follows it
  pub operand_stops : (x : TypedTree) (first : Worth) (y : Yields u w x first) (fs gs : List Access) (n k : ℕ) (go : Open → Worth → State → Res Given) → AreReads fs → AreReads gs → n ≤ bound → bound < n + (y.turns + k)
      → (n + y.turns ≤ bound → (more : List Access) → AreReads more → go (has_read fs (gs ++ more)) first (state_with w out es (n + y.turns)) ≡ Stops Turns (state_with w out es bound))
      → operand (ev b call x) (has_read fs gs) (state_with w out es n) go ≡ Stops Turns (state_with w out es bound)
  operand_stops x first y fs gs n k go hf hg low high h =
      let after = λ (r : Res Given). then_do r (λ (g : Given) s. go (with_given (has_read fs gs) g) g.value s) in
      ⊎_elim
      (λ lt. ap after (y.stops call bound sides zap (fs ++ gs) out es n (reads_both fs gs hf hg) low lt))
      (λ le.
      let g = y.gives call bound sides zap (fs ++ gs) out es n (reads_both fs gs hf hg) le in
      ap after g.is ∙ h le y.accesses g.reads)
      (cases_lt bound (n + y.turns))

  -- a node begins: its turn first
  pub node_begun : (x : TypedTree) (f : Form) (fs : List Access) (n k : ℕ) → form_of x ≡ f → n + with_turn (takes (takes_turn x) f) k ≤ bound
      → ev b call x fs (state_with w out es n) ≡ ev_form b call (type_of x) (line_of x) f fs (state_with w out es (with_turn (takes (takes_turn x) f) n))
  node_begun x f fs n k form room =
      ev-node b call fs x (state_with w out es n)
      ∙ ap (λ (g : Form). tick_if (takes (takes_turn x) g) b (state_with w out es n) (ev_form b call (type_of x) (line_of x) g fs)) form
      ∙ ticked (takes (takes_turn x) f) n (ev_form b call (type_of x) (line_of x) f fs) (omega (arith, turn_room (takes (takes_turn x) f) n k bound room))

  -- or it stops
  pub node_stops : (x : TypedTree) (f : Form) (fs : List Access) (n k : ℕ) → form_of x ≡ f → n ≤ bound → bound < n + with_turn (takes (takes_turn x) f) k
      → (with_turn (takes (takes_turn x) f) n ≤ bound → bound < with_turn (takes (takes_turn x) f) n + k
      → ev_form b call (type_of x) (line_of x) f fs (state_with w out es (with_turn (takes (takes_turn x) f) n)) ≡ Stops Turns (state_with w out es bound))
      → ev b call x fs (state_with w out es n) ≡ Stops Turns (state_with w out es bound)
  node_stops x f fs n k form low high h =
      ev-node b call fs x (state_with w out es n)
      ∙ ap (λ (g : Form). tick_if (takes (takes_turn x) g) b (state_with w out es n) (ev_form b call (type_of x) (line_of x) g fs)) form
      ∙ stopped (takes (takes_turn x) f) n k (ev_form b call (type_of x) (line_of x) f fs) low high h

  -- the turn of the node comes before those of its operands
  in_order : (r : Res Given) (all : List Access) (v : Worth) (c : Bool) (n k : ℕ) → OnlyReads r all v (state_with w out es (with_turn c n + k)) → OnlyReads r all v (state_with w out es (n + with_turn c k))
  in_order r all v c n k h = subst (λ m. OnlyReads r all v (state_with w out es m)) (turn_first c n k) h

module _ (u : Stored) (w : World) (n : NodeId) (x : Typed) (form : form_of (expression_at u n) ≡ form_by u x) where
  abbrev tree : TypedTree
  tree = expression_at u n

  abbrev takes_one : Bool
  takes_one = takes (takes_turn tree) (form_by u x)

  turns_are : (o : Option ℕ) (k : ℕ) → ((turn : Bool) → turns_of_form turn (form_by u x) ≡ with_own_turn (takes turn (form_by u x)) o) → o ≡ Some k → turns_of tree ≡ Some (with_turn takes_one k)
  turns_are o k h e =
      turns_node tree
      ∙ ap (turns_of_form (takes_turn tree)) form
      ∙ h (takes_turn tree)
      ∙ ap (with_own_turn takes_one) e
      ∙ counted_some takes_one k

  -- a node without operands
  pub yields_alone : (v : Worth) → GivesAlone u w x v → Yields u w tree v
  yields_alone v h = record {
    turns = 1;
    are = turns_node tree ∙ ap (turns_of_form (takes_turn tree)) form ∙ h.turns (takes_turn tree);
    accesses = [];
    only = tt;
    gives = λ call bound sides zap fs out es m hf room. record {
      reads = tt;
      is =
          let one : with_turn takes_one 0 ≡ 1 = ap (λ c. with_turn c 0) (h.takes (takes_turn tree)) in
          let at : with_turn takes_one m ≡ m + 1 = ap (λ c. with_turn c m) (h.takes (takes_turn tree)) in
          node_begun u w call bound sides zap out es tree (form_by u x) fs m 0 form (omega (arith, one, room))
          ∙ ap (λ k. ev_form (setting_by u bound sides zap) call (type_of tree) (line_of tree) (form_by u x) fs (state_with w out es k)) at
          ∙ h.gives call bound sides zap (type_of tree) (line_of tree) fs out es (m + 1);
    };
    stops = λ call bound sides zap fs out es m hf low high.
        let one : with_turn takes_one 0 ≡ 1 = ap (λ c. with_turn c 0) (h.takes (takes_turn tree)) in
        node_stops u w call bound sides zap out es tree (form_by u x) fs m 0 form low (omega (arith, one, high)) (λ below above. absurd (omega (arith, below, above)));
  }

  -- a node with one operand
  pub yields_with : (a : NodeId) (first v : Worth) → first_operand_of x ≡ Some a → Yields u w (expression_at u a) first → GivesWith u w (type_of tree) x first v → Yields u w tree v
  yields_with a first v has y h = record {
    turns = with_turn takes_one y.turns;
    are = turns_are (turns_at u (first_operand_of x)) y.turns h.turns (ap (turns_at u) has ∙ y.are);
    accesses = y.accesses;
    only = y.only;
    gives = λ call bound sides zap fs out es m hf room.
        let c = takes_one in
        let b = setting_by u bound sides zap in
        in_order u w call bound sides zap out es _ y.accesses v c m y.turns
        (only_from _ _ y.accesses v _
        (node_begun u w call bound sides zap out es tree (form_by u x) fs m y.turns form room
        ∙ begins b call (type_of tree) (line_of tree) u.lists (nodes u) fs (state_with w out es (with_turn c m)) x a has)
        (operand_only u w call bound sides zap out es (expression_at u a) first v y fs [] y.accesses (with_turn c m) (first_after b call (type_of tree) (line_of tree) (form_by u x)) _ hf tt (turn_room c m y.turns bound room)
        (λ hm. h.gives call bound sides zap (line_of tree) fs y.accesses out es (with_turn c m + y.turns) hf hm)));
    stops = λ call bound sides zap fs out es m hf low high.
        let b = setting_by u bound sides zap in
        let n = with_turn takes_one m in
        node_stops u w call bound sides zap out es tree (form_by u x) fs m y.turns form low high (λ below above.
        begins b call (type_of tree) (line_of tree) u.lists (nodes u) fs (state_with w out es n) x a has
        ∙ operand_stops u w call bound sides zap out es (expression_at u a) first y fs [] n 0 (first_after b call (type_of tree) (line_of tree) (form_by u x)) hf tt below (omega (arith, above)) (λ le more hm. absurd (omega (arith, le, above))));
  }

  -- a node that reads at the place which its operand gives
  pub yields_reading : (a : NodeId) (first v : Worth) → first_operand_of x ≡ Some a → Yields u w (expression_at u a) first → GivesReading u w (type_of tree) x first v → Yields u w tree v
  yields_reading a first v has y h = record {
    turns = with_turn takes_one y.turns;
    are = turns_are (turns_at u (first_operand_of x)) y.turns h.turns (ap (turns_at u) has ∙ y.are);
    accesses = y.accesses ++ h.own ∷ [];
    only = reads_both y.accesses (h.own ∷ []) y.only (h.read, tt);
    gives = λ call bound sides zap fs out es m hf room.
        let c = takes_one in
        let b = setting_by u bound sides zap in
        in_order u w call bound sides zap out es _ (y.accesses ++ h.own ∷ []) v c m y.turns
        (only_from _ _ (y.accesses ++ h.own ∷ []) v _
        (node_begun u w call bound sides zap out es tree (form_by u x) fs m y.turns form room
        ∙ begins b call (type_of tree) (line_of tree) u.lists (nodes u) fs (state_with w out es (with_turn c m)) x a has)
        (operand_only u w call bound sides zap out es (expression_at u a) first v y fs [] (y.accesses ++ h.own ∷ []) (with_turn c m) (first_after b call (type_of tree) (line_of tree) (form_by u x)) _ hf tt (turn_room c m y.turns bound room)
        (λ hm. h.gives call bound sides zap (line_of tree) fs y.accesses out es (with_turn c m + y.turns) hf hm)));
    stops = λ call bound sides zap fs out es m hf low high.
        let b = setting_by u bound sides zap in
        let n = with_turn takes_one m in
        node_stops u w call bound sides zap out es tree (form_by u x) fs m y.turns form low high (λ below above.
        begins b call (type_of tree) (line_of tree) u.lists (nodes u) fs (state_with w out es n) x a has
        ∙ operand_stops u w call bound sides zap out es (expression_at u a) first y fs [] n 0 (first_after b call (type_of tree) (line_of tree) (form_by u x)) hf tt below (omega (arith, above)) (λ le more hm. absurd (omega (arith, le, above))));
  }

  -- a node with two operands
  pub yields_with_both : (a d : NodeId) (first second v : Worth) → first_operand_of x ≡ Some a → second_operand_of x ≡ Some d → Yields u w (expression_at u a) first → Yields u w (expression_at u d) second
      → GivesWithBoth u w (type_of tree) x first second v → Yields u w tree v
  yields_with_both a d first second v has also y z h = record {
    turns = with_turn takes_one (y.turns + z.turns);
    are = turns_are (sum_of_turns (turns_at u (first_operand_of x)) (turns_at u (second_operand_of x))) (y.turns + z.turns) h.turns
        (ap (λ o. sum_of_turns o (turns_at u (second_operand_of x))) (ap (turns_at u) has ∙ y.are) ∙ ap (sum_of_turns (Some y.turns)) (ap (turns_at u) also ∙ z.are));
    accesses = y.accesses ++ z.accesses;
    only = reads_both y.accesses z.accesses y.only z.only;
    gives = λ call bound sides zap fs out es m hf room.
        let c = takes_one in
        let b = setting_by u bound sides zap in
        let all = y.accesses ++ z.accesses in
        let left = turn_room c m (y.turns + z.turns) bound room in
        let last : with_turn c m + y.turns + z.turns ≡ with_turn c m + (y.turns + z.turns) = omega arith in
        in_order u w call bound sides zap out es _ all v c m (y.turns + z.turns)
        (subst (λ k. OnlyReads (ev b call tree fs (state_with w out es m)) all v (state_with w out es k)) last
        (only_from _ _ all v _
        (node_begun u w call bound sides zap out es tree (form_by u x) fs m (y.turns + z.turns) form room
        ∙ begins b call (type_of tree) (line_of tree) u.lists (nodes u) fs (state_with w out es (with_turn c m)) x a has)
        (operand_only u w call bound sides zap out es (expression_at u a) first v y fs [] all (with_turn c m) (first_after b call (type_of tree) (line_of tree) (form_by u x)) _ hf tt (omega (arith, left))
        (λ hm. only_from _ _ all v _
        (goes-on b call (type_of tree) (line_of tree) u.lists (nodes u) fs (state_with w out es (with_turn c m + y.turns)) (has_read fs y.accesses) first x d also)
        (operand_only u w call bound sides zap out es (expression_at u d) second v z fs y.accesses all (with_turn c m + y.turns) (second_after b call (type_of tree) (line_of tree) (form_by u x) first) _ hf hm (omega (arith, left))
        (λ hr. h.gives call bound sides zap (line_of tree) fs all out es (with_turn c m + y.turns + z.turns) hf (reads_both y.accesses z.accesses hm hr)))))));
    stops = λ call bound sides zap fs out es m hf low high.
        let b = setting_by u bound sides zap in
        let n = with_turn takes_one m in
        node_stops u w call bound sides zap out es tree (form_by u x) fs m (y.turns + z.turns) form low high (λ below above.
        begins b call (type_of tree) (line_of tree) u.lists (nodes u) fs (state_with w out es n) x a has
        ∙ operand_stops u w call bound sides zap out es (expression_at u a) first y fs [] n z.turns (first_after b call (type_of tree) (line_of tree) (form_by u x)) hf tt below above (λ le more hm.
        goes-on b call (type_of tree) (line_of tree) u.lists (nodes u) fs (state_with w out es (n + y.turns)) (has_read fs more) first x d also
        ∙ operand_stops u w call bound sides zap out es (expression_at u d) second z fs more (n + y.turns) 0 (second_after b call (type_of tree) (line_of tree) (form_by u x) first) hf hm le (omega (arith, above))
        (λ more' rest hr. absurd (omega (arith, more', above)))));
  }

  -- the same with what is noted
  pub noted_with : {noting : Bool} {js ks : List Access} (a : NodeId) (first v : Worth) → first_operand_of x ≡ Some a → YieldsNoting u w (expression_at u a) first noting js ks → GivesWith u w (type_of tree) x first v → YieldsNoting u w tree v noting js ks
  unfolding yields_with
  noted_with {noting} {js} {ks} a first v has y h = record { yields = yields_with a first v has y.yields h; noted = y.noted }

  pub noted_both : {noting : Bool} {js ks ls : List Access} (a d : NodeId) (first second v : Worth) → first_operand_of x ≡ Some a → second_operand_of x ≡ Some d → YieldsNoting u w (expression_at u a) first noting js ks
      → YieldsNoting u w (expression_at u d) second noting ks ls → GivesWithBoth u w (type_of tree) x first second v → YieldsNoting u w tree v noting js ls
  unfolding yields_with_both
  noted_both {noting} {js} {ks} {ls} a d first second v has also y z h = record {
    yields = yields_with_both a d first second v has also y.yields z.yields h;
    noted = λ on. z.noted on ∙ ap (λ (qs : List Access). qs ++ z.yields.accesses) (y.noted on) ∙ append_assoc js y.yields.accesses z.yields.accesses;
  }

  -- the same of what may have been found
  pub alone_some : (noting : Bool) (js : List Access) (r : Option Found) → IfSome r (λ v. GivesAlone u w x (found_worth v)) → IfSome r (λ v. YieldsNoting u w tree (found_worth v) noting js js)
  unfolding yields_alone
  alone_some noting js None h = tt
  alone_some noting js (Some v) h = record { yields = yields_alone (found_worth v) h; noted = λ on. sym (append-nil js) }

  pub with_some : {noting : Bool} {js ks : List Access} (a : NodeId) (first : Found) (r : Option Found) → first_operand_of x ≡ Some a → YieldsNoting u w (expression_at u a) (found_worth first) noting js ks
      → IfSome r (λ v. GivesWith u w (type_of tree) x (found_worth first) (found_worth v)) → IfSome r (λ v. YieldsNoting u w tree (found_worth v) noting js ks)
  with_some {noting} {js} {ks} a first None has y h = tt
  with_some {noting} {js} {ks} a first (Some v) has y h = noted_with a (found_worth first) (found_worth v) has y h

  pub reading_some : {noting : Bool} {js ks : List Access} (ls : List Access) (a : NodeId) (first : Found) (r : Option Found) → first_operand_of x ≡ Some a → YieldsNoting u w (expression_at u a) (found_worth first) noting js ks
      → IfSome r (λ v. GivesNoting u w (type_of tree) x (found_worth first) (found_worth v) noting ks ls) → IfSome r (λ v. YieldsNoting u w tree (found_worth v) noting js ls)
  unfolding yields_reading
  reading_some {noting} {js} {ks} ls a first None has y h = tt
  reading_some {noting} {js} {ks} ls a first (Some v) has y h = record {
    yields = yields_reading a (found_worth first) (found_worth v) has y.yields h.gives;
    noted = λ on. h.noted on ∙ ap (λ (qs : List Access). qs ++ h.gives.own ∷ []) (y.noted on) ∙ append_assoc js y.yields.accesses (h.gives.own ∷ []);
  }

  pub both_some : {noting : Bool} {js ks ls : List Access} (a d : NodeId) (first second : Found) (r : Option Found) → first_operand_of x ≡ Some a → second_operand_of x ≡ Some d → YieldsNoting u w (expression_at u a) (found_worth first) noting js ks
      → YieldsNoting u w (expression_at u d) (found_worth second) noting ks ls → IfSome r (λ v. GivesWithBoth u w (type_of tree) x (found_worth first) (found_worth second) (found_worth v)) → IfSome r (λ v. YieldsNoting u w tree (found_worth v) noting js ls)
  both_some {noting} {js} {ks} {ls} a d first second None has also y z h = tt
  both_some {noting} {js} {ks} {ls} a d first second (Some v) has also y z h = noted_both a d (found_worth first) (found_worth second) (found_worth v) has also y z h
