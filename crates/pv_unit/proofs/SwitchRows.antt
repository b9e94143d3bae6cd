-- The items of a switch's block, one after the other.
use Rattle.std.proofs.Common.{◌≡◌, ℕ, ◌+◌, ◌<◌, ◌≤◌, Bool, true, false, List, [], ◌∷◌, ◌++◌, Option, Some, None, length, take, drop, get_or, refl, sym, ◌∙◌, ap, arith, length-append}
use Rattle.std.proofs.lemmas.List.{length-map, take_all}
use Rattle.pv_num.specs.declared.kinds.IntKind.{IntKind}
use Rattle.pv_tree.specs.declared.nodes.NodeId.{NodeId}
use Rattle.pv_tree.specs.Syntax.{StatementTree, Block, ExpressionStatement, If, IfElse, While, DoWhile, For, ForDeclaration, Switch, SwitchBlock, Labelled, Case, Default, Break, Continue, Return, Tree, OfStatement}
use Rattle.pv_tree.specs.Tables.{Forest, tree_at, trees_of, as_statement, as_declaration, is_item, is_declaration}
use Rattle.pv_typed.specs.TypedStatement.{TypedStatement}
use Rattle.pv_typed.specs.Tables.{Stored}
use Rattle.pv_typed.specs.NodeTrees.{statement_at}
use Rattle.pv_check.specs.Raw.{Raw}
use Rattle.pv_check.specs.Open.{state_of, IsOpen, Goes}
use Rattle.pv_check.specs.State.{State, After}
use Rattle.pv_typed.specs.Constants.{and_then}
use Rattle.pv_check.proofs.ListRows.{one_more, none_at}
use Rattle.pv_unit.specs.declared.labels.Label.{Label}
use Rattle.pv_unit.specs.declared.labels.Labels.{Labels}
use Rattle.pv_unit.specs.declared.plain.Place.{Place}
use Rattle.pv_unit.specs.Blocks.{Reached, block_declaration}
use Rattle.pv_unit.specs.Statements.{Around, leaving, reached_declarations, block_of, typed_labels, under}
use Rattle.pv_unit.specs.StatementParts.{in_switch}
use Rattle.pv_unit.specs.Statements as statements
use Rattle.pv_unit.specs.TypedStatements.{Body, typed_statement, switch_items, switch_item}
use Rattle.pv_unit.specs.Made.{with_reached, body_reached, body_with, body_made}
use Rattle.pv_unit.specs.Scoped.{Marked, marked_statement, unmarked_statement, under_labels, labelled_statement, with_marked, switch_body}
use Rattle.pv_unit.specs.Stated.{around_in, statement_after, statements_in, items_if, AreStatements, Moves}
use Rattle.pv_tree.specs.Places.{is_switch_block}
use Rattle.pv_unit.specs.Switching.{labels_of, labels_if, behind_labels, HasKeys, body_in, body_if, marked_if, is_labelled}
use Rattle.pv_unit.proofs.ItemRows.{item_declaration, item_statement}
use Rattle.pv_unit.proofs.LabelRows.{found, unmapped}
use Rattle.pv_unit.proofs.Moving.{moves_same, moves_on, around_same, statements_same, statements_append, step_on, step_none, made_is}

-- ---- a statement with labels, or without

plain_same : (x : Body) (o : Option (After TypedStatement)) → and_then o (body_with x x.labels []) ≡ and_then (and_then o (unmarked_statement x.labels)) (with_marked x)
plain_same x None = refl
plain_same x (Some y) = refl

labels_same : (w : Around) (b : StatementTree) (x : Body) (o : Option (After (List statements.Label)))
    → and_then o (λ l. and_then (typed_statement w b l.state) (body_with x (x.labels ++ l.value) l.value)) ≡ and_then (and_then o (under_labels w b x.labels)) (with_marked x)
labels_same w b x None = refl
labels_same w b x (Some l) = under_same (typed_statement w b l.state)
  where
    under_same : (o : Option (After TypedStatement)) → and_then o (body_with x (x.labels ++ l.value) l.value) ≡ and_then (and_then o (marked_statement x.labels l.value)) (with_marked x)
    under_same None = refl
    under_same (Some y) = refl

pub statement_is : (w : Around) (k : IntKind) (b : StatementTree) (x : After Body) → and_then (labelled_statement w k b x.value.labels x.state) (with_marked x.value) ≡ switch_item w k (OfStatement b) x
statement_is w k (Labelled line ls b) x = sym (labels_same w b x.value (typed_labels k x.value.labels ls x.state))
statement_is w k (Block line items) x = sym (plain_same x.value (typed_statement w (Block line items) x.state))
statement_is w k (ExpressionStatement line a) x = sym (plain_same x.value (typed_statement w (ExpressionStatement line a) x.state))
statement_is w k (If line a b) x = sym (plain_same x.value (typed_statement w (If line a b) x.state))
statement_is w k (IfElse line a b d) x = sym (plain_same x.value (typed_statement w (IfElse line a b d) x.state))
statement_is w k (While line a b) x = sym (plain_same x.value (typed_statement w (While line a b) x.state))
statement_is w k (DoWhile line b a) x = sym (plain_same x.value (typed_statement w (DoWhile line b a) x.state))
statement_is w k (For line f a t b) x = sym (plain_same x.value (typed_statement w (For line f a t b) x.state))
statement_is w k (ForDeclaration line d a t b) x = sym (plain_same x.value (typed_statement w (ForDeclaration line d a t b) x.state))
statement_is w k (Switch line a b) x = sym (plain_same x.value (typed_statement w (Switch line a b) x.state))
statement_is w k (SwitchBlock line items) x = sym (plain_same x.value (typed_statement w (SwitchBlock line items) x.state))
statement_is w k (Case line a) x = sym (plain_same x.value (typed_statement w (Case line a) x.state))
statement_is w k (Default line) x = sym (plain_same x.value (typed_statement w (Default line) x.state))
statement_is w k (Break line) x = sym (plain_same x.value (typed_statement w (Break line) x.state))
statement_is w k (Continue line) x = sym (plain_same x.value (typed_statement w (Continue line) x.state))
statement_is w k (Return line a) x = sym (plain_same x.value (typed_statement w (Return line a) x.state))

-- a statement that has no labels
pub unlabelled : (w : Around) (k : IntKind) (b : StatementTree) (seen : List statements.Label) (s : State) → is_labelled b ≡ false → and_then (typed_statement w b s) (unmarked_statement seen) ≡ labelled_statement w k b seen s
unlabelled w k (Labelled line ls b) seen s e = cc
unlabelled w k (Block line items) seen s e = refl
unlabelled w k (ExpressionStatement line a) seen s e = refl
unlabelled w k (If line a b) seen s e = refl
unlabelled w k (IfElse line a b d) seen s e = refl
unlabelled w k (While line a b) seen s e = refl
unlabelled w k (DoWhile line b a) seen s e = refl
unlabelled w k (For line f a t b) seen s e = refl
unlabelled w k (ForDeclaration line d a t b) seen s e = refl
unlabelled w k (Switch line a b) seen s e = refl
unlabelled w k (SwitchBlock line items) seen s e = refl
unlabelled w k (Case line a) seen s e = refl
unlabelled w k (Default line) seen s e = refl
unlabelled w k (Break line) seen s e = refl
unlabelled w k (Continue line) seen s e = refl
unlabelled w k (Return line a) seen s e = refl

abbrev stated_or : List (List ℕ) → Raw → Stored → Option NodeId → Option (After TypedStatement)
stated_or texts s m None = None
stated_or texts s m (Some n) = Some (statement_after texts s m n)

pub unmarked_is : (texts : List (List ℕ)) (s : Raw) (m : Stored) (ls : List Label) (r : Option NodeId) (o : Option (After TypedStatement)) → stated_or texts s m r ≡ o → marked_if texts s m ls r ≡ and_then o (unmarked_statement (labels_of ls))
unmarked_is texts s m ls None o e = step_none o (unmarked_statement (labels_of ls)) e
unmarked_is texts s m ls (Some n) o e = step_on o (statement_after texts s m n) (unmarked_statement (labels_of ls)) _ e refl

-- ---- labels, and the statement under them

pub labels_refused : (w : Around) (b : StatementTree) (seen : List statements.Label) (o : Option (After (List statements.Label))) → None ≡ behind_labels seen o → None ≡ and_then o (under_labels w b seen)
labels_refused w b seen o e = step_none o (under_labels w b seen) (sym (unmapped seen o e))

pub labels_more : (texts : List (List ℕ)) (s : Raw) (m : Stored) (before all : List Label) (o : Option (After (List statements.Label))) → labels_if texts s m all true ≡ behind_labels (labels_of before) o
    → length before ≤ length all
labels_more texts s m before all o e =
    let h = found (labels_of before) (labels_of all) (state_of texts false s m) o e in
    let sum : length (labels_of before ++ h.0) ≡ length (labels_of all) = ap length h.1.1 in
    let l1 : length (labels_of before) ≡ length before = length-map before _ in
    let l2 : length (labels_of all) ≡ length all = length-map all _ in
    omega (arith, sum, l1, l2, length-append (labels_of before) h.0)

-- the own ones are those behind the ones before
own_is : (before all : List Label) (own : List statements.Label) → labels_of before ++ own ≡ labels_of all → labels_of (drop (length before) all) ≡ own
own_is [] all own e = sym e
own_is (b ∷ bs) [] own e = cc
own_is (b ∷ bs) (a ∷ al) own e = own_is bs al own (ap rest_of e)
  where
    rest_of : List statements.Label → List statements.Label
    rest_of [] = []
    rest_of (x ∷ xs) = xs

pub under_done : (texts : List (List ℕ)) (w : Place) (b : StatementTree) (m0 m1 m2 m3 : Stored) (s0 s1 s2 : Raw) (before all : List Label) (o : Option (After (List statements.Label))) (made marked_node : NodeId)
    → w.result.0 < length m0.known.terms → Goes m0 m1
    → labels_if texts s1 m1 all true ≡ behind_labels (labels_of before) o
    → Some (statement_after texts s2 m2 made) ≡ typed_statement (around_in m1.known w) b (state_of texts false s1 m1)
    → statement_at m3 marked_node ≡ under (labels_of (drop (length before) all)) (statement_at m2 made) → state_of texts false s2 m3 ≡ state_of texts false s2 m2
    → marked_if texts s2 m3 all (Some marked_node) ≡ and_then o (under_labels (around_in m0.known w) b (labels_of before))
under_done texts w b m0 m1 m2 m3 s0 s1 s2 before all o made marked_node known g first second tree same =
    let z = state_of texts false s1 m1 in
    let h = found (labels_of before) (labels_of all) z o first in
    let own : After (List statements.Label) = record { value = h.0; state = z } in
    let is : statement_at m3 marked_node ≡ under h.0 (statement_at m2 made) = tree ∙ ap (λ ls. under ls (statement_at m2 made)) (own_is before all h.0 h.1.1) in
    step_on o own (under_labels (around_in m0.known w) b (labels_of before)) _ (sym h.1.0)
    (step_on (typed_statement (around_in m0.known w) b z) (statement_after texts s2 m2 made) (marked_statement (labels_of before) h.0) _ (second ∙ ap (λ x. typed_statement x b z) (around_same m0 m1 w g known))
    (ap (λ (ls : List statements.Label). Some (record { value = record { labels = ls; statement = statement_at m3 marked_node }; state = state_of texts false s2 m3 })) (sym h.1.1)
    ∙ ap (λ (x : TypedStatement). Some (record { value = record { labels = labels_of before ++ h.0; statement = x }; state = state_of texts false s2 m3 })) is
    ∙ ap (λ (y : State). Some (record { value = record { labels = labels_of before ++ h.0; statement = under h.0 (statement_at m2 made) }; state = y })) same))

pub under_none : (texts : List (List ℕ)) (w : Place) (b : StatementTree) (m0 m1 : Stored) (s1 : Raw) (before all : List Label) (o : Option (After (List statements.Label)))
    → w.result.0 < length m0.known.terms → Goes m0 m1
    → labels_if texts s1 m1 all true ≡ behind_labels (labels_of before) o → None ≡ typed_statement (around_in m1.known w) b (state_of texts false s1 m1)
    → None ≡ and_then o (under_labels (around_in m0.known w) b (labels_of before))
under_none texts w b m0 m1 s1 before all o known g first held =
    let z = state_of texts false s1 m1 in
    let h = found (labels_of before) (labels_of all) z o first in
    step_on o (record { value = h.0; state = z }) (under_labels (around_in m0.known w) b (labels_of before)) None (sym h.1.0)
    (step_none (typed_statement (around_in m0.known w) b z) (marked_statement (labels_of before) h.0) (held ∙ ap (λ x. typed_statement x b z) (around_same m0 m1 w g known)))

-- ---- one item

abbrev as_body : List statements.Label → Option (After (List TypedStatement)) → Option (After Body)
as_body ls None = None
as_body ls (Some x) = Some (record { value = record { items = x.value; labels = ls }; state = x.state })

as_body_if : (texts : List (List ℕ)) (s : Raw) (m : Stored) (ns : List NodeId) (ls : List Label) (b : Bool) → body_if texts s m ns ls b ≡ as_body (labels_of ls) (items_if texts s m ns b)
as_body_if texts s m ns ls true = refl
as_body_if texts s m ns ls false = refl

as_body_reached : (ls : List statements.Label) (xs : List TypedStatement) (o : Option (After (List Reached))) → as_body ls (and_then o (with_reached xs)) ≡ and_then o (body_reached (record { items = xs; labels = ls }))
as_body_reached ls xs None = refl
as_body_reached ls xs (Some y) = refl

pub body_declared : (texts : List (List ℕ)) (w : Around) (k : IntKind) (t : Tree) (s z : Raw) (a b : Stored) (items more : List NodeId) (ls : List Label) (r : Bool) → is_declaration t ≡ true
    → items_if texts z b more r ≡ and_then (block_declaration (as_declaration t) (state_of texts false s a)) (with_reached (statements_in a items))
    → body_if texts z b more ls r ≡ switch_item w k t (body_in texts s a items ls)
body_declared texts w k t s z a b items more ls r kind h =
    as_body_if texts z b more ls r ∙ ap (as_body (labels_of ls)) h ∙ as_body_reached (labels_of ls) (statements_in a items) (block_declaration (as_declaration t) (state_of texts false s a))
    ∙ sym (ap (λ x. switch_item w k x (body_in texts s a items ls)) (item_declaration t kind))

pub body_none : (texts : List (List ℕ)) (w : Around) (k : IntKind) (t : Tree) (s : Raw) (a : Stored) (items : List NodeId) (ls : List Label) → is_item t ≡ true → is_declaration t ≡ false
    → None ≡ labelled_statement w k (as_statement t) (labels_of ls) (state_of texts false s a) → None ≡ switch_item w k t (body_in texts s a items ls)
body_none texts w k t s a items ls kind other e =
    let x = body_in texts s a items ls in
    step_none (labelled_statement w k (as_statement t) (labels_of ls) (state_of texts false s a)) (with_marked x.value) e ∙ statement_is w k (as_statement t) x
    ∙ sym (ap (λ y. switch_item w k y x) (item_statement t kind other))

abbrev marked_in : List (List ℕ) → Raw → Stored → List Label → NodeId → After Marked
marked_in texts s m ls n = record { value = record { labels = labels_of ls; statement = statement_at m n }; state = state_of texts false s m }

pub body_pushed : (texts : List (List ℕ)) (w : Around) (k : IntKind) (t : Tree) (s z : Raw) (a b : Stored) (items more : List NodeId) (ls all : List Label) (n : NodeId) → is_item t ≡ true → is_declaration t ≡ false
    → Goes a b → AreStatements a items → marked_if texts z b all (Some n) ≡ labelled_statement w k (as_statement t) (labels_of ls) (state_of texts false s a) → more ≡ items ++ (n ∷ [])
    → body_if texts z b more all true ≡ switch_item w k t (body_in texts s a items ls)
body_pushed texts w k t s z a b items more ls all n kind other g are e new =
    let x = body_in texts s a items ls in
    step_on (labelled_statement w k (as_statement t) (labels_of ls) (state_of texts false s a)) (marked_in texts z b all n) (with_marked x.value) _ e
    (ap (λ (xs : List TypedStatement). Some (record { value = record { items = xs; labels = labels_of all }; state = state_of texts false z b }))
    (ap (statements_in b) new ∙ statements_append b items n ∙ ap (λ ys. ys ++ (statement_at b n ∷ [])) (statements_same a b items g are)))
    ∙ statement_is w k (as_statement t) x ∙ sym (ap (λ y. switch_item w k y x) (item_statement t kind other))

-- ---- some items are typed

pub record Along (texts : List (List ℕ)) (w : Place) (k : IntKind) (f : Forest) (ns : List NodeId) (s0 : Raw) (m0 : Stored) (i : ℕ) (s : Raw) (m : Stored) (items : List NodeId) (ls : Labels) : Type 0 where
  pub typed : Some (body_in texts s m items ls.all.items) ≡ switch_items (around_in m0.known w) k (trees_of f (take i ns)) (state_of texts false s0 m0)
  pub are : AreStatements m items
  pub keys : HasKeys ls
  pub moves : Moves m0 s0 m s

pub along_start : (texts : List (List ℕ)) (w : Place) (k : IntKind) (f : Forest) (ns : List NodeId) (s : Raw) (m : Stored) (items : List NodeId) (ls : Labels) → IsOpen m s → items ≡ [] → ls.all.items ≡ [] → HasKeys ls
    → Along texts w k f ns s m 0 s m items ls
along_start texts w k f ns s m items ls opened e none keys = record {
  typed = ap (λ xs. Some (body_in texts s m xs ls.all.items)) e ∙ ap (λ xs. Some (body_in texts s m [] xs)) none;
  are = rw e tt;
  keys = keys;
  moves = moves_same m s opened;
}

pub along_next : (texts : List (List ℕ)) (w : Place) (k : IntKind) (f : Forest) (ns : List NodeId) (s0 s t : Raw) (m0 m e : Stored) (i : ℕ) (items more : List NodeId) (ls all : Labels) (d : NodeId)
    → Along texts w k f ns s0 m0 i s m items ls → i < length ns → w.result.0 < length m0.known.terms
    → Some (body_in texts t e more all.all.items) ≡ switch_item (around_in m.known w) k (tree_at f (get_or ns i d)) (body_in texts s m items ls.all.items) → AreStatements e more → HasKeys all → Moves m s e t
    → Along texts w k f ns s0 m0 (i + 1) t e more all
along_next texts w k f ns s0 s t m0 m e i items more ls all d a lt known typed are keys moves = record {
  typed = typed ∙ ap (λ x. switch_item x k (tree_at f (get_or ns i d)) (body_in texts s m items ls.all.items)) (around_same m0 m w a.moves.goes known)
      ∙ one_more (switch_items (around_in m0.known w) k) (switch_item (around_in m0.known w) k) (λ before x z. refl) f ns i d (state_of texts false s0 m0) (body_in texts s m items ls.all.items) lt a.typed;
  are = are;
  keys = keys;
  moves = moves_on m0 m e s0 s t a.moves moves;
}

pub along_stop : (texts : List (List ℕ)) (w : Place) (k : IntKind) (f : Forest) (ns : List NodeId) (s0 s : Raw) (m0 m : Stored) (i : ℕ) (items : List NodeId) (ls : Labels) (d : NodeId)
    → Along texts w k f ns s0 m0 i s m items ls → i < length ns → w.result.0 < length m0.known.terms
    → None ≡ switch_item (around_in m.known w) k (tree_at f (get_or ns i d)) (body_in texts s m items ls.all.items)
    → None ≡ switch_items (around_in m0.known w) k (trees_of f ns) (state_of texts false s0 m0)
along_stop texts w k f ns s0 s m0 m i items ls d a lt known none =
    none_at (switch_items (around_in m0.known w) k) (switch_item (around_in m0.known w) k) (λ before x z. refl) f ns i d (state_of texts false s0 m0) (body_in texts s m items ls.all.items) lt a.typed
    (none ∙ ap (λ x. switch_item x k (tree_at f (get_or ns i d)) (body_in texts s m items ls.all.items)) (around_same m0 m w a.moves.goes known))

pub along_done : (texts : List (List ℕ)) (w : Place) (k : IntKind) (f : Forest) (ns : List NodeId) (s0 s : Raw) (m0 m : Stored) (i : ℕ) (items : List NodeId) (ls : Labels)
    → Along texts w k f ns s0 m0 i s m items ls → length ns ≤ i → Some (body_in texts s m items ls.all.items) ≡ switch_items (around_in m0.known w) k (trees_of f ns) (state_of texts false s0 m0)
along_done texts w k f ns s0 s m0 m i items ls a end = a.typed ∙ ap (λ xs. switch_items (around_in m0.known w) k (trees_of f xs) (state_of texts false s0 m0)) (take_all i ns end)

-- ---- the block

pub no_block : (w : Around) (k : IntKind) (b : StatementTree) (s : State) → is_switch_block b ≡ false → None ≡ switch_body w k b s
no_block w k (SwitchBlock line items) s e = cc
no_block w k (Labelled line ls b) s e = refl
no_block w k (Block line items) s e = refl
no_block w k (ExpressionStatement line a) s e = refl
no_block w k (If line a b) s e = refl
no_block w k (IfElse line a b d) s e = refl
no_block w k (While line a b) s e = refl
no_block w k (DoWhile line b a) s e = refl
no_block w k (For line f a t b) s e = refl
no_block w k (ForDeclaration line d a t b) s e = refl
no_block w k (Switch line a b) s e = refl
no_block w k (Case line a) s e = refl
no_block w k (Default line) s e = refl
no_block w k (Break line) s e = refl
no_block w k (Continue line) s e = refl
no_block w k (Return line a) s e = refl

pub body_done : (texts : List (List ℕ)) (line : ℕ) (items : Option (After Body)) (m2 m3 : Stored) (s2 : Raw) (ns : List NodeId) (ls : List Label) (made : NodeId)
    → Some (body_in texts s2 m2 ns ls) ≡ items → statement_at m3 made ≡ block_of line (statements_in m2 ns) → state_of texts false s2 m3 ≡ state_of texts false s2 m2
    → Some (statement_after texts s2 m3 made) ≡ and_then items (body_made line)
body_done texts line items m2 m3 s2 ns ls made first tree same =
    step_on items (body_in texts s2 m2 ns ls) (body_made line) _ first (made_is texts s2 m2 m3 made (block_of line (statements_in m2 ns)) tree same)
