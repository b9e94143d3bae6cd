-- Items of blocks: what the code's answers come to.
use Rattle.std.proofs.Common.{◌≡◌, ℕ, ◌+◌, ◌<◌, ◌≤◌, true, false, List, [], ◌∷◌, ◌++◌, map, Option, Some, None, length, take, get_or, refl, sym, ◌∙◌, ap}
use Rattle.std.proofs.lemmas.List.{take_all}
use Rattle.pv_tree.specs.declared.nodes.NodeId.{NodeId}
use Rattle.pv_tree.specs.Syntax.{DeclarationTree, Tree, OfExpression, OfDeclaration, OfDeclarator, OfSpecifier, OfInitializer, OfStatement}
use Rattle.pv_tree.specs.Tables.{Forest, tree_at, trees_of, as_statement, as_declaration, is_item, is_declaration}
use Rattle.pv_typed.specs.TypedStatement.{TypedStatement}
use Rattle.pv_typed.specs.Tables.{Stored}
use Rattle.pv_typed.specs.NodeTrees.{statement_at, IsStatement}
use Rattle.pv_check.specs.Raw.{Raw, scopes_shown}
use Rattle.pv_check.specs.Open.{state_of, IsOpen, Goes}
use Rattle.pv_check.specs.State.{State, After}
use Rattle.pv_typed.specs.Constants.{and_then}
use Rattle.pv_check.proofs.ListRows.{one_more, none_at}
use Rattle.pv_unit.specs.declared.blocks.Reached.{Reached}
use Rattle.pv_unit.specs.declared.plain.Place.{Place}
use Rattle.pv_unit.specs.Blocks.{Reached as WholeReached, block_declaration}
use Rattle.pv_unit.specs.Reaching.{reached_of, reached_in}
use Rattle.pv_unit.specs.Statements.{Around, reached_declarations}
use Rattle.pv_unit.specs.TypedStatements.{typed_statement, typed_items, typed_item}
use Rattle.pv_unit.specs.Made.{with_reached, with_statement}
use Rattle.pv_unit.specs.Stated.{around_in, statement_after, statements_in, items_in, AreStatements, Moves}
use Rattle.pv_unit.proofs.Depths.{declaration_leaves}
use Rattle.pv_unit.proofs.Moving.{moves_same, moves_on, around_same, are_append, statements_stay, statements_same, statements_append, step_on, step_none}
use Rattle.pv_unit.proofs.Values.{deep_shown}

-- ---- a declaration and what it reaches

pub declared_none : (o : Option (After (List WholeReached))) (xs : List TypedStatement) → None ≡ o → None ≡ and_then o (with_reached xs)
declared_none o xs e = step_none o (with_reached xs) e

pub declared_moves : (texts : List (List ℕ)) (d : DeclarationTree) (a b : Stored) (s t : Raw) (all : List Reached) → IsOpen b t → Goes a b
    → Some (reached_in texts t b all) ≡ block_declaration d (state_of texts false s a) → Moves a s b t
declared_moves texts d a b s t all opened goes is = record {
  opened = opened;
  goes = goes;
  deep = deep_shown texts a b s t (map reached_of all) (block_declaration d (state_of texts false s a)) (declaration_leaves d (length (scopes_shown a.known s.scopes)) (state_of texts false s a) refl) is;
}

pub declared_done : (texts : List (List ℕ)) (o : Option (After (List WholeReached))) (a b e : Stored) (t : Raw) (items more : List NodeId) (all : List Reached)
    → Goes a b → AreStatements a items → Some (reached_in texts t b all) ≡ o → statements_in e more ≡ statements_in b items ++ reached_declarations (map reached_of all) → state_of texts false t e ≡ state_of texts false t b
    → Some (items_in texts t e more) ≡ and_then o (with_reached (statements_in a items))
declared_done texts o a b e t items more all g are is new same =
    step_on o (reached_in texts t b all) (with_reached (statements_in a items)) _ is
    (ap (λ (xs : List TypedStatement). Some (record { value = xs; state = state_of texts false t e })) (new ∙ ap (λ ys. ys ++ reached_declarations (map reached_of all)) (statements_same a b items g are))
    ∙ ap (λ (z : State). Some (record { value = statements_in a items ++ reached_declarations (map reached_of all); state = z })) same)

-- ---- one item more

pub item_declaration : (t : Tree) → is_declaration t ≡ true → t ≡ OfDeclaration (as_declaration t)
item_declaration (OfDeclaration d) e = refl
item_declaration (OfStatement b) e = cc
item_declaration (OfExpression a) e = cc
item_declaration (OfDeclarator d) e = cc
item_declaration (OfSpecifier d) e = cc
item_declaration (OfInitializer i) e = cc

pub item_statement : (t : Tree) → is_item t ≡ true → is_declaration t ≡ false → t ≡ OfStatement (as_statement t)
item_statement (OfStatement b) e f = refl
item_statement (OfDeclaration d) e f = cc
item_statement (OfExpression a) e f = cc
item_statement (OfDeclarator d) e f = cc
item_statement (OfSpecifier d) e f = cc
item_statement (OfInitializer i) e f = cc

pub item_declared : (w : Around) (t : Tree) (x : After (List TypedStatement)) (r : Option (After (List TypedStatement))) → is_declaration t ≡ true
    → r ≡ and_then (block_declaration (as_declaration t) x.state) (with_reached x.value) → r ≡ typed_item w t x
item_declared w t x r kind h = h ∙ sym (ap (λ y. typed_item w y x) (item_declaration t kind))

pub item_stated : (w : Around) (t : Tree) (x : After (List TypedStatement)) (r : Option (After (List TypedStatement))) → is_item t ≡ true → is_declaration t ≡ false
    → r ≡ and_then (typed_statement w (as_statement t) x.state) (with_statement x.value) → r ≡ typed_item w t x
item_stated w t x r kind other h = h ∙ sym (ap (λ y. typed_item w y x) (item_statement t kind other))

-- a statement behind others
pub item_pushed : (texts : List (List ℕ)) (o : Option (After TypedStatement)) (a b : Stored) (t : Raw) (items more : List NodeId) (n : NodeId) → Goes a b → AreStatements a items
    → Some (statement_after texts t b n) ≡ o → more ≡ items ++ (n ∷ []) → Some (items_in texts t b more) ≡ and_then o (with_statement (statements_in a items))
item_pushed texts o a b t items more n g are is new =
    step_on o (statement_after texts t b n) (with_statement (statements_in a items)) _ is
    (ap (λ (xs : List TypedStatement). Some (record { value = xs; state = state_of texts false t b }))
    (ap (statements_in b) new ∙ statements_append b items n ∙ ap (λ ys. ys ++ (statement_at b n ∷ [])) (statements_same a b items g are)))

pub pushed_there : (a b : Stored) (items more : List NodeId) (n : NodeId) → Goes a b → AreStatements a items → IsStatement b n → more ≡ items ++ (n ∷ []) → AreStatements b more
pushed_there a b items more n g are is new = rw new (are_append b items n (statements_stay a b items g are) is)

-- ---- some items are typed

pub record Along (texts : List (List ℕ)) (w : Place) (f : Forest) (ns : List NodeId) (s0 : Raw) (m0 : Stored) (k : ℕ) (s : Raw) (m : Stored) (items : List NodeId) : Type 0 where
  pub typed : Some (items_in texts s m items) ≡ typed_items (around_in m0.known w) (trees_of f (take k ns)) (state_of texts false s0 m0)
  pub are : AreStatements m items
  pub moves : Moves m0 s0 m s

pub along_start : (texts : List (List ℕ)) (w : Place) (f : Forest) (ns : List NodeId) (s : Raw) (m : Stored) (items : List NodeId) → IsOpen m s → items ≡ [] → Along texts w f ns s m 0 s m items
along_start texts w f ns s m items opened e = record {
  typed = ap (λ xs. Some (items_in texts s m xs)) e;
  are = rw e tt;
  moves = moves_same m s opened;
}

pub along_next : (texts : List (List ℕ)) (w : Place) (f : Forest) (ns : List NodeId) (s0 s t : Raw) (m0 m e : Stored) (k : ℕ) (items more : List NodeId) (d : NodeId)
    → Along texts w f ns s0 m0 k s m items → k < length ns → w.result.0 < length m0.known.terms
    → Some (items_in texts t e more) ≡ typed_item (around_in m.known w) (tree_at f (get_or ns k d)) (items_in texts s m items) → AreStatements e more → Moves m s e t
    → Along texts w f ns s0 m0 (k + 1) t e more
along_next texts w f ns s0 s t m0 m e k items more d a lt known typed are moves = record {
  typed = typed ∙ ap (λ x. typed_item x (tree_at f (get_or ns k d)) (items_in texts s m items)) (around_same m0 m w a.moves.goes known)
      ∙ one_more (typed_items (around_in m0.known w)) (typed_item (around_in m0.known w)) (λ before x z. refl) f ns k d (state_of texts false s0 m0) (items_in texts s m items) lt a.typed;
  are = are;
  moves = moves_on m0 m e s0 s t a.moves moves;
}

pub along_stop : (texts : List (List ℕ)) (w : Place) (f : Forest) (ns : List NodeId) (s0 s : Raw) (m0 m : Stored) (k : ℕ) (items : List NodeId) (d : NodeId)
    → Along texts w f ns s0 m0 k s m items → k < length ns → w.result.0 < length m0.known.terms
    → None ≡ typed_item (around_in m.known w) (tree_at f (get_or ns k d)) (items_in texts s m items)
    → None ≡ typed_items (around_in m0.known w) (trees_of f ns) (state_of texts false s0 m0)
along_stop texts w f ns s0 s m0 m k items d a lt known none =
    none_at (typed_items (around_in m0.known w)) (typed_item (around_in m0.known w)) (λ before x z. refl) f ns k d (state_of texts false s0 m0) (items_in texts s m items) lt a.typed
    (none ∙ ap (λ x. typed_item x (tree_at f (get_or ns k d)) (items_in texts s m items)) (around_same m0 m w a.moves.goes known))

pub along_done : (texts : List (List ℕ)) (w : Place) (f : Forest) (ns : List NodeId) (s0 s : Raw) (m0 m : Stored) (k : ℕ) (items : List NodeId)
    → Along texts w f ns s0 m0 k s m items → length ns ≤ k → Some (items_in texts s m items) ≡ typed_items (around_in m0.known w) (trees_of f ns) (state_of texts false s0 m0)
along_done texts w f ns s0 s m0 m k items a end = a.typed ∙ ap (λ xs. typed_items (around_in m0.known w) (trees_of f xs) (state_of texts false s0 m0)) (take_all k ns end)
