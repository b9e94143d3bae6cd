-- Typing of statements (C17 6.8), by the walk over their trees: each statement that is typed is well typed in every later unit.
use Rattle.std.proofs.Common.{◌≡◌, ◌≢◌, ℕ, Bool, true, false, Option, Some, None, List, [], ◌∷◌, ◌++◌, refl, ◌∙◌}
use Rattle.std.specs.Prelude.{if◌then◌else◌}
use Rattle.pv_num.specs.declared.kinds.IntKind.{IntKind}
use Rattle.pv_tree.specs.Syntax.{DeclarationTree, StatementTree, Block, ExpressionStatement, If, IfElse, While, DoWhile, For, ForDeclaration, Switch, SwitchBlock, Labelled, Case, Default, Break, Continue, Return, InitializerTree, Tree, OfExpression, OfDeclaration, OfDeclarator, OfSpecifier, OfInitializer, OfStatement, Trees, NoTrees, Then}
use Rattle.pv_types.specs.Ty.{Ty}
use Rattle.pv_typed.specs.TypedStatement as typed
use Rattle.pv_typed.specs.TypedStatement.{TypedStatement}
use Rattle.pv_typed.specs.TypedUnits.{WholeUnit, object_at}
use Rattle.pv_check.specs.State.{State, After, give}
use Rattle.pv_check.specs.Scopes.{in_new_scope, behind_scope}
use Rattle.pv_typed.specs.Constants.{and_then}
use Rattle.pv_unit.specs.Blocks.{Reached, block_declaration}
use Rattle.pv_unit.specs.Statements.{Around, in_loop, Label, typed_labels, under, reached_declarations, leaving, block_of}
use Rattle.pv_unit.specs.StatementParts.{in_switch, automatic_alone}
use Rattle.pv_unit.specs.TypedStatements.{Body, if_automatic, typed_statement, typed_items, typed_item, switch_block, switch_items, switch_item}
use Rattle.pv_unit.specs.Made.{block_made, with_reached, declared_item, with_statement, body_reached, body_with}
use Rattle.pv_unit.specs.ValueRules.{typed_initializer}
use Rattle.pv_eval.specs.Objects.{heap_name}
use Rattle.pv_well_typed.proofs.SourceCharacters.{DeclarationCharacters, InitializerCharacters, StatementCharacters, TreeCharacters, TreesCharacters}
use Rattle.pv_well_typed.specs.Later.{IsFinished}
use Rattle.pv_well_typed.specs.Proper.{IsProper}
use Rattle.pv_well_typed.proofs.Operands.{as-made}
use Rattle.pv_well_typed.proofs.Moving.{Moves, Gives, same-moves, then-moves, gives-none, gives-some, gives-here, gives-then, left-moves, left-proper}
use Rattle.pv_well_typed.proofs.Changes.{entered-proper}
use Rattle.pv_well_typed.proofs.Walk.{U}
use Rattle.pv_well_typed.proofs.StatementWalk.{StatementIn, ItemsIn, leaving-gives, inner, if-gives, while-gives, else-gives, block-typed, joined-items, one-item}
use Rattle.pv_well_typed.proofs.BlockRows.{GivenIn, ReachedIn, declaration-gives, reached-items}
use Rattle.pv_well_typed.proofs.LoopRows.{Returns, any-given, expression-gives, jump-gives, returned-gives, do-gives, for-gives, ScopedIn, scoped-left, round-gives}
use Rattle.pv_well_typed.proofs.SwitchRows.{KeepsNames, items_in, BlockIn, labels-give, labelled-statement, switch-block-gives, switch-gives}

module _ (v : WholeUnit) (done : IsFinished v) (apart : (o : ℕ) → (object_at v o).name ≢ heap_name)
    (initial : (lasting : Bool) (t : Ty) (i : InitializerTree) (s : State) → InitializerCharacters i → s.unevaluated ≡ false → Gives ⊥ v [] (IsProper v t) s (GivenIn v lasting t s) (typed_initializer lasting t i s)) where
  -- ---- items of a block

  no-items : (r : Ty) (s : State) → ItemsIn v r s (record { value = []; state = s })
  no-items r s = record { fresh = tt; once = tt; made = λ k. tt; typed = λ k os here i others. (tt, here) }

  -- 6.8.2p1: a declaration
  declaration-items : (r : Ty) (d : DeclarationTree) (s : State) (l : After (List TypedStatement)) → DeclarationCharacters d → l.state.unevaluated ≡ false → Moves ⊥ v [] s l.state → Gives ⊥ v [] (U × ItemsIn v r s l) l.state (ItemsIn v r s) (declared_item d l)
  declaration-items r d s l c ev m =
      gives-then ⊥ v [] (U × ItemsIn v r s l) l.state (ReachedIn v done apart initial l.state) (ItemsIn v r s) (block_declaration d l.state) (with_reached l.value)
      (any-given v (U × ItemsIn v r s l) l.state (ReachedIn v done apart initial l.state) (block_declaration d l.state) (declaration-gives v done apart initial d l.state c ev))
      (λ x n. gives-here ⊥ v [] ((U × ItemsIn v r s l) × ReachedIn v done apart initial l.state x) x.state (ItemsIn v r s) (Some (l.value ++ reached_declarations x.value))
      (λ y e k p g. as-made (λ xs. ItemsIn v r s (record { value = xs; state = x.state })) (l.value ++ reached_declarations x.value) y
      (joined-items v done r s l (record { value = reached_declarations x.value; state = x.state }) m n p.0.1 (reached-items v done apart initial r l.state x p.1)) e))

  -- 6.8.2p1: a statement
  statement-items : (r : Ty) (s : State) (l : After (List TypedStatement)) (o : Option (After TypedStatement)) → Moves ⊥ v [] s l.state → Gives ⊥ v [] U l.state (StatementIn v r l.state) o
      → Gives ⊥ v [] (U × ItemsIn v r s l) l.state (ItemsIn v r s) (and_then o (with_statement l.value))
  statement-items r s l o m h =
      gives-then ⊥ v [] (U × ItemsIn v r s l) l.state (StatementIn v r l.state) (ItemsIn v r s) o (with_statement l.value) (any-given v (U × ItemsIn v r s l) l.state (StatementIn v r l.state) o h)
      (λ x n. gives-here ⊥ v [] ((U × ItemsIn v r s l) × StatementIn v r l.state x) x.state (ItemsIn v r s) (Some (l.value ++ (x.value ∷ [])))
      (λ y e k p g. as-made (λ xs. ItemsIn v r s (record { value = xs; state = x.state })) (l.value ++ (x.value ∷ [])) y
      (joined-items v done r s l (record { value = x.value ∷ []; state = x.state }) m n p.0.1 (one-item v done r l.state x p.1)) e))

  -- 6.8.5.3: the declaration of a `for`
  first-items : (r : Ty) (d : DeclarationTree) (s : State) → DeclarationCharacters d → s.unevaluated ≡ false → Gives ⊥ v [] U s (ItemsIn v r s) (and_then (block_declaration d s) if_automatic)
  first-items r d s c ev =
      gives-then ⊥ v [] U s (ReachedIn v done apart initial s) (ItemsIn v r s) (block_declaration d s) if_automatic (declaration-gives v done apart initial d s c ev) (λ x m. by x (automatic_alone x.state))
    where
      by : (x : After (List Reached)) (b : Bool) → Gives ⊥ v [] (U × ReachedIn v done apart initial s x) x.state (ItemsIn v r s) (if b then give (Some (reached_declarations x.value)) x.state else None)
      by x false = gives-none ⊥ v [] (U × ReachedIn v done apart initial s x) x.state (ItemsIn v r s)
      by x true =
          gives-here ⊥ v [] (U × ReachedIn v done apart initial s x) x.state (ItemsIn v r s) (Some (reached_declarations x.value))
          (λ y e k p g. as-made (λ xs. ItemsIn v r s (record { value = xs; state = x.state })) (reached_declarations x.value) y (reached-items v done apart initial r s x p.1) e)

  -- 6.8.2: a block
  block-gives : (r : Ty) (line : ℕ) (s : State) (items : Option (After (List TypedStatement))) → Gives ⊥ v [] U (in_new_scope s) (ItemsIn v r (in_new_scope s)) items
      → Gives ⊥ v [] U s (StatementIn v r s) (leaving (and_then items (block_made line)))
  block-gives r line s None h = gives-none ⊥ v [] U s (StatementIn v r s)
  block-gives r line s (Some x) h =
      let q = h.held x refl in
      gives-some ⊥ v [] U s (StatementIn v r s) (record { value = block_of line x.value; state = behind_scope x.state }) (left-moves ⊥ ⊥ v [] s x.state q.0)
      (λ l p g.
      let z = q.1 (record { unit = l.unit; used = l.used }) p (entered-proper v s g) in
      (left-proper v s x.state g.some q.0.outer z.0, block-typed v done r line s x q.0.outer z.1, z.2))

  -- ---- items of a switch's block

  abbrev BodyIn : Ty → State → After Body → Type 0
  BodyIn r s x = ItemsIn v r s (items_in x)

  -- 6.8.2p1: a declaration
  declaration-body : (r : Ty) (d : DeclarationTree) (s : State) (x : After Body) → DeclarationCharacters d → x.state.unevaluated ≡ false → Moves ⊥ v [] s x.state → Gives ⊥ v [] (U × BodyIn r s x) x.state (BodyIn r s) (and_then (block_declaration d x.state) (body_reached x.value))
  declaration-body r d s x c ev m =
      gives-then ⊥ v [] (U × BodyIn r s x) x.state (ReachedIn v done apart initial x.state) (BodyIn r s) (block_declaration d x.state) (body_reached x.value)
      (any-given v (U × BodyIn r s x) x.state (ReachedIn v done apart initial x.state) (block_declaration d x.state) (declaration-gives v done apart initial d x.state c ev))
      (λ z n. gives-here ⊥ v [] ((U × BodyIn r s x) × ReachedIn v done apart initial x.state z) z.state (BodyIn r s) (Some (record x.value { items = x.value.items ++ reached_declarations z.value }))
      (λ y e k p g. as-made (λ (b : Body). ItemsIn v r s (record { value = b.items; state = z.state })) (record x.value { items = x.value.items ++ reached_declarations z.value }) y
      (joined-items v done r s (items_in x) (record { value = reached_declarations z.value; state = z.state }) m n p.0.1 (reached-items v done apart initial r x.state z p.1)) e))

  -- 6.8.1p1: a statement, perhaps under labels
  statement-body : (P : Type 0) (r : Ty) (all own : List Label) (s t : State) (x : After Body) (o : Option (After TypedStatement)) → (P → BodyIn r s x) → Moves ⊥ v [] s x.state → Moves ⊥ v [] x.state t
      → Gives ⊥ v [] P t (λ b. StatementIn v r x.state (record { value = under own b.value; state = b.state })) o → Gives ⊥ v [] P t (BodyIn r s) (and_then o (body_with x.value all own))
  statement-body P r all own s t x o before m i h =
      gives-then ⊥ v [] P t (λ b. StatementIn v r x.state (record { value = under own b.value; state = b.state })) (BodyIn r s) o (body_with x.value all own) h
      (λ b n. gives-here ⊥ v [] (P × StatementIn v r x.state (record { value = under own b.value; state = b.state })) b.state (BodyIn r s) (Some (record { items = x.value.items ++ (under own b.value ∷ []); labels = all }))
      (λ y e k p g. as-made (λ (z : Body). ItemsIn v r s (record { value = z.items; state = b.state })) (record { items = x.value.items ++ (under own b.value ∷ []); labels = all }) y
      (joined-items v done r s (items_in x) (record { value = under own b.value ∷ []; state = b.state }) m (then-moves ⊥ v [] x.state t b.state i n) (before p.0) (one-item v done r x.state (record { value = under own b.value; state = b.state }) p.1)) e))

  labelled-body : (r : Ty) (k : IntKind) (labels : Trees) → TreesCharacters labels → (body : State → Option (After TypedStatement)) → ((t : State) → t.unevaluated ≡ false → Gives ⊥ v [] U t (StatementIn v r t) (body t)) → (s : State) (x : After Body)
      → x.state.unevaluated ≡ false → Moves ⊥ v [] s x.state → Gives ⊥ v [] (U × BodyIn r s x) x.state (BodyIn r s) (and_then (typed_labels k x.value.labels labels x.state) (λ l. and_then (body l.state) (body_with x.value (x.value.labels ++ l.value) l.value)))
  labelled-body r k labels c body h s x ev m =
      gives-then ⊥ v [] (U × BodyIn r s x) x.state (KeepsNames v x.state) (BodyIn r s) (typed_labels k x.value.labels labels x.state) (λ l. and_then (body l.state) (body_with x.value (x.value.labels ++ l.value) l.value))
      (any-given v (U × BodyIn r s x) x.state (KeepsNames v x.state) (typed_labels k x.value.labels labels x.state) (labels-give v done k x.value.labels labels c x.state))
      (λ l n. statement-body ((U × BodyIn r s x) × KeepsNames v x.state l) r (x.value.labels ++ l.value) l.value s l.state x (body l.state) (λ p. p.0.1) m n (marked l n))
    where
      marked : (l : After (List Label)) → Moves ⊥ v [] x.state l.state → Gives ⊥ v [] ((U × BodyIn r s x) × KeepsNames v x.state l) l.state (λ b. StatementIn v r x.state (record { value = under l.value b.value; state = b.state })) (body l.state)
      marked l n = record { held = λ b e. let z = (h l.state (n.evaluated ∙ ev)).held b e in (z.0, λ later p g. let w = z.1 later tt g in (w.0, labelled-statement v done r x.state l b n p.1 w.1, w.2)) }

  plain-body : (r : Ty) (s : State) (x : After Body) (o : Option (After TypedStatement)) → Moves ⊥ v [] s x.state → Gives ⊥ v [] U x.state (StatementIn v r x.state) o
      → Gives ⊥ v [] (U × BodyIn r s x) x.state (BodyIn r s) (and_then o (body_with x.value x.value.labels []))
  plain-body r s x o m h =
      statement-body (U × BodyIn r s x) r x.value.labels [] s x.state x o (λ p. p.1) m (same-moves ⊥ v [] x.state) (any-given v (U × BodyIn r s x) x.state (StatementIn v r x.state) o h)

  -- ---- all statements

  mutual
    pub statement-gives : (w : Around) (r : Ty) → Returns w.result r → (b : StatementTree) → StatementCharacters b → (s : State) → s.unevaluated ≡ false → Gives ⊥ v [] U s (StatementIn v r s) (typed_statement w b s)
    statement-gives w r k (Block line items) c s ev = block-gives r line s (typed_items w items (in_new_scope s)) (items-give w r k items c (in_new_scope s) ev)
    statement-gives w r k (ExpressionStatement line a) c s ev = expression-gives v done r line a c s
    statement-gives w r k (If line a body) c s ev = inner v done r U s _ (if-gives v done r line a c.0 (typed_statement w body) (statement-gives w r k body c.1) (in_new_scope s) ev)
    statement-gives w r k (IfElse line a body other) c s ev =
        inner v done r U s _ (else-gives v done r line a c.0 (typed_statement w body) (typed_statement w other) (statement-gives w r k body c.1) (statement-gives w r k other c.2) (in_new_scope s) ev)
    statement-gives w r k (While line a body) c s ev = inner v done r U s _ (while-gives v done r line a c.0 (typed_statement (in_loop w) body) (statement-gives (in_loop w) r k body c.1) (in_new_scope s) ev)
    statement-gives w r k (DoWhile line body a) c s ev = inner v done r U s _ (do-gives v done r line a c.1 (typed_statement (in_loop w) body) (statement-gives (in_loop w) r k body c.0) (in_new_scope s) ev)
    statement-gives w r k (For line first a step body) c s ev =
        inner v done r U s _ (for-gives v done r line first a step c.0 c.1 c.2 (typed_statement (in_loop w) body) (statement-gives (in_loop w) r k body c.3) (in_new_scope s) ev)
    statement-gives w r k (ForDeclaration line d a step body) c s ev =
        leaving-gives v done s (ScopedIn v done r (in_new_scope s)) (StatementIn v r s) _ (λ x outer q. scoped-left v done r s x outer q)
        (round-gives v done r line a step c.1 c.2 (typed_statement (in_loop w) body) (statement-gives (in_loop w) r k body c.3) (in_new_scope s) ev (and_then (block_declaration d (in_new_scope s)) if_automatic) (first-items r d (in_new_scope s) c.0 ev))
    statement-gives w r k (Switch line a body) c s ev =
        inner v done r U s _ (switch-gives v done r line a c.0 (λ j. switch_block w j body) (λ j. switch-gives-block w r k j body c.1) (in_new_scope s) ev)
    statement-gives w r k (Break line) c s ev = jump-gives v done r w.breaks (typed.Break line) refl (λ os. tt) s
    statement-gives w r k (Continue line) c s ev = jump-gives v done r w.continues (typed.Continue line) refl (λ os. tt) s
    statement-gives w r k (Return line a) c s ev = returned-gives v done w.result r k line a c s
    statement-gives w r k (SwitchBlock line items) c s ev = gives-none ⊥ v [] U s (StatementIn v r s)
    statement-gives w r k (Labelled line labels b) c s ev = gives-none ⊥ v [] U s (StatementIn v r s)
    statement-gives w r k (Case line a) c s ev = gives-none ⊥ v [] U s (StatementIn v r s)
    statement-gives w r k (Default line) c s ev = gives-none ⊥ v [] U s (StatementIn v r s)

    pub items-give : (w : Around) (r : Ty) → Returns w.result r → (xs : Trees) → TreesCharacters xs → (s : State) → s.unevaluated ≡ false → Gives ⊥ v [] U s (ItemsIn v r s) (typed_items w xs s)
    items-give w r k NoTrees c s ev = gives-here ⊥ v [] U s (ItemsIn v r s) (Some []) (λ x e l p g. as-made (λ xs. ItemsIn v r s (record { value = xs; state = s })) [] x (no-items r s) e)
    items-give w r k (Then before x) c s ev =
        gives-then ⊥ v [] U s (ItemsIn v r s) (ItemsIn v r s) (typed_items w before s) (typed_item w x) (items-give w r k before c.0 s ev) (λ l m. item-gives w r k x c.1 s l (m.evaluated ∙ ev) m)

    pub item-gives : (w : Around) (r : Ty) → Returns w.result r → (x : Tree) → TreeCharacters x → (s : State) (l : After (List TypedStatement)) → l.state.unevaluated ≡ false → Moves ⊥ v [] s l.state → Gives ⊥ v [] (U × ItemsIn v r s l) l.state (ItemsIn v r s) (typed_item w x l)
    item-gives w r k (OfDeclaration d) c s l ev m = declaration-items r d s l c ev m
    item-gives w r k (OfStatement b) c s l ev m = statement-items r s l (typed_statement w b l.state) m (statement-gives w r k b c l.state ev)
    item-gives w r k (OfExpression x) c s l ev m = gives-none ⊥ v [] (U × ItemsIn v r s l) l.state (ItemsIn v r s)
    item-gives w r k (OfDeclarator x) c s l ev m = gives-none ⊥ v [] (U × ItemsIn v r s l) l.state (ItemsIn v r s)
    item-gives w r k (OfSpecifier x) c s l ev m = gives-none ⊥ v [] (U × ItemsIn v r s l) l.state (ItemsIn v r s)
    item-gives w r k (OfInitializer x) c s l ev m = gives-none ⊥ v [] (U × ItemsIn v r s l) l.state (ItemsIn v r s)

    pub switch-gives-block : (w : Around) (r : Ty) → Returns w.result r → (j : IntKind) (b : StatementTree) → StatementCharacters b → (s : State) → s.unevaluated ≡ false → Gives ⊥ v [] U s (BlockIn v done r s) (switch_block w j b s)
    switch-gives-block w r k j (SwitchBlock line items) c s ev = switch-block-gives v done r line s (switch_items (in_switch w) j items (in_new_scope s)) (switch-items-give (in_switch w) r k j items c (in_new_scope s) ev)
    switch-gives-block w r k j _ c s ev = gives-none ⊥ v [] U s (BlockIn v done r s)

    pub switch-items-give : (w : Around) (r : Ty) → Returns w.result r → (j : IntKind) (xs : Trees) → TreesCharacters xs → (s : State) → s.unevaluated ≡ false → Gives ⊥ v [] U s (BodyIn r s) (switch_items w j xs s)
    switch-items-give w r k j NoTrees c s ev =
        gives-here ⊥ v [] U s (BodyIn r s) (Some (record { items = []; labels = [] })) (λ x e l p g. as-made (λ (b : Body). ItemsIn v r s (record { value = b.items; state = s })) (record { items = []; labels = [] }) x (no-items r s) e)
    switch-items-give w r k j (Then before x) c s ev =
        gives-then ⊥ v [] U s (BodyIn r s) (BodyIn r s) (switch_items w j before s) (switch_item w j x) (switch-items-give w r k j before c.0 s ev) (λ l m. switch-item-gives w r k j x c.1 s l (m.evaluated ∙ ev) m)

    pub switch-item-gives : (w : Around) (r : Ty) → Returns w.result r → (j : IntKind) (x : Tree) → TreeCharacters x → (s : State) (l : After Body) → l.state.unevaluated ≡ false → Moves ⊥ v [] s l.state → Gives ⊥ v [] (U × BodyIn r s l) l.state (BodyIn r s) (switch_item w j x l)
    switch-item-gives w r k j (OfDeclaration d) c s l ev m = declaration-body r d s l c ev m
    switch-item-gives w r k j (OfStatement (Labelled line labels b)) c s l ev m = labelled-body r j labels c.0 (typed_statement w b) (statement-gives w r k b c.1) s l ev m
    switch-item-gives w r k j (OfStatement b) c s l ev m = plain-body r s l (typed_statement w b l.state) m (statement-gives w r k b c l.state ev)
    switch-item-gives w r k j (OfExpression x) c s l ev m = gives-none ⊥ v [] (U × BodyIn r s l) l.state (BodyIn r s)
    switch-item-gives w r k j (OfDeclarator x) c s l ev m = gives-none ⊥ v [] (U × BodyIn r s l) l.state (BodyIn r s)
    switch-item-gives w r k j (OfSpecifier x) c s l ev m = gives-none ⊥ v [] (U × BodyIn r s l) l.state (BodyIn r s)
    switch-item-gives w r k j (OfInitializer x) c s l ev m = gives-none ⊥ v [] (U × BodyIn r s l) l.state (BodyIn r s)
