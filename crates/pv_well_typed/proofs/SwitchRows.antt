-- Labels and `switch` (C17 6.8.1, 6.8.4.2): a `switch` is well typed, of a controlling expression and items that are so.
use Rattle.std.proofs.Common.{◌≡◌, ℕ, false, Option, Some, List, [], ◌∷◌, ◌++◌, refl, sym, subst, arith, ◌∙◌}
use Rattle.pv_num.specs.declared.kinds.IntKind.{IntKind}
use Rattle.pv_num.specs.Kinds.{convert_of}
use Rattle.pv_tree.specs.Syntax.{ExpressionTree, StatementTree, Case, Default, Tree, OfExpression, OfDeclaration, OfDeclarator, OfSpecifier, OfInitializer, OfStatement, Trees, NoTrees, Then}
use Rattle.pv_types.specs.Ty.{Ty}
use Rattle.pv_typed.specs.Constants.{integer, and_then}
use Rattle.pv_typed.specs.TypedStatement as typed
use Rattle.pv_typed.specs.TypedStatement.{TypedStatement, Statements, Block, Switch}
use Rattle.pv_typed.specs.TypedTree.{TypedTree}
use Rattle.pv_typed.specs.TypedUnits.{WholeUnit}
use Rattle.pv_check.specs.State.{State, After, give}
use Rattle.pv_check.specs.Scopes.{in_new_scope, behind_scope}
use Rattle.pv_unit.specs.Statements.{Label, CaseLabel, DefaultLabel, typed_label, label_in, typed_labels, under, Switched, switch_value, taken_value, leaving, declared_by, declared_in, block_of}
use Rattle.pv_unit.specs.StatementParts.{stands, labels_with, case_label}
use Rattle.pv_unit.specs.TypedStatements.{Body}
use Rattle.pv_unit.specs.Made.{body_made, switch_made}
use Rattle.pv_guards.specs.TypedStatements.{IsTypedStatement}
use Rattle.pv_well_typed.specs.Characters.{HasCharacters}
use Rattle.pv_well_typed.proofs.SourceCharacters.{TreeCharacters, TreesCharacters, StatementCharacters}
use Rattle.pv_well_typed.specs.Later.{IsFinished}
use Rattle.pv_well_typed.proofs.Operands.{IsOperand, some-same}
use Rattle.pv_well_typed.proofs.Moving.{Outer, Moves, Gives, gives-none, gives-here, gives-then, gives-value, gives-unless}
use Rattle.pv_well_typed.proofs.Walk.{U}
use Rattle.pv_well_typed.proofs.StatementRows.{Here, Behind, IsSwitched, valued-gives, switched-gives}
use Rattle.pv_well_typed.proofs.StatementWalk.{count, avoids-within, StatementIn, ItemsIn, made-statement, leaving-gives, block-typed}
use Rattle.pv_well_typed.proofs.LoopRows.{any-given}

-- what keeps names visible
abbrev pub KeepsNames : {A : Type 0} → WholeUnit → State → After A → Type 0
KeepsNames v s a = (os : List ℕ) → Here v os s → Here v os a.state

-- the items of a switch's block, and its labels: the items alone
abbrev pub items_in : After Body → After (List TypedStatement)
items_in x = record { value = x.value.items; state = x.state }

module _ (v : WholeUnit) (done : IsFinished v) where
  -- ---- labels

  case-gives : (k : IntKind) (line : ℕ) (s : State) (x : After TypedTree) → Gives ⊥ v [] (U × Behind v s (λ os a. IsOperand U v os a) x) x.state (KeepsNames v s) (case_label k line x)
  case-gives k line s x =
      gives-value ⊥ v [] (U × Behind v s (λ os a. IsOperand U v os a) x) x.state (KeepsNames v s) (integer x.value) (λ n. give (Some (CaseLabel line (convert_of k n))) x.state)
      (λ n e. gives-here ⊥ v [] (U × Behind v s (λ os a. IsOperand U v os a) x) x.state (KeepsNames v s) (Some (CaseLabel line (convert_of k n))) (λ y q l p g os h. (p.1 os h).1))

  label-gives : (k : IntKind) (x : StatementTree) → StatementCharacters x → (s : State) → Gives ⊥ v [] U s (KeepsNames v s) (typed_label k x s)
  label-gives k (Case line a) c s =
      gives-then ⊥ v [] U s (Behind v s (λ os a. IsOperand U v os a)) (KeepsNames v s) (taken_value a s) (case_label k line) (valued-gives v done a c s) (λ x m. case-gives k line s x)
  label-gives k (Default line) c s = gives-here ⊥ v [] U s (KeepsNames v s) (Some (DefaultLabel line)) (λ y q l p g os h. h)
  label-gives k _ c s = gives-none ⊥ v [] U s (KeepsNames v s)

  label-in-gives : (k : IntKind) (seen : List Label) (x : Tree) → TreeCharacters x → (s : State) (own : After (List Label)) → Gives ⊥ v [] (U × KeepsNames v s own) own.state (KeepsNames v s) (label_in k seen x own)
  label-in-gives k seen (OfStatement l) c s own =
      gives-then ⊥ v [] (U × KeepsNames v s own) own.state (KeepsNames v own.state) (KeepsNames v s) (typed_label k l own.state) (labels_with seen own.value)
      (any-given v (U × KeepsNames v s own) own.state (KeepsNames v own.state) (typed_label k l own.state) (label-gives k l c own.state))
      (λ x m. gives-unless ⊥ v [] ((U × KeepsNames v s own) × KeepsNames v own.state x) x.state (KeepsNames v s) (stands x.value (seen ++ own.value)) (give (Some (own.value ++ (x.value ∷ []))) x.state)
      (λ e. gives-here ⊥ v [] ((U × KeepsNames v s own) × KeepsNames v own.state x) x.state (KeepsNames v s) (Some (own.value ++ (x.value ∷ []))) (λ y q l p g os h. p.1 os (p.0.1 os h))))
  label-in-gives k seen (OfExpression x) c s own = gives-none ⊥ v [] (U × KeepsNames v s own) own.state (KeepsNames v s)
  label-in-gives k seen (OfDeclaration x) c s own = gives-none ⊥ v [] (U × KeepsNames v s own) own.state (KeepsNames v s)
  label-in-gives k seen (OfDeclarator x) c s own = gives-none ⊥ v [] (U × KeepsNames v s own) own.state (KeepsNames v s)
  label-in-gives k seen (OfSpecifier x) c s own = gives-none ⊥ v [] (U × KeepsNames v s own) own.state (KeepsNames v s)
  label-in-gives k seen (OfInitializer x) c s own = gives-none ⊥ v [] (U × KeepsNames v s own) own.state (KeepsNames v s)

  pub labels-give : (k : IntKind) (seen : List Label) (xs : Trees) → TreesCharacters xs → (s : State) → Gives ⊥ v [] U s (KeepsNames v s) (typed_labels k seen xs s)
  labels-give k seen NoTrees c s = gives-here ⊥ v [] U s (KeepsNames v s) (Some []) (λ y q l p g os h. h)
  labels-give k seen (Then before x) c s =
      gives-then ⊥ v [] U s (KeepsNames v s) (KeepsNames v s) (typed_labels k seen before s) (label_in k seen x) (labels-give k seen before c.0 s) (λ own m. label-in-gives k seen x c.1 s own)

  -- a statement under its labels
  under-plain : (ls : List Label) (b : TypedStatement) → declared_by b ≡ [] → declared_by (under ls b) ≡ []
  under-plain [] b h = h
  under-plain (CaseLabel line n ∷ ls) b h = refl
  under-plain (DefaultLabel line ∷ ls) b h = refl

  under-typed : (r : Ty) (os : List ℕ) (ls : List Label) (b : TypedStatement) → IsTypedStatement v r os b → IsTypedStatement v r os (under ls b)
  under-typed r os [] b h = h
  under-typed r os (CaseLabel line n ∷ ls) b h = under-typed r os ls b h
  under-typed r os (DefaultLabel line ∷ ls) b h = under-typed r os ls b h

  pub labelled-statement : (r : Ty) (s : State) (ls : After (List Label)) (b : After TypedStatement) → Moves ⊥ v [] s ls.state → KeepsNames v s ls → StatementIn v r ls.state b
      → StatementIn v r s (record { value = under ls.value b.value; state = b.state })
  labelled-statement r s ls b m keep h = record {
    plain = under-plain ls.value b.value h.plain;
    typed = λ k os here avoid.
        let z = h.typed k os (keep os here) (avoids-within (count s) (count b.state) (count ls.state) (count b.state) os m.count (omega arith) avoid) in
        (under-typed r os ls.value b.value z.0, z.1);
  }

  -- ---- 6.8.4.2: a `switch`

  -- a block
  pub record BlockIn (r : Ty) (s : State) (a : After TypedStatement) : Type 0 where
    pub block : (line : ℕ) × (ds : List ℕ) × (xs : Statements) × (a.value ≡ Block line ds xs)
    pub typed : StatementIn v r s a

  -- what it is made of
  abbrev IsMadeOf : Ty → (line : ℕ) → State → After TypedStatement → Type 0
  IsMadeOf r line s b = (x : After (List TypedStatement)) × (b.value ≡ block_of line x.value) × (b.state ≡ x.state) × ItemsIn v r s x

  pub switch-block-gives : (r : Ty) (line : ℕ) (s : State) (items : Option (After Body)) → Gives ⊥ v [] U (in_new_scope s) (λ x. ItemsIn v r (in_new_scope s) (items_in x)) items
      → Gives ⊥ v [] U s (BlockIn r s) (leaving (and_then items (body_made line)))
  switch-block-gives r line s items h =
      leaving-gives v done s (IsMadeOf r line (in_new_scope s)) (BlockIn r s) (and_then items (body_made line))
      (λ b outer q. record {
        block = (line, declared_in q.0.value, typed.statements_of q.0.value, q.1);
        typed = subst (λ y. StatementIn v r s (record { value = y; state = behind_scope b.state })) (sym q.1)
            (subst (λ t. StatementIn v r s (record { value = block_of line q.0.value; state = behind_scope t })) (sym q.2) (block-typed v done r line s q.0 (subst (λ t. Outer (in_new_scope s).scopes t.scopes) q.2 outer) q.3));
      })
      (gives-then ⊥ v [] U (in_new_scope s) (λ x. ItemsIn v r (in_new_scope s) (items_in x)) (IsMadeOf r line (in_new_scope s)) items (body_made line) h
      (λ x m. gives-here ⊥ v [] (U × ItemsIn v r (in_new_scope s) (items_in x)) x.state (IsMadeOf r line (in_new_scope s)) (Some (block_of line x.value.items))
      (λ y e l p g. (items_in x, sym (some-same (block_of line x.value.items) y e), refl, p.1))))

  switch-typed : (r : Ty) (os : List ℕ) (line : ℕ) (c : Switched) (m : ℕ) (ds : List ℕ) (xs : Statements) → IsSwitched v done os c → IsTypedStatement v r os (Block m ds xs) → IsTypedStatement v r os (Switch line c.value (Block m ds xs))
  switch-typed r os line c m ds xs h k = (c.kind, h.typed, h.is, h.wide, k.0, k.1, k.2)

  pub switch-gives : (r : Ty) (line : ℕ) (a : ExpressionTree) → HasCharacters a → (body : IntKind → State → Option (After TypedStatement)) → ((k : IntKind) (t : State) → t.unevaluated ≡ false → Gives ⊥ v [] U t (BlockIn r t) (body k t)) → (s : State) → s.unevaluated ≡ false
      → Gives ⊥ v [] U s (StatementIn v r s) (and_then (switch_value a s) (λ c. and_then (body c.value.kind c.state) (switch_made line c.value.value)))
  switch-gives r line a chars body h s ev =
      gives-then ⊥ v [] U s (Behind v s (λ os x. IsSwitched v done os x)) (StatementIn v r s) (switch_value a s) (λ c. and_then (body c.value.kind c.state) (switch_made line c.value.value)) (switched-gives v done a chars s)
      (λ c m. gives-then ⊥ v [] (U × Behind v s (λ os x. IsSwitched v done os x) c) c.state (BlockIn r c.state) (StatementIn v r s) (body c.value.kind c.state) (switch_made line c.value.value)
      (any-given v (U × Behind v s (λ os x. IsSwitched v done os x) c) c.state (BlockIn r c.state) (body c.value.kind c.state) (h c.value.kind c.state (m.evaluated ∙ ev)))
      (λ b n. gives-here ⊥ v [] ((U × Behind v s (λ os x. IsSwitched v done os x) c) × BlockIn r c.state b) b.state (StatementIn v r s) (Some (Switch line c.value.value b.value))
      (λ y e l p g. made-statement v done r s (Switch line c.value.value b.value) b.state (record {
        plain = refl;
        typed = λ k os here avoid.
            let z = p.0.1 os here in
            let w = p.1.typed.typed k os z.1 (avoids-within (count s) (count b.state) (count c.state) (count b.state) os m.count (omega arith) avoid) in
            let q = p.1.block in (
              subst (λ x. IsTypedStatement v r os (Switch line c.value.value x)) (sym q.3) (switch-typed r os line c.value q.0 q.1 q.2 z.0 (subst (λ x. IsTypedStatement v r os x) q.3 w.0)),
              w.1,
            );
      }) y e)))
