-- Statements (C17 6.8.3, 6.8.5, 6.8.6): expression statements, `do`, `for` and jumps are well typed, of parts that are so.
use Rattle.std.proofs.Common.{◌≡◌, ℕ, ◌<◌, ◌≤◌, Bool, true, false, Option, Some, None, List, [], ◌∷◌, ◌++◌, refl, sym, subst, ◌∙◌, ◌⊎◌, inl, inr, arith}
use Rattle.std.specs.Prelude.{if◌then◌else◌}
use Rattle.pv_tree.specs.Syntax.{ExpressionTree, OptionalTree, Absent, Present, OfExpression, OfDeclaration, OfDeclarator, OfSpecifier, OfInitializer, OfStatement}
use Rattle.pv_types.specs.Ty.{Ty}
use Rattle.pv_typed.specs.Known.{Each}
use Rattle.pv_typed.specs.TypedTree.{TypedTree}
use Rattle.pv_typed.specs.TypedStatement as typed
use Rattle.pv_typed.specs.TypedStatement.{TypedStatement, statements_of}
use Rattle.pv_typed.specs.TypedUnits.{WholeUnit}
use Rattle.pv_types.specs.Sorts.{is_void, bare_type}
use Rattle.pv_check.specs.State.{State, After, give}
use Rattle.pv_check.specs.Scopes.{in_new_scope, behind_scope}
use Rattle.pv_typed.specs.Constants.{and_then}
use Rattle.pv_check.specs.Values.{as_if_assigned}
use Rattle.pv_unit.specs.Statements.{leaving, taken_value, condition, expression_if_any, return_of, declared_by, declared_in}
use Rattle.pv_unit.specs.StatementParts.{value_returned}
use Rattle.pv_unit.specs.Made.{do_made, for_made, round_made, expression_of, expression_made}
use Rattle.pv_guards.specs.Typed.{AreLike, IsIn}
use Rattle.pv_guards.specs.TypedStatements.{MayBeCondition, MayBeTyped, IsCondition, IsTypedStatement}
use Rattle.pv_well_typed.specs.Characters.{HasCharacters}
use Rattle.pv_well_typed.proofs.SourceCharacters.{OptionalCharacters}
use Rattle.pv_well_typed.specs.Later.{IsFinished}
use Rattle.pv_well_typed.specs.ProperStates.{AreVisible}
use Rattle.pv_well_typed.proofs.Operands.{IsOperand, has-type}
use Rattle.pv_well_typed.proofs.Conversions.{assigned-row}
use Rattle.pv_well_typed.proofs.Moving.{Outer, Moves, Gives, gives-none, gives-here, gives-then, gives-if, gives-unless, gives-weaker, left-scopes}
use Rattle.pv_well_typed.proofs.Walk.{U}
use Rattle.pv_well_typed.proofs.StatementRows.{Here, Behind, IsMaybe, valued-gives, condition-gives, optional-gives}
use Rattle.pv_well_typed.proofs.StatementWalk.{count, Kept, kept-before, Avoids, avoids-within, StatementIn, ItemsIn, in-append, in-front, in-behind, all-in, beside, new-beside, visible-more, here-entered, inner, made-statement, IsConditionIn}

-- the result of a definition, and that of its function at the end of the unit, where the type may be a composite one (6.2.7p4)
pub record Returns (q r : Ty) : Type 0 where
  pub like : AreLike q r
  pub none : is_void q ≡ true → is_void r ≡ true

-- what is known before is not asked
pub any-given : {A : Type 0} (v : WholeUnit) (P : Type 0) (s : State) (Q : After A → Type 0) (o : Option (After A)) → Gives ⊥ v [] U s Q o → Gives ⊥ v [] P s Q o
any-given v P s Q o h = gives-weaker ⊥ ⊥ U P v [] s Q Q o (λ f. f) (λ p. tt) (λ a q. q) h

optional-characters : (o : OptionalTree) → OptionalCharacters o → (e : ExpressionTree) → o ≡ Present (OfExpression e) → HasCharacters e
optional-characters Absent c e q = absurd cc
optional-characters (Present (OfExpression x)) c e q = let same : x ≡ e = cc in subst HasCharacters same c
optional-characters (Present (OfDeclaration x)) c e q = absurd cc
optional-characters (Present (OfDeclarator x)) c e q = absurd cc
optional-characters (Present (OfSpecifier x)) c e q = absurd cc
optional-characters (Present (OfInitializer x)) c e q = absurd cc
optional-characters (Present (OfStatement x)) c e q = absurd cc

module _ (v : WholeUnit) (done : IsFinished v) where
  abbrev IsValueAmong : List ℕ → TypedTree → Type 0
  IsValueAmong os x = IsOperand U v os x

  abbrev IsConditionAmong : List ℕ → TypedTree → Type 0
  IsConditionAmong os x = IsCondition v os x

  -- expressions that may be left out (6.8.3p3, 6.8.5.3p2)
  abbrev MayBeValue : State → After (Option TypedTree) → Type 0
  MayBeValue s = Behind v s (IsMaybe IsValueAmong)

  abbrev MayBeControlling : State → After (Option TypedTree) → Type 0
  MayBeControlling s = Behind v s (IsMaybe IsConditionAmong)

  maybe-value : (P : Type 0) (o : OptionalTree) → OptionalCharacters o → (s : State) → Gives ⊥ v [] P s (MayBeValue s) (expression_if_any taken_value o s)
  maybe-value P o c s = any-given v P s (MayBeValue s) (expression_if_any taken_value o s) (optional-gives v done IsValueAmong taken_value HasCharacters (valued-gives v done) o (optional-characters o c) s)

  maybe-controlling : (P : Type 0) (o : OptionalTree) → OptionalCharacters o → (s : State) → Gives ⊥ v [] P s (MayBeControlling s) (expression_if_any condition o s)
  maybe-controlling P o c s = any-given v P s (MayBeControlling s) (expression_if_any condition o s) (optional-gives v done IsConditionAmong condition HasCharacters (condition-gives v done) o (optional-characters o c) s)

  value-typed : (os : List ℕ) (o : Option TypedTree) → IsMaybe IsValueAmong os o → MayBeTyped v os o
  value-typed os None h = tt
  value-typed os (Some x) h = h.typed tt

  controlling-typed : (os : List ℕ) (o : Option TypedTree) → IsMaybe IsConditionAmong os o → MayBeCondition v os o
  controlling-typed os None h = tt
  controlling-typed os (Some x) h = h

  -- ---- 6.8.3: an expression statement, or an empty one

  expression-in : (r : Ty) (line : ℕ) (s : State) (o : Option TypedTree) (t : State) → MayBeValue s (record { value = o; state = t }) → StatementIn v r s (record { value = expression_of line o; state = t })
  expression-in r line s None t h = record { plain = refl; typed = λ k os here avoid. (tt, (h os here).1) }
  expression-in r line s (Some x) t h = record { plain = refl; typed = λ k os here avoid. let z = h os here in (z.0.typed tt, z.1) }

  pub expression-gives : (r : Ty) (line : ℕ) (a : OptionalTree) → OptionalCharacters a → (s : State) → Gives ⊥ v [] U s (StatementIn v r s) (and_then (expression_if_any taken_value a s) (expression_made line))
  expression-gives r line a c s =
      gives-then ⊥ v [] U s (MayBeValue s) (StatementIn v r s) (expression_if_any taken_value a s) (expression_made line) (maybe-value U a c s)
      (λ x m. gives-here ⊥ v [] (U × MayBeValue s x) x.state (StatementIn v r s) (Some (expression_of line x.value))
      (λ y e l p g. made-statement v done r s (expression_of line x.value) x.state (expression-in r line s x.value x.state p.1) y e))

  -- ---- 6.8.6.2, 6.8.6.3: `continue` and `break`

  pub jump-gives : (r : Ty) (b : Bool) (x : TypedStatement) → declared_by x ≡ [] → ((os : List ℕ) → IsTypedStatement v r os x) → (s : State) → Gives ⊥ v [] U s (StatementIn v r s) (if b then give (Some x) s else None)
  jump-gives r b x plain h s =
      gives-if ⊥ v [] U s (StatementIn v r s) b (give (Some x) s)
      (λ q. gives-here ⊥ v [] U s (StatementIn v r s) (Some x) (λ y e l p g. made-statement v done r s x s (record { plain = plain; typed = λ k os here avoid. (h os, here) }) y e))

  -- ---- 6.8.6.4: `return`

  value-returned : (q r : Ty) → Returns q r → (line : ℕ) (s : State) (a : After TypedTree) → Gives ⊥ v [] (U × Behind v s IsValueAmong a) a.state (StatementIn v r s) (value_returned q line a)
  value-returned q r like line s a =
      gives-unless ⊥ v [] (U × Behind v s IsValueAmong a) a.state (StatementIn v r s) (is_void q) (and_then (as_if_assigned q a.value) (λ e. give (Some (typed.Return line (Some e))) a.state))
      (λ z. by (as_if_assigned q a.value) refl)
    where
      by : (o : Option TypedTree) → as_if_assigned q a.value ≡ o → Gives ⊥ v [] (U × Behind v s IsValueAmong a) a.state (StatementIn v r s) (and_then o (λ e. give (Some (typed.Return line (Some e))) a.state))
      by None z = gives-none ⊥ v [] (U × Behind v s IsValueAmong a) a.state (StatementIn v r s)
      by (Some e) z =
          gives-here ⊥ v [] (U × Behind v s IsValueAmong a) a.state (StatementIn v r s) (Some (typed.Return line (Some e)))
          (λ y i l p g. made-statement v done r s (typed.Return line (Some e)) a.state (record {
            plain = refl;
            typed = λ kept os here avoid.
                let k = p.1 os here in
                let c = assigned-row U v os q a.value k.0 e z in
                ((q, c.converted.typed tt, has-type U v os (bare_type q) e c.converted, like.like), k.1);
          }) y i)

  pub returned-gives : (q r : Ty) → Returns q r → (line : ℕ) (o : OptionalTree) → OptionalCharacters o → (s : State) → Gives ⊥ v [] U s (StatementIn v r s) (return_of q line o s)
  returned-gives q r like line Absent c s =
      gives-if ⊥ v [] U s (StatementIn v r s) (is_void q) (give (Some (typed.Return line None)) s)
      (λ z. gives-here ⊥ v [] U s (StatementIn v r s) (Some (typed.Return line None))
      (λ y i l p g. made-statement v done r s (typed.Return line None) s (record { plain = refl; typed = λ kept os here avoid. (like.none z, here) }) y i))
  returned-gives q r like line (Present (OfExpression a)) c s =
      gives-then ⊥ v [] U s (Behind v s IsValueAmong) (StatementIn v r s) (taken_value a s) (value_returned q line) (valued-gives v done a c s) (λ x m. value-returned q r like line s x)
  returned-gives q r like line (Present (OfDeclaration x)) c s = gives-none ⊥ v [] U s (StatementIn v r s)
  returned-gives q r like line (Present (OfDeclarator x)) c s = gives-none ⊥ v [] U s (StatementIn v r s)
  returned-gives q r like line (Present (OfSpecifier x)) c s = gives-none ⊥ v [] U s (StatementIn v r s)
  returned-gives q r like line (Present (OfInitializer x)) c s = gives-none ⊥ v [] U s (StatementIn v r s)
  returned-gives q r like line (Present (OfStatement x)) c s = gives-none ⊥ v [] U s (StatementIn v r s)

  -- ---- 6.8.5.2: `do`

  pub do-gives : (r : Ty) (line : ℕ) (a : ExpressionTree) → HasCharacters a → (body : State → Option (After TypedStatement)) → ((t : State) → t.unevaluated ≡ false → Gives ⊥ v [] U t (StatementIn v r t) (body t)) → (s : State) → s.unevaluated ≡ false
      → Gives ⊥ v [] U s (StatementIn v r s) (and_then (leaving (body (in_new_scope s))) (λ b. and_then (condition a b.state) (do_made line b.value)))
  do-gives r line a chars body h s ev =
      gives-then ⊥ v [] U s (StatementIn v r s) (StatementIn v r s) (leaving (body (in_new_scope s))) (λ b. and_then (condition a b.state) (do_made line b.value)) (inner v done r U s (body (in_new_scope s)) (h (in_new_scope s) ev))
      (λ b m. gives-then ⊥ v [] (U × StatementIn v r s b) b.state (IsConditionIn v done b.state) (StatementIn v r s) (condition a b.state) (do_made line b.value)
      (any-given v (U × StatementIn v r s b) b.state (IsConditionIn v done b.state) (condition a b.state) (condition-gives v done a chars b.state))
      (λ c n. gives-here ⊥ v [] ((U × StatementIn v r s b) × IsConditionIn v done b.state c) c.state (StatementIn v r s) (Some (typed.DoWhile line b.value c.value))
      (λ y e l p g. made-statement v done r s (typed.DoWhile line b.value c.value) c.state (record {
        plain = refl;
        typed = λ k os here avoid.
            let z = p.0.1.typed (kept-before v b.state c.state n k) os here (avoids-within (count s) (count c.state) (count s) (count b.state) os (omega arith) n.count avoid) in
            let w = p.1 os z.1 in
            ((z.0, w.0), w.1);
      }) y e)))

  -- ---- 6.8.5.3: `for` with an expression first, or none

  pub for-gives : (r : Ty) (line : ℕ) (first a step : OptionalTree) → OptionalCharacters first → OptionalCharacters a → OptionalCharacters step
      → (body : State → Option (After TypedStatement)) → ((t : State) → t.unevaluated ≡ false → Gives ⊥ v [] U t (StatementIn v r t) (body t)) → (s : State) → s.unevaluated ≡ false
      → Gives ⊥ v [] U s (StatementIn v r s)
      (and_then (expression_if_any taken_value first s) (λ f. and_then (expression_if_any condition a f.state) (λ c. and_then (expression_if_any taken_value step c.state) (λ t. and_then (leaving (body (in_new_scope t.state))) (for_made line f.value c.value t.value)))))
  for-gives r line first a step cf ca cs body h s ev =
      gives-then ⊥ v [] U s (MayBeValue s) (StatementIn v r s) (expression_if_any taken_value first s)
      (λ f. and_then (expression_if_any condition a f.state) (λ c. and_then (expression_if_any taken_value step c.state) (λ t. and_then (leaving (body (in_new_scope t.state))) (for_made line f.value c.value t.value)))) (maybe-value U first cf s)
      (λ f i. gives-then ⊥ v [] (U × MayBeValue s f) f.state (MayBeControlling f.state) (StatementIn v r s) (expression_if_any condition a f.state)
      (λ c. and_then (expression_if_any taken_value step c.state) (λ t. and_then (leaving (body (in_new_scope t.state))) (for_made line f.value c.value t.value))) (maybe-controlling (U × MayBeValue s f) a ca f.state)
      (λ c j. gives-then ⊥ v [] ((U × MayBeValue s f) × MayBeControlling f.state c) c.state (MayBeValue c.state) (StatementIn v r s) (expression_if_any taken_value step c.state)
      (λ t. and_then (leaving (body (in_new_scope t.state))) (for_made line f.value c.value t.value)) (maybe-value ((U × MayBeValue s f) × MayBeControlling f.state c) step cs c.state)
      (λ t m. gives-then ⊥ v [] (((U × MayBeValue s f) × MayBeControlling f.state c) × MayBeValue c.state t) t.state (StatementIn v r t.state) (StatementIn v r s) (leaving (body (in_new_scope t.state))) (for_made line f.value c.value t.value)
      (inner v done r (((U × MayBeValue s f) × MayBeControlling f.state c) × MayBeValue c.state t) t.state (body (in_new_scope t.state)) (h (in_new_scope t.state) (m.evaluated ∙ j.evaluated ∙ i.evaluated ∙ ev)))
      (λ b n. gives-here ⊥ v [] ((((U × MayBeValue s f) × MayBeControlling f.state c) × MayBeValue c.state t) × StatementIn v r t.state b) b.state (StatementIn v r s) (Some (typed.For line f.value c.value t.value b.value))
      (λ y e l p g. made-statement v done r s (typed.For line f.value c.value t.value b.value) b.state (record {
        plain = refl;
        typed = λ k os here avoid.
            let z = p.0.0.0.1 os here in
            let w = p.0.0.1 os z.1 in
            let x = p.0.1 os w.1 in
            let q = p.1.typed k os x.1 (avoids-within (count s) (count b.state) (count t.state) (count b.state) os (let a = i.count in let b = j.count in let c = m.count in omega (arith, a, b, c)) (omega arith) avoid) in
            ((value-typed os f.value z.0, controlling-typed os c.value w.0, value-typed os t.value x.0, q.0), q.1);
      }) y e)))))

  -- ---- 6.8.5.3p1, 6.8.5p5: `for` with a declaration, whose scope ends with it

  -- a statement among whose objects are those of its scope
  pub record ScopedIn (r : Ty) (s : State) (a : After TypedStatement) : Type 0 where
    pub plain : declared_by a.value ≡ []
    pub typed : Kept v a.state → (os : List ℕ) → Here v os s → Avoids (count s) (count a.state) os → IsTypedStatement v r os a.value × (a.state.unevaluated ≡ false)

  pub scoped-left : (r : Ty) (s : State) (x : After TypedStatement) → Outer (in_new_scope s).scopes x.state.scopes → ScopedIn r (in_new_scope s) x → StatementIn v r s (record { value = x.value; state = behind_scope x.state })
  scoped-left r s x outer h = record {
    plain = h.plain;
    typed = λ k os here avoid.
        let z = h.typed k os (here-entered v os s here) avoid in
        (z.0, record { evaluated = z.1; visible = subst (AreVisible v os) (sym (left-scopes s.scopes x.state.scopes outer)) here.visible });
  }

  abbrev round : (line : ℕ) → After (List TypedStatement) → Option TypedTree → Option TypedTree → TypedStatement → TypedStatement
  round line f c t b = typed.ForDeclaration line (declared_in f.value) (statements_of f.value) c t b

  pub round-gives : (r : Ty) (line : ℕ) (a step : OptionalTree) → OptionalCharacters a → OptionalCharacters step → (body : State → Option (After TypedStatement)) → ((t : State) → t.unevaluated ≡ false → Gives ⊥ v [] U t (StatementIn v r t) (body t))
      → (s : State) → s.unevaluated ≡ false → (items : Option (After (List TypedStatement))) → Gives ⊥ v [] U s (ItemsIn v r s) items
      → Gives ⊥ v [] U s (ScopedIn r s)
      (and_then items (λ f. and_then (expression_if_any condition a f.state) (λ c. and_then (expression_if_any taken_value step c.state) (λ t. and_then (leaving (body (in_new_scope t.state))) (round_made line f.value c.value t.value)))))
  round-gives r line a step ca cs body h s ev items d =
      gives-then ⊥ v [] U s (ItemsIn v r s) (ScopedIn r s) items
      (λ f. and_then (expression_if_any condition a f.state) (λ c. and_then (expression_if_any taken_value step c.state) (λ t. and_then (leaving (body (in_new_scope t.state))) (round_made line f.value c.value t.value)))) d
      (λ f i. gives-then ⊥ v [] (U × ItemsIn v r s f) f.state (MayBeControlling f.state) (ScopedIn r s) (expression_if_any condition a f.state)
      (λ c. and_then (expression_if_any taken_value step c.state) (λ t. and_then (leaving (body (in_new_scope t.state))) (round_made line f.value c.value t.value))) (maybe-controlling (U × ItemsIn v r s f) a ca f.state)
      (λ c j. gives-then ⊥ v [] ((U × ItemsIn v r s f) × MayBeControlling f.state c) c.state (MayBeValue c.state) (ScopedIn r s) (expression_if_any taken_value step c.state)
      (λ t. and_then (leaving (body (in_new_scope t.state))) (round_made line f.value c.value t.value)) (maybe-value ((U × ItemsIn v r s f) × MayBeControlling f.state c) step cs c.state)
      (λ t m. gives-then ⊥ v [] (((U × ItemsIn v r s f) × MayBeControlling f.state c) × MayBeValue c.state t) t.state (StatementIn v r t.state) (ScopedIn r s) (leaving (body (in_new_scope t.state))) (round_made line f.value c.value t.value)
      (inner v done r (((U × ItemsIn v r s f) × MayBeControlling f.state c) × MayBeValue c.state t) t.state (body (in_new_scope t.state)) (h (in_new_scope t.state) (m.evaluated ∙ j.evaluated ∙ i.evaluated ∙ ev)))
      (λ b n. gives-here ⊥ v [] ((((U × ItemsIn v r s f) × MayBeControlling f.state c) × MayBeValue c.state t) × StatementIn v r t.state b) b.state (ScopedIn r s) (Some (round line f c.value t.value b.value))
      (λ y e l p g. made (round line f c.value t.value b.value) b.state (scoped f c t b p.0.0.0.1 p.0.0.1 p.0.1 p.1 i j m n) y e)))))
    where
      made : (x : TypedStatement) (t : State) → ScopedIn r s (record { value = x; state = t }) → (y : TypedStatement) → Some x ≡ Some y → ScopedIn r s (record { value = y; state = t })
      made x t k y e = let same : x ≡ y = cc in subst (λ z. ScopedIn r s (record { value = z; state = t })) same k

      scoped : (f : After (List TypedStatement)) (c t : After (Option TypedTree)) (b : After TypedStatement) → ItemsIn v r s f → MayBeControlling f.state c → MayBeValue c.state t → StatementIn v r t.state b
          → Moves ⊥ v [] s f.state → Moves ⊥ v [] f.state c.state → Moves ⊥ v [] c.state t.state → Moves ⊥ v [] t.state b.state → ScopedIn r s (record { value = round line f c.value t.value b.value; state = b.state })
      scoped f c t b hf hc ht hb i j m n = record {
        plain = refl;
        typed = λ k os here avoid.
            let ds = declared_in f.value in
            let kept = kept-before v f.state c.state j (kept-before v c.state t.state m (kept-before v t.state b.state n k)) in
            let early = avoids-within (count s) (count b.state) (count s) (count f.state) os (omega arith) (let x = j.count in let y = m.count in let z = n.count in omega (arith, x, y, z)) avoid in
            let more : Here v (ds ++ os) s = record { evaluated = here.evaluated; visible = visible-more v os (ds ++ os) (λ o q. in-behind ds os o q) s.scopes here.visible } in
            let z = hf.typed kept (ds ++ os) more (all-in ds (ds ++ os) (λ d q. in-front ds os d q)) (beside (count s) (count f.state) ds os early) in
            let w = hc (ds ++ os) z.1 in
            let x = ht (ds ++ os) w.1 in
            let q = hb.typed k (ds ++ os) x.1 (around ds os avoid hf.fresh) in
            ((hf.made kept, new-beside (count s) (count f.state) ds os hf.fresh hf.once early, z.0, controlling-typed (ds ++ os) c.value w.0, value-typed (ds ++ os) t.value x.0, q.0), q.1.evaluated);
      }
        where
          all-below : (ds : List ℕ) → Each (λ o. (count s ≤ o) × (o < count f.state)) ds → (o : ℕ) → IsIn o ds → o < count t.state
          all-below [] fresh o q = absurd q
          all-below (d ∷ ds) fresh o (inl e) = let l = fresh.0.1 in let x = j.count in let y = m.count in omega (arith, l, e, x, y)
          all-below (d ∷ ds) fresh o (inr q) = all-below ds fresh.1 o q

          around : (ds os : List ℕ) → Avoids (count s) (count b.state) os → Each (λ o. (count s ≤ o) × (o < count f.state)) ds → Avoids (count t.state) (count b.state) (ds ++ os)
          around ds os avoid fresh o q = by (in-append ds os o q)
            where
              outer : (o < count s) ⊎ (count b.state ≤ o) → (o < count t.state) ⊎ (count b.state ≤ o)
              outer (inl l) = inl (let x = i.count in let y = j.count in let z = m.count in omega (arith, l, x, y, z))
              outer (inr l) = inr l

              by : IsIn o ds ⊎ IsIn o os → (o < count t.state) ⊎ (count b.state ≤ o)
              by (inl k) = inl (all-below ds fresh o k)
              by (inr k) = outer (avoid o k)
