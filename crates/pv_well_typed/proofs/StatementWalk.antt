-- Statements (C17 6.8): each statement that is typed is well typed in every later unit, where declarations in blocks are so.
use Rattle.std.proofs.Common.{◌≡◌, ℕ, ◌<◌, ◌≤◌, false, Option, Some, None, List, [], ◌∷◌, ◌++◌, length, refl, sym, ap, subst, ◌∙◌, ◌⊎◌, inl, inr, arith, append-nil, append_assoc, ◌-◌}
use Rattle.pv_tree.specs.Syntax.{ExpressionTree}
use Rattle.pv_types.specs.Ty.{Ty}
use Rattle.pv_typed.specs.Known.{Each}
use Rattle.pv_typed.proofs.Each.{each_append, each_weaker, each_left, each_right}
use Rattle.pv_typed.specs.TypedTree.{TypedTree}
use Rattle.pv_typed.specs.TypedStatement as typed
use Rattle.pv_typed.specs.TypedStatement.{TypedStatement, statements_of}
use Rattle.pv_typed.specs.TypedUnits.{WholeUnit, object_at}
use Rattle.pv_check.specs.State.{State, After, Scope, Meaning, ObjectName, FunctionName, TypedefOf, ConstantOf}
use Rattle.pv_check.specs.Scopes.{no_scope, in_new_scope, behind_scope}
use Rattle.pv_typed.specs.Constants.{and_then}
use Rattle.pv_unit.specs.Statements.{leaving, condition, declared_by, declared_in, block_of}
use Rattle.pv_unit.specs.Made.{if_made, else_made, while_made}
use Rattle.pv_guards.specs.Typed.{IsIn}
use Rattle.pv_guards.specs.TypedStatements.{IsMakeable, AreNew, IsCondition, IsTypedStatement, AreTypedStatements}
use Rattle.pv_well_typed.specs.Later.{IsFinished}
use Rattle.pv_well_typed.specs.ProperStates.{IsVisible, AreVisible}
use Rattle.pv_well_typed.proofs.Moving.{Outer, Moves, Gives, gives-none, gives-some, gives-here, gives-then, gives-weaker, left-moves, left-proper, left-scopes, each-take}
use Rattle.pv_well_typed.specs.Characters.{HasCharacters}
use Rattle.pv_well_typed.proofs.Changes.{entered-proper}
use Rattle.pv_well_typed.proofs.StatementRows.{Here, Behind, condition-gives}
use Rattle.pv_well_typed.proofs.Operands.{as-made}
use Rattle.pv_well_typed.proofs.Walk.{U}

-- how many objects there are
abbrev pub count : State → ℕ
count s = length s.unit.objects

-- an object with automatic storage is in the later unit as it is here: it isn't so between an object's name and the end of its initializer
abbrev pub Kept : WholeUnit → State → Type 0
Kept v t = (o : ℕ) → o < count t → (object_at t.unit o).lasting ≡ false → object_at v o ≡ object_at t.unit o

pub kept-before : (v : WholeUnit) (s t : State) → Moves ⊥ v [] s t → Kept v t → Kept v s
kept-before v s t m k o lt plain =
    let c = m.count in
    k o (omega (arith, c, lt)) (ap (λ x. x.lasting) (m.older o lt) ∙ plain) ∙ m.older o lt

-- none of the objects was made between the two counts: those of blocks around it may have been made behind it
abbrev pub Avoids : (from to : ℕ) → List ℕ → Type 0
Avoids n m os = (o : ℕ) → IsIn o os → (o < n) ⊎ (m ≤ o)

pub avoids-within : (n m i j : ℕ) (os : List ℕ) → n ≤ i → j ≤ m → Avoids n m os → Avoids i j os
avoids-within n m i j os p q h o k = by (h o k)
  where
    by : (o < n) ⊎ (m ≤ o) → (o < i) ⊎ (j ≤ o)
    by (inl l) = inl (omega (arith, p, l))
    by (inr l) = inr (omega (arith, q, l))

-- a statement that was typed in s: none of them is a declaration, and it is well typed among objects that were not made in it
pub record StatementIn (v : WholeUnit) (r : Ty) (s : State) (a : After TypedStatement) : Type 0 where
  pub plain : declared_by a.value ≡ []
  pub typed : Kept v a.state → (os : List ℕ) → Here v os s → Avoids (count s) (count a.state) os → IsTypedStatement v r os a.value × Here v os a.state

-- each of these is one of those
abbrev pub AreIn : List ℕ → List ℕ → Type 0
AreIn ds os = Each (λ d. IsIn d os) ds

-- items of a block that were typed from s on: their objects are new, each once, and can be made; and the items are well typed among objects to which
-- these belong, and no others that were made among them
pub record ItemsIn (v : WholeUnit) (r : Ty) (s : State) (a : After (List TypedStatement)) : Type 0 where
  pub fresh : Each (λ o. (count s ≤ o) × (o < count a.state)) (declared_in a.value)
  pub once : AreNew (declared_in a.value) []
  pub made : Kept v a.state → Each (IsMakeable v false) (declared_in a.value)
  pub typed : Kept v a.state → (os : List ℕ) → Here v os s → AreIn (declared_in a.value) os
      → ((o : ℕ) → IsIn o os → ((o < count s) ⊎ (count a.state ≤ o)) ⊎ IsIn o (declared_in a.value)) → AreTypedStatements v r os (statements_of a.value) × Here v os a.state

-- ---- lists of numbers

pub in-append : (xs ys : List ℕ) (n : ℕ) → IsIn n (xs ++ ys) → IsIn n xs ⊎ IsIn n ys
in-append [] ys n h = inr h
in-append (x ∷ xs) ys n (inl e) = inl (inl e)
in-append (x ∷ xs) ys n (inr h) = by (in-append xs ys n h)
  where
    by : IsIn n xs ⊎ IsIn n ys → IsIn n (x ∷ xs) ⊎ IsIn n ys
    by (inl k) = inl (inr k)
    by (inr k) = inr k

pub in-front : (xs ys : List ℕ) (n : ℕ) → IsIn n xs → IsIn n (xs ++ ys)
in-front [] ys n h = absurd h
in-front (x ∷ xs) ys n (inl e) = inl e
in-front (x ∷ xs) ys n (inr h) = inr (in-front xs ys n h)

pub in-behind : (xs ys : List ℕ) (n : ℕ) → IsIn n ys → IsIn n (xs ++ ys)
in-behind [] ys n h = h
in-behind (x ∷ xs) ys n h = inr (in-behind xs ys n h)

pub all-in : (ds os : List ℕ) → ((d : ℕ) → IsIn d ds → IsIn d os) → AreIn ds os
all-in [] os f = tt
all-in (d ∷ ds) os f = (f d (inl refl), all-in ds os (λ e h. f e (inr h)))

-- objects that are new, and each of which stands once, are new beside objects that were not made with them
pub new-beside : (n m : ℕ) (ds os : List ℕ) → Each (λ o. (n ≤ o) × (o < m)) ds → AreNew ds [] → Avoids n m os → AreNew ds os
new-beside n m [] os fresh once avoids = tt
new-beside n m (d ∷ ds) os fresh once avoids = (λ h. by (in-append ds os d h), new-beside n m ds os fresh.1 once.1 avoids)
  where
    outside : (d < n) ⊎ (m ≤ d) → ⊥
    outside (inl l) = let k = fresh.0.0 in omega (arith, k, l)
    outside (inr l) = let k = fresh.0.1 in omega (arith, k, l)

    by : IsIn d ds ⊎ IsIn d os → ⊥
    by (inl k) = once.0 (in-front ds [] d k)
    by (inr k) = outside (avoids d k)

-- objects of a block, and those around it, which were not made with them
pub beside : (n m : ℕ) (ds os : List ℕ) → Avoids n m os → (o : ℕ) → IsIn o (ds ++ os) → ((o < n) ⊎ (m ≤ o)) ⊎ IsIn o ds
beside n m ds os avoids o h = by (in-append ds os o h)
  where
    by : IsIn o ds ⊎ IsIn o os → ((o < n) ⊎ (m ≤ o)) ⊎ IsIn o ds
    by (inl i) = inr i
    by (inr i) = inl (avoids o i)

-- ---- 6.8.2p2, 6.2.1p4: a block, whose scope ends with it

pub visible-more : (v : WholeUnit) (os ps : List ℕ) → ((o : ℕ) → IsIn o os → IsIn o ps) → (ss : List Scope) → AreVisible v os ss → AreVisible v ps ss
visible-more v os ps f ss h = each_weaker _ _ (λ (x : Scope) k. each_weaker _ _ (λ (e : ℕ × Meaning) q. one e.1 q) x.names k) ss h
  where
    one : (m : Meaning) → IsVisible v os m → IsVisible v ps m
    one (ObjectName o) q = λ e. f o (q e)
    one (FunctionName g) q = q
    one (TypedefOf t) q = q
    one (ConstantOf k) q = q

pub here-entered : (v : WholeUnit) (os : List ℕ) (s : State) → Here v os s → Here v os (in_new_scope s)
here-entered v os s h = record { evaluated = h.evaluated; visible = each_append _ s.scopes (no_scope ∷ []) h.visible (tt, tt) }

pub here-left : (v : WholeUnit) (os : List ℕ) (t : State) → Here v os t → Here v os (behind_scope t)
here-left v os t h = record { evaluated = h.evaluated; visible = each-take _ (length t.scopes - 1) t.scopes h.visible }

module _ (v : WholeUnit) (done : IsFinished v) where
  -- what was typed in a scope that ends with it
  pub leaving-gives : {A : Type 0} (s : State) (Q T : After A → Type 0) (o : Option (After A)) → ((x : After A) → Outer (in_new_scope s).scopes x.state.scopes → Q x → T (record { value = x.value; state = behind_scope x.state }))
      → Gives ⊥ v [] U (in_new_scope s) Q o → Gives ⊥ v [] U s T (leaving o)
  leaving-gives s Q T None f h = gives-none ⊥ v [] U s T
  leaving-gives s Q T (Some x) f h =
      let r = h.held x refl in
      gives-some ⊥ v [] U s T (record { value = x.value; state = behind_scope x.state }) (left-moves ⊥ ⊥ v [] s x.state r.0)
      (λ l p g. let z = r.1 (record { unit = l.unit; used = l.used }) p (entered-proper v s g) in (left-proper v s x.state g.some r.0.outer z.0, f x r.0.outer z.1, z.2))

  pub leave-statement : (r : Ty) (s : State) (x : After TypedStatement) → StatementIn v r (in_new_scope s) x → StatementIn v r s (record { value = x.value; state = behind_scope x.state })
  leave-statement r s x h = record { plain = h.plain; typed = λ k os here avoid. let z = h.typed k os (here-entered v os s here) avoid in (z.0, here-left v os x.state z.1) }

  -- a statement in a scope of its own (6.8.4p3, 6.8.5p5)
  pub inner : (r : Ty) (P : Type 0) (s : State) (o : Option (After TypedStatement)) → Gives ⊥ v [] U (in_new_scope s) (StatementIn v r (in_new_scope s)) o → Gives ⊥ v [] P s (StatementIn v r s) (leaving o)
  inner r P s o h = gives-weaker ⊥ ⊥ U P v [] s (StatementIn v r s) (StatementIn v r s) (leaving o) (λ f. f) (λ p. tt) (λ a q. q)
      (leaving-gives s (StatementIn v r (in_new_scope s)) (StatementIn v r s) o (λ x o q. leave-statement r s x q) h)

  abbrev pub IsConditionIn : State → After TypedTree → Type 0
  IsConditionIn s = Behind v s (λ os x. IsCondition v os x)

  -- a statement that is made of what was typed: its last part ends in b.state
  pub made-statement : (r : Ty) (s : State) (x : TypedStatement) (b : State) → StatementIn v r s (record { value = x; state = b }) → (y : TypedStatement) → Some x ≡ Some y → StatementIn v r s (record { value = y; state = b })
  made-statement r s x b h y e = as-made (λ z. StatementIn v r s (record { value = z; state = b })) x y h e

  -- 6.8.4.1
  pub if-gives : (r : Ty) (line : ℕ) (a : ExpressionTree) → HasCharacters a → (body : State → Option (After TypedStatement)) → ((t : State) → t.unevaluated ≡ false → Gives ⊥ v [] U t (StatementIn v r t) (body t)) → (s : State) → s.unevaluated ≡ false
      → Gives ⊥ v [] U s (StatementIn v r s) (and_then (condition a s) (λ c. and_then (leaving (body (in_new_scope c.state))) (if_made line c.value)))
  if-gives r line a chars body h s ev =
      gives-then ⊥ v [] U s (IsConditionIn s) (StatementIn v r s) (condition a s) (λ c. and_then (leaving (body (in_new_scope c.state))) (if_made line c.value)) (condition-gives v done a chars s)
      (λ c m. gives-then ⊥ v [] (U × IsConditionIn s c) c.state (StatementIn v r c.state) (StatementIn v r s) (leaving (body (in_new_scope c.state))) (if_made line c.value) (inner r (U × IsConditionIn s c) c.state (body (in_new_scope c.state)) (h (in_new_scope c.state) (m.evaluated ∙ ev)))
      (λ b n. gives-here ⊥ v [] ((U × IsConditionIn s c) × StatementIn v r c.state b) b.state (StatementIn v r s) (Some (typed.If line c.value b.value))
      (λ y e l p g. made-statement r s (typed.If line c.value b.value) b.state (record {
        plain = refl;
        typed = λ k os here avoid.
            let z = p.0.1 os here in
            let w = p.1.typed k os z.1 (avoids-within (count s) (count b.state) (count c.state) (count b.state) os m.count (omega arith) avoid) in
            ((z.0, w.0), w.1);
      }) y e)))

  -- 6.8.5.1: the same with `while_made`
  pub while-gives : (r : Ty) (line : ℕ) (a : ExpressionTree) → HasCharacters a → (body : State → Option (After TypedStatement)) → ((t : State) → t.unevaluated ≡ false → Gives ⊥ v [] U t (StatementIn v r t) (body t)) → (s : State) → s.unevaluated ≡ false
      → Gives ⊥ v [] U s (StatementIn v r s) (and_then (condition a s) (λ c. and_then (leaving (body (in_new_scope c.state))) (while_made line c.value)))
  while-gives r line a chars body h s ev =
      gives-then ⊥ v [] U s (IsConditionIn s) (StatementIn v r s) (condition a s) (λ c. and_then (leaving (body (in_new_scope c.state))) (while_made line c.value)) (condition-gives v done a chars s)
      (λ c m. gives-then ⊥ v [] (U × IsConditionIn s c) c.state (StatementIn v r c.state) (StatementIn v r s) (leaving (body (in_new_scope c.state))) (while_made line c.value) (inner r (U × IsConditionIn s c) c.state (body (in_new_scope c.state)) (h (in_new_scope c.state) (m.evaluated ∙ ev)))
      (λ b n. gives-here ⊥ v [] ((U × IsConditionIn s c) × StatementIn v r c.state b) b.state (StatementIn v r s) (Some (typed.While line c.value b.value))
      (λ y e l p g. made-statement r s (typed.While line c.value b.value) b.state (record {
        plain = refl;
        typed = λ k os here avoid.
            let z = p.0.1 os here in
            let w = p.1.typed k os z.1 (avoids-within (count s) (count b.state) (count c.state) (count b.state) os m.count (omega arith) avoid) in
            ((z.0, w.0), w.1);
      }) y e)))

  -- 6.8.4.1: with `else`: the first body is `Kept` by what its second leaves (`kept-before`)
  pub else-gives : (r : Ty) (line : ℕ) (a : ExpressionTree) → HasCharacters a → (body other : State → Option (After TypedStatement)) → ((t : State) → t.unevaluated ≡ false → Gives ⊥ v [] U t (StatementIn v r t) (body t))
      → ((t : State) → t.unevaluated ≡ false → Gives ⊥ v [] U t (StatementIn v r t) (other t)) → (s : State) → s.unevaluated ≡ false
      → Gives ⊥ v [] U s (StatementIn v r s) (and_then (condition a s) (λ c. and_then (leaving (body (in_new_scope c.state))) (λ b. and_then (leaving (other (in_new_scope b.state))) (else_made line c.value b.value))))
  else-gives r line a chars body other h k s ev =
      gives-then ⊥ v [] U s (IsConditionIn s) (StatementIn v r s) (condition a s) (λ c. and_then (leaving (body (in_new_scope c.state))) (λ b. and_then (leaving (other (in_new_scope b.state))) (else_made line c.value b.value))) (condition-gives v done a chars s)
      (λ c m. gives-then ⊥ v [] (U × IsConditionIn s c) c.state (StatementIn v r c.state) (StatementIn v r s) (leaving (body (in_new_scope c.state))) (λ b. and_then (leaving (other (in_new_scope b.state))) (else_made line c.value b.value))
      (inner r (U × IsConditionIn s c) c.state (body (in_new_scope c.state)) (h (in_new_scope c.state) (m.evaluated ∙ ev)))
      (λ b n. gives-then ⊥ v [] ((U × IsConditionIn s c) × StatementIn v r c.state b) b.state (StatementIn v r b.state) (StatementIn v r s) (leaving (other (in_new_scope b.state))) (else_made line c.value b.value)
      (inner r ((U × IsConditionIn s c) × StatementIn v r c.state b) b.state (other (in_new_scope b.state)) (k (in_new_scope b.state) (n.evaluated ∙ m.evaluated ∙ ev)))
      (λ d i. gives-here ⊥ v [] (((U × IsConditionIn s c) × StatementIn v r c.state b) × StatementIn v r b.state d) d.state (StatementIn v r s) (Some (typed.IfElse line c.value b.value d.value))
      (λ y e l p g. made-statement r s (typed.IfElse line c.value b.value d.value) d.state (record {
        plain = refl;
        typed = λ kept os here avoid.
            let z = p.0.0.1 os here in
            let w = p.0.1.typed (kept-before v b.state d.state i kept) os z.1 (avoids-within (count s) (count d.state) (count c.state) (count b.state) os m.count i.count avoid) in
            let x = p.1.typed kept os w.1 (avoids-within (count s) (count d.state) (count b.state) (count d.state) os (let u = m.count in let v = n.count in omega (arith, u, v)) (omega arith) avoid) in
            ((z.0, w.0, x.0), x.1);
      }) y e))))

  -- 6.8.2p2: a block
  pub block-typed : (r : Ty) (line : ℕ) (s : State) (x : After (List TypedStatement)) → Outer (in_new_scope s).scopes x.state.scopes → ItemsIn v r (in_new_scope s) x → StatementIn v r s (record { value = block_of line x.value; state = behind_scope x.state })
  block-typed r line s x outer h = record {
    plain = refl;
    typed = λ kept os here avoid.
        let ds = declared_in x.value in
        let more : Here v (ds ++ os) (in_new_scope s) = record { evaluated = here.evaluated; visible = visible-more v os (ds ++ os) (λ o i. in-behind ds os o i) (in_new_scope s).scopes (here-entered v os s here).visible } in
        let t = h.typed kept (ds ++ os) more (all-in ds (ds ++ os) (λ d i. in-front ds os d i)) (beside (count s) (count x.state) ds os avoid) in (
          (h.made kept, new-beside (count s) (count x.state) ds os h.fresh h.once avoid, t.0),
          record { evaluated = (t.1).evaluated; visible = subst (AreVisible v os) (sym (left-scopes s.scopes x.state.scopes outer)) here.visible },
        );
  }

  -- ---- items of a block, one behind the others

  declared-append : (xs ys : List TypedStatement) → declared_in (xs ++ ys) ≡ declared_in xs ++ declared_in ys
  declared-append [] ys = refl
  declared-append (x ∷ xs) ys = ap (λ ns. declared_by x ++ ns) (declared-append xs ys) ∙ sym (append_assoc (declared_by x) (declared_in xs) (declared_in ys))

  typed-append : (r : Ty) (os : List ℕ) (xs ys : List TypedStatement) → AreTypedStatements v r os (statements_of xs) → AreTypedStatements v r os (statements_of ys) → AreTypedStatements v r os (statements_of (xs ++ ys))
  typed-append r os [] ys h k = k
  typed-append r os (typed.Declare line o ∷ xs) ys h k = (h.0, typed-append r os xs ys h.1 k)
  typed-append r os (_ ∷ xs) ys h k = (h.0, typed-append r os xs ys h.1 k)

  -- a statement alone, which is no declaration
  typed-one : (r : Ty) (os : List ℕ) (x : TypedStatement) → IsTypedStatement v r os x → AreTypedStatements v r os (statements_of (x ∷ []))
  typed-one r os (typed.Declare line o) h = absurd h
  typed-one r os _ h = (h, tt)

  -- two lists, of which each number of the first lies below those of the second
  new-append : (m : ℕ) (ds es : List ℕ) → Each (λ o. o < m) ds → Each (λ o. m ≤ o) es → AreNew ds [] → AreNew es [] → AreNew (ds ++ es) []
  new-append m [] es below above once more = more
  new-append m (d ∷ ds) es below above once more = (λ h. by (in-append ds es d (subst (IsIn d) (append-nil (ds ++ es)) h)), new-append m ds es below.1 above once.1 more)
    where
      apart : (es : List ℕ) → Each (λ o. m ≤ o) es → IsIn d es → ⊥
      apart [] a k = k
      apart (e ∷ es) a (inl q) = let l = below.0 in let g = a.0 in omega (arith, l, g, q)
      apart (e ∷ es) a (inr k) = apart es a.1 k

      by : IsIn d ds ⊎ IsIn d es → ⊥
      by (inl k) = once.0 (subst (IsIn d) (sym (append-nil ds)) k)
      by (inr k) = apart es above k

  in-each : (P : ℕ → Type 0) (ds : List ℕ) (o : ℕ) → Each P ds → IsIn o ds → P o
  in-each P [] o h k = absurd k
  in-each P (d ∷ ds) o h (inl e) = subst P (sym e) h.0
  in-each P (d ∷ ds) o h (inr k) = in-each P ds o h.1 k

  -- what the ones and the others declare lies apart
  pub joined-items : (r : Ty) (s : State) (l x : After (List TypedStatement)) → Moves ⊥ v [] s l.state → Moves ⊥ v [] l.state x.state → ItemsIn v r s l → ItemsIn v r l.state x → ItemsIn v r s (record { value = l.value ++ x.value; state = x.state })
  joined-items r s l x m n h k = record {
    fresh = subst (λ ns. Each (λ o. (count s ≤ o) × (o < count x.state)) ns) (sym both)
        (each_append (λ o. (count s ≤ o) × (o < count x.state)) (declared_in l.value) (declared_in x.value)
        (each_weaker (λ o. (count s ≤ o) × (o < count l.state)) (λ o. (count s ≤ o) × (o < count x.state)) (λ o q. (q.0, early o q.1)) (declared_in l.value) h.fresh)
        (each_weaker (λ o. (count l.state ≤ o) × (o < count x.state)) (λ o. (count s ≤ o) × (o < count x.state)) (λ o q. (late o q.0, q.1)) (declared_in x.value) k.fresh));
    once = subst (λ ns. AreNew ns []) (sym both)
        (new-append (count l.state) (declared_in l.value) (declared_in x.value)
        (each_weaker (λ o. (count s ≤ o) × (o < count l.state)) (λ o. o < count l.state) (λ o q. q.1) (declared_in l.value) h.fresh)
        (each_weaker (λ o. (count l.state ≤ o) × (o < count x.state)) (λ o. count l.state ≤ o) (λ o q. q.0) (declared_in x.value) k.fresh) h.once k.once);
    made = λ kept. subst (λ ns. Each (IsMakeable v false) ns) (sym both) (each_append (IsMakeable v false) (declared_in l.value) (declared_in x.value) (h.made (kept-before v l.state x.state n kept)) (k.made kept));
    typed = λ kept os here there others.
        let inside = subst (λ ns. AreIn ns os) both there in
        let z = h.typed (kept-before v l.state x.state n kept) os here (each_left (λ d. IsIn d os) (declared_in l.value) (declared_in x.value) inside) (λ o i. first o (others o i)) in
        let w = k.typed kept os z.1 (each_right (λ d. IsIn d os) (declared_in l.value) (declared_in x.value) inside) (λ o i. second o (others o i)) in
        (typed-append r os l.value x.value z.0 w.0, w.1);
  }
    where
      both : declared_in (l.value ++ x.value) ≡ declared_in l.value ++ declared_in x.value
      both = declared-append l.value x.value

      early : (o : ℕ) → o < count l.state → o < count x.state
      early o q = let c = n.count in omega (arith, c, q)

      late : (o : ℕ) → count l.state ≤ o → count s ≤ o
      late o q = let c = m.count in omega (arith, c, q)

      late-end : (o : ℕ) → count x.state ≤ o → count l.state ≤ o
      late-end o q = let c = n.count in omega (arith, c, q)

      early-start : (o : ℕ) → o < count s → o < count l.state
      early-start o q = let c = m.count in omega (arith, c, q)

      first-of : (o : ℕ) → IsIn o (declared_in l.value) ⊎ IsIn o (declared_in x.value) → ((o < count s) ⊎ (count l.state ≤ o)) ⊎ IsIn o (declared_in l.value)
      first-of o (inl i) = inr i
      first-of o (inr i) = inl (inr (in-each (λ d. (count l.state ≤ d) × (d < count x.state)) (declared_in x.value) o k.fresh i).0)

      first : (o : ℕ) → ((o < count s) ⊎ (count x.state ≤ o)) ⊎ IsIn o (declared_in (l.value ++ x.value)) → ((o < count s) ⊎ (count l.state ≤ o)) ⊎ IsIn o (declared_in l.value)
      first o (inl (inl q)) = inl (inl q)
      first o (inl (inr q)) = inl (inr (late-end o q))
      first o (inr i) = first-of o (in-append (declared_in l.value) (declared_in x.value) o (subst (IsIn o) both i))

      second-of : (o : ℕ) → IsIn o (declared_in l.value) ⊎ IsIn o (declared_in x.value) → ((o < count l.state) ⊎ (count x.state ≤ o)) ⊎ IsIn o (declared_in x.value)
      second-of o (inl i) = inl (inl (in-each (λ d. (count s ≤ d) × (d < count l.state)) (declared_in l.value) o h.fresh i).1)
      second-of o (inr i) = inr i

      second : (o : ℕ) → ((o < count s) ⊎ (count x.state ≤ o)) ⊎ IsIn o (declared_in (l.value ++ x.value)) → ((o < count l.state) ⊎ (count x.state ≤ o)) ⊎ IsIn o (declared_in x.value)
      second o (inl (inl q)) = inl (inl (early-start o q))
      second o (inl (inr q)) = inl (inr q)
      second o (inr i) = second-of o (in-append (declared_in l.value) (declared_in x.value) o (subst (IsIn o) both i))

  -- a statement as a list of items
  pub one-item : (r : Ty) (s : State) (b : After TypedStatement) → StatementIn v r s b → ItemsIn v r s (record { value = b.value ∷ []; state = b.state })
  one-item r s b h = record {
    fresh = subst (λ ns. Each (λ o. (count s ≤ o) × (o < count b.state)) ns) (sym none) tt;
    once = subst (λ ns. AreNew ns []) (sym none) tt;
    made = λ k. subst (λ ns. Each (IsMakeable v false) ns) (sym none) tt;
    typed = λ k os here i others.
        let z = h.typed k os here (λ o q. by o (subst (λ ns. ((o < count s) ⊎ (count b.state ≤ o)) ⊎ IsIn o ns) none (others o q))) in
        (typed-one r os b.value z.0, z.1);
  }
    where
      none : declared_in (b.value ∷ []) ≡ []
      none = append-nil (declared_by b.value) ∙ h.plain

      by : (o : ℕ) → ((o < count s) ⊎ (count b.state ≤ o)) ⊎ IsIn o [] → (o < count s) ⊎ (count b.state ≤ o)
      by o (inl q) = q
      by o (inr q) = absurd q
