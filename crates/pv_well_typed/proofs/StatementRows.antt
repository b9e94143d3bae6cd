-- Parts of statements (C17 6.8): expressions, conditions, `return`, the controlling expression of a `switch`: each is well typed, of expressions
-- that are so.
use Rattle.std.proofs.Common.{◌≡◌, ℕ, true, false, Option, Some, None, List, [], refl, sym, ap, subst, ◌∙◌}
use Rattle.pv_num.specs.declared.kinds.IntKind.{IntKind}
use Rattle.pv_num.specs.Arithmetic.{IsPromoted}
use Rattle.pv_tree.specs.Syntax.{ExpressionTree, OptionalTree, Absent, Present, OfExpression, OfDeclaration, OfDeclarator, OfSpecifier, OfInitializer, OfStatement}
use Rattle.pv_types.specs.Ty.{Ty, VoidTy, IntTy, PointerTo, ArrayOf, StructTag, UnionTag, FunctionTy, ConstOf}
use Rattle.pv_typed.specs.TypedTree.{TypedTree, type_of}
use Rattle.pv_typed.specs.TypedUnits.{WholeUnit}
use Rattle.pv_num.specs.Kinds.{promotion_of}
use Rattle.pv_check.specs.Rows.{operand}
use Rattle.pv_types.specs.Sorts.{kind_of, is_scalar, is_void_in, bare_type, is_void as is_none}
use Rattle.pv_check.specs.State.{State, After, give}
use Rattle.pv_typed.specs.Constants.{and_then}
use Rattle.pv_check.specs.Typing.{types}
use Rattle.pv_check.specs.Values.{promotion, promoted_value}
use Rattle.pv_unit.specs.Statements.{taken_value, condition, expression_if_any, Switched, switch_value}
use Rattle.pv_unit.specs.StatementParts.{if_scalar, some_value, switched_by}
use Rattle.pv_guards.specs.Typed.{IsTyped, HasType}
use Rattle.pv_guards.specs.TypedStatements.{IsCondition}
use Rattle.pv_well_typed.specs.Proper.{IsValueOrVoid}
use Rattle.pv_well_typed.specs.Later.{IsFinished, Later}
use Rattle.pv_well_typed.specs.ProperStates.{IsProperState, AreVisible}
use Rattle.pv_well_typed.specs.Characters.{HasCharacters}
use Rattle.pv_well_typed.proofs.Types.{scalar-type}
use Rattle.pv_well_typed.proofs.Operands.{IsOperand, has-value, has-type, integer-converted, as-made, some-same}
use Rattle.pv_well_typed.proofs.Promotions.{promoted-wide}
use Rattle.pv_well_typed.proofs.Moving.{HasMade, none-made, Moves, Gives, same-moves, gives-none, gives-some, gives-here, gives-then, gives-if, gives-weaker, gives-operand}
use Rattle.pv_well_typed.proofs.Walk.{U, types-gives}

-- what stands in a body: it is evaluated, and the objects with automatic storage that names stand for are these
pub record Here (v : WholeUnit) (os : List ℕ) (s : State) : Type 0 where
  pub evaluated : s.unevaluated ≡ false
  pub visible : AreVisible v os s.scopes

-- what was typed in a body has R, whichever objects live there
abbrev pub Behind : {A : Type 0} → WholeUnit → State → (List ℕ → A → Type 0) → After A → Type 0
Behind v s R a = (os : List ℕ) → Here v os s → R os a.value × Here v os a.state

-- 6.8.6.4p1: `void` in the words of both crates
pub void-none : (t : Ty) → is_void_in (bare_type t) ≡ true → is_none t ≡ true
void-none VoidTy e = refl
void-none (IntTy k) e = absurd cc
void-none (PointerTo t) e = absurd cc
void-none (ArrayOf t n) e = absurd cc
void-none (StructTag n) e = absurd cc
void-none (UnionTag n) e = absurd cc
void-none (FunctionTy t ts c) e = absurd cc
void-none (ConstOf t) e = void-none t e

-- the mandatory optional part of a controlling expression (6.8.5.3p2)
abbrev pub IsMaybe : (List ℕ → TypedTree → Type 0) → List ℕ → Option TypedTree → Type 0
IsMaybe R os None = U
IsMaybe R os (Some x) = R os x

module _ (v : WholeUnit) (done : IsFinished v) where
  -- 6.3.2.1p2: an expression, and its value taken
  pub valued-everywhere : (e : ExpressionTree) → HasCharacters e → (s : State) → Gives U v [] U s (Behind v s (λ os x. IsOperand U v os x)) (taken_value e s)
  valued-everywhere e chars s = record { held = λ a q. next a q }
    where
      next : (a : After TypedTree) → operand (types e s) ≡ Some a → Moves U v [] s a.state × (Later a.state v → U → IsProperState v s → IsProperState v a.state × Behind v s (λ os x. IsOperand U v os x) a × HasMade v s a.state)
      next a q =
          let r = (gives-operand ⊥ U v [] done U s (types e s) (types-gives v [] done e false s (λ i. absurd i) (λ i. absurd i))).held a q in (
            record { later = r.0.later; outer = r.0.outer; grows = r.0.grows; names = r.0.names; evaluated = r.0.evaluated; functions = r.0.functions; spelled = r.0.spelled; noted = r.0.noted; orderly = r.0.orderly; count = r.0.count; older = r.0.older },
            λ l p g.
                let k = r.1 l p g in (
                  k.0,
                  λ os h.
                      let z = (gives-operand U U v os done U s (types e s) (types-gives v os done e true s (λ i. (h.evaluated, h.visible)) (λ i. chars))).held a q in
                      ((z.1 l p g).1, record { evaluated = z.0.evaluated ∙ h.evaluated; visible = z.0.names tt v os h.visible }),
                  k.2,
                ),
          )

  pub valued-gives : (e : ExpressionTree) → HasCharacters e → (s : State) → Gives ⊥ v [] U s (Behind v s (λ os x. IsOperand U v os x)) (taken_value e s)
  valued-gives e chars s =
      gives-weaker U ⊥ U U v [] s (Behind v s (λ os x. IsOperand U v os x)) (Behind v s (λ os x. IsOperand U v os x)) (taken_value e s) (λ f. absurd f) (λ p. p) (λ a q. q) (valued-everywhere e chars s)

  -- 6.8.4.1p1, 6.8.5p2: a condition
  pub condition-gives : (e : ExpressionTree) → HasCharacters e → (s : State) → Gives ⊥ v [] U s (Behind v s (λ os x. IsCondition v os x)) (condition e s)
  condition-gives e chars s =
      gives-then ⊥ v [] U s (Behind v s (λ os x. IsOperand U v os x)) (Behind v s (λ os x. IsCondition v os x)) (taken_value e s) if_scalar (valued-gives e chars s)
      (λ a m. gives-if ⊥ v [] (U × Behind v s (λ os x. IsOperand U v os x) a) a.state (Behind v s (λ os x. IsCondition v os x)) (is_scalar (type_of a.value)) (Some a)
      (λ e. gives-some ⊥ v [] (U × Behind v s (λ os x. IsOperand U v os x) a) a.state (Behind v s (λ os x. IsCondition v os x)) a (same-moves ⊥ v [] a.state)
      (λ l p g. (g, λ os h. let z = p.1 os h in ((z.0.typed tt, has-value U v os a.value z.0, scalar-type (type_of a.value) z.0.plain e), z.1), none-made v a.state a.state refl))))

  -- 6.8.3p3, 6.8.5.3p2: an expression that may be left out
  pub optional-gives : (R : List ℕ → TypedTree → Type 0) (typed : ExpressionTree → State → Option (After TypedTree)) (C : ExpressionTree → Type 0)
      → ((e : ExpressionTree) → C e → (s : State) → Gives ⊥ v [] U s (Behind v s R) (typed e s)) → (o : OptionalTree) → ((e : ExpressionTree) → o ≡ Present (OfExpression e) → C e) → (s : State)
      → Gives ⊥ v [] U s (Behind v s (IsMaybe R)) (expression_if_any typed o s)
  optional-gives R typed C h Absent c s =
      gives-here ⊥ v [] U s (Behind v s (IsMaybe R)) (Some None) (λ x e l p g os k. as-made (λ (y : Option TypedTree). IsMaybe R os y × Here v os s) None x (tt, k) e)
  optional-gives R typed C h (Present (OfExpression a)) c s =
      gives-then ⊥ v [] U s (Behind v s R) (Behind v s (IsMaybe R)) (typed a s) some_value (h a (c a refl) s)
      (λ x m. gives-here ⊥ v [] (U × Behind v s R x) x.state (Behind v s (IsMaybe R)) (Some (Some x.value)) (λ y e l p g os k. as-made (λ (z : Option TypedTree). IsMaybe R os z × Here v os x.state) (Some x.value) y (p.1 os k) e))
  optional-gives R typed C h (Present (OfDeclaration x)) c s = gives-none ⊥ v [] U s (Behind v s (IsMaybe R))
  optional-gives R typed C h (Present (OfDeclarator x)) c s = gives-none ⊥ v [] U s (Behind v s (IsMaybe R))
  optional-gives R typed C h (Present (OfSpecifier x)) c s = gives-none ⊥ v [] U s (Behind v s (IsMaybe R))
  optional-gives R typed C h (Present (OfInitializer x)) c s = gives-none ⊥ v [] U s (Behind v s (IsMaybe R))
  optional-gives R typed C h (Present (OfStatement x)) c s = gives-none ⊥ v [] U s (Behind v s (IsMaybe R))

  -- ---- 6.8.4.2: the controlling expression of a `switch`

  pub record IsSwitched (os : List ℕ) (x : Switched) : Type 0 where
    pub typed : IsTyped v os x.value
    pub is : HasType x.value (IntTy x.kind)
    pub wide : IsPromoted x.kind

  promoted-switched : (os : List ℕ) (a : TypedTree) → IsOperand U v os a → (t : Ty) → type_of a ≡ t → (k : IntKind) → kind_of (type_of (promotion a t)) ≡ Some k → IsSwitched os (record { value = promotion a t; kind = k })
  promoted-switched os a h (IntTy j) is k e =
      let c = integer-converted U v os j (promotion_of j) a h is in
      let same : promotion_of j ≡ k = some-same (promotion_of j) k (sym (ap kind_of c.is) ∙ e) in
      record {
        typed = c.typed tt;
        is = subst (λ i. HasType (promotion a (IntTy j)) (IntTy i)) same (has-type U v os (IntTy (promotion_of j)) (promotion a (IntTy j)) c);
        wide = subst IsPromoted same (promoted-wide j);
      }
  promoted-switched os a h VoidTy is k e = let q : kind_of VoidTy ≡ Some k = sym (ap kind_of is) ∙ e in absurd cc
  promoted-switched os a h (PointerTo t) is k e = let q : kind_of (PointerTo t) ≡ Some k = sym (ap kind_of is) ∙ e in absurd cc
  promoted-switched os a h (StructTag n) is k e = let q : kind_of (StructTag n) ≡ Some k = sym (ap kind_of is) ∙ e in absurd cc
  promoted-switched os a h (UnionTag n) is k e = let q : kind_of (UnionTag n) ≡ Some k = sym (ap kind_of is) ∙ e in absurd cc
  promoted-switched os a h (ArrayOf t n) is k e = let q : kind_of (ArrayOf t n) ≡ Some k = sym (ap kind_of is) ∙ e in absurd cc
  promoted-switched os a h (FunctionTy t ts c) is k e = let q : kind_of (FunctionTy t ts c) ≡ Some k = sym (ap kind_of is) ∙ e in absurd cc
  promoted-switched os a h (ConstOf t) is k e = absurd (subst IsValueOrVoid is h.plain)

  pub switched-gives : (e : ExpressionTree) → HasCharacters e → (s : State) → Gives ⊥ v [] U s (Behind v s IsSwitched) (switch_value e s)
  switched-gives e chars s =
      gives-then ⊥ v [] U s (Behind v s (λ os x. IsOperand U v os x)) (Behind v s IsSwitched) (taken_value e s) switched_by (valued-gives e chars s) (λ a m. by a (kind_of (type_of (promoted_value a.value))) refl)
    where
      by : (a : After TypedTree) (o : Option IntKind) → kind_of (type_of (promoted_value a.value)) ≡ o
          → Gives ⊥ v [] (U × Behind v s (λ os x. IsOperand U v os x) a) a.state (Behind v s IsSwitched) (and_then o (λ k. give (Some (record { value = promoted_value a.value; kind = k })) a.state))
      by a None q = gives-none ⊥ v [] (U × Behind v s (λ os x. IsOperand U v os x) a) a.state (Behind v s IsSwitched)
      by a (Some k) q =
          gives-here ⊥ v [] (U × Behind v s (λ os x. IsOperand U v os x) a) a.state (Behind v s IsSwitched) (Some (record { value = promoted_value a.value; kind = k }))
          (λ y z l p g os h. let w = p.1 os h in as-made (λ (x : Switched). IsSwitched os x × Here v os a.state) (record { value = promoted_value a.value; kind = k }) y (promoted-switched os a.value w.0 (type_of a.value) refl k q, w.1) z)
