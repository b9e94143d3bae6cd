-- Typed statements and calls of functions are executed with the guards as without them (C17 6.5.2.2, 6.8).
use Rattle.std.proofs.Common.{◌≡◌, ℕ, ◌<◌, ℤ, Bool, true, false, ◌||◌, List, [], ◌∷◌, ◌++◌, Some, None, refl, sym, ◌∙◌, subst, inl, inr, arith}
use Rattle.std.specs.Prelude.{if◌then◌else◌}
use Rattle.std.specs.declared.option.Option.{Option}
use Rattle.std.proofs.lemmas.Option.{none-some}
use Rattle.pv_num.specs.declared.kinds.IntKind.TheVariants.{Int}
use Rattle.pv_types.specs.Ty.{Ty, VoidTy, IntTy, PointerTo, ArrayOf, StructTag, UnionTag, FunctionTy, ConstOf}
use Rattle.pv_types.specs.Layouts.{Entry}
use Rattle.pv_types.specs.Sorts.{bare_type, is_void as is_none}
use Rattle.pv_typed.specs.Known.{Each}
use Rattle.pv_typed.specs.TypedTree.{TypedTree, line_of}
use Rattle.pv_typed.specs.TypedStatement.{TypedStatement, Block, Declare, Expression, Empty, If, IfElse, Switch, Case, Default, While, DoWhile, For, ForDeclaration, Continue, Break, Return, Statements, NoStatements, MoreStatements}
use Rattle.pv_typed.specs.TypedUnits.{TypedObject, Store, StoredValue, ValueOf, TextOf, layouts, object_at, literal_at}
use Rattle.pv_world.specs.Worlds.{Worth, Nothing, Missing, World, Body}
use Rattle.pv_world.specs.Worths.{is_true, int_of}
use Rattle.pv_eval.specs.States.{Setting, State, Res, Gives, then_do, tick, spend}
use Rattle.pv_eval.specs.TypeForms.{lvalue, size_of}
use Rattle.pv_eval.specs.Sequenced.{Given}
use Rattle.pv_eval.specs.OfRuns.{with_conversion, accepted_value}
use Rattle.pv_eval.specs.Evaluation.{ev}
use Rattle.pv_eval.specs.Operations.{Op, Tests, Accepts, Needs, Makes, Ends, Fills, Puts, PutsText, act}
use Rattle.pv_exec.specs.Flows.{Flow, Falls, Breaks, Continues, Returns, Below, nothing_done, falls, goes_on, behind_switch}
use Rattle.pv_exec.specs.OfRuns.{full_expression, testing, stores_value, begin_fill, declares, if_tested, then_step, round, round_do, returns_value, end_all, in_block, ex, exs, exs_at}
use Rattle.pv_exec.specs.Lists.{make_all, store_all}
use Rattle.pv_exec.specs.Labels.{Target, ToCase, ToDefault, ToNone, target_of, is_target, unless_none}
use Rattle.pv_exec.specs.LabelParts.{some_case, some_default}
use Rattle.pv_exec.specs.Switches.{some_target}
use Rattle.pv_exec.specs.Execution.{ex_by}
use Rattle.pv_guards.specs.Worths.{IsOfType, IsThere}
use Rattle.pv_guards.specs.Typed.{IsTyped, HasType, IsValueType, IsScalarType, IsIn, given_type}
use Rattle.pv_guards.specs.Soundness.{Value, IsSound, IsAfter}
use Rattle.pv_guards.specs.Plain.{act_plainly}
use Rattle.pv_guards.specs.PlainRun as plain
use Rattle.pv_guards.specs.PlainParts as parts
use Rattle.pv_guards.specs.PlainLists as lists
use Rattle.pv_guards.specs.Promises.{Promised}
use Rattle.pv_guards.specs.TypedStatements.{IsMakeable, AreNew, IsCondition, MayBeCondition, MayBeTyped, IsReturned, LiesIn, IsInitializer, AreInitializers, IsTypedStatement, AreTypedStatements}
use Rattle.pv_guards.specs.Laws.{CallsAgree}
use Rattle.pv_guards.proofs.Fair.{Keeps}
use Rattle.pv_guards.proofs.Triples.{Holds, Gave}
use Rattle.pv_guards.proofs.Leaving.{ordered, after-both, value-later}
use Rattle.pv_guards.proofs.Acting as acting
use Rattle.pv_guards.proofs.Expressions.{converted-way}
use Rattle.pv_guards.proofs.Concluding.{asked, typed}
use Rattle.pv_guards.proofs.Sure.{Sure, sure-seq, sure-more, sure-if, sure-tick, lands-more, after-lands, holds-sure}
use Rattle.pv_guards.proofs.Values.{from-bare}
use Rattle.pv_guards.proofs.Objects.{Within, later-after, sound-less, own-after, in-scope, fills-holds, puts-holds, text-holds, makes-sure, ends-sure}

pub none-nothing : (env : List Entry) (r : Ty) → is_none r ≡ true → IsOfType env r Nothing
none-nothing env VoidTy e = tt
none-nothing env (ConstOf t) e = none-nothing env t e
none-nothing env (IntTy k) e = absurd cc
none-nothing env (PointerTo t) e = absurd cc
none-nothing env (ArrayOf t n) e = absurd cc
none-nothing env (StructTag n) e = absurd cc
none-nothing env (UnionTag n) e = absurd cc
none-nothing env (FunctionTy t ts c) e = absurd cc

pub value-missing : (env : List Entry) (t : Ty) → IsValueType t → IsOfType env t Missing
value-missing env (IntTy k) h = tt
value-missing env (PointerTo t) h = tt
value-missing env (StructTag n) h = tt
value-missing env (UnionTag n) h = tt
value-missing env VoidTy h = absurd h
value-missing env (ArrayOf t n) h = absurd h
value-missing env (FunctionTy t ts c) h = absurd h
value-missing env (ConstOf t) h = absurd h

pub moved-in : (d : ℕ) (ds os : List ℕ) (n : ℕ) → IsIn n (d ∷ ds ++ os) → IsIn n (ds ++ d ∷ os)
moved-in d [] os n h = h
moved-in d (e ∷ ds) os n (inl x) = inr (moved-in d ds os n (inl x))
moved-in d (e ∷ ds) os n (inr (inl y)) = inl y
moved-in d (e ∷ ds) os n (inr (inr z)) = inr (moved-in d ds os n (inr z))

pub before-in : (ds : List ℕ) (n : ℕ) → IsIn n ds → IsIn n (ds ++ [])
before-in (d ∷ ds) n (inl e) = inl e
before-in (d ∷ ds) n (inr h) = inr (before-in ds n h)
before-in [] n h = absurd h

-- 6.8p2, 6.8.6.4p3: a value that is returned is one of the function's result, and there
abbrev pub FlowOf : Setting → Ty → Flow → World → Type 0
FlowOf b r (Returns v) z = Value b z r v × IsThere v
FlowOf b r Falls z = Unit {0}
FlowOf b r Breaks z = Unit {0}
FlowOf b r Continues z = Unit {0}

pub flow-later : (b : Setting) (r : Ty) (fl : Flow) (w z : World) → Keeps w.memory.table z.memory.table → FlowOf b r fl w → FlowOf b r fl z
flow-later b r (Returns v) w z k h = ((h.0.0, value-later w.memory.table z.memory.table k v h.0.1), h.1)
flow-later b r Falls w z k h = tt
flow-later b r Breaks w z k h = tt
flow-later b r Continues w z k h = tt

-- within a body, left in some way
abbrev pub EndsIn : (b : Setting) (rest : List Body) (w0 : World) → Ty → (automatic : List ℕ) → Flow → World → Type 0
EndsIn b rest w0 r os fl z = Within b os rest w0 z × FlowOf b r fl z

-- 6.8.4.2p5: the label to which a `switch` jumps is among the labels of its body
abbrev Found : Target → Statements → Type 0
Found ToNone xs = Unit {0}
Found (ToCase v) xs = some_case v xs ≡ true
Found ToDefault xs = some_default xs ≡ true

target-found : (v : ℤ) (xs : Statements) → Found (target_of v xs) xs
target-found v xs = by (some_case v xs) (some_default xs) refl refl
  where
    by : (c d : Bool) → some_case v xs ≡ c → some_default xs ≡ d → Found (if c then ToCase v else (if d then ToDefault else ToNone)) xs
    by true d e f = e
    by false true e f = f
    by false false e f = tt

some-first : (at : Target) (x : TypedStatement) (xs : Statements) → some_target at (MoreStatements x xs) ≡ (is_target at x || some_target at xs)
some-first (ToCase v) x xs = refl
some-first ToDefault x xs = refl
some-first ToNone x xs = refl

right-or : (c d : Bool) → (c || d) ≡ true → c ≡ false → d ≡ true
right-or false d e f = e
right-or true d e f = absurd cc

found-behind : (at : Target) (x : TypedStatement) (xs : Statements) → some_target at (MoreStatements x xs) ≡ true → is_target at x ≡ false → some_target at xs ≡ true
found-behind at x xs e f = right-or (is_target at x) (some_target at xs) (sym (some-first at x xs) ∙ e) f

none-found : (at : Target) → some_target at NoStatements ≡ true → ⊥
none-found (ToCase v) e = absurd cc
none-found ToDefault e = absurd cc
none-found ToNone e = absurd cc

-- what lies below, with the guards and without
pub record Level (b : Setting) (u u' : Below) : Type 0 where
  pub call : (os : List ℕ) → CallsAgree b os u.call u'.call
  pub again : (rest : List Body) (w0 : World) (r : Ty) (os : List ℕ) (c step : Option TypedTree) (x : TypedStatement) → MayBeCondition b.unit os c → MayBeTyped b.unit os step → IsTypedStatement b.unit r os x
      → (s : State) → Within b os rest w0 s.world → Sure (EndsIn b rest w0 r os) (u.again c step x s) (u'.again c step x s)
  pub again_do : (rest : List Body) (w0 : World) (r : Ty) (os : List ℕ) (x : TypedStatement) (c : TypedTree) → IsTypedStatement b.unit r os x → IsCondition b.unit os c
      → (s : State) → Within b os rest w0 s.world → Sure (EndsIn b rest w0 r os) (u.again_do x c s) (u'.again_do x c s)

module _ (b : Setting) (rest : List Body) (w0 : World) where
  abbrev Inv : List ℕ → World → Type 0
  Inv os z = Within b os rest w0 z

  abbrev E : Ty → List ℕ → Flow → World → Type 0
  E r os fl z = EndsIn b rest w0 r os fl z

  inv-after : (os : List ℕ) (w z : World) → Inv os w → IsAfter w z → IsSound b os z → Inv os z
  inv-after os w z h g s = record { later = later-after h.later g; sound = s; body = (h.body.0, g.bodies ∙ h.body.1); own = own-after b os w0 w z g h.own }

  pub inv-less : (os ds : List ℕ) (z : World) → ((n : ℕ) → IsIn n os → IsIn n ds) → Inv ds z → Inv os z
  inv-less os ds z f h = record { later = h.later; sound = sound-less b os ds z f h.sound; body = h.body; own = λ o k a. h.own o (f o k) a }

  -- a piece of an expression
  abbrev Kept : {A : Type 0} → List ℕ → World → (A → World → Type 0) → A → World → Type 0
  Kept os w Q a z = IsAfter w z × Inv os z × Q a z

  pub piece : {A : Type 0} (os : List ℕ) (Q : A → World → Type 0) (m m' : State → Res A) (s : State) → Inv os s.world → Holds (ordered b os) Q s.world m m' → Sure (Kept os s.world Q) (m s) (m' s)
  piece os Q m m' s h k = sure-more _ (Kept os s.world Q) (m s) (m' s) (λ a z q. (q.0, inv-after os s.world z h q.0 q.1, q.2)) (holds-sure b os Q m m' s k h.sound)

  act-sure : (os : List ℕ) (line : ℕ) (o : Op) (t : Ty) (s : State) → Inv os s.world → Promised b os s.world o t → Sure (Kept os s.world (λ v z. Value b z t v)) (act b line o s) (act_plainly b line o s)
  act-sure os line o t s h p = piece os (λ v z. Value b z t v) (act b line o) (act_plainly b line o) s h (acting.acts b os (asked b os) line o t s.world p)

  -- 6.2.4p6: the objects of a block
  make-sure : (os ds : List ℕ) → Each (IsMakeable b.unit false) ds → (s : State) → Inv os s.world → Sure (λ v z. Inv (ds ++ os) z) (make_all b ds s) (lists.make_all b ds s)
  make-sure os [] m s h = (refl, h)
  make-sure os (d ∷ ds) m s h =
      sure-seq (λ v z. Inv (d ∷ os) z) (λ v z. Inv (d ∷ ds ++ os) z) (act b (object_at b.unit d).line (Makes d) s) (act_plainly b (object_at b.unit d).line (Makes d) s) _ _
      (makes-sure b os rest w0 (object_at b.unit d).line d s m.0 h) (λ v t k.
      sure-more (λ v z. Inv (ds ++ d ∷ os) z) (λ v z. Inv (d ∷ ds ++ os) z) (make_all b ds t) (lists.make_all b ds t) (λ v z q. inv-less (d ∷ ds ++ os) (ds ++ d ∷ os) z (moved-in d ds os) q) (make-sure (d ∷ os) ds m.1 t k))

  pub end-sure : (os ds : List ℕ) → Each (IsMakeable b.unit false) ds → AreNew ds os → (s : State) → Inv (ds ++ os) s.world → Sure (λ v z. Inv os z × Keeps s.world.memory.table z.memory.table) (end_all b ds s) (parts.end_all b ds s)
  end-sure os [] m n s h = (refl, (h, λ p k. k))
  end-sure os (d ∷ ds) m n s h =
      let line = (object_at b.unit d).line in
      sure-seq (λ v z. Inv (ds ++ os) z × Keeps s.world.memory.table z.memory.table) (λ v z. Inv os z × Keeps s.world.memory.table z.memory.table) (act b line (Ends d) s) (act_plainly b line (Ends d) s) _ _
      (ends-sure b (ds ++ os) rest w0 line d s m.0 n.0 h) (λ v t k.
      sure-more _ (λ v z. Inv os z × Keeps s.world.memory.table z.memory.table) (end_all b ds t) (parts.end_all b ds t) (λ v z q. (q.0, λ p g. q.1 p (k.1 p g))) (end-sure os ds m.1 n.1 t k.0))

  scoped-sure : (r : Ty) (os ds : List ℕ) (m m' : State → Res Flow) → Each (IsMakeable b.unit false) ds → AreNew ds os → ((s : State) → Inv (ds ++ os) s.world → Sure (E r (ds ++ os)) (m s) (m' s)) → (s : State) → Inv os s.world → Sure (E r os) (in_block b ds m s) (parts.in_block b ds m' s)
  scoped-sure r os ds m m' h new g s i =
      sure-seq (λ v z. Inv (ds ++ os) z) (E r os) (make_all b ds s) (lists.make_all b ds s) _ _ (make-sure os ds h s i) (λ v t k.
      sure-seq (E r (ds ++ os)) (E r os) (m t) (m' t) _ _ (g t k) (λ fl y q.
      sure-seq (λ v z. Inv os z × Keeps y.world.memory.table z.memory.table) (E r os) (end_all b ds y) (parts.end_all b ds y) _ _ (end-sure os ds h new y q.0) (λ v x n.
      (refl, (n.0, flow-later b r fl y.world x.world n.1 q.1)))))

  falling : (r : Ty) (os : List ℕ) (fl : Flow) (m m' : State → Res Flow) → ((s : State) → Inv os s.world → Sure (E r os) (m s) (m' s)) → (s : State) → E r os fl s.world → Sure (E r os) (falls fl m s) (falls fl m' s)
  falling r os Falls m m' h s i = h s i.0
  falling r os Breaks m m' h s i = (refl, i)
  falling r os Continues m m' h s i = (refl, i)
  falling r os (Returns v) m m' h s i = (refl, i)

  going : (r : Ty) (os : List ℕ) (fl : Flow) (m m' : State → Res Flow) → ((s : State) → Inv os s.world → Sure (E r os) (m s) (m' s)) → (s : State) → E r os fl s.world → Sure (E r os) (goes_on fl m s) (goes_on fl m' s)
  going r os Falls m m' h s i = h s i.0
  going r os Continues m m' h s i = h s i.0
  going r os Breaks m m' h s i = (refl, (i.0, tt))
  going r os (Returns v) m m' h s i = (refl, i)

  switching : (r : Ty) (os : List ℕ) (fl : Flow) (s : State) → E r os fl s.world → Sure (E r os) (behind_switch fl s) (behind_switch fl s)
  switching r os Falls s i = (refl, (i.0, tt))
  switching r os Breaks s i = (refl, (i.0, tt))
  switching r os Continues s i = (refl, i)
  switching r os (Returns v) s i = (refl, i)

  unless-way : (r : Ty) (os : List ℕ) (t : Target) (xs : Statements) (m m' : State → Res Flow) → Found t xs → (some_target t xs ≡ true → (s : State) → Inv os s.world → Sure (E r os) (m s) (m' s)) → (s : State) → Inv os s.world → Sure (E r os) (unless_none t m s) (unless_none t m' s)
  unless-way r os ToNone xs m m' found h s i = (refl, (i, tt))
  unless-way r os (ToCase v) xs m m' found h s i = h found s i
  unless-way r os ToDefault xs m m' found h s i = h found s i

  in-turn : (r : Ty) (os : List ℕ) (q q' : Res Flow) (m m' : State → Res Flow) → Sure (E r os) q q' → ((s : State) → Inv os s.world → Sure (E r os) (m s) (m' s)) → Sure (E r os) (then_do q (λ fl s. falls fl (λ s. m s) s)) (then_do q' (λ fl s. falls fl (λ s. m' s) s))
  in-turn r os q q' m m' h g = sure-seq (E r os) (E r os) q q' _ _ h (λ fl t k. falling r os fl m m' g t k)

  or-falls : (r : Ty) (os : List ℕ) (c : Bool) (q q' : Res Flow) (s : State) → Sure (E r os) q q' → Inv os s.world → Sure (E r os) (if c then q else Gives Falls s) (if c then q' else Gives Falls s)
  or-falls r os true q q' s h i = h
  or-falls r os false q q' s h i = (refl, (i, tt))

  no-target : (at : Target) (l o : ℕ) → is_target at (Declare l o) ≡ false
  no-target (ToCase v) l o = refl
  no-target ToDefault l o = refl
  no-target ToNone l o = refl

  sure-found : {A : Type 0} (R : A → World → Type 0) (c : Bool) (r r' q q' : Res A) → Sure R r r' → (c ≡ false → Sure R q q') → Sure R (if c then r else q) (if c then r' else q')
  sure-found R true r r' q q' h g = h
  sure-found R false r r' q q' h g = g refl

  not-so : {A : Type 0} (R : A → World → Type 0) (c : Bool) (r r' q q' : Res A) → c ≡ false → Sure R q q' → Sure R (if c then r else q) (if c then r' else q')
  not-so R false r r' q q' e h = h
  not-so R true r r' q q' e h = absurd cc

  module _ (characters : (l : ℕ) → Each (λ (v : ℕ). v < 256) (literal_at b.unit l).bytes) (u u' : Below) (level : Level b u u') where
    full-sure : (os : List ℕ) (x : TypedTree) → IsTyped b.unit os x → (s : State) → Inv os s.world → Sure (Kept os s.world (λ v z. Value b z (given_type x) v)) (full_expression b u.call x s) (parts.full_expression b u'.call x s)
    full-sure os x h s i =
        let p = typed b os u.call u'.call (level.call os) x h [] s i.sound in
        sure-seq (Kept os s.world (λ (g : Given) z. Value b z (given_type x) g.value)) (Kept os s.world (λ v z. Value b z (given_type x) v)) (ev b u.call x [] s) (plain.ev b u'.call x [] s) _ _
        (p.0, lands-more _ (Kept os s.world (λ (g : Given) z. Value b z (given_type x) g.value)) (λ a z q. (q.0, inv-after os s.world z i q.0 q.1, q.2)) (ev b u.call x [] s) (after-lands b os (Gave (ordered b os) (given_type x)) s.world (ev b u.call x [] s) p.1))
        (λ g t k. (refl, k))

    testing-sure : (os : List ℕ) (x : TypedTree) → IsCondition b.unit os x → (s : State) → Inv os s.world → Sure (λ v z. Inv os z) (testing b u.call x s) (parts.testing b u'.call x s)
    testing-sure os x h s i =
        sure-seq (Kept os s.world (λ v z. Value b z (given_type x) v)) (λ v z. Inv os z) (full_expression b u.call x s) (parts.full_expression b u'.call x s) _ _ (full-sure os x h.0 s i) (λ v t k.
        sure-more (Kept os t.world (λ v z. Value b z (IntTy Int) v)) (λ v z. Inv os z) (act b (line_of x) (Tests v) t) (act_plainly b (line_of x) (Tests v) t) (λ v z q. q.1) (act-sure os (line_of x) (Tests v) (IntTy Int) t k.1 (given_type x, k.2, refl, subst IsScalarType (sym h.1.1) h.2)))

    stepped-sure : (r : Ty) (os : List ℕ) (x : Option TypedTree) (m m' : State → Res Flow) → MayBeTyped b.unit os x → ((s : State) → Inv os s.world → Sure (E r os) (m s) (m' s)) → (s : State) → Inv os s.world → Sure (E r os) (then_step b u.call x m s) (parts.then_step b u'.call x m' s)
    stepped-sure r os None m m' h g s i = g s i
    stepped-sure r os (Some x) m m' h g s i =
        sure-seq (Kept os s.world (λ v z. Value b z (given_type x) v)) (E r os) (full_expression b u.call x s) (parts.full_expression b u'.call x s) _ _ (full-sure os x h s i) (λ v t k. g t k.1)

    tested-sure : (r : Ty) (os : List ℕ) (x : Option TypedTree) (m m' : State → Res Flow) → MayBeCondition b.unit os x → ((s : State) → Inv os s.world → Sure (E r os) (m s) (m' s)) → (s : State) → Inv os s.world → Sure (E r os) (if_tested b u.call x m s) (parts.if_tested b u'.call x m' s)
    tested-sure r os None m m' h g s i = g s i
    tested-sure r os (Some x) m m' h g s i =
        sure-seq (λ v z. Inv os z) (E r os) (testing b u.call x s) (parts.testing b u'.call x s) _ _ (testing-sure os x h s i) (λ v t k. sure-if (E r os) (is_true v) _ _ _ _ (g t k) (refl, (k, tt)))

    pub round-sure : (r : Ty) (os : List ℕ) (c step : Option TypedTree) (m m' n n' : State → Res Flow) → MayBeCondition b.unit os c → MayBeTyped b.unit os step → ((s : State) → Inv os s.world → Sure (E r os) (m s) (m' s)) → ((s : State) → Inv os s.world → Sure (E r os) (n s) (n' s))
        → (s : State) → Inv os s.world → Sure (E r os) (round b u.call c step m n s) (parts.round b u'.call c step m' n' s)
    round-sure r os c step m m' n n' hc hs g f s i =
        tested-sure r os c _ _ hc (λ t k.
        sure-seq (E r os) (E r os) (m t) (m' t) _ _ (g t k) (λ fl y q. going r os fl (then_step b u.call step n) (parts.then_step b u'.call step n') (stepped-sure r os step n n' hs f) y q)) s i

    pub round_do-sure : (r : Ty) (os : List ℕ) (c : TypedTree) (m m' n n' : State → Res Flow) → IsCondition b.unit os c → ((s : State) → Inv os s.world → Sure (E r os) (m s) (m' s)) → ((s : State) → Inv os s.world → Sure (E r os) (n s) (n' s))
        → (s : State) → Inv os s.world → Sure (E r os) (round_do b u.call c m n s) (parts.round_do b u'.call c m' n' s)
    round_do-sure r os c m m' n n' hc g f s i =
        sure-seq (E r os) (E r os) (m s) (m' s) _ _ (g s i) (λ fl y q. going r os fl (if_tested b u.call (Some c) n) (parts.if_tested b u'.call (Some c) n') (tested-sure r os (Some c) n n' hc f) y q)

    -- 6.7.9: stores of an initializer
    converted-sure : (os : List ℕ) (x : TypedTree) (t : Ty) (v : Worth) (s : State) → IsTyped b.unit os x → HasType x t → Value b s.world (given_type x) v → Inv os s.world → Sure (Kept os s.world (λ v z. Value b z t v)) (with_conversion b x v s) (parts.with_conversion b x v s)
    converted-sure os x t v s h e g i = piece os (λ v z. Value b z t v) (with_conversion b x v) (parts.with_conversion b x v) s i (converted-way b os (asked b os) x t s.world v h e g)

    accept-sure : (os : List ℕ) (line : ℕ) (t : Ty) (v : Worth) (s : State) → Value b s.world t v → Inv os s.world → Sure (Kept os s.world (λ v z. Value b z t v × IsThere v)) (act b line (Accepts v) s) (act_plainly b line (Accepts v) s)
    accept-sure os line t v s g i = piece os (λ v z. Value b z t v × IsThere v) (act b line (Accepts v)) (act_plainly b line (Accepts v)) s i (acting.accepts-way b os line t v s.world g)

    value-sure : (os : List ℕ) (o : ℕ) (x : Store) (v : StoredValue) → IsIn o os → IsMakeable b.unit false o → LiesIn b.unit o x → IsInitializer b.unit os x.t v → (s : State) → Inv os s.world → Sure (λ v z. Inv os z) (stores_value b u.call o x v s) (parts.stores_value b u'.call o x v s)
    value-sure os o x (ValueOf e) among m lies h s i =
        sure-tick b (λ v z. Inv os z) s
        (λ s. then_do (full_expression b u.call e s) (λ v s. then_do (accepted_value b e v s) (λ v s. act b x.line (Puts o x.offset (lvalue b x.t) v) s)))
        (λ s. then_do (parts.full_expression b u'.call e s) (λ v s. then_do (parts.accepted_value b e v s) (λ v s. act_plainly b x.line (Puts o x.offset (lvalue b x.t) v) s)))
        (sure-seq (Kept os s.world (λ v z. Value b z (given_type e) v)) (λ v z. Inv os z) (full_expression b u.call e (spend s)) (parts.full_expression b u'.call e (spend s)) _ _ (full-sure os e h.0 (spend s) i) (λ v t k.
        sure-seq (Kept os t.world (λ v z. Value b z (bare_type x.t) v × IsThere v)) (λ v z. Inv os z) (accepted_value b e v t) (parts.accepted_value b e v t) _ _
        (sure-seq (Kept os t.world (λ v z. Value b z (bare_type x.t) v)) (Kept os t.world (λ v z. Value b z (bare_type x.t) v × IsThere v)) (with_conversion b e v t) (parts.with_conversion b e v t) _ _ (converted-sure os e (bare_type x.t) v t h.0 h.1 k.2 k.1) (λ v y q.
        sure-more _ (Kept os t.world (λ v z. Value b z (bare_type x.t) v × IsThere v)) (act b (line_of e) (Accepts v) y) (act_plainly b (line_of e) (Accepts v) y) (λ v z p. (after-both q.0 p.0, p.1, p.2)) (accept-sure os (line_of e) (bare_type x.t) v y q.2 q.1))) (λ v y q.
        sure-more _ (λ v z. Inv os z) (act b x.line (Puts o x.offset (lvalue b x.t) v) y) (act_plainly b x.line (Puts o x.offset (lvalue b x.t) v) y) (λ v z p. p.1)
        (piece os (λ v z. Unit {0}) (act b x.line (Puts o x.offset (lvalue b x.t) v)) (act_plainly b x.line (Puts o x.offset (lvalue b x.t) v)) y q.1 (puts-holds b os x.line o y.world (in-scope b os o m.storage among) m.small x.offset x.t v lies h.2 q.2.1 (λ z g. (q.2.0.0, value-later y.world.memory.table z.memory.table g.made v q.2.0.1)))))))
    value-sure os o x (TextOf l) among m lies h s i =
        sure-tick b (λ v z. Inv os z) s (act b x.line (PutsText o x.offset (size_of b x.t) l)) (act_plainly b x.line (PutsText o x.offset (size_of b x.t) l))
        (sure-more _ (λ v z. Inv os z) (act b x.line (PutsText o x.offset (size_of b x.t) l) (spend s)) (act_plainly b x.line (PutsText o x.offset (size_of b x.t) l) (spend s)) (λ v z p. p.1)
        (piece os (λ v z. Unit {0}) (act b x.line (PutsText o x.offset (size_of b x.t) l)) (act_plainly b x.line (PutsText o x.offset (size_of b x.t) l)) (spend s) i (text-holds b os x.line o s.world (in-scope b os o m.storage among) m.small x.offset (size_of b x.t) l lies (characters l))))

    stores-sure : (os : List ℕ) (o : ℕ) (xs : List Store) → IsIn o os → IsMakeable b.unit false o → AreInitializers b.unit os o xs → (s : State) → Inv os s.world → Sure (λ v z. Inv os z) (store_all b u.call o xs s) (lists.store_all b u'.call o xs s)
    stores-sure os o [] among m h s i = (refl, i)
    stores-sure os o (x ∷ xs) among m h s i = sure-seq (λ v z. Inv os z) (λ v z. Inv os z) (stores_value b u.call o x x.what s) (parts.stores_value b u'.call o x x.what s) _ _ (value-sure os o x x.what among m h.0.0 h.0.1 s i) (λ v t k. stores-sure os o xs among m h.1 t k)

    some-zero : (n : ℕ) → Some 0 ≡ Some n → n < 256
    some-zero n e = let same : 0 ≡ n = cc in subst (λ k. k < 256) same (omega arith)

    fill-it : (os : List ℕ) (line o : ℕ) (v : Option ℕ) → IsIn o os → IsMakeable b.unit false o → ((n : ℕ) → v ≡ Some n → n < 256) → (s : State) → Inv os s.world → Sure (λ v z. Inv os z) (act b line (Fills o v) s) (act_plainly b line (Fills o v) s)
    fill-it os line o v among m h s i =
        sure-more _ (λ v z. Inv os z) (act b line (Fills o v) s) (act_plainly b line (Fills o v) s) (λ v z p. p.1) (piece os (λ v z. Unit {0}) (act b line (Fills o v)) (act_plainly b line (Fills o v)) s i (fills-holds b os line o s.world (in-scope b os o m.storage among) m.small v h))

    fill-sure : (os : List ℕ) (o : ℕ) (braced : Bool) (xs : List Store) → IsIn o os → IsMakeable b.unit false o → (s : State) → Inv os s.world → Sure (λ v z. Inv os z) (begin_fill b o braced xs s) (parts.begin_fill b o braced xs s)
    fill-sure os o true xs among m s i = fill-it os (object_at b.unit o).line o (Some 0) among m some-zero s i
    fill-sure os o false [] among m s i = fill-it os (object_at b.unit o).line o None among m (λ n e. absurd (none-some n e)) s i
    fill-sure os o false (x ∷ xs) among m s i = (refl, i)

    declares-sure : (os : List ℕ) (o : ℕ) (x : TypedObject) → IsIn o os → IsMakeable b.unit false o → AreInitializers b.unit os o x.inits → (s : State) → Inv os s.world → Sure (λ fl z. Inv os z) (declares b u.call o x s) (parts.declares b u'.call o x s)
    declares-sure os o x among m h s i =
        sure-seq (λ v z. Inv os z) (λ fl z. Inv os z) (begin_fill b o x.braced x.inits s) (parts.begin_fill b o x.braced x.inits s) _ _ (fill-sure os o x.braced x.inits among m s i) (λ v t k.
        sure-seq (λ v z. Inv os z) (λ fl z. Inv os z) (store_all b u.call o x.inits t) (lists.store_all b u'.call o x.inits t) _ _ (stores-sure os o x.inits among m h t k) (λ v y q. (refl, q)))

    returns-sure : (r : Ty) (os : List ℕ) (x : Option TypedTree) (line : ℕ) → IsReturned b.unit r os x → (s : State) → Inv os s.world → Sure (E r os) (returns_value b u.call x line s) (parts.returns_value b u'.call x line s)
    returns-sure r os None line h s i = (refl, (i, ((none-nothing (layouts b.unit) r h, tt), tt)))
    returns-sure r os (Some x) line h s i =
        sure-seq (Kept os s.world (λ v z. Value b z (given_type x) v)) (E r os) (full_expression b u.call x s) (parts.full_expression b u'.call x s) _ _ (full-sure os x h.1 s i) (λ v t k.
        sure-seq (Kept os t.world (λ v z. Value b z (bare_type h.0) v)) (E r os) (with_conversion b x v t) (parts.with_conversion b x v t) _ _ (converted-sure os x (bare_type h.0) v t h.1 h.2 k.2 k.1) (λ v y q.
        sure-seq (Kept os y.world (λ v z. Value b z (bare_type h.0) v × IsThere v)) (E r os) (act b line (Accepts v) y) (act_plainly b line (Accepts v) y) _ _ (accept-sure os line (bare_type h.0) v y q.2 q.1) (λ v x p.
        (refl, (p.1, (((h.3 (layouts b.unit) v).0 (from-bare (layouts b.unit) h.0 v p.2.0.0), p.2.0.1), p.2.1))))))

    mutual
      unfolding ex_by

      -- every statement
      pub ex-sure : (r : Ty) (os : List ℕ) (x : TypedStatement) → IsTypedStatement b.unit r os x → (s : State) → Inv os s.world → Sure (E r os) (ex b u x s) (parts.ex b u' x s)
      ex-sure r os (Block line ds xs) h s i = sure-tick b (E r os) s (λ s. in_block b ds (λ s. exs b u xs s) s) (λ s. parts.in_block b ds (λ s. parts.exs b u' xs s) s) (scoped-sure r os ds (exs b u xs) (parts.exs b u' xs) h.0 h.1 (λ s i. exs-sure r (ds ++ os) xs h.2 s i) (spend s) i)
      ex-sure r os (Declare line o) h s i = absurd h
      ex-sure r os (Expression line x) h s i = sure-tick b (E r os) s (λ s. nothing_done (full_expression b u.call x s)) (λ s. nothing_done (parts.full_expression b u'.call x s)) (sure-seq (Kept os s.world (λ v z. Value b z (given_type x) v)) (E r os) (full_expression b u.call x (spend s)) (parts.full_expression b u'.call x (spend s)) _ _ (full-sure os x h (spend s) i) (λ v t k. (refl, (k.1, tt))))
      ex-sure r os (Empty line) h s i = sure-tick b (E r os) s (λ s. Gives Falls s) (λ s. Gives Falls s) (refl, (i, tt))
      ex-sure r os (If line c x) h s i = sure-tick b (E r os) s (λ s. then_do (testing b u.call c s) (λ v s. if is_true v then ex b u x s else Gives Falls s)) (λ s. then_do (parts.testing b u'.call c s) (λ v s. if is_true v then parts.ex b u' x s else Gives Falls s)) (sure-seq (λ v z. Inv os z) (E r os) (testing b u.call c (spend s)) (parts.testing b u'.call c (spend s)) _ _ (testing-sure os c h.0 (spend s) i) (λ v t k. or-falls r os (is_true v) (ex b u x t) (parts.ex b u' x t) t (ex-sure r os x h.1 t k) k))
      ex-sure r os (IfElse line c x y) h s i = sure-tick b (E r os) s (λ s. then_do (testing b u.call c s) (λ v s. if is_true v then ex b u x s else ex b u y s)) (λ s. then_do (parts.testing b u'.call c s) (λ v s. if is_true v then parts.ex b u' x s else parts.ex b u' y s)) (sure-seq (λ v z. Inv os z) (E r os) (testing b u.call c (spend s)) (parts.testing b u'.call c (spend s)) _ _ (testing-sure os c h.0 (spend s) i) (λ v t k. sure-if (E r os) (is_true v) (ex b u x t) (parts.ex b u' x t) (ex b u y t) (parts.ex b u' y t) (ex-sure r os x h.1 t k) (ex-sure r os y h.2 t k)))
      ex-sure r os (Switch line c (Block m ds xs)) h s i =
          sure-tick b (E r os) s (λ s. then_do (full_expression b u.call c s) (λ v s. then_do (with_conversion b c v s) (λ v s. then_do (act b (line_of c) (Needs v) s) (λ v s. unless_none (target_of (int_of v) xs) (λ s. tick b s (λ s. then_do (in_block b ds (λ s. exs_at b u (target_of (int_of v) xs) xs s) s) behind_switch)) s)))) (λ s. then_do (parts.full_expression b u'.call c s) (λ v s. then_do (parts.with_conversion b c v s) (λ v s. then_do (act_plainly b (line_of c) (Needs v) s) (λ v s. unless_none (target_of (int_of v) xs) (λ s. tick b s (λ s. then_do (parts.in_block b ds (λ s. parts.exs_at b u' (target_of (int_of v) xs) xs s) s) behind_switch)) s))))
          (sure-seq (Kept os s.world (λ v z. Value b z (given_type c) v)) (E r os) (full_expression b u.call c (spend s)) (parts.full_expression b u'.call c (spend s)) _ _ (full-sure os c h.1 (spend s) i) (λ v t k.
          sure-seq (Kept os t.world (λ v z. Value b z (IntTy h.0) v)) (E r os) (with_conversion b c v t) (parts.with_conversion b c v t) _ _ (converted-sure os c (IntTy h.0) v t h.1 h.2 k.2 k.1) (λ v y q.
          sure-seq (Kept os y.world (λ v z. Value b z (IntTy h.0) v)) (E r os) (act b (line_of c) (Needs v) y) (act_plainly b (line_of c) (Needs v) y) _ _ (act-sure os (line_of c) (Needs v) (IntTy h.0) y q.1 (h.0, refl, q.2)) (λ v x p.
          unless-way r os (target_of (int_of v) xs) xs (λ s. tick b s (λ s. then_do (in_block b ds (λ s. exs_at b u (target_of (int_of v) xs) xs s) s) behind_switch)) (λ s. tick b s (λ s. then_do (parts.in_block b ds (λ s. parts.exs_at b u' (target_of (int_of v) xs) xs s) s) behind_switch)) (target-found (int_of v) xs) (λ found s i. sure-tick b (E r os) s (λ s. then_do (in_block b ds (λ s. exs_at b u (target_of (int_of v) xs) xs s) s) behind_switch) (λ s. then_do (parts.in_block b ds (λ s. parts.exs_at b u' (target_of (int_of v) xs) xs s) s) behind_switch)
          (sure-seq (E r os) (E r os) (in_block b ds (λ s. exs_at b u (target_of (int_of v) xs) xs s) (spend s)) (parts.in_block b ds (λ s. parts.exs_at b u' (target_of (int_of v) xs) xs s) (spend s)) _ _
          (scoped-sure r os ds (exs_at b u (target_of (int_of v) xs) xs) (parts.exs_at b u' (target_of (int_of v) xs) xs) h.4 h.5 (λ s i. at-sure (target_of (int_of v) xs) r (ds ++ os) xs found h.6 s i) (spend s) i) (λ fl y q. switching r os fl y q))) x p.1))))
      ex-sure r os (Switch line c (Declare l o)) h s i = absurd h
      ex-sure r os (Switch line c (Expression l y)) h s i = absurd h
      ex-sure r os (Switch line c (Empty l)) h s i = absurd h
      ex-sure r os (Switch line c (If l y z)) h s i = absurd h
      ex-sure r os (Switch line c (IfElse l y z q)) h s i = absurd h
      ex-sure r os (Switch line c (Switch l y z)) h s i = absurd h
      ex-sure r os (Switch line c (Case l m y)) h s i = absurd h
      ex-sure r os (Switch line c (Default l y)) h s i = absurd h
      ex-sure r os (Switch line c (While l y z)) h s i = absurd h
      ex-sure r os (Switch line c (DoWhile l y z)) h s i = absurd h
      ex-sure r os (Switch line c (For l f y t z)) h s i = absurd h
      ex-sure r os (Switch line c (ForDeclaration l ds ys y t z)) h s i = absurd h
      ex-sure r os (Switch line c (Continue l)) h s i = absurd h
      ex-sure r os (Switch line c (Break l)) h s i = absurd h
      ex-sure r os (Switch line c (Return l y)) h s i = absurd h
      ex-sure r os (Case line n x) h s i = ex-sure r os x h s i
      ex-sure r os (Default line x) h s i = ex-sure r os x h s i
      ex-sure r os (While line c x) h s i = sure-tick b (E r os) s (λ s. round b u.call (Some c) None (λ s. ex b u x s) (u.again (Some c) None x) s) (λ s. parts.round b u'.call (Some c) None (λ s. parts.ex b u' x s) (u'.again (Some c) None x) s) (round-sure r os (Some c) None (ex b u x) (parts.ex b u' x) (u.again (Some c) None x) (u'.again (Some c) None x) h.0 tt (λ s i. ex-sure r os x h.1 s i) (λ s i. level.again rest w0 r os (Some c) None x h.0 tt h.1 s i) (spend s) i)
      ex-sure r os (DoWhile line x c) h s i = sure-tick b (E r os) s (λ s. round_do b u.call c (λ s. ex b u x s) (u.again_do x c) s) (λ s. parts.round_do b u'.call c (λ s. parts.ex b u' x s) (u'.again_do x c) s) (round_do-sure r os c (ex b u x) (parts.ex b u' x) (u.again_do x c) (u'.again_do x c) h.1 (λ s i. ex-sure r os x h.0 s i) (λ s i. level.again_do rest w0 r os x c h.0 h.1 s i) (spend s) i)
      ex-sure r os (For line first c step x) h s i =
          sure-tick b (E r os) s (λ s. then_step b u.call first (λ s. round b u.call c step (λ s. ex b u x s) (u.again c step x) s) s) (λ s. parts.then_step b u'.call first (λ s. parts.round b u'.call c step (λ s. parts.ex b u' x s) (u'.again c step x) s) s) (stepped-sure r os first (λ s. round b u.call c step (λ s. ex b u x s) (u.again c step x) s) (λ s. parts.round b u'.call c step (λ s. parts.ex b u' x s) (u'.again c step x) s) h.0 (λ s i. round-sure r os c step (ex b u x) (parts.ex b u' x) (u.again c step x) (u'.again c step x) h.1 h.2 (λ s i. ex-sure r os x h.3 s i) (λ s i. level.again rest w0 r os c step x h.1 h.2 h.3 s i) s i) (spend s) i)
      ex-sure r os (ForDeclaration line ds xs c step x) h s i =
          sure-tick b (E r os) s (λ s. in_block b ds (λ s. then_do (exs b u xs s) (λ fl s. falls fl (λ s. round b u.call c step (λ s. ex b u x s) (u.again c step x) s) s)) s) (λ s. parts.in_block b ds (λ s. then_do (parts.exs b u' xs s) (λ fl s. falls fl (λ s. parts.round b u'.call c step (λ s. parts.ex b u' x s) (u'.again c step x) s) s)) s) (scoped-sure r os ds (λ s. then_do (exs b u xs s) (λ fl s. falls fl (λ s. round b u.call c step (λ s. ex b u x s) (u.again c step x) s) s)) (λ s. then_do (parts.exs b u' xs s) (λ fl s. falls fl (λ s. parts.round b u'.call c step (λ s. parts.ex b u' x s) (u'.again c step x) s) s)) h.0 h.1 (λ s i. in-turn r (ds ++ os) (exs b u xs s) (parts.exs b u' xs s) (λ s. round b u.call c step (λ s. ex b u x s) (u.again c step x) s) (λ s. parts.round b u'.call c step (λ s. parts.ex b u' x s) (u'.again c step x) s) (exs-sure r (ds ++ os) xs h.2 s i)
          (λ s i. round-sure r (ds ++ os) c step (ex b u x) (parts.ex b u' x) (u.again c step x) (u'.again c step x) h.3 h.4 (λ s i. ex-sure r (ds ++ os) x h.5 s i) (λ s i. level.again rest w0 r (ds ++ os) c step x h.3 h.4 h.5 s i) s i)) (spend s) i)
      ex-sure r os (Continue line) h s i = sure-tick b (E r os) s (λ s. Gives Continues s) (λ s. Gives Continues s) (refl, (i, tt))
      ex-sure r os (Break line) h s i = sure-tick b (E r os) s (λ s. Gives Breaks s) (λ s. Gives Breaks s) (refl, (i, tt))
      ex-sure r os (Return line x) h s i = sure-tick b (E r os) s (λ s. returns_value b u.call x line s) (λ s. parts.returns_value b u'.call x line s) (returns-sure r os x line h (spend s) i)

      -- the statements of a list
      exs-sure : (r : Ty) (os : List ℕ) (xs : Statements) → AreTypedStatements b.unit r os xs → (s : State) → Inv os s.world → Sure (E r os) (exs b u xs s) (parts.exs b u' xs s)
      exs-sure r os NoStatements h s i = (refl, (i, tt))
      exs-sure r os (MoreStatements (Declare line o) xs) h s i = sure-seq (λ fl z. Inv os z) (E r os) (declares b u.call o (object_at b.unit o) s) (parts.declares b u'.call o (object_at b.unit o) s) _ _ (declares-sure os o (object_at b.unit o) h.0.0 h.0.1 h.0.2 s i) (λ fl t k. exs-sure r os xs h.1 t k)
      exs-sure r os (MoreStatements (Block l ds ys) xs) h s i = in-turn r os (ex b u (Block l ds ys) s) (parts.ex b u' (Block l ds ys) s) (exs b u xs) (parts.exs b u' xs) (ex-sure r os (Block l ds ys) h.0 s i) (λ s i. exs-sure r os xs h.1 s i)
      exs-sure r os (MoreStatements (Expression l y) xs) h s i = in-turn r os (ex b u (Expression l y) s) (parts.ex b u' (Expression l y) s) (exs b u xs) (parts.exs b u' xs) (ex-sure r os (Expression l y) h.0 s i) (λ s i. exs-sure r os xs h.1 s i)
      exs-sure r os (MoreStatements (Empty l) xs) h s i = in-turn r os (ex b u (Empty l) s) (parts.ex b u' (Empty l) s) (exs b u xs) (parts.exs b u' xs) (ex-sure r os (Empty l) h.0 s i) (λ s i. exs-sure r os xs h.1 s i)
      exs-sure r os (MoreStatements (If l y z) xs) h s i = in-turn r os (ex b u (If l y z) s) (parts.ex b u' (If l y z) s) (exs b u xs) (parts.exs b u' xs) (ex-sure r os (If l y z) h.0 s i) (λ s i. exs-sure r os xs h.1 s i)
      exs-sure r os (MoreStatements (IfElse l y z q) xs) h s i = in-turn r os (ex b u (IfElse l y z q) s) (parts.ex b u' (IfElse l y z q) s) (exs b u xs) (parts.exs b u' xs) (ex-sure r os (IfElse l y z q) h.0 s i) (λ s i. exs-sure r os xs h.1 s i)
      exs-sure r os (MoreStatements (Switch l y z) xs) h s i = in-turn r os (ex b u (Switch l y z) s) (parts.ex b u' (Switch l y z) s) (exs b u xs) (parts.exs b u' xs) (ex-sure r os (Switch l y z) h.0 s i) (λ s i. exs-sure r os xs h.1 s i)
      exs-sure r os (MoreStatements (Case l m y) xs) h s i = in-turn r os (ex b u (Case l m y) s) (parts.ex b u' (Case l m y) s) (exs b u xs) (parts.exs b u' xs) (ex-sure r os (Case l m y) h.0 s i) (λ s i. exs-sure r os xs h.1 s i)
      exs-sure r os (MoreStatements (Default l y) xs) h s i = in-turn r os (ex b u (Default l y) s) (parts.ex b u' (Default l y) s) (exs b u xs) (parts.exs b u' xs) (ex-sure r os (Default l y) h.0 s i) (λ s i. exs-sure r os xs h.1 s i)
      exs-sure r os (MoreStatements (While l y z) xs) h s i = in-turn r os (ex b u (While l y z) s) (parts.ex b u' (While l y z) s) (exs b u xs) (parts.exs b u' xs) (ex-sure r os (While l y z) h.0 s i) (λ s i. exs-sure r os xs h.1 s i)
      exs-sure r os (MoreStatements (DoWhile l y z) xs) h s i = in-turn r os (ex b u (DoWhile l y z) s) (parts.ex b u' (DoWhile l y z) s) (exs b u xs) (parts.exs b u' xs) (ex-sure r os (DoWhile l y z) h.0 s i) (λ s i. exs-sure r os xs h.1 s i)
      exs-sure r os (MoreStatements (For l f y t z) xs) h s i = in-turn r os (ex b u (For l f y t z) s) (parts.ex b u' (For l f y t z) s) (exs b u xs) (parts.exs b u' xs) (ex-sure r os (For l f y t z) h.0 s i) (λ s i. exs-sure r os xs h.1 s i)
      exs-sure r os (MoreStatements (ForDeclaration l ds ys y t z) xs) h s i = in-turn r os (ex b u (ForDeclaration l ds ys y t z) s) (parts.ex b u' (ForDeclaration l ds ys y t z) s) (exs b u xs) (parts.exs b u' xs) (ex-sure r os (ForDeclaration l ds ys y t z) h.0 s i) (λ s i. exs-sure r os xs h.1 s i)
      exs-sure r os (MoreStatements (Continue l) xs) h s i = in-turn r os (ex b u (Continue l) s) (parts.ex b u' (Continue l) s) (exs b u xs) (parts.exs b u' xs) (ex-sure r os (Continue l) h.0 s i) (λ s i. exs-sure r os xs h.1 s i)
      exs-sure r os (MoreStatements (Break l) xs) h s i = in-turn r os (ex b u (Break l) s) (parts.ex b u' (Break l) s) (exs b u xs) (parts.exs b u' xs) (ex-sure r os (Break l) h.0 s i) (λ s i. exs-sure r os xs h.1 s i)
      exs-sure r os (MoreStatements (Return l y) xs) h s i = in-turn r os (ex b u (Return l y) s) (parts.ex b u' (Return l y) s) (exs b u xs) (parts.exs b u' xs) (ex-sure r os (Return l y) h.0 s i) (λ s i. exs-sure r os xs h.1 s i)

      -- the same from a label on
      at-sure : (at : Target) (r : Ty) (os : List ℕ) (xs : Statements) → some_target at xs ≡ true → AreTypedStatements b.unit r os xs → (s : State) → Inv os s.world → Sure (E r os) (exs_at b u at xs s) (parts.exs_at b u' at xs s)
      at-sure at r os NoStatements found h s i = absurd (none-found at found)
      at-sure at r os (MoreStatements (Declare line o) xs) found h s i = not-so (E r os) (is_target at (Declare line o)) (then_do (ex b u (Declare line o) s) (λ fl s. falls fl (λ s. exs b u xs s) s)) (then_do (parts.ex b u' (Declare line o) s) (λ fl s. falls fl (λ s. parts.exs b u' xs s) s)) (exs_at b u at xs s) (parts.exs_at b u' at xs s) (no-target at line o) (at-sure at r os xs (found-behind at (Declare line o) xs found (no-target at line o)) h.1 s i)
      at-sure at r os (MoreStatements (Block l ds ys) xs) found h s i = sure-found (E r os) (is_target at (Block l ds ys)) (then_do (ex b u (Block l ds ys) s) (λ fl s. falls fl (λ s. exs b u xs s) s)) (then_do (parts.ex b u' (Block l ds ys) s) (λ fl s. falls fl (λ s. parts.exs b u' xs s) s)) (exs_at b u at xs s) (parts.exs_at b u' at xs s) (in-turn r os (ex b u (Block l ds ys) s) (parts.ex b u' (Block l ds ys) s) (exs b u xs) (parts.exs b u' xs) (ex-sure r os (Block l ds ys) h.0 s i) (λ s i. exs-sure r os xs h.1 s i)) (λ other. at-sure at r os xs (found-behind at (Block l ds ys) xs found other) h.1 s i)
      at-sure at r os (MoreStatements (Expression l y) xs) found h s i = sure-found (E r os) (is_target at (Expression l y)) (then_do (ex b u (Expression l y) s) (λ fl s. falls fl (λ s. exs b u xs s) s)) (then_do (parts.ex b u' (Expression l y) s) (λ fl s. falls fl (λ s. parts.exs b u' xs s) s)) (exs_at b u at xs s) (parts.exs_at b u' at xs s) (in-turn r os (ex b u (Expression l y) s) (parts.ex b u' (Expression l y) s) (exs b u xs) (parts.exs b u' xs) (ex-sure r os (Expression l y) h.0 s i) (λ s i. exs-sure r os xs h.1 s i)) (λ other. at-sure at r os xs (found-behind at (Expression l y) xs found other) h.1 s i)
      at-sure at r os (MoreStatements (Empty l) xs) found h s i = sure-found (E r os) (is_target at (Empty l)) (then_do (ex b u (Empty l) s) (λ fl s. falls fl (λ s. exs b u xs s) s)) (then_do (parts.ex b u' (Empty l) s) (λ fl s. falls fl (λ s. parts.exs b u' xs s) s)) (exs_at b u at xs s) (parts.exs_at b u' at xs s) (in-turn r os (ex b u (Empty l) s) (parts.ex b u' (Empty l) s) (exs b u xs) (parts.exs b u' xs) (ex-sure r os (Empty l) h.0 s i) (λ s i. exs-sure r os xs h.1 s i)) (λ other. at-sure at r os xs (found-behind at (Empty l) xs found other) h.1 s i)
      at-sure at r os (MoreStatements (If l y z) xs) found h s i = sure-found (E r os) (is_target at (If l y z)) (then_do (ex b u (If l y z) s) (λ fl s. falls fl (λ s. exs b u xs s) s)) (then_do (parts.ex b u' (If l y z) s) (λ fl s. falls fl (λ s. parts.exs b u' xs s) s)) (exs_at b u at xs s) (parts.exs_at b u' at xs s) (in-turn r os (ex b u (If l y z) s) (parts.ex b u' (If l y z) s) (exs b u xs) (parts.exs b u' xs) (ex-sure r os (If l y z) h.0 s i) (λ s i. exs-sure r os xs h.1 s i)) (λ other. at-sure at r os xs (found-behind at (If l y z) xs found other) h.1 s i)
      at-sure at r os (MoreStatements (IfElse l y z q) xs) found h s i = sure-found (E r os) (is_target at (IfElse l y z q)) (then_do (ex b u (IfElse l y z q) s) (λ fl s. falls fl (λ s. exs b u xs s) s)) (then_do (parts.ex b u' (IfElse l y z q) s) (λ fl s. falls fl (λ s. parts.exs b u' xs s) s)) (exs_at b u at xs s) (parts.exs_at b u' at xs s) (in-turn r os (ex b u (IfElse l y z q) s) (parts.ex b u' (IfElse l y z q) s) (exs b u xs) (parts.exs b u' xs) (ex-sure r os (IfElse l y z q) h.0 s i) (λ s i. exs-sure r os xs h.1 s i)) (λ other. at-sure at r os xs (found-behind at (IfElse l y z q) xs found other) h.1 s i)
      at-sure at r os (MoreStatements (Switch l y z) xs) found h s i = sure-found (E r os) (is_target at (Switch l y z)) (then_do (ex b u (Switch l y z) s) (λ fl s. falls fl (λ s. exs b u xs s) s)) (then_do (parts.ex b u' (Switch l y z) s) (λ fl s. falls fl (λ s. parts.exs b u' xs s) s)) (exs_at b u at xs s) (parts.exs_at b u' at xs s) (in-turn r os (ex b u (Switch l y z) s) (parts.ex b u' (Switch l y z) s) (exs b u xs) (parts.exs b u' xs) (ex-sure r os (Switch l y z) h.0 s i) (λ s i. exs-sure r os xs h.1 s i)) (λ other. at-sure at r os xs (found-behind at (Switch l y z) xs found other) h.1 s i)
      at-sure at r os (MoreStatements (Case l m y) xs) found h s i = sure-found (E r os) (is_target at (Case l m y)) (then_do (ex b u (Case l m y) s) (λ fl s. falls fl (λ s. exs b u xs s) s)) (then_do (parts.ex b u' (Case l m y) s) (λ fl s. falls fl (λ s. parts.exs b u' xs s) s)) (exs_at b u at xs s) (parts.exs_at b u' at xs s) (in-turn r os (ex b u (Case l m y) s) (parts.ex b u' (Case l m y) s) (exs b u xs) (parts.exs b u' xs) (ex-sure r os (Case l m y) h.0 s i) (λ s i. exs-sure r os xs h.1 s i)) (λ other. at-sure at r os xs (found-behind at (Case l m y) xs found other) h.1 s i)
      at-sure at r os (MoreStatements (Default l y) xs) found h s i = sure-found (E r os) (is_target at (Default l y)) (then_do (ex b u (Default l y) s) (λ fl s. falls fl (λ s. exs b u xs s) s)) (then_do (parts.ex b u' (Default l y) s) (λ fl s. falls fl (λ s. parts.exs b u' xs s) s)) (exs_at b u at xs s) (parts.exs_at b u' at xs s) (in-turn r os (ex b u (Default l y) s) (parts.ex b u' (Default l y) s) (exs b u xs) (parts.exs b u' xs) (ex-sure r os (Default l y) h.0 s i) (λ s i. exs-sure r os xs h.1 s i)) (λ other. at-sure at r os xs (found-behind at (Default l y) xs found other) h.1 s i)
      at-sure at r os (MoreStatements (While l y z) xs) found h s i = sure-found (E r os) (is_target at (While l y z)) (then_do (ex b u (While l y z) s) (λ fl s. falls fl (λ s. exs b u xs s) s)) (then_do (parts.ex b u' (While l y z) s) (λ fl s. falls fl (λ s. parts.exs b u' xs s) s)) (exs_at b u at xs s) (parts.exs_at b u' at xs s) (in-turn r os (ex b u (While l y z) s) (parts.ex b u' (While l y z) s) (exs b u xs) (parts.exs b u' xs) (ex-sure r os (While l y z) h.0 s i) (λ s i. exs-sure r os xs h.1 s i)) (λ other. at-sure at r os xs (found-behind at (While l y z) xs found other) h.1 s i)
      at-sure at r os (MoreStatements (DoWhile l y z) xs) found h s i = sure-found (E r os) (is_target at (DoWhile l y z)) (then_do (ex b u (DoWhile l y z) s) (λ fl s. falls fl (λ s. exs b u xs s) s)) (then_do (parts.ex b u' (DoWhile l y z) s) (λ fl s. falls fl (λ s. parts.exs b u' xs s) s)) (exs_at b u at xs s) (parts.exs_at b u' at xs s) (in-turn r os (ex b u (DoWhile l y z) s) (parts.ex b u' (DoWhile l y z) s) (exs b u xs) (parts.exs b u' xs) (ex-sure r os (DoWhile l y z) h.0 s i) (λ s i. exs-sure r os xs h.1 s i)) (λ other. at-sure at r os xs (found-behind at (DoWhile l y z) xs found other) h.1 s i)
      at-sure at r os (MoreStatements (For l f y t z) xs) found h s i = sure-found (E r os) (is_target at (For l f y t z)) (then_do (ex b u (For l f y t z) s) (λ fl s. falls fl (λ s. exs b u xs s) s)) (then_do (parts.ex b u' (For l f y t z) s) (λ fl s. falls fl (λ s. parts.exs b u' xs s) s)) (exs_at b u at xs s) (parts.exs_at b u' at xs s) (in-turn r os (ex b u (For l f y t z) s) (parts.ex b u' (For l f y t z) s) (exs b u xs) (parts.exs b u' xs) (ex-sure r os (For l f y t z) h.0 s i) (λ s i. exs-sure r os xs h.1 s i)) (λ other. at-sure at r os xs (found-behind at (For l f y t z) xs found other) h.1 s i)
      at-sure at r os (MoreStatements (ForDeclaration l ds ys y t z) xs) found h s i = sure-found (E r os) (is_target at (ForDeclaration l ds ys y t z)) (then_do (ex b u (ForDeclaration l ds ys y t z) s) (λ fl s. falls fl (λ s. exs b u xs s) s)) (then_do (parts.ex b u' (ForDeclaration l ds ys y t z) s) (λ fl s. falls fl (λ s. parts.exs b u' xs s) s)) (exs_at b u at xs s) (parts.exs_at b u' at xs s) (in-turn r os (ex b u (ForDeclaration l ds ys y t z) s) (parts.ex b u' (ForDeclaration l ds ys y t z) s) (exs b u xs) (parts.exs b u' xs) (ex-sure r os (ForDeclaration l ds ys y t z) h.0 s i) (λ s i. exs-sure r os xs h.1 s i)) (λ other. at-sure at r os xs (found-behind at (ForDeclaration l ds ys y t z) xs found other) h.1 s i)
      at-sure at r os (MoreStatements (Continue l) xs) found h s i = sure-found (E r os) (is_target at (Continue l)) (then_do (ex b u (Continue l) s) (λ fl s. falls fl (λ s. exs b u xs s) s)) (then_do (parts.ex b u' (Continue l) s) (λ fl s. falls fl (λ s. parts.exs b u' xs s) s)) (exs_at b u at xs s) (parts.exs_at b u' at xs s) (in-turn r os (ex b u (Continue l) s) (parts.ex b u' (Continue l) s) (exs b u xs) (parts.exs b u' xs) (ex-sure r os (Continue l) h.0 s i) (λ s i. exs-sure r os xs h.1 s i)) (λ other. at-sure at r os xs (found-behind at (Continue l) xs found other) h.1 s i)
      at-sure at r os (MoreStatements (Break l) xs) found h s i = sure-found (E r os) (is_target at (Break l)) (then_do (ex b u (Break l) s) (λ fl s. falls fl (λ s. exs b u xs s) s)) (then_do (parts.ex b u' (Break l) s) (λ fl s. falls fl (λ s. parts.exs b u' xs s) s)) (exs_at b u at xs s) (parts.exs_at b u' at xs s) (in-turn r os (ex b u (Break l) s) (parts.ex b u' (Break l) s) (exs b u xs) (parts.exs b u' xs) (ex-sure r os (Break l) h.0 s i) (λ s i. exs-sure r os xs h.1 s i)) (λ other. at-sure at r os xs (found-behind at (Break l) xs found other) h.1 s i)
      at-sure at r os (MoreStatements (Return l y) xs) found h s i = sure-found (E r os) (is_target at (Return l y)) (then_do (ex b u (Return l y) s) (λ fl s. falls fl (λ s. exs b u xs s) s)) (then_do (parts.ex b u' (Return l y) s) (λ fl s. falls fl (λ s. parts.exs b u' xs s) s)) (exs_at b u at xs s) (parts.exs_at b u' at xs s) (in-turn r os (ex b u (Return l y) s) (parts.ex b u' (Return l y) s) (exs b u xs) (parts.exs b u' xs) (ex-sure r os (Return l y) h.0 s i) (λ s i. exs-sure r os xs h.1 s i)) (λ other. at-sure at r os xs (found-behind at (Return l y) xs found other) h.1 s i)
