-- What holds of pieces of two runs, and of the ways in which pieces are made, holds of every statement, of what lies below and of the
-- whole run. One line for each kind of statement, and one lemma for each word of execution.
use Rattle.std.proofs.Common.{ℕ, zero, suc, ◌≤◌, List, [], ◌∷◌, refl, arith}
use Rattle.std.specs.Prelude.{Bool, true, false, None, Some}
use Rattle.std.specs.declared.option.Option.{Option}
use Rattle.pv_typed.specs.declared.values.Const.{Const}
use Rattle.pv_typed.specs.Addresses.{constant_of}
use Rattle.pv_typed.specs.TypedTree.{TypedTree, line_of}
use Rattle.pv_typed.specs.TypedStatement.{TypedStatement, Block, Declare, Expression, Empty, If, IfElse, Switch, Case, Default, While, DoWhile, For, ForDeclaration, Continue, Break, Return, Statements, NoStatements, MoreStatements}
use Rattle.pv_typed.specs.TypedUnits.{Store, StoredValue, ValueOf, TextOf, TypedObject, TypedFunction, object_at, function_at, literal_at}
use Rattle.pv_typed.specs.Mains.{main_of}
use Rattle.pv_world.specs.Worlds.{Worth, Nothing}
use Rattle.pv_world.specs.Worths.{is_true, int_of}
use Rattle.pv_eval.specs.States.{Setting, State, Res, Stops, Unreached, then_do}
use Rattle.pv_eval.specs.TypeForms.{Lvalue, lvalue, size_of}
use Rattle.pv_eval.specs.Constants.{constant_worth}
use Rattle.pv_eval.specs.Operations.{Op, Tests, Accepts, Needs, Makes, MakesLiteral, MakesFunction, Ends, BeginsBody, EndsBody, Fills, Puts, PutsText, act}
use Rattle.pv_eval.proofs.Closed.{Relation, IsLvalue, Ways, beside_setting, choice, converted-way, handed-way, ev-closed}
use Rattle.pv_exec.specs.Flows.{Flow, Falls, Breaks, Continues, Returns, Below, falls, goes_on, behind_switch}
use Rattle.pv_exec.specs.OfRuns.{full_expression, testing, stores_value, begin_fill, declares, if_tested, then_step, round, round_do, returns_value, end_all, in_block, ex, exs, exs_at, take_params, runs_body, call_body, below, make_static, store_constant, store_static, prepare, call_main}
use Rattle.pv_exec.specs.Lists.{make_all, store_all, make_statics, make_literals, make_functions, store_statics, initialize_statics}
use Rattle.pv_exec.specs.Labels.{Target, ToCase, ToDefault, ToNone, target_of, is_target, unless_none}
use Rattle.pv_exec.specs.Execution.{ex_by}
use Rattle.pv_exec.specs.Calls.{value_by, below_by}

-- and the store of a constant, whose value is read off the world
pub record WaysIn (b b' : Setting) (R : Relation) : Type 1 where
  pub ways : Ways b b' R
  pub reads : {k : ℕ} (line o offset : ℕ) (l : Lvalue) (q : Const) → IsLvalue b l → R k k Worth (λ s. act b line (Puts o offset l (constant_worth s.world q)) s) (λ s. act b' line (Puts o offset l (constant_worth s.world q)) s)

module _ (b : Setting) (n : ℕ) (sides : Option (List Bool)) {R : Relation} (w : Ways b (beside_setting b n sides) R) where
  abbrev c : Setting
  c = beside_setting b n sides

  -- of two that lie below
  pub record Alike (k : ℕ) (u u' : Below) : Type 0 where
    pub call : (f : ℕ) (vs : List Worth) (line : ℕ) → R k k Worth (u.call f vs line) (u'.call f vs line)
    pub again : (x step : Option TypedTree) (y : TypedStatement) → R k k Flow (u.again x step y) (u'.again x step y)
    pub again_do : (y : TypedStatement) (x : TypedTree) → R k k Flow (u.again_do y x) (u'.again_do y x)

  pub falling : {k : ℕ} {m m' : State → Res Flow} (fl : Flow) → R k k Flow m m' → R k k Flow (falls fl m) (falls fl m')
  falling Falls h = h
  falling Breaks h = w.gives Breaks
  falling Continues h = w.gives Continues
  falling (Returns v) h = w.gives (Returns v)

  pub going : {k : ℕ} {m m' : State → Res Flow} (fl : Flow) → R k k Flow m m' → R k k Flow (goes_on fl m) (goes_on fl m')
  going Falls h = h
  going Continues h = h
  going Breaks h = w.gives Falls
  going (Returns v) h = w.gives (Returns v)

  pub switching : {k : ℕ} (fl : Flow) → R k k Flow (behind_switch fl) (behind_switch fl)
  switching Falls = w.gives Falls
  switching Breaks = w.gives Falls
  switching Continues = w.gives Continues
  switching (Returns v) = w.gives (Returns v)

  pub unless-way : {k : ℕ} {m m' : State → Res Flow} (t : Target) → R k k Flow m m' → R k k Flow (unless_none t m) (unless_none t m')
  unless-way ToNone h = w.gives Falls
  unless-way (ToCase v) h = h
  unless-way ToDefault h = h

  make-way : {k : ℕ} (os : List ℕ) → R k k Worth (make_all b os) (make_all c os)
  make-way [] = w.gives Nothing
  make-way (o ∷ os) = w.seq (w.acts (object_at b.unit o).line (Makes o) tt) (λ v. make-way os)

  pub end-way : {k : ℕ} (os : List ℕ) → R k k Worth (end_all b os) (end_all c os)
  end-way [] = w.gives Nothing
  end-way (o ∷ os) = w.seq (w.acts (object_at b.unit o).line (Ends o) tt) (λ v. end-way os)

  pub scoped-way : {k j : ℕ} {m m' : State → Res Flow} (os : List ℕ) → R k j Flow m m' → R k j Flow (in_block b os m) (in_block c os m')
  scoped-way os h = w.seq (make-way os) (λ v. w.seq h (λ fl. w.seq (end-way os) (λ v. w.gives fl)))

  module _ (k : ℕ) (u u' : Below) (h : Alike k u u') where
    pub full-way : (x : TypedTree) → R (suc k) k Worth (full_expression b u.call x) (full_expression c u'.call x)
    full-way x = w.seq (ev-closed b n sides w k u.call u'.call h.call x []) (λ g. w.gives g.value)

    pub testing-way : (x : TypedTree) → R (suc k) k Worth (testing b u.call x) (testing c u'.call x)
    testing-way x = w.seq (full-way x) (λ v. w.acts (line_of x) (Tests v) tt)

    pub stepped-way : {m m' : State → Res Flow} (x : Option TypedTree) → R k k Flow m m' → R k k Flow (then_step b u.call x m) (then_step c u'.call x m')
    stepped-way None g = g
    stepped-way (Some x) g = w.seq (w.less (full-way x)) (λ v. g)

    -- a round has a turn from its condition, or from its body
    pub tested-way : {m m' : State → Res Flow} (x : Option TypedTree) → R (suc k) k Flow m m' → R (suc k) k Flow (if_tested b u.call x m) (if_tested c u'.call x m')
    tested-way None g = g
    tested-way (Some x) g = w.seq (testing-way x) (λ v. choice b n sides w (is_true v) (w.less g) (w.gives Falls))

    pub round-way : {m m' x x' : State → Res Flow} (t s : Option TypedTree) → R (suc k) k Flow m m' → R k k Flow x x' → R (suc k) k Flow (round b u.call t s m x) (round c u'.call t s m' x')
    round-way t s g i = tested-way t (w.seq g (λ fl. going fl (stepped-way s i)))

    pub round_do-way : {m m' x x' : State → Res Flow} (t : TypedTree) → R (suc k) k Flow m m' → R k k Flow x x' → R (suc k) k Flow (round_do b u.call t m x) (round_do c u'.call t m' x')
    round_do-way t g i = w.seq g (λ fl. going fl (w.seq (w.less (testing-way t)) (λ v. choice b n sides w (is_true v) i (w.gives Falls))))

    pub value-way : (o : ℕ) (x : Store) (v : StoredValue) → R k k Worth (stores_value b u.call o x v) (stores_value c u'.call o x v)
    value-way o x (ValueOf e) = w.less (w.ticks (w.seq (w.less (full-way e)) (λ v. w.seq (handed-way b n sides w e v) (λ v. w.acts x.line (Puts o x.offset (lvalue b x.t) v) (x.t, refl)))))
    value-way o x (TextOf l) = w.less (w.ticks (w.acts x.line (PutsText o x.offset (size_of b x.t) l) tt))

    pub stores-way : (o : ℕ) (xs : List Store) → R k k Worth (store_all b u.call o xs) (store_all c u'.call o xs)
    stores-way o [] = w.gives Nothing
    stores-way o (x ∷ xs) = w.seq (value-way o x x.what) (λ v. stores-way o xs)

    fill-way : (o : ℕ) (braced : Bool) (xs : List Store) → R k k Worth (begin_fill b o braced xs) (begin_fill c o braced xs)
    fill-way o true xs = w.acts (object_at b.unit o).line (Fills o (Some 0)) tt
    fill-way o false [] = w.acts (object_at b.unit o).line (Fills o None) tt
    fill-way o false (x ∷ xs) = w.gives Nothing

    declares-way : (o : ℕ) (x : TypedObject) → R k k Flow (declares b u.call o x) (declares c u'.call o x)
    declares-way o x = w.seq (fill-way o x.braced x.inits) (λ v. w.seq (stores-way o x.inits) (λ v. w.gives Falls))

    pub returns-way : (x : Option TypedTree) (line : ℕ) → R k k Flow (returns_value b u.call x line) (returns_value c u'.call x line)
    returns-way None line = w.gives (Returns Nothing)
    returns-way (Some x) line = w.seq (w.less (full-way x)) (λ v. w.seq (converted-way b n sides w x v) (λ v. w.seq (w.acts line (Accepts v) tt) (λ v. w.gives (Returns v))))

    mutual
      unfolding ex_by

      -- every statement takes a turn
      pub ex-closed : (x : TypedStatement) → R (suc k) k Flow (ex b u x) (ex c u' x)
      ex-closed (Block line os xs) = w.ticks (scoped-way os (exs-closed xs))
      ex-closed (Declare line o) = w.ticks (w.gives Falls)
      ex-closed (Expression line x) = w.ticks (w.seq (w.less (full-way x)) (λ v. w.gives Falls))
      ex-closed (Empty line) = w.ticks (w.gives Falls)
      ex-closed (If line x y) = w.ticks (w.seq (w.less (testing-way x)) (λ v. choice b n sides w (is_true v) (w.less (ex-closed y)) (w.gives Falls)))
      ex-closed (IfElse line x y z) = w.ticks (w.seq (w.less (testing-way x)) (λ v. choice b n sides w (is_true v) (w.less (ex-closed y)) (w.less (ex-closed z))))
      ex-closed (Switch line x (Block m os xs)) = w.ticks (w.seq (w.less (full-way x)) (λ v. w.seq (converted-way b n sides w x v) (λ v. w.seq (w.acts (line_of x) (Needs v) tt) (λ v. unless-way (target_of (int_of v) xs) (w.less (w.ticks (w.seq (scoped-way os (exs_at-closed (target_of (int_of v) xs) xs)) (λ fl. switching fl))))))))
      ex-closed (Switch line x (Declare l o)) = w.ticks (w.gives Falls)
      ex-closed (Switch line x (Expression l y)) = w.ticks (w.gives Falls)
      ex-closed (Switch line x (Empty l)) = w.ticks (w.gives Falls)
      ex-closed (Switch line x (If l y z)) = w.ticks (w.gives Falls)
      ex-closed (Switch line x (IfElse l y z q)) = w.ticks (w.gives Falls)
      ex-closed (Switch line x (Switch l y z)) = w.ticks (w.gives Falls)
      ex-closed (Switch line x (Case l m y)) = w.ticks (w.gives Falls)
      ex-closed (Switch line x (Default l y)) = w.ticks (w.gives Falls)
      ex-closed (Switch line x (While l y z)) = w.ticks (w.gives Falls)
      ex-closed (Switch line x (DoWhile l y z)) = w.ticks (w.gives Falls)
      ex-closed (Switch line x (For l f y s z)) = w.ticks (w.gives Falls)
      ex-closed (Switch line x (ForDeclaration l os ds y s z)) = w.ticks (w.gives Falls)
      ex-closed (Switch line x (Continue l)) = w.ticks (w.gives Falls)
      ex-closed (Switch line x (Break l)) = w.ticks (w.gives Falls)
      ex-closed (Switch line x (Return l y)) = w.ticks (w.gives Falls)
      ex-closed (Case line m x) = ex-closed x
      ex-closed (Default line x) = ex-closed x
      ex-closed (While line x y) = w.ticks (w.less (round-way (Some x) None (ex-closed y) (h.again (Some x) None y)))
      ex-closed (DoWhile line y x) = w.ticks (w.less (round_do-way x (ex-closed y) (h.again_do y x)))
      ex-closed (For line first x step y) = w.ticks (stepped-way first (w.less (round-way x step (ex-closed y) (h.again x step y))))
      ex-closed (ForDeclaration line os ds x step y) = w.ticks (scoped-way os (w.seq (exs-closed ds) (λ fl. falling fl (w.less (round-way x step (ex-closed y) (h.again x step y))))))
      ex-closed (Continue line) = w.ticks (w.gives Continues)
      ex-closed (Break line) = w.ticks (w.gives Breaks)
      ex-closed (Return line x) = w.ticks (returns-way x line)

      pub exs-closed : (xs : Statements) → R k k Flow (exs b u xs) (exs c u' xs)
      exs-closed NoStatements = w.gives Falls
      exs-closed (MoreStatements (Declare line o) xs) = w.seq (declares-way o (object_at b.unit o)) (λ fl. exs-closed xs)
      exs-closed (MoreStatements (Block l os ys) xs) = w.seq (w.less (ex-closed (Block l os ys))) (λ fl. falling fl (exs-closed xs))
      exs-closed (MoreStatements (Expression l y) xs) = w.seq (w.less (ex-closed (Expression l y))) (λ fl. falling fl (exs-closed xs))
      exs-closed (MoreStatements (Empty l) xs) = w.seq (w.less (ex-closed (Empty l))) (λ fl. falling fl (exs-closed xs))
      exs-closed (MoreStatements (If l y z) xs) = w.seq (w.less (ex-closed (If l y z))) (λ fl. falling fl (exs-closed xs))
      exs-closed (MoreStatements (IfElse l y z q) xs) = w.seq (w.less (ex-closed (IfElse l y z q))) (λ fl. falling fl (exs-closed xs))
      exs-closed (MoreStatements (Switch l y z) xs) = w.seq (w.less (ex-closed (Switch l y z))) (λ fl. falling fl (exs-closed xs))
      exs-closed (MoreStatements (Case l m y) xs) = w.seq (w.less (ex-closed (Case l m y))) (λ fl. falling fl (exs-closed xs))
      exs-closed (MoreStatements (Default l y) xs) = w.seq (w.less (ex-closed (Default l y))) (λ fl. falling fl (exs-closed xs))
      exs-closed (MoreStatements (While l y z) xs) = w.seq (w.less (ex-closed (While l y z))) (λ fl. falling fl (exs-closed xs))
      exs-closed (MoreStatements (DoWhile l y z) xs) = w.seq (w.less (ex-closed (DoWhile l y z))) (λ fl. falling fl (exs-closed xs))
      exs-closed (MoreStatements (For l f y s z) xs) = w.seq (w.less (ex-closed (For l f y s z))) (λ fl. falling fl (exs-closed xs))
      exs-closed (MoreStatements (ForDeclaration l os ds y s z) xs) = w.seq (w.less (ex-closed (ForDeclaration l os ds y s z))) (λ fl. falling fl (exs-closed xs))
      exs-closed (MoreStatements (Continue l) xs) = w.seq (w.less (ex-closed (Continue l))) (λ fl. falling fl (exs-closed xs))
      exs-closed (MoreStatements (Break l) xs) = w.seq (w.less (ex-closed (Break l))) (λ fl. falling fl (exs-closed xs))
      exs-closed (MoreStatements (Return l y) xs) = w.seq (w.less (ex-closed (Return l y))) (λ fl. falling fl (exs-closed xs))

      pub exs_at-closed : (t : Target) (xs : Statements) → R k k Flow (exs_at b u t xs) (exs_at c u' t xs)
      exs_at-closed t NoStatements = w.gives Falls
      exs_at-closed t (MoreStatements x xs) = choice b n sides w (is_target t x) (w.seq (w.less (ex-closed x)) (λ fl. falling fl (exs-closed xs))) (exs_at-closed t xs)

  params-way : {k : ℕ} (line : ℕ) (os : List ℕ) (vs : List Worth) → R k k Worth (take_params b line os vs) (take_params c line os vs)
  params-way line [] vs = w.gives Nothing
  params-way line (o ∷ os) [] = w.gives Nothing
  params-way line (o ∷ os) (v ∷ vs) = w.seq (w.acts line (Makes o) tt) (λ x. w.seq (w.acts line (Puts o 0 (lvalue b (object_at b.unit o).t) v) ((object_at b.unit o).t, refl)) (λ x. params-way line os vs))

  runs-way : (k : ℕ) (u u' : Below) → Alike k u u' → (x : Option TypedStatement) → R (suc k) (suc k) Flow (runs_body b u x) (runs_body c u' x)
  runs-way k u u' h None = w.more (w.ticks (w.gives Falls))
  runs-way k u u' h (Some x) = w.more (ex-closed k u u' h x)

  -- a call of a function
  pub body-closed : (k : ℕ) (u u' : Below) → Alike k u u' → (f : TypedFunction) (vs : List Worth) (line : ℕ) → R (suc k) (suc k) Worth (call_body b u f vs line) (call_body c u' f vs line)
  body-closed k u u' h f vs line = w.seq (w.acts line (BeginsBody f.name line) tt) (λ x. w.seq (params-way line f.params vs) (λ x. w.seq (runs-way k u u' h f.body) (λ fl. w.seq (end-way f.params) (λ x. w.seq (w.acts line EndsBody tt) (λ x. w.gives (value_by b f fl))))))

  -- one level up
  pub level-closed : (k i i' : ℕ) → Alike k (below b i) (below c i') → Alike (suc k) (below b (suc i)) (below c (suc i'))
  unfolding below_by
  level-closed k i i' h =
      let u : Below = below b i in
      let u' : Below = below c i' in
      record {
        call = λ f vs line. body-closed k u u' h (function_at b.unit f) vs line;
        again = λ x step y. w.more (round-way k u u' h x step (ex-closed k u u' h y) (h.again x step y));
        again_do = λ y x. w.more (round_do-way k u u' h x (ex-closed k u u' h y) (h.again_do y x));
      }

  -- where nothing may begin any more
  pub even-closed : ((A : Type 0) → R 0 0 A (λ s. Stops Unreached s) (λ s. Stops Unreached s)) → (k : ℕ) → Alike k (below b k) (below c k)
  unfolding below_by
  even-closed h zero = record { call = λ f vs line. h Worth; again = λ x step y. h Flow; again_do = λ y x. h Flow }
  even-closed h (suc k) = level-closed k k k (even-closed h k)

  -- the same where more may begin in the second
  pub below-closed : ((k' : ℕ) → Alike zero (below b zero) (below c k')) → (k k' : ℕ) → k ≤ k' → Alike k (below b k) (below c k')
  below-closed h zero k' le = h k'
  below-closed h (suc k) zero le = absurd (omega (arith, le))
  below-closed h (suc k) (suc k') le = level-closed k k k' (below-closed h k k' (omega (arith, le)))

-- a whole run
module _ (b : Setting) (n : ℕ) (sides : Option (List Bool)) {R : Relation} (i : WaysIn b (beside_setting b n sides) R) where
  abbrev d : Setting
  d = beside_setting b n sides

  static-way : {k : ℕ} (o : ℕ) → R k k Worth (make_static b o) (make_static d o)
  static-way o = i.ways.seq (i.ways.acts (object_at b.unit o).line (Makes o) tt) (λ v. i.ways.acts (object_at b.unit o).line (Fills o (Some 0)) tt)

  statics-way : {k : ℕ} (os : List ℕ) → R k k Worth (make_statics b os) (make_statics d os)
  statics-way [] = i.ways.gives Nothing
  statics-way (o ∷ os) = i.ways.seq (static-way o) (λ v. statics-way os)

  functions-way : {k : ℕ} (fs : List ℕ) → R k k Worth (make_functions b fs) (make_functions d fs)
  functions-way [] = i.ways.gives Nothing
  functions-way (f ∷ fs) = i.ways.seq (i.ways.acts (function_at b.unit f).line (MakesFunction f) tt) (λ v. functions-way fs)

  literals-way : {k : ℕ} (ls : List ℕ) → R k k Worth (make_literals b ls) (make_literals d ls)
  literals-way [] = i.ways.gives Nothing
  literals-way (l ∷ ls) = i.ways.seq (i.ways.acts (literal_at b.unit l).line (MakesLiteral l) tt) (λ v. literals-way ls)

  constant-way : {k : ℕ} (o : ℕ) (x : Store) (q : Option Const) → R k k Worth (store_constant b o x q) (store_constant d o x q)
  constant-way o x None = i.ways.gives Nothing
  constant-way o x (Some q) = i.reads x.line o x.offset (lvalue b x.t) q (x.t, refl)

  stored-way : {k : ℕ} (o : ℕ) (x : Store) (v : StoredValue) → R k k Worth (store_static b o x v) (store_static d o x v)
  stored-way o x (ValueOf e) = constant-way o x (constant_of b.unit e)
  stored-way o x (TextOf l) = i.ways.acts x.line (PutsText o x.offset (size_of b x.t) l) tt

  all-stored-way : {k : ℕ} (o : ℕ) (xs : List Store) → R k k Worth (store_statics b o xs) (store_statics d o xs)
  all-stored-way o [] = i.ways.gives Nothing
  all-stored-way o (x ∷ xs) = i.ways.seq (stored-way o x x.what) (λ v. all-stored-way o xs)

  initials-way : {k : ℕ} (os : List ℕ) → R k k Worth (initialize_statics b os) (initialize_statics d os)
  initials-way [] = i.ways.gives Nothing
  initials-way (o ∷ os) = i.ways.seq (all-stored-way o (object_at b.unit o).inits) (λ v. initials-way os)

  prepare-way : {k : ℕ} → R k k Worth (prepare b) (prepare d)
  prepare-way =
      i.ways.seq (statics-way b.unit.statics) (λ v. i.ways.seq (literals-way b.unit.instances) (λ v.
      i.ways.seq (functions-way b.unit.placed) (λ v. initials-way b.unit.statics)))

  main-way : (k : ℕ) → Alike b n sides i.ways k (below b b.bound) (below d n) → (f : Option ℕ) → R (suc k) (suc k) Worth (call_main b f) (call_main d f)
  main-way k h None = i.ways.gives Nothing
  main-way k h (Some f) = body-closed b n sides i.ways k (below b b.bound) (below d n) h (function_at b.unit f) [] (function_at b.unit f).line

  pub run-closed : (k : ℕ) → Alike b n sides i.ways k (below b b.bound) (below d n) → R (suc k) (suc k) Worth (λ s. then_do (prepare b s) (λ v s. call_main b (main_of b.unit) s)) (λ s. then_do (prepare d s) (λ v s. call_main d (main_of d.unit) s))
  run-closed k h = i.ways.seq prepare-way (λ v. main-way k h (main_of b.unit))
