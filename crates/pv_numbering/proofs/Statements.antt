-- Every statement keeps moments alike, and is left in the same way: one line for each kind of statement, and one lemma for each word of execution.
use Rattle.std.proofs.Common.{ℕ, List, [], ◌∷◌, refl, sym, subst}
use Rattle.std.specs.Prelude.{ℤ, Bool, true, false, None, Some}
use Rattle.std.specs.declared.option.Option.{Option}
use Rattle.pv_types.specs.Known.{Known}
use Rattle.pv_typed.specs.Known.{Each}
use Rattle.pv_typed.specs.TypedTree.{TypedTree, line_of}
use Rattle.pv_typed.specs.TypedStatement.{TypedStatement, Block, Declare, Expression, Empty, If, IfElse, Switch, Case, Default, While, DoWhile, For, ForDeclaration, Continue, Break, Return, Statements, NoStatements, MoreStatements}
use Rattle.pv_typed.specs.TypedUnits.{Store, StoredValue, ValueOf, TextOf, TypedObject, object_at}
use Rattle.pv_world.specs.Worlds.{Worth, Nothing}
use Rattle.pv_world.specs.Worths.{is_true, int_of}
use Rattle.pv_eval.specs.States.{Setting, State, Res, then_do, tick}
use Rattle.pv_eval.specs.TypeForms.{lvalue, size_of}
use Rattle.pv_eval.specs.Operations.{Tests, Accepts, Needs, Makes, Ends, Fills, Puts, PutsText}
use Rattle.pv_exec.specs.Flows.{Flow, Falls, Breaks, Continues, Returns, Below, falls, goes_on, behind_switch}
use Rattle.pv_exec.specs.OfRuns.{full_expression, testing, stores_value, begin_fill, declares, if_tested, then_step, round, round_do, returns_value, end_all, in_block, ex, exs, exs_at}
use Rattle.pv_exec.specs.Lists.{make_all, store_all}
use Rattle.pv_exec.specs.Labels.{Target, ToCase, ToDefault, ToNone, target_of, is_target, unless_none}
use Rattle.pv_exec.specs.Execution.{ex_by}
use Rattle.pv_numbering.proofs.Alike.{with_types, AlikeWorth, AlikeWorths}
use Rattle.pv_numbering.proofs.Acts.{ActsAlike}
use Rattle.pv_numbering.proofs.Types.{AllTypes, AllOption, AllStatement, AllStatements, AllValue, AllStore, AllUnit}
use Rattle.pv_numbering.proofs.Pieces.{Pieces, gives, did, seq, ticks, choice, true-same, int-same}
use Rattle.pv_numbering.proofs.Expressions.{AlikeType, converted-alike, handed-alike, ev-alike}
use Rattle.pv_numbering.proofs.ByNumber.{inits-of}

-- two statements that are left in the same way, with values that are alike
abbrev pub AlikeFlow : (m m' : Known) → Flow → Flow → Type 0
AlikeFlow m m' Falls Falls = Unit {0}
AlikeFlow m m' Breaks Breaks = Unit {0}
AlikeFlow m m' Continues Continues = Unit {0}
AlikeFlow m m' (Returns v) (Returns v') = AlikeWorth m m' v v'
AlikeFlow m m' _ _ = ⊥

-- two that lie below
pub record Beneath (b : Setting) (m' : Known) (u u' : Below) : Type 0 where
  pub call : (f : ℕ) (vs vs' : List Worth) → AlikeWorths b.types m' vs vs' → (line : ℕ) → Pieces b m' (AlikeWorth b.types m') (u.call f vs line) (u'.call f vs' line)
  pub again : (x step : Option TypedTree) (y : TypedStatement) → AllOption (AlikeType b m') x → AllOption (AlikeType b m') step → AllStatement (AlikeType b m') y → Pieces b m' (AlikeFlow b.types m') (u.again x step y) (u'.again x step y)
  pub again_do : (y : TypedStatement) (x : TypedTree) → AllStatement (AlikeType b m') y → AllTypes (AlikeType b m') x → Pieces b m' (AlikeFlow b.types m') (u.again_do y x) (u'.again_do y x)

-- what a `switch` with this value does
abbrev selects : Setting → Below → List ℕ → Statements → ℤ → State → Res Flow
selects b u os xs n = unless_none (target_of n xs) (λ s. tick b s (λ s. then_do (in_block b os (λ s. exs_at b u (target_of n xs) xs s) s) behind_switch))

module _ {b : Setting} {m' : Known} (acts : ActsAlike b m') where
  abbrev c : Setting
  c = with_types b m'

  abbrev Same : Worth → Worth → Type 0
  Same = AlikeWorth b.types m'

  abbrev Left : Flow → Flow → Type 0
  Left = AlikeFlow b.types m'

  falling : {m n : State → Res Flow} (fl fl' : Flow) → Left fl fl' → Pieces b m' Left m n → Pieces b m' Left (falls fl m) (falls fl' n)
  falling Falls Falls f h = h
  falling Breaks Breaks f h = gives Breaks Breaks tt
  falling Continues Continues f h = gives Continues Continues tt
  falling (Returns v) (Returns v') f h = gives (Returns v) (Returns v') f
  falling fl fl' f h = absurd f

  going : {m n : State → Res Flow} (fl fl' : Flow) → Left fl fl' → Pieces b m' Left m n → Pieces b m' Left (goes_on fl m) (goes_on fl' n)
  going Falls Falls f h = h
  going Continues Continues f h = h
  going Breaks Breaks f h = gives Falls Falls tt
  going (Returns v) (Returns v') f h = gives (Returns v) (Returns v') f
  going fl fl' f h = absurd f

  switching : (fl fl' : Flow) → Left fl fl' → Pieces b m' Left (behind_switch fl) (behind_switch fl')
  switching Falls Falls f = gives Falls Falls tt
  switching Breaks Breaks f = gives Falls Falls tt
  switching Continues Continues f = gives Continues Continues tt
  switching (Returns v) (Returns v') f = gives (Returns v) (Returns v') f
  switching fl fl' f = absurd f

  unless-alike : {m n : State → Res Flow} (t : Target) → Pieces b m' Left m n → Pieces b m' Left (unless_none t m) (unless_none t n)
  unless-alike ToNone h = gives Falls Falls tt
  unless-alike (ToCase v) h = h
  unless-alike ToDefault h = h

  make-alike : (os : List ℕ) → Pieces b m' Same (make_all b os) (make_all c os)
  make-alike [] = gives Nothing Nothing tt
  make-alike (o ∷ os) = seq (did (Makes o) (Makes o) (object_at b.unit o).line (acts.makes o)) (λ v v' e. make-alike os)

  pub end-alike : (os : List ℕ) → Pieces b m' Same (end_all b os) (end_all c os)
  end-alike [] = gives Nothing Nothing tt
  end-alike (o ∷ os) = seq (did (Ends o) (Ends o) (object_at b.unit o).line (acts.ends o)) (λ v v' e. end-alike os)

  scoped-alike : {m n : State → Res Flow} (os : List ℕ) → Pieces b m' Left m n → Pieces b m' Left (in_block b os m) (in_block c os n)
  scoped-alike os h = seq (make-alike os) (λ v v' e. seq h (λ fl fl' f. seq (end-alike os) (λ v v' e. gives fl fl' f)))

  module _ (unit : AllUnit (AlikeType b m') b.unit) (u u' : Below) (below : Beneath b m' u u') where
    full-alike : (x : TypedTree) → AllTypes (AlikeType b m') x → Pieces b m' Same (full_expression b u.call x) (full_expression c u'.call x)
    full-alike x p = seq (ev-alike acts u.call u'.call below.call x p []) (λ g g' e. gives g.value g'.value e.value)

    testing-alike : (x : TypedTree) → AllTypes (AlikeType b m') x → Pieces b m' Same (testing b u.call x) (testing c u'.call x)
    testing-alike x p = seq (full-alike x p) (λ v v' e. did (Tests v) (Tests v') (line_of x) (acts.tests v v' e))

    stepped-alike : {m n : State → Res Flow} (x : Option TypedTree) → AllOption (AlikeType b m') x → Pieces b m' Left m n → Pieces b m' Left (then_step b u.call x m) (then_step c u'.call x n)
    stepped-alike None p h = h
    stepped-alike (Some x) p h = seq (full-alike x p) (λ v v' e. h)

    tested-alike : {m n : State → Res Flow} (x : Option TypedTree) → AllOption (AlikeType b m') x → Pieces b m' Left m n → Pieces b m' Left (if_tested b u.call x m) (if_tested c u'.call x n)
    tested-alike None p h = h
    tested-alike (Some x) p h = seq (testing-alike x p) (λ v v' e. choice (is_true v) (is_true v') (true-same b.types m' v v' e) h (gives Falls Falls tt))

    pub round-alike : {m n x y : State → Res Flow} (t s : Option TypedTree) → AllOption (AlikeType b m') t → AllOption (AlikeType b m') s → Pieces b m' Left m n → Pieces b m' Left x y → Pieces b m' Left (round b u.call t s m x) (round c u'.call t s n y)
    round-alike t s p q g h = tested-alike t p (seq g (λ fl fl' f. going fl fl' f (stepped-alike s q h)))

    pub round_do-alike : {m n x y : State → Res Flow} (t : TypedTree) → AllTypes (AlikeType b m') t → Pieces b m' Left m n → Pieces b m' Left x y → Pieces b m' Left (round_do b u.call t m x) (round_do c u'.call t n y)
    round_do-alike t p g h = seq g (λ fl fl' f. going fl fl' f (tested-alike (Some t) p h))

    value-alike : (o : ℕ) (x : Store) (v : StoredValue) → AllStore (AlikeType b m') x → AllValue (AlikeType b m') v → Pieces b m' Same (stores_value b u.call o x v) (stores_value c u'.call o x v)
    value-alike o x (ValueOf e) k p = ticks (seq (full-alike e p) (λ v v' h. seq (handed-alike acts e v v' h) (λ v v' h. did (Puts o x.offset (lvalue b x.t) v) (Puts o x.offset (lvalue c x.t) v') x.line (acts.puts o x.offset (lvalue b x.t) (lvalue c x.t) v v' k.t h))))
    value-alike o x (TextOf l) k p = ticks (did (PutsText o x.offset (size_of b x.t) l) (PutsText o x.offset (size_of b x.t) l) x.line (acts.puts_text o x.offset (size_of b x.t) l))

    stores-alike : (o : ℕ) (xs : List Store) → Each (AllStore (AlikeType b m')) xs → Pieces b m' Same (store_all b u.call o xs) (store_all c u'.call o xs)
    stores-alike o [] k = gives Nothing Nothing tt
    stores-alike o (x ∷ xs) k = seq (value-alike o x x.what k.0 k.0.what) (λ v v' e. stores-alike o xs k.1)

    fill-alike : (o : ℕ) (braced : Bool) (xs : List Store) → Pieces b m' Same (begin_fill b o braced xs) (begin_fill c o braced xs)
    fill-alike o true xs = did (Fills o (Some 0)) (Fills o (Some 0)) (object_at b.unit o).line (acts.fills o (Some 0))
    fill-alike o false [] = did (Fills o None) (Fills o None) (object_at b.unit o).line (acts.fills o None)
    fill-alike o false (x ∷ xs) = gives Nothing Nothing tt

    declares-alike : (o : ℕ) (x : TypedObject) → Each (AllStore (AlikeType b m')) x.inits → Pieces b m' Left (declares b u.call o x) (declares c u'.call o x)
    declares-alike o x k = seq (fill-alike o x.braced x.inits) (λ v v' e. seq (stores-alike o x.inits k) (λ v v' e. gives Falls Falls tt))

    returns-alike : (x : Option TypedTree) (line : ℕ) → AllOption (AlikeType b m') x → Pieces b m' Left (returns_value b u.call x line) (returns_value c u'.call x line)
    returns-alike None line p = gives (Returns Nothing) (Returns Nothing) tt
    returns-alike (Some x) line p = seq (full-alike x p) (λ v v' e. seq (converted-alike acts x v v' e) (λ v v' e. seq (did (Accepts v) (Accepts v') line (acts.accepts v v' e)) (λ v v' e. gives (Returns v) (Returns v') e)))

    mutual
      unfolding ex_by

      pub ex-alike : (x : TypedStatement) → AllStatement (AlikeType b m') x → Pieces b m' Left (ex b u x) (ex c u' x)
      ex-alike (Block line os xs) p = ticks (scoped-alike os (exs-alike xs p))
      ex-alike (Declare line o) p = ticks (gives Falls Falls tt)
      ex-alike (Expression line x) p = ticks (seq (full-alike x p) (λ v v' e. gives Falls Falls tt))
      ex-alike (Empty line) p = ticks (gives Falls Falls tt)
      ex-alike (If line x y) p = ticks (seq (testing-alike x p.0) (λ v v' e. choice (is_true v) (is_true v') (true-same b.types m' v v' e) (ex-alike y p.1) (gives Falls Falls tt)))
      ex-alike (IfElse line x y z) p = ticks (seq (testing-alike x p.0) (λ v v' e. choice (is_true v) (is_true v') (true-same b.types m' v v' e) (ex-alike y p.1) (ex-alike z p.2)))
      ex-alike (Switch line x (Block m os xs)) p = ticks (seq (full-alike x p.0) (λ v v' e. seq (converted-alike acts x v v' e) (λ v v' e. seq (did (Needs v) (Needs v') (line_of x) (acts.needs v v' e)) (λ v v' e. subst (λ (z : ℤ). Pieces b m' Left (selects b u os xs (int_of v)) (selects c u' os xs z)) (sym (int-same b.types m' v v' e)) (unless-alike (target_of (int_of v) xs) (ticks (seq (scoped-alike os (exs_at-alike (target_of (int_of v) xs) xs p.1)) switching)))))))
      ex-alike (Switch line x (Declare l o)) p = ticks (gives Falls Falls tt)
      ex-alike (Switch line x (Expression l y)) p = ticks (gives Falls Falls tt)
      ex-alike (Switch line x (Empty l)) p = ticks (gives Falls Falls tt)
      ex-alike (Switch line x (If l y z)) p = ticks (gives Falls Falls tt)
      ex-alike (Switch line x (IfElse l y z q)) p = ticks (gives Falls Falls tt)
      ex-alike (Switch line x (Switch l y z)) p = ticks (gives Falls Falls tt)
      ex-alike (Switch line x (Case l m y)) p = ticks (gives Falls Falls tt)
      ex-alike (Switch line x (Default l y)) p = ticks (gives Falls Falls tt)
      ex-alike (Switch line x (While l y z)) p = ticks (gives Falls Falls tt)
      ex-alike (Switch line x (DoWhile l y z)) p = ticks (gives Falls Falls tt)
      ex-alike (Switch line x (For l f y s z)) p = ticks (gives Falls Falls tt)
      ex-alike (Switch line x (ForDeclaration l os ds y s z)) p = ticks (gives Falls Falls tt)
      ex-alike (Switch line x (Continue l)) p = ticks (gives Falls Falls tt)
      ex-alike (Switch line x (Break l)) p = ticks (gives Falls Falls tt)
      ex-alike (Switch line x (Return l y)) p = ticks (gives Falls Falls tt)
      ex-alike (Case line m x) p = ex-alike x p
      ex-alike (Default line x) p = ex-alike x p
      ex-alike (While line x y) p = ticks (round-alike (Some x) None p.0 tt (ex-alike y p.1) (below.again (Some x) None y p.0 tt p.1))
      ex-alike (DoWhile line y x) p = ticks (round_do-alike x p.1 (ex-alike y p.0) (below.again_do y x p.0 p.1))
      ex-alike (For line first x step y) p = ticks (stepped-alike first p.0 (round-alike x step p.1 p.2 (ex-alike y p.3) (below.again x step y p.1 p.2 p.3)))
      ex-alike (ForDeclaration line os ds x step y) p = ticks (scoped-alike os (seq (exs-alike ds p.0) (λ fl fl' f. falling fl fl' f (round-alike x step p.1 p.2 (ex-alike y p.3) (below.again x step y p.1 p.2 p.3)))))
      ex-alike (Continue line) p = ticks (gives Continues Continues tt)
      ex-alike (Break line) p = ticks (gives Breaks Breaks tt)
      ex-alike (Return line x) p = ticks (returns-alike x line p)

      exs-alike : (xs : Statements) → AllStatements (AlikeType b m') xs → Pieces b m' Left (exs b u xs) (exs c u' xs)
      exs-alike NoStatements p = gives Falls Falls tt
      exs-alike (MoreStatements (Declare line o) xs) p = seq (declares-alike o (object_at b.unit o) (inits-of b m' unit o)) (λ fl fl' f. exs-alike xs p.1)
      exs-alike (MoreStatements x xs) p = seq (ex-alike x p.0) (λ fl fl' f. falling fl fl' f (exs-alike xs p.1))

      exs_at-alike : (t : Target) (xs : Statements) → AllStatements (AlikeType b m') xs → Pieces b m' Left (exs_at b u t xs) (exs_at c u' t xs)
      exs_at-alike t NoStatements p = gives Falls Falls tt
      exs_at-alike t (MoreStatements x xs) p = choice (is_target t x) (is_target t x) refl (seq (ex-alike x p.0) (λ fl fl' f. falling fl fl' f (exs-alike xs p.1))) (exs_at-alike t xs p.1)
