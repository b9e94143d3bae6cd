-- Words of execution (C17 6.8): how a statement is left, what lies below, the stores of an initializer,
-- and rounds of loops.
use Rattle.std.specs.Prelude.{ℕ, Bool, true, false, List, [], ◌∷◌, Some, None, if◌then◌else◌}
use Rattle.std.specs.declared.option.Option.{Option}
use Rattle.pv_typed.specs.TypedTree.{TypedTree, line_of}
use Rattle.pv_typed.specs.TypedStatement.{TypedStatement}
use Rattle.pv_typed.specs.TypedUnits.{Store, StoredValue, ValueOf, TextOf, TypedObject, object_at}
use Rattle.pv_world.specs.Worlds.{Worth, Nothing}
use Rattle.pv_world.specs.Worths.{is_true}
use Rattle.pv_eval.specs.States.{Setting, State, Res, Gives, then_do, tick}
use Rattle.pv_eval.specs.TypeForms.{lvalue, size_of}
use Rattle.pv_eval.specs.Operations.{Tests, Accepts, Fills, Puts, PutsText}
use Rattle.pv_eval.specs.Steps.{Calling, with_conversion_by, accepted_value_by}
use Rattle.pv_eval.specs.Evaluation.{ev_by}
use Rattle.pv_exec.specs.Rules.{Rules}

-- how a statement is left (6.8p2, 6.8.6p2): it falls through to what follows, or jumps by `break`, `continue` or `return`, with a value
pub data Flow : Type 0 where
  Falls : Flow
  Breaks : Flow
  Continues : Flow
  Returns : Worth → Flow

-- what lies below: a call of a function (6.5.2.2), and a further round of a loop (6.8.5p4)
pub record Below : Type 0 where
  pub call : Calling
  pub again : (condition step : Option TypedTree) → TypedStatement → State → Res Flow
  pub again_do : TypedStatement → (condition : TypedTree) → State → Res Flow

-- 6.8p4: a full expression, which has no foes; its accesses end with it
abbrev pub full_expression_by : Rules → Setting → Calling → TypedTree → State → Res Worth
full_expression_by R b call x s = then_do (ev_by R.act b call x [] s) (λ g s. Gives g.value s)

-- 5.1.2.3p3: what is done for each of a list, one after the other in its order
abbrev pub each : {A : Type 0} → (A → State → Res Worth) → List A → State → Res Worth
each go [] s = Gives Nothing s
each go (x ∷ xs) s = then_do (go x s) (λ v s. each go xs s)

-- 6.8.3p2: the value is dropped, and the statement falls through
abbrev pub nothing_done : Res Worth → Res Flow
nothing_done r = then_do r (λ v s. Gives Falls s)

-- 6.8.4.1p2, 6.8.5p4: a controlling expression, compared with 0 at its own line
abbrev pub testing_by : Rules → Setting → Calling → TypedTree → State → Res Worth
testing_by R b call x s = then_do (full_expression_by R b call x s) (λ v s. R.act b (line_of x) (Tests v) s)

-- 6.8p2: in sequence: goes on where the statement before fell through; else how that was left is handed on
abbrev pub falls : Flow → (State → Res Flow) → State → Res Flow
falls Falls go s = go s
falls flow go s = Gives flow s

-- 6.8.6.2p2, 6.8.6.3p2: after the body of a loop: `continue` goes on with the loop, `break` ends it
abbrev pub goes_on : Flow → (State → Res Flow) → State → Res Flow
goes_on Breaks go s = Gives Falls s
goes_on (Returns v) go s = Gives (Returns v) s
goes_on _ go s = go s

-- 6.8.6.3p2: after the body of a `switch`: `break` ends it, `continue` and `return` are handed on
abbrev pub behind_switch : Flow → State → Res Flow
behind_switch Breaks s = Gives Falls s
behind_switch flow s = Gives flow s

-- 6.7.9p11, p13, p14: a store of an initializer that is reached takes a turn: a value as if assigned, or a string's characters
abbrev pub stores_value_by : Rules → Setting → Calling → (object : ℕ) → Store → StoredValue → State → Res Worth
stores_value_by R b call o x (ValueOf e) s =
    tick b s (λ s. then_do (full_expression_by R b call e s) (λ v s. then_do (accepted_value_by R.act b e v s) (λ v s. R.act b x.line (Puts o x.offset (lvalue b x.t) v) s)))
stores_value_by R b call o x (TextOf l) s = tick b s (λ s. R.act b x.line (PutsText o x.offset (size_of b x.t) l) s)

-- 6.7.9p10, p19, p21: all bytes first: 0 where there are braces or a string for an array; without an initializer they have no value
abbrev pub begin_fill_by : Rules → Setting → (object : ℕ) → (braced : Bool) → List Store → State → Res Worth
begin_fill_by R b o true xs s = R.act b (object_at b.unit o).line (Fills o (Some 0)) s
begin_fill_by R b o false [] s = R.act b (object_at b.unit o).line (Fills o None) s
begin_fill_by R b o false (x ∷ xs) s = Gives Nothing s

-- 6.2.4p6, 6.8p3, 6.7.9p10, p19: a declaration that is reached: its object has its value anew: all its stores, in the order of the list (p23 leaves
-- the order of evaluation open)
abbrev pub declares_by : Rules → Setting → Calling → (object : ℕ) → TypedObject → State → Res Flow
declares_by R b call o x s =
    then_do (begin_fill_by R b o x.braced x.inits s) (λ v s. nothing_done (each (λ (y : Store) s. stores_value_by R b call o y y.what s) x.inits s))

-- 6.8.5p4, 6.8.5.3p2: goes on where the condition isn't 0, or where a `for` has none; else the loop has ended
abbrev pub if_tested_by : Rules → Setting → Calling → Option TypedTree → (State → Res Flow) → State → Res Flow
if_tested_by R b call None go s = go s
if_tested_by R b call (Some x) go s = then_do (testing_by R b call x s) (λ v s. if is_true v then go s else Gives Falls s)

-- 6.8.5.3p1, p2: the first or the last expression of a `for`, which may be left out
abbrev pub then_step_by : Rules → Setting → Calling → Option TypedTree → (State → Res Flow) → State → Res Flow
then_step_by R b call None go s = go s
then_step_by R b call (Some x) go s = then_do (full_expression_by R b call x s) (λ v s. go s)

-- 6.8.5.1p1, 6.8.5.3p1: a round of `while` or `for`: the condition, the body, the last expression, and again
abbrev pub round_by : Rules → Setting → Calling → (condition step : Option TypedTree) → (body again : State → Res Flow) → State → Res Flow
round_by R b call c step body again s = if_tested_by R b call c (λ s. then_do (body s) (λ fl s. goes_on fl (then_step_by R b call step again) s)) s

-- 6.8.5.2p1: a round of `do`: the body, the condition, and again
abbrev pub round_do_by : Rules → Setting → Calling → (condition : TypedTree) → (body again : State → Res Flow) → State → Res Flow
round_do_by R b call c body again s = then_do (body s) (λ fl s. goes_on fl (if_tested_by R b call (Some c) again) s)

-- 6.8.6.4p2, p3: the value of a `return` is converted as if by assignment, and passed on
abbrev pub returns_value_by : Rules → Setting → Calling → Option TypedTree → (line : ℕ) → State → Res Flow
returns_value_by R b call None line s = Gives (Returns Nothing) s
returns_value_by R b call (Some x) line s =
    then_do (full_expression_by R b call x s) (λ v s. then_do (with_conversion_by R.act b x v s) (λ v s. then_do (R.act b line (Accepts v) s) (λ v s. Gives (Returns v) s)))
