-- Calls of functions, what lies below them, what comes before the first turn, and the whole run keep moments alike. So two runs of one
-- unit, whose types have other numbers, end in the same way, after the same turns, with the same output and events.
use Rattle.std.proofs.Common.{◌≡◌, ℕ, zero, suc, List, [], ◌∷◌, refl, sym, ap, ◌∙◌, subst}
use Rattle.std.specs.Prelude.{Bool, true, false, None, Some, pos, if◌then◌else◌}
use Rattle.std.specs.declared.option.Option.{Option}
use Rattle.std.specs.Ordering.{nat_cmp}
use Rattle.std.specs.FinMap.{get-empty}
use Rattle.pv_script.specs.Lines.{ScriptLine}
use Rattle.pv_types.specs.Known.{Known}
use Rattle.pv_shadow.specs.declared.byte.Byte.{Byte}
use Rattle.pv_typed.specs.declared.values.Const.{Const}
use Rattle.pv_typed.specs.declared.values.Const.TheVariants as const
use Rattle.pv_typed.specs.Addresses.{constant_of}
use Rattle.pv_typed.specs.Known.{Each}
use Rattle.pv_typed.specs.Mains.{main_of}
use Rattle.pv_typed.specs.TypedStatement.{TypedStatement}
use Rattle.pv_typed.specs.TypedUnits.{Store, StoredValue, ValueOf, TextOf, TypedFunction, object_at, function_at, literal_at}
use Rattle.pv_shadow.specs.Bytes.{Store as Bytes}
use Rattle.pv_world.specs.Worlds.{Worth, Nothing, Missing, World}
use Rattle.pv_world.specs.Worths.{int}
use Rattle.pv_world.specs.ObjectParts.{with_bytes}
use Rattle.pv_eval.specs.States.{Setting, State, Why, Turns, Unreached, Stopped, Res, Gives, Stops, then_do, end_of}
use Rattle.pv_eval.specs.TypeForms.{lvalue, size_of, gives_none}
use Rattle.pv_eval.specs.Constants.{constant_worth}
use Rattle.pv_eval.specs.Operations.{Makes, MakesLiteral, MakesFunction, BeginsBody, EndsBody, Fills, Puts, PutsText}
use Rattle.pv_exec.specs.declared.outcome.Outcome.TheVariants as outcome
use Rattle.pv_exec.specs.Flows.{Flow, Falls, Breaks, Continues, Returns, Below}
use Rattle.pv_exec.specs.Calls.{value_by, below_by}
use Rattle.pv_exec.specs.OfRuns.{take_params, runs_body, call_body, below, make_static, store_constant, store_static, prepare, call_main}
use Rattle.pv_exec.specs.CallParts.{is_main}
use Rattle.pv_exec.specs.Lists.{make_statics, make_literals, make_functions, store_statics, initialize_statics}
use Rattle.pv_exec.specs.Run.{initial_state, run_of_by, run_of, status_of, outcome_of, sides_at}
use Rattle.pv_numbering.proofs.Marks.{AlikeAt}
use Rattle.pv_numbering.proofs.Alike.{with_types, AlikeWorth, AlikeWorths, AlikeState, AlikeRes}
use Rattle.pv_numbering.proofs.Acts.{ActsAlike}
use Rattle.pv_numbering.proofs.Types.{AllBody, AllStore, AllUnit}
use Rattle.pv_numbering.proofs.Pieces.{Pieces, gives, stops, did, seq, ticks, by-value}
use Rattle.pv_numbering.proofs.Expressions.{AlikeType}
use Rattle.pv_numbering.proofs.ByNumber.{takes, inits-of, body-of}
use Rattle.pv_numbering.proofs.Statements.{AlikeFlow, Beneath, end-alike, round-alike, round_do-alike, ex-alike}
use Rattle.pv_numbering.specs.Same.{SameRun}

-- a constant's value is its number, or a place in an instance
constant-at : (m m' : Known) (w : World) (bytes : Bytes) (q : Const) → AlikeWorth m m' (constant_worth w q) (constant_worth (with_bytes w bytes) q)
constant-at m m' w bytes (const.Int n) = refl
constant-at m m' w bytes const.Null = refl
constant-at m m' w bytes (const.Address o n) = refl
constant-at m m' w bytes (const.Literal l n) = refl
constant-at m m' w bytes (const.Function f) = refl

constant-alike : (m m' : Known) (s s' : State) (q : Const) → AlikeState m m' s s' → AlikeWorth m m' (constant_worth s.world q) (constant_worth s'.world q)
constant-alike m m' s s' q h = subst (λ (z : State). AlikeWorth m m' (constant_worth s.world q) (constant_worth z.world q)) (sym h.is) (constant-at m m' s.world h.bytes q)

-- before a run there are no bytes
first-alike : (m m' : Known) (script : List ScriptLine) (zap : Bool) → AlikeState m m' (initial_state script zap) (initial_state script zap)
first-alike m m' script zap = record { bytes = (initial_state script zap).world.memory.bytes; is = refl; alike = λ a. subst (λ (x : Option Byte). AlikeAt m m' x x) (sym (get-empty nat_cmp a)) tt }

module _ {b : Setting} {m' : Known} (acts : ActsAlike b m') (unit : AllUnit (AlikeType b m') b.unit) where
  abbrev c : Setting
  c = with_types b m'

  abbrev Same : Worth → Worth → Type 0
  Same = AlikeWorth b.types m'

  abbrev Left : Flow → Flow → Type 0
  Left = AlikeFlow b.types m'

  params-alike : (line : ℕ) (os : List ℕ) (vs vs' : List Worth) → AlikeWorths b.types m' vs vs' → Pieces b m' Same (take_params b line os vs) (take_params c line os vs')
  params-alike line [] vs vs' h = gives Nothing Nothing tt
  params-alike line (o ∷ os) [] [] h = gives Nothing Nothing tt
  params-alike line (o ∷ os) (v ∷ vs) (v' ∷ vs') h = seq (did (Makes o) (Makes o) line (acts.makes o)) (λ x x' e. seq (did (Puts o 0 (lvalue b (object_at b.unit o).t) v) (Puts o 0 (lvalue c (object_at b.unit o).t) v') line (takes acts unit o o v v' h.0)) (λ x x' e. params-alike line os vs vs' h.1))
  params-alike line (o ∷ os) [] (v' ∷ vs') h = absurd h
  params-alike line (o ∷ os) (v ∷ vs) [] h = absurd h

  at-end : (main none : Bool) → Same (if main then int (pos 0) else (if none then Nothing else Missing)) (if main then int (pos 0) else (if none then Nothing else Missing))
  at-end true none = refl
  at-end false true = tt
  at-end false false = tt

  value-alike : (f : TypedFunction) (fl fl' : Flow) → Left fl fl' → Same (value_by b f fl) (value_by c f fl')
  value-alike f Falls Falls h = at-end (is_main b.unit f) (gives_none f.t)
  value-alike f Breaks Breaks h = at-end (is_main b.unit f) (gives_none f.t)
  value-alike f Continues Continues h = at-end (is_main b.unit f) (gives_none f.t)
  value-alike f (Returns v) (Returns v') h = h
  value-alike f fl fl' h = absurd h

  runs-alike : (u u' : Below) → Beneath b m' u u' → (x : Option TypedStatement) → AllBody (AlikeType b m') x → Pieces b m' Left (runs_body b u x) (runs_body c u' x)
  runs-alike u u' h None p = ticks (gives Falls Falls tt)
  runs-alike u u' h (Some x) p = ex-alike acts unit u u' h x p

  -- a call of a function
  body-alike : (u u' : Below) → Beneath b m' u u' → (f : TypedFunction) → AllBody (AlikeType b m') f.body → (vs vs' : List Worth) → AlikeWorths b.types m' vs vs' → (line : ℕ) → Pieces b m' Same (call_body b u f vs line) (call_body c u' f vs' line)
  body-alike u u' h f p vs vs' e line =
      seq (did (BeginsBody f.name line) (BeginsBody f.name line) line (acts.begins_body f.name line)) (λ x x' i. seq (params-alike line f.params vs vs' e) (λ x x' i. seq (runs-alike u u' h f.body p) (λ fl fl' g.
      seq (end-alike acts f.params) (λ x x' i. seq (did EndsBody EndsBody line acts.ends_body) (λ x x' i. gives (value_by b f fl) (value_by c f fl') (value-alike f fl fl' g))))))

  below-alike : (k : ℕ) → Beneath b m' (below b k) (below c k)
  unfolding below_by
  below-alike zero = record { call = λ f vs vs' e line. stops Unreached; again = λ x step y p q r. stops Unreached; again_do = λ y x p q. stops Unreached }
  below-alike (suc k) =
      let u : Below = below b k in
      let u' : Below = below c k in
      let h = below-alike k in
      record {
        call = λ f vs vs' e line. body-alike u u' h (function_at b.unit f) (body-of b m' unit f) vs vs' e line;
        again = λ x step y p q r. round-alike acts unit u u' h x step p q (ex-alike acts unit u u' h y r) (h.again x step y p q r);
        again_do = λ y x p q. round_do-alike acts unit u u' h x q (ex-alike acts unit u u' h y p) (h.again_do y x p q);
      }

  static-alike : (o : ℕ) → Pieces b m' Same (make_static b o) (make_static c o)
  static-alike o = seq (did (Makes o) (Makes o) (object_at b.unit o).line (acts.makes o)) (λ v v' e. did (Fills o (Some 0)) (Fills o (Some 0)) (object_at b.unit o).line (acts.fills o (Some 0)))

  statics-alike : (os : List ℕ) → Pieces b m' Same (make_statics b os) (make_statics c os)
  statics-alike [] = gives Nothing Nothing tt
  statics-alike (o ∷ os) = seq (static-alike o) (λ v v' e. statics-alike os)

  functions-alike : (fs : List ℕ) → Pieces b m' Same (make_functions b fs) (make_functions c fs)
  functions-alike [] = gives Nothing Nothing tt
  functions-alike (f ∷ fs) = seq (did (MakesFunction f) (MakesFunction f) (function_at b.unit f).line (acts.makes_function f)) (λ v v' e. functions-alike fs)

  literals-alike : (ls : List ℕ) → Pieces b m' Same (make_literals b ls) (make_literals c ls)
  literals-alike [] = gives Nothing Nothing tt
  literals-alike (l ∷ ls) = seq (did (MakesLiteral l) (MakesLiteral l) (literal_at b.unit l).line (acts.makes_literal l)) (λ v v' e. literals-alike ls)

  stored-constant : (o : ℕ) (x : Store) → AllStore (AlikeType b m') x → (q : Option Const) → Pieces b m' Same (store_constant b o x q) (store_constant c o x q)
  stored-constant o x k None = gives Nothing Nothing tt
  stored-constant o x k (Some q) = record { at = λ s s' h. acts.puts o x.offset (lvalue b x.t) (lvalue c x.t) (constant_worth s.world q) (constant_worth s'.world q) k.t (constant-alike b.types m' s s' q h) x.line s s' h }

  stored-alike : (o : ℕ) (x : Store) → AllStore (AlikeType b m') x → (v : StoredValue) → Pieces b m' Same (store_static b o x v) (store_static c o x v)
  stored-alike o x k (ValueOf e) = stored-constant o x k (constant_of b.unit e)
  stored-alike o x k (TextOf l) = did (PutsText o x.offset (size_of b x.t) l) (PutsText o x.offset (size_of b x.t) l) x.line (acts.puts_text o x.offset (size_of b x.t) l)

  all-stored : (o : ℕ) (xs : List Store) → Each (AllStore (AlikeType b m')) xs → Pieces b m' Same (store_statics b o xs) (store_statics c o xs)
  all-stored o [] k = gives Nothing Nothing tt
  all-stored o (x ∷ xs) k = seq (stored-alike o x k.0 x.what) (λ v v' e. all-stored o xs k.1)

  initials-alike : (os : List ℕ) → Pieces b m' Same (initialize_statics b os) (initialize_statics c os)
  initials-alike [] = gives Nothing Nothing tt
  initials-alike (o ∷ os) = seq (all-stored o (object_at b.unit o).inits (inits-of b m' unit o)) (λ v v' e. initials-alike os)

  prepare-alike : Pieces b m' Same (prepare b) (prepare c)
  prepare-alike =
      seq (statics-alike b.unit.statics) (λ v v' e. seq (literals-alike b.unit.instances) (λ v v' e.
      seq (functions-alike b.unit.placed) (λ v v' e. initials-alike b.unit.statics)))

  main-alike : (f : Option ℕ) → Pieces b m' Same (call_main b f) (call_main c f)
  main-alike None = gives Nothing Nothing tt
  main-alike (Some f) = body-alike (below b b.bound) (below c b.bound) (below-alike b.bound) (function_at b.unit f) (body-of b m' unit f) [] [] tt (function_at b.unit f).line

  whole-alike : Pieces b m' Same (λ s. then_do (prepare b s) (λ v s. call_main b (main_of b.unit) s)) (λ s. then_do (prepare c s) (λ v s. call_main c (main_of b.unit) s))
  whole-alike = seq prepare-alike (λ v v' e. main-alike (main_of b.unit))

-- 5.1.2.3: the two runs differ in the marks of bytes alone
pub run-alike : (b : Setting) (m' : Known) → ActsAlike b m' → AllUnit (AlikeType b m') b.unit → (script : List ScriptLine) → AlikeRes b.types m' (AlikeWorth b.types m') (run_of b script) (run_of (with_types b m') script)
unfolding run_of_by
run-alike b m' acts unit script = (whole-alike acts unit).at (initial_state script b.zap) (initial_state script b.zap) (first-alike b.types m' script b.zap)

-- the reason alone tells how a run that was stopped ended
stopped-same : (y : Why) (s s' : State) → outcome_of (Stops y s') ≡ outcome_of (Stops y s)
stopped-same Turns s s' = refl
stopped-same Unreached s s' = refl
stopped-same (Stopped w line) s s' = refl

same-by : (m m' : Known) (r r' : Res Worth) → outcome_of r' ≡ outcome_of r → AlikeState m m' (end_of r) (end_of r') → SameRun r r'
same-by m m' r r' e h =
    record {
      outcome = e;
      taken = ap (λ (s : State). s.taken) h.is;
      output = ap (λ (s : State). s.output) h.is;
      events = ap (λ (s : State). s.events) h.is;
      sides = ap sides_at h.is;
    }

pub alike-same : (m m' : Known) (r r' : Res Worth) → AlikeRes m m' (AlikeWorth m m') r r' → SameRun r r'
alike-same m m' (Gives v s) (Gives v' s') h = same-by m m' (Gives v s) (Gives v' s') (ap (λ n. Some (outcome.Exit n)) (by-value m m' status_of (λ bs bs' o. refl) v v' h.0)) h.1
alike-same m m' (Stops y s) (Stops y' s') h = same-by m m' (Stops y s) (Stops y' s') (ap (λ (z : Why). outcome_of (Stops z s')) h.0 ∙ stopped-same y s s') h.1
alike-same m m' (Gives v s) (Stops y' s') h = absurd h
alike-same m m' (Stops y s) (Gives v' s') h = absurd h

-- 5.1.2.3: no run depends on how the types of its unit are numbered
pub same-run : (b : Setting) (m' : Known) → ActsAlike b m' → AllUnit (AlikeType b m') b.unit → (script : List ScriptLine) → SameRun (run_of b script) (run_of (with_types b m') script)
same-run b m' acts unit script = alike-same b.types m' (run_of b script) (run_of (with_types b m') script) (run-alike b m' acts unit script)
