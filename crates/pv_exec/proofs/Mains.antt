-- How the statements of a run begin and end.
use Rattle.std.proofs.Common.{◌≡◌, ℕ, ◌+◌, ◌<◌, List, [], ◌∷◌, ◌++◌, append-nil, Some, None, refl, sym, ap, ◌∙◌, subst, arith, true, false}
use Rattle.std.specs.Prelude.{Bool, Result, Err, length, suc, if◌then◌else◌, is_some, IsTrue}
use Rattle.std.specs.Option.{option_map}
use Rattle.std.proofs.lemmas.List.{length-map}
use Rattle.std.specs.declared.option.Option.{Option}
use Rattle.pv_typed.specs.TypedUnits.{WholeUnit, TypedFunction, function_at}
use Rattle.pv_typed.specs.Mains.{named_main, first_main, main_of}
use Rattle.pv_typed.specs.Tables.{Stored, whole_unit, nodes, function_in}
use Rattle.pv_world.specs.Worlds.{Worth, Nothing}
use Rattle.pv_eval.specs.declared.failure.Failure.{Failure}
use Rattle.pv_eval.specs.declared.failure.Failure.TheVariants as failure
use Rattle.pv_eval.specs.declared.marked.Marked.{Marked}
use Rattle.pv_eval.specs.States.{Setting, State, Why, Turns, Res, Gives, Stops, then_do, end_of}
use Rattle.pv_eval.specs.Operations.{BeginsBody, EndsBody, does as operates, act}
use Rattle.pv_eval.specs.Machines.{Started}
use Rattle.pv_eval.specs.Moments.{Moment, state_of, Made}
use Rattle.pv_exec.specs.declared.task.Flow.{Flow}
use Rattle.pv_exec.specs.declared.task.Doing.{Doing}
use Rattle.pv_exec.specs.declared.running.Ended.{Ended}
use Rattle.pv_exec.specs.declared.running.Broken.{Broken}
use Rattle.pv_exec.specs.declared.running.Broken.TheVariants as broken
use Rattle.pv_exec.specs.Flows as execution
use Rattle.pv_exec.specs.OfRuns.{end_all, below, take_params, runs_body, call_body, prepare, call_main}
use Rattle.pv_exec.specs.Calls.{value_by}
use Rattle.pv_exec.specs.Called.{body_beginning, BodyIs}
use Rattle.pv_exec.specs.Tasks.{Reached, Left, Valued, left_flow}
use Rattle.pv_exec.specs.Works.{flow_of, does, Holds}
use Rattle.pv_exec.specs.Fits.{Runs}
use Rattle.pv_exec.specs.Running.{EndedIs, ends_call, main_called, whole_run}
use Rattle.pv_exec.specs.Streaming.{Begins}
use Rattle.pv_exec.proofs.Growing.{Growing, grew-refl, seq-grows, acted-grows}
use Rattle.pv_exec.proofs.Adding.{main-grows, run-grows, ends-grow}
use Rattle.pv_exec.proofs.Streaming.{begins-all, begins-later}
use Rattle.pv_exec.proofs.Pieces.{then-then}

-- what was left, from what was reached
abbrev unleft : Res Reached → Res execution.Flow
unleft (Gives (Left fl) s) = Gives fl s
unleft (Gives (Valued v) s) = Stops Turns s
unleft (Stops y s) = Stops y s

unleft-left : (m : Res execution.Flow) → unleft (left_flow m) ≡ m
unleft-left (Gives fl s) = refl
unleft-left (Stops y s) = refl

abbrev is_valued : Res Reached → Bool
is_valued (Gives (Left fl) s) = false
is_valued (Gives (Valued v) s) = true
is_valued (Stops y s) = false

never-valued : (m : Res execution.Flow) → is_valued (left_flow m) ≡ false
never-valued (Gives fl s) = refl
never-valued (Stops y s) = refl

then-gives : {A : Type 0} (m : Res A) → m ≡ then_do m (λ a s. Gives a s)
then-gives (Gives a s) = refl
then-gives (Stops y s) = refl

pub ended-is : (q r : Res Worth) (x : Result Ended Broken) (m : Moment) (out : List ℕ) (es : List Marked) → r ≡ q → EndedIs q x m out es → EndedIs r x m out es
ended-is q r x m out es e h = subst (λ (z : Res Worth). EndedIs z x m out es) (sym e) h

-- where nothing has left the run
pub ended-nothing : (r : Res Worth) (x : Result Ended Broken) (m : Moment) (out : List ℕ) (es : List Marked) → EndedIs r x m out es → EndedIs r x m (out ++ []) (es ++ [])
ended-nothing r x m out es h =
    subst (λ (o : List ℕ). EndedIs r x m o (es ++ [])) (sym (append-nil out)) (subst (λ (e : List Marked). EndedIs r x m out e) (sym (append-nil es)) h)

abbrev or_zero : ℕ → Option ℕ → ℕ
or_zero d None = d
or_zero d (Some n) = n

-- the body of `main` begins
pub holds-first : (b : Setting) (u : Stored) (f : ℕ) (d : Doing) (es : List Started) (s : State) → b.unit ≡ whole_unit u → BodyIs u f d → es ≡ [] → s.taken ≡ 0 → Holds b u (left_flow (runs_body b (below b b.bound) (function_at b.unit f).body s)) [] es d s
holds-first b u f d es s is body none fresh =
    let m = does b u b.bound es d s in
    let one = body.counts es in
    record {
      works = [];
      level = b.bound;
      same = refl;
      standing = tt;
      law = body.runs b b.bound es s is ∙ then-gives m;
      rooms = λ k w lt. absurd (omega (arith, lt));
      room = omega (arith, one, fresh);
      most = omega (arith, fresh);
    }

pub runs-first : (u : Stored) (f : ℕ) (d : Doing) (es : List Started) → BodyIs u f d → Runs u [] es d
runs-first u f d es body = record { tasks_fit = λ k t lt. absurd (omega (arith, lt)); stand = tt; doing_fits = body.fits es }

-- what follows the body
abbrev pub left_by : Setting → (f line : ℕ) → execution.Flow → State → Res Worth
left_by b f line fl s = then_do (end_all b (function_at b.unit f).params s) (λ x s. then_do (act b line EndsBody s) (λ x s. Gives (value_by b (function_at b.unit f) fl) s))

left-grows : (b : Setting) (f line : ℕ) (fl : execution.Flow) → Growing Worth (left_by b f line fl)
left-grows b f line fl s =
    let v = value_by b (function_at b.unit f) fl in
    seq-grows s (end_all b (function_at b.unit f).params s) (λ x s. then_do (act b line EndsBody s) (λ x s. Gives v s)) (ends-grow b (function_at b.unit f).params s)
    (λ x s. seq-grows s (act b line EndsBody s) (λ x s. Gives v s) (acted-grows b line (operates b EndsBody s.world) s) (λ x s. grew-refl s.taken s (omega arith)))

-- what has left a run that could not go on is a first part of all
begins-then : (out : List ℕ) (es : List Marked) (m : Res execution.Flow) (K : execution.Flow → State → Res Worth) → ((fl : execution.Flow) → Growing Worth (K fl)) → Begins out es (end_of (left_flow m)) → Begins out es (end_of (then_do m K))
begins-then out es (Gives fl s) K g h = begins-later out es s (end_of (K fl s)) h (g fl s)
begins-then out es (Stops y s) K g h = h

pub main-lost : (b : Setting) (f line : ℕ) (m : Res execution.Flow) (r : Res Worth) (out : List ℕ) (es : List Marked) → r ≡ then_do m (left_by b f line) → Begins out es (end_of (left_flow m)) → Begins out es (end_of r)
main-lost b f line m r out es e h = subst (λ (z : Res Worth). Begins out es (end_of z)) (sym e) (begins-then out es m (left_by b f line) (left-grows b f line) h)

-- the parameters could not end
pub end-lost : (b : Setting) (f line : ℕ) (fl : Flow) (m : Moment) (out : List ℕ) (es : List Marked) → Begins out es (end_of (ends_call b f line fl (state_of m out es)))
end-lost b f line fl m out es = begins-all out es m (end_of (ends_call b f line fl (state_of m out es))) (left-grows b f line (flow_of fl) (state_of m out es))

-- a call, with what begins it
pub main-split : (b : Setting) (f line : ℕ) (s : State) → call_body b (below b b.bound) (function_at b.unit f) [] line s ≡ then_do (body_beginning b line (function_at b.unit f) [] s) (λ x s. then_do (runs_body b (below b b.bound) (function_at b.unit f).body s) (left_by b f line))
main-split b f line s =
    let F = function_at b.unit f in
    then-then (act b line (BeginsBody F.name line) s) (λ x s. take_params b line F.params [] s) (λ x s. then_do (runs_body b (below b b.bound) F.body s) (left_by b f line))

-- as the code begins it
begun-here : (b : Setting) (u : Stored) (f line : ℕ) (s : State) → b.unit ≡ whole_unit u → line ≡ (function_at b.unit f).line → body_beginning b (function_at b.unit f).line (function_at b.unit f) [] s ≡ body_beginning b line (function_at (whole_unit u) f) [] s
begun-here b u f line s is l =
    ap (λ (n : ℕ). body_beginning b n (function_at b.unit f) [] s) (sym l) ∙ ap (λ (q : WholeUnit). body_beginning b line (function_at q f) [] s) is

pub main-begins : (b : Setting) (u : Stored) (f line : ℕ) (s s1 : State) → b.unit ≡ whole_unit u → line ≡ (function_at b.unit f).line → body_beginning b line (function_at (whole_unit u) f) [] s ≡ Gives Nothing s1 → call_body b (below b b.bound) (function_at b.unit f) [] (function_at b.unit f).line s ≡ then_do (runs_body b (below b b.bound) (function_at b.unit f).body s1) (left_by b f (function_at b.unit f).line)
main-begins b u f line s s1 is l h =
    let F = function_at b.unit f in
    main-split b f F.line s ∙ ap (λ (r : Res Worth). then_do r (λ x s. then_do (runs_body b (below b b.bound) F.body s) (left_by b f F.line))) (begun-here b u f line s is l ∙ h)

pub main-not-begun : (b : Setting) (u : Stored) (f line : ℕ) (m m1 : Moment) (out : List ℕ) (es : List Marked) (e : Failure) → b.unit ≡ whole_unit u → line ≡ (function_at b.unit f).line → Made (body_beginning b line (function_at (whole_unit u) f) [] (state_of m out es)) (Err e) (state_of m1 out es) → EndedIs (main_called f b (state_of m out es)) (Err (broken.Operation e)) m1 out es
main-not-begun b u f line m m1 out es failure.NoMemory is l h = begins-all out es m (end_of (main_called f b (state_of m out es))) (main-grows b f (state_of m out es))
main-not-begun b u f line m m1 out es (failure.Stop y n) is l h =
    let F = function_at b.unit f in
    let s = state_of m out es in
    main-split b f F.line s ∙ ap (λ (r : Res Worth). then_do r (λ x s. then_do (runs_body b (below b b.bound) F.body s) (left_by b f F.line))) (begun-here b u f line s is l ∙ h)

-- how it is left
pub main-left : (b : Setting) (f line : ℕ) (fl : Flow) (m : Res execution.Flow) (s2 : State) (r : Res Worth) → r ≡ then_do m (left_by b f line) → left_flow m ≡ Gives (Left (flow_of fl)) s2 → r ≡ ends_call b f line fl s2
main-left b f line fl m s2 r e h = e ∙ ap (λ (z : Res execution.Flow). then_do z (left_by b f line)) (sym (unleft-left m) ∙ ap unleft h)

-- how it ends the run
pub main-stops : (m : Res execution.Flow) (K : execution.Flow → State → Res Worth) (y : Why) (s : State) (r : Res Worth) → r ≡ then_do m K → left_flow m ≡ Stops y s → r ≡ Stops y s
main-stops m K y s r e h = e ∙ ap (λ (z : Res execution.Flow). then_do z K) (sym (unleft-left m) ∙ ap unleft h)

pub main-valued : {A : Type 0} (m : Res execution.Flow) (v : Worth) (s : State) → left_flow m ≡ Gives (Valued v) s → A
main-valued {A} m v s h = let e : true ≡ false = sym (ap is_valued h) ∙ never-valued m in absurd (cc)

-- `main` is there
later-there : (o : Option ℕ) (k f : ℕ) → ((n : ℕ) → o ≡ Some n → n < k) → option_map suc o ≡ Some f → f < k + 1
later-there None k f h e = absurd (cc)
later-there (Some n) k f h e = let z : suc n ≡ f = ap (or_zero 0) e in let l = h n refl in omega (arith, z, l)

one-there : (q : Bool) (o : Option ℕ) (k f : ℕ) → ((n : ℕ) → o ≡ Some n → n < k) → (if q then Some 0 else option_map suc o) ≡ Some f → f < k + 1
one-there true o k f h e = let z : 0 ≡ f = ap (or_zero 0) e in omega (arith, z)
one-there false o k f h e = later-there o k f h e

pub main-there : (names : List (List ℕ)) (fs : List TypedFunction) (f : ℕ) → first_main names fs ≡ Some f → f < length fs
main-there names [] f e = absurd (cc)
main-there names (g ∷ fs) f e = let l = one-there (named_main names g.name) (first_main names fs) (length fs) f (λ n w. main-there names fs n w) e in omega (arith, l)

pub main-in : (u : Stored) (f : ℕ) → main_of (whole_unit u) ≡ Some f → f < length u.functions
main-in u f e = let l = main-there (whole_unit u).names (whole_unit u).functions f e in omega (arith, l, length-map u.functions (function_in u.known (nodes u)))

-- a unit with `main` has a function
pub some-function : (u : Stored) (o : Option ℕ) → main_of (whole_unit u) ≡ o → IsTrue (is_some o) → 0 < length u.functions
some-function u None e h = absurd cc
some-function u (Some f) e h = let l = main-in u f e in omega (arith, l)

-- the whole run
pub unit-ends : (b : Setting) (f : ℕ) (s s1 : State) → prepare b s ≡ Gives Nothing s1 → main_of b.unit ≡ Some f → then_do (prepare b s) (λ v s. call_main b (main_of b.unit) s) ≡ call_body b (below b b.bound) (function_at b.unit f) [] (function_at b.unit f).line s1
unit-ends b f s s1 h e =
    ap (λ (r : Res Worth). then_do r (λ v s. call_main b (main_of b.unit) s)) h ∙ ap (λ (o : Option ℕ). call_main b o s1) e

pub unit-stops : (b : Setting) (e : Failure) (m m1 : Moment) (out : List ℕ) (es : List Marked) → Made (prepare b (state_of m out es)) (Err e) (state_of m1 out es) → EndedIs (whole_run b (state_of m out es)) (Err (broken.Operation e)) m1 out es
unit-stops b (failure.Stop y line) m m1 out es h = ap (λ (r : Res Worth). then_do r (λ v s. call_main b (main_of b.unit) s)) h
unit-stops b failure.NoMemory m m1 out es h = begins-all out es m (end_of (whole_run b (state_of m out es))) (run-grows b (state_of m out es))
