-- Parameters and their arguments.
use Rattle.std.proofs.Common.{◌≡◌, ℕ, ◌+◌, ◌<◌, List, [], ◌∷◌, refl, sym, ap, ◌∙◌, arith}
use Rattle.std.specs.Prelude.{drop, length, map, get_or, slice_index, Result, Err}
use Rattle.std.proofs.lemmas.List.{drop_more, length-map}
use Rattle.pv_world.specs.Coming.{worth_of}
use Rattle.pv_world.specs.declared.got.Got.{Got}
use Rattle.pv_typed.specs.TypedUnits.{TypedFunction, object_at}
use Rattle.pv_types.specs.Ty.{Ty}
use Rattle.pv_world.specs.Worlds.{Worth, Nothing}
use Rattle.pv_eval.specs.declared.failure.Failure.{Failure}
use Rattle.pv_eval.specs.States.{Setting, State, Res, Gives, then_do}
use Rattle.pv_eval.specs.TypeForms.{lvalue}
use Rattle.pv_eval.specs.Operations.{Makes, Puts, BeginsBody, act}
use Rattle.pv_eval.specs.Moments.{Made}
use Rattle.pv_exec.specs.OfRuns.{take_params}
use Rattle.pv_exec.specs.Called.{takes_one, body_beginning}
use Rattle.pv_exec.proofs.Pieces.{made-stops, made-is, then-then}
use Rattle.pv_exec.proofs.Inits.{mapped-at}

pub took-one : (b : Setting) (line o : ℕ) (t : Ty) (v : Worth) (r : Result (Unit {0}) Failure) (s s1 s2 : State) → (object_at b.unit o).t ≡ t → act b line (Makes o) s ≡ Gives Nothing s1 → Made (act b line (Puts o 0 (lvalue b t) v) s1) r s2 → Made (takes_one b line o v s) r s2
took-one b line o t v r s s1 s2 e h m =
    made-is (act b line (Puts o 0 (lvalue b t) v) s1) (takes_one b line o v s) r s2
    (ap (λ (q : Ty). then_do (act b line (Makes o) s) (λ x s. act b line (Puts o 0 (lvalue b q) v) s)) e
    ∙ ap (λ (q : Res Worth). then_do q (λ x s. act b line (Puts o 0 (lvalue b t) v) s)) h) m

pub none-to-make : (b : Setting) (line o : ℕ) (v : Worth) (e : Failure) (s s' : State) → Made (act b line (Makes o) s) (Err e) s' → Made (takes_one b line o v s) (Err e) s'
none-to-make b line o v e s s' h = made-stops (act b line (Makes o) s) (λ x s. act b line (Puts o 0 (lvalue b (object_at b.unit o).t) v) s) e s' h

-- one parameter of a list
params-split : (b : Setting) (line : ℕ) (ps : List ℕ) (vs : List Worth) (i : ℕ) (v : Worth) (s : State) → i < length ps → drop i vs ≡ v ∷ drop (i + 1) vs → take_params b line (drop i ps) (drop i vs) s ≡ then_do (takes_one b line (slice_index ps i) v s) (λ x s. take_params b line (drop (i + 1) ps) (drop (i + 1) vs) s)
params-split b line ps vs i v s lt e =
    let o = slice_index ps i in
    ap (λ xs. take_params b line xs (drop i vs) s) (drop_more ps i 0 lt)
    ∙ ap (λ ys. take_params b line (o ∷ drop (i + 1) ps) ys s) e
    ∙ then-then (act b line (Makes o) s) (λ x s. act b line (Puts o 0 (lvalue b (object_at b.unit o).t) v) s) (λ x s. take_params b line (drop (i + 1) ps) (drop (i + 1) vs) s)

pub params-more : (b : Setting) (line : ℕ) (ps : List ℕ) (vs : List Worth) (i : ℕ) (v : Worth) (s s' : State) → i < length ps → drop i vs ≡ v ∷ drop (i + 1) vs → takes_one b line (slice_index ps i) v s ≡ Gives Nothing s' → take_params b line (drop i ps) (drop i vs) s ≡ take_params b line (drop (i + 1) ps) (drop (i + 1) vs) s'
params-more b line ps vs i v s s' lt e h =
    params-split b line ps vs i v s lt e ∙ ap (λ (r : Res Worth). then_do r (λ x s. take_params b line (drop (i + 1) ps) (drop (i + 1) vs) s)) h

pub params-stop : (b : Setting) (line : ℕ) (ps : List ℕ) (vs : List Worth) (i : ℕ) (v : Worth) (e : Failure) (s s' : State) → i < length ps → drop i vs ≡ v ∷ drop (i + 1) vs → Made (takes_one b line (slice_index ps i) v s) (Err e) s' → Made (take_params b line (drop i ps) (drop i vs) s) (Err e) s'
params-stop b line ps vs i v e s s' lt d h =
    made-is (then_do (takes_one b line (slice_index ps i) v s) (λ x s. take_params b line (drop (i + 1) ps) (drop (i + 1) vs) s)) (take_params b line (drop i ps) (drop i vs) s) (Err e) s' (params-split b line ps vs i v s lt d)
    (made-stops (takes_one b line (slice_index ps i) v s) (λ x s. take_params b line (drop (i + 1) ps) (drop (i + 1) vs) s) e s' h)

no-values : (b : Setting) (line : ℕ) (ps : List ℕ) (s : State) → take_params b line ps [] s ≡ Gives Nothing s
no-values b line [] s = refl
no-values b line (o ∷ os) s = refl

pub no-arguments : (b : Setting) (line : ℕ) (ps : List ℕ) (vs : List Worth) (s : State) → vs ≡ [] → take_params b line ps vs s ≡ Gives Nothing s
no-arguments b line ps vs s e = ap (λ xs. take_params b line ps xs s) e ∙ no-values b line ps s

-- what comes before the body
pub begun-by : (b : Setting) (line : ℕ) (f : TypedFunction) (vs : List Worth) (r : Result (Unit {0}) Failure) (s s1 s2 : State) → act b line (BeginsBody f.name line) s ≡ Gives Nothing s1 → Made (take_params b line f.params vs s1) r s2 → Made (body_beginning b line f vs s) r s2
begun-by b line f vs r s s1 s2 h m =
    made-is (take_params b line f.params vs s1) (body_beginning b line f vs s) r s2 (ap (λ (q : Res Worth). then_do q (λ x s. take_params b line f.params vs s)) h) m

pub argument-at : (args : List Got) (i : ℕ) (g : Got) → i < length args → g ≡ get_or args i g → drop i (map worth_of args) ≡ worth_of g ∷ drop (i + 1) (map worth_of args)
argument-at args i g lt is =
    mapped-at worth_of (map worth_of args) args i g refl (omega (arith, lt, length-map args worth_of)) ∙ ap (λ (x : Got). worth_of x ∷ drop (i + 1) (map worth_of args)) (sym is)
