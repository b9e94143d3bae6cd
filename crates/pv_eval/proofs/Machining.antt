-- What is ahead after a step, as the machine tells it.
use Rattle.std.proofs.Common.{◌≡◌, List, [], ◌∷◌, refl, sym, ap, subst, arith}
use Rattle.std.specs.Prelude.{ℤ, true, false, length, Result, Ok, Err, IfOk, slice_index_or, slice_set}
use Rattle.pv_typed.specs.Tables.{Stored}
use Rattle.pv_seq.specs.Sequencing.{Open}
use Rattle.pv_seq.specs.Rivals.{below}
use Rattle.pv_world.specs.Worlds.{Worth}
use Rattle.pv_world.specs.declared.got.Got.{Got}
use Rattle.pv_eval.specs.States.{Setting, State, Res}
use Rattle.pv_eval.specs.Sequenced.{Given}
use Rattle.pv_eval.specs.Steps.{Calling}
use Rattle.pv_eval.specs.Frames.{after}
use Rattle.pv_eval.specs.declared.failure.Failure.{Failure}
use Rattle.pv_eval.specs.declared.failure.Failure.TheVariants as failure
use Rattle.pv_eval.specs.declared.frames.Now.{Now}
use Rattle.pv_eval.specs.declared.frames.Step.{Step}
use Rattle.pv_eval.specs.Ahead.{ahead, Kept}
use Rattle.pv_eval.specs.Machines.{Started, left_of, is_going, is_due, is_value, is_due_at}
use Rattle.pv_eval.specs.MachineSteps.{Stepped}
use Rattle.pv_eval.specs.Moments.{Moment, Always, Came, Needed, state_of}

module _ (b : Setting) (call : Calling) (u : Stored) (want : Res Given) (s : State) (e : Started) (es : List Started) where
  -- the run ends
  pub stepped-out : (x : Failure) (js : List Open) → Kept b call u want (Err x) e.frames js s → Stepped b call u want (Err x) (e ∷ es) s
  stepped-out failure.NoMemory js h = tt
  stepped-out (failure.Stop y line) js h = h

-- what goes on has not ended
pub never-ended : (r : Result Now Failure) (P : Type 0) → IfOk r (λ p. is_value p ≡ false) → IfOk r (λ p. is_value p ≡ true → P)
never-ended (Ok p) P h = λ k. absurd cc
never-ended (Err x) P h = tt

-- the innermost expression's step is the machine's
pub stepped-first : (b : Setting) (call : Calling) (u : Stored) (es : List Started) (e n : Started) (r : Result Step Failure) (s t : State) → is_going es ≡ true → e ≡ slice_index_or es 0 e
    → ((others : List Started) → Stepped b call u (ahead b call u e.frames e.opens e.place s) r (n ∷ others) t) → Stepped b call u (left_of b call u es s) r (slice_set es 0 n) t
stepped-first b call u [] e n r s t g k h = absurd cc
stepped-first b call u (f ∷ fs) e n r s t g k h = subst (λ x. Stepped b call u (ahead b call u x.frames x.opens x.place s) r (n ∷ fs) t) k (h fs)

pub due-first : (es : List Started) (e : Started) → is_going es ≡ true → e ≡ slice_index_or es 0 e → is_due es ≡ is_due_at e.place
due-first [] e g k = absurd cc
due-first (f ∷ fs) e g k = ap (λ x. is_due_at x.place) (sym k)

-- an operation on the value that an expression gave
module _ (u : Stored) (m m' n : Moment) (k : Setting → Worth → State → Res Worth) (w w' : Worth) (e : m ≡ m') (f : w ≡ w') where
  pub came-over : (r : Result Got Failure) → Always u m (λ b out es. Came (k b w (state_of m out es)) r (state_of n out es)) → Always u m' (λ b out es. Came (k b w' (state_of m' out es)) r (state_of n out es))
  came-over r h = subst (λ x. Always u x (λ b out es. Came (k b w' (state_of x out es)) r (state_of n out es))) e (subst (λ x. Always u m (λ b out es. Came (k b x (state_of m out es)) r (state_of n out es))) f h)

  pub needed-over : (r : Result ℤ Failure) → Always u m (λ b out es. Needed (k b w (state_of m out es)) r (state_of n out es)) → Always u m' (λ b out es. Needed (k b w' (state_of m' out es)) r (state_of n out es))
  needed-over r h = subst (λ x. Always u x (λ b out es. Needed (k b w' (state_of x out es)) r (state_of n out es))) e (subst (λ x. Always u m (λ b out es. Needed (k b x (state_of m out es)) r (state_of n out es))) f h)

-- the last node's accesses go with it
pub below-one : (js : List Open) → length js ≡ 1 → below js ≡ []
below-one [] h = absurd (omega (arith, h))
below-one (j ∷ []) h = refl
below-one (j ∷ (k ∷ ks)) h = absurd (omega (arith, h))
