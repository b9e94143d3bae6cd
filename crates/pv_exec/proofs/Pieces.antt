-- Pieces of a run of statements.
use Rattle.std.proofs.Common.{◌≡◌, ℕ, refl, sym, ap, ◌∙◌, subst}
use Rattle.pv_eval.specs.Moments.{Made}
use Rattle.pv_eval.specs.MachineSteps.{KeepsSetting}
use Rattle.pv_eval.specs.Moments.{Moment, IsSetting, Stays, Follows}
use Rattle.pv_eval.specs.States.{Setting, State, Res, Gives, Stops, then_do, tick}
use Rattle.pv_exec.specs.Execution.{ex_by}
use Rattle.pv_exec.specs.OfRuns.{ex}
use Rattle.pv_exec.specs.Flows.{Flow, Below}
use Rattle.pv_world.specs.Worlds.{Worth, Nothing}
use Rattle.pv_typed.specs.TypedStatement.{TypedStatement, Block, Declare, Expression, Empty, If, IfElse, Switch, Case, Default, While, DoWhile, For, ForDeclaration, Continue, Break, Return}
use Rattle.std.specs.Prelude.{ℤ, false, List, length, Result, Ok, Err, is_err}
use Rattle.pv_typed.specs.Tables.{Stored}
use Rattle.pv_eval.specs.declared.failure.Failure.{Failure}
use Rattle.pv_eval.specs.declared.failure.Failure.TheVariants as failure
use Rattle.pv_exec.specs.Tasks.{Reached, Left, left_flow}
use Rattle.pv_exec.specs.Entering.{behind_turn, is_labelled}

pub lifted : {A : Type 0} (m : Res A) (G : A → State → Res Flow) → left_flow (then_do m G) ≡ then_do m (λ a s. left_flow (G a s))
lifted (Gives a s) G = refl
lifted (Stops y s) G = refl

pub lifted-twice : {A B : Type 0} (m : Res A) (F : A → State → Res B) (G : B → State → Res Flow) → left_flow (then_do (then_do m F) G) ≡ then_do m (λ a s. left_flow (then_do (F a s) G))
lifted-twice (Gives a s) F G = refl
lifted-twice (Stops y s) F G = refl

pub pushed : (m : Res Flow) (A : Reached → State → Res Reached) → then_do m (λ fl s. A (Left fl) s) ≡ then_do (left_flow m) A
pushed (Gives a s) A = refl
pushed (Stops y s) A = refl

pub then-then : {A B C : Type 0} (m : Res A) (f : A → State → Res B) (g : B → State → Res C) → then_do m (λ a s. then_do (f a s) g) ≡ then_do (then_do m f) g
then-then (Gives a s) f g = refl
then-then (Stops y s) f g = refl

-- every statement that is not labelled takes a turn first
pub turned : (b : Setting) (w : Below) (x : TypedStatement) (s : State) → is_labelled x ≡ false → ex b w x s ≡ tick b s (behind_turn b w x)
unfolding ex_by
turned b w (Block line os xs) s e = refl
turned b w (Declare line o) s e = refl
turned b w (Expression line x) s e = refl
turned b w (Empty line) s e = refl
turned b w (If line c x) s e = refl
turned b w (IfElse line c x y) s e = refl
turned b w (Switch line c (Block m os xs)) s e = refl
turned b w (Switch line c (Declare m o)) s e = refl
turned b w (Switch line c (Expression m x)) s e = refl
turned b w (Switch line c (Empty m)) s e = refl
turned b w (Switch line c (If m d x)) s e = refl
turned b w (Switch line c (IfElse m d x y)) s e = refl
turned b w (Switch line c (Switch m d x)) s e = refl
turned b w (Switch line c (Case m n x)) s e = refl
turned b w (Switch line c (Default m x)) s e = refl
turned b w (Switch line c (While m d x)) s e = refl
turned b w (Switch line c (DoWhile m x d)) s e = refl
turned b w (Switch line c (For m f d t x)) s e = refl
turned b w (Switch line c (ForDeclaration m os ds d t x)) s e = refl
turned b w (Switch line c (Continue m)) s e = refl
turned b w (Switch line c (Break m)) s e = refl
turned b w (Switch line c (Return m x)) s e = refl
turned b w (Case line n x) s e = absurd (cc)
turned b w (Default line x) s e = absurd (cc)
turned b w (While line c x) s e = refl
turned b w (DoWhile line x c) s e = refl
turned b w (For line first c step x) s e = refl
turned b w (ForDeclaration line os ds c step x) s e = refl
turned b w (Continue line) s e = refl
turned b w (Break line) s e = refl
turned b w (Return line x) s e = refl

-- a setting stays that of the run
pub setting-stays : (b : Setting) (u : Stored) (m n : Moment) → Stays m n → IsSetting b u m → IsSetting b u n
setting-stays b u m n h i = record { unit = i.unit; types = i.types; sides = i.sides ∙ sym h.sides }

pub before-stays : (m n : Moment) (out : List ℕ) → Stays m n → Follows m (length out) → Follows n (length out)
before-stays m n out h e = h.total (length out) e

-- an operation that ends the run ends what follows
pub made-stops : (r : Res Worth) (k : Worth → State → Res Worth) (e : Failure) (s : State) → Made r (Err e) s → Made (then_do r k) (Err e) s
made-stops r k failure.NoMemory s h = tt
made-stops r k (failure.Stop y line) s h = ap (λ z. then_do z k) h

pub made-is : (r q : Res Worth) (x : Result (Unit {0}) Failure) (s : State) → q ≡ r → Made r x s → Made q x s
made-is r q x s e h = subst (λ z. Made z x s) (sym e) h

-- 6.8.1
pub case-same : (b : Setting) (w : Below) (x y : TypedStatement) (line : ℕ) (v : ℤ) (s : State) → x ≡ Case line v y → ex b w x s ≡ ex b w y s
unfolding ex_by
case-same b w x y line v s e = ap (λ z. ex b w z s) e

pub default-same : (b : Setting) (w : Below) (x y : TypedStatement) (line : ℕ) (s : State) → x ≡ Default line y → ex b w x s ≡ ex b w y s
unfolding ex_by
default-same b w x y line s e = ap (λ z. ex b w z s) e

pub made-ok : (r : Result (Unit {0}) Failure) (m : Res Worth) (s : State) → is_err r ≡ false → Made m r s → m ≡ Gives Nothing s
made-ok (Ok v) m s e h = h
made-ok (Err e) m s x h = absurd (cc)

-- two steps, each of which keeps
pub stays_both : (l m n : Moment) → Stays l m → Stays m n → Stays l n
stays_both l m n h k = record { total = λ t f. k.total t (h.total t f); taken = k.taken ∙ h.taken; sides = k.sides ∙ h.sides }

pub stays-keeps : (m n : Moment) → Stays m n → KeepsSetting m n
stays-keeps m n h = record { total = h.total; sides = h.sides }

pub keeps-stays : (l m n : Moment) → KeepsSetting l m → Stays m n → KeepsSetting l n
keeps-stays l m n h k = record { total = λ t f. k.total t (h.total t f); sides = k.sides ∙ h.sides }

pub keeps-both : (l m n : Moment) → KeepsSetting l m → KeepsSetting m n → KeepsSetting l n
keeps-both l m n h k = record { total = λ t f. k.total t (h.total t f); sides = k.sides ∙ h.sides }
