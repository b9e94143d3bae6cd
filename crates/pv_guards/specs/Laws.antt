-- What is said of evaluation (C17 6.5): no guard of its definition makes a difference, and what it gives is of its type.
use Rattle.std.specs.Prelude.{◌≡◌, ℕ, ℤ, pos, List, Option, Some, true}
use Rattle.pv_num.specs.declared.kinds.IntKind.TheVariants.{Int}
use Rattle.pv_num.specs.Kinds.{Fits}
use Rattle.pv_types.specs.Ty.{Ty, Tys}
use Rattle.pv_inst.specs.declared.values.Instance.{Instance}
use Rattle.pv_inst.specs.Table.{instance_at}
use Rattle.pv_seq.specs.Sequencing.{Access}
use Rattle.pv_world.specs.Worlds.{Worth, World}
use Rattle.pv_world.specs.Worths.{int}
use Rattle.pv_world.specs.Doing.{Done, Answers, Fails, Breaks}
use Rattle.pv_typed.specs.TypedTree.{TypedTree}
use Rattle.pv_eval.specs.States.{Setting, State, Res, Gives, Stops}
use Rattle.pv_eval.specs.Sequenced.{Given}
use Rattle.pv_eval.specs.Steps.{Calling}
use Rattle.pv_eval.specs.Evaluation.{ev}
use Rattle.pv_eval.specs.Callees.{may_call}
use Rattle.pv_eval.specs.Operations.{Op, Finds, does}
use Rattle.pv_guards.specs.Typed.{given_type, HasBody, IsFunction}
use Rattle.pv_guards.specs.Soundness.{Value, AreValues, IsSound, IsAfter}
use Rattle.pv_guards.specs.Ruled.{has_rule}
use Rattle.pv_guards.specs.Plain.{plain_doing}
use Rattle.pv_guards.specs.PlainRun as plain

-- 6.5p1: where a piece of a run gives something, its value is of this type, and the world after it is later than the one before, and sound
abbrev pub GivesSound : {A : Type 0} → Setting → (automatic : List ℕ) → (A → Worth) → Ty → (before : World) → Res A → Type 0
GivesSound b os worth t w (Gives a s) = Value b s.world t (worth a) × IsSound b os s.world × IsAfter w s.world
GivesSound b os worth t w (Stops y s) = Unit {0}

-- where an operation on a world gives something (6.3, 6.5), its value is of this type, and the world after it is later, and sound
abbrev pub AnswersSound : Setting → (automatic : List ℕ) → Ty → (before : World) → Done → Type 0
AnswersSound b os t w (Answers v z told) = Value b z t v × IsSound b os z × IsAfter w z
AnswersSound b os t w (Fails y p z told) = Unit {0}
AnswersSound b os t w (Breaks y p z told) = Unit {0}

-- where an operation on a world gives the function that is called by a value of this type (6.5.2.2p1), it is one that may be called so (6.3.2.3p8) and is
-- defined (6.9p5), and the world after it is later, and sound
abbrev pub AnswersFunction : Setting → (automatic : List ℕ) → Ty → (before : World) → Done → Type 0
AnswersFunction b os t w (Answers v z told) = (f : ℕ) × (v ≡ int (pos f)) × (may_call b t (Some f) ≡ true) × HasBody b.unit f × IsSound b os z × IsAfter w z
AnswersFunction b os t w (Fails y p z told) = Unit {0}
AnswersFunction b os t w (Breaks y p z told) = Unit {0}

-- 6.5.2.2: each call of a function of the unit on values of its parameters' types is the same as that other call, and gives a value of
-- its result's type
abbrev pub CallsAgree : Setting → (automatic : List ℕ) → (call other : Calling) → Type 0
CallsAgree b os call other =
    (f line : ℕ) (t : Ty) (ts : Tys) (vs : List Worth) (s : State) → IsFunction b.unit f t ts → AreValues b s.world ts vs → IsSound b os s.world
    → (call f vs line s ≡ other f vs line s) × GivesSound b os (λ v. v) t s.world (call f vs line s)

-- 6.5: evaluation with the guards, over the first way of calling, is in every sound world what it is without them, over the other way
abbrev pub MeetsNoGuard : Setting → (automatic : List ℕ) → (call other : Calling) → TypedTree → Type 0
MeetsNoGuard b os call other x = (foes : List Access) (s : State) → IsSound b os s.world → ev b call x foes s ≡ plain.ev b other x foes s

-- 6.5p1: and what it gives is a value of the expression's type, of an lvalue a pointer to it
abbrev pub GivesItsType : Setting → (automatic : List ℕ) → Calling → TypedTree → Type 0
GivesItsType b os call x =
    (foes : List Access) (s : State) → IsSound b os s.world → GivesSound b os (λ (g : Given). g.value) (given_type x) s.world (ev b call x foes s)

-- 5.1.2.2.3p1: what `main` gives: a number that is an `int`
abbrev pub IsStatus : Worth → Type 0
IsStatus v = (n : ℤ) × (v ≡ int n) × Fits Int n

-- 6.3, 6.5: for an operation whose operands are as typing promises there is a rule; it does what that says, and gives a value of its type
abbrev pub DoesItsRule : Setting → (automatic : List ℕ) → Op → Ty → World → Type 0
DoesItsRule b os op t w = (has_rule b op w ≡ true) × (does b op w ≡ plain_doing b op w) × AnswersSound b os t w (does b op w)

-- 6.5.2.2p1: so it is with the operation that finds the function behind a value, which is called by a value of this type
abbrev pub FindsFunction : Setting → (automatic : List ℕ) → Ty → Worth → World → Type 0
FindsFunction b os t v w = (has_rule b (Finds t v) w ≡ true) × (does b (Finds t v) w ≡ plain_doing b (Finds t v) w) × AnswersFunction b os t w (does b (Finds t v) w)

-- the memory model: a candidate, which is an instance
abbrev pub IsInstance : List Instance → Option ℕ → Type 0
IsInstance xs o = (i : ℕ) × (x : Instance) × (o ≡ Some i) × (instance_at xs i ≡ Some x)
