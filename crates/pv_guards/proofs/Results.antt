-- What operations on numbers give is of its type, in the same world (C17 6.3.1, 6.5.3.3, 6.5.5 to 6.5.14).
use Rattle.std.proofs.Common.{◌≡◌, refl, ℤ, Option, Some, None, IfOk, Result, Ok, Err}
use Rattle.pv_num.specs.declared.kinds.IntKind.{IntKind}
use Rattle.pv_num.specs.declared.operators.ArithmeticFault.{ArithmeticFault}
use Rattle.pv_num.specs.declared.operators.BinOp.{BinOp}
use Rattle.pv_num.specs.declared.operators.UnOp.{UnOp}
use Rattle.pv_num.specs.Kinds.{Fits}
use Rattle.pv_num.specs.Arithmetic.{IsPromoted, yielded_kind, binary_of, unary_of}
use Rattle.pv_num.proofs.Members.{binary_fits, unary_fits}
use Rattle.pv_object.specs.declared.values.Scalar.TheVariants as scalar
use Rattle.pv_world.specs.Worlds.{Worth, World, Wrong}
use Rattle.pv_world.specs.Worths.{int_of, why_not_set, unless, arithmetic_result}
use Rattle.pv_world.specs.CalculationParts.{calculates, calculates_one}
use Rattle.pv_world.specs.Doing.{Done, Answers, Fails, Breaks}
use Rattle.pv_guards.specs.Worths.{IsScalar}
use Rattle.pv_guards.specs.Promises.{Widens}
use Rattle.pv_guards.proofs.Values.{number-fits}

-- where it answers, its value and its world are so
abbrev pub Answering : (Worth → World → Type 0) → Done → Type 0
Answering Q (Answers v w t) = Q v w
Answering Q (Fails y p w t) = Unit {0}
Answering Q (Breaks y p w t) = Unit {0}

pub unless-answers : (Q : Worth → World → Type 0) (o : Option Wrong) (w : World) (d : Done) → Answering Q d → Answering Q (unless o w d)
unless-answers Q None w d h = h
unless-answers Q (Some y) w d h = tt

pub answers-more : (P Q : Worth → World → Type 0) → ((v : Worth) (z : World) → P v z → Q v z) → (d : Done) → Answering P d → Answering Q d
answers-more P Q f (Answers v z t) h = f v z h
answers-more P Q f (Fails y p z t) h = tt
answers-more P Q f (Breaks y p z t) h = tt

-- a number of the kind, and the same world
abbrev pub GivesKind : World → IntKind → Worth → World → Type 0
GivesKind w k v z = IsScalar (scalar.Int k) v × (z ≡ w)

computed-answers : (k : IntKind) (w : World) (r : Result ℤ ArithmeticFault) → IfOk r (Fits k) → Answering (GivesKind w k) (arithmetic_result w r)
computed-answers k w (Ok n) h = (h, refl)
computed-answers k w (Err f) h = tt

pub calculates-gives : (o : BinOp) (j k : IntKind) (v x : Worth) (w : World) → IsPromoted k → Widens j k → IsScalar (scalar.Int j) v → Answering (GivesKind w (yielded_kind o k)) (calculates o k v x w)
calculates-gives o j k v x w p wide h =
    unless-answers (GivesKind w (yielded_kind o k)) (why_not_set v) w _
    (unless-answers (GivesKind w (yielded_kind o k)) (why_not_set x) w _
    (computed-answers (yielded_kind o k) w (binary_of o k (int_of v) (int_of x)) (binary_fits o k (int_of v) (int_of x) p (wide (int_of v) (number-fits j v h)))))

pub one-gives : (o : UnOp) (k : IntKind) (v : Worth) (w : World) → IsPromoted k → IsScalar (scalar.Int k) v → Answering (GivesKind w k) (calculates_one o k v w)
one-gives o k v w p h = unless-answers (GivesKind w k) (why_not_set v) w _ (computed-answers k w (unary_of o k (int_of v)) (unary_fits o k (int_of v) p (number-fits k v h)))
