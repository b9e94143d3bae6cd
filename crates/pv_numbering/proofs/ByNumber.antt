-- Objects and functions of a unit by their numbers. A number of no object stands for one of type `void`, through which nothing is marked.
use Rattle.std.proofs.Common.{ℕ, zero, suc, List, [], ◌∷◌, get_or, refl}
use Rattle.pv_types.specs.Ty.{Ty, VoidTy}
use Rattle.pv_types.specs.Known.{Known}
use Rattle.pv_typed.specs.Known.{Each}
use Rattle.pv_typed.proofs.Each.{each_weaker}
use Rattle.pv_typed.specs.TypedUnits.{TypedObject, TypedFunction, object_at, function_at}
use Rattle.pv_typed.specs.UnitParts.{no_object, no_function}
use Rattle.pv_world.specs.Worlds.{Worth}
use Rattle.pv_eval.specs.States.{Setting}
use Rattle.pv_eval.specs.TypeForms.{number_of, lvalue}
use Rattle.pv_eval.specs.Operations.{Puts}
use Rattle.pv_numbering.proofs.Alike.{with_types, AlikeWorth}
use Rattle.pv_numbering.proofs.Acts.{ActAlike, ActsAlike}
use Rattle.pv_numbering.proofs.Types.{AllStore, AllObject, AllBody, AllUnit}
use Rattle.pv_numbering.proofs.Expressions.{AlikeType}

each_or : {A : Type 0} (P : A → Type 0) (d : A) (xs : List A) → P d → Each P xs → (i : ℕ) → P (get_or xs i d)
each_or P d [] k h i = k
each_or P d (x ∷ xs) k h zero = h.0
each_or P d (x ∷ xs) k h (suc i) = each_or P d xs k h.1 i

-- a parameter of this type gets an argument
abbrev pub TakesAlike : Setting → Known → Ty → Type 0
TakesAlike b m' t = (o : ℕ) (v v' : Worth) → AlikeWorth b.types m' v v' → ActAlike b m' (Puts o 0 (lvalue b t) v) (Puts o 0 (lvalue (with_types b m') t) v')

module _ {b : Setting} {m' : Known} (acts : ActsAlike b m') where
  -- a value that is stored whole has its own marks
  void-alike : TakesAlike b m' VoidTy
  void-alike o v v' h = acts.puts o 0 (lvalue b VoidTy) (lvalue (with_types b m') VoidTy) v v' (record { number = number_of m' VoidTy; is = refl; marks = λ scalar. absurd (scalar refl) }) h

  takes-alike : (x : TypedObject) → AllObject (AlikeType b m') x → TakesAlike b m' x.t
  takes-alike x k o v v' h = acts.puts o 0 (lvalue b x.t) (lvalue (with_types b m') x.t) v v' k.t h

  pub takes : (p : AllUnit (AlikeType b m') b.unit) (o : ℕ) → TakesAlike b m' (object_at b.unit o).t
  takes p o = each_or (λ (x : TypedObject). TakesAlike b m' x.t) no_object b.unit.objects void-alike (each_weaker (AllObject (AlikeType b m')) (λ (x : TypedObject). TakesAlike b m' x.t) takes-alike b.unit.objects p.objects) o

pub inits-of : (b : Setting) (m' : Known) → AllUnit (AlikeType b m') b.unit → (o : ℕ) → Each (AllStore (AlikeType b m')) (object_at b.unit o).inits
inits-of b m' p o = each_or (λ (x : TypedObject). Each (AllStore (AlikeType b m')) x.inits) no_object b.unit.objects tt (each_weaker (AllObject (AlikeType b m')) (λ (x : TypedObject). Each (AllStore (AlikeType b m')) x.inits) (λ x k. k.inits) b.unit.objects p.objects) o

pub body-of : (b : Setting) (m' : Known) → AllUnit (AlikeType b m') b.unit → (f : ℕ) → AllBody (AlikeType b m') (function_at b.unit f).body
body-of b m' p f = each_or (λ (x : TypedFunction). AllBody (AlikeType b m') x.body) no_function b.unit.functions tt p.functions f
