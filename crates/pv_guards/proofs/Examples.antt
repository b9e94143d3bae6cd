-- A unit that is well typed, worked out: a call with an argument, an object, a prototype that nobody calls (C17 6.5, 6.8, 6.9).
--
--     int g(int b);
--     int f(int a) { return a + 1; }
--     int main(void) { int x; x = f(41); return x; }
use Rattle.std.proofs.Common.{◌≡◌, ℕ, zero, suc, ◌<◌, pos, false, true, [], ◌∷◌, length, Some, None, refl, ap, subst, inl, inr, arith}
use Rattle.pv_num.specs.declared.kinds.IntKind.TheVariants.{Int}
use Rattle.pv_num.specs.declared.operators.BinOp.TheVariants.{Add}
use Rattle.pv_types.specs.Ty.{Ty, Tys, NoTys, MoreTys, VoidTy, IntTy, FunctionTy}
use Rattle.pv_types.specs.Sorts.{bare_type}
use Rattle.pv_typed.specs.Known.{Each}
use Rattle.pv_typed.specs.Mains.{literal_text, heap_text, main_text}
use Rattle.pv_typed.specs.TypedTree.{TypedTree, Node, Constant, Object, Call, Read, Assign, Arithmetic, NoArguments, MoreArguments}
use Rattle.pv_typed.specs.TypedStatement.{TypedStatement, Block, Declare, Expression, Return, NoStatements, MoreStatements}
use Rattle.pv_typed.specs.TypedUnits.{WholeUnit, TypedObject, TypedFunction, layouts, function_at, literal_at}
use Rattle.pv_guards.specs.Typed.{IsSized, AreLike, HasBody, IsFunction}
use Rattle.pv_guards.specs.TypedStatements.{IsMakeable, IsTypedStatement, IsTypedFunction, IsTypedUnit}
use Rattle.pv_guards.proofs.Numbers.{one_in}
use Rattle.std.proofs.lemmas.Int.{ints}
use Rattle.pv_num.specs.Kinds.{Fits}

abbrev int : Ty
int = IntTy Int

abbrev taking_int : Ty
taking_int = FunctionTy int (MoreTys int NoTys) false

abbrev automatic : ℕ → TypedObject
automatic name = record { name = name; t = int; line = 1; lasting = false; braced = false; inits = [] }

abbrev read : (object : ℕ) → TypedTree
read o = Node int 1 false (Read (Node int 1 true (Object o)))

abbrev number : ℕ → TypedTree
number n = Node int 1 true (Constant (pos n))

abbrev f_body : TypedStatement
f_body = Block 2 [] (MoreStatements (Return 2 (Some (Node int 2 true (Arithmetic Add (read 1) (number 1))))) NoStatements)

abbrev assignment : TypedTree
assignment = Node int 3 true (Assign (Node int 3 true (Object 0)) (Node int 3 true (Call 1 (MoreArguments (number 41) NoArguments))))

abbrev main_body : TypedStatement
main_body = Block 3 (0 ∷ []) (MoreStatements (Declare 3 0) (MoreStatements (Expression 3 assignment) (MoreStatements (Return 3 (Some (read 0))) NoStatements)))

abbrev unit : WholeUnit
unit = record {
  names = literal_text ∷ heap_text ∷ (103 ∷ []) ∷ (102 ∷ []) ∷ main_text ∷ (97 ∷ []) ∷ (120 ∷ []) ∷ [];
  headings = [];
  completed = [];
  objects = automatic 6 ∷ automatic 5 ∷ [];
  functions = record { name = 2; t = taking_int; line = 1; params = []; body = None } ∷ record { name = 3; t = taking_int; line = 2; params = 1 ∷ []; body = Some f_body }
      ∷ record { name = 4; t = FunctionTy int NoTys false; line = 3; params = []; body = Some main_body } ∷ [];
  literals = [];
  instances = [];
  statics = [];
  placed = [];
  tags = [];
  declarations = 3;
}

int-sized : IsSized (layouts unit) int
int-sized = record { complete = refl; some = omega arith; small = omega arith }

x-makeable : IsMakeable unit false 0
x-makeable = record { storage = refl; complete = refl; small = omega arith; named = λ e. absurd cc }

a-makeable : IsMakeable unit false 1
a-makeable = record { storage = refl; complete = refl; small = omega arith; named = λ e. absurd cc }

like-itself : (t : Ty) → AreLike t t
like-itself t env v = ((λ h. h), (λ h. h))

forty-one : Fits Int (pos 41)
forty-one = (grind (arith, ints), grind (arith, ints))

f-typed : IsTypedStatement unit int (1 ∷ []) f_body
f-typed = (tt, tt, ((int, (Int, Int, (inl refl, refl, refl, int-sized, tt), (refl, refl), (Int, refl, one_in Int), (refl, refl), omega arith, refl, refl), (refl, refl), like-itself int), tt))

f-called : IsFunction unit 1 int (MoreTys int NoTys)
f-called = (omega arith, refl, (like-itself int, (like-itself int, tt)))

main-typed : IsTypedStatement unit int [] main_body
main-typed = (
  (x-makeable, tt),
  (λ h. h, tt),
  (
    (inl refl, x-makeable, tt),
    (
      (inl refl, refl, (MoreTys int NoTys, f-called, ((Int, refl, forty-one), (refl, refl), tt, tt)), (refl, refl), refl, int-sized, tt),
      ((int, (inl refl, refl, refl, int-sized, tt), (refl, refl), like-itself int), tt),
    ),
  ),
)

-- the result and the parameters of a function type
abbrev result_of : Ty → Ty
result_of (FunctionTy r ts c) = r
result_of _ = VoidTy

abbrev parameters_of : Ty → Tys
parameters_of (FunctionTy r ts c) = ts
parameters_of _ = NoTys

typed-as : (x : TypedFunction) (t r : Ty) (ts : Tys) → t ≡ FunctionTy r ts false → IsTypedFunction unit x (result_of t) (parameters_of t) → IsTypedFunction unit x r ts
typed-as x t r ts e h = subst (λ q. IsTypedFunction unit x q ts) (ap result_of e) (subst (λ q. IsTypedFunction unit x (result_of t) q) (ap parameters_of e) h)

functions-typed : (f : ℕ) (r : Ty) (ts : Tys) → f < length unit.functions → (function_at unit f).t ≡ FunctionTy r ts false → IsTypedFunction unit (function_at unit f) r ts
functions-typed zero r ts l e = typed-as (function_at unit 0) taking_int r ts e (record { result = inr tt; main = λ m. refl; definition = refl })
functions-typed (suc zero) r ts l e = typed-as (function_at unit 1) taking_int r ts e (record { result = inr tt; main = λ m. refl; definition = (((a-makeable, like-itself int, tt), tt), (λ h. h, tt), f-typed) })
functions-typed (suc (suc zero)) r ts l e = typed-as (function_at unit 2) (FunctionTy int NoTys false) r ts e (record { result = inr tt; main = λ m. refl; definition = (tt, tt, main-typed) })
functions-typed (suc (suc (suc f))) r ts l e = absurd (omega (arith, l))

same-main : (f : ℕ) → Some 2 ≡ Some f → 2 ≡ f
same-main f e = cc

no-characters : (l : ℕ) → Each (λ (v : ℕ). v < 256) (literal_at unit l).bytes
no-characters zero = tt
no-characters (suc l) = tt

-- it is well typed
pub unit-typed : IsTypedUnit unit
unit-typed = record {
  functions = functions-typed;
  main = λ f e. subst (λ f. (f < length unit.functions) × HasBody unit f × ((r : Ty) × ((function_at unit f).t ≡ FunctionTy r NoTys false) × (bare_type r ≡ int))) (same-main f e) (omega arith, refl, (int, refl, refl));
  characters = no-characters;
  literals = λ l h. absurd h;
  statics = λ o h. absurd h;
  constants = λ o h. absurd h;
  placed = λ f h. absurd h;
}
