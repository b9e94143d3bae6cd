-- The premises of the law, met: in a block behind `int a;` the assignment `a = a + 1` has a typing, and is well typed (C17 6.5.16, 6.5.6).
use Rattle.std.proofs.Common.{◌≡◌, ℕ, ◌≤◌, pos, true, false, Some, [], ◌∷◌, refl, sym, arith, append-nil, inl}
use Rattle.std.specs.Prelude.{◌^◌}
use Rattle.pv_num.specs.declared.kinds.IntKind.TheVariants.{Int}
use Rattle.pv_num.specs.declared.operators.BinOp.TheVariants.{Add}
use Rattle.pv_tree.specs.declared.operators.AssignOperator.TheVariants as assign_word
use Rattle.pv_tree.specs.declared.operators.BinaryOperator.TheVariants as binary
use Rattle.pv_tree.specs.Syntax.{ExpressionTree, Name, Number, Binary, Assign}
use Rattle.pv_types.specs.Layouts.{layouts_of}
use Rattle.pv_types.specs.Ty.{Ty, IntTy}
use Rattle.pv_typed.specs.Mains.{literal_text, heap_text}
use Rattle.pv_typed.specs.TypedTree.{TypedTree, Node, Constant, Object, Read, Arithmetic, Assign as AssignForm}
use Rattle.pv_typed.specs.TypedUnits.{WholeUnit, layouts}
use Rattle.pv_check.specs.State.{State, After, ObjectName, UsedObject}
use Rattle.pv_check.specs.Typing.{types}
use Rattle.pv_guards.specs.Typed.{IsTyped}
use Rattle.pv_well_typed.specs.Later.{IsFinished, Later}
use Rattle.pv_well_typed.specs.ProperStates.{IsEvaluated}
use Rattle.pv_well_typed.proofs.Walk.{well-typed}

abbrev int : Ty
int = IntTy Int

-- one automatic object, `a`
abbrev unit : WholeUnit
unit = record {
  names = literal_text ∷ heap_text ∷ (97 ∷ []) ∷ [];
  headings = [];
  completed = [];
  objects = record { name = 2; t = int; line = 1; lasting = false; braced = false; inits = [] } ∷ [];
  functions = [];
  literals = [];
  instances = [];
  statics = [];
  placed = [];
  tags = [];
  declarations = 0;
}

abbrev before : State
before = record { scopes = record { names = (0, ObjectName 0) ∷ []; tags = [] } ∷ []; unit = unit; texts = (97 ∷ []) ∷ []; used = []; unevaluated = false }

abbrev assignment : ExpressionTree
assignment = Assign 2 assign_word.Assign (Name 2 0) (Binary 2 binary.Add (Name 2 0) (Number 2 1 true false 0))

abbrev typed : TypedTree
typed = Node int 2 true (AssignForm (Node int 2 true (Object 0)) (Node int 2 true (Arithmetic Add (Node int 2 false (Read (Node int 2 true (Object 0)))) (Node int 2 true (Constant (pos 1))))))

abbrev behind : After TypedTree
behind = record { value = typed; state = record before { used = UsedObject 0 ∷ UsedObject 0 ∷ [] } }

has-typing : types assignment before ≡ Some behind
has-typing = refl

finished : IsFinished unit
unfolding layouts_of
finished = record { filled = tt; small = λ n. omega arith; texts = λ l. none l }
  where
    none : (l : ℕ) → 0 ≤ 2 ^ 32
    none l = omega arith

evaluated : IsEvaluated unit (0 ∷ []) before assignment
evaluated = record {
  proper = record {
    unit = record { objects = (tt, tt); functions = λ f lt. absurd (omega (arith, lt)); completed = tt };
    some = omega arith;
    scopes = (((tt, tt), tt), tt);
  };
  evaluated = refl;
  visible = ((λ e. inl refl, tt), tt);
  characters = (tt, (tt, tt));
}

no-static : false ≡ true → ⊥
no-static e = absurd cc

later : Later behind.state unit
later = record {
  unit = record {
    layouts = ([], sym (append-nil (layouts unit)));
    headings = λ n lt. refl;
    functions = λ f lt. absurd (omega (arith, lt));
    literals = λ l lt. refl;
    instances = λ l h. h;
    lasting = λ o lt. refl;
  };
  used = (λ e. absurd (no-static e), (λ e. absurd (no-static e), tt));
}

is-well-typed : IsTyped unit (0 ∷ []) typed
is-well-typed = well-typed unit (0 ∷ []) finished assignment before behind has-typing evaluated later
