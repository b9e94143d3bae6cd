-- What evaluation gives of an lvalue is there (C17 6.3.2.1p1): a missing value (6.9.1p12) is none of a place, whatever comes before it.
use Rattle.std.proofs.Common.{◌≡◌, ℕ, Bool, true, false, not, List, None, Result, Ok, Err, refl}
use Rattle.std.specs.Prelude.{nat_lt, if◌then◌else◌}
use Rattle.pv_types.specs.Ty.{Ty}
use Rattle.pv_types.specs.Sorts.{is_void, is_pointer}
use Rattle.pv_inst.specs.declared.values.Tried.{Tried}
use Rattle.pv_inst.specs.Table.{Table}
use Rattle.pv_object.specs.declared.values.Pointer.{Pointer}
use Rattle.pv_object.specs.declared.values.Stop.{Stop}
use Rattle.pv_object.specs.Operations.{shift, select}
use Rattle.pv_typed.specs.TypedTree.{TypedTree, Node, Form, Constant, Object, Function, String, Subscript, Call, CallPointer, LibraryCall, Member, MemberOfValue, Arrow, Increment, Address, Indirection, Unary, Not, Sizeof, Cast, Arithmetic, PointerSum, PointerDifference, PointerOrder, PointerEquality, LogicalAnd, LogicalOr, Conditional, Assign, CompoundAssign, PointerAssign, Comma, Read, ArrayPointer, Convert, is_place, type_of}
use Rattle.pv_seq.specs.Sequencing.{Access, Open, open_against, beside}
use Rattle.pv_world.specs.Worlds.{Worth, Nothing, Missing, Scalar, Whole, World}
use Rattle.pv_world.specs.Worths.{int_of, pointer_of, missing_value, why_not_set, why_missing}
use Rattle.pv_world.specs.Telling.{no_telling}
use Rattle.pv_world.specs.Doing.{Done, Fails}
use Rattle.pv_world.specs.Pointers.{moved_by, moves, distance}
use Rattle.pv_world.specs.PointerParts.{selects}
use Rattle.pv_world.specs.Calculations.{follows_to}
use Rattle.pv_eval.specs.States.{Setting, State, Res, Gives, Stops, Turns, then_do, spend}
use Rattle.pv_eval.specs.TypeForms.{element_size}
use Rattle.pv_eval.specs.Sequenced.{Given, node_value, with_given, operand}
use Rattle.pv_eval.specs.Steps.{Calling, takes, tick_if}
use Rattle.pv_eval.specs.Evaluation.{ev_by, ev}
use Rattle.pv_eval.specs.OfRuns.{work, ev_form}
use Rattle.pv_eval.specs.Operations.{Op, NamesObject, NamesLiteral, NamesFunction, Moves, Selects, Follows, suits, works, does, act}
use Rattle.pv_guards.specs.Worths.{IsThere}
use Rattle.pv_guards.specs.Typed.{IsPlace}
use Rattle.pv_guards.proofs.Results.{Answering, unless-answers}
use Rattle.pv_guards.proofs.Sure.{Lands, acted-lands}

-- it is there
abbrev There : Worth → World → Type 0
There v z = IsThere v

-- what evaluation gives is there
abbrev pub GivesThere : Res Given → Type 0
GivesThere r = Lands (λ (g : Given) z. IsThere g.value) r

-- ---- operations that give a place

suiting-there : (c : Bool) (d : Done) (w : World) → Answering There d → Answering There (if c then d else Fails missing_value None w no_telling)
suiting-there true d w h = h
suiting-there false d w h = tt

moved-there : (w : World) (p : Pointer) (got : Result (Pointer × Tried) Stop × Table) → Answering There (moved_by w p got)
moved-there w p (Ok r, T) = tt
moved-there w p (Err y, T) = tt

moves-there : (minus first : Bool) (size : ℕ) (v x : Worth) (w : World) → Answering There (moves minus first size v x w)
moves-there minus true size v x w =
    unless-answers There (why_not_set v) w _ (unless-answers There (why_not_set x) w _ (moved-there w (pointer_of v) (shift w.memory.table (pointer_of v) (distance minus size (int_of x)))))
moves-there minus false size v x w =
    unless-answers There (why_not_set v) w _ (unless-answers There (why_not_set x) w _ (moved-there w (pointer_of x) (shift w.memory.table (pointer_of x) (distance minus size (int_of v)))))

selects-there : (offset : ℕ) (v : Worth) (w : World) → Answering There (selects offset v w)
selects-there offset v w = unless-answers There (why_missing v) w _ (moved-there w (pointer_of v) (select w.memory.table (pointer_of v) offset))

follows-there : (v : Worth) (w : World) → Answering There (follows_to false v w)
follows-there Missing w = tt
follows-there Nothing w = tt
follows-there (Scalar v) w = tt
follows-there (Whole bs a) w = tt

module _ (b : Setting) where
  acts-there : (line : ℕ) (o : Op) (s : State) → Answering There (works b o s.world) → Lands There (act b line o s)
  acts-there line o s h = acted-lands b There (λ v z k high g. g) line (does b o s.world) s (suiting-there (suits b o s.world) (works b o s.world) s.world h)

  work-there : (line : ℕ) (o : Op) (j : Open) (s : State) → ((w : World) → Answering There (works b o w)) → GivesThere (work b line o j s)
  work-there line o j s h = by (act b line o s) (acts-there line o s (h s.world))
    where
      by : (r : Res Worth) → Lands There r → GivesThere (then_do r (node_value j))
      by (Gives v t) g = g
      by (Stops y t) g = tt

  -- whatever an operand comes to
  operand-there : (e : List Access → State → Res Given) (j : Open) (s : State) (go : Open → Worth → State → Res Given) → ((j : Open) (v : Worth) (s : State) → GivesThere (go j v s)) → GivesThere (operand e j s go)
  operand-there e j s go h = by (e (beside j) s)
    where
      by : (r : Res Given) → GivesThere (then_do r (λ g s. go (with_given j g) g.value s))
      by (Gives g t) = h (with_given j g) g.value t
      by (Stops y t) = tt

  tick-there : (c : Bool) (s : State) (m : State → Res Given) → ((s : State) → GivesThere (m s)) → GivesThere (tick_if c b s m)
  tick-there true s m h = by (nat_lt s.taken b.bound)
    where
      by : (c : Bool) → GivesThere (if c then m (spend s) else Stops Turns s)
      by true = h (spend s)
      by false = tt
  tick-there false s m h = h s

  module _ (call : Calling) where
    followed-there : (c : Bool) (line : ℕ) (v : Worth) (j : Open) (s : State) → c ≡ false → GivesThere (work b line (Follows c v) j s)
    followed-there false line v j s e = work-there line (Follows false v) j s (λ w. follows-there v w)
    followed-there true line v j s e = absurd cc

    not-void : (c : Bool) → not c ≡ true → c ≡ false
    not-void false e = refl
    not-void true e = absurd cc

    form-there : (t : Ty) (line : ℕ) (x : Form) → is_place t x ≡ true → (fs : List Access) (s : State) → GivesThere (ev_form b call t line x fs s)
    unfolding ev_by
    form-there t line (Object o) e fs s = work-there line (NamesObject o) (open_against fs) s (λ w. tt)
    form-there t line (String l) e fs s = work-there line (NamesLiteral l) (open_against fs) s (λ w. tt)
    form-there t line (Function f) e fs s = work-there line (NamesFunction f) (open_against fs) s (λ w. tt)
    form-there t line (Subscript x y) e fs s =
        let first = is_pointer (type_of x) in
        let size = element_size b (if is_pointer (type_of x) then type_of x else type_of y) in
        operand-there (ev b call x) (open_against fs) s (λ j v s. operand (ev b call y) j s (λ j w s. work b line (Moves false first size v w) j s)) (λ j v s.
        operand-there (ev b call y) j s (λ j w s. work b line (Moves false first size v w) j s) (λ j w s. work-there line (Moves false first size v w) j s (λ z. moves-there false first size v w z)))
    form-there t line (Member x offset) e fs s =
        operand-there (ev b call x) (open_against fs) s (λ j v s. work b line (Selects offset v) j s) (λ j v s. work-there line (Selects offset v) j s (λ z. selects-there offset v z))
    form-there t line (Arrow x offset) e fs s =
        operand-there (ev b call x) (open_against fs) s (λ j v s. work b line (Selects offset v) j s) (λ j v s. work-there line (Selects offset v) j s (λ z. selects-there offset v z))
    form-there t line (Indirection x) e fs s =
        operand-there (ev b call x) (open_against fs) s (λ j v s. work b line (Follows (is_void t) v) j s) (λ j v s. followed-there (is_void t) line v j s (not-void (is_void t) e))
    form-there t line (Constant n) e fs s = absurd cc
    form-there t line (Call f xs) e fs s = absurd cc
    form-there t line (CallPointer a xs) e fs s = absurd cc
    form-there t line (LibraryCall f xs) e fs s = absurd cc
    form-there t line (MemberOfValue a n) e fs s = absurd cc
    form-there t line (Increment o a) e fs s = absurd cc
    form-there t line (Address a) e fs s = absurd cc
    form-there t line (Unary o a) e fs s = absurd cc
    form-there t line (Not a) e fs s = absurd cc
    form-there t line (Sizeof n) e fs s = absurd cc
    form-there t line (Cast a) e fs s = absurd cc
    form-there t line (Arithmetic o a d) e fs s = absurd cc
    form-there t line (PointerSum g a d) e fs s = absurd cc
    form-there t line (PointerDifference a d) e fs s = absurd cc
    form-there t line (PointerOrder o a d) e fs s = absurd cc
    form-there t line (PointerEquality o a d) e fs s = absurd cc
    form-there t line (LogicalAnd a d) e fs s = absurd cc
    form-there t line (LogicalOr a d) e fs s = absurd cc
    form-there t line (Conditional a d c) e fs s = absurd cc
    form-there t line (Assign a d) e fs s = absurd cc
    form-there t line (CompoundAssign o q a d) e fs s = absurd cc
    form-there t line (PointerAssign g a d) e fs s = absurd cc
    form-there t line (Comma a d) e fs s = absurd cc
    form-there t line (Read a) e fs s = absurd cc
    form-there t line (ArrayPointer a) e fs s = absurd cc
    form-there t line (Convert a) e fs s = absurd cc

    -- 6.3.2.1p1: of an lvalue
    pub place-there : (x : TypedTree) → IsPlace x → (fs : List Access) (s : State) → GivesThere (ev b call x fs s)
    unfolding ev_by
    place-there (Node t line turn x) e fs s = tick-there (takes turn x) s (ev_form b call t line x fs) (λ s. form-there t line x e fs s)
