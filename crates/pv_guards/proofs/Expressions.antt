-- Typed expressions are evaluated with the guards as without them, and give values of their types (C17 6.5).
use Rattle.std.proofs.Common.{append_assoc, append-nil, [], ◌∷◌, ◌++◌, ◌≡◌, ℕ, refl, sym, ap, ◌∙◌, subst, Bool, true, false, List, inl, inr, None}
use Rattle.std.specs.Prelude.{◌≤◌, ◌^◌, pos, not, if◌then◌else◌, Option}
use Rattle.pv_num.specs.declared.kinds.IntKind.{IntKind}
use Rattle.pv_num.specs.declared.kinds.IntKind.TheVariants.{Int}
use Rattle.pv_num.specs.declared.operators.BinOp.{BinOp}
use Rattle.pv_num.specs.declared.operators.BinOp.TheVariants as bin
use Rattle.pv_num.specs.Arithmetic.{yielded_kind}
use Rattle.pv_typed.specs.declared.nodes.IncrementOperator.{IncrementOperator}
use Rattle.pv_typed.specs.TypedUnits.{layouts}
use Rattle.pv_guards.proofs.Numbers.{promoted_widens, promoted_is, one_fits}
use Rattle.pv_types.specs.Ty.{Ty, Tys, NoTys, MoreTys, VoidTy, IntTy, PointerTo, ArrayOf, StructTag, UnionTag, FunctionTy, ConstOf}
use Rattle.pv_types.specs.Sorts.{bare_type, is_void, is_pointer}
use Rattle.pv_typed.specs.TypedTree.{TypedTree, Node, Form, Arguments, NoArguments, MoreArguments, line_of, Constant, Object, Function, String, Subscript, Call, CallPointer, LibraryCall, Member, MemberOfValue, Arrow, Increment, Address, Indirection, Unary, Not, Sizeof, Cast, Arithmetic, PointerSum, PointerDifference, PointerOrder, PointerEquality, LogicalAnd, LogicalOr, Conditional, Assign, CompoundAssign, PointerAssign, Comma, Read, ArrayPointer, Convert, type_of}
use Rattle.pv_seq.specs.Sequencing.{Access, Open, open_against, sequence_point, beside, rivals, with_access}
use Rattle.pv_world.specs.declared.got.How.TheVariants.{Rounds}
use Rattle.pv_world.specs.Worlds.{Worth, Nothing, Missing, Scalar, Whole, World}
use Rattle.pv_world.specs.Worths.{int, is_true, pointer_of, value_of}
use Rattle.pv_eval.specs.States.{Setting, State, Res, Gives, Stops}
use Rattle.pv_eval.specs.TypeForms.{Lvalue, lvalue, kind_of, element_size, pointed_to}
use Rattle.pv_num.specs.Kinds.{promotion_of}
use Rattle.pv_eval.specs.Conversions.{how_to}
use Rattle.pv_eval.specs.Accesses.{access_to}
use Rattle.pv_eval.specs.Sequenced.{Given, with_given, node_value, operand, later_operand}
use Rattle.pv_eval.specs.OfRuns.{doing, work, with_conversion, reading, writing, combining, stepping, accepted_value, ev_form, ev_call, ev_through, ev_ask}
use Rattle.pv_eval.specs.Steps.{Calling, takes, source_of, is_unequal, is_minus, is_after, is_down}
use Rattle.pv_eval.specs.Evaluation.{ev_by, ev}
use Rattle.pv_eval.specs.Arguments.{argument}
use Rattle.pv_eval.specs.CalleeParts.{function_in}
use Rattle.pv_eval.specs.Library.{asks}
use Rattle.pv_libc.specs.declared.values.Arg.{Arg}
use Rattle.pv_typed.specs.Known.{Each}
use Rattle.pv_eval.specs.Operations as op
use Rattle.pv_eval.specs.Operations.{Op, act}
use Rattle.pv_guards.specs.Plain.{act_plainly}
use Rattle.pv_guards.specs.PlainRun as plain
use Rattle.pv_guards.specs.PlainParts as parts
use Rattle.pv_guards.specs.Typed.{IsTyped, IsTypedForm, IsPlace, HasType, HasValue, MayConvert, MayCast, given_type, given_by, pointee_type, IsValueType, IsScalarType, IsIntegerType, IsSum, IsElementPointer, MayStep, MayBeRight, IsFunction, ArePassed, AreAllLike, IsResultOf}
use Rattle.pv_guards.specs.Fair.{IsArgument, HasAddress}
use Rattle.pv_guards.specs.Soundness.{Value, AreValues, IsSound, IsAfter}
use Rattle.pv_guards.specs.Promises.{Promised, FollowsTo, Shifts}
use Rattle.pv_guards.specs.Worths.{IsThere, IsScalar, IsWhole, IsNothing, IsOfType}
use Rattle.pv_object.specs.declared.values.Scalar.TheVariants as scalar
use Rattle.pv_object.specs.declared.values.Value.TheVariants.{Int as IntValue, Unset, Pointer as PointerValue}
use Rattle.pv_library.specs.declared.library.Library.{Library}
use Rattle.pv_guards.proofs.Results.{Answering}
use Rattle.pv_guards.proofs.Leaving.{ordered, Keeping, MayBeCalled, values-later, value-fair}
use Rattle.pv_guards.proofs.Acting as acting
use Rattle.pv_guards.proofs.Signatures.{called-function}
use Rattle.pv_guards.proofs.Taken.{ArePlain, Take, calls-by, take-all, take-further, take-one}
use Rattle.pv_guards.proofs.Places.{GivesThere, place-there}
use Rattle.pv_guards.proofs.Triples.{Order, Holds, After, Gave, gives, seq, weaker, choice, ticks, done-holds}

-- what evaluation gives of an lvalue
if-true : (c : Bool) (t u : Ty) → c ≡ true → (if c then t else u) ≡ t
if-true true t u e = refl
if-true false t u e = absurd cc

if-false : (c : Bool) (t u : Ty) → c ≡ false → (if c then t else u) ≡ u
if-false false t u e = refl
if-false true t u e = absurd cc

pub place-given : (a : TypedTree) → IsPlace a → given_type a ≡ PointerTo (type_of a)
place-given (Node t line turn (Constant n)) e = absurd cc
place-given (Node t line turn (Object o)) e = refl
place-given (Node t line turn (Function f)) e = refl
place-given (Node t line turn (String l)) e = refl
place-given (Node t line turn (Subscript a d)) e = refl
place-given (Node t line turn (Call f xs)) e = absurd cc
place-given (Node t line turn (CallPointer a xs)) e = absurd cc
place-given (Node t line turn (LibraryCall f xs)) e = absurd cc
place-given (Node t line turn (Member a n)) e = refl
place-given (Node t line turn (MemberOfValue a n)) e = absurd cc
place-given (Node t line turn (Arrow a n)) e = refl
place-given (Node t line turn (Increment o a)) e = absurd cc
place-given (Node t line turn (Address a)) e = absurd cc
place-given (Node t line turn (Indirection a)) e = if-true (not (is_void t)) (PointerTo t) t e
place-given (Node t line turn (Unary o a)) e = absurd cc
place-given (Node t line turn (Not a)) e = absurd cc
place-given (Node t line turn (Sizeof n)) e = absurd cc
place-given (Node t line turn (Cast a)) e = absurd cc
place-given (Node t line turn (Arithmetic o a d)) e = absurd cc
place-given (Node t line turn (PointerSum g a d)) e = absurd cc
place-given (Node t line turn (PointerDifference a d)) e = absurd cc
place-given (Node t line turn (PointerOrder o a d)) e = absurd cc
place-given (Node t line turn (PointerEquality o a d)) e = absurd cc
place-given (Node t line turn (LogicalAnd a d)) e = absurd cc
place-given (Node t line turn (LogicalOr a d)) e = absurd cc
place-given (Node t line turn (Conditional a d c)) e = absurd cc
place-given (Node t line turn (Assign a d)) e = absurd cc
place-given (Node t line turn (CompoundAssign o q a d)) e = absurd cc
place-given (Node t line turn (PointerAssign g a d)) e = absurd cc
place-given (Node t line turn (Comma a d)) e = absurd cc
place-given (Node t line turn (Read a)) e = absurd cc
place-given (Node t line turn (ArrayPointer a)) e = absurd cc
place-given (Node t line turn (Convert a)) e = absurd cc

-- 6.3: a conversion that is implied is one that a cast may make
cast-of : (t u : Ty) → MayConvert t u → MayCast t u
cast-of (IntTy k) (IntTy l) h = (tt, tt)
cast-of (PointerTo t) (IntTy l) h = (tt, tt)
cast-of (PointerTo t) (PointerTo u) h = (tt, tt)
cast-of (IntTy k) (PointerTo u) h = (tt, tt)
cast-of VoidTy VoidTy h = absurd h
cast-of VoidTy (IntTy k2) h = absurd h
cast-of VoidTy (PointerTo t2) h = absurd h
cast-of VoidTy (ArrayOf t2 n2) h = absurd h
cast-of VoidTy (StructTag n2) h = absurd h
cast-of VoidTy (UnionTag n2) h = absurd h
cast-of VoidTy (FunctionTy t2 ts2 c2) h = absurd h
cast-of VoidTy (ConstOf t2) h = absurd h
cast-of (IntTy k) VoidTy h = absurd h
cast-of (IntTy k) (ArrayOf t2 n2) h = absurd h
cast-of (IntTy k) (StructTag n2) h = absurd h
cast-of (IntTy k) (UnionTag n2) h = absurd h
cast-of (IntTy k) (FunctionTy t2 ts2 c2) h = absurd h
cast-of (IntTy k) (ConstOf t2) h = absurd h
cast-of (PointerTo t) VoidTy h = absurd h
cast-of (PointerTo t) (ArrayOf t2 n2) h = absurd h
cast-of (PointerTo t) (StructTag n2) h = absurd h
cast-of (PointerTo t) (UnionTag n2) h = absurd h
cast-of (PointerTo t) (FunctionTy t2 ts2 c2) h = absurd h
cast-of (PointerTo t) (ConstOf t2) h = absurd h
cast-of (ArrayOf t n) VoidTy h = absurd h
cast-of (ArrayOf t n) (IntTy k2) h = absurd h
cast-of (ArrayOf t n) (PointerTo t2) h = absurd h
cast-of (ArrayOf t n) (ArrayOf t2 n2) h = absurd h
cast-of (ArrayOf t n) (StructTag n2) h = absurd h
cast-of (ArrayOf t n) (UnionTag n2) h = absurd h
cast-of (ArrayOf t n) (FunctionTy t2 ts2 c2) h = absurd h
cast-of (ArrayOf t n) (ConstOf t2) h = absurd h
cast-of (StructTag n) VoidTy h = absurd h
cast-of (StructTag n) (IntTy k2) h = absurd h
cast-of (StructTag n) (PointerTo t2) h = absurd h
cast-of (StructTag n) (ArrayOf t2 n2) h = absurd h
cast-of (StructTag n) (StructTag n2) h = absurd h
cast-of (StructTag n) (UnionTag n2) h = absurd h
cast-of (StructTag n) (FunctionTy t2 ts2 c2) h = absurd h
cast-of (StructTag n) (ConstOf t2) h = absurd h
cast-of (UnionTag n) VoidTy h = absurd h
cast-of (UnionTag n) (IntTy k2) h = absurd h
cast-of (UnionTag n) (PointerTo t2) h = absurd h
cast-of (UnionTag n) (ArrayOf t2 n2) h = absurd h
cast-of (UnionTag n) (StructTag n2) h = absurd h
cast-of (UnionTag n) (UnionTag n2) h = absurd h
cast-of (UnionTag n) (FunctionTy t2 ts2 c2) h = absurd h
cast-of (UnionTag n) (ConstOf t2) h = absurd h
cast-of (FunctionTy t ts c) VoidTy h = absurd h
cast-of (FunctionTy t ts c) (IntTy k2) h = absurd h
cast-of (FunctionTy t ts c) (PointerTo t2) h = absurd h
cast-of (FunctionTy t ts c) (ArrayOf t2 n2) h = absurd h
cast-of (FunctionTy t ts c) (StructTag n2) h = absurd h
cast-of (FunctionTy t ts c) (UnionTag n2) h = absurd h
cast-of (FunctionTy t ts c) (FunctionTy t2 ts2 c2) h = absurd h
cast-of (FunctionTy t ts c) (ConstOf t2) h = absurd h
cast-of (ConstOf t) VoidTy h = absurd h
cast-of (ConstOf t) (IntTy k2) h = absurd h
cast-of (ConstOf t) (PointerTo t2) h = absurd h
cast-of (ConstOf t) (ArrayOf t2 n2) h = absurd h
cast-of (ConstOf t) (StructTag n2) h = absurd h
cast-of (ConstOf t) (UnionTag n2) h = absurd h
cast-of (ConstOf t) (FunctionTy t2 ts2 c2) h = absurd h
cast-of (ConstOf t) (ConstOf t2) h = absurd h

module _ (b : Setting) (os : List ℕ)
    (asks-give : (f : Library) (args : List Arg) (t : Ty) (w : World) (s : IsSound b os w) → Promised b os w (op.Asks f args) t → Answering (Keeping b os w s (λ v z. Value b z t v)) (asks f args w)) where
  abbrev order : Order b (IsSound b os) IsAfter
  order = ordered b os

  abbrev To : World → World → Type 0
  To w z = IsAfter w z

  acts : (line : ℕ) (o : Op) (t : Ty) (w : World) → Promised b os w o t → Holds order (λ v w. Value b w t v) w (act b line o) (act_plainly b line o)
  acts = acting.acts b os asks-give

  abbrev Is : Ty → Worth → World → Type 0
  Is t v w = Value b w t v

  abbrev Typed : Ty → World → (State → Res Given) → (State → Res Given) → Type 0
  Typed t w m m' = Holds order (Gave order t) w m m'

  pub operand-way : (w : World) (u t : Ty) (j : Open) (e e' : List Access → State → Res Given) (go go' : Open → Worth → State → Res Given) → ((fs : List Access) → Typed u w (e fs) (e' fs)) → ((j : Open) (v : Worth) (z : World) → To w z → Value b z u v → Typed t z (go j v) (go' j v)) → Typed t w (λ s. operand e j s go) (λ s. operand e' j s go')
  operand-way w u t j e e' go go' h g =
      seq order (Gave order u) (Gave order t) w (e (beside j)) (e' (beside j)) (λ x s. go (with_given j x) x.value s) (λ x s. go' (with_given j x) x.value s) (h (beside j)) (λ x z f q. g (with_given j x) x.value z f q)

  pub later-way : (w : World) (u t : Ty) (j : Open) (e e' : List Access → State → Res Given) (go go' : Open → Worth → State → Res Given) → ((fs : List Access) → Typed u w (e fs) (e' fs)) → ((j : Open) (v : Worth) (z : World) → To w z → Value b z u v → Typed t z (go j v) (go' j v)) → Typed t w (λ s. later_operand e j s go) (λ s. later_operand e' j s go')
  later-way w u t j e e' go go' h g =
      seq order (Gave order u) (Gave order t) w (e j.foes) (e' j.foes) (λ x s. go (with_given j x) x.value s) (λ x s. go' (with_given j x) x.value s) (h j.foes) (λ x z f q. g (with_given j x) x.value z f q)

  pub doing-way : (w : World) (line : ℕ) (o : Op) (u t : Ty) (go go' : Worth → State → Res Given) → Promised b os w o u → ((v : Worth) (z : World) → To w z → Value b z u v → Typed t z (go v) (go' v)) → Typed t w (λ s. doing b line o s go) (λ s. parts.doing b line o s go')
  doing-way w line o u t go go' p g = seq order (Is u) (Gave order t) w (act b line o) (act_plainly b line o) go go' (acts line o u w p) g

  pub work-way : (w : World) (line : ℕ) (o : Op) (t : Ty) (j : Open) → Promised b os w o t → Typed t w (work b line o j) (parts.work b line o j)
  work-way w line o t j p = doing-way w line o t t (node_value j) (node_value j) p (λ v z f q. done-holds order z t j v q)

  pub reading-way : (w : World) (l : Lvalue) (line : ℕ) (p : Worth) (j : Open) (u t : Ty) (go go' : Open → Worth → State → Res Given) → Promised b os w (op.Reads l p (rivals j)) u → ((j : Open) (v : Worth) (z : World) → To w z → Value b z u v → Typed t z (go j v) (go' j v)) → Typed t w (λ s. reading b l line p j s go) (λ s. parts.reading b l line p j s go')
  reading-way w l line p j u t go go' h g =
      doing-way w line (op.Reads l p (rivals j)) u t (λ v s. go (with_access (access_to l (pointer_of p) false) j) v s) (λ v s. go' (with_access (access_to l (pointer_of p) false) j) v s) h (λ v z f q. g (with_access (access_to l (pointer_of p) false) j) v z f q)

  pub writing-way : (w : World) (l : Lvalue) (line : ℕ) (p x : Worth) (from : Option ℕ) (j : Open) (u t : Ty) (go go' : Open → Worth → State → Res Given) → Promised b os w (op.Writes l p x from (rivals j)) u → ((j : Open) (v : Worth) (z : World) → To w z → Value b z u v → Typed t z (go j v) (go' j v)) → Typed t w (λ s. writing b l line p x from j s go) (λ s. parts.writing b l line p x from j s go')
  writing-way w l line p x from j u t go go' h g =
      doing-way w line (op.Writes l p x from (rivals j)) u t (λ v s. go (with_access (access_to l (pointer_of p) true) j) v s) (λ v s. go' (with_access (access_to l (pointer_of p) true) j) v s) h (λ v z f q. g (with_access (access_to l (pointer_of p) true) j) v z f q)

  no : true ≡ false → ⊥
  no e = absurd cc

  -- 6.3p1: an operand's value has the operand's type once it is converted
  as_it_is : (t u : Ty) (w : World) (v : Worth) → t ≡ u → Value b w t v → Holds order (Is u) w (λ s. Gives v s) (λ s. Gives v s)
  as_it_is t u w v e h = gives order (Is u) w v (λ z f. order.keeps u v f (subst (λ t. Value b w t v) e h))

  pub converted-way : (x : TypedTree) (u : Ty) (w : World) (v : Worth) → IsTyped b.unit os x → HasType x u → Value b w (given_type x) v → Holds order (Is u) w (with_conversion b x v) (parts.with_conversion b x v)
  converted-way (Node t line turn (Convert (Node r m k y))) u w v h e g =
      subst (λ q. Holds order (Is q) w (with_conversion b (Node t line turn (Convert (Node r m k y))) v) (parts.with_conversion b (Node t line turn (Convert (Node r m k y))) v)) e.1 (acts line (op.Converts (how_to b true r t) v) t w (r, g, inl (true, refl, cast-of r t h.2)))
  converted-way (Node t line turn (Constant n)) u w v2 h e g2 = as_it_is t u w v2 e.1 g2
  converted-way (Node t line turn (Object o)) u w v2 h e g2 = absurd (no e.0)
  converted-way (Node t line turn (Function f)) u w v2 h e g2 = absurd (no e.0)
  converted-way (Node t line turn (String l)) u w v2 h e g2 = absurd (no e.0)
  converted-way (Node t line turn (Subscript a d)) u w v2 h e g2 = absurd (no e.0)
  converted-way (Node t line turn (Call f xs)) u w v2 h e g2 = as_it_is t u w v2 e.1 g2
  converted-way (Node t line turn (CallPointer a xs)) u w v2 h e g2 = as_it_is t u w v2 e.1 g2
  converted-way (Node t line turn (LibraryCall f xs)) u w v2 h e g2 = as_it_is t u w v2 e.1 g2
  converted-way (Node t line turn (Member a n)) u w v2 h e g2 = absurd (no e.0)
  converted-way (Node t line turn (MemberOfValue a n)) u w v2 h e g2 = as_it_is t u w v2 e.1 g2
  converted-way (Node t line turn (Arrow a n)) u w v2 h e g2 = absurd (no e.0)
  converted-way (Node t line turn (Increment o a)) u w v2 h e g2 = as_it_is t u w v2 e.1 g2
  converted-way (Node t line turn (Address a)) u w v2 h e g2 = as_it_is t u w v2 e.1 g2
  converted-way (Node t line turn (Indirection a)) u w v2 h e g2 = as_it_is t u w v2 e.1 (subst (λ q. Value b w q v2) (if-false (not (is_void t)) (PointerTo t) t e.0) g2)
  converted-way (Node t line turn (Unary o a)) u w v2 h e g2 = as_it_is t u w v2 e.1 g2
  converted-way (Node t line turn (Not a)) u w v2 h e g2 = as_it_is t u w v2 e.1 g2
  converted-way (Node t line turn (Sizeof n)) u w v2 h e g2 = as_it_is t u w v2 e.1 g2
  converted-way (Node t line turn (Cast a)) u w v2 h e g2 = as_it_is t u w v2 e.1 g2
  converted-way (Node t line turn (Arithmetic o a d)) u w v2 h e g2 = as_it_is t u w v2 e.1 g2
  converted-way (Node t line turn (PointerSum g a d)) u w v2 h e g2 = as_it_is t u w v2 e.1 g2
  converted-way (Node t line turn (PointerDifference a d)) u w v2 h e g2 = as_it_is t u w v2 e.1 g2
  converted-way (Node t line turn (PointerOrder o a d)) u w v2 h e g2 = as_it_is t u w v2 e.1 g2
  converted-way (Node t line turn (PointerEquality o a d)) u w v2 h e g2 = as_it_is t u w v2 e.1 g2
  converted-way (Node t line turn (LogicalAnd a d)) u w v2 h e g2 = as_it_is t u w v2 e.1 g2
  converted-way (Node t line turn (LogicalOr a d)) u w v2 h e g2 = as_it_is t u w v2 e.1 g2
  converted-way (Node t line turn (Conditional a d c)) u w v2 h e g2 = as_it_is t u w v2 e.1 g2
  converted-way (Node t line turn (Assign a d)) u w v2 h e g2 = as_it_is t u w v2 e.1 g2
  converted-way (Node t line turn (CompoundAssign o q a d)) u w v2 h e g2 = as_it_is t u w v2 e.1 g2
  converted-way (Node t line turn (PointerAssign g a d)) u w v2 h e g2 = as_it_is t u w v2 e.1 g2
  converted-way (Node t line turn (Comma a d)) u w v2 h e g2 = as_it_is t u w v2 e.1 g2
  converted-way (Node t line turn (Read a)) u w v2 h e g2 = as_it_is t u w v2 e.1 g2
  converted-way (Node t line turn (ArrayPointer a)) u w v2 h e g2 = as_it_is t u w v2 e.1 g2

  -- 6.3.2.1p1: the value of an lvalue is its place
  place-value : (a : TypedTree) → IsPlace a → (w : World) (v : Worth) → Value b w (given_type a) v → Value b w (PointerTo (type_of a)) v
  place-value a e w v h = subst (λ t. Value b w t v) (place-given a e) h

  -- 6.5p1: a value that is taken as it is
  own-value : (a : TypedTree) (t : Ty) → HasValue a t → (w : World) (v : Worth) → Value b w (given_type a) v → Value b w t v
  own-value a t e w v h = subst (λ u. Value b w u v) e.1 h

  scalar-given : (a : TypedTree) → HasValue a (type_of a) → IsScalarType (type_of a) → IsScalarType (given_type a)
  scalar-given a e h = subst IsScalarType (sym e.1) h

  followed-by : (c : Bool) (s : Ty) → is_void s ≡ c → FollowsTo (is_void (if c then VoidTy else s)) (if not (is_void (if c then VoidTy else s)) then PointerTo (if c then VoidTy else s) else (if c then VoidTy else s))
  followed-by true s e = refl
  followed-by false s e = subst (λ c. FollowsTo c (if not (is_void s) then PointerTo s else s)) (sym e) (s, if-true (not (is_void s)) (PointerTo s) s (ap not e))

  followed : (s t : Ty) → t ≡ pointee_type s → FollowsTo (is_void t) (given_by t (Indirection (Node t 0 true (Constant (pos 0)))))
  followed s t e = subst (λ t. FollowsTo (is_void t) (if not (is_void t) then PointerTo t else t)) (sym e) (followed-by (is_void s) s refl)

  -- 6.5.16.2p3, 6.5.2.4p2: the operator, and back to the kind of the lvalue
  combining-way : (w : World) (line : ℕ) (o : BinOp) (k back : IntKind) (v x : Worth) → Promised b os w (op.Calculates o k v x) (IntTy (yielded_kind o k)) → Holds order (Is (IntTy back)) w (combining b line o k back v x) (parts.combining b line o k back v x)
  combining-way w line o k back v x p =
      seq order (Is (IntTy (yielded_kind o k))) (Is (IntTy back)) w (act b line (op.Calculates o k v x)) (act_plainly b line (op.Calculates o k v x)) _ _ (acts line (op.Calculates o k v x) (IntTy (yielded_kind o k)) w p) (λ v z f q.
      acts line (op.Converts (Rounds back) v) (IntTy back) z (IntTy (yielded_kind o k), q, inr (back, refl, refl, tt)))

  step-right : (c : Bool) (k : IntKind) → MayBeRight (if c then bin.Sub else bin.Add) k k
  step-right true k = refl
  step-right false k = refl

  stepping-way : (w : World) (line : ℕ) (t : Ty) (o : IncrementOperator) (v : Worth) → MayStep (layouts b.unit) t → Value b w t v → Holds order (Is t) w (stepping b line t o v) (parts.stepping b line t o v)
  stepping-way w line (IntTy k) o v m h =
      combining-way w line (if is_down o then bin.Sub else bin.Add) (promotion_of k) k v (int (pos 1))
      (k, promotion_of k, promoted_is k, promoted_widens k, step-right (is_down o) (promotion_of k), h, (one_fits k, tt), refl)
  stepping-way w line (PointerTo s) o v m h =
      acts line (op.Moves (is_down o) true (element_size b (PointerTo s)) v (int (pos 1))) (PointerTo s) w (PointerTo s, IntTy Int, s, h, (one_fits Int, tt), m.small, refl, ((s, refl), tt))
  stepping-way w line VoidTy o v m h = absurd m
  stepping-way w line (ArrayOf t n) o v m h = absurd m
  stepping-way w line (StructTag n) o v m h = absurd m
  stepping-way w line (UnionTag n) o v m h = absurd m
  stepping-way w line (FunctionTy t ts c) o v m h = absurd m
  stepping-way w line (ConstOf t) o v m h = absurd m

  -- 6.5.2.1p2, 6.5.6p8: the size of an element
  element-small : (t u r : Ty) → IsSum (layouts b.unit) t u (PointerTo r) → element_size b (if is_pointer t then t else u) ≤ 2 ^ 32
  element-small t u r (inl (e, s, i)) = subst (λ t. element_size b (if is_pointer t then t else u) ≤ 2 ^ 32) (sym e) s.small
  element-small (IntTy k) u r (inr (e, s, i)) = subst (λ u. element_size b u ≤ 2 ^ 32) (sym e) s.small
  element-small VoidTy u r (inr (e, s, i)) = absurd i
  element-small (PointerTo t) u r (inr (e, s, i)) = absurd i
  element-small (ArrayOf t n) u r (inr (e, s, i)) = absurd i
  element-small (StructTag n) u r (inr (e, s, i)) = absurd i
  element-small (UnionTag n) u r (inr (e, s, i)) = absurd i
  element-small (FunctionTy t ts c) u r (inr (e, s, i)) = absurd i
  element-small (ConstOf t) u r (inr (e, s, i)) = absurd i

  element-pointer : (t : Ty) → IsElementPointer (layouts b.unit) t → (element_size b t ≤ 2 ^ 32) × ((p : Ty) × (t ≡ PointerTo p))
  element-pointer (PointerTo p) s = (s.small, (p, refl))
  element-pointer (IntTy k) s = absurd s
  element-pointer VoidTy s = absurd s
  element-pointer (ArrayOf t n) s = absurd s
  element-pointer (StructTag n) s = absurd s
  element-pointer (UnionTag n) s = absurd s
  element-pointer (FunctionTy t ts c) s = absurd s
  element-pointer (ConstOf t) s = absurd s

  -- 6.5.6p2, 6.5.2.1p1: one of the two is a pointer, and the other an integer
  pointer-first : (t u r : Ty) → t ≡ r → IsElementPointer (layouts b.unit) r → IsIntegerType u → Shifts (is_pointer t) t u
  pointer-first t u (PointerTo p) e s i = subst (λ t. Shifts (is_pointer t) t u) (sym e) ((p, refl), i)
  pointer-first t u (IntTy k) e s i = absurd s
  pointer-first t u VoidTy e s i = absurd s
  pointer-first t u (ArrayOf r n) e s i = absurd s
  pointer-first t u (StructTag n) e s i = absurd s
  pointer-first t u (UnionTag n) e s i = absurd s
  pointer-first t u (FunctionTy r ts c) e s i = absurd s
  pointer-first t u (ConstOf r) e s i = absurd s

  pointer-second : (t u r : Ty) → u ≡ r → IsElementPointer (layouts b.unit) r → IsIntegerType t → Shifts (is_pointer t) t u
  pointer-second (IntTy k) u r e s i = let p = (element-pointer r s).1 in (tt, (p.0, e ∙ p.1))
  pointer-second VoidTy u r e s i = absurd i
  pointer-second (PointerTo t) u r e s i = absurd i
  pointer-second (ArrayOf t n) u r e s i = absurd i
  pointer-second (StructTag n) u r e s i = absurd i
  pointer-second (UnionTag n) u r e s i = absurd i
  pointer-second (FunctionTy t ts c) u r e s i = absurd i
  pointer-second (ConstOf t) u r e s i = absurd i

  sum-shifts : (t u r : Ty) → IsSum (layouts b.unit) t u r → Shifts (is_pointer t) t u
  sum-shifts t u r (inl (e, s, i)) = pointer-first t u r e s i
  sum-shifts t u r (inr (e, s, i)) = pointer-second t u r e s i

  sum-pointer : (t u r : Ty) → IsSum (layouts b.unit) t u r → (element_size b r ≤ 2 ^ 32) × ((p : Ty) × (r ≡ PointerTo p))
  sum-pointer t u r (inl (e, s, i)) = element-pointer r s
  sum-pointer t u r (inr (e, s, i)) = element-pointer r s

  step-valued : (t : Ty) → MayStep (layouts b.unit) t → IsValueType t
  step-valued (IntTy k) m = tt
  step-valued (PointerTo s) m = tt
  step-valued VoidTy m = absurd m
  step-valued (ArrayOf t n) m = absurd m
  step-valued (StructTag n) m = absurd m
  step-valued (UnionTag n) m = absurd m
  step-valued (FunctionTy t ts c) m = absurd m
  step-valued (ConstOf t) m = absurd m

  either-value : (c : Bool) (w : World) (t : Ty) (v x : Worth) → Value b w t v → Value b w t x → Value b w t (if c then v else x)
  either-value true w t v x h g = h
  either-value false w t v x h g = g

  int-type : (t : Ty) (j : IntKind) → t ≡ IntTy j → IntTy (kind_of t) ≡ t
  int-type t j e = subst (λ t. IntTy (kind_of t) ≡ t) (sym e) refl

  module _ (call call' : Calling)
      (calls : (line f : ℕ) (t : Ty) (ts : Tys) (vs : List Worth) (w : World) → IsFunction b.unit f t ts → AreValues b w ts vs → Holds order (Is t) w (call f vs line) (call' f vs line)) where
    -- 6.5.2.2p7: an argument is converted, and there
    handed-way : (x : TypedTree) (t : Ty) (w : World) (v : Worth) → IsTyped b.unit os x → HasType x t → Value b w (given_type x) v → Holds order (λ v w. Value b w t v × IsThere v) w (accepted_value b x v) (parts.accepted_value b x v)
    handed-way x t w v h e g =
        seq order (Is t) (λ v w. Value b w t v × IsThere v) w (with_conversion b x v) (parts.with_conversion b x v) _ _ (converted-way x t w v h e g) (λ v z f q. acting.accepts-way b os (line_of x) t v z q)

    -- 6.3.2.1p1: the place of an lvalue, which is there
    abbrev Placed : TypedTree → Given → World → Type 0
    Placed a g z = Value b z (PointerTo (type_of a)) g.value × IsThere g.value

    placed-after : (a : TypedTree) → IsPlace a → (w : World) (r : Res Given) → GivesThere r → After order (Gave order (given_type a)) w r → After order (Placed a) w r
    placed-after a e w (Gives g s) there h = (h.0, h.1, (place-value a e s.world g.value h.2, there))
    placed-after a e w (Stops y s) there h = tt

    placed : (a : TypedTree) → IsPlace a → (fs : List Access) (w : World) → Typed (given_type a) w (ev b call a fs) (plain.ev b call' a fs) → Holds order (Placed a) w (ev b call a fs) (plain.ev b call' a fs)
    placed a e fs w h s g sound = let p = h s g sound in (p.0, placed-after a e s.world (ev b call a fs s) (place-there b call a e fs s) p.1)

    pub place-way : (w : World) (a : TypedTree) (t : Ty) (j : Open) (go go' : Open → Worth → State → Res Given) → IsPlace a → ((fs : List Access) → Typed (given_type a) w (ev b call a fs) (plain.ev b call' a fs))
        → ((j : Open) (p : Worth) (z : World) → To w z → Value b z (PointerTo (type_of a)) p × IsThere p → Typed t z (go j p) (go' j p)) → Typed t w (λ s. operand (ev b call a) j s go) (λ s. operand (plain.ev b call' a) j s go')
    place-way w a t j go go' e h g =
        seq order (Placed a) (Gave order t) w (ev b call a (beside j)) (plain.ev b call' a (beside j)) (λ x s. go (with_given j x) x.value s) (λ x s. go' (with_given j x) x.value s) (placed a e (beside j) w (h (beside j))) (λ x z f q.
        g (with_given j x) x.value z f q)

    -- one argument more
    each-append : {A : Type 0} (P : A → Type 0) (xs : List A) (x : A) → Each P xs → P x → Each P (xs ++ x ∷ [])
    each-append P [] x h g = (g, tt)
    each-append P (y ∷ xs) x h g = (h.0, each-append P xs x h.1 g)

    scalar-address : (v : Worth) → IsScalar scalar.Pointer v → HasAddress (value_of v)
    scalar-address (Scalar (PointerValue p)) h = h
    scalar-address (Scalar (IntValue n)) h = absurd h
    scalar-address (Scalar Unset) h = absurd h
    scalar-address Missing h = tt
    scalar-address Nothing h = absurd h
    scalar-address (Whole bs a) h = absurd h

    number-address : (k : IntKind) (v : Worth) → IsScalar (scalar.Int k) v → HasAddress (value_of v)
    number-address k (Scalar (PointerValue p)) h = absurd h
    number-address k (Scalar (IntValue n)) h = tt
    number-address k (Scalar Unset) h = tt
    number-address k Missing h = tt
    number-address k Nothing h = absurd h
    number-address k (Whole bs a) h = absurd h

    whole-address : (n : ℕ) (v : Worth) → IsWhole n v → HasAddress (value_of v)
    whole-address n (Scalar v) h = absurd h
    whole-address n Missing h = tt
    whole-address n Nothing h = absurd h
    whole-address n (Whole bs a) h = tt

    nothing-address : (v : Worth) → IsNothing v → HasAddress (value_of v)
    nothing-address Nothing h = tt
    nothing-address Missing h = absurd h
    nothing-address (Scalar v) h = absurd h
    nothing-address (Whole bs a) h = absurd h

    type-address : (t : Ty) (v : Worth) → IsOfType (layouts b.unit) t v → HasAddress (value_of v)
    type-address (PointerTo s) v h = scalar-address v h
    type-address (IntTy k) v h = number-address k v h
    type-address (StructTag n) v h = whole-address _ v h
    type-address (UnionTag n) v h = whole-address _ v h
    type-address VoidTy v h = nothing-address v h
    type-address (ConstOf s) v h = type-address s v h
    type-address (ArrayOf s n) v h = absurd h
    type-address (FunctionTy s ts c) v h = absurd h

    more-fair : (w z y : World) (got : List Arg) (x : TypedTree) (t : Ty) (v : Worth) → To w z → To z y → Each (λ (a : Arg). IsArgument w.memory.table a.value) got → Value b y t v → Each (λ (a : Arg). IsArgument y.memory.table a.value) (got ++ argument x v ∷ [])
    more-fair w z y got x t v g i h f =
        each-append (λ (a : Arg). IsArgument y.memory.table a.value) got (argument x v) (values-later w.memory.table y.memory.table (order.on g i).made got h) (value-fair y.memory.table v f.1, type-address t v f.0)

    mutual
      unfolding ev_by

      pub ev-typed : (x : TypedTree) → IsTyped b.unit os x → (fs : List Access) (w : World) → Typed (given_type x) w (ev b call x fs) (plain.ev b call' x fs)
      ev-typed (Node t line turn x) h fs w =
          ticks order (Gave order (given_by t x)) w (takes turn x) (ev_form b call t line x fs) (parts.ev_form b call' t line x fs) (form-typed t line x h fs w)

      form-typed : (t : Ty) (line : ℕ) (x : Form) → IsTypedForm b.unit os t x → (fs : List Access) (w : World) → Typed (given_by t x) w (ev_form b call t line x fs) (parts.ev_form b call' t line x fs)
      form-typed t line (Constant n) h fs w = done-holds order w t (open_against fs) (int n) (subst (λ t. Value b w t (int n)) (sym h.1) (h.2, tt))
      form-typed t line (Sizeof n) h fs w = done-holds order w t (open_against fs) (int (pos n)) (subst (λ t. Value b w t (int (pos n))) (sym h.1) (h.2, tt))
      form-typed t line (Object o) h fs w = work-way w line (op.NamesObject o) (PointerTo t) (open_against fs) (t, refl, h)
      form-typed t line (String l) h fs w = work-way w line (op.NamesLiteral l) (PointerTo t) (open_against fs) (t, refl, h)
      form-typed t line (Function f) h fs w = work-way w line (op.NamesFunction f) (PointerTo t) (open_against fs) (t, refl, h)
      form-typed t line (Read a) h fs w =
          place-way w a t (open_against fs) _ _ h.1 (λ fs. ev-typed a h.0 fs w) (λ j p z f q.
          reading-way z (lvalue b (type_of a)) line p j t t node_value node_value (type_of a, refl, h.3, subst IsValueType h.2 h.4, h.2, q.0, q.1) (λ j v y g r. done-holds order y t j v r))
      form-typed t line (Address a) h fs w =
          operand-way w (given_type a) t (open_against fs) (ev b call a) (plain.ev b call' a) node_value node_value (λ fs. ev-typed a h.0 fs w) (λ j v z f q.
          done-holds order z t j v (subst (λ u. Value b z u v) (sym h.2) (place-value a h.1 z v q)))
      form-typed t line (Convert a) h fs w =
          operand-way w (given_type a) (type_of a) (open_against fs) (ev b call a) (plain.ev b call' a) node_value node_value (λ fs. ev-typed a h.0 fs w) (λ j v z f q.
          done-holds order z (type_of a) j v (own-value a (type_of a) h.1 z v q))
      form-typed t line (Not a) h fs w =
          operand-way w (given_type a) t (open_against fs) (ev b call a) (plain.ev b call' a) _ _ (λ fs. ev-typed a h.0 fs w) (λ j v z f q.
          work-way z line (op.Negates v) t j (given_type a, q, h.3, scalar-given a h.1 h.2))
      form-typed t line (Unary o a) h fs w =
          operand-way w (given_type a) t (open_against fs) (ev b call a) (plain.ev b call' a) _ _ (λ fs. ev-typed a h.1 fs w) (λ j v z f q.
          seq order (Is (IntTy h.0)) (Gave order t) z (with_conversion b a v) (parts.with_conversion b a v) _ _ (converted-way a (IntTy h.0) z v h.1 h.2 q) (λ v y g r.
          work-way y line (op.CalculatesOne o (kind_of t) v) t j (subst (λ u. Promised b os y (op.CalculatesOne o (kind_of u) v) u) (sym h.4) (h.3, r, refl))))
      form-typed t line (Cast a) h fs w =
          operand-way w (given_type a) t (open_against fs) (ev b call a) (plain.ev b call' a) _ _ (λ fs. ev-typed a h.0 fs w) (λ j v z f q.
          work-way z line (op.Converts (how_to b false (type_of a) t) v) t j (type_of a, own-value a (type_of a) h.1 z v q, inl (false, refl, h.2)))
      form-typed t line (Arithmetic o a d) h fs w =
          operand-way w (given_type a) t (open_against fs) (ev b call a) (plain.ev b call' a) _ _ (λ fs. ev-typed a h.2 fs w) (λ j v z f q.
          operand-way z (given_type d) t j (ev b call d) (plain.ev b call' d) _ _ (λ fs. ev-typed d h.4 fs z) (λ j x y g r.
          seq order (Is (IntTy h.0)) (Gave order t) y (with_conversion b a v) (parts.with_conversion b a v) _ _ (converted-way a (IntTy h.0) y v h.2 h.3 (order.keeps (given_type a) v g q)) (λ v k i p.
          seq order (Is (IntTy h.1)) (Gave order t) k (with_conversion b d x) (parts.with_conversion b d x) _ _ (converted-way d (IntTy h.1) k x h.4 h.5 (order.keeps (given_type d) x i r)) (λ x m n s.
          work-way m line (op.Calculates o (kind_of (type_of a)) v x) t j
          (subst (λ u. Promised b os m (op.Calculates o (kind_of u) v x) t) (sym h.3.1) (h.0, h.1, h.6, λ n g. g, h.7, order.keeps (IntTy h.0) v n p, s, h.8))))))
      form-typed t line (Comma a d) h fs w =
          operand-way w (given_type a) t (open_against fs) (ev b call a) (plain.ev b call' a) _ _ (λ fs. ev-typed a h.0 fs w) (λ j v z f q.
          later-way z (given_type d) t (sequence_point j) (ev b call d) (plain.ev b call' d) node_value node_value (λ fs. ev-typed d h.2 fs z) (λ j x y g r.
          done-holds order y t j x (own-value d t h.3 y x r)))
      form-typed t line (Assign a d) h fs w =
          place-way w a t (open_against fs) _ _ h.1 (λ fs. ev-typed a h.0 fs w) (λ j p z f q.
          operand-way z (given_type d) t j (ev b call d) (plain.ev b call' d) _ _ (λ fs. ev-typed d h.2 fs z) (λ j v y g r.
          seq order (Is t) (Gave order t) y (with_conversion b d v) (parts.with_conversion b d v) _ _ (converted-way d t y v h.2 h.3 r) (λ v k i s.
          writing-way k (lvalue b (type_of a)) line p v (source_of d v) j t t node_value node_value
          (type_of a, refl, h.5, subst IsValueType h.4 h.6, h.4, order.keeps (PointerTo (type_of a)) p (order.on g i) q.0, s, q.1) (λ j v y g r. done-holds order y t j v r))))
      form-typed t line (Call f xs) h fs w = call-typed t line f h.0 [] xs h.2 (open_against fs) w (λ z g rest k. calls line f t h.0 rest z h.1 k)
      form-typed t line (CallPointer a xs) h fs w =
          let ft = FunctionTy h.0 h.1 h.2 in
          operand-way w (given_type a) t (open_against fs) (ev b call a) (plain.ev b call' a) _ _ (λ fs. ev-typed a h.3 fs w) (λ j p z f q.
          subst (λ x. Typed t z (ev_through b call line (pointed_to x) p [] xs j) (parts.ev_through b call' line (pointed_to x) p [] xs j)) (sym h.4.0.1)
          (through-typed t line ft p h.1 h.2 [] xs h.6 j z (own-value a (PointerTo ft) h.4 z p q) (λ y g rest k f r.
          let one = called-function b h.0 h.1 h.2 (function_in f) r.0 r.1 h.7 in
          weaker order (Is h.0) (Is t) (λ v x m. ((h.5 (layouts b.unit) v).0 m.0, m.1)) y (call (function_in f) rest line) (call' (function_in f) rest line)
          (calls line (function_in f) h.0 h.1 rest y one.0 (k one.1)))))
      form-typed t line (LibraryCall f xs) h fs w =
          let c = calls-by f h.0 h.1 h.4 in
          ask-typed t line f h.0 c.parameters h.1 [] xs h.2 h.3 c.like c.plain (open_against fs) w tt (λ rest e. c.taken rest e)
      form-typed t line (ArrayPointer a) h fs w =
          operand-way w (given_type a) t (open_against fs) (ev b call a) (plain.ev b call' a) node_value node_value (λ fs. ev-typed a h.0 fs w) (λ j v z f q.
          done-holds order z t j v (subst (λ u. Value b z u v) (sym h.2.1) (place-value a h.1 z v q)))
      form-typed t line (Member a n) h fs w =
          operand-way w (given_type a) (PointerTo t) (open_against fs) (ev b call a) (plain.ev b call' a) _ _ (λ fs. ev-typed a h.0 fs w) (λ j v z f q.
          work-way z line (op.Selects n v) (PointerTo t) j (type_of a, t, place-value a h.1 z v q, refl))
      form-typed t line (Arrow a n) h fs w =
          operand-way w (given_type a) (PointerTo t) (open_against fs) (ev b call a) (plain.ev b call' a) _ _ (λ fs. ev-typed a h.1 fs w) (λ j v z f q.
          work-way z line (op.Selects n v) (PointerTo t) j (h.0, t, own-value a (PointerTo h.0) h.2 z v q, refl))
      form-typed t line (MemberOfValue a n) h fs w =
          operand-way w (given_type a) t (open_against fs) (ev b call a) (plain.ev b call' a) _ _ (λ fs. ev-typed a h.0 fs w) (λ j v z f q.
          work-way z line (op.TakesPart n (lvalue b t) v) t j (type_of a, own-value a (type_of a) h.1 z v q, h.4, h.2, h.3, refl, h.5))
      form-typed t line (Indirection a) h fs w =
          operand-way w (given_type a) (given_by t (Indirection a)) (open_against fs) (ev b call a) (plain.ev b call' a) _ _ (λ fs. ev-typed a h.1 fs w) (λ j v z f q.
          work-way z line (op.Follows (is_void t) v) (given_by t (Indirection a)) j (h.0, own-value a (PointerTo h.0) h.2 z v q, followed h.0 t h.3))
      form-typed t line (Subscript a d) h fs w =
          operand-way w (given_type a) (PointerTo t) (open_against fs) (ev b call a) (plain.ev b call' a) _ _ (λ fs. ev-typed a h.0 fs w) (λ j v z f q.
          operand-way z (given_type d) (PointerTo t) j (ev b call d) (plain.ev b call' d) _ _ (λ fs. ev-typed d h.2 fs z) (λ j x y g r.
          work-way y line (op.Moves false (is_pointer (type_of a)) (element_size b (if is_pointer (type_of a) then type_of a else type_of d)) v x) (PointerTo t) j
          (type_of a, type_of d, t, order.keeps (type_of a) v g (own-value a (type_of a) h.1 z v q), own-value d (type_of d) h.3 y x r, element-small (type_of a) (type_of d) t h.4, refl, sum-shifts (type_of a) (type_of d) (PointerTo t) h.4)))
      form-typed t line (PointerSum o a d) h fs w =
          operand-way w (given_type a) t (open_against fs) (ev b call a) (plain.ev b call' a) _ _ (λ fs. ev-typed a h.0 fs w) (λ j v z f q.
          operand-way z (given_type d) t j (ev b call d) (plain.ev b call' d) _ _ (λ fs. ev-typed d h.2 fs z) (λ j x y g r.
          let e = sum-pointer (type_of a) (type_of d) t h.4 in
          work-way y line (op.Moves (is_minus o) (is_pointer (type_of a)) (element_size b t) v x) t j
          (type_of a, type_of d, e.1.0, order.keeps (type_of a) v g (own-value a (type_of a) h.1 z v q), own-value d (type_of d) h.3 y x r, e.0, e.1.1, sum-shifts (type_of a) (type_of d) t h.4)))
      form-typed t line (PointerDifference a d) h fs w =
          operand-way w (given_type a) t (open_against fs) (ev b call a) (plain.ev b call' a) _ _ (λ fs. ev-typed a h.2 fs w) (λ j v z f q.
          operand-way z (given_type d) t j (ev b call d) (plain.ev b call' d) _ _ (λ fs. ev-typed d h.4 fs z) (λ j x y g r.
          work-way y line (op.Subtracts (element_size b (type_of a)) v x) t j (
            h.0,
            h.1,
            order.keeps (PointerTo h.0) v g (own-value a (PointerTo h.0) h.3 z v q),
            own-value d (PointerTo h.1) h.5 y x r,
            subst (λ u. 1 ≤ element_size b u) (sym h.3.0.1) h.6.some,
            subst (λ u. element_size b u ≤ 2 ^ 32) (sym h.3.0.1) h.6.small,
            h.7,
          )))
      form-typed t line (PointerOrder o a d) h fs w =
          operand-way w (given_type a) t (open_against fs) (ev b call a) (plain.ev b call' a) _ _ (λ fs. ev-typed a h.2 fs w) (λ j v z f q.
          operand-way z (given_type d) t j (ev b call d) (plain.ev b call' d) _ _ (λ fs. ev-typed d h.4 fs z) (λ j x y g r.
          work-way y line (op.Orders o v x) t j
          (h.0, h.1, order.keeps (PointerTo h.0) v g (own-value a (PointerTo h.0) h.3 z v q), own-value d (PointerTo h.1) h.5 y x r, h.6, h.7)))
      form-typed t line (PointerEquality o a d) h fs w =
          operand-way w (given_type a) t (open_against fs) (ev b call a) (plain.ev b call' a) _ _ (λ fs. ev-typed a h.2 fs w) (λ j v z f q.
          operand-way z (given_type d) t j (ev b call d) (plain.ev b call' d) _ _ (λ fs. ev-typed d h.4 fs z) (λ j x y g r.
          seq order (Is (PointerTo h.0)) (Gave order t) y (with_conversion b a v) (parts.with_conversion b a v) _ _ (converted-way a (PointerTo h.0) y v h.2 h.3 (order.keeps (given_type a) v g q)) (λ v k i p.
          seq order (Is (PointerTo h.1)) (Gave order t) k (with_conversion b d x) (parts.with_conversion b d x) _ _ (converted-way d (PointerTo h.1) k x h.4 h.5 (order.keeps (given_type d) x i r)) (λ x m n s.
          work-way m line (op.Equals (is_unequal o) v x) t j (h.0, h.1, order.keeps (PointerTo h.0) v n p, s, h.6)))))
      form-typed t line (LogicalAnd a d) h fs w =
          operand-way w (given_type a) t (open_against fs) (ev b call a) (plain.ev b call' a) _ _ (λ fs. ev-typed a h.0 fs w) (λ j v z f q.
          doing-way z line (op.Tests v) t t _ _ (given_type a, q, h.6, scalar-given a h.1 h.4) (λ v y g r.
          choice order (Gave order t) y (is_true v) _ _ _ _
          (later-way y (given_type d) t (sequence_point j) (ev b call d) (plain.ev b call' d) _ _ (λ fs. ev-typed d h.2 fs y) (λ j x k i p. work-way k line (op.Tests x) t j (given_type d, p, h.6, scalar-given d h.3 h.5)))
          (done-holds order y t (sequence_point j) v r)))
      form-typed t line (LogicalOr a d) h fs w =
          operand-way w (given_type a) t (open_against fs) (ev b call a) (plain.ev b call' a) _ _ (λ fs. ev-typed a h.0 fs w) (λ j v z f q.
          doing-way z line (op.Tests v) t t _ _ (given_type a, q, h.6, scalar-given a h.1 h.4) (λ v y g r.
          choice order (Gave order t) y (is_true v) _ _ _ _
          (done-holds order y t (sequence_point j) v r)
          (later-way y (given_type d) t (sequence_point j) (ev b call d) (plain.ev b call' d) _ _ (λ fs. ev-typed d h.2 fs y) (λ j x k i p. work-way k line (op.Tests x) t j (given_type d, p, h.6, scalar-given d h.3 h.5)))))
      form-typed t line (Conditional a d c) h fs w =
          operand-way w (given_type a) t (open_against fs) (ev b call a) (plain.ev b call' a) _ _ (λ fs. ev-typed a h.0 fs w) (λ j v z f q.
          doing-way z line (op.Tests v) (IntTy Int) t _ _ (given_type a, q, refl, scalar-given a h.1 h.2) (λ v y g r.
          choice order (Gave order t) y (is_true v) _ _ _ _
          (later-way y (given_type d) t (sequence_point j) (ev b call d) (plain.ev b call' d) _ _ (λ fs. ev-typed d h.3 fs y) (λ j x k i p.
          seq order (Is t) (Gave order t) k (with_conversion b d x) (parts.with_conversion b d x) (node_value j) (node_value j) (converted-way d t k x h.3 h.4 p) (λ x m n s. done-holds order m t j x s)))
          (later-way y (given_type c) t (sequence_point j) (ev b call c) (plain.ev b call' c) _ _ (λ fs. ev-typed c h.5 fs y) (λ j x k i p.
          seq order (Is t) (Gave order t) k (with_conversion b c x) (parts.with_conversion b c x) (node_value j) (node_value j) (converted-way c t k x h.5 h.6 p) (λ x m n s. done-holds order m t j x s)))))
      form-typed t line (CompoundAssign o k a d) h fs w =
          let valued : IsValueType t = subst IsValueType (sym h.6) tt in
          place-way w a t (open_against fs) _ _ h.3 (λ fs. ev-typed a h.2 fs w) (λ j p z f q.
          reading-way z (lvalue b (type_of a)) line p j t t _ _ (type_of a, refl, h.10, subst IsValueType h.7 valued, h.7, q.0, q.1) (λ j v y g r.
          operand-way y (given_type d) t j (ev b call d) (plain.ev b call' d) _ _ (λ fs. ev-typed d h.4 fs y) (λ j x c i s.
          seq order (Is (IntTy k)) (Gave order t) c (act b line (op.Converts (Rounds k) v)) (act_plainly b line (op.Converts (Rounds k) v)) _ _ (acts line (op.Converts (Rounds k) v) (IntTy k) c (t, order.keeps t v i r, inr (k, refl, refl, subst IsIntegerType (sym h.6) tt))) (λ v m n s2.
          seq order (Is (IntTy h.1)) (Gave order t) m (with_conversion b d x) (parts.with_conversion b d x) _ _ (converted-way d (IntTy h.1) m x h.4 h.5 (order.keeps (given_type d) x n s)) (λ x m2 n2 s3.
          seq order (Is (IntTy (kind_of t))) (Gave order t) m2 (combining b line o k (kind_of t) v x) (parts.combining b line o k (kind_of t) v x) _ _ (combining-way m2 line o k (kind_of t) v x (k, h.1, h.8, λ n g. g, h.9, order.keeps (IntTy k) v n2 s2, s3, refl)) (λ v m3 n3 s4.
          writing-way m3 (lvalue b (type_of a)) line p v None j t t node_value node_value
          (type_of a, refl, h.10, subst IsValueType h.7 valued, h.7, order.keeps (PointerTo (type_of a)) p (order.on g (order.on i (order.on n (order.on n2 n3)))) q.0, subst (λ u. Value b m3 u v) (int-type t h.0 h.6) s4, q.1) (λ j v y g r. done-holds order y t j v r)))))))
      form-typed t line (PointerAssign o a d) h fs w =
          let valued : IsValueType t = subst IsValueType (sym h.6) tt in
          place-way w a t (open_against fs) _ _ h.2 (λ fs. ev-typed a h.1 fs w) (λ j p z f q.
          reading-way z (lvalue b (type_of a)) line p j t t _ _ (type_of a, refl, h.9, subst IsValueType h.7 valued, h.7, q.0, q.1) (λ j v y g r.
          operand-way y (given_type d) t j (ev b call d) (plain.ev b call' d) _ _ (λ fs. ev-typed d h.3 fs y) (λ j x c i s.
          doing-way c line (op.Moves (is_minus o) true (element_size b t) v x) t t _ _
          (t, type_of d, h.0, order.keeps t v i r, own-value d (type_of d) h.4 c x s, subst (λ u. element_size b u ≤ 2 ^ 32) (sym h.6) h.8.small, h.6, ((h.0, h.6), h.5)) (λ v m n s2.
          writing-way m (lvalue b (type_of a)) line p v None j t t node_value node_value
          (type_of a, refl, h.9, subst IsValueType h.7 valued, h.7, order.keeps (PointerTo (type_of a)) p (order.on g (order.on i n)) q.0, s2, q.1) (λ j v y g r. done-holds order y t j v r)))))
      form-typed t line (Increment o a) h fs w =
          place-way w a t (open_against fs) _ _ h.1 (λ fs. ev-typed a h.0 fs w) (λ j p z f q.
          reading-way z (lvalue b (type_of a)) line p j t t _ _ (type_of a, refl, h.4, subst IsValueType h.2 (step-valued t h.3), h.2, q.0, q.1) (λ j v y g r.
          seq order (Is t) (Gave order t) y (stepping b line t o v) (parts.stepping b line t o v) _ _ (stepping-way y line t o v h.3 r) (λ x m n s.
          writing-way m (lvalue b (type_of a)) line p x None j t t _ _
          (type_of a, refl, h.4, subst IsValueType h.2 (step-valued t h.3), h.2, order.keeps (PointerTo (type_of a)) p (order.on g n) q.0, s, q.1) (λ j x c i k.
          done-holds order c t j (if is_after o then v else x) (either-value (is_after o) c t v x (order.keeps t v (order.on n i) r) k)))))

      -- 6.5.2.2p10: the arguments that are left, and the call
      call-typed : (t : Ty) (line f : ℕ) (us : Tys) (got : List Worth) (xs : Arguments) → ArePassed b.unit os us false xs → (j : Open) (w : World) → ((z : World) → To w z → (rest : List Worth) → AreValues b z us rest → Holds order (Is t) z (call f (got ++ rest) line) (call' f (got ++ rest) line)) → Typed t w (ev_call b call line f got xs j) (parts.ev_call b call' line f got xs j)
      call-typed t line f NoTys got NoArguments h j w k =
          seq order (Is t) (Gave order t) w (call f got line) (call' f got line) (node_value (sequence_point j)) (node_value (sequence_point j))
          (subst (λ vs. Holds order (Is t) w (call f vs line) (call' f vs line)) (append-nil got) (k w order.here [] tt)) (λ v z g q. done-holds order z t (sequence_point j) v q)
      call-typed t line f (MoreTys u us) got NoArguments h j w k = absurd h
      call-typed t line f NoTys got (MoreArguments x xs) h j w k = absurd h
      call-typed t line f (MoreTys u us) got (MoreArguments x xs) h j w k =
          operand-way w (given_type x) t j (ev b call x) (plain.ev b call' x) _ _ (λ fs. ev-typed x h.0 fs w) (λ j v z g q.
          seq order (λ v w. Value b w (bare_type u) v × IsThere v) (Gave order t) z (accepted_value b x v) (parts.accepted_value b x v) _ _ (handed-way x (bare_type u) z v h.0 h.1 q) (λ v y i p.
          call-typed t line f us (got ++ v ∷ []) xs h.3 j y (λ m n rest r.
          subst (λ vs. Holds order (Is t) m (call f vs line) (call' f vs line)) (sym (append_assoc got (v ∷ []) rest)) (k m (order.on g (order.on i n)) (v ∷ rest) (order.keeps (bare_type u) v n p.0, p.1, r)))))

      -- 6.5.2.2p1, p10: the same of a call by a value: behind the arguments its function is found
      through-typed : (t : Ty) (line : ℕ) (r : Ty) (p : Worth) (us : Tys) (variadic : Bool) (got : List Worth) (xs : Arguments) → ArePassed b.unit os us variadic xs → (j : Open) (w : World) → Value b w (PointerTo r) p
          → ((z : World) → To w z → (rest : List Worth) → (variadic ≡ false → AreValues b z us rest) → (f : Worth) → MayBeCalled b r f z → Holds order (Is t) z (call (function_in f) (got ++ rest) line) (call' (function_in f) (got ++ rest) line))
          → Typed t w (ev_through b call line r p got xs j) (parts.ev_through b call' line r p got xs j)
      through-typed t line r p NoTys variadic got NoArguments h j w v k =
          seq order (λ f z. MayBeCalled b r f z) (Gave order t) w (act b line (op.Finds r p)) (act_plainly b line (op.Finds r p)) _ _ (acting.finds-way b os line r r p w v) (λ f z g q.
          seq order (Is t) (Gave order t) z (call (function_in f) got line) (call' (function_in f) got line) (node_value (sequence_point j)) (node_value (sequence_point j))
          (subst (λ vs. Holds order (Is t) z (call (function_in f) vs line) (call' (function_in f) vs line)) (append-nil got) (k z g [] (λ e. tt) f q)) (λ x y i m. done-holds order y t (sequence_point j) x m))
      through-typed t line r p (MoreTys u us) variadic got NoArguments h j w v k = absurd h
      through-typed t line r p NoTys false got (MoreArguments x xs) h j w v k = absurd h
      through-typed t line r p NoTys true got (MoreArguments x xs) h j w v k =
          operand-way w (given_type x) t j (ev b call x) (plain.ev b call' x) _ _ (λ fs. ev-typed x h.0 fs w) (λ j y z g q.
          seq order (λ v w. Value b w (type_of x) v × IsThere v) (Gave order t) z (accepted_value b x y) (parts.accepted_value b x y) _ _ (handed-way x (type_of x) z y h.0 h.1 q) (λ y m i n.
          through-typed t line r p NoTys true (got ++ y ∷ []) xs h.3 j m (order.keeps (PointerTo r) p (order.on g i) v) (λ a c rest d f e.
          subst (λ vs. Holds order (Is t) a (call (function_in f) vs line) (call' (function_in f) vs line)) (sym (append_assoc got (y ∷ []) rest)) (k a (order.on g (order.on i c)) (y ∷ rest) (λ s. absurd cc) f e))))
      through-typed t line r p (MoreTys u us) variadic got (MoreArguments x xs) h j w v k =
          operand-way w (given_type x) t j (ev b call x) (plain.ev b call' x) _ _ (λ fs. ev-typed x h.0 fs w) (λ j y z g q.
          seq order (λ v w. Value b w (bare_type u) v × IsThere v) (Gave order t) z (accepted_value b x y) (parts.accepted_value b x y) _ _ (handed-way x (bare_type u) z y h.0 h.1 q) (λ y m i n.
          through-typed t line r p us variadic (got ++ y ∷ []) xs h.3 j m (order.keeps (PointerTo r) p (order.on g i) v) (λ a c rest d f e.
          subst (λ vs. Holds order (Is t) a (call (function_in f) vs line) (call' (function_in f) vs line)) (sym (append_assoc got (y ∷ []) rest)) (k a (order.on g (order.on i c)) (y ∷ rest) (λ s. (order.keeps (bare_type u) y c n.0, n.1, d s)) f e))))

      -- 7.1.4p1: the same of a function of the library
      ask-typed : (t : Ty) (line : ℕ) (f : Library) (us ps : Tys) (variadic : Bool) (got : List Arg) (xs : Arguments) → IsResultOf f t → ArePassed b.unit os us variadic xs → AreAllLike us ps → ArePlain ps → (j : Open) (w : World) → Each (λ (x : Arg). IsArgument w.memory.table x.value) got → Take f ps variadic got
          → Typed t w (ev_ask b call line f got xs j) (parts.ev_ask b call' line f got xs j)
      ask-typed t line f NoTys NoTys variadic got NoArguments r h l p j w k m = work-way w line (op.Asks f got) t (sequence_point j) (r, k, take-all f variadic got m)
      ask-typed t line f NoTys (MoreTys q qs) variadic got xs r h l p j w k m = absurd l
      ask-typed t line f (MoreTys u us) NoTys variadic got xs r h l p j w k m = absurd l
      ask-typed t line f (MoreTys u us) (MoreTys q qs) variadic got NoArguments r h l p j w k m = absurd h
      ask-typed t line f NoTys NoTys false got (MoreArguments x xs) r h l p j w k m = absurd h
      ask-typed t line f NoTys NoTys true got (MoreArguments x xs) r h l kinds j w k m =
          operand-way w (given_type x) t j (ev b call x) (plain.ev b call' x) _ _ (λ fs. ev-typed x h.0 fs w) (λ j v z g q.
          seq order (λ v w. Value b w (type_of x) v × IsThere v) (Gave order t) z (accepted_value b x v) (parts.accepted_value b x v) _ _ (handed-way x (type_of x) z v h.0 h.1 q) (λ v y i p.
          ask-typed t line f NoTys NoTys true (got ++ argument x v ∷ []) xs r h.3 l kinds j y (more-fair w z y got x (type_of x) v g i k p.0) (take-further f got (argument x v) m)))
      ask-typed t line f (MoreTys u us) (MoreTys e es) variadic got (MoreArguments x xs) r h l kinds j w k m =
          operand-way w (given_type x) t j (ev b call x) (plain.ev b call' x) _ _ (λ fs. ev-typed x h.0 fs w) (λ j v z g q.
          seq order (λ v w. Value b w (bare_type u) v × IsThere v) (Gave order t) z (accepted_value b x v) (parts.accepted_value b x v) _ _ (handed-way x (bare_type u) z v h.0 h.1 q) (λ v y i p.
          ask-typed t line f us es variadic (got ++ argument x v ∷ []) xs r h.3 l.1 kinds.1 j y (more-fair w z y got x (bare_type u) v g i k p.0)
          (take-one f (layouts b.unit) u e es variadic got (argument x v) v refl l.0 kinds.0 p.0.0 p.1 m)))
