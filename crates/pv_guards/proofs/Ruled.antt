-- For each operation on values of the types that typing promises there is a rule (C17 6.3, 6.5, 6.7.9, 7).
use Rattle.std.proofs.Common.{◌≡◌, ℕ, Bool, true, false, ◌&&◌, ◌||◌, List, refl, sym, ap, ◌∙◌, subst, inl, inr, pos, is_ok, is_some, Option, Some, None, ℤ, arith}
use Rattle.std.specs.Prelude.{if◌then◌else◌, unwrap_or}
use Rattle.std.specs.FinMap.{get}
use Rattle.pv_num.specs.declared.kinds.IntKind.{IntKind}
use Rattle.pv_num.specs.declared.kinds.IntKind.TheVariants.{Bool as BoolKind, Char, SChar, UChar, Short, UShort, Int, UInt, Long, ULong, LLong, ULLong}
use Rattle.pv_num.specs.declared.operators.BinOp.{BinOp}
use Rattle.pv_num.specs.declared.operators.BinOp.TheVariants as bin
use Rattle.pv_num.specs.Arithmetic.{binary_of}
use Rattle.pv_num.specs.Kinds.{is_character_kind}
use Rattle.pv_types.specs.Ty.{Ty, VoidTy, IntTy, PointerTo, ArrayOf, StructTag, UnionTag, FunctionTy, ConstOf}
use Rattle.pv_types.specs.Layouts.{Entry, layout_in}
use Rattle.pv_types.specs.Sorts.{bare_type}
use Rattle.pv_typed.specs.TypedUnits.{layouts, object_at}
use Rattle.pv_inst.specs.declared.values.Instance.{Instance}
use Rattle.pv_inst.specs.Table.{instance_at, IsNumber}
use Rattle.pv_object.specs.declared.values.Scalar.TheVariants as scalar
use Rattle.pv_object.specs.declared.values.Value.TheVariants.{Int as IntValue, Unset, Pointer as PointerValue}
use Rattle.pv_world.specs.declared.got.How.{How}
use Rattle.pv_world.specs.declared.got.How.TheVariants.{Rounds, Passes}
use Rattle.pv_world.specs.declared.got.Shape.TheVariants as shape
use Rattle.pv_world.specs.Worlds.{Worth, Nothing, Missing, Scalar, Whole, World}
use Rattle.pv_world.specs.Worths.{pointer_of}
use Rattle.pv_world.specs.Objects.{bound_to}
use Rattle.pv_world.specs.Pointers.{is_order}
use Rattle.pv_world.specs.Suiting.{is_stored}
use Rattle.pv_eval.specs.States.{Setting, State, Stops, Unreached}
use Rattle.pv_eval.specs.Acting.{after_doing}
use Rattle.pv_eval.specs.TypeForms.{shape_of, size_of}
use Rattle.pv_eval.specs.Objects.{instance_for}
use Rattle.pv_eval.specs.Conversions.{how_to, how_to_int}
use Rattle.pv_eval.specs.Operations.{Op, Converts, Calculates, CalculatesOne, Tests, Negates, Accepts, Needs, Moves, Subtracts, Orders, Equals, Follows, Selects, Finds, TakesPart, Reads, Writes, NamesObject, NamesLiteral, NamesFunction, Makes, MakesLiteral, MakesFunction, Ends, BeginsBody, EndsBody, Fills, Puts, PutsText, Asks, does, act}
use Rattle.pv_guards.specs.Worths.{IsScalar, IsWhole, IsOfType, IsThere}
use Rattle.pv_guards.specs.Typed.{IsValueType, IsScalarType, IsIntegerType, IsTag, MayCast}
use Rattle.pv_guards.specs.Ruled.{is_missing, may_be_number, may_be_pointer, may_be_scalar, may_be_whole, is_place, is_source_of, are_shifted, are_compared, has_instance, has_rule}
use Rattle.pv_guards.specs.Plain.{plain_doing, act_plainly}
use Rattle.pv_guards.specs.Soundness.{IsHomeIn, IsHome, IsSound}
use Rattle.pv_guards.specs.Promises.{Promised, Leads, Shifts}
use Rattle.pv_guards.proofs.Numbers.{both}
use Rattle.pv_guards.proofs.Values.{stored-of}

-- ---- a value of a type, as rules look at it

number-may : (k : IntKind) (v : Worth) → IsScalar (scalar.Int k) v → may_be_number v ≡ true
number-may k (Scalar (IntValue n)) h = refl
number-may k (Scalar Unset) h = refl
number-may k (Scalar (PointerValue p)) h = absurd h
number-may k Missing h = refl
number-may k Nothing h = absurd h
number-may k (Whole bs a) h = absurd h

pub pointer-may : (v : Worth) → IsScalar scalar.Pointer v → may_be_pointer v ≡ true
pointer-may (Scalar (PointerValue p)) h = refl
pointer-may (Scalar (IntValue n)) h = absurd h
pointer-may (Scalar Unset) h = absurd h
pointer-may Missing h = refl
pointer-may Nothing h = absurd h
pointer-may (Whole bs a) h = absurd h

any-scalar : (s : _) (v : Worth) → IsScalar s v → may_be_scalar v ≡ true
any-scalar s (Scalar v) h = refl
any-scalar s Missing h = refl
any-scalar s Nothing h = absurd h
any-scalar s (Whole bs a) h = absurd h

place-is : (v : Worth) → IsScalar scalar.Pointer v → IsThere v → is_place v ≡ true
place-is (Scalar (PointerValue p)) h there = refl
place-is (Scalar (IntValue n)) h there = absurd h
place-is (Scalar Unset) h there = absurd h
place-is Missing h there = absurd there
place-is Nothing h there = absurd h
place-is (Whole bs a) h there = absurd h

whole-may : (n : ℕ) (v : Worth) → IsWhole n v → may_be_whole v ≡ true
whole-may n (Whole bs a) h = refl
whole-may n Missing h = refl
whole-may n (Scalar v) h = absurd h
whole-may n Nothing h = absurd h

scalar-may : (env : List Entry) (t : Ty) (v : Worth) → IsScalarType t → IsOfType env t v → may_be_scalar v ≡ true
scalar-may env (IntTy k) v s h = any-scalar (scalar.Int k) v h
scalar-may env (PointerTo t) v s h = any-scalar scalar.Pointer v h
scalar-may env VoidTy v s h = absurd s
scalar-may env (ArrayOf t n) v s h = absurd s
scalar-may env (StructTag n) v s h = absurd s
scalar-may env (UnionTag n) v s h = absurd s
scalar-may env (FunctionTy t ts c) v s h = absurd s
scalar-may env (ConstOf t) v s h = absurd s

integer-may : (env : List Entry) (t : Ty) (v : Worth) → IsIntegerType t → IsOfType env t v → may_be_number v ≡ true
integer-may env (IntTy k) v s h = number-may k v h
integer-may env (PointerTo t) v s h = absurd s
integer-may env VoidTy v s h = absurd s
integer-may env (ArrayOf t n) v s h = absurd s
integer-may env (StructTag n) v s h = absurd s
integer-may env (UnionTag n) v s h = absurd s
integer-may env (FunctionTy t ts c) v s h = absurd s
integer-may env (ConstOf t) v s h = absurd s

tag-may : (env : List Entry) (t : Ty) (v : Worth) → IsTag t → IsOfType env t v → may_be_whole v ≡ true
tag-may env t v (inl (n, e)) h = whole-may (layout_in env (StructTag n)).size v (subst (λ u. IsOfType env u v) e h)
tag-may env t v (inr (n, e)) h = whole-may (layout_in env (UnionTag n)).size v (subst (λ u. IsOfType env u v) e h)

to-pointer : (env : List Entry) (t : Ty) (v : Worth) → (s : Ty) × (t ≡ PointerTo s) → IsOfType env t v → may_be_pointer v ≡ true
to-pointer env t v (s, e) h = pointer-may v (subst (λ u. IsOfType env u v) e h)

-- ---- conversions (6.3)

number-rounded : (c : Bool) (k : IntKind) (v : Worth) → may_be_number v ≡ true → is_source_of (if c then Passes k else Rounds k) v ≡ true
number-rounded true k v h = h
number-rounded false k v h = h

number-source : (implied : Bool) (j k : IntKind) (v : Worth) → may_be_number v ≡ true → is_source_of (how_to_int implied (shape.Int j) k) v ≡ true
number-source true j k v h = number-rounded (is_character_kind j && is_character_kind k) k v h
number-source false j k v h = h

pointer-source : (implied : Bool) (k : IntKind) (v : Worth) → IsScalar scalar.Pointer v → is_source_of (how_to_int implied shape.Pointer k) v ≡ true
pointer-source implied BoolKind v h = any-scalar scalar.Pointer v h
pointer-source implied Char v h = pointer-may v h
pointer-source implied SChar v h = pointer-may v h
pointer-source implied UChar v h = pointer-may v h
pointer-source implied Short v h = pointer-may v h
pointer-source implied UShort v h = pointer-may v h
pointer-source implied Int v h = pointer-may v h
pointer-source implied UInt v h = pointer-may v h
pointer-source implied Long v h = pointer-may v h
pointer-source implied ULong v h = pointer-may v h
pointer-source implied LLong v h = pointer-may v h
pointer-source implied ULLong v h = pointer-may v h

module _ (b : Setting) where
  cast-source : (implied : Bool) (t u : Ty) (v : Worth) → MayCast t u → IsOfType (layouts b.unit) t v → is_source_of (how_to b implied t u) v ≡ true
  cast-source implied t VoidTy v m h = refl
  cast-source implied (IntTy j) (IntTy k) v m h = number-source implied j k v (number-may j v h)
  cast-source implied (PointerTo r) (IntTy k) v m h = pointer-source implied k v h
  cast-source implied (IntTy j) (PointerTo s) v m h = number-may j v h
  cast-source implied (PointerTo r) (PointerTo s) v m h = pointer-may v h
  cast-source implied VoidTy (IntTy k) v m h = absurd m.0
  cast-source implied (ArrayOf a n) (IntTy k) v m h = absurd m.0
  cast-source implied (StructTag n) (IntTy k) v m h = absurd m.0
  cast-source implied (UnionTag n) (IntTy k) v m h = absurd m.0
  cast-source implied (FunctionTy a ts c) (IntTy k) v m h = absurd m.0
  cast-source implied (ConstOf a) (IntTy k) v m h = absurd m.0
  cast-source implied VoidTy (PointerTo s) v m h = absurd m.0
  cast-source implied (ArrayOf a n) (PointerTo s) v m h = absurd m.0
  cast-source implied (StructTag n) (PointerTo s) v m h = absurd m.0
  cast-source implied (UnionTag n) (PointerTo s) v m h = absurd m.0
  cast-source implied (FunctionTy a ts c) (PointerTo s) v m h = absurd m.0
  cast-source implied (ConstOf a) (PointerTo s) v m h = absurd m.0
  cast-source implied t (ArrayOf a n) v m h = absurd m.1
  cast-source implied t (StructTag n) v m h = absurd m.1
  cast-source implied t (UnionTag n) v m h = absurd m.1
  cast-source implied t (FunctionTy a ts c) v m h = absurd m.1
  cast-source implied t (ConstOf a) v m h = absurd m.1

  conversion-source : (how : How) (t u : Ty) (v : Worth) → Leads b how t u → IsOfType (layouts b.unit) t v → is_source_of how v ≡ true
  conversion-source how t u v (inl l) h = subst (λ x. is_source_of x v ≡ true) (sym l.1) (cast-source l.0 t u v l.2 h)
  conversion-source how t u v (inr l) h = subst (λ x. is_source_of x v ≡ true) (sym l.1) (integer-may (layouts b.unit) t v l.3 h)

-- ---- sums and comparisons (6.5.6, 6.5.8)

shifted : (env : List Entry) (first : Bool) (t u : Ty) (v x : Worth) → Shifts first t u → IsOfType env t v → IsOfType env u x → are_shifted first v x ≡ true
shifted env true t u v x s h g = both (may_be_pointer v) (may_be_number x) (to-pointer env t v s.0 h) (integer-may env u x s.1 g)
shifted env false t u v x s h g = both (may_be_number v) (may_be_pointer x) (integer-may env t v s.0 h) (to-pointer env u x s.1 g)

order-result : (o : BinOp) (m n : ℤ) → is_order o ≡ true → is_ok (binary_of o Int m n) ≡ true
order-result bin.Lt m n e = refl
order-result bin.Gt m n e = refl
order-result bin.Le m n e = refl
order-result bin.Ge m n e = refl
order-result bin.Add m n e = absurd cc
order-result bin.Sub m n e = absurd cc
order-result bin.Mul m n e = absurd cc
order-result bin.Div m n e = absurd cc
order-result bin.Rem m n e = absurd cc
order-result bin.Shl m n e = absurd cc
order-result bin.Shr m n e = absurd cc
order-result bin.And m n e = absurd cc
order-result bin.Or m n e = absurd cc
order-result bin.Xor m n e = absurd cc
order-result bin.Eq m n e = absurd cc
order-result bin.Ne m n e = absurd cc

compared : (o : BinOp) (v x : Worth) → is_order o ≡ true → IsScalar scalar.Pointer v → IsScalar scalar.Pointer x → are_compared o v x ≡ true
compared o v x e h g =
    both (may_be_pointer v && may_be_pointer x) (is_ok (binary_of o Int (pos (pointer_of v).address) (pos (pointer_of x).address)))
    (both (may_be_pointer v) (may_be_pointer x) (pointer-may v h) (pointer-may x g)) (order-result o (pos (pointer_of v).address) (pos (pointer_of x).address) e)

-- ---- stores (6.5.16, 6.7.9)

-- a value that is stored is one of the type, where it is there
stored-may : (env : List Entry) (t : Ty) (v : Worth) → IsValueType (bare_type t) → IsOfType env (bare_type t) v → (is_missing v || is_stored (shape_of t) (layout_in env t).size v) ≡ true
stored-may env t Missing s h = refl
stored-may env t Nothing s h = stored-of env t Nothing s h tt
stored-may env t (Scalar v) s h = stored-of env t (Scalar v) s h tt
stored-may env t (Whole bs a) s h = stored-of env t (Whole bs a) s h tt

-- ---- instances (6.2.4)

home-bound : (xs : List Instance) (o : Option ℕ) (n : ℕ) → IsHomeIn (instance_at xs (unwrap_or o 0)) n → is_some o ≡ true
home-bound xs (Some i) n h = refl
home-bound xs None n h = absurd h

number-bound : (xs : List Instance) (o : Option ℕ) → IsNumber xs (unwrap_or o 0) → is_some o ≡ true
number-bound xs (Some i) h = refl
number-bound xs None h = let l = h.0 in absurd (omega (arith, l))

pub bound-there : (b : Setting) (o : ℕ) (w : World) (n : ℕ) → IsHome w.memory.table (instance_for b o w) n → has_instance b o w ≡ true
bound-there b o w n h = home-bound w.memory.table.instances (bound_to w o (object_at b.unit o).lasting) n h

-- ---- each operation of an expression

-- what has a rule goes by it
ruled-so : {A : Type 0} (c : Bool) (x y : A) → c ≡ true → x ≡ (if c then x else y)
ruled-so true x y e = refl
ruled-so false x y e = absurd cc

pub acts-plainly : (b : Setting) (line : ℕ) (o : Op) (s : State) → has_rule b o s.world ≡ true → does b o s.world ≡ plain_doing b o s.world → act b line o s ≡ act_plainly b line o s
acts-plainly b line o s c e = ap (λ d. after_doing b line d s) e ∙ ruled-so (has_rule b o s.world) (after_doing b line (plain_doing b o s.world) s) (Stops Unreached s) c

module _ (b : Setting) (os : List ℕ) (w : World) (sound : IsSound b os w) where
  pub ruled : (o : Op) (t : Ty) → Promised b os w o t → has_rule b o w ≡ true
  ruled (Converts how v) t h = conversion-source b how h.0 t v h.2 h.1.0
  ruled (Calculates o k v x) t h = both (may_be_number v) (may_be_number x) (number-may h.0 v h.5.0) (number-may h.1 x h.6.0)
  ruled (CalculatesOne o k v) t h = number-may k v h.1.0
  ruled (Tests v) t h = scalar-may (layouts b.unit) h.0 v h.3 h.1.0
  ruled (Negates v) t h = scalar-may (layouts b.unit) h.0 v h.3 h.1.0
  ruled (Accepts v) t h = refl
  ruled (Needs v) t h = number-may h.0 v (subst (λ t. IsOfType (layouts b.unit) t v) h.1 h.2.0)
  ruled (Moves minus first size v x) t h = shifted (layouts b.unit) first h.0 h.1 v x h.7 h.3.0 h.4.0
  ruled (Subtracts size v x) t h = both (may_be_pointer v) (may_be_pointer x) (pointer-may v h.2.0) (pointer-may x h.3.0)
  ruled (Orders o v x) t h = compared o v x h.4 h.2.0 h.3.0
  ruled (Equals negated v x) t h = both (may_be_pointer v) (may_be_pointer x) (pointer-may v h.2.0) (pointer-may x h.3.0)
  ruled (Follows nothing v) t h = pointer-may v h.1.0
  ruled (Selects offset v) t h = pointer-may v h.2.0
  ruled (TakesPart offset l v) t h = tag-may (layouts b.unit) h.0 v h.2 h.1.0
  ruled (Reads l place rivals) t h = place-is place h.5.0 h.6
  ruled (Writes l place v from rivals) t h =
      both (is_place place) (is_missing v || is_stored l.shape l.size v) (place-is place h.5.0 h.7)
      (subst (λ l. (is_missing v || is_stored l.shape l.size v) ≡ true) (sym h.1) (stored-may (layouts b.unit) h.0 v h.3 (subst (λ q. IsOfType (layouts b.unit) q v) h.4 h.6.0)))
  ruled (NamesObject o) t h = bound-there b o w (size_of b (object_at b.unit o).t) (sound.objects o h.2)
  ruled (NamesLiteral l) t h = number-bound w.memory.table.instances (get w.literals l) (sound.literals l h.2)
  ruled (NamesFunction f) t h = number-bound w.memory.table.instances (get w.functions f) (sound.functions f h.2)
  ruled (Asks f args) t h = h.2
  ruled (Finds r v) t h = absurd h
  ruled (Makes o) t h = absurd h
  ruled (MakesLiteral l) t h = absurd h
  ruled (MakesFunction f) t h = absurd h
  ruled (Ends o) t h = absurd h
  ruled (BeginsBody f n) t h = absurd h
  ruled EndsBody t h = absurd h
  ruled (Fills o v) t h = absurd h
  ruled (Puts o offset l v) t h = absurd h
  ruled (PutsText o offset size l) t h = absurd h
