-- A typed tree that is well typed, told of the tree alone (C17 6.5): what evaluation asks of each kind of node.
use Rattle.std.specs.Prelude.{◌≡◌, ◌≢◌, ◌⊎◌, ◌↔◌, ℕ, ◌+◌, ◌<◌, ◌≤◌, ◌^◌, pos, Bool, true, false, List, [], ◌∷◌, length, is_some, if◌then◌else◌}
use Rattle.pv_num.specs.declared.kinds.IntKind.{IntKind}
use Rattle.pv_num.specs.declared.kinds.IntKind.TheVariants.{Bool as BoolKind, Int, Long, ULong}
use Rattle.pv_num.specs.declared.operators.BinOp.{BinOp}
use Rattle.pv_num.specs.Kinds.{Fits}
use Rattle.pv_num.specs.Arithmetic.{IsPromoted, yielded_kind}
use Rattle.pv_types.specs.Ty.{Ty, Tys, VoidTy, IntTy, PointerTo, StructTag, UnionTag, FunctionTy, NoTys, MoreTys}
use Rattle.pv_types.specs.Layouts.{Entry, layout_in, is_complete_in}
use Rattle.pv_types.specs.Sorts.{bare_type, is_void}
use Rattle.pv_typed.specs.Constants.{is_shift}
use Rattle.pv_typed.specs.TypedTree.{TypedTree, Node, Form, Constant, Object, Function, String, Subscript, Call, CallPointer, LibraryCall, Member, MemberOfValue, Arrow, Increment, Address, Indirection, Unary, Not, Sizeof, Cast, Arithmetic, PointerSum, PointerDifference, PointerOrder, PointerEquality, LogicalAnd, LogicalOr, Conditional, Assign, CompoundAssign, PointerAssign, Comma, Read, ArrayPointer, Convert, Arguments, NoArguments, MoreArguments, type_of, is_place, is_lvalue}
use Rattle.pv_typed.specs.TypedUnits.{WholeUnit, layouts, object_at, function_at}
use Rattle.pv_library.specs.declared.library.Library.{Library}
use Rattle.pv_library.specs.declared.library.Library.TheVariants as library
use Rattle.pv_library.specs.LibraryTypes.{prototype}
use Rattle.pv_world.specs.Worlds.{Worth}
use Rattle.pv_world.specs.Pointers.{is_order}
use Rattle.pv_guards.specs.Worths.{IsOfType}

-- what evaluation gives of a node (6.5p1): of an lvalue a pointer to it; of an implied conversion the operand's value, as the node above converts it
abbrev pub given_by : Ty → Form → Ty
given_by t (Convert a) = type_of a
given_by t x = if is_place t x then PointerTo t else t

abbrev pub given_type : TypedTree → Ty
given_type (Node t line turn x) = given_by t x

-- 6.2.5p1, 5.2.4.1: a complete object type of at most 2 ^ 32 bytes, and of one byte at least
pub record IsSized (env : List Entry) (t : Ty) : Type 0 where
  pub complete : is_complete_in env t ≡ true
  pub some : 1 ≤ (layout_in env t).size
  pub small : (layout_in env t).size ≤ 2 ^ 32

-- 6.3.2.1p2: a type, without qualifiers, that a value has: an integer, a pointer, a structure or a union
abbrev pub IsValueType : Ty → Type 0
IsValueType (IntTy k) = Unit {0}
IsValueType (PointerTo t) = Unit {0}
IsValueType (StructTag n) = Unit {0}
IsValueType (UnionTag n) = Unit {0}
IsValueType _ = ⊥

-- a structure or union (6.2.5p20)
abbrev pub IsTag : Ty → Type 0
IsTag t = ((n : ℕ) × (t ≡ StructTag n)) ⊎ ((n : ℕ) × (t ≡ UnionTag n))

-- 6.2.5p21
abbrev pub IsScalarType : Ty → Type 0
IsScalarType (IntTy k) = Unit {0}
IsScalarType (PointerTo t) = Unit {0}
IsScalarType _ = ⊥

-- 6.2.5p17
abbrev pub IsIntegerType : Ty → Type 0
IsIntegerType (IntTy k) = Unit {0}
IsIntegerType _ = ⊥

-- 6.5.6p2: a pointer to a complete object type
abbrev pub IsElementPointer : List Entry → Ty → Type 0
IsElementPointer env (PointerTo t) = IsSized env t
IsElementPointer env _ = ⊥

-- 6.5.6p8, 6.5.2.1p2: one of the two is a pointer to a complete object type, and the other an integer
abbrev pub IsSum : List Entry → (left right pointer : Ty) → Type 0
IsSum env t u p = ((t ≡ p) × IsElementPointer env p × IsIntegerType u) ⊎ ((u ≡ p) × IsElementPointer env p × IsIntegerType t)

abbrev pub RightBy : (shift : Bool) → (left right : IntKind) → Type 0
RightBy true k l = IsPromoted l
RightBy false k l = l ≡ k

-- 6.5.7p3, 6.3.1.8: the right operand of a shift has any promoted kind, that of another operator the kind
abbrev pub MayBeRight : BinOp → (left right : IntKind) → Type 0
MayBeRight o k l = RightBy (is_shift o) k l

-- 6.3: the conversions that are implied: between integers; of a pointer to `_Bool`; between pointers; of a null pointer constant
abbrev pub MayConvert : (from to : Ty) → Type 0
MayConvert (IntTy k) (IntTy l) = Unit {0}
MayConvert (PointerTo t) (IntTy k) = k ≡ BoolKind
MayConvert (PointerTo t) (PointerTo u) = Unit {0}
MayConvert (IntTy k) (PointerTo u) = Unit {0}
MayConvert _ _ = ⊥

-- 6.5.4p2: to void, or from a scalar to a scalar
abbrev pub MayCast : (from to : Ty) → Type 0
MayCast t VoidTy = Unit {0}
MayCast t u = IsScalarType t × IsScalarType u

-- 6.5.2.4p1, 6.5.3.1p1
abbrev pub MayStep : List Entry → Ty → Type 0
MayStep env (IntTy k) = Unit {0}
MayStep env (PointerTo t) = IsSized env t
MayStep env _ = ⊥

-- 6.5.3.2p4
abbrev pub pointee_type : Ty → Ty
pointee_type t = if is_void t then VoidTy else t

-- 6.2.7p3: two types that have the same values, as two compatible ones do
abbrev pub AreLike : Ty → Ty → Type 0
AreLike t u = (env : List Entry) (v : Worth) → IsOfType env t v ↔ IsOfType env u v

-- 6.2.7p3, 6.7.6.3p15: parameters, each of which has the values of its counterpart
abbrev pub AreAllLike : Tys → Tys → Type 0
AreAllLike NoTys NoTys = Unit {0}
AreAllLike (MoreTys t ts) (MoreTys u us) = AreLike t u × AreAllLike ts us
AreAllLike _ _ = ⊥

-- 6.2.7p3: a function type with such a result and such parameters
abbrev pub IsSignature : Ty → Ty → Tys → Type 0
IsSignature (FunctionTy r us false) t ts = AreLike r t × AreAllLike ts us
IsSignature _ t ts = ⊥

-- 6.9p3, p5: a function that the unit defines
abbrev pub HasBody : WholeUnit → ℕ → Type 0
HasBody u f = is_some (function_at u f).body ≡ true

-- 6.5.2.2p1, 6.9p5: a function that the unit defines, with such a result and such parameters
abbrev pub IsFunction : WholeUnit → ℕ → Ty → Tys → Type 0
IsFunction u f t ts = (f < length u.functions) × HasBody u f × IsSignature (function_at u f).t t ts

-- 6.9.1: no function that the unit defines has a type with `...`
abbrev pub AreFixed : WholeUnit → Type 0
AreFixed u = (f : ℕ) (r : Ty) (ts : Tys) → HasBody u f → (function_at u f).t ≢ FunctionTy r ts true

-- 7: the type of the result of each function of the library: a pointer, a number, or nothing
abbrev pub IsResultOf : Library → Ty → Type 0
IsResultOf library.Malloc t = (s : Ty) × (t ≡ PointerTo s)
IsResultOf library.Calloc t = (s : Ty) × (t ≡ PointerTo s)
IsResultOf library.Realloc t = (s : Ty) × (t ≡ PointerTo s)
IsResultOf library.Memcpy t = (s : Ty) × (t ≡ PointerTo s)
IsResultOf library.Memmove t = (s : Ty) × (t ≡ PointerTo s)
IsResultOf library.Memset t = (s : Ty) × (t ≡ PointerTo s)
IsResultOf library.Strcpy t = (s : Ty) × (t ≡ PointerTo s)
IsResultOf library.Memcmp t = t ≡ IntTy Int
IsResultOf library.Strcmp t = t ≡ IntTy Int
IsResultOf library.Printf t = t ≡ IntTy Int
IsResultOf library.Strlen t = t ≡ IntTy ULong
IsResultOf library.Free t = t ≡ VoidTy
IsResultOf library.Exit t = t ≡ VoidTy
IsResultOf library.Abort t = t ≡ VoidTy

-- 7.1.4p2, 6.7.6.3p15: the parameters of a function of the library: each has the values of its counterpart in the prototype
abbrev pub AreParametersOf : (prototype : Ty) → Tys → (variadic : Bool) → Type 0
AreParametersOf (FunctionTy r us v) ts variadic = AreAllLike ts us × (variadic ≡ v)
AreParametersOf _ ts variadic = ⊥

-- a number of a list
abbrev pub IsIn : ℕ → List ℕ → Type 0
IsIn n [] = ⊥
IsIn n (x ∷ xs) = (n ≡ x) ⊎ IsIn n xs

-- 6.2.4p3, p5: the object has static storage, or is one of those that live in the body that is executed
abbrev pub IsInScope : WholeUnit → (automatic : List ℕ) → ℕ → Type 0
IsInScope u os o = IsIn o (if (object_at u o).lasting then u.statics else os)

-- 6.3.2.1p1: it is an lvalue
abbrev pub IsPlace : TypedTree → Type 0
IsPlace a = is_lvalue a ≡ true

-- 6.3: it is a value of this type, as the node above converts it where it is an implied conversion
abbrev pub HasType : TypedTree → Ty → Type 0
HasType a t = (is_lvalue a ≡ false) × (type_of a ≡ t)

-- 6.5p1: it is a value of this type that is taken as it is: no implied conversion
abbrev pub HasValue : TypedTree → Ty → Type 0
HasValue a t = HasType a t × (given_type a ≡ t)

abbrev mutual
  -- 6.5: an expression
  pub IsTyped : WholeUnit → (automatic : List ℕ) → TypedTree → Type 0
  IsTyped u os (Node t line turn x) = IsTypedForm u os t x

  -- 6.5: by what the node is
  pub IsTypedForm : WholeUnit → (automatic : List ℕ) → Ty → Form → Type 0
  IsTypedForm u os t (Constant n) = (k : IntKind) × (t ≡ IntTy k) × Fits k n
  IsTypedForm u os t (Sizeof n) = (k : IntKind) × (t ≡ IntTy k) × Fits k (pos n)
  -- 6.5.1p2, p4: what has an instance. Of the type nothing is asked: it may have been completed since (6.2.7p4)
  IsTypedForm u os t (Object o) = IsInScope u os o
  IsTypedForm u os t (String l) = IsIn l u.instances
  IsTypedForm u os t (Function f) = IsIn f u.placed
  IsTypedForm u os t (Read a) = IsTyped u os a × IsPlace a × (t ≡ bare_type (type_of a)) × IsSized (layouts u) (type_of a) × IsValueType t
  IsTypedForm u os t (ArrayPointer a) = IsTyped u os a × IsPlace a × ((e : Ty) × (t ≡ PointerTo e))
  IsTypedForm u os t (Convert a) = IsTyped u os a × HasValue a (type_of a) × MayConvert (type_of a) t
  IsTypedForm u os t (Address a) = IsTyped u os a × IsPlace a × (t ≡ PointerTo (type_of a))
  IsTypedForm u os t (Indirection a) = (s : Ty) × IsTyped u os a × HasValue a (PointerTo s) × (t ≡ pointee_type s)
  IsTypedForm u os t (Subscript a b) =
      IsTyped u os a × HasValue a (type_of a) × IsTyped u os b × HasValue b (type_of b) × IsSum (layouts u) (type_of a) (type_of b) (PointerTo t)
  IsTypedForm u os t (Member a offset) = IsTyped u os a × IsPlace a
  IsTypedForm u os t (Arrow a offset) = (s : Ty) × IsTyped u os a × HasValue a (PointerTo s)
  IsTypedForm u os t (MemberOfValue a offset) =
      IsTyped u os a × HasValue a (type_of a) × IsSized (layouts u) t × IsValueType t × IsTag (type_of a)
      × (offset + (layout_in (layouts u) t).size ≤ (layout_in (layouts u) (type_of a)).size)
  IsTypedForm u os t (Unary op a) = (k : IntKind) × IsTyped u os a × HasType a (IntTy k) × IsPromoted k × (t ≡ IntTy k)
  IsTypedForm u os t (Not a) = IsTyped u os a × HasValue a (type_of a) × IsScalarType (type_of a) × (t ≡ IntTy Int)
  IsTypedForm u os t (Cast a) = IsTyped u os a × HasValue a (type_of a) × MayCast (type_of a) t
  IsTypedForm u os t (Arithmetic op a b) =
      (k : IntKind) × (l : IntKind) × IsTyped u os a × HasType a (IntTy k) × IsTyped u os b × HasType b (IntTy l) × IsPromoted k × MayBeRight op k l × (t ≡ IntTy (yielded_kind op k))
  IsTypedForm u os t (PointerSum sign a b) = IsTyped u os a × HasValue a (type_of a) × IsTyped u os b × HasValue b (type_of b) × IsSum (layouts u) (type_of a) (type_of b) t
  IsTypedForm u os t (PointerDifference a b) =
      (s : Ty) × (r : Ty) × IsTyped u os a × HasValue a (PointerTo s) × IsTyped u os b × HasValue b (PointerTo r) × IsSized (layouts u) s × (t ≡ IntTy Long)
  IsTypedForm u os t (PointerOrder op a b) =
      (s : Ty) × (r : Ty) × IsTyped u os a × HasValue a (PointerTo s) × IsTyped u os b × HasValue b (PointerTo r) × (is_order op ≡ true) × (t ≡ IntTy Int)
  IsTypedForm u os t (PointerEquality op a b) = (s : Ty) × (r : Ty) × IsTyped u os a × HasType a (PointerTo s) × IsTyped u os b × HasType b (PointerTo r) × (t ≡ IntTy Int)
  IsTypedForm u os t (LogicalAnd a b) =
      IsTyped u os a × HasValue a (type_of a) × IsTyped u os b × HasValue b (type_of b) × IsScalarType (type_of a) × IsScalarType (type_of b) × (t ≡ IntTy Int)
  IsTypedForm u os t (LogicalOr a b) =
      IsTyped u os a × HasValue a (type_of a) × IsTyped u os b × HasValue b (type_of b) × IsScalarType (type_of a) × IsScalarType (type_of b) × (t ≡ IntTy Int)
  IsTypedForm u os t (Conditional a b c) = IsTyped u os a × HasValue a (type_of a) × IsScalarType (type_of a) × IsTyped u os b × HasType b t × IsTyped u os c × HasType c t
  IsTypedForm u os t (Comma a b) = IsTyped u os a × HasValue a (type_of a) × IsTyped u os b × HasValue b t
  IsTypedForm u os t (Assign a b) =
      IsTyped u os a × IsPlace a × IsTyped u os b × HasType b t × (t ≡ bare_type (type_of a)) × IsSized (layouts u) (type_of a) × IsValueType t
  IsTypedForm u os t (CompoundAssign op k a b) =
      (j : IntKind) × (l : IntKind) × IsTyped u os a × IsPlace a × IsTyped u os b × HasType b (IntTy l) × (t ≡ IntTy j) × (t ≡ bare_type (type_of a)) × IsPromoted k × MayBeRight op k l × IsSized (layouts u) (type_of a)
  IsTypedForm u os t (PointerAssign sign a b) =
      (s : Ty) × IsTyped u os a × IsPlace a × IsTyped u os b × HasValue b (type_of b) × IsIntegerType (type_of b) × (t ≡ PointerTo s) × (t ≡ bare_type (type_of a)) × IsSized (layouts u) s × IsSized (layouts u) (type_of a)
  IsTypedForm u os t (Increment op a) = IsTyped u os a × IsPlace a × (t ≡ bare_type (type_of a)) × MayStep (layouts u) t × IsSized (layouts u) (type_of a)
  IsTypedForm u os t (Call f xs) = (ts : Tys) × IsFunction u f t ts × ArePassed u os ts false xs
  -- 6.5.2.2p9: by a type with `...` no function is called that the unit defines
  IsTypedForm u os t (CallPointer a xs) =
      (r : Ty) × (ts : Tys) × (variadic : Bool) × IsTyped u os a × HasValue a (PointerTo (FunctionTy r ts variadic)) × AreLike r t
      × ArePassed u os ts variadic xs × (variadic ≡ true → AreFixed u)
  -- 7.1.4p1: by the types that the function has
  IsTypedForm u os t (LibraryCall f xs) = (ts : Tys) × (variadic : Bool) × IsResultOf f t × ArePassed u os ts variadic xs × AreParametersOf (prototype f) ts variadic

  -- 6.5.2.2p2, p7: each argument has its parameter's type; further ones are promoted
  pub ArePassed : WholeUnit → (automatic : List ℕ) → Tys → (variadic : Bool) → Arguments → Type 0
  ArePassed u os NoTys variadic NoArguments = Unit {0}
  ArePassed u os NoTys true (MoreArguments a xs) = IsTyped u os a × HasType a (type_of a) × IsValueType (type_of a) × ArePassed u os NoTys true xs
  ArePassed u os NoTys false (MoreArguments a xs) = ⊥
  ArePassed u os (MoreTys t ts) variadic NoArguments = ⊥
  ArePassed u os (MoreTys t ts) variadic (MoreArguments a xs) = IsTyped u os a × HasType a (bare_type t) × IsValueType (bare_type t) × ArePassed u os ts variadic xs
