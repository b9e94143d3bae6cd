-- Typed statements and units that are well typed, told of the trees alone (C17 6.7, 6.8, 6.9): what execution asks of each.
use Rattle.std.specs.Prelude.{◌≡◌, ◌≢◌, ◌⊎◌, ℕ, ◌+◌, ◌<◌, ◌≤◌, ◌^◌, Bool, true, false, Option, List, [], ◌∷◌, ◌++◌, length, Some, None}
use Rattle.pv_num.specs.declared.kinds.IntKind.{IntKind}
use Rattle.pv_num.specs.declared.kinds.IntKind.TheVariants.{Int}
use Rattle.pv_num.specs.Kinds.{Fits}
use Rattle.pv_num.specs.Arithmetic.{IsPromoted}
use Rattle.pv_types.specs.Ty.{Ty, Tys, NoTys, MoreTys, IntTy, PointerTo, FunctionTy}
use Rattle.pv_types.specs.Layouts.{layout_in, is_complete_in}
use Rattle.pv_types.specs.Sorts.{bare_type, is_void}
use Rattle.pv_typed.specs.declared.values.Const.{Const}
use Rattle.pv_typed.specs.declared.values.Const.TheVariants as const
use Rattle.pv_typed.specs.Addresses.{constant_of}
use Rattle.pv_typed.specs.Known.{Each}
use Rattle.pv_typed.specs.Mains.{main_of, named_main}
use Rattle.pv_typed.specs.TypedTree.{TypedTree, type_of}
use Rattle.pv_typed.specs.TypedStatement.{TypedStatement, Block, Declare, Expression, Empty, If, IfElse, Switch, Case, Default, While, DoWhile, For, ForDeclaration, Continue, Break, Return, Statements, NoStatements, MoreStatements}
use Rattle.pv_typed.specs.TypedUnits.{WholeUnit, TypedFunction, Store, StoredValue, ValueOf, TextOf, layouts, object_at, function_at, literal_at}
use Rattle.pv_eval.specs.Objects.{heap_name}
use Rattle.pv_guards.specs.Typed.{IsTyped, HasType, HasValue, IsScalarType, IsValueType, AreLike, HasBody, IsIn}

-- 6.2.4, 6.7p7: an object that can be made: of a complete type of at most 2 ^ 32 bytes, under a name of its own
pub record IsMakeable (u : WholeUnit) (lasting : Bool) (o : ℕ) : Type 0 where
  pub storage : (object_at u o).lasting ≡ lasting
  pub complete : is_complete_in (layouts u) (object_at u o).t ≡ true
  pub small : (layout_in (layouts u) (object_at u o).t).size ≤ 2 ^ 32
  pub named : (object_at u o).name ≢ heap_name

-- 6.2.4, 6.7p3: each of these objects is declared once, and not among those that live already
abbrev pub AreNew : List ℕ → (automatic : List ℕ) → Type 0
AreNew [] os = Unit {0}
AreNew (d ∷ ds) os = (IsIn d (ds ++ os) → ⊥) × AreNew ds os

-- 6.8.4.1p1, 6.8.5p2: a controlling expression
abbrev pub IsCondition : WholeUnit → (automatic : List ℕ) → TypedTree → Type 0
IsCondition u os x = IsTyped u os x × HasValue x (type_of x) × IsScalarType (type_of x)

-- a controlling expression, or none where it may be left out (6.8.5.3p2)
abbrev pub MayBeCondition : WholeUnit → (automatic : List ℕ) → Option TypedTree → Type 0
MayBeCondition u os None = Unit {0}
MayBeCondition u os (Some x) = IsCondition u os x

-- 6.8.3p2, 6.8.5.3p1: an expression whose value is dropped, where it is not left out
abbrev pub MayBeTyped : WholeUnit → (automatic : List ℕ) → Option TypedTree → Type 0
MayBeTyped u os None = Unit {0}
MayBeTyped u os (Some x) = IsTyped u os x

-- 6.8.6.4p1, p3: a `return` in a function with this result, which is like that of the function's definition (6.2.7p4, 6.9.1p3)
abbrev pub IsReturned : WholeUnit → Ty → (automatic : List ℕ) → Option TypedTree → Type 0
IsReturned u r os None = is_void r ≡ true
IsReturned u r os (Some x) = (q : Ty) × IsTyped u os x × HasType x (bare_type q) × AreLike q r

-- 6.7.9p2: what is stored at one place of an initializer lies within the object
abbrev pub LiesIn : WholeUnit → (object : ℕ) → Store → Type 0
LiesIn u o x = x.offset + (layout_in (layouts u) x.t).size ≤ (layout_in (layouts u) (object_at u o).t).size

-- 6.7.9p11: what an initializer stores, which is a value of the type, or a string
abbrev pub IsInitializer : WholeUnit → (automatic : List ℕ) → Ty → StoredValue → Type 0
IsInitializer u os t (ValueOf e) = IsTyped u os e × HasType e (bare_type t) × IsValueType (bare_type t)
IsInitializer u os t (TextOf l) = Unit {0}

-- 6.7.9: all stores of an object's initializer
abbrev pub AreInitializers : WholeUnit → (automatic : List ℕ) → (object : ℕ) → List Store → Type 0
AreInitializers u os o xs = Each (λ (x : Store). LiesIn u o x × IsInitializer u os x.t x.what) xs

-- 6.8p3, 6.7.9: a declaration that is reached is that of an object of a block around it
abbrev pub IsDeclared : WholeUnit → (automatic : List ℕ) → ℕ → Type 0
IsDeclared u os o = IsIn o os × IsMakeable u false o × AreInitializers u os o (object_at u o).inits

abbrev mutual
  -- 6.8: a statement of a function with this result
  pub IsTypedStatement : WholeUnit → Ty → (automatic : List ℕ) → TypedStatement → Type 0
  IsTypedStatement u r os (Block line ds xs) = Each (IsMakeable u false) ds × AreNew ds os × AreTypedStatements u r (ds ++ os) xs
  -- a declaration stands in a list alone
  IsTypedStatement u r os (Declare line o) = ⊥
  IsTypedStatement u r os (Expression line x) = IsTyped u os x
  IsTypedStatement u r os (Empty line) = Unit {0}
  IsTypedStatement u r os (If line c x) = IsCondition u os c × IsTypedStatement u r os x
  IsTypedStatement u r os (IfElse line c x y) = IsCondition u os c × IsTypedStatement u r os x × IsTypedStatement u r os y
  IsTypedStatement u r os (Switch line c (Block m ds xs)) =
      (k : IntKind) × IsTyped u os c × HasType c (IntTy k) × IsPromoted k × Each (IsMakeable u false) ds × AreNew ds os × AreTypedStatements u r (ds ++ os) xs
  IsTypedStatement u r os (Switch line c x) = ⊥
  IsTypedStatement u r os (Case line n x) = IsTypedStatement u r os x
  IsTypedStatement u r os (Default line x) = IsTypedStatement u r os x
  IsTypedStatement u r os (While line c x) = IsCondition u os c × IsTypedStatement u r os x
  IsTypedStatement u r os (DoWhile line x c) = IsTypedStatement u r os x × IsCondition u os c
  IsTypedStatement u r os (For line first c step x) = MayBeTyped u os first × MayBeCondition u os c × MayBeTyped u os step × IsTypedStatement u r os x
  IsTypedStatement u r os (ForDeclaration line ds xs c step x) =
      Each (IsMakeable u false) ds × AreNew ds os × AreTypedStatements u r (ds ++ os) xs × MayBeCondition u (ds ++ os) c × MayBeTyped u (ds ++ os) step × IsTypedStatement u r (ds ++ os) x
  IsTypedStatement u r os (Continue line) = Unit {0}
  IsTypedStatement u r os (Break line) = Unit {0}
  IsTypedStatement u r os (Return line x) = IsReturned u r os x

  -- 6.8.2: the statements of a list, and declarations
  pub AreTypedStatements : WholeUnit → Ty → (automatic : List ℕ) → Statements → Type 0
  AreTypedStatements u r os NoStatements = Unit {0}
  AreTypedStatements u r os (MoreStatements (Declare line o) xs) = IsDeclared u os o × AreTypedStatements u r os xs
  AreTypedStatements u r os (MoreStatements x xs) = IsTypedStatement u r os x × AreTypedStatements u r os xs

-- 6.9.1p7, p10: the object of a parameter has the values of its type
abbrev pub IsParameter : WholeUnit → ℕ → Ty → Type 0
IsParameter u o t = IsMakeable u false o × AreLike t (object_at u o).t × IsValueType (bare_type (object_at u o).t)

-- 6.9.1p10: the objects of parameters, one for each type
abbrev pub AreParameters : WholeUnit → List ℕ → Tys → Type 0
AreParameters u [] NoTys = Unit {0}
AreParameters u (o ∷ os) (MoreTys t ts) = IsParameter u o t × AreParameters u os ts
AreParameters u _ _ = ⊥

-- 6.9.1p3: what a function gives: nothing, or a value
abbrev pub IsResult : Ty → Type 0
IsResult r = (is_void r ≡ true) ⊎ IsValueType (bare_type r)

-- 6.9.1: a function that is defined has an object for each parameter, and a body; another one has neither
abbrev pub IsDefinition : WholeUnit → Ty → Tys → (parameters : List ℕ) → Option TypedStatement → Type 0
IsDefinition u r ts ps None = ps ≡ []
IsDefinition u r ts ps (Some x) = AreParameters u ps ts × AreNew ps [] × IsTypedStatement u r ps x

-- 6.9.1, 5.1.2.2.1p1: a function with this result and these parameters; `main` gives an `int`
pub record IsTypedFunction (u : WholeUnit) (x : TypedFunction) (r : Ty) (ts : Tys) : Type 0 where
  pub result : IsResult r
  pub main : named_main u.names x.name ≡ true → bare_type r ≡ IntTy Int
  pub definition : IsDefinition u r ts x.params x.body

-- 6.6p9: the place of a constant is there: an object with static storage that the unit defines, a literal or a function with an instance, and
-- the offset lies within an object of the greatest size
abbrev pub IsPlaced : WholeUnit → Const → Type 0
IsPlaced u (const.Address o n) = IsIn o u.statics × (n ≤ 2 ^ 32)
IsPlaced u (const.Literal l n) = IsIn l u.instances × (n ≤ 2 ^ 32)
IsPlaced u (const.Function f) = IsIn f u.placed
IsPlaced u (const.Int n) = Unit {0}
IsPlaced u const.Null = Unit {0}

-- 6.6p7: the type of a constant: a number fits its integer type, and the others are pointers
abbrev pub IsConstantOf : Const → Ty → Type 0
IsConstantOf (const.Int n) t = (k : IntKind) × (t ≡ IntTy k) × Fits k n
IsConstantOf const.Null t = (s : Ty) × (t ≡ PointerTo s)
IsConstantOf (const.Address o n) t = (s : Ty) × (t ≡ PointerTo s)
IsConstantOf (const.Literal l n) t = (s : Ty) × (t ≡ PointerTo s)
IsConstantOf (const.Function f) t = (s : Ty) × (t ≡ PointerTo s)

-- 6.7.9p4: what an initializer of an object with static storage stores: a constant of the type, or a string
abbrev pub IsConstant : WholeUnit → Ty → StoredValue → Type 0
IsConstant u t (ValueOf e) = (c : Const) × (constant_of u e ≡ Some c) × IsPlaced u c × IsConstantOf c (bare_type t)
IsConstant u t (TextOf l) = Unit {0}

-- 6.7.9p4: all stores of such an initializer
abbrev pub AreConstants : WholeUnit → (object : ℕ) → List Store → Type 0
AreConstants u o xs = Each (λ (x : Store). LiesIn u o x × IsConstant u x.t x.what) xs

-- 6.9: a unit that is well typed
pub record IsTypedUnit (u : WholeUnit) : Type 0 where
  pub functions : (f : ℕ) (r : Ty) (ts : Tys) → f < length u.functions → (function_at u f).t ≡ FunctionTy r ts false → IsTypedFunction u (function_at u f) r ts
  -- 5.1.2.2.1p1: `main` is defined, has no parameters here, and gives an `int`
  pub main : (f : ℕ) → main_of u ≡ Some f → (f < length u.functions) × HasBody u f × ((r : Ty) × ((function_at u f).t ≡ FunctionTy r NoTys false) × (bare_type r ≡ IntTy Int))
  -- 6.4.5p6: a literal's characters, and its zero
  pub characters : (l : ℕ) → Each (λ (v : ℕ). v < 256) (literal_at u l).bytes
  pub literals : (l : ℕ) → IsIn l u.instances → 1 ≤ length (literal_at u l).bytes
  pub statics : (o : ℕ) → IsIn o u.statics → IsMakeable u true o
  pub constants : (o : ℕ) → IsIn o u.statics → AreConstants u o (object_at u o).inits
  -- 6.3.2.1p4, 6.9p5: a function that is pointed to is defined
  pub placed : (f : ℕ) → IsIn f u.placed → ((function_at u f).name ≢ heap_name) × HasBody u f
