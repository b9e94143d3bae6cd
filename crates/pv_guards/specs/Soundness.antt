-- What a world keeps while a checked unit runs, and values of types in it (C17 6.2.4, 6.2.6.1, the memory model).
use Rattle.std.specs.Prelude.{◌≡◌, ℕ, ◌≤◌, true, false, List, [], ◌∷◌, length, Some, None}
use Rattle.std.specs.declared.option.Option.{Option}
use Rattle.pv_types.specs.Ty.{Ty, Tys, NoTys, MoreTys}
use Rattle.pv_types.specs.Sorts.{bare_type}
use Rattle.pv_prov.specs.declared.names.Prov.{Prov}
use Rattle.pv_inst.specs.declared.values.Instance.{Instance}
use Rattle.pv_inst.specs.Table.{Table, instance_at, IsNumber, IsMadeIn}
use Rattle.pv_inst.specs.Use.{is_heap, is_function}
use Rattle.pv_typed.specs.Known.{Each}
use Rattle.pv_typed.specs.TypedUnits.{layouts, object_at}
use Rattle.pv_world.specs.Worlds.{Worth, Nothing, Missing, Scalar, Whole, World}
use Rattle.pv_world.specs.Objects.{literal_of, function_of, owner_of}
use Rattle.pv_eval.specs.States.{Setting}
use Rattle.pv_eval.specs.TypeForms.{size_of}
use Rattle.pv_eval.specs.Objects.{instance_for}
use Rattle.pv_exec.specs.Laying.{IsLaidOut}
use Rattle.pv_guards.specs.Fair.{IsFair, AreFair, IsFairValue}
use Rattle.pv_guards.specs.Worths.{IsOfType, IsThere}
use Rattle.pv_guards.specs.Typed.{HasBody, IsInScope, IsIn}

-- what an expression gives is fair: a scalar, or each of its bytes (the memory model)
abbrev pub IsFairWorth : Table → Worth → Type 0
IsFairWorth T (Scalar v) = IsFairValue T v
IsFairWorth T (Whole bytes origin) = Each (IsFair T) bytes
IsFairWorth T Nothing = Unit {0}
IsFairWorth T Missing = Unit {0}

-- 6.5p1: a value of this type in this world
abbrev pub Value : Setting → World → Ty → Worth → Type 0
Value b w t v = IsOfType (layouts b.unit) t v × IsFairWorth w.memory.table v

-- 6.5.2.2p4: values of these types, each of which is there (6.9.1p12)
abbrev pub AreValues : Setting → World → Tys → List Worth → Type 0
AreValues b w NoTys [] = Unit {0}
AreValues b w (MoreTys t ts) (v ∷ vs) = Value b w (bare_type t) v × IsThere v × AreValues b w ts vs
AreValues b w NoTys (v ∷ vs) = ⊥
AreValues b w (MoreTys t ts) [] = ⊥

-- 6.2.4p2: a live instance of this size, which is no allocation (7.22.3p1)
abbrev pub IsHomeIn : Option Instance → (size : ℕ) → Type 0
IsHomeIn None n = ⊥
IsHomeIn (Some x) n = (x.live ≡ true) × (is_heap x.kind ≡ false) × (x.size ≡ n)

-- 6.2.4p2: so it is with the instance of this number
abbrev pub IsHome : Table → (i size : ℕ) → Type 0
IsHome T i n = IsHomeIn (instance_at T.instances i) n

-- 6.3.2.1p4: an instance that is that of a function
abbrev pub IsCodeIn : Option Instance → Type 0
IsCodeIn None = ⊥
IsCodeIn (Some x) = is_function x.kind ≡ true

-- 6.3.2.1p4: so it is with the instance of this number
abbrev pub IsCode : Table → ℕ → Type 0
IsCode T i = IsCodeIn (instance_at T.instances i)

-- 6.2.4: what a world keeps where these automatic objects are in scope: instances lie as they do in every run, and bytes are fair; each
-- object in scope lives in an instance of its type's size, which is its own alone; the literals and the functions that are pointed to
-- have instances
pub record IsSound (b : Setting) (os : List ℕ) (w : World) : Type 0 where
  pub laid : IsLaidOut w.memory.table
  pub bytes : AreFair w.memory.table w.memory.bytes
  pub objects : (o : ℕ) → IsInScope b.unit os o → IsHome w.memory.table (instance_for b o w) (size_of b (object_at b.unit o).t)
  pub apart : (o q : ℕ) → IsInScope b.unit os o → IsInScope b.unit os q → instance_for b o w ≡ instance_for b q w → o ≡ q
  pub literals : (l : ℕ) → IsIn l b.unit.instances → IsNumber w.memory.table.instances (literal_of w l)
  pub functions : (f : ℕ) → IsIn f b.unit.placed → IsNumber w.memory.table.instances (function_of w f)
  -- 6.3.2.1p4, 6.9p5: an instance of a function is that of one that is defined
  pub code : (i : ℕ) → IsCode w.memory.table i → (f : ℕ) × (owner_of w i ≡ Some f) × HasBody b.unit f
  -- 6.5p6: what instances were made for is known of no more than there are
  pub owned : length w.owners ≤ length w.memory.table.instances

-- 6.2.4p2, 7.22.3.3p2: an instance is as large as it was, and lives still, unless it is an allocation: no call of the library ends another one
pub record LivesStill (x y : Instance) : Type 0 where
  pub size : y.size ≡ x.size
  pub kind : y.kind ≡ x.kind
  pub live : is_heap x.kind ≡ false → x.live ≡ true → y.live ≡ true

-- 6.2.4p2: the instance with a number, if there was one, lives so still; a new one is none of a function (6.3.2.1p4)
abbrev pub LiveStill : Option Instance → Option Instance → Type 0
LiveStill None None = Unit {0}
LiveStill None (Some y) = is_function y.kind ≡ false
LiveStill (Some x) None = ⊥
LiveStill (Some x) (Some y) = LivesStill x y

-- 6.2.4p2: the instance with each number lives so still
abbrev pub AllLiveStill : Table → Table → Type 0
AllLiveStill T U = (i : ℕ) → LiveStill (instance_at T.instances i) (instance_at U.instances i)

-- the names, bindings and bodies of a world that a later one keeps, and its instances, allocations aside (6.2.4, the memory model)
pub record IsAfter (w z : World) : Type 0 where
  pub made : (p : Prov) → IsMadeIn w.memory.table p → IsMadeIn z.memory.table p
  pub lives : AllLiveStill w.memory.table z.memory.table
  pub statics : z.statics ≡ w.statics
  pub literals : z.literals ≡ w.literals
  pub functions : z.functions ≡ w.functions
  pub bodies : z.bodies ≡ w.bodies
