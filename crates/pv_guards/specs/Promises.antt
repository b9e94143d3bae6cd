-- What typing promises of each operation of an expression (C17 6.3, 6.5): the types of its operands, and of what it gives.
use Rattle.std.specs.Prelude.{◌≡◌, ◌⊎◌, ℕ, ◌+◌, ◌≤◌, ◌^◌, ℤ, Bool, true, false, List}
use Rattle.pv_num.specs.declared.kinds.IntKind.{IntKind}
use Rattle.pv_num.specs.declared.kinds.IntKind.TheVariants.{Int, Long}
use Rattle.pv_num.specs.Kinds.{Fits}
use Rattle.pv_num.specs.Arithmetic.{IsPromoted, yielded_kind}
use Rattle.pv_types.specs.Ty.{Ty, VoidTy, IntTy, PointerTo}
use Rattle.pv_types.specs.Sorts.{bare_type}
use Rattle.pv_typed.specs.TypedUnits.{layouts}
use Rattle.pv_world.specs.declared.got.How.{How}
use Rattle.pv_world.specs.declared.got.How.TheVariants.{Rounds}
use Rattle.pv_world.specs.Worlds.{World}
use Rattle.pv_world.specs.Pointers.{is_order}
use Rattle.pv_eval.specs.States.{Setting}
use Rattle.pv_eval.specs.TypeForms.{lvalue, size_of}
use Rattle.pv_eval.specs.Conversions.{how_to}
use Rattle.pv_eval.specs.Operations.{Op, Converts, Calculates, CalculatesOne, Tests, Negates, Accepts, Needs, Moves, Subtracts, Orders, Equals, Follows, Selects, TakesPart, Reads, Writes, NamesObject, NamesLiteral, NamesFunction, Asks}
use Rattle.pv_library.specs.LibraryTypes.{prototype}
use Rattle.pv_libc.specs.declared.values.Arg.{Arg}
use Rattle.pv_typed.specs.Known.{Each}
use Rattle.pv_guards.specs.Ruled.{takes_arguments}
use Rattle.pv_guards.specs.Worths.{IsThere}
use Rattle.pv_guards.specs.Typed.{IsSized, IsValueType, IsScalarType, IsIntegerType, IsTag, MayBeRight, MayCast, IsResultOf, IsIn, IsInScope}
use Rattle.pv_guards.specs.Fair.{IsArgument}
use Rattle.pv_guards.specs.Soundness.{Value}

-- 6.3: the conversion is one from this type to that one
abbrev pub Leads : Setting → How → (from to : Ty) → Type 0
Leads b how t u = ((implied : Bool) × (how ≡ how_to b implied t u) × MayCast t u) ⊎ ((k : IntKind) × (how ≡ Rounds k) × (u ≡ IntTy k) × IsIntegerType t)

-- 6.3.1.1p2: the kind has all numbers of the other one
abbrev pub Widens : IntKind → IntKind → Type 0
Widens j k = (n : ℤ) → Fits j n → Fits k n

-- 6.5.3.2p4: `*` of a pointer to void gives nothing, that of another one a place
abbrev pub FollowsTo : Bool → Ty → Type 0
FollowsTo true t = t ≡ VoidTy
FollowsTo false t = (s : Ty) × (t ≡ PointerTo s)

-- 6.5.6p2, 6.5.2.1p1: of the operands of a sum one is a pointer, and the other an integer
abbrev pub Shifts : (pointer_first : Bool) → (left right : Ty) → Type 0
Shifts true t u = ((s : Ty) × (t ≡ PointerTo s)) × IsIntegerType u
Shifts false t u = IsIntegerType t × ((s : Ty) × (u ≡ PointerTo s))

-- 6.3, 6.5: the operands of an operation, and the type of what it gives
abbrev pub Promised : Setting → (automatic : List ℕ) → World → Op → Ty → Type 0
Promised b os w (Converts how v) t = (u : Ty) × Value b w u v × Leads b how u t
Promised b os w (Calculates o k v x) t = (j : IntKind) × (l : IntKind) × IsPromoted k × Widens j k × MayBeRight o k l × Value b w (IntTy j) v × Value b w (IntTy l) x × (t ≡ IntTy (yielded_kind o k))
Promised b os w (CalculatesOne o k v) t = IsPromoted k × Value b w (IntTy k) v × (t ≡ IntTy k)
Promised b os w (Tests v) t = (u : Ty) × Value b w u v × (t ≡ IntTy Int) × IsScalarType u
Promised b os w (Negates v) t = (u : Ty) × Value b w u v × (t ≡ IntTy Int) × IsScalarType u
Promised b os w (Accepts v) t = Value b w t v
Promised b os w (Needs v) t = (k : IntKind) × (t ≡ IntTy k) × Value b w t v
Promised b os w (Moves minus first size v x) t = (u : Ty) × (r : Ty) × (p : Ty) × Value b w u v × Value b w r x × (size ≤ 2 ^ 32) × (t ≡ PointerTo p) × Shifts first u r
Promised b os w (Subtracts size v x) t = (u : Ty) × (r : Ty) × Value b w (PointerTo u) v × Value b w (PointerTo r) x × (1 ≤ size) × (size ≤ 2 ^ 32) × (t ≡ IntTy Long)
Promised b os w (Orders o v x) t = (u : Ty) × (r : Ty) × Value b w (PointerTo u) v × Value b w (PointerTo r) x × (is_order o ≡ true) × (t ≡ IntTy Int)
Promised b os w (Equals negated v x) t = (u : Ty) × (r : Ty) × Value b w (PointerTo u) v × Value b w (PointerTo r) x × (t ≡ IntTy Int)
Promised b os w (Follows nothing v) t = (u : Ty) × Value b w (PointerTo u) v × FollowsTo nothing t
Promised b os w (Selects offset v) t = (u : Ty) × (r : Ty) × Value b w (PointerTo u) v × (t ≡ PointerTo r)
Promised b os w (TakesPart offset l v) t =
    (u : Ty) × Value b w u v × IsTag u × IsSized (layouts b.unit) t × IsValueType t × (l ≡ lvalue b t) × (offset + size_of b t ≤ size_of b u)
Promised b os w (Reads l place rivals) t = (u : Ty) × (l ≡ lvalue b u) × IsSized (layouts b.unit) u × IsValueType (bare_type u) × (t ≡ bare_type u) × Value b w (PointerTo u) place × IsThere place
Promised b os w (Writes l place v from rivals) t =
    (u : Ty) × (l ≡ lvalue b u) × IsSized (layouts b.unit) u × IsValueType (bare_type u) × (t ≡ bare_type u) × Value b w (PointerTo u) place × Value b w t v × IsThere place
Promised b os w (NamesObject o) t = (r : Ty) × (t ≡ PointerTo r) × IsInScope b.unit os o
Promised b os w (NamesLiteral l) t = (r : Ty) × (t ≡ PointerTo r) × IsIn l b.unit.instances
Promised b os w (NamesFunction f) t = (r : Ty) × (t ≡ PointerTo r) × IsIn f b.unit.placed
Promised b os w (Asks f args) t = IsResultOf f t × Each (λ (x : Arg). IsArgument w.memory.table x.value) args × (takes_arguments (prototype f) args ≡ true)
Promised b os w op t = ⊥
