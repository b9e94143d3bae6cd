-- Each operation on values of the types that typing promises suits: so it does what its rule says (C17 6.3, 6.5).
use Rattle.std.proofs.Common.{◌≡◌, ℕ, ◌+◌, ◌≤◌, refl, ap, Bool, true, false, ◌&&◌, List, [], ◌∷◌, length, Option, None}
use Rattle.std.specs.Prelude.{◌⊎◌, nat_le, if◌then◌else◌, ◌^◌}
use Rattle.std.proofs.lemmas.Bool.{le-leb}
use Rattle.pv_num.specs.declared.kinds.IntKind.{IntKind}
use Rattle.pv_num.specs.declared.operators.BinOp.{BinOp}
use Rattle.pv_num.specs.declared.operators.UnOp.{UnOp}
use Rattle.pv_num.specs.Kinds.{fits_of}
use Rattle.pv_num.specs.Arithmetic.{IsPromoted}
use Rattle.pv_types.specs.Ty.{Ty, VoidTy, IntTy, PointerTo, ArrayOf, StructTag, UnionTag, FunctionTy, ConstOf}
use Rattle.pv_types.specs.Layouts.{Entry, is_complete_in}
use Rattle.pv_types.specs.Sorts.{bare_type}
use Rattle.pv_typed.specs.TypedUnits.{layouts}
use Rattle.pv_seq.specs.Sequencing.{Access}
use Rattle.pv_object.specs.declared.values.Scalar.TheVariants as scalar
use Rattle.pv_world.specs.declared.got.How.{How}
use Rattle.pv_prov.specs.declared.names.Prov.{Prov}
use Rattle.pv_prov.specs.declared.names.Prov.TheVariants.{Empty, Inst, Pair}
use Rattle.pv_inst.specs.Table.{Table, IsMadeIn}
use Rattle.pv_shadow.specs.declared.byte.Byte.{Byte}
use Rattle.pv_object.specs.declared.values.Value.{Value}
use Rattle.pv_object.specs.declared.values.Value.TheVariants.{Int as IntValue, Unset, Pointer as PointerValue}
use Rattle.pv_library.specs.declared.library.Library.{Library}
use Rattle.pv_libc.specs.declared.values.Arg.{Arg}
use Rattle.pv_typed.specs.Known.{Each}
use Rattle.pv_world.specs.Worlds.{Worth, Nothing, Missing, Scalar, Whole, World}
use Rattle.pv_world.specs.Worths.{int_of, missing_value}
use Rattle.pv_world.specs.Telling.{no_telling}
use Rattle.pv_world.specs.Doing.{Done, Fails}
use Rattle.pv_world.specs.Pointers.{is_order}
use Rattle.pv_eval.specs.States.{Setting}
use Rattle.pv_eval.specs.TypeForms.{Lvalue, lvalue, size_of}
use Rattle.pv_world.specs.Suiting.{knows, knows_value, knows_worth, is_size, is_small, is_operand, is_promoted, is_stored, has_part}
use Rattle.pv_world.specs.SuitingParts.{knows_bytes}
use Rattle.pv_eval.specs.LibraryParts.{knows_arguments}
use Rattle.pv_eval.specs.Operations.{Op, Converts, Calculates, CalculatesOne, Tests, Negates, Needs, Moves, Subtracts, Orders, Equals, Selects, TakesPart, Reads, Writes, Asks, Finds, suits, works, does}
use Rattle.pv_guards.specs.Worths.{IsScalar, IsOfType, IsThere}
use Rattle.pv_guards.specs.Typed.{IsSized, IsValueType, MayBeRight}
use Rattle.pv_guards.specs.Fair.{IsFair, IsFairValue, IsArgument}
use Rattle.pv_guards.specs.Soundness.{IsFairWorth}
use Rattle.pv_guards.specs.Plain.{plain_doing}
use Rattle.pv_guards.specs.Promises.{Widens}
use Rattle.pv_guards.proofs.Numbers.{both, fits_tested}
use Rattle.pv_guards.proofs.Values.{number-fits, small-of, integer-of, promoted-of, operand-of, stored-of, part-of}

-- the names in a value were made (the memory model)
abbrev pub Known : World → Worth → Type 0
Known w v = knows_worth w.memory.table v ≡ true

made-known : (T : Table) (p : Prov) → IsMadeIn T p → knows T p ≡ true
made-known T Empty h = refl
made-known T (Inst i) h = both (nat_le 1 i) (nat_le i (length T.instances)) (le-leb 1 i h.0) (le-leb i (length T.instances) h.1)
made-known T (Pair k) h = both (nat_le 1 k) (nat_le k (length T.pairs)) (le-leb 1 k h.0) (le-leb k (length T.pairs) h.1)

value-known : (T : Table) (v : Value) → IsFairValue T v → knows_value T v ≡ true
value-known T (PointerValue p) h = made-known T p.prov h.0
value-known T (IntValue n) h = refl
value-known T Unset h = refl

bytes-known : (T : Table) (bs : List Byte) → Each (IsFair T) bs → knows_bytes T bs ≡ true
bytes-known T [] h = refl
bytes-known T (x ∷ bs) h = both (knows T x.prov) (knows_bytes T bs) (made-known T x.prov h.0.named) (bytes-known T bs h.1)

arguments-known : (T : Table) (args : List Arg) → Each (λ (x : Arg). IsArgument T x.value) args → knows_arguments T args ≡ true
arguments-known T [] h = refl
arguments-known T (x ∷ args) h = both (knows_value T x.value) (knows_arguments T args) (value-known T x.value h.0.0) (arguments-known T args h.1)

-- the names in a fair value were made
pub fair-known : (w : World) (v : Worth) → IsFairWorth w.memory.table v → Known w v
fair-known w (Scalar v) h = value-known w.memory.table v h
fair-known w (Whole bs a) h = bytes-known w.memory.table bs h
fair-known w Nothing h = refl
fair-known w Missing h = refl

-- an operation that suits does what its rule says
pub suited : (b : Setting) (op : Op) (w : World) → suits b op w ≡ true → does b op w ≡ works b op w
suited b op w e = ap (λ c. if c then works b op w else Fails missing_value None w no_telling) e

module _ (b : Setting) (w : World) where
  -- 6.3
  pub converts : (how : How) (t : Ty) (v : Worth) → IsOfType (layouts b.unit) t v → Known w v → does b (Converts how v) w ≡ plain_doing b (Converts how v) w
  converts how t v h k = suited b (Converts how v) w (both (is_small v) (knows_worth w.memory.table v) (small-of (layouts b.unit) t v h) k)

  -- 6.5.5 to 6.5.12
  pub calculates : (o : BinOp) (j k l : IntKind) (v x : Worth) → IsPromoted k → Widens j k → MayBeRight o k l → IsScalar (scalar.Int j) v → IsScalar (scalar.Int l) x → does b (Calculates o k v x) w ≡ plain_doing b (Calculates o k v x) w
  calculates o j k l v x p wide m h g =
      suited b (Calculates o k v x) w
      (both (is_promoted k && fits_of k (int_of v)) (is_operand o k (int_of x))
      (both (is_promoted k) (fits_of k (int_of v)) (promoted-of k p) (fits_tested k (int_of v) (wide (int_of v) (number-fits j v h))))
      (operand-of o k l (int_of x) m (number-fits l x g)))

  -- 6.5.3.3
  pub calculates-one : (o : UnOp) (k : IntKind) (v : Worth) → IsPromoted k → IsScalar (scalar.Int k) v → does b (CalculatesOne o k v) w ≡ plain_doing b (CalculatesOne o k v) w
  calculates-one o k v p h =
      suited b (CalculatesOne o k v) w (both (is_promoted k) (fits_of k (int_of v)) (promoted-of k p) (fits_tested k (int_of v) (number-fits k v h)))

  -- 6.5.3.3p5, 6.5.13p3, 6.8.4.1p2
  pub tests : (v : Worth) → Known w v → does b (Tests v) w ≡ plain_doing b (Tests v) w
  tests v k = suited b (Tests v) w k

  pub negates : (v : Worth) → Known w v → does b (Negates v) w ≡ plain_doing b (Negates v) w
  negates v k = suited b (Negates v) w k

  -- 6.8.4.2p5
  pub needs : (k : IntKind) (v : Worth) → IsScalar (scalar.Int k) v → does b (Needs v) w ≡ plain_doing b (Needs v) w
  needs k v h = suited b (Needs v) w (integer-of k v h)

  -- 6.5.6p8, 6.5.2.1p2
  pub moves : (minus first : Bool) (size : ℕ) (t u : Ty) (v x : Worth) → size ≤ 2 ^ 32 → IsOfType (layouts b.unit) t v → IsOfType (layouts b.unit) u x → Known w v → Known w x → does b (Moves minus first size v x) w ≡ plain_doing b (Moves minus first size v x) w
  moves minus first size t u v x le h g k j =
      suited b (Moves minus first size v x) w
      (both (is_size size) ((is_small v && is_small x) && (knows_worth w.memory.table v && knows_worth w.memory.table x)) (le-leb size (2 ^ 32) le)
      (both (is_small v && is_small x) (knows_worth w.memory.table v && knows_worth w.memory.table x)
      (both (is_small v) (is_small x) (small-of (layouts b.unit) t v h) (small-of (layouts b.unit) u x g))
      (both (knows_worth w.memory.table v) (knows_worth w.memory.table x) k j)))

  -- 6.5.6p9
  pub subtracts : (size : ℕ) (v x : Worth) → 1 ≤ size → size ≤ 2 ^ 32 → Known w v → Known w x → does b (Subtracts size v x) w ≡ plain_doing b (Subtracts size v x) w
  subtracts size v x some le k j =
      suited b (Subtracts size v x) w
      (both (is_size size) (nat_le 1 size && (knows_worth w.memory.table v && knows_worth w.memory.table x)) (le-leb size (2 ^ 32) le)
      (both (nat_le 1 size) (knows_worth w.memory.table v && knows_worth w.memory.table x) (le-leb 1 size some) (both (knows_worth w.memory.table v) (knows_worth w.memory.table x) k j)))

  -- 6.5.8p5, 6.5.9p6
  pub orders : (o : BinOp) (v x : Worth) → is_order o ≡ true → Known w v → Known w x → does b (Orders o v x) w ≡ plain_doing b (Orders o v x) w
  orders o v x e k j =
      suited b (Orders o v x) w (both (is_order o) (knows_worth w.memory.table v && knows_worth w.memory.table x) e (both (knows_worth w.memory.table v) (knows_worth w.memory.table x) k j))

  pub equals : (negated : Bool) (v x : Worth) → Known w v → Known w x → does b (Equals negated v x) w ≡ plain_doing b (Equals negated v x) w
  equals negated v x k j = suited b (Equals negated v x) w (both (knows_worth w.memory.table v) (knows_worth w.memory.table x) k j)

  -- 7.1.4p1
  pub asks-it : (f : Library) (args : List Arg) → Each (λ (x : Arg). IsArgument w.memory.table x.value) args → does b (Asks f args) w ≡ plain_doing b (Asks f args) w
  asks-it f args h = suited b (Asks f args) w (arguments-known w.memory.table args h)

  -- 6.5.2.2p1
  pub finds-it : (t : Ty) (v : Worth) → Known w v → does b (Finds t v) w ≡ plain_doing b (Finds t v) w
  finds-it t v k = suited b (Finds t v) w k

  -- 6.5.2.3p4
  pub selects : (offset : ℕ) (v : Worth) → Known w v → does b (Selects offset v) w ≡ plain_doing b (Selects offset v) w
  selects offset v k = suited b (Selects offset v) w k

  -- 6.5.2.3p3
  pub takes-part : (offset : ℕ) (t u : Ty) (v : Worth) → IsSized (layouts b.unit) t → ((n : ℕ) × (u ≡ StructTag n)) ⊎ ((n : ℕ) × (u ≡ UnionTag n)) → offset + size_of b t ≤ size_of b u → IsOfType (layouts b.unit) u v → Known w v → does b (TakesPart offset (lvalue b t) v) w ≡ plain_doing b (TakesPart offset (lvalue b t) v) w
  takes-part offset t u v sized tag le h k =
      suited b (TakesPart offset (lvalue b t) v) w
      (both (is_size (size_of b t)) (has_part v offset (size_of b t) && knows_worth w.memory.table v) (le-leb (size_of b t) (2 ^ 32) sized.small)
      (both (has_part v offset (size_of b t)) (knows_worth w.memory.table v) (part-of (layouts b.unit) u offset (size_of b t) v tag le h) k))

  bare-complete : (env : List Entry) (t : Ty) → is_complete_in env t ≡ true → is_complete_in env (bare_type t) ≡ true
  bare-complete env (ConstOf t) e = bare-complete env t e
  bare-complete env (IntTy k) e = e
  bare-complete env (PointerTo t) e = e
  bare-complete env (StructTag n) e = e
  bare-complete env (UnionTag n) e = e
  bare-complete env (ArrayOf t n) e = e
  bare-complete env (FunctionTy t ts c) e = e
  bare-complete env VoidTy e = e

  sized-tested : (t : Ty) → IsSized (layouts b.unit) t → (is_complete_in (layouts b.unit) (bare_type t) && (nat_le 1 (size_of b t) && is_size (size_of b t))) ≡ true
  sized-tested t sized =
      both (is_complete_in (layouts b.unit) (bare_type t)) (nat_le 1 (size_of b t) && is_size (size_of b t)) (bare-complete (layouts b.unit) t sized.complete)
      (both (nat_le 1 (size_of b t)) (is_size (size_of b t)) (le-leb 1 (size_of b t) sized.some) (le-leb (size_of b t) (2 ^ 32) sized.small))

  -- 6.3.2.1p2
  pub reads : (t : Ty) (place : Worth) (rivals : List Access) → IsSized (layouts b.unit) t → Known w place → does b (Reads (lvalue b t) place rivals) w ≡ plain_doing b (Reads (lvalue b t) place rivals) w
  reads t place rivals sized k =
      suited b (Reads (lvalue b t) place rivals) w
      (both (is_complete_in (layouts b.unit) (bare_type t) && (nat_le 1 (size_of b t) && is_size (size_of b t))) (knows_worth w.memory.table place) (sized-tested t sized) k)

  -- 6.5.16p3, of a value that is there
  pub writes : (t : Ty) (place v : Worth) (from : Option ℕ) (rivals : List Access) → IsSized (layouts b.unit) t → IsValueType (bare_type t) → IsOfType (layouts b.unit) (bare_type t) v → IsThere v → Known w place → Known w v → does b (Writes (lvalue b t) place v from rivals) w ≡ plain_doing b (Writes (lvalue b t) place v from rivals) w
  writes t place v from rivals sized valued h there k j =
      suited b (Writes (lvalue b t) place v from rivals) w
      (both (is_complete_in (layouts b.unit) (bare_type t) && (nat_le 1 (size_of b t) && is_size (size_of b t))) (is_stored (lvalue b t).shape (size_of b t) v && (knows_worth w.memory.table place && knows_worth w.memory.table v))
      (sized-tested t sized)
      (both (is_stored (lvalue b t).shape (size_of b t) v) (knows_worth w.memory.table place && knows_worth w.memory.table v) (stored-of (layouts b.unit) t v valued h there)
      (both (knows_worth w.memory.table place) (knows_worth w.memory.table v) k j)))

-- 6.9.1p12: of a missing value the guard is met, and says what the rule says
either : (c : Bool) (d : Done) → (if c then d else d) ≡ d
either true d = refl
either false d = refl

pub writes-missing : (b : Setting) (w : World) (l : Lvalue) (place : Worth) (from : Option ℕ) (rivals : List Access) → does b (Writes l place Missing from rivals) w ≡ plain_doing b (Writes l place Missing from rivals) w
writes-missing b w l place from rivals = either (suits b (Writes l place Missing from rivals) w) _
