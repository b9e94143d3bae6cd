-- Operations that change the table of a world alone: where one answers, its value is of its type (C17 6.3, 6.5).
use Rattle.std.proofs.Common.{◌≡◌, ℕ, ◌+◌, ◌<◌, ◌≤◌, ◌^◌, ℤ, pos, ◌-ℤ◌, Bool, true, false, ◌&&◌, not, List, length, Option, Some, None, Result, Ok, Err, refl, sym, ap, subst, inl, inr, IfOk, int_eq, int_lt, int_le}
use Rattle.std.specs.Prelude.{if◌then◌else◌}
use Rattle.std.specs.declared.cmp.Ordering.{Ordering}
use Rattle.pv_num.specs.declared.kinds.IntKind.{IntKind}
use Rattle.pv_num.specs.declared.kinds.IntKind.TheVariants.{Bool as BoolKind, Char, SChar, UChar, Short, UShort, Int, UInt, Long, ULong, LLong, ULLong}
use Rattle.pv_num.specs.declared.operators.ArithmeticFault.{ArithmeticFault}
use Rattle.pv_fault.specs.declared.faults.Clause.TheVariants.{AdditionOfPointers, SubtractionOfPointers, OrderOfPointers, Indirection}
use Rattle.pv_num.specs.declared.operators.BinOp.{BinOp}
use Rattle.pv_num.specs.declared.operators.BinOp.TheVariants as bin
use Rattle.pv_num.specs.Kinds.{Fits, fits_of, convert_of, is_character_kind}
use Rattle.pv_num.specs.Arithmetic.{one_if, binary_of}
use Rattle.pv_num.proofs.Congruence.{equal_fits}
use Rattle.pv_types.specs.Ty.{Ty, VoidTy, IntTy, PointerTo, ArrayOf, StructTag, UnionTag, FunctionTy, ConstOf}
use Rattle.pv_types.specs.Layouts.{layout_in}
use Rattle.pv_types.specs.Sorts.{bare_type}
use Rattle.pv_prov.specs.declared.names.Prov.{Prov}
use Rattle.pv_prov.specs.declared.names.Prov.TheVariants.{Empty, Inst, Pair}
use Rattle.pv_inst.specs.declared.values.Instance.{Instance}
use Rattle.pv_inst.specs.declared.values.Test.TheVariants.{Live}
use Rattle.pv_inst.specs.declared.values.Tried.{Tried}
use Rattle.pv_inst.specs.declared.values.Miss.{Miss}
use Rattle.pv_inst.specs.Table.{Table, instance_at, IsMadeIn}
use Rattle.pv_inst.specs.Use.{use_answer, after_use}
use Rattle.pv_shadow.specs.declared.byte.Byte.{Byte}
use Rattle.pv_object.specs.declared.values.Pointer.{Pointer}
use Rattle.pv_object.specs.declared.values.Scalar.{Scalar as ScalarType}
use Rattle.pv_object.specs.declared.values.Scalar.TheVariants as scalar
use Rattle.pv_object.specs.declared.values.Stop.{Stop}
use Rattle.pv_object.specs.declared.values.Value.{Value as ScalarValue}
use Rattle.pv_object.specs.declared.values.Value.TheVariants.{Int as IntValue, Unset, Pointer as PointerValue}
use Rattle.pv_object.specs.Loading.{Loaded, value_of as load_of}
use Rattle.pv_object.specs.Operations.{truth, recast, to_int, to_int_after, exposed_to, together, order, pointer_equality, shift, select}
use Rattle.pv_typed.specs.Known.{Each}
use Rattle.pv_typed.specs.TypedUnits.{layouts}
use Rattle.pv_watch.specs.declared.event.What.{What}
use Rattle.pv_world.specs.declared.got.Shape.{Shape}
use Rattle.pv_world.specs.declared.got.Shape.TheVariants as shape
use Rattle.pv_world.specs.declared.got.How.{How}
use Rattle.pv_world.specs.declared.got.How.TheVariants.{Rounds, Passes, Numbers, Points, Recasts}
use Rattle.pv_world.specs.Worlds.{Worth, Nothing, Missing, Scalar, Whole, World, with_table}
use Rattle.pv_world.specs.Worths.{pointer, truth_int, int_of, pointer_of, why_not_set, why_missing, on_set_value, on_present_value}
use Rattle.pv_world.specs.Telling.{Told, all_told}
use Rattle.pv_world.specs.Doing.{Done}
use Rattle.pv_world.specs.Conversions.{truth_by, truth_value, truth_worth, tests, opposite, number_by, recast_by, converts}
use Rattle.pv_world.specs.Pointers.{moved_by, moves, distance, in_elements, elements_by, between_by, subtracts, ordered_by, orders, equal_by, equals, is_order}
use Rattle.pv_world.specs.PointerParts.{between, selects}
use Rattle.pv_world.specs.Calculations.{follows_to}
use Rattle.pv_world.specs.Accesses.{scalar_by, worth_in}
use Rattle.pv_eval.specs.States.{Setting}
use Rattle.pv_eval.specs.TypeForms.{shape_of}
use Rattle.pv_eval.specs.Conversions.{how_to, how_to_int}
use Rattle.pv_world.proofs.Guards.{fits_is}
use Rattle.pv_guards.specs.Worths.{IsScalar}
use Rattle.pv_guards.specs.Typed.{IsValueType, MayCast}
use Rattle.pv_guards.specs.Fair.{IsFair, IsFairValue}
use Rattle.pv_guards.specs.Soundness.{Value, AllLiveStill}
use Rattle.pv_guards.specs.Promises.{Leads, FollowsTo}
use Rattle.pv_guards.proofs.Numbers.{zero_fits, one_in}
use Rattle.pv_guards.proofs.Fair.{Keeps}
use Rattle.pv_guards.proofs.Living.{all-same, all-on, same-live, truth-live, equal-live, to_ptr-live, recast-live, to_int-live, move-live, together-live, value-live}
use Rattle.pv_guards.proofs.Pointing.{IsPointing, Loads, Points as PointsTo, settled-made, value-loads, ptr-points, move-points, together-named}
use Rattle.pv_guards.proofs.Differences.{difference-fits}
use Rattle.pv_guards.proofs.Results.{Answering, unless-answers}

-- the name in any value was made
pub pointer-made : (b : Setting) (w : World) (t : Ty) (v : Worth) → Value b w t v → IsMadeIn w.memory.table (pointer_of v).prov
pointer-made b w t (Scalar (PointerValue p)) h = h.1.0
pointer-made b w t (Scalar (IntValue n)) h = tt
pointer-made b w t (Scalar Unset) h = tt
pointer-made b w t Nothing h = tt
pointer-made b w t Missing h = tt
pointer-made b w t (Whole bs a) h = tt

-- the world with another table, in which its instances live still, and a value of this type in it
abbrev pub TabledIn : Setting → World → Ty → Worth → World → Type 0
TabledIn b w t v z = (z ≡ with_table w z.memory.table) × AllLiveStill w.memory.table z.memory.table × Value b z t v

told-keeps : (T : Table) → Keeps T (all_told T)
told-keeps T Empty h = h
told-keeps T (Inst i) h = h
told-keeps T (Pair k) h = h

-- 6.3.2.3p6: a number that fits
abbrev NumberFits : IntKind → Result (ℤ × Tried) Stop × Table → Type 0
NumberFits k (Ok r, T) = Fits k r.0
NumberFits k (Err y, T) = Unit {0}

exposed-fits : (T : Table) (p : Pointer) (k : IntKind) (tried : Tried) (c : Bool) → fits_of k (pos p.address) ≡ c → NumberFits k (exposed_to T p c tried)
exposed-fits T p k tried true e = fits_is k (pos p.address) e
exposed-fits T p k tried false e = tt

to-fits : (T : Table) (p : Pointer) (k : IntKind) (r : Result Tried Miss) → NumberFits k (to_int_after T p k r)
to-fits T p k (Err m) = tt
to-fits T p k (Ok tried) = exposed-fits (after_use T p.prov (Ok tried)) p k tried (fits_of k (pos p.address)) refl

right-true : (a b : Bool) → (a && b) ≡ true → b ≡ true
right-true true b e = e
right-true false b e = absurd cc

if-int : (c : Bool) → Fits Int (one_if c)
if-int true = one_in Int
if-int false = zero_fits Int

-- 6.5.8p6: an operator of order gives 1 or 0
order-fits : (o : BinOp) (a c : ℤ) → is_order o ≡ true → IfOk (binary_of o Int a c) (Fits Int)
order-fits bin.Lt a c e = if-int (int_lt a c)
order-fits bin.Gt a c e = if-int (int_lt c a)
order-fits bin.Le a c e = if-int (int_le a c)
order-fits bin.Ge a c e = if-int (int_le c a)
order-fits bin.Add a c e = absurd cc
order-fits bin.Sub a c e = absurd cc
order-fits bin.Mul a c e = absurd cc
order-fits bin.Div a c e = absurd cc
order-fits bin.Rem a c e = absurd cc
order-fits bin.Shl a c e = absurd cc
order-fits bin.Shr a c e = absurd cc
order-fits bin.And a c e = absurd cc
order-fits bin.Or a c e = absurd cc
order-fits bin.Xor a c e = absurd cc
order-fits bin.Eq a c e = absurd cc
order-fits bin.Ne a c e = absurd cc

module _ (b : Setting) (w : World) (within : (i : ℕ) (x : Instance) → instance_at w.memory.table.instances i ≡ Some x → x.base + x.size ≤ 2 ^ 47) where
  abbrev Tabled : Ty → Worth → World → Type 0
  Tabled t v z = TabledIn b w t v z

  -- the same table, and another one
  here : AllLiveStill w.memory.table w.memory.table
  here = all-same w.memory.table

  abbrev LivesOn : Table → Type 0
  LivesOn U = AllLiveStill w.memory.table U

  -- a value that is there and was set
  pointer-plain : (u : Ty) (v : Worth) (Q : Worth → World → Type 0) (go : Worth → Done) → Value b w (PointerTo u) v → ((p : Pointer) → IsPointing w.memory.table p → Answering Q (go (pointer p))) → Answering Q (on_set_value v w go)
  pointer-plain u (Scalar (PointerValue p)) Q go h g = g p (h.0, h.1)
  pointer-plain u (Scalar (IntValue n)) Q go h g = absurd h.0
  pointer-plain u (Scalar Unset) Q go h g = absurd h.0
  pointer-plain u Missing Q go h g = tt
  pointer-plain u Nothing Q go h g = absurd h.0
  pointer-plain u (Whole bs a) Q go h g = absurd h.0

  pointer-present : (u : Ty) (v : Worth) (Q : Worth → World → Type 0) (go : Worth → Done) → Value b w (PointerTo u) v → ((p : Pointer) → IsPointing w.memory.table p → Answering Q (go (pointer p))) → Answering Q (on_present_value v w go)
  pointer-present u (Scalar (PointerValue p)) Q go h g = g p (h.0, h.1)
  pointer-present u (Scalar (IntValue n)) Q go h g = absurd h.0
  pointer-present u (Scalar Unset) Q go h g = absurd h.0
  pointer-present u Missing Q go h g = tt
  pointer-present u Nothing Q go h g = absurd h.0
  pointer-present u (Whole bs a) Q go h g = absurd h.0

  -- truth
  truth-gives : (t : Ty) (p : Pointer) (give : Bool → Worth) (got : Result (Bool × Tried) Stop × Table) → LivesOn got.1 → ((c : Bool) (z : World) → Value b z t (give c)) → Answering (Tabled t) (truth_by w p got give)
  truth-gives t p give (Ok r, T) l h = (refl, l, h r.0 (with_table w T))
  truth-gives t p give (Err y, T) l h = tt

  truth-of-value : (t : Ty) (give : Bool → Worth) (v : ScalarValue) → ((c : Bool) (z : World) → Value b z t (give c)) → Answering (Tabled t) (truth_value w v give)
  truth-of-value t give (IntValue n) h = (refl, here, h (not (int_eq n (pos 0))) w)
  truth-of-value t give (PointerValue p) h = truth-gives t p give (truth w.memory.table p) (truth-live w.memory.table p) h
  truth-of-value t give Unset h = (refl, here, h false w)

  truth-of : (t : Ty) (give : Bool → Worth) (v : Worth) → ((c : Bool) (z : World) → Value b z t (give c)) → Answering (Tabled t) (truth_worth w give v)
  truth-of t give (Scalar v) h = truth-of-value t give v h
  truth-of t give Nothing h = (refl, here, h false w)
  truth-of t give Missing h = (refl, here, h false w)
  truth-of t give (Whole bs a) h = (refl, here, h false w)

  pub tests-gives : (t : Ty) (give : Bool → Worth) (v : Worth) → ((c : Bool) (z : World) → Value b z t (give c)) → Answering (Tabled t) (tests give v w)
  tests-gives t give v h = unless-answers (Tabled t) (why_not_set v) w _ (truth-of t give v h)

  pub truth-value : (k : IntKind) (c : Bool) (z : World) → Value b z (IntTy k) (truth_int c)
  truth-value k true z = (one_in k, tt)
  truth-value k false z = (zero_fits k, tt)

  pub opposite-value : (k : IntKind) (c : Bool) (z : World) → Value b z (IntTy k) (opposite c)
  opposite-value k true z = (zero_fits k, tt)
  opposite-value k false z = (one_in k, tt)

  -- conversions
  rounds-gives : (k : IntKind) (v : Worth) → Answering (Tabled (IntTy k)) (converts (Rounds k) v w)
  rounds-gives k v = unless-answers (Tabled (IntTy k)) (why_not_set v) w _ (refl, here, (equal_fits k (int_of v) (convert_of k (int_of v)) refl refl, tt))

  passes-gives : (j k : IntKind) (v : Worth) → is_character_kind k ≡ true → Value b w (IntTy j) v → Answering (Tabled (IntTy k)) (converts (Passes k) v w)
  passes-gives j k (Scalar (IntValue n)) e h = (refl, here, (equal_fits k n (convert_of k n) refl refl, tt))
  passes-gives j k (Scalar Unset) e h = (refl, here, (e, tt))
  passes-gives j k (Scalar (PointerValue p)) e h = absurd h.0
  passes-gives j k Missing e h = tt
  passes-gives j k Nothing e h = absurd h.0
  passes-gives j k (Whole bs a) e h = absurd h.0

  pass-or-round : (c : Bool) (j k : IntKind) (v : Worth) → (c ≡ true → is_character_kind k ≡ true) → Value b w (IntTy j) v → Answering (Tabled (IntTy k)) (converts (if c then Passes k else Rounds k) v w)
  pass-or-round true j k v e h = passes-gives j k v (e refl) h
  pass-or-round false j k v e h = rounds-gives k v

  ints-gives : (implied : Bool) (j k : IntKind) (v : Worth) → Value b w (IntTy j) v → Answering (Tabled (IntTy k)) (converts (how_to_int implied (shape.Int j) k) v w)
  ints-gives true j k v h = pass-or-round (is_character_kind j && is_character_kind k) j k v (right-true (is_character_kind j) (is_character_kind k)) h
  ints-gives false j k v h = rounds-gives k v

  number-gives : (k : IntKind) (p : Pointer) (got : Result (ℤ × Tried) Stop × Table) → LivesOn got.1 → NumberFits k got → Answering (Tabled (IntTy k)) (number_by w p got)
  number-gives k p (Ok r, T) l h = (refl, all-on w.memory.table T (all_told T) l (same-live T (all_told T) refl), (h, tt))
  number-gives k p (Err y, T) l h = tt

  numbers-gives : (k : IntKind) (v : Worth) → Answering (Tabled (IntTy k)) (converts (Numbers k) v w)
  numbers-gives k v =
      unless-answers (Tabled (IntTy k)) (why_not_set v) w _ (number-gives k (pointer_of v) (to_int w.memory.table (pointer_of v) k) (to_int-live w.memory.table (pointer_of v) k) (to-fits w.memory.table (pointer_of v) k (use_answer w.memory.table (pointer_of v).prov Live)))

  pointer-number : (implied : Bool) (k : IntKind) (v : Worth) → Answering (Tabled (IntTy k)) (converts (how_to_int implied shape.Pointer k) v w)
  pointer-number implied BoolKind v = tests-gives (IntTy BoolKind) truth_int v (truth-value BoolKind)
  pointer-number implied Char v = numbers-gives Char v
  pointer-number implied SChar v = numbers-gives SChar v
  pointer-number implied UChar v = numbers-gives UChar v
  pointer-number implied Short v = numbers-gives Short v
  pointer-number implied UShort v = numbers-gives UShort v
  pointer-number implied Int v = numbers-gives Int v
  pointer-number implied UInt v = numbers-gives UInt v
  pointer-number implied Long v = numbers-gives Long v
  pointer-number implied ULong v = numbers-gives ULong v
  pointer-number implied LLong v = numbers-gives LLong v
  pointer-number implied ULLong v = numbers-gives ULLong v

  points-gives : (s : Ty) (v : Worth) → Answering (Tabled (PointerTo s)) (converts Points v w)
  points-gives s v = unless-answers (Tabled (PointerTo s)) (why_not_set v) w _ (refl, to_ptr-live w.memory.table (int_of v), ptr-points w.memory.table within (int_of v))

  recast-gives : (s : Ty) (p : Pointer) (got : Result Tried Stop × Table) → LivesOn got.1 → IsPointing got.1 p → Answering (Tabled (PointerTo s)) (recast_by w p got)
  recast-gives s p (Ok tried, T) l h = (refl, l, h)
  recast-gives s p (Err y, T) l h = tt

  later-pointing : (p : Pointer) (r : Result Tried Miss) → IsPointing w.memory.table p → IsPointing (after_use w.memory.table p.prov r) p
  later-pointing p r h = (h.0, (settled-made w.memory.table p.prov p.prov r h.1.0, h.1.1))

  recasts-gives : (n : ℕ) (r s : Ty) (v : Worth) → Value b w (PointerTo r) v → Answering (Tabled (PointerTo s)) (converts (Recasts n) v w)
  recasts-gives n r s v h = pointer-plain r v (Tabled (PointerTo s)) (λ x. recast_by w (pointer_of x) (recast w.memory.table (pointer_of x) n)) h (λ p g. recast-gives s p (recast w.memory.table p n) (recast-live w.memory.table p n) (later-pointing p (use_answer w.memory.table p.prov Live) g))

  cast-gives : (implied : Bool) (t u : Ty) (v : Worth) → MayCast t u → Value b w t v → Answering (Tabled u) (converts (how_to b implied t u) v w)
  cast-gives implied t VoidTy v m h = (refl, here, (tt, tt))
  cast-gives implied (IntTy j) (IntTy k) v m h = ints-gives implied j k v h
  cast-gives implied (PointerTo r) (IntTy k) v m h = pointer-number implied k v
  cast-gives implied (IntTy j) (PointerTo s) v m h = points-gives s v
  cast-gives implied (PointerTo r) (PointerTo s) v m h = recasts-gives _ r s v h
  cast-gives implied VoidTy (IntTy k) v m h = absurd m.0
  cast-gives implied (ArrayOf a n) (IntTy k) v m h = absurd m.0
  cast-gives implied (StructTag n) (IntTy k) v m h = absurd m.0
  cast-gives implied (UnionTag n) (IntTy k) v m h = absurd m.0
  cast-gives implied (FunctionTy a ts c) (IntTy k) v m h = absurd m.0
  cast-gives implied (ConstOf a) (IntTy k) v m h = absurd m.0
  cast-gives implied VoidTy (PointerTo s) v m h = absurd m.0
  cast-gives implied (ArrayOf a n) (PointerTo s) v m h = absurd m.0
  cast-gives implied (StructTag n) (PointerTo s) v m h = absurd m.0
  cast-gives implied (UnionTag n) (PointerTo s) v m h = absurd m.0
  cast-gives implied (FunctionTy a ts c) (PointerTo s) v m h = absurd m.0
  cast-gives implied (ConstOf a) (PointerTo s) v m h = absurd m.0
  cast-gives implied t (ArrayOf a n) v m h = absurd m.1
  cast-gives implied t (StructTag n) v m h = absurd m.1
  cast-gives implied t (UnionTag n) v m h = absurd m.1
  cast-gives implied t (FunctionTy a ts c) v m h = absurd m.1
  cast-gives implied t (ConstOf a) v m h = absurd m.1

  pub converts-gives : (how : How) (t u : Ty) (v : Worth) → Leads b how t u → Value b w t v → Answering (Tabled u) (converts how v w)
  converts-gives how t u v (inl l) h = subst (λ x. Answering (Tabled u) (converts x v w)) (sym l.1) (cast-gives l.0 t u v l.2 h)
  converts-gives how t u v (inr l) h =
      subst (λ x. Answering (Tabled u) (converts x v w)) (sym l.1) (subst (λ x. Answering (Tabled x) (converts (Rounds l.0) v w)) (sym l.2) (rounds-gives l.0 v))

  -- sums and members
  moved-gives : (s : Ty) (p : Pointer) (got : Result (Pointer × Tried) Stop × Table) → LivesOn got.1 → PointsTo got → Answering (Tabled (PointerTo s)) (moved_by w p got)
  moved-gives s p (Ok r, T) l h = (refl, l, h)
  moved-gives s p (Err y, T) l h = tt

  pub moves-gives : (minus first : Bool) (size : ℕ) (t u s : Ty) (v x : Worth) → Value b w t v → Value b w u x → Answering (Tabled (PointerTo s)) (moves minus first size v x w)
  moves-gives minus true size t u s v x h g =
      unless-answers (Tabled (PointerTo s)) (why_not_set v) w _ (unless-answers (Tabled (PointerTo s)) (why_not_set x) w _
      (moved-gives s (pointer_of v) (shift w.memory.table (pointer_of v) (distance minus size (int_of x))) (move-live AdditionOfPointers w.memory.table (pointer_of v) (distance minus size (int_of x))) (move-points w.memory.table within _ (pointer_of v) (distance minus size (int_of x)) (pointer-made b w t v h))))
  moves-gives minus false size t u s v x h g =
      unless-answers (Tabled (PointerTo s)) (why_not_set v) w _ (unless-answers (Tabled (PointerTo s)) (why_not_set x) w _
      (moved-gives s (pointer_of x) (shift w.memory.table (pointer_of x) (distance minus size (int_of v))) (move-live AdditionOfPointers w.memory.table (pointer_of x) (distance minus size (int_of v))) (move-points w.memory.table within _ (pointer_of x) (distance minus size (int_of v)) (pointer-made b w u x g))))

  pub selects-gives : (offset : ℕ) (u s : Ty) (v : Worth) → Value b w u v → Answering (Tabled (PointerTo s)) (selects offset v w)
  selects-gives offset u s v h =
      unless-answers (Tabled (PointerTo s)) (why_missing v) w _
      (moved-gives s (pointer_of v) (select w.memory.table (pointer_of v) offset) (move-live Indirection w.memory.table (pointer_of v) (pos offset)) (move-points w.memory.table within _ (pointer_of v) (pos offset) (pointer-made b w u v h)))

  -- differences
  elements-gives : (U : Table) (p q : Pointer) (us : List What) (size : ℕ) (o : Option ℤ) → in_elements (pos p.address -ℤ pos q.address) size ≡ o → LivesOn U → 1 ≤ size → p.address < 2 ^ 48 → q.address < 2 ^ 48 → Answering (Tabled (IntTy Long)) (elements_by (with_table w U) p us o)
  elements-gives U p q us size (Some n) e l some low high = (refl, l, (difference-fits p.address q.address size n low high some e, tt))
  elements-gives U p q us size None e l some low high = tt

  between-gives : (size : ℕ) (p q : Pointer) (got : Result (Tried × Tried) Stop × Table) → together SubtractionOfPointers w.memory.table p q ≡ got → LivesOn got.1 → 1 ≤ size → IsPointing w.memory.table p → IsPointing w.memory.table q → Answering (Tabled (IntTy Long)) (between_by size p q w got)
  between-gives size p q (Ok both, T) e l some h g =
      let n = together-named w.memory.table within SubtractionOfPointers p q both (ap (λ (r : Result (Tried × Tried) Stop × Table). r.0) e) in
      elements-gives T p q _ size (in_elements (pos p.address -ℤ pos q.address) size) refl l some (h.1.1 n.0) (g.1.1 n.1)
  between-gives size p q (Err y, T) e l some h g = tt

  pub subtracts-gives : (size : ℕ) (t u : Ty) (v x : Worth) → 1 ≤ size → Value b w (PointerTo t) v → Value b w (PointerTo u) x → Answering (Tabled (IntTy Long)) (subtracts size v x w)
  subtracts-gives size t u v x some h g =
      pointer-plain t v (Tabled (IntTy Long)) (λ v. on_set_value x w (λ x. between size (pointer_of v) (pointer_of x) w)) h (λ p i. pointer-plain u x (Tabled (IntTy Long)) (λ x. between size p (pointer_of x) w) g (λ q j. between-gives size p q (together SubtractionOfPointers w.memory.table p q) refl (together-live SubtractionOfPointers w.memory.table p q) some i j))

  -- comparisons
  order-gives : (o : BinOp) (p q : Pointer) (got : Result (Ordering × Tried × Tried) Stop × Table) → LivesOn got.1 → is_order o ≡ true → Answering (Tabled (IntTy Int)) (ordered_by o w p q got)
  order-gives o p q (Ok r, T) l e = by (binary_of o Int (pos p.address) (pos q.address)) refl (order-fits o (pos p.address) (pos q.address) e)
    where
      by : (n : Result ℤ ArithmeticFault) → binary_of o Int (pos p.address) (pos q.address) ≡ n → IfOk (binary_of o Int (pos p.address) (pos q.address)) (Fits Int) → Answering (Tabled (IntTy Int)) (ordered_by o w p q (Ok r, T))
      by (Ok n) f h = let g : Fits Int n = subst (λ (x : Result ℤ ArithmeticFault). IfOk x (Fits Int)) f h in rw f (refl, l, (g, tt))
      by (Err y) f h = rw f (refl, l, (zero_fits Int, tt))
  order-gives o p q (Err y, T) l e = tt

  pub orders-gives : (o : BinOp) (v x : Worth) → is_order o ≡ true → Answering (Tabled (IntTy Int)) (orders o v x w)
  orders-gives o v x e =
      unless-answers (Tabled (IntTy Int)) (why_not_set v) w _ (unless-answers (Tabled (IntTy Int)) (why_not_set x) w _
      (order-gives o (pointer_of v) (pointer_of x) (order w.memory.table (pointer_of v) (pointer_of x)) (together-live OrderOfPointers w.memory.table (pointer_of v) (pointer_of x)) e))

  equal-gives : (negated : Bool) (p q : Pointer) (got : Result (Bool × Tried × Tried) Stop × Table) → LivesOn got.1 → Answering (Tabled (IntTy Int)) (equal_by negated w p q got)
  equal-gives negated p q (Ok r, T) l = (refl, l, truth-value Int (if negated then not r.0 else r.0) (with_table w T))
  equal-gives negated p q (Err y, T) l = tt

  pub equals-gives : (negated : Bool) (v x : Worth) → Answering (Tabled (IntTy Int)) (equals negated v x w)
  equals-gives negated v x =
      unless-answers (Tabled (IntTy Int)) (why_not_set v) w _ (unless-answers (Tabled (IntTy Int)) (why_not_set x) w _
      (equal-gives negated (pointer_of v) (pointer_of x) (pointer_equality w.memory.table (pointer_of v) (pointer_of x)) (equal-live w.memory.table (pointer_of v) (pointer_of x))))

  -- 6.5.3.2p4
  pub follows-gives : (nothing : Bool) (u t : Ty) (v : Worth) → FollowsTo nothing t → Value b w (PointerTo u) v → Answering (Tabled t) (follows_to nothing v w)
  follows-gives true u t v f h = unless-answers (Tabled t) (why_missing v) w _ (subst (λ x. Tabled x Nothing w) (sym f) (refl, here, (tt, tt)))
  follows-gives false u t v f h = unless-answers (Tabled t) (why_missing v) w _ (subst (λ x. Tabled x v w) (sym f.1) (refl, here, h))

  -- loads
  scalar-gives : (t : Ty) (s : ScalarType) (bytes : List Byte) (x : Shape) (p : Option Prov) (told : Told) (got : Loaded) → LivesOn got.1 → ((z : World) (v : ScalarValue) → IsScalar s (Scalar v) → IsFairValue z.memory.table v → Value b z t (Scalar v)) → Loads s got → Answering (Tabled t) (scalar_by w bytes x p told got)
  scalar-gives t s bytes x p told (Ok r, T) l g h = (refl, all-on w.memory.table T (all_told T) l (same-live T (all_told T) refl), g (with_table w (all_told T)) r.0 h.0 (told-fair T r.0 h.1))
    where
      told-fair : (T : Table) (v : ScalarValue) → IsFairValue T v → IsFairValue (all_told T) v
      told-fair T (PointerValue p) h = (told-keeps T p.prov h.0, h.1)
      told-fair T (IntValue n) h = tt
      told-fair T Unset h = tt
  scalar-gives t s bytes x p told (Err y, T) l g h = tt

  pub worth-gives : (t : Ty) (bytes : List Byte) (origin : Option ℕ) (p : Option Prov) (told : Told) → IsValueType (bare_type t) → length bytes ≡ (layout_in (layouts b.unit) t).size → Each (IsFair w.memory.table) bytes → Answering (Tabled (bare_type t)) (worth_in w bytes (shape_of t) origin p told)
  worth-gives (IntTy k) bytes origin p told v l h = scalar-gives (IntTy k) (scalar.Int k) bytes (shape.Int k) p told (load_of w.memory.table bytes (scalar.Int k)) (value-live w.memory.table bytes (scalar.Int k)) (λ z v i f. (i, f)) (value-loads w.memory.table within (scalar.Int k) bytes l h)
  worth-gives (PointerTo s) bytes origin p told v l h = scalar-gives (PointerTo s) scalar.Pointer bytes shape.Pointer p told (load_of w.memory.table bytes scalar.Pointer) (value-live w.memory.table bytes scalar.Pointer) (λ z v i f. (i, f)) (value-loads w.memory.table within scalar.Pointer bytes l h)
  worth-gives (StructTag n) bytes origin p told v l h = (refl, here, (sym l, h))
  worth-gives (UnionTag n) bytes origin p told v l h = (refl, here, (sym l, h))
  worth-gives (ConstOf s) bytes origin p told v l h = worth-gives s bytes origin p told v l h
  worth-gives VoidTy bytes origin p told v l h = absurd v
  worth-gives (ArrayOf s n) bytes origin p told v l h = absurd v
  worth-gives (FunctionTy s ts c) bytes origin p told v l h = absurd v
