-- The looks at operands tell what the calls of a world ask for, and an operation by its look: what it does, or the end of the run as by a
-- missing value.
use Rattle.std.proofs.Common.{◌≡◌, ℕ, ◌+◌, ◌++◌, ◌≤◌, Bool, true, false, cond, List, length, Some, None, refl, sym, ap, append-nil, IsSomeAnd, IsTrue, ◌↔◌}
use Rattle.std.specs.Prelude.{Option, Result, Err, All, ◌&&◌, nat_le, is_some, int_le, ℤ, pos, neg_ℤ, ◌≤ℤ◌, ◌^◌, ◌-◌}
use Rattle.std.specs.Int.Signed.{le_z_yes}
use Rattle.std.proofs.lemmas.Float.{T_from_true}
use Rattle.std.proofs.lemmas.Bool.{leb-true, le-leb, ltb-true}
use Rattle.std.proofs.lemmas.Bool.Decides.{Decides-eqb}
use Rattle.std.proofs.lemmas.List.Sums.{AllPass-from_list_all}
use Rattle.pv_num.specs.declared.kinds.IntKind.{IntKind}
use Rattle.pv_num.specs.declared.operators.BinOp.{BinOp}
use Rattle.pv_num.specs.declared.operators.BinOp.TheVariants as op
use Rattle.pv_num.specs.Kinds.{Fits, fits_of, least_member, greatest_member}
use Rattle.pv_num.specs.Operands.{IsOperand}
use Rattle.pv_prov.specs.declared.names.Prov.{Prov}
use Rattle.pv_prov.specs.declared.names.Prov.TheVariants.{Empty, Inst, Pair}
use Rattle.pv_inst.specs.declared.values.Instance.{Instance}
use Rattle.pv_inst.specs.declared.values.Info.{Info}
use Rattle.pv_inst.specs.Table.{Table, IsMadeIn, instance_at}
use Rattle.pv_inst.specs.Infos.{info_of}
use Rattle.pv_shadow.specs.declared.byte.Byte.{Byte}
use Rattle.pv_object.specs.declared.values.Scalar.{Scalar}
use Rattle.pv_object.specs.declared.values.Scalar.TheVariants as scalar
use Rattle.pv_object.specs.declared.values.Value.{Value}
use Rattle.pv_object.specs.declared.values.Value.TheVariants.{Int as IntValue, Unset, Pointer as PointerValue}
use Rattle.pv_object.specs.Values.{IsOf}
use Rattle.pv_object.specs.Answers.{IsMadeValue}
use Rattle.pv_world.specs.declared.got.Shape.{Shape}
use Rattle.pv_world.specs.declared.got.Shape.TheVariants as shape
use Rattle.pv_watch.specs.declared.event.What.{What}
use Rattle.pv_world.specs.declared.got.Failure.{Failure}
use Rattle.pv_world.specs.Worlds.{Worth, Nothing, Missing, Scalar as ScalarWorth, Whole, World, Wrong}
use Rattle.pv_world.specs.Telling.{no_telling, fault_of, verdict_of}
use Rattle.pv_world.specs.Doing.{Done, Fails}
use Rattle.pv_world.specs.Worths.{int_of, missing_value}
use Rattle.pv_world.specs.Preconditions.{IsSmall, HasRoom, HasPart, HasSizeOf, IsStored}
use Rattle.pv_world.specs.Coming.{Did, Came, Faulted, Ended, coming_of, IsMadeWorth}
use Rattle.pv_world.proofs.Comings.{came_fails}
use Rattle.pv_world.specs.Suiting.{where_suiting, knows, knows_value, knows_worth, is_small, is_count, is_operand, is_of, is_stored, has_part, has_room, live_in}
use Rattle.pv_world.specs.SuitingParts.{room_in, knows_bytes}

pub left_of : (a b : Bool) → (a && b) ≡ true → a ≡ true
left_of true b e = refl
left_of false b e = e

pub right_of : (a b : Bool) → (a && b) ≡ true → b ≡ true
right_of true b e = e
right_of false b e = absurd cc

pub both_of : (a b : Bool) → a ≡ true → b ≡ true → (a && b) ≡ true
both_of true b e f = f
both_of false b e f = e

pub same_truth : (a b : Bool) → (a ≡ true → b ≡ true) → (b ≡ true → a ≡ true) → a ≡ b
same_truth true b f g = sym (f refl)
same_truth false true f g = g refl
same_truth false false f g = refl

-- what a name speaks of
knows_made : (T : Table) (p : Prov) → knows T p ≡ true → IsMadeIn T p
knows_made T Empty e = tt
knows_made T (Inst i) e =
    let a = left_of (nat_le 1 i) (nat_le i (length T.instances)) e in
    let b = right_of (nat_le 1 i) (nat_le i (length T.instances)) e in
    (leb-true 1 i a, leb-true i (length T.instances) b)
knows_made T (Pair k) e =
    let a = left_of (nat_le 1 k) (nat_le k (length T.pairs)) e in
    let b = right_of (nat_le 1 k) (nat_le k (length T.pairs)) e in
    (leb-true 1 k a, leb-true k (length T.pairs) b)

made_knows : (T : Table) (p : Prov) → IsMadeIn T p → knows T p ≡ true
made_knows T Empty h = refl
made_knows T (Inst i) h = both_of (nat_le 1 i) (nat_le i (length T.instances)) (le-leb 1 i h.0) (le-leb i (length T.instances) h.1)
made_knows T (Pair k) h = both_of (nat_le 1 k) (nat_le k (length T.pairs)) (le-leb 1 k h.0) (le-leb k (length T.pairs) h.1)

pub knows_is : (T : Table) (p : Prov) (r : Bool) → (IsTrue r ↔ IsMadeIn T p) → r ≡ knows T p
knows_is T p r h = same_truth r (knows T p) (λ e. made_knows T p (h.0 e)) (λ e. h.1 (knows_made T p e))

pub value_made : (T : Table) (v : Value) → knows_value T v ≡ true → IsMadeValue T v
value_made T (PointerValue p) e = knows_made T p.prov e
value_made T (IntValue n) e = tt
value_made T Unset e = tt

bytes_made : (T : Table) (bytes : List Byte) → knows_bytes T bytes ≡ true → All (λ (x : Byte). IsMadeIn T x.prov) bytes
bytes_made T bytes e = λ k d l. knows_made T _ (AllPass-from_list_all (λ (x : Byte). knows T x.prov) bytes e k d l)

pub worth_made : (T : Table) (v : Worth) → knows_worth T v ≡ true → IsMadeWorth T v
worth_made T (ScalarWorth v) e = value_made T v e
worth_made T (Whole bytes origin) e = bytes_made T bytes e
worth_made T Nothing e = tt
worth_made T Missing e = tt

-- numbers
le_true : (a b : ℤ) → int_le a b ≡ true → a ≤ℤ b
le_true a b e = le_z_yes (T_from_true (int_le a b) e)

pub small_is : (v : Worth) → is_small v ≡ true → IsSmall v
small_is v e =
    let low = left_of (int_le (neg_ℤ (pos (2 ^ 64))) (int_of v)) (int_le (int_of v) (pos (2 ^ 64))) e in
    let high = right_of (int_le (neg_ℤ (pos (2 ^ 64))) (int_of v)) (int_le (int_of v) (pos (2 ^ 64))) e in
    (le_true (neg_ℤ (pos (2 ^ 64))) (int_of v) low, le_true (int_of v) (pos (2 ^ 64)) high)

pub fits_is : (k : IntKind) (n : ℤ) → fits_of k n ≡ true → Fits k n
fits_is k n e =
    let low = left_of (int_le (least_member k) n) (int_le n (greatest_member k)) e in
    let high = right_of (int_le (least_member k) n) (int_le n (greatest_member k)) e in
    (le_true (least_member k) n low, le_true n (greatest_member k) high)

count_is : (n : ℤ) → is_count n ≡ true → (neg_ℤ (pos (2 ^ 63)) ≤ℤ n) × (n ≤ℤ pos (2 ^ 64 - 1))
count_is n e =
    let low = left_of (int_le (neg_ℤ (pos (2 ^ 63))) n) (int_le n (pos (2 ^ 64 - 1))) e in
    let high = right_of (int_le (neg_ℤ (pos (2 ^ 63))) n) (int_le n (pos (2 ^ 64 - 1))) e in
    (le_true (neg_ℤ (pos (2 ^ 63))) n low, le_true n (pos (2 ^ 64 - 1)) high)

pub operand_is : (o : BinOp) (k : IntKind) (n : ℤ) → is_operand o k n ≡ true → IsOperand o k n
operand_is op.Shl k n e = count_is n e
operand_is op.Shr k n e = count_is n e
operand_is op.Add k n e = fits_is k n e
operand_is op.Sub k n e = fits_is k n e
operand_is op.Mul k n e = fits_is k n e
operand_is op.Div k n e = fits_is k n e
operand_is op.Rem k n e = fits_is k n e
operand_is op.And k n e = fits_is k n e
operand_is op.Or k n e = fits_is k n e
operand_is op.Xor k n e = fits_is k n e
operand_is op.Lt k n e = fits_is k n e
operand_is op.Gt k n e = fits_is k n e
operand_is op.Le k n e = fits_is k n e
operand_is op.Ge k n e = fits_is k n e
operand_is op.Eq k n e = fits_is k n e
operand_is op.Ne k n e = fits_is k n e

-- stored values
pub of_is : (t : Scalar) (v : Value) → is_of t v ≡ true → IsOf t v
of_is (scalar.Int k) (IntValue n) e = fits_is k n e
of_is (scalar.Int k) Unset e = e
of_is (scalar.Int k) (PointerValue p) e = absurd cc
of_is scalar.Pointer (PointerValue p) e = ltb-true p.address (2 ^ 64) e
of_is scalar.Pointer (IntValue n) e = absurd cc
of_is scalar.Pointer Unset e = absurd cc

pub stored_is : (s : Shape) (n : ℕ) (v : Worth) → HasSizeOf s n → is_stored s n v ≡ true → IsStored s n v
stored_is (shape.Int k) n (ScalarWorth v) h e = (h, of_is (scalar.Int k) v e)
stored_is shape.Pointer n (ScalarWorth v) h e = (h, of_is scalar.Pointer v e)
stored_is shape.Whole n (Whole bytes origin) h e = (Decides-eqb n (length bytes)).0 e
stored_is shape.Whole n (ScalarWorth v) h e = absurd cc
stored_is (shape.Int k) n (Whole bytes origin) h e = absurd cc
stored_is shape.Pointer n (Whole bytes origin) h e = absurd cc
stored_is (shape.Int k) n Nothing h e = absurd cc
stored_is shape.Pointer n Nothing h e = absurd cc
stored_is shape.Whole n Nothing h e = absurd cc
stored_is (shape.Int k) n Missing h e = absurd cc
stored_is shape.Pointer n Missing h e = absurd cc
stored_is shape.Whole n Missing h e = absurd cc

pub part_is : (v : Worth) (offset size : ℕ) → has_part v offset size ≡ true → HasPart v offset size
part_is (Whole bytes origin) offset size e = leb-true (offset + size) (length bytes) e
part_is Missing offset size e = tt
part_is Nothing offset size e = absurd cc
part_is (ScalarWorth v) offset size e = absurd cc

-- instances
told_by : (c : Bool) (y : Info) → is_some (cond c (Some y) None) ≡ c
told_by true y = refl
told_by false y = refl

pub told_live : (o : Option Instance) → is_some (info_of o) ≡ live_in o
told_live None = refl
told_live (Some x) = told_by x.live (record { name = x.name; k = x.k; base = x.base; size = x.size; kind = x.kind; exposed = x.exposed })

room_to : (o : Option Instance) (a n : ℕ) → room_in o a n ≡ true → IsSomeAnd o (λ (x : Instance). (x.live ≡ true) × (a + n ≤ x.size))
room_to None a n e = absurd cc
room_to (Some x) a n e = (left_of x.live (nat_le (a + n) x.size) e, leb-true (a + n) x.size (right_of x.live (nat_le (a + n) x.size) e))

room_from : (o : Option Instance) (a n : ℕ) → IsSomeAnd o (λ (x : Instance). (x.live ≡ true) × (a + n ≤ x.size)) → room_in o a n ≡ true
room_from None a n h = absurd h
room_from (Some x) a n h = both_of x.live (nat_le (a + n) x.size) h.0 (le-leb (a + n) x.size h.1)

pub room_is : (w : World) (i a n : ℕ) (r : Bool) → (r ≡ true → HasRoom w i a n) → (HasRoom w i a n → r ≡ true) → r ≡ has_room w i a n
room_is w i a n r f g =
    let o = instance_at w.memory.table.instances i in
    same_truth r (has_room w i a n) (λ e. room_from o a n (f e)) (λ e. g (room_to o a n e))

-- a fault that nothing is blamed for, where nothing was told before it
pub failed : {A : Type 0} (give : A → Worth) (f : Failure) (y : Wrong) (w : World) (es fs : List What)
    → Faulted f y fs (es ++ fault_of None (verdict_of y)) → Came give (Err f) w fs (coming_of es w (Fails y None w no_telling))
failed give f y w es fs h =
    came_fails give f y w fs (es ++ fault_of None (verdict_of y)) (coming_of es w (Fails y None w no_telling)) (ap (λ z. Ended y w (z ++ fault_of None (verdict_of y))) (append-nil es)) h

-- an operation by its look, told of the answer that the look gives
module _ {A : Type 0} (give : A → Worth) (works : World → Done) (w : World) where
  pub suited : (c : Bool) (r : Result A Failure) (v : World) (es fs : List What) → c ≡ true → Did give works r w v es fs → Did give (where_suiting c works) r w v es fs
  suited true r v es fs e h = h
  suited false r v es fs e h = absurd cc

  pub unsuited : (c : Bool) (f : Failure) (es fs : List What) → c ≡ false → Faulted f missing_value fs (es ++ fault_of None (verdict_of missing_value)) → Did give (where_suiting c works) (Err f) w w es fs
  unsuited false f es fs e h = failed give f missing_value w es fs h
  unsuited true f es fs e h = absurd cc
