-- What typing promises of the values that operations are made on (C17 6.3, 6.5, 6.7.9): the names in them were made, a number lies
-- within an integer type, a stored value is one of the type. A checked unit never comes to anything else: each operation looks by itself.
use Rattle.std.specs.Prelude.{ℕ, ◌+◌, ◌-◌, ◌^◌, ◌==◌, Bool, true, false, ◌&&◌, nat_le, nat_lt, pos, neg_ℤ, int_le, ℤ, length, Option, Some, None, if◌then◌else◌}
use Rattle.std.specs.List.{list_all}
use Rattle.pv_num.specs.declared.kinds.IntKind.{IntKind}
use Rattle.pv_num.specs.declared.operators.BinOp.{BinOp}
use Rattle.pv_num.specs.declared.operators.BinOp.TheVariants.{Shl, Shr}
use Rattle.pv_num.specs.Kinds.{width, fits_of, is_character_kind}
use Rattle.pv_prov.specs.declared.names.Prov.{Prov}
use Rattle.pv_prov.specs.declared.names.Prov.TheVariants.{Empty, Inst, Pair}
use Rattle.pv_inst.specs.declared.values.Instance.{Instance}
use Rattle.pv_inst.specs.Table.{Table, instance_at}
use Rattle.pv_shadow.specs.declared.byte.Byte.{Byte}
use Rattle.pv_object.specs.declared.values.Scalar.{Scalar}
use Rattle.pv_object.specs.declared.values.Scalar.TheVariants as scalar
use Rattle.pv_object.specs.declared.values.Value.{Value}
use Rattle.pv_object.specs.declared.values.Value.TheVariants.{Int as IntValue, Unset, Pointer as PointerValue}
use Rattle.pv_world.specs.declared.got.Shape.{Shape}
use Rattle.pv_world.specs.declared.got.Shape.TheVariants as shape
use Rattle.pv_world.specs.Worlds.{Worth, Missing, Scalar as ScalarWorth, Whole, World}
use Rattle.pv_world.specs.Worths.{int_of, missing_value}
use Rattle.pv_world.specs.Telling.{no_telling}
use Rattle.pv_world.specs.Doing.{Done, Fails}
use Rattle.std.specs.Option.{option_map_or}

-- 6.9.1p12: what an operation does whose operands suit; on others it ends the run as on a value that is missing
abbrev pub where_suiting : Bool → (World → Done) → World → Done
where_suiting suits works w = if suits then works w else Fails missing_value None w no_telling

-- what a name speaks of was made (the memory model: provenance)
abbrev pub knows : Table → Prov → Bool
knows T Empty = true
knows T (Inst i) = nat_le 1 i && nat_le i (length T.instances)
knows T (Pair k) = nat_le 1 k && nat_le k (length T.pairs)

-- what the name in a value speaks of was made (the memory model)
abbrev pub knows_value : Table → Value → Bool
knows_value T (PointerValue p) = knows T p.prov
knows_value T _ = true

-- what the names in what an expression gives speak of was made (the memory model)
abbrev pub knows_worth : Table → Worth → Bool
knows_worth T (ScalarWorth v) = knows_value T v
knows_worth T (Whole bytes origin) = list_all (λ (x : Byte). knows T x.prov) bytes
knows_worth T _ = true

-- 6.5.6p3, 6.5.8p2, 6.5.9p2, 6.5.16p3: what the names in both of two operands speak of was made (the memory model)
abbrev pub knows_both : Table → Worth → Worth → Bool
knows_both T v x = knows_worth T v && knows_worth T x

-- 6.2.5p17: a number is one of some integer type, or the difference of two addresses
abbrev pub is_small : Worth → Bool
is_small v = int_le (neg_ℤ (pos (2 ^ 64))) (int_of v) && int_le (int_of v) (pos (2 ^ 64))

-- 6.3: the operand of a conversion
abbrev pub is_convertible : Table → Worth → Bool
is_convertible T v = is_small v && knows_worth T v

-- 6.5.6p2: the operands of a sum of a pointer and an integer
abbrev pub can_shift : Table → Worth → Worth → Bool
can_shift T v x = (is_small v && is_small x) && knows_both T v x

-- 6.8.4.2p1: what an expression gives is an integer, if it is there and was set
abbrev pub is_integer : Worth → Bool
is_integer (ScalarWorth (PointerValue p)) = false
is_integer (ScalarWorth v) = true
is_integer Missing = true
is_integer _ = false

-- 6.3.1.1p2: the integer promotions leave the kind as it is
abbrev pub is_promoted : IntKind → Bool
is_promoted k = nat_le 32 (width k)

-- 6.5.7p2: the right operand of a shift is one of some integer type
abbrev pub is_count : ℤ → Bool
is_count n = int_le (neg_ℤ (pos (2 ^ 63))) n && int_le n (pos (2 ^ 64 - 1))

-- 6.5.5 to 6.5.12: the right operand has the kind, and that of a shift any promoted kind (6.5.7p3)
abbrev pub is_operand : BinOp → IntKind → ℤ → Bool
is_operand Shl k n = is_count n
is_operand Shr k n = is_count n
is_operand op k n = fits_of k n

-- 6.5.3.3p1: the operand of an operator that has one, or the left one of two: it is of the kind, which is promoted
abbrev pub is_of_promoted : IntKind → Worth → Bool
is_of_promoted k v = is_promoted k && fits_of k (int_of v)

-- 6.5.5 to 6.5.12: the operands of an operator that has two
abbrev pub are_operands : BinOp → IntKind → Worth → Worth → Bool
are_operands op k v x = is_of_promoted k v && is_operand op k (int_of x)

-- 5.2.4.1: no object is larger than this
abbrev pub is_size : ℕ → Bool
is_size n = nat_le n (2 ^ 32)

-- 6.2.6.1: a value of the scalar type
abbrev pub is_of : Scalar → Value → Bool
is_of (scalar.Int k) (IntValue n) = fits_of k n
is_of (scalar.Int k) Unset = is_character_kind k
is_of scalar.Pointer (PointerValue p) = nat_lt p.address (2 ^ 64)
is_of _ _ = false

-- 6.5.16.1p2, 6.7.9p11, p13: a value that is stored in so many bytes is one of the type
abbrev pub is_stored : Shape → ℕ → Worth → Bool
is_stored (shape.Int k) n (ScalarWorth v) = is_of (scalar.Int k) v
is_stored shape.Pointer n (ScalarWorth v) = is_of scalar.Pointer v
is_stored shape.Whole n (Whole bytes origin) = n == length bytes
is_stored s n v = false

-- 6.5.2.3p3: a structure or union has the bytes of its member
abbrev pub has_part : Worth → (offset size : ℕ) → Bool
has_part (Whole bytes origin) offset size = nat_le (offset + size) (length bytes)
has_part Missing offset size = true
has_part _ offset size = false

-- 6.2.4p2: the instance is there and lives
abbrev pub live_in : Option Instance → Bool
live_in None = false
live_in (Some x) = x.live

-- 6.2.4p2: the instance with this number is there and lives
abbrev pub is_live : World → ℕ → Bool
is_live w i = live_in (instance_at w.memory.table.instances i)

-- 6.2.4p2: the instance with this number is live, and has so many bytes from an offset on
abbrev pub has_room : World → (i offset n : ℕ) → Bool
has_room w i offset n = option_map_or (λ (x : Instance). x.live && nat_le (offset + n) x.size) (instance_at w.memory.table.instances i) false
