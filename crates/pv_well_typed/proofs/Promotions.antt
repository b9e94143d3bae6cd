-- The kinds in which operators work are promoted ones (C17 6.3.1.1p2, 6.3.1.8).
use Rattle.std.proofs.Common.{Bool, true, false, arith}
use Rattle.std.specs.Prelude.{if◌then◌else◌, nat_lt, nat_le}
use Rattle.pv_num.specs.declared.kinds.IntKind.{IntKind}
use Rattle.pv_num.specs.declared.kinds.IntKind.TheVariants.{Bool as BoolKind, Char, SChar, UChar, Short, UShort, Int, UInt, Long, ULong, LLong, ULLong}
use Rattle.pv_num.specs.Kinds.{width, is_signed, rank, promotion_of}
use Rattle.pv_num.specs.Arithmetic.{IsPromoted}
use Rattle.pv_check.specs.Kinds.{unsigned_of, mixed_kind, common_of, common_kind}

pub promoted-wide : (k : IntKind) → IsPromoted (promotion_of k)
promoted-wide BoolKind = omega arith
promoted-wide _ = omega arith

unsigned-wide : (k : IntKind) → IsPromoted k → IsPromoted (unsigned_of k)
unsigned-wide BoolKind h = h
unsigned-wide Char h = h
unsigned-wide SChar h = h
unsigned-wide UChar h = h
unsigned-wide Short h = h
unsigned-wide UShort h = h
unsigned-wide Int h = h
unsigned-wide UInt h = h
unsigned-wide Long h = h
unsigned-wide ULong h = h
unsigned-wide LLong h = h
unsigned-wide ULLong h = h

either-wide : (b : Bool) (k l : IntKind) → IsPromoted k → IsPromoted l → IsPromoted (if b then k else l)
either-wide true k l h g = h
either-wide false k l h g = g

mixed-wide : (k l : IntKind) → IsPromoted k → IsPromoted l → IsPromoted (mixed_kind k l)
mixed-wide k l h g =
    either-wide (nat_le (rank l) (rank k)) k (if nat_lt (width k) (width l) then l else unsigned_of l) h
    (either-wide (nat_lt (width k) (width l)) l (unsigned_of l) g (unsigned-wide l g))

common-of-wide : (a b : Bool) (k l : IntKind) → IsPromoted k → IsPromoted l → IsPromoted (common_of a b k l)
common-of-wide true false k l h g = mixed-wide l k g h
common-of-wide false true k l h g = mixed-wide k l h g
common-of-wide true true k l h g = either-wide (nat_lt (rank k) (rank l)) l k g h
common-of-wide false false k l h g = either-wide (nat_lt (rank k) (rank l)) l k g h

pub common-wide : (k l : IntKind) → IsPromoted (common_kind k l)
common-wide k l = common-of-wide (is_signed (promotion_of k)) (is_signed (promotion_of l)) (promotion_of k) (promotion_of l) (promoted-wide k) (promoted-wide l)
