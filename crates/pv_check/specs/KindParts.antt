-- A bridge: what functions answer that do a part of what Kinds says.
use Rattle.pv_num.specs.declared.kinds.IntKind.{IntKind}
use Rattle.pv_num.specs.Kinds.{is_signed, rank}
use Rattle.std.specs.Prelude.{nat_lt, if◌then◌else◌}
use Rattle.pv_check.specs.Kinds.{common_of}

-- 6.3.1.8p1: of two kinds that are both signed or both unsigned, the one of greater rank
abbrev pub greater : IntKind → IntKind → IntKind
greater k l = if nat_lt (rank k) (rank l) then l else k

-- 6.3.1.8p1: the usual arithmetic conversions, of promoted kinds
abbrev pub common_promoted : IntKind → IntKind → IntKind
common_promoted k l = common_of (is_signed k) (is_signed l) k l
