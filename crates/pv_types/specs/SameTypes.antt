-- When two types are one type.
use Rattle.std.specs.Prelude.{ℕ, Bool, true, false, ◌&&◌, ◌==◌, Some, None}
use Rattle.std.specs.Bool.{beq}
use Rattle.std.specs.declared.option.Option.{Option}
use Rattle.pv_types.specs.Ty.{Ty, VoidTy, IntTy, PointerTo, ArrayOf, StructTag, UnionTag, FunctionTy, ConstOf, Tys, NoTys, MoreTys}
use Rattle.pv_types.specs.Compatible.{same_kind}

-- 6.7.6.2p6: one size of an array, or none on both sides
abbrev pub same_size : Option ℕ → Option ℕ → Bool
same_size None None = true
same_size (Some m) (Some n) = m == n
same_size _ _ = false

-- 6.2.7p1, 6.7.3p10, 6.7p3: whether two types are the same
abbrev mutual
  pub same_type : Ty → Ty → Bool
  same_type VoidTy VoidTy = true
  same_type (IntTy k) (IntTy l) = same_kind k l
  same_type (PointerTo t) (PointerTo u) = same_type t u
  same_type (ArrayOf t m) (ArrayOf u n) = same_size m n && same_type t u
  same_type (StructTag m) (StructTag n) = m == n
  same_type (UnionTag m) (UnionTag n) = m == n
  same_type (FunctionTy t ts v) (FunctionTy u us w) = beq v w && (same_types ts us && same_type t u)
  same_type (ConstOf t) (ConstOf u) = same_type t u
  same_type _ _ = false

  pub same_types : Tys → Tys → Bool
  same_types NoTys NoTys = true
  same_types (MoreTys t ts) (MoreTys u us) = same_type t u && same_types ts us
  same_types _ _ = false
