-- Whether two types are the same is whether they are equal (C17 6.2.7p1).
use Rattle.std.proofs.Common.{◌≡◌, ℕ, Bool, true, false, ◌&&◌, Decides, Some, None, refl, ◌∙◌, ap, rules}
use Rattle.std.specs.Bool.{beq}
use Rattle.std.specs.declared.option.Option.{Option}
use Rattle.std.proofs.lemmas.Bool.Decides.{Decides-eqb}
use Rattle.pv_num.specs.declared.kinds.IntKind.{IntKind}
use Rattle.pv_types.specs.Ty.{Ty, Tys, VoidTy, IntTy, PointerTo, ArrayOf, StructTag, UnionTag, FunctionTy, ConstOf, NoTys, MoreTys}
use Rattle.pv_types.specs.Compatible.{same_kind}
use Rattle.pv_types.specs.SameTypes.{same_type, same_size, same_types}

kind_decides : (k l : IntKind) → Decides (same_kind k l) (k ≡ l)
kind_decides k l = search rules

beq_self : (b : Bool) → beq b b ≡ true
beq_self true = refl
beq_self false = refl

beq_equal : (b c : Bool) → beq b c ≡ true → b ≡ c
beq_equal true true e = refl
beq_equal false false e = refl
beq_equal _ _ e = absurd cc

size_self : (n : Option ℕ) → same_size n n ≡ true
size_self None = refl
size_self (Some n) = (Decides-eqb n n).1 refl

size_equal : (m n : Option ℕ) → same_size m n ≡ true → m ≡ n
size_equal None None e = refl
size_equal (Some m) (Some n) e = ap Some ((Decides-eqb m n).0 e)
size_equal _ _ e = absurd cc

both : (a b : Bool) → (a && b) ≡ true → (a ≡ true) × (b ≡ true)
both true b e = (refl, e)
both false b e = cc

mutual
  -- a type is the same as itself
  pub type_self : (t : Ty) → same_type t t ≡ true
  type_self VoidTy = refl
  type_self (IntTy k) = (kind_decides k k).1 refl
  type_self (PointerTo t) = type_self t
  type_self (ArrayOf t n) = rw (size_self n, type_self t) refl
  type_self (StructTag n) = (Decides-eqb n n).1 refl
  type_self (UnionTag n) = (Decides-eqb n n).1 refl
  type_self (FunctionTy t ts v) = rw (beq_self v, types_self ts, type_self t) refl
  type_self (ConstOf t) = type_self t

  types_self : (ts : Tys) → same_types ts ts ≡ true
  types_self NoTys = refl
  types_self (MoreTys t ts) = rw (type_self t, types_self ts) refl

mutual
  -- and two types that are the same are equal
  pub type_equal : (t u : Ty) → same_type t u ≡ true → t ≡ u
  type_equal VoidTy VoidTy e = refl
  type_equal (IntTy k) (IntTy l) e = ap IntTy ((kind_decides k l).0 e)
  type_equal (PointerTo t) (PointerTo u) e = ap PointerTo (type_equal t u e)
  type_equal (ArrayOf t m) (ArrayOf u n) e =
      let h = both (same_size m n) (same_type t u) e in
      ap (λ x. ArrayOf x m) (type_equal t u h.1) ∙ ap (ArrayOf u) (size_equal m n h.0)
  type_equal (StructTag m) (StructTag n) e = ap StructTag ((Decides-eqb m n).0 e)
  type_equal (UnionTag m) (UnionTag n) e = ap UnionTag ((Decides-eqb m n).0 e)
  type_equal (FunctionTy t ts v) (FunctionTy u us w) e =
      let h = both (beq v w) _ e in
      let k = both (same_types ts us) (same_type t u) h.1 in
      ap (λ x. FunctionTy x ts v) (type_equal t u k.1) ∙ ap (λ xs. FunctionTy u xs v) (types_equal ts us k.0) ∙ ap (FunctionTy u us) (beq_equal v w h.0)
  type_equal (ConstOf t) (ConstOf u) e = ap ConstOf (type_equal t u e)
  type_equal _ _ e = absurd cc

  types_equal : (ts us : Tys) → same_types ts us ≡ true → ts ≡ us
  types_equal NoTys NoTys e = refl
  types_equal (MoreTys t ts) (MoreTys u us) e =
      let h = both (same_type t u) (same_types ts us) e in
      ap (λ x. MoreTys x ts) (type_equal t u h.0) ∙ ap (MoreTys u) (types_equal ts us h.1)
  types_equal _ _ e = absurd cc
