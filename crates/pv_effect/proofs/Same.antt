-- Equal types are of equal numbers, and integer types agree where they are the same or counterparts.
use Rattle.std.proofs.Common.{◌≡◌, ◌≢◌, ℕ, ◌<◌, Bool, true, false, ◌&&◌, ◌||◌, ◌==◌, Decides, Some, None, length, refl, sym, ◌∙◌, ap, rules}
use Rattle.std.specs.Bool.{beq}
use Rattle.std.specs.declared.option.Option.{Option}
use Rattle.std.proofs.lemmas.Bool.Decides.{Decides-eqb}
use Rattle.pv_num.specs.declared.kinds.IntKind.{IntKind}
use Rattle.pv_types.specs.Ty.{Ty, Tys, VoidTy, IntTy, PointerTo, ArrayOf, StructTag, UnionTag, FunctionTy, ConstOf, NoTys, MoreTys}
use Rattle.pv_types.specs.declared.terms.Term.{Term}
use Rattle.pv_types.specs.declared.terms.Term.TheVariants.{Int}
use Rattle.pv_types.specs.Compatible.{same_kind, are_compatible}
use Rattle.pv_types.specs.Layouts.{layout_in}
use Rattle.pv_types.specs.Known.{Known, tree, trees, tree_in, env}
use Rattle.pv_types.specs.Formed.{IsBuilt}
use Rattle.pv_types.proofs.Injective.{trees_differ}
use Rattle.pv_layout.specs.Parts.{some_at, leaves, agrees, are_counterparts}
use Rattle.pv_types.specs.Sorts.{bare_type}
use Rattle.pv_layout.proofs.Ahead.{bare_no}
use Rattle.pv_types.specs.SameTypes.{same_type, same_size, same_types}

kind_decides : (k l : IntKind) → Decides (same_kind k l) (k ≡ l)
kind_decides k l = search rules

kind_self : (k : IntKind) → same_kind k k ≡ true
kind_self k = (kind_decides k k).1 refl

beq_self : (b : Bool) → beq b b ≡ true
beq_self true = refl
beq_self false = refl

beq_equal : (b c : Bool) → beq b c ≡ true → b ≡ c
beq_equal true true e = refl
beq_equal false false e = refl
beq_equal _ _ e = absurd cc

size_self : (n : Option ℕ) → same_size n n ≡ true
size_self None = refl
size_self (Some n) = (Decides-eqb n n).1 refl

size_equal : (m n : Option ℕ) → same_size m n ≡ true → m ≡ n
size_equal None None e = refl
size_equal (Some m) (Some n) e = ap Some ((Decides-eqb m n).0 e)
size_equal _ _ e = absurd cc

both : (a b : Bool) → (a && b) ≡ true → (a ≡ true) × (b ≡ true)
both true b e = (refl, e)
both false b e = cc

mutual
  type_self : (t : Ty) → same_type t t ≡ true
  type_self VoidTy = refl
  type_self (IntTy k) = kind_self k
  type_self (PointerTo t) = type_self t
  type_self (ArrayOf t n) = rw (size_self n, type_self t) refl
  type_self (StructTag n) = (Decides-eqb n n).1 refl
  type_self (UnionTag n) = (Decides-eqb n n).1 refl
  type_self (FunctionTy t ts v) = rw (beq_self v, types_self ts, type_self t) refl
  type_self (ConstOf t) = type_self t

  types_self : (ts : Tys) → same_types ts ts ≡ true
  types_self NoTys = refl
  types_self (MoreTys t ts) = rw (type_self t, types_self ts) refl

mutual
  type_equal : (t u : Ty) → same_type t u ≡ true → t ≡ u
  type_equal VoidTy VoidTy e = refl
  type_equal (IntTy k) (IntTy l) e = ap IntTy ((kind_decides k l).0 e)
  type_equal (PointerTo t) (PointerTo u) e = ap PointerTo (type_equal t u e)
  type_equal (ArrayOf t m) (ArrayOf u n) e =
      let h = both (same_size m n) (same_type t u) e in
      ap (λ x. ArrayOf x m) (type_equal t u h.1) ∙ ap (ArrayOf u) (size_equal m n h.0)
  type_equal (StructTag m) (StructTag n) e = ap StructTag ((Decides-eqb m n).0 e)
  type_equal (UnionTag m) (UnionTag n) e = ap UnionTag ((Decides-eqb m n).0 e)
  type_equal (FunctionTy t ts v) (FunctionTy u us w) e =
      let h = both (beq v w) _ e in
      let k = both (same_types ts us) (same_type t u) h.1 in
      ap (λ x. FunctionTy x ts v) (type_equal t u k.1) ∙ ap (λ xs. FunctionTy u xs v) (types_equal ts us k.0) ∙ ap (FunctionTy u us) (beq_equal v w h.0)
  type_equal (ConstOf t) (ConstOf u) e = ap ConstOf (type_equal t u e)
  type_equal _ _ e = absurd cc

  types_equal : (ts us : Tys) → same_types ts us ≡ true → ts ≡ us
  types_equal NoTys NoTys e = refl
  types_equal (MoreTys t ts) (MoreTys u us) e =
      let h = both (same_type t u) (same_types ts us) e in
      ap (λ x. MoreTys x ts) (type_equal t u h.0) ∙ ap (MoreTys u) (types_equal ts us h.1)
  types_equal _ _ e = absurd cc

same_step : (b c : Bool) (t u : Ty) → Decides b (t ≡ u) → (c ≡ true → t ≡ u) → (t ≡ u → c ≡ true) → b ≡ c
same_step true true t u d f g = refl
same_step true false t u d f g = sym (g (d.0 refl))
same_step false true t u d f g = d.1 (f refl)
same_step false false t u d f g = refl

-- two numbers of a table are equal where the types are
pub same_number : (m : Known) (i j : ℕ) → IsBuilt m → i < length m.terms → j < length m.terms → (i == j) ≡ same_type (tree m i) (tree m j)
same_number m i j built h k =
    same_step (i == j) (same_type (tree m i) (tree m j)) (tree m i) (tree m j)
    ((λ e. ap (tree m) ((Decides-eqb i j).0 e)), (λ e. (Decides-eqb i j).1 (trees_differ m built i j h k e)))
    (type_equal (tree m i) (tree m j))
    (λ e. ap (same_type (tree m i)) (sym e) ∙ type_self (tree m i))

-- of integer types only equal ones are compatible
pub int_compatible : (k : IntKind) (u : Ty) → ((v : Ty) → u ≢ ConstOf v) → are_compatible (IntTy k) u ≡ same_type (IntTy k) u
unfolding are_compatible
int_compatible k VoidTy h = refl
int_compatible k (IntTy l) h = refl
int_compatible k (PointerTo u) h = refl
int_compatible k (ArrayOf u n) h = refl
int_compatible k (StructTag n) h = refl
int_compatible k (UnionTag n) h = refl
int_compatible k (FunctionTy u us v) h = refl
int_compatible k (ConstOf u) h = absurd (h u refl)

-- an integer at the beginning of itself
pub int_leaf : (m : Known) (k : IntKind) (t u : Ty) → t ≡ IntTy k → some_at (agrees u) 0 (leaves (layout_in (env m) t).parts) ≡ (same_type t (bare_type u) || are_counterparts t (bare_type u))
int_leaf m k t u e = rw (e, int_compatible k (bare_type u) (bare_no u)) (last (same_type (IntTy k) (bare_type u) || are_counterparts (IntTy k) (bare_type u)))
  where
    last : (b : Bool) → (b || false) ≡ b
    last true = refl
    last false = refl

-- other types have no counterpart
pub no_counterpart : (m : Known) (term : Term) (t u : Ty) → t ≡ tree_in m.lists (trees m) term → ((k : IntKind) → term ≢ Int k) → are_counterparts t u ≡ false
no_counterpart m term t u e h = ap (λ x. are_counterparts x u) e ∙ step term h
  where
    step : (term : Term) → ((k : IntKind) → term ≢ Int k) → are_counterparts (tree_in m.lists (trees m) term) u ≡ false
    step (Int k) h = absurd (h k refl)
    step _ h = refl
