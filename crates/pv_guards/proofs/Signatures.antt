-- A function whose type is compatible with the one that is called has parameters and a result with the same values (C17 6.2.7, 6.3.2.3p8).
use Rattle.std.proofs.Common.{◌≡◌, ℕ, Bool, true, false, ◌&&◌, refl, ap, subst, length, Some, rules}
use Rattle.std.specs.Prelude.{◌==◌, nat_lt}
use Rattle.std.specs.Bool.{beq}
use Rattle.std.proofs.lemmas.Bool.{ltb-true, eqb-true}
use Rattle.pv_num.specs.declared.kinds.IntKind.{IntKind}
use Rattle.pv_types.specs.Ty.{Ty, Tys, NoTys, MoreTys, VoidTy, IntTy, PointerTo, ArrayOf, StructTag, UnionTag, FunctionTy, ConstOf}
use Rattle.pv_types.specs.Compatible.{FunctionForm, same_kind, with_const, is_constant, form_of, forms_of, same_form, all_alike, are_compatible}
use Rattle.pv_typed.specs.TypedUnits.{function_at}
use Rattle.pv_eval.specs.States.{Setting}
use Rattle.pv_eval.specs.Callees.{may_call}
use Rattle.pv_guards.specs.Typed.{AreLike, AreAllLike, IsSignature, HasBody, IsFunction, AreFixed}

right-of : (a b : Bool) → (a && b) ≡ true → b ≡ true
right-of true b e = e
right-of false b e = absurd cc

left-of : (a b : Bool) → (a && b) ≡ true → a ≡ true
left-of true b e = refl
left-of false b e = e

kinds-equal : (k l : IntKind) → same_kind k l ≡ true → k ≡ l
kinds-equal k l e = search rules

numbers-equal : (m n : ℕ) → (m == n) ≡ true → m ≡ n
numbers-equal m n e = eqb-true m n e

same-like : (t u : Ty) → t ≡ u → AreLike t u
same-like t u e = subst (λ x. AreLike t x) e (λ env v. ((λ h. h), (λ h. h)))

-- compatible types have the same values
pub like-alike : (q p : _) (t u : Ty) → same_form (form_of q t) (form_of p u) ≡ true → AreLike t u
like-alike q p VoidTy VoidTy e = λ env v. ((λ h. h), (λ h. h))
like-alike q p VoidTy (IntTy k2) e = absurd cc
like-alike q p VoidTy (PointerTo a2) e = absurd cc
like-alike q p VoidTy (ArrayOf a2 n2) e = absurd cc
like-alike q p VoidTy (StructTag n2) e = absurd cc
like-alike q p VoidTy (UnionTag n2) e = absurd cc
like-alike q p VoidTy (FunctionTy a2 ts2 c2) e = absurd cc
like-alike q p VoidTy (ConstOf a2) e = like-alike q (with_const p) VoidTy a2 e
like-alike q p (IntTy k1) VoidTy e = absurd cc
like-alike q p (IntTy k1) (IntTy k2) e = same-like (IntTy k1) (IntTy k2) (ap IntTy (kinds-equal k1 k2 (right-of (beq (is_constant q) (is_constant p)) (same_kind k1 k2) e)))
like-alike q p (IntTy k1) (PointerTo a2) e = absurd cc
like-alike q p (IntTy k1) (ArrayOf a2 n2) e = absurd cc
like-alike q p (IntTy k1) (StructTag n2) e = absurd cc
like-alike q p (IntTy k1) (UnionTag n2) e = absurd cc
like-alike q p (IntTy k1) (FunctionTy a2 ts2 c2) e = absurd cc
like-alike q p (IntTy k1) (ConstOf a2) e = like-alike q (with_const p) (IntTy k1) a2 e
like-alike q p (PointerTo a1) VoidTy e = absurd cc
like-alike q p (PointerTo a1) (IntTy k2) e = absurd cc
like-alike q p (PointerTo a1) (PointerTo a2) e = λ env v. ((λ h. h), (λ h. h))
like-alike q p (PointerTo a1) (ArrayOf a2 n2) e = absurd cc
like-alike q p (PointerTo a1) (StructTag n2) e = absurd cc
like-alike q p (PointerTo a1) (UnionTag n2) e = absurd cc
like-alike q p (PointerTo a1) (FunctionTy a2 ts2 c2) e = absurd cc
like-alike q p (PointerTo a1) (ConstOf a2) e = like-alike q (with_const p) (PointerTo a1) a2 e
like-alike q p (ArrayOf a1 n1) VoidTy e = absurd cc
like-alike q p (ArrayOf a1 n1) (IntTy k2) e = absurd cc
like-alike q p (ArrayOf a1 n1) (PointerTo a2) e = absurd cc
like-alike q p (ArrayOf a1 n1) (ArrayOf a2 n2) e = λ env v. ((λ h. absurd h), (λ h. absurd h))
like-alike q p (ArrayOf a1 n1) (StructTag n2) e = absurd cc
like-alike q p (ArrayOf a1 n1) (UnionTag n2) e = absurd cc
like-alike q p (ArrayOf a1 n1) (FunctionTy a2 ts2 c2) e = absurd cc
like-alike q p (ArrayOf a1 n1) (ConstOf a2) e = like-alike q (with_const p) (ArrayOf a1 n1) a2 e
like-alike q p (StructTag n1) VoidTy e = absurd cc
like-alike q p (StructTag n1) (IntTy k2) e = absurd cc
like-alike q p (StructTag n1) (PointerTo a2) e = absurd cc
like-alike q p (StructTag n1) (ArrayOf a2 n2) e = absurd cc
like-alike q p (StructTag n1) (StructTag n2) e = same-like (StructTag n1) (StructTag n2) (ap StructTag (numbers-equal n1 n2 (right-of (beq (is_constant q) (is_constant p)) (n1 == n2) e)))
like-alike q p (StructTag n1) (UnionTag n2) e = absurd cc
like-alike q p (StructTag n1) (FunctionTy a2 ts2 c2) e = absurd cc
like-alike q p (StructTag n1) (ConstOf a2) e = like-alike q (with_const p) (StructTag n1) a2 e
like-alike q p (UnionTag n1) VoidTy e = absurd cc
like-alike q p (UnionTag n1) (IntTy k2) e = absurd cc
like-alike q p (UnionTag n1) (PointerTo a2) e = absurd cc
like-alike q p (UnionTag n1) (ArrayOf a2 n2) e = absurd cc
like-alike q p (UnionTag n1) (StructTag n2) e = absurd cc
like-alike q p (UnionTag n1) (UnionTag n2) e = same-like (UnionTag n1) (UnionTag n2) (ap UnionTag (numbers-equal n1 n2 (right-of (beq (is_constant q) (is_constant p)) (n1 == n2) e)))
like-alike q p (UnionTag n1) (FunctionTy a2 ts2 c2) e = absurd cc
like-alike q p (UnionTag n1) (ConstOf a2) e = like-alike q (with_const p) (UnionTag n1) a2 e
like-alike q p (FunctionTy a1 ts1 c1) VoidTy e = absurd cc
like-alike q p (FunctionTy a1 ts1 c1) (IntTy k2) e = absurd cc
like-alike q p (FunctionTy a1 ts1 c1) (PointerTo a2) e = absurd cc
like-alike q p (FunctionTy a1 ts1 c1) (ArrayOf a2 n2) e = absurd cc
like-alike q p (FunctionTy a1 ts1 c1) (StructTag n2) e = absurd cc
like-alike q p (FunctionTy a1 ts1 c1) (UnionTag n2) e = absurd cc
like-alike q p (FunctionTy a1 ts1 c1) (FunctionTy a2 ts2 c2) e = λ env v. ((λ h. absurd h), (λ h. absurd h))
like-alike q p (FunctionTy a1 ts1 c1) (ConstOf a2) e = like-alike q (with_const p) (FunctionTy a1 ts1 c1) a2 e
like-alike q p (ConstOf a1) u e = like-alike (with_const q) p a1 u e

turned : (t u : Ty) → AreLike t u → AreLike u t
turned t u h env v = ((h env v).1, (h env v).0)

all-like : (ts us : Tys) → all_alike (forms_of ts) (forms_of us) ≡ true → AreAllLike us ts
all-like NoTys NoTys e = tt
all-like NoTys (MoreTys u us) e = absurd cc
all-like (MoreTys t ts) NoTys e = absurd cc
all-like (MoreTys t ts) (MoreTys u us) e =
    (turned t u (like-alike _ _ t u (left-of _ (all_alike (forms_of ts) (forms_of us)) e)), all-like ts us (right-of _ (all_alike (forms_of ts) (forms_of us)) e))

-- a function type has no qualifier of its own
no-constant : (q p : _) (t r : Ty) (ts : Tys) (v : Bool) → is_constant q ≡ true → with_const q ≡ q → same_form (form_of q t) (FunctionForm false (form_of p r) (forms_of ts) v) ≡ true → ⊥
no-constant q p VoidTy r ts v h k e = absurd cc
no-constant q p (IntTy j) r ts v h k e = absurd cc
no-constant q p (PointerTo a) r ts v h k e = absurd cc
no-constant q p (ArrayOf a m) r ts v h k e = absurd cc
no-constant q p (StructTag m) r ts v h k e = absurd cc
no-constant q p (UnionTag m) r ts v h k e = absurd cc
no-constant q p (FunctionTy a us c) r ts v h k e =
    let f = left-of (beq (is_constant q) false) (beq c v) (left-of (beq (is_constant q) false && beq c v) _ e) in
    let g : beq true false ≡ true = subst (λ x. beq x false ≡ true) h f in
    absurd cc
no-constant q p (ConstOf a) r ts v h k e = no-constant q p a r ts v h k (subst (λ x. same_form (form_of x a) (FunctionForm false (form_of p r) (forms_of ts) v) ≡ true) k e)

-- a function type that has `...` where the type has it
abbrev IsSigned : Bool → Ty → Ty → Tys → Type 0
IsSigned false t r ts = IsSignature t r ts
IsSigned true t r ts = (a : Ty) × (us : Tys) × (t ≡ FunctionTy a us true)

signed : (q p : _) (t r : Ty) (ts : Tys) (v : Bool) → is_constant (with_const q) ≡ true → with_const (with_const q) ≡ with_const q → same_form (form_of q t) (FunctionForm false (form_of p r) (forms_of ts) v) ≡ true → IsSigned v t r ts
signed q p VoidTy r ts v h k e = absurd cc
signed q p (IntTy j) r ts v h k e = absurd cc
signed q p (PointerTo a) r ts v h k e = absurd cc
signed q p (ArrayOf a m) r ts v h k e = absurd cc
signed q p (StructTag m) r ts v h k e = absurd cc
signed q p (UnionTag m) r ts v h k e = absurd cc
signed q p (ConstOf a) r ts v h k e = absurd (no-constant (with_const q) p a r ts v h k e)
signed q p (FunctionTy a us true) r ts true h k e = (a, us, refl)
signed q p (FunctionTy a us true) r ts false h k e =
    let g : beq true false ≡ true = right-of (beq (is_constant q) false) (beq true false) (left-of (beq (is_constant q) false && beq true false) _ e) in
    absurd cc
signed q p (FunctionTy a us false) r ts true h k e =
    let g : beq false true ≡ true = right-of (beq (is_constant q) false) (beq false true) (left-of (beq (is_constant q) false && beq false true) _ e) in
    absurd cc
signed q p (FunctionTy a us false) r ts false h k e =
    let both = right-of (beq (is_constant q) false && beq false false) _ e in
    (like-alike _ _ a r (right-of (all_alike (forms_of us) (forms_of ts)) _ both), all-like us ts (left-of (all_alike (forms_of us) (forms_of ts)) _ both))

-- 6.3.2.3p8, 6.5.2.2p9: a function that may be called so is one with such a result and such parameters, and has no `...`
fixed : (b : Setting) (r : Ty) (ts : Tys) (v : Bool) (f : ℕ) → IsSigned v (function_at b.unit f).t r ts → HasBody b.unit f → (v ≡ true → AreFixed b.unit) → (IsSignature (function_at b.unit f).t r ts) × (v ≡ false)
fixed b r ts false f s h k = (s, refl)
fixed b r ts true f s h k = absurd (k refl f s.0 s.1 h s.2)

pub called-function : (b : Setting) (r : Ty) (ts : Tys) (v : Bool) (f : ℕ) → may_call b (FunctionTy r ts v) (Some f) ≡ true → HasBody b.unit f → (v ≡ true → AreFixed b.unit) → IsFunction b.unit f r ts × (v ≡ false)
unfolding are_compatible
called-function b r ts v f e h k =
    let few = left-of (nat_lt f (length b.unit.functions)) (are_compatible (function_at b.unit f).t (FunctionTy r ts v)) e in
    let like = right-of (nat_lt f (length b.unit.functions)) (are_compatible (function_at b.unit f).t (FunctionTy r ts v)) e in
    let one = fixed b r ts v f (signed _ _ (function_at b.unit f).t r ts v refl refl like) h k in
    ((ltb-true f (length b.unit.functions) few, h, one.0), one.1)
