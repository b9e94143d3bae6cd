-- Types that match: their parts match, and complete ones have one size (6.2.7).
use Rattle.std.proofs.Common.{◌≡◌, ℕ, ◌*◌, ◌/◌, ◌==◌, ◌&&◌, nat_lt, Bool, true, false, Some, None, List, refl, sym, ◌∙◌, ap, rules}
use Rattle.std.proofs.lemmas.Bool.{eqb-true}
use Rattle.std.specs.Bool.{beq}
use Rattle.std.specs.declared.option.Option.{Option}
use Rattle.pv_num.specs.declared.kinds.IntKind.{IntKind}
use Rattle.pv_num.specs.Kinds.{width}
use Rattle.pv_types.specs.declared.compatibility.Qualifier.{Qualifier}
use Rattle.pv_types.specs.declared.compatibility.Qualifier.TheVariants.{Unqualified, Ignored}
use Rattle.pv_types.specs.Ty.{Ty, Tys, MoreTys, VoidTy, IntTy, PointerTo, ArrayOf, StructTag, UnionTag, FunctionTy, ConstOf}
use Rattle.pv_types.specs.Layouts.{Entry, look, layout_in, is_complete_in}
use Rattle.pv_types.specs.LayoutParts.{or_none}
use Rattle.pv_types.specs.Compatible.{are_compatible, forms_of, all_alike, Form, VoidForm, IntForm, PointerForm, ArrayForm, StructForm, UnionForm, FunctionForm, form_of, same_form, sizes_agree, same_kind, with_const, of_elements}
use Rattle.pv_types.specs.Matching.{Matches, MatchAll}
use Rattle.pv_types.proofs.Fills.{left_true, right_true}

-- sizes and completeness, read off forms
abbrev form_size : List Entry → Form → ℕ
form_size env (VoidForm c) = 0
form_size env (IntForm c k) = width k / 8
form_size env (PointerForm c f) = 8
form_size env (ArrayForm f None) = 0
form_size env (ArrayForm f (Some n)) = n * form_size env f
form_size env (StructForm c n) = (or_none (look env n)).size
form_size env (UnionForm c n) = (or_none (look env n)).size
form_size env (FunctionForm c f fs v) = 0

abbrev form_complete : List Entry → Form → Bool
form_complete env (ArrayForm f None) = false
form_complete env (ArrayForm f (Some n)) = nat_lt 0 n && form_complete env f
form_complete env _ = true

size_form : (env : List Entry) (q : Qualifier) (t : Ty) → (layout_in env t).size ≡ form_size env (form_of q t)
size_form env q VoidTy = refl
size_form env q (IntTy k) = refl
size_form env q (PointerTo t) = refl
size_form env q (ArrayOf t None) = refl
size_form env q (ArrayOf t (Some n)) = ap (λ s. n * s) (size_form env (of_elements q) t)
size_form env q (StructTag n) = refl
size_form env q (UnionTag n) = refl
size_form env q (FunctionTy t ts v) = refl
size_form env q (ConstOf t) = size_form env (with_const q) t

complete_form : (env : List Entry) (q : Qualifier) (t : Ty) → is_complete_in env t ≡ true → form_complete env (form_of q t) ≡ true
complete_form env q VoidTy h = refl
complete_form env q (IntTy k) h = refl
complete_form env q (PointerTo t) h = refl
complete_form env q (ArrayOf t None) h = h
complete_form env q (ArrayOf t (Some n)) h =
    let some : nat_lt 0 n ≡ true = left_true (nat_lt 0 n) (is_complete_in env t) h in
    let whole : form_complete env (form_of (of_elements q) t) ≡ true = complete_form env (of_elements q) t (right_true (nat_lt 0 n) (is_complete_in env t) h) in
    rw (some, whole) refl
complete_form env q (StructTag n) h = refl
complete_form env q (UnionTag n) h = refl
complete_form env q (FunctionTy t ts v) h = refl
complete_form env q (ConstOf t) h = complete_form env (with_const q) t h

kinds_equal : (k l : IntKind) → same_kind k l ≡ true → k ≡ l
kinds_equal k l h = search rules

alike_size : (env : List Entry) (f g : Form) → same_form f g ≡ true → form_complete env f ≡ true → form_complete env g ≡ true → form_size env f ≡ form_size env g
alike_size env (VoidForm c) (VoidForm d) h a b = refl
alike_size env (IntForm c k) (IntForm d l) h a b = ap (λ (x : IntKind). width x / 8) (kinds_equal k l (right_true (beq c d) _ h))
alike_size env (PointerForm c f) (PointerForm d g) h a b = refl
alike_size env (ArrayForm f (Some m)) (ArrayForm g (Some n)) h a b =
    let count : m ≡ n = eqb-true m n (left_true (m == n) (same_form f g) h) in
    let one : form_size env f ≡ form_size env g = alike_size env f g (right_true (m == n) (same_form f g) h) (right_true (nat_lt 0 m) _ a) (right_true (nat_lt 0 n) _ b) in
    rw (count, one) refl
alike_size env (ArrayForm f None) (ArrayForm g n) h a b = absurd cc
alike_size env (ArrayForm f (Some m)) (ArrayForm g None) h a b = absurd cc
alike_size env (StructForm c m) (StructForm d n) h a b = ap (λ (k : ℕ). (or_none (look env k)).size) (eqb-true m n (right_true (beq c d) _ h))
alike_size env (UnionForm c m) (UnionForm d n) h a b = ap (λ (k : ℕ). (or_none (look env k)).size) (eqb-true m n (right_true (beq c d) _ h))
alike_size env (FunctionForm c f fs v) (FunctionForm d g gs w) h a b = refl
alike_size env _ _ h a b = absurd cc

pub matching_size : (env : List Entry) (t u : Ty) → Matches t u → is_complete_in env t ≡ true → is_complete_in env u ≡ true → (layout_in env t).size ≡ (layout_in env u).size
matching_size env t u h a b =
    size_form env h.left t ∙ alike_size env (form_of h.left t) (form_of h.right u) h.same (complete_form env h.left t a) (complete_form env h.right u b) ∙ sym (size_form env h.right u)

-- ---- parts of types that match

pub matching : (t u : Ty) → are_compatible t u ≡ true → Matches t u
unfolding are_compatible
matching t u h = record { left = Unqualified; right = Unqualified; same = h }

pub matching_array : (t u : Ty) (m n : Option ℕ) → Matches (ArrayOf t m) (ArrayOf u n) → Matches t u
matching_array t u m n h = record { left = of_elements h.left; right = of_elements h.right; same = right_true (sizes_agree m n) _ h.same }

pub matching_result : (t u : Ty) (ts us : Tys) (v w : Bool) → Matches (FunctionTy t ts v) (FunctionTy u us w) → Matches t u
matching_result t u ts us v w h = record { left = Unqualified; right = Unqualified; same = right_true (all_alike (forms_of ts) (forms_of us)) _ (right_true _ (all_alike (forms_of ts) (forms_of us) && same_form (form_of Unqualified t) (form_of Unqualified u)) h.same) }

pub matching_parameters : (t u : Ty) (ts us : Tys) (v w : Bool) → Matches (FunctionTy t ts v) (FunctionTy u us w) → MatchAll ts us
matching_parameters t u ts us v w h = left_true (all_alike (forms_of ts) (forms_of us)) _ (right_true _ (all_alike (forms_of ts) (forms_of us) && same_form (form_of Unqualified t) (form_of Unqualified u)) h.same)

pub matching_first : (t u : Ty) (ts us : Tys) → MatchAll (MoreTys t ts) (MoreTys u us) → Matches t u
matching_first t u ts us h = record { left = Ignored; right = Ignored; same = left_true _ (all_alike (forms_of ts) (forms_of us)) h }

pub matching_rest : (t u : Ty) (ts us : Tys) → MatchAll (MoreTys t ts) (MoreTys u us) → MatchAll ts us
matching_rest t u ts us h = right_true (same_form (form_of Ignored t) (form_of Ignored u)) _ h
