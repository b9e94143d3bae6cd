-- Lists of types by their numbers.
use Rattle.std.proofs.Common.{◌≡◌, ℕ, zero, suc, Bool, true, false, IsTrue, Some, None, if◌then◌else◌, ◌+◌, ◌<◌, ◌≤◌, List, [], ◌∷◌, ◌++◌, length, take, drop, get_or, refl, sym, ap, arith, ◌∙◌}
use Rattle.std.proofs.lemmas.List.{take_more, map-append}
use Rattle.pv_types.specs.declared.terms.TypeId.{TypeId}
use Rattle.pv_types.specs.Known.{Known, tree, trees, tys_in, at}
use Rattle.pv_types.specs.Formed.{AllBelow, are_adjusted}
use Rattle.std.specs.declared.option.Option.{Option}
use Rattle.pv_types.specs.Adjusted.{is_adjusted}
use Rattle.pv_types.specs.Ty.{Ty, Tys, VoidTy, IntTy, PointerTo, ArrayOf, StructTag, UnionTag, FunctionTy, ConstOf, NoTys, MoreTys}
use Rattle.pv_typed.specs.Known.{Each}
use Rattle.pv_typed.specs.Tables.{Stored}
use Rattle.pv_check.specs.declared.parameters.Parameter.{Parameter}
use Rattle.pv_check.specs.Declarators.{ParameterKnown, parameter_shown, parameters_shown}
use Rattle.pv_check.specs.Derivations.{Parameter as WholeParameter, adjustment_of, parameter_types}
use Rattle.pv_types.specs.Sorts.{bare_type}
use Rattle.pv_typed.specs.Constants.{and_then}
use Rattle.pv_check.proofs.Growth.{both_true}

abbrev type_or : Ty → Option Ty → Ty
type_or d None = d
type_or d (Some t) = t

pub tys_stay : (a b : Known) (ids : List TypeId) → ((i : ℕ) → i < length a.terms → tree b i ≡ tree a i) → AllBelow (length a.terms) ids → tys_in (trees b) ids ≡ tys_in (trees a) ids
tys_stay a b [] stays h = refl
tys_stay a b (x ∷ xs) stays h = ap (λ (t : Ty). MoreTys t (tys_in (trees b) xs)) (stays x.0 h.0) ∙ ap (MoreTys (tree a x.0)) (tys_stay a b xs stays h.1)

-- one type more, behind others
abbrev push : Tys → Ty → Tys
push NoTys t = MoreTys t NoTys
push (MoreTys u us) t = MoreTys u (push us t)

tys_push : (ts : List Ty) (ids : List TypeId) (x : TypeId) → tys_in ts (ids ++ (x ∷ [])) ≡ push (tys_in ts ids) (at ts x.0)
tys_push ts [] x = refl
tys_push ts (y ∷ ys) x = ap (MoreTys (at ts y.0)) (tys_push ts ys x)

types_push : (ps : List WholeParameter) (p : WholeParameter) → parameter_types (ps ++ (p ∷ [])) ≡ push (parameter_types ps) (bare_type p.t)
types_push [] p = refl
types_push (q ∷ qs) p = ap (MoreTys (bare_type q.t)) (types_push qs p)

pub below_push : (n : ℕ) (ids : List TypeId) (x : TypeId) → AllBelow n ids → x.0 < n → AllBelow n (ids ++ (x ∷ []))
below_push n [] x h k = (k, tt)
below_push n (y ∷ ys) x h k = (h.0, below_push n ys x h.1 k)

pub list_more : (m : Known) (ids : List TypeId) (x : TypeId) (ps : List Parameter) (i : ℕ) (d : Parameter) → i < length ps
    → tree m x.0 ≡ bare_type (tree m (get_or ps i d).t.0)
    → tys_in (trees m) ids ≡ parameter_types (parameters_shown m (take i ps))
    → tys_in (trees m) (ids ++ (x ∷ [])) ≡ parameter_types (parameters_shown m (take (i + 1) ps))
list_more m ids x ps i d lt e h =
    tys_push (trees m) ids x
    ∙ ap (λ (ts : Tys). push ts (tree m x.0)) h
    ∙ ap (push (parameter_types (parameters_shown m (take i ps)))) e
    ∙ sym (types_push (parameters_shown m (take i ps)) (parameter_shown m (get_or ps i d)))
    ∙ ap parameter_types (sym (map-append (parameter_shown m) (take i ps) (get_or ps i d ∷ [])))
    ∙ ap (λ xs. parameter_types (parameters_shown m xs)) (sym (take_more ps i d lt))

pub below_drop : (n i : ℕ) (ids : List TypeId) → AllBelow n ids → AllBelow n (drop i ids)
below_drop n zero ids h = h
below_drop n (suc i) [] h = tt
below_drop n (suc i) (x ∷ xs) h = below_drop n i xs h.1

pub below_more : (m n : ℕ) (ids : List TypeId) → m ≤ n → AllBelow m ids → AllBelow n ids
below_more m n [] le h = tt
below_more m n (x ∷ xs) le h = let here : x.0 < m = h.0 in (omega (arith, le, here), below_more m n xs le h.1)

adjusted_unqualified : (t : Ty) → is_adjusted (bare_type t) ≡ is_adjusted t
adjusted_unqualified (ConstOf t) = adjusted_unqualified t
adjusted_unqualified VoidTy = refl
adjusted_unqualified (IntTy k) = refl
adjusted_unqualified (PointerTo t) = refl
adjusted_unqualified (ArrayOf t n) = refl
adjusted_unqualified (StructTag n) = refl
adjusted_unqualified (UnionTag n) = refl
adjusted_unqualified (FunctionTy t ts v) = refl

-- the types that parameters have in that of their function
pub parameters_adjusted : (m : Stored) (ps : List Parameter) → Each (ParameterKnown m) ps → IsTrue (are_adjusted (parameter_types (parameters_shown m.known ps)))
parameters_adjusted m [] h = refl
parameters_adjusted m (p ∷ ps) h = both_true (adjusted_unqualified (tree m.known p.t.0) ∙ h.0.2) (parameters_adjusted m ps h.1)

if_adjusted : (b : Bool) (t u : Ty) → is_adjusted u ≡ b → Some t ≡ (if b then Some (ConstOf u) else None) → is_adjusted t ≡ true
if_adjusted true t u h e = ap is_adjusted (ap (type_or t) e) ∙ h
if_adjusted false t u h e = cc

-- what a declared type becomes is no array and no function
adjusted_from : (t u : Ty) → Some t ≡ adjustment_of u → is_adjusted t ≡ true
adjusted_from t VoidTy e = ap (λ o. is_adjusted (type_or t o)) e
adjusted_from t (IntTy k) e = ap (λ o. is_adjusted (type_or t o)) e
adjusted_from t (PointerTo u) e = ap (λ o. is_adjusted (type_or t o)) e
adjusted_from t (ArrayOf u n) e = ap (λ o. is_adjusted (type_or t o)) e
adjusted_from t (StructTag n) e = ap (λ o. is_adjusted (type_or t o)) e
adjusted_from t (UnionTag n) e = ap (λ o. is_adjusted (type_or t o)) e
adjusted_from t (FunctionTy u us v) e = cc
adjusted_from t (ConstOf u) e = if_adjusted (is_adjusted u) t u refl e

pub adjusted_then : (t : Ty) (o : Option Ty) → Some t ≡ and_then o adjustment_of → IsTrue (is_adjusted t)
adjusted_then t None e = cc
adjusted_then t (Some u) e = adjusted_from t u e
