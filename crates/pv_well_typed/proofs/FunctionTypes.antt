-- Types of functions (C17 6.2.7, 6.7.6.3, 7.1.4): what their names ask of them, and what a later declaration keeps of an earlier one.
use Rattle.std.proofs.Common.{◌≡◌, ℕ, ◌==◌, Bool, true, false, not, ◌&&◌, ◌||◌, Option, Some, None, List, [], ◌∷◌, get_or, nat_eq, refl, sym, ap, subst, ◌∙◌, rules}
use Rattle.std.specs.Bool.{beq}
use Rattle.std.specs.Cmp.Lexicographic.{pointwise}
use Rattle.std.proofs.lemmas.Bool.{eqb-true}
use Rattle.pv_num.specs.declared.kinds.IntKind.{IntKind}
use Rattle.pv_num.specs.declared.kinds.IntKind.TheVariants.{Char, Int, ULong}
use Rattle.pv_library.specs.declared.library.Library.{Library}
use Rattle.pv_library.specs.declared.library.Library.TheVariants as library
use Rattle.pv_types.specs.Matching.{Matches, MatchAll}
use Rattle.pv_types.specs.Compatible.{IntForm, FunctionForm, NoForms, same_kind, form_of, forms_of, with_const, is_constant, same_form, all_alike, are_compatible}
use Rattle.pv_types.specs.Ty.{Ty, Tys, NoTys, MoreTys, VoidTy, IntTy, PointerTo, ArrayOf, StructTag, UnionTag, FunctionTy, ConstOf}
use Rattle.pv_types.proofs.Matched.{matching, matching_result, matching_parameters}
use Rattle.pv_typed.specs.Mains.{named_main}
use Rattle.pv_typed.specs.TypedUnits.{WholeUnit}
use Rattle.pv_check.specs.Composite.{composite_of, composites}
use Rattle.pv_library.specs.LibraryNames.{library_functions, function_among, library_named}
use Rattle.pv_check.specs.PrintfFormats.{is_printf}
use Rattle.pv_typed.specs.TypedTree.{is_function}
use Rattle.pv_check.specs.Texts.{same_text}
use Rattle.pv_library.specs.LibraryTypes.{prototype}
use Rattle.pv_unit.specs.MainType.{main_type}
use Rattle.pv_unit.specs.EntityParts.{agrees}
use Rattle.pv_unit.specs.Redeclarations.{is_variadic, may_have}
use Rattle.pv_guards.specs.Typed.{AreLike, AreAllLike, AreParametersOf, IsSignature, IsResultOf}
use Rattle.pv_guards.proofs.Signatures.{like-alike}
use Rattle.pv_well_typed.specs.Proper.{IsValueOrVoid, IsProper}
use Rattle.pv_well_typed.specs.ProperStates.{IsFixed, HasFunctionType}
use Rattle.pv_well_typed.proofs.UnaryRows.{both-true}
use Rattle.pv_well_typed.proofs.Composites.{composite-plain, proper-composite}
use Rattle.pv_well_typed.proofs.TagRows.{bits-equal}
use Rattle.pv_well_typed.proofs.UnitChanges.{Signs, composite-like, like-then, like-back}

-- ---- types that are compatible (6.2.7p1)

kinds-equal : (k l : IntKind) → same_kind k l ≡ true → k ≡ l
kinds-equal k l e = search rules

-- 6.2.7p1: what a function returns, and the flag of `...`
abbrev MatchesResult : Ty → Ty → Type 0
MatchesResult r (FunctionTy q qs d) = Matches r q
MatchesResult r _ = Unit {0}

result-matches : (r : Ty) (ts : Tys) (c : Bool) (t : Ty) → Matches (FunctionTy r ts c) t → MatchesResult r t
result-matches r ts c (FunctionTy q qs d) m = matching_result r q ts qs c d m
result-matches r ts c VoidTy m = tt
result-matches r ts c (IntTy k) m = tt
result-matches r ts c (PointerTo t) m = tt
result-matches r ts c (ArrayOf t n) m = tt
result-matches r ts c (StructTag n) m = tt
result-matches r ts c (UnionTag n) m = tt
result-matches r ts c (ConstOf t) m = tt

flags-equal : (q p : _) (r s : Ty) (ts us : Tys) (c d : Bool) → same_form (form_of q (FunctionTy r ts c)) (form_of p (FunctionTy s us d)) ≡ true → c ≡ d
flags-equal q p r s ts us c d e = bits-equal c d (both-true (beq (is_constant q) (is_constant p)) (beq c d) (both-true (beq (is_constant q) (is_constant p) && beq c d) _ e).0).1

-- what is compatible with a pointer, an integer type or `void`, and has no qualifier, is one
pointer-like : (q p : _) (t u : Ty) → IsValueOrVoid t → same_form (form_of q t) (form_of p (PointerTo u)) ≡ true → (s : Ty) × (t ≡ PointerTo s)
pointer-like q p (PointerTo s) u h e = (s, refl)
pointer-like q p VoidTy u h e = absurd cc
pointer-like q p (IntTy k) u h e = absurd cc
pointer-like q p (StructTag n) u h e = absurd cc
pointer-like q p (UnionTag n) u h e = absurd cc
pointer-like q p (ArrayOf t n) u h e = absurd h
pointer-like q p (FunctionTy t ts c) u h e = absurd h
pointer-like q p (ConstOf t) u h e = absurd h

integer-like : (q p : _) (t : Ty) (k : IntKind) → IsValueOrVoid t → same_form (form_of q t) (form_of p (IntTy k)) ≡ true → t ≡ IntTy k
integer-like q p (IntTy j) k h e = ap IntTy (kinds-equal j k (both-true (beq (is_constant q) (is_constant p)) (same_kind j k) e).1)
integer-like q p VoidTy k h e = absurd cc
integer-like q p (PointerTo s) k h e = absurd cc
integer-like q p (StructTag n) k h e = absurd cc
integer-like q p (UnionTag n) k h e = absurd cc
integer-like q p (ArrayOf t n) k h e = absurd h
integer-like q p (FunctionTy t ts c) k h e = absurd h
integer-like q p (ConstOf t) k h e = absurd h

void-like : (q p : _) (t : Ty) → IsValueOrVoid t → same_form (form_of q t) (form_of p VoidTy) ≡ true → t ≡ VoidTy
void-like q p VoidTy h e = refl
void-like q p (IntTy k) h e = absurd cc
void-like q p (PointerTo s) h e = absurd cc
void-like q p (StructTag n) h e = absurd cc
void-like q p (UnionTag n) h e = absurd cc
void-like q p (ArrayOf t n) h e = absurd h
void-like q p (FunctionTy t ts c) h e = absurd h
void-like q p (ConstOf t) h e = absurd h

like-pointer : (t u : Ty) → IsValueOrVoid t → Matches t (PointerTo u) → (s : Ty) × (t ≡ PointerTo s)
like-pointer t u h m = pointer-like m.left m.right t u h m.same

like-integer : (t : Ty) (k : IntKind) → IsValueOrVoid t → Matches t (IntTy k) → t ≡ IntTy k
like-integer t k h m = integer-like m.left m.right t k h m.same

like-void : (t : Ty) → IsValueOrVoid t → Matches t VoidTy → t ≡ VoidTy
like-void t h m = void-like m.left m.right t h m.same

-- ---- 7.1.4p2: functions of the library

result-of : (l : Library) (r : Ty) → IsValueOrVoid r → MatchesResult r (prototype l) → IsResultOf l r
result-of library.Malloc r p m = like-pointer r VoidTy p m
result-of library.Calloc r p m = like-pointer r VoidTy p m
result-of library.Realloc r p m = like-pointer r VoidTy p m
result-of library.Memcpy r p m = like-pointer r VoidTy p m
result-of library.Memmove r p m = like-pointer r VoidTy p m
result-of library.Memset r p m = like-pointer r VoidTy p m
result-of library.Strcpy r p m = like-pointer r (IntTy Char) p m
result-of library.Memcmp r p m = like-integer r Int p m
result-of library.Strcmp r p m = like-integer r Int p m
result-of library.Printf r p m = like-integer r Int p m
result-of library.Strlen r p m = like-integer r ULong p m
result-of library.Free r p m = like-void r p m
result-of library.Exit r p m = like-void r p m
result-of library.Abort r p m = like-void r p m

-- 6.7.6.3p15: parameters of compatible types have the same values
all-like : (ts us : Tys) → MatchAll ts us → AreAllLike ts us
all-like NoTys NoTys e = tt
all-like NoTys (MoreTys u us) e = absurd cc
all-like (MoreTys t ts) NoTys e = absurd cc
all-like (MoreTys t ts) (MoreTys u us) e =
    let h = both-true _ (all_alike (forms_of ts) (forms_of us)) e in
    (like-alike _ _ t u h.0, all-like ts us h.1)

prototype-function : (l : Library) → is_function (prototype l) ≡ true
prototype-function library.Malloc = refl
prototype-function library.Calloc = refl
prototype-function library.Free = refl
prototype-function library.Realloc = refl
prototype-function library.Memcpy = refl
prototype-function library.Memmove = refl
prototype-function library.Memset = refl
prototype-function library.Memcmp = refl
prototype-function library.Strlen = refl
prototype-function library.Strcmp = refl
prototype-function library.Strcpy = refl
prototype-function library.Exit = refl
prototype-function library.Abort = refl
prototype-function library.Printf = refl

parameters-of : (p r : Ty) (ts : Tys) (c : Bool) → is_function p ≡ true → Matches (FunctionTy r ts c) p → AreParametersOf p ts c
parameters-of (FunctionTy q qs d) r ts c f m = (all-like ts qs (matching_parameters r q ts qs c d m), flags-equal m.left m.right r q ts qs c d m.same)
parameters-of VoidTy r ts c f m = absurd cc
parameters-of (IntTy k) r ts c f m = absurd cc
parameters-of (PointerTo t) r ts c f m = absurd cc
parameters-of (ArrayOf t n) r ts c f m = absurd cc
parameters-of (StructTag n) r ts c f m = absurd cc
parameters-of (UnionTag n) r ts c f m = absurd cc
parameters-of (ConstOf t) r ts c f m = absurd cc

-- 6.2.7p3: a composite type has the parameters of the older one
like-composites : (ts us ws : Tys) → AreAllLike ts ws → AreAllLike (composites ts us) ws
like-composites (MoreTys t ts) (MoreTys u us) (MoreTys w ws) h = (like-then (composite_of t u) t w (composite-like t u) h.0, like-composites ts us ws h.1)
like-composites (MoreTys t ts) (MoreTys u us) NoTys h = absurd h
like-composites (MoreTys t ts) NoTys ws h = h
like-composites NoTys us ws h = h

parameters-composite : (p : Ty) (ts us : Tys) (c : Bool) → AreParametersOf p ts c → AreParametersOf p (composites ts us) c
parameters-composite (FunctionTy q qs d) ts us c h = (like-composites ts us qs h.0, h.1)
parameters-composite VoidTy ts us c h = absurd h
parameters-composite (IntTy k) ts us c h = absurd h
parameters-composite (PointerTo t) ts us c h = absurd h
parameters-composite (ArrayOf t n) ts us c h = absurd h
parameters-composite (StructTag n) ts us c h = absurd h
parameters-composite (UnionTag n) ts us c h = absurd h
parameters-composite (ConstOf t) ts us c h = absurd h

-- 6.2.7p3: a composite type of a result
composite-integer : (k : IntKind) (u : Ty) → composite_of (IntTy k) u ≡ IntTy k
composite-integer k VoidTy = refl
composite-integer k (IntTy l) = refl
composite-integer k (PointerTo u) = refl
composite-integer k (ArrayOf u n) = refl
composite-integer k (StructTag n) = refl
composite-integer k (UnionTag n) = refl
composite-integer k (FunctionTy u us c) = refl
composite-integer k (ConstOf u) = refl

composite-void : (u : Ty) → composite_of VoidTy u ≡ VoidTy
composite-void VoidTy = refl
composite-void (IntTy l) = refl
composite-void (PointerTo u) = refl
composite-void (ArrayOf u n) = refl
composite-void (StructTag n) = refl
composite-void (UnionTag n) = refl
composite-void (FunctionTy u us c) = refl
composite-void (ConstOf u) = refl

composite-pointer : (s u : Ty) → (z : Ty) × (composite_of (PointerTo s) u ≡ PointerTo z)
composite-pointer s VoidTy = (s, refl)
composite-pointer s (IntTy l) = (s, refl)
composite-pointer s (PointerTo u) = (composite_of s u, refl)
composite-pointer s (ArrayOf u n) = (s, refl)
composite-pointer s (StructTag n) = (s, refl)
composite-pointer s (UnionTag n) = (s, refl)
composite-pointer s (FunctionTy u us c) = (s, refl)
composite-pointer s (ConstOf u) = (s, refl)

to-pointer : (r u : Ty) → (s : Ty) × (r ≡ PointerTo s) → (s : Ty) × (composite_of r u ≡ PointerTo s)
to-pointer r u h = let z = composite-pointer h.0 u in (z.0, ap (λ t. composite_of t u) h.1 ∙ z.1)

to-integer : (k : IntKind) (r u : Ty) → r ≡ IntTy k → composite_of r u ≡ IntTy k
to-integer k r u h = ap (λ t. composite_of t u) h ∙ composite-integer k u

to-void : (r u : Ty) → r ≡ VoidTy → composite_of r u ≡ VoidTy
to-void r u h = ap (λ t. composite_of t u) h ∙ composite-void u

result-composite : (l : Library) (r u : Ty) → IsResultOf l r → IsResultOf l (composite_of r u)
result-composite library.Malloc r u h = to-pointer r u h
result-composite library.Calloc r u h = to-pointer r u h
result-composite library.Realloc r u h = to-pointer r u h
result-composite library.Memcpy r u h = to-pointer r u h
result-composite library.Memmove r u h = to-pointer r u h
result-composite library.Memset r u h = to-pointer r u h
result-composite library.Strcpy r u h = to-pointer r u h
result-composite library.Memcmp r u h = to-integer Int r u h
result-composite library.Strcmp r u h = to-integer Int r u h
result-composite library.Printf r u h = to-integer Int r u h
result-composite library.Strlen r u h = to-integer ULong r u h
result-composite library.Free r u h = to-void r u h
result-composite library.Exit r u h = to-void r u h
result-composite library.Abort r u h = to-void r u h

-- ---- names that have a meaning of their own

same-text : (a b : List ℕ) → same_text a b ≡ true → a ≡ b
same-text [] [] e = refl
same-text (x ∷ a) (y ∷ b) e = let h = both-true (x == y) (same_text a b) e in ap (λ z. z ∷ a) (eqb-true x y h.0) ∙ ap (λ z. y ∷ z) (same-text a b h.1)
same-text [] (y ∷ b) e = absurd cc
same-text (x ∷ a) [] e = absurd cc

pub pointwise-same : (a b : List ℕ) → pointwise nat_eq a b ≡ true → a ≡ b
pointwise-same a b e = search rules

-- 7.21.6.3p1
printf-named : (names : List (List ℕ)) (n : ℕ) → is_printf names n ≡ true → library_named (get_or names n []) ≡ Some library.Printf
unfolding library_named
printf-named names n e = ap (λ a. function_among library_functions a) (same-text (get_or names n []) (112 ∷ 114 ∷ 105 ∷ 110 ∷ 116 ∷ 102 ∷ []) e)

-- 5.1.2.2.1p1: the type of `main`
constant-integer : (q : _) (r : Ty) (k : IntKind) → is_constant q ≡ true → with_const q ≡ q → same_form (form_of q r) (IntForm false k) ≡ true → ⊥
constant-integer q (IntTy j) k h c e =
    let b = (both-true (beq (is_constant q) false) (same_kind j k) e).0 in
    let both : true ≡ false = sym h ∙ bits-equal (is_constant q) false b in
    absurd cc
constant-integer q VoidTy k h c e = absurd cc
constant-integer q (PointerTo t) k h c e = absurd cc
constant-integer q (ArrayOf t m) k h c e = absurd cc
constant-integer q (StructTag m) k h c e = absurd cc
constant-integer q (UnionTag m) k h c e = absurd cc
constant-integer q (FunctionTy t ts d) k h c e = absurd cc
constant-integer q (ConstOf t) k h c e = constant-integer q t k h c (subst (λ x. same_form (form_of x t) (IntForm false k) ≡ true) c e)

plain-integer : (q : _) (r : Ty) (k : IntKind) → is_constant (with_const q) ≡ true → with_const (with_const q) ≡ with_const q → same_form (form_of q r) (IntForm false k) ≡ true → r ≡ IntTy k
plain-integer q (IntTy j) k h c e = ap IntTy (kinds-equal j k (both-true (beq (is_constant q) false) (same_kind j k) e).1)
plain-integer q VoidTy k h c e = absurd cc
plain-integer q (PointerTo t) k h c e = absurd cc
plain-integer q (ArrayOf t m) k h c e = absurd cc
plain-integer q (StructTag m) k h c e = absurd cc
plain-integer q (UnionTag m) k h c e = absurd cc
plain-integer q (FunctionTy t ts d) k h c e = absurd cc
plain-integer q (ConstOf t) k h c e = absurd (constant-integer (with_const q) t k h c e)

main-parameters : (ts : Tys) → all_alike (forms_of ts) NoForms ≡ true → ts ≡ NoTys
main-parameters NoTys e = refl
main-parameters (MoreTys t ts) e = absurd cc

main-result : (q : _) (r : Ty) (ts : Tys) (c : Bool) → is_constant (with_const q) ≡ true → with_const (with_const q) ≡ with_const q
    → same_form (FunctionForm false (form_of q r) (forms_of ts) c) (FunctionForm false (IntForm false Int) NoForms false) ≡ true → FunctionTy r ts c ≡ FunctionTy (IntTy Int) NoTys false
main-result q r ts c h k e =
    let a = both-true (beq false false && beq c false) (all_alike (forms_of ts) NoForms && same_form (form_of q r) (IntForm false Int)) e in
    let b = both-true (all_alike (forms_of ts) NoForms) (same_form (form_of q r) (IntForm false Int)) a.1 in
    ap (λ x. FunctionTy x ts c) (plain-integer q r Int h k b.1) ∙ ap (λ x. FunctionTy (IntTy Int) x c) (main-parameters ts b.0)
    ∙ ap (FunctionTy (IntTy Int) NoTys) (bits-equal c false (both-true (beq false false) (beq c false) a.0).1)

pub main-is : (t : Ty) → is_function t ≡ true → are_compatible t main_type ≡ true → t ≡ FunctionTy (IntTy Int) NoTys false
unfolding are_compatible
main-is (FunctionTy r ts c) f e = main-result _ r ts c refl refl e
main-is VoidTy f e = absurd cc
main-is (IntTy k) f e = absurd cc
main-is (PointerTo t) f e = absurd cc
main-is (ArrayOf t n) f e = absurd cc
main-is (StructTag n) f e = absurd cc
main-is (UnionTag n) f e = absurd cc
main-is (ConstOf t) f e = absurd cc

pub composite-main : (u : Ty) → composite_of (FunctionTy (IntTy Int) NoTys false) u ≡ FunctionTy (IntTy Int) NoTys false
composite-main (FunctionTy r us c) = ap (λ x. FunctionTy x (composites NoTys us) false) (composite-integer Int r) ∙ ap (λ x. FunctionTy (IntTy Int) x false) (none us)
  where
    none : (us : Tys) → composites NoTys us ≡ NoTys
    none NoTys = refl
    none (MoreTys u us) = refl
composite-main VoidTy = refl
composite-main (IntTy k) = refl
composite-main (PointerTo t) = refl
composite-main (ArrayOf t n) = refl
composite-main (StructTag n) = refl
composite-main (UnionTag n) = refl
composite-main (ConstOf t) = refl

pub composite-fixed : (t u : Ty) → IsFixed t → IsFixed (composite_of t u)
composite-fixed (FunctionTy t ts c) (FunctionTy u us d) h = h
composite-fixed (FunctionTy t ts c) VoidTy h = h
composite-fixed (FunctionTy t ts c) (IntTy k) h = h
composite-fixed (FunctionTy t ts c) (PointerTo u) h = h
composite-fixed (FunctionTy t ts c) (ArrayOf u n) h = h
composite-fixed (FunctionTy t ts c) (StructTag n) h = h
composite-fixed (FunctionTy t ts c) (UnionTag n) h = h
composite-fixed (FunctionTy t ts c) (ConstOf u) h = h
composite-fixed VoidTy u h = fixed-void u
  where
    fixed-void : (u : Ty) → IsFixed (composite_of VoidTy u)
    fixed-void u = subst IsFixed (sym (composite-void u)) tt
composite-fixed (IntTy k) u h = subst IsFixed (sym (composite-integer k u)) tt
composite-fixed (PointerTo s) u h = let z = composite-pointer s u in subst IsFixed (sym z.1) tt
composite-fixed (ArrayOf t n) (ArrayOf u m) h = tt
composite-fixed (ArrayOf t n) _ h = tt
composite-fixed (StructTag n) _ h = tt
composite-fixed (UnionTag n) _ h = tt
composite-fixed (ConstOf t) (ConstOf u) h = tt
composite-fixed (ConstOf t) _ h = tt

-- 6.2.7p4: a function type stays one of its function
pub composite-function : (v : WholeUnit) (l : Option Library) (t u : Ty) → are_compatible t u ≡ true → is_function t ≡ true → is_function u ≡ true → HasFunctionType v l t → IsProper v u → HasFunctionType v l (composite_of t u)
composite-function v None t u c f g h p = (proper-composite v t u (matching t u c) h.0 p, composite-fixed t u h.1)
composite-function v (Some l) (FunctionTy r ts b) (FunctionTy s us d) c f g h p = (
  result-composite l r s h.0,
  composite-plain r s h.1,
  proper-composite v r s (matching_result r s ts us b d (matching (FunctionTy r ts b) (FunctionTy s us d) c)) h.2 p.1,
  parameters-composite (prototype l) ts us b h.3,
)
composite-function v (Some l) (FunctionTy r ts b) VoidTy c f g h p = absurd cc
composite-function v (Some l) (FunctionTy r ts b) (IntTy k) c f g h p = absurd cc
composite-function v (Some l) (FunctionTy r ts b) (PointerTo u) c f g h p = absurd cc
composite-function v (Some l) (FunctionTy r ts b) (ArrayOf u n) c f g h p = absurd cc
composite-function v (Some l) (FunctionTy r ts b) (StructTag n) c f g h p = absurd cc
composite-function v (Some l) (FunctionTy r ts b) (UnionTag n) c f g h p = absurd cc
composite-function v (Some l) (FunctionTy r ts b) (ConstOf u) c f g h p = absurd cc
composite-function v (Some l) VoidTy u c f g h p = absurd cc
composite-function v (Some l) (IntTy k) u c f g h p = absurd cc
composite-function v (Some l) (PointerTo t) u c f g h p = absurd cc
composite-function v (Some l) (ArrayOf t n) u c f g h p = absurd cc
composite-function v (Some l) (StructTag n) u c f g h p = absurd cc
composite-function v (Some l) (UnionTag n) u c f g h p = absurd cc
composite-function v (Some l) (ConstOf t) u c f g h p = absurd cc

-- ---- what its name asks of a function's type

pub record MayHave (texts : List (List ℕ)) (n : ℕ) (t : Ty) : Type 0 where
  pub main : named_main texts n ≡ true → are_compatible t main_type ≡ true
  pub library : agrees (library_named (get_or texts n [])) t ≡ true
  pub variadic : is_variadic t ≡ true → is_printf texts n ≡ true

pub may-have : (texts : List (List ℕ)) (n : ℕ) (t : Ty) → may_have texts n t ≡ true → MayHave texts n t
may-have texts n t e =
    let h = both-true ((not (named_main texts n) || are_compatible t main_type) && agrees (library_named (get_or texts n [])) t) (not (is_variadic t) || is_printf texts n) e in
    let k = both-true (not (named_main texts n) || are_compatible t main_type) (agrees (library_named (get_or texts n [])) t) h.0 in
    record { main = λ q. implied (named_main texts n) (are_compatible t main_type) k.0 q; library = k.1; variadic = λ q. implied (is_variadic t) (is_printf texts n) h.1 q }
  where
    implied : (a b : Bool) → (not a || b) ≡ true → a ≡ true → b ≡ true
    implied true b e q = e
    implied false b e q = absurd cc

pub may-type : (v : WholeUnit) (texts : List (List ℕ)) (n : ℕ) (t : Ty) → is_function t ≡ true → MayHave texts n t → IsProper v t → HasFunctionType v (library_named (get_or texts n [])) t
may-type v texts n (FunctionTy r ts c) f h p = by (library_named (get_or texts n [])) refl h.library
  where
    none-printf : (b : Bool) → (b ≡ true → is_printf texts n ≡ true) → library_named (get_or texts n []) ≡ None → b ≡ false
    none-printf true q e = let both : Some library.Printf ≡ None = sym (printf-named texts n (q refl)) ∙ e in absurd cc
    none-printf false q e = refl

    by : (o : Option Library) → library_named (get_or texts n []) ≡ o → agrees o (FunctionTy r ts c) ≡ true → HasFunctionType v o (FunctionTy r ts c)
    by None e a = (p, none-printf c h.variadic e)
    by (Some l) e a =
        let m = matching (FunctionTy r ts c) (prototype l) a in
        (result-of l r p.0 (result-matches r ts c (prototype l) m), p.0, p.1, parameters-of (prototype l) r ts c (prototype-function l) m)
may-type v texts n VoidTy f h p = absurd cc
may-type v texts n (IntTy k) f h p = absurd cc
may-type v texts n (PointerTo t) f h p = absurd cc
may-type v texts n (ArrayOf t m) f h p = absurd cc
may-type v texts n (StructTag m) f h p = absurd cc
may-type v texts n (UnionTag m) f h p = absurd cc
may-type v texts n (ConstOf t) f h p = absurd cc

-- `...` stands in both of two compatible types, or in none
pub fixed-back : (t u : Ty) → is_function t ≡ true → is_function u ≡ true → Matches t u → IsFixed u → IsFixed (composite_of t u)
fixed-back (FunctionTy t ts c) (FunctionTy u us d) f g m h = flags-equal m.left m.right t u ts us c d m.same ∙ h
fixed-back (FunctionTy t ts c) VoidTy f g m h = absurd cc
fixed-back (FunctionTy t ts c) (IntTy k) f g m h = absurd cc
fixed-back (FunctionTy t ts c) (PointerTo u) f g m h = absurd cc
fixed-back (FunctionTy t ts c) (ArrayOf u n) f g m h = absurd cc
fixed-back (FunctionTy t ts c) (StructTag n) f g m h = absurd cc
fixed-back (FunctionTy t ts c) (UnionTag n) f g m h = absurd cc
fixed-back (FunctionTy t ts c) (ConstOf u) f g m h = absurd cc
fixed-back VoidTy u f g m h = absurd cc
fixed-back (IntTy k) u f g m h = absurd cc
fixed-back (PointerTo t) u f g m h = absurd cc
fixed-back (ArrayOf t n) u f g m h = absurd cc
fixed-back (StructTag n) u f g m h = absurd cc
fixed-back (UnionTag n) u f g m h = absurd cc
fixed-back (ConstOf t) u f g m h = absurd cc

-- a composite type of a function is one
pub composite-shape : (t u : Ty) → is_function t ≡ true → is_function (composite_of t u) ≡ true
composite-shape (FunctionTy t ts c) (FunctionTy u us d) h = refl
composite-shape (FunctionTy t ts c) VoidTy h = refl
composite-shape (FunctionTy t ts c) (IntTy k) h = refl
composite-shape (FunctionTy t ts c) (PointerTo u) h = refl
composite-shape (FunctionTy t ts c) (ArrayOf u n) h = refl
composite-shape (FunctionTy t ts c) (StructTag n) h = refl
composite-shape (FunctionTy t ts c) (UnionTag n) h = refl
composite-shape (FunctionTy t ts c) (ConstOf u) h = refl
composite-shape VoidTy u h = absurd cc
composite-shape (IntTy k) u h = absurd cc
composite-shape (PointerTo t) u h = absurd cc
composite-shape (ArrayOf t n) u h = absurd cc
composite-shape (StructTag n) u h = absurd cc
composite-shape (UnionTag n) u h = absurd cc
composite-shape (ConstOf t) u h = absurd cc

-- ---- what a later declaration keeps of an earlier one, and of itself (6.2.7p4)

likes-then : (ts us ws : Tys) → AreAllLike ts us → AreAllLike us ws → AreAllLike ts ws
likes-then NoTys NoTys NoTys h g = tt
likes-then NoTys NoTys (MoreTys w ws) h g = absurd g
likes-then NoTys (MoreTys u us) ws h g = absurd h
likes-then (MoreTys t ts) NoTys ws h g = absurd h
likes-then (MoreTys t ts) (MoreTys u us) NoTys h g = absurd g
likes-then (MoreTys t ts) (MoreTys u us) (MoreTys w ws) h g = (like-then t u w h.0 g.0, likes-then ts us ws h.1 g.1)

likes-back : (ts us : Tys) → AreAllLike ts us → AreAllLike us ts
likes-back NoTys NoTys h = tt
likes-back NoTys (MoreTys u us) h = absurd h
likes-back (MoreTys t ts) NoTys h = absurd h
likes-back (MoreTys t ts) (MoreTys u us) h = (like-back t u h.0, likes-back ts us h.1)

pub signed-like : (w r q : Ty) (ts us : Tys) → AreLike r q → AreAllLike us ts → IsSignature w r ts → IsSignature w q us
signed-like (FunctionTy x xs false) r q ts us l a h = (like-then x r q h.0 l, likes-then us ts xs a h.1)
signed-like (FunctionTy x xs true) r q ts us l a h = absurd h
signed-like VoidTy r q ts us l a h = absurd h
signed-like (IntTy k) r q ts us l a h = absurd h
signed-like (PointerTo t) r q ts us l a h = absurd h
signed-like (ArrayOf t n) r q ts us l a h = absurd h
signed-like (StructTag n) r q ts us l a h = absurd h
signed-like (UnionTag n) r q ts us l a h = absurd h
signed-like (ConstOf t) r q ts us l a h = absurd h

-- what has the signature of the older type has that of one that is compatible
pub compatible-signs : (t u : Ty) → is_function t ≡ true → Matches t u → Signs u t
compatible-signs (FunctionTy r ts c) (FunctionTy s us d) f m w h q qs e =
    let p = flags-equal m.left m.right r s ts us c d m.same in
    let k = matching_result r s ts us c d m in
    let first : s ≡ q = cc in
    let second : us ≡ qs = cc in
    let third : d ≡ false = cc in
    subst (λ z. IsSignature w z qs) first (subst (λ z. IsSignature w s z) second
    (signed-like w r s ts us (like-alike k.left k.right r s k.same) (likes-back ts us (all-like ts us (matching_parameters r s ts us c d m))) (h r ts (ap (FunctionTy r ts) (p ∙ third)))))
compatible-signs (FunctionTy r ts c) VoidTy f m w h q qs e = absurd cc
compatible-signs (FunctionTy r ts c) (IntTy k) f m w h q qs e = absurd cc
compatible-signs (FunctionTy r ts c) (PointerTo u) f m w h q qs e = absurd cc
compatible-signs (FunctionTy r ts c) (ArrayOf u n) f m w h q qs e = absurd cc
compatible-signs (FunctionTy r ts c) (StructTag n) f m w h q qs e = absurd cc
compatible-signs (FunctionTy r ts c) (UnionTag n) f m w h q qs e = absurd cc
compatible-signs (FunctionTy r ts c) (ConstOf u) f m w h q qs e = absurd cc
compatible-signs VoidTy u f m w h q qs e = absurd cc
compatible-signs (IntTy k) u f m w h q qs e = absurd cc
compatible-signs (PointerTo t) u f m w h q qs e = absurd cc
compatible-signs (ArrayOf t n) u f m w h q qs e = absurd cc
compatible-signs (StructTag n) u f m w h q qs e = absurd cc
compatible-signs (UnionTag n) u f m w h q qs e = absurd cc
compatible-signs (ConstOf t) u f m w h q qs e = absurd cc
