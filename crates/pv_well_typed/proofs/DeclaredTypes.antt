-- What specifiers and declarators make is a type as declarations make them (C17 6.7.2, 6.7.6).
use Rattle.std.proofs.Common.{◌≡◌, ℕ, ◌≤◌, ◌*◌, Bool, true, false, ◌&&◌, Option, Some, None, is_some, List, [], ◌∷◌, ◌++◌, refl, sym, subst, ◌∙◌}
use Rattle.std.specs.Prelude.{if◌then◌else◌, ◌^◌, nat_le}
use Rattle.std.proofs.lemmas.Bool.{leb-true}
use Rattle.pv_token.specs.declared.words.Word.{Word}
use Rattle.pv_token.specs.declared.words.Word.TheVariants as word
use Rattle.pv_types.specs.Adjusted.{is_adjusted}
use Rattle.pv_types.specs.Layouts.{Entry, layout_in, is_complete_in}
use Rattle.pv_types.specs.Ty.{Ty, Tys, VoidTy, IntTy, PointerTo, ArrayOf, StructTag, UnionTag, FunctionTy, ConstOf}
use Rattle.pv_typed.specs.Known.{Each}
use Rattle.pv_typed.proofs.Each.{each_append}
use Rattle.pv_typed.specs.TypedUnits.{WholeUnit}
use Rattle.pv_check.specs.declared.specifiers.Storage.{Storage}
use Rattle.pv_check.specs.declared.words.TypeWords.{TypeWords}
use Rattle.pv_check.specs.Derivations.{Derivation, ByPointer, ByArray, ByFunction, step, derived_type, adjustment_of}
use Rattle.pv_check.specs.DerivationParts.{pointer_to, function_of}
use Rattle.pv_check.specs.Qualified.{const_version, with_const}
use Rattle.pv_types.specs.Sorts.{bare_type}
use Rattle.pv_check.specs.Sorts.{is_array}
use Rattle.pv_typed.specs.TypedTree.{is_function}
use Rattle.pv_check.specs.Specifiers.{Seen, Specified, one_storage, with_keyword, with_type, base_type, specification_of, is_plain}
use Rattle.pv_check.specs.SpecifierParts.{specified_with, without_storage}
use Rattle.pv_typed.specs.Constants.{and_then}
use Rattle.pv_check.specs.Words.{Row, rows, named_by, no_words, same_words, type_of_words}
use Rattle.pv_check.specs.WordParts.{count_of_words}
use Rattle.pv_guards.specs.Typed.{AreFixed}
use Rattle.pv_well_typed.specs.Proper.{IsProper}
use Rattle.pv_well_typed.specs.Later.{Extends}
use Rattle.pv_well_typed.proofs.Operands.{as-made, some-same}
use Rattle.pv_well_typed.proofs.Types.{complete-later, layout-later, plain-value, proper-bare, proper-qualified}
use Rattle.pv_well_typed.proofs.UnaryRows.{both-true}

-- where there is an answer, there was one before
pub from-some : {A B : Type 0} (o : Option A) (f : A → Option B) (b : B) → and_then o f ≡ Some b → (a : A) × (o ≡ Some a) × (f a ≡ Some b)
from-some None f b e = absurd cc
from-some (Some a) f b e = (a, refl, e)

module _ (v : WholeUnit) where
  -- ---- 6.7.2p2: type words

  named-proper : (rs : List Row) → Each (λ (r : Row). IsProper v r.t) rs → (w : TypeWords) (t : Ty) → named_by rs w ≡ Some t → IsProper v t
  named-proper [] h w t e = absurd cc
  named-proper (r ∷ rs) h w t e = by (same_words (count_of_words r.words) w) (named-proper rs h.1 w t) e
    where
      by : (b : Bool) → (named_by rs w ≡ Some t → IsProper v t) → (if b then Some r.t else named_by rs w) ≡ Some t → IsProper v t
      by true rest e = as-made (IsProper v) r.t t h.0 e
      by false rest e = rest e

  words-proper : (w : TypeWords) (t : Ty) → type_of_words w ≡ Some t → IsProper v t
  unfolding type_of_words
  words-proper w t e = named-proper rows (tt, (tt, (tt, (tt, (tt, (tt, (tt, (tt, (tt, (tt, (tt, (tt, (tt, (tt, (tt, (tt, (tt, (tt, (tt, (tt, (tt, (tt, (tt, (tt, (tt, (tt, (tt, (tt, tt)))))))))))))))))))))))))))) w t e

  -- ---- 6.7p1: specifiers; the type that one of them names is proper

  abbrev pub HasProperName : Option Ty → Type 0
  HasProperName None = Unit {0}
  HasProperName (Some t) = IsProper v t

  pub keyword-proper : (seen : Seen) (w : Word) (x : Seen) → with_keyword seen w ≡ Some x → HasProperName seen.named → HasProperName x.named
  keyword-proper seen word.Typedef x e h = let f = from-some (one_storage seen.storage _) (λ (y : Storage). Some (record seen { storage = y })) x e in subst (λ (y : Seen). HasProperName y.named) (some-same _ x f.2) h
  keyword-proper seen word.Extern x e h = let f = from-some (one_storage seen.storage _) (λ (y : Storage). Some (record seen { storage = y })) x e in subst (λ (y : Seen). HasProperName y.named) (some-same _ x f.2) h
  keyword-proper seen word.Static x e h = let f = from-some (one_storage seen.storage _) (λ (y : Storage). Some (record seen { storage = y })) x e in subst (λ (y : Seen). HasProperName y.named) (some-same _ x f.2) h
  keyword-proper seen word.Const x e h = subst (λ (y : Seen). HasProperName y.named) (some-same _ x e) h
  keyword-proper seen _ x e h = subst (λ (y : Seen). HasProperName y.named) (some-same _ x e) h

  pub type-proper : (seen : Seen) (t : Ty) (x : Seen) → with_type seen t ≡ Some x → IsProper v t → HasProperName x.named
  type-proper seen t x e h = by (is_some seen.named) e
    where
      by : (b : Bool) → (if b then None else Some (record seen { named = Some t })) ≡ Some x → HasProperName x.named
      by true e = absurd cc
      by false e = as-made (λ (y : Seen). HasProperName y.named) (record seen { named = Some t }) x h e

  base-proper : (w : TypeWords) (o : Option Ty) (t : Ty) → HasProperName o → base_type w o ≡ Some t → IsProper v t
  base-proper w None t h e = words-proper w t e
  base-proper w (Some u) t h e = by (same_words w no_words) e
    where
      by : (b : Bool) → (if b then Some u else None) ≡ Some t → IsProper v t
      by true e = as-made (IsProper v) u t h e
      by false e = absurd cc

  constant-proper : (b : Bool) (t u : Ty) → IsProper v t → with_const b t ≡ Some u → IsProper v u
  constant-proper false t u h e = as-made (IsProper v) t u h e
  constant-proper true VoidTy u h e = as-made (IsProper v) (ConstOf VoidTy) u (tt, tt) e
  constant-proper true (IntTy k) u h e = as-made (IsProper v) (ConstOf (IntTy k)) u (tt, tt) e
  constant-proper true (PointerTo t) u h e = as-made (IsProper v) (ConstOf (PointerTo t)) u (tt, h) e
  constant-proper true (ArrayOf t n) u h e = as-made (IsProper v) (const_version (ArrayOf t n)) u (proper-qualified v (ArrayOf t n) h refl) e
  constant-proper true (StructTag n) u h e = as-made (IsProper v) (ConstOf (StructTag n)) u (tt, h) e
  constant-proper true (UnionTag n) u h e = as-made (IsProper v) (ConstOf (UnionTag n)) u (tt, h) e
  constant-proper true (FunctionTy t ts c) u h e = absurd cc
  constant-proper true (ConstOf t) u h e = as-made (IsProper v) (ConstOf t) u h e

  pub specified-proper : (seen : Seen) (x : Specified) → HasProperName seen.named → specification_of seen ≡ Some x → IsProper v x.t
  specified-proper seen x h e =
      let f = from-some (and_then (base_type seen.words seen.named) (with_const seen.constant)) (specified_with seen.storage) x e in
      let g = from-some (base_type seen.words seen.named) (with_const seen.constant) f.0 f.1 in
      as-made (λ (y : Specified). IsProper v y.t) (record { storage = seen.storage; t = f.0 }) x
      (constant-proper seen.constant g.0 f.0 (base-proper seen.words seen.named g.0 h g.1) g.2) f.2

  pub plain-proper : (seen : Seen) (t : Ty) → HasProperName seen.named → and_then (specification_of seen) without_storage ≡ Some t → IsProper v t
  plain-proper seen t h e =
      let f = from-some (specification_of seen) without_storage t e in
      by f.0 (specified-proper seen f.0 h f.1) (is_plain f.0.storage) f.2
    where
      by : (x : Specified) → IsProper v x.t → (b : Bool) → (if b then Some x.t else None) ≡ Some t → IsProper v t
      by x p true e = as-made (IsProper v) x.t t p e
      by x p false e = absurd cc

  -- ---- 6.7.6: declarators

  -- 6.7.6.3p9: no `...`
  abbrev pub IsPlainStep : Derivation → Type 0
  IsPlainStep (ByPointer c) = Unit {0}
  IsPlainStep (ByArray n) = Unit {0}
  IsPlainStep (ByFunction ts variadic) = variadic ≡ false

  -- 6.7.6p4: so it is of all but the one that is nearest to the name
  abbrev pub IsPlainBehind : List Derivation → Type 0
  IsPlainBehind [] = Unit {0}
  IsPlainBehind (d ∷ ds) = Each IsPlainStep ds

  pub plain-more : (ds : List Derivation) (d : Derivation) → Each IsPlainStep ds → IsPlainStep d → Each IsPlainStep (ds ++ (d ∷ []))
  plain-more ds d h p = each_append IsPlainStep ds (d ∷ []) h (p, tt)

  pub behind-more : (ds : List Derivation) (d : Derivation) → IsPlainBehind ds → IsPlainStep d → IsPlainBehind (ds ++ (d ∷ []))
  behind-more [] d h p = tt
  behind-more (x ∷ ds) d h p = plain-more ds d h p

  module _ (es : List Entry) (more : Extends es v) where
    unsized-proper : (b : Bool) (t u : Ty) → IsProper v t → (if b && is_complete_in es t then Some (ArrayOf t None) else None) ≡ Some u → IsProper v u
    unsized-proper b t u h e = by (b && is_complete_in es t) refl e
      where
        by : (c : Bool) → (b && is_complete_in es t) ≡ c → (if c then Some (ArrayOf t None) else None) ≡ Some u → IsProper v u
        by true p e = as-made (IsProper v) (ArrayOf t None) u (h, complete-later es v more t (both-true b (is_complete_in es t) p).1, tt) e
        by false p e = absurd cc

    sized-proper : (n : ℕ) (t u : Ty) → IsProper v t → (if is_complete_in es t && nat_le (n * (layout_in es t).size) (2 ^ 32) then Some (ArrayOf t (Some n)) else None) ≡ Some u → IsProper v u
    sized-proper n t u h e = by (is_complete_in es t && nat_le (n * (layout_in es t).size) (2 ^ 32)) refl e
      where
        by : (c : Bool) → (is_complete_in es t && nat_le (n * (layout_in es t).size) (2 ^ 32)) ≡ c → (if c then Some (ArrayOf t (Some n)) else None) ≡ Some u → IsProper v u
        by true p e =
            let both = both-true (is_complete_in es t) (nat_le (n * (layout_in es t).size) (2 ^ 32)) p in
            let small : n * (layout_in es t).size ≤ 2 ^ 32 = leb-true (n * (layout_in es t).size) (2 ^ 32) both.1 in
            as-made (IsProper v) (ArrayOf t (Some n)) u (h, complete-later es v more t both.0, subst (λ l. n * l.size ≤ 2 ^ 32) (sym (layout-later es v more t both.0)) small) e
        by false p e = absurd cc

    function-proper : (ts : Tys) (t u : Ty) → IsProper v t → function_of ts false t ≡ Some u → IsProper v u
    function-proper ts t u h e = by (is_function t) (is_array t) refl refl e
      where
        by : (b c : Bool) → is_function t ≡ b → is_array t ≡ c → (if b then None else (if c then None else Some (FunctionTy (bare_type t) ts false))) ≡ Some u → IsProper v u
        by true c p q e = absurd cc
        by false true p q e = absurd cc
        by false false p q e = as-made (IsProper v) (FunctionTy (bare_type t) ts false) u (plain-value v t h q p, proper-bare v t h, λ e. absurd cc) e

    pointer-proper : (c : Bool) (t u : Ty) → IsProper v t → pointer_to c t ≡ Some u → IsProper v u
    pointer-proper c t u h e = constant-proper c (PointerTo t) u h e

    step-proper : (unsized : Bool) (d : Derivation) (t u : Ty) → IsPlainStep d → IsProper v t → step unsized es d t ≡ Some u → IsProper v u
    step-proper b (ByPointer c) t u p h e = pointer-proper c t u h e
    step-proper b (ByArray None) t u p h e = unsized-proper b t u h e
    step-proper b (ByArray (Some n)) t u p h e = sized-proper n t u h e
    step-proper b (ByFunction ts c) t u p h e = function-proper ts t u h (subst (λ x. function_of ts x t ≡ Some u) p e)

    -- all steps round a type
    pub derived-proper : (unsized : Bool) (ds : List Derivation) (t u : Ty) → Each IsPlainStep ds → IsProper v t → derived_type unsized es ds t ≡ Some u → IsProper v u
    derived-proper b [] t u p h e = as-made (IsProper v) t u h e
    derived-proper b (d ∷ ds) t u p h e =
        let f = from-some (derived_type b es ds t) (step b es d) u e in
        step-proper b d f.0 u p.0 (derived-proper b ds t f.0 p.1 h f.1) f.2

    function-made : (ts : Tys) (c : Bool) (t u : Ty) → function_of ts c t ≡ Some u → is_function u ≡ true
    function-made ts c t u e = by (is_function t) (is_array t) e
      where
        by : (a b : Bool) → (if a then None else (if b then None else Some (FunctionTy (bare_type t) ts c))) ≡ Some u → is_function u ≡ true
        by true b e = absurd cc
        by false true e = absurd cc
        by false false e = as-made (λ w. is_function w ≡ true) (FunctionTy (bare_type t) ts c) u refl e

    step-named : (unsized : Bool) (d : Derivation) (t u : Ty) → IsProper v t → step unsized es d t ≡ Some u → is_function u ≡ false → IsProper v u
    step-named b (ByPointer c) t u h e f = step-proper b (ByPointer c) t u tt h e
    step-named b (ByArray n) t u h e f = step-proper b (ByArray n) t u tt h e
    step-named b (ByFunction ts c) t u h e f = let g : true ≡ false = sym (function-made ts c t u e) ∙ f in absurd cc

    -- 6.7.7p2: what is no function
    pub derived-named : (unsized : Bool) (ds : List Derivation) (t u : Ty) → IsPlainBehind ds → IsProper v t → derived_type unsized es ds t ≡ Some u → is_function u ≡ false → IsProper v u
    derived-named b [] t u p h e f = as-made (IsProper v) t u h e
    derived-named b (d ∷ ds) t u p h e f =
        let g = from-some (derived_type b es ds t) (step b es d) u e in
        step-named b d g.0 u (derived-proper b ds t g.0 p h g.1) g.2 f

    -- where no function that is defined has `...`, any type may have one
    function-any : AreFixed v → (ts : Tys) (c : Bool) (t u : Ty) → IsProper v t → function_of ts c t ≡ Some u → IsProper v u
    function-any fixed ts c t u h e = by (is_function t) (is_array t) refl refl e
      where
        by : (b d : Bool) → is_function t ≡ b → is_array t ≡ d → (if b then None else (if d then None else Some (FunctionTy (bare_type t) ts c))) ≡ Some u → IsProper v u
        by true d p q e = absurd cc
        by false true p q e = absurd cc
        by false false p q e = as-made (IsProper v) (FunctionTy (bare_type t) ts c) u (plain-value v t h q p, proper-bare v t h, λ i. fixed) e

    step-any : AreFixed v → (unsized : Bool) (d : Derivation) (t u : Ty) → IsProper v t → step unsized es d t ≡ Some u → IsProper v u
    step-any fixed b (ByPointer c) t u h e = pointer-proper c t u h e
    step-any fixed b (ByArray None) t u h e = unsized-proper b t u h e
    step-any fixed b (ByArray (Some n)) t u h e = sized-proper n t u h e
    step-any fixed b (ByFunction ts c) t u h e = function-any fixed ts c t u h e

    pub derived-any : AreFixed v → (unsized : Bool) (ds : List Derivation) (t u : Ty) → IsProper v t → derived_type unsized es ds t ≡ Some u → IsProper v u
    derived-any fixed b [] t u h e = as-made (IsProper v) t u h e
    derived-any fixed b (d ∷ ds) t u h e = let f = from-some (derived_type b es ds t) (step b es d) u e in step-any fixed b d f.0 u (derived-any fixed b ds t f.0 h f.1) f.2

  -- 6.7.6.3p7, p8: a parameter's type
  pub adjusted-proper : (t u : Ty) → IsProper v t → adjustment_of t ≡ Some u → IsProper v u
  adjusted-proper (ArrayOf t n) u h e = as-made (IsProper v) (PointerTo t) u h.0 e
  adjusted-proper (FunctionTy t ts c) u h e = as-made (IsProper v) (PointerTo (FunctionTy t ts c)) u h e
  adjusted-proper (ConstOf t) u h e = by (is_adjusted t) e
    where
      by : (b : Bool) → (if b then Some (ConstOf t) else None) ≡ Some u → IsProper v u
      by true e = as-made (IsProper v) (ConstOf t) u h e
      by false e = absurd cc
  adjusted-proper VoidTy u h e = as-made (IsProper v) VoidTy u h e
  adjusted-proper (IntTy k) u h e = as-made (IsProper v) (IntTy k) u h e
  adjusted-proper (PointerTo t) u h e = as-made (IsProper v) (PointerTo t) u h e
  adjusted-proper (StructTag n) u h e = as-made (IsProper v) (StructTag n) u h e
  adjusted-proper (UnionTag n) u h e = as-made (IsProper v) (UnionTag n) u h e
