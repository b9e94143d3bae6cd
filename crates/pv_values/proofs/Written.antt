-- Types that are written from their declarators outwards, and lists of parameters.
use Rattle.std.proofs.Common.{◌≡◌, ℕ, suc, ◌<◌, Bool, false, List, [], ◌∷◌, ◌++◌, length, codes, sym, ap, ◌∙◌, subst, arith}
use Rattle.std.specs.Prelude.{Result, OnOk}
use Rattle.pv_types.specs.declared.terms.TypeId.{TypeId}
use Rattle.pv_types.specs.Ty.{Ty}
use Rattle.pv_types.specs.Known.{Known, tree, trees, tys_in}
use Rattle.pv_types.specs.Formed.{parameters_at}
use Rattle.pv_types.specs.KnownParts.{list_at}
use Rattle.pv_typed.specs.TypedUnits.{WholeUnit}
use Rattle.pv_values.specs.declared.declarators.Rest.{Rest}
use Rattle.pv_values.specs.declared.declarators.Called.{Called}
use Rattle.pv_values.specs.declared.declarators.Step.{Step}
use Rattle.pv_values.specs.declared.declarators.Step.TheVariants as step
use Rattle.pv_values.specs.TypeTexts.{declared, params_text, param_texts, ellipsis}
use Rattle.pv_values.specs.TypeTextParts.{rest_text, step_text, called_declarator, IsOutward}
use Rattle.pv_values.proofs.Adding.{then_ok, four}

-- ---- lists of parameters

params_is : (U : WholeUnit) (l : ℕ) (ts : List Ty) (xs : List TypeId) (v : Bool) (t : List ℕ) → 0 < length xs
    → (((t ++ codes "(") ++ param_texts U l 0 (tys_in ts xs)) ++ ellipsis v) ++ codes ")" ≡ t ++ params_text U (suc l) (tys_in ts xs) v
params_is U l ts [] v t some = absurd (omega (arith, some))
params_is U l ts (x ∷ xs) v t some = four t (codes "(") (param_texts U l 0 (tys_in ts (x ∷ xs))) (ellipsis v) (codes ")")

-- all of a list is written
pub params_written : {A E : Type 0} (U : WholeUnit) (K : Known) (levels l p : ℕ) (v : Bool) (xs : List TypeId) (t a b c d : List ℕ) (r : Result A E)
    → suc l ≡ levels → xs ≡ list_at K.lists p → 0 < length xs → a ≡ t ++ codes "(" → b ≡ a ++ param_texts U l 0 (tys_in (trees K) xs) → c ≡ b ++ ellipsis v
    → OnOk r (d ≡ c ++ codes ")") → OnOk r (d ≡ t ++ params_text U levels (parameters_at K p) v)
params_written U K levels l p v xs t a b c d r n is some first second third last =
    then_ok r (λ e. e ∙ ap (λ x. x ++ codes ")") (third ∙ ap (λ x. x ++ ellipsis v) (second ∙ ap (λ x. x ++ param_texts U l 0 (tys_in (trees K) xs)) first))
    ∙ params_is U l (trees K) xs v t some ∙ ap (λ (ys : List TypeId). t ++ params_text U (suc l) (tys_in (trees K) ys) v) is
    ∙ ap (λ (k : ℕ). t ++ params_text U k (parameters_at K p) v) n) last

-- ---- steps

-- all is written
pub whole_left : (U : WholeUnit) (K : Known) (l : ℕ) (s : Step) (r : Rest) (text : _) (all : List ℕ) → s ≡ step.Whole text → step_text U K l s ≡ rest_text U K l r
    → rest_text U K l r ≡ all → text.items ≡ all
whole_left U K l s r text all is same rest = ap (step_text U K l) (sym is) ∙ same ∙ rest

-- this is left
pub rest_left : (U : WholeUnit) (K : Known) (l : ℕ) (s : Step) (r next : Rest) (all : List ℕ) → s ≡ step.On next → step_text U K l s ≡ rest_text U K l r
    → IsOutward K r.t.0 s → r.t.0 < length K.terms → rest_text U K l r ≡ all → (next.t.0 < length K.terms) × (rest_text U K l next ≡ all)
rest_left U K l s r next all is same lower known rest =
    let less : next.t.0 < r.t.0 = subst (IsOutward K r.t.0) is lower in
    (omega (arith, less, known), ap (step_text U K l) (sym is) ∙ same ∙ rest)

called_is : (U : WholeUnit) (K : Known) (l : ℕ) (c : Called) (next : Rest) → next.t ≡ c.returned → next.constant ≡ false → next.declarator.items ≡ called_declarator U K l c
    → rest_text U K l next ≡ step_text U K l (step.Calls c)
called_is U K l c next t q d = λ i. declared U l (q i) (tree K ((t i).0)) (d i)

-- the parameters were written
pub called_left : (U : WholeUnit) (K : Known) (l : ℕ) (s : Step) (r next : Rest) (c : Called) (all : List ℕ) → s ≡ step.Calls c → step_text U K l s ≡ rest_text U K l r
    → IsOutward K r.t.0 s → r.t.0 < length K.terms → rest_text U K l r ≡ all
    → next.t ≡ c.returned → next.constant ≡ false → next.declarator.items ≡ called_declarator U K l c
    → (next.t.0 < length K.terms) × (rest_text U K l next ≡ all)
called_left U K l s r next c all is same lower known rest t q d =
    let less : c.returned.0 < r.t.0 = (subst (IsOutward K r.t.0) is lower).0 in
    let same_t : next.t.0 ≡ c.returned.0 = ap (λ (x : TypeId). x.0) t in
    (omega (arith, less, known, same_t), called_is U K l c next t q d ∙ ap (step_text U K l) (sym is) ∙ same ∙ rest)
