-- The function that is called at program startup (C17 5.1.2.2.1p1).
use Rattle.std.proofs.Common.{◌≡◌, ℕ, suc, Bool, true, false, Option, Some, None, List, [], ◌∷◌, get_or, refl, subst}
use Rattle.std.specs.Prelude.{if◌then◌else◌}
use Rattle.std.specs.Option.{option_map}
use Rattle.pv_typed.specs.Mains.{named_main, first_main}
use Rattle.pv_typed.specs.TypedUnits.{TypedFunction}
use Rattle.pv_typed.specs.UnitParts.{no_function}

some-same : {A : Type 0} (a c : A) → Some a ≡ Some c → a ≡ c
some-same a c e = cc

-- 5.1.2.2.1p1: the function that is called at program startup has the name
pub main-has-name : (names : List (List ℕ)) (fs : List TypedFunction) (f : ℕ) → first_main names fs ≡ Some f → named_main names (get_or fs f no_function).name ≡ true
main-has-name names [] f e = absurd cc
main-has-name names (x ∷ fs) f e = by (main-has-name names fs) (named_main names x.name) refl e
  where
    later : ((g : ℕ) → first_main names fs ≡ Some g → named_main names (get_or fs g no_function).name ≡ true) → (o : Option ℕ) → first_main names fs ≡ o → option_map suc o ≡ Some f → named_main names (get_or (x ∷ fs) f no_function).name ≡ true
    later rest None q e = absurd cc
    later rest (Some g) q e = subst (λ j. named_main names (get_or (x ∷ fs) j no_function).name ≡ true) (some-same (suc g) f e) (rest g q)

    by : ((g : ℕ) → first_main names fs ≡ Some g → named_main names (get_or fs g no_function).name ≡ true) → (b : Bool) → named_main names x.name ≡ b → (if b then Some 0 else option_map suc (first_main names fs)) ≡ Some f
        → named_main names (get_or (x ∷ fs) f no_function).name ≡ true
    by rest true q e = subst (λ j. named_main names (get_or (x ∷ fs) j no_function).name ≡ true) (some-same 0 f e) q
    by rest false q e = later rest (first_main names fs) refl e
