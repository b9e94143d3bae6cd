-- The function main is there once it is declared.
use Rattle.std.proofs.Common.{◌≡◌, ◌∷◌, [], ◌++◌, ℕ, suc, Bool, true, false, List, Option, Some, None, Result, Ok, get_or, refl, sym, ap, subst, ◌∙◌}
use Rattle.std.specs.Prelude.{IfOk, OnOk, slice_get, slice_index_or, is_some, IsTrue, if◌then◌else◌, nat_eq}
use Rattle.std.specs.Option.{option_map}
use Rattle.std.specs.Cmp.Lexicographic.{pointwise}
use Rattle.std.proofs.lemmas.Option.{get_or_from_slice_get}
use Rattle.pv_typed.specs.TypedUnits.{WholeUnit, TypedFunction}
use Rattle.pv_typed.specs.declared.entries.Function.{Function}
use Rattle.pv_typed.specs.Tables.{Stored, whole_unit, nodes, function_in}
use Rattle.pv_typed.specs.Entries.{with_function}
use Rattle.pv_typed.specs.Mains.{main_text, named_main, first_main, main_of}

named : (names : List (List ℕ)) (n : ℕ) → slice_get names n ≡ Some main_text → named_main names n ≡ true
named names n e = ap (λ t. pointwise nat_eq t main_text) (get_or_from_slice_get names n main_text [] e)

after : (names : List (List ℕ)) (fs : List TypedFunction) (f : TypedFunction) → named_main names f.name ≡ true → IsTrue (is_some (first_main names (fs ++ f ∷ [])))
after names [] f e = ap (λ (b : Bool). is_some {T = ℕ} (if b then Some 0 else None)) e
after names (g ∷ gs) f e = by (named_main names g.name) (first_main names (gs ++ f ∷ [])) (after names gs f e)
  where
    by : (b : Bool) (o : Option ℕ) → IsTrue (is_some o) → IsTrue (is_some (if b then Some 0 else option_map suc o))
    by true o some = refl
    by false None some = some
    by false (Some k) some = refl

-- the tables t are the tables s and the function h, whose name is main
pub main_is_there : (s t : Stored) (h : Function) → whole_unit t ≡ with_function (whole_unit s) (function_in s.known (nodes s) (h, [])) → slice_get s.names h.name ≡ Some main_text → IsTrue (is_some (main_of (whole_unit t)))
main_is_there s t h e named_so =
    subst (λ (w : WholeUnit). IsTrue (is_some (main_of w))) (sym e) (after s.names (whole_unit s).functions (function_in s.known (nodes s) (h, [])) (named s.names h.name named_so))

-- the same, after two calls that gave a result each
pub main_is_declared : {E F : Type 0} (s t : Stored) (h : Function) (q : Result ℕ E) (r : Result ℕ F) (n : ℕ)
    → IfOk q (λ m. slice_get s.names m ≡ Some main_text) → q ≡ Ok h.name
    → OnOk r (whole_unit t ≡ with_function (whole_unit s) (function_in s.known (nodes s) (h, []))) → r ≡ Ok n
    → IsTrue (is_some (main_of (whole_unit t)))
main_is_declared s t h q r n named_so named_ok added_so added_ok =
    let added : whole_unit t ≡ with_function (whole_unit s) (function_in s.known (nodes s) (h, [])) = subst (λ x. OnOk x (whole_unit t ≡ with_function (whole_unit s) (function_in s.known (nodes s) (h, [])))) added_ok added_so in
    main_is_there s t h added (subst (λ x. IfOk x (λ m. slice_get s.names m ≡ Some main_text)) named_ok named_so)
