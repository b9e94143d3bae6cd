-- Looking a name up among names with their bytes, as in the map that holds them.
use Rattle.std.proofs.Common.{◌≡◌, ℕ, List, [], ◌∷◌, map, Bool, true, false, cond, Some, String, string_bytes, Vec, Global, refl, sym, ap, ◌∙◌}
use Rattle.std.specs.Option.{option_map}
use Rattle.std.specs.Ordering.{nat_cmp}
use Rattle.std.specs.Map.{lookup}
use Rattle.std.specs.BTreeMap.{is_at}
use Rattle.std.specs.Cmp.Lexicographic.{slice_cmp}
use Rattle.std.specs.Str.{bytes_eq}
use Rattle.std.proofs.lemmas.Map.Text.{is_eq-slice_cmp}
use Rattle.pv_script.specs.Calm.{bytes_under}

-- the names of a map's entries, with their bytes
abbrev pub named_bytes : List (String Global × Vec ℕ Global) → List (List ℕ × List ℕ)
named_bytes es = map (λ e. (string_bytes e.0, e.1.items)) es

-- what stands under a name is what the map has at its bytes
pub under_is : (es : List (String Global × Vec ℕ Global)) (n : List ℕ) → bytes_under (named_bytes es) n ≡ option_map (λ (v : Vec ℕ Global). v.items) (lookup (is_at (λ (k : String Global). slice_cmp nat_cmp n (string_bytes k))) es)
under_is [] n = refl
under_is (e ∷ es) n = ap (λ t. cond t (Some e.1.items) (bytes_under (named_bytes es) n)) (sym (is_eq-slice_cmp n (string_bytes e.0))) ∙ by (is_at (λ (k : String Global). slice_cmp nat_cmp n (string_bytes k)) e.0) (under_is es n)
  where
    by : (t : Bool) → bytes_under (named_bytes es) n ≡ option_map (λ (v : Vec ℕ Global). v.items) (lookup (is_at (λ (k : String Global). slice_cmp nat_cmp n (string_bytes k))) es)
        → cond t (Some e.1.items) (bytes_under (named_bytes es) n) ≡ option_map (λ (v : Vec ℕ Global). v.items) (cond t (Some e.1) (lookup (is_at (λ (k : String Global). slice_cmp nat_cmp n (string_bytes k))) es))
    by true later = refl
    by false later = later
