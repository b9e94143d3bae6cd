-- External declarations in a row: one more behind them, the first of them, and the place behind them (6.9).
use Rattle.std.proofs.Common.{◌≡◌, ◌≤◌, ◌<◌, ◌+◌, ℕ, zero, suc, Bool, List, [], ◌∷◌, ◌++◌, length, drop, Option, Some, None, refl, sym, ap, subst, ◌∙◌, arith}
use Rattle.std.proofs.lemmas.List.{length-append, length-drop, length-map, drop-drop, map-append}
use Rattle.pv_token.specs.declared.token_table.Token.{Token}
use Rattle.pv_tree.specs.declared.nodes.NodeId.{NodeId}
use Rattle.pv_tree.specs.Syntax.{DeclarationTree}
use Rattle.pv_tree.specs.Spelling.{declaration_tokens}
use Rattle.pv_tree.specs.Fitting.{past}
use Rattle.pv_tree.specs.Tables.{Tables, declaration_at, with_external, Extends}
use Rattle.pv_tree.specs.TypeNames.{type_seen}
use Rattle.pv_tree.specs.Units.{no_types, with_types, SpellsExternal, SpellExternals, IsWhole}
use Rattle.pv_expr_forms.proofs.Runs.{takes_by_kinds, takes_length}
use Rattle.pv_expr_forms.proofs.Steps.{some_is}
use Rattle.pv_stmt_forms.specs.Externals.{external_at, units}
use Rattle.pv_stmt_forms.specs.Found.{IsExternalAt}
use Rattle.pv_stmt_forms.specs.Units.{externals_of}
use Rattle.pv_stmt_forms.proofs.UnitCounts.{outer_good, outer_exact, units_come}
use Rattle.pv_stmt_forms.proofs.OuterSteps.{ReadSoFar, externals_kept, read_ends, read_goes}
use Rattle.pv_stmt.specs.Behind.{IsBehind, SomeBehind}

abbrev Outer : Type 0
Outer = DeclarationTree × List Token

abbrev Outers : Type 0
Outers = List DeclarationTree × List Token

-- ---- rows

-- the typedef names behind a row
abbrev pub types_behind : (ℕ → Bool) → List DeclarationTree → (ℕ → Bool)
types_behind types [] = types
types_behind types (d ∷ ds) = types_behind (with_types types d) ds

types_more : (types : ℕ → Bool) (ds : List DeclarationTree) (d : DeclarationTree) → types_behind types (ds ++ (d ∷ [])) ≡ with_types (types_behind types ds) d
types_more types [] d = refl
types_more types (e ∷ es) d = types_more (with_types types e) es d

-- one more
row_more : (types : ℕ → Bool) (ds : List DeclarationTree) (here mid : List Token) (d : DeclarationTree) → SpellExternals types ds here mid
    → SpellsExternal (types_behind types ds) mid d → SpellExternals types (ds ++ (d ∷ [])) here (past (declaration_tokens d) mid)
row_more types [] here mid d row one = (subst (λ (ts : List Token). SpellsExternal types ts d) (sym row) one, ap (past (declaration_tokens d)) row)
row_more types (e ∷ es) here mid d row one = (row.0, row_more (with_types types e) es (past (declaration_tokens e) here) mid d row.1 one)

-- two rows of as many leave the same tokens
row_one : (types : ℕ → Bool) (ds es : List DeclarationTree) (here left other : List Token) → length ds ≡ length es
    → SpellExternals types ds here left → SpellExternals types es here other → left ≡ other
row_one types [] [] here left other n s t = sym s ∙ t
row_one types [] (e ∷ es) here left other n s t = absurd (omega (arith, n))
row_one types (d ∷ ds) [] here left other n s t = absurd (omega (arith, n))
row_one types (d ∷ ds) (e ∷ es) here left other n s t =
    let same : ◌≡◌ {A = Outer} (d, past (declaration_tokens d) here) (e, past (declaration_tokens e) here) =
    some_is _ _ (sym (outer_exact types here d s.0) ∙ outer_exact types here e t.0) in
    let one : d ≡ e = ap (λ (y : Outer). y.0) same in
    let fewer : length ds ≡ length es = omega (arith, n) in
    row_one (with_types types e) ds es (past (declaration_tokens e) here) left other fewer
    (subst (λ (y : DeclarationTree). SpellExternals (with_types types y) ds (past (declaration_tokens y) here) left) one s.1) t.1

-- what a row leaves stands at a place
record Stands (here left : List Token) : Type 0 where
  place : ℕ
  within : place ≤ length here
  is : drop place here ≡ left

row_stands : (types : ℕ → Bool) (ds : List DeclarationTree) (here left : List Token) → SpellExternals types ds here left → Stands here left
row_stands types [] here left s = record { place = 0; within = omega arith; is = s }
row_stands types (d ∷ ds) here left s =
    let ks = declaration_tokens d in
    let rest = past ks here in
    let g = row_stands (with_types types d) ds rest left s.1 in
    let long = takes_length ks here rest (takes_by_kinds ks here rest s.0.is refl) in
    record {
      place = length ks + g.place;
      within = omega (arith, long, g.within);
      is = sym (drop-drop g.place (length ks) here) ∙ g.is;
    }

-- the first of a row
record First (types : ℕ → Bool) (here : List Token) (n : ℕ) : Type 0 where
  externals : List DeclarationTree
  left : List Token
  count : length externals ≡ n
  spelled : SpellExternals types externals here left

row_first : (types : ℕ → Bool) (n : ℕ) (ds : List DeclarationTree) (here left : List Token) → n ≤ length ds → SpellExternals types ds here left → First types here n
row_first types zero ds here left le s = record { externals = []; left = here; count = refl; spelled = refl }
row_first types (suc n) [] here left le s = absurd (omega (arith, le))
row_first types (suc n) (d ∷ ds) here left le s =
    let fewer : n ≤ length ds = omega (arith, le) in
    let g = row_first (with_types types d) n ds (past (declaration_tokens d) here) left fewer s.1 in
    record { externals = d ∷ g.externals; left = g.left; count = omega (arith, g.count); spelled = (s.0, g.spelled) }

-- ---- places behind rows

pub place_one : (tokens : List Token) (n p q : ℕ) → IsBehind tokens n p → IsBehind tokens n q → p ≡ q
place_one tokens n p q a b =
    let same = row_one no_types a.externals b.externals tokens (drop p tokens) (drop q tokens) (a.count ∙ sym b.count) a.spelled b.spelled in
    omega (arith, ap length same, length-drop p tokens, length-drop q tokens, a.within, b.within)

first_behind : (tokens : List Token) (n : ℕ) → First no_types tokens n → SomeBehind tokens n
first_behind tokens n f =
    let g = row_stands no_types f.externals tokens f.left f.spelled in
    record {
      place = g.place;
      is = record {
        within = g.within;
        externals = f.externals;
        count = f.count;
        spelled = subst (λ (ts : List Token). SpellExternals no_types f.externals tokens ts) (sym g.is) f.spelled;
      };
    }

pub fewer_behind : (tokens left : List Token) (ds : List DeclarationTree) (n : ℕ) → SpellExternals no_types ds tokens left → n ≤ length ds → SomeBehind tokens n
fewer_behind tokens left ds n s le = first_behind tokens n (row_first no_types n ds tokens left le s)

pub whole_behind : (tokens : List Token) (n : ℕ) → IsWhole tokens n → SomeBehind tokens n
whole_behind tokens n w = first_behind tokens n (record { externals = w.externals; left = w.left; count = w.count; spelled = w.spelled })

-- behind more than there are no place is
none_behind : (tokens : List Token) (ds : List DeclarationTree) (left : List Token) (n place : ℕ) → ◌≡◌ {A = Outers} (ds, left) (units no_types tokens)
    → length ds < n → IsBehind tokens n place → ⊥
none_behind tokens ds left n place e few b =
    let c = units_come no_types b.externals tokens (drop place tokens) b.spelled in
    omega (arith, few, b.count, ap (λ (y : Outers). length y.0) (e ∙ c.1), length-append b.externals (units c.0 (drop place tokens)).0)

-- ---- reading so many

-- those that are read are the first, at most so many, and these are the typedef names behind them
pub record FirstSoFar (u : Tables) (is_type : ℕ → Bool) (tokens : List Token) (at most : ℕ) : Type 0 where
  pub reading : ReadSoFar u is_type tokens at
  pub row : SpellExternals no_types (externals_of u) tokens (drop at tokens)
  pub types : is_type ≡ types_behind no_types (externals_of u)
  pub few : length u.externals ≤ most

module _ (u : Tables) (is_type : ℕ → Bool) (tokens : List Token) (at most : ℕ) (s : FirstSoFar u is_type tokens at most) where
  module _ (v : Tables) (count : ℕ) (is : count ≡ length u.externals) (less : count < most) (keeps : Extends u v) (answer : Option (NodeId × ℕ))
      (a : IsExternalAt v is_type tokens at answer) where
    -- there are no more
    pub first_ends : answer ≡ None → (place : ℕ) → IsBehind tokens most place → ⊥
    first_ends e place b =
        let same = ap (λ (x : Tables). length x.externals) keeps.is in
        let few : length (externals_of v) < most = omega (arith, length-map v.externals (λ n. declaration_at v.forest n), same, is, less) in
        none_behind tokens (externals_of v) (drop at tokens) most place (read_ends u v is_type tokens at s.reading keeps answer a e) few b

    -- one more
    pub first_goes : (n : NodeId) (end : ℕ) → answer ≡ Some (n, end) → (w : Tables) (more : ℕ → Bool) → w ≡ with_external v n
        → ((m : ℕ) → more m ≡ with_types is_type (declaration_at w.forest n) m) → FirstSoFar w more tokens end most
    first_goes n end e w more made grown =
        let d = declaration_at v.forest n in
        let old = externals_of u in
        let one : external_at is_type (drop at tokens) ≡ Some (d, drop end tokens) = sym (ap (type_seen v.forest tokens) (sym e) ∙ a.is) in
        let g = outer_good is_type (drop at tokens) d (drop end tokens) one in
        let here : declaration_at w.forest n ≡ d = ap (λ (x : Tables). declaration_at x.forest n) made in
        let grows : more ≡ with_types is_type d = λ i m. (grown m ∙ ap (λ (y : DeclarationTree). with_types is_type y m) here) i in
        let all : externals_of w ≡ old ++ (d ∷ []) =
        ap externals_of made ∙ map-append (λ k. declaration_at v.forest k) v.externals (n ∷ []) ∙ ap (λ (ds : List DeclarationTree). ds ++ (d ∷ [])) (externals_kept u v keeps s.reading.there) in
        let row : SpellExternals no_types (old ++ (d ∷ [])) tokens (past (declaration_tokens d) (drop at tokens)) =
        row_more no_types old tokens (drop at tokens) d s.row (subst (λ (t : ℕ → Bool). SpellsExternal t (drop at tokens) d) s.types g.spelled) in
        record {
          reading = read_goes u v is_type tokens at s.reading keeps answer a n end e w more made grown;
          row = subst (λ (ds : List DeclarationTree). SpellExternals no_types ds tokens (drop end tokens)) (sym all)
              (subst (λ (ts : List Token). SpellExternals no_types (old ++ (d ∷ [])) tokens ts) g.left row);
          types = grows ∙ ap (λ (t : ℕ → Bool). with_types t d) s.types ∙ sym (types_more no_types old d) ∙ ap (types_behind no_types) (sym all);
          few = omega (arith, ap (λ (x : Tables). length x.externals) made, length-append v.externals (n ∷ []), ap (λ (x : Tables). length x.externals) keeps.is, is, less);
        }
