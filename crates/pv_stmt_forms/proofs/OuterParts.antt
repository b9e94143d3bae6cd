-- What reading on lists promises, for the code (6.9).
use Rattle.std.proofs.Common.{◌≡◌, ◌≤◌, ◌<◌, ℕ, Bool, List, [], ◌∷◌, ◌++◌, length, drop, Some, None, refl, sym, ap, subst, ◌∙◌, arith, append-nil}
use Rattle.std.proofs.lemmas.List.{length-append}
use Rattle.pv_token.specs.declared.token_table.Token.{Token}
use Rattle.pv_tree.specs.Syntax.{DeclarationTree, Tree}
use Rattle.pv_tree.specs.Tables.{Tables, as_declaration}
use Rattle.pv_tree.specs.TypeNames.{TypeMap, names_of, AreTied}
use Rattle.pv_tree.specs.Units.{depth_limit, no_types, SpellExternals, SpellUnit, IsWhole}
use Rattle.pv_decl_forms.specs.TypeNames.{AreTypeNames}
use Rattle.pv_stmt_forms.specs.Externals.{external, external_at, units_on, units}
use Rattle.pv_stmt_forms.proofs.PartialTypes.{found_by_part as found, none_by_all as none}
use Rattle.pv_stmt_forms.proofs.UnitCounts.{outer_good, units_step as step, units_end, units_spelled, units_come}

module _ (is_type : ℕ → Bool) (types : TypeMap) (u : Tables) (tokens : List Token) (at from to : ℕ) (tied : AreTied types u tokens)
    (names : AreTypeNames is_type types u tokens depth_limit from to) (place : at ≤ length tokens) (begins : from ≤ at) where
  -- what is read with the type names of a part of the tokens is what is read with all
  pub found_by_part : (t : Tree) (rest : List Token) → external (names_of is_type types u.forest tokens) depth_limit (drop at tokens) ≡ Some (t, rest)
      → external_at is_type (drop at tokens) ≡ Some (as_declaration t, rest)
  found_by_part t rest e = found is_type types u tokens from to tied names at place t rest e

  -- where nothing is read with all type names, there is none
  pub none_by_all : length tokens ≤ to → external (names_of is_type types u.forest tokens) depth_limit (drop at tokens) ≡ None
      → external_at is_type (drop at tokens) ≡ None
  none_by_all all e = none is_type types u tokens from to tied names at place begins all e

-- an external declaration takes a token
pub external_less : (is_type : ℕ → Bool) (ts : List Token) (d : DeclarationTree) (rest : List Token) → external_at is_type ts ≡ Some (d, rest) → length rest < length ts
external_less is_type ts d rest e = (outer_good is_type ts d rest e).less

pub units_step : (is_type : ℕ → Bool) (ts : List Token) → units is_type ts ≡ units_on units is_type ts (external_at is_type ts)
units_step is_type ts = step is_type ts

abbrev Outers : Type 0
Outers = List DeclarationTree × List Token

-- what is read is spelled so
spelled_by : (tokens : List Token) (x : List DeclarationTree × List Token) → x ≡ units no_types tokens → SpellExternals no_types x.0 tokens x.1
spelled_by tokens x e = subst (λ (y : Outers). SpellExternals no_types y.0 tokens y.1) (sym e) (units_spelled no_types tokens)

-- where all tokens are spelled, all of them are read, and nothing more
all_read : (tokens : List Token) (es : List DeclarationTree) → SpellUnit tokens es → ◌≡◌ {A = List DeclarationTree × List Token} (units no_types tokens) (es, [])
all_read tokens es s =
    let c = units_come no_types es tokens [] s in
    c.1 ∙ ap (λ (y : Outers). let z : Outers = (es ++ y.0, y.1) in z) (units_end c.0) ∙ ap (λ (y : List DeclarationTree). let z : Outers = (y, []) in z) (append-nil es)

pub unit_spelled : (tokens : List Token) (ds : List DeclarationTree) → ◌≡◌ {A = List DeclarationTree × List Token} (ds, []) (units no_types tokens) → SpellUnit tokens ds
unit_spelled tokens ds e = spelled_by tokens (ds, []) e

pub unit_only : (tokens : List Token) (ds es : List DeclarationTree) → ◌≡◌ {A = List DeclarationTree × List Token} (ds, []) (units no_types tokens) → SpellUnit tokens es → es ≡ ds
unit_only tokens ds es e s = sym (ap (λ (y : Outers). y.0) (e ∙ all_read tokens es s))

pub unit_none : (tokens : List Token) (ds : List DeclarationTree) (t : Token) (ts : List Token) → ◌≡◌ {A = List DeclarationTree × List Token} (ds, t ∷ ts) (units no_types tokens)
    → (es : List DeclarationTree) → SpellUnit tokens es → ⊥
unit_none tokens ds t ts e es s = let clash : t ∷ ts ≡ [] = ap (λ (y : Outers). y.1) (e ∙ all_read tokens es s) in absurd cc

-- no more are spelled than are read
pub whole_by : (tokens : List Token) (x : List DeclarationTree × List Token) → x ≡ units no_types tokens → IsWhole tokens (length x.0)
whole_by tokens x e = record {
  externals = x.0;
  left = x.1;
  spelled = spelled_by tokens x e;
  count = refl;
  greatest = λ ds rest s.
      let c = units_come no_types ds tokens rest s in
      omega (arith, ap (λ (y : Outers). length y.0) (e ∙ c.1), length-append ds (units c.0 rest).0);
}

pub unit_whole : (tokens : List Token) (ds : List DeclarationTree) (t : Token) (ts : List Token) → ◌≡◌ {A = List DeclarationTree × List Token} (ds, t ∷ ts) (units no_types tokens)
    → IsWhole tokens (length ds)
unit_whole tokens ds t ts e = whole_by tokens (ds, t ∷ ts) e
