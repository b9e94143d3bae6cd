-- Tokens are a translation unit, or so many external declarations and no more stand first.
use Rattle.std.proofs.Common.{◌≡◌, ◌⊎◌, inl, inr, ℕ, List, [], ◌∷◌, length, refl, sym, ◌∙◌}
use Rattle.pv_token.specs.declared.token_table.Token.{Token}
use Rattle.pv_tree.specs.Syntax.{DeclarationTree}
use Rattle.pv_tree.specs.Units.{no_types, SpellUnit, IsWhole}
use Rattle.pv_stmt_forms.specs.Externals.{units}
use Rattle.pv_stmt_forms.proofs.OuterParts.{unit_spelled, unit_only, unit_none, unit_whole}

abbrev pub IsUnit : List Token → Type 0
IsUnit tokens = (ds : List DeclarationTree) × SpellUnit tokens ds

abbrev pub IsNoUnit : List Token → Type 0
IsNoUnit tokens = (whole : ℕ) × ((ds : List DeclarationTree) → SpellUnit tokens ds → ⊥) × IsWhole tokens whole

either_by : (tokens : List Token) (ds : List DeclarationTree) (left : List Token)
    → ◌≡◌ {A = List DeclarationTree × List Token} (ds, left) (units no_types tokens) → IsUnit tokens ⊎ IsNoUnit tokens
either_by tokens ds [] e = inl (ds, unit_spelled tokens ds e)
either_by tokens ds (t ∷ ts) e = inr (length ds, unit_none tokens ds t ts e, unit_whole tokens ds t ts e)

pub either_unit : (tokens : List Token) → IsUnit tokens ⊎ IsNoUnit tokens
either_unit tokens = either_by tokens (units no_types tokens).0 (units no_types tokens).1 refl

-- no other unit has these tokens
pub one_unit : (tokens : List Token) (ds es : List DeclarationTree) → SpellUnit tokens ds → SpellUnit tokens es → ds ≡ es
one_unit tokens ds es s t = by (units no_types tokens).0 (units no_types tokens).1 refl
  where
    by : (xs : List DeclarationTree) (left : List Token) → ◌≡◌ {A = List DeclarationTree × List Token} (xs, left) (units no_types tokens) → ds ≡ es
    by xs [] e = unit_only tokens xs ds e s ∙ sym (unit_only tokens xs es e t)
    by xs (k ∷ ks) e = absurd (unit_none tokens xs k ks e ds s)
