-- A bridge: which names the objects and the functions of a unit have (C17 6.4.2.1).
use Rattle.std.specs.Prelude.{◌≡◌, ◌<◌, ℕ, ◌∷◌, length}
use Rattle.pv_token.specs.Table.{Table}
use Rattle.pv_typed.specs.Known.{Each}
use Rattle.pv_typed.specs.Mains.{literal_text, heap_text}
use Rattle.pv_typed.specs.TypedUnits.{WholeUnit, TypedObject, TypedFunction}
use Rattle.pv_unit.specs.Redeclarations.{unit_name}

-- 6.4.2.1p1: among the unit's names the number is that of an identifier of the source, one of its tokens
abbrev pub IsIdentifier : Table → ℕ → Type 0
IsIdentifier t n = (i : ℕ) × ((i < length t.names) × (n ≡ unit_name i))

-- 6.4.2.1p1, 6.7.6p1: a unit's names are the two that no source has, of string literals and of allocated objects, and behind them the
-- identifiers of the source; each object and each function has the name of one of these, and so neither of the two
pub record HasIdentifiers (t : Table) (u : WholeUnit) : Type 0 where
  pub names : u.names ≡ literal_text ∷ heap_text ∷ t.names
  pub objects : Each (λ (x : TypedObject). IsIdentifier t x.name) u.objects
  pub functions : Each (λ (x : TypedFunction). IsIdentifier t x.name) u.functions
