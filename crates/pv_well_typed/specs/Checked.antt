-- A source that has a typing (C17 5.1.1.2p1, 6.9).
use Rattle.std.specs.Prelude.{◌<◌, ◌≤◌, ◌^◌, ℕ, List, length}
use Rattle.pv_token.specs.Table.{Table}
use Rattle.pv_lex.specs.Lexes.{Lexes}
use Rattle.pv_tree.specs.Syntax.{DeclarationTree}
use Rattle.pv_tree.specs.Units.{SpellUnit}
use Rattle.pv_typed.specs.Known.{Each}
use Rattle.pv_typed.specs.TypedUnits.{WholeUnit}
use Rattle.pv_unit.specs.Units.{Typed, UnitComes}

-- 5.1.1.2p1, 6.9: a source of bytes, at most 2 ^ 20; its tokens, which external declarations spell; the unit that typing makes of these
pub record IsChecked (source : List ℕ) (t : Table) (ds : List DeclarationTree) (v : WholeUnit) : Type 0 where
  pub bytes : Each (λ b. b < 256) source
  pub short : length source ≤ 2 ^ 20
  pub lexed : Lexes source t
  pub spelled : SpellUnit t.tokens ds
  pub comes : UnitComes t ds (Typed v)
