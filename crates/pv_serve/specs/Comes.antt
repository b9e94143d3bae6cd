-- What a source is, by the rules of the standard.
use Rattle.std.specs.Prelude.{◌≡◌, ◌<◌, ◌≤◌, ℕ, List, [], length, take, drop, slice_index_or}
use Rattle.pv_lex.specs.declared.error.LexError.TheVariants as error
use Rattle.pv_token.specs.Table.{Table}
use Rattle.pv_lex.specs.Lexes.{Lexes}
use Rattle.pv_lex.specs.Faults.{LexFault}
use Rattle.pv_tree.specs.Syntax.{DeclarationTree}
use Rattle.pv_tree.specs.Units.{SpellUnit, IsWhole}
use Rattle.pv_typed.specs.TypedUnits.{WholeUnit}
use Rattle.pv_unit.specs.Units as checked
use Rattle.pv_serve.specs.Verdicts.{Size, Byte, Token, Profile, Syntax, Constraint, Unresolved, NoMain}
use Rattle.pv_serve.specs.Readings.{Reading, Program, Bad}

-- 6.9: what a translation unit is: no program where it has no typing (6.5 to 6.9), where a name (6.4.2.1) that it needs is defined nowhere (6.9p5), or
-- where it has no `main` (5.1.2.2.1)
pub data UnitComes (tokens : Table) (ds : List DeclarationTree) (reading : Reading) : Type 0 where
  Breaks : (index : ℕ) → checked.UnitComes tokens ds (checked.Constraint index) → reading ≡ Bad (Constraint index) → UnitComes tokens ds reading
  Lacks : (name : ℕ) → checked.UnitComes tokens ds (checked.Unresolved name) → reading ≡ Bad (Unresolved (slice_index_or tokens.names name [])) → UnitComes tokens ds reading
  Mainless : checked.UnitComes tokens ds checked.NoMain → reading ≡ Bad NoMain → UnitComes tokens ds reading
  Typed : (unit : WholeUnit) → checked.UnitComes tokens ds (checked.Typed unit) → reading ≡ Program unit → UnitComes tokens ds reading

-- 6.9: what tokens are: no program where they spell no translation unit
pub data TokensCome (tokens : Table) (reading : Reading) : Type 0 where
  NoUnit : (whole : ℕ) → ((ds : List DeclarationTree) → SpellUnit tokens.tokens ds → ⊥) → IsWhole tokens.tokens whole → reading ≡ Bad (Syntax whole) → TokensCome tokens reading
  Spelled : (ds : List DeclarationTree) → SpellUnit tokens.tokens ds → UnitComes tokens ds reading → TokensCome tokens reading

-- 6.4: a source with a lexical fault is refused for it; the tokens of any other decide
pub data Comes (source : List ℕ) (reading : Reading) : Type 0 where
  BadByte : (place : ℕ) → LexFault source (error.BadByte place) → reading ≡ Bad (Byte place) → Comes source reading
  BadToken : (place : ℕ) → LexFault source (error.BadToken place) → reading ≡ Bad (Token place) → Comes source reading
  LeftOut : (place word : ℕ) → LexFault source (error.Profile place word) → reading ≡ Bad (Profile place (take word (drop place source))) → Comes source reading
  Lexed : (tokens : Table) → Lexes source tokens → TokensCome tokens reading → Comes source reading

-- 5.2.4.1: the most bytes of a source; C17 leaves such a limit to the implementation
unfoldable pub source_limit : ℕ
source_limit = 1048576

-- 5.2.4.1: a source that is too long is refused by its size, whatever stands in it
pub data Reads (source : List ℕ) (reading : Reading) : Type 0 where
  Long : source_limit < length source → reading ≡ Bad Size → Reads source reading
  Short : length source ≤ source_limit → Comes source reading → Reads source reading
