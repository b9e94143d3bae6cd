-- A bridge: what the answer of the typing of a unit stands for.
use Rattle.std.specs.Prelude.{◌≡◌, ◌<◌, Some, None, true, false, List, map, length}
use Rattle.pv_token.specs.Table.{Table}
use Rattle.pv_tree.specs.Syntax.{DeclarationTree}
use Rattle.pv_tree.specs.Tables.{Tables, declaration_at}
use Rattle.pv_unit.specs.declared.checking.CheckError.{CheckError}
use Rattle.pv_unit.specs.declared.checking.CheckError.TheVariants as error
use Rattle.pv_unit.specs.Redeclarations.{UnitState}
use Rattle.pv_unit.specs.Units.{Breaks, first_unresolved, has_main, Constraint, Unresolved, NoMain, UnitComes}

-- 6.9p1: the external declarations of a unit's tables, in their order
abbrev pub externals_in : Tables → List DeclarationTree
externals_in u = map (declaration_at u.forest) u.externals

-- why a unit has no typing: what each refusal stands for
abbrev pub IsCause : Table → List DeclarationTree → CheckError → Type 0
IsCause t ds (error.Constraint n) = UnitComes t ds (Constraint n)
IsCause t ds (error.Unresolved n) = UnitComes t ds (Unresolved n)
IsCause t ds error.NoMain = UnitComes t ds NoMain
IsCause t ds error.NoMemory = Unit {0}

-- a name that a refusal tells (6.9p5) is one of the tokens
abbrev pub IsNamed : Table → CheckError → Type 0
IsNamed t (error.Unresolved n) = n < length t.names
IsNamed t _ = Unit {0}

-- ---- parts of the code

-- which external declaration (6.9p1) has no typing
abbrev pub IsStop : List DeclarationTree → UnitState → CheckError → Type 0
IsStop ds u (error.Constraint n) = Breaks ds u n
IsStop ds u error.NoMemory = Unit {0}
IsStop ds u _ = ⊥

-- nothing is left without a definition (6.9p5), and there is a `main` (5.1.2.2.1p1)
abbrev pub IsResolved : UnitState → Type 0
IsResolved u = (first_unresolved u.state u.entities ≡ None) × (has_main u.state.unit ≡ true)

-- what is left without a definition (6.9p5), or that there is no `main` (5.1.2.2.1p1)
abbrev pub IsLack : UnitState → CheckError → Type 0
IsLack u (error.Unresolved n) = first_unresolved u.state u.entities ≡ Some n
IsLack u error.NoMain = (first_unresolved u.state u.entities ≡ None) × (has_main u.state.unit ≡ false)
IsLack u error.NoMemory = Unit {0}
IsLack u _ = ⊥
