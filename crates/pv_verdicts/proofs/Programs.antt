-- Every run of a source that is a program, with a script that has a reading, has an outcome (C17 5.1.2).
use Rattle.std.proofs.Common.{◌≡◌, ℕ, Bool, List, Ok, sym, subst}
use Rattle.std.specs.declared.option.Option.{Option}
use Rattle.pv_token.specs.Table.{Table}
use Rattle.pv_lex.specs.Lexes.{Lexes}
use Rattle.pv_tree.specs.Syntax.{DeclarationTree}
use Rattle.pv_script.specs.Lines.{ScriptLine}
use Rattle.pv_script.specs.Scripts.{script_of}
use Rattle.pv_typed.specs.TypedUnits.{WholeUnit}
use Rattle.pv_typed.specs.Tables.{Stored, whole_unit}
use Rattle.pv_unit.specs.Units as checked
use Rattle.pv_exec.specs.Laws.{run_at}
use Rattle.pv_serve.specs.Readings.{Program}
use Rattle.pv_serve.specs.Comes.{Comes}
use Rattle.pv_serve.proofs.ComesLemmas.{program_typed}
use Rattle.pv_verdicts.specs.Own.{OwnNames}
use Rattle.pv_verdicts.specs.Endings.{IsProgram, HasOutcome}
use Rattle.pv_unit.proofs.NamedUnits.{unit_names}
use Rattle.pv_verdicts.proofs.Tokens.{lexed_own}
use Rattle.pv_verdicts.proofs.Places.{denied_heap}
use Rattle.pv_verdicts.proofs.Outcomes.{ends-so}

typed_own : (source : List ℕ) (t : Table) (ds : List DeclarationTree) (unit : WholeUnit) → Lexes source t → checked.UnitComes t ds (checked.Typed unit) → OwnNames unit.names
typed_own source t ds unit l h = subst OwnNames (sym (unit_names t ds unit h)) (lexed_own source t l)

-- of the names of a program one alone is that of allocations
pub program_own : (source : List ℕ) (unit : WholeUnit) → Comes source (Program unit) → OwnNames unit.names
program_own source unit comes = let p = program_typed source unit comes in typed_own source p.0 p.1 unit p.2 p.3

pub program_outcome : (source text : List ℕ) (script : List ScriptLine) (u : Stored) (sides : Option (List Bool)) (zap : Bool) (n : ℕ) → IsProgram source u → script_of text ≡ Ok script → HasOutcome (run_at u sides zap script n)
program_outcome source text script u sides zap n p r = ends-so u n sides zap script (program_own source (whole_unit u) p) (denied_heap text script r)

-- the same of the unit that a source is, by itself
pub has_outcome : (source text : List ℕ) (lines : List ScriptLine) (unit : WholeUnit) → Comes source (Program unit) → script_of text ≡ Ok lines
    → (u : Stored) → whole_unit u ≡ unit → (sides : Option (List Bool)) (zap : Bool) (n : ℕ) → HasOutcome (run_at u sides zap lines n)
has_outcome source text lines unit c r u e sides zap n =
    let p : IsProgram source u = subst (λ (x : WholeUnit). Comes source (Program x)) (sym e) c in
    program_outcome source text lines u sides zap n p r
