-- A bridge: what a source with its script is, before anything is done with it: a program with a reading of its script, or a refusal.
use Rattle.std.specs.Prelude.{◌≡◌, ◌≢◌, ℕ, Bool, ◌≤◌, List, length, Option, Ok, Result, Err, [], take, drop, slice_get, Some}
use Rattle.pv_token.specs.Table.{Table}
use Rattle.pv_lex.specs.declared.error.LexError.{LexError}
use Rattle.pv_lex.specs.declared.error.LexError.TheVariants as lexical
use Rattle.pv_lex.specs.Lexes.{Lexes}
use Rattle.pv_script.specs.declared.scripts.ScriptError.{ScriptError}
use Rattle.pv_script.specs.declared.scripts.ScriptError.TheVariants as script
use Rattle.pv_script.specs.Lines.{ScriptLine}
use Rattle.pv_script.specs.Scripts.{script_of}
use Rattle.pv_typed.specs.Tables.{Stored, whole_unit}
use Rattle.pv_unit.specs.declared.checking.CheckError.{CheckError}
use Rattle.pv_unit.specs.declared.checking.CheckError.TheVariants as typing
use Rattle.pv_serve.specs.declared.words.Task.{Task}
use Rattle.pv_serve.specs.declared.checking.Refused as declared
use Rattle.pv_serve.specs.declared.loading.Loaded.{Loaded}
use Rattle.pv_serve.specs.declared.loading.Loaded.TheVariants as loaded
use Rattle.pv_serve.specs.Verdicts.{Refused, Script, Refusal, Size, Byte, Token, Profile, Constraint, Unresolved, NoMain, Syntax}
use Rattle.pv_serve.specs.Readings.{Program, Reading, Bad}
use Rattle.pv_serve.specs.Comes.{Comes, source_limit}
use Rattle.pv_serve.specs.Judged.{Judged}
use Rattle.pv_serve.specs.Fitting.{IsFit}
use Rattle.pv_serve.specs.declared.checking.Refused.TheVariants as refused

-- 6.4: the refusal for a lexical fault, with its word (6.4.1p1). Want of memory is none: what stands for it is never answered.
abbrev pub lexical_refusal : LexError → (word : List ℕ) → Refusal
lexical_refusal (lexical.BadByte place) word = Byte place
lexical_refusal (lexical.BadToken place) word = Token place
lexical_refusal (lexical.Profile place count) word = Profile place word
lexical_refusal lexical.NoMemory word = Size

-- 6.9: the refusal of a unit that has no typing, with the name that nothing defines (6.9p5). Want of memory is none, as above.
abbrev pub typing_refusal : CheckError → (name : List ℕ) → Refusal
typing_refusal (typing.Constraint index) name = Constraint index
typing_refusal (typing.Unresolved number) name = Unresolved name
typing_refusal typing.NoMain name = NoMain
typing_refusal typing.NoMemory name = Size

-- the refusal that the code answers; a word or a name is what its bytes are (6.4.2.1)
abbrev pub refusal_of : declared.Refused → Refusal
refusal_of refused.Size = Size
refusal_of (refused.Lex fault word) = lexical_refusal fault word
refusal_of (refused.Syntax whole) = Syntax whole
refusal_of (refused.Check fault name) = typing_refusal fault name

-- 6.4.1p1: the word of a lexical fault: the bytes at its place, as many as it counts. The other faults have none, and want of memory is no fault.
abbrev pub IsWordOf : (source : List ℕ) → LexError → (word : List ℕ) → Type 0
IsWordOf source (lexical.BadByte place) word = word ≡ []
IsWordOf source (lexical.BadToken place) word = word ≡ []
IsWordOf source (lexical.Profile place count) word = word ≡ take count (drop place source)
IsWordOf source lexical.NoMemory word = ⊥

-- 6.9p5: the name of what a unit lacks, by its number among the names of the tokens (6.4.2.1). Any other reason has none, and want of memory is no
-- reason.
abbrev pub IsNameOf : Table → CheckError → (name : List ℕ) → Type 0
IsNameOf tokens (typing.Constraint index) name = name ≡ []
IsNameOf tokens (typing.Unresolved number) name = slice_get tokens.names number ≡ Some name
IsNameOf tokens typing.NoMain name = name ≡ []
IsNameOf tokens typing.NoMemory name = ⊥

-- 6.4.2.1: the name of what a unit lacks, by its number among the names of the tokens of a source
pub record IsNamedIn (source : List ℕ) (fault : CheckError) (name : List ℕ) : Type 0 where
  pub tokens : Table
  pub lexed : Lexes source tokens
  pub is : IsNameOf tokens fault name

-- a refusal has the word or the name of its fault, or none where this has none
abbrev pub HasParts : (source : List ℕ) → declared.Refused → Type 0
HasParts source refused.Size = Unit {0}
HasParts source (refused.Lex fault word) = IsWordOf source fault word
HasParts source (refused.Syntax whole) = Unit {0}
HasParts source (refused.Check fault name) = IsNamedIn source fault name

-- a source that is refused for this reason, whatever is to be done with it
pub record IsSourceRefused (source text : List ℕ) (why : declared.Refused) : Type 0 where
  pub judged : (t : Task) (sides : Option (List Bool)) → Judged source text t sides (Refused (refusal_of why))
  pub parts : HasParts source why

-- docs/FORMATS.md, Scripts of addresses (the memory model): a script that is refused for this reason, which is not want of memory
pub record IsScriptRefused (source text : List ℕ) (why : ScriptError) : Type 0 where
  pub judged : (t : Task) (sides : Option (List Bool)) → Judged source text t sides (Script why)
  pub some : why ≢ script.NoMemory

-- 6.9: a source that is the program which these tables stand for, with a script of addresses (the memory model) that has these lines
pub record IsLoadedProgram (source text : List ℕ) (unit : Stored) (lines : List ScriptLine) : Type 0 where
  pub short : length source ≤ source_limit
  pub reads : script_of text ≡ Ok lines
  pub comes : Comes source (Program (whole_unit unit))
  pub fit : IsFit unit

-- a source with its script is what the code answers
abbrev pub IsLoaded : (source text : List ℕ) → Loaded → Type 0
IsLoaded source text (loaded.Program unit lines) = IsLoadedProgram source text unit lines
IsLoaded source text (loaded.Source why) = IsSourceRefused source text why
IsLoaded source text (loaded.Script why) = IsScriptRefused source text why

-- 6.9: what the code answers: the typing that its tables stand for, or a refusal
abbrev pub reading_of : Result Stored declared.Refused → Reading
reading_of (Ok unit) = Program (whole_unit unit)
reading_of (Err why) = Bad (refusal_of why)

-- 6.9: tables that the code answers are such
abbrev pub IsReady : Result Stored declared.Refused → Type 0
IsReady (Ok unit) = IsFit unit
IsReady (Err why) = Unit {0}

-- ---- the parts of what the code answers
