-- A bridge: lines of a journal whose names go by their numbers, as rows.
use Rattle.std.specs.Prelude.{ℕ, ◌<◌, List, length, map, Option, Some, None}
use Rattle.std.specs.Option.{option_map}
use Rattle.pv_script.specs.Names.{name_at}
use Rattle.pv_journal.specs.Journals.{Id, Fact, Row}
use Rattle.pv_journal.specs.Journals as fact
use Rattle.pv_journal.specs.declared.line.Key.{Key}
use Rattle.pv_journal.specs.declared.line.Line.{Line}
use Rattle.pv_journal.specs.declared.line.Said.{Said}
use Rattle.pv_journal.specs.declared.line.Said.TheVariants.{Made, Ended, Exposed, Pair, Used, Fault}

-- the memory model: an instance by the text of its name
abbrev pub id_under : List (List ℕ) → Key → Id
id_under names key = record { name = name_at names key.name; k = key.k }

-- the memory model: what a line says, by the texts of names
abbrev pub fact_under : List (List ℕ) → Said → Fact
fact_under names (Made key base size) = fact.Made (id_under names key) base size
fact_under names (Ended key) = fact.Ended (id_under names key)
fact_under names (Exposed key) = fact.Exposed (id_under names key)
fact_under names (Pair pair address low high) = fact.Paired pair address (id_under names low) (id_under names high)
fact_under names (Used pair test first second) = fact.Used pair test (id_under names first) (option_map (id_under names) second)
fact_under names Fault = fact.Fault

-- the memory model: the line of a journal, by the texts of names
abbrev pub row_under : List (List ℕ) → Line → Row
row_under names line = record { turn = line.turn; says = fact_under names line.what }

-- the memory model: lines in order, by the texts of names
abbrev pub rows_under : List (List ℕ) → List Line → List Row
rows_under names lines = map (row_under names) lines

-- the memory model: the number is that of a name
abbrev pub IsNamed : List (List ℕ) → Key → Type 0
IsNamed names key = key.name < length names

-- the memory model: the same of a candidate that a use may leave or not
abbrev pub IsNamedIf : List (List ℕ) → Option Key → Type 0
IsNamedIf names None = Unit {0}
IsNamedIf names (Some key) = IsNamed names key

-- the memory model: each instance of a line has one of these names
abbrev pub AreNamed : List (List ℕ) → Said → Type 0
AreNamed names (Made key base size) = IsNamed names key
AreNamed names (Ended key) = IsNamed names key
AreNamed names (Exposed key) = IsNamed names key
AreNamed names (Pair pair address low high) = IsNamed names low × IsNamed names high
AreNamed names (Used pair test first second) = IsNamed names first × IsNamedIf names second
AreNamed names Fault = Unit {0}

-- the memory model: the same of a line with its turn
abbrev pub IsLineNamed : List (List ℕ) → Line → Type 0
IsLineNamed names line = AreNamed names line.what
