-- A bridge: what a checker of journals answers.
use Rattle.std.specs.Prelude.{ℕ, List}
use Rattle.pv_journal.specs.Obeying.{IsBad}
use Rattle.pv_journal.specs.declared.error.JournalError.{JournalError}
use Rattle.pv_journal.specs.declared.error.JournalError.TheVariants.{Bad, NoMemory}

-- the line is the least that is wrong (docs/FORMATS.md, Journals; memory model); of want of memory nothing is said
abbrev pub IsFault : List ℕ → JournalError → Type 0
IsFault bytes (Bad line) = IsBad bytes line
IsFault bytes NoMemory = Unit {0}
