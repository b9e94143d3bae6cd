-- The text of a journal.
use Rattle.std.specs.Prelude.{ℕ, List, ◌++◌, length, codes}
use Rattle.std.specs.Fmt.{decimal}
use Rattle.pv_watch.specs.declared.event.Event.{Event}
use Rattle.pv_watch.specs.Lines.{line, event_lines}

-- a line for each event of the memory model that was seen, and how many there are (docs/FORMATS.md, Journals)
-- worked: all_journaled, unknown_journaled, none_journaled
abbrev pub journal_text : List Event → List (List ℕ) → List ℕ
journal_text seen names = event_lines seen names seen ++ line (codes "events " ++ decimal (length seen))
