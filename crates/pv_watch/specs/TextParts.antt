-- A bridge: what functions answer that do a part of what Texts says.
use Rattle.std.specs.Prelude.{ℕ, List, ◌++◌, codes}
use Rattle.std.specs.Fmt.{decimal}
use Rattle.pv_watch.specs.Lines.{line}

-- the line behind all others: how many events of the memory model were seen (docs/FORMATS.md, Journals)
abbrev pub last_line : ℕ → List ℕ
last_line n = line (codes "events " ++ decimal n)
