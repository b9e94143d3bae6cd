-- A bridge: what functions answer that do a part of what Scripts says.
use Rattle.std.specs.Prelude.{Option, ℕ, List, ◌==◌, Some, if◌then◌else◌, ◌&&◌, None, nat_le}
use Rattle.std.specs.List.{slice_split}
use Rattle.pv_script.specs.Scripts.{said_in}
use Rattle.pv_script.specs.Lines.{ScriptLine}
use Rattle.std.specs.Option.{option_and_then}

-- what a line says, if it has a reading (docs/FORMATS.md, Scripts of addresses; C17 6.2.4p2)
abbrev pub line_said : List ℕ → Option ScriptLine
line_said line = said_in (slice_split (λ b. b == 32) line)

-- the number, where it is from 1 to `most` (6.4.4.1p1)
abbrev pub in_range : (most : ℕ) → Option ℕ → Option ℕ
in_range most v = option_and_then (λ v. if nat_le 1 v && nat_le v most then Some v else None) v
