-- A bridge: what functions answer that do a part of what Lines says.
use Rattle.pv_watch.specs.Lines.{line, what_text}
use Rattle.pv_watch.specs.declared.event.Event.{Event}
use Rattle.std.specs.Prelude.{ℕ, List}

-- the line of an event of the memory model
abbrev pub event_line : List Event → List (List ℕ) → Event → List ℕ
event_line seen names e = line (what_text seen names e.turn e.what)
