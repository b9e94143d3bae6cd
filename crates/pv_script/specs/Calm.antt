-- Files and sinks in memory that never fail: what they hold.
use Rattle.std.specs.Prelude.{ℕ, List, Option, [], unwrap_or, Bool, Some, None, if◌then◌else◌}
use Rattle.std.specs.Map.{lookup}
use Rattle.std.specs.Str.{bytes_eq}

-- the bytes under a name, told where there is a file with it (C17 7.21.3p8)
abbrev pub bytes_under : List (List ℕ × List ℕ) → List ℕ → Option (List ℕ)
bytes_under files name = lookup (bytes_eq name) files

-- the bytes under a name, none where it is absent (C17 7.21.3p8)
abbrev pub calm_held : List (List ℕ × List ℕ) → List ℕ → List ℕ
calm_held files name = unwrap_or (bytes_under files name) []

-- A sink whose writes never fail: the bytes that it kept, how many it keeps at most, and whether it dropped any (C17 7.21.8.2p2).
pub record CalmBytes : Type 0 where
  pub kept : List ℕ
  pub room : ℕ
  pub dropped : Bool

-- all bytes taken (C17 7.21.8.2p2), told until one was dropped
abbrev pub calm_written : CalmBytes → Option (List ℕ)
calm_written sink = if sink.dropped then None else Some sink.kept
