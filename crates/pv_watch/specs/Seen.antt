-- What a watcher is.
use Rattle.std.specs.Prelude.{ℕ, List}
use Rattle.pv_watch.specs.declared.event.Event.{Event}

-- a kind of watcher: its number, by which it is asked for, and its text, by how many events it wants, those that it has seen, and the texts of names
-- (docs/FORMATS.md, What watchers say; memory model)
pub record Kind : Type 0 where
  pub number : ℕ
  pub text : (wants : ℕ) → List Event → List (List ℕ) → List ℕ
