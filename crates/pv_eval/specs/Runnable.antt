-- A bridge: what is asked of a unit that is run.
use Rattle.std.specs.Prelude.{◌≡◌, ◌<◌, length, codes}
use Rattle.pv_script.specs.Names.{name_at as text_of}
use Rattle.pv_typed.specs.Tables.{Stored}
use Rattle.pv_typed.specs.Known.{AreKnown}

-- its entries have types and names that are there. The instances of literals (6.4.5p6) are named `@lit`, those of allocations
-- (7.22.3) `@heap`
pub record IsRunnable (u : Stored) : Type 0 where
  pub known : AreKnown u
  pub two : 1 < length u.names
  pub literal : text_of u.names 0 ≡ codes "@lit"
  pub heap : text_of u.names 1 ≡ codes "@heap"
