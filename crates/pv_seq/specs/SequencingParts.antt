-- A bridge: what functions answer that do a part of what Sequencing says.
use Rattle.pv_seq.specs.Sequencing.{Access}
use Rattle.std.specs.Prelude.{Bool, ℕ}

-- an access by its parts (5.1.2.3p2)
abbrev pub access_of : (place length : ℕ) → Bool → Access
access_of place length writes = record { place = place; length = length; writes = writes }
