-- The hall that the program which runs a source hands in.
use Rattle.std.specs.Prelude.{List, [], ◌∷◌}
use Rattle.pv_watch.specs.Kinds.{story_kind, census_kind, pointers_kind}
use Rattle.pv_watch.specs.Slots.{Slot, Present}

-- the story of at most 65536 events, a count of all that 64 bits count, the life of the pairs of at most 65536, in this order; nothing is seen yet
-- (docs/FORMATS.md, What watchers say; memory model)
abbrev pub shipped : List Slot
shipped = Present story_kind 65536 [] ∷ Present census_kind 18446744073709551615 [] ∷ Present pointers_kind 65536 [] ∷ []
