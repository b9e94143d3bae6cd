use Rattle.std.proofs.Common.{drop}
use Rattle.pv_typed.specs.Known.{Each}
use Rattle.pv_state.specs.ReadWords.{IsWithin}
use Rattle.pv_state.proofs.PlaceLemmas.{Left, places_by}
use Rattle.pv_state.proofs.words.places_of.Given as goal

abbrev pub invariant-loop-word : goal.invariant-loop-word
invariant-loop-word l = Left l.bound (drop l.word-index l.words) (places_by l.bound l.words) l.places.items × Each (IsWithin l.bound) l.places.items
