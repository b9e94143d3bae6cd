-- A bridge: what a table that is made entry by entry shows.
use Rattle.std.specs.Prelude.{ℕ, ◌<◌, List, slice_index_or, length, ◌≡◌}
use Rattle.pv_typed.specs.Built.{row_by_row}

-- every entry's parts are earlier ones: a helper of tables
abbrev pub AreBelow : {N : Type 0} → (ℕ → N → Type 0) → N → List N → Type 0
AreBelow Below z ns = (i : ℕ) → i < length ns → Below i (slice_index_or ns i z)

-- each number stands for what its entry makes of the whole table: a helper of tables
abbrev pub IsShown : {N T : Type 0} → (List T → N → T) → T → N → List N → Type 0
IsShown make d z ns = (i : ℕ) → i < length ns → slice_index_or (row_by_row make ns) i d ≡ make (row_by_row make ns) (slice_index_or ns i z)
