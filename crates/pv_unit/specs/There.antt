-- A bridge: the objects and functions that declarations at file scope declare are in the tables.
use Rattle.std.specs.Prelude.{ℕ, ◌<◌, Bool, true, false, List, [], ◌∷◌, length}
use Rattle.pv_typed.specs.Tables.{Stored}
use Rattle.pv_unit.specs.Redeclarations.{Entity}

-- the object or the function (6.9p1) of this number is in the tables
abbrev pub HasNumber : Stored → (function : Bool) → ℕ → Type 0
HasNumber m true k = k < length m.functions
HasNumber m false k = k < length m.objects

-- the same of one that a declaration at file scope (6.9p1) declares
abbrev pub IsThere : Stored → Entity → Type 0
IsThere m e = HasNumber m e.function e.number

-- the same of all of file scope (6.9p1)
abbrev pub AreThere : Stored → List Entity → Type 0
AreThere m [] = Unit {0}
AreThere m (e ∷ es) = IsThere m e × AreThere m es

-- the same, where an external declaration (6.9p1) has an answer
abbrev pub ThereOn : Stored → List Entity → Bool → Type 0
ThereOn m es false = Unit {0}
ThereOn m es true = AreThere m es
