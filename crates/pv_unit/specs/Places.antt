-- A bridge: where an object or a function of file scope stands among all, and what stands there.
use Rattle.std.specs.Prelude.{◌≡◌, ℕ, suc, nat_eq, Bool, true, false, ◌||◌, if◌then◌else◌, List, [], ◌∷◌, Option, Some, None, set, slice_index_or}
use Rattle.std.specs.Option.{option_map}
use Rattle.pv_check.specs.Scopes.{find}
use Rattle.pv_unit.specs.Redeclarations.{Entity, is_entity}

-- the place of the first one of this kind and number, among objects and functions of file scope (6.9p1)
abbrev pub first_in : Bool → ℕ → List Entity → Option ℕ
first_in f k [] = None
first_in f k (e ∷ es) = if is_entity f k e then Some 0 else option_map suc (first_in f k es)

-- what is kept by the numbers is where the first declarations (6.7p4) of a kind stand
abbrev pub ArePlaced : Bool → List Entity → List (ℕ × ℕ) → Type 0
ArePlaced f es places = (k : ℕ) → find places k ≡ first_in f k es

-- the first of two places that there is: one object or function has one (6.7p4)
abbrev pub or_other : Option ℕ → Option ℕ → Option ℕ
or_other None o = o
or_other (Some i) o = Some i

-- a place more for a number, if there is none: the first declaration (6.7p4) gives it
abbrev pub Keeps : ℕ → ℕ → List (ℕ × ℕ) → List (ℕ × ℕ) → Type 0
Keeps k p old new = (q : ℕ) → find new q ≡ or_other (find old q) (if nat_eq k q then Some p else None)

-- ---- what stands at a place

-- what stands for an object or a function (6.9p1) that there is not
abbrev pub nothing : Entity
nothing = record { name = 0; function = false; number = 0; defined = false; initialized = false; unsized = false }

-- what a declaration says of it (6.9.2p1, p2), beside what others said
abbrev pub with_more : Bool → Bool → Bool → Entity → Entity
with_more d i b e = record e { defined = e.defined || d; initialized = e.initialized || i; unsized = e.unsized || b }

-- the same of what stands at a place (6.9.2p1, p2)
abbrev pub noted_in : Option ℕ → (defined initialized unsized : Bool) → List Entity → List Entity
noted_in None d i b es = es
noted_in (Some p) d i b es = set es p (with_more d i b (slice_index_or es p nothing))

-- whether what stands at a place has an initializer or a body (6.9p5)
abbrev pub initialized_in : Option ℕ → List Entity → Bool
initialized_in None es = false
initialized_in (Some p) es = (slice_index_or es p nothing).initialized

-- whether what stands at a place is defined (6.9p5)
abbrev pub defined_in : Option ℕ → List Entity → Bool
defined_in None es = true
defined_in (Some p) es = (slice_index_or es p nothing).defined
