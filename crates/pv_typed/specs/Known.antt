-- What is known of a unit's entries: every type and name that one has is there.
use Rattle.std.specs.Prelude.{List, [], ◌∷◌, ◌<◌, ℕ, ◌≡◌, Some, length}
use Rattle.std.specs.List.{slice_get}
use Rattle.pv_types.specs.declared.terms.TypeId.{TypeId}
use Rattle.pv_typed.specs.declared.rows.What.{What}
use Rattle.pv_typed.specs.declared.rows.What.TheVariants as what
use Rattle.pv_typed.specs.declared.rows.Row.{Row}
use Rattle.pv_typed.specs.Mains.{literal_text, heap_text}
use Rattle.pv_typed.specs.declared.entries.Object.{Object}
use Rattle.pv_typed.specs.declared.entries.Function.{Function}
use Rattle.pv_typed.specs.declared.entries.Init.{Init}
use Rattle.pv_typed.specs.Tables.{Stored}

-- P holds of each: a list helper
abbrev pub Each : {A : Type 0} → (A → Type 0) → List A → Type 0
Each P [] = Unit {0}
Each P (x ∷ xs) = P x × Each P xs

-- 6.2.5: a node's type is one of the first n of the table
abbrev pub HasType : ℕ → What → Type 0
HasType n (what.Expression x t counts plain) = t.0 < n
HasType n (what.Statement x declared) = Unit {0}

-- 6.2.5: the type of a row's node is one of the first n of the table
abbrev pub IsTyped : ℕ → Row → Type 0
IsTyped n r = HasType n r.what

-- the first two names are those of the instances of string literals (6.4.5p6) and of allocated objects (7.22.3p1), which no token has
abbrev pub HasOwnNames : List (List ℕ) → Type 0
HasOwnNames names = (slice_get names 0 ≡ Some literal_text) × (slice_get names 1 ≡ Some heap_text)

-- every type and name that an entry has is there, and the tables' own names
pub record AreKnown (s : Stored) : Type 0 where
  pub rows : Each (IsTyped (length s.known.terms)) s.rows
  pub objects : Each (λ (e : Object × List Init). (e.0.t.0 < length s.known.terms) × (e.0.name < length s.names) × Each (λ (i : Init). i.t.0 < length s.known.terms) e.1) s.objects
  pub functions : Each (λ (e : Function × List ℕ). (e.0.t.0 < length s.known.terms) × (e.0.name < length s.names)) s.functions
  pub tags : Each (λ (t : TypeId). t.0 < length s.known.terms) s.tags
  pub own : HasOwnNames s.names
