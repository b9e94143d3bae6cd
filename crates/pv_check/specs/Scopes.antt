-- Scopes (C17 6.2.1, 6.2.3): what a name designates, that it is declared once in a scope (6.7p3), and where scopes begin and end.
use Rattle.std.specs.Prelude.{ℕ, ◌-◌, ◌==◌, Bool, if◌then◌else◌, Option, Some, None, is_some, List, [], ◌∷◌, ◌++◌, length, slice_index_or, set, take, nat_eq}
use Rattle.std.specs.Map.{lookup}
use Rattle.std.specs.Option.{option_or}
use Rattle.indexmap.specs.IndexMap.{insert_entry}
use Rattle.pv_check.specs.State.{Meaning, TagMeaning, Scope, State}

-- 6.2.1p4: a scope without names
abbrev pub no_scope : Scope
no_scope = record { names = []; tags = [] }

-- 6.2.1p4: the meaning of a name in one scope, where it has one
abbrev pub find : {M : Type 0} → List (ℕ × M) → ℕ → Option M
find es n = lookup (nat_eq n) es

-- 6.2.1p4: a name of an inner scope hides that of an outer one; the innermost scope is the last
abbrev pub look_by : {S M : Type 0} → (S → List (ℕ × M)) → List S → ℕ → Option M
look_by f [] n = None
look_by f (s ∷ ss) n = option_or (look_by f ss n) (find (f s) n)

-- 6.2.1p4, 6.2.3p1: what an identifier designates
abbrev pub look : List Scope → ℕ → Option Meaning
look ss n = look_by (λ (s : Scope). s.names) ss n

-- 6.2.1p4, 6.2.3p1: what a tag designates
abbrev pub look_tag : List Scope → ℕ → Option TagMeaning
look_tag ss n = look_by (λ (s : Scope). s.tags) ss n

-- 6.2.1p4: the innermost scope
abbrev pub innermost_scope : List Scope → Scope
innermost_scope ss = slice_index_or ss (length ss - 1) no_scope

-- 6.2.1p4: the scopes with another innermost one
abbrev pub with_innermost : List Scope → Scope → List Scope
with_innermost ss s = set ss (length ss - 1) s

-- the state with other scopes (6.2.1p4)
abbrev pub with_scopes : State → List Scope → State
with_scopes s ss = record s { scopes = ss }

-- 6.2.1p4: a name gets a meaning in the innermost scope, in place of the one that it has there
abbrev pub bind : ℕ → Meaning → State → State
bind n m s = with_scopes s (with_innermost s.scopes (record (innermost_scope s.scopes) { names = insert_entry nat_eq (innermost_scope s.scopes).names n m }))

-- 6.2.1p4: a tag gets a meaning in the innermost scope, in place of the one that it has there
abbrev pub bind_tag : ℕ → TagMeaning → State → State
bind_tag n m s = with_scopes s (with_innermost s.scopes (record (innermost_scope s.scopes) { tags = insert_entry nat_eq (innermost_scope s.scopes).tags n m }))

-- 6.7p3: a name is declared once in a scope
abbrev pub declare : ℕ → Meaning → State → Option State
declare n m s = if is_some (find (innermost_scope s.scopes).names n) then None else Some (bind n m s)

-- 6.2.1p4: there is no scope but that of the file
abbrev pub is_file_scope : State → Bool
is_file_scope s = length s.scopes == 1

-- 6.2.1p4: a new scope within the others
abbrev pub in_new_scope : State → State
in_new_scope s = with_scopes s (s.scopes ++ no_scope ∷ [])

-- 6.2.1p4: behind the end of the innermost scope
abbrev pub behind_scope : State → State
behind_scope s = with_scopes s (take (length s.scopes - 1) s.scopes)
