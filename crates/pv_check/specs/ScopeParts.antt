-- A bridge: what functions answer that do a part of what Scopes says.
use Rattle.std.specs.Prelude.{List, ℕ, nat_eq, None, Option, Some, if◌then◌else◌, is_some}
use Rattle.pv_check.specs.State.{Meaning, Scope, TagMeaning, State}
use Rattle.pv_check.specs.Scopes.{bind_tag, find, innermost_scope}
use Rattle.indexmap.specs.IndexMap.{insert_entry}

-- 6.2.3p1: the name space of identifiers
abbrev pub names_in : Scope → List (ℕ × Meaning)
names_in s = s.names

-- 6.2.3p1: the name space of tags
abbrev pub tags_in : Scope → List (ℕ × TagMeaning)
tags_in s = s.tags

-- 6.2.1p4: a name with a meaning, in place of the one that it has; last where it has none
abbrev pub with_meaning : {M : Type 0} → ℕ → M → List (ℕ × M) → List (ℕ × M)
with_meaning n m es = insert_entry nat_eq es n m

-- 6.7p3: a tag is declared once in a scope
abbrev pub declare_tag : ℕ → TagMeaning → State → Option State
declare_tag n m s = if is_some (find (innermost_scope s.scopes).tags n) then None else Some (bind_tag n m s)
