-- A bridge: the scopes as they are kept: types are numbers of a table.
use Rattle.std.specs.Prelude.{ℕ, ◌-◌, Option, Some, None, List, [], length, map, set, slice_index_or}
use Rattle.pv_types.specs.Known.{Known, tree, heading_at}
use Rattle.pv_check.specs.declared.scopes.Entry.{Entry}
use Rattle.pv_check.specs.declared.scopes.Entry.TheVariants as entry
use Rattle.pv_check.specs.declared.scopes.TagEntry.{TagEntry}
use Rattle.pv_check.specs.declared.scopes.TagEntry.TheVariants as tag
use Rattle.pv_check.specs.declared.scopes.Tag.{Tag}
use Rattle.pv_check.specs.declared.scopes.Tag.TheVariants as known_tag
use Rattle.pv_check.specs.declared.scopes.Named.{Named}
use Rattle.pv_check.specs.declared.scopes.Named.TheVariants as named
use Rattle.pv_check.specs.declared.scopes.Scope.{Scope as KeptScope}
use Rattle.pv_check.specs.State.{Scope, Meaning, ObjectName, FunctionName, TypedefOf, ConstantOf, TagMeaning, CompositeTag, EnumerationTag, OpenEnumeration, Used, UsedObject, UsedFunction, PointedFunction}
use Rattle.pv_check.specs.ScopeParts.{with_meaning}

-- a scope (6.2.1p4), as it is kept: what names and tags designate is kept by numbers of tables
pub record RawScope : Type 0 where
  pub names : List (ℕ × Entry)
  pub tags : List (ℕ × TagEntry)

-- the scopes, the innermost last, and what expressions named, in order (6.2.1p4)
pub record Raw : Type 0 where
  pub scopes : List RawScope
  pub used : List Named

-- a scope without names (6.2.1p4)
abbrev pub no_raw : RawScope
no_raw = record { names = []; tags = [] }

-- a scope that the code keeps, as lists (6.2.1p4)
abbrev pub raw_of : KeptScope → RawScope
raw_of s = record { names = s.names.entries; tags = s.tags.entries }

-- the innermost scope (6.2.1p4)
abbrev pub raw_innermost : List RawScope → RawScope
raw_innermost ss = slice_index_or ss (length ss - 1) no_raw

-- the names of a scope (6.2.1p1)
abbrev pub raw_names : RawScope → List (ℕ × Entry)
raw_names s = s.names

-- the tags of a scope (6.2.3p1)
abbrev pub raw_tags : RawScope → List (ℕ × TagEntry)
raw_tags s = s.tags

-- the names of a scope that the code keeps (6.2.1p1)
abbrev pub kept_names : KeptScope → List (ℕ × Entry)
kept_names s = s.names.entries

-- the tags of a scope that the code keeps (6.2.3p1)
abbrev pub kept_tags : KeptScope → List (ℕ × TagEntry)
kept_tags s = s.tags.entries

-- the innermost scope with a name more or changed (6.2.1p4)
abbrev pub with_name : Raw → ℕ → Entry → Raw
with_name r n e = record r { scopes = set r.scopes (length r.scopes - 1) (record (raw_innermost r.scopes) { names = with_meaning n e (raw_innermost r.scopes).names }) }

-- the innermost scope with a tag more or changed (6.2.1p4)
abbrev pub with_tag : Raw → ℕ → TagEntry → Raw
with_tag r n e = record r { scopes = set r.scopes (length r.scopes - 1) (record (raw_innermost r.scopes) { tags = with_meaning n e (raw_innermost r.scopes).tags }) }

-- what a name designates (6.2.1p1), with the trees of types
abbrev pub meaning_in : Known → Entry → Meaning
meaning_in m (entry.Object o) = ObjectName o
meaning_in m (entry.Function f) = FunctionName f
meaning_in m (entry.Typedef t) = TypedefOf (tree m t.0)
meaning_in m (entry.Constant value) = ConstantOf value

-- what a tag designates (6.2.3p1): whether it is a structure's or a union's stands in the table of types
abbrev pub tag_meaning : Known → TagEntry → TagMeaning
tag_meaning m (tag.Composite n) = CompositeTag (heading_at m.tags n).union n
tag_meaning m tag.Enumerated = EnumerationTag
tag_meaning m tag.Unfinished = OpenEnumeration

-- what an expression named, as the definitions have it
abbrev pub used_of : Named → Used
used_of (named.Object o) = UsedObject o
used_of (named.Function f) = UsedFunction f
used_of (named.Pointed f) = PointedFunction f

-- a name and what it designates (6.2.1p1)
abbrev pub name_shown : Known → ℕ × Entry → ℕ × Meaning
name_shown m e = (e.0, meaning_in m e.1)

-- a tag and what it designates (6.2.3p1)
abbrev pub tag_shown : Known → ℕ × TagEntry → ℕ × TagMeaning
tag_shown m e = (e.0, tag_meaning m e.1)

-- a scope (6.2.1p4), with the trees of types
abbrev pub scope_shown : Known → RawScope → Scope
scope_shown m s = record { names = map (name_shown m) s.names; tags = map (tag_shown m) s.tags }

-- the scopes, with the trees of types (6.2.1p4)
abbrev pub scopes_shown : Known → List RawScope → List Scope
scopes_shown m ss = map (scope_shown m) ss

-- what a name designates, where it is found (6.2.1p1)
abbrev pub meaning_if : Known → Option Entry → Option Meaning
meaning_if m None = None
meaning_if m (Some e) = Some (meaning_in m e)

-- what a tag designates, where it is found (6.2.3p1)
abbrev pub tag_meaning_if : Known → Option TagEntry → Option TagMeaning
tag_meaning_if m None = None
tag_meaning_if m (Some e) = Some (tag_meaning m e)

-- a tag, as it is declared (6.7.2.3)
abbrev pub entry_of_tag : Tag → TagEntry
entry_of_tag (known_tag.Composite n) = tag.Composite n
entry_of_tag known_tag.Enumerated = tag.Enumerated

-- a tag, as it is looked up; an enumeration is one within its list, too (6.7.2.3)
abbrev pub tag_of_entry : TagEntry → Tag
tag_of_entry (tag.Composite n) = known_tag.Composite n
tag_of_entry tag.Enumerated = known_tag.Enumerated
tag_of_entry tag.Unfinished = known_tag.Enumerated

-- the same, where it is found (6.7.2.3)
abbrev pub tag_if : Option TagEntry → Option Tag
tag_if None = None
tag_if (Some e) = Some (tag_of_entry e)
