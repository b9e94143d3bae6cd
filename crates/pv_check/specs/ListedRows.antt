-- A bridge: specifiers with a list, as the code takes them apart.
use Rattle.std.specs.Prelude.{ℕ, Bool, true, false, Option, List}
use Rattle.pv_num.specs.declared.kinds.IntKind.TheVariants as kind
use Rattle.pv_tree.specs.declared.nodes.ListId.{ListId}
use Rattle.pv_tree.specs.declared.nodes.NodeId.{NodeId}
use Rattle.pv_tree.specs.declared.nodes.Spec.{Spec}
use Rattle.pv_tree.specs.declared.nodes.Spec.TheVariants as spec
use Rattle.pv_tree.specs.Tables.{Forest, tree_at, trees_at}
use Rattle.pv_types.specs.declared.terms.TypeId.{TypeId}
use Rattle.pv_types.specs.Known.{tree}
use Rattle.pv_types.specs.Ty.{Ty, IntTy}
use Rattle.pv_types.specs.Layouts.{Named}
use Rattle.pv_typed.specs.Tables.{Stored}
use Rattle.pv_check.specs.declared.composites.MemberList.{MemberList}
use Rattle.pv_check.specs.declared.derivations.Step.{Step}
use Rattle.pv_check.specs.declared.specifying.Listed.{Listed}
use Rattle.pv_check.specs.declared.specifying.Listed.TheVariants as list
use Rattle.pv_check.specs.Declarators.{steps_after}
use Rattle.pv_check.specs.Derivations.{Signature}
use Rattle.pv_check.specs.MembersRead.{members_shown}
use Rattle.pv_check.specs.Raw.{Raw}
use Rattle.pv_check.specs.Rows.{member_of}
use Rattle.pv_check.specs.Specifiers.{Seen, with_type, typedef_of}
use Rattle.pv_check.specs.State.{State, After, give}
use Rattle.pv_check.specs.Scopes.{look, look_tag}
use Rattle.pv_typed.specs.Constants.{and_then}
use Rattle.pv_check.specs.Tags.{tag_before_list, completion_of, opened_enumeration, closed_enumeration, composite_named, enumeration_named}
use Rattle.pv_check.specs.TagParts.{some_members}
use Rattle.pv_check.specs.Typing.{members, member_declarators, member_declarator, enumerators}

-- the list of a specifier, as the code takes it apart (6.7.2.1, 6.7.2.2)
abbrev pub list_of : Listed → ListId
list_of (list.Composite union n l) = l
list_of (list.Enumeration n l) = l

-- what the type of a specifier makes of those before it (6.7.2p2)
abbrev pub with_named : Seen → After Ty → Option (After Seen)
with_named seen a = give (with_type seen a.value) a.state

-- what a structure or union with this tag and these members makes of the specifiers before it (6.7.2.1p8)
abbrev pub with_completed_tag : Bool → Option ℕ → ℕ → Seen → After (List Named) → Option (After Seen)
with_completed_tag union n number seen m = and_then (completion_of union n number m.value m.state) (with_named seen)

-- the same, of members of which there must be one (6.7.2.1p8)
abbrev pub with_some_members : Bool → Option ℕ → ℕ → Seen → After (List Named) → Option (After Seen)
with_some_members union n number seen m = and_then (some_members m) (with_completed_tag union n number seen)

-- what a structure or union with a list makes of the specifiers before it (6.7.2.1)
abbrev pub with_composite_list : Forest → Bool → Option ℕ → ListId → Seen → State → Option (After Seen)
with_composite_list f union n l seen s =
    and_then (tag_before_list union n s) (λ o. and_then (and_then (members (trees_at f l) o.state) some_members) (with_completed_tag union n o.value seen))

-- what an enumeration with a list makes of the specifiers before it (6.7.2.2)
abbrev pub with_enumeration_list : Forest → Option ℕ → ListId → Seen → State → Option (After Seen)
with_enumeration_list f n l seen s =
    and_then (opened_enumeration n s) (λ o. and_then (enumerators (trees_at f l) o) (λ e.
    give (with_type seen (IntTy kind.Int)) (closed_enumeration n e.state)))

-- what a specifier with a list makes of those before it (6.7.2.1, 6.7.2.2)
abbrev pub list_specifier : Forest → Listed → Seen → State → Option (After Seen)
list_specifier f (list.Composite union n l) seen s = with_composite_list f union n l seen s
list_specifier f (list.Enumeration n l) seen s = with_enumeration_list f n l seen s

-- what the tag of a structure or union makes of the specifiers before it (6.7.2.3p8)
abbrev pub with_composite_tag : Bool → ℕ → Seen → State → Option (After Seen)
with_composite_tag union n seen s = and_then (composite_named union n (look_tag s.scopes n) s) (with_named seen)

-- what the tag of an enumeration makes of the specifiers before it (6.7.2.3p3)
abbrev pub with_enumeration_tag : ℕ → Seen → State → Option (After Seen)
with_enumeration_tag n seen s = and_then (enumeration_named (look_tag s.scopes n) s) (with_named seen)

-- what a typedef name makes of the specifiers before it (6.7.8p3)
abbrev pub with_typedef_name : ℕ → Seen → State → Option (After Seen)
with_typedef_name n seen s = give (and_then (typedef_of (look s.scopes n)) (with_type seen)) s

-- one member more behind those before it, by the type that its specifiers name and the steps of its declarator (6.7.2.1p9)
abbrev pub member_from_steps : List (List ℕ) → Bool → Raw → Stored → Option (ℕ × ℕ) → TypeId → MemberList → List Step → Option Signature →
    Option (After (List Named))
member_from_steps texts u s m name base ms steps g =
    member_of name (tree m.known base.0) (members_shown m.known ms) (steps_after texts u s m steps g)

-- one declarator of members behind those before it (6.7.2.1p1)
abbrev pub declared_member : Forest → NodeId → Ty → After (List Named) → Option (After (List Named))
declared_member f n t m = member_declarator t (tree_at f n) m

-- the members that a list of declarators makes of those before it (6.7.2.1p1)
abbrev pub declared_members : Forest → ListId → Ty → After (List Named) → Option (After (List Named))
declared_members f l t m = member_declarators (trees_at f l) t m.value m.state

-- a specifier that has no list in braces (6.7.2.1, 6.7.2.2)
abbrev pub is_unlisted : Spec → Bool
is_unlisted (spec.Struct n ms) = false
is_unlisted (spec.Union n ms) = false
is_unlisted (spec.Enum n es comma) = false
is_unlisted _ = true

-- a specifier that is no word alone (6.7.1 to 6.7.3)
abbrev pub is_no_keyword : Spec → Bool
is_no_keyword (spec.StructTag n) = true
is_no_keyword (spec.UnionTag n) = true
is_no_keyword (spec.EnumTag n) = true
is_no_keyword (spec.TypedefName n) = true
is_no_keyword (spec.Struct n ms) = true
is_no_keyword (spec.Union n ms) = true
is_no_keyword (spec.Enum n es comma) = true
is_no_keyword _ = false
