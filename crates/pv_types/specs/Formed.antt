-- A bridge: what holds of a table of types and of those that it is given, and how it grows.
use Rattle.std.specs.Prelude.{Bool, true, ◌&&◌, List, [], ◌∷◌, IsTrue, ℕ, slice_index_or, ◌<◌, length, ◌≡◌, false, ◌≢◌, Some, ◌^◌, ◌==◌, if◌then◌else◌, ◌++◌}
use Rattle.pv_types.specs.Ty.{Tys, NoTys, MoreTys, Ty}
use Rattle.pv_types.specs.Adjusted.{is_adjusted}
use Rattle.pv_types.specs.Layouts.{is_complete_in, Entry, Named, Completed, look, layout_of, AllFill}
use Rattle.pv_types.specs.declared.terms.Term.{Term}
use Rattle.pv_types.specs.declared.terms.Term.TheVariants.{Void, Pointer, Array, Function, Const, Struct, Union}
use Rattle.pv_types.specs.declared.terms.TypeId.{TypeId}
use Rattle.pv_types.specs.Known.{Heading, heading_at, Known, trees, tys_in, trees_of, tree_in, at, completed_in, named_in, DoneTag, env}
use Rattle.pv_types.specs.KnownParts.{list_at}
use Rattle.pv_types.specs.declared.terms.Member.{Member}

-- 6.7.6.3p7, p8: each of the types is one that a parameter may have
abbrev pub are_adjusted : Tys → Bool
are_adjusted NoTys = true
are_adjusted (MoreTys t ts) = is_adjusted t && are_adjusted ts

-- 6.7.2.1p3: every member is a complete object type
abbrev pub AreComplete : List Entry → List Named → Type 0
AreComplete env [] = Unit {0}
AreComplete env (m ∷ ms) = IsTrue (is_complete_in env m.t) × AreComplete env ms

-- 6.2.5: the outermost layer of the type of a number
abbrev pub term_at : List Term → ℕ → Term
term_at terms i = slice_index_or terms i Void

-- 6.7.6.3p6: each parameter's type is one of the first n
abbrev pub AllBelow : ℕ → List TypeId → Type 0
AllBelow n [] = Unit {0}
AllBelow n (x ∷ xs) = (x.0 < n) × AllBelow n xs

-- 6.2.5p20, p26: each type that the term is derived from is one of the first n
abbrev pub PartsBelow : List (List TypeId) → ℕ → Term → Type 0
PartsBelow lists n (Pointer x) = x.0 < n
PartsBelow lists n (Array x k) = x.0 < n
PartsBelow lists n (Function x p v) = (x.0 < n) × (p < length lists) × AllBelow n (list_at lists p)
PartsBelow lists n (Const x) = x.0 < n
PartsBelow lists n _ = Unit {0}

-- 6.7.2.3p2: a tag that the term names was made, as what the term says: a structure's or a union's
abbrev pub IsTagged : List Heading → Term → Type 0
IsTagged tags (Struct n) = (n < length tags) × ((heading_at tags n).union ≡ false)
IsTagged tags (Union n) = (n < length tags) × ((heading_at tags n).union ≡ true)
IsTagged tags _ = Unit {0}

-- 6.2.5p20, p26: what the term is derived from was made in the table
abbrev pub IsKnown : Known → Term → Type 0
IsKnown m (Pointer x) = x.0 < length m.terms
IsKnown m (Array x k) = x.0 < length m.terms
IsKnown m (Function x p v) = (x.0 < length m.terms) × (p < length m.lists)
IsKnown m (Const x) = x.0 < length m.terms
IsKnown m t = IsTagged m.tags t

-- 6.7.6.3p6: the types of the parameters of a number
abbrev pub parameters_at : Known → ℕ → Tys
parameters_at m p = tys_in (trees m) (list_at m.lists p)

-- 6.2.5p20: each term is derived from earlier ones, none stands twice, and each tree is made of its term
pub record IsFormed (lists : List (List TypeId)) (terms : List Term) : Type 0 where
  pub below : (i : ℕ) → i < length terms → PartsBelow lists i (term_at terms i)
  pub distinct : (i j : ℕ) → i < length terms → j < length terms → term_at terms i ≡ term_at terms j → i ≡ j
  pub shown : (i : ℕ) → i < length terms → at (trees_of lists terms) i ≡ tree_in lists (trees_of lists terms) (term_at terms i)

-- 6.2.5: the term stands nowhere
abbrev pub IsAbsent : List Term → Term → Type 0
IsAbsent terms t = (i : ℕ) → i < length terms → term_at terms i ≢ t

-- 6.7.6.3p6: the list of parameters stands nowhere
abbrev pub IsNoList : List (List TypeId) → List TypeId → Type 0
IsNoList lists l = (p : ℕ) → p < length lists → list_at lists p ≢ l

-- 6.7.6.3p6: each list's types are among the first n, and no list stands twice
pub record AreListed (n : ℕ) (lists : List (List TypeId)) : Type 0 where
  pub below : (p : ℕ) → p < length lists → AllBelow n (list_at lists p)
  pub distinct : (p q : ℕ) → p < length lists → q < length lists → list_at lists p ≡ list_at lists q → p ≡ q

-- 6.7.2.3p4: the completed tags, with the trees of their members
abbrev pub completions : Known → List Completed
completions m = completed_in (trees m) m.done

-- 6.7.2.1p9: every member's type is one of the first n
abbrev pub MembersBelow : ℕ → List Member → Type 0
MembersBelow n [] = Unit {0}
MembersBelow n (m ∷ ms) = (m.t.0 < n) × MembersBelow n ms

-- 6.7p3: none of these members has the name
abbrev pub IsNewName : ℕ → List Member → Type 0
IsNewName n [] = Unit {0}
IsNewName n (m ∷ ms) = (m.name ≢ n) × IsNewName n ms

-- 6.7p3 and 6.2.3p1: the members of one structure or union have names that differ
abbrev pub NamesDiffer : List Member → Type 0
NamesDiffer [] = Unit {0}
NamesDiffer (m ∷ ms) = IsNewName m.name ms × NamesDiffer ms

-- 6.7.2.1p3, p8: a completed tag's members are known and complete, there is one at least, and its layout is made of theirs (p15 to p17)
pub record IsLaid (n : ℕ) (ts : List Ty) (env : List Entry) (d : DoneTag) : Type 0 where
  pub known : MembersBelow n d.members
  pub some : 0 < length d.members
  pub differ : NamesDiffer d.members
  pub complete : AreComplete env (named_in ts d.members)
  pub laid : look env d.tag ≡ Some (layout_of env d.tag d.union (named_in ts d.members))

-- 6.7.2.1p3, p8: so it is with every completed tag
abbrev pub AreLaid : ℕ → List Ty → List Entry → List DoneTag → Type 0
AreLaid n ts env [] = Unit {0}
AreLaid n ts env (d ∷ ds) = IsLaid n ts env d × AreLaid n ts env ds

-- 6.7.2.3p2: each completed tag was made, as what it is: a structure's or a union's
abbrev pub AreHeaded : List Heading → List DoneTag → Type 0
AreHeaded tags [] = Unit {0}
AreHeaded tags (d ∷ ds) = (d.tag < length tags) × (d.union ≡ (heading_at tags d.tag).union) × AreHeaded tags ds

-- the tags that have layouts (6.7.2.3p4)
abbrev pub entry_tags : List Entry → List ℕ
entry_tags [] = []
entry_tags (e ∷ es) = e.tag ∷ entry_tags es

-- the completed tags (6.7.2.3p4)
abbrev pub done_tags : List DoneTag → List ℕ
done_tags [] = []
done_tags (d ∷ ds) = d.tag ∷ done_tags ds

-- 6.2.5, 6.7.2.1, 6.7.2.3, 6.7.6.3p7, p8: what holds of every table
pub record IsBuilt (m : Known) : Type 0 where
  pub formed : IsFormed m.lists m.terms
  pub listed : AreListed (length m.terms) m.lists
  pub adjusted : (p : ℕ) → p < length m.lists → IsTrue (are_adjusted (parameters_at m p))
  pub tagged : (i : ℕ) → i < length m.terms → IsTagged m.tags (term_at m.terms i)
  pub few : length m.terms < 2 ^ 32
  pub few_lists : length m.lists < 2 ^ 32
  pub few_tags : length m.tags < 2 ^ 32
  pub headed : AreHeaded m.tags m.done
  pub laid : AreLaid (length m.terms) (trees m) (env m) m.done
  pub within : AllFill (env m)
  pub same : entry_tags (env m) ≡ done_tags m.done

-- 6.7.2.1p8: the members of a completed tag, in their order; none of another
abbrev pub members_in : List DoneTag → ℕ → List Member
members_in [] n = []
members_in (d ∷ ds) n = if d.tag == n then d.members else members_in ds n

-- 6.7.2.1p6: whether a completed tag is a union's
abbrev pub is_union_in : List DoneTag → ℕ → Bool
is_union_in [] n = false
is_union_in (d ∷ ds) n = if d.tag == n then d.union else is_union_in ds n

-- 6.7.2.1p8: the members of a tag, with the trees of their types
abbrev pub named_members : Known → ℕ → List Named
named_members m n = named_in (trees m) (members_in m.done n)

-- 6.7.2.1p3, p15 to p17: the entry of a tag, where it has one, is made of the tag's members, which are known and complete
pub record IsMade (m : Known) (n : ℕ) : Type 0 where
  pub known : MembersBelow (length m.terms) (members_in m.done n)
  pub complete : AreComplete (env m) (named_members m n)
  pub laid : look (env m) n ≡ Some (layout_of (env m) n (is_union_in m.done n) (named_members m n))

-- 6.2.5: the table has the same types as before, and may have more
abbrev pub Extends : Known → Known → Type 0
Extends old new = (more : List Term) × (new ≡ record old { terms = old.terms ++ more })

-- 6.7.6.3p6: the table has the same lists of parameters as before, and may have more
abbrev pub ExtendsLists : Known → Known → Type 0
ExtendsLists old new = (more : List (List TypeId)) × (new ≡ record old { lists = old.lists ++ more })
