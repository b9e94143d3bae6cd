-- A bridge: what the scopes and the tables stand for together, and what typing keeps true of them.
use Rattle.std.specs.Prelude.{◌≡◌, ℕ, ◌<◌, Bool, false, if◌then◌else◌, Some, None, IfSome, List, map, length, Result, IfOk}
use Rattle.std.specs.declared.option.Option.{Option}
use Rattle.pv_types.specs.declared.terms.TypeId.{TypeId}
use Rattle.pv_types.specs.Known.{tree, env, heading_at}
use Rattle.pv_types.specs.Formed.{parameters_at}
use Rattle.pv_types.specs.Ty.{Ty}
use Rattle.pv_typed.specs.Known.{Each, AreKnown}
use Rattle.pv_typed.specs.Tables.{Stored, whole_unit}
use Rattle.pv_typed.specs.Formed.{Grown}
use Rattle.pv_check.specs.declared.scopes.Entry.{Entry}
use Rattle.pv_check.specs.declared.scopes.Entry.TheVariants as entry
use Rattle.pv_check.specs.declared.scopes.TagEntry.{TagEntry}
use Rattle.pv_check.specs.declared.scopes.TagEntry.TheVariants as tag
use Rattle.pv_check.specs.Growing.{AreSized, Lengthens}
use Rattle.pv_check.specs.Raw.{Raw, RawScope, scopes_shown, used_of}
use Rattle.pv_check.specs.State.{State, After}

-- the state that scopes and tables stand for; the texts of string literals, and whether what is typed is not evaluated, come with it
abbrev pub state_of : List (List ℕ) → Bool → Raw → Stored → State
state_of texts unevaluated s m = record { scopes = scopes_shown m.known s.scopes; unit = whole_unit m; texts = texts; used = map used_of s.used; unevaluated = unevaluated }

-- the texts of the string literals of a unit (6.4.5p6), by their numbers
abbrev pub Texts : Type 0
Texts = List (List ℕ)

-- the state of what is evaluated
abbrev pub state_in : Texts → Raw → Stored → State
state_in texts s m = state_of texts false s m

-- tables grew, and the state that they stand for is as it was
abbrev pub KeepsState : Raw → (old new : Stored) → Type 0
KeepsState s old new = (texts : Texts) → state_in texts s new ≡ state_in texts s old

-- what typing answers is so, unless memory is wanting or a constraint is not met, where there is no answer
abbrev pub IfAnswered : {A E : Type 0} → Result (Option A) E → (A → Type 0) → Type 0
IfAnswered result IsAnswer = IfOk result (λ r. IfSome r IsAnswer)

-- what a name designates is there (6.2.1p1)
abbrev pub EntryKnown : Stored → Entry → Type 0
EntryKnown m (entry.Object o) = o < length m.objects
EntryKnown m (entry.Function f) = f < length m.functions
EntryKnown m (entry.Typedef t) = t.0 < length m.known.terms
EntryKnown m (entry.Constant value) = Unit {0}

-- what a tag designates is there (6.7.2.3)
abbrev pub TagKnown : Stored → TagEntry → Type 0
TagKnown m (tag.Composite n) = n < length m.known.tags
TagKnown m tag.Enumerated = Unit {0}
TagKnown m tag.Unfinished = Unit {0}

-- the number is the tag of a structure, or of a union (6.7.2.3)
abbrev pub HasTag : Stored → Bool → ℕ → Type 0
HasTag m union n = (n < length m.known.tags) × ((heading_at m.known.tags n).union ≡ union)

-- what a name of a scope designates is there (6.2.1p1)
abbrev pub NameKnown : Stored → ℕ × Entry → Type 0
NameKnown m e = EntryKnown m e.1

-- what a tag of a scope designates is there (6.7.2.3)
abbrev pub TagNameKnown : Stored → ℕ × TagEntry → Type 0
TagNameKnown m e = TagKnown m e.1

-- what a scope names is there (6.2.1p4)
abbrev pub ScopeKnown : Stored → RawScope → Type 0
ScopeKnown m x = Each (NameKnown m) x.names × Each (TagNameKnown m) x.tags

-- there is a scope, and all that tables and scopes name is there (6.2.1p4)
pub record IsOpen (m : Stored) (s : Raw) : Type 0 where
  pub known : AreKnown m
  pub sized : AreSized m.known
  pub some : 0 < length s.scopes
  pub scopes : Each (ScopeKnown m) s.scopes

-- what typing does to the tables: they have more
pub record Goes (old new : Stored) : Type 0 where
  pub grown : Grown old new
  pub headings : (n : ℕ) → n < length old.known.tags → heading_at new.known.tags n ≡ heading_at old.known.tags n
  pub parameters : (p : ℕ) → p < length old.known.lists → parameters_at new.known p ≡ parameters_at old.known p
  pub sized : AreSized old.known → AreSized new.known
  pub completed : Lengthens (env old.known) (env new.known)

-- an answer of a type, and the state after it (6.7.7)
abbrev pub after_type : List (List ℕ) → Bool → Raw → Stored → Option TypeId → Option (After Ty)
after_type texts unevaluated s m None = None
after_type texts unevaluated s m (Some t) = Some (record { value = tree m.known t.0; state = state_of texts unevaluated s m })

-- an answer of a number, and the state after it
abbrev pub after_number : List (List ℕ) → Bool → Raw → Stored → Option ℕ → Option (After ℕ)
after_number texts unevaluated s m None = None
after_number texts unevaluated s m (Some n) = Some (record { value = n; state = state_of texts unevaluated s m })

-- an answer that is a state alone
abbrev pub after_nothing : List (List ℕ) → Bool → Raw → Stored → Bool → Option State
after_nothing texts unevaluated s m b = if b then Some (state_of texts unevaluated s m) else None
