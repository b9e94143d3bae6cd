-- A bridge: members that were read.
use Rattle.std.specs.Prelude.{◌≡◌, ℕ, Bool, Some, None, List, length, map}
use Rattle.std.specs.declared.option.Option.{Option}
use Rattle.pv_types.specs.declared.terms.Member.{Member}
use Rattle.pv_types.specs.Known.{Known, env, trees, named_in}
use Rattle.pv_types.specs.Formed.{MembersBelow, NamesDiffer, AreComplete}
use Rattle.pv_types.specs.Layouts.{Named}
use Rattle.pv_typed.specs.Tables.{Stored}
use Rattle.pv_check.specs.declared.composites.MemberList.{MemberList}
use Rattle.pv_check.specs.Open.{state_of}
use Rattle.pv_check.specs.Raw.{Raw}
use Rattle.pv_check.specs.State.{After}

-- the members (6.7.2.1) that the code has, with the trees of their types
abbrev pub members_shown : Known → MemberList → List Named
members_shown m ms = named_in (trees m) ms.list.items

-- the same, where there are any (6.7.2.1)
abbrev pub members_if : Known → Option MemberList → Option (List Named)
members_if m None = None
members_if m (Some ms) = Some (members_shown m ms)

-- members, and the state after them (6.7.2.1)
abbrev pub after_members : List (List ℕ) → Bool → Raw → Stored → Option MemberList → Option (After (List Named))
after_members texts u s m None = None
after_members texts u s m (Some ms) = Some (record { value = members_shown m.known ms; state = state_of texts u s m })

-- members that were read before, and the state after them (6.7.2.1)
abbrev pub members_after : List (List ℕ) → Bool → Raw → Stored → MemberList → After (List Named)
members_after texts u s m ms = record { value = members_shown m.known ms; state = state_of texts u s m }

-- 6.7.2.1p3, 6.2.3p1: their types are complete, and their names differ and are these
pub record AreMembers (m : Known) (ms : MemberList) : Type 0 where
  pub types : MembersBelow (length m.terms) ms.list.items
  pub differ : NamesDiffer ms.list.items
  pub complete : AreComplete (env m) (named_in (trees m) ms.list.items)
  pub names : ms.names.keys ≡ map (λ (x : Member). x.name) ms.list.items
