-- A bridge: what functions answer that do a part of what Tags says.
use Rattle.pv_types.specs.Ty.{Ty}
use Rattle.pv_types.specs.Layouts.{tag_type, layout_in, Named}
use Rattle.std.specs.Prelude.{ℕ, Bool, nat_le, ◌^◌, List, not, ◌==◌, if◌then◌else◌, length, Some, nat_lt, None}
use Rattle.std.specs.List.{list_all}
use Rattle.std.specs.declared.option.Option.{Option}
use Rattle.pv_check.specs.State.{After, env, State}

-- 6.7.2.1p6: the type of a structure or union by its number
abbrev pub composite_type : Bool → After ℕ → After Ty
composite_type union a = record { value = tag_type union a.value; state = a.state }

-- no type is larger than 2 ^ 32 bytes
abbrev pub is_small : State → Ty → Bool
is_small s t = nat_le (layout_in (env s) t).size (2 ^ 32)

-- 6.2.3p1, 6.7p3: no member has the name
abbrev pub is_new_member : ℕ → List Named → Bool
is_new_member n ms = list_all (λ (m : Named). not (m.name == n)) ms

-- 6.7.2.1p1: there is a member
abbrev pub some_members : After (List Named) → Option (After (List Named))
some_members a = if nat_lt 0 (length a.value) then Some a else None
