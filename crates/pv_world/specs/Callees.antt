-- A bridge: what a call that asks for the function behind a pointer comes to: its caller says which functions may be called so.
use Rattle.std.specs.Prelude.{◌≡◌, ℕ, pos, Bool, List, ◌++◌, Option, Some, Result, Ok, Err, unwrap_or, if◌then◌else◌}
use Rattle.pv_object.specs.declared.values.Pointer.{Pointer}
use Rattle.pv_object.specs.Operations.{code}
use Rattle.pv_watch.specs.declared.event.What.{What}
use Rattle.pv_world.specs.declared.got.Failure.{Failure}
use Rattle.pv_world.specs.declared.got.Failure.TheVariants as failure
use Rattle.pv_world.specs.Worlds.{Worth, World}
use Rattle.pv_world.specs.Worths.{int, pointer_of}
use Rattle.pv_world.specs.Telling.{fault_told}
use Rattle.pv_world.specs.Pointers.{found_by, finds}
use Rattle.pv_world.specs.PointerParts.{unlike}
use Rattle.pv_world.specs.Coming.{Seen, Gave, Ended, coming_of, wrong_for}

-- 6.5.2.2p1, 6.3.2.3p8: the function that was found, where it may be called so; else the fault, which is told after this
abbrev pub FoundIn : (fits : Option ℕ → Bool) → Pointer → Result (Option ℕ) Failure → (old new : World) → (after : List What) → Seen → Type 0
FoundIn fits p (Ok o) old new after s =
    s ≡ (if fits o then Gave (int (pos (unwrap_or o 0))) new after else Ended unlike new (after ++ fault_told old.memory unlike (Some p.prov)))
FoundIn fits p (Err (failure.Stop y)) old new after s = s ≡ Ended (wrong_for y) new after
FoundIn fits p (Err failure.NoMemory) old new after s = Unit {0}

-- 6.5.2.2p1: the same of a pointer
abbrev pub FoundBy : (fits : Option ℕ → Bool) → Pointer → Result (Option ℕ) Failure → (old new : World) → (before after : List What) → Type 0
FoundBy fits p r old new before after = FoundIn fits p r old new after (coming_of before old (found_by old p fits (code old.memory.table p)))

-- 6.5.2.2p1: the same of a value, which may be missing
abbrev pub FoundAs : (fits : Option ℕ → Bool) → Worth → Result (Option ℕ) Failure → (old new : World) → (before after : List What) → Type 0
FoundAs fits v r old new before after = FoundIn fits (pointer_of v) r old new after (coming_of before old (finds fits v old))
