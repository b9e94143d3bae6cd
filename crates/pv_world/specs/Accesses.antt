-- Reads and writes of bytes (C17 6.2.6.1, 6.3.2.1p2, 6.5.16): reaching them, what they are worth, and what is stored.
use Rattle.std.specs.Prelude.{ℕ, ◌+◌, ◌==◌, nat_lt, Bool, false, not, ◌&&◌, List, ◌++◌, Option, Some, None, if◌then◌else◌, Result, Ok, Err, take, drop}
use Rattle.pv_prov.specs.declared.names.Prov.{Prov}
use Rattle.pv_inst.specs.declared.values.Test.TheVariants.{Range}
use Rattle.pv_inst.specs.Table.{Table}
use Rattle.pv_inst.specs.Use.{use_answer}
use Rattle.pv_shadow.specs.declared.byte.Byte.{Byte}
use Rattle.pv_shadow.specs.Whole.{whole_name}
use Rattle.pv_object.specs.declared.values.Pointer.{Pointer}
use Rattle.pv_object.specs.declared.values.Scalar.TheVariants as scalar
use Rattle.pv_object.specs.declared.values.Reach.{Reach}
use Rattle.pv_object.specs.declared.values.Stop.{Stop}
use Rattle.pv_object.specs.declared.values.Stop.TheVariants.{Ends}
use Rattle.pv_fault.specs.declared.verdict.Verdict.TheVariants.{Undefined}
use Rattle.pv_object.specs.declared.values.Asker.TheVariants.{Access}
use Rattle.pv_num.specs.Kinds.{is_character_kind}
use Rattle.pv_object.specs.Encoding.{encode}
use Rattle.pv_object.specs.Access.{reach}
use Rattle.pv_object.specs.Loading.{Loaded, value_of as load_of}
use Rattle.pv_watch.specs.declared.event.What.{What}
use Rattle.pv_world.specs.declared.got.Shape.{Shape}
use Rattle.pv_world.specs.declared.got.Shape.TheVariants as shape
use Rattle.pv_world.specs.Worlds.{Worth, Scalar, Whole, World, with_table}
use Rattle.pv_world.specs.Telling.{Told, telling, uses, event_of_use, live_test, range_test, exposures, all_told, pairings, no_telling}
use Rattle.pv_world.specs.Doing.{Done, Answers, Fails}
use Rattle.pv_world.specs.Worths.{wrong_of, value_of, bytes_of, on_present_value}

-- 6.5.3.2p4, 6.2.4p2, 6.4.5p7, 6.7.3p6: the checks of an access to so many bytes, and then what is done with them. The use
-- stays told where a later check ends the run
abbrev pub reaching_by : World → Pointer → List What → Result Reach Stop × Table → (Reach → World → Told → Done) → Done
reaching_by w p us (Ok at, T) go = go at (with_table w T) (telling us)
reaching_by w p us (Err y, T) go = Fails (wrong_of y) (Some p.prov) (with_table w T) (telling us)

-- 6.5.3.2p4, 6.2.4p2, 6.4.5p7, 6.7.3p6: the checks of an access to so many bytes by this pointer, and then what is done with them; its use for the
-- range is told (the memory model)
abbrev pub reaching : Pointer → (n align : ℕ) → (write : Bool) → World → (Reach → World → Told → Done) → Done
reaching p n align write w go =
    reaching_by w p (uses range_test (use_answer w.memory.table p.prov (Range p.address n))) (reach w.memory.table p n align write Access) go

-- 6.2.6.1: the scalar that bytes are, of a shape that is one
abbrev pub scalar_as : Table → List Byte → Shape → Loaded
scalar_as T bytes (shape.Int k) = load_of T bytes (scalar.Int k)
scalar_as T bytes _ = load_of T bytes scalar.Pointer

-- A load of a pointer that stops by the live test (6.2.4p2) blames the loaded pointer, which was stored whole: what a number
-- finds is live. All else blames the accessed pointer, if bytes were accessed. (The memory model: provenance.)
abbrev pub load_blame : List Byte → Shape → Option Prov → Stop → Option Prov
load_blame bytes shape.Pointer p (Ends (Undefined f)) = whole_name bytes
load_blame bytes _ p y = p

-- 6.2.6.1p5: what bytes are worth at a scalar type, after what was told before
abbrev pub scalar_by : World → List Byte → Shape → Option Prov → Told → Loaded → Done
scalar_by w bytes s p t (Ok r, T) =
    Answers (Scalar r.0) (with_table w (all_told T)) (telling (t.events ++ pairings w.memory.table T ++ event_of_use live_test r.1 ++ exposures T))
scalar_by w bytes s p t (Err y, T) = Fails (wrong_of y) (load_blame bytes s p y) (with_table w T) t

-- 6.2.6.1p4, 6.3.2.1p2: of a structure or union the bytes themselves, and where they were read; else the scalar
abbrev pub worth_in : World → List Byte → Shape → (origin : Option ℕ) → Option Prov → Told → Done
worth_in w bytes shape.Whole origin p t = Answers (Whole bytes origin) w t
worth_in w bytes shape.Pointer origin p t = scalar_by w bytes shape.Pointer p t (scalar_as w.memory.table bytes shape.Pointer)
worth_in w bytes (shape.Int k) origin p t = scalar_by w bytes (shape.Int k) p t (scalar_as w.memory.table bytes (shape.Int k))

-- 6.5p6: a store through a type that is no character type marks the bytes with the number of the type
abbrev pub mark_of : (number : ℕ) → Shape → Option ℕ
mark_of number (shape.Int k) = if is_character_kind k then None else Some number
mark_of number shape.Pointer = Some number
mark_of number shape.Whole = None

-- 6.2.6.1p4: what a value is stored as, through a type of this number
abbrev pub stored_as : (number : ℕ) → Shape → Worth → List Byte
stored_as number (shape.Int k) v = encode (scalar.Int k) (value_of v) (mark_of number (shape.Int k))
stored_as number shape.Pointer v = encode scalar.Pointer (value_of v) (mark_of number shape.Pointer)
stored_as number shape.Whole v = bytes_of v

-- 6.5.16.1p3: the ranges share a byte and are not the same
abbrev pub is_inexact : Option ℕ → (address size : ℕ) → Bool
is_inexact None a n = false
is_inexact (Some b) a n = not (a == b) && (nat_lt a (b + n) && nat_lt b (a + n))

-- 6.5.2.3p3: a member of a structure or union value
abbrev pub takes_bytes : (offset size : ℕ) → Shape → Worth → World → Done
takes_bytes offset size s v w = on_present_value v w (λ v. worth_in w (take size (drop offset (bytes_of v))) s None None no_telling)
