-- Bridges from accesses to the code: what the pieces of one come to.
use Rattle.std.specs.Prelude.{◌≡◌, ℕ, List, ◌++◌, Option, Some, Result, Ok, Err}
use Rattle.pv_inst.specs.declared.values.Tried.{Tried}
use Rattle.pv_inst.specs.declared.values.Miss.{Miss}
use Rattle.pv_inst.specs.Use.{after_use}
use Rattle.pv_shadow.specs.declared.byte.Byte.{Byte}
use Rattle.pv_object.specs.declared.values.Pointer.{Pointer}
use Rattle.pv_object.specs.declared.values.Stop.{Stop}
use Rattle.pv_object.specs.declared.values.Stop.TheVariants as stop
use Rattle.pv_fault.specs.declared.verdict.Verdict.TheVariants as verdict
use Rattle.pv_object.specs.Loading.{Loaded}
use Rattle.pv_watch.specs.declared.event.What.{What}
use Rattle.pv_world.specs.declared.failing.Blame.{Blame}
use Rattle.pv_world.specs.declared.got.Got.{Got}
use Rattle.pv_world.specs.declared.got.Failure.{Failure}
use Rattle.pv_world.specs.declared.got.Shape.{Shape}
use Rattle.pv_world.specs.declared.got.Shape.TheVariants as shape
use Rattle.pv_world.specs.Worlds.{Scalar, Whole, World, with_table}
use Rattle.pv_world.specs.Telling.{telling, event_of_use, live_test, exposures, all_told, pairings, blame_of, fault_of, verdict_of}
use Rattle.pv_world.specs.Worths.{wrong_of}
use Rattle.pv_world.specs.Accesses.{scalar_as, worth_in}
use Rattle.pv_world.specs.Coming.{Came, Seen, Gave, Ended, coming_of, worth_of}

-- whom a load's stop blames: the accessed pointer, or the loaded one
abbrev pub stop_blame : Shape → Stop → (accessed loaded : Option Blame) → Option Blame
stop_blame shape.Pointer (stop.Ends (verdict.Undefined f)) o q = q
stop_blame shape.Pointer (stop.Ends verdict.Indeterminate) o q = o
stop_blame shape.Pointer (stop.Ends verdict.Undecided) o q = o
stop_blame shape.Pointer stop.NoMemory o q = o
stop_blame (shape.Int k) y o q = o
stop_blame shape.Whole y o q = o

-- what a load of a scalar comes to
abbrev pub loaded_seen : List What → World → Shape → (accessed loaded : Option Blame) → Loaded → Seen
loaded_seen es w s o q (Ok r, T) = Gave (Scalar r.0) (with_table w (all_told T)) (es ++ pairings w.memory.table T ++ event_of_use live_test r.1 ++ exposures T)
loaded_seen es w s o q (Err y, T) = Ended (wrong_of y) (with_table w T) (es ++ fault_of (stop_blame s y o q) (verdict_of (wrong_of y)))

-- the same of bytes of any shape
abbrev pub valued_seen : List What → World → List Byte → Shape → (origin : Option ℕ) → (accessed loaded : Option Blame) → Seen
valued_seen es w bytes shape.Whole origin o q = Gave (Whole bytes origin) w es
valued_seen es w bytes shape.Pointer origin o q = loaded_seen es w shape.Pointer o q (scalar_as w.memory.table bytes shape.Pointer)
valued_seen es w bytes (shape.Int k) origin o q = loaded_seen es w (shape.Int k) o q (scalar_as w.memory.table bytes (shape.Int k))

-- The value of bytes that were reached, within an access that began in another world: there the candidates of the accessed
-- pointer were those that are blamed, and then it was used. What the access told before is part of it.
abbrev pub ReadsOn : (w : World) → List Byte → Shape → (address : ℕ) → Pointer → Blame → Result Got Failure → (new : World) → (before after : List What) → Type 0
ReadsOn w bytes s a p b r v bs fs =
    (w0 : World) (t : Result Tried Miss) (es us : List What) → w.memory.table ≡ after_use w0.memory.table p.prov t → b ≡ blame_of w0.memory p.prov → bs ≡ es ++ us
    → Came worth_of r v fs (coming_of es w0 (worth_in w bytes s (Some a) (Some p.prov) (telling us)))
