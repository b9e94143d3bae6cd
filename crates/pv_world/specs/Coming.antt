-- A bridge: what a call of an operation comes to: its answer, the world after it, and what was told by then.
use Rattle.std.specs.Prelude.{◌≡◌, ℕ, List, [], ◌∷◌, ◌++◌, Result, Ok, Err, IfOk, All}
use Rattle.std.specs.declared.vec.Vec.{Vec}
use Rattle.std.specs.declared.alloc.Global.{Global}
use Rattle.pv_inst.specs.Table.{Table, IsMadeIn}
use Rattle.pv_inst.specs.declared.values.CreateError.{CreateError}
use Rattle.pv_inst.specs.declared.values.CreateError.TheVariants as refusal
use Rattle.pv_shadow.specs.declared.byte.Byte.{Byte}
use Rattle.pv_object.specs.Answers.{IsMadeValue}
use Rattle.pv_watch.specs.declared.event.What.{What}
use Rattle.pv_world.specs.declared.got.Got.{Got}
use Rattle.pv_world.specs.declared.got.Got.TheVariants as got
use Rattle.pv_world.specs.declared.got.Cause.{Cause}
use Rattle.pv_world.specs.declared.got.Cause.TheVariants as cause
use Rattle.pv_world.specs.declared.got.Failure.{Failure}
use Rattle.pv_world.specs.declared.got.Failure.TheVariants as failure
use Rattle.pv_world.specs.Worlds.{Worth, Nothing, Missing, Scalar, Whole, World, Wrong, ByVerdict, Halts, Exits, Aborts, Refused, SidesEnded}
use Rattle.pv_world.specs.Telling.{verdict_of, fault_of, fault_told}
use Rattle.pv_world.specs.Doing.{Done, Answers, Fails, Breaks}

-- what an expression gives, of what the code has
abbrev pub worth_of : Got → Worth
worth_of got.Nothing = Nothing
worth_of got.Missing = Missing
worth_of (got.Scalar v) = Scalar v
worth_of (got.Whole bytes origin) = Whole bytes.items origin

-- 3.4.3: why the run ends, of what the code has
abbrev pub wrong_for : Cause → Wrong
wrong_for (cause.Ends v) = ByVerdict v
wrong_for (cause.Exits n) = Halts (Exits n)
wrong_for cause.Aborts = Halts Aborts
wrong_for (cause.Refused name e) = Halts (Refused name e)
wrong_for (cause.SidesEnded k) = Halts (SidesEnded k)

-- the names in a value were made (the memory model: provenance)
abbrev pub IsMadeWorth : Table → Worth → Type 0
IsMadeWorth T (Scalar v) = IsMadeValue T v
IsMadeWorth T (Whole bytes origin) = All (λ (b : Byte). IsMadeIn T b.prov) bytes
IsMadeWorth T Nothing = Unit {0}
IsMadeWorth T Missing = Unit {0}

-- the names in what a call gives were made in the world after it (the memory model: provenance)
abbrev pub GivesMade : {E : Type 0} → World → Result Got E → Type 0
GivesMade w r = IfOk r (λ g. IsMadeWorth w.memory.table (worth_of g))

-- of the world nothing but its memory may be another
abbrev pub KeepsAllButMemory : (old new : World) → Type 0
KeepsAllButMemory old new = new ≡ record old { memory = new.memory }

-- these events were told, behind those before
abbrev pub Tells : (before after : Vec What Global) → List What → Type 0
Tells before after es = after.items ≡ before.items ++ es

-- what an operation comes to, after events that were told before: a fault is told last
pub data Seen : Type 0 where
  Gave : Worth → World → List What → Seen
  Ended : Wrong → World → List What → Seen
  Printed : List ℕ → Seen → Seen

-- the operations of a world print nothing; calls of the library do
abbrev pub printing : List ℕ → Seen → Seen
printing [] s = s
printing (b ∷ bs) s = Printed (b ∷ bs) s

-- what a doing comes to in this world, behind these events
abbrev pub coming_of : List What → World → Done → Seen
coming_of es w (Answers v x t) = printing t.bytes (Gave v x (es ++ t.events))
coming_of es w (Fails y p x t) = printing t.bytes (Ended y x (es ++ t.events ++ fault_told w.memory y p))
coming_of es w (Breaks y b x t) = printing t.bytes (Ended y x (es ++ t.events ++ fault_of b (verdict_of y)))

-- the call comes to that, where its answer is worth this. After want of memory nothing is said
abbrev pub Came : {A : Type 0} → (A → Worth) → Result A Failure → World → List What → Seen → Type 0
Came give (Ok v) w es s = s ≡ Gave (give v) w es
Came give (Err (failure.Stop y)) w es s = s ≡ Ended (wrong_for y) w es
Came give (Err failure.NoMemory) w es s = Unit {0}

-- the operation was made
abbrev pub Did : {A : Type 0} → (A → Worth) → (World → Done) → Result A Failure → (old new : World) → (before after : List What) → Type 0
Did give op r old new before after = Came give r new after (coming_of before old (op old))

-- the operation was made, and its events were told behind those before
abbrev pub DidAndTold : {A : Type 0} → (A → Worth) → (World → Done) → Result A Failure → (old new : World) → (before after : Vec What Global) → Type 0
DidAndTold give op r old new before after = Did give op r old new before.items after.items

-- the run ends so, and this was told by then
abbrev pub Faulted : Failure → Wrong → List What → List What → Type 0
Faulted (failure.Stop z) y es wanted = (wrong_for z ≡ y) × (es ≡ wanted)
Faulted failure.NoMemory y es wanted = Unit {0}

-- what gives nothing
abbrev pub no_worth : Unit {0} → Worth
no_worth u = Nothing

-- a making, under this name. A refusal ends the run, and tells of no fault
abbrev pub CameMade : (name : ℕ) → Result (Unit {0}) CreateError → World → List What → Seen → Type 0
CameMade name (Ok u) w es s = s ≡ Gave Nothing w es
CameMade name (Err refusal.NoMemory) w es s = Unit {0}
CameMade name (Err e) w es s = s ≡ Ended (Halts (Refused name e)) w es
