-- What a run has at a moment, what it is given, and how a piece of it ends.
use Rattle.std.specs.Prelude.{ℕ, ◌+◌, Bool, List, Option, nat_lt, if◌then◌else◌, []}
use Rattle.std.specs.FinMap.{empty}
use Rattle.pv_types.specs.Known.{Known}
use Rattle.pv_script.specs.Lines.{ScriptLine}
use Rattle.pv_typed.specs.TypedUnits.{WholeUnit}
use Rattle.pv_object.specs.Memory.{empty_memory}
use Rattle.pv_world.specs.Worlds.{World, Wrong}
use Rattle.pv_eval.specs.declared.marked.Marked.{Marked}

-- what is given and never changes: the unit (5.1.1.1), the numbers of its types, by which bytes are marked (6.5p6), how many
-- turns it may take, and in a settled run the side of each pair (the memory model), true for the high one
pub record Setting : Type 0 where
  pub unit : WholeUnit
  pub types : Known
  pub bound : ℕ
  pub sides : Option (List Bool)
  -- 6.2.4p2: whether a pointer to what has ended is indeterminate
  pub zap : Bool

-- what operations see and change, the bytes printed so far (7.21.6.3), the events so far, each with the length
-- of the output when it came, and the turns taken
pub record State : Type 0 where
  pub world : World
  pub output : List ℕ
  pub events : List Marked
  pub taken : ℕ

-- why a run stops: its turns (5.1.2.3) are taken; an operation, of the node in this line; or what never comes, a level that is used up
pub data Why : Type 0 where
  Turns : Why
  Unreached : Why
  Stopped : Wrong → (line : ℕ) → Why

-- a piece of the run (5.1.2.3) gives a value and the state after it, or stops the whole run, in the state as it stands then
pub data Res (A : Type 0) : Type 0 where
  Gives : A → State → Res A
  Stops : Why → State → Res A

-- one piece, and then another (5.1.2.3p3: the first is sequenced before the second)
abbrev pub then_do : {A B : Type 0} → Res A → (A → State → Res B) → Res B
then_do (Gives a s) go = go a s
then_do (Stops w s) go = Stops w s

-- a turn more was taken: a step of the abstract machine (5.1.2.3p1)
abbrev pub spend : State → State
spend s = record s { taken = s.taken + 1 }

-- 5.1.2.3p1: a turn is taken, or the run stops where the bound's were all taken
abbrev pub tick : {A : Type 0} → Setting → State → (State → Res A) → Res A
tick b s go = if nat_lt s.taken b.bound then go (spend s) else Stops Turns s

-- the state as a piece of the run (5.1.2.3) leaves it, whichever way it ends
abbrev pub end_of : {A : Type 0} → Res A → State
end_of (Gives a s) = s
end_of (Stops w s) = s

-- 5.1.2: before a run nothing is made, printed or told
abbrev pub first_world : List ScriptLine → (zap : Bool) → World
first_world script zap = record { memory = empty_memory script zap; owners = []; statics = empty; literals = empty; functions = empty; bodies = [] }
