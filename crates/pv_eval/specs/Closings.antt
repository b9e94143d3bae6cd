-- What closing an operation (C17 5.1.2.3p2) comes to, which was made on the world of a moment: bridges from the code to the run.
use Rattle.std.specs.Prelude.{◌≡◌, ℕ, List, [], length, Result, Ok}
use Rattle.pv_watch.specs.declared.event.What.{What}
use Rattle.pv_world.specs.Worlds.{Worth, World}
use Rattle.pv_world.specs.Telling.{telling}
use Rattle.pv_world.specs.Doing.{Done}
use Rattle.pv_world.specs.Coming.{Did, no_worth}
use Rattle.pv_eval.specs.declared.failure.Failure.{Failure}
use Rattle.pv_eval.specs.declared.marked.Marked.{Marked}
use Rattle.pv_eval.specs.States.{Setting, State, Res}
use Rattle.pv_eval.specs.Acting.{after_doing, answer_with_sides, pair_count}
use Rattle.pv_eval.specs.Siding.{Settled}
use Rattle.pv_eval.specs.Moments.{Moment, Follows, state_of}

-- an operation of the node in this line, where there were so many pairs before it, is done in the run so, whatever was written
-- and told before
abbrev pub ClosedAs : (line pairs : ℕ) → (World → (World → Done) → Type 0) → (Res Worth → State → Type 0) → (old new : Moment) → Type 0
ClosedAs line pairs P C old new =
    (b : Setting) (w : World) (op : World → Done) (out : List ℕ) (es : List Marked) → b.sides ≡ old.sides → pairs ≡ pair_count w → Follows old (length out) → P w op
    → C (after_doing b line (op w) (state_of (record old { world = w }) out es)) (state_of new out es)

-- one that gives nothing and makes no pair, in whatever line
abbrev pub ClosedStill : List What → (Res Worth → State → Type 0) → (old new : Moment) → Type 0
ClosedStill told C old new =
    (b : Setting) (w : World) (op : World → Done) (out : List ℕ) (es : List Marked) → b.sides ≡ old.sides → pair_count old.world ≡ pair_count w → Follows old (length out)
    → Did no_worth op (Ok tt) w old.world [] told → (line : ℕ) → C (after_doing b line (op w) (state_of (record old { world = w }) out es)) (state_of new out es)

-- the memory model: one that gives a value: what it told is marked, and its pair keeps its side
abbrev pub SettledAs : (line pairs : ℕ) → List What → Result (Unit {0}) Failure → (old new : Moment) → Type 0
SettledAs line pairs told r old new =
    (v : Worth) (b : Setting) (w : World) (out : List ℕ) (es : List Marked) → b.sides ≡ old.sides → pairs ≡ pair_count w → Follows old (length out)
    → Settled v (answer_with_sides b.sides v line old.world (telling told) (state_of (record old { world = w }) out es)) r (state_of new out es)
