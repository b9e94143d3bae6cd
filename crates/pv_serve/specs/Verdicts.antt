-- What a source with a script may come to.
use Rattle.std.specs.Prelude.{ℕ, Bool, List}
use Rattle.pv_script.specs.declared.scripts.ScriptError.{ScriptError}
use Rattle.pv_watch.specs.declared.event.Event.{Event}
use Rattle.pv_exec.specs.declared.outcome.Outcome.{Outcome}
use Rattle.pv_exec.specs.declared.sides.Side.{Side}

-- 5.1.1.3p1: why a source has no run, which a diagnostic message tells: its size (5.2.4.1), its least lexical fault, which is a byte (5.2.1), a
-- token (6.4) or a word of C17 that is not of the language that is run (6.4.1), each at its place from 0; or its tokens are no translation unit
-- (6.9), with the greatest number of external declarations that they begin with; or so many of its external declarations have a
-- typing, and one more have none (6.5 to 6.9); or an expression names what nothing defines (6.9p5), the first of such names; or no
-- `main` is defined (5.1.2.2.1).
pub data Refusal : Type 0 where
  Size : Refusal
  Byte : (place : ℕ) → Refusal
  Token : (place : ℕ) → Refusal
  Profile : (place : ℕ) (word : List ℕ) → Refusal
  Syntax : (whole : ℕ) → Refusal
  Constraint : (index : ℕ) → Refusal
  Unresolved : (name : List ℕ) → Refusal
  NoMain : Refusal

-- 5.1.2.3: how a run ended (5.1.2.2.3, 3.4.3, 3.19.2, its turns, its storage), how many turns it took, what it printed (5.1.2.3p6), what
-- happened in its memory, on which side each of its pairs of candidates stands (the memory model), and the names of its unit (6.4.2.1)
pub record Ending : Type 0 where
  pub outcome : Outcome
  pub turns : ℕ
  pub output : List ℕ
  pub events : List Event
  pub sides : List Side
  pub names : List (List ℕ)

-- 5.1.1.3, 5.1.2.3: what a source comes to: a run with a bound on its turns that ended, which is watched, or whose sides are told where they are listed
-- (the memory model), a text that describes it, or a refusal of the source or of its script
pub data Verdict : Type 0 where
  Ended : (ending : Ending) (bound : ℕ) → Verdict
  Settled : (ending : Ending) (bound : ℕ) (listed : Bool) → Verdict
  Described : (text : List ℕ) → Verdict
  Refused : (refusal : Refusal) → Verdict
  Script : (why : ScriptError) → Verdict

-- the memory model: what those who watch are told of a run: what happened in its memory, and the names of its unit (6.4.2.1)
pub record Course : Type 0 where
  pub events : List Event
  pub names : List (List ℕ)
