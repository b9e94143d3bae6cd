-- The line that tells a verdict, and the status that goes with it. C17 leaves the form of a diagnostic message (5.1.1.3p1) and of what is told of
-- a run's end (7.22.4.4p5) to its implementation: docs/FORMATS.md has the rules.
use Rattle.std.specs.Prelude.{ℕ, Bool, true, false, ◌&&◌, ◌==◌, List, [], ◌∷◌, ◌++◌, length, map, codes, Option, Some, None, if◌then◌else◌}
use Rattle.std.specs.Fmt.{decimal, signed_decimal}
use Rattle.pv_fault.specs.FaultTexts.{clause_text, reason_text}
use Rattle.pv_script.specs.declared.scripts.ScriptError.{ScriptError}
use Rattle.pv_script.specs.declared.scripts.ScriptError.TheVariants as script
use Rattle.pv_script.specs.Names.{name_at}
use Rattle.pv_fault.specs.declared.verdict.Verdict.TheVariants as verdicts
use Rattle.pv_exec.specs.declared.outcome.Outcome.{Outcome}
use Rattle.pv_exec.specs.declared.outcome.Outcome.TheVariants as outcome
use Rattle.pv_exec.specs.declared.sides.Side.{Side}
use Rattle.pv_exec.specs.Sided.{is_high}
use Rattle.pv_serve.specs.Verdicts.{Verdict, Ending, Course, Ended, Settled, Described, Refused, Script, Refusal, Size, Byte, Token, Profile, Syntax, Constraint, Unresolved, NoMain}

-- 7.21.2p2: a line ends with a line feed
abbrev pub line_feed : List ℕ
line_feed = 10 ∷ []

-- 6.10.4p3: a line of the source at which a run ended, and the turns (5.1.2.3p1)
abbrev pub at_line : (line turns : ℕ) → List ℕ
at_line line turns = codes " line=" ++ decimal line ++ codes " turn=" ++ decimal turns ++ line_feed

-- 5.1.2.3: how a run ended, in a unit with these names, by the status that the program ends with (7.22.4.4p5) and its line: with the value that `main`
-- returned or `exit` was called with (5.1.2.2.3, 7.22.4.4), which is in the line alone; without defined behaviour (3.4.3), by which paragraph, and why; by an
-- indeterminate value (3.19.2), an order that is undecided (6.5.8p5), or `abort` (7.22.4.1); at a place of the script that can't be given (the memory
-- model), why, for which name, and which of its requests, from 1; for want of storage (5.2.4.1): the bytes that are live, and those that were asked for;
-- for want of a pair's side (the memory model). One that used up its turns is told by the bound alone. A line is one of the source (6.10.4p3), and numbers
-- are decimal, without leading zeros.
abbrev pub outcome_report : Outcome → (names : List (List ℕ)) → (turns bound : ℕ) → ℕ × List ℕ
outcome_report (outcome.Exit status) names turns bound = (0, codes "exit status=" ++ signed_decimal status ++ codes " turn=" ++ decimal turns ++ line_feed)
outcome_report (outcome.Ends (verdicts.Undefined fault) line) names turns bound =
    (1, codes "undefined clause=" ++ clause_text fault.clause ++ codes " reason=" ++ reason_text fault.reason ++ at_line line turns)
outcome_report (outcome.Ends verdicts.Indeterminate line) names turns bound = (2, codes "indeterminate" ++ at_line line turns)
outcome_report (outcome.Ends verdicts.Undecided line) names turns bound = (3, codes "undecided" ++ at_line line turns)
outcome_report (outcome.Placement reason name k line) names turns bound =
    (4, codes "placement reason=" ++ reason_text reason ++ codes " name=" ++ name_at names name ++ codes " k=" ++ decimal k ++ at_line line turns)
outcome_report (outcome.Storage live size line) names turns bound =
    (5, codes "storage live=" ++ decimal live ++ codes " size=" ++ decimal size ++ at_line line turns)
outcome_report outcome.Turns names turns bound = (6, codes "turns bound=" ++ decimal bound ++ line_feed)
outcome_report (outcome.Abort line) names turns bound = (7, codes "abort" ++ at_line line turns)
outcome_report (outcome.SidesEnded pair) names turns bound = (14, codes "sides ended pair=" ++ decimal pair ++ line_feed)

-- the memory model: the sides of a run are told unless it ended at an operation without defined behaviour (3.4.3), or at one that two pairs left undecided
-- (6.5.6p9, 6.5.8p5)
abbrev pub is_decided : Outcome → Bool
is_decided (outcome.Ends (verdicts.Undefined fault) line) = false
is_decided (outcome.Ends verdicts.Undecided line) = false
is_decided _ = true

-- the memory model: the letter of a side of a pair of candidates: `l`, `h`
abbrev pub letter_of : Side → ℕ
letter_of side = if is_high side then 104 else 108

-- the memory model: one letter a pair in the order of their numbers, or `-` where there is none
abbrev pub letters_of : List Side → List ℕ
letters_of sides = if length sides == 0 then codes "-" else map letter_of sides

-- the memory model: the line of the sides, where they are listed and the run ended so that they say something: those to which the pairs of a run were
-- settled, the low one where a pair stands for both still
abbrev pub listed_sides : (listed : Bool) → Outcome → List Side → List ℕ
listed_sides listed o sides = if listed && is_decided o then codes "sides " ++ letters_of sides ++ line_feed else []

-- 5.1.1.3p1: a refusal: by size (5.2.4.1), by a byte (5.2.1), a token (6.4) or a word of C17 that the profile leaves out (6.4.1), at its place from 0,
-- by the grammar (6.9) behind so many whole external declarations, by a constraint behind so many that have a typing (6.5 to 6.9), by a name that
-- nothing defines (6.9p5), or for want of `main` (5.1.2.2.1)
abbrev pub refusal_line : Refusal → List ℕ
refusal_line Size = codes "refused reason=size" ++ line_feed
refusal_line (Byte place) = codes "refused reason=byte at=" ++ decimal place ++ line_feed
refusal_line (Token place) = codes "refused reason=token at=" ++ decimal place ++ line_feed
refusal_line (Profile place word) = codes "refused reason=profile at=" ++ decimal place ++ codes " word=" ++ word ++ line_feed
refusal_line (Syntax whole) = codes "refused reason=syntax whole=" ++ decimal whole ++ line_feed
refusal_line (Constraint index) = codes "refused reason=constraint index=" ++ decimal index ++ line_feed
refusal_line (Unresolved name) = codes "refused reason=unresolved name=" ++ name ++ line_feed
refusal_line NoMain = codes "refused reason=main" ++ line_feed

-- docs/FORMATS.md, Scripts of addresses (the memory model): a script is too long, or this line of it, from 1, has no reading, or speaks of the request
-- of which that line speaks first; no text is refused for want of memory
abbrev pub script_line : ScriptError → List ℕ
script_line script.Size = codes "script reason=size" ++ line_feed
script_line (script.BadLine line) = codes "script reason=line line=" ++ decimal line ++ line_feed
script_line (script.Repeated line first) = codes "script reason=repeated line=" ++ decimal line ++ codes " first=" ++ decimal first ++ line_feed
script_line script.NoMemory = []

-- 7.22.4.4p5: what the program does for its words: the status that it ends with, what it prints (5.1.2.3p6), the line of its report (docs/FORMATS.md), and
-- the run that it tells of, if it is one's
pub record Answer : Type 0 where
  pub status : ℕ
  pub out : List ℕ
  pub line : List ℕ
  pub course : Option Course

-- 5.1.1.3p1: an answer that tells a line alone
abbrev pub line_answer : (status : ℕ) (line : List ℕ) → Answer
line_answer status line = record { status = status; out = []; line = line; course = None }

-- 5.1.2.3: the answer to a run that ended: how, and what it printed (5.1.2.3p6)
abbrev pub end_answer : Ending → (bound : ℕ) → Answer
end_answer e bound = let report = outcome_report e.outcome e.names e.turns bound in record { status = report.0; out = e.output; line = report.1; course = None }

-- 5.1.1.3p1, 5.1.2.3: the answer to a verdict: a run that is watched is told of, with what happened in its memory (the memory model), and a settled one has
-- its sides behind its line; a text that describes a source is told as it is
abbrev pub answer_of : Verdict → Answer
answer_of (Ended e bound) = record (end_answer e bound) { course = Some (record { events = e.events; names = e.names }) }
answer_of (Settled e bound listed) = record (end_answer e bound) { line = (end_answer e bound).line ++ listed_sides listed e.outcome e.sides }
answer_of (Described text) = line_answer 0 text
answer_of (Refused refusal) = line_answer 8 (refusal_line refusal)
answer_of (Script why) = line_answer 9 (script_line why)
