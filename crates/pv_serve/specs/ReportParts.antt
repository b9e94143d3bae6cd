-- A bridge: what functions answer that do a part of what Report says.
use Rattle.std.specs.Prelude.{List, Option, codes, ℕ, ◌++◌, ℤ}
use Rattle.std.specs.Fmt.{decimal, signed_decimal}
use Rattle.pv_serve.specs.Verdicts.{Verdict, Course}
use Rattle.pv_serve.specs.Report.{Answer, answer_of, at_line, letters_of, line_answer, line_feed, outcome_report}
use Rattle.pv_fault.specs.FaultTexts.{clause_text, reason_text}
use Rattle.pv_fault.specs.declared.faults.Fault.{Fault}
use Rattle.pv_fault.specs.declared.faults.Reason.{Reason}
use Rattle.pv_exec.specs.declared.outcome.Outcome.{Outcome}
use Rattle.pv_exec.specs.declared.sides.Side.{Side}

-- 7.22.4.4p5: the status that the program ends with
abbrev pub status_of : Verdict → ℕ
status_of verdict = (answer_of verdict).status

-- 5.1.2.3p6: what a run printed; nothing else prints
abbrev pub output_of : Verdict → List ℕ
output_of verdict = (answer_of verdict).out

-- 5.1.1.3p1, 5.1.2.3: what is told of a verdict
abbrev pub report_line : Verdict → List ℕ
report_line verdict = (answer_of verdict).line

-- 5.1.2.3: what is told of the run that a verdict is the end of
abbrev pub course_of : Verdict → Option Course
course_of verdict = (answer_of verdict).course

-- 5.1.2.3: the line of a run that ended so
abbrev pub outcome_line : Outcome → (names : List (List ℕ)) → (turns bound : ℕ) → List ℕ
outcome_line o names turns bound = (outcome_report o names turns bound).1

-- 5.1.2.2.3, 7.22.4.4: the value that `main` returned, or that `exit` was called with, and the turns; numbers are decimal, without leading zeros
abbrev pub exit_line : (status : ℤ) (turns : ℕ) → List ℕ
exit_line status turns = codes "exit status=" ++ signed_decimal status ++ codes " turn=" ++ decimal turns ++ line_feed

-- 3.4.3: an operation without defined behaviour: the paragraph that it breaks, why, its line (6.10.4p3), and the turns
abbrev pub undefined_line : Fault → (line turns : ℕ) → List ℕ
undefined_line fault line turns =
    codes "undefined clause=" ++ clause_text fault.clause ++ codes " reason=" ++ reason_text fault.reason ++ at_line line turns

-- the memory model: a place that the script has for a storage instance and that can't be given: why, its name, which of the requests for that
-- name it is, from 1
abbrev pub placement_line : Reason → (name : List ℕ) → (k line turns : ℕ) → List ℕ
placement_line reason name k line turns =
    codes "placement reason=" ++ reason_text reason ++ codes " name=" ++ name ++ codes " k=" ++ decimal k ++ at_line line turns

-- the bytes that are live, and those that were asked for and would be too many
abbrev pub storage_line : (live size line turns : ℕ) → List ℕ
storage_line live size line turns =
    codes "storage live=" ++ decimal live ++ codes " size=" ++ decimal size ++ at_line line turns

-- 6.4.1: a word that is of C17 and not of the language that is run
abbrev pub profile_line : (place : ℕ) (word : List ℕ) → List ℕ
profile_line place word = codes "refused reason=profile at=" ++ decimal place ++ codes " word=" ++ word ++ line_feed

-- 6.9p5: a name that an expression names and that nothing defines
abbrev pub unresolved_line : (name : List ℕ) → List ℕ
unresolved_line name = codes "refused reason=unresolved name=" ++ name ++ line_feed

-- docs/FORMATS.md, Scripts of addresses (the memory model): two lines of a script speak of one request
abbrev pub repeated_line : (line first : ℕ) → List ℕ
repeated_line line first = codes "script reason=repeated line=" ++ decimal line ++ codes " first=" ++ decimal first ++ line_feed

-- the memory model: the sides to which the pairs of a run were settled, the low one where a pair stands for both still
abbrev pub sides_line : List Side → List ℕ
sides_line sides = codes "sides " ++ letters_of sides ++ line_feed

-- docs/FORMATS.md, The report: what is told of words that are no job
abbrev pub words_line : List ℕ
words_line = codes "words" ++ line_feed

-- docs/FORMATS.md, Words: the answer to words that are no job
abbrev pub no_job : Answer
no_job = line_answer 10 words_line

-- docs/FORMATS.md, The report: what is told where a file that the words name could not be read
abbrev pub fault_line : List ℕ
fault_line = codes "fault read" ++ line_feed
