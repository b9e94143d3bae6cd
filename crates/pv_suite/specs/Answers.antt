-- The reply that a list of cases must get.
use Rattle.std.specs.Prelude.{◌≡◌, ℕ, ◌+◌, Bool, true, false, List, [], ◌∷◌, length, nat_lt, Option, Some, None, Result, Ok, Err, IfSome, option_map}
use Rattle.pv_fault.specs.FaultTexts.{clause_text}
use Rattle.pv_fault.specs.declared.verdict.Verdict.TheVariants as verdicts
use Rattle.pv_exec.specs.declared.outcome.Outcome.{Outcome}
use Rattle.pv_exec.specs.declared.outcome.Outcome.TheVariants as outcome
use Rattle.pv_cases.specs.declared.list.ListError.{ListError}
use Rattle.pv_cases.specs.Cases.{SuiteCase, ◌>>=◌, cases_of}
use Rattle.pv_cases.specs.Suites.{Gave, Wanted, CaseTold, told_of, suite_text, suite_status, list_line, long_line}
use Rattle.pv_serve.specs.declared.words.Task.TheVariants as task
use Rattle.pv_serve.specs.Verdicts.{Verdict, Ended, Settled}
use Rattle.pv_serve.specs.Judged.{Judged}
use Rattle.pv_serve.specs.Report.{answer_of}
use Rattle.pv_serve.specs.Answer.{script_held}
use Rattle.pv_serve.specs.Replies.{Reply}

-- ---- a case

-- 5.2.4.1: the most bytes of a file with the output of a case
unfoldable pub output_limit : ℕ
output_limit = 1048576

-- 7.21.3p8: what the files of a case hold: its source, its script of addresses, which is empty where none is named, and what it is to print
-- (5.1.2.3p6), if that is compared
pub record Given : Type 0 where
  pub source : List ℕ
  pub script : List ℕ
  pub output : Option (List ℕ)

-- 7.21.3p8: the bytes of an output's file, if one is named, where they are told
abbrev pub output_held : Option (List ℕ) → (held : List ℕ → Option (List ℕ)) → Option (Option (List ℕ))
output_held None held = Some None
output_held (Some name) held = option_map (λ (bytes : List ℕ). Some bytes) (held name)

-- 7.21.3p8: the bytes of all files that a case names, where they are told
abbrev pub given_of : SuiteCase → (held : List ℕ → Option (List ℕ)) → Option Given
given_of c held = do
  source ← held c.source
  script ← script_held c.script held
  output ← output_held c.output held
  Some (record { source = source; script = script; output = output })

-- 5.2.4.1: the output of a case is too long to be compared
abbrev pub is_long : Option (List ℕ) → Bool
is_long None = false
is_long (Some output) = nat_lt output_limit (length output)

-- 3.4.3: the text of the clause that the end of a run breaks, if it has no defined behaviour
abbrev pub broken_by : Outcome → Option (List ℕ)
broken_by (outcome.Ends (verdicts.Undefined fault) line) = Some (clause_text fault.clause)
broken_by _ = None

-- 3.4.3: the clause that the run with this verdict breaks, if it has no defined behaviour
abbrev pub clause_of : Verdict → Option (List ℕ)
clause_of (Ended e bound) = broken_by e.outcome
clause_of (Settled e bound listed) = broken_by e.outcome
clause_of _ = None

-- 5.1.2.3: what a case came to, by the verdict on its source: the first line of its report, its output, and its clause
abbrev pub gave_of : Verdict → Gave
gave_of v = record { line = (answer_of v).line; output = (answer_of v).out; clause = clause_of v }

-- 5.1.2.3: the source is run with its script, with so many turns at most, with a pointer to what has ended indeterminate (6.2.4p2) and no sides; or
-- it is refused (5.1.1.3p1)
pub record CaseComes (source script : List ℕ) (bound : ℕ) (gave : Gave) : Type 0 where
  pub verdict : Verdict
  pub judged : Judged source script (task.Run bound true) None verdict
  pub is : gave ≡ gave_of verdict

-- docs/FORMATS.md, Suites: what is expected of a case (5.1.2.3), by its line in the list and its files
abbrev pub wanted_of : SuiteCase → Given → Wanted
wanted_of c g = record { line = c.expected; output = g.output }

-- ---- all cases

-- docs/FORMATS.md, Suites: what the cases of a list come to (5.1.2.3): what is told of each, in their order, or the number of the first whose output is
-- too long (5.2.4.1)
pub data Came : Type 0 where
  AllTold : (told : List CaseTold) → Came
  LongOutput : (number : ℕ) → Came

-- docs/FORMATS.md, Suites: a case before what the others came to (5.1.2.3)
abbrev pub with_told : CaseTold → Came → Came
with_told t (AllTold ts) = AllTold (t ∷ ts)
with_told t (LongOutput n) = LongOutput n

-- docs/FORMATS.md, Suites: case number n, and the others behind it (5.1.2.3): its output is too long (5.2.4.1), or it is told what it came to
pub data FirstComes (n : ℕ) (c : SuiteCase) (g : Given) (Rest : Came → Type 0) (came : Came) : Type 0 where
  TooLong : is_long g.output ≡ true → came ≡ LongOutput n → FirstComes n c g Rest came
  Fits : is_long g.output ≡ false → (gave : Gave) → CaseComes g.source g.script c.bound gave → (rest : Came) → Rest rest
      → came ≡ with_told (told_of n (wanted_of c g) gave) rest → FirstComes n c g Rest came

-- docs/FORMATS.md, Suites: the cases from number n on come to this (5.1.2.3). Nothing is said from the first on whose files aren't told.
abbrev pub CasesCome : (held : List ℕ → Option (List ℕ)) (n : ℕ) → List SuiteCase → Came → Type 0
CasesCome held n [] came = came ≡ AllTold []
CasesCome held n (c ∷ cs) came = IfSome (given_of c held) (λ (g : Given). FirstComes n c g (CasesCome held (n + 1) cs) came)

-- ---- replies

-- 5.1.1.3p1: the reply to a list that has no reading
abbrev pub refused_by : ListError → Reply
refused_by e = record { status = 16; text = list_line e }

-- docs/FORMATS.md, Suites: the reply to a list whose cases came to this (5.1.2.3)
abbrev pub reply_of : Came → Reply
reply_of (AllTold told) = record { status = suite_status told; text = suite_text told }
reply_of (LongOutput n) = record { status = 16; text = long_line n }

-- docs/FORMATS.md, Suites: a reply to a list with this reading, or with none: its cases come to something (5.1.2.3)
abbrev pub IsListReply : Result (List SuiteCase) ListError → (held : List ℕ → Option (List ℕ)) → Reply → Type 0
IsListReply (Err e) held reply = reply ≡ refused_by e
IsListReply (Ok cases) held reply = (came : Came) × CasesCome held 1 cases came × (reply ≡ reply_of came)

-- docs/FORMATS.md, Suites: a reply to the list in a file (5.1.2.2.1p2); nothing is said where the list isn't told
abbrev pub IsReply : (name : List ℕ) → (held : List ℕ → Option (List ℕ)) → Reply → Type 0
IsReply name held reply = IfSome (held name) (λ (list : List ℕ). IsListReply (cases_of list) held reply)
