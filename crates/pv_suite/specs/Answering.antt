-- A bridge: what the parts of the top call come to.
use Rattle.std.specs.Prelude.{◌≡◌, ℕ, ◌+◌, true, false, List, take, map, Option, Some, None, IfSome, option_map, Vec}
use Rattle.std.specs.declared.alloc.Global.{Global}
use Rattle.pv_script.specs.Memory.{mem_written}
use Rattle.pv_serve.specs.Comes.{source_limit}
use Rattle.pv_serve.specs.Judged.{script_limit}
use Rattle.pv_serve.specs.Outside.{AnyRose, Sunk}
use Rattle.pv_serve.specs.Replying.{JobReplied}
use Rattle.pv_cases.specs.Cases.{SuiteCase, cases_of}
use Rattle.pv_cases.specs.Suites.{Gave, CaseTold, told_of}
use Rattle.pv_cases.specs.Views.{told_view}
use Rattle.pv_suite.specs.declared.files.CaseText.{CaseText}
use Rattle.pv_suite.specs.declared.running.Ended.{Ended}
use Rattle.pv_suite.specs.declared.walking.Walked.{Walked}
use Rattle.pv_suite.specs.declared.walking.Walked.TheVariants as walked
use Rattle.pv_suite.specs.Answers.{Given, Came, AllTold, LongOutput, CaseComes, IsListReply, IsReply, is_long, wanted_of, output_limit}
use Rattle.pv_suite.specs.Causes.{ListRose, list_files}

-- ---- files

-- 7.21.3p8: what was read of a case's files
abbrev pub text_view : CaseText → Given
text_view t = record { source = t.source.items; script = t.script.items; output = option_map (λ (v : Vec ℕ Global). v.items) t.output }

-- of each file the bytes up to one above the limit
pub record AreRead (g read : Given) : Type 0 where
  pub source : read.source ≡ take (source_limit + 1) g.source
  pub script : read.script ≡ take (script_limit + 1) g.script
  pub output : read.output ≡ option_map (λ (all : List ℕ). take (output_limit + 1) all) g.output

-- 7.21.3p8: the same of the files that a case names, where they are told
abbrev pub IsRead : Option Given → (read : Given) → Type 0
IsRead held read = IfSome held (λ (g : Given). AreRead g read)

-- ---- runs

-- what the code says of how a case ended
abbrev pub ended_view : Ended → Gave
ended_view e = record { line = e.line.items; output = mem_written e.output; clause = option_map (λ c. c.now) e.clause }

-- what is told of case number n of which this is wanted, by what its run came to
pub record IsTold (n : ℕ) (c : SuiteCase) (g : Given) (t : CaseTold) : Type 0 where
  pub fits : is_long g.output ≡ false
  pub gave : Gave
  pub comes : CaseComes g.source g.script c.bound gave
  pub is : t ≡ told_of n (wanted_of c g) gave

-- what is told of a case, or nothing where its output is too long
abbrev pub IsCase : (n : ℕ) → SuiteCase → Given → Option CaseTold → Type 0
IsCase n c g None = is_long g.output ≡ true
IsCase n c g (Some t) = IsTold n c g t

-- the same by the files of the case, where they are told
abbrev pub IsCaseOf : (n : ℕ) → SuiteCase → Option Given → Option CaseTold → Type 0
IsCaseOf n c held t = IfSome held (λ (g : Given). IsCase n c g t)

-- docs/FORMATS.md, Suites: what the code says of all cases
abbrev pub walked_view : Walked → Came
walked_view (walked.All told) = AllTold (map told_view told.items)
walked_view (walked.Long number) = LongOutput number

-- ---- replies

-- docs/FORMATS.md, Suites: what came of a list of which this was read: it got a reply; a file that it names could not be read (7.21.8.1p3); or there
-- was no memory
abbrev pub ReadServed : (list : List ℕ) (held : List ℕ → Option (List ℕ)) (faults_old faults_new : List ℕ → ℕ) (report : Sunk) (status : ℕ) → Type 0
ReadServed list held faults_old faults_new report status =
    JobReplied (IsListReply (cases_of list) held) (AnyRose (list_files held (cases_of list)) faults_old faults_new) report status

-- docs/FORMATS.md, Suites: what came of the list in a file: it got a reply; a file could not be read (7.21.8.1p3), the list or one that it names; or
-- there was no memory
abbrev pub ListServed : (name : List ℕ) (held : List ℕ → Option (List ℕ)) (faults_old faults_new : List ℕ → ℕ) (report : Sunk) (status : ℕ) → Type 0
ListServed name held faults_old faults_new report status = JobReplied (IsReply name held) (ListRose name held faults_old faults_new) report status
