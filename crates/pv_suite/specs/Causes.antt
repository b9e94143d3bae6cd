-- What the program of suites does for its words, and which reads may have failed. C17 leaves the outside of a program to its implementation (5.1.2.3p7).
use Rattle.std.specs.Prelude.{◌⊎◌, ℕ, Bool, false, if◌then◌else◌, List, [], ◌∷◌, ◌++◌, Option, Some, None, Result, Ok, Err, option_to_list}
use Rattle.std.specs.Option.{option_map_or}
use Rattle.pv_script.specs.Outside.{Rose}
use Rattle.pv_cases.specs.declared.list.ListError.{ListError}
use Rattle.pv_cases.specs.Cases.{SuiteCase, cases_of}
use Rattle.pv_serve.specs.Outside.{AnyRose}
use Rattle.pv_serve.specs.Replies.{Service}
use Rattle.pv_suite.specs.Words.{list_of}
use Rattle.pv_suite.specs.Answers.{Given, IsReply, given_of, is_long}

-- 7.21.3p8: the files that a case names: its source's, and those of its script and its output, if there are such
abbrev pub case_files : SuiteCase → List (List ℕ)
case_files c = c.source ∷ option_to_list c.script ++ option_to_list c.output

-- 5.2.4.1: the output of a case is too long to be compared, where its files are told (7.21.3p8)
abbrev pub is_refused : (held : List ℕ → Option (List ℕ)) → SuiteCase → Bool
is_refused held c = option_map_or (λ (g : Given). is_long g.output) (given_of c held) false

-- 7.21.3p8: the files of the cases that are run: those up to the first whose output is too long (5.2.4.1)
abbrev pub run_files : (held : List ℕ → Option (List ℕ)) → List SuiteCase → List (List ℕ)
run_files held [] = []
run_files held (c ∷ cs) = case_files c ++ (if is_refused held c then [] else run_files held cs)

-- 7.21.3p8: the files that the lines of a list name, of as many cases as are run
abbrev pub list_files : (held : List ℕ → Option (List ℕ)) → Result (List SuiteCase) ListError → List (List ℕ)
list_files held (Err e) = []
list_files held (Ok cases) = run_files held cases

-- 7.21.8.1p3: a read of a file that a list names failed, of one of the cases that are run; where the list isn't told, that of some file
abbrev pub CaseRose : (list : Option (List ℕ)) → (held : List ℕ → Option (List ℕ)) → (old new : List ℕ → ℕ) → Type 0
CaseRose None held old new = (file : List ℕ) × Rose (old file) (new file)
CaseRose (Some list) held old new = AnyRose (list_files held (cases_of list)) old new

-- 7.21.8.1p3: a read of the list failed, or of a file that it names
abbrev pub ListRose : (name : List ℕ) → (held : List ℕ → Option (List ℕ)) → (old new : List ℕ → ℕ) → Type 0
ListRose name held old new = Rose (old name) (new name) ⊎ CaseRose (held name) held old new

-- docs/FORMATS.md, Suites (5.1.2.3): what the program does for its words
abbrev pub service : Service (List ℕ)
service = record { job = list_of; ReadFailed = λ name c. ListRose name c.held c.faults_old c.faults_new; IsReply = IsReply }
