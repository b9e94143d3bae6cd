-- Rows of lists and their cases, as the definitions compute them.
use Rattle.std.proofs.Common.{◌≡◌, ℕ, Bool, true, false, List, [], ◌∷◌, codes, refl, ap}
use Rattle.std.specs.Prelude.{Option, Some, None, Ok, Err, if◌then◌else◌}
use Rattle.std.specs.Str.{bytes_eq}
use Rattle.pv_fault.specs.declared.faults.Fault.{Fault}
use Rattle.pv_fault.specs.FaultTexts.{clause_text}
use Rattle.pv_fault.specs.declared.verdict.Verdict.TheVariants as verdicts
use Rattle.pv_exec.specs.declared.outcome.Outcome.TheVariants as outcome
use Rattle.pv_cases.specs.declared.list.ListError.TheVariants as error
use Rattle.pv_cases.specs.Cases.{SuiteCase, cases_of}
use Rattle.pv_cases.specs.Suites.{long_line, list_line}
use Rattle.pv_serve.specs.ReportParts.{words_line}
use Rattle.pv_suite.specs.Words.{list_of}
use Rattle.pv_serve.specs.Replies.{no_job}
use Rattle.pv_suite.specs.Answers.{Given, given_of, is_long, broken_by, Came, LongOutput, TooLong, CasesCome, refused_by, reply_of}
use Rattle.pv_suite.specs.Causes.{run_files, list_files}

-- ---- words (worked: list_of)

words : (list_of (codes "l" ∷ []) ≡ Some (codes "l")) × (list_of [] ≡ None) × (list_of ([] ∷ []) ≡ None) × (list_of (codes "l" ∷ codes "l" ∷ []) ≡ None)
words = (refl, refl, refl, refl)

-- ---- the files of a case (worked: given_of, run_files, list_files)

-- files `a.c`, `s` and `o`, with these bytes in the last one
abbrev held : (output name : List ℕ) → Option (List ℕ)
held output name =
    if bytes_eq name (codes "a.c") then Some (codes "int x;") else if bytes_eq name (codes "s") then Some (codes "x 1 0x20000")
    else if bytes_eq name (codes "o") then Some output else None

abbrev a_case : (source : List ℕ) (script output : Option (List ℕ)) → SuiteCase
a_case source script output = record { source = source; script = script; output = output; bound = 9; expected = codes "x" }

files : (given_of (a_case (codes "a.c") (Some (codes "s")) (Some (codes "o"))) (held (codes "y"))
    ≡ Some (record { source = codes "int x;"; script = codes "x 1 0x20000"; output = Some (codes "y") }))
    × (given_of (a_case (codes "a.c") None None) (held []) ≡ Some (record { source = codes "int x;"; script = []; output = None }))
    × (given_of (a_case (codes "a.c") None (Some (codes "p"))) (held []) ≡ None)
    × (given_of (a_case (codes "-") None None) (held []) ≡ None)
files = (refl, refl, refl, refl)

listed : (list_files (λ n. None) (cases_of (codes "a.c s - 9 x\n#\nb.c - o 9 y")) ≡ codes "a.c" ∷ codes "s" ∷ codes "b.c" ∷ codes "o" ∷ [])
    × (list_files (λ n. None) (cases_of (codes "a.c s")) ≡ [])
listed = (refl, refl)

-- of the files behind a case whose output is too long no read may fail
refused_first : (output : List ℕ) → is_long (Some output) ≡ true
    → run_files (held output) (a_case (codes "a.c") None (Some (codes "o")) ∷ a_case (codes "b.c") None None ∷ []) ≡ codes "a.c" ∷ codes "o" ∷ []
refused_first output long = ap (λ (b : Bool). codes "a.c" ∷ codes "o" ∷ (if b then [] else codes "b.c" ∷ [])) long

-- ---- what all cases come to (worked: CasesCome, reply_of)

-- an output that is too long is refused before the source of the next case, which isn't told
long_first : (output : List ℕ) → is_long (Some output) ≡ true
    → CasesCome (held output) 1 (a_case (codes "a.c") None (Some (codes "o")) ∷ a_case (codes "b.c") None None ∷ []) (LongOutput 1)
long_first output long = TooLong long refl

-- of a case whose source isn't told nothing is said
untold : (came : Came) → CasesCome (held []) 1 (a_case (codes "b.c") None (Some (codes "o")) ∷ []) came
untold came = tt

refusals : (reply_of (LongOutput 2) ≡ record { status = 16; text = long_line 2 }) × (refused_by error.Size ≡ record { status = 16; text = codes "list reason=size\n" })
    × (no_job ≡ record { status = 10; text = codes "words\n" })
refusals = (refl, refl, refl)

-- ---- clauses (worked: broken_by)

clauses : (fault : Fault) (line : ℕ) → (broken_by (outcome.Ends (verdicts.Undefined fault) line) ≡ Some (clause_text fault.clause)) × (broken_by outcome.Turns ≡ None) × (broken_by (outcome.Ends verdicts.Indeterminate line) ≡ None)
clauses fault line = (refl, refl, refl)
