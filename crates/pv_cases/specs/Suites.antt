-- What a suite says of its cases, by what each came to. C17 leaves the form of a diagnostic message to its implementation (5.1.1.3p1):
-- docs/FORMATS.md, Suites, has the rules.
use Rattle.std.specs.Prelude.{ℕ, Bool, true, false, ◌&&◌, ◌==◌, nat_eq, List, [], ◌∷◌, ◌++◌, length, codes, Option, Some, None, if◌then◌else◌, count_by}
use Rattle.std.specs.List.{flat_map, common_prefix_len}
use Rattle.std.specs.Str.{bytes_eq}
use Rattle.std.specs.Fmt.{decimal}
use Rattle.pv_cases.specs.declared.list.ListError.{ListError}
use Rattle.pv_cases.specs.declared.list.ListError.TheVariants as error

-- 7.21.2p2: a line ends with a line feed
abbrev pub line_feed : List ℕ
line_feed = 10 ∷ []

-- docs/FORMATS.md, Suites: what a case came to (5.1.2.3): the line that tells how it ended, with its line feed, what it printed (5.1.2.3p6), and the
-- clause that the line names, where the end has no defined behaviour (3.4.3)
pub record Gave : Type 0 where
  pub line : List ℕ
  pub output : List ℕ
  pub clause : Option (List ℕ)

-- docs/FORMATS.md, Suites: what is expected of a case: the line (5.1.2.3), without its line feed, and what is printed (5.1.2.3p6), where a file says it
pub record Wanted : Type 0 where
  pub line : List ℕ
  pub output : Option (List ℕ)

-- ---- a case

-- docs/FORMATS.md, Suites: the line is the expected one (5.1.2.3)
abbrev pub has_line : Wanted → Gave → Bool
has_line w g = bytes_eq (w.line ++ line_feed) g.line

-- docs/FORMATS.md, Suites: the output is the expected one, to the byte, where any is (5.1.2.3p6)
abbrev pub has_output : Option (List ℕ) → (output : List ℕ) → Bool
has_output None output = true
has_output (Some file) output = bytes_eq file output

-- docs/FORMATS.md, Suites: a case passes where both are (5.1.2.3)
abbrev pub passes : Wanted → Gave → Bool
passes w g = has_line w g && has_output w.output g.output

-- docs/FORMATS.md, Suites: the place from 0 at which two outputs (5.1.2.3p6) begin to differ, or the shorter one ends
abbrev pub differs_at : Option (List ℕ) → (output : List ℕ) → ℕ
differs_at None output = 0
differs_at (Some file) output = common_prefix_len nat_eq file output

-- docs/FORMATS.md, Suites: the line of case number n that passed (5.1.2.3)
abbrev pub pass_line : (n : ℕ) → List ℕ
pass_line n = codes "pass " ++ decimal n ++ line_feed

-- docs/FORMATS.md, Suites: the line of case number n that ended in another way (5.1.2.3), with the line that tells how
abbrev pub other_line : (n : ℕ) (line : List ℕ) → List ℕ
other_line n line = codes "fail " ++ decimal n ++ codes " line " ++ line

-- docs/FORMATS.md, Suites: the line of case number n whose output (5.1.2.3p6) is another from this place on
abbrev pub output_line : (n at : ℕ) → List ℕ
output_line n at = codes "fail " ++ decimal n ++ codes " output at=" ++ decimal at ++ line_feed

-- docs/FORMATS.md, Suites: the line of case number n (5.1.2.3)
abbrev pub case_line : (n : ℕ) → Wanted → Gave → List ℕ
case_line n w g =
    if has_line w g then (if has_output w.output g.output then pass_line n else output_line n (differs_at w.output g.output)) else other_line n g.line

-- docs/FORMATS.md, Suites: what is told of a case: its line (5.1.2.3), whether it passed, and its clause (3.4.3), if there is one
pub record CaseTold : Type 0 where
  pub line : List ℕ
  pub passed : Bool
  pub clause : Option (List ℕ)

-- docs/FORMATS.md, Suites: what is told of case number n (5.1.2.3)
abbrev pub told_of : (n : ℕ) → Wanted → Gave → CaseTold
told_of n w g = record { line = case_line n w g; passed = passes w g; clause = g.clause }

-- ---- a suite

-- 3.4.3: the paragraphs of undefined behaviour, in the order of the standard
unfoldable pub all_clauses : List (List ℕ)
all_clauses =
    codes "6.2.4p2" ∷ codes "6.2.6.1p5" ∷ codes "6.3.2.3p6" ∷ codes "6.3.2.3p7" ∷ codes "6.3.2.3p8" ∷ codes "6.4.5p7" ∷ codes "6.5p2" ∷ codes "6.5p5"
    ∷ codes "6.5p7" ∷ codes "6.5.3.2p4" ∷ codes "6.5.5p5" ∷ codes "6.5.5p6" ∷ codes "6.5.6p8" ∷ codes "6.5.6p9" ∷ codes "6.5.7p3" ∷ codes "6.5.7p4"
    ∷ codes "6.5.8p5" ∷ codes "6.5.16.1p3" ∷ codes "6.7.3p6" ∷ codes "6.9.1p12" ∷ codes "7.1.4p1" ∷ codes "7.21.6.1p9" ∷ codes "7.22.3.3p2"
    ∷ codes "7.22.3.5p3" ∷ codes "7.24.1p2" ∷ codes "7.24.2.1p2" ∷ codes "7.24.2.3p2" ∷ []

-- 3.4.3: it is this clause, by its text
abbrev pub is_clause : List ℕ → Option (List ℕ) → Bool
is_clause c None = false
is_clause c (Some d) = bytes_eq c d

-- docs/FORMATS.md, Suites: of how many cases the line names the clause (3.4.3)
abbrev pub cases_by : List ℕ → List CaseTold → ℕ
cases_by c ts = count_by (λ (t : CaseTold). is_clause c t.clause) ts

-- docs/FORMATS.md, Suites: the line of a clause (3.4.3) that so many cases name, where any does
abbrev pub clause_line : List ℕ → (count : ℕ) → List ℕ
clause_line c n = if n == 0 then [] else codes "clause " ++ c ++ codes " cases=" ++ decimal n ++ line_feed

-- docs/FORMATS.md, Suites: the lines of those of these clauses (3.4.3) that are named
abbrev pub clause_lines : List (List ℕ) → List CaseTold → List ℕ
clause_lines cs ts = flat_map (λ (c : List ℕ). clause_line c (cases_by c ts)) cs

-- docs/FORMATS.md, Suites: the lines of all cases (5.1.2.3), in their order
abbrev pub case_lines : List CaseTold → List ℕ
case_lines ts = flat_map (λ (t : CaseTold). t.line) ts

-- docs/FORMATS.md, Suites: how many cases passed (5.1.2.3)
abbrev pub passed_in : List CaseTold → ℕ
passed_in ts = count_by (λ (t : CaseTold). t.passed) ts

-- docs/FORMATS.md, Suites: the last line: how many cases there were (5.1.2.3), and how many of them passed
abbrev pub total_line : (cases passed : ℕ) → List ℕ
total_line cases passed = codes "suite cases=" ++ decimal cases ++ codes " passed=" ++ decimal passed ++ line_feed

-- docs/FORMATS.md, Suites: the report of a suite (5.1.2.3)
abbrev pub suite_text : List CaseTold → List ℕ
suite_text ts = case_lines ts ++ clause_lines all_clauses ts ++ total_line (length ts) (passed_in ts)

-- docs/FORMATS.md, Suites: all cases passed: as many as there are (5.1.2.3)
abbrev pub all_passed : List CaseTold → Bool
all_passed ts = passed_in ts == length ts

-- docs/FORMATS.md, Suites: the status (7.22.4.4p5): 0 where all cases passed
abbrev pub suite_status : List CaseTold → ℕ
suite_status ts = if all_passed ts then 0 else 15

-- ---- refusals

-- docs/FORMATS.md, Suites: what is told of a list that has no reading (5.1.1.3p1); no list is refused for want of memory
abbrev pub list_line : ListError → List ℕ
list_line error.Size = codes "list reason=size" ++ line_feed
list_line (error.BadLine n) = codes "list reason=line line=" ++ decimal n ++ line_feed
list_line error.NoMemory = []

-- docs/FORMATS.md, Suites: what is told of a list whose case of this number names a file with too long an output (5.2.4.1)
abbrev pub long_line : (n : ℕ) → List ℕ
long_line n = codes "list reason=output case=" ++ decimal n ++ line_feed
