-- What a list of cases is, line by line, or its first line that has no reading. C17 says how one program is run (5.1.2.3): docs/FORMATS.md, Suites,
-- has the rules for many.
use Rattle.std.specs.Prelude.{ℕ, ◌+◌, Bool, ◌&&◌, ◌==◌, nat_lt, nat_le, List, [], ◌∷◌, ◌++◌, length, take, drop, position, codes, Option, Some, None, Result, Ok, Err, if◌then◌else◌, option_map, option_and_then}
use Rattle.std.specs.List.{slice_split, list_all}
use Rattle.std.specs.Str.{bytes_eq}
use Rattle.pv_script.specs.Words.{number_to}
use Rattle.pv_script.specs.Scripts.{says_nothing, and_then}
use Rattle.pv_cases.specs.declared.list.ListError.{ListError}
use Rattle.pv_cases.specs.declared.list.ListError.TheVariants as error

-- docs/FORMATS.md, Suites: a case: the files of a source, of its script of addresses and of its output, where there are such (7.21.3p8), the bound on
-- its turns (5.1.2.3p1), and the line that is to tell how it ends
pub record SuiteCase : Type 0 where
  pub source : List ℕ
  pub script : Option (List ℕ)
  pub output : Option (List ℕ)
  pub bound : ℕ
  pub expected : List ℕ

-- ---- words

-- docs/FORMATS.md, Suites: a word: one or more bytes from 33 to 126, so none of them is a space (5.2.1p3)
abbrev pub is_word : List ℕ → Bool
is_word text = nat_lt 0 (length text) && list_all (λ b. nat_le 33 b && nat_le b 126) text

-- docs/FORMATS.md, Suites: `-` stands for no file (7.21.3p8)
abbrev pub file_named : List ℕ → Option (List ℕ)
file_named text = if bytes_eq text (codes "-") then None else Some text

-- docs/FORMATS.md, Words (5.1.2.3p1): as many turns may be asked for
abbrev pub most_turns : ℕ
most_turns = 100000000

-- docs/FORMATS.md, Words: a bound, as `--turns` has it: decimal digits without a leading zero (6.4.4.1p1), from 1
abbrev pub bound_in : List ℕ → Option ℕ
bound_in text = number_to most_turns text

-- ---- lines

-- docs/FORMATS.md, Suites: the first word of a line, which ends at its first space (5.2.1p3), and what stands behind that
pub record Cut : Type 0 where
  pub word : List ℕ
  pub rest : List ℕ

-- 5.2.1p3: a space
abbrev pub is_space : ℕ → Bool
is_space b = b == 32

-- docs/FORMATS.md, Suites: a line is cut at its first space (5.2.1p3), if it has one
abbrev pub cut_of : List ℕ → Option Cut
cut_of line = option_map (λ (at : ℕ). record { word = take at line; rest = drop (at + 1) line }) (position is_space line)

-- docs/FORMATS.md, Suites: what SOURCE, SCRIPT, OUTPUT, BOUND and EXPECTED say (5.1.2.3): three words, a bound, and at least one byte more
abbrev pub case_by : (source script output bound expected : List ℕ) → Option SuiteCase
case_by source script output bound expected =
    if is_word source && is_word script && is_word output && nat_lt 0 (length expected)
    then option_map (λ n. record { source = source; script = file_named script; output = file_named output; bound = n; expected = expected }) (bound_in bound)
    else None

-- docs/FORMATS.md, Suites: first the one, and where it is there, the other on what it gave (5.1.2.3)
infixl 10 ◌>>=◌
abbrev pub ◌>>=◌ : {A B : Type 0} → Option A → (A → Option B) → Option B
o >>= f = option_and_then f o

-- docs/FORMATS.md, Suites: they stand in this order, with one space between two (5.2.1p3); EXPECTED goes on to the end of the line
abbrev pub case_in : List ℕ → Option SuiteCase
case_in line = do
  a ← cut_of line
  b ← cut_of a.rest
  c ← cut_of b.rest
  d ← cut_of c.rest
  case_by a.word b.word c.word d.word d.rest

-- ---- lists

-- docs/FORMATS.md, Suites: the cases of the lines so far, and that of line n, if it has a reading (5.1.2.3)
abbrev pub after_case : Option SuiteCase → (n : ℕ) → (earlier : List SuiteCase) → Result (List SuiteCase) ListError
after_case None n earlier = Err (error.BadLine n)
after_case (Some c) n earlier = Ok (earlier ++ c ∷ [])

-- docs/FORMATS.md, Suites: a line that is empty or begins with `#` says nothing, any other one is a case (5.1.2.3)
abbrev pub after_line : (n : ℕ) (line : List ℕ) → (earlier : List SuiteCase) → Result (List SuiteCase) ListError
after_line n line earlier = if says_nothing line then Ok earlier else after_case (case_in line) n earlier

-- docs/FORMATS.md, Suites: line by line, from number n on, to the first that has no reading (5.1.2.3)
abbrev pub after_lines : (n : ℕ) → List (List ℕ) → (earlier : List SuiteCase) → Result (List SuiteCase) ListError
after_lines n [] earlier = Ok earlier
after_lines n (l ∷ ls) earlier = and_then (after_line n l earlier) (λ cs. after_lines (n + 1) ls cs)

-- docs/FORMATS.md, Suites: the most bytes of a list (5.2.4.1)
abbrev pub list_limit : ℕ
list_limit = 65536

-- docs/FORMATS.md, Suites: the cases of a list (5.1.2.3), whose lines are what stands between its line feeds (5.2.1p3), or why it has none
abbrev pub cases_of : List ℕ → Result (List SuiteCase) ListError
cases_of text = if nat_lt list_limit (length text) then Err error.Size else after_lines 1 (slice_split (λ b. b == 10) text) []
