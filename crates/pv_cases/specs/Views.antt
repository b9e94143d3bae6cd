-- A bridge: what the code's cases and answers stand for (5.1.2.3).
use Rattle.std.specs.Prelude.{◌≡◌, ◌<◌, ◌≤◌, Result, Ok, Err, option_map}
use Rattle.pv_cases.specs.declared.lines.Parted.{Parted}
use Rattle.pv_cases.specs.declared.list.Case.{Case}
use Rattle.pv_cases.specs.declared.list.ListError.{ListError}
use Rattle.pv_cases.specs.declared.list.ListError.TheVariants as error
use Rattle.pv_cases.specs.declared.comparing.Expected.{Expected}
use Rattle.pv_cases.specs.declared.comparing.Got.{Got}
use Rattle.pv_cases.specs.declared.comparing.Told.{Told}
use Rattle.pv_cases.specs.Cases.{SuiteCase, Cut, most_turns}
use Rattle.pv_cases.specs.Suites.{Wanted, Gave, CaseTold}

-- docs/FORMATS.md, Suites: a line that was cut (5.2.1p3)
abbrev pub cut_view : Parted → Cut
cut_view p = record { word = p.word.now; rest = p.rest.now }

-- docs/FORMATS.md, Suites: a case that was read
abbrev pub case_view : Case → SuiteCase
case_view c = record {
  source = c.source.now;
  script = option_map (λ s. s.now) c.script;
  output = option_map (λ s. s.now) c.output;
  bound = c.bound;
  expected = c.expected.now;
}

-- docs/FORMATS.md, Words: its bound is one that a run may have
abbrev pub IsBounded : Case → Type 0
IsBounded c = (0 < c.bound) × (c.bound ≤ most_turns)

-- docs/FORMATS.md, Suites: what is expected of a case
abbrev pub wanted_view : Expected → Wanted
wanted_view w = record { line = w.line.now; output = option_map (λ s. s.now) w.output }

-- docs/FORMATS.md, Suites: what a case came to
abbrev pub gave_view : Got → Gave
gave_view g = record { line = g.line.now; output = g.output.now; clause = option_map (λ s. s.now) g.clause }

-- docs/FORMATS.md, Suites: what is told of a case
abbrev pub told_view : Told → CaseTold
told_view t = record { line = t.line.items; passed = t.passed; clause = option_map (λ s. s.now) t.clause }

-- docs/FORMATS.md, Suites: it is what the list says; or there was no memory
abbrev pub OrNoMemory : {A B : Type 0} → (A → B) → Result A ListError → Result B ListError → Type 0
OrNoMemory seen (Ok a) wanted = Ok (seen a) ≡ wanted
OrNoMemory seen (Err error.NoMemory) wanted = Unit {0}
OrNoMemory seen (Err error.Size) wanted = Err error.Size ≡ wanted
OrNoMemory seen (Err (error.BadLine n)) wanted = Err (error.BadLine n) ≡ wanted
