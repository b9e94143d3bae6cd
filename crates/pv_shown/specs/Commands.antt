-- The commands of a file, line by line, or its first line that is none. C17 says how a program runs (5.1.2.3): docs/FORMATS.md, Commands, has the
-- rules for looking at its run.
use Rattle.std.specs.Prelude.{ℕ, ◌+◌, Bool, ◌==◌, nat_lt, List, [], ◌∷◌, ◌++◌, length, take, drop, position, codes, Option, Some, None, Result, Ok, Err, if◌then◌else◌, option_map}
use Rattle.std.specs.List.{slice_split}
use Rattle.std.specs.Io.BufRead.{strip_last}
use Rattle.std.specs.Str.{bytes_eq}
use Rattle.std.specs.Fmt.{decimal}
use Rattle.pv_script.specs.Scripts.{and_then}
use Rattle.pv_script.specs.Words.{number_to, address_in}
use Rattle.pv_shown.specs.declared.reading.Command.{Command}
use Rattle.pv_shown.specs.declared.reading.Command.TheVariants as command
use Rattle.pv_shown.specs.declared.reading.CommandError.{CommandError}
use Rattle.pv_shown.specs.declared.reading.CommandError.TheVariants as error

-- ---- numbers

-- docs/FORMATS.md, Commands: the last position, which is a number of turns (5.1.2.3p1)
abbrev pub last_position : ℕ
last_position = 1000000

-- docs/FORMATS.md, Commands: a number of turns (5.1.2.3p1): decimal digits without a leading zero (6.4.4.1p1), from 1
abbrev pub number_in : List ℕ → Option ℕ
number_in text = number_to last_position text

-- ---- lines

-- docs/FORMATS.md, Commands: the commands of one word (5.1.2.3)
abbrev pub one_word : List ℕ → Option Command
one_word word =
    if bytes_eq word (codes "next") then Some command.Next
    else if bytes_eq word (codes "prev") then Some command.Prev
    else if bytes_eq word (codes "list") then Some command.List
    else if bytes_eq word (codes "pairs") then Some command.Pairs else None

-- docs/FORMATS.md, Commands: those of a word and a number of turns (5.1.2.3p1), or an address, as in a script
abbrev pub two_words : (word rest : List ℕ) → Option Command
two_words word rest =
    if bytes_eq word (codes "go") then option_map command.Go (number_in rest)
    else if bytes_eq word (codes "step") then option_map command.Step (number_in rest)
    else if bytes_eq word (codes "back") then option_map command.Back (number_in rest)
    else if bytes_eq word (codes "at") then option_map command.At (address_in rest) else None

-- docs/FORMATS.md, Commands: a line is cut at its first space (5.2.1p3), if it has one
abbrev pub command_at : (line : List ℕ) → Option ℕ → Option Command
command_at line None = one_word line
command_at line (Some at) = two_words (take at line) (drop (at + 1) line)

-- 5.2.1p3: a space
abbrev pub is_space : ℕ → Bool
is_space b = b == 32

-- docs/FORMATS.md, Commands: what a line asks for (5.1.2.3), if it is a command
abbrev pub command_in : List ℕ → Option Command
command_in line = command_at line (position is_space line)

-- ---- files

-- docs/FORMATS.md, Commands: lines end with a line feed (7.21.2p2), which the last one may lack; a file without a byte has none
abbrev pub lines_of : List ℕ → List (List ℕ)
lines_of [] = []
lines_of (b ∷ bs) = slice_split (λ c. c == 10) (strip_last 10 (b ∷ bs))

-- docs/FORMATS.md, Commands: the commands so far, and that of line n, if it is one (5.1.2.3)
abbrev pub after_command : Option Command → (n : ℕ) → (earlier : List Command) → Result (List Command) CommandError
after_command None n earlier = Err (error.BadLine n)
after_command (Some c) n earlier = Ok (earlier ++ c ∷ [])

-- docs/FORMATS.md, Commands: the commands so far, and that of this line, which is number n (5.1.2.3)
abbrev pub after_line : (n : ℕ) (line : List ℕ) → (earlier : List Command) → Result (List Command) CommandError
after_line n line earlier = after_command (command_in line) n earlier

-- docs/FORMATS.md, Commands: line by line, from number n on, to the first that is no command (5.1.2.3)
abbrev pub after_lines : (n : ℕ) → List (List ℕ) → (earlier : List Command) → Result (List Command) CommandError
after_lines n [] earlier = Ok earlier
after_lines n (l ∷ ls) earlier = and_then (after_line n l earlier) (λ cs. after_lines (n + 1) ls cs)

-- docs/FORMATS.md, Commands: the most bytes of a file (5.2.4.1)
abbrev pub commands_limit : ℕ
commands_limit = 65536

-- docs/FORMATS.md, Commands: the commands of a file (5.1.2.3), or why it has none
-- worked: each_kind, ended, empty_lines, no_commands, spaces, numbers, addresses
abbrev pub commands_of : List ℕ → Result (List Command) CommandError
commands_of text = if nat_lt commands_limit (length text) then Err error.Size else after_lines 1 (lines_of text) []

-- ---- refusals

-- docs/FORMATS.md, Commands: what is told of a file that has no reading (5.1.1.3p1); none is refused for want of memory
abbrev pub refusal_line : CommandError → List ℕ
refusal_line error.Size = codes "command reason=size" ++ (10 ∷ [])
refusal_line (error.BadLine n) = codes "command reason=line line=" ++ decimal n ++ (10 ∷ [])
refusal_line error.NoMemory = []
