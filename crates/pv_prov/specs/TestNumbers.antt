-- The tests of a use of a pointer (the memory model), by the numbers that events and journals give of them, and their words.
use Rattle.std.specs.Prelude.{ℕ, List, codes, if◌then◌else◌, ◌==◌}

-- the memory model: the candidate is live (6.2.4p2)
abbrev pub live_test : ℕ
live_test = 1

-- the memory model: a range lies in the candidate (6.5.6p8, 6.5.3.2p4)
abbrev pub range_test : ℕ
range_test = 2

-- the memory model: the candidate is an allocation that begins there (7.22.3.3p2)
abbrev pub block_test : ℕ
block_test = 3

-- the memory model: the candidate is one of the other operand too (6.5.8p5, 6.5.6p9)
abbrev pub same_test : ℕ
same_test = 4

-- the memory model: the candidate is a function that begins there (6.5.2.2p1)
abbrev pub code_test : ℕ
code_test = 5

-- the memory model: a use's test, by its number
abbrev pub test_text : ℕ → List ℕ
test_text n =
    if n == live_test then codes "live" else if n == range_test then codes "range" else if n == block_test then codes "block"
    else if n == same_test then codes "same" else if n == code_test then codes "code" else codes "?"
