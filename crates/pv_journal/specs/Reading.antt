-- Bridges from the text of a journal to the code, which reads a line word by word, and the lines one by one.
use Rattle.std.specs.Prelude.{ℕ, ◌+◌, ◌*◌, ◌^◌, Bool, true, false, ◌&&◌, ◌==◌, nat_lt, List, [], ◌∷◌, length, take, drop, codes, Option, Some, None, if◌then◌else◌, option_and_then, option_map, position, ◌++◌, Result, Ok, Err}
use Rattle.std.specs.List.{slice_split}
use Rattle.std.specs.Str.{bytes_eq}
use Rattle.std.specs.Char.{digit_value}
use Rattle.std.specs.Fmt.{decimal}
use Rattle.pv_print.specs.Texts.{address_text}
use Rattle.pv_prov.specs.TestNumbers.{live_test, range_test, block_test, same_test, code_test}
use Rattle.pv_journal.specs.Journals.{Id, Fact, Made, Ended, Exposed, Paired, Used, Fault, Row, last_text}
use Rattle.pv_journal.specs.Obeying.{State, at_first, after}

-- docs/FORMATS.md, Journals (the memory model): the number that the digits write behind v, where each is a digit in the base and it fits 64 bits
abbrev pub numeral_from : (base v : ℕ) → List ℕ → Option ℕ
numeral_from base v [] = Some v
numeral_from base v (c ∷ cs) =
    if nat_lt (digit_value c) base && nat_lt (v * base + digit_value c) (2 ^ 64) then numeral_from base (v * base + digit_value c) cs else None

-- docs/FORMATS.md, Journals (the memory model): a number has one spelling
abbrev pub if_spelled : (ℕ → List ℕ) → List ℕ → ℕ → Option ℕ
if_spelled spelling text n = if bytes_eq (spelling n) text then Some n else None

-- docs/FORMATS.md, Journals (the memory model): a number in decimal
abbrev pub decimal_in : List ℕ → Option ℕ
decimal_in text = option_and_then (if_spelled decimal text) (numeral_from 10 0 text)

-- docs/FORMATS.md, Journals (the memory model): an address in hexadecimal, behind `0x`
abbrev pub address_in : List ℕ → Option ℕ
address_in text = option_and_then (if_spelled address_text text) (numeral_from 16 0 (drop 2 text))

-- docs/FORMATS.md, Journals (the memory model): what stands behind a word
abbrev pub behind : List ℕ → List ℕ → Option (List ℕ)
behind word text = if bytes_eq (take (length word) text) word then Some (drop (length word) text) else None

-- docs/FORMATS.md, Journals (the memory model): a number behind a word, as `turn=`
abbrev pub number_behind : List ℕ → List ℕ → Option ℕ
number_behind word text = option_and_then decimal_in (behind word text)

-- docs/FORMATS.md, Journals (the memory model): an address behind a word, as `base=`
abbrev pub address_behind : List ℕ → List ℕ → Option ℕ
address_behind word text = option_and_then address_in (behind word text)

-- docs/FORMATS.md, Journals (the memory model): an instance by its name and its number
abbrev pub id_by : (name number : List ℕ) → Option Id
id_by name number = option_map (λ k. record { name = name; k = k }) (decimal_in number)

-- docs/FORMATS.md, Journals (the memory model): the same of the two parts of a word
abbrev pub id_of : List (List ℕ) → Option Id
id_of (name ∷ number ∷ []) = id_by name number
id_of (name ∷ number ∷ more ∷ others) = None
id_of (name ∷ []) = None
id_of [] = None

-- docs/FORMATS.md, Journals (the memory model): an instance, with `#` between its name and its number
abbrev pub id_in : List ℕ → Option Id
id_in text = id_of (slice_split (λ b. b == 35) text)

-- docs/FORMATS.md, Journals (the memory model): an instance behind a word, as `low=`
abbrev pub id_behind : List ℕ → List ℕ → Option Id
id_behind word text = option_and_then id_in (behind word text)

-- docs/FORMATS.md, Journals (the memory model): a test, by its word
abbrev pub test_in : List ℕ → Option ℕ
test_in text =
    if bytes_eq text (codes "test=live") then Some live_test
    else if bytes_eq text (codes "test=range") then Some range_test
    else if bytes_eq text (codes "test=block") then Some block_test
    else if bytes_eq text (codes "test=same") then Some same_test
    else if bytes_eq text (codes "test=code") then Some code_test else None

-- docs/FORMATS.md, Journals (the memory model): one instance or two
abbrev pub ids_of : List (List ℕ) → Option (Id × Option Id)
ids_of (first ∷ []) = option_map (λ a. (a, None)) (id_in first)
ids_of (first ∷ second ∷ []) = option_and_then (λ a. option_map (λ b. (a, Some b)) (id_in second)) (id_in first)
ids_of (first ∷ second ∷ more ∷ others) = None
ids_of [] = None

-- docs/FORMATS.md, Journals (the memory model): the same behind a word, with a comma between two
abbrev pub ids_behind : List ℕ → List ℕ → Option (Id × Option Id)
ids_behind word text = option_and_then (λ left. ids_of (slice_split (λ b. b == 44) left)) (behind word text)

-- docs/FORMATS.md, Journals (the memory model): what a line says, with its turn
abbrev pub at_turn : List ℕ → Option Fact → Option Row
at_turn turn fact = option_and_then (λ f. option_map (λ t. record { turn = t; says = f }) (number_behind (codes "turn=") turn)) fact

-- docs/FORMATS.md, Journals (the memory model): a line of two words, `fault`
abbrev pub said_in_2 : (word turn : List ℕ) → Option Row
said_in_2 word turn = at_turn turn (if bytes_eq word (codes "fault") then Some Fault else None)

-- docs/FORMATS.md, Journals (the memory model): what `end` and `expose` say
abbrev pub short_in : (word id : List ℕ) → Option Fact
short_in word id =
    if bytes_eq word (codes "end") then option_map (λ i. Ended i) (id_in id) else if bytes_eq word (codes "expose") then option_map (λ i. Exposed i) (id_in id) else None

-- docs/FORMATS.md, Journals (the memory model): a line of three words, `end` or `expose`
abbrev pub said_in_3 : (word id turn : List ℕ) → Option Row
said_in_3 word id turn = at_turn turn (short_in word id)

-- docs/FORMATS.md, Journals (the memory model): what `create` says (6.2.4p2)
abbrev pub made_in : (id base size : List ℕ) → Option Fact
made_in id base size = option_and_then (λ i. option_and_then (λ b. option_map (λ s. Made i b s) (number_behind (codes "size=") size)) (address_behind (codes "base=") base)) (id_in id)

-- docs/FORMATS.md, Journals (the memory model): what `use` says
abbrev pub used_in : (pair test left : List ℕ) → Option Fact
used_in pair test left = option_and_then (λ p. option_and_then (λ t. option_map (λ is. Used p t is.0 is.1) (ids_behind (codes "left=") left)) (test_in test)) (decimal_in pair)

-- docs/FORMATS.md, Journals (the memory model): what `create` and `use` say
abbrev pub long_in : (word a c d : List ℕ) → Option Fact
long_in word a c d = if bytes_eq word (codes "create") then made_in a c d else if bytes_eq word (codes "use") then used_in a c d else None

-- docs/FORMATS.md, Journals (the memory model): a line of five words, `create` or `use`
abbrev pub said_in_5 : (word a turn c d : List ℕ) → Option Row
said_in_5 word a turn c d = at_turn turn (long_in word a c d)

-- docs/FORMATS.md, Journals (the memory model): what `pair` says
abbrev pub paired_in : (pair address low high : List ℕ) → Option Fact
paired_in pair address low high =
    option_and_then (λ p. option_and_then (λ a. option_and_then (λ l. option_map (λ h. Paired p a l h) (id_behind (codes "high=") high)) (id_behind (codes "low=") low))
    (address_behind (codes "address=") address)) (decimal_in pair)

-- docs/FORMATS.md, Journals (the memory model): the same by its word
abbrev pub longest_in : (word a c d e : List ℕ) → Option Fact
longest_in word a c d e = if bytes_eq word (codes "pair") then paired_in a c d e else None

-- docs/FORMATS.md, Journals (the memory model): a line of six words, `pair`
abbrev pub said_in_6 : (word a turn c d e : List ℕ) → Option Row
said_in_6 word a turn c d e = at_turn turn (longest_in word a c d e)

-- docs/FORMATS.md, Journals (the memory model): what a line of these words says, if they are one
abbrev pub said_by : List (List ℕ) → Option Row
said_by [] = None
said_by (a ∷ []) = None
said_by (a ∷ b ∷ []) = said_in_2 a b
said_by (a ∷ b ∷ c ∷ []) = said_in_3 a b c
said_by (a ∷ b ∷ c ∷ d ∷ []) = None
said_by (a ∷ b ∷ c ∷ d ∷ e ∷ []) = said_in_5 a b c d e
said_by (a ∷ b ∷ c ∷ d ∷ e ∷ f ∷ []) = said_in_6 a b c d e f
said_by (a ∷ b ∷ c ∷ d ∷ e ∷ f ∷ g ∷ more) = None

-- docs/FORMATS.md, Journals (the memory model): what a line says, if it has a reading
abbrev pub row_said : List ℕ → Option Row
row_said text = said_by (slice_split (λ b. b == 32) text)

-- docs/FORMATS.md, Journals (the memory model): the line and what it leaves, where it has a reading and passes
abbrev pub row_and_state : State → List ℕ → Option (Row × State)
row_and_state s text = option_and_then (λ row. option_map (λ t. (row, t)) (after s row)) (row_said text)

-- docs/FORMATS.md, Journals (the memory model): a line that does not pass is wrong; behind one that does it goes on
abbrev pub taken_or : Option (Row × State) → Result (List Row) ℕ → (Row → State → Result (List Row) ℕ) → Result (List Row) ℕ
taken_or None bad go = bad
taken_or (Some p) bad go = go p.0 p.1

-- docs/FORMATS.md, Journals (the memory model): what stands before the first line feed, and behind it
abbrev pub first_line : List ℕ → Option (List ℕ × List ℕ)
first_line text = option_map (λ e. (take e text, drop (e + 1) text)) (position (λ b. b == 10) text)

-- docs/FORMATS.md, Journals (the memory model): nothing stands behind the last line
abbrev pub is_end : List ℕ → List (List ℕ) → Bool
is_end [] [] = true
is_end [] (p ∷ ps) = false
is_end (c ∷ cs) ps = false

-- docs/FORMATS.md, Journals (the memory model): the lines from line n on, or the first that is wrong; what stands between line feeds is a line but for the
-- last piece
abbrev pub judged_from : (n : ℕ) → State → List Row → List (List ℕ) → Result (List Row) ℕ
judged_from n s before [] = Err n
judged_from n s before (p ∷ []) = Err n
judged_from n s before (p ∷ q ∷ ps) =
    if bytes_eq p (last_text (length before)) then (if is_end q ps then Ok before else Err (n + 1))
    else taken_or (row_and_state s p) (Err n) (λ row t. judged_from (n + 1) t (before ++ row ∷ []) (q ∷ ps))

-- docs/FORMATS.md, Journals (the memory model): the lines of a text, or its first line that is wrong
abbrev pub rows_or_wrong : List ℕ → Result (List Row) ℕ
rows_or_wrong bytes = judged_from 1 at_first [] (slice_split (λ b. b == 10) bytes)
