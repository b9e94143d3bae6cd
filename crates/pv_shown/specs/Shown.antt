-- What commands show of a run (5.1.2.3). C17 leaves the form of a diagnostic message to its implementation (5.1.1.3p1): docs/FORMATS.md, Commands, has the
-- rules.
use Rattle.std.specs.Prelude.{ℕ, ◌+◌, ◌-◌, min, max, Bool, ◌&&◌, ◌||◌, ◌==◌, nat_lt, nat_le, List, [], ◌∷◌, ◌++◌, length, codes, unwrap_or, if◌then◌else◌, count_by}
use Rattle.std.specs.List.{filter, flat_map, fold}
use Rattle.std.specs.Fmt.{decimal}
use Rattle.pv_print.specs.Texts.{address_text}
use Rattle.pv_journal.specs.Journals.{Row, id_text}
use Rattle.pv_journal.specs.Obeying.{Held, Bond, State, at_first, after_all}
use Rattle.pv_shown.specs.declared.reading.Command.{Command}
use Rattle.pv_shown.specs.declared.reading.Command.TheVariants as command
use Rattle.pv_shown.specs.Commands.{last_position}

-- 7.21.2p2: a line ends with a line feed
abbrev pub line : List ℕ → List ℕ
line text = text ++ (10 ∷ [])

-- 5.1.2.3: what is looked at: the run with the last position as its bound: the lines of its journal (the memory model), which obey, so that
-- turns never fall along them; how many turns it took, whether it ended because more were due, and the line of its report
pub record Run : Type 0 where
  pub rows : List Row
  pub taken : ℕ
  pub by_turns : Bool
  pub line : List ℕ

-- ---- positions

-- 5.1.2.3p1: the run with the bound n ends because another turn is due: the whole run took more, or as many and ended so itself (a law of runs)
abbrev pub runs_on : Run → ℕ → Bool
runs_on r n = nat_lt n r.taken || (r.taken == n && r.by_turns)

-- docs/FORMATS.md, Commands: the least of these turns that is above n (5.1.2.3), where turns never fall along the lines; n where there is none
abbrev pub next_turn : (n : ℕ) → List Row → ℕ
next_turn n [] = n
next_turn n (row ∷ rows) = if nat_lt n row.turn then row.turn else next_turn n rows

-- docs/FORMATS.md, Commands: the greatest of these turns that is below n, and at least 1 (5.1.2.3), where turns never fall along the lines;
-- the one before where there is none
abbrev pub last_turn : (n before : ℕ) → List Row → ℕ
last_turn n before [] = before
last_turn n before (row ∷ rows) = last_turn n (if nat_lt row.turn n && nat_le 1 row.turn then row.turn else before) rows

-- docs/FORMATS.md, Commands: the position to which a command moves (5.1.2.3p1)
abbrev pub position_after : Run → (n : ℕ) → Command → ℕ
position_after r n (command.Go m) = m
position_after r n (command.Step m) = min (n + m) last_position
position_after r n (command.Back m) = max (n - m) 1
position_after r n command.Next = next_turn n r.rows
position_after r n command.Prev = last_turn n n r.rows
position_after r n _ = n

-- docs/FORMATS.md, Commands: how the run with the bound n ends (5.1.2.3)
abbrev pub where_text : Run → (n : ℕ) → List ℕ
where_text r n = if runs_on r n then line (codes "turn " ++ decimal n ++ codes " running") else r.line

-- ---- what there is

-- the memory model: the lines of what happened up to a turn (5.1.2.3)
abbrev pub rows_upto : (n : ℕ) → List Row → List Row
rows_upto n rows = filter (λ (row : Row). nat_le row.turn n) rows

-- the memory model: the state that they leave
abbrev pub state_at : (rows : List Row) → (n : ℕ) → State
state_at rows n = unwrap_or (after_all at_first (rows_upto n rows)) at_first

-- docs/FORMATS.md, Commands: the last line of a list, with the number of those before it
abbrev pub count_line : (word : List ℕ) → (count : ℕ) → List ℕ
count_line word n = line (word ++ codes " count=" ++ decimal n)

-- 6.2.4p2: it lives
abbrev pub is_live : Held → Bool
is_live x = x.live

-- docs/FORMATS.md, Commands: the line of an instance that lives (6.2.4p2): its address, its size, and whether it is exposed (the memory model)
abbrev pub live_line : Held → List ℕ
live_line x = line (codes "live " ++ id_text x.id ++ codes " base=" ++ address_text x.base ++ codes " size=" ++ decimal x.size ++ (if x.exposed then codes " exposed" else []))

-- docs/FORMATS.md, Commands: the instances that live (6.2.4p2), in the order of their creation
abbrev pub list_text : List Held → List ℕ
list_text xs = flat_map live_line (filter is_live xs) ++ count_line (codes "live") (count_by is_live xs)

-- the memory model: the candidates that a pair keeps, the low one first
abbrev pub kept_text : Bond → List ℕ
kept_text b =
    if b.keeps_low then (if b.keeps_high then id_text b.low ++ codes "," ++ id_text b.high else id_text b.low)
    else if b.keeps_high then id_text b.high else []

-- docs/FORMATS.md, Commands: the line of a pair of candidates, by its number (the memory model)
abbrev pub pair_line : (k : ℕ) → Bond → List ℕ
pair_line k b = line (codes "pair " ++ decimal k ++ codes " address=" ++ address_text b.address ++ codes " kept=" ++ kept_text b)

-- docs/FORMATS.md, Commands: the lines of pairs from number k on (the memory model)
abbrev pub pair_lines : (k : ℕ) → List Bond → List ℕ
pair_lines k [] = []
pair_lines k (b ∷ bs) = pair_line k b ++ pair_lines (k + 1) bs

-- docs/FORMATS.md, Commands: the pairs that were made (the memory model)
abbrev pub pairs_text : List Bond → List ℕ
pairs_text bs = pair_lines 1 bs ++ count_line (codes "pairs") (length bs)

-- 6.5.6p8: it lives (6.2.4p2), and the address is within it or one past its end
abbrev pub reaches : (address : ℕ) → Held → Bool
reaches a x = x.live && (nat_le x.base a && nat_le a (x.base + x.size))

-- 6.2.4p2: an instance put among others by its address
abbrev pub put_by_address : Held → List Held → List Held
put_by_address x [] = x ∷ []
put_by_address x (y ∷ ys) = if nat_lt x.base y.base then x ∷ y ∷ ys else y ∷ put_by_address x ys

-- 6.2.4p2: instances by their addresses
abbrev pub by_base : List Held → List Held
by_base xs = fold (λ (ys : List Held) (x : Held). put_by_address x ys) [] xs

-- docs/FORMATS.md, Commands: the line of an instance, with the place of the address in it (6.5.6p8)
abbrev pub inside_line : (address : ℕ) → Held → List ℕ
inside_line a x = line (codes "inside " ++ id_text x.id ++ codes " offset=" ++ decimal (a - x.base))

-- docs/FORMATS.md, Commands: what is at an address (6.5.6p8)
abbrev pub at_text : List Held → (address : ℕ) → List ℕ
at_text xs a = flat_map (inside_line a) (by_base (filter (reaches a) xs)) ++ count_line (codes "at") (count_by (reaches a) xs)

-- ---- commands

-- docs/FORMATS.md, Commands: what a command prints at the position to which it moved (5.1.2.3)
abbrev pub command_text : Run → (n : ℕ) → Command → List ℕ
command_text r n command.List = list_text (state_at r.rows n).held
command_text r n command.Pairs = pairs_text (state_at r.rows n).bonds
command_text r n (command.At a) = at_text (state_at r.rows n).held a
command_text r n _ = where_text r n

-- docs/FORMATS.md, Commands: what commands print from a position on, in their order (5.1.2.3)
abbrev pub shown_from : Run → (n : ℕ) → List Command → List ℕ
shown_from r n [] = []
shown_from r n (c ∷ cs) = command_text r (position_after r n c) c ++ shown_from r (position_after r n c) cs

-- docs/FORMATS.md, Commands: the first position is 1 (5.1.2.3p1)
-- worked: at_positions, last_turns, moves, running, settled, at_both
abbrev pub report_of : Run → List Command → List ℕ
report_of r cs = shown_from r 1 cs
