-- Rows of commands, and of what they show, as the definitions compute them.
use Rattle.std.proofs.Common.{◌≡◌, ℕ, true, false, List, [], ◌∷◌, ◌++◌, codes, Some, None, Ok, Err, refl}
use Rattle.std.specs.Fmt.{decimal}
use Rattle.pv_journal.specs.Journals.{Id, Made, Ended, Exposed, Paired, Used, Fault}
use Rattle.pv_journal.specs.Obeying.{Held, Bond}
use Rattle.pv_shown.specs.declared.reading.Command.TheVariants as command
use Rattle.pv_shown.specs.declared.reading.CommandError.TheVariants as error
use Rattle.pv_shown.specs.Commands.{commands_of, number_in, command_in, refusal_line}
use Rattle.pv_shown.specs.Shown.{Run, line, position_after, runs_on, report_of, pairs_text, at_text, live_line, count_line}

-- ---- files (worked: commands_of)

each_kind : commands_of (codes "go 9\nstep 1\nback 1000000\nnext\nprev\nlist\npairs\nat 0x1F")
    ≡ Ok (command.Go 9 ∷ command.Step 1 ∷ command.Back 1000000 ∷ command.Next ∷ command.Prev ∷ command.List ∷ command.Pairs ∷ command.At 31 ∷ [])
each_kind = refl

-- the last line may lack its end, and a file without a byte has no line
ended : (commands_of (codes "list\n") ≡ Ok (command.List ∷ [])) × (commands_of (codes "list") ≡ Ok (command.List ∷ [])) × (commands_of [] ≡ Ok [])
ended = (refl, refl, refl)

-- an empty line is no command, also where no other stands
empty_lines : (commands_of (codes "list\n\n") ≡ Err (error.BadLine 2)) × (commands_of (codes "\n") ≡ Err (error.BadLine 1)) × (commands_of (codes "\nlist") ≡ Err (error.BadLine 1))
empty_lines = (refl, refl, refl)

-- the least line that is none is told
no_commands : (commands_of (codes "jump 3") ≡ Err (error.BadLine 1)) × (commands_of (codes "next\nlist\ngo\njump") ≡ Err (error.BadLine 3))
no_commands = (refl, refl)

-- one space stands between two words, and none elsewhere
spaces : (command_in (codes "go 1") ≡ Some (command.Go 1)) × (command_in (codes "go  1") ≡ None) × (command_in (codes "go 1 ") ≡ None) × (command_in (codes " list") ≡ None)
    × (command_in (codes "list ") ≡ None) × (command_in (codes "list 1") ≡ None) × (command_in (codes "at") ≡ None) × (command_in (codes "List") ≡ None)
spaces = (refl, refl, refl, refl, refl, refl, refl, refl)

numbers : (number_in (codes "1") ≡ Some 1) × (number_in (codes "1000000") ≡ Some 1000000) × (number_in (codes "1000001") ≡ None) × (number_in (codes "0") ≡ None)
    × (number_in (codes "01") ≡ None) × (number_in [] ≡ None) × (number_in (codes "1x") ≡ None) × (number_in (codes "+1") ≡ None)
numbers = (refl, refl, refl, refl, refl, refl, refl, refl)

addresses : (command_in (codes "at 0x0") ≡ Some (command.At 0)) × (command_in (codes "at 0x00fF") ≡ Some (command.At 255)) × (command_in (codes "at 0x") ≡ None)
    × (command_in (codes "at 12") ≡ None) × (command_in (codes "at 0x12345678901234567") ≡ None) × (command_in (codes "at (nil)") ≡ None)
addresses = (refl, refl, refl, refl, refl, refl)

refusals : (refusal_line error.Size ≡ codes "command reason=size\n") × (refusal_line (error.BadLine 7) ≡ codes "command reason=line line=" ++ decimal 7 ++ (10 ∷ []))
refusals = (refl, refl)

-- ---- a pointer to a block's object, which is used behind the block (worked: report_of)

--   int main(void) {
--     int *p;
--     { int a = 1; p = &a; }
--     { int b = 2; }
--     return *p;
--   }
abbrev id : (name : List ℕ) → Id
id name = record { name = name; k = 1 }

abbrev dangling : Run
dangling = record {
  rows =
      record { turn = 1; says = Made (id (codes "p")) 65536 8 } ∷ record { turn = 2; says = Made (id (codes "a")) 131072 4 } ∷ record { turn = 9; says = Ended (id (codes "a")) }
      ∷ record { turn = 10; says = Made (id (codes "b")) 131072 4 } ∷ record { turn = 12; says = Ended (id (codes "b")) } ∷ record { turn = 15; says = Fault } ∷ [];
  taken = 15;
  by_turns = false;
  line = codes "undefined\n";
}

abbrev held : (name : List ℕ) → (base size : ℕ) → Held
held name base size = record { id = id name; base = base; size = size; live = true; exposed = false }

-- the final state is not the one at each position: at 9 `a` has ended and `b` isn't made, at 10 `b` lives
at_positions : report_of dangling (command.Go 9 ∷ command.List ∷ command.Next ∷ command.List ∷ command.Go 100 ∷ [])
    ≡ line (codes "turn " ++ decimal 9 ++ codes " running")
    ++ (((live_line (held (codes "p") 65536 8) ++ []) ++ count_line (codes "live") 1)
    ++ (line (codes "turn " ++ decimal 10 ++ codes " running")
    ++ (((live_line (held (codes "p") 65536 8) ++ (live_line (held (codes "b") 131072 4) ++ [])) ++ count_line (codes "live") 2) ++ (codes "undefined\n" ++ []))))
at_positions = refl

-- what ends at a turn lives no more then
last_turns : (report_of dangling (command.Go 8 ∷ command.At 131072 ∷ []) ≡ line (codes "turn " ++ decimal 8 ++ codes " running") ++ (at_text (held (codes "a") 131072 4 ∷ []) 131072 ++ []))
    × (report_of dangling (command.Go 9 ∷ command.At 131072 ∷ []) ≡ line (codes "turn " ++ decimal 9 ++ codes " running") ++ (at_text [] 131072 ++ []))
last_turns = (refl, refl)

moves : (position_after dangling 9 command.Next ≡ 10) × (position_after dangling 15 command.Next ≡ 15) × (position_after dangling 9 command.Prev ≡ 2) × (position_after dangling 1 command.Prev ≡ 1)
    × (position_after dangling 20 command.Prev ≡ 15) × (position_after dangling 1 (command.Back 5) ≡ 1) × (position_after dangling 6 (command.Back 5) ≡ 1) × (position_after dangling 999999 (command.Step 5) ≡ 1000000)
moves = (refl, refl, refl, refl, refl, refl, refl, refl)

running : (runs_on dangling 14 ≡ true) × (runs_on dangling 15 ≡ false) × (runs_on dangling 16 ≡ false) × (runs_on (record dangling { by_turns = true }) 15 ≡ true)
running = (refl, refl, refl, refl)

-- ---- a pair of candidates, which a use settles

abbrev paired : Run
paired = record {
  rows =
      record { turn = 1; says = Made (id (codes "a")) 131072 8 } ∷ record { turn = 1; says = Made (id (codes "b")) 131080 8 } ∷ record { turn = 6; says = Exposed (id (codes "b")) }
      ∷ record { turn = 11; says = Exposed (id (codes "a")) } ∷ record { turn = 14; says = Paired 1 131080 (id (codes "a")) (id (codes "b")) }
      ∷ record { turn = 24; says = Used 1 2 (id (codes "b")) None } ∷ [];
  taken = 27;
  by_turns = false;
  line = codes "exit\n";
}

abbrev bond : Bond
bond = record { address = 131080; low = id (codes "a"); high = id (codes "b"); keeps_low = true; keeps_high = true }

settled : (report_of paired (command.Go 23 ∷ command.Pairs ∷ []) ≡ line (codes "turn " ++ decimal 23 ++ codes " running") ++ (pairs_text (bond ∷ []) ++ []))
    × (report_of paired (command.Go 24 ∷ command.Pairs ∷ []) ≡ line (codes "turn " ++ decimal 24 ++ codes " running") ++ (pairs_text (record bond { keeps_low = false } ∷ []) ++ []))
    × (report_of paired (command.Go 13 ∷ command.Pairs ∷ []) ≡ line (codes "turn " ++ decimal 13 ++ codes " running") ++ (pairs_text [] ++ []))
settled = (refl, refl, refl)

-- where one ends and the other begins both are told, by their addresses
at_both : at_text (held (codes "b") 131080 8 ∷ held (codes "a") 131072 8 ∷ []) 131080
    ≡ (line (codes "inside " ++ (codes "a" ++ codes "#" ++ decimal 1) ++ codes " offset=" ++ decimal 8) ++ (line (codes "inside " ++ (codes "b" ++ codes "#" ++ decimal 1) ++ codes " offset=" ++ decimal 0) ++ []))
    ++ count_line (codes "at") 2
at_both = refl
