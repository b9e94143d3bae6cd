-- Texts of lists of events as another implementation gives them, also of lists that no run makes. Numbers are left unwritten.
use Rattle.std.specs.Prelude.{◌≡◌, ℕ, true, false, List, [], ◌∷◌, ◌++◌, codes, Some, None}
use Rattle.std.proofs.Common.{refl}
use Rattle.pv_watch.specs.declared.event.Event.{Event}
use Rattle.pv_watch.specs.declared.event.What.{What}
use Rattle.pv_watch.specs.declared.event.What.TheVariants.{Made, Ended, Exposed, Pair, Tried, Fault}
use Rattle.pv_fault.specs.declared.verdict.Verdict.TheVariants.{Undecided}
use Rattle.std.specs.Fmt.{decimal}
use Rattle.pv_print.specs.Texts.{address_text}
use Rattle.pv_watch.specs.Lines.{line}
use Rattle.pv_watch.specs.Texts.{journal_text}

abbrev event : ℕ → What → Event
event turn what = record { turn = turn; what = what }

abbrev texts : List (List ℕ)
texts = codes "x" ∷ codes "y" ∷ []

abbrev lines : List (List ℕ) → List ℕ
lines [] = []
lines (l ∷ ls) = line l ++ lines ls

abbrev all_seen : List Event
all_seen = event 1 (Made 1 0 1 4096 4) ∷ event 2 (Made 2 1 1 4100 4) ∷ event 3 (Exposed 1) ∷ event 3 (Exposed 2) ∷ event 4 (Pair 1 4100 1 2) ∷ event 5 (Tried 1 1 true true) ∷ event 6 (Tried 1 2 true false) ∷ event 7 (Ended 2) ∷ event 8 (Fault Undecided (Some 1) None (Some 1)) ∷ []

all_journaled : journal_text all_seen texts ≡ (lines (((codes "create " ++ (codes "x#" ++ decimal 1)) ++ (codes " turn=" ++ (decimal 1)) ++ (codes " base=" ++ (address_text 4096)) ++ (codes " size=" ++ (decimal 4))) ∷ ((codes "create " ++ (codes "y#" ++ decimal 1)) ++ (codes " turn=" ++ (decimal 2)) ++ (codes " base=" ++ (address_text 4100)) ++ (codes " size=" ++ (decimal 4))) ∷ ((codes "expose " ++ (codes "x#" ++ decimal 1)) ++ (codes " turn=" ++ (decimal 3))) ∷ ((codes "expose " ++ (codes "y#" ++ decimal 1)) ++ (codes " turn=" ++ (decimal 3))) ∷ ((codes "pair " ++ (decimal 1)) ++ (codes " turn=" ++ (decimal 4)) ++ (codes " address=" ++ (address_text 4100)) ++ (codes " low=" ++ (codes "x#" ++ decimal 1)) ++ (codes " high=" ++ (codes "y#" ++ decimal 1))) ∷ ((codes "use " ++ (decimal 1)) ++ (codes " turn=" ++ (decimal 5)) ++ (codes " test=" ++ (codes "live")) ++ (codes " left=" ++ ((codes "x#" ++ decimal 1) ++ codes "," ++ (codes "y#" ++ decimal 1)))) ∷ ((codes "use " ++ (decimal 1)) ++ (codes " turn=" ++ (decimal 6)) ++ (codes " test=" ++ (codes "range")) ++ (codes " left=" ++ (codes "x#" ++ decimal 1))) ∷ ((codes "end " ++ (codes "y#" ++ decimal 1)) ++ (codes " turn=" ++ (decimal 7))) ∷ (codes "fault" ++ (codes " turn=" ++ (decimal 8))) ∷ []) ++ line (codes "events " ++ decimal 9))
all_journaled = refl

abbrev unknown_seen : List Event
unknown_seen = event 1 (Made 1 5 1 0 1) ∷ event 2 (Ended 9) ∷ event 3 (Tried 4 9 true true) ∷ event 4 (Pair 1 0 9 1) ∷ event 5 (Made 1 0 2 16 8) ∷ event 6 (Exposed 1) ∷ event 7 (Tried 1 4 false false) ∷ []

unknown_journaled : journal_text unknown_seen texts ≡ (lines (((codes "create " ++ (codes "?")) ++ (codes " turn=" ++ (decimal 1)) ++ (codes " base=" ++ (codes "(nil)")) ++ (codes " size=" ++ (decimal 1))) ∷ ((codes "end " ++ (codes "?")) ++ (codes " turn=" ++ (decimal 2))) ∷ ((codes "use " ++ (decimal 4)) ++ (codes " turn=" ++ (decimal 3)) ++ (codes " test=" ++ (codes "?")) ++ (codes " left=" ++ ((codes "?") ++ codes "," ++ (codes "?")))) ∷ ((codes "pair " ++ (decimal 1)) ++ (codes " turn=" ++ (decimal 4)) ++ (codes " address=" ++ (codes "(nil)")) ++ (codes " low=" ++ (codes "?")) ++ (codes " high=" ++ (codes "?"))) ∷ ((codes "create " ++ (codes "?")) ++ (codes " turn=" ++ (decimal 5)) ++ (codes " base=" ++ (address_text 16)) ++ (codes " size=" ++ (decimal 8))) ∷ ((codes "expose " ++ (codes "?")) ++ (codes " turn=" ++ (decimal 6))) ∷ ((codes "use " ++ (decimal 1)) ++ (codes " turn=" ++ (decimal 7)) ++ (codes " test=" ++ (codes "same")) ++ (codes " left=" ++ (codes ""))) ∷ []) ++ line (codes "events " ++ decimal 7))
unknown_journaled = refl

abbrev faults_seen : List Event
faults_seen = event 1 (Made 1 0 1 4096 4) ∷ event 2 (Fault Undecided None None None) ∷ event 3 (Fault Undecided (Some 1) None None) ∷ event 4 (Ended 1) ∷ []

abbrev none_seen : List Event
none_seen = []

none_journaled : journal_text none_seen texts ≡ (lines ([]) ++ line (codes "events " ++ decimal 0))
none_journaled = refl
