-- Texts of lists of events as another implementation gives them, also of lists that no run makes. Numbers are left unwritten.
use Rattle.std.specs.Prelude.{◌≡◌, ℕ, true, false, List, [], ◌∷◌, ◌++◌, codes, Some, None}
use Rattle.std.proofs.Common.{refl}
use Rattle.pv_watch.specs.declared.event.Event.{Event}
use Rattle.pv_watch.specs.declared.event.What.{What}
use Rattle.pv_watch.specs.declared.event.What.TheVariants.{Made, Ended, Exposed, Pair, Tried, Fault}
use Rattle.pv_fault.specs.declared.verdict.Verdict.TheVariants.{Undecided}
use Rattle.std.specs.Fmt.{decimal}
use Rattle.pv_print.specs.Texts.{address_text}
use Rattle.pv_watch.specs.Lines.{line}
use Rattle.pv_watch.specs.Seen.{Kind}
use Rattle.pv_watch.specs.Kinds.{story_kind, census_kind, pointers_kind, journal_kind, kind_meant}

abbrev event : ℕ → What → Event
event turn what = record { turn = turn; what = what }

abbrev texts : List (List ℕ)
texts = codes "x" ∷ codes "y" ∷ []

abbrev lines : List (List ℕ) → List ℕ
lines [] = []
lines (l ∷ ls) = line l ++ lines ls

abbrev all_seen : List Event
all_seen = event 1 (Made 1 0 1 4096 4) ∷ event 2 (Made 2 1 1 4100 4) ∷ event 3 (Exposed 1) ∷ event 3 (Exposed 2) ∷ event 4 (Pair 1 4100 1 2) ∷ event 5 (Tried 1 1 true true) ∷ event 6 (Tried 1 2 true false) ∷ event 7 (Ended 2) ∷ event 8 (Fault Undecided (Some 1) None (Some 1)) ∷ []

all_explained_cut : story_kind.text 9 all_seen texts ≡ ((lines (((codes "create " ++ (codes "x#" ++ decimal 1)) ++ (codes " turn=" ++ (decimal 1)) ++ (codes " base=" ++ (address_text 4096)) ++ (codes " size=" ++ (decimal 4))) ∷ ((codes "expose " ++ (codes "x#" ++ decimal 1)) ++ (codes " turn=" ++ (decimal 3))) ∷ ((codes "pair " ++ (decimal 1)) ++ (codes " turn=" ++ (decimal 4)) ++ (codes " address=" ++ (address_text 4100)) ++ (codes " low=" ++ (codes "x#" ++ decimal 1)) ++ (codes " high=" ++ (codes "y#" ++ decimal 1))) ∷ ((codes "use " ++ (decimal 1)) ++ (codes " turn=" ++ (decimal 5)) ++ (codes " test=" ++ (codes "live")) ++ (codes " left=" ++ ((codes "x#" ++ decimal 1) ++ codes "," ++ (codes "y#" ++ decimal 1)))) ∷ ((codes "use " ++ (decimal 1)) ++ (codes " turn=" ++ (decimal 6)) ++ (codes " test=" ++ (codes "range")) ++ (codes " left=" ++ (codes "x#" ++ decimal 1))) ∷ (codes "fault" ++ (codes " turn=" ++ (decimal 8))) ∷ [])) ++ line (codes "cut"))
all_explained_cut = refl

all_explained : story_kind.text 100 all_seen texts ≡ ((lines (((codes "create " ++ (codes "x#" ++ decimal 1)) ++ (codes " turn=" ++ (decimal 1)) ++ (codes " base=" ++ (address_text 4096)) ++ (codes " size=" ++ (decimal 4))) ∷ ((codes "expose " ++ (codes "x#" ++ decimal 1)) ++ (codes " turn=" ++ (decimal 3))) ∷ ((codes "pair " ++ (decimal 1)) ++ (codes " turn=" ++ (decimal 4)) ++ (codes " address=" ++ (address_text 4100)) ++ (codes " low=" ++ (codes "x#" ++ decimal 1)) ++ (codes " high=" ++ (codes "y#" ++ decimal 1))) ∷ ((codes "use " ++ (decimal 1)) ++ (codes " turn=" ++ (decimal 5)) ++ (codes " test=" ++ (codes "live")) ++ (codes " left=" ++ ((codes "x#" ++ decimal 1) ++ codes "," ++ (codes "y#" ++ decimal 1)))) ∷ ((codes "use " ++ (decimal 1)) ++ (codes " turn=" ++ (decimal 6)) ++ (codes " test=" ++ (codes "range")) ++ (codes " left=" ++ (codes "x#" ++ decimal 1))) ∷ (codes "fault" ++ (codes " turn=" ++ (decimal 8))) ∷ [])) ++ [])
all_explained = refl

all_counted_cut : census_kind.text 9 all_seen texts ≡ ((line (codes "create " ++ decimal 2) ++ line (codes "end " ++ decimal 1) ++ line (codes "expose " ++ decimal 2) ++ line (codes "pair " ++ decimal 1) ++ line (codes "use " ++ decimal 2) ++ line (codes "fault " ++ decimal 1)) ++ line (codes "cut"))
all_counted_cut = refl

all_counted : census_kind.text 100 all_seen texts ≡ ((line (codes "create " ++ decimal 2) ++ line (codes "end " ++ decimal 1) ++ line (codes "expose " ++ decimal 2) ++ line (codes "pair " ++ decimal 1) ++ line (codes "use " ++ decimal 2) ++ line (codes "fault " ++ decimal 1)) ++ [])
all_counted = refl

all_followed_cut : pointers_kind.text 9 all_seen texts ≡ ((lines (((codes "pair " ++ (decimal 1)) ++ (codes " turn=" ++ (decimal 4)) ++ (codes " address=" ++ (address_text 4100)) ++ (codes " low=" ++ (codes "x#" ++ decimal 1)) ++ (codes " high=" ++ (codes "y#" ++ decimal 1))) ∷ ((codes "use " ++ (decimal 1)) ++ (codes " turn=" ++ (decimal 5)) ++ (codes " test=" ++ (codes "live")) ++ (codes " left=" ++ ((codes "x#" ++ decimal 1) ++ codes "," ++ (codes "y#" ++ decimal 1)))) ∷ ((codes "use " ++ (decimal 1)) ++ (codes " turn=" ++ (decimal 6)) ++ (codes " test=" ++ (codes "range")) ++ (codes " left=" ++ (codes "x#" ++ decimal 1))) ∷ [])) ++ line (codes "cut"))
all_followed_cut = refl

all_followed : pointers_kind.text 100 all_seen texts ≡ ((lines (((codes "pair " ++ (decimal 1)) ++ (codes " turn=" ++ (decimal 4)) ++ (codes " address=" ++ (address_text 4100)) ++ (codes " low=" ++ (codes "x#" ++ decimal 1)) ++ (codes " high=" ++ (codes "y#" ++ decimal 1))) ∷ ((codes "use " ++ (decimal 1)) ++ (codes " turn=" ++ (decimal 5)) ++ (codes " test=" ++ (codes "live")) ++ (codes " left=" ++ ((codes "x#" ++ decimal 1) ++ codes "," ++ (codes "y#" ++ decimal 1)))) ∷ ((codes "use " ++ (decimal 1)) ++ (codes " turn=" ++ (decimal 6)) ++ (codes " test=" ++ (codes "range")) ++ (codes " left=" ++ (codes "x#" ++ decimal 1))) ∷ [])) ++ [])
all_followed = refl

abbrev unknown_seen : List Event
unknown_seen = event 1 (Made 1 5 1 0 1) ∷ event 2 (Ended 9) ∷ event 3 (Tried 4 9 true true) ∷ event 4 (Pair 1 0 9 1) ∷ event 5 (Made 1 0 2 16 8) ∷ event 6 (Exposed 1) ∷ event 7 (Tried 1 4 false false) ∷ []

unknown_explained_cut : story_kind.text 7 unknown_seen texts ≡ ((lines ((codes "no fault") ∷ [])) ++ line (codes "cut"))
unknown_explained_cut = refl

unknown_explained : story_kind.text 100 unknown_seen texts ≡ ((lines ((codes "no fault") ∷ [])) ++ [])
unknown_explained = refl

unknown_counted_cut : census_kind.text 7 unknown_seen texts ≡ ((line (codes "create " ++ decimal 2) ++ line (codes "end " ++ decimal 1) ++ line (codes "expose " ++ decimal 1) ++ line (codes "pair " ++ decimal 1) ++ line (codes "use " ++ decimal 2) ++ line (codes "fault " ++ decimal 0)) ++ line (codes "cut"))
unknown_counted_cut = refl

unknown_counted : census_kind.text 100 unknown_seen texts ≡ ((line (codes "create " ++ decimal 2) ++ line (codes "end " ++ decimal 1) ++ line (codes "expose " ++ decimal 1) ++ line (codes "pair " ++ decimal 1) ++ line (codes "use " ++ decimal 2) ++ line (codes "fault " ++ decimal 0)) ++ [])
unknown_counted = refl

unknown_followed_cut : pointers_kind.text 7 unknown_seen texts ≡ ((lines (((codes "use " ++ (decimal 4)) ++ (codes " turn=" ++ (decimal 3)) ++ (codes " test=" ++ (codes "?")) ++ (codes " left=" ++ ((codes "?") ++ codes "," ++ (codes "?")))) ∷ ((codes "pair " ++ (decimal 1)) ++ (codes " turn=" ++ (decimal 4)) ++ (codes " address=" ++ (codes "(nil)")) ++ (codes " low=" ++ (codes "?")) ++ (codes " high=" ++ (codes "?"))) ∷ ((codes "use " ++ (decimal 1)) ++ (codes " turn=" ++ (decimal 7)) ++ (codes " test=" ++ (codes "same")) ++ (codes " left=" ++ (codes ""))) ∷ [])) ++ line (codes "cut"))
unknown_followed_cut = refl

unknown_followed : pointers_kind.text 100 unknown_seen texts ≡ ((lines (((codes "use " ++ (decimal 4)) ++ (codes " turn=" ++ (decimal 3)) ++ (codes " test=" ++ (codes "?")) ++ (codes " left=" ++ ((codes "?") ++ codes "," ++ (codes "?")))) ∷ ((codes "pair " ++ (decimal 1)) ++ (codes " turn=" ++ (decimal 4)) ++ (codes " address=" ++ (codes "(nil)")) ++ (codes " low=" ++ (codes "?")) ++ (codes " high=" ++ (codes "?"))) ∷ ((codes "use " ++ (decimal 1)) ++ (codes " turn=" ++ (decimal 7)) ++ (codes " test=" ++ (codes "same")) ++ (codes " left=" ++ (codes ""))) ∷ [])) ++ [])
unknown_followed = refl

abbrev faults_seen : List Event
faults_seen = event 1 (Made 1 0 1 4096 4) ∷ event 2 (Fault Undecided None None None) ∷ event 3 (Fault Undecided (Some 1) None None) ∷ event 4 (Ended 1) ∷ []

faults_explained_cut : story_kind.text 4 faults_seen texts ≡ ((lines ((codes "fault" ++ (codes " turn=" ++ (decimal 2))) ∷ [])) ++ line (codes "cut"))
faults_explained_cut = refl

faults_explained : story_kind.text 100 faults_seen texts ≡ ((lines ((codes "fault" ++ (codes " turn=" ++ (decimal 2))) ∷ [])) ++ [])
faults_explained = refl

faults_counted_cut : census_kind.text 4 faults_seen texts ≡ ((line (codes "create " ++ decimal 1) ++ line (codes "end " ++ decimal 1) ++ line (codes "expose " ++ decimal 0) ++ line (codes "pair " ++ decimal 0) ++ line (codes "use " ++ decimal 0) ++ line (codes "fault " ++ decimal 2)) ++ line (codes "cut"))
faults_counted_cut = refl

faults_counted : census_kind.text 100 faults_seen texts ≡ ((line (codes "create " ++ decimal 1) ++ line (codes "end " ++ decimal 1) ++ line (codes "expose " ++ decimal 0) ++ line (codes "pair " ++ decimal 0) ++ line (codes "use " ++ decimal 0) ++ line (codes "fault " ++ decimal 2)) ++ [])
faults_counted = refl

faults_followed_cut : pointers_kind.text 4 faults_seen texts ≡ (([]) ++ line (codes "cut"))
faults_followed_cut = refl

faults_followed : pointers_kind.text 100 faults_seen texts ≡ (([]) ++ [])
faults_followed = refl

abbrev none_seen : List Event
none_seen = []

none_explained : story_kind.text 100 none_seen texts ≡ ((lines ((codes "no fault") ∷ [])) ++ [])
none_explained = refl

none_counted : census_kind.text 100 none_seen texts ≡ ((line (codes "create " ++ decimal 0) ++ line (codes "end " ++ decimal 0) ++ line (codes "expose " ++ decimal 0) ++ line (codes "pair " ++ decimal 0) ++ line (codes "use " ++ decimal 0) ++ line (codes "fault " ++ decimal 0)) ++ [])
none_counted = refl

none_followed : pointers_kind.text 100 none_seen texts ≡ (([]) ++ [])
none_followed = refl

-- ---- what a watcher brings of its own counts for other numbers alone

abbrev stranger : ℕ → Kind
stranger number = record { number = number; text = λ wants seen names. codes "a stranger" }

strangers_with_a_given_number : (kind_meant (stranger 1) ≡ story_kind) × (kind_meant (stranger 2) ≡ census_kind) × (kind_meant (stranger 3) ≡ pointers_kind) × (kind_meant (stranger 4) ≡ journal_kind)
strangers_with_a_given_number = (refl, refl, refl, refl)

strangers_with_another : (kind_meant (stranger 0) ≡ stranger 0) × (kind_meant (stranger 5) ≡ stranger 5) × (kind_meant (stranger 9) ≡ stranger 9)
strangers_with_another = (refl, refl, refl)
