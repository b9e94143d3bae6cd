-- Events of two runs, and the lines that they are: an address that is used again (C17 6.2.4p2), and an integer at which two instances
-- meet (6.3.2.3p5).
use Rattle.std.proofs.Common.{◌≡◌, ℕ, List, [], ◌∷◌, ◌++◌, codes, Some, None, refl}
use Rattle.std.specs.Prelude.{true, false}
use Rattle.pv_fault.specs.declared.faults.Clause.TheVariants.{Lifetimes}
use Rattle.pv_fault.specs.declared.faults.Reason.TheVariants.{Ended as HasEnded}
use Rattle.pv_watch.specs.declared.event.Event.{Event}
use Rattle.pv_watch.specs.declared.event.What.TheVariants as what
use Rattle.pv_fault.specs.declared.verdict.Verdict.TheVariants as verdict
use Rattle.pv_journal.specs.Journals.{Id, Made, Ended, Exposed, Paired, Used, Fault, Row}
use Rattle.pv_journal.specs.Obeying.{Obeys, at_first, after_all}
use Rattle.pv_journal_laws.specs.Runs.{TellsAJournal}
use Rattle.pv_journal_laws.proofs.Telling.{after_events}
use Rattle.pv_journal_laws.proofs.Journaling.{tells_journal}

abbrev names : List (List ℕ)
names = codes "@lit" ∷ codes "@heap" ∷ codes "p" ∷ codes "a" ∷ codes "b" ∷ []

abbrev id : List ℕ → Id
id name = record { name = name; k = 1 }

-- ---- an address that is used again

abbrev reused : List Event
reused =
    record { turn = 1; what = what.Made 1 2 1 65536 8 } ∷ record { turn = 2; what = what.Made 2 3 1 131072 4 } ∷ record { turn = 9; what = what.Ended 2 }
    ∷ record { turn = 10; what = what.Made 3 4 1 131072 4 } ∷ record { turn = 12; what = what.Ended 3 }
    ∷ record { turn = 15; what = what.Fault (verdict.Undefined (record { clause = Lifetimes; reason = HasEnded })) (Some 2) None None } ∷ []

abbrev reused_rows : List Row
reused_rows =
    record { turn = 1; says = Made (id (codes "p")) 65536 8 } ∷ record { turn = 2; says = Made (id (codes "a")) 131072 4 } ∷ record { turn = 9; says = Ended (id (codes "a")) }
    ∷ record { turn = 10; says = Made (id (codes "b")) 131072 4 } ∷ record { turn = 12; says = Ended (id (codes "b")) } ∷ record { turn = 15; says = Fault } ∷ []

reused_obeys : Obeys reused_rows
reused_obeys = refl

reused_lines : after_events names at_first reused ≡ after_all at_first reused_rows
reused_lines = refl

reused_tells : TellsAJournal reused names
reused_tells = tells_journal names reused _ refl

-- without the end of `a` its bytes are used twice
reused_early : after_all at_first (record { turn = 2; says = Made (id (codes "a")) 131072 4 } ∷ record { turn = 10; says = Made (id (codes "b")) 131072 4 } ∷ []) ≡ None
reused_early = refl

-- an event of an instance that was not made
unmade : after_events names at_first (record { turn = 1; what = what.Ended 1 } ∷ []) ≡ None
unmade = refl

-- nothing follows a fault, and turns do not fall
fault_last : after_all at_first (record { turn = 1; says = Fault } ∷ record { turn = 1; says = Fault } ∷ []) ≡ None
fault_last = refl

turns_rise : after_all at_first (record { turn = 2; says = Made (id (codes "a")) 131072 4 } ∷ record { turn = 1; says = Ended (id (codes "a")) } ∷ []) ≡ None
turns_rise = refl

-- ---- two candidates

abbrev met : List Event
met =
    record { turn = 1; what = what.Made 1 3 1 131072 4 } ∷ record { turn = 1; what = what.Made 2 4 1 131076 4 } ∷ record { turn = 3; what = what.Exposed 1 } ∷ record { turn = 4; what = what.Exposed 2 }
    ∷ record { turn = 5; what = what.Pair 1 131076 1 2 } ∷ record { turn = 6; what = what.Tried 1 1 true true } ∷ record { turn = 7; what = what.Tried 1 2 false true } ∷ []

abbrev met_rows : List Row
met_rows =
    record { turn = 1; says = Made (id (codes "a")) 131072 4 } ∷ record { turn = 1; says = Made (id (codes "b")) 131076 4 } ∷ record { turn = 3; says = Exposed (id (codes "a")) } ∷ record { turn = 4; says = Exposed (id (codes "b")) }
    ∷ record { turn = 5; says = Paired 1 131076 (id (codes "a")) (id (codes "b")) } ∷ record { turn = 6; says = Used 1 1 (id (codes "a")) (Some (id (codes "b"))) }
    ∷ record { turn = 7; says = Used 1 2 (id (codes "b")) None } ∷ []

met_obeys : Obeys met_rows
met_obeys = refl

met_lines : after_events names at_first met ≡ after_all at_first met_rows
met_lines = refl

met_tells : TellsAJournal met names
met_tells = tells_journal names met _ refl

-- the pair keeps one candidate then: another use of it is none that is told
settled : after_all at_first (met_rows ++ record { turn = 8; says = Used 1 2 (id (codes "b")) None } ∷ []) ≡ None
settled = refl
