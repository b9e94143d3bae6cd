-- Rows of suites, as the definitions compute them.
use Rattle.std.proofs.Common.{◌≡◌, false, [], ◌∷◌, ◌++◌, codes, Some, None, Ok, Err, refl}
use Rattle.std.specs.Fmt.{decimal}
use Rattle.pv_cases.specs.declared.list.ListError.TheVariants as error
use Rattle.pv_cases.specs.Cases.{cases_of, bound_in}
use Rattle.pv_cases.specs.Suites.{told_of, all_clauses, suite_text, suite_status, line_feed, list_line, long_line}

-- ---- lists (worked: cases_of)

one_case : cases_of (codes "#x\na.c - - 2 turns bound=2") ≡ Ok (record { source = codes "a.c"; script = None; output = None; bound = 2; expected = codes "turns bound=2" } ∷ [])
one_case = refl

-- the last line feed ends a line, and no line stands behind it that says anything
ended : cases_of (codes "a.c s o 100000000 x\n\n") ≡ Ok (record { source = codes "a.c"; script = Some (codes "s"); output = Some (codes "o"); bound = 100000000; expected = codes "x" } ∷ [])
ended = refl

-- EXPECTED may begin with a space, and have more of them
spaced : cases_of (codes "a b c 2  x  y ") ≡ Ok (record { source = codes "a"; script = Some (codes "b"); output = Some (codes "c"); bound = 2; expected = codes " x  y " } ∷ [])
spaced = refl

-- a line of four words has no reading, and is counted with those that say nothing
four_words : cases_of (codes "#\n\na - - 2") ≡ Err (error.BadLine 3)
four_words = refl

no_expected : cases_of (codes "a - - 2 ") ≡ Err (error.BadLine 1)
no_expected = refl

-- two spaces have an empty word between them
two_spaces : cases_of (codes "a  - - 2 x") ≡ Err (error.BadLine 1)
two_spaces = refl

-- a byte that no word has: a tab, 127, a space before the line
not_plain : (cases_of (codes "a\tb - - 2 x") ≡ Err (error.BadLine 1)) × (cases_of (127 ∷ codes " - - 2 x") ≡ Err (error.BadLine 1)) × (cases_of (codes " a - - 2 x") ≡ Err (error.BadLine 1))
not_plain = (refl, refl, refl)

nothing_said : cases_of [] ≡ Ok []
nothing_said = refl

-- ---- bounds (worked: bound_in)

bounds : (bound_in (codes "1") ≡ Some 1) × (bound_in (codes "100000000") ≡ Some 100000000) × (bound_in (codes "100000001") ≡ None)
    × (bound_in (codes "0") ≡ None) × (bound_in (codes "01") ≡ None) × (bound_in [] ≡ None) × (bound_in (codes "1x") ≡ None) × (bound_in (codes "+1") ≡ None)
bounds = (refl, refl, refl, refl, refl, refl, refl, refl)

-- ---- what is told (worked: suite_text, suite_status)

passing : suite_text (told_of 1 (record { line = codes "turns bound=2"; output = None }) (record { line = codes "turns bound=2\n"; output = []; clause = None }) ∷ [])
    ≡ (((codes "pass " ++ decimal 1 ++ line_feed) ++ []) ++ []) ++ (codes "suite cases=" ++ decimal 1 ++ codes " passed=" ++ decimal 1 ++ line_feed)
unfolding all_clauses
passing = refl

failing : suite_text (told_of 1 (record { line = codes "turns bound=3"; output = None }) (record { line = codes "exit\n"; output = []; clause = None })
    ∷ told_of 2 (record { line = codes "x"; output = None }) (record { line = codes "undefined\n"; output = []; clause = Some (codes "6.5.7p4") }) ∷ [])
    ≡ (((codes "fail " ++ decimal 1 ++ codes " line " ++ codes "exit\n") ++ ((codes "fail " ++ decimal 2 ++ codes " line " ++ codes "undefined\n") ++ []))
    ++ ((codes "clause 6.5.7p4 cases=" ++ decimal 1 ++ line_feed) ++ []))
    ++ (codes "suite cases=" ++ decimal 2 ++ codes " passed=" ++ decimal 0 ++ line_feed)
unfolding all_clauses
failing = refl

-- an output that differs, one that ends early and one that goes on: the length of what is common
of_output : (told_of 3 (record { line = codes "e"; output = Some (codes "help") }) (record { line = codes "e\n"; output = codes "hello"; clause = None })
    ≡ record { line = codes "fail " ++ decimal 3 ++ codes " output at=" ++ decimal 3 ++ line_feed; passed = false; clause = None })
    × (told_of 3 (record { line = codes "e"; output = Some (codes "ab") }) (record { line = codes "e\n"; output = codes "a"; clause = None })
    ≡ record { line = codes "fail " ++ decimal 3 ++ codes " output at=" ++ decimal 1 ++ line_feed; passed = false; clause = None })
    × (told_of 3 (record { line = codes "e"; output = Some [] }) (record { line = codes "e\n"; output = codes "a"; clause = None })
    ≡ record { line = codes "fail " ++ decimal 3 ++ codes " output at=" ++ decimal 0 ++ line_feed; passed = false; clause = None })
of_output = (refl, refl, refl)

-- a case that ends in another way is told by its line, whatever it printed
line_first : told_of 1 (record { line = codes "e"; output = Some (codes "x") }) (record { line = codes "f\n"; output = codes "y"; clause = None })
    ≡ record { line = codes "fail " ++ decimal 1 ++ codes " line " ++ codes "f\n"; passed = false; clause = None }
line_first = refl

statuses : (suite_status (told_of 1 (record { line = codes "e"; output = None }) (record { line = codes "e\n"; output = codes "x"; clause = None }) ∷ []) ≡ 0)
    × (suite_status (told_of 1 (record { line = codes "e"; output = Some [] }) (record { line = codes "e\n"; output = codes "x"; clause = None }) ∷ []) ≡ 15)
    × (suite_status [] ≡ 0)
statuses = (refl, refl, refl)

refusals : (list_line error.Size ≡ codes "list reason=size\n") × (list_line (error.BadLine 7) ≡ codes "list reason=line line=" ++ decimal 7 ++ line_feed)
    × (long_line 2 ≡ codes "list reason=output case=" ++ decimal 2 ++ line_feed)
refusals = (refl, refl, refl)
