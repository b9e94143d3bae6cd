-- Where a script denies a request, it is one for an allocation (C17 7.22.3p1).
use Rattle.std.proofs.Common.{◌≡◌, ℕ, ◌+◌, Bool, true, false, ◌&&◌, List, [], ◌∷◌, ◌++◌, length, map, Option, Some, None, Result, Ok, Err, refl, subst}
use Rattle.std.specs.Prelude.{if◌then◌else◌, nat_lt, nat_eq, option_map, option_and_then, codes}
use Rattle.std.specs.List.{slice_split}
use Rattle.std.specs.Str.{bytes_eq}
use Rattle.std.proofs.lemmas.Slice.Eq.{bytes_eq-Decides}
use Rattle.pv_script.specs.declared.script.Place.{Place}
use Rattle.pv_script.specs.declared.script.Place.TheVariants.{At, Null}
use Rattle.pv_script.specs.declared.scripts.ScriptError.{ScriptError}
use Rattle.pv_script.specs.Lines.{ScriptLine}
use Rattle.pv_script.specs.Words.{is_name, count_in, address_in, place_in}
use Rattle.pv_script.specs.Scripts.{says_nothing, said_in, NumberedLine, first_same, unless_same, after_said, after_line, and_then, after_lines, all_said, script_of}
use Rattle.pv_script.specs.ScriptParts.{line_said}
use Rattle.pv_script.specs.Places.{place_of}
use Rattle.pv_typed.specs.Mains.{heap_text}
use Rattle.pv_verdicts.specs.Own.{DeniesHeap}

-- a place that denies a request stands behind the name of allocations alone
abbrev Allots : List ℕ → Option Place → Type 0
Allots name None = Unit {0}
Allots name (Some (At base)) = Unit {0}
Allots name (Some Null) = name ≡ heap_text

abbrev AllotsLine : Option ScriptLine → Type 0
AllotsLine None = Unit {0}
AllotsLine (Some l) = Allots l.name (Some l.place)

abbrev AllAllot : List ScriptLine → Type 0
AllAllot [] = Unit {0}
AllAllot (l ∷ ls) = Allots l.name (Some l.place) × AllAllot ls

abbrev AllNumbered : List NumberedLine → Type 0
AllNumbered [] = Unit {0}
AllNumbered (e ∷ es) = Allots e.says.name (Some e.says.place) × AllNumbered es

abbrev Answered : Result (List NumberedLine) ScriptError → Type 0
Answered (Ok es) = AllNumbered es
Answered (Err e) = Unit {0}

-- ---- one line

place_allots : (name text : List ℕ) → Allots name (place_in name text)
place_allots name text = by (bytes_eq text (codes "null")) (bytes_eq name (codes "@heap")) refl (address_in text)
  where
    by : (b c : Bool) → bytes_eq name (codes "@heap") ≡ c → (o : Option ℕ) → Allots name (if b then (if c then Some Null else None) else option_map At o)
    by true true e o = (bytes_eq-Decides name (codes "@heap")).0 e
    by true false e o = tt
    by false c e None = tt
    by false c e (Some a) = tt

behind_allots : (name : List ℕ) (k : ℕ) (o : Option Place) → Allots name o → AllotsLine (option_map (λ p. record { name = name; k = k; place = p }) o)
behind_allots name k None h = tt
behind_allots name k (Some p) h = h

counted_allots : (name place : List ℕ) (o : Option ℕ) → AllotsLine (option_and_then (λ k. option_map (λ p. record { name = name; k = k; place = p }) (place_in name place)) o)
counted_allots name place None = tt
counted_allots name place (Some k) = behind_allots name k (place_in name place) (place_allots name place)

line_if : (b : Bool) (o : Option ScriptLine) → AllotsLine o → AllotsLine (if b then o else None)
line_if true o h = h
line_if false o h = tt

said_allots : (parts : List (List ℕ)) → AllotsLine (said_in parts)
said_allots (name ∷ count ∷ place ∷ []) = line_if (is_name name) _ (counted_allots name place (count_in count))
said_allots (name ∷ count ∷ place ∷ more ∷ others) = tt
said_allots (name ∷ count ∷ []) = tt
said_allots (name ∷ []) = tt
said_allots [] = tt

-- ---- all lines

numbered_append : (xs ys : List NumberedLine) → AllNumbered xs → AllNumbered ys → AllNumbered (xs ++ ys)
numbered_append [] ys h g = g
numbered_append (x ∷ xs) ys h g = (h.0, numbered_append xs ys h.1 g)

unless_answered : (o : Option ℕ) (n : ℕ) (s : ScriptLine) (earlier : List NumberedLine) → Allots s.name (Some s.place) → AllNumbered earlier → Answered (unless_same o n s earlier)
unless_answered (Some first) n s earlier h g = tt
unless_answered None n s earlier h g = numbered_append earlier (record { says = s; at = n } ∷ []) g (h, tt)

said_answered : (o : Option ScriptLine) (n : ℕ) (earlier : List NumberedLine) → AllotsLine o → AllNumbered earlier → Answered (after_said o n earlier)
said_answered None n earlier h g = tt
said_answered (Some s) n earlier h g = unless_answered (first_same earlier s) n s earlier h g

answered_if : (b : Bool) (x y : Result (List NumberedLine) ScriptError) → Answered x → Answered y → Answered (if b then x else y)
answered_if true x y h g = h
answered_if false x y h g = g

line_answered : (n : ℕ) (line : List ℕ) (earlier : List NumberedLine) → AllNumbered earlier → Answered (after_line n line earlier)
line_answered n line earlier g =
    answered_if (says_nothing line) (Ok earlier) (after_said (line_said line) n earlier) g (said_answered (line_said line) n earlier (said_allots (slice_split (λ b. nat_eq b 32) line)) g)

then_answered : (r : Result (List NumberedLine) ScriptError) (f : List NumberedLine → Result (List NumberedLine) ScriptError) → Answered r → ((es : List NumberedLine) → AllNumbered es → Answered (f es)) → Answered (and_then r f)
then_answered (Err e) f h k = tt
then_answered (Ok es) f h k = k es h

lines_answered : (n : ℕ) (ls : List (List ℕ)) (earlier : List NumberedLine) → AllNumbered earlier → Answered (after_lines n ls earlier)
lines_answered n [] earlier g = g
lines_answered n (l ∷ ls) earlier g = then_answered (after_line n l earlier) (after_lines (n + 1) ls) (line_answered n l earlier g) (λ es h. lines_answered (n + 1) ls es h)

numbered_allot : (es : List NumberedLine) → AllNumbered es → AllAllot (map (λ e. e.says) es)
numbered_allot [] h = tt
numbered_allot (e ∷ es) h = (h.0, numbered_allot es h.1)

abbrev Spoken : Result (List ScriptLine) ScriptError → Type 0
Spoken (Ok ls) = AllAllot ls
Spoken (Err e) = Unit {0}

all_spoken : (r : Result (List NumberedLine) ScriptError) → Answered r → Spoken (all_said r)
all_spoken (Err e) h = tt
all_spoken (Ok es) h = numbered_allot es h

spoken_if : (b : Bool) (e : ScriptError) (r : Result (List ScriptLine) ScriptError) → Spoken r → Spoken (if b then Err e else r)
spoken_if true e r h = tt
spoken_if false e r h = h

script_allots : (text : List ℕ) (lines : List ScriptLine) → script_of text ≡ Ok lines → AllAllot lines
script_allots text lines e =
    let rows = slice_split (λ b. nat_eq b 10) text in
    subst Spoken e (spoken_if (nat_lt 65536 (length text)) _ (all_said (after_lines 1 rows [])) (all_spoken (after_lines 1 rows []) (lines_answered 1 rows [] tt)))

-- a request that is denied
denied_by : (lines : List ScriptLine) (text : List ℕ) (k : ℕ) → AllAllot lines → Allots text (place_of lines text k)
denied_by [] text k h = tt
denied_by (l ∷ ls) text k h = by (nat_eq l.k k) (bytes_eq l.name text) refl (denied_by ls text k h.1)
  where
    same : l.name ≡ text → Allots text (Some l.place)
    same e = subst (λ t. Allots t (Some l.place)) e h.0

    by : (b c : Bool) → bytes_eq l.name text ≡ c → Allots text (place_of ls text k) → Allots text (if b && c then Some l.place else place_of ls text k)
    by true true e g = same ((bytes_eq-Decides l.name text).0 e)
    by true false e g = g
    by false c e g = g

pub denied_heap : (source : List ℕ) (lines : List ScriptLine) → script_of source ≡ Ok lines → DeniesHeap lines
denied_heap source lines e text k at = subst (Allots text) at (denied_by lines text k (script_allots source lines e))
