-- What the map of a script's lines finds by a key is the first line for the name and the count.
use Rattle.std.proofs.Common.{◌≡◌, ℕ, zero, suc, ◌+◌, ◌*◌, ◌^◌, ◌<◌, Bool, true, false, ◌&&◌, cond, eqb, List, [], ◌∷◌, ◌++◌, length, map, get_or, Option, Some, None, All, refl, sym, ap, ◌∙◌, subst, arith, nat_cmp, nat_eq, ltb}
use Rattle.std.proofs.lemmas.Bool.{false≢true}
use Rattle.std.proofs.lemmas.Bool.Decides.{nat_tests}
use Rattle.std.proofs.lemmas.Option.{none-some, slice_get_within, get_or_from_slice_get}
use Rattle.std.proofs.lemmas.List.Elements.{All-push}
use Rattle.std.proofs.lemmas.Slice.Eq.{bytes_eq-Decides}
use Rattle.std.specs.List.{slice_get, list_any}
use Rattle.std.specs.Cmp.Lexicographic.{pointwise}
use Rattle.std.specs.Ordering.{is_eq, ordering_then}
use Rattle.std.specs.declared.cmp.Ordering.{Ordering}
use Rattle.std.specs.declared.cmp.Ordering.TheVariants.{Less, Equal, Greater}
use Rattle.std.specs.Option.{option_map}
use Rattle.std.specs.Map.{lookup}
use Rattle.std.specs.BTreeMap.{is_at}
use Rattle.std.specs.Str.{bytes_eq}
use Rattle.pv_script.specs.declared.script.Line.{Line}
use Rattle.pv_script.specs.Lines.{ScriptLine}
use Rattle.pv_script.specs.Places.{place_of}
use Rattle.pv_script.specs.Numbered.{numbered_line}
use Rattle.pv_script.specs.Scripts.{NumberedLine, first_same}
use Rattle.pv_script.specs.Names.{name_at}
use Rattle.pv_script.specs.Texts.{with_text}
use Rattle.pv_script.specs.Indexed.{line_for, first_place, has_key, key_cmp, IsNamed, IsIndexed}

-- what a script says, and which line says the same, are of the first line found
pub place_found : (es : List NumberedLine) (name : List ℕ) (k : ℕ) → place_of (map (λ (e : NumberedLine). e.says) es) name k ≡ option_map (λ (e : NumberedLine). e.says.place) (line_for es name k)
place_found [] name k = refl
place_found (e ∷ es) name k = by (eqb e.says.k k && bytes_eq e.says.name name) (place_found es name k)
  where
    by : (b : Bool) → place_of (map (λ (e : NumberedLine). e.says) es) name k ≡ option_map (λ (e : NumberedLine). e.says.place) (line_for es name k) → cond b (Some e.says.place) (place_of (map (λ (e : NumberedLine). e.says) es) name k) ≡ option_map (λ (e : NumberedLine). e.says.place) (cond b (Some e) (line_for es name k))
    by true rest = refl
    by false rest = rest

pub same_found : (es : List NumberedLine) (s : ScriptLine) → first_same es s ≡ option_map (λ (e : NumberedLine). e.at) (line_for es s.name s.k)
same_found [] s = refl
same_found (e ∷ es) s = by (eqb e.says.k s.k && bytes_eq e.says.name s.name) (same_found es s)
  where
    by : (b : Bool) → first_same es s ≡ option_map (λ (e : NumberedLine). e.at) (line_for es s.name s.k) → cond b (Some e.at) (first_same es s) ≡ option_map (λ (e : NumberedLine). e.at) (cond b (Some e) (line_for es s.name s.k))
    by true rest = refl
    by false rest = rest

bools_same : (b c : Bool) → (b ≡ true → c ≡ true) → (c ≡ true → b ≡ true) → b ≡ c
bools_same true c f g = sym (f refl)
bools_same false true f g = g refl
bools_same false false f g = refl

both : (b c : Bool) → b ≡ true → c ≡ true → (b && c) ≡ true
both true c h g = g
both false c h g = absurd (false≢true h)

halves : (b c : Bool) → (b && c) ≡ true → (b ≡ true) × (c ≡ true)
halves true c h = (refl, h)
halves false c h = absurd (false≢true h)

-- a line is for the name and the count
abbrev pub is_for : List ℕ → ℕ → Line → Bool
is_for name k l = eqb l.k k && bytes_eq l.name.items name

-- a number that alone has the name
abbrev pub IsOnly : List (List ℕ) → List ℕ → ℕ → Type 0
IsOnly names name n = (i : ℕ) → i < length names → name_at names i ≡ name → i ≡ n

-- by the name's number it is the same
same_test : (names : List (List ℕ)) (name : List ℕ) (n k : ℕ) (l : Line) → IsOnly names name n → slice_get names n ≡ Some name → IsNamed names l → has_key (n, k) l ≡ is_for name k l
same_test names name n k l only at known = bools_same _ _
    (λ h.
    let w = halves (eqb l.number n) (eqb l.k k) h in
    let same_number : l.number ≡ n = grind (arith, nat_tests) in
    let same_name : Some l.name.items ≡ Some name = sym known.named ∙ ap (slice_get names) same_number ∙ at in
    both _ _ w.1 ((bytes_eq-Decides l.name.items name).1 (cc)))
    (λ h.
    let w = halves (eqb l.k k) (bytes_eq l.name.items name) h in
    let same_name : l.name.items ≡ name = (bytes_eq-Decides l.name.items name).0 w.1 in
    let same_number : l.number ≡ n =
    only l.number (slice_get_within names l.number l.name.items known.named) (get_or_from_slice_get names l.number l.name.items [] known.named ∙ same_name) in
    both _ _ (grind (arith, nat_tests)) w.0)

-- tests that agree on all find the same place
same_place : (p q : Line → Bool) (ls : List Line) → All (λ (l : Line). p l ≡ q l) ls → first_place p ls ≡ first_place q ls
same_place p q [] h = refl
same_place p q (l ∷ ls) h =
    ap (λ b. cond b (Some 0) (option_map (λ i. i + 1) (first_place p ls))) (h 0 l (omega arith))
    ∙ ap (λ o. cond (q l) (Some 0) (option_map (λ i. i + 1) o)) (same_place p q ls (λ i d lt. h (suc i) d (omega arith)))

pub places_same : (names : List (List ℕ)) (ls : List Line) (name : List ℕ) (n k : ℕ) → IsOnly names name n → slice_get names n ≡ Some name → All (IsNamed names) ls → first_place (has_key (n, k)) ls ≡ first_place (is_for name k) ls
places_same names ls name n k only at known = same_place _ _ ls (λ i d lt. same_test names name n k (get_or ls i d) only at (known i d lt))

-- a line that is found stands at its place
pub found_there : (ls : List Line) (name : List ℕ) (k i : ℕ) (d : Line) → first_place (is_for name k) ls ≡ Some i → (i < length ls) × (line_for (map numbered_line ls) name k ≡ Some (numbered_line (get_or ls i d)))
found_there [] name k i d e = absurd (none-some i e)
found_there (l ∷ ls) name k i d e = by (is_for name k l) (first_place (is_for name k) ls) (λ j h. found_there ls name k j d h) refl e
  where
    by : (b : Bool) (o : Option ℕ) → ((j : ℕ) → first_place (is_for name k) ls ≡ Some j → (j < length ls) × (line_for (map numbered_line ls) name k ≡ Some (numbered_line (get_or ls j d)))) → first_place (is_for name k) ls ≡ o → cond b (Some 0) (option_map (λ i. i + 1) o) ≡ Some i → (i < suc (length ls)) × (cond b (Some (numbered_line l)) (line_for (map numbered_line ls) name k) ≡ Some (numbered_line (get_or (l ∷ ls) i d)))
    by true o rest h g = let z : i ≡ 0 = cc in (omega arith, ap (λ j. Some (numbered_line (get_or (l ∷ ls) j d))) (sym z))
    by false None rest h g = absurd (none-some i g)
    by false (Some j) rest h g =
        let same : i ≡ j + 1 = cc in
        let z : i ≡ suc j = omega arith in
        let w = rest j h in
        (omega (arith, w.0), w.1 ∙ ap (λ j. Some (numbered_line (get_or (l ∷ ls) j d))) (sym z))

pub found_nowhere : (ls : List Line) (name : List ℕ) (k : ℕ) → first_place (is_for name k) ls ≡ None → line_for (map numbered_line ls) name k ≡ None
found_nowhere [] name k e = refl
found_nowhere (l ∷ ls) name k e = by (is_for name k l) (first_place (is_for name k) ls) (found_nowhere ls name k) refl e
  where
    by : (b : Bool) (o : Option ℕ) → (first_place (is_for name k) ls ≡ None → line_for (map numbered_line ls) name k ≡ None) → first_place (is_for name k) ls ≡ o → cond b (Some 0) (option_map (λ i. i + 1) o) ≡ None → cond b (Some (numbered_line l)) (line_for (map numbered_line ls) name k) ≡ None
    by true o rest h g = absurd (none-some 0 (sym g))
    by false None rest h g = rest h
    by false (Some j) rest h g = absurd (none-some (j + 1) (sym g))

pub nowhere_found : (ls : List Line) (name : List ℕ) (k : ℕ) → line_for (map numbered_line ls) name k ≡ None → first_place (is_for name k) ls ≡ None
nowhere_found [] name k e = refl
nowhere_found (l ∷ ls) name k e = by (is_for name k l) (nowhere_found ls name k) e
  where
    by : (b : Bool) → (line_for (map numbered_line ls) name k ≡ None → first_place (is_for name k) ls ≡ None) → cond b (Some (numbered_line l)) (line_for (map numbered_line ls) name k) ≡ None → cond b (Some 0) (option_map (λ i. i + 1) (first_place (is_for name k) ls)) ≡ None
    by true rest g = absurd (none-some (numbered_line l) (sym g))
    by false rest g = ap (option_map (λ i. i + 1)) (rest g)

-- a name that is nowhere among the names has no line
pub unnamed : (names : List (List ℕ)) (ls : List Line) (name : List ℕ) (k : ℕ) → ((i : ℕ) → i < length names → name_at names i ≡ name → ⊥) → All (IsNamed names) ls → line_for (map numbered_line ls) name k ≡ None
unnamed names [] name k none known = refl
unnamed names (l ∷ ls) name k none known = by (is_for name k l) (unnamed names ls name k none (λ i d lt. known (suc i) d (omega arith))) refl
  where
    here : IsNamed names l
    here = known 0 l (omega arith)

    by : (b : Bool) → line_for (map numbered_line ls) name k ≡ None → is_for name k l ≡ b → cond b (Some (numbered_line l)) (line_for (map numbered_line ls) name k) ≡ None
    by true rest h =
        let w = halves (eqb l.k k) (bytes_eq l.name.items name) h in
        absurd (none l.number (slice_get_within names l.number l.name.items here.named) (get_or_from_slice_get names l.number l.name.items [] here.named ∙ (bytes_eq-Decides l.name.items name).0 w.1))
    by false rest h = rest

get_pushed : {X : Type 0} (xs ys : List X) (i : ℕ) (x : X) → slice_get xs i ≡ Some x → slice_get (xs ++ ys) i ≡ Some x
get_pushed [] ys i x e = absurd (none-some x e)
get_pushed (z ∷ xs) ys zero x e = e
get_pushed (z ∷ xs) ys (suc i) x e = get_pushed xs ys i x e

-- with more names a line still has its number
still_named : (names : List (List ℕ)) (text : List ℕ) (l : Line) → IsNamed names l → IsNamed (with_text names text) l
still_named names text l h = by (list_any (pointwise nat_eq text) names)
  where
    by : (b : Bool) → IsNamed (cond b names (names ++ (text ∷ []))) l
    by true = h
    by false = record { named = get_pushed names (text ∷ []) l.number l.name.items h.named }

pub more_names : (names : List (List ℕ)) (text : List ℕ) (ls : List Line) (es : List ((ℕ × ℕ) × ℕ)) → IsIndexed names ls es → IsIndexed (with_text names text) ls es
more_names names text ls es h = record { known = λ i d lt. still_named names text (get_or ls i d) (h.known i d lt); places = h.places }

number_is : (s q : ℕ) → is_eq (nat_cmp s q) ≡ eqb s q
number_is s q = by (ltb s q) (eqb s q) refl refl
  where
    by : (b c : Bool) → ltb s q ≡ b → eqb s q ≡ c → is_eq (cond b Less (cond c Equal Greater)) ≡ c
    by true true h g = absurd (grind (arith, nat_tests))
    by true false h g = refl
    by false true h g = refl
    by false false h g = refl

then_equal : (a b : Ordering) → is_eq (ordering_then a b) ≡ (is_eq a && is_eq b)
then_equal Less b = refl
then_equal Equal b = refl
then_equal Greater b = refl

at_is : (s q : ℕ × ℕ) → is_at (key_cmp s) q ≡ (eqb s.0 q.0 && eqb s.1 q.1)
at_is s q = then_equal (nat_cmp s.0 q.0) (nat_cmp s.1 q.1) ∙ ap (λ b. b && is_eq (nat_cmp s.1 q.1)) (number_is s.0 q.0) ∙ ap (λ b. eqb s.0 q.0 && b) (number_is s.1 q.1)

abbrev or_last : Option ℕ → Bool → ℕ → Option ℕ
or_last None b n = cond b (Some n) None
or_last (Some i) b n = Some i

first_pushed : (p : Line → Bool) (ls : List Line) (l : Line) → first_place p (ls ++ l ∷ []) ≡ or_last (first_place p ls) (p l) (length ls)
first_pushed p [] l = by (p l)
  where
    by : (b : Bool) → cond b (Some 0) (option_map (λ i. i + 1) None) ≡ cond b (Some 0) None
    by true = refl
    by false = refl
first_pushed p (x ∷ ls) l = ap (λ o. cond (p x) (Some 0) (option_map (λ i. i + 1) o)) (first_pushed p ls l) ∙ by (p x) (first_place p ls)
  where
    by : (b : Bool) (o : Option ℕ) → cond b (Some 0) (option_map (λ i. i + 1) (or_last o (p l) (length ls))) ≡ or_last (cond b (Some 0) (option_map (λ i. i + 1) o)) (p l) (suc (length ls))
    by true o = refl
    by false (Some i) = refl
    by false None = last (p l)
      where
        last : (b : Bool) → option_map (λ i. i + 1) (cond b (Some (length ls)) None) ≡ cond b (Some (suc (length ls))) None
        last true = ap Some (omega arith)
        last false = refl

-- one line more, with its place in the map
pub one_more : (names : List (List ℕ)) (ls : List Line) (es fs : List ((ℕ × ℕ) × ℕ)) (l : Line) → IsOnly names l.name.items l.number → IsIndexed names ls es → IsNamed names l → line_for (map numbered_line ls) l.name.items l.k ≡ None
    → ((q : ℕ × ℕ) → lookup (is_at (key_cmp q)) fs ≡ cond (is_at (key_cmp (l.number, l.k)) q) (Some (length ls)) (lookup (is_at (key_cmp q)) es)) → IsIndexed names (ls ++ l ∷ []) fs
one_more names ls es fs l only h named none updates = record {
  known = All-push (IsNamed names) ls l h.known named;
  places = λ q. updates q ∙ ap (λ b. cond b (Some (length ls)) (lookup (is_at (key_cmp q)) es)) (at_is (l.number, l.k) q) ∙ by q (has_key q l) refl ∙ sym (first_pushed (has_key q) ls l);
}
  where
    nowhere : first_place (has_key (l.number, l.k)) ls ≡ None
    nowhere = places_same names ls l.name.items l.number l.k only named.named h.known ∙ nowhere_found ls l.name.items l.k none

    by : (q : ℕ × ℕ) (b : Bool) → has_key q l ≡ b → cond b (Some (length ls)) (lookup (is_at (key_cmp q)) es) ≡ or_last (first_place (has_key q) ls) b (length ls)
    by q true e =
        let w = halves (eqb l.number q.0) (eqb l.k q.1) e in
        let number : l.number ≡ q.0 = grind (arith, nat_tests) in
        let count : l.k ≡ q.1 = grind (arith, nat_tests) in
        let same : ◌≡◌ {A = ℕ × ℕ} (l.number, l.k) q = ap (λ n. (n, l.k)) number ∙ ap (λ n. (q.0, n)) count in
        sym (ap (λ o. or_last o true (length ls)) (sym (ap (λ s. first_place (has_key s) ls) same) ∙ nowhere))
    by q false e = h.places q ∙ sym (or_none (first_place (has_key q) ls))
      where
        or_none : (o : Option ℕ) → or_last o false (length ls) ≡ o
        or_none None = refl
        or_none (Some i) = refl

-- the same by the facts that the calls tell
pub kept_more : (names more : List (List ℕ)) (text : List ℕ) (ls same all : List Line) (es fs : List ((ℕ × ℕ) × ℕ)) (l : Line) (q : ℕ × ℕ) (at : ℕ) → more ≡ with_text names text → text ≡ l.name.items → IsOnly more text l.number → slice_get more l.number ≡ Some text
    → IsIndexed names ls es → same ≡ ls → all ≡ same ++ l ∷ [] → line_for (map numbered_line ls) l.name.items l.k ≡ None → q ≡ (l.number, l.k) → at ≡ length same
    → ((p : ℕ × ℕ) → lookup (is_at (key_cmp p)) fs ≡ cond (is_at (key_cmp q) p) (Some at) (lookup (is_at (key_cmp p)) es)) → IsIndexed more all fs
kept_more names more text ls same all es fs l q at more_is text_is only there h same_is all_is none q_is at_is updates = subst (λ ms. IsIndexed more ms fs) (sym (all_is ∙ ap (λ ms. ms ++ l ∷ []) same_is))
    (one_more more ls es fs l (subst (λ t. IsOnly more t l.number) text_is only) before record { named = there ∙ ap Some text_is } none
    (λ p. updates p ∙ ap (λ s. cond (is_at (key_cmp s) p) (Some at) (lookup (is_at (key_cmp p)) es)) q_is ∙ ap (λ a. cond (is_at (key_cmp (l.number, l.k)) p) (Some a) (lookup (is_at (key_cmp p)) es)) (at_is ∙ ap length same_is)))
  where
    before : IsIndexed more ls es
    before = subst (λ ns. IsIndexed ns ls es) (sym more_is) (more_names names text ls es h)

-- what the map has at a key is the line, and where it has nothing there is none
by_name : (names : List (List ℕ)) (ls : List Line) (es : List ((ℕ × ℕ) × ℕ)) (name : List ℕ) (n k : ℕ) (q : ℕ × ℕ) → IsOnly names name n → slice_get names n ≡ Some name → IsIndexed names ls es → q ≡ (n, k) → first_place (is_for name k) ls ≡ lookup (is_at (key_cmp q)) es
by_name names ls es name n k q only at h q_is = sym (places_same names ls name n k only at h.known) ∙ ap (λ p. first_place (has_key p) ls) (sym q_is) ∙ sym (h.places q)

pub by_key : (names : List (List ℕ)) (ls : List Line) (es : List ((ℕ × ℕ) × ℕ)) (name : List ℕ) (n k : ℕ) (q : ℕ × ℕ) (i : ℕ) (d : Line) → IsOnly names name n → slice_get names n ≡ Some name → IsIndexed names ls es → q ≡ (n, k) → Some i ≡ lookup (is_at (key_cmp q)) es
    → line_for (map numbered_line ls) name k ≡ Some (numbered_line (get_or ls i d))
by_key names ls es name n k q i d only at h q_is e = (found_there ls name k i d (by_name names ls es name n k q only at h q_is ∙ sym e)).1

pub key_within : (names : List (List ℕ)) (ls : List Line) (es : List ((ℕ × ℕ) × ℕ)) (name : List ℕ) (n k : ℕ) (q : ℕ × ℕ) (i : ℕ) → IsOnly names name n → slice_get names n ≡ Some name → IsIndexed names ls es → q ≡ (n, k) → Some i ≡ lookup (is_at (key_cmp q)) es → i < length ls
key_within names ls es name n k q i only at h q_is e = within ls (by_name names ls es name n k q only at h q_is ∙ sym e)
  where
    within : (ms : List Line) → first_place (is_for name k) ms ≡ Some i → i < length ms
    within [] g = absurd (none-some i g)
    within (m ∷ ms) g = (found_there (m ∷ ms) name k i m g).0

pub none_by_key : (names : List (List ℕ)) (ls : List Line) (es : List ((ℕ × ℕ) × ℕ)) (name : List ℕ) (n k : ℕ) (q : ℕ × ℕ) → IsOnly names name n → slice_get names n ≡ Some name → IsIndexed names ls es → q ≡ (n, k) → None ≡ lookup (is_at (key_cmp q)) es → line_for (map numbered_line ls) name k ≡ None
none_by_key names ls es name n k q only at h q_is e = found_nowhere ls name k (by_name names ls es name n k q only at h q_is ∙ sym e)

-- what no earlier line says has no line
pub none_same : (es : List NumberedLine) (s : ScriptLine) → first_same es s ≡ None → line_for es s.name s.k ≡ None
none_same [] s e = refl
none_same (x ∷ es) s e = by (eqb x.says.k s.k && bytes_eq x.says.name s.name) (none_same es s) e
  where
    by : (b : Bool) → (first_same es s ≡ None → line_for es s.name s.k ≡ None) → cond b (Some x.at) (first_same es s) ≡ None → cond b (Some x) (line_for es s.name s.k) ≡ None
    by true rest g = absurd (none-some x.at (sym g))
    by false rest g = rest g
