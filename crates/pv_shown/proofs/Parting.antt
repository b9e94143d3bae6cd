-- Blocks of instances.
use Rattle.std.proofs.Common.{◌≡◌, ℕ, suc, ◌+◌, ◌<◌, ◌≤◌, ◌^◌, min, max, Bool, true, false, ◌&&◌, not, cond, eqb, leb, ltb, true≢false, List, [], ◌∷◌, ◌++◌, length, map, take, drop, get_or, Option, Some, None, refl, sym, ap, ◌∙◌, subst, arith, append_assoc, append-nil}
use Rattle.std.specs.Prelude.{Result, Ok, Err, OnOk}
use Rattle.std.proofs.lemmas.Bool.{and_parts, le-leb}
use Rattle.std.proofs.lemmas.Bool.Decides.{nat_tests}
use Rattle.std.proofs.lemmas.List.{take_min, drop_min, take_more, take_all, drop_more, take-append-drop, length-map, length-drop, map-append}
use Rattle.std.proofs.lemmas.List.Elements.{filter-append}
use Rattle.std.proofs.lemmas.List.Sums.{fold-append, count_by-le-length, sum_by-take-drop}
use Rattle.std.proofs.lemmas.Grind.{flat_map-append}
use Rattle.std.specs.List.{filter, flat_map, fold, list_all, count_by}
use Rattle.pv_journal.specs.Obeying.{Held}
use Rattle.pv_shown.specs.declared.past.Life.{Life}
use Rattle.pv_shown.specs.Shown.{is_live, live_line, put_by_address, by_base, reaches}
use Rattle.pv_shown.specs.Recorded.{came, is_made, lives_then, held_then, helds_then, EndsBy, AreEnds}
use Rattle.pv_shown.proofs.Lists.{all_push}
use Rattle.pv_shown.proofs.Walks.{live_lines, live_counted, filter_count}

-- ---- the first block

pub take_block : {X : Type 0} (xs : List X) → take (min (length xs) 256) xs ≡ take 256 xs
take_block xs = let e : min (length xs) 256 ≡ min 256 (length xs) = omega arith in ap (λ n. take n xs) e ∙ take_min 256 xs

pub drop_block : {X : Type 0} (xs : List X) → drop (min (length xs) 256) xs ≡ drop 256 xs
drop_block xs = let e : min (length xs) 256 ≡ min 256 (length xs) = omega arith in ap (λ n. drop n xs) e ∙ drop_min 256 xs

-- ---- the turn by which a block has ended

abbrev pub AllEnded : (last : ℕ) → List Life → Type 0
AllEnded last xs = (n : ℕ) → last ≤ n → list_all (λ (x : Life). came x.ended n) xs ≡ true

pub ended_more : (xs : List Life) (i : ℕ) (d : Life) (last turn : ℕ) → i < length xs → (get_or xs i d).ended ≡ Some turn → AllEnded last (take i xs) → AllEnded (max last turn) (take (i + 1) xs)
ended_more xs i d last turn lt at all n le =
    ap (list_all (λ (x : Life). came x.ended n)) (take_more xs i d lt)
    ∙ all_push (λ (x : Life). came x.ended n) (take i xs) (get_or xs i d) (all n (omega (arith, le))) (ap (λ o. came o n) at ∙ le-leb turn n (omega (arith, le)))

pub ended_all : (xs : List Life) (i last : ℕ) → length xs ≤ i → AllEnded last (take i xs) → AllEnded last xs
ended_all xs i last le all n l = ap (list_all (λ (x : Life). came x.ended n)) (sym (take_all i xs le)) ∙ all n l

-- ---- one block more

abbrev pub LeadsOn : (lives rest : List Life) → (ends : List (Option ℕ)) → Type 0
LeadsOn lives rest ends = (es : List (Option ℕ)) → AreEnds rest es → AreEnds lives (ends ++ es)

pub leads_first : (lives : List Life) (ends : List (Option ℕ)) → ends ≡ [] → LeadsOn lives lives ends
leads_first lives ends e es h = subst (λ l. AreEnds lives (l ++ es)) (sym e) h

pub leads_more : (lives rest others : List Life) (ends new : List (Option ℕ)) (end : Option ℕ) → EndsBy end (take 256 rest) → others ≡ drop 256 rest → new ≡ ends ++ end ∷ [] → LeadsOn lives rest ends → LeadsOn lives others new
leads_more lives rest others ends new end by behind pushed leads es h =
    subst (λ l. AreEnds lives (l ++ es)) (sym pushed)
    (subst (AreEnds lives) (sym (append_assoc ends (end ∷ []) es)) (leads (end ∷ es) (by, subst (λ l. AreEnds l es) behind h)))

pub leads_all : (lives rest : List Life) (ends : List (Option ℕ)) → LeadsOn lives rest ends → AreEnds lives ends
leads_all lives rest ends leads = subst (AreEnds lives) (append-nil ends) (leads [] tt)

pub less_left : {X : Type 0} (xs ys : List X) (b : Bool) → ys ≡ drop 256 xs → b ≡ eqb (length xs) 0 → b ≡ false → length ys < length xs
less_left [] ys b e is some = absurd (true≢false (sym is ∙ some))
less_left (x ∷ xs) ys b e is some = omega (arith, ap length e, length-drop 256 (x ∷ xs))

-- ---- walking by blocks

-- what is left of the ends, one block on
pub first_end : (rest : List Life) (ends : List (Option ℕ)) (i : ℕ) (d : Option ℕ) → i < length ends → AreEnds rest (drop i ends) → EndsBy (get_or ends i d) (take 256 rest) × AreEnds (drop 256 rest) (drop (i + 1) ends)
first_end rest ends i d lt h = subst (AreEnds rest) (drop_more ends i d lt) h

pub first_by : (rest block : List Life) (ends : List (Option ℕ)) (i : ℕ) (d : Option ℕ) → i < length ends → block ≡ take 256 rest → AreEnds rest (drop i ends) → EndsBy (get_or ends i d) block
first_by rest block ends i d lt first h = subst (λ xs. EndsBy (get_or ends i d) xs) (sym first) (first_end rest ends i d lt h).0

pub others_by : (rest others : List Life) (ends : List (Option ℕ)) (i : ℕ) → i < length ends → others ≡ drop 256 rest → AreEnds rest (drop i ends) → AreEnds others (drop (i + 1) ends)
others_by rest others ends i lt behind h = subst (λ xs. AreEnds xs (drop (i + 1) ends)) (sym behind) (first_end rest ends i None lt h).1

-- a block that is over tells nothing
none_told : (names : List (List ℕ)) (n : ℕ) (q : Held → Bool) → ((x : Held) → x.live ≡ false → q x ≡ false) → (xs : List Life) → list_all (λ (x : Life). came x.ended n) xs ≡ true → filter q (helds_then names n xs) ≡ []
none_told names n q dead [] all = refl
none_told names n q dead (x ∷ xs) all =
    let both = and_parts (came x.ended n) (list_all (λ (y : Life). came y.ended n) xs) all in
    by (none_told names n q dead xs both.1) (dead (held_then names n x) (ap not both.0)) (is_made n x)
  where
    by : filter q (helds_then names n xs) ≡ [] → q (held_then names n x) ≡ false → (a : Bool) → filter q (map (held_then names n) (cond a (x ∷ filter (is_made n) xs) (filter (is_made n) xs))) ≡ []
    by rest no_one true = ap (λ b. cond b (held_then names n x ∷ filter q (helds_then names n xs)) (filter q (helds_then names n xs))) no_one ∙ rest
    by rest no_one false = rest

over_ended : (end : Option ℕ) (n : ℕ) (xs : List Life) → EndsBy end xs → came end n ≡ true → list_all (λ (x : Life). came x.ended n) xs ≡ true
over_ended None n xs by over = absurd cc
over_ended (Some t) n xs by over = let le : t ≤ n = grind (arith, nat_tests) in by n le

pub over_lines : (names : List (List ℕ)) (n : ℕ) (end : Option ℕ) (xs : List Life) → EndsBy end xs → came end n ≡ true → live_lines names n xs ≡ []
over_lines names n end xs by over = ap (flat_map live_line) (none_told names n is_live (λ x e. e) xs (over_ended end n xs by over))

pub over_count : (n : ℕ) (end : Option ℕ) (xs : List Life) → EndsBy end xs → came end n ≡ true → 0 ≡ count_by (lives_then n) xs
over_count n end xs by over =
    sym (live_counted [] n xs ∙ filter_count is_live (helds_then [] n xs) ∙ ap length (none_told [] n is_live (λ x e. e) xs (over_ended end n xs by over)))

pub over_found : (names : List (List ℕ)) (n a : ℕ) (end : Option ℕ) (xs : List Life) (ys : List Held) → EndsBy end xs → came end n ≡ true
    → ys ≡ fold (λ zs x. put_by_address x zs) ys (filter (reaches a) (helds_then names n xs))
over_found names n a end xs ys by over =
    sym (ap (λ l. fold (λ zs x. put_by_address x zs) ys l) (none_told names n (reaches a) (λ x e. ap (λ b. b && (leb x.base a && leb a (x.base + x.size))) e) xs (over_ended end n xs by over)))

-- a block and what is behind it
split_told : (names : List (List ℕ)) (n : ℕ) (q : Held → Bool) (xs : List Life) → filter q (helds_then names n xs) ≡ filter q (helds_then names n (take 256 xs)) ++ filter q (helds_then names n (drop 256 xs))
split_told names n q xs =
    ap (λ l. filter q (helds_then names n l)) (sym (take-append-drop 256 xs))
    ∙ ap (λ l. filter q (map (held_then names n) l)) (filter-append (is_made n) (take 256 xs) (drop 256 xs))
    ∙ ap (filter q) (map-append (held_then names n) (filter (is_made n) (take 256 xs)) (filter (is_made n) (drop 256 xs)))
    ∙ filter-append q (helds_then names n (take 256 xs)) (helds_then names n (drop 256 xs))

pub lines_next : (names : List (List ℕ)) (n : ℕ) (rest block others : List Life) (text more all : List ℕ) → block ≡ take 256 rest → others ≡ drop 256 rest → more ≡ text ++ live_lines names n block
    → text ++ live_lines names n rest ≡ all → more ++ live_lines names n others ≡ all
lines_next names n rest block others text more all first behind adds left =
    let whole : live_lines names n rest ≡ live_lines names n (take 256 rest) ++ live_lines names n (drop 256 rest) =
    ap (flat_map live_line) (split_told names n is_live rest) ∙ flat_map-append live_line (filter is_live (helds_then names n (take 256 rest))) (filter is_live (helds_then names n (drop 256 rest))) in
    ap (λ l. l ++ live_lines names n others) (adds ∙ ap (λ b. text ++ live_lines names n b) first) ∙ ap (λ l. (text ++ live_lines names n (take 256 rest)) ++ live_lines names n l) behind
    ∙ append_assoc text (live_lines names n (take 256 rest)) (live_lines names n (drop 256 rest)) ∙ ap (λ l. text ++ l) (sym whole) ∙ left

pub count_next : (n : ℕ) (rest block others : List Life) (count k all : ℕ) → block ≡ take 256 rest → others ≡ drop 256 rest → k ≡ count_by (lives_then n) block
    → count + count_by (lives_then n) rest ≡ all → (count + k) + count_by (lives_then n) others ≡ all
count_next n rest block others count k all first behind is left =
    let parts = sum_by-take-drop (λ (x : Life). cond (lives_then n x) 1 0) rest 256 in
    let here = is ∙ ap (count_by (lives_then n)) first in
    let there = ap (count_by (lives_then n)) behind in
    omega (arith, parts, here, there, left)

pub count_fits : (n : ℕ) (rest block lives : List Life) (count k : ℕ) → block ≡ take 256 rest → k ≡ count_by (lives_then n) block → count + count_by (lives_then n) rest ≡ count_by (lives_then n) lives
    → length lives < 2 ^ 64 → count + k < 2 ^ 64
count_fits n rest block lives count k first is left short =
    let parts = sum_by-take-drop (λ (x : Life). cond (lives_then n x) 1 0) rest 256 in
    let here = is ∙ ap (count_by (lives_then n)) first in
    let few = count_by-le-length (lives_then n) lives in
    omega (arith, parts, here, left, few, short)

pub last_fits : (n : ℕ) (rest lives : List Life) (count k : ℕ) → k ≡ count_by (lives_then n) rest → count + count_by (lives_then n) rest ≡ count_by (lives_then n) lives → length lives < 2 ^ 64 → count + k < 2 ^ 64
last_fits n rest lives count k is left short = let few = count_by-le-length (lives_then n) lives in omega (arith, is, left, few, short)

pub found_block : (names : List (List ℕ)) (n a : ℕ) (rest block others : List Life) (ys zs all : List Held) → block ≡ take 256 rest → others ≡ drop 256 rest
    → zs ≡ fold (λ zs x. put_by_address x zs) ys (filter (reaches a) (helds_then names n block)) → fold (λ zs x. put_by_address x zs) ys (filter (reaches a) (helds_then names n rest)) ≡ all
    → fold (λ zs x. put_by_address x zs) zs (filter (reaches a) (helds_then names n others)) ≡ all
found_block names n a rest block others ys zs all first behind is left =
    ap (λ w. fold (λ zs x. put_by_address x zs) w (filter (reaches a) (helds_then names n others))) (is ∙ ap (λ b. fold (λ zs x. put_by_address x zs) ys (filter (reaches a) (helds_then names n b))) first)
    ∙ ap (λ l. fold (λ zs x. put_by_address x zs) (fold (λ zs x. put_by_address x zs) ys (filter (reaches a) (helds_then names n (take 256 rest)))) (filter (reaches a) (helds_then names n l))) behind
    ∙ sym (fold-append (λ zs x. put_by_address x zs) ys (filter (reaches a) (helds_then names n (take 256 rest))) (filter (reaches a) (helds_then names n (drop 256 rest))))
    ∙ ap (λ l. fold (λ zs x. put_by_address x zs) ys l) (sym (split_told names n (reaches a) rest)) ∙ left

-- ---- how many were found

placed_length : (x : Held) (ys : List Held) → length (put_by_address x ys) ≡ suc (length ys)
placed_length x [] = refl
placed_length x (y ∷ ys) = by (placed_length x ys) (ltb x.base y.base)
  where
    by : length (put_by_address x ys) ≡ suc (length ys) → (b : Bool) → length (cond b (x ∷ y ∷ ys) (y ∷ put_by_address x ys)) ≡ suc (suc (length ys))
    by rest true = refl
    by rest false = ap suc rest

all_placed : (ys xs : List Held) → length (fold (λ zs x. put_by_address x zs) ys xs) ≡ length ys + length xs
all_placed ys [] = omega arith
all_placed ys (x ∷ xs) = omega (arith, all_placed (put_by_address x ys) xs, placed_length x ys)

pub found_count : (names : List (List ℕ)) (n a : ℕ) (found : List Life) (hs : List Held) → map (held_then names n) found ≡ by_base (filter (reaches a) hs) → length found ≡ count_by (reaches a) hs
found_count names n a found hs is =
    sym (length-map found (held_then names n)) ∙ ap length is ∙ (let e = all_placed [] (filter (reaches a) hs) in e ∙ (omega arith)) ∙ sym (filter_count (reaches a) hs)

-- ---- the last part

pub then_all : {E : Type 0} (text part new all : List ℕ) (r : Result (Unit {0}) E) → OnOk r (new ≡ text ++ part) → text ++ part ≡ all → OnOk r (new ≡ all)
then_all text part new all (Ok u) adds left = adds ∙ left
then_all text part new all (Err e) adds left = tt
