-- Walks over instances, pairs and commands.
use Rattle.std.proofs.Common.{◌≡◌, ℕ, suc, ◌+◌, ◌<◌, ◌≤◌, Bool, true, false, ◌&&◌, cond, ltb, not, List, [], ◌∷◌, ◌++◌, length, map, drop, get_or, refl, sym, ap, ◌∙◌, arith, append_assoc, append-nil}
use Rattle.std.specs.Prelude.{Result, Ok, Err, OnOk}
use Rattle.std.proofs.lemmas.List.{drop_more, drop_all, length-map}
use Rattle.std.specs.List.{filter, flat_map, fold, count_by, insert, position_or_len}
use Rattle.pv_shown.specs.declared.reading.Command.{Command}
use Rattle.pv_shown.specs.declared.past.Life.{Life}
use Rattle.pv_shown.specs.declared.past.Tie.{Tie}
use Rattle.pv_journal.specs.Obeying.{Held}
use Rattle.pv_shown.specs.Shown.{Run, position_after, command_text, shown_from, is_live, live_line, pair_line, pair_lines, put_by_address, reaches, count_line}
use Rattle.pv_shown.specs.Recorded.{is_made, is_tied, lives_then, reaches_then, held_then, helds_then, bond_then, bonds_then}

-- ---- lines of what is left

-- one more
pub walk_more : {X : Type 0} (before behind : List X → List ℕ) (xs : List X) (i : ℕ) (d : X) (text more piece all : List ℕ) → i < length xs → more ≡ text ++ piece
    → before (get_or xs i d ∷ drop (i + 1) xs) ≡ piece ++ behind (drop (i + 1) xs) → text ++ before (drop i xs) ≡ all → more ++ behind (drop (i + 1) xs) ≡ all
walk_more before behind xs i d text more piece all lt adds one left =
    ap (λ t. t ++ behind (drop (i + 1) xs)) adds ∙ append_assoc text piece (behind (drop (i + 1) xs))
    ∙ ap (λ l. text ++ l) (sym one ∙ sym (ap before (drop_more xs i d lt))) ∙ left

-- none is left
pub walk_ends : {X : Type 0} (lines : List X → List ℕ) (xs : List X) (i : ℕ) (text all : List ℕ) → length xs ≤ i → lines [] ≡ [] → text ++ lines (drop i xs) ≡ all → text ≡ all
walk_ends lines xs i text all le none left = sym (append-nil text) ∙ ap (λ l. text ++ l) (sym none ∙ sym (ap lines (drop_all i xs le))) ∙ left

-- ---- those of a list that were there and are told

module _ {X Y : Type 0} (p : X → Bool) (q : Y → Bool) (f : X → Y) where
  abbrev pub told : List X → List Y
  told xs = filter q (map f (filter p xs))

  pub told_lines : (g : Y → List ℕ) (x : X) (rest : List X) → flat_map g (told (x ∷ rest)) ≡ cond (p x && q (f x)) (g (f x)) [] ++ flat_map g (told rest)
  told_lines g x rest = first (p x) ∙ second (p x) (q (f x))
    where
      first : (a : Bool) → flat_map g (filter q (map f (cond a (x ∷ filter p rest) (filter p rest)))) ≡ cond a (flat_map g (cond (q (f x)) (f x ∷ told rest) (told rest))) (flat_map g (told rest))
      first true = refl
      first false = refl

      second : (a b : Bool) → cond a (flat_map g (cond b (f x ∷ told rest) (told rest))) (flat_map g (told rest)) ≡ cond (a && b) (g (f x)) [] ++ flat_map g (told rest)
      second true true = refl
      second true false = refl
      second false b = refl

  pub told_fold : {Z : Type 0} (h : Z → Y → Z) (z : Z) (x : X) (rest : List X) → fold h z (told (x ∷ rest)) ≡ fold h (cond (p x && q (f x)) (h z (f x)) z) (told rest)
  told_fold h z x rest = first (p x) ∙ second (p x) (q (f x))
    where
      first : (a : Bool) → fold h z (filter q (map f (cond a (x ∷ filter p rest) (filter p rest)))) ≡ cond a (fold h z (cond (q (f x)) (f x ∷ told rest) (told rest))) (fold h z (told rest))
      first true = refl
      first false = refl

      second : (a b : Bool) → cond a (fold h z (cond b (f x ∷ told rest) (told rest))) (fold h z (told rest)) ≡ fold h (cond (a && b) (h z (f x)) z) (told rest)
      second true true = refl
      second true false = refl
      second false b = refl

  -- how many
  counted_from : (k : ℕ) (xs : List X) → fold (λ n y. n + cond (q y) 1 0) k (map f (filter p xs)) ≡ fold (λ n x. n + cond (p x && q (f x)) 1 0) k xs
  counted_from k [] = refl
  counted_from k (x ∷ xs) = by (λ n. counted_from n xs) (p x)
    where
      by : ((n : ℕ) → fold (λ n y. n + cond (q y) 1 0) n (map f (filter p xs)) ≡ fold (λ n x. n + cond (p x && q (f x)) 1 0) n xs) → (a : Bool) → fold (λ n y. n + cond (q y) 1 0) k (map f (cond a (x ∷ filter p xs) (filter p xs))) ≡ fold (λ n x. n + cond (p x && q (f x)) 1 0) (k + cond (a && q (f x)) 1 0) xs
      by rest true = rest (k + cond (q (f x)) 1 0)
      by rest false = let e : k ≡ k + 0 = omega arith in rest k ∙ ap (λ m. fold (λ n x. n + cond (p x && q (f x)) 1 0) m xs) e

  pub told_count : (xs : List X) → count_by q (map f (filter p xs)) ≡ count_by (λ x. p x && q (f x)) xs
  told_count xs = counted_from 0 xs

lengths_from : {X : Type 0} (p : X → Bool) (k : ℕ) (xs : List X) → fold (λ n x. n + cond (p x) 1 0) k xs ≡ k + length (filter p xs)
lengths_from p k [] = omega arith
lengths_from p k (x ∷ xs) = by (λ n. lengths_from p n xs) (p x)
  where
    by : ((n : ℕ) → fold (λ n x. n + cond (p x) 1 0) n xs ≡ n + length (filter p xs)) → (a : Bool) → fold (λ n x. n + cond (p x) 1 0) (k + cond a 1 0) xs ≡ k + length (cond a (x ∷ filter p xs) (filter p xs))
    by rest true = let e = rest (k + 1) in e ∙ (omega arith)
    by rest false = let e : k + 0 ≡ k = omega arith in ap (λ m. fold (λ n x. n + cond (p x) 1 0) m xs) e ∙ rest k

pub filter_count : {X : Type 0} (p : X → Bool) (xs : List X) → count_by p xs ≡ length (filter p xs)
filter_count p xs = let e = lengths_from p 0 xs in e ∙ (omega arith)

-- ---- instances that live

abbrev pub live_lines : List (List ℕ) → (n : ℕ) → List Life → List ℕ
live_lines names n xs = flat_map live_line (filter is_live (helds_then names n xs))

pub live_next : (names : List (List ℕ)) (n : ℕ) (xs : List Life) (i : ℕ) (d : Life) (text more all : List ℕ) → i < length xs
    → more ≡ text ++ cond (lives_then n (get_or xs i d)) (live_line (held_then names n (get_or xs i d))) []
    → text ++ live_lines names n (drop i xs) ≡ all → more ++ live_lines names n (drop (i + 1) xs) ≡ all
live_next names n xs i d text more all lt adds left =
    walk_more (live_lines names n) (live_lines names n) xs i d text more _ all lt adds (told_lines (is_made n) is_live (held_then names n) live_line (get_or xs i d) (drop (i + 1) xs)) left

pub live_counted : (names : List (List ℕ)) (n : ℕ) (xs : List Life) → count_by (lives_then n) xs ≡ count_by is_live (helds_then names n xs)
live_counted names n xs = sym (told_count (is_made n) is_live (held_then names n) xs)

-- ---- pairs

abbrev pub tie_lines : List (List ℕ) → (n k : ℕ) → List Tie → List ℕ
tie_lines names n k bs = pair_lines k (bonds_then names n bs)

tie_step : (names : List (List ℕ)) (n k : ℕ) (b : Tie) (rest : List Tie)
    → tie_lines names n k (b ∷ rest) ≡ cond (is_tied n b) (pair_line k (bond_then names n b)) [] ++ tie_lines names n (cond (is_tied n b) (k + 1) k) rest
tie_step names n k b rest = by (is_tied n b)
  where
    by : (a : Bool) → pair_lines k (map (bond_then names n) (cond a (b ∷ filter (is_tied n) rest) (filter (is_tied n) rest)))
        ≡ cond a (pair_line k (bond_then names n b)) [] ++ tie_lines names n (cond a (k + 1) k) rest
    by true = refl
    by false = refl

pub tie_next : (names : List (List ℕ)) (n k next : ℕ) (bs : List Tie) (i : ℕ) (d : Tie) (text more all : List ℕ) → i < length bs → next ≡ cond (is_tied n (get_or bs i d)) (k + 1) k
    → more ≡ text ++ cond (is_tied n (get_or bs i d)) (pair_line k (bond_then names n (get_or bs i d))) []
    → text ++ tie_lines names n k (drop i bs) ≡ all → more ++ tie_lines names n next (drop (i + 1) bs) ≡ all
tie_next names n k next bs i d text more all lt is adds left =
    walk_more (tie_lines names n k) (tie_lines names n next) bs i d text more _ all lt adds
    (tie_step names n k (get_or bs i d) (drop (i + 1) bs)
    ∙ ap (λ m. cond (is_tied n (get_or bs i d)) (pair_line k (bond_then names n (get_or bs i d))) [] ++ tie_lines names n m (drop (i + 1) bs)) (sym is)) left

pub number_next : (a : Bool) (k next i : ℕ) → next ≡ cond a (k + 1) k → k ≤ i + 1 → next ≤ (i + 1) + 1
number_next true k next i e le = omega (arith, e, le)
number_next false k next i e le = omega (arith, e, le)

pub tied_counted : (names : List (List ℕ)) (n : ℕ) (bs : List Tie) → count_by (is_tied n) bs ≡ length (bonds_then names n bs)
tied_counted names n bs = filter_count (is_tied n) bs ∙ sym (length-map (filter (is_tied n) bs) (bond_then names n))

-- ---- what is at an address

pub found_next : (names : List (List ℕ)) (n a : ℕ) (xs : List Life) (i : ℕ) (d : Life) (ys zs all : List Held) → i < length xs
    → zs ≡ cond (reaches_then n a (get_or xs i d)) (put_by_address (held_then names n (get_or xs i d)) ys) ys
    → fold (λ ys x. put_by_address x ys) ys (filter (reaches a) (helds_then names n (drop i xs))) ≡ all → fold (λ ys x. put_by_address x ys) zs (filter (reaches a) (helds_then names n (drop (i + 1) xs))) ≡ all
found_next names n a xs i d ys zs all lt is left =
    ap (λ w. fold (λ ys x. put_by_address x ys) w (filter (reaches a) (helds_then names n (drop (i + 1) xs)))) is
    ∙ sym (told_fold (is_made n) (reaches a) (held_then names n) (λ ys x. put_by_address x ys) ys (get_or xs i d) (drop (i + 1) xs))
    ∙ sym (ap (λ l. fold (λ ys x. put_by_address x ys) ys (filter (reaches a) (helds_then names n l))) (drop_more xs i d lt)) ∙ left

pub found_ends : (names : List (List ℕ)) (n a : ℕ) (xs : List Life) (i : ℕ) (ys all : List Held) → length xs ≤ i
    → fold (λ ys x. put_by_address x ys) ys (filter (reaches a) (helds_then names n (drop i xs))) ≡ all → ys ≡ all
found_ends names n a xs i ys all le left = sym (ap (λ l. fold (λ ys x. put_by_address x ys) ys (filter (reaches a) (helds_then names n l))) (drop_all i xs le)) ∙ left

pub at_counted : (names : List (List ℕ)) (n a : ℕ) (xs : List Life) → count_by (reaches_then n a) xs ≡ count_by (reaches a) (helds_then names n xs)
at_counted names n a xs = sym (told_count (is_made n) (reaches a) (held_then names n) xs)

-- one put before the first that begins above it
pub put_placed : (names : List (List ℕ)) (n : ℕ) (x : Life) (ys : List Life)
    → map (held_then names n) (insert ys (position_or_len (λ y. ltb x.base y.base) ys) x) ≡ put_by_address (held_then names n x) (map (held_then names n) ys)
put_placed names n x [] = refl
put_placed names n x (y ∷ ys) = by (put_placed names n x ys) (ltb x.base y.base)
  where
    by : map (held_then names n) (insert ys (position_or_len (λ y. ltb x.base y.base) ys) x) ≡ put_by_address (held_then names n x) (map (held_then names n) ys) → (b : Bool) → map (held_then names n) (insert (y ∷ ys) (cond (not b) (1 + position_or_len (λ y. ltb x.base y.base) ys) 0) x)
        ≡ cond b (held_then names n x ∷ held_then names n y ∷ map (held_then names n) ys) (held_then names n y ∷ put_by_address (held_then names n x) (map (held_then names n) ys))
    by rest true = refl
    by rest false =
        let e : 1 + position_or_len (λ y. ltb x.base y.base) ys ≡ suc (position_or_len (λ y. ltb x.base y.base) ys) = omega arith in
        ap (λ m. map (held_then names n) (insert (y ∷ ys) m x)) e ∙ ap (λ l. held_then names n y ∷ l) rest

-- ---- commands

pub shown_next : (r : Run) (cs : List Command) (i n m : ℕ) (d : Command) (text more all : List ℕ) → i < length cs → m ≡ position_after r n (get_or cs i d)
    → more ≡ text ++ command_text r m (get_or cs i d) → text ++ shown_from r n (drop i cs) ≡ all → more ++ shown_from r m (drop (i + 1) cs) ≡ all
shown_next r cs i n m d text more all lt is adds left =
    walk_more (shown_from r n) (shown_from r m) cs i d text more (command_text r m (get_or cs i d)) all lt adds
    (ap (λ k. command_text r k (get_or cs i d) ++ shown_from r k (drop (i + 1) cs)) (sym is)) left

-- ---- lines and their count

pub two_parts : {E : Type 0} (old mid word part : List ℕ) (n m : ℕ) (new : List ℕ) (r : Result (Unit {0}) E) → mid ≡ old ++ part → n ≡ m → OnOk r (new ≡ mid ++ count_line word n) → OnOk r (new ≡ old ++ (part ++ count_line word m))
two_parts old mid word part n m new (Ok u) first same last =
    last ∙ ap (λ l. l ++ count_line word n) first ∙ append_assoc old part (count_line word n) ∙ ap (λ k. old ++ (part ++ count_line word k)) same
two_parts old mid word part n m new (Err e) first same last = tt
