-- Places that words are.
use Rattle.std.proofs.Common.{◌≡◌, ℕ, zero, suc, ◌+◌, ◌<◌, ◌≤◌, Bool, true, false, List, [], ◌∷◌, ◌++◌, length, map, drop, drop-cons, get_or, add-one, refl, sym, ap, ◌∙◌, subst, arith, append_assoc, is_some}
use Rattle.std.specs.Prelude.{Option, Some, None, option_map, option_and_then, unwrap_or, String, string_bytes}
use Rattle.std.specs.declared.alloc.Global.{Global}
use Rattle.pv_typed.specs.Known.{Each}
use Rattle.pv_typed.proofs.Each.{each_append}
use Rattle.pv_serve.specs.Words.{texts}
use Rattle.pv_state.specs.declared.words.Place.{Place}
use Rattle.pv_state.specs.declared.words.Place.TheVariants as place
use Rattle.pv_state.specs.Words.{place_in, places_in, or_end}
use Rattle.pv_state.specs.ReadWords.{IsWithin, ArePlaces, places_read}

-- the places that words are, where each is one
abbrev pub places_by : (bound : ℕ) → List (String Global) → List Place
places_by bound ws = unwrap_or (places_in bound (texts ws)) []

first_is : (p : Place) (o : Option (List Place)) → is_some (option_map (λ (ps : List Place). p ∷ ps) o) ≡ is_some o
first_is p None = refl
first_is p (Some ps) = refl

-- ---- whether each is a place

pub none_first : (bound : ℕ) (w : List ℕ) (ws : List (List ℕ)) → None ≡ place_in bound w → false ≡ is_some (places_in bound (w ∷ ws))
none_first bound w ws is = ap (λ (o : Option Place). is_some (option_and_then (λ p. option_map (λ (ps : List Place). p ∷ ps) (places_in bound ws)) o)) is

pub some_first : (bound : ℕ) (w : List ℕ) (ws : List (List ℕ)) (p : Place) (b : Bool) → Some p ≡ place_in bound w → b ≡ is_some (places_in bound ws) → b ≡ is_some (places_in bound (w ∷ ws))
some_first bound w ws p b is rest =
    rest ∙ sym (first_is p (places_in bound ws)) ∙ ap (λ (o : Option Place). is_some (option_and_then (λ p. option_map (λ (ps : List Place). p ∷ ps) (places_in bound ws)) o)) is

-- ---- one place more

by_first : (o : Option Place) (q : Option (List Place)) → is_some (option_and_then (λ p. option_map (λ (ps : List Place). p ∷ ps) q) o) ≡ true → is_some q ≡ true
by_first None q h = absurd cc
by_first (Some p) q h = sym (first_is p q) ∙ h

taken : (p : Place) (q : Option (List Place)) → is_some q ≡ true → unwrap_or (option_map (λ (ps : List Place). p ∷ ps) q) [] ≡ p ∷ unwrap_or q []
taken p None h = absurd cc
taken p (Some ps) h = refl

-- what is left while places are read
pub record Left (bound : ℕ) (ws : List (String Global)) (all : List Place) (before : List Place) : Type 0 where
  pub some : is_some (places_in bound (texts ws)) ≡ true
  pub same : before ++ places_by bound ws ≡ all

-- the bytes of a word
word_is : (ws : List (String Global)) (i : ℕ) (d : String Global) (a : List ℕ) → d ≡ get_or ws i d → a ≡ string_bytes d → a ≡ string_bytes (get_or ws i d)
word_is ws i d a ed ea = ea ∙ ap (λ (s : String Global). string_bytes s) ed

pub left_next : (bound : ℕ) (ws : List (String Global)) (i : ℕ) (d : String Global) (a : List ℕ) (p : Place) (all before new : List Place) → i < length ws → d ≡ get_or ws i d → a ≡ string_bytes d
    → Some p ≡ place_in bound a → new ≡ before ++ p ∷ [] → Left bound (drop i ws) all before → Left bound (drop (i + 1) ws) all new
left_next bound ws i d a p all before new lt ed ea found more left =
    let w = string_bytes (get_or ws i d) in
    let is : Some p ≡ place_in bound w = found ∙ ap (λ (x : List ℕ). place_in bound x) (word_is ws i d a ed ea) in
    let rest = drop (suc i) ws in
    let whole : Left bound (get_or ws i d ∷ rest) all before = subst (λ (xs : List (String Global)). Left bound xs all before) (drop-cons ws i d lt) left in
    let some : is_some (places_in bound (texts rest)) ≡ true = by_first (place_in bound w) (places_in bound (texts rest)) whole.some in
    let first : places_by bound (get_or ws i d ∷ rest) ≡ p ∷ places_by bound rest =
    ap (λ (o : Option Place). unwrap_or (option_and_then (λ p. option_map (λ (ps : List Place). p ∷ ps) (places_in bound (texts rest))) o) []) (sym is) ∙ taken p (places_in bound (texts rest)) some in
    let same : new ++ places_by bound rest ≡ all = ap (λ (ps : List Place). ps ++ places_by bound rest) more ∙ append_assoc before (p ∷ []) (places_by bound rest) ∙ ap (λ (ps : List Place). before ++ ps) (sym first) ∙ whole.same in
    rw add-one (record { some = some; same = same })

-- one that is none can't be there
pub left_none : (bound : ℕ) (ws : List (String Global)) (i : ℕ) (d : String Global) (a : List ℕ) (all before : List Place) → i < length ws → d ≡ get_or ws i d → a ≡ string_bytes d
    → None ≡ place_in bound a → Left bound (drop i ws) all before → ⊥
left_none bound ws i d a all before lt ed ea found left =
    let is : None ≡ place_in bound (string_bytes (get_or ws i d)) = found ∙ ap (λ (x : List ℕ). place_in bound x) (word_is ws i d a ed ea) in
    let whole : Left bound (get_or ws i d ∷ drop (suc i) ws) all before = subst (λ (xs : List (String Global)). Left bound xs all before) (drop-cons ws i d lt) left in
    no (none_first bound (string_bytes (get_or ws i d)) (texts (drop (suc i) ws)) is ∙ whole.some)
  where
    no : false ≡ true → ⊥
    no e = cc

-- nothing was read yet
pub left_first : (bound : ℕ) (ws : List (String Global)) (before : List Place) → before ≡ [] → ArePlaces bound (texts ws) → Left bound ws (places_by bound ws) before
left_first bound ws before is some = record { some = some; same = ap (λ (ps : List Place). ps ++ places_by bound ws) is }

-- all was read
pub left_last : (bound : ℕ) (ws : List (String Global)) (i : ℕ) (all before : List Place) → length ws ≤ i → Left bound (drop i ws) all before → before ≡ all
left_last bound ws i all before le left =
    sym (append_none before) ∙ subst (λ (xs : List (String Global)). before ++ places_by bound xs ≡ all) (drop_all i ws le) left.same
  where
    append_none : (xs : List Place) → xs ++ [] ≡ xs
    append_none [] = refl
    append_none (x ∷ xs) = ap (λ (ys : List Place). x ∷ ys) (append_none xs)

    drop_none : (i : ℕ) → ◌≡◌ {A = List (String Global)} (drop i []) []
    drop_none zero = refl
    drop_none (suc i) = refl

    drop_all : (i : ℕ) (xs : List (String Global)) → length xs ≤ i → drop i xs ≡ []
    drop_all i [] le = drop_none i
    drop_all zero (x ∷ xs) le = absurd (omega (arith, le))
    drop_all (suc i) (x ∷ xs) le = drop_all i xs (omega (arith, le))

-- where there are words, no end stands for them
pub named_places : (bound : ℕ) (ws : List (String Global)) → 0 < length ws → ArePlaces bound (texts ws) → places_by bound ws ≡ places_read bound (texts ws)
named_places bound [] some are = absurd (omega arith)
named_places bound (w ∷ ws) some are = by (place_in bound (string_bytes w)) (places_in bound (texts ws)) are
  where
    by : (o : Option Place) (q : Option (List Place)) → is_some (option_and_then (λ p. option_map (λ (ps : List Place). p ∷ ps) q) o) ≡ true
        → unwrap_or (option_and_then (λ p. option_map (λ (ps : List Place). p ∷ ps) q) o) [] ≡ or_end (unwrap_or (option_and_then (λ p. option_map (λ (ps : List Place). p ∷ ps) q) o) [])
    by None q h = absurd cc
    by (Some p) None h = absurd cc
    by (Some p) (Some ps) h = refl

-- where there are none, the end does
pub no_places : (bound : ℕ) (ws : List (String Global)) (new before : List Place) → length ws ≡ 0 → before ≡ [] → new ≡ before ++ place.End ∷ [] → new ≡ places_read bound (texts ws)
no_places bound [] new before none is more = more ∙ ap (λ (ps : List Place). ps ++ place.End ∷ []) is
no_places bound (w ∷ ws) new before none is more = absurd (omega arith)

-- where there is none yet, each is within the bound
pub each_none : (bound : ℕ) (before : List Place) → before ≡ [] → Each (IsWithin bound) before
each_none bound before is = subst (λ (ps : List Place). Each (IsWithin bound) ps) (sym is) tt

-- one more is within the bound
pub each_more : (bound : ℕ) (before new : List Place) (p : Place) → new ≡ before ++ p ∷ [] → Each (IsWithin bound) before → IsWithin bound p → Each (IsWithin bound) new
each_more bound before new p is all one = subst (λ (ps : List Place). Each (IsWithin bound) ps) (sym is) (each_append (IsWithin bound) before (p ∷ []) all (one, tt))
