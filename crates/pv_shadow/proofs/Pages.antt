-- What the pages of the code say is what the finite map says.
use Rattle.std.proofs.Common.{◌≡◌, ◌≢◌, ℕ, zero, suc, ◌+◌, ◌*◌, ◌-◌, ◌<◌, ◌≤◌, ◌/◌, ◌%◌, true, false, cond, eqb, length, set, drop, drop-cons, map, replicate, List, [], ◌∷◌, Option, Some, None, IsSome, unwrap_or, refl, sym, ap, ◌∙◌, subst, ◌⊎◌, inl, inr, ⊎_elim, arith, get_or, nat_cmp}
use Rattle.std.proofs.lemmas.Bool.{cases_lt, false≢true}
use Rattle.std.proofs.lemmas.Bool.Decides.{nat_tests}
use Rattle.std.proofs.lemmas.List.{get_or-set_same, get_or-set_other, length-set}
use Rattle.std.specs.Cmp.{unsigned_tied}
use Rattle.std.specs.FinMap.{get, get-empty, insert, remove}
use Rattle.std.specs.BTreeMap.{is_at}
use Rattle.pv_shadow.specs.declared.byte.Byte.{Byte}
use Rattle.pv_shadow.specs.Bytes.{Store, blank_byte, byte_at, bytes_from, with_bytes_at, with_blanks, without_bytes}
use Rattle.pv_shadow.specs.Readings.{HasBytes, HasNone}
use Rattle.pv_shadow.specs.Pages.{slot_at, with_slots, put_slot, put_page, store_of}
use Rattle.std.specs.Map.{lookup}
use Rattle.pv_shadow.proofs.Ranges.{IsOutside, alike, place_of, get-insert_here, get-insert_other, get-remove_here, get-remove_other, get-cleared_in, get-cleared_out}

-- the page with a number, if there is one
abbrev pub said_at : List (ℕ × List (Option Byte)) → ℕ → Option (List (Option Byte))
said_at es k = lookup (is_at (nat_cmp k)) es

-- what a page has at one of its places
abbrev pub slot_of : Option (List (Option Byte)) → ℕ → Option Byte
slot_of None j = None
slot_of (Some xs) j = slot_at xs j

get-put_slot_here : (m : Store) (a : ℕ) (x : Option Byte) (q : ℕ) → q ≡ a → get (put_slot m a x) q ≡ x
get-put_slot_here m a None q e = get-remove_here m a q e
get-put_slot_here m a (Some b) q e = get-insert_here m a b q e

get-put_slot_other : (m : Store) (a : ℕ) (x : Option Byte) (q : ℕ) → q ≢ a → get (put_slot m a x) q ≡ get m q
get-put_slot_other m a None q h = get-remove_other m a q h
get-put_slot_other m a (Some b) q h = get-insert_other m a b q h

later : (a n q : ℕ) → IsOutside a (suc n) q → IsOutside (a + 1) n q
later a n q (inl h) = inl (omega arith)
later a n q (inr h) = inr (omega arith)

not_first : (a n q : ℕ) → IsOutside a (suc n) q → q ≢ a
not_first a n q (inl h) = λ e. omega arith
not_first a n q (inr h) = λ e. omega arith

get-put_page_out : (n a : ℕ) (xs : List (Option Byte)) (m : Store) (q : ℕ) → IsOutside a n q → get (put_page n a xs m) q ≡ get m q
get-put_page_out zero a xs m q h = refl
get-put_page_out (suc n) a [] m q h = get-put_page_out n (a + 1) [] (remove m a) q (later a n q h) ∙ get-remove_other m a q (not_first a n q h)
get-put_page_out (suc n) a (x ∷ xs) m q h = get-put_page_out n (a + 1) xs (put_slot m a x) q (later a n q h) ∙ get-put_slot_other m a x q (not_first a n q h)

get-put_page_in : (n a : ℕ) (xs : List (Option Byte)) (m : Store) (i : ℕ) → i < n → get (put_page n a xs m) (a + i) ≡ get_or xs i None
get-put_page_in zero a xs m i h = absurd (omega arith)
get-put_page_in (suc n) a [] m zero h =
    get-put_page_out n (a + 1) [] (remove m a) (a + 0) (inl (omega arith)) ∙ get-remove_here m a (a + 0) (omega arith)
get-put_page_in (suc n) a [] m (suc i) h =
    let e : a + suc i ≡ (a + 1) + i = omega arith in
    ap (get (put_page n (a + 1) [] (remove m a))) e ∙ get-put_page_in n (a + 1) [] (remove m a) i (omega arith)
get-put_page_in (suc n) a (x ∷ xs) m zero h =
    get-put_page_out n (a + 1) xs (put_slot m a x) (a + 0) (inl (omega arith)) ∙ get-put_slot_here m a x (a + 0) (omega arith)
get-put_page_in (suc n) a (x ∷ xs) m (suc i) h =
    let e : a + suc i ≡ (a + 1) + i = omega arith in
    ap (get (put_page n (a + 1) xs (put_slot m a x))) e ∙ get-put_page_in n (a + 1) xs (put_slot m a x) i (omega arith)

-- a place lies in its page
pub within_page : (q : ℕ) → q % 256 < 256
within_page q = omega arith

same_page : (q k : ℕ) → q / 256 ≡ k → q ≡ k * 256 + q % 256
same_page q k e = omega arith

other_page : (q k : ℕ) → q / 256 ≢ k → IsOutside (k * 256) 256 q
other_page q k h = ⊎_elim (λ l. inl l) (λ l. ⊎_elim (λ r. absurd (h (omega arith))) (λ r. inr r) (cases_lt q (k * 256 + 256))) (cases_lt q (k * 256))

pub same_or_not : (k j : ℕ) → (k ≡ j) ⊎ (k ≢ j)
same_or_not k j = ⊎_elim (λ h. inr (λ e. omega arith)) (λ h. ⊎_elim (λ l. inr (λ e. omega arith)) (λ l. inl (omega arith)) (cases_lt j k)) (cases_lt k j)

pub eq_true : (q k : ℕ) → q ≡ k → is_at (nat_cmp q) k ≡ true
eq_true q k h = unsigned_tied q k ∙ (let t : eqb q k ≡ true = grind (arith, nat_tests) in t)

pub eq_false : (q k : ℕ) → q ≢ k → is_at (nat_cmp q) k ≡ false
eq_false q k h = unsigned_tied q k ∙ (let t : eqb q k ≡ false = grind (arith, nat_tests) in t)

-- what stands at an address is what its page has there
pub get_stored : (es : List (ℕ × List (Option Byte))) (q : ℕ) → get (store_of es) q ≡ slot_of (said_at es (q / 256)) (q % 256)
get_stored [] q = get-empty nat_cmp q
get_stored (e ∷ es) q = ⊎_elim
    (λ h. ap (get (store_of (e ∷ es))) (same_page q e.0 h) ∙ get-put_page_in 256 (e.0 * 256) e.1 (store_of es) (q % 256) (within_page q)
    ∙ sym (ap (λ b. slot_of (cond b (Some e.1) (said_at es (q / 256))) (q % 256)) (eq_true (q / 256) e.0 h)))
    (λ h. get-put_page_out 256 (e.0 * 256) e.1 (store_of es) q (other_page q e.0 h) ∙ get_stored es q
    ∙ sym (ap (λ b. slot_of (cond b (Some e.1) (said_at es (q / 256))) (q % 256)) (eq_false (q / 256) e.0 h)))
    (same_or_not (q / 256) e.0)

-- the places of a page from i on
pub with_slots_out : (xs : List (Option Byte)) (i : ℕ) (ys : List (Option Byte)) (j : ℕ) → IsOutside i (length ys) j → slot_at (with_slots xs i ys) j ≡ slot_at xs j
with_slots_out xs i [] j h = refl
with_slots_out xs i (y ∷ ys) j h = with_slots_out (set xs i y) (i + 1) ys j (later i (length ys) j h) ∙ get_or-set_other xs i j y None (not_first i (length ys) j h)

length_set : (xs : List (Option Byte)) (i : ℕ) (y : Option Byte) → length (set xs i y) ≡ length xs
length_set xs i y = length-set xs i y

pub with_slots_in : (xs : List (Option Byte)) (i : ℕ) (ys : List (Option Byte)) (k : ℕ) → i + length ys ≤ length xs → k < length ys → slot_at (with_slots xs i ys) (i + k) ≡ get_or ys k None
with_slots_in xs i [] k w h = absurd (omega arith)
with_slots_in xs i (y ∷ ys) zero w h =
    with_slots_out (set xs i y) (i + 1) ys (i + 0) (inl (omega arith)) ∙ ap (slot_at (set xs i y)) (let e : i + 0 ≡ i = omega arith in e) ∙ get_or-set_same xs i y None (omega arith)
with_slots_in xs i (y ∷ ys) (suc k) w h =
    let e : i + suc k ≡ (i + 1) + k = omega arith in
    let l = length_set xs i y in
    ap (slot_at (with_slots (set xs i y) (i + 1) ys)) e ∙ with_slots_in (set xs i y) (i + 1) ys k (omega arith) (omega arith)

pub length_with : (xs : List (Option Byte)) (i : ℕ) (ys : List (Option Byte)) → length (with_slots xs i ys) ≡ length xs
length_with xs i [] = refl
length_with xs i (y ∷ ys) = length_with (set xs i y) (i + 1) ys ∙ length_set xs i y

-- the bytes of addresses from a on, or none
abbrev pub put_slots : Store → ℕ → List (Option Byte) → Store
put_slots m a [] = m
put_slots m a (y ∷ ys) = put_slots (put_slot m a y) (a + 1) ys

put_slots_out : (m : Store) (a : ℕ) (ys : List (Option Byte)) (q : ℕ) → IsOutside a (length ys) q → get (put_slots m a ys) q ≡ get m q
put_slots_out m a [] q h = refl
put_slots_out m a (y ∷ ys) q h = put_slots_out (put_slot m a y) (a + 1) ys q (later a (length ys) q h) ∙ get-put_slot_other m a y q (not_first a (length ys) q h)

put_slots_in : (m : Store) (a : ℕ) (ys : List (Option Byte)) (k : ℕ) → k < length ys → get (put_slots m a ys) (a + k) ≡ get_or ys k None
put_slots_in m a [] k h = absurd (omega arith)
put_slots_in m a (y ∷ ys) zero h = put_slots_out (put_slot m a y) (a + 1) ys (a + 0) (inl (omega arith)) ∙ get-put_slot_here m a y (a + 0) (omega arith)
put_slots_in m a (y ∷ ys) (suc k) h =
    let e : a + suc k ≡ (a + 1) + k = omega arith in
    ap (get (put_slots (put_slot m a y) (a + 1) ys)) e ∙ put_slots_in (put_slot m a y) (a + 1) ys k (omega arith)

pub written_slots : (m : Store) (a : ℕ) (bs : List Byte) → put_slots m a (map Some bs) ≡ with_bytes_at m a bs
written_slots m a [] = refl
written_slots m a (b ∷ bs) = written_slots (insert m a b) (a + 1) bs

pub filled_slots : (m : Store) (a n : ℕ) (b : Byte) → put_slots m a (replicate n (Some b)) ≡ with_bytes_at m a (replicate n b)
filled_slots m a zero b = refl
filled_slots m a (suc n) b = filled_slots (insert m a b) (a + 1) n b

pub spread_slots : (m : Store) (a n : ℕ) → put_slots m a (replicate n (Some blank_byte)) ≡ with_blanks m a n
spread_slots m a zero = refl
spread_slots m a (suc n) = spread_slots (insert m a blank_byte) (a + 1) n

pub cleared_slots : (m : Store) (a n : ℕ) → put_slots m a (replicate n None) ≡ without_bytes m a n
cleared_slots m a zero = refl
cleared_slots m a (suc n) = cleared_slots (remove m a) (a + 1) n

-- entries that differ in a part of one page
module _ (es fs : List (ℕ × List (Option Byte))) (a : ℕ) (ys xs : List (Option Byte))
    (within : a % 256 + length ys ≤ 256) (wide : length xs ≡ 256)
    (was : (j : ℕ) → slot_of (said_at es (a / 256)) j ≡ slot_at xs j)
    (is : (k : ℕ) → said_at fs k ≡ cond (is_at (nat_cmp (a / 256)) k) (Some (with_slots xs (a % 256) ys)) (said_at es k)) where
  this_page : (q : ℕ) → q / 256 ≡ a / 256 → get (store_of fs) q ≡ slot_at (with_slots xs (a % 256) ys) (q % 256)
  this_page q e = get_stored fs q ∙ ap (λ o. slot_of o (q % 256)) (is (q / 256) ∙ ap (λ b. cond b (Some (with_slots xs (a % 256) ys)) (said_at es (q / 256))) (eq_true (a / 256) (q / 256) (sym e)))

  kept_there : (q : ℕ) → q / 256 ≡ a / 256 → slot_at xs (q % 256) ≡ get (store_of es) q
  kept_there q e = sym (was (q % 256)) ∙ ap (λ k. slot_of (said_at es k) (q % 256)) (sym e) ∙ sym (get_stored es q)

  other : (q : ℕ) → q / 256 ≢ a / 256 → get (store_of fs) q ≡ get (store_of es) q
  other q n = get_stored fs q ∙ ap (λ o. slot_of o (q % 256)) (is (q / 256) ∙ ap (λ b. cond b (Some (with_slots xs (a % 256) ys)) (said_at es (q / 256))) (eq_false (a / 256) (q / 256) (λ e. n (sym e)))) ∙ sym (get_stored es q)

  in_range : (q i : ℕ) → i < length ys → q ≡ a + i → get (store_of fs) q ≡ get (put_slots (store_of es) a ys) q
  in_range q i l e =
      let p : q / 256 ≡ a / 256 = omega arith in
      let j : q % 256 ≡ a % 256 + i = omega arith in
      this_page q p ∙ ap (slot_at (with_slots xs (a % 256) ys)) j ∙ with_slots_in xs (a % 256) ys i (omega arith) l
      ∙ sym (ap (get (put_slots (store_of es) a ys)) e ∙ put_slots_in (store_of es) a ys i l)

  out_range : (q : ℕ) → IsOutside a (length ys) q → get (store_of fs) q ≡ get (put_slots (store_of es) a ys) q
  out_range q o = ⊎_elim
      (λ e. this_page q e ∙ with_slots_out xs (a % 256) ys (q % 256) (⊎_elim (λ h. inl (omega arith)) (λ h. inr (omega arith)) o) ∙ kept_there q e ∙ sym (put_slots_out (store_of es) a ys q o))
      (λ n. other q n ∙ sym (put_slots_out (store_of es) a ys q o))
      (same_or_not (q / 256) (a / 256))

  pub changed : store_of fs ≡ put_slots (store_of es) a ys
  changed = alike _ _ (λ q. ⊎_elim (λ w. in_range q w.0 w.1 w.2) (λ o. out_range q o) (place_of a (length ys) q))

-- a page without bytes says nothing
pub none_there : (n j : ℕ) → slot_at (replicate n None) j ≡ None
none_there zero j = refl
none_there (suc n) zero = refl
none_there (suc n) (suc j) = none_there n j

pub dropped : (es fs : List (ℕ × List (Option Byte))) (k : ℕ) → ((j : ℕ) → slot_of (said_at es k) j ≡ None) → ((p : ℕ) → said_at fs p ≡ cond (is_at (nat_cmp k) p) None (said_at es p)) → store_of fs ≡ store_of es
dropped es fs k none is = alike _ _ (λ q. ⊎_elim
    (λ e. get_stored fs q ∙ ap (λ o. slot_of o (q % 256)) (is (q / 256) ∙ ap (λ b. cond b None (said_at es (q / 256))) (eq_true k (q / 256) (sym e)))
    ∙ sym (get_stored es q ∙ ap (λ p. slot_of (said_at es p) (q % 256)) e ∙ none (q % 256)))
    (λ n. get_stored fs q ∙ ap (λ o. slot_of o (q % 256)) (is (q / 256) ∙ ap (λ b. cond b None (said_at es (q / 256))) (eq_false k (q / 256) (λ e. n (sym e)))) ∙ sym (get_stored es q))
    (same_or_not (q / 256) k))

pub past_the_end : (xs : List (Option Byte)) (j : ℕ) → length xs ≤ j → slot_at xs j ≡ None
past_the_end [] j h = refl
past_the_end (x ∷ xs) zero h = absurd (omega arith)
past_the_end (x ∷ xs) (suc j) h = past_the_end xs j (omega arith)

-- a step of the loop over the places of a page
pub write_step : (xs : List (Option Byte)) (i k : ℕ) (bs : List Byte) (d : Byte) → k < length bs → with_slots (set xs (i + k) (Some (get_or bs k d))) (i + (k + 1)) (map Some (drop (k + 1) bs)) ≡ with_slots xs (i + k) (map Some (drop k bs))
write_step xs i k bs d h =
    let e : suc k ≡ k + 1 = omega arith in
    let f : (i + k) + 1 ≡ i + (k + 1) = omega arith in
    sym (ap (λ t. with_slots xs (i + k) (map Some t)) (drop-cons bs k d h ∙ ap (λ j. get_or bs k d ∷ drop j bs) e) ∙ ap (λ t. with_slots (set xs (i + k) (Some (get_or bs k d))) t (map Some (drop (k + 1) bs))) f)

-- a range in two parts
pub cleared_parts : (m : Store) (a k r : ℕ) → without_bytes m a (k + r) ≡ without_bytes (without_bytes m a k) (a + k) r
cleared_parts m a zero r = let z : 0 + r ≡ r = omega arith in let e : a ≡ a + 0 = omega arith in ap (without_bytes m a) z ∙ ap (λ b. without_bytes m b r) e
cleared_parts m a (suc k) r = let z : suc k + r ≡ suc (k + r) = omega arith in ap (without_bytes m a) z ∙ cleared_parts (remove m a) (a + 1) k r ∙ ap (λ b. without_bytes (without_bytes (remove m a) (a + 1) k) b r) (let e : (a + 1) + k ≡ a + suc k = omega arith in e)

pub spread_parts : (m : Store) (a k r : ℕ) → with_blanks m a (k + r) ≡ with_blanks (with_blanks m a k) (a + k) r
spread_parts m a zero r = let z : 0 + r ≡ r = omega arith in let e : a ≡ a + 0 = omega arith in ap (with_blanks m a) z ∙ ap (λ b. with_blanks m b r) e
spread_parts m a (suc k) r = let z : suc k + r ≡ suc (k + r) = omega arith in ap (with_blanks m a) z ∙ spread_parts (insert m a blank_byte) (a + 1) k r ∙ ap (λ b. with_blanks (with_blanks (insert m a blank_byte) (a + 1) k) b r) (let e : (a + 1) + k ≡ a + suc k = omega arith in e)

pub clear_step : (m : Store) (a i n size : ℕ) → n ≤ size - i → i ≤ size → without_bytes (without_bytes m (a + i) n) (a + (i + n)) (size - (i + n)) ≡ without_bytes m (a + i) (size - i)
clear_step m a i n size l h =
    let e : size - i ≡ n + (size - (i + n)) = omega arith in
    let f : (a + i) + n ≡ a + (i + n) = omega arith in
    sym (ap (without_bytes m (a + i)) e ∙ cleared_parts m (a + i) n (size - (i + n)) ∙ ap (λ b. without_bytes (without_bytes m (a + i) n) b (size - (i + n))) f)

pub spread_step : (m : Store) (a i n size : ℕ) → n ≤ size - i → i ≤ size → with_blanks (with_blanks m (a + i) n) (a + (i + n)) (size - (i + n)) ≡ with_blanks m (a + i) (size - i)
spread_step m a i n size l h =
    let e : size - i ≡ n + (size - (i + n)) = omega arith in
    let f : (a + i) + n ≡ a + (i + n) = omega arith in
    sym (ap (with_blanks m (a + i)) e ∙ spread_parts m (a + i) n (size - (i + n)) ∙ ap (λ b. with_blanks (with_blanks m (a + i) n) b (size - (i + n))) f)

filled_parts : (m : Store) (a k r : ℕ) (b : Byte) → with_bytes_at m a (replicate (k + r) b) ≡ with_bytes_at (with_bytes_at m a (replicate k b)) (a + k) (replicate r b)
filled_parts m a zero r b =
    let z : 0 + r ≡ r = omega arith in
    let e : a ≡ a + 0 = omega arith in
    ap (λ n. with_bytes_at m a (replicate n b)) z ∙ ap (λ c. with_bytes_at m c (replicate r b)) e
filled_parts m a (suc k) r b =
    let z : suc k + r ≡ suc (k + r) = omega arith in
    let e : (a + 1) + k ≡ a + suc k = omega arith in
    ap (λ n. with_bytes_at m a (replicate n b)) z ∙ filled_parts (insert m a b) (a + 1) k r b ∙ ap (λ c. with_bytes_at (with_bytes_at (insert m a b) (a + 1) (replicate k b)) c (replicate r b)) e

pub filled_step : (m : Store) (a i n size : ℕ) (b : Byte) → n ≤ size - i → i ≤ size → with_bytes_at (with_bytes_at m (a + i) (replicate n b)) (a + (i + n)) (replicate (size - (i + n)) b) ≡ with_bytes_at m (a + i) (replicate (size - i) b)
filled_step m a i n size b l h =
    let e : size - i ≡ n + (size - (i + n)) = omega arith in
    let f : (a + i) + n ≡ a + (i + n) = omega arith in
    sym (ap (λ k. with_bytes_at m (a + i) (replicate k b)) e ∙ filled_parts m (a + i) n (size - (i + n)) b ∙ ap (λ c. with_bytes_at (with_bytes_at m (a + i) (replicate n b)) c (replicate (size - (i + n)) b)) f)

-- the same, as the code has it: page and place are computed, and the page's new places have a name
pub changed_at : (es fs : List (ℕ × List (Option Byte))) (a : ℕ) (ys xs w : List (Option Byte)) (p i : ℕ) → a % 256 + length ys ≤ 256 → length xs ≡ 256
    → p ≡ a / 256 → i ≡ a % 256 → w ≡ with_slots xs i ys → ((j : ℕ) → slot_of (said_at es p) j ≡ slot_at xs j)
    → ((k : ℕ) → said_at fs k ≡ cond (is_at (nat_cmp p) k) (Some w) (said_at es k)) → store_of fs ≡ put_slots (store_of es) a ys
changed_at es fs a ys xs w p i within wide ep ei ew was is = changed es fs a ys xs within wide
    (λ j. ap (λ k. slot_of (said_at es k) j) (sym ep) ∙ was j)
    (λ k. is k ∙ ap (λ t. cond (is_at (nat_cmp t) k) (Some w) (said_at es k)) ep
    ∙ ap (λ t. cond (is_at (nat_cmp (a / 256)) k) (Some t) (said_at es k)) (ew ∙ ap (λ t. with_slots xs t ys) ei))

-- what stands at an address of a page that is there, or of one that is not
pub page_says : (es : List (ℕ × List (Option Byte))) (a k p i : ℕ) (xs : List (Option Byte)) → p ≡ a / 256 → i ≡ a % 256 → Some xs ≡ said_at es p → a % 256 + k < 256 → get (store_of es) (a + k) ≡ slot_at xs (i + k)
page_says es a k p i xs ep ei says few =
    let e : (a + k) / 256 ≡ a / 256 = omega arith in
    let f : (a + k) % 256 ≡ a % 256 + k = omega arith in
    get_stored es (a + k) ∙ ap (λ q. slot_of (said_at es q) ((a + k) % 256)) (e ∙ sym ep) ∙ ap (λ o. slot_of o ((a + k) % 256)) (sym says) ∙ ap (slot_at xs) (f ∙ ap (λ j. j + k) (sym ei))

pub no_page : (es : List (ℕ × List (Option Byte))) (a k p : ℕ) → p ≡ a / 256 → None ≡ said_at es p → a % 256 + k < 256 → get (store_of es) (a + k) ≡ None
no_page es a k p ep says few =
    let e : (a + k) / 256 ≡ a / 256 = omega arith in
    get_stored es (a + k) ∙ ap (λ q. slot_of (said_at es q) ((a + k) % 256)) (e ∙ sym ep) ∙ ap (λ o. slot_of o ((a + k) % 256)) (sym says)

-- where a range has bytes and its first address has none it is empty
pub none_written : (m : Store) (a : ℕ) (bs : List Byte) → HasBytes m a (length bs) → get m (a + 0) ≡ None → m ≡ with_bytes_at m a bs
none_written m a [] h e = refl
none_written m a (b ∷ bs) h e = let P : Option Byte → Type 0 = λ o. IsSome o in absurd (false≢true (subst P e (h 0 (omega arith))))

pub none_read : (m : Store) (a : ℕ) (bs : List Byte) → HasBytes m a (length bs) → get m (a + 0) ≡ None → bs ≡ bytes_from m a (length bs)
unfolding bytes_from
none_read m a [] h e = refl
none_read m a (b ∷ bs) h e = let P : Option Byte → Type 0 = λ o. IsSome o in absurd (false≢true (subst P e (h 0 (omega arith))))

pub none_cleared : (m : Store) (a n : ℕ) → HasNone m a n → m ≡ without_bytes m a n
none_cleared m a n none = alike _ _ (λ q. ⊎_elim
    (λ w. ap (get m) w.2 ∙ none w.0 w.1 ∙ sym (ap (get (without_bytes m a n)) w.2 ∙ get-cleared_in m a n w.0 w.1))
    (λ o. sym (get-cleared_out m a n q o))
    (place_of a n q))

pub slot_is : (m : Store) (o : Option Byte) (a : ℕ) → get m a ≡ o → IsSome o → o ≡ Some (byte_at m a)
slot_is m None a e h = absurd (false≢true h)
slot_is m (Some b) a e h = ap Some (sym (ap (λ (o : Option Byte). unwrap_or o blank_byte) e))
