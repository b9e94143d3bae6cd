-- What each change of a table tells passes, and leaves the state of the table after it.
use Rattle.std.proofs.Common.{◌≡◌, ◌≢◌, ℕ, zero, suc, ◌+◌, ◌-◌, ◌<◌, ◌≤◌, ◌^◌, Bool, true, false, ◌&&◌, ◌||◌, ◌==◌, eqb, leb, ltb, cond, not, List, [], ◌∷◌, ◌++◌, codes, length, get_or, set, map, All, Option, Some, None, if◌then◌else◌, refl, sym, ap, ◌∙◌, ◌⊎◌, inl, inr, arith, subst}
use Rattle.std.proofs.lemmas.Bool.Decides.{nat_tests, Decides-eqb}
use Rattle.std.proofs.lemmas.Bool.{and_parts, and_from, false≢true, ne_eqb}
use Rattle.std.proofs.lemmas.Slice.Eq.{bytes_eq-Decides}
use Rattle.std.proofs.lemmas.Option.{none-some, same_Some, slice_get-map}
use Rattle.std.proofs.lemmas.List.{map-set, length-map}
use Rattle.std.proofs.lemmas.List.Sums.{position_or_len_is}
use Rattle.std.specs.List.{position, position_or_len, slice_get, slice_set, sum_by, list_any, list_all, fold}
use Rattle.std.specs.Option.{option_and_then, option_map}
use Rattle.std.specs.Str.{bytes_eq}
use Rattle.pv_script.specs.Words.{is_name}
use Rattle.pv_script.specs.Names.{name_at}
use Rattle.pv_journal_laws.specs.Naming.{AreDistinct}
use Rattle.pv_prov.specs.declared.pairs.Twin.{Twin}
use Rattle.pv_inst.specs.declared.values.Instance.{Instance}
use Rattle.pv_inst.specs.Table.{Table, instance_at, with_instance, live_bytes, count_of}
use Rattle.pv_inst.specs.TableParts.{live_size as size_live}
use Rattle.pv_inst.specs.Placing.{first_overlap}
use Rattle.pv_inst.specs.Infos.{base_of}
use Rattle.pv_inst.proofs.Rows.{IsRow, row_found}
use Rattle.pv_inst.proofs.Apartness.{none_nearest}
use Rattle.pv_inst.proofs.Together.{slice_get-set_here, slice_get-set_other}
use Rattle.pv_inst.proofs.Meetings.{same_or_not}
use Rattle.pv_journal.specs.Journals.{Id, Fact, Made, Ended, Exposed, Paired, Used}
use Rattle.pv_journal.specs.Obeying.{Held, Bond, State, same_id, place_of, held_at, is_live, is_open, ends_at, begins_at, is_id, exceeds, overlaps, live_size, left_of, may_leave, may_make, may_pair, with_held, keeping, end_at, expose_at, at_held, use_at, after_fact}
use Rattle.pv_inst.specs.WellFormed.{HasMet, AreMet, Meet}
use Rattle.pv_prov.specs.Names.{twin_at, with_twin, after_narrowing}
use Rattle.pv_prov.specs.NameParts.{keeping as keeps}
use Rattle.pv_journal_laws.proofs.Telling.{known, id_of, id_by, id_at, held_of, bond_of, state_of, used_by, AreCalled}
use Rattle.pv_journal_laws.proofs.Parts.{bool_false, snoc_map}

-- ---- tests that are so

pub leb_so : (a b : ℕ) → a ≤ b → leb a b ≡ true
leb_so a b h = grind (arith, nat_tests)

pub ltb_so : (a b : ℕ) → a < b → ltb a b ≡ true
ltb_so a b h = grind (arith, nat_tests)

pub same_so : (a : Id) → same_id a a ≡ true
same_so a = and_from (eqb a.k a.k) (bytes_eq a.name a.name) ((Decides-eqb a.k a.k).1 refl) ((bytes_eq-Decides a.name a.name).1 refl)

pub same_is : (a b : Id) → same_id a b ≡ true → a ≡ b
same_is a b h =
    let q = and_parts (eqb a.k b.k) (bytes_eq a.name b.name) h in
    let name : a.name ≡ b.name = (bytes_eq-Decides a.name b.name).0 q.1 in
    let k : a.k ≡ b.k = (Decides-eqb a.k b.k).0 q.0 in
    λ i. record { name = name i; k = k i }

-- ---- where an instance stands

pub position_is : {X : Type 0} (p : X → Bool) (xs : List X) (i : ℕ) (d : X) → i < length xs → p (get_or xs i d) ≡ true → ((k : ℕ) → k < i → p (get_or xs k d) ≡ false) → position p xs ≡ Some i
position_is p xs i d within here before =
    let e : position_or_len p xs ≡ i = position_or_len_is p xs i d (omega (arith, within)) before (λ l. here) in
    ap (λ n. cond (ltb n (length xs)) (Some n) None) e ∙ ap (λ b. cond b (Some i) None) (ltb_so i (length xs) within)

get_or-map : {X Y : Type 0} (f : X → Y) (xs : List X) (k : ℕ) (d : X) → get_or (map f xs) k (f d) ≡ f (get_or xs k d)
get_or-map f [] k d = refl
get_or-map f (x ∷ xs) zero d = refl
get_or-map f (x ∷ xs) (suc k) d = get_or-map f xs k d

slice_at : {X : Type 0} (xs : List X) (k : ℕ) (d : X) → k < length xs → slice_get xs k ≡ Some (get_or xs k d)
slice_at [] k d h = absurd (omega (arith, h))
slice_at (x ∷ xs) zero d h = refl
slice_at (x ∷ xs) (suc k) d h = slice_at xs k d (omega (arith, h))

pub row_at : (xs : List Instance) (k : ℕ) (d : Instance) → k < length xs → instance_at xs (k + 1) ≡ Some (get_or xs k d)
row_at xs k d h =
    let one : eqb (k + 1) 0 ≡ false = ne_eqb (k + 1) 0 (λ e. by e) in
    let same : k + 1 - 1 ≡ k = omega arith in
    ap (λ b. cond b None (slice_get xs (k + 1 - 1))) one ∙ ap (slice_get xs) same ∙ slice_at xs k d h
  where
    by : k + 1 ≡ 0 → ⊥
    by e = omega (arith, e)

-- a row of a list to which more is added
pushed : {X : Type 0} (xs : List X) (y x : X) (k : ℕ) → slice_get xs k ≡ Some x → slice_get (xs ++ y ∷ []) k ≡ Some x
pushed [] y x k h = absurd (none-some x h)
pushed (z ∷ xs) y x zero h = h
pushed (z ∷ xs) y x (suc k) h = pushed xs y x k h

pushed_row : (xs : List Instance) (y x : Instance) (j : ℕ) → instance_at xs j ≡ Some x → instance_at (xs ++ y ∷ []) j ≡ Some x
pushed_row xs y x j h = by (eqb j 0) h
  where
    by : (b : Bool) → cond b None (slice_get xs (j - 1)) ≡ Some x → cond b None (slice_get (xs ++ y ∷ []) (j - 1)) ≡ Some x
    by true h = absurd (none-some x h)
    by false h = pushed xs y x (j - 1) h

map_same : {X Y : Type 0} (f g : X → Y) (P : X → Type 0) → ((x : X) → P x → f x ≡ g x) → (xs : List X) → All P xs → map f xs ≡ map g xs
map_same f g P h [] all = refl
map_same f g P h (x ∷ xs) all =
    let first : P x = all 0 x (omega arith) in
    λ i. h x first i ∷ map_same f g P h xs (λ k d l. all (suc k) d (omega (arith, l))) i

pub state_is : (a b : State) → a.held ≡ b.held → a.bonds ≡ b.bonds → a.turn ≡ b.turn → a.over ≡ b.over → a ≡ b
state_is a b h g t o = λ i. record { held = h i; bonds = g i; turn = t i; over = o i }

if_so : {A : Type 0} (b : Bool) (x : A) → b ≡ true → cond b (Some x) None ≡ Some x
if_so b x e = ap (λ c. cond c (Some x) None) e

-- who an instance is known as
pub known_as : (names : List (List ℕ)) (xs : List Instance) (i : ℕ) (x : Instance) → instance_at xs i ≡ Some x → known (map (held_of names) xs) i ≡ Some (id_of names x)
known_as names xs i x at = by (eqb i 0) at
  where
    by : (b : Bool) → cond b None (slice_get xs (i - 1)) ≡ Some x → cond b None (option_map (λ (h : Held). h.id) (slice_get (map (held_of names) xs) (i - 1))) ≡ Some (id_of names x)
    by true at = absurd (none-some x at)
    by false at = ap (option_map (λ (h : Held). h.id)) (slice_get-map (held_of names) xs (i - 1) ∙ ap (option_map (held_of names)) at)

-- ---- rows that change

module _ (names : List (List ℕ)) (distinct : AreDistinct names) where
  -- the place of an instance is its number, less one
  pub place_is : (T : Table) (i : ℕ) (x : Instance) → AreCalled names T → instance_at T.instances i ≡ Some x → IsRow T.instances i x → place_of (map (held_of names) T.instances) (id_of names x) ≡ Some (i - 1)
  place_is T i x called at r =
      let xs = T.instances in
      let p : Held → Bool = λ (h : Held). same_id h.id (id_of names x) in
      let within : i - 1 < length (map (held_of names) xs) = omega (arith, r.within, length-map xs (held_of names)) in
      let here : p (get_or (map (held_of names) xs) (i - 1) (held_of names x)) ≡ true = ap p (get_or-map (held_of names) xs (i - 1) x ∙ ap (held_of names) r.here) ∙ same_so (id_of names x) in
      position_is p (map (held_of names) xs) (i - 1) (held_of names x) within here (λ k l. ap p (get_or-map (held_of names) xs k x) ∙ bool_false _ (λ t. other k l t))
    where
      other : (k : ℕ) → k < i - 1 → same_id (id_of names (get_or T.instances k x)) (id_of names x) ≡ true → ⊥
      other k l t =
          let y = get_or T.instances k x in
          let inside : k < length T.instances = omega (arith, l, r.within) in
          let same : id_of names y ≡ id_of names x = same_is (id_of names y) (id_of names x) t in
          let text : name_at names y.name ≡ name_at names x.name = ap (λ (a : Id). a.name) same in
          let one : y.name ≡ x.name = distinct.distinct y.name x.name (called.within k x inside) (subst (λ (z : Instance). z.name < length names) r.here (called.within (i - 1) x r.within)) text in
          let e : k + 1 ≡ i = called.once (k + 1) i y x (row_at T.instances k x inside) at one (ap (λ (a : Id). a.k) same) in
          omega (arith, l, e)

  -- pairs of candidates are called as before where an instance keeps its name, its number and its place
  set_row : (xs : List Instance) (i j : ℕ) (x y : Instance) → IsRow xs i x → id_of names y ≡ id_of names x → y.base ≡ x.base
      → (id_by names (instance_at (with_instance xs i y) j) ≡ id_by names (instance_at xs j)) × (base_of (instance_at (with_instance xs i y) j) ≡ base_of (instance_at xs j))
  set_row xs i j x y r id base = by (eqb j 0) (same_or_not (i - 1) (j - 1))
    where
      by : (b : Bool) → (i - 1 ≡ j - 1) ⊎ (i - 1 ≢ j - 1)
          → (id_by names (cond b None (slice_get (set xs (i - 1) y) (j - 1))) ≡ id_by names (cond b None (slice_get xs (j - 1)))) × (base_of (cond b None (slice_get (set xs (i - 1) y) (j - 1))) ≡ base_of (cond b None (slice_get xs (j - 1))))
      by true h = (refl, refl)
      by false (inl e) =
          let new : slice_get (set xs (i - 1) y) (j - 1) ≡ Some y = subst (λ n. slice_get (set xs (i - 1) y) n ≡ Some y) e (slice_get-set_here xs (i - 1) y r.within) in
          let old : slice_get xs (j - 1) ≡ Some x = subst (λ n. slice_get xs n ≡ Some x) e r.got in
          (ap (id_by names) new ∙ id ∙ sym (ap (id_by names) old), ap base_of new ∙ base ∙ sym (ap base_of old))
      by false (inr n) =
          let same = slice_get-set_other xs (i - 1) (j - 1) y n in
          (ap (id_by names) same, ap base_of same)

  set_bonds : (xs : List Instance) (ts : List Twin) (i : ℕ) (x y : Instance) → IsRow xs i x → id_of names y ≡ id_of names x → y.base ≡ x.base
      → map (bond_of names xs) ts ≡ map (bond_of names (with_instance xs i y)) ts
  set_bonds xs [] i x y r id base = refl
  set_bonds xs (t ∷ ts) i x y r id base =
      let low = set_row xs i t.low x y r id base in
      let high = set_row xs i t.high x y r id base in
      λ n. record { address = sym high.1 n; low = sym low.0 n; high = sym high.0 n; keeps_low = t.keeps_low; keeps_high = t.keeps_high } ∷ set_bonds xs ts i x y r id base n

  -- what is done to the instance of a row
  row_done : (turn : ℕ) (over : Bool) (T : Table) (ts : List Twin) (i : ℕ) (x : Instance) → AreCalled names T → instance_at T.instances i ≡ Some x → IsRow T.instances i x
      → (f : ℕ → Held → Option State) → at_held (state_of names turn over T.instances ts) (id_of names x) f ≡ f (i - 1) (held_of names x)
  row_done turn over T ts i x called at r f =
      let s = state_of names turn over T.instances ts in
      ap (option_and_then (λ n. option_and_then (f n) (slice_get s.held n))) (place_is T i x called at r)
      ∙ ap (option_and_then (f (i - 1))) (slice_get-map (held_of names) T.instances (i - 1) ∙ ap (option_map (held_of names)) r.got)

  row_state : (turn : ℕ) (over : Bool) (xs : List Instance) (ts : List Twin) (i : ℕ) (x y : Instance) → IsRow xs i x → id_of names y ≡ id_of names x → y.base ≡ x.base
      → with_held (state_of names turn over xs ts) (i - 1) (held_of names y) ≡ state_of names turn over (with_instance xs i y) ts
  row_state turn over xs ts i x y r id base =
      state_is _ _ (sym (map-set (held_of names) xs (i - 1) y)) (set_bonds xs ts i x y r id base) refl refl

  -- an end
  pub end_passes : (turn : ℕ) (over : Bool) (T : Table) (i : ℕ) (x : Instance) → AreCalled names T → instance_at T.instances i ≡ Some x → IsRow T.instances i x → x.live ≡ true
      → after_fact (state_of names turn over T.instances T.pairs) (Ended (id_of names x)) ≡ Some (state_of names turn over (with_instance T.instances i (record x { live = false })) T.pairs)
  end_passes turn over T i x called at r live =
      let s = state_of names turn over T.instances T.pairs in
      row_done turn over T T.pairs i x called at r (λ n h. end_at s n h) ∙ if_so x.live _ live ∙ ap Some (row_state turn over T.instances T.pairs i x (record x { live = false }) r refl refl)

  -- an exposure
  pub expose_passes : (turn : ℕ) (over : Bool) (T : Table) (i : ℕ) (x : Instance) → AreCalled names T → instance_at T.instances i ≡ Some x → IsRow T.instances i x → (x.live && not x.exposed) ≡ true
      → after_fact (state_of names turn over T.instances T.pairs) (Exposed (id_of names x)) ≡ Some (state_of names turn over (with_instance T.instances i (record x { exposed = true })) T.pairs)
  expose_passes turn over T i x called at r new =
      let s = state_of names turn over T.instances T.pairs in
      row_done turn over T T.pairs i x called at r (λ n h. expose_at s n h) ∙ if_so (x.live && not x.exposed) _ new ∙ ap Some (row_state turn over T.instances T.pairs i x (record x { exposed = true }) r refl refl)

-- ---- rows that are made

all_rest : {X : Type 0} (P : X → Type 0) (x : X) (xs : List X) → All P (x ∷ xs) → All P xs
all_rest P x xs all k d l = all (suc k) d (omega (arith, l))

all_true : {X Y : Type 0} (p : Y → Bool) (f : X → Y) (xs : List X) → All (λ x. p (f x) ≡ true) xs → list_all p (map f xs) ≡ true
all_true p f [] all = refl
all_true p f (x ∷ xs) all = and_from (p (f x)) (list_all p (map f xs)) (all 0 x (omega arith)) (all_true p f xs (all_rest (λ x. p (f x) ≡ true) x xs all))

any_false : {X Y : Type 0} (p : Y → Bool) (f : X → Y) (xs : List X) → All (λ x. p (f x) ≡ false) xs → list_any p (map f xs) ≡ false
any_false p f [] all = refl
any_false p f (x ∷ xs) all =
    ap (λ b. b || list_any p (map f xs)) (all 0 x (omega arith)) ∙ any_false p f xs (all_rest (λ x. p (f x) ≡ false) x xs all)

sums_from : (names : List (List ℕ)) (n : ℕ) (xs : List Instance) → fold (λ a (x : Held). a + live_size x) n (map (held_of names) xs) ≡ fold (λ a (x : Instance). a + size_live x) n xs
sums_from names n [] = refl
sums_from names n (x ∷ xs) = sums_from names (n + size_live x) xs

sums : (names : List (List ℕ)) (xs : List Instance) → sum_by live_size (map (held_of names) xs) ≡ live_bytes xs
sums names xs = sums_from names 0 xs

pub met_rows : {P : Type 0} (xs : List Instance) (low high : ℕ) → AreMet xs low high → ((x y : Instance) → instance_at xs low ≡ Some x → instance_at xs high ≡ Some y → x.base + x.size ≡ y.base → P) → P
met_rows {P} xs low high h k = by (instance_at xs low) (instance_at xs high) refl refl h
  where
    by : (o p : Option Instance) → instance_at xs low ≡ o → instance_at xs high ≡ p → Meet o p → P
    by None p e f h = absurd h
    by (Some x) None e f h = absurd h
    by (Some x) (Some y) e f h = k x y e f h.2

module _ (names : List (List ℕ)) (distinct : AreDistinct names) where
  pushed_bonds : (xs : List Instance) (y : Instance) (ts : List Twin) → All (HasMet xs) ts → map (bond_of names xs) ts ≡ map (bond_of names (xs ++ y ∷ [])) ts
  pushed_bonds xs y ts met = map_same (bond_of names xs) (bond_of names (xs ++ y ∷ [])) (HasMet xs) (λ t h. one t h) ts met
    where
      one : (t : Twin) → HasMet xs t → bond_of names xs t ≡ bond_of names (xs ++ y ∷ []) t
      one t h = met_rows xs t.low t.high h (λ l g le ge m.
          let low : instance_at xs t.low ≡ instance_at (xs ++ y ∷ []) t.low = le ∙ sym (pushed_row xs y l t.low le) in
          let high : instance_at xs t.high ≡ instance_at (xs ++ y ∷ []) t.high = ge ∙ sym (pushed_row xs y g t.high ge) in
          λ n. record { address = base_of (high n); low = id_by names (low n); high = id_by names (high n); keeps_low = t.keeps_low; keeps_high = t.keeps_high })

  -- a creation
  pub make_passes : (turn : ℕ) (over : Bool) (T : Table) (x : Instance) → AreCalled names T → All (HasMet T.instances) T.pairs → x.live ≡ true → x.exposed ≡ false
      → x.name < length names → is_name (name_at names x.name) ≡ true → 1 ≤ x.k → count_of T x.name < x.k → x.k < 2 ^ 64 → 1 ≤ x.size → 4096 ≤ x.base → x.base + x.size ≤ 2 ^ 47
      → first_overlap T.instances x.base x.size ≡ None → live_bytes T.instances + x.size ≤ 2 ^ 24
      → after_fact (state_of names turn over T.instances T.pairs) (Made (id_of names x) x.base x.size) ≡ Some (state_of names turn over (T.instances ++ x ∷ []) T.pairs)
  make_passes turn over T x called met live hidden named valid one more few some low high free room =
      let xs = T.instances in
      let hs = map (held_of names) xs in
      let id = id_of names x in
      let exceed : list_all (exceeds id) hs ≡ true = all_true (exceeds id) (held_of names) xs (λ k d l. exceeding k d l) in
      let apart : list_any (overlaps x.base x.size) hs ≡ false = any_false (overlaps x.base x.size) (held_of names) xs (none_nearest x.base x.size None 1 xs free).1 in
      let sum : sum_by live_size hs + x.size ≤ 2 ^ 24 = (let e = sums names xs in omega (arith, e, room)) in
      let may : may_make hs id x.base x.size ≡ true =
      and_from (is_id id) _ (and_from (is_name id.name) _ valid (and_from (leb 1 x.k) (ltb x.k (2 ^ 64)) (leb_so 1 x.k one) (ltb_so x.k (2 ^ 64) few)))
      (and_from (list_all (exceeds id) hs) _ exceed (and_from (leb 1 x.size) _ (leb_so 1 x.size some) (and_from (leb 4096 x.base) _ (leb_so 4096 x.base low)
      (and_from (leb (x.base + x.size) (2 ^ 47)) _ (leb_so (x.base + x.size) (2 ^ 47) high) (and_from (not (list_any (overlaps x.base x.size) hs)) _ (ap not apart)
      (leb_so (sum_by live_size hs + x.size) (2 ^ 24) sum)))))) in
      let row : record { id = id; base = x.base; size = x.size; live = true; exposed = false } ≡ held_of names x = (λ n. record { id = id; base = x.base; size = x.size; live = sym live n; exposed = sym hidden n }) in
      if_so (may_make hs id x.base x.size) _ may ∙ ap Some (state_is _ _ (ap (λ h. hs ++ h ∷ []) row ∙ sym (snoc_map (held_of names) xs x)) (pushed_bonds xs x T.pairs met) refl refl)
    where
      exceeding : (k : ℕ) (d : Instance) → k < length T.instances → exceeds (id_of names x) (held_of names (get_or T.instances k d)) ≡ true
      exceeding k d l = by (bytes_eq (name_at names (get_or T.instances k d).name) (name_at names x.name)) ((bytes_eq-Decides (name_at names (get_or T.instances k d).name) (name_at names x.name)).0)
        where
          by : (b : Bool) → (b ≡ true → name_at names (get_or T.instances k d).name ≡ name_at names x.name) → (not b || ltb (get_or T.instances k d).k x.k) ≡ true
          by false f = refl
          by true f =
              let y = get_or T.instances k d in
              let same : y.name ≡ x.name = distinct.distinct y.name x.name (called.within k d l) named (f refl) in
              let counted = (called.counted k d l).1 in
              let less : y.k < x.k = (let e = ap (count_of T) same in omega (arith, counted, e, more)) in
              ltb_so y.k x.k less

  -- who an instance is found as
  held_is : (T : Table) (i : ℕ) (x : Instance) → AreCalled names T → instance_at T.instances i ≡ Some x → held_at (map (held_of names) T.instances) (id_of names x) ≡ Some (held_of names x)
  held_is T i x called at =
      let r = row_found T.instances i x (sym at) in
      ap (option_and_then (λ n. slice_get (map (held_of names) T.instances) n)) (place_is names distinct T i x called at r)
      ∙ slice_get-map (held_of names) T.instances (i - 1) ∙ ap (option_map (held_of names)) r.got

  -- a pair that is made
  pub pair_passes : (turn : ℕ) (over : Bool) (T : Table) (low high : ℕ) (x y : Instance) → AreCalled names T → instance_at T.instances low ≡ Some x → instance_at T.instances high ≡ Some y
      → x.live ≡ true → y.live ≡ true → x.exposed ≡ true → y.exposed ≡ true → x.base + x.size ≡ y.base
      → after_fact (state_of names turn over T.instances T.pairs) (Paired (length T.pairs + 1) y.base (id_of names x) (id_of names y)) ≡ Some (state_of names turn over T.instances (with_twin T.pairs low high))
  pair_passes turn over T low high x y called lat hat xl yl xe ye meet =
      let s = state_of names turn over T.instances T.pairs in
      let lo = held_is T low x called lat in
      let hi = held_is T high y called hat in
      let number : eqb (length T.pairs + 1) (length s.bonds + 1) ≡ true = (Decides-eqb (length T.pairs + 1) (length s.bonds + 1)).1 (ap (λ n. n + 1) (sym (length-map T.pairs (bond_of names T.instances)))) in
      let may : may_pair s (length T.pairs + 1) y.base (id_of names x) (id_of names y) ≡ true =
      and_from _ _ number (and_from _ _ (ap is_open lo ∙ and_from x.live x.exposed xl xe) (and_from _ _ (ap is_open hi ∙ and_from y.live y.exposed yl ye)
      (and_from _ _ (ap (λ o. ends_at o y.base) lo ∙ (Decides-eqb (x.base + x.size) y.base).1 meet) (ap (λ o. begins_at o y.base) hi ∙ (Decides-eqb y.base y.base).1 refl)))) in
      let t : Twin = record { low = low; high = high; keeps_low = true; keeps_high = true } in
      let bond : record { address = y.base; low = id_of names x; high = id_of names y; keeps_low = true; keeps_high = true } ≡ bond_of names T.instances t =
      (λ n. record { address = base_of (sym hat n); low = id_by names (sym lat n); high = id_by names (sym hat n); keeps_low = true; keeps_high = true }) in
      if_so (may_pair s (length T.pairs + 1) y.base (id_of names x) (id_of names y)) _ may
      ∙ ap Some (state_is _ _ refl (ap (λ b. s.bonds ++ b ∷ []) bond ∙ sym (snoc_map (bond_of names T.instances) T.pairs t)) refl refl)

-- ---- uses

-- what a use may leave, where it is known which of the two live
abbrev pub may_with : (lives others : Bool) → (name other : List ℕ) → (test : ℕ) → (low high : Bool) → Bool
may_with a b name other test low high =
    (not low || a) && ((not high || b) && (
    if test == 1 then (low || not a) && (high || not b)
    else if test == 3 then not (low && high) && bytes_eq (if low then name else other) (codes "@heap")
    else if test == 5 then not (low && high)
    else test == 2 || test == 4))

pub may_live : (a b : Bool) (name other : List ℕ) → may_with a b name other 1 a b ≡ true
may_live true true name other = refl
may_live true false name other = refl
may_live false true name other = refl
may_live false false name other = refl

pub may_range : (a b low high : Bool) (name other : List ℕ) → (low ≡ true → a ≡ true) → (high ≡ true → b ≡ true) → may_with a b name other 2 low high ≡ true
may_range a b true true name other f g = ap (λ c. c && (b && true)) (f refl) ∙ ap (λ c. c && true) (g refl)
may_range a b true false name other f g = ap (λ c. c && true) (f refl)
may_range a b false true name other f g = ap (λ c. c && true) (g refl)
may_range a b false false name other f g = refl

pub may_same : (a b low high : Bool) (name other : List ℕ) → (low ≡ true → a ≡ true) → (high ≡ true → b ≡ true) → may_with a b name other 4 low high ≡ true
may_same a b true true name other f g = ap (λ c. c && (b && true)) (f refl) ∙ ap (λ c. c && true) (g refl)
may_same a b true false name other f g = ap (λ c. c && true) (f refl)
may_same a b false true name other f g = ap (λ c. c && true) (g refl)
may_same a b false false name other f g = refl

pub may_code : (a b low high : Bool) (name other : List ℕ) → (low ≡ true → a ≡ true) → (high ≡ true → b ≡ true) → (low && high) ≡ false → may_with a b name other 5 low high ≡ true
may_code a b true true name other f g one = absurd (false≢true (sym one))
may_code a b true false name other f g one = ap (λ c. c && true) (f refl)
may_code a b false true name other f g one = ap (λ c. c && true) (g refl)
may_code a b false false name other f g one = refl

heap_so : (name : List ℕ) → name ≡ codes "@heap" → bytes_eq name (codes "@heap") ≡ true
heap_so name e = (bytes_eq-Decides name (codes "@heap")).1 e

pub may_block : (a b low high : Bool) (name other : List ℕ) → (low ≡ true → (a ≡ true) × (name ≡ codes "@heap")) → (high ≡ true → (b ≡ true) × (other ≡ codes "@heap")) → (low ≡ true) ⊎ (high ≡ true) → (low && high) ≡ false
    → may_with a b name other 3 low high ≡ true
may_block a b true true name other f g some one = absurd (false≢true (sym one))
may_block a b true false name other f g some one = ap (λ c. c && bytes_eq name (codes "@heap")) (f refl).0 ∙ heap_so name (f refl).1
may_block a b false true name other f g some one = ap (λ c. c && bytes_eq other (codes "@heap")) (g refl).0 ∙ heap_so other (g refl).1
may_block a b false false name other f g (inl e) one = absurd (false≢true e)
may_block a b false false name other f g (inr e) one = absurd (false≢true e)

module _ (names : List (List ℕ)) (distinct : AreDistinct names) where
  -- the use of a pair that keeps both
  pub use_passes : (turn : ℕ) (over : Bool) (T : Table) (k test : ℕ) (t : Twin) (x y : Instance) (low high : Bool) → AreCalled names T → 1 ≤ k → twin_at T.pairs k ≡ Some t
      → t.keeps_low ≡ true → t.keeps_high ≡ true → instance_at T.instances t.low ≡ Some x → instance_at T.instances t.high ≡ Some y → same_id (id_of names y) (id_of names x) ≡ false
      → may_with x.live y.live (name_at names x.name) (name_at names y.name) test low high ≡ true
      → (f : Fact) → used_by k test (bond_of names T.instances t) low high ≡ Some f
      → after_fact (state_of names turn over T.instances T.pairs) f ≡ Some (state_of names turn over T.instances (after_narrowing T.pairs k low high))
  use_passes turn over T k test t x y low high called one at kl kh lat hat differ may f told =
      let s = state_of names turn over T.instances T.pairs in
      let b = bond_of names T.instances t in
      let lo : b.low ≡ id_of names x = ap (id_by names) lat in
      let hi : b.high ≡ id_of names y = ap (id_by names) hat in
      let low_held : held_at s.held b.low ≡ Some (held_of names x) = ap (held_at s.held) lo ∙ held_is names distinct T t.low x called lat in
      let high_held : held_at s.held b.high ≡ Some (held_of names y) = ap (held_at s.held) hi ∙ held_is names distinct T t.high y called hat in
      let leaves : may_leave s.held b test low high ≡ true =
      ap (λ o. may_with (is_live o) (is_live (held_at s.held b.high)) b.low.name b.high.name test low high) low_held
      ∙ ap (λ o. may_with x.live (is_live o) b.low.name b.high.name test low high) high_held
      ∙ ap (λ (i : Id). may_with x.live y.live i.name b.high.name test low high) lo ∙ ap (λ (i : Id). may_with x.live y.live (name_at names x.name) i.name test low high) hi ∙ may in
      let got : slice_get s.bonds (k - 1) ≡ Some b = slice_get-map (bond_of names T.instances) T.pairs (k - 1) ∙ ap (option_map (bond_of names T.instances)) at in
      let both : (b.keeps_low && b.keeps_high) ≡ true = and_from t.keeps_low t.keeps_high kl kh in
      let new : record s { bonds = slice_set s.bonds (k - 1) (keeping b (low, high)) } ≡ state_of names turn over T.instances (after_narrowing T.pairs k low high) =
      state_is _ _ refl (sym (map-set (bond_of names T.instances) T.pairs (k - 1) (record { low = t.low; high = t.high; keeps_low = low; keeps_high = high })) ∙ ap (λ o. map (bond_of names T.instances) (keeps o T.pairs k low high)) (sym at)) refl refl in
      by low high told got both leaves new (subst (λ (i : Id). same_id b.high i ≡ false) (sym lo) (subst (λ (i : Id). same_id i (id_of names x) ≡ false) (sym hi) differ))
    where
      leave : (s : State) (first : Id) (second : Option Id) (l h : Bool) (U : State) → (b : Bond) → slice_get s.bonds (k - 1) ≡ Some b → (b.keeps_low && b.keeps_high) ≡ true → left_of b first second ≡ Some (l, h)
          → may_leave s.held b test l h ≡ true → record s { bonds = slice_set s.bonds (k - 1) (keeping b (l, h)) } ≡ U → after_fact s (Used k test first second) ≡ Some U
      leave s first second l h U b got both left leaves new =
          ap (λ c. cond c (option_and_then (λ b. use_at s (k - 1) test first second b) (slice_get s.bonds (k - 1))) None) (leb_so 1 k one)
          ∙ ap (option_and_then (λ b. use_at s (k - 1) test first second b)) got
          ∙ ap (λ c. cond c (option_and_then (λ kept. if may_leave s.held b test kept.0 kept.1 then Some (record s { bonds = slice_set s.bonds (k - 1) (keeping b kept) }) else None) (left_of b first second)) None) both
          ∙ ap (option_and_then (λ kept. if may_leave s.held b test kept.0 kept.1 then Some (record s { bonds = slice_set s.bonds (k - 1) (keeping b kept) }) else None)) left
          ∙ if_so (may_leave s.held b test l h) _ leaves ∙ ap Some new

      by : (l h : Bool) → used_by k test (bond_of names T.instances t) l h ≡ Some f → slice_get (map (bond_of names T.instances) T.pairs) (k - 1) ≡ Some (bond_of names T.instances t)
          → (t.keeps_low && t.keeps_high) ≡ true → may_leave (map (held_of names) T.instances) (bond_of names T.instances t) test l h ≡ true
          → record (state_of names turn over T.instances T.pairs) { bonds = slice_set (map (bond_of names T.instances) T.pairs) (k - 1) (keeping (bond_of names T.instances t) (l, h)) } ≡ state_of names turn over T.instances (after_narrowing T.pairs k l h)
          → same_id (id_at names T.instances t.high) (id_at names T.instances t.low) ≡ false
          → after_fact (state_of names turn over T.instances T.pairs) f ≡ Some (state_of names turn over T.instances (after_narrowing T.pairs k l h))
      by true true told got both leaves new differ =
          let b = bond_of names T.instances t in
          subst (λ g. after_fact (state_of names turn over T.instances T.pairs) g ≡ Some (state_of names turn over T.instances (after_narrowing T.pairs k true true))) (same_Some _ f told)
          (leave (state_of names turn over T.instances T.pairs) b.low (Some b.high) true true _ b got both (if_so (same_id b.low b.low && same_id b.high b.high) _ (and_from _ _ (same_so b.low) (same_so b.high))) leaves new)
      by true false told got both leaves new differ =
          let b = bond_of names T.instances t in
          subst (λ g. after_fact (state_of names turn over T.instances T.pairs) g ≡ Some (state_of names turn over T.instances (after_narrowing T.pairs k true false))) (same_Some _ f told)
          (leave (state_of names turn over T.instances T.pairs) b.low None true false _ b got both (ap (λ c. cond c (Some (true, false)) (cond (same_id b.low b.high) (Some (false, true)) None)) (same_so b.low)) leaves new)
      by false true told got both leaves new differ =
          let b = bond_of names T.instances t in
          subst (λ g. after_fact (state_of names turn over T.instances T.pairs) g ≡ Some (state_of names turn over T.instances (after_narrowing T.pairs k false true))) (same_Some _ f told)
          (leave (state_of names turn over T.instances T.pairs) b.high None false true _ b got both
          (ap (λ c. cond c (Some (true, false)) (cond (same_id b.high b.high) (Some (false, true)) None)) differ ∙ if_so (same_id b.high b.high) _ (same_so b.high)) leaves new)
      by false false told got both leaves new differ = absurd (none-some f told)
