-- What is done by the numbers of names is what a line does by their texts.
use Rattle.std.proofs.Common.{◌≡◌, ℕ, ◌+◌, ◌-◌, ◌<◌, ◌^◌, Bool, true, false, ◌&&◌, ◌||◌, eqb, ltb, leb, cond, not, List, [], ◌∷◌, ◌++◌, codes, length, get_or, map, All, Option, Some, None, Result, Ok, Err, IfOk, refl, sym, ap, ◌∙◌, arith, subst}
use Rattle.std.proofs.lemmas.Bool.{false≢true}
use Rattle.std.proofs.lemmas.Bool.Decides.{nat_tests}
use Rattle.std.proofs.lemmas.Option.{slice_get-map, slice_get_within, get_or_from_slice_get, option_and_then_some, same_Some}
use Rattle.std.proofs.lemmas.List.{map-append, map-set, length-map}
use Rattle.std.proofs.lemmas.List.Elements.{All-push, All-set}
use Rattle.std.proofs.lemmas.List.Sums.{sum_by-cons, sum_by-set}
use Rattle.std.specs.List.{position, slice_get, slice_set, sum_by}
use Rattle.std.specs.Option.{option_and_then, option_map}
use Rattle.std.specs.Str.{bytes_eq}
use Rattle.pv_script.specs.Names.{name_at}
use Rattle.pv_script.specs.Words.{is_name}
use Rattle.pv_journal.specs.Journals as fact
use Rattle.pv_journal.specs.Obeying.{State, is_id, at_held, held_at, is_live, is_open, end_at, expose_at, with_held, left_of, may_leave, use_at, keeping, after_fact}
use Rattle.pv_journal.specs.Obeying as state
use Rattle.pv_journal.specs.Keyed.{Left, is_of, live_size, ended_at, exposed_at, at_place, at_key, may_make, fresh, with_made, held_by, lives, opens, ends_at, begins_at, left_by, new_bond, may_pair, with_pair, leaves, kept_by, key_of_test, kept_in, use_by, use_in, after_pair_use}
use Rattle.pv_journal.specs.Lines.{id_under, fact_under}
use Rattle.pv_journal.specs.Standing.{held_under, bond_under, state_under, HasText, HaveTexts, IsHeldKnown, IsBondKnown, IsKnown, is_heap, Leaves}
use Rattle.pv_journal.specs.declared.line.Key.{Key}
use Rattle.pv_journal.specs.declared.line.Said.{Said}
use Rattle.pv_journal.specs.declared.held.Held.{Held}
use Rattle.pv_journal.specs.declared.bonds.Bond.{Bond}
use Rattle.pv_journal.specs.declared.standing.Standing.{Standing}
use Rattle.pv_journal.proofs.Sound.{if_some}
use Rattle.pv_journal.proofs.Texts.{place_text, exceeds_all_text, overlaps_any_text, left_text}

-- a state whose instances, or whose pairs, are seen under names
abbrev pub with_instances : List (List ℕ) → State → List Held → State
with_instances names s xs = record s { held = map (held_under names) xs }

abbrev pub with_bonds : List (List ℕ) → State → List Bond → State
with_bonds names s bs = record s { bonds = map (bond_under names) bs }

all_get : {X : Type 0} (P : X → Type 0) (xs : List X) (i : ℕ) (x : X) → All P xs → slice_get xs i ≡ Some x → P x
all_get P xs i x all h = subst P (get_or_from_slice_get xs i x x h) (all i x (slice_get_within xs i x h))

live_text : (names : List (List ℕ)) (o : Option Held) → is_live (option_map (held_under names) o) ≡ lives o
live_text names None = refl
live_text names (Some x) = refl

open_text : (names : List (List ℕ)) (o : Option Held) → is_open (option_map (held_under names) o) ≡ opens o
open_text names None = refl
open_text names (Some x) = refl

ends_text : (names : List (List ℕ)) (o : Option Held) (a : ℕ) → state.ends_at (option_map (held_under names) o) a ≡ ends_at o a
ends_text names None a = refl
ends_text names (Some x) a = refl

begins_text : (names : List (List ℕ)) (o : Option Held) (a : ℕ) → state.begins_at (option_map (held_under names) o) a ≡ begins_at o a
begins_text names None a = refl
begins_text names (Some x) a = refl

sum_text : (names : List (List ℕ)) (xs : List Held) → sum_by state.live_size (map (held_under names) xs) ≡ sum_by live_size xs
sum_text names [] = refl
sum_text names (x ∷ xs) =
    sum_by-cons state.live_size (held_under names x) (map (held_under names) xs) ∙ ap (λ n. live_size x + n) (sum_text names xs) ∙ sym (sum_by-cons live_size x xs)

and_true : (b : Bool) → (b && true) ≡ b
and_true true = refl
and_true false = refl

module _ (names : List (List ℕ)) where
  -- ---- what is done to one instance

  pub held_text : (xs : List Held) (key : Key) → All (IsHeldKnown names) xs → HasText names key
      → held_at (map (held_under names) xs) (id_under names key) ≡ option_map (held_under names) (held_by xs key)
  held_text xs key all h = ap (option_and_then (λ i. slice_get (map (held_under names) xs) i)) (place_text names xs key all h) ∙ by (position (is_of key) xs)
    where
      by : (o : Option ℕ) → option_and_then (λ i. slice_get (map (held_under names) xs) i) o ≡ option_map (held_under names) (option_and_then (λ i. slice_get xs i) o)
      by None = refl
      by (Some i) = slice_get-map (held_under names) xs i

  at_text : (s : State) (xs : List Held) (key : Key) (F : ℕ → state.Held → Option State) (f : List Held → ℕ → Held → Option (List Held))
      → s.held ≡ map (held_under names) xs → All (IsHeldKnown names) xs → HasText names key
      → ((i : ℕ) (x : Held) → F i (held_under names x) ≡ option_map (with_instances names s) (f xs i x))
      → at_held s (id_under names key) F ≡ option_map (with_instances names s) (at_key xs key f)
  at_text s xs key F f e all h each =
      ap (λ l. option_and_then (λ i. option_and_then (F i) (slice_get l i)) (state.place_of l (id_under names key))) e
      ∙ ap (option_and_then (λ i. option_and_then (F i) (slice_get (map (held_under names) xs) i))) (place_text names xs key all h)
      ∙ by (position (is_of key) xs)
    where
      one : (i : ℕ) (p : Option Held) → option_and_then (F i) (option_map (held_under names) p) ≡ option_map (with_instances names s) (option_and_then (f xs i) p)
      one i None = refl
      one i (Some x) = each i x

      by : (o : Option ℕ) → option_and_then (λ i. option_and_then (F i) (slice_get (map (held_under names) xs) i)) o ≡ option_map (with_instances names s) (option_and_then (at_place xs f) o)
      by None = refl
      by (Some i) = ap (option_and_then (F i)) (slice_get-map (held_under names) xs i) ∙ one i (slice_get xs i)

  set_text : (s : State) (xs : List Held) (i : ℕ) (y : Held) (b : Bool) → s.held ≡ map (held_under names) xs
      → cond b (Some (with_held s i (held_under names y))) None ≡ option_map (with_instances names s) (cond b (Some (slice_set xs i y)) None)
  set_text s xs i y true e = ap (λ (l : List state.Held). Some (record s { held = l })) (ap (λ (l : List state.Held). slice_set l i (held_under names y)) e ∙ sym (map-set (held_under names) xs i y))
  set_text s xs i y false e = refl

  pub ended_text : (s : State) (xs : List Held) (key : Key) → s.held ≡ map (held_under names) xs → All (IsHeldKnown names) xs → HasText names key
      → after_fact s (fact.Ended (id_under names key)) ≡ option_map (with_instances names s) (at_key xs key ended_at)
  ended_text s xs key e all h = at_text s xs key (λ i x. end_at s i x) ended_at e all h (λ i x. set_text s xs i (record x { live = false }) x.live e)

  pub exposed_text : (s : State) (xs : List Held) (key : Key) → s.held ≡ map (held_under names) xs → All (IsHeldKnown names) xs → HasText names key
      → after_fact s (fact.Exposed (id_under names key)) ≡ option_map (with_instances names s) (at_key xs key exposed_at)
  exposed_text s xs key e all h = at_text s xs key (λ i x. expose_at s i x) exposed_at e all h (λ i x. set_text s xs i (record x { exposed = true }) (x.live && not x.exposed) e)

  -- ---- a new instance

  id_text : (key : Key) → key.k < 2 ^ 64 → is_id (id_under names key) ≡ (is_name (name_at names key.name) && leb 1 key.k)
  id_text key fits =
      let t : ltb key.k (2 ^ 64) ≡ true = grind (arith, nat_tests) in
      ap (λ b. is_name (name_at names key.name) && (leb 1 key.k && b)) t ∙ ap (λ b. is_name (name_at names key.name) && b) (and_true (leb 1 key.k))

  make_text : (xs : List Held) (key : Key) (base size : ℕ) → All (IsHeldKnown names) xs → HasText names key → key.k < 2 ^ 64
      → state.may_make (map (held_under names) xs) (id_under names key) base size ≡ may_make xs (is_name (name_at names key.name)) key base size
  make_text xs key base size all h fits =
      λ i. id_text key fits i && (exceeds_all_text names xs key all h i && (leb 1 size && (leb 4096 base && (leb (base + size) (2 ^ 47)
      && (not (overlaps_any_text names xs base size i) && leb (sum_text names xs i + size) (2 ^ 24))))))

  pub made_text : (s : State) (xs : List Held) (key : Key) (base size : ℕ) → s.held ≡ map (held_under names) xs → All (IsHeldKnown names) xs → HasText names key → key.k < 2 ^ 64
      → after_fact s (fact.Made (id_under names key) base size) ≡ option_map (with_instances names s) (with_made xs (is_name (name_at names key.name)) key base size)
  made_text s xs key base size e all h fits =
      ap (λ (l : List state.Held). cond (state.may_make l (id_under names key) base size) (Some (record s { held = l ++ held_under names (fresh key base size) ∷ [] })) None) e
      ∙ ap (λ b. cond b (Some (record s { held = map (held_under names) xs ++ held_under names (fresh key base size) ∷ [] })) None) (make_text xs key base size all h fits)
      ∙ by (may_make xs (is_name (name_at names key.name)) key base size)
    where
      by : (b : Bool) → cond b (Some (record s { held = map (held_under names) xs ++ held_under names (fresh key base size) ∷ [] })) None
          ≡ option_map (with_instances names s) (cond b (Some (xs ++ fresh key base size ∷ [])) None)
      by true = ap (λ (l : List state.Held). Some (record s { held = l })) (sym (map-append (held_under names) xs (fresh key base size ∷ [])))
      by false = refl

  -- ---- a new pair

  pair_text : (xs : List Held) (bs : List Bond) (pair address : ℕ) (low high : Key) → All (IsHeldKnown names) xs → HasText names low → HasText names high
      → (s : State) → s.held ≡ map (held_under names) xs → s.bonds ≡ map (bond_under names) bs
      → state.may_pair s pair address (id_under names low) (id_under names high) ≡ (eqb pair (length bs + 1) && may_pair xs low high address)
  pair_text xs bs pair address low high all l h s e g =
      let x : held_at s.held (id_under names low) ≡ option_map (held_under names) (held_by xs low) = ap (λ ys. held_at ys (id_under names low)) e ∙ held_text xs low all l in
      let y : held_at s.held (id_under names high) ≡ option_map (held_under names) (held_by xs high) = ap (λ ys. held_at ys (id_under names high)) e ∙ held_text xs high all h in
      let n : length s.bonds ≡ length bs = ap length g ∙ length-map bs (bond_under names) in
      let a = ap is_open x ∙ open_text names (held_by xs low) in
      let b = ap is_open y ∙ open_text names (held_by xs high) in
      let c = ap (λ o. state.ends_at o address) x ∙ ends_text names (held_by xs low) address in
      let d = ap (λ o. state.begins_at o address) y ∙ begins_text names (held_by xs high) address in
      λ i. eqb pair (n i + 1) && (a i && (b i && (c i && d i)))

  pub paired_text : (s : State) (xs : List Held) (bs : List Bond) (pair address : ℕ) (low high : Key) → s.held ≡ map (held_under names) xs → s.bonds ≡ map (bond_under names) bs
      → All (IsHeldKnown names) xs → HasText names low → HasText names high
      → after_fact s (fact.Paired pair address (id_under names low) (id_under names high)) ≡ option_map (with_bonds names s) (with_pair xs bs pair address low high)
  paired_text s xs bs pair address low high e g all l h =
      ap (λ b. cond b (Some (record s { bonds = s.bonds ++ bond_under names (new_bond address low high) ∷ [] })) None) (pair_text xs bs pair address low high all l h s e g)
      ∙ by (eqb pair (length bs + 1) && may_pair xs low high address)
    where
      by : (b : Bool) → cond b (Some (record s { bonds = s.bonds ++ bond_under names (new_bond address low high) ∷ [] })) None
          ≡ option_map (with_bonds names s) (cond b (Some (bs ++ new_bond address low high ∷ [])) None)
      by true = ap (λ (l : List state.Bond). Some (record s { bonds = l }))
          (ap (λ (l : List state.Bond). l ++ bond_under names (new_bond address low high) ∷ []) g ∙ sym (map-append (bond_under names) bs (new_bond address low high ∷ [])))
      by false = refl

  -- ---- a use of a pair

  heap_text : (b : Bond) (low : Bool) → bytes_eq (cond low (name_at names b.low.name) (name_at names b.high.name)) (codes "@heap") ≡ is_heap names (key_of_test b low)
  heap_text b true = refl
  heap_text b false = refl

  leave_text : (xs : List Held) (b : Bond) (test : ℕ) (low high : Bool) → All (IsHeldKnown names) xs → IsBondKnown names b
      → may_leave (map (held_under names) xs) (bond_under names b) test low high ≡ leaves (lives (held_by xs b.low)) (lives (held_by xs b.high)) (is_heap names (key_of_test b low)) test low high
  leave_text xs b test low high all k =
      let x = ap is_live (held_text xs b.low all k.0) ∙ live_text names (held_by xs b.low) in
      let y = ap is_live (held_text xs b.high all k.1) ∙ live_text names (held_by xs b.high) in
      let p = heap_text b low in
      λ i. (not low || x i) && ((not high || y i) && (
      cond (eqb test 1) ((low || not (x i)) && (high || not (y i)))
      (cond (eqb test 3) (not (low && high) && p i)
      (cond (eqb test 5) (not (low && high)) (eqb test 2 || eqb test 4)))))

  keep_text : (s : State) (xs : List Held) (bs : List Bond) (i : ℕ) (test : ℕ) (b : Bond) (kept : Bool × Bool) → s.held ≡ map (held_under names) xs → s.bonds ≡ map (bond_under names) bs
      → All (IsHeldKnown names) xs → IsBondKnown names b
      → cond (may_leave s.held (bond_under names b) test kept.0 kept.1) (Some (record s { bonds = slice_set s.bonds i (keeping (bond_under names b) kept) })) None
      ≡ option_map (with_bonds names s) (kept_in xs (is_heap names) bs i test b kept)
  keep_text s xs bs i test b kept e g all k =
      ap (λ t. cond t (Some (record s { bonds = slice_set s.bonds i (keeping (bond_under names b) kept) })) None)
      (ap (λ l. may_leave l (bond_under names b) test kept.0 kept.1) e ∙ leave_text xs b test kept.0 kept.1 all k)
      ∙ by (leaves (lives (held_by xs b.low)) (lives (held_by xs b.high)) (is_heap names (key_of_test b kept.0)) test kept.0 kept.1)
    where
      by : (t : Bool) → cond t (Some (record s { bonds = slice_set s.bonds i (bond_under names (kept_by b kept)) })) None ≡ option_map (with_bonds names s) (cond t (Some (slice_set bs i (kept_by b kept))) None)
      by true = ap (λ (l : List state.Bond). Some (record s { bonds = l }))
          (ap (λ (l : List state.Bond). slice_set l i (bond_under names (kept_by b kept))) g ∙ sym (map-set (bond_under names) bs i (kept_by b kept)))
      by false = refl

  use_text : (s : State) (xs : List Held) (bs : List Bond) (i : ℕ) (test : ℕ) (first : Key) (second : Option Key) (b : Bond)
      → s.held ≡ map (held_under names) xs → s.bonds ≡ map (bond_under names) bs → All (IsHeldKnown names) xs → IsBondKnown names b → HasText names first → HaveTexts names second
      → use_at s i test (id_under names first) (option_map (id_under names) second) (bond_under names b) ≡ option_map (with_bonds names s) (use_by xs (is_heap names) bs i test first second b)
  use_text s xs bs i test first second b e g all k f h = both (b.keeps_low && b.keeps_high)
    where
      one : (o : Option (Bool × Bool))
          → option_and_then (λ kept. cond (may_leave s.held (bond_under names b) test kept.0 kept.1) (Some (record s { bonds = slice_set s.bonds i (keeping (bond_under names b) kept) })) None) o
          ≡ option_map (with_bonds names s) (option_and_then (kept_in xs (is_heap names) bs i test b) o)
      one None = refl
      one (Some kept) = keep_text s xs bs i test b kept e g all k

      both : (t : Bool)
          → cond t (option_and_then (λ kept. cond (may_leave s.held (bond_under names b) test kept.0 kept.1) (Some (record s { bonds = slice_set s.bonds i (keeping (bond_under names b) kept) })) None)
          (left_of (bond_under names b) (id_under names first) (option_map (id_under names) second))) None
          ≡ option_map (with_bonds names s) (cond t (option_and_then (kept_in xs (is_heap names) bs i test b) (left_by b first second)) None)
      both true =
          ap (option_and_then (λ kept. cond (may_leave s.held (bond_under names b) test kept.0 kept.1) (Some (record s { bonds = slice_set s.bonds i (keeping (bond_under names b) kept) })) None))
          (left_text names b first second k f h)
          ∙ one (left_by b first second)
      both false = refl

  pub used_text : (s : State) (xs : List Held) (bs : List Bond) (pair test : ℕ) (first : Key) (second : Option Key) → s.held ≡ map (held_under names) xs → s.bonds ≡ map (bond_under names) bs
      → All (IsHeldKnown names) xs → All (IsBondKnown names) bs → HasText names first → HaveTexts names second
      → after_fact s (fact.Used pair test (id_under names first) (option_map (id_under names) second)) ≡ option_map (with_bonds names s) (after_pair_use xs (is_heap names) bs pair test first second)
  used_text s xs bs pair test first second e g all known f h = some (leb 1 pair)
    where
      at : (o : Option Bond) → slice_get bs (pair - 1) ≡ o
          → option_and_then (λ b. use_at s (pair - 1) test (id_under names first) (option_map (id_under names) second) b) (option_map (bond_under names) o)
          ≡ option_map (with_bonds names s) (option_and_then (use_by xs (is_heap names) bs (pair - 1) test first second) o)
      at None q = refl
      at (Some b) q = use_text s xs bs (pair - 1) test first second b e g all (all_get (IsBondKnown names) bs (pair - 1) b known q) f h

      some : (t : Bool) → cond t (option_and_then (λ b. use_at s (pair - 1) test (id_under names first) (option_map (id_under names) second) b) (slice_get s.bonds (pair - 1))) None
          ≡ option_map (with_bonds names s) (cond t (use_in xs (is_heap names) bs (pair - 1) test first second) None)
      some true =
          ap (option_and_then (λ b. use_at s (pair - 1) test (id_under names first) (option_map (id_under names) second) b))
          (ap (λ l. slice_get l (pair - 1)) g ∙ slice_get-map (bond_under names) bs (pair - 1))
          ∙ at (slice_get bs (pair - 1)) refl
      some false = refl

-- ---- what is left has texts

module _ (names : List (List ℕ)) where
  abbrev AllHeld : List Held → Type 0
  AllHeld xs = All (IsHeldKnown names) xs

  abbrev AllBonds : List Bond → Type 0
  AllBonds bs = All (IsBondKnown names) bs

  pub made_known : (xs ys : List Held) (valid : Bool) (key : Key) (base size : ℕ) → AllHeld xs → HasText names key → with_made xs valid key base size ≡ Some ys → AllHeld ys
  made_known xs ys valid key base size all h e =
      if_some (may_make xs valid key base size) (Some (xs ++ fresh key base size ∷ [])) ys e
      (λ t o. subst AllHeld (same_Some (xs ++ fresh key base size ∷ []) ys o) (All-push (IsHeldKnown names) xs (fresh key base size) all h))

  at_known : (xs ys : List Held) (key : Key) (f : List Held → ℕ → Held → Option (List Held))
      → ((i : ℕ) (x : Held) → IsHeldKnown names x → f xs i x ≡ Some ys → AllHeld ys) → AllHeld xs → at_key xs key f ≡ Some ys → AllHeld ys
  at_known xs ys key f each all e =
      option_and_then_some (at_place xs f) (position (is_of key) xs) ys e (λ i p q.
      option_and_then_some (f xs i) (slice_get xs i) ys q (λ x g r. each i x (all_get (IsHeldKnown names) xs i x all g) r))

  set_known : (xs ys : List Held) (i : ℕ) (x : Held) (b : Bool) → AllHeld xs → IsHeldKnown names x → cond b (Some (slice_set xs i x)) None ≡ Some ys → AllHeld ys
  set_known xs ys i x b all k e = if_some b (Some (slice_set xs i x)) ys e (λ t o. subst AllHeld (same_Some (slice_set xs i x) ys o) (All-set (IsHeldKnown names) xs i x k all))

  pub ended_known : (xs ys : List Held) (key : Key) → AllHeld xs → at_key xs key ended_at ≡ Some ys → AllHeld ys
  ended_known xs ys key all e = at_known xs ys key ended_at (λ i x k r. set_known xs ys i (record x { live = false }) x.live all k r) all e

  pub exposed_known : (xs ys : List Held) (key : Key) → AllHeld xs → at_key xs key exposed_at ≡ Some ys → AllHeld ys
  exposed_known xs ys key all e = at_known xs ys key exposed_at (λ i x k r. set_known xs ys i (record x { exposed = true }) (x.live && not x.exposed) all k r) all e

  pub paired_known : (xs : List Held) (bs cs : List Bond) (pair address : ℕ) (low high : Key) → AllBonds bs → HasText names low → HasText names high
      → with_pair xs bs pair address low high ≡ Some cs → AllBonds cs
  paired_known xs bs cs pair address low high all l h e =
      if_some (eqb pair (length bs + 1) && may_pair xs low high address) (Some (bs ++ new_bond address low high ∷ [])) cs e
      (λ t o. subst AllBonds (same_Some (bs ++ new_bond address low high ∷ []) cs o) (All-push (IsBondKnown names) bs (new_bond address low high) all (l, h)))

  pub used_known : (xs : List Held) (heap : Key → Bool) (bs cs : List Bond) (pair test : ℕ) (first : Key) (second : Option Key) → AllBonds bs
      → after_pair_use xs heap bs pair test first second ≡ Some cs → AllBonds cs
  used_known xs heap bs cs pair test first second all e =
      if_some (leb 1 pair) (use_in xs heap bs (pair - 1) test first second) cs e (λ t u.
      option_and_then_some (use_by xs heap bs (pair - 1) test first second) (slice_get bs (pair - 1)) cs u (λ b g v.
      if_some (b.keeps_low && b.keeps_high) (option_and_then (kept_in xs heap bs (pair - 1) test b) (left_by b first second)) cs v (λ w o.
      option_and_then_some (kept_in xs heap bs (pair - 1) test b) (left_by b first second) cs o (λ kept l r.
      if_some (leaves (lives (held_by xs b.low)) (lives (held_by xs b.high)) (heap (key_of_test b kept.0)) test kept.0 kept.1) (Some (slice_set bs (pair - 1) (kept_by b kept))) cs r (λ y z.
      subst AllBonds (same_Some (slice_set bs (pair - 1) (kept_by b kept)) cs z)
      (All-set (IsBondKnown names) bs (pair - 1) (kept_by b kept) (all_get (IsBondKnown names) bs (pair - 1) b all g) all))))))

-- ---- changes of the code's state

pub used_in : (xs : List Held) (heap : Key → Bool) (bs : List Bond) (i test : ℕ) (first : Key) (second : Option Key) (b : Bond) (kept : Bool × Bool) (r : Bool) (new : List Bond)
    → slice_get bs i ≡ Some b → b.keeps_low ≡ true → b.keeps_high ≡ true → Some kept ≡ left_by b first second → Left r new (kept_in xs heap bs i test b kept)
    → Left r new (use_in xs heap bs i test first second)
used_in xs heap bs i test first second b kept r new get low high left h =
    let same : use_in xs heap bs i test first second ≡ kept_in xs heap bs i test b kept =
    ap (option_and_then (use_by xs heap bs i test first second)) get
    ∙ (λ j. cond (low j && high j) (option_and_then (kept_in xs heap bs i test b) (left_by b first second)) None)
    ∙ ap (option_and_then (kept_in xs heap bs i test b)) (sym left) in
    subst (Left r new) (sym same) h

pub lives_if : (b : Bool) → not b ≡ false → b ≡ true
lives_if true h = refl
lives_if false h = absurd (false≢true (sym h))

pub ended_sum : (xs : List Held) (i : ℕ) (x : Held) → slice_get xs i ≡ Some x → not x.live ≡ false → sum_by live_size (slice_set xs i (record x { live = false })) + x.size ≡ sum_by live_size xs
ended_sum xs i x h l =
    let e = sum_by-set live_size xs i (record x { live = false }) x (slice_get_within xs i x h) in
    let size : live_size (get_or xs i x) ≡ x.size = ap live_size (get_or_from_slice_get xs i x x h) ∙ ap (λ b. cond b x.size 0) (lives_if x.live l) in
    omega (arith, e, size)

pub exposed_sum : (xs : List Held) (i : ℕ) (x : Held) → slice_get xs i ≡ Some x → sum_by live_size (slice_set xs i (record x { exposed = true })) ≡ sum_by live_size xs
exposed_sum xs i x h =
    let e = sum_by-set live_size xs i (record x { exposed = true }) x (slice_get_within xs i x h) in
    let size : live_size (get_or xs i x) ≡ live_size x = ap live_size (get_or_from_slice_get xs i x x h) in
    omega (arith, e, size)

-- ---- what a change of the code's state leaves

leaves_by : {A : Type 0} (names : List (List ℕ)) (f : A → Standing) (w : Option State) (o : Option A) (b : Bool) (new : A) → w ≡ option_map (λ a. state_under names (f a)) o
    → (o ≡ Some new → IsKnown names (f new)) → Left b new o → Leaves names b (f new) w
leaves_by names f w o true new e k h = (e ∙ ap (option_map (λ a. state_under names (f a))) h, k h)
leaves_by names f w o false new e k h = e ∙ ap (option_map (λ a. state_under names (f a))) h

pub ok_by : {A E : Type 0} {P Q : A → Type 0} (r : Result A E) → ((x : A) → P x → Q x) → IfOk r P → IfOk r Q
ok_by (Ok x) f h = f x h
ok_by (Err e) f h = tt

module _ (names : List (List ℕ)) (s : Standing) (known : IsKnown names s) where
  pub leaves_made : (key : Key) (base size : ℕ) (valid b : Bool) (new : List Held) → HasText names key → key.k < 2 ^ 64 → valid ≡ is_name (name_at names key.name)
      → Left b new (with_made s.held valid key base size) → Leaves names b (record s { held = new }) (after_fact (state_under names s) (fact.Made (id_under names key) base size))
  leaves_made key base size valid b new h fits v l =
      leaves_by names (λ xs. record s { held = xs }) _ (with_made s.held valid key base size) b new
      (made_text names (state_under names s) s.held key base size refl known.held h fits
      ∙ ap (λ t. option_map (λ xs. state_under names (record s { held = xs })) (with_made s.held t key base size)) (sym v))
      (λ o. record { held = made_known names s.held new valid key base size known.held h o; bonds = known.bonds }) l

  pub leaves_ended : (key : Key) (b : Bool) (new : List Held) → HasText names key
      → Left b new (at_key s.held key ended_at) → Leaves names b (record s { held = new }) (after_fact (state_under names s) (fact.Ended (id_under names key)))
  leaves_ended key b new h l =
      leaves_by names (λ xs. record s { held = xs }) _ (at_key s.held key ended_at) b new
      (ended_text names (state_under names s) s.held key refl known.held h)
      (λ o. record { held = ended_known names s.held new key known.held o; bonds = known.bonds }) l

  pub leaves_exposed : (key : Key) (b : Bool) (new : List Held) → HasText names key
      → Left b new (at_key s.held key exposed_at) → Leaves names b (record s { held = new }) (after_fact (state_under names s) (fact.Exposed (id_under names key)))
  leaves_exposed key b new h l =
      leaves_by names (λ xs. record s { held = xs }) _ (at_key s.held key exposed_at) b new
      (exposed_text names (state_under names s) s.held key refl known.held h)
      (λ o. record { held = exposed_known names s.held new key known.held o; bonds = known.bonds }) l

  pub leaves_paired : (pair address : ℕ) (low high : Key) (b : Bool) (new : List Bond) → HasText names low → HasText names high
      → Left b new (with_pair s.held s.bonds pair address low high)
      → Leaves names b (record s { bonds = new }) (after_fact (state_under names s) (fact.Paired pair address (id_under names low) (id_under names high)))
  leaves_paired pair address low high true new l h e = (
    paired_text names (state_under names s) s.held s.bonds pair address low high refl refl known.held l h ∙ ap (option_map (with_bonds names (state_under names s))) e,
    record { held = known.held; bonds = paired_known names s.held s.bonds new pair address low high known.bonds l h e },
  )
  leaves_paired pair address low high false new l h e =
      paired_text names (state_under names s) s.held s.bonds pair address low high refl refl known.held l h ∙ ap (option_map (with_bonds names (state_under names s))) e

  pub leaves_used : (pair test : ℕ) (first : Key) (second : Option Key) (b : Bool) (new : List Bond) → HasText names first → HaveTexts names second
      → Left b new (after_pair_use s.held (is_heap names) s.bonds pair test first second)
      → Leaves names b (record s { bonds = new }) (after_fact (state_under names s) (fact.Used pair test (id_under names first) (option_map (id_under names) second)))
  leaves_used pair test first second true new f h e = (
    used_text names (state_under names s) s.held s.bonds pair test first second refl refl known.held known.bonds f h ∙ ap (option_map (with_bonds names (state_under names s))) e,
    record { held = known.held; bonds = used_known names s.held (is_heap names) s.bonds new pair test first second known.bonds e },
  )
  leaves_used pair test first second false new f h e =
      used_text names (state_under names s) s.held s.bonds pair test first second refl refl known.held known.bonds f h ∙ ap (option_map (with_bonds names (state_under names s))) e

-- what is said, by its form
pub said_if : {E : Type 0} (names : List (List ℕ)) (s new : Standing) (r : Result Bool E) (what form : Said) → what ≡ form
    → IfOk r (λ b. Leaves names b new (after_fact (state_under names s) (fact_under names form))) → IfOk r (λ b. Leaves names b new (after_fact (state_under names s) (fact_under names what)))
said_if names s new r what form e h = subst (λ (w : Said). IfOk r (λ b. Leaves names b new (after_fact (state_under names s) (fact_under names w)))) (sym e) h

pub said_as : (names : List (List ℕ)) (s new : Standing) (b : Bool) (what form : Said) → what ≡ form
    → Leaves names b new (after_fact (state_under names s) (fact_under names form)) → Leaves names b new (after_fact (state_under names s) (fact_under names what))
said_as names s new b what form e h = subst (λ (w : Said). Leaves names b new (after_fact (state_under names s) (fact_under names w))) (sym e) h

pub leaves_fault : (names : List (List ℕ)) (s : Standing) → IsKnown names s → Leaves names true (record s { over = true }) (after_fact (state_under names s) fact.Fault)
leaves_fault names s k = (refl, record { held = k.held; bonds = k.bonds })
