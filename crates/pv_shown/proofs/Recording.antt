-- What is kept by turns tells the state at each: one line more.
use Rattle.std.proofs.Common.{◌≡◌, ℕ, ◌-◌, ◌<◌, ◌≤◌, ◌^◌, Bool, true, false, ◌&&◌, ◌||◌, not, cond, leb, ltb, List, [], ◌∷◌, ◌++◌, map, set, Option, Some, None, refl, sym, ap, ◌∙◌, subst, inl, inr, arith, position, unwrap_or}
use Rattle.std.proofs.lemmas.Bool.{and_parts, cases_lt, le-leb}
use Rattle.std.proofs.lemmas.Bool.Decides.{nat_tests}
use Rattle.std.proofs.lemmas.Option.{none-some, same_Some, slice_get-map}
use Rattle.std.proofs.lemmas.List.{map-set, map_push}
use Rattle.std.specs.List.{list_all, slice_get}
use Rattle.std.specs.Option.{option_map, option_and_then}
use Rattle.pv_journal.specs.declared.line.Key.{Key}
use Rattle.pv_journal.specs.declared.line.Line.{Line}
use Rattle.pv_journal.specs.declared.line.Said.{Said}
use Rattle.pv_journal.specs.declared.line.Said.TheVariants.{Made, Ended, Exposed, Pair, Used, Fault}
use Rattle.pv_journal.specs.Journals.{Id, Row, Fact}
use Rattle.pv_journal.specs.Journals as fact
use Rattle.pv_journal.specs.Lines.{id_under, fact_under, row_under}
use Rattle.pv_journal.specs.Obeying.{Held, Bond, State, at_first, after, after_all, after_fact, may_make, is_id, exceeds, place_of, end_at, expose_at, at_held, with_held, may_pair, use_at, keeping, left_of, may_leave, same_id}
use Rattle.pv_journal.proofs.Judging.{after_all-snoc}
use Rattle.pv_journal.proofs.Mapped.{position_mapped}
use Rattle.pv_shown.specs.declared.past.Life.{Life}
use Rattle.pv_shown.specs.declared.past.Tie.{Tie}
use Rattle.pv_shown.specs.Shown.{rows_upto, state_at}
use Rattle.pv_shown.specs.Recorded.{came, is_made, is_tied, held_then, bond_then, helds_then, bonds_then, Tells, is_of, made_at, ended_at, exposed_at, tied_at, left_by, used_at, Changes, Nobody, Somebody, Uses, Notes}
use Rattle.pv_shown.proofs.Lists.{and_some, map_some, if_some, filter_all, all_push, all_set, same_seen, unseen}
use Rattle.pv_shown.proofs.Places.{AreApart, stands_at, apart_push, apart_set}

-- ---- turns

late : (t n : ℕ) → n < t → leb t n ≡ false
late t n lt = grind (arith, nat_tests)

-- what hadn't come later hadn't come before
still_to_come : (o : Option ℕ) (n t : ℕ) → n ≤ t → came o t ≡ false → came o n ≡ false
still_to_come None n t le h = refl
still_to_come (Some u) n t le h = grind (arith, nat_tests)

is_false : (b : Bool) → not b ≡ true → b ≡ false
is_false true h = absurd cc
is_false false h = refl

-- what is kept was kept before
kept_before : (o : Option ℕ) (n t : ℕ) (l : Bool) → n ≤ t → (not (came o t) || l) ≡ true → (not (came o n) || l) ≡ true
kept_before o n t true le h = or_true (not (came o n))
  where
    or_true : (b : Bool) → (b || true) ≡ true
    or_true true = refl
    or_true false = refl
kept_before o n t false le h =
    let there = is_false (came o t) (sym (or_false (not (came o t))) ∙ h) in
    ap (λ b. not b || false) (still_to_come o n t le there)
  where
    or_false : (b : Bool) → (b || false) ≡ b
    or_false true = refl
    or_false false = refl

-- ---- what is kept

pub record Kept (names : List (List ℕ)) (rows : List Row) (xs : List Life) (bs : List Tie) : Type 0 where
  pub state : State
  pub passes : after_all at_first rows ≡ Some state
  pub rows_in : (n : ℕ) → state.turn ≤ n → list_all (λ (row : Row). leb row.turn n) rows ≡ true
  pub made : (n : ℕ) → state.turn ≤ n → list_all (is_made n) xs ≡ true
  pub tied : (n : ℕ) → state.turn ≤ n → list_all (is_tied n) bs ≡ true
  pub held : (n : ℕ) → state.turn ≤ n → state.held ≡ map (held_then names n) xs
  pub bonds : (n : ℕ) → state.turn ≤ n → state.bonds ≡ map (bond_then names n) bs
  pub apart : AreApart state.held
  pub tells : Tells names rows xs bs

-- what one line does
pub record Steps (names : List (List ℕ)) (t : ℕ) (u : State) (xs ys : List Life) (bs cs : List Tie) : Type 0 where
  turn : u.turn ≡ t
  made : (n : ℕ) → t ≤ n → list_all (is_made n) ys ≡ true
  tied : (n : ℕ) → t ≤ n → list_all (is_tied n) cs ≡ true
  held : (n : ℕ) → t ≤ n → u.held ≡ map (held_then names n) ys
  bonds : (n : ℕ) → t ≤ n → u.bonds ≡ map (bond_then names n) cs
  held_before : (n : ℕ) → n < t → helds_then names n ys ≡ helds_then names n xs
  bonds_before : (n : ℕ) → n < t → bonds_then names n cs ≡ bonds_then names n bs
  apart : AreApart u.held

module _ (names : List (List ℕ)) (xs : List Life) (bs : List Tie) (s : State) (t : ℕ) where
  -- the state before a line, with the line's turn
  record Before : Type 0 where
    turn : s.turn ≡ t
    made : (n : ℕ) → t ≤ n → list_all (is_made n) xs ≡ true
    tied : (n : ℕ) → t ≤ n → list_all (is_tied n) bs ≡ true
    held : (n : ℕ) → t ≤ n → s.held ≡ map (held_then names n) xs
    bonds : (n : ℕ) → t ≤ n → s.bonds ≡ map (bond_then names n) bs
    apart : AreApart s.held

  -- ---- an instance is made

  made_step : (key : Key) (base size : ℕ) (u : State) → Before → after_fact s (fact.Made (id_under names key) base size) ≡ Some u → Steps names t u xs (xs ++ made_at t key base size ∷ []) bs bs
  made_step key base size u b h =
      let id = id_under names key in
      let x = made_at t key base size in
      let y : Held = record { id = id; base = base; size = size; live = true; exposed = false } in
      if_some (may_make s.held id base size) (Some (record s { held = s.held ++ y ∷ [] })) u h (λ may e.
      let is : record s { held = s.held ++ y ∷ [] } ≡ u = same_Some _ u e in
      record {
        turn = ap (λ (z : State). z.turn) (sym is) ∙ b.turn;
        made = λ n le. all_push (is_made n) xs x (b.made n le) (le-leb t n le);
        tied = b.tied;
        held = λ n le. ap (λ (z : State). z.held) (sym is) ∙ ap (λ l. l ++ y ∷ []) (b.held n le) ∙ sym (map_push (held_then names n) xs x);
        bonds = λ n le. ap (λ (z : State). z.bonds) (sym is) ∙ b.bonds n le;
        held_before = λ n lt. ap (map (held_then names n)) (unseen (is_made n) xs x (late t n lt));
        bonds_before = λ n lt. refl;
        apart = subst (λ (z : State). AreApart z.held) is (apart_push s.held y b.apart (and_parts (list_all (exceeds id) s.held) _ (and_parts (is_id id) _ may).1).0);
      })

  -- ---- an instance changes

  -- it is found, and changes so
  changed_step : (key : Key) (f : Life → Life) (g : Held → Held) (ys : List Life) (u : State) (i : ℕ) (x : Life) → Before → slice_get xs i ≡ Some x → ys ≡ set xs i (f x)
      → u ≡ record s { held = set s.held i (g (held_then names t x)) } → ((z : Held) → (g z).id ≡ z.id) → (f x).made ≡ x.made
      → ((n : ℕ) → t ≤ n → held_then names n (f x) ≡ g (held_then names n x)) → ((n : ℕ) → n < t → held_then names n (f x) ≡ held_then names n x) → Steps names t u xs ys bs bs
  changed_step key f g ys u i x b at new is same_id same_made later before =
      let there : (n : ℕ) → t ≤ n → slice_get s.held i ≡ Some (held_then names n x) = λ n le. ap (λ l. slice_get l i) (b.held n le) ∙ slice_get-map (held_then names n) xs i ∙ ap (option_map (held_then names n)) at in
      let now = there t (omega arith) in
      let seen : (n : ℕ) → is_made n (f x) ≡ is_made n x = λ n. ap (λ m. leb m n) same_made in
      record {
        turn = ap (λ (z : State). z.turn) is ∙ b.turn;
        made = λ n le. ap (list_all (is_made n)) new ∙ all_set (is_made n) xs i x (f x) at (seen n) ∙ b.made n le;
        tied = b.tied;
        held = λ n le.
            ap (λ (z : State). z.held) is ∙ ap (λ l. set l i (g (held_then names t x))) (b.held n le)
            ∙ ap (λ (z : Held). set (map (held_then names n) xs) i (g z)) (same_Some (held_then names t x) (held_then names n x) (sym now ∙ there n le))
            ∙ ap (set (map (held_then names n) xs) i) (sym (later n le)) ∙ sym (map-set (held_then names n) xs i (f x)) ∙ ap (map (held_then names n)) (sym new);
        bonds = λ n le. ap (λ (z : State). z.bonds) is ∙ b.bonds n le;
        held_before = λ n lt. ap (helds_then names n) new ∙ same_seen (is_made n) (held_then names n) xs i x (f x) at (seen n) (before n lt);
        bonds_before = λ n lt. refl;
        apart = subst (λ (z : State). AreApart z.held) (sym is) (apart_set s.held i (held_then names t x) (g (held_then names t x)) now (same_id (held_then names t x)) b.apart);
      }

  -- who it is in the state
  found : {P : Type 0} (key : Key) (f : ℕ → Held → Option State) (u : State) (i : ℕ) (x : Life) → Before → at_held s (id_under names key) f ≡ Some u → slice_get xs i ≡ Some x → is_of names key x ≡ true
      → (f i (held_then names t x) ≡ Some u → P) → P
  found key f u i x b h at is k =
      let there : slice_get s.held i ≡ Some (held_then names t x) = ap (λ l. slice_get l i) (b.held t (omega arith)) ∙ slice_get-map (held_then names t) xs i ∙ ap (option_map (held_then names t)) at in
      let place : place_of s.held (id_under names key) ≡ Some i = stands_at s.held (id_under names key) i (held_then names t x) b.apart there is in
      and_some (λ j. option_and_then (f j) (slice_get s.held j)) (place_of s.held (id_under names key)) u h (λ j e g.
      let same : j ≡ i = same_Some j i (sym e ∙ place) in
      let here : option_and_then (f i) (slice_get s.held i) ≡ Some u = subst (λ n. option_and_then (f n) (slice_get s.held n) ≡ Some u) same g in
      k (ap (option_and_then (f i)) (sym there) ∙ here))

  -- where nobody is found there is nobody
  nobody : (key : Key) (f : ℕ → Held → Option State) (u : State) → Before → at_held s (id_under names key) f ≡ Some u → position (is_of names key) xs ≡ None → ⊥
  nobody key f u b h none =
      let place : place_of s.held (id_under names key) ≡ None =
      ap (λ l. place_of l (id_under names key)) (b.held t (omega arith)) ∙ position_mapped (λ (y : Held). same_id y.id (id_under names key)) (held_then names t) xs ∙ none in
      and_some (λ j. option_and_then (f j) (slice_get s.held j)) (place_of s.held (id_under names key)) u h (λ j e g. none-some j (sym place ∙ e))

  ended_step : (key : Key) (ys : List Life) (u : State) → Before → Changes names key (ended_at t) xs ys → after_fact s (fact.Ended (id_under names key)) ≡ Some u → Steps names t u xs ys bs bs
  ended_step key ys u b (Nobody none) h = absurd (nobody key (λ i x. end_at s i x) u b h none)
  ended_step key ys u b (Somebody i x at is new) h =
      found key (λ i x. end_at s i x) u i x b h at is (λ e.
      let y = held_then names t x in
      if_some y.live (Some (with_held s i (record y { live = false }))) u e (λ lives g.
      let alive : came x.ended t ≡ false = is_false (came x.ended t) lives in
      changed_step key (ended_at t) (λ (z : Held). record z { live = false }) ys u i x b at new (sym (same_Some _ u g)) (λ z. refl) refl
      (λ n le. ap (λ b. record { id = id_under names x.key; base = x.base; size = x.size; live = not b; exposed = came x.exposed n }) (le-leb t n le))
      (λ n lt. ap (λ b. record { id = id_under names x.key; base = x.base; size = x.size; live = not b; exposed = came x.exposed n })
      (late t n lt ∙ sym (still_to_come x.ended n t (omega (arith, lt)) alive)))))

  exposed_step : (key : Key) (ys : List Life) (u : State) → Before → Changes names key (exposed_at t) xs ys → after_fact s (fact.Exposed (id_under names key)) ≡ Some u → Steps names t u xs ys bs bs
  exposed_step key ys u b (Nobody none) h = absurd (nobody key (λ i x. expose_at s i x) u b h none)
  exposed_step key ys u b (Somebody i x at is new) h =
      found key (λ i x. expose_at s i x) u i x b h at is (λ e.
      let y = held_then names t x in
      if_some (y.live && not y.exposed) (Some (with_held s i (record y { exposed = true }))) u e (λ may g.
      let hidden : came x.exposed t ≡ false = is_false (came x.exposed t) (and_parts y.live (not y.exposed) may).1 in
      changed_step key (exposed_at t) (λ (z : Held). record z { exposed = true }) ys u i x b at new (sym (same_Some _ u g)) (λ z. refl) refl
      (λ n le. ap (λ b. record { id = id_under names x.key; base = x.base; size = x.size; live = not (came x.ended n); exposed = b }) (le-leb t n le))
      (λ n lt. ap (λ b. record { id = id_under names x.key; base = x.base; size = x.size; live = not (came x.ended n); exposed = b })
      (late t n lt ∙ sym (still_to_come x.exposed n t (omega (arith, lt)) hidden)))))

  -- ---- a pair is made, and used

  paired_step : (pair address : ℕ) (low high : Key) (u : State) → Before → after_fact s (fact.Paired pair address (id_under names low) (id_under names high)) ≡ Some u
      → Steps names t u xs xs bs (bs ++ tied_at t address low high ∷ [])
  paired_step pair address low high u b h =
      let x = tied_at t address low high in
      let y : Bond = record { address = address; low = id_under names low; high = id_under names high; keeps_low = true; keeps_high = true } in
      if_some (may_pair s pair address (id_under names low) (id_under names high)) (Some (record s { bonds = s.bonds ++ y ∷ [] })) u h (λ may e.
      let is : record s { bonds = s.bonds ++ y ∷ [] } ≡ u = same_Some _ u e in
      record {
        turn = ap (λ (z : State). z.turn) (sym is) ∙ b.turn;
        made = b.made;
        tied = λ n le. all_push (is_tied n) bs x (b.tied n le) (le-leb t n le);
        held = λ n le. ap (λ (z : State). z.held) (sym is) ∙ b.held n le;
        bonds = λ n le. ap (λ (z : State). z.bonds) (sym is) ∙ ap (λ l. l ++ y ∷ []) (b.bonds n le) ∙ sym (map_push (bond_then names n) bs x);
        held_before = λ n lt. refl;
        bonds_before = λ n lt. ap (map (bond_then names n)) (unseen (is_tied n) bs x (late t n lt));
        apart = subst (λ (z : State). AreApart z.held) is b.apart;
      })

  -- which of the two are left
  left_so : (c : Tie) (n : ℕ) (first : Key) (second : Option Key) (kept : Bool × Bool) → left_of (bond_then names n c) (id_under names first) (option_map (id_under names) second) ≡ Some kept
      → kept ≡ left_by names c first second
  left_so c n first None kept h = by (same_id (id_under names first) (id_under names c.low)) (same_id (id_under names first) (id_under names c.high)) h
    where
      by : (p q : Bool) → cond p (Some (true, false)) (cond q (Some (false, true)) None) ≡ Some kept → kept ≡ cond p (true, false) (false, true)
      by true q e = sym (same_Some (true, false) kept e)
      by false true e = sym (same_Some (false, true) kept e)
      by false false e = absurd (none-some kept e)
  left_so c n first (Some second) kept h =
      if_some (same_id (id_under names first) (id_under names c.low) && same_id (id_under names second) (id_under names c.high)) (Some (true, true)) kept h (λ both e. sym (same_Some (true, true) kept e))

  used_step : (pair test : ℕ) (first : Key) (second : Option Key) (cs : List Tie) (u : State) → Before → Uses names t pair first second bs cs
      → after_fact s (fact.Used pair test (id_under names first) (option_map (id_under names) second)) ≡ Some u → Steps names t u xs xs bs cs
  used_step pair test first second cs u b uses h =
      let k = pair - 1 in
      let one = id_under names first in
      let other = option_map (id_under names) second in
      if_some (leb 1 pair) (option_and_then (λ y. use_at s k test one other y) (slice_get s.bonds k)) u h (λ some h.
      and_some (λ y. use_at s k test one other y) (slice_get s.bonds k) u h (λ y at h.
      map_some (bond_then names t) (slice_get bs k) y (sym (slice_get-map (bond_then names t) bs k) ∙ ap (λ l. slice_get l k) (sym (b.bonds t (omega arith))) ∙ at) (λ c there same.
      if_some (y.keeps_low && y.keeps_high) (option_and_then (λ kept. cond (may_leave s.held y test kept.0 kept.1) (Some (record s { bonds = set s.bonds k (keeping y kept) })) None) (left_of y one other)) u h (λ both h.
      and_some (λ kept. cond (may_leave s.held y test kept.0 kept.1) (Some (record s { bonds = set s.bonds k (keeping y kept) })) None) (left_of y one other) u h (λ kept left h.
      if_some (may_leave s.held y test kept.0 kept.1) (Some (record s { bonds = set s.bonds k (keeping y kept) })) u h (λ may e.
      let is : record s { bonds = set s.bonds k (keeping y kept) } ≡ u = same_Some _ u e in
      let new : cs ≡ set bs k (used_at names t first second c) = uses c (leb-one pair some) there in
      let leaves : kept ≡ left_by names c first second = left_so c t first second kept (ap (λ z. left_of z one other) same ∙ left) in
      let keeps = and_parts y.keeps_low y.keeps_high both in
      let low : (not (came c.used t) || c.leaves_low) ≡ true = ap (λ (z : Bond). z.keeps_low) same ∙ keeps.0 in
      let high : (not (came c.used t) || c.leaves_high) ≡ true = ap (λ (z : Bond). z.keeps_high) same ∙ keeps.1 in
      used_as c y kept first second cs u b there new (sym is) leaves low high
      (λ n le. same_Some y (bond_then names n c) (sym at ∙ ap (λ l. slice_get l k) (b.bonds n le) ∙ slice_get-map (bond_then names n) bs k ∙ ap (option_map (bond_then names n)) there))))))))
    where
      leb-one : (pair : ℕ) → leb 1 pair ≡ true → 1 ≤ pair
      leb-one pair some = grind (arith, nat_tests)

      used_as : (c : Tie) (y : Bond) (kept : Bool × Bool) (first : Key) (second : Option Key) (cs : List Tie) (u : State) → Before → slice_get bs (pair - 1) ≡ Some c
          → cs ≡ set bs (pair - 1) (used_at names t first second c) → u ≡ record s { bonds = set s.bonds (pair - 1) (keeping y kept) } → kept ≡ left_by names c first second
          → (not (came c.used t) || c.leaves_low) ≡ true → (not (came c.used t) || c.leaves_high) ≡ true → ((n : ℕ) → t ≤ n → y ≡ bond_then names n c) → Steps names t u xs xs bs cs
      used_as c y kept first second cs u b there new is leaves low high same =
          let k = pair - 1 in
          let d = used_at names t first second c in
          let l = left_by names c first second in
          record {
            turn = ap (λ (z : State). z.turn) is ∙ b.turn;
            made = b.made;
            tied = λ n le. ap (list_all (is_tied n)) new ∙ all_set (is_tied n) bs k c d there refl ∙ b.tied n le;
            held = λ n le. ap (λ (z : State). z.held) is ∙ b.held n le;
            bonds = λ n le.
                let kept_now : keeping y kept ≡ bond_then names n d =
                ap (keeping y) leaves ∙ ap (λ (z : Bond). keeping z l) (same n le)
                ∙ ap (λ w. record { address = c.address; low = id_under names c.low; high = id_under names c.high; keeps_low = not w || l.0; keeps_high = not w || l.1 }) (sym (le-leb t n le)) in
                ap (λ (z : State). z.bonds) is ∙ ap (λ m. set m k (keeping y kept)) (b.bonds n le) ∙ ap (set (map (bond_then names n) bs) k) kept_now
                ∙ sym (map-set (bond_then names n) bs k d) ∙ ap (map (bond_then names n)) (sym new);
            held_before = λ n lt. refl;
            bonds_before = λ n lt.
                let as_before : bond_then names n d ≡ bond_then names n c =
                ap (λ w. record { address = c.address; low = id_under names c.low; high = id_under names c.high; keeps_low = not w || l.0; keeps_high = not w || l.1 }) (late t n lt)
                ∙ (λ i. record {
                  address = c.address;
                  low = id_under names c.low;
                  high = id_under names c.high;
                  keeps_low = sym (kept_before c.used n t c.leaves_low (omega (arith, lt)) low) i;
                  keeps_high = sym (kept_before c.used n t c.leaves_high (omega (arith, lt)) high) i;
                }) in
                ap (bonds_then names n) new ∙ same_seen (is_tied n) (bond_then names n) bs k c d there refl as_before;
            apart = subst (λ (z : State). AreApart z.held) (sym is) b.apart;
          }

  -- ---- nothing changes

  fault_step : (u : State) → Before → after_fact s fact.Fault ≡ Some u → Steps names t u xs xs bs bs
  fault_step u b h =
      let is : record s { over = true } ≡ u = same_Some _ u h in
      record {
        turn = ap (λ (z : State). z.turn) (sym is) ∙ b.turn;
        made = b.made;
        tied = b.tied;
        held = λ n le. ap (λ (z : State). z.held) (sym is) ∙ b.held n le;
        bonds = λ n le. ap (λ (z : State). z.bonds) (sym is) ∙ b.bonds n le;
        held_before = λ n lt. refl;
        bonds_before = λ n lt. refl;
        apart = subst (λ (z : State). AreApart z.held) is b.apart;
      }

  fact_step : (what : Said) (ys : List Life) (cs : List Tie) (u : State) → Before → Notes names t what xs ys bs cs → after_fact s (fact_under names what) ≡ Some u → Steps names t u xs ys bs cs
  fact_step (Made key base size) ys cs u b notes h =
      subst (λ l. Steps names t u xs l bs cs) (sym notes.0) (subst (λ l. Steps names t u xs (xs ++ made_at t key base size ∷ []) bs l) (sym notes.1) (made_step key base size u b h))
  fact_step (Ended key) ys cs u b notes h = subst (λ l. Steps names t u xs ys bs l) (sym notes.1) (ended_step key ys u b notes.0 h)
  fact_step (Exposed key) ys cs u b notes h = subst (λ l. Steps names t u xs ys bs l) (sym notes.1) (exposed_step key ys u b notes.0 h)
  fact_step (Pair pair address low high) ys cs u b notes h =
      subst (λ l. Steps names t u xs l bs cs) (sym notes.0)
      (subst (λ l. Steps names t u xs xs bs l) (sym notes.1) (paired_step pair address low high u b h))
  fact_step (Used pair test first second) ys cs u b notes h = subst (λ l. Steps names t u xs l bs cs) (sym notes.0) (used_step pair test first second cs u b notes.1 h)
  fact_step Fault ys cs u b notes h = subst (λ l. Steps names t u xs l bs cs) (sym notes.0) (subst (λ l. Steps names t u xs xs bs l) (sym notes.1) (fault_step u b h))

-- ---- one line more

-- a line that isn't up to n is no line of the run up to n
upto_same : (n : ℕ) (rows : List Row) (row : Row) → n < row.turn → rows_upto n (rows ++ row ∷ []) ≡ rows_upto n rows
upto_same n rows row lt = unseen (λ (r : Row). leb r.turn n) rows row (late row.turn n lt)

kept_next : (names : List (List ℕ)) (rows : List Row) (row : Row) (xs ys : List Life) (bs cs : List Tie) (u : State) → (k : Kept names rows xs bs) → k.state.turn ≤ row.turn
    → after k.state row ≡ Some u → Steps names row.turn u xs ys bs cs → Kept names (rows ++ row ∷ []) ys cs
kept_next names rows row xs ys bs cs u k le h step =
    let t = row.turn in
    let passes : after_all at_first (rows ++ row ∷ []) ≡ Some u = after_all-snoc at_first k.state rows row k.passes ∙ h in
    let all : (n : ℕ) → t ≤ n → list_all (λ (r : Row). leb r.turn n) (rows ++ row ∷ []) ≡ true = λ n l. all_push (λ (r : Row). leb r.turn n) rows row (k.rows_in n (omega (arith, le, l))) (le-leb t n l) in
    let now : (n : ℕ) → t ≤ n → state_at (rows ++ row ∷ []) n ≡ u = λ n l.
    ap (λ r. unwrap_or (after_all at_first r) at_first) (filter_all (λ (r : Row). leb r.turn n) (rows ++ row ∷ []) (all n l)) ∙ ap (λ o. unwrap_or o at_first) passes in
    let before : (n : ℕ) → n < t → state_at (rows ++ row ∷ []) n ≡ state_at rows n = λ n l. ap (λ r. unwrap_or (after_all at_first r) at_first) (upto_same n rows row l) in
    record {
      state = u;
      passes = passes;
      rows_in = λ n l. all n (subst (λ m. m ≤ n) step.turn l);
      made = λ n l. step.made n (subst (λ m. m ≤ n) step.turn l);
      tied = λ n l. step.tied n (subst (λ m. m ≤ n) step.turn l);
      held = λ n l. step.held n (subst (λ m. m ≤ n) step.turn l);
      bonds = λ n l. step.bonds n (subst (λ m. m ≤ n) step.turn l);
      apart = step.apart;
      tells = record {
        held = λ n. elim (cases_lt n t) [
          | inl lt ↦ ap (λ (z : State). z.held) (before n lt) ∙ k.tells.held n ∙ sym (step.held_before n lt)
          | inr l ↦ ap (λ (z : State). z.held) (now n l) ∙ step.held n l ∙ ap (map (held_then names n)) (sym (filter_all (is_made n) ys (step.made n l)))
        ];
        bonds = λ n. elim (cases_lt n t) [
          | inl lt ↦ ap (λ (z : State). z.bonds) (before n lt) ∙ k.tells.bonds n ∙ sym (step.bonds_before n lt)
          | inr l ↦ ap (λ (z : State). z.bonds) (now n l) ∙ step.bonds n l ∙ ap (map (bond_then names n)) (sym (filter_all (is_tied n) cs (step.tied n l)))
        ];
      };
    }

pub kept_first : (names : List (List ℕ)) → Kept names [] [] []
kept_first names = record {
  state = at_first;
  passes = refl;
  rows_in = λ n l. refl;
  made = λ n l. refl;
  tied = λ n l. refl;
  held = λ n l. refl;
  bonds = λ n l. refl;
  apart = λ j k x y l g h e. none-some x g;
  tells = record { held = λ n. refl; bonds = λ n. refl };
}

-- a line that passes, and what was noted of it
pub kept_more : (names : List (List ℕ)) (rows : List Row) (line : Line) (xs ys : List Life) (bs cs : List Tie) (u : State) → Kept names rows xs bs
    → after_all at_first (rows ++ row_under names line ∷ []) ≡ Some u → Notes names line.turn line.what xs ys bs cs → Kept names (rows ++ row_under names line ∷ []) ys cs
kept_more names rows line xs ys bs cs u k h notes =
    let row = row_under names line in
    let s = k.state in
    let one : after s row ≡ Some u = sym (after_all-snoc at_first s rows row k.passes) ∙ h in
    let s' : State = record s { turn = line.turn } in
    if_some (not s.over && (leb s.turn line.turn && ltb line.turn (2 ^ 64))) (after_fact s' (fact_under names line.what)) u one (λ may g.
    let le : s.turn ≤ line.turn = leb-turn s.turn line.turn (and_parts (leb s.turn line.turn) (ltb line.turn (2 ^ 64)) (and_parts (not s.over) _ may).1).0 in
    let before : Before names xs bs s' line.turn = record {
      turn = refl;
      made = λ n l. k.made n (omega (arith, le, l));
      tied = λ n l. k.tied n (omega (arith, le, l));
      held = λ n l. k.held n (omega (arith, le, l));
      bonds = λ n l. k.bonds n (omega (arith, le, l));
      apart = k.apart;
    } in
    kept_next names rows row xs ys bs cs u k le one (fact_step names xs bs s' line.turn line.what ys cs u before notes g))
  where
    leb-turn : (a b : ℕ) → leb a b ≡ true → a ≤ b
    leb-turn a b h = grind (arith, nat_tests)
