-- The events of a list that passes are lines that obey, and what is written of them is their text.
use Rattle.std.proofs.Common.{◌≡◌, ℕ, suc, ◌+◌, ◌-◌, ◌≤◌, Bool, true, false, ◌&&◌, not, cond, eqb, leb, List, [], ◌∷◌, ◌++◌, codes, length, map, set, Option, Some, None, IsSome, refl, sym, ap, ◌∙◌, append_assoc, arith, subst}
use Rattle.std.proofs.lemmas.Bool.{and_parts}
use Rattle.std.proofs.lemmas.Bool.Decides.{nat_tests, Decides-eqb}
use Rattle.std.proofs.lemmas.Option.{none-some, same_Some, slice_get-map}
use Rattle.std.proofs.lemmas.List.{map-set, length-map}
use Rattle.std.specs.List.{slice_get}
use Rattle.std.specs.Option.{option_map, option_and_then}
use Rattle.std.specs.Fmt.{decimal}
use Rattle.std.specs.Prelude.{if◌then◌else◌}
use Rattle.pv_script.specs.Words.{is_name}
use Rattle.pv_script.specs.Names.{name_at}
use Rattle.pv_watch.specs.declared.event.Event.{Event}
use Rattle.pv_watch.specs.declared.event.What.{What}
use Rattle.pv_watch.specs.declared.event.What.TheVariants as what
use Rattle.pv_watch.specs.Lines.{what_text, event_lines, first_told, making_of_pair, survivors_of}
use Rattle.pv_journal.specs.Journals.{Id, Fact, Made, Ended, Exposed, Paired, Used, Row, row_text, rows_text, left_text}
use Rattle.pv_journal.specs.Obeying.{Held, Bond, State, at_first, after, after_all, after_fact, may_make, may_pair, is_id, end_at, expose_at, at_held, with_held, place_of, use_at, keeping, left_of, may_leave}
use Rattle.pv_journal_laws.specs.Runs.{TellsAJournal}
use Rattle.pv_journal_laws.proofs.Telling.{known, used_by, fact_in, row_in, after_event, after_events}
use Rattle.pv_journal_laws.proofs.Lines.{ends_line, exposed_line, fault_line, made_line, paired_line, used_line, survivors_line}
use Rattle.pv_journal_laws.proofs.Knowing.{MakesNone, IsMade, IsPaired, Knows, at_number, made_text, made_more, paired_more, knows_none, knows_still, knows_made, knows_paired}
use Rattle.pv_journal_laws.proofs.Parts.{and_some, map_some, if_some, set_same, snoc_map}

-- ---- instances and pairs that are known in a state

abbrev ids_of : State → List Id
ids_of s = map (λ (x : Held). x.id) s.held

abbrev two_of : Bond → Id × Id
two_of b = (b.low, b.high)

abbrev twos_of : State → List (Id × Id)
twos_of s = map two_of s.bonds

known_number : (s : State) (i : ℕ) (id : Id) → known s.held i ≡ Some id → at_number (ids_of s) i ≡ Some id
known_number s i id h = by (eqb i 0) h
  where
    by : (b : Bool) → cond b None (option_map (λ (x : Held). x.id) (slice_get s.held (i - 1))) ≡ Some id → cond b None (slice_get (map (λ (x : Held). x.id) s.held) (i - 1)) ≡ Some id
    by true h = absurd (none-some id h)
    by false h = slice_get-map (λ (x : Held). x.id) s.held (i - 1) ∙ h

bond_number : (s : State) (k : ℕ) (b : Bond) → 1 ≤ k → slice_get s.bonds (k - 1) ≡ Some b → at_number (twos_of s) k ≡ Some (b.low, b.high)
bond_number s k b one h =
    let some : eqb k 0 ≡ false = grind (arith, nat_tests) in
    ap (λ t. cond t None (slice_get (twos_of s) (k - 1))) some ∙ slice_get-map two_of s.bonds (k - 1) ∙ ap (option_map two_of) h

last_number : {X : Type 0} (xs : List X) (y : X) (i : ℕ) → i ≡ length xs + 1 → at_number (xs ++ y ∷ []) i ≡ Some y
last_number {X} xs y i e =
    let some : eqb i 0 ≡ false = grind (arith, nat_tests) in
    let place : i - 1 ≡ length xs = omega (arith, e) in
    ap (λ t. cond t None (slice_get (xs ++ y ∷ []) (i - 1))) some ∙ ap (slice_get (xs ++ y ∷ [])) place ∙ last xs
  where
    last : (xs : List X) → slice_get (xs ++ y ∷ []) (length xs) ≡ Some y
    last [] = refl
    last (x ∷ xs) = last xs

-- a row that keeps what it shows
shown_same : {X Y : Type 0} (f : X → Y) (xs : List X) (i : ℕ) (x y : X) → slice_get xs i ≡ Some x → f y ≡ f x → map f (set xs i y) ≡ map f xs
shown_same f xs i x y at e = map-set f xs i y ∙ ap (λ z. set (map f xs) i z) e ∙ set_same (map f xs) i (f x) (slice_get-map f xs i ∙ ap (option_map f) at)

-- ---- a fact that passes

-- the same instances and pairs are known after it
record Keeps (s u : State) : Type 0 where
  ids : ids_of u ≡ ids_of s
  twos : twos_of u ≡ twos_of s

held_keeps : (s u : State) (id : Id) (f : ℕ → Held → Option State) → ((i : ℕ) (x : Held) → slice_get s.held i ≡ Some x → f i x ≡ Some u → Keeps s u) → at_held s id f ≡ Some u → Keeps s u
held_keeps s u id f k h = and_some (λ i. option_and_then (f i) (slice_get s.held i)) (place_of s.held id) u h (λ i e g. and_some (f i) (slice_get s.held i) u g (λ x at g. k i x at g))

put_keeps : (s u : State) (c : Bool) (i : ℕ) (x y : Held) → slice_get s.held i ≡ Some x → y.id ≡ x.id → cond c (Some (with_held s i y)) None ≡ Some u → Keeps s u
put_keeps s u c i x y at same h =
    if_some c (Some (with_held s i y)) u h (λ e g.
    let is : with_held s i y ≡ u = same_Some (with_held s i y) u g in
    record { ids = ap ids_of (sym is) ∙ shown_same (λ (z : Held). z.id) s.held i x y at same; twos = ap twos_of (sym is) })

ended_keeps : (s u : State) (id : Id) → after_fact s (Ended id) ≡ Some u → Keeps s u
ended_keeps s u id h = held_keeps s u id (λ i x. end_at s i x) (λ i x at g. put_keeps s u x.live i x (record x { live = false }) at refl g) h

exposed_keeps : (s u : State) (id : Id) → after_fact s (Exposed id) ≡ Some u → Keeps s u
exposed_keeps s u id h = held_keeps s u id (λ i x. expose_at s i x) (λ i x at g. put_keeps s u (x.live && not x.exposed) i x (record x { exposed = true }) at refl g) h

use_keeps : (s u : State) (i test : ℕ) (first : Id) (second : Option Id) (b : Bond) → slice_get s.bonds i ≡ Some b → use_at s i test first second b ≡ Some u → Keeps s u
use_keeps s u i test first second b at h =
    if_some (b.keeps_low && b.keeps_high) (option_and_then go (left_of b first second)) u h (λ e g.
    and_some go (left_of b first second) u g (λ kept e g.
    if_some (may_leave s.held b test kept.0 kept.1) (Some (record s { bonds = set s.bonds i (keeping b kept) })) u g (λ e g.
    let is : record s { bonds = set s.bonds i (keeping b kept) } ≡ u = same_Some (record s { bonds = set s.bonds i (keeping b kept) }) u g in
    record { ids = ap ids_of (sym is); twos = ap twos_of (sym is) ∙ shown_same two_of s.bonds i b (keeping b kept) at refl })))
  where
    go : Bool × Bool → Option State
    go kept = if may_leave s.held b test kept.0 kept.1 then Some (record s { bonds = set s.bonds i (keeping b kept) }) else None

used_keeps : (s u : State) (pair test : ℕ) (first : Id) (second : Option Id) → after_fact s (Used pair test first second) ≡ Some u → (1 ≤ pair) × Keeps s u
used_keeps s u pair test first second h =
    if_some (leb 1 pair) (option_and_then (λ b. use_at s (pair - 1) test first second b) (slice_get s.bonds (pair - 1))) u h (λ e g.
    and_some (λ b. use_at s (pair - 1) test first second b) (slice_get s.bonds (pair - 1)) u g (λ b at g.
    (grind (arith, nat_tests), use_keeps s u (pair - 1) test first second b at g)))

-- ---- an event that is such a fact

-- what makes these known
record Says (names : List (List ℕ)) (seen : List Event) (u : State) : Type 0 where
  made : (i : ℕ) (id : Id) → at_number (ids_of u) i ≡ Some id → IsMade seen names i id
  paired : (k : ℕ) (left right : Id) → at_number (twos_of u) k ≡ Some (left, right) → IsPaired seen names k left right

-- who is who is known behind the event, and so its line is that of its row
record Stepped (names : List (List ℕ)) (turn : ℕ) (w : What) (f : Fact) (s u : State) : Type 0 where
  knows : (done : List Event) → Knows names done (ids_of s) (twos_of s) → Knows names (done ++ record { turn = turn; what = w } ∷ []) (ids_of u) (twos_of u)
  line : (seen : List Event) → Says names seen u → what_text seen names turn w ≡ row_text (record { turn = turn; says = f })

module _ (names : List (List ℕ)) (turn : ℕ) where
  still_knows : (w : What) (s u : State) → MakesNone w → Keeps s u → (done : List Event) → Knows names done (ids_of s) (twos_of s) → Knows names (done ++ record { turn = turn; what = w } ∷ []) (ids_of u) (twos_of u)
  still_knows w s u none k done h =
      let e : Event = record { turn = turn; what = w } in
      subst (λ ids. Knows names (done ++ e ∷ []) ids (twos_of u)) (sym k.ids) (subst (λ twos. Knows names (done ++ e ∷ []) (ids_of s) twos) (sym k.twos) (knows_still names done e (ids_of s) (twos_of s) none h))

  -- an instance that was known is known still
  known_still : (s u : State) (i : ℕ) (id : Id) → Keeps s u → known s.held i ≡ Some id → at_number (ids_of u) i ≡ Some id
  known_still s u i id k h = ap (λ ids. at_number ids i) k.ids ∙ known_number s i id h

  ended_step : (s u : State) (i : ℕ) (id : Id) → known s.held i ≡ Some id → after_fact s (Ended id) ≡ Some u → Stepped names turn (what.Ended i) (Ended id) s u
  ended_step s u i id h g =
      let k = ended_keeps s u id g in
      record {
        knows = still_knows (what.Ended i) s u (λ j. refl, λ j. refl) k;
        line = λ seen says. ends_line seen names turn i id (made_text seen names i id (says.made i id (known_still s u i id k h)));
      }

  exposed_step : (s u : State) (i : ℕ) (id : Id) → known s.held i ≡ Some id → after_fact s (Exposed id) ≡ Some u → Stepped names turn (what.Exposed i) (Exposed id) s u
  exposed_step s u i id h g =
      let k = exposed_keeps s u id g in
      record {
        knows = still_knows (what.Exposed i) s u (λ j. refl, λ j. refl) k;
        line = λ seen says. exposed_line seen names turn i id (made_text seen names i id (says.made i id (known_still s u i id k h)));
      }

  made_step : (s u : State) (inst name k base size : ℕ) → inst ≡ length s.held + 1 → after_fact s (Made (record { name = name_at names name; k = k }) base size) ≡ Some u
      → Stepped names turn (what.Made inst name k base size) (Made (record { name = name_at names name; k = k }) base size) s u
  made_step s u inst name k base size next g =
      let id : Id = record { name = name_at names name; k = k } in
      let x : Held = record { id = id; base = base; size = size; live = true; exposed = false } in
      let t : State = record s { held = s.held ++ x ∷ [] } in
      if_some (may_make s.held id base size) (Some t) u g (λ may g.
      let is : t ≡ u = same_Some t u g in
      let valid = (and_parts (is_name id.name) _ (and_parts (is_id id) _ may).0).0 in
      let number : inst ≡ length (ids_of s) + 1 = next ∙ ap (λ n. n + 1) (sym (length-map s.held (λ (z : Held). z.id))) in
      let ids : ids_of u ≡ ids_of s ++ id ∷ [] = ap ids_of (sym is) ∙ snoc_map (λ (z : Held). z.id) s.held x in
      let twos : twos_of u ≡ twos_of s = ap twos_of (sym is) in
      record {
        knows = λ done h.
            let e : Event = record { turn = turn; what = what.Made inst name k base size } in
            subst (λ l. Knows names (done ++ e ∷ []) l (twos_of u)) (sym ids) (subst (λ l. Knows names (done ++ e ∷ []) (ids_of s ++ id ∷ []) l) (sym twos) (knows_made names done turn inst name k base size (ids_of s) (twos_of s) number valid h));
        line = λ seen says. made_line seen names turn inst name k base size id (made_text seen names inst id (says.made inst id (ap (λ l. at_number l inst) ids ∙ last_number (ids_of s) id inst number)));
      })

  paired_step : (s u : State) (pair address i j : ℕ) (low high : Id) → known s.held i ≡ Some low → known s.held j ≡ Some high → after_fact s (Paired pair address low high) ≡ Some u
      → Stepped names turn (what.Pair pair address i j) (Paired pair address low high) s u
  paired_step s u pair address i j low high il jh g =
      let b : Bond = record { address = address; low = low; high = high; keeps_low = true; keeps_high = true } in
      let t : State = record s { bonds = s.bonds ++ b ∷ [] } in
      if_some (may_pair s pair address low high) (Some t) u g (λ may g.
      let is : t ≡ u = same_Some t u g in
      let number : pair ≡ length (twos_of s) + 1 = (Decides-eqb pair (length s.bonds + 1)).0 (and_parts (eqb pair (length s.bonds + 1)) _ may).0 ∙ ap (λ n. n + 1) (sym (length-map s.bonds two_of)) in
      let ids : ids_of u ≡ ids_of s = ap ids_of (sym is) in
      let twos : twos_of u ≡ twos_of s ++ (low, high) ∷ [] = ap twos_of (sym is) ∙ snoc_map two_of s.bonds b in
      record {
        knows = λ done h.
            let e : Event = record { turn = turn; what = what.Pair pair address i j } in
            subst (λ l. Knows names (done ++ e ∷ []) l (twos_of u)) (sym ids) (subst (λ l. Knows names (done ++ e ∷ []) (ids_of s) l) (sym twos)
            (knows_paired names done turn pair address i j low high (ids_of s) (twos_of s) number (known_number s i low il) (known_number s j high jh) h));
        line = λ seen says.
            paired_line seen names turn pair address i j low high
            (made_text seen names i low (says.made i low (ap (λ l. at_number l i) ids ∙ known_number s i low il)))
            (made_text seen names j high (says.made j high (ap (λ l. at_number l j) ids ∙ known_number s j high jh)));
      })

  -- a use, by who passed
  used_as : (s u : State) (pair test : ℕ) (b : Bond) (low high : Bool) (first : Id) (second : Option Id) → slice_get s.bonds (pair - 1) ≡ Some b
      → ((seen : List Event) (i j : ℕ) → first_told (making_of_pair pair) seen ≡ Some (i, j) → IsMade seen names i b.low → IsMade seen names j b.high → survivors_of seen names (first_told (making_of_pair pair) seen) low high ≡ left_text first second)
      → after_fact s (Used pair test first second) ≡ Some u → Stepped names turn (what.Tried pair test low high) (Used pair test first second) s u
  used_as s u pair test b low high first second at left g =
      let k = used_keeps s u pair test first second g in
      record {
        knows = still_knows (what.Tried pair test low high) s u (λ j. refl, λ j. refl) k.1;
        line = λ seen says.
            let p = says.paired pair b.low b.high (ap (λ l. at_number l pair) k.1.twos ∙ bond_number s pair b k.0 at) in
            used_line seen names turn pair test low high first second (left seen p.first.0 p.first.1 p.told p.low p.high);
      }

  used_step : (s u : State) (pair test : ℕ) (b : Bond) (low high : Bool) (f : Fact) → slice_get s.bonds (pair - 1) ≡ Some b → used_by pair test b low high ≡ Some f → after_fact s f ≡ Some u → Stepped names turn (what.Tried pair test low high) f s u
  used_step s u pair test b true true f at h g =
      subst (λ f. after_fact s f ≡ Some u → Stepped names turn (what.Tried pair test true true) f s u) (same_Some _ f h)
      (used_as s u pair test b true true b.low (Some b.high) at (λ seen i j e l r. (survivors_line seen names _ i j b.low b.high e (made_text seen names i b.low l) (made_text seen names j b.high r)).0)) g
  used_step s u pair test b true false f at h g =
      subst (λ f. after_fact s f ≡ Some u → Stepped names turn (what.Tried pair test true false) f s u) (same_Some _ f h)
      (used_as s u pair test b true false b.low None at (λ seen i j e l r. (survivors_line seen names _ i j b.low b.high e (made_text seen names i b.low l) (made_text seen names j b.high r)).1)) g
  used_step s u pair test b false true f at h g =
      subst (λ f. after_fact s f ≡ Some u → Stepped names turn (what.Tried pair test false true) f s u) (same_Some _ f h)
      (used_as s u pair test b false true b.high None at (λ seen i j e l r. (survivors_line seen names _ i j b.low b.high e (made_text seen names i b.low l) (made_text seen names j b.high r)).2)) g
  used_step s u pair test b false false f at h g = absurd (none-some f h)

  -- an event of any kind
  fact_step : (w : What) (f : Fact) (s u : State) → fact_in names s w ≡ Some f → after_fact s f ≡ Some u → Stepped names turn w f s u
  fact_step (what.Made inst name k base size) f s u h g =
      if_some (eqb inst (length s.held + 1)) (Some (Made (record { name = name_at names name; k = k }) base size)) f h (λ e q.
      subst (λ f. after_fact s f ≡ Some u → Stepped names turn (what.Made inst name k base size) f s u) (same_Some _ f q)
      (made_step s u inst name k base size ((Decides-eqb inst (length s.held + 1)).0 e)) g)
  fact_step (what.Ended i) f s u h g =
      map_some Ended (known s.held i) f h (λ id at q. subst (λ f. after_fact s f ≡ Some u → Stepped names turn (what.Ended i) f s u) q (ended_step s u i id at) g)
  fact_step (what.Exposed i) f s u h g =
      map_some Exposed (known s.held i) f h (λ id at q. subst (λ f. after_fact s f ≡ Some u → Stepped names turn (what.Exposed i) f s u) q (exposed_step s u i id at) g)
  fact_step (what.Pair pair address i j) f s u h g =
      and_some (λ l. option_map (λ r. Paired pair address l r) (known s.held j)) (known s.held i) f h (λ low il h.
      map_some (λ r. Paired pair address low r) (known s.held j) f h (λ high jh q.
      subst (λ f. after_fact s f ≡ Some u → Stepped names turn (what.Pair pair address i j) f s u) q (paired_step s u pair address i j low high il jh) g))
  fact_step (what.Tried pair test low high) f s u h g =
      and_some (λ b. used_by pair test b low high) (slice_get s.bonds (pair - 1)) f h (λ b at h. used_step s u pair test b low high f at h g)
  fact_step (what.Fault verdict low high pair) f s u h g =
      subst (λ f. after_fact s f ≡ Some u → Stepped names turn (what.Fault verdict low high pair) f s u) (same_Some _ f h)
      (λ g.
      let is : record s { over = true } ≡ u = same_Some (record s { over = true }) u g in
      record {
        knows = still_knows (what.Fault verdict low high pair) s u (λ j. refl, λ j. refl) (record { ids = ap ids_of (sym is); twos = ap twos_of (sym is) });
        line = λ seen says. fault_line seen names turn verdict low high pair;
      }) g

-- ---- a list of events

-- they are lines that pass, and their text is what is written
record AreLines (names : List (List ℕ)) (seen es : List Event) (s t : State) : Type 0 where
  rows : List Row
  passes : after_all s rows ≡ Some t
  count : length rows ≡ length es
  text : event_lines seen names es ≡ rows_text rows

-- an event with its turn
record IsLine (names : List (List ℕ)) (e : Event) (s u : State) : Type 0 where
  row : Row
  passes : after s row ≡ Some u
  knows : (done : List Event) → Knows names done (ids_of s) (twos_of s) → Knows names (done ++ e ∷ []) (ids_of u) (twos_of u)
  line : (seen : List Event) → Says names seen u → what_text seen names e.turn e.what ≡ row_text row

event_line_is : (names : List (List ℕ)) (e : Event) (s u : State) → after_event names s e ≡ Some u → IsLine names e s u
event_line_is names e s u h =
    and_some (after s) (row_in names s e) u h (λ row is passes.
    map_some (λ f. record { turn = e.turn; says = f }) (fact_in names s e.what) row is (λ f at same.
    subst (λ (r : Row). after s r ≡ Some u → IsLine names e s u) same
    (λ passes.
    let s' : State = record s { turn = e.turn } in
    if_some _ (after_fact s' f) u passes (λ c g.
    let step = fact_step names e.turn e.what f s' u (alike e.what f at) g in
    record { row = record { turn = e.turn; says = f }; passes = passes; knows = step.knows; line = step.line })) passes))
  where
    alike : (w : What) (f : Fact) → fact_in names s w ≡ Some f → fact_in names (record s { turn = e.turn }) w ≡ Some f
    alike (what.Made inst name k base size) f h = h
    alike (what.Ended i) f h = h
    alike (what.Exposed i) f h = h
    alike (what.Pair pair address low high) f h = h
    alike (what.Tried pair test low high) f h = h
    alike (what.Fault verdict low high pair) f h = h

lines_are : (names : List (List ℕ)) (es done : List Event) (s t : State) → Knows names done (ids_of s) (twos_of s) → after_events names s es ≡ Some t → AreLines names (done ++ es) es s t
lines_are names [] done s t k h = record { rows = []; passes = h; count = refl; text = refl }
lines_are names (e ∷ es) done s t k h =
    and_some (λ u. after_events names u es) (after_event names s e) t h (λ u first rest.
    let i = event_line_is names e s u first in
    let now : Knows names (done ++ e ∷ []) (ids_of u) (twos_of u) = i.knows done k in
    let later : AreLines names ((done ++ e ∷ []) ++ es) es u t = lines_are names es (done ++ e ∷ []) u t now rest in
    let all : (done ++ e ∷ []) ++ es ≡ done ++ (e ∷ es) = append_assoc done (e ∷ []) es in
    let says : Says names ((done ++ e ∷ []) ++ es) u = record {
      made = λ n id g. made_more (done ++ e ∷ []) es names n id (now.made n id g);
      paired = λ n l r g. paired_more (done ++ e ∷ []) es names n l r (now.paired n l r g);
    } in
    let whole : AreLines names ((done ++ e ∷ []) ++ es) (e ∷ es) s t = record {
      rows = i.row ∷ later.rows;
      passes = ap (option_and_then (λ u. after_all u later.rows)) i.passes ∙ later.passes;
      count = ap suc later.count;
      text =
          ap (λ l. (l ++ 10 ∷ []) ++ event_lines ((done ++ e ∷ []) ++ es) names es) (i.line ((done ++ e ∷ []) ++ es) says)
          ∙ append_assoc (row_text i.row) (10 ∷ []) (event_lines ((done ++ e ∷ []) ++ es) names es)
          ∙ ap (λ l. row_text i.row ++ (10 ∷ l)) later.text;
    } in
    subst (λ l. AreLines names l (e ∷ es) s t) all whole)

-- what is written of events that pass is the journal of lines that obey
pub tells_journal : (names : List (List ℕ)) (es : List Event) (t : State) → after_events names at_first es ≡ Some t → TellsAJournal es names
tells_journal names es t h =
    let l : AreLines names es es at_first t = lines_are names es [] at_first t (knows_none names) h in (
      l.rows,
      record {
        obeys = subst IsSome (sym l.passes) refl;
        text = ap (λ x. x ++ ((codes "events " ++ decimal (length es)) ++ 10 ∷ [])) l.text ∙ ap (λ n. rows_text l.rows ++ ((codes "events " ++ decimal n) ++ 10 ∷ [])) (sym l.count);
      },
    )
