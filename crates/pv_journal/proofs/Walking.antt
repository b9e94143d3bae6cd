-- The walk of the checker over the pieces of a text.
use Rattle.std.proofs.Common.{◌≡◌, ℕ, ◌+◌, ◌-◌, ◌<◌, ◌≤◌, ◌^◌, Bool, true, false, cond, eqb, not, ltb, leb, ◌&&◌, List, [], ◌∷◌, ◌++◌, codes, length, take, drop, All, Option, Some, None, Result, Ok, Err, IfOk, IfErr, refl, sym, ap, ◌∙◌, arith, subst}
use Rattle.std.proofs.lemmas.Bool.{false≢true}
use Rattle.std.proofs.lemmas.Bool.Decides.{Decides-eqb, nat_tests}
use Rattle.std.proofs.lemmas.Slice.Eq.{bytes_eq-Decides}
use Rattle.std.proofs.lemmas.Option.{none-some, same_Some}
use Rattle.std.proofs.lemmas.List.{map-append, length-map}
use Rattle.std.proofs.lemmas.List.Elements.{All-push, All-nil}
use Rattle.std.specs.List.{slice_split, position, position_or_len}
use Rattle.std.proofs.lemmas.List.{length-drop, take_rest}
use Rattle.std.proofs.lemmas.List.Sums.{fails_before_first}
use Rattle.std.proofs.lemmas.List.Splits.{slice_split_first, slice_split_none}
use Rattle.std.specs.Option.{option_and_then, option_map}
use Rattle.std.specs.Str.{bytes_eq}
use Rattle.std.specs.Fmt.{decimal}
use Rattle.pv_journal.specs.Journals.{Row, last_text}
use Rattle.pv_journal.specs.Obeying.{State, at_first, after, after_fact, IsJournal}
use Rattle.pv_journal.specs.Reading.{behind, decimal_in, number_behind, row_said, row_and_state, taken_or, first_line, is_end, judged_from, rows_or_wrong}
use Rattle.pv_journal.specs.Keyed.{may_follow}
use Rattle.pv_journal.specs.Lines.{fact_under, row_under, rows_under}
use Rattle.pv_journal.specs.Standing.{state_under, IsKnown, IsLineKnown, IsMore, IsNumbered, Leaves, Passes, Takes, Judges}
use Rattle.pv_journal.specs.Answers.{IsFault}
use Rattle.pv_journal.specs.declared.error.JournalError.{JournalError}
use Rattle.pv_journal.specs.declared.error.JournalError.TheVariants as error
use Rattle.pv_journal.specs.declared.line.Line.{Line}
use Rattle.pv_journal.specs.declared.line.Said.{Said}
use Rattle.pv_journal.specs.declared.standing.Standing.{Standing}
use Rattle.pv_journal.proofs.Numbers.{decimal_is_read}
use Rattle.pv_journal.proofs.Sound.{number_was, map_some, if_some}
use Rattle.pv_journal.proofs.Splits.{joined_again}
use Rattle.pv_journal.proofs.Passing.{length-snoc, below}
use Rattle.pv_journal.proofs.Judging.{Answers, some_piece}
use Rattle.pv_journal.proofs.Added.{state_kept, known_kept, rows_kept, lines_kept}

-- ---- the last line

front_again : (word rest : List ℕ) → behind word (word ++ rest) ≡ Some rest
front_again [] rest = refl
front_again (c ∷ word) rest = subst (λ (b : Bool). cond (b && bytes_eq (take (length word) (word ++ rest)) word) (Some (drop (length word) (word ++ rest))) None ≡ Some rest) (sym ((Decides-eqb c c).1 refl)) (front_again word rest)

pub last_read : (n : ℕ) → n < 2 ^ 64 → number_behind (codes "events ") (last_text n) ≡ Some n
last_read n fits = ap (option_and_then decimal_in) (front_again (codes "events ") (decimal n)) ∙ decimal_is_read n fits

two_tests : (a b : Bool) → (a ≡ true → b ≡ true) → (b ≡ true → a ≡ true) → a ≡ b
two_tests true b f g = sym (f refl)
two_tests false true f g = g refl
two_tests false false f g = refl

-- a number that was read is the one that is wanted where the text is that last line
pub is_last_some : (line : List ℕ) (n count : ℕ) → count < 2 ^ 64 → Some n ≡ number_behind (codes "events ") line → eqb n count ≡ bytes_eq line (last_text count)
is_last_some line n count fits h =
    let e = sym h in
    two_tests (eqb n count) (bytes_eq line (last_text count))
    (λ t. (bytes_eq-Decides line (last_text count)).1 (number_was (codes "events ") line n e ∙ ap last_text ((Decides-eqb n count).0 t)))
    (λ t. (Decides-eqb n count).1 (same_Some n count (sym e ∙ ap (number_behind (codes "events ")) ((bytes_eq-Decides line (last_text count)).0 t) ∙ last_read count fits)))

pub is_last_none : (line : List ℕ) (count : ℕ) → count < 2 ^ 64 → None ≡ number_behind (codes "events ") line → false ≡ bytes_eq line (last_text count)
is_last_none line count fits h =
    let e = sym h in
    two_tests false (bytes_eq line (last_text count))
    (λ t. absurd (false≢true t))
    (λ t. absurd (none-some count (sym e ∙ ap (number_behind (codes "events ")) ((bytes_eq-Decides line (last_text count)).0 t) ∙ last_read count fits)))

-- ---- the first line of a text

pub first_some : (rest text beyond : List ℕ) → first_line rest ≡ Some (text, beyond)
    → (slice_split (λ b. eqb b 10) rest ≡ text ∷ slice_split (λ b. eqb b 10) beyond) × (length beyond < length rest)
first_some rest text beyond h =
    map_some (λ (e : ℕ). (take e rest, drop (e + 1) rest)) (position (λ b. eqb b 10) rest) (text, beyond) h (λ e p q.
    if_some (ltb (position_or_len (λ b. eqb b 10) rest) (length rest)) (Some (position_or_len (λ b. eqb b 10) rest)) e p (λ t s.
    let within : position_or_len (λ b. eqb b 10) rest < length rest = below (position_or_len (λ b. eqb b 10) rest) (length rest) t in
    let at : position_or_len (λ b. eqb b 10) rest ≡ e = same_Some (position_or_len (λ b. eqb b 10) rest) e s in
    let front : take e rest ≡ text = ap (λ (r : List ℕ × List ℕ). r.0) q in
    let back : drop (e + 1) rest ≡ beyond = ap (λ (r : List ℕ × List ℕ). r.1) q in
    let long : length beyond ≡ length rest - (e + 1) = ap length (sym back) ∙ length-drop (e + 1) rest in (
      slice_split_first (λ b. eqb b 10) rest 0 within
          ∙ (λ i. take (at i) rest ∷ slice_split (λ b. eqb b 10) (drop (at i + 1) rest))
          ∙ (λ i. front i ∷ slice_split (λ b. eqb b 10) (back i)),
      omega (arith, long, within, at),
    )))

above : (a b : ℕ) → ltb a b ≡ false → b ≤ a
above a b h = grind (arith, nat_tests)

pub first_none : (rest : List ℕ) → first_line rest ≡ None → slice_split (λ b. eqb b 10) rest ≡ rest ∷ []
first_none rest h =
    let over : length rest ≤ position_or_len (λ b. eqb b 10) rest = none_within (ltb (position_or_len (λ b. eqb b 10) rest) (length rest)) refl (map_none (position (λ b. eqb b 10) rest) h) in
    slice_split_none (λ b. eqb b 10) rest (λ k d l. fails_before_first (λ b. eqb b 10) rest k d (omega (arith, l, over)))
  where
    map_none : (o : Option ℕ) → option_map {U = List ℕ × List ℕ} (λ (e : ℕ). (take e rest, drop (e + 1) rest)) o ≡ None → o ≡ None
    map_none None h = refl
    map_none (Some e) h = absurd (none-some (take e rest, drop (e + 1) rest) (sym h))

    none_within : (t : Bool) → ltb (position_or_len (λ b. eqb b 10) rest) (length rest) ≡ t → cond t (Some (position_or_len (λ b. eqb b 10) rest)) None ≡ None
        → length rest ≤ position_or_len (λ b. eqb b 10) rest
    none_within true e h = absurd (none-some (position_or_len (λ b. eqb b 10) rest) (sym h))
    none_within false e h = above (position_or_len (λ b. eqb b 10) rest) (length rest) e

-- the place of the first line feed leads to it
pub first_there : (text : List ℕ) (e : ℕ) → Some e ≡ position (λ b. eqb b 10) text → Some (take e text, take (length text - (e + 1)) (drop (e + 1) text)) ≡ first_line text
first_there text e h = (λ i. Some (take e text, take_rest text (e + 1) i)) ∙ ap (option_map {U = List ℕ × List ℕ} (λ (e : ℕ). (take e text, drop (e + 1) text))) h

pub first_lacks : (text : List ℕ) → None ≡ position (λ b. eqb b 10) text → None ≡ first_line text
first_lacks text h = ap (option_map {U = List ℕ × List ℕ} (λ (e : ℕ). (take e text, drop (e + 1) text))) h

pub first_piece : (c : ℕ) (text : List ℕ) → (q : List ℕ) × (ps : List (List ℕ)) × (slice_split (λ b. eqb b c) text ≡ q ∷ ps)
first_piece c text = by (slice_split (λ b. eqb b c) text) refl
  where
    by : (l : List (List ℕ)) → slice_split (λ b. eqb b c) text ≡ l → (q : List ℕ) × (ps : List (List ℕ)) × (slice_split (λ b. eqb b c) text ≡ q ∷ ps)
    by [] e = absurd (some_piece c text e)
    by (q ∷ ps) e = (q, ps, e)

abbrev ends : List (List ℕ) → Bool
ends [] = false
ends (q ∷ ps) = is_end q ps

pub end_is : (beyond q : List ℕ) (ps : List (List ℕ)) → slice_split (λ b. eqb b 10) beyond ≡ q ∷ ps → length beyond ≡ 0 → is_end q ps ≡ true
end_is [] q ps e z = ap ends (sym e)
end_is (c ∷ cs) q ps e z = absurd (omega (arith, z))

pub end_not : (beyond q : List ℕ) (ps : List (List ℕ)) → slice_split (λ b. eqb b 10) beyond ≡ q ∷ ps → 0 < length beyond → is_end q ps ≡ false
end_not beyond [] [] e z = let l = ap length (joined_again 10 beyond ([] ∷ []) e) in absurd (omega (arith, l, z))
end_not beyond [] (p ∷ ps) e z = refl
end_not beyond (c ∷ cs) ps e z = refl

-- ---- a row that passes

and_true : (b : Bool) → (b && true) ≡ b
and_true true = refl
and_true false = refl

after_test : (s : State) (row : Row) → row.turn < 2 ^ 64 → after s row ≡ cond (may_follow s.over s.turn row.turn) (after_fact (record s { turn = row.turn }) row.says) None
after_test s row fits =
    let t : ltb row.turn (2 ^ 64) ≡ true = grind (arith, nat_tests) in
    ap (λ b. cond (not s.over && (leb s.turn row.turn && b)) (after_fact (record s { turn = row.turn }) row.says) None) t
    ∙ ap (λ b. cond (not s.over && b) (after_fact (record s { turn = row.turn }) row.says) None) (and_true (leb s.turn row.turn))

pub passes_late : (s : State) (row : Row) (b : Bool) → row.turn < 2 ^ 64 → b ≡ may_follow s.over s.turn row.turn → b ≡ false → after s row ≡ None
passes_late s row b fits e f = after_test s row fits ∙ ap (λ t. cond t (after_fact (record s { turn = row.turn }) row.says) None) (sym e ∙ f)

pub known_turned : (old new : List (List ℕ)) (s : Standing) (t : ℕ) → IsMore old new → IsKnown old s → IsKnown new (record s { turn = t })
known_turned old new s t m k = let n = known_kept old new s m k in record { held = n.held; bonds = n.bonds }

module _ (old new : List (List ℕ)) (s left : Standing) (row : Row) (what : Said) (m : IsMore old new) (k : IsKnown old s) (fits : row.turn < 2 ^ 64)
    (b : Bool) (may : b ≡ may_follow s.over s.turn row.turn) (does : b ≡ true) (n : IsNumbered new row.says what) where
  after_kept : after (state_under old s) row ≡ after_fact (state_under new (record s { turn = row.turn })) (fact_under new what)
  after_kept =
      let kept : state_under new (record s { turn = row.turn }) ≡ state_under old (record s { turn = row.turn }) =
      state_kept old new (record s { turn = row.turn }) m (record { held = k.held; bonds = k.bonds }) in
      after_test (state_under old s) row fits
      ∙ ap (λ t. cond t (after_fact (record (state_under old s) { turn = row.turn }) row.says) None) (sym may ∙ does)
      ∙ (λ i. after_fact (sym kept i) (sym n.same i))

  pub passes_some : (d : Bool) → d ≡ true → Leaves new d left (after_fact (state_under new (record s { turn = row.turn })) (fact_under new what))
      → Passes (state_under old s) row new left (Some (record { turn = row.turn; what = what }))
  passes_some true e l = (after_kept ∙ l.0, (λ i. record { turn = row.turn; says = n.same i }), n.known, l.1)
  passes_some false e l = absurd (false≢true e)

  pub passes_none : (d : Bool) → d ≡ false → Leaves new d left (after_fact (state_under new (record s { turn = row.turn })) (fact_under new what)) → Passes (state_under old s) row new left None
  passes_none true e l = absurd (false≢true (sym e))
  passes_none false e l = after_kept ∙ l

-- a text that is read
pub takes_by : {E : Type 0} (r : Result (Option Line) E) (s : State) (text : List ℕ) (row : Row) (names : List (List ℕ)) (left : Standing) → row_said text ≡ Some row
    → IfOk r (Passes s row names left) → IfOk r (Takes s text names left)
takes_by (Ok None) s text row names left e h =
    ap (option_and_then (λ (r : Row). option_map (λ (t : State). (r, t)) (after s r))) e ∙ ap (option_map (λ (t : State). (row, t))) h
takes_by (Ok (Some line)) s text row names left e h =
    (ap (option_and_then (λ (r : Row). option_map (λ (t : State). (r, t)) (after s r))) e ∙ ap (option_map (λ (t : State). (row, t))) h.0 ∙ (λ i. Some (sym h.1 i, state_under names left)), h.2, h.3)
takes_by (Err x) s text row names left e h = tt

pub takes_none : (s : State) (text : List ℕ) → row_said text ≡ None → row_and_state s text ≡ None
takes_none s text e = ap (option_and_then (λ (r : Row). option_map (λ (t : State). (r, t)) (after s r))) e

-- ---- where the walk stands

pub record Goes (names : List (List ℕ)) (s : Standing) (lines : List Line) (rest : List (List ℕ)) (n : ℕ) (wanted : Result (List Row) ℕ) : Type 0 where
  pub known : IsKnown names s
  pub lines_known : All (IsLineKnown names) lines
  pub same : judged_from n (state_under names s) (rows_under names lines) rest ≡ wanted

pub starts : (names : List (List ℕ)) (s : Standing) (lines : List Line) (pieces : List (List ℕ)) → IsKnown names s → state_under names s ≡ at_first → lines ≡ []
    → Goes names s lines pieces 1 (judged_from 1 at_first [] pieces)
starts names s lines pieces k e none = record {
  known = k;
  lines_known = subst (λ (l : List Line). All (IsLineKnown names) l) (sym none) (All-nil (IsLineKnown names));
  same = λ i. judged_from 1 (e i) (rows_under names (none i)) pieces;
}

module _ (names : List (List ℕ)) (s : Standing) (lines : List Line) (rest : List (List ℕ)) (n : ℕ) (wanted : Result (List Row) ℕ) (g : Goes names s lines rest n wanted) where
  pub ends_here : (p : List ℕ) → rest ≡ p ∷ [] → wanted ≡ Err n
  ends_here p e = sym g.same ∙ ap (judged_from n (state_under names s) (rows_under names lines)) e

  judged_by : (p q : List ℕ) (ps : List (List ℕ)) (b : Bool) → rest ≡ p ∷ q ∷ ps → bytes_eq p (last_text (length lines)) ≡ b
      → wanted ≡ cond b (cond (is_end q ps) (Ok (rows_under names lines)) (Err (n + 1)))
      (taken_or (row_and_state (state_under names s) p) (Err n) (λ row t. judged_from (n + 1) t (rows_under names lines ++ row ∷ []) (q ∷ ps)))
  judged_by p q ps b e last =
      let count : bytes_eq p (last_text (length (rows_under names lines))) ≡ b = ap (λ k. bytes_eq p (last_text k)) (length-map lines (row_under names)) ∙ last in
      sym g.same ∙ ap (judged_from n (state_under names s) (rows_under names lines)) e
      ∙ ap (λ t. cond t (cond (is_end q ps) (Ok (rows_under names lines)) (Err (n + 1)))
      (taken_or (row_and_state (state_under names s) p) (Err n) (λ row t. judged_from (n + 1) t (rows_under names lines ++ row ∷ []) (q ∷ ps)))) count

  pub ends_well : (p q : List ℕ) (ps : List (List ℕ)) → rest ≡ p ∷ q ∷ ps → bytes_eq p (last_text (length lines)) ≡ true → is_end q ps ≡ true → wanted ≡ Ok (rows_under names lines)
  ends_well p q ps e last end = judged_by p q ps true e last ∙ ap (λ t. cond t (Ok (rows_under names lines)) (Err (n + 1))) end

  pub ends_behind : (p q : List ℕ) (ps : List (List ℕ)) → rest ≡ p ∷ q ∷ ps → bytes_eq p (last_text (length lines)) ≡ true → is_end q ps ≡ false → wanted ≡ Err (n + 1)
  ends_behind p q ps e last end = judged_by p q ps true e last ∙ ap (λ t. cond t (Ok (rows_under names lines)) (Err (n + 1))) end

  pub ends_bad : (p q : List ℕ) (ps : List (List ℕ)) → rest ≡ p ∷ q ∷ ps → bytes_eq p (last_text (length lines)) ≡ false → row_and_state (state_under names s) p ≡ None → wanted ≡ Err n
  ends_bad p q ps e last none =
      judged_by p q ps false e last ∙ ap (λ o. taken_or o (Err n) (λ row t. judged_from (n + 1) t (rows_under names lines ++ row ∷ []) (q ∷ ps))) none

  pub goes_on : (p q : List ℕ) (ps : List (List ℕ)) (more : List (List ℕ)) (new : Standing) (line : Line) → rest ≡ p ∷ q ∷ ps → bytes_eq p (last_text (length lines)) ≡ false
      → IsMore names more → Takes (state_under names s) p more new (Some line) → Goes more new (lines ++ line ∷ []) (q ∷ ps) (n + 1) wanted
  goes_on p q ps more new line e last m t =
      let rows : rows_under more (lines ++ line ∷ []) ≡ rows_under names lines ++ row_under more line ∷ [] =
      map-append (row_under more) lines (line ∷ []) ∙ ap (λ l. l ++ row_under more line ∷ []) (rows_kept names more lines m g.lines_known) in
      record {
        known = t.2;
        lines_known = All-push (IsLineKnown more) lines line (lines_kept names more lines m g.lines_known) t.1;
        same =
            ap (λ b. judged_from (n + 1) (state_under more new) b (q ∷ ps)) rows
            ∙ sym (ap (λ o. taken_or o (Err n) (λ row t. judged_from (n + 1) t (rows_under names lines ++ row ∷ []) (q ∷ ps))) t.0)
            ∙ sym (judged_by p q ps false e last);
      }

-- ---- the walk over a text

abbrev pub GoesIn : List (List ℕ) → Standing → List Line → List ℕ → Result (List Row) ℕ → Type 0
GoesIn names s lines rest wanted = Goes names s lines (slice_split (λ b. eqb b 10) rest) (length lines + 1) wanted

some_left : (n : ℕ) → false ≡ eqb n 0 → 0 < n
some_left n z = grind (arith, nat_tests)

pub begins : (names : List (List ℕ)) (s : Standing) (lines : List Line) (bytes : List ℕ) → IsKnown names s → state_under names s ≡ at_first → lines ≡ [] → GoesIn names s lines bytes (rows_or_wrong bytes)
begins names s lines bytes k e none =
    subst (λ (n : ℕ). Goes names s lines (slice_split (λ b. eqb b 10) bytes) n (rows_or_wrong bytes)) (sym (ap (λ (l : List Line). length l + 1) none))
    (starts names s lines (slice_split (λ b. eqb b 10) bytes) k e none)

module _ (names : List (List ℕ)) (s : Standing) (lines : List Line) (rest : List ℕ) (wanted : Result (List Row) ℕ) (g : GoesIn names s lines rest wanted) (count : ℕ) (counts : count ≡ length lines) where
  pub text_out : None ≡ first_line rest → wanted ≡ Err (count + 1)
  text_out h = ends_here names s lines (slice_split (λ b. eqb b 10) rest) (length lines + 1) wanted g rest (first_none rest (sym h)) ∙ ap (λ n. Err (n + 1)) (sym counts)

  module _ (text beyond : List ℕ) (first : Some (text, beyond) ≡ first_line rest) where
    cut : slice_split (λ b. eqb b 10) rest ≡ text ∷ (first_piece 10 beyond).0 ∷ (first_piece 10 beyond).1
    cut = (first_some rest text beyond (sym first)).0 ∙ ap (λ l. text ∷ l) (first_piece 10 beyond).2

    pub text_well : true ≡ bytes_eq text (last_text count) → true ≡ eqb (length beyond) 0 → wanted ≡ Ok (rows_under names lines)
    text_well last z =
        ends_well names s lines (slice_split (λ b. eqb b 10) rest) (length lines + 1) wanted g text (first_piece 10 beyond).0 (first_piece 10 beyond).1 cut
        (ap (λ n. bytes_eq text (last_text n)) (sym counts) ∙ sym last) (end_is beyond (first_piece 10 beyond).0 (first_piece 10 beyond).1 (first_piece 10 beyond).2 ((Decides-eqb (length beyond) 0).0 (sym z)))

    pub text_behind : true ≡ bytes_eq text (last_text count) → false ≡ eqb (length beyond) 0 → wanted ≡ Err (count + 2)
    text_behind last z =
        let two : length lines + 1 + 1 ≡ count + 2 = omega (arith, counts) in
        ends_behind names s lines (slice_split (λ b. eqb b 10) rest) (length lines + 1) wanted g text (first_piece 10 beyond).0 (first_piece 10 beyond).1 cut
        (ap (λ n. bytes_eq text (last_text n)) (sym counts) ∙ sym last) (end_not beyond (first_piece 10 beyond).0 (first_piece 10 beyond).1 (first_piece 10 beyond).2 (some_left (length beyond) z))
        ∙ ap Err two

    pub text_bad : false ≡ bytes_eq text (last_text count) → row_and_state (state_under names s) text ≡ None → wanted ≡ Err (count + 1)
    text_bad last none =
        ends_bad names s lines (slice_split (λ b. eqb b 10) rest) (length lines + 1) wanted g text (first_piece 10 beyond).0 (first_piece 10 beyond).1 cut
        (ap (λ n. bytes_eq text (last_text n)) (sym counts) ∙ sym last) none
        ∙ ap (λ n. Err (n + 1)) (sym counts)

    pub text_goes : (more : List (List ℕ)) (new : Standing) (line : Line) (longer : List Line) → false ≡ bytes_eq text (last_text count) → IsMore names more
        → Takes (state_under names s) text more new (Some line) → longer ≡ lines ++ line ∷ [] → GoesIn more new longer beyond wanted
    text_goes more new line longer last m t e =
        let on = goes_on names s lines (slice_split (λ b. eqb b 10) rest) (length lines + 1) wanted g text (first_piece 10 beyond).0 (first_piece 10 beyond).1 more new line cut
        (ap (λ n. bytes_eq text (last_text n)) (sym counts) ∙ sym last) m t in
        subst (λ (l : List Line). Goes more new l (slice_split (λ b. eqb b 10) beyond) (length l + 1) wanted) (sym e)
        (subst (λ (n : ℕ). Goes more new (lines ++ line ∷ []) (slice_split (λ b. eqb b 10) beyond) (n + 1) wanted) (sym (length-snoc lines line))
        (subst (λ (l : List (List ℕ)). Goes more new (lines ++ line ∷ []) l (length lines + 1 + 1) wanted) (sym (first_piece 10 beyond).2) on))

    pub text_shorter : length beyond < length rest
    text_shorter = (first_some rest text beyond (sym first)).1

-- ---- what the verdict says of the text

pub judged_lines : {A : Type 0} (names : List (List ℕ)) (items : A → List Line) (bytes : List ℕ) (wanted : Result (List Row) ℕ) (r : Result A JournalError)
    → Answers bytes wanted → Judges names items wanted r → IfOk r (λ v. IsJournal (rows_under names (items v)) bytes)
judged_lines names items bytes wanted (Ok v) a j = subst (Answers bytes) j a
judged_lines names items bytes wanted (Err e) a j = tt

pub judged_fault : {A : Type 0} (names : List (List ℕ)) (items : A → List Line) (bytes : List ℕ) (wanted : Result (List Row) ℕ) (r : Result A JournalError)
    → Answers bytes wanted → Judges names items wanted r → IfErr r (IsFault bytes)
judged_fault names items bytes wanted (Ok v) a j = tt
judged_fault names items bytes wanted (Err (error.Bad line)) a j = subst (Answers bytes) j a
judged_fault names items bytes wanted (Err error.NoMemory) a j = tt
