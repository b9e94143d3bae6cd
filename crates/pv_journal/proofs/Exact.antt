-- A text is one journal, or bad at one line, and not both.
use Rattle.std.proofs.Common.{◌≡◌, ℕ, ◌+◌, ◌<◌, ◌^◌, Bool, true, false, eqb, cond, List, [], ◌∷◌, ◌++◌, codes, length, Option, Some, None, Result, Ok, Err, refl, sym, ap, ◌∙◌, arith, lit<, subst, IsSome, append_assoc, append-nil, length-append}
use Rattle.std.proofs.lemmas.Bool.{false≢true}
use Rattle.std.proofs.lemmas.Slice.Eq.{bytes_eq-Decides}
use Rattle.std.proofs.lemmas.Option.{option_and_then_some, none-some, same_Some}
use Rattle.std.specs.List.{slice_split}
use Rattle.std.specs.Option.{option_and_then, option_map}
use Rattle.std.specs.Str.{bytes_eq}
use Rattle.std.specs.Fmt.{decimal}
use Rattle.pv_journal.specs.Journals.{Row, row_text, rows_text, last_text}
use Rattle.pv_journal.specs.Obeying.{State, at_first, after, after_all, IsJournal, IsStuck, Here, Behind, IsBad}
use Rattle.pv_journal.specs.Reading.{row_said, said_by, row_and_state, taken_or, is_end, judged_from, rows_or_wrong}
use Rattle.pv_journal.proofs.Splits.{cut_is}
use Rattle.pv_journal.proofs.Letters.{decimal_lacks}
use Rattle.pv_journal.proofs.Passing.{row_passes, length-snoc}
use Rattle.pv_journal.proofs.Judging.{Walk, next_is, last_is, some_piece, cut_front, after_all-snoc, rows_text-snoc, first_walk, taken_was, none_of}

-- ---- a row is no last line

last_unread : (n : ℕ) → n < 2 ^ 64 → row_said (last_text n) ≡ None
last_unread n fits = ap said_by (cut_is 32 (codes "events") (decimal n ∷ []) (refl, (decimal_lacks 32 (lit< tt) n fits, tt)))

not_last : (s : State) (p : List ℕ) (r : Row × State) (n : ℕ) → n < 2 ^ 64 → row_and_state s p ≡ Some r → p ≡ last_text n → ⊥
not_last s p r n fits h e =
    none-some r (sym (ap (λ o. option_and_then (λ row. option_map (λ t. (row, t)) (after s row)) o) (ap row_said e ∙ last_unread n fits)) ∙ h)

differs : (p q : List ℕ) → (p ≡ q → ⊥) → bytes_eq p q ≡ false
differs p q h = by (bytes_eq p q) ((bytes_eq-Decides p q).0)
  where
    by : (b : Bool) → (b ≡ true → p ≡ q) → b ≡ false
    by true f = absurd (h (f refl))
    by false f = refl

-- ---- along rows that obey

-- where the walk over rows stands behind them
pub record Stands_at (bytes : List ℕ) (n : ℕ) (s : State) (before : List Row) (ps : List (List ℕ)) (rows : List Row) (t : State) (rest : List ℕ) : Type 0 where
  pub number : ℕ
  pub pieces : List (List ℕ)
  pub walk : Walk bytes number t (before ++ rows) rest pieces
  pub goes_on : judged_from n s before ps ≡ judged_from number t (before ++ rows) pieces

one_more : {bytes : List ℕ} (n : ℕ) (s : State) (before : List Row) (row : Row) (u : State) (tail : List ℕ) (ps : List (List ℕ)) → Walk bytes n s before (row_text row ++ (10 ∷ tail)) ps → after s row ≡ Some u
    → (qs : List (List ℕ)) × Walk bytes (n + 1) u (before ++ row ∷ []) tail qs × (judged_from n s before ps ≡ judged_from (n + 1) u (before ++ row ∷ []) qs)
one_more n s before row u tail [] w passes = absurd (some_piece 10 (row_text row ++ (10 ∷ tail)) w.pieces)
one_more n s before row u tail (p ∷ []) w passes =
    absurd (some_piece 10 tail (next_is n s before (row_text row ++ (10 ∷ tail)) p [] w row u tail (after_all-snoc at_first s before row w.leaves ∙ passes) refl).1)
one_more n s before row u tail (p ∷ q ∷ ps) w passes =
    let next = next_is n s before (row_text row ++ (10 ∷ tail)) p (q ∷ ps) w row u tail (after_all-snoc at_first s before row w.leaves ∙ passes) refl in
    let few = w.few in
    let room = w.room in
    let number = w.number in
    let long = length-append (row_text row) (10 ∷ tail) in
    let fits = row_passes s row u w.stands (omega (arith, few, room, long)) passes in
    let more = fits.2 in
    let len = length-snoc before row in
    let other : bytes_eq p (last_text (length before)) ≡ false = differs p (last_text (length before)) (λ e. not_last s p (row, u) (length before) (omega (arith, room)) next.0 e) in (
      q ∷ ps,
      record {
        pieces = next.1;
        leaves = after_all-snoc at_first s before row w.leaves ∙ passes;
        stands = fits.1;
        number = omega (arith, number, len);
        few = omega (arith, few, more, len);
        room = omega (arith, room, len, long);
        whole = w.whole ∙ sym (rows_text-snoc before row tail);
      },
      ap (λ b. cond b (cond (is_end q ps) (Ok before) (Err (n + 1))) (taken_or (row_and_state s p) (Err n) (λ row t. judged_from (n + 1) t (before ++ row ∷ []) (q ∷ ps)))) other
          ∙ ap (λ o. taken_or o (Err n) (λ row t. judged_from (n + 1) t (before ++ row ∷ []) (q ∷ ps))) next.0,
    )

pub along : {bytes : List ℕ} (rows : List Row) (n : ℕ) (s : State) (before : List Row) (ps : List (List ℕ)) (t : State) (rest : List ℕ) → Walk bytes n s before (rows_text rows ++ rest) ps → after_all s rows ≡ Some t
    → Stands_at bytes n s before ps rows t rest
along {bytes} [] n s before ps t rest w h = record {
  number = n;
  pieces = ps;
  walk = subst (λ (b : List Row). Walk bytes n t b rest ps) (sym (append-nil before)) (subst (λ (u : State). Walk bytes n u before rest ps) (same_Some s t h) w);
  goes_on = ap (λ (u : State). judged_from n u before ps) (same_Some s t h) ∙ ap (λ (b : List Row). judged_from n t b ps) (sym (append-nil before));
}
along {bytes} (row ∷ rows) n s before ps t rest w h =
    option_and_then_some (λ u. after_all u rows) (after s row) t h (λ u passes left.
    let shape : rows_text (row ∷ rows) ++ rest ≡ row_text row ++ (10 ∷ (rows_text rows ++ rest)) = append_assoc (row_text row) (10 ∷ rows_text rows) rest in
    let more = one_more n s before row u (rows_text rows ++ rest) ps (subst (λ (l : List ℕ). Walk bytes n s before l ps) shape w) passes in
    let behind = along rows (n + 1) u (before ++ row ∷ []) more.0 t rest more.1 left in
    let same : (before ++ row ∷ []) ++ rows ≡ before ++ (row ∷ rows) = append_assoc before (row ∷ []) rows in
    record {
      number = behind.number;
      pieces = behind.pieces;
      walk = subst (λ (b : List Row). Walk bytes behind.number t b rest behind.pieces) same behind.walk;
      goes_on = more.2 ∙ behind.goes_on ∙ ap (λ (b : List Row). judged_from behind.number t b behind.pieces) same;
    })

-- ---- the verdict is one

some_of : {A : Type 0} (o : Option A) → IsSome o → (x : A) × (o ≡ Some x)
some_of None h = absurd (false≢true h)
some_of (Some x) h = (x, refl)

at_end : {bytes : List ℕ} (n : ℕ) (t : State) (rows : List Row) (ps : List (List ℕ)) → Walk bytes n t rows (last_text (length rows) ++ (10 ∷ [])) ps → judged_from n t rows ps ≡ Ok rows
at_end n t rows [] w = absurd (some_piece 10 (last_text (length rows) ++ (10 ∷ [])) w.pieces)
at_end n t rows (p ∷ []) w = absurd (some_piece 10 [] (last_is n t rows (last_text (length rows) ++ (10 ∷ [])) p [] w [] refl).1)
at_end n t rows (p ∷ q ∷ ps) w =
    let last = last_is n t rows (last_text (length rows) ++ (10 ∷ [])) p (q ∷ ps) w [] refl in
    ap (λ b. cond b (cond (is_end q ps) (Ok rows) (Err (n + 1))) (taken_or (row_and_state t p) (Err n) (λ row u. judged_from (n + 1) u (rows ++ row ∷ []) (q ∷ ps)))) ((bytes_eq-Decides p (last_text (length rows))).1 last.0)
    ∙ ends q ps last.1
  where
    ends : (q : List ℕ) (ps : List (List ℕ)) → [] ∷ [] ≡ q ∷ ps → cond (is_end q ps) (Ok rows) (Err (n + 1)) ≡ Ok rows
    ends q ps e = ap (λ (l : List (List ℕ)). cond (end_of l) (Ok rows) (Err (n + 1))) (sym e)
      where
        end_of : List (List ℕ) → Bool
        end_of [] = false
        end_of (q ∷ ps) = is_end q ps

-- a journal is judged to be one
pub journal_is : (bytes : List ℕ) (rows : List Row) → length bytes < 2 ^ 64 → IsJournal rows bytes → rows_or_wrong bytes ≡ Ok rows
journal_is bytes rows short j =
    let got = some_of (after_all at_first rows) j.obeys in
    let stop = along rows 1 at_first [] (slice_split (λ b. eqb b 10) bytes) got.0 (last_text (length rows) ++ (10 ∷ []))
    (subst (λ (l : List ℕ). Walk bytes 1 at_first [] l (slice_split (λ b. eqb b 10) bytes)) j.text (first_walk bytes short)) got.1 in
    stop.goes_on ∙ at_end stop.number got.0 rows stop.pieces stop.walk

-- what is stuck
stuck_at : {bytes : List ℕ} (n : ℕ) (t : State) (rows : List Row) (rest : List ℕ) (ps : List (List ℕ)) (line : ℕ) → Walk bytes n t rows rest ps → IsStuck rows rest line → judged_from n t rows ps ≡ Err line
stuck_at n t rows rest [] line w h = absurd (some_piece 10 rest w.pieces)
stuck_at n t rows rest (p ∷ []) line w (Here next last) = ap Err w.number
stuck_at n t rows rest (p ∷ []) line w (Behind c tail e) = absurd (some_piece 10 (c ∷ tail) (last_is n t rows rest p [] w (c ∷ tail) e).1)
stuck_at n t rows rest (p ∷ q ∷ ps) line w (Here next last) =
    let cut = cut_front 10 rest p q ps w.pieces in
    let other : bytes_eq p (last_text (length rows)) ≡ false = differs p (last_text (length rows)) (λ e. last cut.0 (cut.1 ∙ ap (λ l. l ++ (10 ∷ cut.0)) e)) in
    ap (λ b. cond b (cond (is_end q ps) (Ok rows) (Err (n + 1))) (taken_or (row_and_state t p) (Err n) (λ row u. judged_from (n + 1) u (rows ++ row ∷ []) (q ∷ ps)))) other
    ∙ ap (λ o. taken_or o (Err n) (λ row u. judged_from (n + 1) u (rows ++ row ∷ []) (q ∷ ps))) (none_of (row_and_state t p) (λ r e.
    let was = taken_was t p r e in
    next r.0 r.1 cut.0 (after_all-snoc at_first t rows r.0 w.leaves ∙ was.1) (cut.1 ∙ ap (λ l. l ++ (10 ∷ cut.0)) was.0)))
    ∙ ap Err w.number
stuck_at n t rows rest (p ∷ q ∷ ps) line w (Behind c tail e) =
    let last = last_is n t rows rest p (q ∷ ps) w (c ∷ tail) e in
    let m = w.number in
    let number : n + 1 ≡ length rows + 2 = omega (arith, m) in
    ap (λ b. cond b (cond (is_end q ps) (Ok rows) (Err (n + 1))) (taken_or (row_and_state t p) (Err n) (λ row u. judged_from (n + 1) u (rows ++ row ∷ []) (q ∷ ps)))) ((bytes_eq-Decides p (last_text (length rows))).1 last.0)
    ∙ goes q ps last.1 ∙ ap Err number
  where
    goes : (q : List ℕ) (ps : List (List ℕ)) → slice_split (λ b. eqb b 10) (c ∷ tail) ≡ q ∷ ps → cond (is_end q ps) (Ok rows) (Err (n + 1)) ≡ Err (n + 1)
    goes [] [] f = absurd (empty f)
      where
        empty : slice_split (λ b. eqb b 10) (c ∷ tail) ≡ [] ∷ [] → ⊥
        empty f = let l = ap length (Rattle.pv_journal.proofs.Splits.joined_again 10 (c ∷ tail) ([] ∷ []) f) in omega (arith, l)
    goes [] (r ∷ rs) f = refl
    goes (d ∷ ds) ps f = refl

-- what is bad at a line is judged so
pub bad_is : (bytes : List ℕ) (line : ℕ) → length bytes < 2 ^ 64 → IsBad bytes line → rows_or_wrong bytes ≡ Err line
bad_is bytes line short b =
    let got = some_of (after_all at_first b.rows) b.obey in
    let stop = along b.rows 1 at_first [] (slice_split (λ b. eqb b 10) bytes) got.0 b.rest
    (subst (λ (l : List ℕ). Walk bytes 1 at_first [] l (slice_split (λ b. eqb b 10) bytes)) b.whole (first_walk bytes short)) got.1 in
    stop.goes_on ∙ stuck_at stop.number got.0 b.rows b.rest stop.pieces line stop.walk b.stuck

abbrev ok_of : Result (List Row) ℕ → Option (List Row)
ok_of (Ok rows) = Some rows
ok_of (Err line) = None

abbrev err_of : Result (List Row) ℕ → Option ℕ
err_of (Ok rows) = None
err_of (Err line) = Some line

-- the laws: one journal, one line, and not both
pub one_journal : (bytes : List ℕ) (rows others : List Row) → length bytes < 2 ^ 64 → IsJournal rows bytes → IsJournal others bytes → rows ≡ others
one_journal bytes rows others short h g = same_Some rows others (ap ok_of (sym (journal_is bytes rows short h) ∙ journal_is bytes others short g))

pub one_line : (bytes : List ℕ) (m n : ℕ) → length bytes < 2 ^ 64 → IsBad bytes m → IsBad bytes n → m ≡ n
one_line bytes m n short h g = same_Some m n (ap err_of (sym (bad_is bytes m short h) ∙ bad_is bytes n short g))

pub not_both : (bytes : List ℕ) (rows : List Row) (n : ℕ) → length bytes < 2 ^ 64 → IsJournal rows bytes → IsBad bytes n → ⊥
not_both bytes rows n short h g = none-some rows (ap ok_of (sym (bad_is bytes n short g) ∙ journal_is bytes rows short h))
