-- What is judged line by line is a journal, or wrong at that line.
use Rattle.std.proofs.Common.{◌≡◌, ℕ, ◌+◌, ◌<◌, ◌≤◌, ◌^◌, Bool, true, false, eqb, cond, List, [], ◌∷◌, ◌++◌, codes, length, get_or, drop, Option, Some, None, Result, Ok, Err, refl, sym, ap, ◌∙◌, arith, lit<, subst, IsSome, append_assoc, length-append}
use Rattle.std.proofs.lemmas.Bool.Decides.{Decides-eqb}
use Rattle.std.proofs.lemmas.Bool.{false≢true}
use Rattle.std.proofs.lemmas.Slice.Eq.{bytes_eq-Decides}
use Rattle.std.proofs.lemmas.Option.{option_and_then_some, none-some, same_Some}
use Rattle.std.proofs.lemmas.List.Splits.{length-slice_split}
use Rattle.std.specs.List.{slice_split, onto_first}
use Rattle.std.specs.Option.{option_and_then, option_map}
use Rattle.std.specs.Str.{bytes_eq}
use Rattle.std.specs.Fmt.{decimal}
use Rattle.pv_journal.specs.Journals.{Row, row_text, rows_text, last_text}
use Rattle.pv_journal.specs.Obeying.{State, at_first, after, after_all, Obeys, IsJournal, Here, Behind, IsBad}
use Rattle.pv_journal.specs.Reading.{row_said, row_and_state, taken_or, is_end, judged_from, rows_or_wrong}
use Rattle.pv_journal.proofs.Splits.{Lacks, lacks-append, first_cut, joined_again}
use Rattle.pv_journal.proofs.Letters.{decimal_lacks}
use Rattle.pv_journal.proofs.Sound.{map_some}
use Rattle.pv_journal.proofs.Facts.{said_was}
use Rattle.pv_journal.proofs.Complete.{row_is_read, row_lacks}
use Rattle.pv_journal.proofs.Passing.{Stands, first_stands, row_passes, length-snoc}

-- ---- pieces of a text

head_is : (a b : List ℕ) (xs ys : List (List ℕ)) → a ∷ xs ≡ b ∷ ys → a ≡ b
head_is a b xs ys h = ap (λ l. get_or l 0 []) h

tail_is : (a b : List ℕ) (xs ys : List (List ℕ)) → a ∷ xs ≡ b ∷ ys → xs ≡ ys
tail_is a b xs ys h = ap (λ (l : List (List ℕ)). drop 1 l) h

pub some_piece : (c : ℕ) (xs : List ℕ) → slice_split (λ b. eqb b c) xs ≡ [] → ⊥
some_piece c xs h = let l = length-slice_split (λ b. eqb b c) xs in let e = ap length h in omega (arith, l, e)

-- where there are two pieces, the first ends at the first mark
pub cut_front : (c : ℕ) (xs w v : List ℕ) (ws : List (List ℕ)) → slice_split (λ b. eqb b c) xs ≡ w ∷ v ∷ ws
    → (ys : List ℕ) × (xs ≡ w ++ (c ∷ ys)) × (slice_split (λ b. eqb b c) ys ≡ v ∷ ws)
cut_front c [] w v ws h = let e = ap length (tail_is [] w [] (v ∷ ws) h) in absurd (omega (arith, e))
cut_front c (x ∷ xs) w v ws h = by (eqb x c) ((Decides-eqb x c).0) (slice_split (λ b. eqb b c) xs) refl (λ p e. cut_front c xs p v ws e) h
  where
    by : (t : Bool) → (t ≡ true → x ≡ c) → (ps : List (List ℕ)) → slice_split (λ b. eqb b c) xs ≡ ps
        → ((p : List ℕ) → slice_split (λ b. eqb b c) xs ≡ p ∷ v ∷ ws → (ys : List ℕ) × (xs ≡ p ++ (c ∷ ys)) × (slice_split (λ b. eqb b c) ys ≡ v ∷ ws))
        → cond t ([] ∷ ps) (onto_first x ps) ≡ w ∷ v ∷ ws
        → (ys : List ℕ) × (x ∷ xs ≡ w ++ (c ∷ ys)) × (slice_split (λ b. eqb b c) ys ≡ v ∷ ws)
    by true d ps e rec h = (xs, ap (λ y. y ∷ xs) (d refl) ∙ ap (λ (l : List ℕ). l ++ (c ∷ xs)) (head_is [] w ps (v ∷ ws) h), e ∙ tail_is [] w ps (v ∷ ws) h)
    by false d [] e rec h = absurd (some_piece c xs e)
    by false d (p ∷ ps) e rec h =
        let r = rec p (e ∙ ap (λ l. p ∷ l) (tail_is (x ∷ p) w ps (v ∷ ws) h)) in
        (r.0, ap (λ l. x ∷ l) r.1 ∙ ap (λ (l : List ℕ). l ++ (c ∷ r.0)) (head_is (x ∷ p) w ps (v ∷ ws) h), r.2)

-- a text with a line feed has two pieces, the first of which is what stands before it
pub front_cut : (word tail p : List ℕ) (ps : List (List ℕ)) → Lacks 10 word → slice_split (λ b. eqb b 10) (word ++ (10 ∷ tail)) ≡ p ∷ ps → (p ≡ word) × (slice_split (λ b. eqb b 10) tail ≡ ps)
front_cut word tail p ps lacks h =
    let e = sym (first_cut 10 word tail lacks) ∙ h in
    (sym (head_is word p (slice_split (λ b. eqb b 10) tail) ps e), tail_is word p (slice_split (λ b. eqb b 10) tail) ps e)

last_lacks : (n : ℕ) → n < 2 ^ 64 → Lacks 10 (last_text n)
last_lacks n h = lacks-append 10 (codes "events ") (decimal n) refl (decimal_lacks 10 (lit< tt) n h)

-- ---- lines in a row

pub after_all-snoc : (s t : State) (rows : List Row) (row : Row) → after_all s rows ≡ Some t → after_all s (rows ++ row ∷ []) ≡ after t row
after_all-snoc s t [] row h = one (after s row) ∙ ap (λ u. after u row) (same_Some s t h)
  where
    one : (o : Option State) → option_and_then (λ t. Some t) o ≡ o
    one None = refl
    one (Some x) = refl
after_all-snoc s t (r ∷ rows) row h = by (after s r) (λ u g. after_all-snoc u t rows row g) h
  where
    by : (o : Option State) → ((u : State) → after_all u rows ≡ Some t → after_all u (rows ++ row ∷ []) ≡ after t row) → option_and_then (λ u. after_all u rows) o ≡ Some t
        → option_and_then (λ u. after_all u (rows ++ row ∷ [])) o ≡ after t row
    by None rec h = absurd (none-some t h)
    by (Some u) rec h = rec u h

pub rows_text-snoc : (rows : List Row) (row : Row) (rest : List ℕ) → rows_text (rows ++ row ∷ []) ++ rest ≡ rows_text rows ++ (row_text row ++ (10 ∷ rest))
rows_text-snoc [] row rest = append_assoc (row_text row) (10 ∷ []) rest
rows_text-snoc (r ∷ rows) row rest =
    append_assoc (row_text r) (10 ∷ rows_text (rows ++ row ∷ [])) rest ∙ ap (λ l. row_text r ++ (10 ∷ l)) (rows_text-snoc rows row rest)
    ∙ sym (append_assoc (row_text r) (10 ∷ rows_text rows) (row_text row ++ (10 ∷ rest)))

-- ---- the verdict

abbrev pub Answers : List ℕ → Result (List Row) ℕ → Type 0
Answers bytes (Ok rows) = IsJournal rows bytes
Answers bytes (Err line) = IsBad bytes line

-- where a walk stands: the lines before, what they leave, and what is left
pub record Walk (bytes : List ℕ) (n : ℕ) (s : State) (before : List Row) (rest : List ℕ) (ps : List (List ℕ)) : Type 0 where
  pub pieces : slice_split (λ b. eqb b 10) rest ≡ ps
  pub leaves : after_all at_first before ≡ Some s
  pub stands : Stands s
  pub number : n ≡ length before + 1
  pub few : length s.bonds ≤ length before
  pub room : length before + length rest < 2 ^ 64
  pub whole : bytes ≡ rows_text before ++ rest

some_is : {A : Type 0} (o : Option A) (x : A) → o ≡ Some x → IsSome o
some_is None x h = absurd (none-some x h)
some_is (Some y) x h = refl

obeys : (before : List Row) (s : State) → after_all at_first before ≡ Some s → Obeys before
obeys before s h = some_is (after_all at_first before) s h

-- a next line would be the first piece, and passes
pub next_is : {bytes : List ℕ} (n : ℕ) (s : State) (before : List Row) (rest p : List ℕ) (ps : List (List ℕ)) → Walk bytes n s before rest (p ∷ ps)
    → (row : Row) (t : State) (tail : List ℕ) → after_all at_first (before ++ row ∷ []) ≡ Some t → rest ≡ row_text row ++ (10 ∷ tail) → (row_and_state s p ≡ Some (row, t)) × (slice_split (λ b. eqb b 10) tail ≡ ps)
next_is n s before rest p ps w row t tail h e =
    let passes : after s row ≡ Some t = sym (after_all-snoc at_first s before row w.leaves) ∙ h in
    let few = w.few in
    let room = w.room in
    let long = ap length e ∙ length-append (row_text row) (10 ∷ tail) in
    let fits = (row_passes s row t w.stands (omega (arith, few, room, long)) passes).0 in
    let cut = front_cut (row_text row) tail p ps (row_lacks row fits) (ap (slice_split (λ b. eqb b 10)) (sym e) ∙ w.pieces) in
    let read : row_said p ≡ Some row = ap row_said cut.0 ∙ row_is_read row fits in
    (ap (option_and_then (λ (row : Row). option_map (λ (t : State). (row, t)) (after s row))) read ∙ ap (option_map (λ (t : State). (row, t))) passes, cut.1)

pub last_is : {bytes : List ℕ} (n : ℕ) (s : State) (before : List Row) (rest p : List ℕ) (ps : List (List ℕ)) → Walk bytes n s before rest (p ∷ ps)
    → (tail : List ℕ) → rest ≡ last_text (length before) ++ (10 ∷ tail) → (p ≡ last_text (length before)) × (slice_split (λ b. eqb b 10) tail ≡ ps)
last_is n s before rest p ps w tail e =
    let room = w.room in
    front_cut (last_text (length before)) tail p ps (last_lacks (length before) (omega (arith, room))) (ap (slice_split (λ b. eqb b 10)) (sym e) ∙ w.pieces)

bad_here : {bytes : List ℕ} (n : ℕ) (s : State) (before : List Row) (rest : List ℕ) (ps : List (List ℕ)) → Walk bytes n s before rest ps
    → ((row : Row) (t : State) (tail : List ℕ) → after_all at_first (before ++ row ∷ []) ≡ Some t → rest ≡ row_text row ++ (10 ∷ tail) → ⊥)
    → ((tail : List ℕ) → rest ≡ last_text (length before) ++ (10 ∷ tail) → ⊥) → IsBad bytes n
bad_here {bytes} n s before rest ps w next last =
    subst (IsBad bytes) (sym w.number) (record { rows = before; rest = rest; obey = obeys before s w.leaves; whole = w.whole; stuck = Here next last })

no_next : (p : Row × State) (o : Option (Row × State)) → o ≡ None → o ≡ Some p → ⊥
no_next p o h g = none-some p (sym h ∙ g)

pub taken_was : (s : State) (p : List ℕ) (r : Row × State) → row_and_state s p ≡ Some r → (p ≡ row_text r.0) × (after s r.0 ≡ Some r.1)
taken_was s p r h =
    option_and_then_some _ (row_said p) r h (λ row d g. map_some (λ (t : State). (row, t)) (after s row) r g (λ t a e.
    let row_is : row ≡ r.0 = ap (λ (q : Row × State). q.0) e in
    let t_is : t ≡ r.1 = ap (λ (q : Row × State). q.1) e in
    (said_was p row d ∙ ap row_text row_is, ap (after s) (sym row_is) ∙ a ∙ ap Some t_is)))

-- the first piece is the right last line
at_last : {bytes : List ℕ} (b : Bool) (n : ℕ) (s : State) (before : List Row) (rest p q : List ℕ) (ps : List (List ℕ)) → Walk bytes n s before rest (p ∷ q ∷ ps)
    → is_end q ps ≡ b → p ≡ last_text (length before) → (ys : List ℕ) → rest ≡ p ++ (10 ∷ ys) → slice_split (λ b. eqb b 10) ys ≡ q ∷ ps → Answers bytes (cond b (Ok before) (Err (n + 1)))
at_last true n s before rest p q ps w b last [] e f =
    record { obeys = obeys before s w.leaves; text = w.whole ∙ ap (λ l. rows_text before ++ l) (e ∙ ap (λ l. l ++ (10 ∷ [])) last) }
at_last true n s before rest p q ps w b last (c ∷ cs) e f = absurd (more q ps b f)
  where
    none : [] ≡ c ∷ cs → ⊥
    none h = let l = ap length h in omega (arith, l)

    more : (q : List ℕ) (ps : List (List ℕ)) → is_end q ps ≡ true → slice_split (λ b. eqb b 10) (c ∷ cs) ≡ q ∷ ps → ⊥
    more [] [] t f = none (sym (joined_again 10 (c ∷ cs) ([] ∷ []) f))
    more [] (r ∷ rs) t f = false≢true t
    more (d ∷ ds) ps t f = false≢true t
at_last false n s before rest p q ps w b last [] e f = absurd (false≢true (sym b ∙ ap (λ (l : List (List ℕ)). is_end (get_or l 0 []) (drop 1 l)) (sym f)))
at_last {bytes} false n s before rest p q ps w b last (c ∷ cs) e f =
    let m = w.number in
    let line : length before + 2 ≡ n + 1 = omega (arith, m) in
    subst (IsBad bytes) line (record {
      rows = before;
      rest = rest;
      obey = obeys before s w.leaves;
      whole = w.whole;
      stuck = Behind c cs (e ∙ ap (λ l. l ++ (10 ∷ c ∷ cs)) last);
    })

-- what is judged of the lines behind
abbrev Rests : List ℕ → ℕ → List ℕ → List (List ℕ) → Type 0
Rests bytes n q ps = (t : State) (before : List Row) (rest : List ℕ) → Walk bytes (n + 1) t before rest (q ∷ ps) → Answers bytes (judged_from (n + 1) t before (q ∷ ps))

-- it is not
goes : {bytes : List ℕ} (o : Option (Row × State)) (n : ℕ) (s : State) (before : List Row) (rest p q : List ℕ) (ps : List (List ℕ)) → Walk bytes n s before rest (p ∷ q ∷ ps)
    → (ys : List ℕ) → rest ≡ p ++ (10 ∷ ys) → slice_split (λ b. eqb b 10) ys ≡ q ∷ ps → Rests bytes n q ps
    → row_and_state s p ≡ o → (p ≡ last_text (length before) → ⊥) → Answers bytes (taken_or o (Err n) (λ row t. judged_from (n + 1) t (before ++ row ∷ []) (q ∷ ps)))
goes None n s before rest p q ps w ys e f rec h not_last =
    bad_here n s before rest (p ∷ q ∷ ps) w
    (λ row t tail a e. no_next (row, t) (row_and_state s p) h (next_is n s before rest p (q ∷ ps) w row t tail a e).0)
    (λ tail e. not_last (last_is n s before rest p (q ∷ ps) w tail e).0)
goes (Some r) n s before rest p q ps w ys e f rec h not_last =
    let was = taken_was s p r h in
    let few = w.few in
    let room = w.room in
    let number = w.number in
    let long = ap length e ∙ length-append p (10 ∷ ys) in
    let passes = row_passes s r.0 r.1 w.stands (omega (arith, few, room, long)) was.1 in
    let more = passes.2 in
    let len = length-snoc before r.0 in
    rec r.1 (before ++ r.0 ∷ []) ys (record {
      pieces = f;
      leaves = after_all-snoc at_first s before r.0 w.leaves ∙ was.1;
      stands = passes.1;
      number = omega (arith, number, len);
      few = omega (arith, few, more, len);
      room = omega (arith, room, len, long);
      whole = w.whole ∙ ap (λ l. rows_text before ++ l) (e ∙ ap (λ l. l ++ (10 ∷ ys)) was.0) ∙ sym (rows_text-snoc before r.0 ys);
    })

by_last : {bytes : List ℕ} (b : Bool) (n : ℕ) (s : State) (before : List Row) (rest p q : List ℕ) (ps : List (List ℕ)) → (b ≡ true → p ≡ last_text (length before)) → (p ≡ last_text (length before) → b ≡ true)
    → Walk bytes n s before rest (p ∷ q ∷ ps) → (ys : List ℕ) × (rest ≡ p ++ (10 ∷ ys)) × (slice_split (λ b. eqb b 10) ys ≡ q ∷ ps) → Rests bytes n q ps
    → Answers bytes (cond b (cond (is_end q ps) (Ok before) (Err (n + 1))) (taken_or (row_and_state s p) (Err n) (λ row t. judged_from (n + 1) t (before ++ row ∷ []) (q ∷ ps))))
by_last true n s before rest p q ps f g w cut rec = at_last (is_end q ps) n s before rest p q ps w refl (f refl) cut.0 cut.1 cut.2
by_last false n s before rest p q ps f g w cut rec = goes (row_and_state s p) n s before rest p q ps w cut.0 cut.1 cut.2 rec refl (λ e. false≢true (g e))

pub judged_is : {bytes : List ℕ} (ps : List (List ℕ)) (n : ℕ) (s : State) (before : List Row) (rest : List ℕ) → Walk bytes n s before rest ps → Answers bytes (judged_from n s before ps)
judged_is [] n s before rest w = absurd (some_piece 10 rest w.pieces)
judged_is (p ∷ []) n s before rest w =
    bad_here n s before rest (p ∷ []) w
    (λ row t tail h e. some_piece 10 tail (next_is n s before rest p [] w row t tail h e).1)
    (λ tail e. some_piece 10 tail (last_is n s before rest p [] w tail e).1)
judged_is {bytes} (p ∷ q ∷ ps) n s before rest w =
    let cut = cut_front 10 rest p q ps w.pieces in
    by_last (bytes_eq p (last_text (length before))) n s before rest p q ps ((bytes_eq-Decides p (last_text (length before))).0) ((bytes_eq-Decides p (last_text (length before))).1) w cut
    (λ t before rest w. judged_is (q ∷ ps) (n + 1) t before rest w)

-- where a walk begins
pub first_walk : (bytes : List ℕ) → length bytes < 2 ^ 64 → Walk bytes 1 at_first [] bytes (slice_split (λ b. eqb b 10) bytes)
first_walk bytes short =
    record {
      pieces = refl;
      leaves = refl;
      stands = first_stands;
      number = refl;
      few = omega arith;
      room = omega (arith, short);
      whole = refl;
    }

pub none_of : {A : Type 0} (o : Option A) → ((x : A) → o ≡ Some x → ⊥) → o ≡ None
none_of None h = refl
none_of (Some x) h = absurd (h x refl)

-- each text is a journal, or wrong at one line
pub verdict_is : (bytes : List ℕ) → length bytes < 2 ^ 64 → Answers bytes (rows_or_wrong bytes)
verdict_is bytes short = judged_is (slice_split (λ b. eqb b 10) bytes) 1 at_first [] bytes (first_walk bytes short)
