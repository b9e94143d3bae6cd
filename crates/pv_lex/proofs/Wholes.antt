-- Each piece is the longest spelling that begins at its place, and the pieces of a row make up the bytes between its ends.
use Rattle.std.proofs.Common.{◌≡◌, ℕ, ◌-◌, ◌<◌, ◌≤◌, List, [], ◌∷◌, ◌++◌, length, take, drop, Bool, true, false, cond, ◌||◌, ◌&&◌, Option, Some, None, nat_eq, refl, sym, ap, ◌∙◌, subst, append_assoc, length-append, length-take-le, arith}
use Rattle.std.specs.Prelude.{nat_le}
use Rattle.std.specs.List.{starts_with}
use Rattle.std.specs.Char.{is_ascii_digit}
use Rattle.std.proofs.Math.Seq.{take-append_seam}
use Rattle.std.proofs.lemmas.List.{append-nil}
use Rattle.std.proofs.lemmas.Bool.{leb-true}
use Rattle.std.proofs.lemmas.Bool.Decides.{nat_tests}
use Rattle.pv_lex.specs.declared.bytes.Class.TheVariants as class
use Rattle.pv_lex.specs.declared.pieces.Fault.{Fault}
use Rattle.pv_lex.specs.declared.pieces.Fault.TheVariants as fault
use Rattle.pv_token.specs.declared.words.Word.{Word}
use Rattle.pv_token.specs.declared.marks.Mark.{Mark}
use Rattle.pv_lex.specs.Bytes.{is_white, is_letter, is_in, run, front, behind, begins}
use Rattle.pv_lex.specs.Tables.{first_row, row_of}
use Rattle.pv_lex.specs.Pieces.{White, Comment, Piece, Stand, End, Bad, Here, or_bad}
use Rattle.pv_lex.specs.Words.{words, is_wide, is_quote, keyword_or_name, word_at}
use Rattle.pv_lex.specs.Constants.{number_at}
use Rattle.pv_lex.specs.Characters.{character_constant, string_literal}
use Rattle.pv_lex.specs.Comments.{block_comment}
use Rattle.pv_lex.specs.Markers.{marker}
use Rattle.pv_lex.specs.Marks.{marks, mark_at}
use Rattle.pv_lex.specs.MarkerParts.{mark_row}
use Rattle.pv_lex.specs.Stands.{stands}
use Rattle.pv_lex.specs.Rows.{Place, behind_piece, Row, bytes_of, bytes_of_row}
use Rattle.pv_lex.specs.Spellings.{IsSpelling, IsLongest}
use Rattle.pv_lex.proofs.Runs.{run_within}
use Rattle.pv_lex.proofs.Moving.{moves_stands}
use Rattle.pv_lex.proofs.Taking.{Takes, takes_byte, split, pick, pass, and_cut, or_false, begins_cut, IsRun, takes_run, no_row_cut, starts_cut, starts_front, starts_less}
use Rattle.pv_lex.proofs.TakingTokens.{Reads, StandsAs, run_begins, takes_word, takes_number, takes_constant}
use Rattle.pv_lex.proofs.TakingLines.{takes_string, takes_comment, takes_marker, takes_mark, takes_equal}

abbrev Whole : Bool → List ℕ → Piece → Type 0
Whole fresh text x = Takes (StandsAs (stands fresh) x.what) text x.after

or_here : (o : Option Piece) (x : Piece) → or_bad o ≡ Here x → o ≡ Some x
or_here None x e = absurd cc
or_here (Some y) x e = let same : y ≡ x = cc in ap Some same

hash_here : (fresh : Bool) (o : Option Piece) (x : Piece) → or_bad (cond fresh o None) ≡ Here x → (fresh ≡ true) × (o ≡ Some x)
hash_here true o x e = (refl, or_here o x e)
hash_here false o x e = absurd cc

or_none : (a b : Bool) → a ≡ false → b ≡ false → (a || b) ≡ false
or_none true b h k = absurd cc
or_none false b h k = k

-- what stands at a byte is read from that byte on
stand_as : (R T : List ℕ → List ℕ → Type 0) (b : ℕ) (bs after : List ℕ) → Takes R (b ∷ bs) after → length after < length (b ∷ bs) → ((t s r : List ℕ) → bs ≡ t ++ r → R (b ∷ t) s → T (b ∷ t) s) → Takes T (b ∷ bs) after
stand_as R T b bs after x lt more = by x.taken x.is x.again
  where
    by : (w : List ℕ) → b ∷ bs ≡ w ++ after → ((s r : List ℕ) → after ≡ s ++ r → R (w ++ s) s) → Takes T (b ∷ bs) after
    by [] is again = absurd (omega (arith, lt, ap length is))
    by (c ∷ w) is again =
        let first : c ≡ b = cc in
        let rest : bs ≡ w ++ after = cc in
        record { taken = b ∷ w; is = ap (λ l. b ∷ l) rest; again = λ s r e. more (w ++ s) s r (rest ∙ ap (λ l. w ++ l) e ∙ sym (append_assoc w s r)) (subst (λ (z : ℕ). R (z ∷ (w ++ s)) s) first (again s r e)) }

-- Comments begin with two bytes.

second_length : (b : ℕ) (bs p : List ℕ) → length p ≡ 2 → starts_with nat_eq (b ∷ bs) p ≡ true → 1 ≤ length bs
second_length b bs p two h = let e = ap length (starts_front (b ∷ bs) p h) in let k = length-append p (drop (length p) (b ∷ bs)) in omega (arith, e, k, two)

line_text : (b : ℕ) (bs : List ℕ) → starts_with nat_eq (b ∷ bs) (47 ∷ 47 ∷ []) ≡ true → begins (is_in class.InLine) bs ≡ true
line_text b [] h = absurd (omega (arith, second_length b [] (47 ∷ 47 ∷ []) refl h))
line_text b (c ∷ cs) h =
    let e = starts_front (b ∷ c ∷ cs) (47 ∷ 47 ∷ []) h in
    let same : 47 ≡ c = cc in
    subst (λ (z : ℕ). is_in class.InLine z ≡ true) same refl

line_again : (b : ℕ) (bs t r : List ℕ) → starts_with nat_eq (b ∷ bs) (47 ∷ 47 ∷ []) ≡ true → bs ≡ t ++ r → front class.InLine t ≡ front class.InLine bs → starts_with nat_eq (b ∷ t) (47 ∷ 47 ∷ []) ≡ true
line_again b bs t r h f i =
    let one = run_begins class.InLine bs (line_text b bs h) in
    let two = length-take-le (run class.InLine bs) bs (run_within class.InLine bs) in
    let three = length-take-le (run class.InLine t) t (run_within class.InLine t) in
    starts_less (b ∷ t) r (47 ∷ 47 ∷ []) (omega (arith, one, two, three, ap length i, run_within class.InLine t)) (sym (ap (λ l. starts_with nat_eq (b ∷ l) (47 ∷ 47 ∷ [])) f) ∙ h)

takes_second : (bs : List ℕ) (x : Piece) → 1 ≤ length bs → block_comment (drop 1 bs) ≡ Some x → Takes (λ t s. (1 ≤ length t) × Reads block_comment x.what (drop 1 t) s) bs x.after
takes_second [] x le e = absurd (omega arith)
takes_second (c ∷ cs) x le e = takes_byte (Reads block_comment x.what) (λ t s. (1 ≤ length t) × Reads block_comment x.what (drop 1 t) s) c cs x.after (takes_comment cs x e) (λ t s r f j. (omega arith, j))

-- What is read at a place depends on its own bytes alone.
pub takes_piece : (fresh : Bool) (text : List ℕ) (x : Piece) → stands fresh text ≡ Here x → Takes (StandsAs (stands fresh) x.what) text x.after
unfolding stands
takes_piece fresh [] x e = absurd cc
takes_piece fresh (b ∷ bs) x e =
    let lt = ((moves_stands fresh (b ∷ bs)).here x e).shorter in
    split (Whole fresh (b ∷ bs) x) (is_white b) (Here (record { what = White b; after = bs })) _ (Here x) (λ h k.
    let same : record { what = White b; after = bs } ≡ x = cc in
    takes_equal b bs x.after (StandsAs (stands fresh) x.what) (ap (λ (z : Piece). z.after) same) (λ t. pick (is_white b) (Here (record { what = White b; after = t })) _ _ h (ap (λ (z : Piece). Here (record { what = z.what; after = t })) same))) (λ h0 k.
    split (Whole fresh (b ∷ bs) x) (is_letter b) (word_at (b ∷ bs)) _ (Here x) (λ h k.
    stand_as (StandsAs word_at x.what) (StandsAs (stands fresh) x.what) b bs x.after (takes_word (b ∷ bs) x k) lt (λ t s r f j. pass (is_white b) _ _ _ h0 (pick (is_letter b) (word_at (b ∷ t)) _ _ h j))) (λ h1 k.
    split (Whole fresh (b ∷ bs) x) (is_ascii_digit b) (or_bad (number_at (b ∷ bs))) _ (Here x) (λ h k.
    stand_as (Reads number_at x.what) (StandsAs (stands fresh) x.what) b bs x.after (takes_number (b ∷ bs) x (or_here _ x k)) lt (λ t s r f j. pass (is_white b) _ _ _ h0 (pass (is_letter b) _ _ _ h1 (pick (is_ascii_digit b) (or_bad (number_at (b ∷ t))) _ _ h (ap or_bad j))))) (λ h2 k.
    split (Whole fresh (b ∷ bs) x) (nat_eq b 39) (or_bad (character_constant bs)) _ (Here x) (λ h k.
    takes_byte (Reads character_constant x.what) (StandsAs (stands fresh) x.what) b bs x.after (takes_constant bs x (or_here _ x k)) (λ t s r f j. pass (is_white b) _ _ _ h0 (pass (is_letter b) _ _ _ h1 (pass (is_ascii_digit b) _ _ _ h2 (pick (nat_eq b 39) (or_bad (character_constant t)) _ _ h (ap or_bad j)))))) (λ h3 k.
    split (Whole fresh (b ∷ bs) x) (nat_eq b 34) (or_bad (string_literal bs)) _ (Here x) (λ h k.
    takes_byte (Reads string_literal x.what) (StandsAs (stands fresh) x.what) b bs x.after (takes_string bs x (or_here _ x k)) (λ t s r f j. pass (is_white b) _ _ _ h0 (pass (is_letter b) _ _ _ h1 (pass (is_ascii_digit b) _ _ _ h2 (pass (nat_eq b 39) _ _ _ h3 (pick (nat_eq b 34) (or_bad (string_literal t)) _ _ h (ap or_bad j))))))) (λ h4 k.
    split (Whole fresh (b ∷ bs) x) (nat_eq b 35) (or_bad (cond fresh (marker bs) None)) _ (Here x) (λ h k.
    let m = hash_here fresh (marker bs) x k in
    takes_byte (Reads marker x.what) (StandsAs (stands fresh) x.what) b bs x.after (takes_marker bs x m.1) (λ t s r f j. pass (is_white b) _ _ _ h0 (pass (is_letter b) _ _ _ h1 (pass (is_ascii_digit b) _ _ _ h2 (pass (nat_eq b 39) _ _ _ h3 (pass (nat_eq b 34) _ _ _ h4
    (pick (nat_eq b 35) (or_bad (cond fresh (marker t) None)) _ _ h (ap (λ q. or_bad (cond q (marker t) None)) m.0 ∙ ap or_bad j)))))))) (λ h5 k.
    split (Whole fresh (b ∷ bs) x) (starts_with nat_eq (b ∷ bs) (47 ∷ 47 ∷ [])) (Here (record { what = Comment 0; after = behind class.InLine bs })) _ (Here x) (λ h k.
    let same : record { what = Comment 0; after = behind class.InLine bs } ≡ x = cc in
    subst (Takes (StandsAs (stands fresh) x.what) (b ∷ bs)) (ap (λ (z : Piece). z.after) same) (takes_byte (IsRun class.InLine (front class.InLine bs)) (StandsAs (stands fresh) x.what) b bs (behind class.InLine bs) (takes_run class.InLine bs) (λ t s r f i.
    pass (is_white b) _ _ _ h0 (pass (is_letter b) _ _ _ h1 (pass (is_ascii_digit b) _ _ _ h2 (pass (nat_eq b 39) _ _ _ h3 (pass (nat_eq b 34) _ _ _ h4 (pass (nat_eq b 35) _ _ _ h5
    (pick (starts_with nat_eq (b ∷ t) (47 ∷ 47 ∷ [])) (Here (record { what = Comment 0; after = behind class.InLine t })) _ _ (line_again b bs t r h f i.front) (ap (λ (l : List ℕ). Here (record { what = Comment 0; after = l })) i.behind ∙ ap (λ (z : Piece). Here (record { what = z.what; after = s })) same))))))))))
    (λ h6 k.
    split (Whole fresh (b ∷ bs) x) (starts_with nat_eq (b ∷ bs) (47 ∷ 42 ∷ [])) (or_bad (block_comment (drop 1 bs))) _ (Here x) (λ h k.
    takes_byte (λ t s. (1 ≤ length t) × Reads block_comment x.what (drop 1 t) s) (StandsAs (stands fresh) x.what) b bs x.after (takes_second bs x (second_length b bs (47 ∷ 42 ∷ []) refl h) (or_here _ x k)) (λ t s r f j.
    pass (is_white b) _ _ _ h0 (pass (is_letter b) _ _ _ h1 (pass (is_ascii_digit b) _ _ _ h2 (pass (nat_eq b 39) _ _ _ h3 (pass (nat_eq b 34) _ _ _ h4 (pass (nat_eq b 35) _ _ _ h5
    (pass (starts_with nat_eq (b ∷ t) (47 ∷ 47 ∷ [])) _ _ _ (starts_cut (b ∷ bs) (b ∷ t) r (47 ∷ 47 ∷ []) (ap (λ l. b ∷ l) f) h6)
    (pick (starts_with nat_eq (b ∷ t) (47 ∷ 42 ∷ [])) (or_bad (block_comment (drop 1 t))) _ _ (starts_less (b ∷ t) r (47 ∷ 42 ∷ []) (omega (arith, j.0)) (sym (ap (λ l. starts_with nat_eq (b ∷ l) (47 ∷ 42 ∷ [])) f) ∙ h)) (ap or_bad j.1)))))))))) (λ h7 k.
    split (Whole fresh (b ∷ bs) x) ((nat_eq b 46 && begins is_ascii_digit bs) || starts_with nat_eq (b ∷ bs) (37 ∷ 58 ∷ [])) (Bad fault.BadToken) (mark_at (b ∷ bs)) (Here x) (λ h k. absurd cc) (λ h8 k.
    let q = or_false (nat_eq b 46 && begins is_ascii_digit bs) (starts_with nat_eq (b ∷ bs) (37 ∷ 58 ∷ [])) h8 in
    stand_as (StandsAs mark_at x.what) (StandsAs (stands fresh) x.what) b bs x.after (takes_mark (b ∷ bs) x k) lt (λ t s r f j.
    pass (is_white b) _ _ _ h0 (pass (is_letter b) _ _ _ h1 (pass (is_ascii_digit b) _ _ _ h2 (pass (nat_eq b 39) _ _ _ h3 (pass (nat_eq b 34) _ _ _ h4 (pass (nat_eq b 35) _ _ _ h5
    (pass (starts_with nat_eq (b ∷ t) (47 ∷ 47 ∷ [])) _ _ _ (starts_cut (b ∷ bs) (b ∷ t) r (47 ∷ 47 ∷ []) (ap (λ l. b ∷ l) f) h6)
    (pass (starts_with nat_eq (b ∷ t) (47 ∷ 42 ∷ [])) _ _ _ (starts_cut (b ∷ bs) (b ∷ t) r (47 ∷ 42 ∷ []) (ap (λ l. b ∷ l) f) h7)
    (pass ((nat_eq b 46 && begins is_ascii_digit t) || starts_with nat_eq (b ∷ t) (37 ∷ 58 ∷ [])) (Bad fault.BadToken) _ _
    (or_none (nat_eq b 46 && begins is_ascii_digit t) (starts_with nat_eq (b ∷ t) (37 ∷ 58 ∷ [])) (and_cut (nat_eq b 46) (begins is_ascii_digit bs) (begins is_ascii_digit t) (begins_cut is_ascii_digit bs t r f) q.0) (starts_cut (b ∷ bs) (b ∷ t) r (37 ∷ 58 ∷ []) (ap (λ l. b ∷ l) f) q.1)) j)))))))))) k) k) k) k) k) k) k) k) e

-- The laws.

record Behind (taken bytes after rest : List ℕ) : Type 0 where
  more : List ℕ
  bytes_is : bytes ≡ taken ++ more
  after_is : after ≡ more ++ rest

-- of two fronts of a text, the longer goes on from the shorter
goes_on : (taken bytes after rest : List ℕ) → taken ++ after ≡ bytes ++ rest → length taken ≤ length bytes → Behind taken bytes after rest
goes_on [] bytes after rest e le = record { more = bytes; bytes_is = refl; after_is = e }
goes_on (c ∷ taken) [] after rest e le = absurd (omega arith)
goes_on (c ∷ taken) (d ∷ bytes) after rest e le =
    let first : c ≡ d = cc in
    let tail : taken ++ after ≡ bytes ++ rest = cc in
    let b = goes_on taken bytes after rest tail (omega arith) in
    record { more = b.more; bytes_is = ap (λ l. d ∷ l) b.bytes_is ∙ ap (λ z. z ∷ (taken ++ b.more)) (sym first); after_is = b.after_is }

taken_is : (R : List ℕ → List ℕ → Type 0) (text : List ℕ) (x : Piece) (t : Takes R text x.after) → bytes_of text x ≡ t.taken
taken_is R text x t =
    let size : length text - length x.after ≡ length t.taken = omega (arith, ap length t.is, length-append t.taken x.after) in
    ap (λ l. take (length text - length x.after) l) t.is ∙ ap (λ n. take n (t.taken ++ x.after)) size ∙ take-append_seam t.taken x.after

abbrev left_of : Stand → List ℕ
left_of End = []
left_of (Bad f) = []
left_of (Here x) = x.after

no_longer : (fresh : Bool) (text : List ℕ) (x : Piece) (t : Whole fresh text x) → (bytes rest : List ℕ) → text ≡ bytes ++ rest → IsSpelling fresh bytes → length bytes ≤ length t.taken
no_longer fresh text x t bytes rest e s = by (nat_le (length bytes) (length t.taken)) refl
  where
    longer : (m n : ℕ) → nat_le m n ≡ false → n < m
    longer m n h = grind (arith, nat_tests)

    by : (q : Bool) → nat_le (length bytes) (length t.taken) ≡ q → length bytes ≤ length t.taken
    by true h = leb-true (length bytes) (length t.taken) h
    by false h =
        let lt = longer (length bytes) (length t.taken) h in
        let g = goes_on t.taken bytes x.after rest (sym t.is ∙ e) (omega (arith, lt)) in
        let stood : stands fresh bytes ≡ Here (record { what = x.what; after = g.more }) = ap (stands fresh) g.bytes_is ∙ t.again g.more rest g.after_is in
        let none : g.more ≡ [] = ap left_of (sym stood ∙ s.alone) in
        omega (arith, lt, ap length g.bytes_is, length-append t.taken g.more, ap length none)

-- a piece is the longest spelling that begins at its place
pub piece_longest : (fresh : Bool) (text : List ℕ) (x : Piece) → stands fresh text ≡ Here x → IsLongest fresh text x
piece_longest fresh text x e =
    let t = takes_piece fresh text x e in
    let bytes = taken_is (StandsAs (stands fresh) x.what) text x t in
    let lt = ((moves_stands fresh text).here x e).shorter in
    record {
      whole = ap (λ l. l ++ x.after) bytes ∙ sym t.is;
      some = omega (arith, lt, ap length bytes, ap length t.is, length-append t.taken x.after);
      alone = ap (stands fresh) (bytes ∙ sym (append-nil t.taken)) ∙ t.again [] x.after refl;
      longest = λ b r f s. let h = no_longer fresh text x t b r f s in omega (arith, h, ap length bytes);
    }

-- the pieces of a row make up the bytes between its ends
pub row_bytes : (p q : Place) (xs : List Piece) → Row p xs q → bytes_of_row p.text xs ++ q.text ≡ p.text
row_bytes p q [] row = ap (λ (z : Place). z.text) (sym row)
row_bytes p q (x ∷ xs) row =
    append_assoc (bytes_of p.text x) (bytes_of_row x.after xs) q.text ∙ ap (λ l. bytes_of p.text x ++ l) (row_bytes (behind_piece x p) q xs row.1) ∙ (piece_longest p.fresh p.text x row.0).whole

-- Bytes that begin nothing.

word_stands : (text : List ℕ) → word_at text ≡ Bad fault.BadByte → ⊥
unfolding word_at
word_stands text e = split ⊥ (is_wide (front class.Word text) && begins is_quote (behind class.Word text)) (Bad (fault.Profile (run class.Word text))) (keyword_or_name (front class.Word text) (behind class.Word text) (row_of words (front class.Word text))) (Bad fault.BadByte) (λ h k. absurd cc) (λ h k. by (row_of words (front class.Word text)) k) e
  where
    by : (o : Option (Option Word)) → keyword_or_name (front class.Word text) (behind class.Word text) o ≡ Bad fault.BadByte → ⊥
    by None k = absurd cc
    by (Some None) k = absurd cc
    by (Some (Some w)) k = absurd cc

or_stands : (o : Option Piece) → or_bad o ≡ Bad fault.BadByte → ⊥
or_stands None e = absurd cc
or_stands (Some x) e = absurd cc

no_mark : (text : List ℕ) (o : Option (List ℕ × Mark)) → mark_row text o ≡ Bad fault.BadByte → o ≡ None
no_mark text None e = refl
no_mark text (Some r) e = absurd cc

-- a byte that begins nothing begins nothing where the text is cut off behind it
bad_cut : (fresh : Bool) (b : ℕ) (bs t r : List ℕ) → bs ≡ t ++ r → stands fresh (b ∷ bs) ≡ Bad fault.BadByte → stands fresh (b ∷ t) ≡ Bad fault.BadByte
unfolding stands mark_at
bad_cut fresh b bs t r f e =
    split (stands fresh (b ∷ t) ≡ Bad fault.BadByte) (is_white b) (Here (record { what = White b; after = bs })) _ (Bad fault.BadByte) (λ h k. absurd cc) (λ h0 k.
    split (stands fresh (b ∷ t) ≡ Bad fault.BadByte) (is_letter b) (word_at (b ∷ bs)) _ (Bad fault.BadByte) (λ h k. absurd (word_stands (b ∷ bs) k)) (λ h1 k.
    split (stands fresh (b ∷ t) ≡ Bad fault.BadByte) (is_ascii_digit b) (or_bad (number_at (b ∷ bs))) _ (Bad fault.BadByte) (λ h k. absurd (or_stands _ k)) (λ h2 k.
    split (stands fresh (b ∷ t) ≡ Bad fault.BadByte) (nat_eq b 39) (or_bad (character_constant bs)) _ (Bad fault.BadByte) (λ h k. absurd (or_stands _ k)) (λ h3 k.
    split (stands fresh (b ∷ t) ≡ Bad fault.BadByte) (nat_eq b 34) (or_bad (string_literal bs)) _ (Bad fault.BadByte) (λ h k. absurd (or_stands _ k)) (λ h4 k.
    split (stands fresh (b ∷ t) ≡ Bad fault.BadByte) (nat_eq b 35) (or_bad (cond fresh (marker bs) None)) _ (Bad fault.BadByte) (λ h k. absurd (or_stands _ k)) (λ h5 k.
    split (stands fresh (b ∷ t) ≡ Bad fault.BadByte) (starts_with nat_eq (b ∷ bs) (47 ∷ 47 ∷ [])) (Here (record { what = Comment 0; after = behind class.InLine bs })) _ (Bad fault.BadByte) (λ h k. absurd cc) (λ h6 k.
    split (stands fresh (b ∷ t) ≡ Bad fault.BadByte) (starts_with nat_eq (b ∷ bs) (47 ∷ 42 ∷ [])) (or_bad (block_comment (drop 1 bs))) _ (Bad fault.BadByte) (λ h k. absurd (or_stands _ k)) (λ h7 k.
    split (stands fresh (b ∷ t) ≡ Bad fault.BadByte) ((nat_eq b 46 && begins is_ascii_digit bs) || starts_with nat_eq (b ∷ bs) (37 ∷ 58 ∷ [])) (Bad fault.BadToken) (mark_at (b ∷ bs)) (Bad fault.BadByte) (λ h k. absurd cc) (λ h8 k.
    let q = or_false (nat_eq b 46 && begins is_ascii_digit bs) (starts_with nat_eq (b ∷ bs) (37 ∷ 58 ∷ [])) h8 in
    pass (is_white b) _ _ _ h0 (pass (is_letter b) _ _ _ h1 (pass (is_ascii_digit b) _ _ _ h2 (pass (nat_eq b 39) _ _ _ h3 (pass (nat_eq b 34) _ _ _ h4 (pass (nat_eq b 35) _ _ _ h5
    (pass (starts_with nat_eq (b ∷ t) (47 ∷ 47 ∷ [])) _ _ _ (starts_cut (b ∷ bs) (b ∷ t) r (47 ∷ 47 ∷ []) (ap (λ l. b ∷ l) f) h6)
    (pass (starts_with nat_eq (b ∷ t) (47 ∷ 42 ∷ [])) _ _ _ (starts_cut (b ∷ bs) (b ∷ t) r (47 ∷ 42 ∷ []) (ap (λ l. b ∷ l) f) h7)
    (pass ((nat_eq b 46 && begins is_ascii_digit t) || starts_with nat_eq (b ∷ t) (37 ∷ 58 ∷ [])) (Bad fault.BadToken) _ _
    (or_none (nat_eq b 46 && begins is_ascii_digit t) (starts_with nat_eq (b ∷ t) (37 ∷ 58 ∷ [])) (and_cut (nat_eq b 46) (begins is_ascii_digit bs) (begins is_ascii_digit t) (begins_cut is_ascii_digit bs t r f) q.0) (starts_cut (b ∷ bs) (b ∷ t) r (37 ∷ 58 ∷ []) (ap (λ l. b ∷ l) f) q.1))
    (ap (mark_row (b ∷ t)) (no_row_cut marks (b ∷ bs) (b ∷ t) r (ap (λ l. b ∷ l) f) (no_mark (b ∷ bs) (first_row marks (b ∷ bs)) k)))))))))))) k) k) k) k) k) k) k) k) e

-- where a byte is bad, no front of the text is a spelling
pub bad_byte_alone : (fresh : Bool) (text : List ℕ) → stands fresh text ≡ Bad fault.BadByte → (bytes rest : List ℕ) → text ≡ bytes ++ rest → IsSpelling fresh bytes → ⊥
unfolding stands
bad_byte_alone fresh text e [] rest is s = let alone = s.alone in absurd cc
bad_byte_alone fresh [] e (c ∷ bytes) rest is s = absurd cc
bad_byte_alone fresh (b ∷ bs) e (c ∷ bytes) rest is s =
    let first : b ≡ c = cc in
    let tail : bs ≡ bytes ++ rest = cc in
    let bad : stands fresh (c ∷ bytes) ≡ Bad fault.BadByte = ap (λ (z : ℕ). stands fresh (z ∷ bytes)) (sym first) ∙ bad_cut fresh b bs bytes rest tail e in
    let alone = s.alone in
    absurd (differ _ _ (sym bad ∙ alone))
  where
    differ : (f : Fault) (x : Piece) → Bad f ≡ Here x → ⊥
    differ f x e = cc
