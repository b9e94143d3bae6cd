-- Each piece takes at least one byte, and the line grows by no more than the bytes taken.
use Rattle.std.proofs.Common.{◌≡◌, ℕ, zero, suc, ◌+◌, ◌-◌, ◌<◌, ◌≤◌, max, min, List, [], ◌∷◌, length, drop, Bool, true, false, cond, ◌||◌, ◌&&◌, Option, Some, None, nat_eq, refl, ap, subst, length-drop, length-take-le, arith}
use Rattle.std.specs.Prelude.{nat_lt, nat_le}
use Rattle.std.specs.Option.{option_map, option_map_or}
use Rattle.std.specs.List.{starts_with, list_all}
use Rattle.std.specs.Int.{is_in_range}
use Rattle.std.specs.Char.{is_ascii_digit}
use Rattle.std.proofs.lemmas.Bool.{leb-true, ltb-true}
use Rattle.pv_lex.specs.declared.bytes.Class.{Class}
use Rattle.pv_lex.specs.declared.bytes.Class.TheVariants as class
use Rattle.pv_lex.specs.declared.pieces.Fault.{Fault}
use Rattle.pv_lex.specs.declared.pieces.Fault.TheVariants as fault
use Rattle.pv_token.specs.declared.words.Word.{Word}
use Rattle.pv_token.specs.declared.marks.Mark.{Mark}
use Rattle.pv_lex.specs.Bytes.{is_letter, is_white, is_in, run, behind, front, begins, line_feeds}
use Rattle.pv_lex.specs.Tables.{first_row, row_of}
use Rattle.pv_token.specs.Said.{Said, Text}
use Rattle.pv_lex.specs.Pieces.{Comment, Piece, Stand, Bad, Here, ◌>>=◌, or_bad, token}
use Rattle.pv_lex.specs.Words.{words, is_wide, is_quote, keyword_or_name, word_at}
use Rattle.pv_lex.specs.Constants.{constant_of, number_at, value_from}
use Rattle.pv_lex.specs.Characters.{escapes, character_by_number, escape_at, character_at, character_constant, characters, string_literal}
use Rattle.pv_lex.specs.CharacterParts.{closed_character}
use Rattle.pv_lex.specs.Comments.{behind_close, block_comment}
use Rattle.pv_lex.specs.Markers.{some_of, behind_name, behind_quotes, behind_line_feed, groups, marker}
use Rattle.pv_lex.specs.MarkerParts.{marker_piece, group_at, mark_row}
use Rattle.pv_lex.specs.Marks.{marks, mark_at}
use Rattle.pv_lex.specs.Stands.{stands}
use Rattle.pv_lex.specs.Rows.{line_behind}
use Rattle.pv_lex.proofs.Runs.{run_within, run_some}

-- what is left is shorter than n, and the line stays within what the bytes allow
pub record Moved (n : ℕ) (x : Piece) : Type 0 where
  pub shorter : length x.after < n
  pub line : (l : ℕ) → line_behind x.what l + length x.after ≤ max l 2147483647 + n

-- a fault at a place where n bytes are left: its word ends within them
abbrev pub Within : ℕ → Fault → Type 0
Within n fault.BadByte = 0 < n
Within n fault.BadToken = 0 < n
Within n (fault.Profile word) = (0 < word) × (word ≤ n)

pub record Moves (n : ℕ) (s : Stand) : Type 0 where
  pub here : (x : Piece) → s ≡ Here x → Moved n x
  pub bad : (f : Fault) → s ≡ Bad f → Within n f

-- what is left behind an answer is no longer than n
pub record Leaves {A : Type 0} (n : ℕ) (o : Option (A × List ℕ)) : Type 0 where
  pub left : (x : A × List ℕ) → o ≡ Some x → length x.1 ≤ n

pub record MovesIf (n : ℕ) (o : Option Piece) : Type 0 where
  pub some : (x : Piece) → o ≡ Some x → Moved n x

either : {n : ℕ} {x y : Stand} (b : Bool) → (b ≡ true → Moves n x) → (b ≡ false → Moves n y) → Moves n (cond b x y)
either true f g = f refl
either false f g = g refl

either_if : {n : ℕ} {x y : Option Piece} (b : Bool) → (b ≡ true → MovesIf n x) → (b ≡ false → MovesIf n y) → MovesIf n (cond b x y)
either_if true f g = f refl
either_if false f g = g refl

either_leaves : {A : Type 0} {n : ℕ} {x y : Option (A × List ℕ)} (b : Bool) → (b ≡ true → Leaves n x) → (b ≡ false → Leaves n y) → Leaves n (cond b x y)
either_leaves true f g = f refl
either_leaves false f g = g refl

moves_bad : (n : ℕ) (f : Fault) → Within n f → Moves n (Bad f)
moves_bad n f w = record { here = λ x e. absurd cc; bad = λ g e. let k : f ≡ g = cc in subst (Within n) k w }

moves_here : (n : ℕ) (x : Piece) → Moved n x → Moves n (Here x)
moves_here n x m = record { here = λ y e. let k : x ≡ y = cc in subst (Moved n) k m; bad = λ f e. absurd cc }

moves_or_bad : (n : ℕ) (o : Option Piece) → 0 < n → MovesIf n o → Moves n (or_bad o)
moves_or_bad n None some m = moves_bad n fault.BadToken some
moves_or_bad n (Some x) some m = moves_here n x (m.some x refl)

if_none : (n : ℕ) → MovesIf n None
if_none n = record { some = λ x e. absurd cc }

if_some : (n : ℕ) (x : Piece) → Moved n x → MovesIf n (Some x)
if_some n x m = record { some = λ y e. let k : x ≡ y = cc in subst (Moved n) k m }

leaves_none : {A : Type 0} (n : ℕ) → Leaves {A = A} n None
leaves_none n = record { left = λ x e. absurd cc }

leaves_some : {A : Type 0} (n : ℕ) (x : A × List ℕ) → length x.1 ≤ n → Leaves n (Some x)
leaves_some {A} n x h = record { left = λ y e. let k : x ≡ y = cc in subst (λ (z : A × List ℕ). length z.1 ≤ n) k h }

moved_token : (n : ℕ) (s : Said) (after : List ℕ) → length after < n → Moved n (token s after)
moved_token n s after h = record { shorter = h; line = λ l. omega arith }

-- Words and numbers.

pub behind_shorter : (k : Class) (text : List ℕ) → 1 ≤ run k text → length (behind k text) < length text
behind_shorter k text h = omega (arith, length-drop (run k text) text, run_within k text)

behind_most : (k : Class) (text : List ℕ) → length (behind k text) ≤ length text
behind_most k text = omega (arith, length-drop (run k text) text)

front_within : (k : Class) (text : List ℕ) → 1 ≤ run k text → Within (length text) (fault.Profile (length (front k text)))
front_within k text h = let e : length (front k text) ≡ run k text = length-take-le (run k text) text (run_within k text) in (omega (arith, e), omega (arith, e, run_within k text))

moves_keyword : (n : ℕ) (word after : List ℕ) (o : Option (Option Word)) → Within n (fault.Profile (length word)) → length after < n → Moves n (keyword_or_name word after o)
moves_keyword n word after None within h = moves_here n _ (moved_token n _ after h)
moves_keyword n word after (Some None) within h = moves_bad n (fault.Profile (length word)) within
moves_keyword n word after (Some (Some w)) within h = moves_here n _ (moved_token n _ after h)

moves_word : (text : List ℕ) → 1 ≤ run class.Word text → Moves (length text) (word_at text)
unfolding word_at
moves_word text h = either (is_wide (front class.Word text) && begins is_quote (behind class.Word text)) (λ e. moves_bad _ (fault.Profile (run class.Word text)) (omega (arith, h), run_within class.Word text)) (λ e. moves_keyword _ (front class.Word text) _ (row_of words (front class.Word text)) (front_within class.Word text h) (behind_shorter class.Word text h))

if_token : (n : ℕ) (after : List ℕ) (o : Option Said) → length after < n → MovesIf n (option_map (λ s. token s after) o)
if_token n after None h = if_none n
if_token n after (Some s) h = if_some n _ (moved_token n s after h)

moves_number : (text : List ℕ) → 1 ≤ run class.Word text → MovesIf (length text) (number_at text)
unfolding number_at
moves_number text h = either_if (begins (λ b. nat_eq b 46) (behind class.Word text)) (λ e. if_none _) (λ e. if_token _ _ (constant_of (front class.Word text)) (behind_shorter class.Word text h))

-- Characters and strings.

numbered_leaves : (base n : ℕ) (digits after : List ℕ) → length after ≤ n → Leaves n (character_by_number base digits after)
unfolding character_by_number
numbered_leaves base n [] after h = leaves_none n
numbered_leaves base n (d ∷ ds) after h = either_leaves (nat_lt (value_from base 0 (d ∷ ds)) 256) (λ e. leaves_some n _ h) (λ e. leaves_none n)

letter_leaves : (n : ℕ) (after : List ℕ) (o : Option ℕ) → length after ≤ n → Leaves n (option_map (λ b. (b, after)) o)
letter_leaves n after None h = leaves_none n
letter_leaves n after (Some b) h = leaves_some n (b, after) h

escape_leaves : (text : List ℕ) → Leaves (length text) (escape_at text)
unfolding escape_at
escape_leaves [] = leaves_none 0
escape_leaves (b ∷ bs) = either_leaves (is_in class.Octal b) (λ e. numbered_leaves 8 _ _ _ (omega (arith, length-drop (min 3 (run class.Octal (b ∷ bs))) (b ∷ bs)))) (λ e. either_leaves (nat_eq b 120) (λ f. numbered_leaves 16 _ _ _ (omega (arith, behind_most class.Hex bs))) (λ f. letter_leaves _ bs (row_of escapes (b ∷ [])) (omega arith)))

more_room : {A : Type 0} (m n : ℕ) (o : Option (A × List ℕ)) → m ≤ n → Leaves m o → Leaves n o
more_room m n o h l = record { left = λ x e. let k = l.left x e in omega arith }

-- a character takes a byte at least
pub character_leaves : (q b : ℕ) (bs : List ℕ) → Leaves (length bs) (character_at q (b ∷ bs))
unfolding character_at
character_leaves q b bs = either_leaves (nat_eq b 92) (λ e. escape_leaves bs) (λ e. either_leaves (nat_eq b 10 || nat_eq b q) (λ f. leaves_none _) (λ f. leaves_some _ (b, bs) (omega arith)))

character_any : (q : ℕ) (text : List ℕ) → Leaves (length text) (character_at q text)
unfolding character_at
character_any q [] = leaves_none 0
character_any q (b ∷ bs) = more_room (length bs) (suc (length bs)) _ (omega arith) (character_leaves q b bs)

closed_moves : (n : ℕ) (x : ℕ × List ℕ) → length x.1 ≤ n → MovesIf (suc n) (closed_character x)
closed_moves n x h = either_if (begins (λ b. nat_eq b 39) x.1) (λ e. if_some _ _ (moved_token _ _ _ (omega (arith, length-drop 1 x.1)))) (λ e. if_none _)

constant_moves : (n : ℕ) (o : Option (ℕ × List ℕ)) → Leaves n o → MovesIf (suc n) (o >>= closed_character)
constant_moves n None h = if_none _
constant_moves n (Some x) h = closed_moves n x (h.left x refl)

moves_character : (text : List ℕ) → MovesIf (suc (length text)) (character_constant text)
unfolding character_constant
moves_character text = constant_moves (length text) (character_at 39 text) (character_any 39 text)

joined_leaves : (m : ℕ) (b : ℕ) (o : Option (List ℕ × List ℕ)) → Leaves m o → Leaves m (option_map (λ y. (b ∷ y.0, y.1)) o)
joined_leaves m b None h = leaves_none m
joined_leaves m b (Some y) h = leaves_some m (b ∷ y.0, y.1) (h.left y refl)

characters_then : (k m : ℕ) (o : Option (ℕ × List ℕ)) → ((text : List ℕ) → Leaves (length text) (characters k text)) → Leaves m o → Leaves m (o >>= λ x. option_map (λ y. (x.0 ∷ y.0, y.1)) (characters k x.1))
characters_then k m None all h = leaves_none m
characters_then k m (Some x) all h = joined_leaves m x.0 (characters k x.1) (more_room (length x.1) m (characters k x.1) (h.left x refl) (all x.1))

characters_leaves : (k : ℕ) (text : List ℕ) → Leaves (length text) (characters k text)
unfolding characters
characters_leaves zero text = leaves_none _
characters_leaves (suc k) text = either_leaves (begins (λ b. nat_eq b 34) text) (λ e. leaves_some _ _ (omega (arith, length-drop 1 text))) (λ e. characters_then k (length text) (character_at 34 text) (characters_leaves k) (character_any 34 text))

text_moves : (n : ℕ) (o : Option (List ℕ × List ℕ)) → Leaves n o → MovesIf (suc n) (option_map (λ x. token (Text x.0) x.1) o)
text_moves n None h = if_none _
text_moves n (Some x) h = let k = h.left x refl in if_some _ _ (moved_token _ _ x.1 (omega arith))

moves_string : (text : List ℕ) → MovesIf (suc (length text)) (string_literal text)
unfolding string_literal
moves_string text = text_moves (length text) _ (characters_leaves (length text) text)

-- Comments.

-- after is an end of text, and between them are no more line feeds than bytes
record Behind (text after : List ℕ) : Type 0 where
  less : length after < length text
  feeds : line_feeds text + length after ≤ line_feeds after + length text

feeds_cons : (b : ℕ) (bs : List ℕ) → line_feeds (b ∷ bs) ≤ line_feeds bs + 1
unfolding line_feeds
feeds_cons b bs = by (nat_eq b 10) (line_feeds bs)
  where
    by : (t : Bool) (n : ℕ) → cond t (suc n) n ≤ n + 1
    by true n = omega arith
    by false n = omega arith

behind_more : (b : ℕ) (bs after : List ℕ) → Behind bs after → Behind (b ∷ bs) after
behind_more b bs after h = record { less = omega (arith, h.less); feeds = omega (arith, feeds_cons b bs, h.feeds) }

behind_two : (b : ℕ) (bs : List ℕ) → Behind (b ∷ bs) (drop 1 bs)
behind_two b [] = record { less = omega arith; feeds = omega (arith, feeds_cons b []) }
behind_two b (c ∷ cs) = record { less = omega arith; feeds = omega (arith, feeds_cons b (c ∷ cs), feeds_cons c cs) }

close_by : (b : ℕ) (bs after : List ℕ) (t : Bool) → (behind_close bs ≡ Some after → Behind bs after) → cond t (Some (drop 1 bs)) (behind_close bs) ≡ Some after → Behind (b ∷ bs) after
close_by b bs after true more e = let k : drop 1 bs ≡ after = cc in subst (Behind (b ∷ bs)) k (behind_two b bs)
close_by b bs after false more e = behind_more b bs after (more e)

close_behind : (text after : List ℕ) → behind_close text ≡ Some after → Behind text after
unfolding behind_close
close_behind [] after e = absurd cc
close_behind (b ∷ bs) after e = close_by b bs after (starts_with nat_eq (b ∷ bs) (42 ∷ 47 ∷ [])) (close_behind bs after) e

comment_by : (text : List ℕ) (o : Option (List ℕ)) → ((after : List ℕ) → o ≡ Some after → Behind text after) → MovesIf (length text) (option_map (λ after. record { what = Comment (line_feeds text - line_feeds after); after = after }) o)
comment_by text None h = if_none _
comment_by text (Some after) h = let k = h after refl in if_some _ _ (record { shorter = k.less; line = λ l. omega (arith, k.less, k.feeds) })

moves_comment : (text : List ℕ) → MovesIf (length text) (block_comment text)
unfolding block_comment
moves_comment text = comment_by text (behind_close text) (close_behind text)

-- Line markers.

then_leaves : {A : Type 0} (m n : ℕ) (o : Option (A × List ℕ)) (f : A × List ℕ → Option Piece) → Leaves m o → ((x : A × List ℕ) → length x.1 ≤ m → MovesIf n (f x)) → MovesIf n (o >>= f)
then_leaves m n None f h g = if_none n
then_leaves m n (Some x) f h g = g x (h.left x refl)

then_list : (m n : ℕ) (o : Option (List ℕ)) (f : List ℕ → Option Piece) → ((x : List ℕ) → o ≡ Some x → length x ≤ m) → ((x : List ℕ) → length x ≤ m → MovesIf n (f x)) → MovesIf n (o >>= f)
then_list m n None f h g = if_none n
then_list m n (Some x) f h g = g x (h x refl)

some_leaves : (k : Class) (text : List ℕ) (m : ℕ) → length text ≤ m → Leaves m (some_of k text)
unfolding some_of
some_leaves k text m h = either_leaves (begins (is_in k) text) (λ e. leaves_some m _ (omega (arith, behind_most k text))) (λ e. leaves_none m)

one_of : (t : Bool) (x y : Option (List ℕ)) (z : List ℕ) (P : Type 0) → (x ≡ Some z → P) → (y ≡ Some z → P) → cond t x y ≡ Some z → P
one_of true x y z P f g e = f e
one_of false x y z P f g e = g e

name_most : (t : Bool) (text after : List ℕ) → behind_name t text ≡ Some after → length after ≤ length text
unfolding behind_name
name_most true [] after e = absurd cc
name_most false [] after e = absurd cc
name_most true (b ∷ bs) after e = one_of (nat_eq b 10) None (behind_name false bs) after _ (λ h. absurd cc) (λ h. let k = name_most false bs after h in omega arith) e
name_most false (b ∷ bs) after e = one_of (nat_eq b 34) (Some bs) (cond (nat_eq b 10) None (behind_name (nat_eq b 92) bs)) after _ (λ h. let k : bs ≡ after = cc in omega (arith, ap length k)) (λ h. one_of (nat_eq b 10) None (behind_name (nat_eq b 92) bs) after _ (λ j. absurd cc) (λ j. let k = name_most (nat_eq b 92) bs after j in omega arith) h) e

quoted_most : (text after : List ℕ) → behind_quotes text ≡ Some after → length after ≤ length text
quoted_most [] after e = absurd cc
quoted_most (b ∷ bs) after e = one_of (nat_eq b 34) (behind_name false bs) None after _ (λ h. let k = name_most false bs after h in omega arith) (λ h. absurd cc) e

feed_most : (text after : List ℕ) → behind_line_feed text ≡ Some after → length after ≤ length text
feed_most [] after e = let k : [] ≡ after = cc in omega (arith, ap length k)
feed_most (b ∷ bs) after e = one_of (nat_eq b 10) (Some bs) None after _ (λ h. let k : bs ≡ after = cc in omega (arith, ap length k)) (λ h. absurd cc) e

pub group_leaves : (text : List ℕ) → Leaves (length text) (group_at text)
group_leaves text = by (some_of class.Blank text) (some_leaves class.Blank text (length text) (omega arith))
  where
    by : (o : Option (List ℕ × List ℕ)) → Leaves (length text) o → Leaves (length text) (o >>= λ a. some_of class.Digit a.1)
    by None h = leaves_none _
    by (Some a) h = some_leaves class.Digit a.1 (length text) (h.left a refl)

groups_by : (k : ℕ) (text after : List ℕ) (o : Option (List ℕ × List ℕ)) → ((t : List ℕ) → groups k t ≡ Some after → length after ≤ length t) → Leaves (length text) o
    → option_map_or (λ (g : List ℕ × List ℕ). groups k g.1) o (behind_line_feed (behind class.LineTail text)) ≡ Some after → length after ≤ length text
groups_by k text after None more h e = let j = feed_most (behind class.LineTail text) after e in omega (arith, j, behind_most class.LineTail text)
groups_by k text after (Some g) more h e = let j = more g.1 e in omega (arith, j, h.left g refl)

groups_most : (k : ℕ) (text after : List ℕ) → groups k text ≡ Some after → length after ≤ length text
unfolding groups
groups_most zero text after e = let j = feed_most (behind class.LineTail text) after e in omega (arith, j, behind_most class.LineTail text)
groups_most (suc k) text after e = groups_by k text after (group_at text) (λ t. groups_most k t after) (group_leaves text) e

both : (a b : Bool) → (a && b) ≡ true → b ≡ true
both true b e = e
both false b e = absurd cc

piece_moves : (m : ℕ) (digits after : List ℕ) → length after ≤ m → MovesIf (suc m) (marker_piece digits after)
piece_moves m digits after h = either_if (nat_le (length digits) 10 && nat_le (value_from 10 0 digits) 2147483647)
    (λ e. let k = leb-true (value_from 10 0 digits) 2147483647 (both (nat_le (length digits) 10) (nat_le (value_from 10 0 digits) 2147483647) e) in if_some _ _ (record { shorter = omega arith; line = λ l. omega (arith, k) }))
    (λ e. if_none _)

moves_marker : (text : List ℕ) → MovesIf (suc (length text)) (marker text)
unfolding marker
moves_marker text =
    let m = length text in
    then_leaves m (suc m) (some_of class.Blank text) _ (some_leaves class.Blank text m (omega arith)) (λ a ha.
    then_leaves m (suc m) (some_of class.Digit a.1) _ (some_leaves class.Digit a.1 m ha) (λ n hn.
    then_leaves m (suc m) (some_of class.Blank n.1) _ (some_leaves class.Blank n.1 m hn) (λ b hb.
    then_list m (suc m) (behind_quotes b.1) _ (λ x e. let k = quoted_most b.1 x e in omega arith) (λ name hname.
    then_list m (suc m) (groups (length name) name) _ (λ x e. let k = groups_most (length name) name x e in omega arith) (λ after hafter.
    piece_moves m n.0 after hafter)))))

-- Punctuators.

head_true : (a b : Bool) → (a && b) ≡ true → a ≡ true
head_true true b h = refl
head_true false b h = absurd cc

front_by : (x r : List ℕ × Mark) (o : Option (List ℕ × Mark)) (t : Bool) → nat_lt 0 (length x.0) ≡ true → (o ≡ Some r → 1 ≤ length r.0) → cond t (Some x) o ≡ Some r → 1 ≤ length r.0
front_by x r o true some more e = let k : x ≡ r = cc in subst (λ (y : List ℕ × Mark). 1 ≤ length y.0) k (let j = ltb-true 0 (length x.0) some in omega arith)
front_by x r o false some more e = more e

front_some : (rows : List (List ℕ × Mark)) (text : List ℕ) (r : List ℕ × Mark) → list_all (λ (x : List ℕ × Mark). nat_lt 0 (length x.0)) rows ≡ true → first_row rows text ≡ Some r → 1 ≤ length r.0
front_some [] text r all e = absurd cc
front_some (x ∷ rows) text r all e =
    let rest : Bool = list_all (λ (y : List ℕ × Mark). nat_lt 0 (length y.0)) rows in
    front_by x r (first_row rows text) (starts_with nat_eq text x.0) (head_true (nat_lt 0 (length x.0)) rest all) (front_some rows text r (both (nat_lt 0 (length x.0)) rest all)) e

row_moves : (text : List ℕ) (o : Option (List ℕ × Mark)) → 0 < length text → ((r : List ℕ × Mark) → o ≡ Some r → 1 ≤ length r.0) → Moves (length text) (mark_row text o)
row_moves text None lt h = moves_bad _ fault.BadByte lt
row_moves text (Some r) lt h = let k = h r refl in moves_here _ _ (moved_token _ _ (drop (length r.0) text) (omega (arith, k, length-drop (length r.0) text)))

moves_mark : (text : List ℕ) → 0 < length text → Moves (length text) (mark_at text)
unfolding mark_at marks
moves_mark text lt = row_moves text (first_row marks text) lt (λ r e. front_some marks text r refl e)

-- All together.

letter_in : (d u l e : Bool) → ((u || l) || e) ≡ true → (((d || u) || l) || e) ≡ true
letter_in true u l e h = refl
letter_in false u l e h = h

digit_in : (d u l e : Bool) → d ≡ true → (((d || u) || l) || e) ≡ true
digit_in true u l e h = refl
digit_in false u l e h = absurd cc

fewer : (m n : ℕ) (o : Option Piece) → m ≤ n → MovesIf m o → MovesIf n o
fewer m n o h f = record { some = λ x e. let k = f.some x e in record { shorter = omega (arith, k.shorter); line = λ l. omega (arith, k.line l) } }

fresh_marker : (fresh : Bool) (text : List ℕ) → MovesIf (suc (length text)) (cond fresh (marker text) None)
fresh_marker true text = moves_marker text
fresh_marker false text = if_none _

white_line : (t : Bool) (l n : ℕ) → cond t (l + 1) l + n ≤ max l 2147483647 + suc n
white_line true l n = omega arith
white_line false l n = omega arith

pub moves_stands : (fresh : Bool) (text : List ℕ) → Moves (length text) (stands fresh text)
unfolding stands
moves_stands fresh [] = record { here = λ x e. absurd cc; bad = λ f e. absurd cc }
moves_stands fresh (b ∷ bs) =
    either (is_white b) (λ h. moves_here _ _ (record { shorter = omega arith; line = λ l. white_line (nat_eq b 10) l (length bs) })) (λ h0.
    either (is_letter b) (λ h. moves_word (b ∷ bs) (run_some class.Word (b ∷ bs) (omega arith) (letter_in (is_in_range 48 57 b) (is_in_range 65 90 b) (is_in_range 97 122 b) (nat_eq b 95) h))) (λ h1.
    either (is_ascii_digit b) (λ h. moves_or_bad _ _ (omega arith) (moves_number (b ∷ bs) (run_some class.Word (b ∷ bs) (omega arith) (digit_in (is_in_range 48 57 b) (is_in_range 65 90 b) (is_in_range 97 122 b) (nat_eq b 95) h)))) (λ h2.
    either (nat_eq b 39) (λ h. moves_or_bad _ _ (omega arith) (moves_character bs)) (λ h3.
    either (nat_eq b 34) (λ h. moves_or_bad _ _ (omega arith) (moves_string bs)) (λ h4.
    either (nat_eq b 35) (λ h. moves_or_bad _ _ (omega arith) (fresh_marker fresh bs)) (λ h5.
    either (starts_with nat_eq (b ∷ bs) (47 ∷ 47 ∷ [])) (λ h. moves_here _ _ (record { shorter = omega (arith, behind_most class.InLine bs); line = λ l. omega (arith, behind_most class.InLine bs) })) (λ h6.
    either (starts_with nat_eq (b ∷ bs) (47 ∷ 42 ∷ [])) (λ h. moves_or_bad _ _ (omega arith) (fewer (length (drop 1 bs)) _ _ (omega (arith, length-drop 1 bs)) (moves_comment (drop 1 bs)))) (λ h7.
    either ((nat_eq b 46 && begins is_ascii_digit bs) || starts_with nat_eq (b ∷ bs) (37 ∷ 58 ∷ [])) (λ h. moves_bad _ fault.BadToken (omega arith)) (λ h8.
    moves_mark (b ∷ bs) (omega arith))))))))))
