-- What stands at a place of a source as a name is an identifier (C17 6.4.2.1), and so is each name of a table of its tokens.
use Rattle.std.proofs.Common.{◌≡◌, ℕ, suc, ◌-◌, Bool, true, false, ◌&&◌, ◌||◌, cond, List, [], ◌∷◌, ◌++◌, codes, length, take, drop, nat_eq, Option, Some, None, refl, ap, subst}
use Rattle.std.specs.Prelude.{if◌then◌else◌, nat_le}
use Rattle.std.specs.Option.{option_map}
use Rattle.std.specs.List.{list_all, list_any, starts_with}
use Rattle.std.specs.Int.{is_in_range}
use Rattle.std.specs.Char.{is_ascii_digit}
use Rattle.std.specs.Cmp.Lexicographic.{pointwise}
use Rattle.std.proofs.lemmas.Bool.{false≢true, and_from}
use Rattle.pv_script.specs.Words.{is_identifier, is_letter as is_first, is_digit}
use Rattle.pv_typed.specs.Known.{Each}
use Rattle.pv_token.specs.declared.marks.Mark.{Mark}
use Rattle.pv_token.specs.declared.words.Word.{Word}
use Rattle.pv_token.specs.Said.{Said, Name, Text, Keyword, Number, Character, Punctuator, Spelt, as_char}
use Rattle.pv_token.specs.Table.{names_with, names_from}
use Rattle.pv_lex.specs.Bytes.{is_white, is_letter, is_in, run, front, behind, begins, line_feeds}
use Rattle.pv_lex.specs.Tables.{row_of, first_row}
use Rattle.pv_lex.specs.Pieces.{What, White, Comment, Marker, Spelling, Piece, Stand, End, Bad, Here, ◌>>=◌, or_bad, token}
use Rattle.pv_lex.specs.Words.{words, is_wide, is_quote, keyword_or_name, word_at}
use Rattle.pv_lex.specs.Constants.{suffixes, constant_of_value, number_of, constant_of, number_at, value_from}
use Rattle.pv_lex.specs.ConstantParts.{fits_constant}
use Rattle.pv_lex.specs.Characters.{character_at, character_constant, characters, string_literal}
use Rattle.pv_lex.specs.CharacterParts.{closed_character}
use Rattle.pv_lex.specs.Comments.{behind_close, block_comment}
use Rattle.pv_lex.specs.Markers.{some_of, behind_quotes, groups, marker}
use Rattle.pv_lex.specs.MarkerParts.{marker_piece, mark_row}
use Rattle.pv_lex.specs.Marks.{marks, mark_at}
use Rattle.pv_lex.specs.Stands.{stands}
use Rattle.pv_lex.specs.Rows.{Place, Row, tokens_among, spelt_here, behind_piece}

-- what is said as a name is an identifier
abbrev pub IsPlain : Said → Type 0
IsPlain (Keyword w) = Unit {0}
IsPlain (Name text) = is_identifier text ≡ true
IsPlain (Number value decimal unsigned longs) = Unit {0}
IsPlain (Character value) = Unit {0}
IsPlain (Text bytes) = Unit {0}
IsPlain (Punctuator m) = Unit {0}

abbrev IsPlainPiece : What → Type 0
IsPlainPiece (White b) = Unit {0}
IsPlainPiece (Comment n) = Unit {0}
IsPlainPiece (Marker n) = Unit {0}
IsPlainPiece (Spelling s) = IsPlain s

-- so it is with what stands at a place, and with a piece and a token that may be there
record Stood (s : Stand) : Type 0 where
  here : (x : Piece) → s ≡ Here x → IsPlainPiece x.what

record IfPiece (o : Option Piece) : Type 0 where
  some : (x : Piece) → o ≡ Some x → IsPlainPiece x.what

record IfSaid (o : Option Said) : Type 0 where
  some : (s : Said) → o ≡ Some s → IsPlain s

-- ---- parts

stood_here : (x : Piece) → IsPlainPiece x.what → Stood (Here x)
stood_here x h = record { here = λ y e. let k : x ≡ y = cc in subst (λ (z : Piece). IsPlainPiece z.what) k h }

stood_bad : (f : _) → Stood (Bad f)
stood_bad f = record { here = λ x e. absurd cc }

stood_end : Stood End
stood_end = record { here = λ x e. absurd cc }

piece_some : (x : Piece) → IsPlainPiece x.what → IfPiece (Some x)
piece_some x h = record { some = λ y e. let k : x ≡ y = cc in subst (λ (z : Piece). IsPlainPiece z.what) k h }

piece_none : IfPiece None
piece_none = record { some = λ x e. absurd cc }

said_some : (s : Said) → IsPlain s → IfSaid (Some s)
said_some s h = record { some = λ t e. let k : s ≡ t = cc in subst IsPlain k h }

said_none : IfSaid None
said_none = record { some = λ s e. absurd cc }

stood_if : {x y : Stand} (b : Bool) → (b ≡ true → Stood x) → Stood y → Stood (cond b x y)
stood_if true f g = f refl
stood_if false f g = g

piece_if : {x y : Option Piece} (b : Bool) → IfPiece x → IfPiece y → IfPiece (cond b x y)
piece_if true f g = f
piece_if false f g = g

said_if : {x y : Option Said} (b : Bool) → IfSaid x → IfSaid y → IfSaid (cond b x y)
said_if true f g = f
said_if false f g = g

or_stood : (o : Option Piece) → IfPiece o → Stood (or_bad o)
or_stood None h = stood_bad _
or_stood (Some x) h = stood_here x (h.some x refl)

piece_then : {A : Type 0} (o : Option A) (f : A → Option Piece) → ((a : A) → IfPiece (f a)) → IfPiece (o >>= f)
piece_then None f h = piece_none
piece_then (Some a) f h = h a

said_then : {A : Type 0} (o : Option A) (f : A → Option Said) → ((a : A) → IfSaid (f a)) → IfSaid (o >>= f)
said_then None f h = said_none
said_then (Some a) f h = h a

said_piece : (o : Option Said) (after : List ℕ) → IfSaid o → IfPiece (option_map (λ s. token s after) o)
said_piece None after h = piece_none
said_piece (Some s) after h = piece_some (token s after) (h.some s refl)

mapped : {A : Type 0} (o : Option A) (f : A → Piece) → ((a : A) → IsPlainPiece (f a).what) → IfPiece (option_map f o)
mapped None f h = piece_none
mapped (Some a) f h = piece_some (f a) (h a)

-- ---- constants, literals, comments, markers, punctuators

number_said : (base : ℕ) (digits suffix : List ℕ) → IfSaid (number_of base digits suffix)
unfolding number_of
number_said base [] suffix = said_none
number_said base (d ∷ ds) suffix = said_then (row_of suffixes suffix) (constant_of_value base (value_from base 0 (d ∷ ds))) (λ s. said_if (fits_constant base (value_from base 0 (d ∷ ds)) s) (said_some _ tt) said_none)

-- The enum of classes of bytes is the lexer's own, so `_` stands for it in what follows.
constant_for : (h o d : _) (text : List ℕ) → IfSaid (if starts_with nat_eq text (codes "0x") || starts_with nat_eq text (codes "0X") then number_of 16 (front h (drop 2 text)) (behind h (drop 2 text))
    else (if begins (λ b. nat_eq b 48) text then number_of 8 (front o text) (behind o text) else number_of 10 (front d text) (behind d text)))
constant_for h o d text =
    said_if (starts_with nat_eq text (codes "0x") || starts_with nat_eq text (codes "0X")) (number_said 16 (front h (drop 2 text)) (behind h (drop 2 text)))
    (said_if (begins (λ b. nat_eq b 48) text) (number_said 8 (front o text) (behind o text)) (number_said 10 (front d text) (behind d text)))

constant_said : (text : List ℕ) → IfSaid (constant_of text)
unfolding constant_of
constant_said text = constant_for _ _ _ text

number_for : (k : _) (text : List ℕ) → IfPiece (if begins (λ b. nat_eq b 46) (behind k text) then None else option_map (λ s. token s (behind k text)) (constant_of (front k text)))
number_for k text = piece_if (begins (λ b. nat_eq b 46) (behind k text)) piece_none (said_piece (constant_of (front k text)) (behind k text) (constant_said (front k text)))

number_stood : (text : List ℕ) → IfPiece (number_at text)
unfolding number_at
number_stood text = number_for _ text

character_stood : (text : List ℕ) → IfPiece (character_constant text)
unfolding character_constant
character_stood text = piece_then (character_at 39 text) closed_character (λ x. piece_if (begins (λ b. nat_eq b 39) x.1) (piece_some (token (Character (as_char x.0)) (drop 1 x.1)) tt) piece_none)

string_stood : (text : List ℕ) → IfPiece (string_literal text)
unfolding string_literal
string_stood text = mapped (characters (length text) text) (λ x. token (Text x.0) x.1) (λ x. tt)

comment_stood : (text : List ℕ) → IfPiece (block_comment text)
unfolding block_comment
comment_stood text = mapped (behind_close text) (λ after. record { what = Comment (line_feeds text - line_feeds after); after = after }) (λ after. tt)

number_marked : (digits after : List ℕ) → IfPiece (marker_piece digits after)
number_marked digits after =
    piece_if (nat_le (length digits) 10 && nat_le (value_from 10 0 digits) 2147483647) (piece_some (record { what = Marker (value_from 10 0 digits); after = after }) tt) piece_none

marker_for : (k d : _) (text : List ℕ) → IfPiece (some_of k text >>= λ a. some_of d a.1 >>= λ n. some_of k n.1 >>= λ b. behind_quotes b.1 >>= λ name. groups (length name) name >>= λ after. marker_piece n.0 after)
marker_for k d text =
    piece_then (some_of k text) (λ a. some_of d a.1 >>= λ n. some_of k n.1 >>= λ b. behind_quotes b.1 >>= λ name. groups (length name) name >>= λ after. marker_piece n.0 after) (λ a.
    piece_then (some_of d a.1) (λ n. some_of k n.1 >>= λ b. behind_quotes b.1 >>= λ name. groups (length name) name >>= λ after. marker_piece n.0 after) (λ n.
    piece_then (some_of k n.1) (λ b. behind_quotes b.1 >>= λ name. groups (length name) name >>= λ after. marker_piece n.0 after) (λ b.
    piece_then (behind_quotes b.1) (λ name. groups (length name) name >>= λ after. marker_piece n.0 after) (λ name.
    piece_then (groups (length name) name) (λ after. marker_piece n.0 after) (λ after. number_marked n.0 after)))))

marker_stood : (text : List ℕ) → IfPiece (marker text)
unfolding marker
marker_stood text = marker_for _ _ text

fresh_stood : (fresh : Bool) (text : List ℕ) → IfPiece (cond fresh (marker text) None)
fresh_stood true text = marker_stood text
fresh_stood false text = piece_none

row_stood : (text : List ℕ) (o : Option (List ℕ × Mark)) → Stood (mark_row text o)
row_stood text None = stood_bad _
row_stood text (Some r) = stood_here _ tt

mark_stood : (text : List ℕ) → Stood (mark_at text)
unfolding mark_at
mark_stood text = row_stood text (first_row marks text)

-- ---- words

letter_first : (u l e : Bool) → ((u || l) || e) ≡ true → (l || (u || e)) ≡ true
letter_first true true e h = refl
letter_first true false e h = refl
letter_first false true e h = refl
letter_first false false e h = h

word_next : (d u l e : Bool) → (((d || u) || l) || e) ≡ true → ((l || (u || e)) || d) ≡ true
word_next d u true e h = refl
word_next d true false e h = refl
word_next true false false true h = refl
word_next true false false false h = refl
word_next false false false e h = ap (λ b. b || false) h

run_all : (k : _) (p : ℕ → Bool) (text : List ℕ) → ((c : ℕ) → is_in k c ≡ true → p c ≡ true) → list_all p (front k text) ≡ true
unfolding run
run_all k p [] in_class = refl
run_all k p (b ∷ bs) in_class = by (is_in k b) refl (run_all k p bs in_class)
  where
    by : (t : Bool) → is_in k b ≡ t → list_all p (front k bs) ≡ true → list_all p (take (cond t (suc (run k bs)) 0) (b ∷ bs)) ≡ true
    by true e h = and_from (p b) _ (in_class b e) h
    by false e h = refl

front_identifier : (k : _) (b : ℕ) (bs : List ℕ) → ((c : ℕ) → is_in k c ≡ true → (is_first c || is_digit c) ≡ true) → is_in k b ≡ true → is_first b ≡ true → is_identifier (front k (b ∷ bs)) ≡ true
unfolding run
front_identifier k b bs in_class here first = by (is_in k b) here (run_all k (λ c. is_first c || is_digit c) (b ∷ bs) in_class)
  where
    by : (t : Bool) → t ≡ true → list_all (λ c. is_first c || is_digit c) (take (cond t (suc (run k bs)) 0) (b ∷ bs)) ≡ true → is_identifier (take (cond t (suc (run k bs)) 0) (b ∷ bs)) ≡ true
    by true e h = and_from (is_first b) _ first h
    by false e h = absurd (false≢true e)

letter_in : (d u l e : Bool) → ((u || l) || e) ≡ true → (((d || u) || l) || e) ≡ true
letter_in true u l e h = refl
letter_in false u l e h = h

keyword_stood : (word after : List ℕ) (o : Option (Option Word)) → is_identifier word ≡ true → Stood (keyword_or_name word after o)
keyword_stood word after None h = stood_here _ h
keyword_stood word after (Some None) h = stood_bad _
keyword_stood word after (Some (Some w)) h = stood_here _ tt

word_for : (k f : _) (text : List ℕ) → is_identifier (front k text) ≡ true
    → Stood (if is_wide (front k text) && begins is_quote (behind k text) then Bad f else keyword_or_name (front k text) (behind k text) (row_of words (front k text)))
word_for k f text h = stood_if (is_wide (front k text) && begins is_quote (behind k text)) (λ e. stood_bad f) (keyword_stood (front k text) (behind k text) (row_of words (front k text)) h)

word_stood : (b : ℕ) (bs : List ℕ) → is_letter b ≡ true → Stood (word_at (b ∷ bs))
unfolding word_at
word_stood b bs letter =
    word_for _ _ (b ∷ bs)
    (front_identifier _ b bs (λ c e. word_next (is_in_range 48 57 c) (is_in_range 65 90 c) (is_in_range 97 122 c) (nat_eq c 95) e)
    (letter_in (is_in_range 48 57 b) (is_in_range 65 90 b) (is_in_range 97 122 b) (nat_eq b 95) letter)
    (letter_first (is_in_range 65 90 b) (is_in_range 97 122 b) (nat_eq b 95) letter))

-- ---- all that may stand

all_stood : (fresh : Bool) (text : List ℕ) → Stood (stands fresh text)
unfolding stands
all_stood fresh [] = stood_end
all_stood fresh (b ∷ bs) =
    stood_if (is_white b) (λ e. stood_here _ tt) (stood_if (is_letter b) (λ e. word_stood b bs e) (stood_if (is_ascii_digit b) (λ e. or_stood (number_at (b ∷ bs)) (number_stood (b ∷ bs)))
    (stood_if (nat_eq b 39) (λ e. or_stood (character_constant bs) (character_stood bs)) (stood_if (nat_eq b 34) (λ e. or_stood (string_literal bs) (string_stood bs))
    (stood_if (nat_eq b 35) (λ e. or_stood (cond fresh (marker bs) None) (fresh_stood fresh bs)) (stood_if (starts_with nat_eq (b ∷ bs) (codes "//")) (λ e. stood_here _ tt)
    (stood_if (starts_with nat_eq (b ∷ bs) (codes "/*")) (λ e. or_stood (block_comment (drop 1 bs)) (comment_stood (drop 1 bs)))
    (stood_if ((nat_eq b 46 && begins is_ascii_digit bs) || starts_with nat_eq (b ∷ bs) (codes "%:")) (λ e. stood_bad _) (mark_stood (b ∷ bs))))))))))

-- ---- the tokens of a source, and their names

each_both : {X : Type 0} (P : X → Type 0) (xs ys : List X) → Each P xs → Each P ys → Each P (xs ++ ys)
each_both P [] ys h g = g
each_both P (x ∷ xs) ys h g = (h.0, each_both P xs ys h.1 g)

here_plain : (start line : ℕ) (w : What) → IsPlainPiece w → Each (λ (s : Spelt). IsPlain s.said) (spelt_here start line w)
here_plain start line (White b) h = tt
here_plain start line (Comment n) h = tt
here_plain start line (Marker n) h = tt
here_plain start line (Spelling s) h = (h, tt)

pub spelt_plain : (whole : ℕ) (p q : Place) (xs : List Piece) → Row p xs q → Each (λ (s : Spelt). IsPlain s.said) (tokens_among whole p xs)
spelt_plain whole p q [] h = tt
spelt_plain whole p q (x ∷ xs) h =
    each_both (λ (s : Spelt). IsPlain s.said) (spelt_here _ p.line x.what) (tokens_among whole (behind_piece x p) xs)
    (here_plain _ p.line x.what ((all_stood p.fresh p.text).here x h.0)) (spelt_plain whole (behind_piece x p) q xs h.1)

abbrev pub AreIdentifiers : List (List ℕ) → Type 0
AreIdentifiers names = Each (λ (text : List ℕ). is_identifier text ≡ true) names

named_with : (names : List (List ℕ)) (s : Said) → AreIdentifiers names → IsPlain s → AreIdentifiers (names_with names s)
named_with names (Keyword w) h p = h
named_with names (Name text) h p = by (list_any (pointwise nat_eq text) names)
  where
    by : (b : Bool) → AreIdentifiers (cond b names (names ++ text ∷ []))
    by true = h
    by false = each_both (λ (t : List ℕ). is_identifier t ≡ true) names (text ∷ []) h (p, tt)
named_with names (Number v d u l) h p = h
named_with names (Character v) h p = h
named_with names (Text bytes) h p = h
named_with names (Punctuator m) h p = h

pub named_from : (names : List (List ℕ)) (ss : List Spelt) → AreIdentifiers names → Each (λ (s : Spelt). IsPlain s.said) ss → AreIdentifiers (names_from names ss)
named_from names [] h p = h
named_from names (s ∷ ss) h p = named_from (names_with names s.said) ss (named_with names s.said h p.0) p.1
