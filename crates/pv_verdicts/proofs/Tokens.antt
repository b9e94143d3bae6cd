-- Each name of a source is an identifier (C17 6.4.2.1), as a script reads it, and so none is the name of allocations.
use Rattle.std.proofs.Common.{◌≡◌, ℕ, zero, suc, ◌-◌, Bool, true, false, ◌&&◌, ◌||◌, List, [], ◌∷◌, ◌++◌, length, take, drop, Option, Some, None, refl, sym, subst}
use Rattle.std.specs.Prelude.{cond, if◌then◌else◌, nat_eq, nat_le, option_map, codes}
use Rattle.std.specs.List.{list_all, list_any, starts_with}
use Rattle.std.specs.Char.{is_ascii_digit, is_ascii_alphanumeric}
use Rattle.std.specs.Int.{is_in_range}
use Rattle.std.specs.Cmp.Lexicographic.{pointwise}
use Rattle.pv_token.specs.declared.words.Word.{Word}
use Rattle.pv_token.specs.declared.marks.Mark.{Mark}
use Rattle.pv_token.specs.Said.{Said, Keyword, Name, Number, Character, Text, Punctuator, Spelt}
use Rattle.pv_token.specs.Table.{Table, names_with, names_from}
use Rattle.pv_typed.specs.Mains.{literal_text, heap_text}
use Rattle.pv_lex.specs.Bytes.{is_white, is_letter, is_in, underscore, run, front, behind, begins, full_stop, single_quote, double_quote, number_sign, zero_digit}
use Rattle.pv_lex.specs.Tables.{row_of, first_row}
use Rattle.pv_lex.specs.Pieces.{What, White, Comment, Marker, Spelling, Piece, Stand, End, Bad, Here, ◌>>=◌, or_bad, token}
use Rattle.pv_lex.specs.Words.{keyword_or_name, word_at, is_wide, is_quote, words as keywords}
use Rattle.pv_lex.specs.Constants.{suffixes, constant_of_value, number_of, constant_of, number_at, value_from}
use Rattle.pv_lex.specs.ConstantParts.{fits_constant}
use Rattle.pv_lex.specs.Characters.{character_at, character_constant, characters, string_literal}
use Rattle.pv_lex.specs.CharacterParts.{closed_character}
use Rattle.pv_lex.specs.Comments.{behind_close, block_comment}
use Rattle.pv_lex.specs.Markers.{some_of, behind_quotes, groups, marker}
use Rattle.pv_lex.specs.MarkerParts.{marker_piece, mark_row}
use Rattle.pv_lex.specs.Marks.{marks, mark_at}
use Rattle.pv_lex.specs.Stands.{stands}
use Rattle.pv_lex.specs.Rows.{Place, start, behind_piece, Row, spelt_here, tokens_among}
use Rattle.pv_lex.specs.Lexes.{Lexes}
use Rattle.pv_script.specs.Names.{name_at}
use Rattle.pv_script.specs.Words as words
use Rattle.pv_verdicts.specs.Own.{OwnNames}

-- the text is an identifier
abbrev pub IsText : List ℕ → Type 0
IsText text = words.is_identifier text ≡ true

-- that of a name is one; of other tokens nothing is asked
abbrev Plain : Said → Type 0
Plain (Name text) = IsText text
Plain (Keyword w) = Unit {0}
Plain (Number value decimal unsigned longs) = Unit {0}
Plain (Character value) = Unit {0}
Plain (Text bytes) = Unit {0}
Plain (Punctuator m) = Unit {0}

abbrev PlainWhat : What → Type 0
PlainWhat (White b) = Unit {0}
PlainWhat (Comment n) = Unit {0}
PlainWhat (Marker n) = Unit {0}
PlainWhat (Spelling s) = Plain s

abbrev PlainSaid : Option Said → Type 0
PlainSaid None = Unit {0}
PlainSaid (Some s) = Plain s

abbrev PlainPiece : Option Piece → Type 0
PlainPiece None = Unit {0}
PlainPiece (Some x) = PlainWhat x.what

abbrev PlainStand : Stand → Type 0
PlainStand End = Unit {0}
PlainStand (Bad f) = Unit {0}
PlainStand (Here x) = PlainWhat x.what

-- the same, each as a fact of its own
record IsSaid (o : Option Said) : Type 0 where
  pub held : PlainSaid o

record IsPiece (o : Option Piece) : Type 0 where
  pub held : PlainPiece o

record IsStand (s : Stand) : Type 0 where
  pub held : PlainStand s

-- ---- words

-- the bytes of words, by which of four classes a byte is of: digits, capitals, small letters, `_`
letter_of : (u l n : Bool) → ((u || l) || n) ≡ true → (l || (u || n)) ≡ true
letter_of u true n e = refl
letter_of true false n e = refl
letter_of false false n e = e

word_of : (d u l n : Bool) → (((d || u) || l) || n) ≡ true → ((l || (u || n)) || d) ≡ true
word_of d u true n e = refl
word_of d true false n e = refl
word_of d false false true e = refl
word_of true false false false e = refl
word_of false false false false e = e

first_of : (d u l n : Bool) → ((u || l) || n) ≡ true → (((d || u) || l) || n) ≡ true
first_of true u l n e = refl
first_of false u l n e = e

abbrev word_byte : ℕ → Bool
word_byte c = words.is_letter c || words.is_digit c

abbrev lexer_byte : ℕ → Bool
lexer_byte c = is_ascii_alphanumeric c || nat_eq c underscore

letter_same : (c : ℕ) → is_letter c ≡ true → words.is_letter c ≡ true
letter_same c = letter_of (is_in_range 65 90 c) (is_in_range 97 122 c) (nat_eq c underscore)

byte_same : (c : ℕ) → lexer_byte c ≡ true → word_byte c ≡ true
byte_same c = word_of (is_in_range 48 57 c) (is_in_range 65 90 c) (is_in_range 97 122 c) (nat_eq c underscore)

letter_byte : (c : ℕ) → is_letter c ≡ true → lexer_byte c ≡ true
letter_byte c = first_of (is_in_range 48 57 c) (is_in_range 65 90 c) (is_in_range 97 122 c) (nat_eq c underscore)

both : (a b : Bool) → a ≡ true → b ≡ true → (a && b) ≡ true
both true b e g = g
both false b e g = absurd cc

-- of whatever class the bytes are
run_words : (k : _) (bs : List ℕ) → ((c : ℕ) → is_in k c ≡ true → word_byte c ≡ true) → list_all word_byte (take (run k bs) bs) ≡ true
unfolding run
run_words k [] f = refl
run_words k (b ∷ bs) f = here (is_in k b) (f b) (run_words k bs f)
  where
    here : (x : Bool) → (x ≡ true → word_byte b ≡ true) → list_all word_byte (take (run k bs) bs) ≡ true → list_all word_byte (take (cond x (suc (run k bs)) 0) (b ∷ bs)) ≡ true
    here true g h = both (word_byte b) (list_all word_byte (take (run k bs) bs)) (g refl) h
    here false g h = refl

front_text : (k : _) (b : ℕ) (bs : List ℕ) → ((c : ℕ) → is_in k c ≡ true → word_byte c ≡ true) → is_in k b ≡ true → is_letter b ≡ true → IsText (front k (b ∷ bs))
unfolding run
front_text k b bs f e l =
    let rest = run_words k bs f in
    let all = both (word_byte b) (list_all word_byte (take (run k bs) bs)) (f b e) rest in
    let text : IsText (b ∷ take (run k bs) bs) = both (words.is_letter b) (list_all word_byte (b ∷ take (run k bs) bs)) (letter_same b l) all in
    subst (λ x. IsText (take (cond x (suc (run k bs)) 0) (b ∷ bs))) (sym e) text

word_plain : (word after : List ℕ) (o : Option (Option Word)) → IsText word → IsStand (keyword_or_name word after o)
word_plain word after None h = record { held = h }
word_plain word after (Some None) h = record { held = tt }
word_plain word after (Some (Some w)) h = record { held = tt }

stand_if : (b : Bool) (x y : Stand) → IsStand x → IsStand y → IsStand (if b then x else y)
stand_if true x y h g = h
stand_if false x y h g = g

stand_when : (b : Bool) (x y : Stand) → (b ≡ true → IsStand x) → IsStand y → IsStand (if b then x else y)
stand_when true x y h g = h refl
stand_when false x y h g = g

bad_stand : (f : _) → IsStand (Bad f)
bad_stand f = record { held = tt }

word_of_class : (k : _) (b : ℕ) (bs : List ℕ) (x : Stand) → IsStand x → ((c : ℕ) → is_in k c ≡ true → word_byte c ≡ true) → is_in k b ≡ true → is_letter b ≡ true
    → IsStand (if is_wide (front k (b ∷ bs)) && begins is_quote (behind k (b ∷ bs)) then x else keyword_or_name (front k (b ∷ bs)) (behind k (b ∷ bs)) (row_of keywords (front k (b ∷ bs))))
word_of_class k b bs x h f e l =
    let text = front k (b ∷ bs) in
    stand_if (is_wide text && begins is_quote (behind k (b ∷ bs))) x _ h (word_plain text (behind k (b ∷ bs)) (row_of keywords text) (front_text k b bs f e l))

word_stand : (b : ℕ) (bs : List ℕ) → is_letter b ≡ true → IsStand (word_at (b ∷ bs))
unfolding word_at
word_stand b bs l = word_of_class _ b bs _ (bad_stand _) byte_same (letter_byte b l) l

-- ---- constants

said_if : (b : Bool) (o p : Option Said) → IsSaid o → IsSaid p → IsSaid (if b then o else p)
said_if true o p h g = h
said_if false o p h g = g

said_then : {A : Type 0} (o : Option A) (f : A → Option Said) → ((a : A) → IsSaid (f a)) → IsSaid (o >>= f)
said_then None f h = record { held = tt }
said_then (Some a) f h = h a

number_plain : (base : ℕ) (digits suffix : List ℕ) → IsSaid (number_of base digits suffix)
unfolding number_of
number_plain base [] suffix = record { held = tt }
number_plain base (d ∷ ds) suffix =
    let v = value_from base 0 (d ∷ ds) in
    said_then (row_of suffixes suffix) (constant_of_value base v) (λ s. said_if (fits_constant base v s) (Some _) None (record { held = tt }) (record { held = tt }))

constant_plain : (text : List ℕ) → IsSaid (constant_of text)
unfolding constant_of
constant_plain text =
    said_if (starts_with nat_eq text (codes "0x") || starts_with nat_eq text (codes "0X")) _ _ (number_plain 16 _ _)
    (said_if (begins (λ b. nat_eq b zero_digit) text) _ _ (number_plain 8 _ _) (number_plain 10 _ _))

piece_if : (b : Bool) (o p : Option Piece) → IsPiece o → IsPiece p → IsPiece (if b then o else p)
piece_if true o p h g = h
piece_if false o p h g = g

piece_then : {A : Type 0} (o : Option A) (f : A → Option Piece) → ((a : A) → IsPiece (f a)) → IsPiece (o >>= f)
piece_then None f h = record { held = tt }
piece_then (Some a) f h = h a

piece_map : {A : Type 0} (o : Option A) (f : A → Piece) → ((a : A) → PlainWhat (f a).what) → IsPiece (option_map f o)
piece_map None f h = record { held = tt }
piece_map (Some a) f h = record { held = h a }

said_piece : (o : Option Said) (after : List ℕ) → IsSaid o → IsPiece (option_map (λ s. token s after) o)
said_piece None after h = record { held = tt }
said_piece (Some s) after h = record { held = h.held }

bad_plain : (o : Option Piece) → IsPiece o → IsStand (or_bad o)
bad_plain None h = record { held = tt }
bad_plain (Some x) h = record { held = h.held }

-- of whatever class the bytes are
number_of_class : (k : _) (text : List ℕ) → IsPiece (if begins (λ b. nat_eq b full_stop) (behind k text) then None else option_map (λ s. token s (behind k text)) (constant_of (front k text)))
number_of_class k text = piece_if (begins (λ b. nat_eq b full_stop) (behind k text)) None _ (record { held = tt }) (said_piece (constant_of (front k text)) (behind k text) (constant_plain (front k text)))

number_piece : (text : List ℕ) → IsPiece (number_at text)
unfolding number_at
number_piece text = number_of_class _ text

character_piece : (text : List ℕ) → IsPiece (character_constant text)
unfolding character_constant
character_piece text = piece_then (character_at single_quote text) closed_character (λ x. piece_if (begins (λ b. nat_eq b single_quote) x.1) (Some _) None (record { held = tt }) (record { held = tt }))

string_piece : (text : List ℕ) → IsPiece (string_literal text)
unfolding string_literal
string_piece text = piece_map (characters (length text) text) (λ x. token (Text x.0) x.1) (λ x. tt)

-- ---- comments, markers, punctuators

comment_piece : (text : List ℕ) → IsPiece (block_comment text)
unfolding block_comment
comment_piece text = piece_map (behind_close text) _ (λ x. tt)

marker_plain : (digits after : List ℕ) → IsPiece (marker_piece digits after)
marker_plain digits after = piece_if (nat_le (length digits) 10 && nat_le (value_from 10 0 digits) 2147483647) (Some _) None (record { held = tt }) (record { held = tt })

marker_of_class : (k m : _) (text : List ℕ)
    → IsPiece (some_of k text >>= λ a. some_of m a.1 >>= λ n. some_of k n.1 >>= λ b. behind_quotes b.1 >>= λ name. groups (length name) name >>= λ after. marker_piece n.0 after)
marker_of_class k m text =
    piece_then (some_of k text) _ (λ a. piece_then (some_of m a.1) _ (λ n. piece_then (some_of k n.1) _ (λ b. piece_then (behind_quotes b.1) _ (λ name. piece_then (groups (length name) name) _ (λ after. marker_plain n.0 after)))))

marker_stand : (text : List ℕ) → IsPiece (marker text)
unfolding marker
marker_stand text = marker_of_class _ _ text

row_plain : (text : List ℕ) (o : Option (List ℕ × Mark)) → IsStand (mark_row text o)
row_plain text None = record { held = tt }
row_plain text (Some r) = record { held = tt }

mark_stand : (text : List ℕ) → IsStand (mark_at text)
unfolding mark_at
mark_stand text = row_plain text (first_row marks text)

-- what stands at any place
stand_plain : (fresh : Bool) (text : List ℕ) → IsStand (stands fresh text)
unfolding stands
stand_plain fresh [] = record { held = tt }
stand_plain fresh (b ∷ bs) =
    stand_if (is_white b) _ _ (record { held = tt })
    (stand_when (is_letter b) _ _ (word_stand b bs)
    (stand_if (is_ascii_digit b) _ _ (bad_plain (number_at (b ∷ bs)) (number_piece (b ∷ bs)))
    (stand_if (nat_eq b single_quote) _ _ (bad_plain (character_constant bs) (character_piece bs))
    (stand_if (nat_eq b double_quote) _ _ (bad_plain (string_literal bs) (string_piece bs))
    (stand_if (nat_eq b number_sign) _ _ (bad_plain (if fresh then marker bs else None) (piece_if fresh (marker bs) None (marker_stand bs) (record { held = tt })))
    (stand_if (starts_with nat_eq (b ∷ bs) (codes "//")) _ _ (record { held = tt })
    (stand_if (starts_with nat_eq (b ∷ bs) (codes "/*")) _ _ (bad_plain (block_comment (drop 1 bs)) (comment_piece (drop 1 bs)))
    (stand_if ((nat_eq b full_stop && begins is_ascii_digit bs) || starts_with nat_eq (b ∷ bs) (codes "%:")) _ _ (record { held = tt }) (mark_stand (b ∷ bs))))))))))

-- ---- the table's names

abbrev pub AllTexts : List (List ℕ) → Type 0
AllTexts [] = Unit {0}
AllTexts (x ∷ xs) = IsText x × AllTexts xs

abbrev AllPlain : List Spelt → Type 0
AllPlain [] = Unit {0}
AllPlain (s ∷ ss) = Plain s.said × AllPlain ss

plain_append : (xs ys : List Spelt) → AllPlain xs → AllPlain ys → AllPlain (xs ++ ys)
plain_append [] ys h g = g
plain_append (x ∷ xs) ys h g = (h.0, plain_append xs ys h.1 g)

texts_append : (xs ys : List (List ℕ)) → AllTexts xs → AllTexts ys → AllTexts (xs ++ ys)
texts_append [] ys h g = g
texts_append (x ∷ xs) ys h g = (h.0, texts_append xs ys h.1 g)

name_text : (b : Bool) (names : List (List ℕ)) (text : List ℕ) → AllTexts names → IsText text → AllTexts (if b then names else names ++ text ∷ [])
name_text true names text h g = h
name_text false names text h g = texts_append names (text ∷ []) h (g, tt)

said_text : (names : List (List ℕ)) (s : Said) → AllTexts names → Plain s → AllTexts (names_with names s)
said_text names (Name text) h g = name_text (list_any (pointwise nat_eq text) names) names text h g
said_text names (Keyword w) h g = h
said_text names (Number value decimal unsigned longs) h g = h
said_text names (Character value) h g = h
said_text names (Text bytes) h g = h
said_text names (Punctuator m) h g = h

from_texts : (names : List (List ℕ)) (ss : List Spelt) → AllTexts names → AllPlain ss → AllTexts (names_from names ss)
from_texts names [] h g = h
from_texts names (s ∷ ss) h g = from_texts (names_with names s.said) ss (said_text names s.said h g.0) g.1

here_plain : (start line : ℕ) (w : What) → PlainWhat w → AllPlain (spelt_here start line w)
here_plain start line (White b) h = tt
here_plain start line (Comment n) h = tt
here_plain start line (Marker n) h = tt
here_plain start line (Spelling s) h = (h, tt)

row_spelt : (whole : ℕ) (p q : Place) (xs : List Piece) → Row p xs q → AllPlain (tokens_among whole p xs)
row_spelt whole p q [] h = tt
row_spelt whole p q (x ∷ xs) h =
    let what : PlainWhat x.what = subst PlainStand h.0 (stand_plain p.fresh p.text).held in
    plain_append (spelt_here (whole - length p.text) p.line x.what) (tokens_among whole (behind_piece x p) xs) (here_plain (whole - length p.text) p.line x.what what) (row_spelt whole (behind_piece x p) q xs h.1)

pub lexed_texts : (source : List ℕ) (t : Table) → Lexes source t → AllTexts t.names
lexed_texts source t h =
    let ss = tokens_among (length source) (start source) h.pieces in
    subst AllTexts (sym h.tells.names) (from_texts [] ss tt (row_spelt (length source) (start source) h.last h.pieces h.row))

-- the unit's names
not_heap : (text : List ℕ) → IsText text → text ≡ heap_text → ⊥
not_heap text h e = let no : false ≡ true = subst IsText e h in absurd cc

other_at : (names : List (List ℕ)) (i : ℕ) → AllTexts names → name_at names i ≡ heap_text → ⊥
other_at [] i h e = absurd cc
other_at (x ∷ xs) zero h e = not_heap x h.0 e
other_at (x ∷ xs) (suc i) h e = other_at xs i h.1 e

own_of : (names : List (List ℕ)) → AllTexts names → OwnNames (literal_text ∷ heap_text ∷ names)
own_of names h zero e = absurd cc
own_of names h (suc zero) e = refl
own_of names h (suc (suc i)) e = absurd (other_at names i h e)

pub lexed_own : (source : List ℕ) (t : Table) → Lexes source t → OwnNames (literal_text ∷ heap_text ∷ t.names)
lexed_own source t h = own_of t.names (lexed_texts source t h)
