-- What stands at a place of a source as a character constant is an `int` (C17 6.4.4.4p10), and what stands there as a string literal is of
-- bytes (6.4.5p6); so it is with each token of a table of its tokens.
use Rattle.std.proofs.Common.{◌≡◌, ℕ, zero, suc, ◌<◌, ◌≤◌, ◌+◌, ◌-◌, pos, Bool, true, false, ◌&&◌, ◌||◌, cond, List, [], ◌∷◌, ◌++◌, codes, length, take, drop, min, nat_eq, Option, Some, None, refl, ap, subst, arith, length-append}
use Rattle.std.specs.Prelude.{if◌then◌else◌, nat_le, nat_lt, ◌-ℤ◌, ◌≤ℤ◌}
use Rattle.std.specs.Option.{option_map}
use Rattle.std.specs.List.{starts_with}
use Rattle.std.specs.Char.{is_ascii_digit}
use Rattle.std.specs.Cmp.Lexicographic.{pointwise}
use Rattle.std.proofs.lemmas.Bool.{ltb-true}
use Rattle.std.proofs.lemmas.Int.{ints}
use Rattle.pv_num.specs.declared.kinds.IntKind.TheVariants.{Int}
use Rattle.pv_num.specs.Kinds.{Fits, least_member, greatest_member}
use Rattle.pv_token.specs.declared.marks.Mark.{Mark}
use Rattle.pv_token.specs.declared.words.Word.{Word}
use Rattle.pv_token.specs.Said.{Said, Name, Text, Keyword, Number, Character, Punctuator, Spelt, as_char}
use Rattle.pv_token.specs.Table.{Table}
use Rattle.pv_token.specs.TableParts.{texts_of}
use Rattle.pv_tree.specs.Syntax.{DeclarationTree}
use Rattle.pv_lex.specs.Bytes.{is_white, is_letter, run, front, behind, begins, line_feeds}
use Rattle.pv_lex.specs.Tables.{row_of, first_row}
use Rattle.pv_lex.specs.Pieces.{What, White, Comment, Marker, Spelling, Piece, Stand, End, Bad, Here, ◌>>=◌, or_bad, token}
use Rattle.pv_lex.specs.Words.{words, is_wide, is_quote, keyword_or_name, word_at}
use Rattle.pv_lex.specs.Constants.{suffixes, constant_of_value, number_of, constant_of, number_at, value_from}
use Rattle.pv_lex.specs.ConstantParts.{fits_constant}
use Rattle.pv_lex.specs.Characters.{escapes, character_by_number, escape_at, character_at, character_constant, characters, string_literal}
use Rattle.pv_lex.specs.CharacterParts.{closed_character}
use Rattle.pv_lex.specs.Comments.{behind_close, block_comment}
use Rattle.pv_lex.specs.Markers.{some_of, behind_quotes, groups, marker}
use Rattle.pv_lex.specs.MarkerParts.{marker_piece, mark_row}
use Rattle.pv_lex.specs.Marks.{marks, mark_at}
use Rattle.pv_lex.specs.Stands.{stands}
use Rattle.pv_lex.specs.Rows.{Place, start, Row, tokens_among, spelt_here, behind_piece}
use Rattle.pv_lex.proofs.Wholes.{takes_piece}
use Rattle.pv_typed.specs.Known.{Each}
use Rattle.pv_typed.specs.TypedUnits.{WholeUnit}
use Rattle.pv_typed.proofs.Each.{each_append, each_right}
use Rattle.pv_guards.specs.TypedStatements.{IsTypedUnit}
use Rattle.pv_well_typed.specs.Checked.{IsChecked}
use Rattle.pv_well_typed.proofs.Sources.{AreBytes, letters, IsSourceToken}
use Rattle.pv_well_typed.proofs.SourceTokens.{typed-source}

-- what is said where so many bytes are left, with so many left behind it: a character constant is an `int`, and a string literal is of bytes,
-- of which there are no more than it takes
abbrev IsFromSaid : (n after : ℕ) → Said → Type 0
IsFromSaid n after (Keyword w) = Unit {0}
IsFromSaid n after (Name text) = Unit {0}
IsFromSaid n after (Number value decimal unsigned longs) = Unit {0}
IsFromSaid n after (Character value) = Fits Int value
IsFromSaid n after (Text bytes) = AreBytes bytes × (length bytes + after ≤ n)
IsFromSaid n after (Punctuator m) = Unit {0}

abbrev IsFromWhat : (n after : ℕ) → What → Type 0
IsFromWhat n after (White b) = Unit {0}
IsFromWhat n after (Comment k) = Unit {0}
IsFromWhat n after (Marker k) = Unit {0}
IsFromWhat n after (Spelling s) = IsFromSaid n after s

abbrev IsFrom : ℕ → Piece → Type 0
IsFrom n x = IsFromWhat n (length x.after) x.what

-- so it is with what stands at a place, and with a piece and a token that may be there
record Stood (n : ℕ) (s : Stand) : Type 0 where
  here : (x : Piece) → s ≡ Here x → IsFrom n x

record IfPiece (n : ℕ) (o : Option Piece) : Type 0 where
  some : (x : Piece) → o ≡ Some x → IsFrom n x

record IfSaid (o : Option Said) : Type 0 where
  some : (s : Said) → o ≡ Some s → (n after : ℕ) → IsFromSaid n after s

-- a character with what is left behind it, less than so many bytes; the characters of a string literal
record IfCharacter (n : ℕ) (o : Option (ℕ × List ℕ)) : Type 0 where
  some : (x : ℕ × List ℕ) → o ≡ Some x → (x.0 < 256) × AreBytes x.1 × (length x.1 < n)

record IfText (n : ℕ) (o : Option (List ℕ × List ℕ)) : Type 0 where
  some : (x : List ℕ × List ℕ) → o ≡ Some x → AreBytes x.0 × (length x.0 + length x.1 ≤ n)

-- ---- parts

stood-here : {n : ℕ} (x : Piece) → IsFrom n x → Stood n (Here x)
stood-here {n} x h = record { here = λ y e. let k : x ≡ y = cc in subst (λ (z : Piece). IsFrom n z) k h }

stood-bad : {n : ℕ} (f : _) → Stood n (Bad f)
stood-bad f = record { here = λ x e. absurd cc }

stood-end : {n : ℕ} → Stood n End
stood-end = record { here = λ x e. absurd cc }

piece-some : {n : ℕ} (x : Piece) → IsFrom n x → IfPiece n (Some x)
piece-some {n} x h = record { some = λ y e. let k : x ≡ y = cc in subst (λ (z : Piece). IsFrom n z) k h }

piece-none : {n : ℕ} → IfPiece n None
piece-none = record { some = λ x e. absurd cc }

said-some : (s : Said) → ((n after : ℕ) → IsFromSaid n after s) → IfSaid (Some s)
said-some s h = record { some = λ t e n after. let k : s ≡ t = cc in subst (IsFromSaid n after) k (h n after) }

said-none : IfSaid None
said-none = record { some = λ s e. absurd cc }

character-some : {n : ℕ} (x : ℕ × List ℕ) → (x.0 < 256) × AreBytes x.1 × (length x.1 < n) → IfCharacter n (Some x)
character-some {n} x h = record { some = λ y e. let k : x ≡ y = cc in subst (λ (z : ℕ × List ℕ). (z.0 < 256) × AreBytes z.1 × (length z.1 < n)) k h }

character-none : {n : ℕ} → IfCharacter n None
character-none = record { some = λ x e. absurd cc }

text-some : {n : ℕ} (x : List ℕ × List ℕ) → AreBytes x.0 × (length x.0 + length x.1 ≤ n) → IfText n (Some x)
text-some {n} x h = record { some = λ y e. let k : x ≡ y = cc in subst (λ (z : List ℕ × List ℕ). AreBytes z.0 × (length z.0 + length z.1 ≤ n)) k h }

text-none : {n : ℕ} → IfText n None
text-none = record { some = λ x e. absurd cc }

stood-if : {n : ℕ} {x y : Stand} (b : Bool) → Stood n x → Stood n y → Stood n (cond b x y)
stood-if true f g = f
stood-if false f g = g

piece-if : {n : ℕ} {x y : Option Piece} (b : Bool) → IfPiece n x → IfPiece n y → IfPiece n (cond b x y)
piece-if true f g = f
piece-if false f g = g

said-if : {x y : Option Said} (b : Bool) → IfSaid x → IfSaid y → IfSaid (cond b x y)
said-if true f g = f
said-if false f g = g

character-if : {n : ℕ} {x y : Option (ℕ × List ℕ)} (b : Bool) → IfCharacter n x → IfCharacter n y → IfCharacter n (cond b x y)
character-if true f g = f
character-if false f g = g

text-if : {n : ℕ} {x y : Option (List ℕ × List ℕ)} (b : Bool) → IfText n x → IfText n y → IfText n (cond b x y)
text-if true f g = f
text-if false f g = g

or-stood : {n : ℕ} (o : Option Piece) → IfPiece n o → Stood n (or_bad o)
or-stood None h = stood-bad _
or-stood (Some x) h = stood-here x (h.some x refl)

piece-then : {A : Type 0} {n : ℕ} (o : Option A) (f : A → Option Piece) → ((a : A) → IfPiece n (f a)) → IfPiece n (o >>= f)
piece-then None f h = piece-none
piece-then (Some a) f h = h a

said-then : {A : Type 0} (o : Option A) (f : A → Option Said) → ((a : A) → IfSaid (f a)) → IfSaid (o >>= f)
said-then None f h = said-none
said-then (Some a) f h = h a

said-piece : (n : ℕ) (o : Option Said) (after : List ℕ) → IfSaid o → IfPiece n (option_map (λ s. token s after) o)
said-piece n None after h = piece-none
said-piece n (Some s) after h = piece-some (token s after) (h.some s refl n (length after))

mapped : {A : Type 0} {n : ℕ} (o : Option A) (f : A → Piece) → ((a : A) → IsFrom n (f a)) → IfPiece n (option_map f o)
mapped None f h = piece-none
mapped (Some a) f h = piece-some (f a) (h a)

drop-bytes : (n : ℕ) (text : List ℕ) → AreBytes text → AreBytes (drop n text)
drop-bytes zero text h = h
drop-bytes (suc n) [] h = tt
drop-bytes (suc n) (b ∷ bs) h = drop-bytes n bs h.1

drop-shorter : (n : ℕ) (text : List ℕ) → length (drop n text) ≤ length text
drop-shorter zero text = omega arith
drop-shorter (suc n) [] = omega arith
drop-shorter (suc n) (b ∷ bs) = let r = drop-shorter n bs in omega (arith, r)

-- ---- character constants and string literals

-- 6.4.4.4p10: the value of a character is its byte as a `char`
char-fits : (b : ℕ) → b < 256 → Fits Int (as_char b)
char-fits b h = by b h (nat_lt b 128)
  where
    low : (b : ℕ) → least_member Int ≤ℤ pos b
    low b = grind (arith, ints)

    high : (b : ℕ) → b < 256 → pos b ≤ℤ greatest_member Int
    high b h = grind (arith, ints)

    low-less : (b : ℕ) → least_member Int ≤ℤ (pos b -ℤ pos 256)
    low-less b = grind (arith, ints)

    high-less : (b : ℕ) → b < 256 → (pos b -ℤ pos 256) ≤ℤ greatest_member Int
    high-less b h = grind (arith, ints)

    by : (b : ℕ) → b < 256 → (c : Bool) → Fits Int (if c then pos b else (pos b -ℤ pos 256))
    by b h true = (low b, high b h)
    by b h false = (low-less b, high-less b h)

numbered-one : (n base : ℕ) (digits after : List ℕ) → AreBytes after → length after < n → IfCharacter n (character_by_number base digits after)
unfolding character_by_number
numbered-one n base [] after h lt = character-none
numbered-one n base (d ∷ ds) after h lt = by (nat_lt (value_from base 0 (d ∷ ds)) 256) refl
  where
    by : (b : Bool) → nat_lt (value_from base 0 (d ∷ ds)) 256 ≡ b → IfCharacter n (if b then Some (value_from base 0 (d ∷ ds), after) else None)
    by true e = character-some (value_from base 0 (d ∷ ds), after) (ltb-true (value_from base 0 (d ∷ ds)) 256 e, h, lt)
    by false e = character-none

row-small : (rows : List (List ℕ × ℕ)) → Each (λ (r : List ℕ × ℕ). r.1 < 256) rows → (text : List ℕ) (n : ℕ) → row_of rows text ≡ Some n → n < 256
row-small [] h text n e = absurd cc
row-small (r ∷ rows) h text n e = by (row-small rows h.1 text n) (pointwise nat_eq text r.0) e
  where
    by : (row_of rows text ≡ Some n → n < 256) → (b : Bool) → cond b (Some r.1) (row_of rows text) ≡ Some n → n < 256
    by rest true e = let same : r.1 ≡ n = cc in subst (λ k. k < 256) same h.0
    by rest false e = rest e

quote-small : 39 < 256
quote-small = omega arith

double-small : 34 < 256
double-small = omega arith

slash-small : 92 < 256
slash-small = omega arith

escapes-small : Each (λ (r : List ℕ × ℕ). r.1 < 256) escapes
unfolding escapes
escapes-small = (
  quote-small,
  (double-small, (omega arith, (slash-small, (omega arith, (omega arith, (omega arith, (omega arith, (omega arith, (omega arith, (omega arith, tt)))))))))),
)

simple-one : (n : ℕ) (bs : List ℕ) (o : Option ℕ) → AreBytes bs → length bs < n → ((k : ℕ) → o ≡ Some k → k < 256) → IfCharacter n (option_map (λ k. (k, bs)) o)
simple-one n bs None h lt small = character-none
simple-one n bs (Some k) h lt small = character-some (k, bs) (small k refl, h, lt)

-- The enum of classes of bytes is the lexer's own, so `_` stands for it in what follows.
escape-for : (c : Bool) (o x : _) (b : ℕ) (bs : List ℕ) → AreBytes (b ∷ bs)
    → IfCharacter (suc (length (b ∷ bs))) (if c then character_by_number 8 (take (min 3 (run o (b ∷ bs))) (b ∷ bs)) (drop (min 3 (run o (b ∷ bs))) (b ∷ bs))
    else (if nat_eq b 120 then character_by_number 16 (front x bs) (behind x bs) else option_map (λ n. (n, bs)) (row_of escapes (b ∷ []))))
escape-for c o x b bs h =
    let octal = drop-shorter (min 3 (run o (b ∷ bs))) (b ∷ bs) in
    let hex = drop-shorter (run x bs) bs in
    character-if c
    (numbered-one (suc (length (b ∷ bs))) 8 (take (min 3 (run o (b ∷ bs))) (b ∷ bs)) (drop (min 3 (run o (b ∷ bs))) (b ∷ bs)) (drop-bytes (min 3 (run o (b ∷ bs))) (b ∷ bs) h) (omega (arith, octal)))
    (character-if (nat_eq b 120) (numbered-one (suc (length (b ∷ bs))) 16 (front x bs) (behind x bs) (drop-bytes (run x bs) bs h.1) (omega (arith, hex)))
    (simple-one (suc (length (b ∷ bs))) bs (row_of escapes (b ∷ [])) h.1 (omega arith) (λ n e. row-small escapes escapes-small (b ∷ []) n e)))

escape-one : (text : List ℕ) → AreBytes text → IfCharacter (suc (length text)) (escape_at text)
unfolding escape_at
escape-one [] h = character-none
escape-one (b ∷ bs) h = escape-for _ _ _ b bs h

character-one : (q : ℕ) (text : List ℕ) → AreBytes text → IfCharacter (length text) (character_at q text)
unfolding character_at
character-one q [] h = character-none
character-one q (b ∷ bs) h = character-if (nat_eq b 92) (escape-one bs h.1) (character-if (nat_eq b 10 || nat_eq b q) character-none (character-some (b, bs) (h.0, h.1, omega arith)))

closed-one : (m n : ℕ) (o : Option (ℕ × List ℕ)) → IfCharacter m o → IfPiece n (o >>= closed_character)
closed-one m n None h = piece-none
closed-one m n (Some x) h = piece-if (begins (λ b. nat_eq b 39) x.1) (piece-some (token (Character (as_char x.0)) (drop 1 x.1)) (char-fits x.0 (h.some x refl).0)) piece-none

character-stood : (n : ℕ) (text : List ℕ) → AreBytes text → IfPiece n (character_constant text)
unfolding character_constant
character-stood n text h = closed-one (length text) n (character_at 39 text) (character-one 39 text h)

text-more : (m n b : ℕ) → b < 256 → m < n → (o : Option (List ℕ × List ℕ)) → IfText m o → IfText n (option_map (λ y. (b ∷ y.0, y.1)) o)
text-more m n b h lt None k = text-none
text-more m n b h lt (Some y) k = let t = k.some y refl in let le = t.1 in text-some (b ∷ y.0, y.1) ((h, t.0), omega (arith, lt, le))

text-after : (k n : ℕ) (o : Option (ℕ × List ℕ)) → IfCharacter n o → ((text : List ℕ) → AreBytes text → IfText (length text) (characters k text)) → IfText n (o >>= λ x. option_map (λ y. (x.0 ∷ y.0, y.1)) (characters k x.1))
text-after k n None h rest = text-none
text-after k n (Some x) h rest = let c = h.some x refl in text-more (length x.1) n x.0 c.0 c.2 (characters k x.1) (rest x.1 c.1)

text-bytes : (k : ℕ) (text : List ℕ) → AreBytes text → IfText (length text) (characters k text)
unfolding characters
text-bytes zero text h = text-none
text-bytes (suc k) text h =
    let shorter = drop-shorter 1 text in
    text-if (begins (λ b. nat_eq b 34) text) (text-some ([], drop 1 text) (tt, omega (arith, shorter))) (text-after k (length text) (character_at 34 text) (character-one 34 text h) (λ t b. text-bytes k t b))

string-of : (m n : ℕ) (o : Option (List ℕ × List ℕ)) → m ≤ n → IfText m o → IfPiece n (option_map (λ x. token (Text x.0) x.1) o)
string-of m n None le h = piece-none
string-of m n (Some x) le h = let t = h.some x refl in let few = t.1 in piece-some (token (Text x.0) x.1) (t.0, omega (arith, le, few))

string-stood : (n : ℕ) (text : List ℕ) → AreBytes text → length text ≤ n → IfPiece n (string_literal text)
unfolding string_literal
string-stood n text h le = string-of (length text) n (characters (length text) text) le (text-bytes (length text) text h)

-- ---- constants, comments, markers, punctuators, words

number-said : (base : ℕ) (digits suffix : List ℕ) → IfSaid (number_of base digits suffix)
unfolding number_of
number-said base [] suffix = said-none
number-said base (d ∷ ds) suffix =
    said-then (row_of suffixes suffix) (constant_of_value base (value_from base 0 (d ∷ ds))) (λ s. said-if (fits_constant base (value_from base 0 (d ∷ ds)) s) (said-some _ (λ n after. tt)) said-none)

constant-for : (h o d : _) (text : List ℕ)
    → IfSaid (if starts_with nat_eq text (codes "0x") || starts_with nat_eq text (codes "0X") then number_of 16 (front h (drop 2 text)) (behind h (drop 2 text))
    else (if begins (λ b. nat_eq b 48) text then number_of 8 (front o text) (behind o text) else number_of 10 (front d text) (behind d text)))
constant-for h o d text =
    said-if (starts_with nat_eq text (codes "0x") || starts_with nat_eq text (codes "0X")) (number-said 16 (front h (drop 2 text)) (behind h (drop 2 text)))
    (said-if (begins (λ b. nat_eq b 48) text) (number-said 8 (front o text) (behind o text)) (number-said 10 (front d text) (behind d text)))

constant-said : (text : List ℕ) → IfSaid (constant_of text)
unfolding constant_of
constant-said text = constant-for _ _ _ text

number-for : (n : ℕ) (k : _) (text : List ℕ) → IfPiece n (if begins (λ b. nat_eq b 46) (behind k text) then None else option_map (λ s. token s (behind k text)) (constant_of (front k text)))
number-for n k text = piece-if (begins (λ b. nat_eq b 46) (behind k text)) piece-none (said-piece n (constant_of (front k text)) (behind k text) (constant-said (front k text)))

number-stood : (n : ℕ) (text : List ℕ) → IfPiece n (number_at text)
unfolding number_at
number-stood n text = number-for n _ text

comment-stood : (n : ℕ) (text : List ℕ) → IfPiece n (block_comment text)
unfolding block_comment
comment-stood n text = mapped (behind_close text) (λ after. record { what = Comment (line_feeds text - line_feeds after); after = after }) (λ after. tt)

number-marked : (n : ℕ) (digits after : List ℕ) → IfPiece n (marker_piece digits after)
number-marked n digits after =
    piece-if (nat_le (length digits) 10 && nat_le (value_from 10 0 digits) 2147483647) (piece-some (record { what = Marker (value_from 10 0 digits); after = after }) tt) piece-none

marker-for : (m : ℕ) (k d : _) (text : List ℕ) → IfPiece m (some_of k text >>= λ a. some_of d a.1 >>= λ n. some_of k n.1 >>= λ b. behind_quotes b.1 >>= λ name. groups (length name) name >>= λ after. marker_piece n.0 after)
marker-for m k d text =
    piece-then (some_of k text) (λ a. some_of d a.1 >>= λ n. some_of k n.1 >>= λ b. behind_quotes b.1 >>= λ name. groups (length name) name >>= λ after. marker_piece n.0 after) (λ a.
    piece-then (some_of d a.1) (λ n. some_of k n.1 >>= λ b. behind_quotes b.1 >>= λ name. groups (length name) name >>= λ after. marker_piece n.0 after) (λ n.
    piece-then (some_of k n.1) (λ b. behind_quotes b.1 >>= λ name. groups (length name) name >>= λ after. marker_piece n.0 after) (λ b.
    piece-then (behind_quotes b.1) (λ name. groups (length name) name >>= λ after. marker_piece n.0 after) (λ name.
    piece-then (groups (length name) name) (λ after. marker_piece n.0 after) (λ after. number-marked m n.0 after)))))

marker-stood : (n : ℕ) (text : List ℕ) → IfPiece n (marker text)
unfolding marker
marker-stood n text = marker-for n _ _ text

fresh-stood : (n : ℕ) (fresh : Bool) (text : List ℕ) → IfPiece n (cond fresh (marker text) None)
fresh-stood n true text = marker-stood n text
fresh-stood n false text = piece-none

row-stood : (n : ℕ) (text : List ℕ) (o : Option (List ℕ × Mark)) → Stood n (mark_row text o)
row-stood n text None = stood-bad _
row-stood n text (Some r) = stood-here _ tt

mark-stood : (n : ℕ) (text : List ℕ) → Stood n (mark_at text)
unfolding mark_at
mark-stood n text = row-stood n text (first_row marks text)

keyword-stood : (n : ℕ) (word after : List ℕ) (o : Option (Option Word)) → Stood n (keyword_or_name word after o)
keyword-stood n word after None = stood-here _ tt
keyword-stood n word after (Some None) = stood-bad _
keyword-stood n word after (Some (Some w)) = stood-here _ tt

word-for : (n : ℕ) (k f : _) (text : List ℕ) → Stood n (if is_wide (front k text) && begins is_quote (behind k text) then Bad f else keyword_or_name (front k text) (behind k text) (row_of words (front k text)))
word-for n k f text = stood-if (is_wide (front k text) && begins is_quote (behind k text)) (stood-bad f) (keyword-stood n (front k text) (behind k text) (row_of words (front k text)))

word-stood : (n : ℕ) (text : List ℕ) → Stood n (word_at text)
unfolding word_at
word-stood n text = word-for n _ _ text

-- ---- all that may stand

all-stood : (fresh : Bool) (text : List ℕ) → AreBytes text → Stood (length text) (stands fresh text)
unfolding stands
all-stood fresh [] h = stood-end
all-stood fresh (b ∷ bs) h =
    let n = length (b ∷ bs) in
    stood-if (is_white b) (stood-here _ tt) (stood-if (is_letter b) (word-stood n (b ∷ bs)) (stood-if (is_ascii_digit b) (or-stood (number_at (b ∷ bs)) (number-stood n (b ∷ bs)))
    (stood-if (nat_eq b 39) (or-stood (character_constant bs) (character-stood n bs h.1)) (stood-if (nat_eq b 34) (or-stood (string_literal bs) (string-stood n bs h.1 (omega arith)))
    (stood-if (nat_eq b 35) (or-stood (cond fresh (marker bs) None) (fresh-stood n fresh bs)) (stood-if (starts_with nat_eq (b ∷ bs) (codes "//")) (stood-here _ tt)
    (stood-if (starts_with nat_eq (b ∷ bs) (codes "/*")) (or-stood (block_comment (drop 1 bs)) (comment-stood n (drop 1 bs)))
    (stood-if ((nat_eq b 46 && begins is_ascii_digit bs) || starts_with nat_eq (b ∷ bs) (codes "%:")) (stood-bad _) (mark-stood n (b ∷ bs))))))))))

-- ---- the tokens of a source

said-source : (n after : ℕ) (s : Said) → IsFromSaid n after s → IsSourceToken s
said-source n after (Keyword w) h = tt
said-source n after (Name text) h = tt
said-source n after (Number value decimal unsigned longs) h = tt
said-source n after (Character value) h = h
said-source n after (Text bytes) h = h.0
said-source n after (Punctuator m) h = tt

here-source : (n after start line : ℕ) (w : What) → IsFromWhat n after w → Each (λ (s : Spelt). IsSourceToken s.said) (spelt_here start line w)
here-source n after start line (White b) h = tt
here-source n after start line (Comment k) h = tt
here-source n after start line (Marker k) h = tt
here-source n after start line (Spelling s) h = (said-source n after s h, tt)

behind-bytes : (x : Piece) (p : Place) → stands p.fresh p.text ≡ Here x → AreBytes p.text → AreBytes x.after
behind-bytes x p e b = let t = takes_piece p.fresh p.text x e in each_right (λ n. n < 256) t.taken x.after (subst AreBytes t.is b)

spelt-source : (whole : ℕ) (p q : Place) (xs : List Piece) → AreBytes p.text → Row p xs q → Each (λ (s : Spelt). IsSourceToken s.said) (tokens_among whole p xs)
spelt-source whole p q [] b h = tt
spelt-source whole p q (x ∷ xs) b h =
    each_append (λ (s : Spelt). IsSourceToken s.said) (spelt_here (whole - length p.text) p.line x.what) (tokens_among whole (behind_piece x p) xs)
    (here-source (length p.text) (length x.after) (whole - length p.text) p.line x.what ((all-stood p.fresh p.text b).here x h.0))
    (spelt-source whole (behind_piece x p) q xs (behind-bytes x p h.0 b) h.1)

-- 5.1.1.2p1: a source has no fewer bytes than its string literals
said-letters : (n after start line : ℕ) (s : Said) (rest : List Spelt) → IsFromSaid n after s → after ≤ n → letters (texts_of rest) ≤ after → letters (texts_of (record { said = s; start = start; line = line } ∷ rest)) ≤ n
said-letters n after start line (Keyword w) rest h le r = omega (arith, le, r)
said-letters n after start line (Name text) rest h le r = omega (arith, le, r)
said-letters n after start line (Number value decimal unsigned longs) rest h le r = omega (arith, le, r)
said-letters n after start line (Character value) rest h le r = omega (arith, le, r)
said-letters n after start line (Text bytes) rest h le r = let few = h.1 in omega (arith, few, r)
said-letters n after start line (Punctuator m) rest h le r = omega (arith, le, r)

here-letters : (n after start line : ℕ) (w : What) (rest : List Spelt) → IsFromWhat n after w → after ≤ n → letters (texts_of rest) ≤ after → letters (texts_of (spelt_here start line w ++ rest)) ≤ n
here-letters n after start line (White b) rest h le r = omega (arith, le, r)
here-letters n after start line (Comment k) rest h le r = omega (arith, le, r)
here-letters n after start line (Marker k) rest h le r = omega (arith, le, r)
here-letters n after start line (Spelling s) rest h le r = said-letters n after start line s rest h le r

behind-shorter : (x : Piece) (p : Place) → stands p.fresh p.text ≡ Here x → length x.after ≤ length p.text
behind-shorter x p e =
    let t = takes_piece p.fresh p.text x e in
    let l = length-append t.taken x.after in
    let whole = ap (λ (xs : List ℕ). length xs) t.is in
    omega (arith, l, whole)

spelt-letters : (whole : ℕ) (p q : Place) (xs : List Piece) → AreBytes p.text → Row p xs q → letters (texts_of (tokens_among whole p xs)) ≤ length p.text
spelt-letters whole p q [] b h = omega arith
spelt-letters whole p q (x ∷ xs) b h =
    here-letters (length p.text) (length x.after) (whole - length p.text) p.line x.what (tokens_among whole (behind_piece x p) xs) ((all-stood p.fresh p.text b).here x h.0) (behind-shorter x p h.0)
    (spelt-letters whole (behind_piece x p) q xs (behind-bytes x p h.0 b) h.1)

-- ---- 6.9: a unit that comes of a source is well typed

pub typed-lexed : (source : List ℕ) (t : Table) (ds : List DeclarationTree) (v : WholeUnit) → IsChecked source t ds v → IsTypedUnit v
typed-lexed source t ds v c =
    let lexed = c.lexed in
    let short = c.short in
    let few = spelt-letters (length source) (start source) lexed.last lexed.pieces c.bytes lexed.row in
    typed-source t (tokens_among (length source) (start source) lexed.pieces) ds v lexed.tells (spelt-source (length source) (start source) lexed.last lexed.pieces c.bytes lexed.row) (omega (arith, few, short)) c.spelled c.comes
