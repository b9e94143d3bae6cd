-- How much stands in a cut: a token has a byte at least, and a fault lies in the source.
use Rattle.std.proofs.Common.{◌≡◌, ℕ, ◌+◌, ◌-◌, ◌≤◌, ◌^◌, List, [], ◌∷◌, ◌++◌, length, Bool, true, false, Some, sym, ap, ◌∙◌, length-append, arith}
use Rattle.std.specs.Prelude.{if◌then◌else◌, nat_eq}
use Rattle.std.specs.List.{list_any}
use Rattle.std.specs.Cmp.Lexicographic.{pointwise}
use Rattle.std.proofs.lemmas.List.{length-map}
use Rattle.pv_lex.specs.declared.pieces.Fault.{Fault}
use Rattle.pv_lex.specs.declared.pieces.Fault.TheVariants as fault
use Rattle.pv_token.specs.Said.{Said, Keyword, Name, Number, Character, Text, Punctuator, Spelt}
use Rattle.pv_lex.specs.Pieces.{What, White, Comment, Marker, Spelling, Piece, Bad}
use Rattle.pv_lex.specs.Stands.{stands}
use Rattle.pv_lex.specs.Rows.{Place, start, behind_piece, Row, tokens_among, spelt_here}
use Rattle.pv_token.specs.Table.{Table, Tells, spelt_of, names_with, names_from, text_of}
use Rattle.pv_token.specs.TableParts.{with_name, texts_of}
use Rattle.pv_token.specs.Kept.{HasRoom}
use Rattle.pv_lex.specs.Views.{error_of, LiesWithin}
use Rattle.pv_lex.proofs.Moving.{Within, moves_stands}
use Rattle.pv_lex.proofs.Cutting.{Cut}

one_here : (start line : ℕ) (w : What) → length (spelt_here start line w) ≤ 1
one_here start line (White b) = omega arith
one_here start line (Comment n) = omega arith
one_here start line (Marker n) = omega arith
one_here start line (Spelling s) = omega arith

-- the tokens of a row and what is left behind it are no more than the bytes
row_count : (whole : ℕ) (p q : Place) (xs : List Piece) → Row p xs q → length (tokens_among whole p xs) + length q.text ≤ length p.text
row_count whole p q [] row = omega (arith, ap (λ (z : Place). length z.text) row)
row_count whole p q (x ∷ xs) row =
    let m = ((moves_stands p.fresh p.text).here x row.0).shorter in
    let one = one_here (whole - length p.text) p.line x.what in
    let rest = row_count whole (behind_piece x p) q xs row.1 in
    let both = length-append (spelt_here (whole - length p.text) p.line x.what) (tokens_among whole (behind_piece x p) xs) in
    omega (arith, m, one, rest, both)

-- a row leads no further back
row_less : (p q : Place) (xs : List Piece) → Row p xs q → length q.text ≤ length p.text
row_less p q xs row = let h = row_count 0 p q xs row in omega (arith, h)

pub tokens_count : (t : Table) (ss : List Spelt) → Tells t ss → length t.tokens ≡ length ss
tokens_count t ss told = sym (length-map t.tokens (spelt_of t.names t.texts)) ∙ ap length told.tokens ∙ length-map ss Some

name_count : (names : List (List ℕ)) (name : List ℕ) → length (with_name names name) ≤ length names + 1
name_count names name = by (list_any (pointwise nat_eq name) names)
  where
    by : (t : Bool) → length (if t then names else names ++ name ∷ []) ≤ length names + 1
    by true = omega arith
    by false = omega (arith, length-append names (name ∷ []))

with_count : (names : List (List ℕ)) (s : Said) → length (names_with names s) ≤ length names + 1
with_count names (Keyword w) = omega arith
with_count names (Name text) = name_count names text
with_count names (Number v d u l) = omega arith
with_count names (Character v) = omega arith
with_count names (Text bytes) = omega arith
with_count names (Punctuator m) = omega arith

names_count : (names : List (List ℕ)) (ss : List Spelt) → length (names_from names ss) ≤ length names + length ss
names_count names [] = omega arith
names_count names (s ∷ ss) = omega (arith, with_count names s.said, names_count (names_with names s.said) ss)

text_count : (s : Said) → length (text_of s) ≤ 1
text_count (Keyword w) = omega arith
text_count (Name text) = omega arith
text_count (Number v d u l) = omega arith
text_count (Character v) = omega arith
text_count (Text bytes) = omega arith
text_count (Punctuator m) = omega arith

texts_count : (ss : List Spelt) → length (texts_of ss) ≤ length ss
texts_count [] = omega arith
texts_count (s ∷ ss) = omega (arith, text_count s.said, texts_count ss, length-append (text_of s.said) (texts_of ss))

-- a cut has no more tokens than bytes before its place
pub cut_count : (source : List ℕ) (t : Table) (p : Place) → Cut source t p → length t.tokens + length p.text ≤ length source
cut_count source t p cut = omega (arith, tokens_count t _ cut.tells, row_count (length source) (start source) p cut.pieces cut.row)

-- a cut of a source of this bound has room for one more
pub cut_room : (source : List ℕ) (t : Table) (p : Place) → Cut source t p → length source ≤ 2 ^ 20 → HasRoom t
cut_room source t p cut h =
    let ss : List Spelt = tokens_among (length source) (start source) cut.pieces in
    let n = row_count (length source) (start source) p cut.pieces cut.row in
    record {
      tokens = omega (arith, h, n, tokens_count t ss cut.tells);
      names = omega (arith, h, n, ap length cut.tells.names, names_count [] ss);
      texts = omega (arith, h, n, ap length cut.tells.texts, texts_count ss);
    }

fault_lies : (source : List ℕ) (f : Fault) (at n : ℕ) → n ≤ length source → at ≡ length source - n → Within n f → LiesWithin source (error_of f at)
fault_lies source fault.BadByte at n le e w = omega (arith, le, e, w)
fault_lies source fault.BadToken at n le e w = omega (arith, le, e, w)
fault_lies source (fault.Profile word) at n le e w = (w.0, omega (arith, le, e, w.1))

-- the fault where a cut ends lies in the source
pub cut_fault_lies : (source : List ℕ) (t : Table) (p : Place) (f : Fault) (at : ℕ) → Cut source t p → stands p.fresh p.text ≡ Bad f → at ≡ length source - length p.text → LiesWithin source (error_of f at)
cut_fault_lies source t p f at cut bad place = fault_lies source f at (length p.text) (row_less (start source) p cut.pieces cut.row) place ((moves_stands p.fresh p.text).bad f bad)
