-- Bytes of a string that are put a few at a time.
use Rattle.std.proofs.Common.{◌≡◌, ℕ, suc, pos, ◌+◌, ◌-◌, ◌*◌, ◌/◌, ◌%◌, ◌<◌, ◌≤◌, ◌^◌, None, List, [], ◌∷◌, ◌++◌, map, length, take, drop, set, All, refl, sym, ap, ◌∙◌, arith, append_assoc}
use Rattle.std.proofs.lemmas.List.{map-append, length-map, take_more, take_more_set}
use Rattle.std.proofs.lemmas.List.Elements.{All-nil, All-cons}
use Rattle.std.proofs.lemmas.List.Edits.{length-between}
use Rattle.std.proofs.lemmas.List.Folds.{drop_split}
use Rattle.std.specs.Prelude.{slice_range, slice_index_or}
use Rattle.std.specs.FinMap.{insert}
use Rattle.pv_num.specs.declared.kinds.IntKind.TheVariants.{UInt}
use Rattle.pv_num.specs.Kinds.{bits_of}
use Rattle.pv_inst.specs.Table.{Table, IsMadeIn}
use Rattle.pv_shadow.specs.declared.byte.Byte.{Byte}
use Rattle.pv_shadow.specs.Bytes.{Store, with_bytes_at}
use Rattle.pv_shadow.specs.Whole.{number_bytes, little_endian}
use Rattle.pv_object.specs.declared.values.Scalar.TheVariants as scalar
use Rattle.pv_object.specs.declared.values.Value.TheVariants as value
use Rattle.pv_object.specs.Answers.{after_storing}
use Rattle.pv_object.specs.Memory.{Mem}
use Rattle.pv_object.specs.Copying.{with_bytes}
use Rattle.pv_libc.specs.Blocks.{plain_byte}

written_parts : (m : Store) (a : ℕ) (xs ys : List Byte) → with_bytes_at (with_bytes_at m a xs) (a + length xs) ys ≡ with_bytes_at m a (xs ++ ys)
written_parts m a [] ys = let e : a + 0 ≡ a = omega arith in ap (λ (q : ℕ). with_bytes_at m q ys) e
written_parts m a (x ∷ xs) ys =
    let e : a + suc (length xs) ≡ (a + 1) + length xs = omega arith in
    ap (λ (q : ℕ). with_bytes_at (with_bytes_at (insert m a x) (a + 1) xs) q ys) e ∙ written_parts (insert m a x) (a + 1) xs ys

-- n more, behind the first i
pub put_more : (M : Mem) (a i n : ℕ) (text : List ℕ) → i + n ≤ length text
    → with_bytes (with_bytes M (a + i) (map plain_byte (slice_range text i (i + n)))) (a + (i + n)) (map plain_byte (drop (i + n) text ++ 0 ∷ [])) ≡ with_bytes M (a + i) (map plain_byte (drop i text ++ 0 ∷ []))
put_more M a i n text within =
    let part = slice_range text i (i + n) in
    let rest = drop (i + n) text in
    let end : List ℕ = 0 ∷ [] in
    let few : length part ≡ n = length-between text i (i + n) within ∙ (let e : (i + n) - i ≡ n = omega arith in e) in
    let long : length (map plain_byte part) ≡ n = length-map part plain_byte ∙ few in
    let place : a + (i + n) ≡ (a + i) + length (map plain_byte part) = omega (arith, long) in
    ap (λ (q : ℕ). with_bytes (with_bytes M (a + i) (map plain_byte part)) q (map plain_byte (rest ++ end))) place
    ∙ ap (λ (m : Store). record M { bytes = m }) (written_parts M.bytes (a + i) (map plain_byte part) (map plain_byte (rest ++ end)))
    ∙ ap (with_bytes M (a + i)) (sym (map-append plain_byte part (rest ++ end)))
    ∙ ap (λ (xs : List ℕ). with_bytes M (a + i) (map plain_byte xs)) (sym (append_assoc part rest end) ∙ ap (λ (xs : List ℕ). xs ++ end) (sym (drop_split text i (i + n) (omega arith))))

-- one byte more in the row that is put at once
pub row_more : (bs : List Byte) (text : List ℕ) (i v : ℕ) → i < length bs → i < length text → v ≡ slice_index_or text i 0 → take i bs ≡ map plain_byte (take i text) → take (i + 1) (set bs i (plain_byte v)) ≡ map plain_byte (take (i + 1) text)
row_more bs text i v h g e so_far =
    take_more_set bs i (plain_byte v) h
    ∙ ap (λ (xs : List Byte). xs ++ plain_byte v ∷ []) so_far
    ∙ ap (λ (w : ℕ). map plain_byte (take i text) ++ plain_byte w ∷ []) e
    ∙ sym (map-append plain_byte (take i text) (slice_index_or text i 0 ∷ []))
    ∙ ap (λ (xs : List ℕ). map plain_byte xs) (sym (take_more text i 0 g))

-- such bytes have no names
pub row_made : (T : Table) (text : List ℕ) → All (λ (b : Byte). IsMadeIn T b.prov) (map plain_byte text)
row_made T [] = All-nil (λ (b : Byte). IsMadeIn T b.prov)
row_made T (v ∷ text) = All-cons (λ (b : Byte). IsMadeIn T b.prov) (plain_byte v) (map plain_byte text) tt (row_made T text)

-- a number of four bytes, as it is stored
bits_kept : (k : ℕ) → k < 2 ^ 32 → bits_of UInt (pos k) ≡ k
bits_kept k h = let e : k % (2 ^ 32) ≡ k = omega (arith, h) in e

plain_bytes : (j : ℕ) (vs : List ℕ) → number_bytes None j vs ≡ map plain_byte vs
plain_bytes j [] = refl
plain_bytes j (v ∷ vs) = ap (λ (bs : List Byte). plain_byte v ∷ bs) (plain_bytes (j + 1) vs)

-- a text of four characters
four_of : (text : List ℕ) (d : ℕ) → length text ≡ 4 → slice_index_or text 0 d ∷ slice_index_or text 1 d ∷ slice_index_or text 2 d ∷ slice_index_or text 3 d ∷ [] ≡ text
four_of [] d l = absurd (omega (arith, l))
four_of (v ∷ []) d l = absurd (omega (arith, l))
four_of (v ∷ w ∷ []) d l = absurd (omega (arith, l))
four_of (v ∷ w ∷ x ∷ []) d l = absurd (omega (arith, l))
four_of (v ∷ w ∷ x ∷ y ∷ []) d l = refl
four_of (v ∷ w ∷ x ∷ y ∷ z ∷ more) d l = absurd (omega (arith, l))

-- four characters that are stored as the number of which they are the digits
pub four_stored : (M : Mem) (a k : ℕ) (text : List ℕ) (d : ℕ) → k < 2 ^ 32 → length text ≡ 4
    → little_endian 4 k ≡ slice_index_or text 0 d ∷ slice_index_or text 1 d ∷ slice_index_or text 2 d ∷ slice_index_or text 3 d ∷ []
    → after_storing M a (scalar.Int UInt) (value.Int (pos k)) None ≡ with_bytes M a (map plain_byte text)
four_stored M a k text d few four digits =
    ap (λ (n : ℕ). with_bytes M a (number_bytes None 0 (little_endian 4 n))) (bits_kept k few)
    ∙ ap (with_bytes M a) (plain_bytes 0 (little_endian 4 k))
    ∙ ap (λ (vs : List ℕ). with_bytes M a (map plain_byte vs)) (digits ∙ four_of text d four)

-- the digits of such a number
pub digits_of_four : (r a b c d : ℕ) → a < 256 → b < 256 → c < 256 → d < 256 → r ≡ a + 256 * b + 65536 * (c + 256 * d) → little_endian 4 r ≡ a ∷ b ∷ c ∷ d ∷ []
digits_of_four r a b c d f g h k e =
    let first : r % 256 ≡ a = omega (arith, e, f) in
    let second : (r / 256) % 256 ≡ b = omega (arith, e, f, g) in
    let third : ((r / 256) / 256) % 256 ≡ c = omega (arith, e, f, g, h) in
    let fourth : (((r / 256) / 256) / 256) % 256 ≡ d = omega (arith, e, f, g, h, k) in
    λ j. first j ∷ second j ∷ third j ∷ fourth j ∷ []
