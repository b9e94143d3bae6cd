-- One more line, and how long the lines can be.
use Rattle.std.proofs.Common.{◌≡◌, ℕ, zero, suc, ◌+◌, ◌*◌, ◌<◌, ◌≤◌, ◌^◌, ◌%◌, List, [], ◌∷◌, ◌++◌, length, refl, sym, ◌∙◌, ap, arith, add-one, append_assoc, append-nil}
use Rattle.std.specs.Prelude.{codes}
use Rattle.std.specs.Fmt.{decimal}
use Rattle.std.specs.List.{flat_map, range_with_len}
use Rattle.std.proofs.lemmas.List.{length-append}
use Rattle.std.proofs.lemmas.Fmt.{length-decimal-le}
use Rattle.pv_gen.specs.Source.{line, object_line, use_line, source_text}

-- what comes of the numbers from a on, with one number more
grows : (f : ℕ → List ℕ) (a n j : ℕ) → a + n ≡ j → flat_map f (range_with_len a (suc n)) ≡ flat_map f (range_with_len a n) ++ f j
grows f a zero j e = append-nil (f a) ∙ ap f (omega (arith, e))
grows f a (suc n) j e = ap (λ t. f a ++ t) (grows f (a + 1) n j (omega (arith, e))) ∙ sym (append_assoc (f a) (flat_map f (range_with_len (a + 1) n)) (f j))

-- one line more at the end of a text
pub next : (f : ℕ → List ℕ) (n : ℕ) (old piece new : List ℕ) → old ≡ flat_map f (range_with_len 0 n) → piece ≡ f n → new ≡ old ++ piece → new ≡ flat_map f (range_with_len 0 (n + 1))
next f n old piece new o p e = rw (e, o, p, add-one) (sym (grows f 0 n n (omega arith)))

-- a text between two others, as long as it is
around : (a t b : List ℕ) (n : ℕ) → length t ≤ n → length (a ++ t ++ b) ≤ length a + n + length b
around a t b n h = omega (arith, h, length-append (a ++ t) b, length-append a t)

object_short : (k : ℕ) → k < 8192 → length (object_line k) ≤ 16
object_short k h =
    let name : length (decimal k) ≤ 4 = length-decimal-le 4 k (omega arith) (omega (arith, h)) (omega (arith, h)) in
    let value : length (decimal (k % 97)) ≤ 2 = length-decimal-le 2 (k % 97) (omega arith) (omega arith) (omega arith) in
    let first = around (codes "int v") (decimal k) (codes " = ") 4 name in
    let text = around (codes "int v" ++ decimal k ++ codes " = ") (decimal (k % 97)) (codes ";") 2 value in
    omega (arith, first, text, length-append (codes "int v" ++ decimal k ++ codes " = " ++ decimal (k % 97) ++ codes ";") (10 ∷ []))

use_short : (k : ℕ) → k < 8192 → length (use_line k) ≤ 80
use_short k h =
    let name : length (decimal k) ≤ 4 = length-decimal-le 4 k (omega arith) (omega (arith, h)) (omega (arith, h)) in
    let text = around (codes "  { unsigned long a = (unsigned long)&v") (decimal k) (codes "; int *p = (int *)a; s = s + *p; }") 4 name in
    omega (arith, text, length-append (codes "  { unsigned long a = (unsigned long)&v" ++ decimal k ++ codes "; int *p = (int *)a; s = s + *p; }") (10 ∷ []))

-- lines of at most so many bytes
lines_short : (f : ℕ → List ℕ) (most bytes a n : ℕ) → ((k : ℕ) → k < most → length (f k) ≤ bytes) → a + n ≤ most → length (flat_map f (range_with_len a n)) ≤ n * bytes
lines_short f most bytes a zero h fits = omega arith
lines_short f most bytes a (suc n) h fits =
    let first = h a (omega (arith, fits)) in
    let rest = lines_short f most bytes (a + 1) n h (omega (arith, fits)) in
    omega (arith, first, rest, length-append (f a) (flat_map f (range_with_len (a + 1) n)))

-- no program is too long for a source
pub program_short : (n : ℕ) → n ≤ 8192 → length (source_text n) < 2 ^ 20
unfolding source_text
program_short n h =
    let objects = lines_short object_line 8192 16 0 n object_short (omega (arith, h)) in
    let uses = lines_short use_line 8192 80 0 n use_short (omega (arith, h)) in
    let front = line (codes "unsigned long s;") ++ flat_map object_line (range_with_len 0 n) ++ line (codes "int main(void) {") in
    let before = length-append (line (codes "unsigned long s;")) (flat_map object_line (range_with_len 0 n)) in
    let head = length-append (line (codes "unsigned long s;") ++ flat_map object_line (range_with_len 0 n)) (line (codes "int main(void) {")) in
    let body = length-append front (flat_map use_line (range_with_len 0 n)) in
    let last = length-append (front ++ flat_map use_line (range_with_len 0 n)) (line (codes "  return (int)(s % 251);")) in
    let end = length-append (front ++ flat_map use_line (range_with_len 0 n) ++ line (codes "  return (int)(s % 251);")) (line (codes "}")) in
    omega (arith, h, objects, uses, before, head, body, last, end)

-- the program, written piece by piece
pub pieces : (n : ℕ) (top objects uses one two three four all : List ℕ) → top ≡ line (codes "unsigned long s;") → objects ≡ flat_map object_line (range_with_len 0 n) → uses ≡ flat_map use_line (range_with_len 0 n)
    → one ≡ top ++ objects → two ≡ one ++ line (codes "int main(void) {") → three ≡ two ++ uses → four ≡ three ++ line (codes "  return (int)(s % 251);") → all ≡ four ++ line (codes "}") → all ≡ source_text n
unfolding source_text
pieces n top objects uses one two three four all t o u a b c d e = rw (e, d, c, b, a, t, o, u) refl
