-- Texts that end where a line does, or a name.
use Rattle.std.proofs.Common.{◌≡◌, ℕ, suc, ◌+◌, ◌-◌, ◌<◌, ◌≤◌, Bool, true, false, cond, List, [], ◌∷◌, ◌++◌, length, get_or, drop, take, Option, Some, None, refl, sym, ap, ◌∙◌, nat_eq, add-one, arith}
use Rattle.std.specs.Prelude.{codes}
use Rattle.std.specs.List.{after_last, position_or_len}
use Rattle.std.specs.Fmt.{decimal}
use Rattle.std.proofs.Math.Seq.{take-add, drop-cons}
use Rattle.std.proofs.lemmas.List.{drop-append-le, take_all, append_assoc, drop_all}
use Rattle.std.proofs.lemmas.Bool.{eqb-true}
use Rattle.pv_lex.specs.Bytes.{line_feeds}
use Rattle.pv_where.specs.Spots.{behind_quote, before_quote}
use Rattle.pv_where.specs.SourceLines.{ends_line, line_before, source_line, shown_most}
use Rattle.pv_where.specs.Texts.{head_line}

-- what stands before the place on its line, and from there on
pub line_joined : (source : List ℕ) (place begin end : ℕ) → begin ≤ length (take place source) → drop begin (take (place + end) source) ≡ drop begin (take place source) ++ take end (drop place source)
line_joined source place begin end within = ap (drop begin) (take-add place end source) ∙ drop-append-le begin (take place source) (take end (drop place source)) within

pub line_whole : (source : List ℕ) (place begin end : ℕ) (before behind : List ℕ) → before ≡ take place source → behind ≡ drop place source → begin ≤ length before → drop begin before ≡ after_last ends_line before
    → end ≡ position_or_len ends_line behind → drop begin (take (place + end) source) ≡ source_line source place
line_whole source place begin end before behind b a within line stop =
    line_joined source place begin end (omega (arith, within, ap length b))
    ∙ ap (λ (front : List ℕ). front ++ take end (drop place source)) (sym (ap (drop begin) b) ∙ line ∙ ap (after_last ends_line) b)
    ∙ ap (λ (n : ℕ). line_before source place ++ take n (drop place source)) (stop ∙ ap (position_or_len ends_line) a)

-- a short line is shown whole
pub shown_whole : (line : List ℕ) → length line ≤ 200 → line ≡ take shown_most line
unfolding shown_most
shown_whole line h = sym (take_all 200 line h)

differs : (m n : ℕ) → (m ≡ n → ⊥) → nat_eq m n ≡ false
differs m n h = by (nat_eq m n) refl
  where
    by : (t : Bool) → nat_eq m n ≡ t → t ≡ false
    by true e = absurd (h (eqb-true m n e))
    by false e = refl

pub quote_end : (text : List ℕ) → length text ≤ 0 → text ≡ behind_quote text
unfolding behind_quote
quote_end [] h = refl
quote_end (b ∷ bs) h = absurd (omega arith)

pub quote_here : (text : List ℕ) → 0 < length text → get_or text 0 0 ≡ 34 → behind_quote text ≡ drop 1 text
unfolding behind_quote
quote_here [] h e = absurd (omega arith)
quote_here (b ∷ bs) h e = rw e refl

pub quote_next : (text : List ℕ) → 0 < length text → (get_or text 0 0 ≡ 34 → ⊥) → behind_quote text ≡ behind_quote (drop 1 text)
unfolding behind_quote
quote_next [] h e = absurd (omega arith)
quote_next (b ∷ bs) h e = ap (λ t. cond t bs (behind_quote bs)) (differs b 34 e)

pub closed_none : (text : List ℕ) (o : Option (List ℕ)) → o ≡ None → [] ≡ before_quote text o
closed_none text o e = sym (ap (before_quote text) e)

pub closed_some : (text after : List ℕ) (o : Option (List ℕ)) → o ≡ Some after → take (length text - (length after + 1)) text ≡ before_quote text o
closed_some text after o e = sym (ap (before_quote text) e)

feeds_cons : (b : ℕ) (bs : List ℕ) (t : Bool) → nat_eq b 10 ≡ t → line_feeds (b ∷ bs) ≡ cond t (suc (line_feeds bs)) (line_feeds bs)
unfolding line_feeds
feeds_cons b bs t e = ap (λ u. cond u (suc (line_feeds bs)) (line_feeds bs)) e

feeds_at : (text : List ℕ) (i : ℕ) (t : Bool) → i < length text → nat_eq (get_or text i 0) 10 ≡ t → line_feeds (drop i text) ≡ cond t (suc (line_feeds (drop (i + 1) text))) (line_feeds (drop (i + 1) text))
feeds_at text i t h e = rw add-one (ap line_feeds (drop-cons text i 0 h) ∙ feeds_cons (get_or text i 0) (drop (suc i) text) t e)

-- a line feed more
pub feeds_more : (text : List ℕ) (i : ℕ) → i < length text → get_or text i 0 ≡ 10 → line_feeds (drop i text) ≡ suc (line_feeds (drop (i + 1) text))
feeds_more text i h e = feeds_at text i true h (rw e refl)

-- another byte
pub feeds_same : (text : List ℕ) (i : ℕ) → i < length text → (get_or text i 0 ≡ 10 → ⊥) → line_feeds (drop i text) ≡ line_feeds (drop (i + 1) text)
feeds_same text i h e = feeds_at text i false h (differs (get_or text i 0) 10 e)

pub feeds_end : (text : List ℕ) (i : ℕ) → length text ≤ i → line_feeds (drop i text) ≡ 0
unfolding line_feeds
feeds_end text i h = ap line_feeds (drop_all i text h)

-- the first line, piece by piece
pub head_pieces : (file numbers what text one two all : List ℕ) (line column : ℕ) → text ≡ file → numbers ≡ codes ":" ++ (decimal line ++ (codes ":" ++ (decimal column ++ codes ": refused: ")))
    → one ≡ text ++ numbers → two ≡ one ++ what → all ≡ two ++ 10 ∷ [] → all ≡ head_line file line column what
head_pieces file numbers what text one two all line column t n a b e = rw (e, b, a, t, n) (simp append_assoc)
