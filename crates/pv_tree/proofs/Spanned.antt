-- The lists of a unit as parts of one row.
use Rattle.std.proofs.Common.{◌≡◌, ◌<◌, ◌≤◌, ◌+◌, ◌^◌, ℕ, zero, suc, List, [], ◌∷◌, ◌++◌, length, map, get_or, drop, sym, ap, subst, ◌∙◌, refl, arith}
use Rattle.std.specs.Prelude.{slice_range}
use Rattle.std.proofs.lemmas.List.{length-append, length-map, map_push, get_or-map, take_all, take-append-le, drop_at}
use Rattle.std.proofs.lemmas.Slice.{between_is}
use Rattle.pv_tree.specs.declared.nodes.NodeId.{NodeId}
use Rattle.pv_tree.specs.declared.lists.Span.{Span}
use Rattle.pv_tree.specs.Spans.{list_of, IsWithin, AreWithin, AreSpans}

abbrev pub span : ℕ → ℕ → Span
span start end = record { start = start; end = end }

-- ---- what more numbers leave as it was

part_stays : (xs more : List NodeId) (s : Span) → s.end ≤ length xs → list_of (xs ++ more) s ≡ list_of xs s
part_stays xs more s le =
    between_is (xs ++ more) s.start s.end
    ∙ ap (drop s.start) (take-append-le s.end xs more le)
    ∙ sym (between_is xs s.start s.end)

last_part : (xs l : List NodeId) (i j : ℕ) → i ≡ length xs → j ≡ i + length l → slice_range (xs ++ l) i j ≡ l
last_part xs l i j first last =
    between_is (xs ++ l) i j
    ∙ ap (drop i) (take_all j (xs ++ l) (omega (arith, first, last, length-append xs l)))
    ∙ drop_at xs l i (sym first)

lists_stay : (xs more : List NodeId) (ss : List Span) → AreWithin (length xs) ss → map (list_of (xs ++ more)) ss ≡ map (list_of xs) ss
lists_stay xs more [] h = refl
lists_stay xs more (s ∷ ss) h =
    ap (λ (x : List NodeId). x ∷ map (list_of (xs ++ more)) ss) (part_stays xs more s h.0.within)
    ∙ ap (λ (x : List (List NodeId)). list_of xs s ∷ x) (lists_stay xs more ss h.1)

within_more : (m n : ℕ) → m ≤ n → (ss : List Span) → AreWithin m ss → AreWithin n ss
within_more m n le [] h = tt
within_more m n le (s ∷ ss) h =
    let here = h.0.within in
    (record { order = h.0.order; within = omega (arith, le, here) }, within_more m n le ss h.1)

within_push : (n : ℕ) (ss : List Span) (s : Span) → AreWithin n ss → IsWithin n s → AreWithin n (ss ++ s ∷ [])
within_push n [] s h last = (last, tt)
within_push n (x ∷ ss) s h last = (h.0, within_push n ss s h.1 last)

within_at : (n : ℕ) (ss : List Span) (i : ℕ) (s : Span) → AreWithin n ss → i < length ss → IsWithin n (get_or ss i s)
within_at n [] i s h lt = absurd (omega (arith, lt))
within_at n (x ∷ ss) zero s h lt = h.0
within_at n (x ∷ ss) (suc i) s h lt = within_at n ss i s h.1 (omega (arith, lt))

module _ (numbers : List NodeId) (ss : List Span) (now : List (List NodeId)) (seen : map (list_of numbers) ss ≡ now) where
  pub spans_count : length ss ≡ length now
  spans_count = sym (length-map ss (list_of numbers)) ∙ ap (λ (l : List (List NodeId)). length l) seen

  -- ---- one more list
  module _ (is : AreSpans numbers ss) (l new_numbers : List NodeId) (kept : new_numbers ≡ numbers ++ l) (start end : ℕ) (first : start ≡ length numbers) (last : end ≡ start + length l) (new : List Span) (pushed : new ≡ ss ++ span start end ∷ []) where
    pub list_added : map (list_of new_numbers) new ≡ now ++ (l ∷ [])
    list_added =
        ap (map (list_of new_numbers)) pushed
        ∙ map_push (list_of new_numbers) ss (span start end)
        ∙ ap (λ (x : List (List NodeId)). x ++ (list_of new_numbers (span start end) ∷ [])) (ap (λ (xs : List NodeId). map (list_of xs) ss) kept ∙ lists_stay numbers l ss is.within ∙ seen)
        ∙ ap (λ (x : List NodeId). now ++ (x ∷ [])) (ap (λ (xs : List NodeId). slice_range xs start end) kept ∙ last_part numbers l start end first last)

    pub spans_added : end < 2 ^ 32 → AreSpans new_numbers new
    spans_added few =
        let longer : length new_numbers ≡ length numbers + length l = ap length kept ∙ length-append numbers l in
        record {
          few = omega (arith, longer, first, last, few);
          within = subst (AreWithin (length new_numbers)) (sym pushed) (within_push (length new_numbers) ss (span start end) (within_more (length numbers) (length new_numbers) (omega (arith, longer)) ss is.within) (record { order = omega (arith, last); within = omega (arith, longer, first, last) }));
        }

  -- ---- a list that is read
  module _ (i : ℕ) (here : i < length now) (s : Span) (read : s ≡ get_or ss i s) where
    among : i < length ss
    among = omega (arith, here, spans_count)

    pub span_within : AreSpans numbers ss → IsWithin (length numbers) s
    span_within is = subst (IsWithin (length numbers)) (sym read) (within_at (length numbers) ss i s is.within among)

    pub list_read : list_of numbers s ≡ get_or now i []
    list_read =
        ap (list_of numbers) read
        ∙ sym (get_or-map (list_of numbers) ss i s [] among)
        ∙ ap (λ (l : List (List NodeId)). get_or l i []) seen
