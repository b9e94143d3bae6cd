-- The line of a place is a whole line of the source.
use Rattle.std.proofs.Common.{◌≡◌, ℕ, zero, suc, ◌+◌, ◌-◌, ◌<◌, ◌≤◌, ◌⊎◌, inl, inr, Bool, true, false, not, List, [], ◌∷◌, ◌++◌, length, get_or, take, drop, reverse, refl, sym, ap, ◌∙◌, add-one, arith}
use Rattle.std.specs.List.{All, suffix_len, position_or_len, after_last, before_first}
use Rattle.std.proofs.Math.Seq.{drop-cons}
use Rattle.std.specs.Prelude.{nat_lt}
use Rattle.std.proofs.lemmas.Bool.{eqb-true, ltb-true, ltb-false}
use Rattle.std.proofs.lemmas.List.{take-append-drop, append_assoc, get_or-reverse, length-reverse, length-drop, length-take, length-take-le, get_or-drop, get_or-take, drop_all, take_more}
use Rattle.std.proofs.lemmas.List.Elements.{All-append}
use Rattle.std.proofs.lemmas.List.Sums.{prefix_len_passes, prefix_len_stops, suffix_len-le-length, fails_before_first, passes_at_first}
use Rattle.pv_where.specs.SourceLines.{ends_line, line_before, line_from}
use Rattle.pv_where.specs.Laws.{IsLineOf}

passed : (b : Bool) → not b ≡ true → b ≡ false
passed true e = absurd cc
passed false e = refl

failed : (b : Bool) → not b ≡ false → b ≡ true
failed true e = refl
failed false e = absurd cc

abbrev stays : ℕ → Bool
stays b = not (ends_line b)

-- where the last line of a text begins
abbrev last_begin : List ℕ → ℕ
last_begin text = length text - suffix_len stays text

last_one : (text : List ℕ) → All (λ b. ends_line b ≡ false) (after_last ends_line text)
last_one text k d h =
    let room : last_begin text + k < length text = omega (arith, h, length-drop (last_begin text) text, suffix_len-le-length stays text) in
    let back : ℕ = length text - 1 - (last_begin text + k) in
    let here : stays (get_or (reverse text) back d) ≡ true = prefix_len_passes stays (reverse text) back d (omega (arith, room, suffix_len-le-length stays text)) in
    let same : get_or (reverse text) back d ≡ get_or text (last_begin text + k) d = get_or-reverse text back d (omega (arith, room)) ∙ ap (λ (i : ℕ). get_or text i d) (omega (arith, room)) in
    ap ends_line (get_or-drop (last_begin text) text k d) ∙ passed (ends_line (get_or text (last_begin text + k) d)) (sym (ap stays same) ∙ here)

-- it begins behind a line feed
last_begun : (text : List ℕ) (n : ℕ) → n ≡ last_begin text → (take n text ≡ []) ⊎ ((lines : List ℕ) × (take n text ≡ lines ++ 10 ∷ []))
last_begun text zero e = inl refl
last_begun text (suc n) e =
    let within : suffix_len stays text < length (reverse text) = omega (arith, e, length-reverse text, suffix_len-le-length stays text) in
    let there : stays (get_or (reverse text) (suffix_len stays text) 0) ≡ false = prefix_len_stops stays (reverse text) 0 within in
    let same : get_or (reverse text) (suffix_len stays text) 0 ≡ get_or text n 0 = get_or-reverse text (suffix_len stays text) 0 (omega (arith, within, length-reverse text)) ∙ ap (λ (i : ℕ). get_or text i 0) (omega (arith, e, suffix_len-le-length stays text)) in
    let feed : get_or text n 0 ≡ 10 = eqb-true (get_or text n 0) 10 (failed (ends_line (get_or text n 0)) (sym (ap stays same) ∙ there)) in
    let more : n < length text = omega (arith, e) in
    inr (take n text, ap (λ (i : ℕ). take i text) (sym (add-one n)) ∙ take_more text n 0 more ∙ ap (λ (b : ℕ). take n text ++ b ∷ []) feed)

first_one : (text : List ℕ) → All (λ b. ends_line b ≡ false) (before_first ends_line text)
first_one text k d h =
    let room : k < position_or_len ends_line text = omega (arith, h, length-take (position_or_len ends_line text) text) in
    ap ends_line (get_or-take (position_or_len ends_line text) text k d room) ∙ fails_before_first ends_line text k d room

-- it ends before a line feed
first_ended : (text : List ℕ) → (drop (position_or_len ends_line text) text ≡ []) ⊎ ((rest : List ℕ) × (drop (position_or_len ends_line text) text ≡ 10 ∷ rest))
first_ended text = by (nat_lt (position_or_len ends_line text) (length text)) refl
  where
    by : (t : Bool) → nat_lt (position_or_len ends_line text) (length text) ≡ t → (drop (position_or_len ends_line text) text ≡ []) ⊎ ((rest : List ℕ) × (drop (position_or_len ends_line text) text ≡ 10 ∷ rest))
    by true e =
        let within = ltb-true (position_or_len ends_line text) (length text) e in
        let feed : get_or text (position_or_len ends_line text) 0 ≡ 10 = eqb-true (get_or text (position_or_len ends_line text) 0) 10 (passes_at_first ends_line text 0 within) in
        inr (drop (suc (position_or_len ends_line text)) text, drop-cons text (position_or_len ends_line text) 0 within ∙ ap (λ (b : ℕ). b ∷ drop (suc (position_or_len ends_line text)) text) feed)
    by false e = inl (drop_all (position_or_len ends_line text) text (ltb-false (position_or_len ends_line text) (length text) e))

pub line_stands : (source : List ℕ) (place : ℕ) → place ≤ length source → IsLineOf source place
line_stands source place h =
    let front : List ℕ = take place source in
    let back : List ℕ = drop place source in
    let whole_front = take-append-drop (last_begin front) front in
    let whole_back = take-append-drop (position_or_len ends_line back) back in
    record {
      before = take (last_begin front) front;
      behind = drop (position_or_len ends_line back) back;
      whole =
          sym (take-append-drop place source) ∙ ap (λ (t : List ℕ). t ++ back) (sym whole_front) ∙ ap (λ (t : List ℕ). (take (last_begin front) front ++ line_before source place) ++ t) (sym whole_back)
          ∙ simp append_assoc;
      counted = omega (arith, h, length-take-le place source h, suffix_len-le-length stays front, length-take-le (last_begin front) front (omega arith), length-drop (last_begin front) front);
      one = All-append (λ b. ends_line b ≡ false) (line_before source place) (line_from source place) (last_one front) (first_one back);
      begun = last_begun front (last_begin front) refl;
      ended = first_ended back;
    }
