-- What the index tells of accesses.
use Rattle.std.proofs.Common.{◌≡◌, ◌≤◌, ◌<◌, ◌+◌, ◌-◌, ℕ, zero, suc, Bool, true, false, ◌||◌, ◌&&◌, List, [], ◌∷◌, ◌++◌, length, get_or, Some, None, cond, if◌then◌else◌, refl, sym, ap, subst, ◌∙◌, arith, inl, inr}
use Rattle.std.specs.Prelude.{find}
use Rattle.std.specs.Option.{option_or}
use Rattle.std.proofs.lemmas.List.{length_push, get_or_append_left}
use Rattle.std.proofs.lemmas.Bool.{cases_Bool, cases_eq, true≢false}
use Rattle.pv_seq.specs.Sequencing.{Access, clash, overlap}
use Rattle.pv_seq.specs.Marks.{is_marked_at, NoneMarked}
use Rattle.pv_seq.specs.Found.{is_narrow, no_access, IsFound, AreFound, NoneClash, Stands}
use Rattle.pv_seq.specs.Frames.{row}
use Rattle.pv_seq.specs.declared.index.Index.{Index}
use Rattle.pv_seq.proofs.Bytes.{ShareByte, overlapping_share}
use Rattle.pv_seq.proofs.Rows.{row_none, row_joined}
use Rattle.pv_seq.proofs.Rivals.{find_both}
use Rattle.pv_seq.proofs.Writes.{one_row}

-- a byte of both that is marked for one and not for the other
none_shared : (x : Index) (a b : Access) (n start end : ℕ) → start ≤ n → n < end → ShareByte a b → (w : Bool) → b.writes ≡ w → is_narrow b ≡ true → IsFound x b n → NoneMarked x.writes a.place a.length start end
    → (w ≡ false → NoneMarked x.reads a.place a.length start end) → ⊥
none_shared x a b n start end le lt (m, (p, q), (r, t)) true w narrow f nw nr =
    let i : a.place + (m - a.place) ≡ b.place + (m - b.place) = omega (arith, p, r) in
    true≢false (sym (f.0 narrow w (m - b.place) (omega (arith, r, t))) ∙ ap (λ k. is_marked_at x.writes k n) (sym i) ∙ nw (m - a.place) n (omega (arith, p, q)) le lt)
none_shared x a b n start end le lt (m, (p, q), (r, t)) false w narrow f nw nr =
    let i : a.place + (m - a.place) ≡ b.place + (m - b.place) = omega (arith, p, r) in
    true≢false (sym (f.1 narrow w (m - b.place) (omega (arith, r, t))) ∙ ap (λ k. is_marked_at x.reads k n) (sym i) ∙ nr refl (m - a.place) n (omega (arith, p, q)) le lt)

and_right : (p q : Bool) → (p && q) ≡ true → q ≡ true
and_right true q e = e
and_right false q e = absurd (true≢false (sym e))

and_left : (p q : Bool) → (p && q) ≡ true → p ≡ true
and_left true q e = refl
and_left false q e = e

no_clash : (x : Index) (a b : Access) (n start end : ℕ) → start ≤ n → n < end → is_narrow b ≡ true → IsFound x b n → NoneMarked x.writes a.place a.length start end
    → (a.writes ≡ true → NoneMarked x.reads a.place a.length start end) → clash a b ≡ false
no_clash x a b n start end le lt narrow f nw nr = elim (cases_Bool (clash a b)) [
  | inl e ↦
      absurd
      (none_shared x a b n start end le lt (overlapping_share a b (and_right (b.writes || a.writes) (overlap a b) e)) b.writes refl narrow f nw
      (λ w. nr (ap (λ v. v || a.writes) (sym w) ∙ and_left (b.writes || a.writes) (overlap a b) e)))
  | inr e ↦ e
]

pub none_clash : (x : Index) (ws : List ℕ) (accesses : List Access) (a : Access) (start end : ℕ) → ws ≡ x.wide.items → AreFound x accesses → end ≤ x.known → NoneMarked x.writes a.place a.length start end
    → (a.writes ≡ true → NoneMarked x.reads a.place a.length start end)
    → ((n : ℕ) → Stands ws n → start ≤ n → n < end → clash a (get_or accesses n no_access) ≡ false) → NoneClash a accesses start end
none_clash x ws accesses a start end e h known nw nr g = λ n le lt.
    let f = h.1 n (omega (arith, lt, known)) in
    elim (cases_Bool (is_narrow (get_or accesses n no_access))) [
      | inl narrow ↦ no_clash x a (get_or accesses n no_access) n start end le lt narrow f nw nr
      | inr wide ↦ g n (subst (λ xs. Stands xs n) (sym e) (f.2 wide)) le lt
    ]

-- ---- a row without a rival

none_in : (a : Access) (xs : List Access) (start m : ℕ) → start + m ≤ length xs → NoneClash a xs start (start + m) → find (clash a) (row start (start + m) xs) ≡ None
none_in a xs start zero le h =
    let e : start + zero ≡ start = omega arith in
    ap (λ n. find (clash a) (row start n xs)) e ∙ ap (find (clash a)) (row_none start xs (omega (arith, le)))
none_in a xs start (suc m) le h =
    let e : start + suc m ≡ (start + m) + 1 = omega arith in
    let one : find (clash a) (row (start + m) ((start + m) + 1) xs) ≡ None = ap (find (clash a)) (one_row xs (start + m) no_access (omega (arith, le))) ∙ ap (λ b. cond b (Some (get_or xs (start + m) no_access)) None) (h (start + m) (omega arith) (omega arith)) in
    ap (λ n. find (clash a) (row start n xs)) e
    ∙ ap (find (clash a)) (sym (row_joined start (start + m) ((start + m) + 1) xs (omega arith) (omega arith)))
    ∙ find_both (clash a) (row start (start + m) xs) (row (start + m) ((start + m) + 1) xs)
    ∙ ap (λ x. option_or x (find (clash a) (row (start + m) ((start + m) + 1) xs))) (none_in a xs start m (omega (arith, le)) (λ n from lt. h n from (omega (arith, lt))))
    ∙ one

pub none_row : (a : Access) (xs : List Access) (start end : ℕ) → start ≤ end → end ≤ length xs → NoneClash a xs start end → find (clash a) (row start end xs) ≡ None
none_row a xs start end order le h =
    let e : start + (end - start) ≡ end = omega (arith, order) in
    subst (λ n. find (clash a) (row start n xs) ≡ None) e (none_in a xs start (end - start) (omega (arith, e, le)) (subst (NoneClash a xs start) (sym e) h))

-- ---- accesses that the index learns

pub found_kept : (x y : Index) (accesses : List Access) → ((b : Access) (n : ℕ) → IsFound x b n → IsFound y b n) → y.known ≡ x.known → AreFound x accesses → AreFound y accesses
found_kept x y accesses kept e h =
    let le = h.0 in
    (omega (arith, le, e), λ n lt. kept (get_or accesses n no_access) n (h.1 n (omega (arith, lt, e))))

pub found_more : (x y : Index) (accesses : List Access) → ((b : Access) (n : ℕ) → IsFound x b n → IsFound y b n) → x.known < length accesses → IsFound y (get_or accesses x.known no_access) x.known → AreFound x accesses
    → (x.known + 1 ≤ length accesses) × ((n : ℕ) → n < x.known + 1 → IsFound y (get_or accesses n no_access) n)
found_more x y accesses kept some f h = (
  omega (arith, some),
  λ n lt. elim (cases_eq n x.known) [
    | inl e ↦ subst (λ k. IsFound y (get_or accesses k no_access) k) (sym e) f
    | inr other ↦ kept (get_or accesses n no_access) n (h.1 n (omega (arith, lt, other)))
  ],
)

-- ---- accesses that the index forgets, lists that grow and are cut

pub found_less : (x y : Index) (accesses : List Access) (m : ℕ) → x.known ≡ m + 1 → ((b : Access) (n : ℕ) → n < m → IsFound x b n → IsFound y b n) → AreFound x accesses
    → (m ≤ length accesses) × ((n : ℕ) → n < m → IsFound y (get_or accesses n no_access) n)
found_less x y accesses m e kept h =
    let le = h.0 in
    (omega (arith, le, e), λ n lt. kept (get_or accesses n no_access) n lt (h.1 n (omega (arith, lt, e))))

pub found_pushed : (x : Index) (accesses : List Access) (a : Access) → AreFound x accesses → AreFound x (accesses ++ a ∷ [])
found_pushed x accesses a h =
    let le = h.0 in
    let long = length_push accesses a in
    (omega (arith, long, le), λ n lt. subst (λ b. IsFound x b n) (sym (get_or_append_left accesses (a ∷ []) no_access n (omega (arith, lt, le)))) (h.1 n lt))

-- ---- where the search begins

pub begins_later : (a : Access) (xs : List Access) (start middle end : ℕ) → start ≤ middle → middle ≤ end → end ≤ length xs → NoneClash a xs start middle → find (clash a) (row middle end xs) ≡ find (clash a) (row start end xs)
begins_later a xs start middle end le order whole h = sym (
    ap (find (clash a)) (sym (row_joined start middle end xs le order)) ∙ find_both (clash a) (row start middle xs) (row middle end xs)
    ∙ ap (λ x. option_or x (find (clash a) (row middle end xs))) (none_row a xs start middle le (omega (arith, order, whole)) h)
    )

found_either : (x : Index) (ls : List Access) (a : Access) (w : Bool) → AreFound x ls → AreFound x (if w then ls ++ a ∷ [] else ls)
found_either x ls a true h = found_pushed x ls a h
found_either x ls a false h = h

pub found_noted : (x : Index) (ls ks : List Access) (a : Access) → ks ≡ (if a.writes then ls ++ a ∷ [] else ls) → AreFound x ls → AreFound x ks
found_noted x ls ks a e h = subst (AreFound x) (sym e) (found_either x ls a a.writes h)
