-- What is read of a text depends on the bytes that are taken alone: with these bytes in front, and fewer behind them, the same is read.
use Rattle.std.proofs.Common.{◌≡◌, ℕ, zero, suc, ◌≤◌, min, List, [], ◌∷◌, ◌++◌, length, take, drop, Bool, true, false, cond, ◌||◌, ◌&&◌, Option, Some, None, nat_eq, refl, sym, ap, ◌∙◌, subst, append_assoc, length-take, length-take-le, take-append-drop, arith}
use Rattle.std.specs.Option.{option_map, option_and_then}
use Rattle.std.specs.List.{starts_with}
use Rattle.std.proofs.Math.Seq.{take-append_seam, drop-append_seam}
use Rattle.std.proofs.lemmas.List.{take-append-le}
use Rattle.std.proofs.lemmas.Slice.Eq.{bytes_eq-Decides}
use Rattle.pv_lex.specs.declared.bytes.Class.{Class}
use Rattle.pv_lex.specs.Bytes.{is_in, run, front, behind, begins}
use Rattle.pv_lex.specs.Tables.{first_row}
use Rattle.pv_lex.proofs.Runs.{run_within}

-- `R text after`: something is read of the text, and this is left behind it
pub record Takes (R : List ℕ → List ℕ → Type 0) (text after : List ℕ) : Type 0 where
  pub taken : List ℕ
  pub is : text ≡ taken ++ after
  pub again : (s r : List ℕ) → after ≡ s ++ r → R (taken ++ s) s

-- first the one, then the other
pub takes_then : (R S T : List ℕ → List ℕ → Type 0) (text mid after : List ℕ) → Takes R text mid → Takes S mid after → ((t m s : List ℕ) → R t m → S m s → T t s) → Takes T text after
takes_then R S T text mid after x y join = record {
  taken = x.taken ++ y.taken;
  is = x.is ∙ ap (λ l. x.taken ++ l) y.is ∙ sym (append_assoc x.taken y.taken after);
  again = λ s r e. let h : mid ≡ (y.taken ++ s) ++ r = y.is ∙ ap (λ l. y.taken ++ l) e ∙ sym (append_assoc y.taken s r) in
      subst (λ (t : List ℕ). T t s) (sym (append_assoc x.taken y.taken s)) (join _ _ _ (x.again (y.taken ++ s) r h) (y.again s r e));
}

-- the same bytes, read as more; what is read of stands in front of the text
pub takes_as : (R T : List ℕ → List ℕ → Type 0) (text after : List ℕ) → Takes R text after → ((t s r : List ℕ) → text ≡ t ++ r → after ≡ s ++ r → R t s → T t s) → Takes T text after
takes_as R T text after x more = record {
  taken = x.taken;
  is = x.is;
  again = λ s r e. more (x.taken ++ s) s r (x.is ∙ ap (λ l. x.taken ++ l) e ∙ sym (append_assoc x.taken s r)) e (x.again s r e);
}

-- one byte more in front
pub takes_byte : (R T : List ℕ → List ℕ → Type 0) (b : ℕ) (bs after : List ℕ) → Takes R bs after → ((t s r : List ℕ) → bs ≡ t ++ r → R t s → T (b ∷ t) s) → Takes T (b ∷ bs) after
takes_byte R T b bs after x more = record {
  taken = b ∷ x.taken;
  is = ap (λ l. b ∷ l) x.is;
  again = λ s r e. more (x.taken ++ s) s r (x.is ∙ ap (λ l. x.taken ++ l) e ∙ sym (append_assoc x.taken s r)) (x.again s r e);
}

-- nothing is taken
pub takes_none : (R : List ℕ → List ℕ → Type 0) (text : List ℕ) → ((s r : List ℕ) → text ≡ s ++ r → R s s) → Takes R text text
takes_none R text h = record { taken = []; is = refl; again = h }

-- Tests.

pub split : {A : Type 0} (P : Type 0) (t : Bool) (x y z : A) → (t ≡ true → x ≡ z → P) → (t ≡ false → y ≡ z → P) → cond t x y ≡ z → P
split P true x y z f g e = f refl e
split P false x y z f g e = g refl e

pub pick : {A : Type 0} (t : Bool) (x y z : A) → t ≡ true → x ≡ z → cond t x y ≡ z
pick true x y z h e = e
pick false x y z h e = absurd cc

pub pass : {A : Type 0} (t : Bool) (x y z : A) → t ≡ false → y ≡ z → cond t x y ≡ z
pass true x y z h e = absurd cc
pass false x y z h e = e

pub and_cut : (a b c : Bool) → (b ≡ false → c ≡ false) → (a && b) ≡ false → (a && c) ≡ false
and_cut true b c f e = f e
and_cut false b c f e = refl

pub or_false : (a b : Bool) → (a || b) ≡ false → (a ≡ false) × (b ≡ false)
or_false true b e = absurd cc
or_false false b e = (refl, e)

pub not_both : {P : Type 0} (t : Bool) → t ≡ true → t ≡ false → P
not_both t h e = absurd cc

pub tested : (t : Bool) → (t ≡ true → ⊥) → t ≡ false
tested true f = absurd (f refl)
tested false f = refl

-- what is not so of the text is not so of a front of it
pub begins_cut : (p : ℕ → Bool) (text s r : List ℕ) → text ≡ s ++ r → begins p text ≡ false → begins p s ≡ false
begins_cut p text [] r e h = refl
begins_cut p text (c ∷ s) r e h = sym (ap (begins p) e) ∙ h

pub begins_front : (p : ℕ → Bool) (text s r : List ℕ) → text ≡ s ++ r → begins p s ≡ true → begins p text ≡ true
begins_front p text [] r e h = absurd cc
begins_front p text (c ∷ s) r e h = ap (begins p) e ∙ h

first_of_both : (b c : ℕ) (bs s r : List ℕ) → b ∷ bs ≡ (c ∷ s) ++ r → b ≡ c
first_of_both b c bs s r e = cc

starts_length : (u p : List ℕ) → starts_with nat_eq u p ≡ true → length p ≤ length u
starts_length u p e =
    let h : length p ≡ min (length p) (length u) = ap length ((bytes_eq-Decides p (take (length p) u)).0 e) ∙ length-take (length p) u in
    omega (arith, h)

pub starts_more : (u r p : List ℕ) → starts_with nat_eq u p ≡ true → starts_with nat_eq (u ++ r) p ≡ true
starts_more u r p e = (bytes_eq-Decides p (take (length p) (u ++ r))).1 ((bytes_eq-Decides p (take (length p) u)).0 e ∙ sym (take-append-le (length p) u r (starts_length u p e)))

pub starts_less : (u r p : List ℕ) → length p ≤ length u → starts_with nat_eq (u ++ r) p ≡ true → starts_with nat_eq u p ≡ true
starts_less u r p le e = (bytes_eq-Decides p (take (length p) u)).1 ((bytes_eq-Decides p (take (length p) (u ++ r))).0 e ∙ take-append-le (length p) u r le)

pub starts_cut : (text u r p : List ℕ) → text ≡ u ++ r → starts_with nat_eq text p ≡ false → starts_with nat_eq u p ≡ false
starts_cut text u r p e h = tested (starts_with nat_eq u p) (λ k. not_both (starts_with nat_eq text p) (ap (λ t. starts_with nat_eq t p) e ∙ starts_more u r p k) h)

pub starts_front : (text p : List ℕ) → starts_with nat_eq text p ≡ true → text ≡ p ++ drop (length p) text
starts_front text p e = sym (take-append-drop (length p) text) ∙ ap (λ l. l ++ drop (length p) text) (sym ((bytes_eq-Decides p (take (length p) text)).0 e))

-- Options.

pub bound : {A B : Type 0} (P : Type 0) (o : Option A) (f : A → Option B) (z : B) → ((x : A) → o ≡ Some x → f x ≡ Some z → P) → option_and_then f o ≡ Some z → P
bound P None f z g e = absurd cc
bound P (Some x) f z g e = g x refl e

pub mapped : {A B : Type 0} (P : Type 0) (o : Option A) (f : A → B) (z : B) → ((x : A) → o ≡ Some x → f x ≡ z → P) → option_map f o ≡ Some z → P
mapped P None f z g e = absurd cc
mapped P (Some x) f z g e = let h : f x ≡ z = cc in g x refl h

-- Runs.

run_head : (k : Class) (b : ℕ) (bs s r : List ℕ) → is_in k b ≡ false → b ∷ bs ≡ s ++ r → run k s ≡ 0
unfolding run
run_head k b bs [] r h e = refl
run_head k b bs (c ∷ s) r h e = ap (λ t. cond t (suc (run k s)) 0) (subst (λ (z : ℕ). is_in k z ≡ false) (first_of_both b c bs s r e) h)

run_by : (k : Class) (b : ℕ) (bs s r : List ℕ) (t : Bool) → is_in k b ≡ t → (behind k bs ≡ s ++ r → run k (front k bs ++ s) ≡ run k bs) → drop (cond t (suc (run k bs)) 0) (b ∷ bs) ≡ s ++ r
    → run k (take (cond t (suc (run k bs)) 0) (b ∷ bs) ++ s) ≡ cond t (suc (run k bs)) 0
unfolding run
run_by k b bs s r true h more e = ap (λ t. cond t (suc (run k (front k bs ++ s))) 0) h ∙ ap suc (more e)
run_by k b bs s r false h more e = run_head k b bs s r h e

-- a run is as long where the text is cut off behind it
pub run_cut : (k : Class) (text s r : List ℕ) → behind k text ≡ s ++ r → run k (front k text ++ s) ≡ run k text
unfolding run
run_cut k [] [] r e = refl
run_cut k [] (c ∷ s) r e = absurd cc
run_cut k (b ∷ bs) s r e = run_by k b bs s r (is_in k b) refl (run_cut k bs s r) e

front_length : (k : Class) (text : List ℕ) → length (front k text) ≡ run k text
front_length k text = length-take-le (run k text) text (run_within k text)

pub front_again : (k : Class) (text s r : List ℕ) → behind k text ≡ s ++ r → front k (front k text ++ s) ≡ front k text
front_again k text s r e = ap (λ n. take n (front k text ++ s)) (run_cut k text s r e ∙ sym (front_length k text)) ∙ take-append_seam (front k text) s

pub behind_again : (k : Class) (text s r : List ℕ) → behind k text ≡ s ++ r → behind k (front k text ++ s) ≡ s
behind_again k text s r e = ap (λ n. drop n (front k text ++ s)) (run_cut k text s r e ∙ sym (front_length k text)) ∙ drop-append_seam (front k text) s

-- the whole run of a class, of these bytes
pub record IsRun (k : Class) (bytes : List ℕ) (text after : List ℕ) : Type 0 where
  pub front : front k text ≡ bytes
  pub behind : behind k text ≡ after

pub takes_run : (k : Class) (text : List ℕ) → Takes (IsRun k (front k text)) text (behind k text)
takes_run k text = record {
  taken = front k text;
  is = sym (take-append-drop (run k text) text);
  again = λ s r e. record { front = front_again k text s r e; behind = behind_again k text s r e };
}

run_more_by : (k : Class) (b n : ℕ) (bs s : List ℕ) (t : Bool) → (n ≤ run k bs → n ≤ run k (take n bs ++ s)) → suc n ≤ cond t (suc (run k bs)) 0 → suc n ≤ cond t (suc (run k (take n bs ++ s))) 0
run_more_by k b n bs s true more h = let m = more (omega arith) in omega (arith, m)
run_more_by k b n bs s false more h = absurd (omega arith)

-- a part of a run is a run of as many bytes at least
pub run_part : (k : Class) (n : ℕ) (text s : List ℕ) → n ≤ run k text → n ≤ run k (take n text ++ s)
unfolding run
run_part k zero text s h = omega arith
run_part k (suc n) [] s h = absurd (omega arith)
run_part k (suc n) (b ∷ bs) s h = run_more_by k b n bs s (is_in k b) (run_part k n bs s) h

-- Tables.

row_by : {A : Type 0} (row x : List ℕ × A) (rest other : Option (List ℕ × A)) (text u r : List ℕ) (t : Bool) → starts_with nat_eq text row.0 ≡ t → text ≡ u ++ r → length x.0 ≤ length u → (rest ≡ Some x → other ≡ Some x)
    → cond t (Some row) rest ≡ Some x → cond (starts_with nat_eq u row.0) (Some row) other ≡ Some x
row_by {A} row x rest other text u r true h is le more e =
    let same : row ≡ x = cc in
    let short : length row.0 ≤ length u = subst (λ (z : List ℕ × A). length z.0 ≤ length u) (sym same) le in
    pick (starts_with nat_eq u row.0) (Some row) other (Some x) (starts_less u r row.0 short (sym (ap (λ l. starts_with nat_eq l row.0) is) ∙ h)) e
row_by row x rest other text u r false h is le more e = pass (starts_with nat_eq u row.0) (Some row) other (Some x) (starts_cut text u r row.0 is h) (more e)

-- a front of the text that holds the first row has the same first row
pub row_cut : {A : Type 0} (rows : List (List ℕ × A)) (text u r : List ℕ) (x : List ℕ × A) → text ≡ u ++ r → length x.0 ≤ length u → first_row rows text ≡ Some x → first_row rows u ≡ Some x
row_cut [] text u r x is le e = absurd cc
row_cut (row ∷ rows) text u r x is le e = row_by row x (first_row rows text) (first_row rows u) text u r (starts_with nat_eq text row.0) refl is le (row_cut rows text u r x is le) e

row_starts_by : {A : Type 0} (row x : List ℕ × A) (rest : Option (List ℕ × A)) (text : List ℕ) (t : Bool) → starts_with nat_eq text row.0 ≡ t → (rest ≡ Some x → starts_with nat_eq text x.0 ≡ true) → cond t (Some row) rest ≡ Some x → starts_with nat_eq text x.0 ≡ true
row_starts_by {A} row x rest text true h more e = let same : row ≡ x = cc in subst (λ (z : List ℕ × A). starts_with nat_eq text z.0 ≡ true) same h
row_starts_by row x rest text false h more e = more e

pub row_starts : {A : Type 0} (rows : List (List ℕ × A)) (text : List ℕ) (x : List ℕ × A) → first_row rows text ≡ Some x → starts_with nat_eq text x.0 ≡ true
row_starts [] text x e = absurd cc
row_starts (row ∷ rows) text x e = row_starts_by row x (first_row rows text) text (starts_with nat_eq text row.0) refl (row_starts rows text x) e

none_by : {A : Type 0} (row : List ℕ × A) (rest other : Option (List ℕ × A)) (text u r : List ℕ) (t : Bool) → starts_with nat_eq text row.0 ≡ t → text ≡ u ++ r → (rest ≡ None → other ≡ None) → cond t (Some row) rest ≡ None → cond (starts_with nat_eq u row.0) (Some row) other ≡ None
none_by row rest other text u r true h is more e = absurd cc
none_by row rest other text u r false h is more e = pass (starts_with nat_eq u row.0) (Some row) other None (starts_cut text u r row.0 is h) (more e)

-- no row stands at a front of a text at which none stands
pub no_row_cut : {A : Type 0} (rows : List (List ℕ × A)) (text u r : List ℕ) → text ≡ u ++ r → first_row rows text ≡ None → first_row rows u ≡ None
no_row_cut [] text u r is e = refl
no_row_cut (row ∷ rows) text u r is e = none_by row (first_row rows text) (first_row rows u) text u r (starts_with nat_eq text row.0) refl is (no_row_cut rows text u r is) e
