-- External declarations, one after the other.
use Rattle.std.proofs.Common.{◌≡◌, ℕ, zero, suc, ◌+◌, ◌-◌, ◌<◌, ◌≤◌, Bool, true, false, not, ◌&&◌, ◌⊎◌, inl, inr, nat_lt, if◌then◌else◌, List, [], ◌∷◌, Option, Some, None, is_some, length, take, get_or, map, refl, sym, ◌∙◌, ap, arith}
use Rattle.std.proofs.lemmas.Bool.Decides.{nat_tests}
use Rattle.std.specs.List.{slice_get}
use Rattle.std.proofs.lemmas.List.{take_all, get_or-map}
use Rattle.std.proofs.lemmas.Option.{get_or_from_slice_get, slice_get_within}
use Rattle.pv_tree.specs.Syntax.{DeclarationTree}
use Rattle.pv_typed.specs.Constants.{and_then}
use Rattle.pv_unit.specs.Definitions.{may_end}
use Rattle.pv_unit.specs.Redeclarations.{UnitState}
use Rattle.pv_unit.specs.Functions.{typed_external}
use Rattle.pv_unit.specs.Units.{typed_first, typed_last, typed_to, IsTyped, Breaks}

some_again : {S : Type 0} (o : Option S) → and_then o (λ s. Some s) ≡ o
some_again None = refl
some_again (Some s) = refl

chained : {S : Type 0} (f g : S → Option S) (h : S → Option S) (o : Option S) → ((s : S) → f s ≡ and_then (g s) h) → and_then o f ≡ and_then (and_then o g) h
chained f g h None e = refl
chained f g h (Some s) e = e s

-- one declaration more
pub first_more : (ds : List DeclarationTree) (i : ℕ) (d : DeclarationTree) (s : UnitState) → i < length ds
    → typed_first (take (suc i) ds) s ≡ and_then (typed_first (take i ds) s) (typed_external (get_or ds i d))
first_more [] i d s lt = absurd (omega arith)
first_more (x ∷ xs) zero d s lt = some_again (typed_external x s)
first_more (x ∷ xs) (suc i) d s lt = chained (typed_first (take (suc i) xs)) (typed_first (take i xs)) (typed_external (get_or xs i d)) (typed_external x s) (λ t. first_more xs i d t (omega arith))

abbrev Up : List DeclarationTree → ℕ → UnitState → UnitState → Type 0
Up ds i first s = typed_first (take i ds) first ≡ Some s

pub up_next : (ds : List DeclarationTree) (i : ℕ) (d : DeclarationTree) (first s t : UnitState) → i < length ds → Up ds i first s → Some t ≡ typed_external (get_or ds i d) s → Up ds (i + 1) first t
up_next ds i d first s t lt up e =
    let next : suc i ≡ i + 1 = omega arith in
    ap (λ k. typed_first (take k ds) first) (sym next) ∙ first_more ds i d first lt ∙ ap (λ o. and_then o (typed_external (get_or ds i d))) up ∙ sym e

below : {S : Type 0} (b : Bool) (x y : Option S) → b ≡ true → (if b then x else y) ≡ x
below true x y e = refl
below false x y e = cc

above : {S : Type 0} (b : Bool) (x y : Option S) → b ≡ false → (if b then x else y) ≡ y
above true x y e = cc
above false x y e = refl

pub to_below : (ds : List DeclarationTree) (n : ℕ) (s : UnitState) → n < length ds → typed_to ds n s ≡ typed_first (take n ds) s
unfolding typed_to
to_below ds n s lt = below (nat_lt n (length ds)) _ _ (grind (arith, nat_tests))

pub to_whole : (ds : List DeclarationTree) (n : ℕ) (s : UnitState) → length ds ≤ n → typed_to ds n s ≡ and_then (typed_first ds s) (typed_last ds)
unfolding typed_to
to_whole ds n s h = above (nat_lt n (length ds)) _ _ (grind (arith, nat_tests))

none_here : (ds : List DeclarationTree) (i : ℕ) (s : UnitState) → i < length ds → typed_first (take (suc i) ds) s ≡ None → (suc i < length ds) ⊎ (length ds ≤ suc i) → typed_to ds (suc i) s ≡ None
none_here ds i s lt e (inl more) = to_below ds (suc i) s more ∙ e
none_here ds i s lt e (inr end) = to_whole ds (suc i) s end ∙ ap (λ xs. and_then (typed_first xs s) (typed_last ds)) (sym (take_all (suc i) ds end)) ∙ ap (λ o. and_then o (typed_last ds)) e

pub either : (m n : ℕ) → (m < n) ⊎ (n ≤ m)
either m n = grind arith

some_is : {S : Type 0} (o : Option S) (s : S) → o ≡ Some s → is_some o ≡ true
some_is o s e = rw e refl

-- a declaration without a typing
pub breaks_at : (ds : List DeclarationTree) (i : ℕ) (d : DeclarationTree) (first s : UnitState) → i < length ds → Up ds i first s → None ≡ typed_external (get_or ds i d) s → Breaks ds first i
breaks_at ds i d first s lt up e =
    let none = first_more ds i d first lt ∙ ap (λ o. and_then o (typed_external (get_or ds i d))) up ∙ sym e in
    let next : suc i ≡ i + 1 = omega arith in
    record {
      within = lt;
      before = some_is _ s (to_below ds i first lt ∙ up);
      at = ap (λ k. typed_to ds k first) (sym next) ∙ none_here ds i first lt none (either (suc i) (length ds));
    }

last_is : (ds : List DeclarationTree) (s : UnitState) → 0 < length ds → typed_last ds s ≡ (if may_end s then Some s else None)
last_is [] s lt = absurd (omega arith)
last_is (d ∷ ds) s lt = refl

no_if : {S : Type 0} (b : Bool) (s : S) → b ≡ false → (if b then Some s else None) ≡ None
no_if true s e = cc
no_if false s e = refl

so_if : {S : Type 0} (b : Bool) (s : S) → b ≡ true → (if b then Some s else None) ≡ Some s
so_if true s e = refl
so_if false s e = cc

some_before : {S : Type 0} (f : S → Option S) (o : Option S) (s : S) → and_then o f ≡ Some s → is_some o ≡ true
some_before f None s e = cc
some_before f (Some t) s e = refl

-- what the unit leaves open
pub breaks_last : (ds : List DeclarationTree) (n : ℕ) (d : DeclarationTree) (first s : UnitState) → length ds ≡ suc n → Up ds (suc n) first s → may_end s ≡ false → Breaks ds first n
breaks_last ds n d first s size up open_end =
    let lt : n < length ds = omega (arith, size) in
    let end : length ds ≤ suc n = omega (arith, size) in
    let next : suc n ≡ n + 1 = omega arith in
    let before = some_before (typed_external (get_or ds n d)) (typed_first (take n ds) first) s (sym (first_more ds n d first lt) ∙ up) in
    let all = sym (ap (λ xs. typed_first xs first) (take_all (suc n) ds end)) ∙ up in
    record {
      within = lt;
      before = ap is_some (to_below ds n first lt) ∙ before;
      at = ap (λ k. typed_to ds k first) (sym next) ∙ to_whole ds (suc n) first end ∙ ap (λ o. and_then o (typed_last ds)) all ∙ last_is ds s (omega (arith, size)) ∙ no_if (may_end s) s open_end;
    }

last_some : (ds : List DeclarationTree) (s : UnitState) → (nat_lt 0 (length ds) && not (may_end s)) ≡ false → typed_last ds s ≡ Some s
last_some [] s e = refl
last_some (d ∷ ds) s e = so_if (may_end s) s (closed (length ds) (may_end s) e)
  where
    closed : (n : ℕ) (b : Bool) → (nat_lt 0 (suc n) && not b) ≡ false → b ≡ true
    closed n true e = refl
    closed n false e = grind (arith, nat_tests)

-- all have a typing
pub all_typed : (ds : List DeclarationTree) (n : ℕ) (first s : UnitState) → length ds ≡ n → Up ds n first s → (nat_lt 0 n && not (may_end s)) ≡ false → IsTyped ds first s
all_typed ds n first s size up closed =
    let end : length ds ≤ n = omega (arith, size) in
    let all = sym (ap (λ xs. typed_first xs first) (take_all n ds end)) ∙ up in
    let own : (nat_lt 0 (length ds) && not (may_end s)) ≡ false = ap (λ k. nat_lt 0 k && not (may_end s)) size ∙ closed in
    to_whole ds (length ds) first (omega arith) ∙ ap (λ o. and_then o (typed_last ds)) all ∙ last_some ds s own

pub left_open : (n : ℕ) (b : Bool) → (nat_lt 0 n && not b) ≡ true → (0 < n) × (b ≡ false)
left_open n true e = absurd (never (nat_lt 0 n) e)
  where
    never : (c : Bool) → (c && false) ≡ true → ⊥
    never true e = cc
    never false e = cc
left_open n false e = (grind (arith, nat_tests), refl)

pub counted_open : (n : ℕ) (a b : Bool) → 0 < n → a ≡ b → not a ≡ (nat_lt 0 n && not b)
counted_open n a b lt e = let some : nat_lt 0 n ≡ true = grind (arith, nat_tests) in ap not e ∙ ap (λ c. c && not b) (sym some)

-- ---- names

-- external declaration number i
pub declaration_is : {A : Type 0} (f : A → DeclarationTree) (xs : List A) (i : ℕ) (x : A) (d : DeclarationTree) → slice_get xs i ≡ Some x → get_or (map f xs) i d ≡ f x
declaration_is f xs i x d e = get_or-map f xs i x d (slice_get_within xs i x e) ∙ ap f (get_or_from_slice_get xs i x x e)

-- behind the last declaration
pub at_end : (i n : ℕ) → i ≤ n → n ≤ i → n ≡ i
at_end i n le end = omega (arith, le, end)

pub ended : (i n : ℕ) → i ≤ n → n ≤ i → 0 < n → suc (n - 1) ≡ i
ended i n le end lt = omega (arith, le, end, lt)
