-- Of each unit there is one answer, and no other.
use Rattle.std.proofs.Common.{◌≡◌, ℕ, zero, suc, ◌+◌, ◌<◌, ◌≤◌, Bool, true, false, ◌⊎◌, inl, inr, List, [], ◌∷◌, Option, Some, None, is_some, length, take, refl, sym, ◌∙◌, ap, subst, arith}
use Rattle.std.proofs.lemmas.List.{take_all}
use Rattle.pv_token.specs.Table.{Table}
use Rattle.pv_tree.specs.Syntax.{DeclarationTree}
use Rattle.pv_typed.specs.Constants.{and_then}
use Rattle.pv_unit.specs.Redeclarations.{UnitState}
use Rattle.pv_unit.specs.Functions.{typed_external}
use Rattle.pv_unit.specs.Units.{Breaks, Checked, Constraint, IsTyped, NoMain, Typed, UnitComes, Unresolved, finished_unit, unit_at_first, has_main, typed_first, typed_last, typed_to, first_unresolved}
use Rattle.pv_unit.proofs.Firsts.{either, to_below, to_whole}

-- ---- fewer declarations have a typing where more have one

some_none : {A B : Type 0} (o : Option A) → is_some o ≡ true → o ≡ None → B
some_none None e f = absurd cc
some_none (Some a) e f = absurd cc

before_some : {A : Type 0} (o : Option A) (f : A → Option A) → is_some (and_then o f) ≡ true → is_some o ≡ true
before_some None f e = e
before_some (Some a) f e = refl

then_some : {A : Type 0} (o : Option A) (f g : A → Option A) → ((a : A) → is_some (f a) ≡ true → is_some (g a) ≡ true) → is_some (and_then o f) ≡ true → is_some (and_then o g) ≡ true
then_some None f g k e = e
then_some (Some a) f g k e = k a e

first_fewer : (ds : List DeclarationTree) (k m : ℕ) (u : UnitState) → k ≤ m → is_some (typed_first (take m ds) u) ≡ true → is_some (typed_first (take k ds) u) ≡ true
first_fewer [] zero m u le e = refl
first_fewer [] (suc k) m u le e = refl
first_fewer (d ∷ ds) zero m u le e = refl
first_fewer (d ∷ ds) (suc k) zero u le e = absurd (omega (arith, le))
first_fewer (d ∷ ds) (suc k) (suc m) u le e = then_some (typed_external d u) (typed_first (take m ds)) (typed_first (take k ds)) (λ v h. first_fewer ds k m v (omega (arith, le)) h) e

whole_first : (ds : List DeclarationTree) (m : ℕ) (u : UnitState) → length ds ≤ m → is_some (typed_to ds m u) ≡ true → is_some (typed_first (take (length ds) ds) u) ≡ true
whole_first ds m u le e =
    let all : is_some (typed_first ds u) ≡ true = before_some (typed_first ds u) (typed_last ds) (sym (ap is_some (to_whole ds m u le)) ∙ e) in
    ap (λ xs. is_some (typed_first xs u)) (take_all (length ds) ds (omega arith)) ∙ all

fewer_below : (ds : List DeclarationTree) (k m : ℕ) (u : UnitState) → k ≤ m → k < length ds → (m < length ds) ⊎ (length ds ≤ m) → is_some (typed_to ds m u) ≡ true → is_some (typed_to ds k u) ≡ true
fewer_below ds k m u le lt (inl more) e = ap is_some (to_below ds k u lt) ∙ first_fewer ds k m u le (sym (ap is_some (to_below ds m u more)) ∙ e)
fewer_below ds k m u le lt (inr end) e = ap is_some (to_below ds k u lt) ∙ first_fewer ds k (length ds) u (omega (arith, lt)) (whole_first ds m u end e)

fewer : (ds : List DeclarationTree) (k m : ℕ) (u : UnitState) → k ≤ m → (k < length ds) ⊎ (length ds ≤ k) → is_some (typed_to ds m u) ≡ true → is_some (typed_to ds k u) ≡ true
fewer ds k m u le (inl lt) e = fewer_below ds k m u le lt (either m (length ds)) e
fewer ds k m u le (inr end) e = ap is_some (to_whole ds k u end ∙ sym (to_whole ds m u (omega (arith, le, end)))) ∙ e

-- ---- no other answer

-- where one declaration more has none, no more have one
no_more : {B : Type 0} (ds : List DeclarationTree) (u : UnitState) (n m : ℕ) → Breaks ds u n → n < m → is_some (typed_to ds m u) ≡ true → B
no_more ds u n m b lt e = some_none (typed_to ds (n + 1) u) (fewer ds (n + 1) m u (omega (arith, lt)) (either (n + 1) (length ds)) e) b.at

not_both : {B : Type 0} (ds : List DeclarationTree) (u v : UnitState) (n : ℕ) → Breaks ds u n → IsTyped ds u v → B
not_both ds u v n b e = no_more ds u n (length ds) b b.within (ap is_some e)

same_break : (ds : List DeclarationTree) (u : UnitState) (n m : ℕ) → Breaks ds u n → Breaks ds u m → (n < m) ⊎ (m ≤ n) → (m < n) ⊎ (n ≤ m) → n ≡ m
same_break ds u n m a b (inl lt) o = no_more ds u n m a lt b.before
same_break ds u n m a b (inr le) (inl lt) = no_more ds u m n b lt a.before
same_break ds u n m a b (inr le) (inr ge) = omega (arith, le, ge)

unit_or : UnitState → Option UnitState → UnitState
unit_or d None = d
unit_or d (Some u) = u

same_unit : (ds : List DeclarationTree) (u v w : UnitState) → IsTyped ds u v → IsTyped ds u w → v ≡ w
unfolding unit_or
same_unit ds u v w a b = ap (unit_or v) (sym a ∙ b)

name_or : ℕ → Option ℕ → ℕ
name_or d None = d
name_or d (Some n) = n

same_name : (o : Option ℕ) (m n : ℕ) → o ≡ Some m → o ≡ Some n → m ≡ n
unfolding name_or
same_name o m n a b = ap (name_or m) (sym a ∙ b)

named_none : {B : Type 0} (o : Option ℕ) (n : ℕ) → o ≡ Some n → o ≡ None → B
named_none None n a b = absurd cc
named_none (Some m) n a b = absurd cc

true_false : {B : Type 0} (b : Bool) → b ≡ true → b ≡ false → B
true_false true e f = absurd cc
true_false false e f = absurd cc

pub one_answer : (t : Table) (ds : List DeclarationTree) (a b : Checked) → UnitComes t ds a → UnitComes t ds b → a ≡ b
one_answer t ds (Constraint n) (Constraint m) x y = ap Constraint (same_break ds (unit_at_first t) n m x y (either n m) (either m n))
one_answer t ds (Constraint n) (Unresolved m) x y = not_both ds (unit_at_first t) y.0 n x y.1.0
one_answer t ds (Constraint n) NoMain x y = not_both ds (unit_at_first t) y.0 n x y.1.0
one_answer t ds (Constraint n) (Typed w) x y = not_both ds (unit_at_first t) y.0 n x y.1.0
one_answer t ds (Unresolved m) (Constraint n) x y = not_both ds (unit_at_first t) x.0 n y x.1.0
one_answer t ds NoMain (Constraint n) x y = not_both ds (unit_at_first t) x.0 n y x.1.0
one_answer t ds (Typed w) (Constraint n) x y = not_both ds (unit_at_first t) x.0 n y x.1.0
one_answer t ds (Unresolved m) (Unresolved n) x y =
    let same = same_unit ds (unit_at_first t) y.0 x.0 y.1.0 x.1.0 in
    ap Unresolved (same_name (first_unresolved x.0.state x.0.entities) m n x.1.1 (sym (ap (λ (u : UnitState). first_unresolved u.state u.entities) same) ∙ y.1.1))
one_answer t ds (Unresolved m) NoMain x y =
    let same = same_unit ds (unit_at_first t) y.0 x.0 y.1.0 x.1.0 in
    named_none (first_unresolved x.0.state x.0.entities) m x.1.1 (sym (ap (λ (u : UnitState). first_unresolved u.state u.entities) same) ∙ y.1.1)
one_answer t ds (Unresolved m) (Typed w) x y =
    let same = same_unit ds (unit_at_first t) y.0 x.0 y.1.0 x.1.0 in
    named_none (first_unresolved x.0.state x.0.entities) m x.1.1 (sym (ap (λ (u : UnitState). first_unresolved u.state u.entities) same) ∙ y.1.1)
one_answer t ds NoMain (Unresolved m) x y =
    let same = same_unit ds (unit_at_first t) x.0 y.0 x.1.0 y.1.0 in
    named_none (first_unresolved y.0.state y.0.entities) m y.1.1 (sym (ap (λ (u : UnitState). first_unresolved u.state u.entities) same) ∙ x.1.1)
one_answer t ds (Typed w) (Unresolved m) x y =
    let same = same_unit ds (unit_at_first t) x.0 y.0 x.1.0 y.1.0 in
    named_none (first_unresolved y.0.state y.0.entities) m y.1.1 (sym (ap (λ (u : UnitState). first_unresolved u.state u.entities) same) ∙ x.1.1)
one_answer t ds NoMain NoMain x y = refl
one_answer t ds NoMain (Typed w) x y =
    let same = same_unit ds (unit_at_first t) y.0 x.0 y.1.0 x.1.0 in
    true_false (has_main x.0.state.unit) (sym (ap (λ (u : UnitState). has_main u.state.unit) same) ∙ y.1.2) x.1.2
one_answer t ds (Typed w) NoMain x y =
    let same = same_unit ds (unit_at_first t) x.0 y.0 x.1.0 y.1.0 in
    true_false (has_main y.0.state.unit) (sym (ap (λ (u : UnitState). has_main u.state.unit) same) ∙ x.1.2) y.1.2
one_answer t ds (Typed v) (Typed w) x y =
    let same = same_unit ds (unit_at_first t) x.0 y.0 x.1.0 y.1.0 in
    ap Typed (x.1.3 ∙ ap finished_unit same ∙ sym y.1.3)

-- ---- some answer

seen : {A : Type 0} (o : Option A) → (o ≡ None) ⊎ ((a : A) × (o ≡ Some a))
seen None = inl refl
seen (Some a) = inr (a, refl)

shown : (b : Bool) → (b ≡ true) ⊎ (b ≡ false)
shown true = inl refl
shown false = inr refl

none_typed : (ds : List DeclarationTree) (u : UnitState) → is_some (typed_to ds 0 u) ≡ true
none_typed [] u = ap is_some (to_whole [] 0 u (omega arith))
none_typed (d ∷ ds) u = ap is_some (to_below (d ∷ ds) 0 u (omega arith))

abbrev Found : List DeclarationTree → UnitState → ℕ → Type 0
Found ds u m = ((n : ℕ) × Breaks ds u n) ⊎ (is_some (typed_to ds m u) ≡ true)

one_further : (ds : List DeclarationTree) (u : UnitState) (m : ℕ) → m < length ds → is_some (typed_to ds m u) ≡ true → (typed_to ds (m + 1) u ≡ None) ⊎ ((v : UnitState) × (typed_to ds (m + 1) u ≡ Some v)) → Found ds u (m + 1)
one_further ds u m lt e (inl none) = inl (m, record { within = lt; before = e; at = none })
one_further ds u m lt e (inr some) = inr (ap is_some some.1)

further : (ds : List DeclarationTree) (u : UnitState) (m : ℕ) → m < length ds → Found ds u m → Found ds u (m + 1)
further ds u m lt (inl b) = inl b
further ds u m lt (inr e) = one_further ds u m lt e (seen (typed_to ds (m + 1) u))

up_to : (ds : List DeclarationTree) (u : UnitState) (m : ℕ) → m ≤ length ds → Found ds u m
up_to ds u zero le = inr (none_typed ds u)
up_to ds u (suc m) le =
    let step : m + 1 ≡ suc m = omega arith in
    subst (Found ds u) step (further ds u m (omega (arith, le)) (up_to ds u m (omega (arith, le))))

abbrev Answer : Table → List DeclarationTree → Type 0
Answer t ds = (a : Checked) × UnitComes t ds a

with_main : (t : Table) (ds : List DeclarationTree) (u : UnitState) → IsTyped ds (unit_at_first t) u → first_unresolved u.state u.entities ≡ None → (has_main u.state.unit ≡ true) ⊎ (has_main u.state.unit ≡ false) → Answer t ds
with_main t ds u e none (inl there) = (Typed (finished_unit u), (u, (e, none, there, refl)))
with_main t ds u e none (inr absent) = (NoMain, (u, (e, none, absent)))

with_names : (t : Table) (ds : List DeclarationTree) (u : UnitState) → IsTyped ds (unit_at_first t) u → (first_unresolved u.state u.entities ≡ None) ⊎ ((n : ℕ) × (first_unresolved u.state u.entities ≡ Some n)) → Answer t ds
with_names t ds u e (inl none) = with_main t ds u e none (shown (has_main u.state.unit))
with_names t ds u e (inr some) = (Unresolved some.0, (u, (e, some.1)))

typed_answer : (t : Table) (ds : List DeclarationTree) → (typed_to ds (length ds) (unit_at_first t) ≡ None) ⊎ ((u : UnitState) × (typed_to ds (length ds) (unit_at_first t) ≡ Some u)) → is_some (typed_to ds (length ds) (unit_at_first t)) ≡ true → Answer t ds
typed_answer t ds (inl none) e = some_none (typed_to ds (length ds) (unit_at_first t)) e none
typed_answer t ds (inr some) e = with_names t ds some.0 some.1 (seen (first_unresolved some.0.state some.0.entities))

found_answer : (t : Table) (ds : List DeclarationTree) → Found ds (unit_at_first t) (length ds) → Answer t ds
found_answer t ds (inl b) = (Constraint b.0, b.1)
found_answer t ds (inr e) = typed_answer t ds (seen (typed_to ds (length ds) (unit_at_first t))) e

pub some_answer : (t : Table) (ds : List DeclarationTree) → (a : Checked) × UnitComes t ds a
some_answer t ds = found_answer t ds (up_to ds (unit_at_first t) (length ds) (omega arith))
