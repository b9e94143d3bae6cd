-- Composite types in a table of types (6.2.7p3).
use Rattle.std.proofs.Common.{◌≡◌, ℕ, zero, suc, ◌<◌, ◌≤◌, ◌*◌, ◌+◌, ◌^◌, nat_le, nat_lt, true, ◌&&◌, Some, None, List, [], ◌∷◌, ◌++◌, drop, drop-cons, get_or, add-one, length, IsTrue, refl, sym, ◌∙◌, ap, subst, arith}
use Rattle.std.proofs.Math.ListN.{drop_of_length-le}
use Rattle.std.specs.declared.option.Option.{Option}
use Rattle.pv_types.specs.declared.terms.TypeId.{TypeId}
use Rattle.pv_types.specs.Ty.{Ty, Tys, VoidTy, IntTy, PointerTo, ArrayOf, StructTag, UnionTag, FunctionTy, ConstOf, NoTys, MoreTys}
use Rattle.pv_types.specs.Adjusted.{is_adjusted}
use Rattle.pv_types.specs.Formed.{are_adjusted, AllBelow}
use Rattle.pv_types.specs.Known.{Known, tree, trees, tys_in, env}
use Rattle.pv_types.specs.Layouts.{Entry, layout_in, is_complete_in}
use Rattle.pv_check.specs.Composite.{composite_of, composites}
use Rattle.std.specs.Option.{option_or}
use Rattle.pv_check.specs.Growing.{HasMore, AreSized, is_sized, Grows}
use Rattle.pv_types.specs.Matching.{Matches, MatchAll}
use Rattle.pv_types.proofs.Matched.{matching_size, matching_first, matching_rest}
use Rattle.pv_check.proofs.Growth.{left_true, right_true, both_true, then_grows}

-- ---- a type and itself

same_known : (n : Option ℕ) → option_or n n ≡ n
same_known (Some n) = refl
same_known None = refl

mutual
  pub composite_itself : (t : Ty) → composite_of t t ≡ t
  composite_itself VoidTy = refl
  composite_itself (IntTy k) = refl
  composite_itself (PointerTo t) = ap PointerTo (composite_itself t)
  composite_itself (ArrayOf t n) = ap (λ (x : Ty). ArrayOf x (option_or n n)) (composite_itself t) ∙ ap (ArrayOf t) (same_known n)
  composite_itself (StructTag n) = refl
  composite_itself (UnionTag n) = refl
  composite_itself (FunctionTy t ts v) = ap (λ (x : Ty). FunctionTy x (composites ts ts) v) (composite_itself t) ∙ ap (λ (xs : Tys). FunctionTy t xs v) (composites_itself ts)
  composite_itself (ConstOf t) = ap ConstOf (composite_itself t)

  composites_itself : (ts : Tys) → composites ts ts ≡ ts
  composites_itself NoTys = refl
  composites_itself (MoreTys t ts) = ap (λ (x : Ty). MoreTys x (composites ts ts)) (composite_itself t) ∙ ap (MoreTys t) (composites_itself ts)

pub composite_same : (m : Known) (a b : ℕ) → a ≡ b → tree m a ≡ composite_of (tree m a) (tree m b)
composite_same m a b e = sym (ap (λ i. composite_of (tree m a) (tree m i)) (sym e) ∙ composite_itself (tree m a))

-- ---- a parameter's type

adjusted_composite : (t u : Ty) → is_adjusted t ≡ true → is_adjusted (composite_of t u) ≡ true
adjusted_composite (PointerTo t) (PointerTo u) h = refl
adjusted_composite (ArrayOf t m) (ArrayOf u n) h = absurd cc
adjusted_composite (FunctionTy t ts v) (FunctionTy u us w) h = absurd cc
adjusted_composite (ConstOf t) (ConstOf u) h = adjusted_composite t u h
adjusted_composite t u h = h

pub adjusted_composites : (ts us : Tys) → IsTrue (are_adjusted ts) → IsTrue (are_adjusted (composites ts us))
adjusted_composites NoTys us h = h
adjusted_composites (MoreTys t ts) NoTys h = h
adjusted_composites (MoreTys t ts) (MoreTys u us) h =
    both_true (adjusted_composite t u (left_true (is_adjusted t) (are_adjusted ts) h)) (adjusted_composites ts us (right_true (is_adjusted t) (are_adjusted ts) h))

-- ---- an array that is as types have to be

complete_composite : (env : List Entry) (t u : Ty) → is_complete_in env t ≡ true → is_complete_in env (composite_of t u) ≡ true
complete_composite env (PointerTo t) (PointerTo u) h = refl
complete_composite env (ArrayOf t (Some n)) (ArrayOf u m) h =
    both_true (left_true (nat_lt 0 n) _ h) (complete_composite env t u (right_true (nat_lt 0 n) _ h))
complete_composite env (ArrayOf t None) (ArrayOf u m) h = absurd cc
complete_composite env (FunctionTy t ts v) (FunctionTy u us w) h = absurd cc
complete_composite env (ConstOf t) (ConstOf u) h = complete_composite env t u h
complete_composite env t u h = h

size_composite : (env : List Entry) (t u : Ty) → is_complete_in env t ≡ true → (layout_in env (composite_of t u)).size ≡ (layout_in env t).size
size_composite env (PointerTo t) (PointerTo u) h = refl
size_composite env (ArrayOf t (Some n)) (ArrayOf u m) h = ap (λ s. n * s) (size_composite env t u (right_true (nat_lt 0 n) _ h))
size_composite env (ArrayOf t None) (ArrayOf u m) h = absurd cc
size_composite env (FunctionTy t ts v) (FunctionTy u us w) h = absurd cc
size_composite env (ConstOf t) (ConstOf u) h = size_composite env t u h
size_composite env t u h = refl

joined_size : (env : List Entry) (t u : Ty) (m n : Option ℕ) → Matches t u → is_complete_in env t ≡ true → is_complete_in env u ≡ true
    → nat_le (layout_in env (ArrayOf t m)).size (2 ^ 32) ≡ true → nat_le (layout_in env (ArrayOf u n)).size (2 ^ 32) ≡ true
    → nat_le (layout_in env (ArrayOf (composite_of t u) (option_or m n))).size (2 ^ 32) ≡ true
joined_size env t u (Some m) n h a b p q = ap (λ s. nat_le (m * s) (2 ^ 32)) (size_composite env t u a) ∙ p
joined_size env t u None (Some n) h a b p q =
    ap (λ s. nat_le (n * s) (2 ^ 32)) (size_composite env t u a ∙ matching_size env t u h a b) ∙ q
joined_size env t u None None h a b p q = p

pub sized_joined : (k : Known) (a b r : ℕ) (t u : Ty) (m n : Option ℕ) → AreSized k → a < length k.terms → b < length k.terms → r < length k.terms → Matches t u
    → tree k a ≡ ArrayOf t m → tree k b ≡ ArrayOf u n → tree k r ≡ composite_of t u → IsTrue (is_sized (env k) (ArrayOf (tree k r) (option_or m n)))
sized_joined k a b r t u m n all la lb lr h ia ib made =
    let left : IsTrue (is_sized (env k) (ArrayOf t m)) = subst (λ (x : Ty). IsTrue (is_sized (env k) x)) ia (all.types a la) in
    let right : IsTrue (is_sized (env k) (ArrayOf u n)) = subst (λ (x : Ty). IsTrue (is_sized (env k) x)) ib (all.types b lb) in
    let element : IsTrue (is_sized (env k) (tree k r)) = all.types r lr in
    let whole_left : is_complete_in (env k) t ≡ true = left_true (is_complete_in (env k) t) _ (left_true (is_complete_in (env k) t && is_sized (env k) t) _ left) in
    let whole_right : is_complete_in (env k) u ≡ true = left_true (is_complete_in (env k) u) _ (left_true (is_complete_in (env k) u && is_sized (env k) u) _ right) in
    let small_left : nat_le (layout_in (env k) (ArrayOf t m)).size (2 ^ 32) ≡ true = right_true (is_complete_in (env k) t && is_sized (env k) t) _ left in
    let small_right : nat_le (layout_in (env k) (ArrayOf u n)).size (2 ^ 32) ≡ true = right_true (is_complete_in (env k) u && is_sized (env k) u) _ right in
    both_true (both_true (ap (is_complete_in (env k)) made ∙ complete_composite (env k) t u whole_left) element)
    (ap (λ (x : Ty). nat_le (layout_in (env k) (ArrayOf x (option_or m n))).size (2 ^ 32)) made ∙ joined_size (env k) t u m n h whole_left whole_right small_left small_right)

-- ---- lists of parameters' types

pub below_more : (m n : ℕ) (xs : List TypeId) → m ≤ n → AllBelow m xs → AllBelow n xs
below_more m n [] le h = tt
below_more m n (x ∷ xs) le h = let lt : x.0 < m = h.0 in (omega (arith, lt, le), below_more m n xs le h.1)

pub tys_stand : (a b : Known) (xs : List TypeId) → ((i : ℕ) → i < length a.terms → tree b i ≡ tree a i) → AllBelow (length a.terms) xs → tys_in (trees b) xs ≡ tys_in (trees a) xs
tys_stand a b [] stand h = refl
tys_stand a b (x ∷ xs) stand h = ap (λ (t : Ty). MoreTys t (tys_in (trees b) xs)) (stand x.0 h.0) ∙ ap (MoreTys (tree a x.0)) (tys_stand a b xs stand h.1)

-- these types, and those behind them
abbrev before : Known → List TypeId → Tys → Tys
before m [] ts = ts
before m (x ∷ xs) ts = MoreTys (tree m x.0) (before m xs ts)

before_stands : (a b : Known) (xs : List TypeId) (ts : Tys) → ((i : ℕ) → i < length a.terms → tree b i ≡ tree a i) → AllBelow (length a.terms) xs → before b xs ts ≡ before a xs ts
before_stands a b [] ts stand h = refl
before_stands a b (x ∷ xs) ts stand h = ap (λ (t : Ty). MoreTys t (before b xs ts)) (stand x.0 h.0) ∙ ap (MoreTys (tree a x.0)) (before_stands a b xs ts stand h.1)

before_push : (m : Known) (xs : List TypeId) (x : TypeId) (ts : Tys) → before m (xs ++ (x ∷ [])) ts ≡ before m xs (MoreTys (tree m x.0) ts)
before_push m [] x ts = refl
before_push m (y ∷ ys) x ts = ap (MoreTys (tree m y.0)) (before_push m ys x ts)

before_none : (m : Known) (xs : List TypeId) → before m xs NoTys ≡ tys_in (trees m) xs
before_none m [] = refl
before_none m (x ∷ xs) = ap (MoreTys (tree m x.0)) (before_none m xs)

below_push : (n : ℕ) (xs : List TypeId) (x : TypeId) → AllBelow n xs → x.0 < n → AllBelow n (xs ++ (x ∷ []))
below_push n [] x h lt = (lt, tt)
below_push n (y ∷ ys) x h lt = (h.0, below_push n ys x h.1 lt)

-- what is left of two lists of the table m0, in m the composites of what was taken
pub record Joins (m0 m : Known) (bound : ℕ) (left right list restl restr : List TypeId) : Type 0 where
  pub grows : Grows m0 m
  pub known : AllBelow (length m.terms) list
  pub below : AllBelow bound restl
  pub right_below : AllBelow (length m0.terms) restr
  pub matching : MatchAll (tys_in (trees m0) restl) (tys_in (trees m0) restr)
  pub whole : before m list (composites (tys_in (trees m0) restl) (tys_in (trees m0) restr)) ≡ composites (tys_in (trees m0) left) (tys_in (trees m0) right)

-- the next of each
pub record Next (m0 m : Known) (bound : ℕ) (x y : TypeId) : Type 0 where
  pub left : x.0 < bound
  pub left_known : x.0 < length m.terms
  pub right_known : y.0 < length m.terms
  pub matching : Matches (tree m x.0) (tree m y.0)

pub joins_next : (m0 m : Known) (bound : ℕ) (left right list : List TypeId) (x y : TypeId) (xs ys : List TypeId) → bound ≤ length m0.terms → Joins m0 m bound left right list (x ∷ xs) (y ∷ ys) → Next m0 m bound x y
joins_next m0 m bound left right list x y xs ys le h =
    let more = h.grows.more in
    let terms : length m0.terms ≤ length m.terms = more.terms in
    let lx : x.0 < bound = h.below.0 in
    let ly : y.0 < length m0.terms = h.right_below.0 in
    let lx0 : x.0 < length m0.terms = omega (arith, lx, le) in
    let here : Matches (tree m0 x.0) (tree m0 y.0) = matching_first (tree m0 x.0) (tree m0 y.0) (tys_in (trees m0) xs) (tys_in (trees m0) ys) h.matching in
    record {
      left = lx;
      left_known = omega (arith, lx0, terms);
      right_known = omega (arith, ly, terms);
      matching = subst (λ (t : Ty). Matches t (tree m y.0)) (sym (more.trees x.0 lx0)) (subst (λ (u : Ty). Matches (tree m0 x.0) u) (sym (more.trees y.0 ly)) here);
    }

pub joins_more : (m0 m k : Known) (bound : ℕ) (left right list : List TypeId) (x y r : TypeId) (xs ys : List TypeId) → bound ≤ length m0.terms → Joins m0 m bound left right list (x ∷ xs) (y ∷ ys)
    → Grows m k → r.0 < length k.terms → tree k r.0 ≡ composite_of (tree m x.0) (tree m y.0) → Joins m0 k bound left right (list ++ (r ∷ [])) xs ys
joins_more m0 m k bound left right list x y r xs ys le h g lr made =
    let more = h.grows.more in
    let terms : length m.terms ≤ length k.terms = g.more.terms in
    let lx : x.0 < bound = h.below.0 in
    let ly : y.0 < length m0.terms = h.right_below.0 in
    let lx0 : x.0 < length m0.terms = omega (arith, lx, le) in
    let rest = composites (tys_in (trees m0) xs) (tys_in (trees m0) ys) in
    let one : tree k r.0 ≡ composite_of (tree m0 x.0) (tree m0 y.0) =
    made ∙ ap (λ (t : Ty). composite_of t (tree m y.0)) (more.trees x.0 lx0) ∙ ap (composite_of (tree m0 x.0)) (more.trees y.0 ly) in
    record {
      grows = then_grows m0 m k h.grows g;
      known = below_push (length k.terms) list r (below_more (length m.terms) (length k.terms) list terms h.known) lr;
      below = h.below.1;
      right_below = h.right_below.1;
      matching = matching_rest (tree m0 x.0) (tree m0 y.0) (tys_in (trees m0) xs) (tys_in (trees m0) ys) h.matching;
      whole = before_push k list r rest ∙ ap (λ (t : Ty). before k list (MoreTys t rest)) one
          ∙ before_stands m k list (MoreTys (composite_of (tree m0 x.0) (tree m0 y.0)) rest) g.more.trees h.known ∙ h.whole;
    }

-- lists that match are equally long
pub matching_right : (m0 m : Known) (bound : ℕ) (left right list : List TypeId) (x : TypeId) (xs ys : List TypeId) → Joins m0 m bound left right list (x ∷ xs) ys → 0 < length ys
matching_right m0 m bound left right list x xs [] h = absurd (let e = h.matching in cc)
matching_right m0 m bound left right list x xs (y ∷ ys) h = omega arith

pub joins_done : (m0 m : Known) (bound : ℕ) (left right list ys : List TypeId) → Joins m0 m bound left right list [] ys → tys_in (trees m) list ≡ composites (tys_in (trees m0) left) (tys_in (trees m0) right)
joins_done m0 m bound left right list ys h = sym (before_none m list) ∙ h.whole

drop_some : (xs : List TypeId) (i : ℕ) → 0 < length (drop i xs) → i < length xs
drop_some [] zero h = h
drop_some [] (suc i) h = absurd (omega (arith, h))
drop_some (x ∷ xs) zero h = omega arith
drop_some (x ∷ xs) (suc i) h = let r : i < length xs = drop_some xs i h in omega (arith, r)

abbrev no_type : TypeId
no_type = record { 0 = 0 }

-- the same by a place in both lists
module _ (m0 m : Known) (bound : ℕ) (left right list : List TypeId) (i : ℕ) (lt : i < length left) (h : Joins m0 m bound left right list (drop i left) (drop i right)) where
  split_left : Joins m0 m bound left right list (get_or left i no_type ∷ drop (suc i) left) (drop i right)
  split_left = subst (λ xs. Joins m0 m bound left right list xs (drop i right)) (drop-cons left i no_type lt) h

  pub right_at : i < length right
  right_at = drop_some right i (matching_right m0 m bound left right list (get_or left i no_type) (drop (suc i) left) (drop i right) split_left)

  split : Joins m0 m bound left right list (get_or left i no_type ∷ drop (suc i) left) (get_or right i no_type ∷ drop (suc i) right)
  split = subst (λ ys. Joins m0 m bound left right list (get_or left i no_type ∷ drop (suc i) left) ys) (drop-cons right i no_type right_at) split_left

  pub next_at : bound ≤ length m0.terms → Next m0 m bound (get_or left i no_type) (get_or right i no_type)
  next_at le = joins_next m0 m bound left right list (get_or left i no_type) (get_or right i no_type) (drop (suc i) left) (drop (suc i) right) le split

  pub more_at : (k : Known) (r : TypeId) → bound ≤ length m0.terms → Grows m k → r.0 < length k.terms → tree k r.0 ≡ composite_of (tree m (get_or left i no_type).0) (tree m (get_or right i no_type).0)
      → Joins m0 k bound left right (list ++ (r ∷ [])) (drop (i + 1) left) (drop (i + 1) right)
  more_at k r le g lr made = rw add-one (joins_more m0 m k bound left right list (get_or left i no_type) (get_or right i no_type) r (drop (suc i) left) (drop (suc i) right) le split g lr made)

pub done_at : (m0 m : Known) (bound : ℕ) (left right list : List TypeId) (i : ℕ) → length left ≤ i → Joins m0 m bound left right list (drop i left) (drop i right) → tys_in (trees m) list ≡ composites (tys_in (trees m0) left) (tys_in (trees m0) right)
done_at m0 m bound left right list i le h =
    joins_done m0 m bound left right list (drop i right) (subst (λ xs. Joins m0 m bound left right list xs (drop i right)) (drop_of_length-le left le) h)

-- ---- a function's parts

pub matching_grown : (m k : Known) (a b : ℕ) → HasMore m k → a < length m.terms → b < length m.terms → Matches (tree m a) (tree m b) → Matches (tree k a) (tree k b)
matching_grown m k a b more la lb h =
    subst (λ (t : Ty). Matches t (tree k b)) (sym (more.trees a la)) (subst (λ (u : Ty). Matches (tree m a) u) (sym (more.trees b lb)) h)
