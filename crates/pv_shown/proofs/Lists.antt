-- Lists of which some elements are seen, where one changes or one more comes, and options that are there.
use Rattle.std.proofs.Common.{◌≡◌, ℕ, zero, suc, Bool, true, false, ◌&&◌, cond, List, [], ◌∷◌, ◌++◌, map, set, Option, Some, None, refl, sym, ap, ◌∙◌}
use Rattle.std.proofs.lemmas.Bool.{and_parts}
use Rattle.std.proofs.lemmas.Option.{none-some, same_Some}
use Rattle.std.proofs.lemmas.List.Elements.{filter-append}
use Rattle.std.proofs.lemmas.List.Folds.{list_all-append}
use Rattle.std.proofs.lemmas.List.{append-nil}
use Rattle.std.specs.List.{filter, list_all, slice_get}
use Rattle.std.specs.Option.{option_map, option_and_then}

-- ---- options

pub and_some : {A B P : Type 0} (f : A → Option B) (o : Option A) (b : B) → option_and_then f o ≡ Some b → ((a : A) → o ≡ Some a → f a ≡ Some b → P) → P
and_some f None b h k = absurd (none-some b h)
and_some f (Some a) b h k = k a refl h

pub map_some : {A B P : Type 0} (f : A → B) (o : Option A) (b : B) → option_map f o ≡ Some b → ((a : A) → o ≡ Some a → f a ≡ b → P) → P
map_some f None b h k = absurd (none-some b h)
map_some f (Some a) b h k = k a refl (same_Some (f a) b h)

pub if_some : {A P : Type 0} (c : Bool) (o : Option A) (b : A) → cond c o None ≡ Some b → (c ≡ true → o ≡ Some b → P) → P
if_some true o b h k = k refl h
if_some false o b h k = absurd (none-some b h)

-- ---- all that pass

pub filter_all : {X : Type 0} (p : X → Bool) (xs : List X) → list_all p xs ≡ true → filter p xs ≡ xs
filter_all p [] h = refl
filter_all p (x ∷ xs) h =
    let both = and_parts (p x) (list_all p xs) h in
    ap (λ b. cond b (x ∷ filter p xs) (filter p xs)) both.0 ∙ ap (λ ys. x ∷ ys) (filter_all p xs both.1)

pub all_push : {X : Type 0} (p : X → Bool) (xs : List X) (y : X) → list_all p xs ≡ true → p y ≡ true → list_all p (xs ++ y ∷ []) ≡ true
all_push p xs y all here = list_all-append p xs (y ∷ []) ∙ ap (λ b. b && (p y && true)) all ∙ ap (λ b. b && true) here

pub all_set : {X : Type 0} (p : X → Bool) (xs : List X) (i : ℕ) (x y : X) → slice_get xs i ≡ Some x → p y ≡ p x → list_all p (set xs i y) ≡ list_all p xs
all_set p [] i x y at e = refl
all_set p (z ∷ zs) zero x y at e = ap (λ b. b && list_all p zs) (e ∙ ap p (sym (same_Some z x at)))
all_set p (z ∷ zs) (suc i) x y at e = ap (λ b. p z && b) (all_set p zs i x y at e)

-- ---- those that are seen

seen_if : {X Y : Type 0} (f : X → Y) (b : Bool) (y : X) (ys : List X) → map f (cond b (y ∷ ys) ys) ≡ cond b (f y ∷ map f ys) (map f ys)
seen_if f true y ys = refl
seen_if f false y ys = refl

-- one that changes is seen as it was
pub same_seen : {X Y : Type 0} (p : X → Bool) (f : X → Y) (xs : List X) (i : ℕ) (x y : X) → slice_get xs i ≡ Some x → p y ≡ p x → f y ≡ f x
    → map f (filter p (set xs i y)) ≡ map f (filter p xs)
same_seen p f [] i x y at e g = refl
same_seen p f (z ∷ zs) zero x y at e g =
    let is = sym (same_Some z x at) in
    let rest = filter p zs in
    seen_if f (p y) y rest ∙ ap (λ b. cond b (f y ∷ map f rest) (map f rest)) (e ∙ ap p is)
    ∙ ap (λ w. cond (p z) (w ∷ map f rest) (map f rest)) (g ∙ ap f is) ∙ sym (seen_if f (p z) z rest)
same_seen p f (z ∷ zs) (suc i) x y at e g =
    seen_if f (p z) z (filter p (set zs i y)) ∙ ap (λ l. cond (p z) (f z ∷ l) l) (same_seen p f zs i x y at e g) ∙ sym (seen_if f (p z) z (filter p zs))

-- one more that isn't seen
pub unseen : {X : Type 0} (p : X → Bool) (xs : List X) (y : X) → p y ≡ false → filter p (xs ++ y ∷ []) ≡ filter p xs
unseen p xs y no_one = filter-append p xs (y ∷ []) ∙ ap (λ b. filter p xs ++ cond b (y ∷ []) []) no_one ∙ append-nil (filter p xs)
