-- What an option that is there was made of, and lists with an element that is found, that changes, or one more.
use Rattle.std.proofs.Common.{◌≡◌, ℕ, zero, suc, Bool, true, false, cond, List, [], ◌∷◌, ◌++◌, map, set, All, Option, Some, None, IsSome, refl, sym, ap, subst}
use Rattle.std.proofs.lemmas.Option.{none-some, same_Some, get_or_from_slice_get, slice_get_within}
use Rattle.std.specs.List.{slice_get}
use Rattle.std.specs.Option.{option_map, option_and_then}

pub and_some : {A B P : Type 0} (f : A → Option B) (o : Option A) (b : B) → option_and_then f o ≡ Some b → ((a : A) → o ≡ Some a → f a ≡ Some b → P) → P
and_some f None b h k = absurd (none-some b h)
and_some f (Some a) b h k = k a refl h

pub map_some : {A B P : Type 0} (f : A → B) (o : Option A) (b : B) → option_map f o ≡ Some b → ((a : A) → o ≡ Some a → f a ≡ b → P) → P
map_some f None b h k = absurd (none-some b h)
map_some f (Some a) b h k = k a refl (same_Some (f a) b h)

pub if_some : {A P : Type 0} (c : Bool) (o : Option A) (b : A) → cond c o None ≡ Some b → (c ≡ true → o ≡ Some b → P) → P
if_some true o b h k = k refl h
if_some false o b h k = absurd (none-some b h)

pub some_of : {A : Type 0} (o : Option A) (a : A) → o ≡ Some a → IsSome o
some_of o a e = subst IsSome (sym e) refl

pub bool_false : (b : Bool) → (b ≡ true → ⊥) → b ≡ false
bool_false true h = absurd (h refl)
bool_false false h = refl

-- what holds of each holds of one that is found
pub all_here : {X : Type 0} (P : X → Type 0) (xs : List X) (i : ℕ) (x : X) → All P xs → slice_get xs i ≡ Some x → P x
all_here P xs i x all h = subst P (get_or_from_slice_get xs i x x h) (all i x (slice_get_within xs i x h))

-- an element that becomes what it was
pub set_same : {X : Type 0} (xs : List X) (i : ℕ) (x : X) → slice_get xs i ≡ Some x → set xs i x ≡ xs
set_same [] i x h = refl
set_same (y ∷ ys) zero x h = λ n. sym (same_Some y x h) n ∷ ys
set_same (y ∷ ys) (suc i) x h = λ n. y ∷ set_same ys i x h n

-- one more
pub snoc_map : {X Y : Type 0} (f : X → Y) (xs : List X) (x : X) → map f (xs ++ x ∷ []) ≡ map f xs ++ f x ∷ []
snoc_map f [] x = refl
snoc_map f (y ∷ ys) x = ap (λ l. f y ∷ l) (snoc_map f ys x)
