-- What each step of a fold keeps, the whole fold keeps; and what holds of each of a list.
use Rattle.std.proofs.Common.{ℕ, zero, suc, List, [], ◌∷◌, ◌++◌, map, get_or}
use Rattle.std.specs.List.{fold}
use Rattle.pv_typed.specs.Known.{Each}

-- a table that is made entry by entry, each from those before it
pub fold_keeps : {N T : Type 0} (make : List T → N → T) (Q : N → Type 0) (Kept : List T → Type 0)
    → ((ts : List T) (n : N) → Q n → Kept ts → Kept (ts ++ (make ts n ∷ [])))
    → (ns : List N) → Each Q ns → (acc : List T) → Kept acc → Kept (fold (λ ts n. ts ++ (make ts n ∷ [])) acc ns)
fold_keeps make Q Kept step [] q acc h = h
fold_keeps make Q Kept step (n ∷ ns) q acc h = fold_keeps make Q Kept step ns q.1 (acc ++ (make acc n ∷ [])) (step acc n q.0 h)

module _ {A : Type 0} where
  -- what holds of each and of the default, holds at every place
  pub each_or : (P : A → Type 0) (d : A) → P d → (xs : List A) → Each P xs → (i : ℕ) → P (get_or xs i d)
  each_or P d default [] h i = default
  each_or P d default (x ∷ xs) h zero = h.0
  each_or P d default (x ∷ xs) h (suc i) = each_or P d default xs h.1 i

  pub each_mapped : {B : Type 0} (f : A → B) (P : A → Type 0) (Q : B → Type 0) → ((x : A) → P x → Q (f x)) → (xs : List A) → Each P xs → Each Q (map f xs)
  each_mapped f P Q keep [] h = tt
  each_mapped f P Q keep (x ∷ xs) h = (keep x h.0, each_mapped f P Q keep xs h.1)

  pub each_always : (P : A → Type 0) → ((x : A) → P x) → (xs : List A) → Each P xs
  each_always P always [] = tt
  each_always P always (x ∷ xs) = (always x, each_always P always xs)

  -- two facts of each come to a third one
  pub each_joined : (P Q R : A → Type 0) → ((x : A) → P x → Q x → R x) → (xs : List A) → Each P xs → Each Q xs → Each R xs
  each_joined P Q R join [] h k = tt
  each_joined P Q R join (x ∷ xs) h k = (join x h.0 k.0, each_joined P Q R join xs h.1 k.1)
