-- Pieces of two runs of one unit, whose types have other numbers, that keep moments alike; and the ways in which pieces are made.
use Rattle.std.proofs.Common.{◌≡◌, ℕ, List, [], ◌∷◌, ◌++◌, refl, ap, ◌∙◌}
use Rattle.std.specs.Prelude.{Bool, true, false, nat_lt, if◌then◌else◌}
use Rattle.std.specs.declared.option.Option.{Option}
use Rattle.pv_types.specs.Known.{Known}
use Rattle.pv_shadow.specs.declared.byte.Byte.{Byte}
use Rattle.pv_typed.specs.TypedTree.{TypedTree, Node, Read}
use Rattle.pv_world.specs.Worlds.{Worth, Nothing, Missing, Scalar, Whole}
use Rattle.pv_world.specs.Worths.{int_of, pointer_of, origin_of, is_true}
use Rattle.pv_eval.specs.States.{Setting, State, Why, Turns, Res, Gives, Stops, then_do, tick, spend}
use Rattle.pv_eval.specs.Operations.{Op, act}
use Rattle.pv_eval.specs.Steps.{source_of}
use Rattle.pv_eval.specs.Arguments.{argument}
use Rattle.pv_numbering.proofs.Alike.{with_types, AlikeWorth, AlikeWorths, AlikeState, AlikeRes}
use Rattle.pv_numbering.proofs.Acts.{ActAlike}

-- from moments that are alike the two pieces come to the like
pub record Pieces (b : Setting) (m' : Known) {A : Type 0} (V : A → A → Type 0) (m n : State → Res A) : Type 0 where
  pub at : (s s' : State) → AlikeState b.types m' s s' → AlikeRes b.types m' V (m s) (n s')

module _ {b : Setting} {m' : Known} where
  pub gives : {A : Type 0} {V : A → A → Type 0} (a a' : A) → V a a' → Pieces b m' V (λ s. Gives a s) (λ s. Gives a' s)
  gives a a' v = record { at = λ s s' h. (v, h) }

  pub stops : {A : Type 0} {V : A → A → Type 0} (y : Why) → Pieces b m' V (λ s. Stops y s) (λ s. Stops y s)
  stops y = record { at = λ s s' h. (refl, h) }

  pub did : (o o' : Op) (line : ℕ) → ActAlike b m' o o' → Pieces b m' (AlikeWorth b.types m') (λ s. act b line o s) (λ s. act (with_types b m') line o' s)
  did o o' line h = record { at = h line }

  seq-at : {A B : Type 0} {V : A → A → Type 0} {W : B → B → Type 0} {f g : A → State → Res B} (r r' : Res A) → AlikeRes b.types m' V r r' → ((a a' : A) → V a a' → Pieces b m' W (f a) (g a')) → AlikeRes b.types m' W (then_do r f) (then_do r' g)
  seq-at (Gives a s) (Gives a' s') h go = (go a a' h.0).at s s' h.1
  seq-at (Stops y s) (Stops y' s') h go = h
  seq-at (Gives a s) (Stops y' s') h go = absurd h
  seq-at (Stops y s) (Gives a' s') h go = absurd h

  pub seq : {A B : Type 0} {V : A → A → Type 0} {W : B → B → Type 0} {m n : State → Res A} {f g : A → State → Res B} → Pieces b m' V m n → ((a a' : A) → V a a' → Pieces b m' W (f a) (g a')) → Pieces b m' W (λ s. then_do (m s) f) (λ s. then_do (n s) g)
  seq {m = m} {n = n} h go = record { at = λ s s' k. seq-at (m s) (n s') (h.at s s' k) go }

  -- both take the turn that is due, or none is left to both
  tick-at : {A : Type 0} {V : A → A → Type 0} {m n : State → Res A} (t t' : Bool) (s s' : State) → t' ≡ t → AlikeState b.types m' s s' → Pieces b m' V m n
      → AlikeRes b.types m' V (if t then m (spend s) else Stops Turns s) (if t' then n (spend s') else Stops Turns s')
  tick-at true true s s' e k h = h.at (spend s) (spend s') (record { bytes = k.bytes; is = ap spend k.is; alike = k.alike })
  tick-at false false s s' e k h = (refl, k)
  tick-at true false s s' e k h = absurd (cc)
  tick-at false true s s' e k h = absurd (cc)

  pub ticks : {A : Type 0} {V : A → A → Type 0} {m n : State → Res A} → Pieces b m' V m n → Pieces b m' V (λ s. tick b s m) (λ s. tick (with_types b m') s n)
  ticks h = record { at = λ s s' k. tick-at (nat_lt s.taken b.bound) (nat_lt s'.taken b.bound) s s' (ap (λ (z : State). nat_lt z.taken b.bound) k.is) k h }

  pub choice : {A : Type 0} {V : A → A → Type 0} {m n x y : State → Res A} (t t' : Bool) → t' ≡ t → Pieces b m' V m n → Pieces b m' V x y → Pieces b m' V (λ s. if t then m s else x s) (λ s. if t' then n s else y s)
  choice true true e h g = h
  choice false false e h g = g
  choice true false e h g = absurd (cc)
  choice false true e h g = absurd (cc)

-- what is read off a value, but for the bytes of one that is whole, is the same of two values that are alike
module _ (m m' : Known) where
  pub by-value : {A : Type 0} (F : Worth → A) → ((bs bs' : List Byte) (o : Option ℕ) → F (Whole bs' o) ≡ F (Whole bs o)) → (v v' : Worth) → AlikeWorth m m' v v' → F v' ≡ F v
  by-value F g Nothing Nothing h = refl
  by-value F g Missing Missing h = refl
  by-value F g (Scalar v) (Scalar v') h = ap (λ z. F (Scalar z)) h
  by-value F g (Whole bs o) (Whole bs' o') h = ap (λ z. F (Whole bs' z)) h.1 ∙ g bs bs' o
  by-value F g v v' h = absurd h

  pub true-same : (v v' : Worth) → AlikeWorth m m' v v' → is_true v' ≡ is_true v
  true-same v v' h = by-value is_true (λ bs bs' o. refl) v v' h

  pub int-same : (v v' : Worth) → AlikeWorth m m' v v' → int_of v' ≡ int_of v
  int-same v v' h = by-value int_of (λ bs bs' o. refl) v v' h

  pub pointer-same : (v v' : Worth) → AlikeWorth m m' v v' → pointer_of v' ≡ pointer_of v
  pointer-same v v' h = by-value pointer_of (λ bs bs' o. refl) v v' h

  pub argument-same : (x : TypedTree) (v v' : Worth) → AlikeWorth m m' v v' → argument x v' ≡ argument x v
  argument-same x v v' h = by-value (argument x) (λ bs bs' o. refl) v v' h

  pub source-same : (x : TypedTree) (v v' : Worth) → AlikeWorth m m' v v' → source_of x v' ≡ source_of x v
  source-same (Node t line turn (Read x)) v v' h = by-value origin_of (λ bs bs' o. refl) v v' h
  source-same (Node t line turn x) v v' h = refl

  -- one of two values
  pub either-alike : (t : Bool) (v v' x x' : Worth) → AlikeWorth m m' v v' → AlikeWorth m m' x x' → AlikeWorth m m' (if t then v else x) (if t then v' else x')
  either-alike true v v' x x' h k = h
  either-alike false v v' x x' h k = k

  -- one argument more
  pub more-worths : (vs vs' : List Worth) (v v' : Worth) → AlikeWorths m m' vs vs' → AlikeWorth m m' v v' → AlikeWorths m m' (vs ++ v ∷ []) (vs' ++ v' ∷ [])
  more-worths [] [] v v' h k = (k, tt)
  more-worths (x ∷ xs) (x' ∷ xs') v v' h k = (h.0, more-worths xs xs' v v' h.1 k)
  more-worths [] (x' ∷ xs') v v' h k = absurd h
  more-worths (x ∷ xs) [] v v' h k = absurd h
