-- What two runs of one unit, whose types have other numbers, have at a moment, and what their pieces come to (C17 5.1.2.3).
use Rattle.std.specs.Prelude.{◌≡◌, ◌≢◌, ℕ, List, [], ◌∷◌}
use Rattle.pv_types.specs.Known.{Known}
use Rattle.pv_shadow.specs.Bytes.{Store}
use Rattle.pv_world.specs.declared.got.Shape.TheVariants as shape
use Rattle.pv_world.specs.Worlds.{Worth, Nothing, Missing, Scalar, Whole, World}
use Rattle.pv_world.specs.ObjectParts.{with_bytes}
use Rattle.pv_eval.specs.States.{Setting, State, Res, Gives, Stops}
use Rattle.pv_eval.specs.Sequenced.{Given}
use Rattle.pv_eval.specs.TypeForms.{Lvalue}
use Rattle.pv_numbering.proofs.Marks.{AcceptedAlike, AlikeBytes, AlikeStores}

-- the same unit, bound and sides, with another table of types
abbrev pub with_types : Setting → Known → Setting
with_types b m = record b { types = m }

-- 6.5p1: two values that differ in the marks of bytes alone
abbrev pub AlikeWorth : (m m' : Known) → Worth → Worth → Type 0
AlikeWorth m m' Nothing Nothing = Unit {0}
AlikeWorth m m' Missing Missing = Unit {0}
AlikeWorth m m' (Scalar v) (Scalar v') = v' ≡ v
AlikeWorth m m' (Whole bytes origin) (Whole bytes' origin') = AlikeBytes m m' bytes bytes' × (origin' ≡ origin)
AlikeWorth m m' _ _ = ⊥

-- 6.5.2.2: two lists of arguments
abbrev pub AlikeWorths : (m m' : Known) → List Worth → List Worth → Type 0
AlikeWorths m m' [] [] = Unit {0}
AlikeWorths m m' (v ∷ vs) (v' ∷ vs') = AlikeWorth m m' v v' × AlikeWorths m m' vs vs'
AlikeWorths m m' [] (v' ∷ vs') = ⊥
AlikeWorths m m' (v ∷ vs) [] = ⊥

-- 6.3.2.1p1: two lvalues that differ in the number of their type alone; where it is a scalar's (6.5p6), both numbers mark alike
pub record AlikeLvalue (m m' : Known) (l l' : Lvalue) : Type 0 where
  pub number : ℕ
  pub is : l' ≡ record l { number = number }
  pub marks : l.shape ≢ shape.Whole → (k : ℕ) → AcceptedAlike m m' (l.number, k) (number, k)

-- the memory model: two worlds that differ in the marks of bytes alone
pub record AlikeWorld (m m' : Known) (w w' : World) : Type 0 where
  pub bytes : Store
  pub is : w' ≡ with_bytes w bytes
  pub alike : AlikeStores m m' w.memory.bytes bytes

-- 5.1.2.3: two moments, with the same output, events and turns
pub record AlikeState (m m' : Known) (s s' : State) : Type 0 where
  pub bytes : Store
  pub is : s' ≡ record s { world = with_bytes s.world bytes }
  pub alike : AlikeStores m m' s.world.memory.bytes bytes

-- 5.1.2.3: two pieces that both give, values of which V holds, or both stop for the same reason, at moments that are alike
abbrev pub AlikeRes : (m m' : Known) → {A : Type 0} → (V : A → A → Type 0) → Res A → Res A → Type 0
AlikeRes m m' V (Gives a s) (Gives a' s') = V a a' × AlikeState m m' s s'
AlikeRes m m' V (Stops y s) (Stops y' s') = (y' ≡ y) × AlikeState m m' s s'
AlikeRes m m' V (Gives a s) (Stops y' s') = ⊥
AlikeRes m m' V (Stops y s) (Gives a' s') = ⊥

-- 6.5p1: what two expressions gave, and their accesses (6.5p2)
pub record AlikeGiven (m m' : Known) (g g' : Given) : Type 0 where
  pub value : AlikeWorth m m' g.value g'.value
  pub all : g'.all ≡ g.all
  pub loose : g'.loose ≡ g.loose
