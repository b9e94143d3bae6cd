-- What two operations do that are alike (C17 6.5p6), and how one comes of its parts.
use Rattle.std.proofs.Common.{◌≡◌, ℤ, Bool, true, false, Option, Some, None, Result, Ok, Err, if◌then◌else◌, refl, sym, subst}
use Rattle.pv_num.specs.declared.operators.ArithmeticFault.{ArithmeticFault}
use Rattle.pv_prov.specs.declared.names.Prov.{Prov}
use Rattle.pv_types.specs.Known.{Known}
use Rattle.pv_shadow.specs.Bytes.{Store}
use Rattle.pv_world.specs.Worlds.{Worth, Nothing, World, Wrong}
use Rattle.pv_world.specs.Telling.{Told, no_telling}
use Rattle.pv_world.specs.Doing.{Done, Answers, Fails, Breaks}
use Rattle.pv_world.specs.Worths.{why_not_set, why_missing, unless, arithmetic_result}
use Rattle.pv_world.specs.ObjectParts.{with_bytes}
use Rattle.pv_numbering.proofs.Marks.{AlikeStores}
use Rattle.pv_numbering.proofs.Alike.{AlikeWorth, AlikeWorld}
use Rattle.pv_numbering.proofs.Worths.{unplain-same, unpresent-same}

-- both answer, or both end the run for the same reason; in worlds that are alike, and they tell the same
abbrev pub AlikeDone : (m m' : Known) → Done → Done → Type 0
AlikeDone m m' (Answers v w t) (Answers v' w' t') = AlikeWorth m m' v v' × AlikeWorld m m' w w' × (t' ≡ t)
AlikeDone m m' (Fails y p w t) (Fails y' p' w' t') = (y' ≡ y) × (p' ≡ p) × AlikeWorld m m' w w' × (t' ≡ t)
AlikeDone m m' (Breaks y b w t) (Breaks y' b' w' t') = (y' ≡ y) × (b' ≡ b) × AlikeWorld m m' w w' × (t' ≡ t)
AlikeDone m m' (Answers v w t) (Fails y' p' w' t') = ⊥
AlikeDone m m' (Answers v w t) (Breaks y' b' w' t') = ⊥
AlikeDone m m' (Fails y p w t) (Answers v' w' t') = ⊥
AlikeDone m m' (Fails y p w t) (Breaks y' b' w' t') = ⊥
AlikeDone m m' (Breaks y b w t) (Answers v' w' t') = ⊥
AlikeDone m m' (Breaks y b w t) (Fails y' p' w' t') = ⊥

-- on values that are the same
pub at_one : {A : Type 0} (P : A → Type 0) (a a' : A) → a' ≡ a → P a → P a'
at_one P a a' e h = subst P (sym e) h

pub at_two : {A C : Type 0} (P : A → C → Type 0) (a a' : A) (c c' : C) → a' ≡ a → c' ≡ c → P a c → P a' c'
at_two P a a' c c' e f h = subst (P a') (sym f) (subst (λ x. P x c) (sym e) h)

module _ (m m' : Known) where
  -- bytes that are alike, in the same world
  abbrev pub Alikes : World → Store → Type 0
  Alikes w b = AlikeStores m m' w.memory.bytes b

  pub alike_world : (w : World) (b : Store) → Alikes w b → AlikeWorld m m' w (with_bytes w b)
  alike_world w b h = record { bytes = b; is = refl; alike = h }

  pub gives_alike : (v v' : Worth) (w : World) (b : Store) (t : Told) → AlikeWorth m m' v v' → Alikes w b → AlikeDone m m' (Answers v w t) (Answers v' (with_bytes w b) t)
  gives_alike v v' w b t g h = (g, alike_world w b h, refl)

  pub does_nothing : (w : World) (b : Store) (t : Told) → Alikes w b → AlikeDone m m' (Answers Nothing w t) (Answers Nothing (with_bytes w b) t)
  does_nothing w b t h = (tt, alike_world w b h, refl)

  pub fails_alike : (y : Wrong) (p : Option Prov) (w : World) (b : Store) (t : Told) → Alikes w b → AlikeDone m m' (Fails y p w t) (Fails y p (with_bytes w b) t)
  fails_alike y p w b t h = (refl, refl, alike_world w b h, refl)

  pub either_alike : (c : Bool) (d d' e e' : Done) → AlikeDone m m' d d' → AlikeDone m m' e e' → AlikeDone m m' (if c then d else e) (if c then d' else e')
  either_alike true d d' e e' h g = h
  either_alike false d d' e e' h g = g

  pub unless_alike : (o : Option Wrong) (w : World) (b : Store) (d d' : Done) → Alikes w b → AlikeDone m m' d d' → AlikeDone m m' (unless o w d) (unless o (with_bytes w b) d')
  unless_alike None w b d d' h g = g
  unless_alike (Some y) w b d d' h g = fails_alike y None w b no_telling h

  -- 6.9.1p12, 3.19.2: on values that are there and were set
  pub plain_alike : (w : World) (b : Store) (v v' : Worth) (d d' : Done) → Alikes w b → AlikeWorth m m' v v' → AlikeDone m m' d d' → AlikeDone m m' (unless (why_not_set v) w d) (unless (why_not_set v') (with_bytes w b) d')
  plain_alike w b v v' d d' h g k =
      at_one (λ o. AlikeDone m m' (unless (why_not_set v) w d) (unless o (with_bytes w b) d')) (why_not_set v) (why_not_set v') (unplain-same m m' v v' g) (unless_alike (why_not_set v) w b d d' h k)

  -- 6.9.1p12: on values that are there
  pub present_alike : (w : World) (b : Store) (v v' : Worth) (d d' : Done) → Alikes w b → AlikeWorth m m' v v' → AlikeDone m m' d d' → AlikeDone m m' (unless (why_missing v) w d) (unless (why_missing v') (with_bytes w b) d')
  present_alike w b v v' d d' h g k =
      at_one (λ o. AlikeDone m m' (unless (why_missing v) w d) (unless o (with_bytes w b) d')) (why_missing v) (why_missing v') (unpresent-same m m' v v' g) (unless_alike (why_missing v) w b d d' h k)

  pub computed_alike : (w : World) (b : Store) (r : Result ℤ ArithmeticFault) → Alikes w b → AlikeDone m m' (arithmetic_result w r) (arithmetic_result (with_bytes w b) r)
  computed_alike w b (Ok n) h = (refl, alike_world w b h, refl)
  computed_alike w b (Err f) h = (refl, refl, alike_world w b h, refl)
