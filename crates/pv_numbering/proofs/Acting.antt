-- Operations that are alike leave moments that are (C17 5.1.2.3): with the same events, the same output, and the same sides of pairs.
use Rattle.std.proofs.Common.{◌≡◌, ℕ, Bool, true, false, List, Option, Some, None, slice_get, nat_lt, if◌then◌else◌, refl, sym, subst}
use Rattle.pv_prov.specs.Names.{twin_at}
use Rattle.pv_types.specs.Known.{Known}
use Rattle.pv_shadow.specs.Bytes.{Store}
use Rattle.pv_watch.specs.declared.event.What.{What}
use Rattle.pv_world.specs.Worlds.{Worth, World, Wrong}
use Rattle.pv_world.specs.Telling.{Told, verdict_of, fault_of, fault_told}
use Rattle.pv_world.specs.Doing.{Done, Answers, Fails, Breaks}
use Rattle.pv_world.specs.ObjectParts.{with_bytes}
use Rattle.pv_eval.specs.States.{Setting, State, Stopped, Res, Stops}
use Rattle.pv_eval.specs.Acting.{after_telling, noted_with, pair_count, settling, by_side, answer_with_sides, after_doing}
use Rattle.pv_eval.specs.ActingParts.{one_kept, keeps_both}
use Rattle.pv_numbering.proofs.Alike.{with_types, AlikeWorth, AlikeWorld, AlikeState, AlikeRes}
use Rattle.pv_numbering.proofs.Doing.{AlikeDone, Alikes}

-- the state, with other bytes
abbrev pub moment_at : State → Store → State
moment_at s z = record s { world = with_bytes s.world z }

module _ (m m' : Known) where
  abbrev AlikeResult : Res Worth → Res Worth → Type 0
  AlikeResult r r' = AlikeRes m m' (AlikeWorth m m') r r'

  noted-alike : (w : World) (z : Store) (t : Told) (s : State) (y : Store) → Alikes m m' w z → AlikeState m m' (after_telling w t s) (after_telling (with_bytes w z) t (moment_at s y))
  noted-alike w z t s y h = record { bytes = z; is = refl; alike = h }

  sided-alike : (c : Bool) (k : ℕ) (high : Bool) (w : World) (z : Store) (t : Told) (s : State) (y : Store) → Alikes m m' w z
      → AlikeState m m' (after_telling (if c then one_kept w k high else w) t s) (after_telling (if c then one_kept (with_bytes w z) k high else with_bytes w z) t (moment_at s y))
  sided-alike true k high w z t s y h = record { bytes = z; is = refl; alike = h }
  sided-alike false k high w z t s y h = record { bytes = z; is = refl; alike = h }

  by_side-alike : (o : Option Bool) (v v' : Worth) (line : ℕ) (w : World) (z : Store) (t : Told) (s : State) (y : Store) → AlikeWorth m m' v v' → Alikes m m' w z
      → AlikeResult (by_side o v line w t s) (by_side o v' line (with_bytes w z) t (moment_at s y))
  by_side-alike None v v' line w z t s y g h = (refl, noted-alike w z (settling (pair_count w) t) s y h)
  by_side-alike (Some high) v v' line w z t s y g h = (g, sided-alike (keeps_both (twin_at w.memory.table.pairs (pair_count w))) (pair_count w) high w z (settling (pair_count w) t) s y h)

  either_side : (c : Bool) (r r' x x' : Res Worth) → AlikeResult r r' → AlikeResult x x' → AlikeResult (if c then r else x) (if c then r' else x')
  either_side true r r' x x' h g = h
  either_side false r r' x x' h g = g

  answered-alike : (o : Option (List Bool)) (v v' : Worth) (line : ℕ) (w : World) (z : Store) (t : Told) (s : State) (y : Store) → AlikeWorth m m' v v' → Alikes m m' w z
      → AlikeResult (answer_with_sides o v line w t s) (answer_with_sides o v' line (with_bytes w z) t (moment_at s y))
  answered-alike None v v' line w z t s y g h = (g, noted-alike w z t s y h)
  answered-alike (Some sides) v v' line w z t s y g h =
      either_side (nat_lt (pair_count s.world) (pair_count w)) _ _ _ _ (by_side-alike (slice_get sides (pair_count s.world)) v v' line w z t s y g h) (g, noted-alike w z t s y h)

  -- the same world and what was told, up to bytes
  in_place : (P : World → Told → Type 0) (w w' : World) (t t' : Told) → (e : AlikeWorld m m' w w') → t' ≡ t → P (with_bytes w e.bytes) t → P w' t'
  in_place P w w' t t' e f p = subst (P w') (sym f) (subst (λ x. P x t) (sym e.is) p)

module _ (b : Setting) (m' : Known) where
  ends-alike : (line : ℕ) (y y' : Wrong) (w w' : World) (t t' : Told) (more more' : List What) (s : State) (x : Store) → y' ≡ y → more' ≡ more → AlikeWorld b.types m' w w' → t' ≡ t
      → AlikeResult b.types m' (Stops (Stopped y line) (noted_with w t more s)) (Stops (Stopped y' line) (noted_with w' t' more' (moment_at s x)))
  ends-alike line y y' w w' t t' more more' s x e f g i =
      in_place b.types m' (λ u v. AlikeResult b.types m' (Stops (Stopped y line) (noted_with w t more s)) (Stops (Stopped y' line) (noted_with u v more' (moment_at s x)))) w w' t t' g i
      (subst (λ es. AlikeResult b.types m' (Stops (Stopped y line) (noted_with w t more s)) (Stops (Stopped y' line) (noted_with (with_bytes w g.bytes) t es (moment_at s x)))) (sym f)
      (λ j. Stopped (e j) line, record { bytes = g.bytes; is = refl; alike = g.alike }))

  -- an operation of a node, as it changes the state
  pub acted-alike : (line : ℕ) (d d' : Done) (s : State) (x : Store) → AlikeDone b.types m' d d' → AlikeResult b.types m' (after_doing b line d s) (after_doing (with_types b m') line d' (moment_at s x))
  acted-alike line (Answers v w t) (Answers v' w' t') s x h =
      in_place b.types m' (λ u t'. AlikeResult b.types m' (answer_with_sides b.sides v line w t s) (answer_with_sides b.sides v' line u t' (moment_at s x))) w w' t t' h.1 h.2
      (answered-alike b.types m' b.sides v v' line w h.1.bytes t s x h.0 h.1.alike)
  acted-alike line (Fails y p w t) (Fails y' p' w' t') s x h =
      ends-alike line y y' w w' t t' (fault_told s.world.memory y p) (fault_told s.world.memory y' p') s x h.0 (λ j. fault_told s.world.memory (h.0 j) (h.1 j)) h.2 h.3
  acted-alike line (Breaks y p w t) (Breaks y' p' w' t') s x h =
      ends-alike line y y' w w' t t' (fault_of p (verdict_of y)) (fault_of p' (verdict_of y')) s x h.0 (λ j. fault_of (h.1 j) (verdict_of (h.0 j))) h.2 h.3
  acted-alike line (Answers v w t) (Fails y' p' w' t') s x h = absurd h
  acted-alike line (Answers v w t) (Breaks y' p' w' t') s x h = absurd h
  acted-alike line (Fails y p w t) (Answers v' w' t') s x h = absurd h
  acted-alike line (Fails y p w t) (Breaks y' p' w' t') s x h = absurd h
  acted-alike line (Breaks y p w t) (Answers v' w' t') s x h = absurd h
  acted-alike line (Breaks y p w t) (Fails y' p' w' t') s x h = absurd h
