-- What two operands tell that are used together (C17 6.5.6p9, 6.5.8p5), and a pair whose name is used when it was just made (6.3.2.3p5).
use Rattle.std.proofs.Common.{◌≡◌, ℕ, zero, suc, ◌+◌, ◌-◌, ◌≤◌, Bool, true, false, ◌||◌, cond, List, [], ◌∷◌, length, set, drop, Option, Some, None, Result, Ok, Err, IsTrue, IfSome, refl, sym, ap, ◌∙◌, ◌⊎◌, inl, inr}
use Rattle.std.proofs.lemmas.Bool.{and_parts, false≢true}
use Rattle.std.proofs.lemmas.Option.{same_Some}
use Rattle.std.specs.List.{slice_get}
use Rattle.pv_journal_laws.specs.Naming.{AreDistinct}
use Rattle.pv_prov.specs.declared.pairs.Twin.{Twin}
use Rattle.pv_prov.specs.declared.names.Prov.{Prov}
use Rattle.pv_prov.specs.declared.names.Prov.TheVariants as prov
use Rattle.pv_prov.specs.declared.names.Stands.{Stands}
use Rattle.pv_prov.specs.Names.{twin_at, after_narrowing, stands, stands_of}
use Rattle.pv_prov.specs.NameParts.{keeping, those_kept}
use Rattle.pv_inst.specs.declared.values.Instance.{Instance}
use Rattle.pv_inst.specs.declared.values.Tried.{Tried}
use Rattle.pv_inst.specs.declared.values.Miss.{Miss}
use Rattle.pv_inst.specs.declared.values.Test.TheVariants.{Live}
use Rattle.pv_inst.specs.Table.{Table, instance_at, IsMadeIn}
use Rattle.pv_inst.specs.Use.{after_use, if_two, survives}
use Rattle.pv_inst.specs.SameParts.{made_passes}
use Rattle.pv_inst.specs.TwoPointers.{in_common, is_number, tried_beside, same_miss, same_state, after_same, after_left, same_left, same_right}
use Rattle.pv_inst.specs.Answers.{CanKeep}
use Rattle.pv_inst.specs.Infos.{base_of}
use Rattle.pv_inst.specs.WellFormed.{HasMet}
use Rattle.pv_inst.proofs.Together.{Common, common_found, left_can, right_can}
use Rattle.pv_watch.specs.declared.event.What.{What}
use Rattle.pv_watch.specs.declared.event.What.TheVariants as what
use Rattle.pv_world.specs.Telling.{event_of_use, both_used, same_test, each_paired, pairings}
use Rattle.pv_exec.proofs.Memory.Rows.{kept-led}
use Rattle.pv_journal_laws.proofs.Telling.{IsNumbered}
use Rattle.pv_journal_laws.proofs.Sames.{keep_tells}
use Rattle.pv_journal_laws.proofs.Changes.{Tells, tells-itself, tells-trans, sane_filled}
use Rattle.pv_journal_laws.proofs.Numbering.{made_numbered}
use Rattle.pv_journal_laws.proofs.Parts.{all_here}

-- a candidate in common was kept, and lives
common_kept : (b : Bool) (i : ℕ) (xs : List Instance) (r : Stands) → in_common xs (cond b (Some i) None) r ≡ true → b ≡ true
common_kept true i xs r h = refl
common_kept false i xs r h = absurd (false≢true h)

common_lives : (b : Bool) (i : ℕ) (xs : List Instance) (r : Stands) (x : Instance) → instance_at xs i ≡ Some x → in_common xs (cond b (Some i) None) r ≡ true → x.live ≡ true
common_lives true i xs r x at h = sym (ap (λ o. made_passes true o Live) at) ∙ (and_parts (survives true xs (Some i) Live) (is_number r.low i || is_number r.high i) h).0
common_lives false i xs r x at h = absurd (false≢true h)

module _ (names : List (List ℕ)) (distinct : AreDistinct names) (turn : ℕ) where
  pair-keeps : (T : Table) (k : ℕ) (other : Stands) → 1 ≤ k → CanKeep T (prov.Pair k) (tried_beside T (prov.Pair k) other) → (o : Option Twin) → twin_at T.pairs k ≡ o
      → let tried : Tried = record { pair = if_two k (stands_of o); low = in_common T.instances (stands_of o).low other; high = in_common T.instances (stands_of o).high other } in
      ((tried.low ≡ true) ⊎ (tried.high ≡ true)) × (tried.low ≡ true → IfSome (twin_at T.pairs k) (λ t. IsTrue t.keeps_low)) × (tried.high ≡ true → IfSome (twin_at T.pairs k) (λ t. IsTrue t.keeps_high))
      → Tells names turn T (event_of_use same_test tried) (after_use T (prov.Pair k) (Ok tried))
  pair-keeps T k other one can None e may = record {
    led = kept-led T.instances T.pairs k false false may;
    zap = refl;
    pending = refl;
    called = λ c. c;
    told = λ s f. absurd (none may.0);
  }
    where
      none : (false ≡ true) ⊎ (false ≡ true) → ⊥
      none (inl h) = false≢true h
      none (inr h) = false≢true h
  pair-keeps T k other one can (Some t) e may = record {
    led = kept-led T.instances T.pairs k (in_common T.instances (those_kept t).low other) (in_common T.instances (those_kept t).high other) may;
    zap = refl;
    pending = refl;
    called = λ c. c;
    told = λ s f.
        keep_tells names distinct turn false T k t (in_common T.instances (those_kept t).low other) (in_common T.instances (those_kept t).high other) s.called (sane_filled s) one e
        (all_here (HasMet T.instances) T.pairs (k - 1) t s.sound.met e) may.0
        (common_kept t.keeps_low t.low T.instances other) (common_kept t.keeps_high t.high T.instances other)
        (λ x at h. common_lives t.keeps_low t.low T.instances other x at h) (λ y at h. common_lives t.keeps_high t.high T.instances other y at h);
  }

  -- a use beside another operand
  beside-tells : (T : Table) (p : Prov) (other : Stands) → IsNumbered p → CanKeep T p (tried_beside T p other) → Tells names turn T (event_of_use same_test (tried_beside T p other)) (after_use T p (Ok (tried_beside T p other)))
  unfolding tried_beside
  beside-tells T prov.Empty other one can = tells-itself
  beside-tells T (prov.Inst i) other one can = tells-itself
  beside-tells T (prov.Pair k) other one can = pair-keeps T k other one can (twin_at T.pairs k) refl can

  -- what is told of two operands that are used together
  abbrev pub together_told : Option Miss → Table → Prov → Prov → List What
  together_told (Some m) T p q = []
  together_told None T p q = both_used (same_left T p q) (same_right T p q)

  same-by : (T : Table) (p q : Prov) (o : Option Miss) → same_miss T p q ≡ o → IsMadeIn T p → IsMadeIn T q → Tells names turn T (together_told o T p q) (same_state o T p q)
  same-by T p q (Some m) e a b = tells-itself
  same-by T p q None e a b =
      let c : Common T.instances (stands T.pairs p) (stands T.pairs q) = common_found T.instances p q (stands T.pairs p) (stands T.pairs q) e in
      tells-trans (beside-tells T p (stands T.pairs q) (made_numbered T p a) (left_can T p q c))
      (beside-tells (after_left T p q) q (stands T.pairs p) (made_numbered T q b) (right_can T p q a b c))

  pub same-tells : (T : Table) (p q : Prov) → IsMadeIn T p → IsMadeIn T q → Tells names turn T (together_told (same_miss T p q) T p q) (after_same T p q)
  same-tells T p q a b = same-by T p q (same_miss T p q) refl a b

-- ---- pairs that were just made

-- pairs of the same instances
abbrev Alike : List Twin → List Twin → Type 0
Alike [] [] = Unit {0}
Alike [] (u ∷ us) = ⊥
Alike (t ∷ ts) [] = ⊥
Alike (t ∷ ts) (u ∷ us) = (t.low ≡ u.low) × (t.high ≡ u.high) × Alike ts us

alike_itself : (ts : List Twin) → Alike ts ts
alike_itself [] = tt
alike_itself (t ∷ ts) = (refl, refl, alike_itself ts)

alike_set : (ts : List Twin) (i : ℕ) (t u : Twin) → slice_get ts i ≡ Some t → t.low ≡ u.low → t.high ≡ u.high → Alike ts (set ts i u)
alike_set [] i t u e l h = tt
alike_set (v ∷ ts) zero t u e l h = let same : v ≡ t = same_Some v t e in (ap (λ (z : Twin). z.low) same ∙ l, ap (λ (z : Twin). z.high) same ∙ h, alike_itself ts)
alike_set (v ∷ ts) (suc i) t u e l h = (refl, refl, alike_set ts i t u e l h)

alike_kept : (ts : List Twin) (k : ℕ) (low high : Bool) → Alike ts (after_narrowing ts k low high)
alike_kept ts k low high = by (twin_at ts k) refl
  where
    by : (o : Option Twin) → twin_at ts k ≡ o → Alike ts (keeping o ts k low high)
    by None e = alike_itself ts
    by (Some t) e = alike_set ts (k - 1) t (record { low = t.low; high = t.high; keeps_low = low; keeps_high = high }) e refl refl

alike_drop : (n : ℕ) (ts us : List Twin) → Alike ts us → Alike (drop n ts) (drop n us)
alike_drop zero ts us h = h
alike_drop (suc n) [] [] h = tt
alike_drop (suc n) [] (u ∷ us) h = absurd h
alike_drop (suc n) (t ∷ ts) [] h = absurd h
alike_drop (suc n) (t ∷ ts) (u ∷ us) h = alike_drop n ts us h.2

alike_paired : (T U : Table) (k : ℕ) (ts us : List Twin) → T.instances ≡ U.instances → Alike ts us → each_paired T k ts ≡ each_paired U k us
alike_paired T U k [] [] e h = refl
alike_paired T U k [] (u ∷ us) e h = absurd h
alike_paired T U k (t ∷ ts) [] e h = absurd h
alike_paired T U k (t ∷ ts) (u ∷ us) e h =
    λ n. what.Pair k (base_of (instance_at (e n) (h.1 n))) (h.0 n) (h.1 n) ∷ alike_paired T U (k + 1) ts us e h.2 n

-- what a use settles is the same pairs
pub settled_paired : (T U : Table) (p : Prov) (r : Result Tried Miss) → pairings T (after_use U p r) ≡ pairings T U
settled_paired T U prov.Empty r = refl
settled_paired T U (prov.Inst i) r = refl
settled_paired T U (prov.Pair k) (Err m) = refl
settled_paired T U (prov.Pair k) (Ok tried) =
    sym (alike_paired U (record U { pairs = after_narrowing U.pairs k tried.low tried.high }) (length T.pairs + 1) (drop (length T.pairs) U.pairs) (drop (length T.pairs) (after_narrowing U.pairs k tried.low tried.high)) refl
    (alike_drop (length T.pairs) U.pairs (after_narrowing U.pairs k tried.low tried.high) (alike_kept U.pairs k tried.low tried.high)))

-- where no pair was made, none is told
pub none_paired : (T U : Table) → U.pairs ≡ T.pairs → pairings T U ≡ []
none_paired T U e = ap (λ ts. each_paired U (length T.pairs + 1) (drop (length T.pairs) ts)) e ∙ ap (each_paired U (length T.pairs + 1)) (whole T.pairs)
  where
    whole : (ts : List Twin) → drop (length ts) ts ≡ []
    whole [] = refl
    whole (t ∷ ts) = whole ts
