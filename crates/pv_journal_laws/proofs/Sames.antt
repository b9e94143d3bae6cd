-- A use beside another operand (C17 6.5.6p9, 6.5.8p5) tells what passes.
use Rattle.std.proofs.Common.{◌≡◌, ℕ, ◌+◌, ◌≤◌, Bool, true, false, List, Option, Some, None, if◌then◌else◌, refl, sym, ap, ◌∙◌, ◌⊎◌, inl, inr}
use Rattle.std.proofs.lemmas.Bool.{false≢true}
use Rattle.pv_script.specs.Names.{name_at}
use Rattle.pv_journal_laws.specs.Naming.{AreDistinct}
use Rattle.pv_prov.specs.declared.pairs.Twin.{Twin}
use Rattle.pv_prov.specs.declared.names.Prov.TheVariants as prov
use Rattle.pv_prov.specs.Names.{twin_at, after_narrowing}
use Rattle.pv_prov.specs.NameParts.{those_kept}
use Rattle.pv_inst.specs.declared.values.Instance.{Instance}
use Rattle.pv_inst.specs.Table.{Table, instance_at}
use Rattle.pv_inst.specs.Use.{two_of, if_two}
use Rattle.pv_inst.specs.WellFormed.{HasMet}
use Rattle.pv_world.specs.Telling.{same_test}
use Rattle.pv_world.specs.ObjectParts.{used_pair}
use Rattle.pv_journal_laws.proofs.Telling.{state_of, told_from, AreCalled}
use Rattle.pv_journal_laws.proofs.Rows.{met_rows, may_same, use_passes}
use Rattle.pv_journal_laws.proofs.Uses.{AllFill, at_table, tried_told, differ, keeps_as, row_all}

module _ (names : List (List ℕ)) (distinct : AreDistinct names) (turn : ℕ) (past : Bool) where
  -- what is told of a use of pair k beside another operand
  abbrev pub KeepTells : Table → (k : ℕ) → (pair : Option ℕ) → (low high : Bool) → Type 0
  KeepTells T k pair low high =
      told_from names (at_table names turn past T) (used_pair pair same_test (record { pair = pair; low = low; high = high })) ≡ Some (state_of names turn past T.instances (after_narrowing T.pairs k low high))

  both_kept : (T : Table) (k : ℕ) (t : Twin) (x y : Instance) (low high : Bool) → AreCalled names T → AllFill T.instances → 1 ≤ k → twin_at T.pairs k ≡ Some t → t.keeps_low ≡ true → t.keeps_high ≡ true
      → instance_at T.instances t.low ≡ Some x → instance_at T.instances t.high ≡ Some y → x.base + x.size ≡ y.base → (low ≡ true) ⊎ (high ≡ true) → (low ≡ true → x.live ≡ true) → (high ≡ true → y.live ≡ true)
      → KeepTells T k (Some k) low high
  both_kept T k t x y low high called fill one at kl kh lat hat meet some xl yl =
      let size = row_all (λ (z : Instance). 1 ≤ z.size) T.instances t.low x fill lat in
      tried_told names turn past T k 4 t low high _ at some
      (λ f e. use_passes names distinct turn past T k 4 t x y low high called one at kl kh lat hat (differ names distinct T t.low t.high x y called lat hat size meet)
      (may_same x.live y.live low high (name_at names x.name) (name_at names y.name) xl yl) f e)

  -- a use beside another operand: what a pair keeps it kept before, and it lives
  pub keep_tells : (T : Table) (k : ℕ) (t : Twin) (low high : Bool) → AreCalled names T → AllFill T.instances → 1 ≤ k → twin_at T.pairs k ≡ Some t → HasMet T.instances t → (low ≡ true) ⊎ (high ≡ true)
      → (low ≡ true → t.keeps_low ≡ true) → (high ≡ true → t.keeps_high ≡ true)
      → ((x : Instance) → instance_at T.instances t.low ≡ Some x → low ≡ true → x.live ≡ true) → ((y : Instance) → instance_at T.instances t.high ≡ Some y → high ≡ true → y.live ≡ true)
      → KeepTells T k (two_of (prov.Pair k) (those_kept t)) low high
  keep_tells T k t low high called fill one at met some l h xl yl = met_rows T.instances t.low t.high met (λ x y lat hat meet. by x y lat hat meet t.keeps_low t.keeps_high refl refl)
    where
      alone_low : (a b : Bool) → (a ≡ true) ⊎ (b ≡ true) → (b ≡ true → false ≡ true) → (a ≡ true) × (b ≡ false)
      alone_low true true s f = absurd (false≢true (f refl))
      alone_low true false s f = (refl, refl)
      alone_low false b (inl e) f = absurd (false≢true e)
      alone_low false b (inr e) f = absurd (false≢true (f e))

      alone_high : (a b : Bool) → (a ≡ true) ⊎ (b ≡ true) → (a ≡ true → false ≡ true) → (a ≡ false) × (b ≡ true)
      alone_high true b s f = absurd (false≢true (f refl))
      alone_high false true s f = (refl, refl)
      alone_high false false (inl e) f = absurd (false≢true e)
      alone_high false false (inr e) f = absurd (false≢true e)

      stays : (low high : Bool) → low ≡ t.keeps_low → high ≡ t.keeps_high → KeepTells T k None low high
      stays low high e f = ap (λ ts. Some (state_of names turn past T.instances ts)) (sym (keeps_as T.pairs k t low high at e f))

      by : (x y : Instance) → instance_at T.instances t.low ≡ Some x → instance_at T.instances t.high ≡ Some y → x.base + x.size ≡ y.base → (kl kh : Bool) → t.keeps_low ≡ kl → t.keeps_high ≡ kh
          → KeepTells T k (if_two k (record { low = if kl then Some t.low else None; high = if kh then Some t.high else None })) low high
      by x y lat hat meet true true el eh = both_kept T k t x y low high called fill one at el eh lat hat meet some (xl x lat) (yl y hat)
      by x y lat hat meet true false el eh = let a = alone_low low high some (λ e. sym eh ∙ h e) in stays low high (a.0 ∙ sym el) (a.1 ∙ sym eh)
      by x y lat hat meet false true el eh = let a = alone_high low high some (λ e. sym el ∙ l e) in stays low high (a.0 ∙ sym el) (a.1 ∙ sym eh)
      by x y lat hat meet false false el eh = absurd (neither some)
        where
          neither : (low ≡ true) ⊎ (high ≡ true) → ⊥
          neither (inl e) = false≢true (sym el ∙ l e)
          neither (inr e) = false≢true (sym eh ∙ h e)
