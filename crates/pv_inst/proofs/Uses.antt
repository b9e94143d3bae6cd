-- What a pair may keep that is used: those that pass.
use Rattle.std.proofs.Common.{◌≡◌, ℕ, Bool, true, false, cond, List, Option, Some, None, Ok, Err, IfSome, IsTrue, inl, inr, ⊎_elim, refl, sym, ap, ◌∙◌}
use Rattle.std.proofs.lemmas.Bool.{false≢true}
use Rattle.pv_prov.specs.declared.names.Prov.TheVariants.{Pair}
use Rattle.pv_prov.specs.declared.pairs.Twin.{Twin}
use Rattle.pv_prov.specs.declared.names.Stands.{Stands}
use Rattle.pv_prov.specs.Names.{stands, stands_of, twin_at}
use Rattle.pv_inst.specs.declared.values.Instance.{Instance}
use Rattle.pv_inst.specs.declared.values.Test.{Test}
use Rattle.pv_inst.specs.declared.values.Tried.{Tried}
use Rattle.pv_inst.specs.declared.values.Miss.{Miss}
use Rattle.pv_inst.specs.Table.{Table}
use Rattle.pv_inst.specs.Use.{survives, any_survives, test_answer}
use Rattle.pv_inst.specs.Answers.{CanKeep}
use Rattle.pv_inst.proofs.Together.{or_cases}

judged_ok : (zap : Bool) (xs : List Instance) (s : Stands) (pair : Option ℕ) (t : Test) (tried : Tried) → test_answer zap xs s pair t ≡ Ok tried → (any_survives zap xs s t ≡ true) × (tried ≡ record { pair = pair; low = survives zap xs s.low t; high = survives zap xs s.high t })
judged_ok zap xs s pair t tried h = by (any_survives zap xs s t) _ _ refl h
  where
    by : (b : Bool) (x : Tried) (m : Miss) → any_survives zap xs s t ≡ b → cond b (Ok x) (Err m) ≡ Ok tried → (any_survives zap xs s t ≡ true) × (tried ≡ x)
    by true x m e h = (e, cc)
    by false x m e h = absurd cc

surviving : (b : Bool) (i : ℕ) (zap : Bool) (xs : List Instance) (t : Test) → survives zap xs (cond b (Some i) None) t ≡ true → b ≡ true
surviving true i zap xs t h = refl
surviving false i zap xs t h = absurd (false≢true h)

low_kept : (o : Option Twin) (zap : Bool) (xs : List Instance) (t : Test) → survives zap xs (stands_of o).low t ≡ true → IfSome o (λ (w : Twin). IsTrue w.keeps_low)
low_kept None zap xs t h = tt
low_kept (Some w) zap xs t h = surviving w.keeps_low w.low zap xs t h

high_kept : (o : Option Twin) (zap : Bool) (xs : List Instance) (t : Test) → survives zap xs (stands_of o).high t ≡ true → IfSome o (λ (w : Twin). IsTrue w.keeps_high)
high_kept None zap xs t h = tt
high_kept (Some w) zap xs t h = surviving w.keeps_high w.high zap xs t h

-- a pair may keep those that pass
pub judged_can : (T : Table) (k : ℕ) (pair : Option ℕ) (t : Test) (tried : Tried) → test_answer T.zap T.instances (stands T.pairs (Pair k)) pair t ≡ Ok tried → CanKeep T (Pair k) tried
judged_can T k pair t tried h =
    let s = stands T.pairs (Pair k) in
    let j = judged_ok T.zap T.instances s pair t tried h in
    let low_is : tried.low ≡ survives T.zap T.instances s.low t = ap (λ (x : Tried). x.low) j.1 in
    let high_is : tried.high ≡ survives T.zap T.instances s.high t = ap (λ (x : Tried). x.high) j.1 in (
      ⊎_elim (λ e. inl (low_is ∙ e)) (λ e. inr (high_is ∙ e)) (or_cases (survives T.zap T.instances s.low t) (survives T.zap T.instances s.high t) j.0),
      λ e. low_kept (twin_at T.pairs k) T.zap T.instances t (sym low_is ∙ e),
      λ e. high_kept (twin_at T.pairs k) T.zap T.instances t (sym high_is ∙ e),
    )
