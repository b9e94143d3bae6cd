-- What a sound table keeps of its instances (the memory model): none shares a byte with another, and the first and last addresses are not theirs.
use Rattle.std.proofs.Common.{◌≡◌, ℕ, ◌-◌, ◌<◌, List, [], ◌∷◌, zero, suc, length, get_or, Some, sym, ◌∙◌, refl, subst, inl, inr, ⊎_elim, arith}
use Rattle.std.proofs.lemmas.Bool.{cases_lt}
use Rattle.pv_prov.specs.declared.pairs.Twin.{Twin}
use Rattle.pv_inst.specs.declared.values.Instance.{Instance}
use Rattle.pv_inst.specs.Table.{Table, instance_at}
use Rattle.pv_inst.specs.WellFormed.{Apart, IsWellFormed}
use Rattle.pv_inst.proofs.Rows.{row_found}
use Rattle.pv_exec.specs.Laying.{AreApart, IsLaidOut}
use Rattle.pv_exec.proofs.Memory.Rows.{Lies, Sound}

turned : (x y : Instance) → Apart x y → Apart y x
turned x y h = λ a b. ⊎_elim (λ l. inr l) (λ l. inl l) (h b a)

any_default : (xs : List Instance) (i : ℕ) (d e : Instance) → i < length xs → get_or xs i d ≡ get_or xs i e
any_default [] i d e h = absurd (omega arith)
any_default (x ∷ xs) zero d e h = refl
any_default (x ∷ xs) (suc i) d e h = any_default xs i d e (omega arith)

module _ (F : Type 0) (xs : List Instance) (ts : List Twin) (s : Sound F xs ts) where
  sound-lies : (i : ℕ) (x : Instance) → instance_at xs i ≡ Some x → Lies F x
  sound-lies i x e =
      let r = row_found xs i x (sym e) in
      let P : Instance → Type 0 = λ z. Lies F z in
      subst P r.here (s.placed (i - 1) x r.within)

  before-apart : (i j : ℕ) (x y : Instance) → i < j → instance_at xs i ≡ Some x → instance_at xs j ≡ Some y → Apart x y
  before-apart i j x y lt e f =
      let r = row_found xs i x (sym e) in
      let q = row_found xs j y (sym f) in
      let P : Instance → Type 0 = λ z. Apart z y in
      let Q : Instance → Type 0 = λ z. Apart (get_or xs (i - 1) x) z in
      subst P r.here (subst Q (any_default xs (j - 1) x y q.within ∙ q.here) (s.apart (i - 1) (j - 1) x (omega (arith, lt, r.from_one)) q.within))

  sound-apart : AreApart xs
  sound-apart i j x y n e f =
      ⊎_elim (λ l. before-apart i j x y l e f)
      (λ l. ⊎_elim (λ m. turned y x (before-apart j i y x m f e)) (λ m. absurd (n (omega arith))) (cases_lt j i))
      (cases_lt i j)

pub sound-laid : (F : Type 0) (T : Table) → Sound F T.instances T.pairs → IsLaidOut T
sound-laid F T s = record {
  within = λ i x e. let l = sound-lies F T.instances T.pairs s i x e in record { from = l.from; upto = l.upto };
  apart = sound-apart F T.instances T.pairs s;
  met = s.met;
  one = s.one;
  few = s.few;
}

pub sound-formed : (F : Type 0) (T : Table) → F → Sound F T.instances T.pairs → IsWellFormed T
sound-formed F T f s = record {
  placed = λ i x e. let l = sound-lies F T.instances T.pairs s i x e in record { some = l.some f; from = l.from; upto = l.upto };
  apart = sound-apart F T.instances T.pairs s;
  met = s.met;
  one = s.one;
  few = s.few;
}
