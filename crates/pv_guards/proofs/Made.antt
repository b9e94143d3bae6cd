-- From a table to a later one: names that were made stay made, and instances lie as they did (C17 6.2.4, the memory model).
use Rattle.std.proofs.Common.{◌≡◌, ◌≢◌, ℕ, zero, suc, ◌+◌, ◌-◌, ◌<◌, ◌≤◌, false, cond, eqb, List, [], ◌∷◌, length, get_or, Option, Some, None, refl, sym, ap, ◌∙◌, subst, arith}
use Rattle.std.specs.List.{slice_get}
use Rattle.std.proofs.lemmas.Bool.Decides.{nat_tests}
use Rattle.std.proofs.lemmas.Option.{slice_get_within}
use Rattle.pv_prov.specs.declared.names.Prov.TheVariants.{Empty, Inst, Pair}
use Rattle.pv_prov.specs.declared.pairs.Twin.{Twin}
use Rattle.pv_prov.specs.Names.{twin_at}
use Rattle.pv_inst.specs.declared.values.Instance.{Instance}
use Rattle.pv_inst.specs.Table.{Table, instance_at, IsNumber}
use Rattle.pv_inst.proofs.Rows.{row_found}
use Rattle.pv_eval.specs.States.{Setting}
use Rattle.pv_exec.specs.Staying.{Remains, AllRemain, Settles, AllSettle}
use Rattle.pv_exec.specs.Laying.{IsLaidOut}
use Rattle.pv_exec.proofs.Memory.Ways.{Changes, OfTables, of-all}
use Rattle.pv_exec.proofs.Memory.Rows.{Sound, Leads}
use Rattle.pv_exec.proofs.Memory.Tables.{leading}
use Rattle.pv_exec.proofs.Memory.Operations.{Filled}
use Rattle.pv_guards.proofs.Laid.{sound-laid}
use Rattle.pv_guards.proofs.Fair.{Keeps}

slice-there : {A : Type 0} (xs : List A) (k : ℕ) → k < length xs → (x : A) × (slice_get xs k ≡ Some x)
slice-there [] k h = absurd (omega arith)
slice-there (x ∷ xs) zero h = (x, refl)
slice-there (x ∷ xs) (suc k) h = slice-there xs k (omega (arith, h))

slice-here : {A : Type 0} (xs : List A) (k : ℕ) (d : A) → k < length xs → slice_get xs k ≡ Some (get_or xs k d)
slice-here [] k d h = absurd (omega arith)
slice-here (x ∷ xs) zero d h = refl
slice-here (x ∷ xs) (suc k) d h = slice-here xs k d (omega (arith, h))

-- an instance under each number that was given
pub instance-there : (xs : List Instance) (i : ℕ) → IsNumber xs i → (x : Instance) × (instance_at xs i ≡ Some x)
instance-there xs i h =
    let some : 1 ≤ i = h.0 in
    let z : eqb i 0 ≡ false = grind (arith, nat_tests) in
    let r = slice-there xs (i - 1) (omega (arith, h.0, h.1)) in
    (r.0, ap (λ b. cond b None (slice_get xs (i - 1))) z ∙ r.1)

pub number-of : (xs : List Instance) (i : ℕ) (x : Instance) → instance_at xs i ≡ Some x → IsNumber xs i
number-of xs i x e = let r = row_found xs i x (sym e) in (r.from_one, omega (arith, r.from_one, r.within))

remains-number : (xs ys : List Instance) → AllRemain xs ys → (i : ℕ) → IsNumber xs i → IsNumber ys i
remains-number xs ys r i h =
    let x = instance-there xs i h in
    by x.0 (instance_at ys i) refl (subst (λ o. Remains o (instance_at ys i)) x.1 (r i))
  where
    by : (x : Instance) (o : Option Instance) → instance_at ys i ≡ o → Remains (Some x) o → IsNumber ys i
    by x None e q = absurd q
    by x (Some y) e q = number-of ys i y e

settles-number : (ts us : List Twin) → AllSettle ts us → (k : ℕ) → 1 ≤ k → k ≤ length ts → k ≤ length us
settles-number ts us r k some h =
    let t = slice-there ts (k - 1) (omega (arith, some, h)) in
    by t.0 (twin_at us k) refl (subst (λ o. Settles o (twin_at us k)) t.1 (r k))
  where
    by : (t : Twin) (o : Option Twin) → twin_at us k ≡ o → Settles (Some t) o → k ≤ length us
    by t None e q = absurd q
    by t (Some u) e q = let l = slice_get_within us (k - 1) u e in omega (arith, some, l)

module _ (T U : Table) (l : Leads ⊥ T U) where
  pub number-led : (i : ℕ) → IsNumber T.instances i → IsNumber U.instances i
  number-led i h = remains-number T.instances U.instances l.remain i h

  pub made-led : Keeps T U
  made-led Empty h = tt
  made-led (Inst i) h = number-led i h
  made-led (Pair k) h = (h.0, settles-number T.pairs U.pairs l.settle k h.0 h.1)

-- instances as they lie in every run
row-number : (xs : List Instance) (k : ℕ) (d : Instance) → k < length xs → instance_at xs (k + 1) ≡ Some (get_or xs k d)
row-number xs k d h =
    let z : eqb (k + 1) 0 ≡ false = grind (arith, nat_tests) in
    let same : k + 1 - 1 ≡ k = omega arith in
    ap (λ b. cond b None (slice_get xs (k + 1 - 1))) z ∙ ap (slice_get xs) same ∙ slice-here xs k d h

pub laid-sound : (T : Table) → IsLaidOut T → Sound ⊥ T.instances T.pairs
laid-sound T h = record {
  placed = λ k d l. let w = h.within (k + 1) (get_or T.instances k d) (row-number T.instances k d l) in record { some = λ x. absurd x; from = w.from; upto = w.upto };
  apart = λ i j d l m.
      let n : (i + 1) ≢ (j + 1) = λ e. omega (arith, l, e) in
      h.apart (i + 1) (j + 1) (get_or T.instances i d) (get_or T.instances j d) n (row-number T.instances i d (omega (arith, l, m))) (row-number T.instances j d m);
  met = h.met;
  one = h.one;
  few = h.few;
}

pub laid-led : (T U : Table) → Leads ⊥ T U → IsLaidOut T → IsLaidOut U
laid-led T U l h = sound-laid ⊥ U (l.sound (laid-sound T h))

-- every way in which an operation changes a table
pub led-changes : (b : Setting) → Changes (Filled b) (OfTables (Leads ⊥))
led-changes b = of-all (leading ⊥)
