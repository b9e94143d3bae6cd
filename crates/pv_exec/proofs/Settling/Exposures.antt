-- Exposure (the memory model, 6.3.2.3p6) is the same in both runs: the two of a pair are exposed already.
use Rattle.std.proofs.Common.{◌≡◌, ℕ, zero, suc, ◌-◌, Bool, true, false, not, ◌&&◌, cond, List, [], ◌∷◌, ◌++◌, Option, Some, None, refl, sym, ap, ◌∙◌, subst, arith, All, true≢false}
use Rattle.std.specs.List.{slice_get}
use Rattle.std.proofs.lemmas.Option.{none-some, same_Some}
use Rattle.pv_prov.specs.declared.pairs.Twin.{Twin}
use Rattle.pv_prov.specs.declared.names.Stands.{Stands}
use Rattle.pv_prov.specs.declared.names.Prov.{Prov}
use Rattle.pv_prov.specs.declared.names.Prov.TheVariants.{Empty, Inst, Pair}
use Rattle.pv_prov.specs.Names.{stands, stands_of, twin_at}
use Rattle.pv_prov.specs.NameParts.{those_kept}
use Rattle.pv_inst.specs.declared.values.Instance.{Instance}
use Rattle.pv_inst.specs.Table.{Table, instance_at, with_instance}
use Rattle.pv_inst.specs.Exposure.{expose, expose_one, exposing}
use Rattle.pv_inst.specs.ExposureParts.{expose_two, exposure_from}
use Rattle.pv_inst.specs.WellFormed.{Meet, HasMet}
use Rattle.pv_shadow.specs.declared.byte.Byte.{Byte}
use Rattle.pv_object.specs.Loading.{exposed_by}
use Rattle.pv_exec.proofs.Memory.Rows.{Sound}
use Rattle.pv_exec.proofs.Memory.Tables.{expose-leads}
use Rattle.pv_exec.proofs.Settling.Sides.{to_side, on_sides, on_table}

-- what holds of every pair holds of one
pub pair-here : (ts : List Twin) (k : ℕ) (t : Twin) (P : Twin → Type 0) → slice_get ts k ≡ Some t → All P ts → P t
pair-here [] k t P e all = absurd (none-some t e)
pair-here (u ∷ ts) zero t P e all = subst P (same_Some u t e) (all 0 u (omega arith))
pair-here (u ∷ ts) (suc k) t P e all = pair-here ts k t P e (λ j d h. all (suc j) d (omega arith))

-- an instance that is exposed, or none
abbrev pub IsShown : List Instance → Option ℕ → Type 0
IsShown xs None = Unit {0}
IsShown xs (Some i) = (x : Instance) → instance_at xs i ≡ Some x → x.exposed ≡ true

cond-quiet : (live exposed : Bool) (T U : Table) → exposed ≡ true → cond (live && not exposed) U T ≡ T
cond-quiet true true T U e = refl
cond-quiet true false T U e = absurd (true≢false (sym e))
cond-quiet false exposed T U e = refl

quiet-at : (T : Table) (i : ℕ) (o : Option Instance) → instance_at T.instances i ≡ o → IsShown T.instances (Some i) → exposing T i o ≡ T
quiet-at T i None e h = refl
quiet-at T i (Some x) e h = cond-quiet x.live x.exposed T (record T { instances = with_instance T.instances i (exposure_from x); pending = T.pending ++ i ∷ [] }) (h x e)

quiet-one : (T : Table) (o : Option ℕ) → IsShown T.instances o → expose_one T o ≡ T
quiet-one T None h = refl
quiet-one T (Some i) h = quiet-at T i (instance_at T.instances i) refl h

quiet-two : (T : Table) (s : Stands) → IsShown T.instances s.low → IsShown T.instances s.high → expose_two T s ≡ T
quiet-two T s h g = ap (λ (U : Table). expose_one U s.high) (quiet-one T s.low h) ∙ quiet-one T s.high g

meet-low : (a b : Option Instance) (x : Instance) → Meet a b → a ≡ Some x → x.exposed ≡ true
meet-low None b x m e = absurd m
meet-low (Some y) None x m e = absurd m
meet-low (Some y) (Some z) x m e = subst (λ (v : Instance). v.exposed ≡ true) (same_Some y x e) m.0

meet-high : (a b : Option Instance) (x : Instance) → Meet a b → b ≡ Some x → x.exposed ≡ true
meet-high None b x m e = absurd m
meet-high (Some y) None x m e = absurd m
meet-high (Some y) (Some z) x m e = subst (λ (v : Instance). v.exposed ≡ true) (same_Some z x e) m.1

shown-if : (b : Bool) (xs : List Instance) (i : ℕ) → ((x : Instance) → instance_at xs i ≡ Some x → x.exposed ≡ true) → IsShown xs (cond b (Some i) None)
shown-if true xs i h = h
shown-if false xs i h = tt

-- the two of a pair are exposed, whatever it keeps
pair-quiet : (T : Table) (o : Option Twin) → ((t : Twin) → o ≡ Some t → HasMet T.instances t) → expose_two T (stands_of o) ≡ T
pair-quiet T None h = refl
pair-quiet T (Some t) h =
    let m = h t refl in
    quiet-two T (those_kept t)
    (shown-if t.keeps_low T.instances t.low (λ x e. meet-low (instance_at T.instances t.low) (instance_at T.instances t.high) x m e))
    (shown-if t.keeps_high T.instances t.high (λ x e. meet-high (instance_at T.instances t.low) (instance_at T.instances t.high) x m e))

-- the pairs of a settled run meet as those of the late one do
pub met-on : (ds : List Bool) (xs : List Instance) (ts : List Twin) (k : ℕ) (t : Twin) → All (HasMet xs) ts → slice_get (on_sides ds ts) k ≡ Some t → HasMet xs t
met-on ds xs [] k t all e = absurd (none-some t e)
met-on [] xs (v ∷ ts) k t all e = pair-here (v ∷ ts) k t (HasMet xs) e all
met-on (d ∷ ds) xs (v ∷ ts) zero t all e = subst (HasMet xs) (same_Some (to_side d v) t e) (all 0 v (omega arith))
met-on (d ∷ ds) xs (v ∷ ts) (suc k) t all e = met-on ds xs ts k t (λ j d h. all (suc j) d (omega arith)) e

cond-on : (ds : List Bool) (b : Bool) (T : Table) (xs : List Instance) (is : List ℕ) → cond b (record (on_table ds T) { instances = xs; pending = is }) (on_table ds T) ≡ on_table ds (cond b (record T { instances = xs; pending = is }) T)
cond-on ds true T xs is = refl
cond-on ds false T xs is = refl

exposing-on : (ds : List Bool) (T : Table) (i : ℕ) (o : Option Instance) → exposing (on_table ds T) i o ≡ on_table ds (exposing T i o)
exposing-on ds T i None = refl
exposing-on ds T i (Some x) = cond-on ds (x.live && not x.exposed) T (with_instance T.instances i (exposure_from x)) (T.pending ++ i ∷ [])

module _ {F : Type 0} where
  pub expose-on : (ds : List Bool) (T : Table) (p : Prov) → Sound F T.instances T.pairs → expose (on_table ds T) p ≡ on_table ds (expose T p)
  expose-on ds T Empty s = refl
  expose-on ds T (Inst i) s = exposing-on ds T i (instance_at T.instances i)
  expose-on ds T (Pair k) s =
      pair-quiet (on_table ds T) (twin_at (on_sides ds T.pairs) k) (λ t e. met-on ds T.instances T.pairs (k - 1) t s.met e)
      ∙ ap (on_table ds) (sym (pair-quiet T (twin_at T.pairs k) (λ t e. pair-here T.pairs (k - 1) t (HasMet T.instances) e s.met)))

  -- of the names of bytes, one by one
  pub bytes-on : (ds : List Bool) (T : Table) (bs : List Byte) → Sound F T.instances T.pairs → exposed_by (on_table ds T) bs ≡ on_table ds (exposed_by T bs)
  bytes-on ds T [] s = refl
  bytes-on ds T (b ∷ bs) s = ap (λ (U : Table). exposed_by U bs) (expose-on ds T b.prov s) ∙ bytes-on ds (expose T b.prov) bs ((expose-leads {F = F} T b.prov).sound s)

-- it changes no pair
one-pairs : (T : Table) (o : Option ℕ) → (expose_one T o).pairs ≡ T.pairs
one-pairs T None = refl
one-pairs T (Some i) = at (instance_at T.instances i)
  where
    by : (b : Bool) (x : Instance) → (cond b (record T { instances = with_instance T.instances i (exposure_from x); pending = T.pending ++ i ∷ [] }) T).pairs ≡ T.pairs
    by true x = refl
    by false x = refl

    at : (o : Option Instance) → (exposing T i o).pairs ≡ T.pairs
    at None = refl
    at (Some x) = by (x.live && not x.exposed) x

pub expose-pairs : (T : Table) (p : Prov) → (expose T p).pairs ≡ T.pairs
expose-pairs T p = one-pairs (expose_one T (stands T.pairs p).low) (stands T.pairs p).high ∙ one-pairs T (stands T.pairs p).low

pub bytes-pairs : (T : Table) (bs : List Byte) → (exposed_by T bs).pairs ≡ T.pairs
bytes-pairs T [] = refl
bytes-pairs T (b ∷ bs) = bytes-pairs (expose T b.prov) bs ∙ expose-pairs T b.prov
