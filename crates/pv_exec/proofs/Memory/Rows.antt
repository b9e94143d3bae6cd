-- What instances and pairs keep among themselves, and what leads from some to others: a row that changes, one more row, other pairs.
use Rattle.std.proofs.Common.{◌≡◌, ◌≢◌, ℕ, zero, suc, ◌+◌, ◌-◌, ◌<◌, ◌≤◌, ◌^◌, Bool, true, false, ◌||◌, cond, eqb, List, [], ◌∷◌, ◌++◌, length, get_or, set, Option, Some, None, refl, sym, ap, ◌∙◌, subst, ◌⊎◌, inl, inr, arith, All, AllPairs, IsTrue, IfSome}
use Rattle.std.specs.List.{slice_get}
use Rattle.std.proofs.lemmas.Bool.{false≢true}
use Rattle.std.proofs.lemmas.Option.{slice_get_within}
use Rattle.std.proofs.lemmas.List.Elements.{All-set, All-push}
use Rattle.std.proofs.lemmas.List.Quantifiers.{all_pairs_push}
use Rattle.std.proofs.lemmas.List.Sums.{sum_by-set, sum_by_push}
use Rattle.pv_prov.specs.declared.pairs.Twin.{Twin}
use Rattle.pv_prov.specs.Twins.{KeepsOne}
use Rattle.pv_prov.specs.Names.{twin_at, after_narrowing, with_twin}
use Rattle.pv_prov.specs.NameParts.{keeping}
use Rattle.pv_prov.specs.Made.{Stands_low, Stands_high}
use Rattle.pv_inst.specs.declared.values.Instance.{Instance}
use Rattle.pv_inst.specs.Table.{Table, instance_at, with_instance, live_bytes}
use Rattle.pv_inst.specs.TableParts.{live_size}
use Rattle.pv_inst.specs.Placing.{first_overlap}
use Rattle.pv_inst.specs.WellFormed.{Apart, HasMet}
use Rattle.pv_inst.proofs.Rows.{IsRow}
use Rattle.pv_inst.proofs.Together.{slice_get-set_here, slice_get-set_other}
use Rattle.pv_inst.proofs.Meetings.{same_or_not, met_set, met_push, met_kept}
use Rattle.pv_inst.proofs.Apartness.{apart_set, apart_fresh, none_nearest}
use Rattle.pv_exec.specs.Staying.{StaysAs, Remains, AllRemain, SettlesFrom, Settles, AllSettle}

-- an instance lies within the addresses; it has a byte, if every type has (F)
pub record Lies (F : Type 0) (x : Instance) : Type 0 where
  pub some : F → 1 ≤ x.size
  pub from : 4096 ≤ x.base
  pub upto : x.base + x.size ≤ 2 ^ 47

-- what instances and pairs keep among themselves
pub record Sound (F : Type 0) (xs : List Instance) (ts : List Twin) : Type 0 where
  pub placed : All (Lies F) xs
  pub apart : AllPairs Apart xs
  pub met : All (HasMet xs) ts
  pub one : KeepsOne ts
  pub few : live_bytes xs ≤ 2 ^ 24

-- from instances and pairs to others: none is lost, and what is kept is kept still
pub record Led (F : Type 0) (xs : List Instance) (ts : List Twin) (ys : List Instance) (us : List Twin) : Type 0 where
  pub remain : AllRemain xs ys
  pub settle : AllSettle ts us
  pub sound : Sound F xs ts → Sound F ys us

-- the same of two tables
abbrev pub Leads : Type 0 → Table → Table → Type 0
Leads F T U = Led F T.instances T.pairs U.instances U.pairs

remains-itself : (o : Option Instance) → Remains o o
remains-itself None = tt
remains-itself (Some x) = record { name = refl; k = refl; base = refl; size = refl; kind = refl; lived = λ e. e; exposed = λ e. e }

remains-trans : (a b c : Option Instance) → Remains a b → Remains b c → Remains a c
remains-trans None b c h g = tt
remains-trans (Some x) None c h g = absurd h
remains-trans (Some x) (Some y) None h g = absurd g
remains-trans (Some x) (Some y) (Some z) h g = record {
  name = g.name ∙ h.name;
  k = g.k ∙ h.k;
  base = g.base ∙ h.base;
  size = g.size ∙ h.size;
  kind = g.kind ∙ h.kind;
  lived = λ e. h.lived (g.lived e);
  exposed = λ e. g.exposed (h.exposed e);
}

remains-by : (b : Bool) (o p : Option Instance) → Remains o p → Remains (cond b None o) (cond b None p)
remains-by true o p h = tt
remains-by false o p h = h

settles-itself : (o : Option Twin) → Settles o o
settles-itself None = tt
settles-itself (Some t) = record { low = refl; high = refl; keeps_low = λ e. e; keeps_high = λ e. e }

settles-trans : (a b c : Option Twin) → Settles a b → Settles b c → Settles a c
settles-trans None b c h g = tt
settles-trans (Some t) None c h g = absurd h
settles-trans (Some t) (Some u) None h g = absurd g
settles-trans (Some t) (Some u) (Some v) h g = record {
  low = g.low ∙ h.low;
  high = g.high ∙ h.high;
  keeps_low = λ e. h.keeps_low (g.keeps_low e);
  keeps_high = λ e. h.keeps_high (g.keeps_high e);
}

pub led-itself : {F : Type 0} {xs : List Instance} {ts : List Twin} → Led F xs ts xs ts
led-itself {F} {xs} {ts} = record { remain = λ i. remains-itself (instance_at xs i); settle = λ k. settles-itself (twin_at ts k); sound = λ h. h }

pub led-trans : {F : Type 0} {xs ys zs : List Instance} {ts us vs : List Twin} → Led F xs ts ys us → Led F ys us zs vs → Led F xs ts zs vs
led-trans {F} {xs} {ys} {zs} {ts} {us} {vs} h g = record {
  remain = λ i. remains-trans (instance_at xs i) (instance_at ys i) (instance_at zs i) (h.remain i) (g.remain i);
  settle = λ k. settles-trans (twin_at ts k) (twin_at us k) (twin_at vs k) (h.settle k) (g.settle k);
  sound = λ s. g.sound (h.sound s);
}

-- a row that changes
row-slice : (xs : List Instance) (i k : ℕ) (x y : Instance) → slice_get xs i ≡ Some x → i < length xs → StaysAs x y → (i ≡ k) ⊎ (i ≢ k) → Remains (slice_get xs k) (slice_get (set xs i y) k)
row-slice xs i k x y got within h (inl e) =
    let P : ℕ → Type 0 = λ j. Remains (slice_get xs j) (slice_get (set xs i y) j) in
    let Q : Option Instance → Type 0 = λ o. Remains o (slice_get (set xs i y) i) in
    let R : Option Instance → Type 0 = λ o. Remains (Some x) o in
    subst P e (subst Q (sym got) (subst R (sym (slice_get-set_here xs i y within)) h))
row-slice xs i k x y got within h (inr n) =
    let P : Option Instance → Type 0 = λ o. Remains (slice_get xs k) o in
    subst P (sym (slice_get-set_other xs i k y n)) (remains-itself (slice_get xs k))

less-live : (b c : Bool) (n m : ℕ) → m ≡ n → (c ≡ true → b ≡ true) → cond c m 0 ≤ cond b n 0
less-live true true n m e h = omega (arith, e)
less-live true false n m e h = omega arith
less-live false true n m e h = let z = h refl in absurd (cc)
less-live false false n m e h = omega arith

row-sound : (F : Type 0) (xs : List Instance) (ts : List Twin) (i : ℕ) (x y : Instance) → IsRow xs i x → StaysAs x y → Sound F xs ts → Sound F (with_instance xs i y) ts
row-sound F xs ts i x y r h s =
    let P : Instance → Type 0 = λ z. Lies F z in
    let at : Lies F x = subst P r.here (s.placed (i - 1) x r.within) in
    let there : Lies F y = record { some = λ f. let some = at.some f in omega (arith, some, h.size); from = omega (arith, at.from, h.base); upto = omega (arith, at.upto, h.base, h.size) } in
    let sums = sum_by-set live_size xs (i - 1) y x r.within in
    let was : live_size (get_or xs (i - 1) x) ≡ live_size x = ap live_size r.here in
    let less : live_size y ≤ live_size x = less-live x.live y.live x.size y.size h.size h.lived in
    record {
      placed = All-set (Lies F) xs (i - 1) y there s.placed;
      apart = apart_set xs i x y r h.base h.size h.lived s.apart;
      met = met_set xs i x y ts r h.base h.size h.exposed s.met;
      one = s.one;
      few = let few = s.few in omega arith;
    }

pub row-led : {F : Type 0} (xs : List Instance) (ts : List Twin) (i : ℕ) (x y : Instance) → IsRow xs i x → StaysAs x y → Led F xs ts (with_instance xs i y) ts
row-led {F} xs ts i x y r h = record {
  remain = λ k. remains-by (eqb k 0) (slice_get xs (k - 1)) (slice_get (set xs (i - 1) y) (k - 1)) (row-slice xs (i - 1) (k - 1) x y r.got r.within h (same_or_not (i - 1) (k - 1)));
  settle = λ k. settles-itself (twin_at ts k);
  sound = row-sound F xs ts i x y r h;
}

-- one more row, where it overlaps none
push-slice : (xs : List Instance) (y : Instance) (k : ℕ) → Remains (slice_get xs k) (slice_get (xs ++ y ∷ []) k)
push-slice [] y k = tt
push-slice (x ∷ xs) y zero = remains-itself (Some x)
push-slice (x ∷ xs) y (suc k) = push-slice xs y k

push-sound : (F : Type 0) (xs : List Instance) (ts : List Twin) (y : Instance) → y.live ≡ true → Lies F y → live_bytes xs + y.size ≤ 2 ^ 24 → first_overlap xs y.base y.size ≡ None → Sound F xs ts → Sound F (xs ++ y ∷ []) ts
push-sound F xs ts y l p few free s =
    let sums = sum_by_push live_size xs y in
    let size : live_size y ≡ y.size = ap (λ b. cond b y.size 0) l in
    let none = (none_nearest y.base y.size None 1 xs free).1 in
    record {
      placed = All-push (Lies F) xs y s.placed p;
      apart = all_pairs_push Apart xs y s.apart (λ n d h. apart_fresh y.base y.size (get_or xs n d) y refl refl (none n d h));
      met = met_push xs y ts s.met;
      one = s.one;
      few = omega arith;
    }

pub push-led : {F : Type 0} (xs : List Instance) (ts : List Twin) (y : Instance) → y.live ≡ true → Lies F y → live_bytes xs + y.size ≤ 2 ^ 24 → first_overlap xs y.base y.size ≡ None → Led F xs ts (xs ++ y ∷ []) ts
push-led {F} xs ts y l p few free = record {
  remain = λ k. remains-by (eqb k 0) (slice_get xs (k - 1)) (slice_get (xs ++ y ∷ []) (k - 1)) (push-slice xs y (k - 1));
  settle = λ k. settles-itself (twin_at ts k);
  sound = push-sound F xs ts y l p few free;
}

-- other pairs
pub pairs-led : {F : Type 0} (xs : List Instance) (ts us : List Twin) → AllSettle ts us → (Sound F xs ts → All (HasMet xs) us) → (Sound F xs ts → KeepsOne us) → Led F xs ts xs us
pairs-led {F} xs ts us settle met one = record {
  remain = λ i. remains-itself (instance_at xs i);
  settle = settle;
  sound = λ s. record { placed = s.placed; apart = s.apart; met = met s; one = one s; few = s.few };
}

-- one more pair
added-slice : (ts : List Twin) (t : Twin) (k : ℕ) → Settles (slice_get ts k) (slice_get (ts ++ t ∷ []) k)
added-slice [] t k = tt
added-slice (u ∷ ts) t zero = settles-itself (Some u)
added-slice (u ∷ ts) t (suc k) = added-slice ts t k

pub added-settle : (ts : List Twin) (low high : ℕ) → AllSettle ts (with_twin ts low high)
added-settle ts low high k = added-slice ts (record { low = low; high = high; keeps_low = true; keeps_high = true }) (k - 1)

-- a pair that keeps one of its two at least, and none that it dropped
abbrev pub MayKeep : List Twin → (k : ℕ) → (low high : Bool) → Type 0
MayKeep ts k low high = ((low ≡ true) ⊎ (high ≡ true)) × (low ≡ true → Stands_low ts k) × (high ≡ true → Stands_high ts k)

or-true : (a b : Bool) → (a ≡ true) ⊎ (b ≡ true) → (a || b) ≡ true
or-true true b h = refl
or-true false b (inl e) = absurd (false≢true e)
or-true false b (inr e) = e

keeping-one : (o : Option Twin) (ts : List Twin) (k : ℕ) (low high : Bool) → (low || high) ≡ true → KeepsOne ts → KeepsOne (keeping o ts k low high)
keeping-one None ts k low high e h = h
keeping-one (Some t) ts k low high e h = All-set (λ (z : Twin). IsTrue (z.keeps_low || z.keeps_high)) ts (k - 1) (record { low = t.low; high = t.high; keeps_low = low; keeps_high = high }) e h

keeping-slice : (ts : List Twin) (i j : ℕ) (t u : Twin) → slice_get ts i ≡ Some t → SettlesFrom t u → (i ≡ j) ⊎ (i ≢ j) → Settles (slice_get ts j) (slice_get (set ts i u) j)
keeping-slice ts i j t u got h (inl e) =
    let P : ℕ → Type 0 = λ n. Settles (slice_get ts n) (slice_get (set ts i u) n) in
    let Q : Option Twin → Type 0 = λ o. Settles o (slice_get (set ts i u) i) in
    let R : Option Twin → Type 0 = λ o. Settles (Some t) o in
    subst P e (subst Q (sym got) (subst R (sym (slice_get-set_here ts i u (slice_get_within ts i t got))) h))
keeping-slice ts i j t u got h (inr n) =
    let P : Option Twin → Type 0 = λ o. Settles (slice_get ts j) o in
    subst P (sym (slice_get-set_other ts i j u n)) (settles-itself (slice_get ts j))

keeping-settle : (o : Option Twin) (ts : List Twin) (k : ℕ) (low high : Bool) → twin_at ts k ≡ o
    → (low ≡ true → IfSome o (λ (t : Twin). IsTrue t.keeps_low)) → (high ≡ true → IfSome o (λ (t : Twin). IsTrue t.keeps_high)) → AllSettle ts (keeping o ts k low high)
keeping-settle None ts k low high e l h = λ j. settles-itself (twin_at ts j)
keeping-settle (Some t) ts k low high e l h =
    let u : Twin = record { low = t.low; high = t.high; keeps_low = low; keeps_high = high } in
    λ j. keeping-slice ts (k - 1) (j - 1) t u e (record { low = refl; high = refl; keeps_low = l; keeps_high = h }) (same_or_not (k - 1) (j - 1))

pub kept-led : {F : Type 0} (xs : List Instance) (ts : List Twin) (k : ℕ) (low high : Bool) → MayKeep ts k low high → Led F xs ts xs (after_narrowing ts k low high)
kept-led {F} xs ts k low high m =
    pairs-led xs ts (after_narrowing ts k low high) (keeping-settle (twin_at ts k) ts k low high refl m.1 m.2)
    (λ s. met_kept xs ts k low high s.met) (λ s. keeping-one (twin_at ts k) ts k low high (or-true low high m.0) s.one)
