-- An integer that is converted to a pointer (6.3.2.3p5) finds the same in both runs, and of two instances makes the same pair, which keeps both.
use Rattle.std.proofs.Common.{◌≡◌, ℕ, zero, suc, ◌+◌, ◌-◌, ◌<◌, Bool, true, false, not, ◌&&◌, ◌||◌, cond, eqb, List, [], ◌∷◌, ◌++◌, length, get_or, set, Option, Some, None, Ok, Err, refl, sym, ap, ◌∙◌, subst, arith, position, true≢false}
use Rattle.std.specs.Option.{option_map}
use Rattle.std.specs.List.{slice_get}
use Rattle.std.proofs.lemmas.Bool.Decides.{nat_tests}
use Rattle.std.proofs.lemmas.Option.{none-some, same_Some}
use Rattle.std.proofs.lemmas.List.Quantifiers.{position-Some}
use Rattle.pv_prov.specs.declared.pairs.Twin.{Twin}
use Rattle.pv_prov.specs.declared.names.Prov.{Prov}
use Rattle.pv_prov.specs.declared.names.Prov.TheVariants.{Inst, Pair}
use Rattle.pv_prov.specs.Names.{stands_of, twin_at, with_twin, nobody, one_candidate}
use Rattle.pv_prov.specs.NameParts.{those_kept, keeping}
use Rattle.pv_inst.specs.declared.values.Instance.{Instance}
use Rattle.pv_inst.specs.declared.values.Kind.TheVariants.{Heap}
use Rattle.pv_inst.specs.declared.values.Test.TheVariants.{Live}
use Rattle.pv_inst.specs.declared.values.Tried.{Tried}
use Rattle.pv_inst.specs.declared.values.Miss.TheVariants.{Ended}
use Rattle.pv_inst.specs.Table.{Table, instance_at}
use Rattle.pv_inst.specs.Use.{survives, any_survives, test_answer, if_two, use_answer, after_use}
use Rattle.pv_inst.specs.SameParts.{made_passes}
use Rattle.pv_inst.specs.Finding.{reaches, begins, number_of, both_found, found_at, name_by, table_by, name_at, after_name, fitting}
use Rattle.pv_exec.proofs.Settling.Sides.{on_table, Allows, Covers, Nearly, nearly, length-sides, added-on, added-allows, added-nearly}

-- the same name, and the table with the same pair
pub name-on : (ds : List Bool) (T : Table) (a : ℕ) → name_at (on_table ds T) a ≡ name_at T a
name-on ds T a = ap (name_by (found_at T a)) (length-sides ds T.pairs)

by-found : (ds : List Bool) (T : Table) (low high : Option ℕ) → Covers ds T.pairs → table_by (on_table ds T) (record { low = low; high = high }) ≡ on_table ds (table_by T (record { low = low; high = high }))
by-found ds T None high c = refl
by-found ds T (Some i) None c = refl
by-found ds T (Some i) (Some j) c = ap (λ ts. record (on_table ds T) { pairs = ts }) (added-on ds T.pairs i j c)

pub after-on : (ds : List Bool) (T : Table) (a : ℕ) → Covers ds T.pairs → after_name (on_table ds T) a ≡ on_table ds (after_name T a)
after-on ds T a c = by-found ds T (found_at T a).low (found_at T a).high c

found-allows : (ds : List Bool) (T : Table) (low high : Option ℕ) → Covers ds T.pairs → Allows ds T.pairs → Allows ds (table_by T (record { low = low; high = high })).pairs
found-allows ds T None high c a = a
found-allows ds T (Some i) None c a = a
found-allows ds T (Some i) (Some j) c a = added-allows ds T.pairs i j c a

pub after-allows : (ds : List Bool) (T : Table) (a : ℕ) → Covers ds T.pairs → Allows ds T.pairs → Allows ds (after_name T a).pairs
after-allows ds T a c h = found-allows ds T (found_at T a).low (found_at T a).high c h

found-nearly : (ds : List Bool) (T : Table) (low high : Option ℕ) → Covers ds T.pairs → Nearly ds (table_by T (record { low = low; high = high })).pairs
found-nearly ds T None high c = nearly ds T.pairs c
found-nearly ds T (Some i) None c = nearly ds T.pairs c
found-nearly ds T (Some i) (Some j) c = added-nearly ds T.pairs i j c

pub after-nearly : (ds : List Bool) (T : Table) (a : ℕ) → Covers ds T.pairs → Nearly ds (after_name T a).pairs
after-nearly ds T a c = found-nearly ds T (found_at T a).low (found_at T a).high c

-- what is found is live
abbrev no_instance : Instance
no_instance = record { name = 0; k = 0; base = 0; size = 0; kind = Heap; live = false; exposed = false }

slice_here : (xs : List Instance) (k : ℕ) (d : Instance) → k < length xs → slice_get xs k ≡ Some (get_or xs k d)
slice_here [] k d h = absurd (omega arith)
slice_here (x ∷ xs) zero d h = refl
slice_here (x ∷ xs) (suc k) d h = slice_here xs k d (omega arith)

and_left : (a b : Bool) → (a && b) ≡ true → a ≡ true
and_left true b h = refl
and_left false b h = absurd (true≢false (sym h))

or-live : (zap b : Bool) → b ≡ true → (not zap || b) ≡ true
or-live true b h = h
or-live false b h = refl

live-at : (zap : Bool) (xs : List Instance) (i k : ℕ) → i ≡ k + 1 → k < length xs → (get_or xs k no_instance).live ≡ true → survives zap xs (Some i) Live ≡ true
live-at zap xs i k e h l =
    let z : eqb i 0 ≡ false = grind (arith, nat_tests) in
    let same : i - 1 ≡ k = omega arith in
    let there : instance_at xs i ≡ Some (get_or xs k no_instance) = ap (λ b. cond b None (slice_get xs (i - 1))) z ∙ ap (slice_get xs) same ∙ slice_here xs k no_instance h in
    ap (λ o. made_passes zap o Live) there ∙ or-live zap (get_or xs k no_instance).live l

found-live : (zap : Bool) (p : Instance → Bool) (xs : List Instance) (i : ℕ) (o : Option ℕ) → ((x : Instance) → p x ≡ true → x.live ≡ true) → position p xs ≡ o → option_map (λ n. n + 1) o ≡ Some i → survives zap xs (Some i) Live ≡ true
found-live zap p xs i None h e f = absurd (none-some i f)
found-live zap p xs i (Some k) h e f =
    let at = position-Some p xs k no_instance e in
    live-at zap xs i k (sym (same_Some (k + 1) i f)) at.0 (h (get_or xs k no_instance) at.1)

reach-live : (zap : Bool) (xs : List Instance) (a i : ℕ) → number_of (reaches a) xs ≡ Some i → survives zap xs (Some i) Live ≡ true
reach-live zap xs a i e = found-live zap (reaches a) xs i (position (reaches a) xs) (λ x h. and_left x.live _ h) refl e

begin-live : (zap : Bool) (xs : List Instance) (a i : ℕ) → number_of (begins a) xs ≡ Some i → survives zap xs (Some i) Live ≡ true
begin-live zap xs a i e = found-live zap (begins a) xs i (position (begins a) xs) (λ x h. and_left x.live _ h) refl e

last-slice : (ts : List Twin) (t : Twin) → slice_get (ts ++ t ∷ []) (length ts) ≡ Some t
last-slice [] t = refl
last-slice (u ∷ ts) t = last-slice ts t

-- the live test of a name that was just found passes, and keeps all: so nothing changes
abbrev Passes : Table → Prov → Type 0
Passes T p = (tried : Tried) × (use_answer T p Live ≡ Ok tried) × (after_use T p (Ok tried) ≡ T)

set-same : (ts : List Twin) (k : ℕ) (t : Twin) → slice_get ts k ≡ Some t → set ts k t ≡ ts
set-same [] k t e = refl
set-same (v ∷ ts) zero t e = ap (λ x. x ∷ ts) (sym (same_Some v t e))
set-same (v ∷ ts) (suc k) t e = ap (λ xs. v ∷ xs) (set-same ts k t e)

alone-passes : (T : Table) (i : ℕ) → survives T.zap T.instances (Some i) Live ≡ true → Passes T (Inst i)
alone-passes T i e = (record { pair = None; low = true; high = false }, ap (λ b. cond (b || false) (Ok (record { pair = None; low = b; high = false })) (Err (cond (any_survives true T.instances (one_candidate i) Live) Ended Ended))) e, refl)

abbrev new_pair : ℕ → ℕ → Twin
new_pair i j = record { low = i; high = j; keeps_low = true; keeps_high = true }

pair-by : (T : Table) (k i j : ℕ) (o : Option Twin) → twin_at T.pairs k ≡ o → o ≡ Some (new_pair i j) → survives T.zap T.instances (Some i) Live ≡ true → survives T.zap T.instances (Some j) Live ≡ true
    → (tried : Tried) × (test_answer T.zap T.instances (stands_of o) (if_two k (stands_of o)) Live ≡ Ok tried) × (record T { pairs = keeping o T.pairs k tried.low tried.high } ≡ T)
pair-by T k i j None e f l h = absurd (none-some (new_pair i j) f)
pair-by T k i j (Some t) e f l h =
    let same : t ≡ new_pair i j = same_Some t (new_pair i j) f in
    subst (λ (w : Twin). (tried : Tried) × (test_answer T.zap T.instances (stands_of (Some w)) (if_two k (stands_of (Some w))) Live ≡ Ok tried) × (record T { pairs = keeping (Some w) T.pairs k tried.low tried.high } ≡ T)) (sym same) (
      record { pair = Some k; low = true; high = true },
      ap (λ a. cond (a || survives T.zap T.instances (Some j) Live) (Ok (record { pair = Some k; low = a; high = survives T.zap T.instances (Some j) Live })) (Err (cond (any_survives true T.instances (those_kept (new_pair i j)) Live) Ended Ended))) l
          ∙ ap (λ b. Ok (record { pair = Some k; low = true; high = b })) h,
      ap (λ ts. record T { pairs = ts }) (set-same T.pairs (k - 1) (new_pair i j) (e ∙ f)),
    )

pair-passes : (T : Table) (i j : ℕ) → survives T.zap T.instances (Some i) Live ≡ true → survives T.zap T.instances (Some j) Live ≡ true → Passes (record T { pairs = with_twin T.pairs i j }) (Pair (length T.pairs + 1))
pair-passes T i j l h =
    let U = record T { pairs = with_twin T.pairs i j } in
    let n : length T.pairs + 1 - 1 ≡ length T.pairs = omega arith in
    let there : twin_at U.pairs (length T.pairs + 1) ≡ Some (new_pair i j) = ap (slice_get U.pairs) n ∙ last-slice T.pairs (new_pair i j) in
    pair-by U (length T.pairs + 1) i j (twin_at U.pairs (length T.pairs + 1)) refl there l h

both-passes : (T : Table) (low high : Option ℕ) (reached begun : Option ℕ) → record { low = low; high = high } ≡ both_found reached begun
    → ((i : ℕ) → reached ≡ Some i → survives T.zap T.instances (Some i) Live ≡ true) → ((i : ℕ) → begun ≡ Some i → survives T.zap T.instances (Some i) Live ≡ true)
    → Passes (table_by T (both_found reached begun)) (name_by (both_found reached begun) (length T.pairs))
both-passes T low high None None e l h = (record { pair = None; low = false; high = false }, refl, refl)
both-passes T low high None (Some i) e l h = alone-passes T i (h i refl)
both-passes T low high (Some i) None e l h = alone-passes T i (l i refl)
both-passes T low high (Some i) (Some j) e l h = pair-passes T i j (l i refl) (h j refl)

null-passes : (T : Table) (a : ℕ) (null : Bool) → Passes (table_by T (cond null nobody (fitting T.instances a))) (name_by (cond null nobody (fitting T.instances a)) (length T.pairs))
null-passes T a true = (record { pair = None; low = false; high = false }, refl, refl)
null-passes T a false = both-passes T _ _ (number_of (reaches a) T.instances) (number_of (begins a) T.instances) refl (λ i e. reach-live T.zap T.instances a i e) (λ i e. begin-live T.zap T.instances a i e)

pub name-passes : (T : Table) (a : ℕ) → Passes (after_name T a) (name_at T a)
name-passes T a = null-passes T a (eqb a 0)
