-- What each change of a table leads to: uses, exposure, pairs that are made, instances that are made, and ends (C17 6.2.4, 6.3.2.3).
use Rattle.std.proofs.Common.{◌≡◌, ℕ, ◌+◌, ◌≤◌, ◌^◌, ◌%◌, Bool, true, false, ◌&&◌, ◌||◌, not, cond, eqb, ltb, List, [], ◌∷◌, ◌++◌, Option, Some, None, Result, Ok, Err, refl, sym, ◌⊎◌, inl, inr, arith, subst, IsTrue, IfSome}
use Rattle.std.proofs.lemmas.Bool.{false≢true, ltb-false}
use Rattle.std.proofs.lemmas.Bool.Decides.{nat_tests}
use Rattle.pv_script.specs.declared.script.Place.{Place}
use Rattle.pv_script.specs.declared.script.Place.TheVariants.{At, Null}
use Rattle.pv_script.specs.Places.{place_of}
use Rattle.pv_prov.specs.declared.names.Prov.{Prov}
use Rattle.pv_prov.specs.declared.names.Prov.TheVariants.{Empty, Inst, Pair}
use Rattle.pv_prov.specs.declared.names.Stands.{Stands}
use Rattle.pv_prov.specs.declared.pairs.Twin.{Twin}
use Rattle.pv_prov.specs.Names.{stands, stands_of, twin_at, after_narrowing}
use Rattle.pv_inst.specs.declared.values.Instance.{Instance}
use Rattle.pv_inst.specs.declared.values.Test.{Test}
use Rattle.pv_inst.specs.declared.values.Tried.{Tried}
use Rattle.pv_inst.specs.declared.values.Miss.{Miss}
use Rattle.pv_inst.specs.Table.{Table, instance_at, with_instance, live_bytes, count_of, IsMadeIn}
use Rattle.pv_inst.specs.Use.{survives, any_survives, test_answer, if_two, use_answer, after_use}
use Rattle.pv_inst.specs.TwoPointers.{after_same, same_state, same_miss, same_left, same_right, after_left}
use Rattle.pv_inst.specs.Answers.{CanKeep}
use Rattle.pv_inst.specs.Exposure.{expose, expose_one, exposing}
use Rattle.pv_inst.specs.ExposureParts.{exposure_from}
use Rattle.pv_inst.specs.declared.values.CreateError.{CreateError}
use Rattle.pv_inst.specs.declared.values.CreateError.TheVariants.{Range, Misaligned}
use Rattle.pv_inst.specs.Placing.{Request, place, place_said, place_at, unless_overlap, first_overlap}
use Rattle.pv_inst.specs.PlacingParts.{multiple_of_16, fresh}
use Rattle.pv_inst.specs.Ending.{after_end}
use Rattle.pv_inst.specs.EndingParts.{ending, over}
use Rattle.pv_inst.proofs.Rows.{row_found}
use Rattle.pv_inst.proofs.Together.{Common, common_found, left_can, right_can}
use Rattle.pv_eval.specs.ActingParts.{keeps_both}
use Rattle.pv_world.proofs.Guards.{left_of, right_of}
use Rattle.pv_exec.proofs.Memory.Ways.{Changes, OfTables, of-tables}
use Rattle.pv_exec.proofs.Memory.Findings.{name-leads}
use Rattle.pv_exec.proofs.Memory.Rows.{Leads, led-itself, led-trans, row-led, push-led, MayKeep, kept-led}

-- a use: a pair keeps what survives, one of its two at least, and only what it kept can survive
judged-is : (zap : Bool) (xs : List Instance) (s : Stands) (pair : Option ℕ) (t : Test) (tried : Tried) → test_answer zap xs s pair t ≡ Ok tried → (any_survives zap xs s t ≡ true) × (tried ≡ record { pair = pair; low = survives zap xs s.low t; high = survives zap xs s.high t })
judged-is zap xs s pair t tried h = by (any_survives zap xs s t) _ _ refl h
  where
    by : (b : Bool) (x : Tried) (m : Miss) → any_survives zap xs s t ≡ b → cond b (Ok x) (Err m) ≡ Ok tried → (any_survives zap xs s t ≡ true) × (tried ≡ x)
    by true x m e f = (e, cc)
    by false x m e f = absurd cc

one-true : (a b : Bool) → (a || b) ≡ true → (a ≡ true) ⊎ (b ≡ true)
one-true true b e = inl refl
one-true false b e = inr e

kept-survives : (zap b : Bool) (i : ℕ) (xs : List Instance) (t : Test) → survives zap xs (cond b (Some i) None) t ≡ true → b ≡ true
kept-survives zap true i xs t e = refl
kept-survives zap false i xs t e = e

low-survives : (zap : Bool) (o : Option Twin) (xs : List Instance) (t : Test) → survives zap xs (stands_of o).low t ≡ true → IfSome o (λ (w : Twin). IsTrue w.keeps_low)
low-survives zap None xs t e = tt
low-survives zap (Some w) xs t e = kept-survives zap w.keeps_low w.low xs t e

high-survives : (zap : Bool) (o : Option Twin) (xs : List Instance) (t : Test) → survives zap xs (stands_of o).high t ≡ true → IfSome o (λ (w : Twin). IsTrue w.keeps_high)
high-survives zap None xs t e = tt
high-survives zap (Some w) xs t e = kept-survives zap w.keeps_high w.high xs t e

use-keeps : (T : Table) (k : ℕ) (t : Test) (tried : Tried) → use_answer T (Pair k) t ≡ Ok tried → MayKeep T.pairs k tried.low tried.high
use-keeps T k t tried e =
    let s = stands T.pairs (Pair k) in
    let j = judged-is T.zap T.instances s (if_two k s) t tried e in
    subst (λ (x : Tried). MayKeep T.pairs k x.low x.high) (sym j.1)
    (one-true (survives T.zap T.instances s.low t) (survives T.zap T.instances s.high t) j.0, low-survives T.zap (twin_at T.pairs k) T.instances t, high-survives T.zap (twin_at T.pairs k) T.instances t)

-- 6.3.2.3p5: a side of a pair that keeps both
one-side : (high : Bool) → (not high ≡ true) ⊎ (high ≡ true)
one-side true = inr refl
one-side false = inl refl

both-kept : (o : Option Twin) → keeps_both o ≡ true → IfSome o (λ (t : Twin). IsTrue t.keeps_low) × IfSome o (λ (t : Twin). IsTrue t.keeps_high)
both-kept None e = (tt, tt)
both-kept (Some t) e = (left_of t.keeps_low t.keeps_high e, right_of t.keeps_low t.keeps_high e)

-- within the addresses
free-bounds : (base size : ℕ) → (ltb base 4096 || ltb (2 ^ 47) (base + size)) ≡ false → (4096 ≤ base) × (base + size ≤ 2 ^ 47)
free-bounds base size e = grind (arith, nat_tests)

module _ {F : Type 0} where
  -- a use
  settled-by : (T : Table) (k : ℕ) (t : Test) (r : Result Tried Miss) → use_answer T (Pair k) t ≡ r → Leads F T (after_use T (Pair k) r)
  settled-by T k t (Ok tried) e = kept-led T.instances T.pairs k tried.low tried.high (use-keeps T k t tried e)
  settled-by T k t (Err m) e = led-itself

  pub use-leads : (T : Table) (p : Prov) (t : Test) → Leads F T (after_use T p (use_answer T p t))
  use-leads T Empty t = led-itself
  use-leads T (Inst i) t = led-itself
  use-leads T (Pair k) t = settled-by T k t (use_answer T (Pair k) t) refl

  -- two operands, whose names were made: each keeps what both have
  can-leads : (T : Table) (p : Prov) (tried : Tried) → CanKeep T p tried → Leads F T (after_use T p (Ok tried))
  can-leads T Empty tried h = led-itself
  can-leads T (Inst i) tried h = led-itself
  can-leads T (Pair k) tried h = kept-led T.instances T.pairs k tried.low tried.high h

  same-by : (T : Table) (p q : Prov) (o : Option Miss) → same_miss T p q ≡ o → IsMadeIn T p → IsMadeIn T q → Leads F T (same_state o T p q)
  same-by T p q (Some m) e a b = led-itself
  same-by T p q None e a b =
      let c : Common T.instances (stands T.pairs p) (stands T.pairs q) = common_found T.instances p q (stands T.pairs p) (stands T.pairs q) e in
      led-trans (can-leads T p (same_left T p q) (left_can T p q c)) (can-leads (after_left T p q) q (same_right T p q) (right_can T p q a b c))

  pub same-leads : (T : Table) (p q : Prov) → IsMadeIn T p → IsMadeIn T q → Leads F T (after_same T p q)
  same-leads T p q a b = same-by T p q (same_miss T p q) refl a b

  -- in a settled run
  pub settles-leads : (T : Table) (k : ℕ) (high : Bool) → keeps_both (twin_at T.pairs k) ≡ true → Leads F T (record T { pairs = after_narrowing T.pairs k (not high) high })
  settles-leads T k high e =
      let both = both-kept (twin_at T.pairs k) e in
      kept-led T.instances T.pairs k (not high) high (one-side high, λ l. both.0, λ l. both.1)

  -- exposure
  led-if : (b : Bool) (T U : Table) → Leads F T U → Leads F T (cond b U T)
  led-if true T U h = h
  led-if false T U h = led-itself

  exposing-leads : (T : Table) (i : ℕ) (o : Option Instance) → instance_at T.instances i ≡ o → Leads F T (exposing T i o)
  exposing-leads T i None e = led-itself
  exposing-leads T i (Some x) e =
      led-if (x.live && not x.exposed) T (record T { instances = with_instance T.instances i (exposure_from x); pending = T.pending ++ i ∷ [] })
      (row-led T.instances T.pairs i x (exposure_from x) (row_found T.instances i x (sym e)) (record { name = refl; k = refl; base = refl; size = refl; kind = refl; lived = λ e. e; exposed = λ e. refl }))

  one-leads : (T : Table) (o : Option ℕ) → Leads F T (expose_one T o)
  one-leads T None = led-itself
  one-leads T (Some i) = exposing-leads T i (instance_at T.instances i) refl

  pub expose-leads : (T : Table) (p : Prov) → Leads F T (expose T p)
  expose-leads T p =
      let s = stands T.pairs p in
      led-trans (one-leads T s.low) (one-leads (expose_one T s.low) s.high)

  -- an end
  ending-leads : (T : Table) (i : ℕ) (o : Option Instance) → instance_at T.instances i ≡ o → Leads F T (ending T i o)
  ending-leads T i None e = led-itself
  ending-leads T i (Some x) e = row-led T.instances T.pairs i x (over x) (row_found T.instances i x (sym e)) (record { name = refl; k = refl; base = refl; size = refl; kind = refl; lived = λ e. absurd (false≢true e); exposed = λ e. e })

  pub ended-leads : (T : Table) (i : ℕ) → Leads F T (after_end T i)
  ended-leads T i = ending-leads T i (instance_at T.instances i) refl

  -- one more instance
  overlap-leads : (T : Table) (r : Request) (k base : ℕ) (default : Bool) (o : Option (ℕ × ℕ)) → first_overlap T.instances base r.size ≡ o → (ltb base 4096 || ltb (2 ^ 47) (base + r.size)) ≡ false
      → live_bytes T.instances + r.size ≤ 2 ^ 24 → (F → 1 ≤ r.size) → Leads F T (unless_overlap o T r k base default).1
  overlap-leads T r k base default (Some hit) e b few some = led-itself
  overlap-leads T r k base default None e b few some =
      let bounds = free-bounds base r.size b in
      push-led T.instances T.pairs (fresh r k base) refl (record { some = some; from = bounds.0; upto = bounds.1 }) few e

  at-leads : (T : Table) (r : Request) (k base : ℕ) (default : Bool) → live_bytes T.instances + r.size ≤ 2 ^ 24 → (F → 1 ≤ r.size) → Leads F T (place_at T r k base default).1
  at-leads T r k base default few some = by (ltb base 4096 || ltb (2 ^ 47) (base + r.size)) (eqb (base % r.align) 0) refl
    where
      by : (b c : Bool) → (ltb base 4096 || ltb (2 ^ 47) (base + r.size)) ≡ b
          → Leads F T (cond b (Err (Range k base), T) (cond (not c) (Err (Misaligned k base), T) (unless_overlap (first_overlap T.instances base r.size) T r k base default))).1
      by true c e = led-itself
      by false false e = led-itself
      by false true e = overlap-leads T r k base default (first_overlap T.instances base r.size) refl e few some

  said-leads : (T : Table) (r : Request) (k : ℕ) (o : Option Place) → live_bytes T.instances + r.size ≤ 2 ^ 24 → (F → 1 ≤ r.size) → Leads F T (place_said o T r k).1
  said-leads T r k None few some = at-leads T r k (multiple_of_16 T.cursor) true few some
  said-leads T r k (Some (At base)) few some = at-leads T r k base false few some
  said-leads T r k (Some Null) few some = led-itself

  place-if : (T : Table) (b : Bool) (w v : Result ℕ CreateError × Table) → Leads F T w.1 → (b ≡ false → Leads F T v.1) → Leads F T (cond b w v).1
  place-if T true w v h g = h
  place-if T false w v h g = g refl

  pub place-leads : (T : Table) (r : Request) → (F → 1 ≤ r.size) → Leads F T (place T r).1
  place-leads T r some =
      let k = count_of T r.name + 1 in
      place-if T (ltb (2 ^ 24) (live_bytes T.instances + r.size)) (_, _) (place_said (place_of T.script r.text k) T r k) led-itself
      (λ e. said-leads T r k (place_of T.script r.text k) (ltb-false (2 ^ 24) (live_bytes T.instances + r.size) e) some)

-- each way in which the table changes
pub leading : (F : Type 0) → Changes F (OfTables (Leads F))
leading F = of-tables (Leads F) (record {
  itself = led-itself;
  trans = λ h g. led-trans h g;
  told = λ T. led-itself;
  uses = λ T p t. use-leads T p t;
  meets = λ T p q a b. same-leads T p q a b;
  names = λ T a. name-leads T a;
  exposes = λ T p. expose-leads T p;
  settles = λ T k high e. settles-leads T k high e;
  places = λ T r some. place-leads T r some;
  ends = λ T i. ended-leads T i;
})
