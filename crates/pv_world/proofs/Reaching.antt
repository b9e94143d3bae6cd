-- What the checks of an access come to, and whom a load within it blames.
use Rattle.std.proofs.Common.{◌≡◌, ◌≢◌, ℕ, ◌-◌, ◌≤◌, Bool, true, false, cond, eqb, List, ◌++◌, Option, Some, None, Result, Ok, Err, refl, ap, ◌∙◌, subst, arith}
use Rattle.pv_fault.specs.declared.faults.Clause.{Clause}
use Rattle.pv_prov.specs.declared.names.Prov.{Prov}
use Rattle.pv_prov.specs.declared.names.Prov.TheVariants.{Empty, Inst, Pair}
use Rattle.pv_prov.specs.declared.pairs.Twin.{Twin}
use Rattle.pv_fault.specs.declared.faults.Reason.TheVariants as reason
use Rattle.pv_prov.specs.Names.{is_empty, stands, stands_of, twin_at, same_name, pair_of}
use Rattle.pv_prov.specs.NameParts.{keeping}
use Rattle.pv_inst.specs.declared.values.Tried.{Tried}
use Rattle.pv_inst.specs.declared.values.Miss.{Miss}
use Rattle.pv_inst.specs.declared.values.Test.TheVariants.{Range}
use Rattle.pv_inst.specs.Table.{Table, IsMadeIn}
use Rattle.pv_inst.specs.Use.{use_answer, after_use}
use Rattle.pv_inst.proofs.Together.{slice_get-set_other}
use Rattle.pv_object.specs.declared.values.Pointer.{Pointer}
use Rattle.pv_object.specs.declared.values.Reach.{Reach}
use Rattle.pv_object.specs.declared.values.Stop.{Stop}
use Rattle.pv_object.specs.declared.values.Asker.{Asker}
use Rattle.pv_object.specs.Memory.{Mem}
use Rattle.pv_object.specs.Access.{reach, reach_after, is_null, fault, clause_of}
use Rattle.pv_watch.specs.declared.event.What.{What}
use Rattle.pv_world.specs.declared.got.Failure.{Failure}
use Rattle.pv_world.specs.Worlds.{World, with_table}
use Rattle.pv_world.specs.Telling.{Told, telling, blame_of, fault_of, verdict_of}
use Rattle.pv_world.specs.Worths.{wrong_of}
use Rattle.pv_world.specs.Doing.{Done}
use Rattle.pv_world.specs.Accesses.{reaching_by}
use Rattle.pv_world.specs.Coming.{Came, Faulted, coming_of, worth_of}
use Rattle.pv_world.proofs.Comings.{came_fails}

pub reach_goes : (go : Reach → World → Told → Done) (w v : World) (p : Pointer) (us : List What) (at : Reach) (c : Result Reach Stop × Table)
    → Ok at ≡ c.0 → v ≡ with_table w c.1 → reaching_by w p us c go ≡ go at v (telling us)
reach_goes go w v p us at (Ok r, T) h vs = let e : at ≡ r = cc in rw (e, vs) refl
reach_goes go w v p us at (Err y, T) h vs = absurd cc

pub reach_stops : (go : Reach → World → Told → Done) (f : Failure) (y : Stop) (w v : World) (p : Pointer) (us es fs : List What) (c : Result Reach Stop × Table)
    → Err y ≡ c.0 → v ≡ with_table w c.1 → Faulted f (wrong_of y) fs (es ++ us ++ fault_of (Some (blame_of w.memory p.prov)) (verdict_of (wrong_of y)))
    → Came worth_of (Err f) v fs (coming_of es w (reaching_by w p us c go))
reach_stops go f y w v p us es fs (Ok r, T) h vs F = absurd cc
reach_stops go f y w v p us es fs (Err z, T) h vs F =
    let e : z ≡ y = cc in
    came_fails worth_of f (wrong_of y) v fs (es ++ us ++ fault_of (Some (blame_of w.memory p.prov)) (verdict_of (wrong_of y))) (coming_of es w (reaching_by w p us (Err z, T) go)) (rw (e, vs) refl) F

after_settled : (u : Result Tried Miss) (T : Table) (p : Pointer) (n align : ℕ) (write : Bool) (c : Clause) (at : Reach)
    → Ok at ≡ (reach_after T p n align write c u).0 → (reach_after T p n align write c u).1 ≡ after_use T p.prov u
after_settled (Ok tried) T p n align write c at h = refl
after_settled (Err m) T p n align write c at h = absurd cc

checked_settled : (a b : Bool) (x y : Stop) (S T U : Table) (c : Result Reach Stop × Table) (at : Reach)
    → (Ok at ≡ c.0 → c.1 ≡ U) → Ok at ≡ (cond a (Err x, S) (cond b (Err y, T) c)).0 → (cond a (Err x, S) (cond b (Err y, T) c)).1 ≡ U
checked_settled true b x y S T U c at k h = absurd cc
checked_settled false true x y S T U c at k h = absurd cc
checked_settled false false x y S T U c at k h = k h

pub reach_settled : (T : Table) (p : Pointer) (n align : ℕ) (write : Bool) (by : Asker) (at : Reach) → Ok at ≡ (reach T p n align write by).0
    → (reach T p n align write by).1 ≡ after_use T p.prov (use_answer T p.prov (Range p.address n))
reach_settled T p n align write by at h =
    let u = use_answer T p.prov (Range p.address n) in
    let c = clause_of by in
    checked_settled (is_null p) (is_empty p.prov) (fault c reason.Null) (fault c reason.Empty) T T (after_use T p.prov u) (reach_after T p n align write c u) at (after_settled u T p n align write c at) h

number_other : (i j : ℕ) → eqb i j ≡ false → i ≢ j
number_other i j h = λ e. grind arith

-- what a pair keeps changes no other pair
kept_other : (o : Option Twin) (pairs : List Twin) (k m : ℕ) (low high : Bool) → m ≢ k → 1 ≤ k → 1 ≤ m → twin_at (keeping o pairs k low high) m ≡ twin_at pairs m
kept_other None pairs k m low high other k1 m1 = refl
kept_other (Some t) pairs k m low high other k1 m1 = slice_get-set_other pairs (k - 1) (m - 1) _ (λ e. other (omega (arith, e, k1, m1)))

pub stands_other : (t : Result Tried Miss) (q p : Prov) (T : Table) → same_name q p ≡ false → IsMadeIn (after_use T p t) q → IsMadeIn (after_use T p t) p → stands (after_use T p t).pairs q ≡ stands T.pairs q
stands_other (Err m) q (Pair k) T h made used = refl
stands_other t q Empty T h made used = refl
stands_other t q (Inst i) T h made used = refl
stands_other (Ok tried) Empty (Pair k) T h made used = refl
stands_other (Ok tried) (Inst i) (Pair k) T h made used = refl
stands_other (Ok tried) (Pair m) (Pair k) T h made used = ap stands_of (kept_other (twin_at T.pairs k) T.pairs k m tried.low tried.high (number_other m k h) used.0 made.0)

pub blame_other : (M N : Mem) (t : Result Tried Miss) (q p : Prov) → N.table ≡ after_use M.table p t → same_name q p ≡ false → IsMadeIn N.table q → IsMadeIn N.table p → blame_of N q ≡ blame_of M q
blame_other M N t q p is h made used =
    let P : Table → Type 0 = λ T. IsMadeIn T q in
    let Q : Table → Type 0 = λ T. IsMadeIn T p in
    let same = ap (λ (T : Table). stands T.pairs q) is ∙ stands_other t q p M.table h (subst P is made) (subst Q is used) in
    ap (λ s. record { low = s.low; high = s.high; pair = pair_of q }) same
