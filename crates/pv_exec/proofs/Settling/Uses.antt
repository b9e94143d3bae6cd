-- A use of a name (the memory model) in the late run and in a settled one.
use Rattle.std.proofs.Common.{◌≡◌, ℕ, ◌-◌, Bool, true, false, not, ◌&&◌, ◌||◌, cond, List, set, Option, Some, None, Result, Ok, Err, refl, sym, ap, subst, ◌⊎◌, inl, inr, true≢false}
use Rattle.pv_prov.specs.declared.pairs.Twin.{Twin}
use Rattle.pv_prov.specs.declared.names.Stands.{Stands}
use Rattle.pv_prov.specs.declared.names.Prov.{Prov}
use Rattle.pv_prov.specs.declared.names.Prov.TheVariants.{Empty, Inst, Pair}
use Rattle.pv_prov.specs.Names.{stands_of, twin_at, one_candidate}
use Rattle.pv_prov.specs.NameParts.{those_kept, keeping}
use Rattle.pv_inst.specs.declared.values.Instance.{Instance}
use Rattle.pv_inst.specs.declared.values.Test.{Test}
use Rattle.pv_inst.specs.declared.values.Test.TheVariants.{Live, Range, Block, Code}
use Rattle.pv_inst.specs.declared.values.Tried.{Tried}
use Rattle.pv_inst.specs.declared.values.Miss.{Miss}
use Rattle.pv_inst.specs.declared.values.Miss.TheVariants.{Ended}
use Rattle.pv_inst.specs.Table.{Table}
use Rattle.pv_inst.specs.Use.{survives, any_survives, test_answer, if_two, miss_of, use_answer, after_use}
use Rattle.pv_exec.proofs.Settling.Sides.{to_side, on_sides, on_table, holds, Allows, Covers, keeping_of, none-on, IsOnSide, IsBeyond, placed-at, kept-covers}

-- what a use answers and leaves in the two runs: where the settled one misses and the late one doesn't, the late one has dropped the side
abbrev pub Agree : List Bool → Result Tried Miss → Table → Result Tried Miss → Table → Type 0
Agree ds (Ok tried) U (Ok tried') U' = Allows ds U.pairs × (U' ≡ on_table ds U)
Agree ds (Ok tried) U (Err m') U' = Allows ds U.pairs → ⊥
Agree ds (Err m) U (Ok tried') U' = ⊥
Agree ds (Err m) U (Err m') U' = Unit {0}

abbrev by_tests : Bool → Bool → Option ℕ → Miss → Result Tried Miss
by_tests u v pair m = cond (u || v) (Ok (record { pair = pair; low = u; high = v })) (Err m)

abbrev after : Table → ℕ → Option Twin → Result Tried Miss → Table
after T k o (Ok tried) = record T { pairs = keeping o T.pairs k tried.low tried.high }
after T k o (Err m) = T

covered-agree : (ds : List Bool) (T : Table) (k : ℕ) (t : Twin) (at : IsOnSide ds T.pairs (k - 1) t) (pair pair' : Option ℕ) (m m' : Miss) (d : Bool) → at.side ≡ d → (u v : Bool)
    → Agree ds (by_tests u v pair m) (after T k (Some t) (by_tests u v pair m)) (by_tests (not d && u) (d && v) pair' m') (after (on_table ds T) k (Some (to_side d t)) (by_tests (not d && u) (d && v) pair' m'))
covered-agree ds T k t at pair pair' m m' false e true v =
    (at.allows true v (ap (λ d. holds d true v) e), ap (λ ws. record (on_table ds T) { pairs = ws }) (subst (λ d. set (on_sides ds T.pairs) (k - 1) (to_side d t) ≡ on_sides ds (set T.pairs (k - 1) (keeping_of t true v))) e (at.after true v)))
covered-agree ds T k t at pair pair' m m' false e false true = at.refuses false true (ap (λ d. holds d false true) e)
covered-agree ds T k t at pair pair' m m' false e false false = tt
covered-agree ds T k t at pair pair' m m' true e true true =
    (at.allows true true (ap (λ d. holds d true true) e), ap (λ ws. record (on_table ds T) { pairs = ws }) (subst (λ d. set (on_sides ds T.pairs) (k - 1) (to_side d t) ≡ on_sides ds (set T.pairs (k - 1) (keeping_of t true true))) e (at.after true true)))
covered-agree ds T k t at pair pair' m m' true e false true =
    (at.allows false true (ap (λ d. holds d false true) e), ap (λ ws. record (on_table ds T) { pairs = ws }) (subst (λ d. set (on_sides ds T.pairs) (k - 1) (to_side d t) ≡ on_sides ds (set T.pairs (k - 1) (keeping_of t false true))) e (at.after false true)))
covered-agree ds T k t at pair pair' m m' true e true false = at.refuses true false (ap (λ d. holds d true false) e)
covered-agree ds T k t at pair pair' m m' true e false false = tt

beyond-agree : (ds : List Bool) (T : Table) (k : ℕ) (t : Twin) (at : IsBeyond ds T.pairs (k - 1) t) (pair pair' : Option ℕ) (m m' : Miss) (u v : Bool)
    → Agree ds (by_tests u v pair m) (after T k (Some t) (by_tests u v pair m)) (by_tests u v pair' m') (after (on_table ds T) k (Some t) (by_tests u v pair' m'))
beyond-agree ds T k t at pair pair' m m' true v = (at.allows true v, ap (λ ws. record (on_table ds T) { pairs = ws }) (at.after true v))
beyond-agree ds T k t at pair pair' m m' false true = (at.allows false true, ap (λ ws. record (on_table ds T) { pairs = ws }) (at.after false true))
beyond-agree ds T k t at pair pair' m m' false false = tt

-- the tests of the settled run are those of the late one at its side
pub side-low : (zap : Bool) (xs : List Instance) (t : Test) (i : ℕ) (d l h : Bool) → holds d l h ≡ true → survives zap xs (cond (not d) (Some i) None) t ≡ (not d && survives zap xs (cond l (Some i) None) t)
side-low zap xs t i false true h e = refl
side-low zap xs t i false false h e = absurd (true≢false (sym e))
side-low zap xs t i true l h e = refl

pub side-high : (zap : Bool) (xs : List Instance) (t : Test) (i : ℕ) (d l h : Bool) → holds d l h ≡ true → survives zap xs (cond d (Some i) None) t ≡ (d && survives zap xs (cond h (Some i) None) t)
side-high zap xs t i true l true e = refl
side-high zap xs t i true l false e = absurd (true≢false (sym e))
side-high zap xs t i false l h e = refl

abbrev why : List Instance → Stands → Test → Miss
why xs s t = cond (any_survives true xs s Live) (miss_of t) Ended

on-side-agrees : (ds : List Bool) (T : Table) (k : ℕ) (w : Twin) (at : IsOnSide ds T.pairs (k - 1) w) (t : Test) (pair pair' : Option ℕ)
    → Agree ds (test_answer T.zap T.instances (those_kept w) pair t) (after T k (Some w) (test_answer T.zap T.instances (those_kept w) pair t)) (test_answer T.zap T.instances (those_kept (to_side at.side w)) pair' t) (after (on_table ds T) k (Some (to_side at.side w)) (test_answer T.zap T.instances (those_kept (to_side at.side w)) pair' t))
on-side-agrees ds T k w at t pair pair' =
    let xs = T.instances in
    let s = those_kept w in
    let r = those_kept (to_side at.side w) in
    let m = why xs s t in
    let m' = why xs r t in
    let late = by_tests (survives T.zap xs s.low t) (survives T.zap xs s.high t) pair m in
    let o = Some (to_side at.side w) in
    let S = on_table ds T in
    subst (λ a. Agree ds late (after T k (Some w) late) (by_tests a (survives T.zap xs r.high t) pair' m') (after S k o (by_tests a (survives T.zap xs r.high t) pair' m'))) (sym (side-low T.zap xs t w.low at.side w.keeps_low w.keeps_high at.kept))
    (subst (λ a. Agree ds late (after T k (Some w) late) (by_tests (not at.side && survives T.zap xs s.low t) a pair' m') (after S k o (by_tests (not at.side && survives T.zap xs s.low t) a pair' m'))) (sym (side-high T.zap xs t w.high at.side w.keeps_low w.keeps_high at.kept))
    (covered-agree ds T k w at pair pair' m m' at.side refl (survives T.zap xs s.low t) (survives T.zap xs s.high t)))

twin-agrees : (ds : List Bool) (T : Table) (k : ℕ) (t : Test) (o : Option Twin) → twin_at T.pairs k ≡ o → Allows ds T.pairs
    → Agree ds (test_answer T.zap T.instances (stands_of o) (if_two k (stands_of o)) t) (after T k o (test_answer T.zap T.instances (stands_of o) (if_two k (stands_of o)) t)) (use_answer (on_table ds T) (Pair k) t) (after_use (on_table ds T) (Pair k) (use_answer (on_table ds T) (Pair k) t))
twin-agrees ds T k t None e al =
    subst (λ o. Agree ds (Err (why T.instances (stands_of None) t)) T (test_answer T.zap T.instances (stands_of o) (if_two k (stands_of o)) t) (after (on_table ds T) k o (test_answer T.zap T.instances (stands_of o) (if_two k (stands_of o)) t))) (sym (none-on ds T.pairs (k - 1) e)) tt
twin-agrees ds T k t (Some w) e al = by (placed-at ds T.pairs (k - 1) w al e)
  where
    late : Result Tried Miss
    late = test_answer T.zap T.instances (those_kept w) (if_two k (those_kept w)) t

    by : IsOnSide ds T.pairs (k - 1) w ⊎ IsBeyond ds T.pairs (k - 1) w → Agree ds late (after T k (Some w) late) (use_answer (on_table ds T) (Pair k) t) (after_use (on_table ds T) (Pair k) (use_answer (on_table ds T) (Pair k) t))
    by (inl at) =
        subst (λ o. Agree ds late (after T k (Some w) late) (test_answer T.zap T.instances (stands_of o) (if_two k (stands_of o)) t) (after (on_table ds T) k o (test_answer T.zap T.instances (stands_of o) (if_two k (stands_of o)) t))) (sym at.there)
        (on-side-agrees ds T k w at t (if_two k (those_kept w)) (if_two k (those_kept (to_side at.side w))))
    by (inr at) =
        subst (λ o. Agree ds late (after T k (Some w) late) (test_answer T.zap T.instances (stands_of o) (if_two k (stands_of o)) t) (after (on_table ds T) k o (test_answer T.zap T.instances (stands_of o) (if_two k (stands_of o)) t))) (sym at.there)
        (beyond-agree ds T k w at (if_two k (those_kept w)) (if_two k (those_kept w)) (why T.instances (those_kept w) t) (why T.instances (those_kept w) t) (survives T.zap T.instances (those_kept w).low t) (survives T.zap T.instances (those_kept w).high t))

alone-agrees : (ds : List Bool) (T : Table) (b : Bool) (tried : Tried) (m : Miss) → Allows ds T.pairs → Agree ds (cond b (Ok tried) (Err m)) T (cond b (Ok tried) (Err m)) (on_table ds T)
alone-agrees ds T true tried m al = (al, refl)
alone-agrees ds T false tried m al = tt

-- a use of any name, by any test
pub use-agrees : (ds : List Bool) (T : Table) (p : Prov) (t : Test) → Allows ds T.pairs
    → Agree ds (use_answer T p t) (after_use T p (use_answer T p t)) (use_answer (on_table ds T) p t) (after_use (on_table ds T) p (use_answer (on_table ds T) p t))
use-agrees ds T Empty Live al = (al, refl)
use-agrees ds T Empty (Range a n) al = tt
use-agrees ds T Empty (Block a) al = tt
use-agrees ds T Empty (Code a) al = tt
use-agrees ds T (Inst i) t al =
    alone-agrees ds T (survives T.zap T.instances (Some i) t || false) (record { pair = None; low = survives T.zap T.instances (Some i) t; high = false }) (why T.instances (one_candidate i) t) al
use-agrees ds T (Pair k) t al = twin-agrees ds T k t (twin_at T.pairs k) refl al

settled-by : (ds : List Bool) (T : Table) (k : ℕ) (r : Result Tried Miss) → Covers ds T.pairs → Covers ds (after_use T (Pair k) r).pairs
settled-by ds T k (Ok tried) c = kept-covers ds T.pairs k tried.low tried.high c
settled-by ds T k (Err m) c = c

-- and it makes no pair
pub settled-covers : (ds : List Bool) (T : Table) (p : Prov) (r : Result Tried Miss) → Covers ds T.pairs → Covers ds (after_use T p r).pairs
settled-covers ds T Empty r c = c
settled-covers ds T (Inst i) r c = c
settled-covers ds T (Pair k) r c = settled-by ds T k r c
