-- The events of pairs, one after the other.
use Rattle.std.proofs.Common.{◌≡◌, ℕ, zero, suc, ◌+◌, ◌-◌, List, [], ◌∷◌, ◌++◌, drop, Option, Some, sym, ap, ◌∙◌, arith}
use Rattle.std.proofs.lemmas.Option.{none-some}
use Rattle.std.proofs.lemmas.List.{append_assoc}
use Rattle.std.specs.List.{slice_get}
use Rattle.pv_prov.specs.declared.pairs.Twin.{Twin}
use Rattle.pv_prov.specs.Names.{twin_at}
use Rattle.pv_inst.specs.Table.{Table, instance_at}
use Rattle.pv_inst.specs.Infos.{base_of}
use Rattle.pv_watch.specs.declared.event.What.{What}
use Rattle.pv_watch.specs.declared.event.What.TheVariants as what
use Rattle.pv_world.specs.Telling.{each_paired}

drop_got : {A : Type 0} (xs : List A) (k : ℕ) (t : A) → slice_get xs k ≡ Some t → drop k xs ≡ t ∷ drop (k + 1) xs
drop_got [] k t e = absurd (none-some t e)
drop_got (x ∷ xs) zero t e = let same : x ≡ t = cc in ap (λ y. y ∷ xs) same
drop_got (x ∷ xs) (suc k) t e =
    let up : suc k + 1 ≡ suc (k + 1) = omega arith in
    drop_got xs k t e ∙ sym (ap (λ n. t ∷ drop n (x ∷ xs)) up)

-- the next pair is told of
pub next_pair : (T V : Table) (k b : ℕ) (o : Option Twin) (t : Twin) (es fs : List What) → V ≡ T → o ≡ twin_at V.pairs (k + 1) → o ≡ Some t → b ≡ base_of (instance_at V.instances t.high)
    → fs ≡ es ++ what.Pair (k + 1) b t.low t.high ∷ [] → fs ++ each_paired T (k + 1 + 1) (drop (k + 1) T.pairs) ≡ es ++ each_paired T (k + 1) (drop k T.pairs)
next_pair T V k b o t es fs same found is based told =
    let down : k + 1 - 1 ≡ k = omega arith in
    let there : slice_get T.pairs k ≡ Some t = ap (λ (U : Table). slice_get U.pairs k) (sym same) ∙ ap (slice_get V.pairs) (sym down) ∙ sym found ∙ is in
    let at : b ≡ base_of (instance_at T.instances t.high) = based ∙ ap (λ (U : Table). base_of (instance_at U.instances t.high)) same in
    ap (λ xs. xs ++ each_paired T (k + 1 + 1) (drop (k + 1) T.pairs)) told
    ∙ append_assoc es (what.Pair (k + 1) b t.low t.high ∷ []) (each_paired T (k + 1 + 1) (drop (k + 1) T.pairs))
    ∙ ap (λ n. es ++ what.Pair (k + 1) n t.low t.high ∷ each_paired T (k + 1 + 1) (drop (k + 1) T.pairs)) at
    ∙ ap (λ ts. es ++ each_paired T (k + 1) ts) (sym (drop_got T.pairs k t there))
