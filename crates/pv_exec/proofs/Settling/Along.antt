-- What a call of the memory answers and leaves in the late run, and in a settled one.
use Rattle.std.proofs.Common.{◌≡◌, ℕ, suc, ◌+◌, ◌-◌, ◌≤◌, Bool, true, false, cond, List, [], ◌∷◌, length, Result, Ok, Err, refl, subst, ◌⊎◌, inl, inr, arith}
use Rattle.std.specs.List.{slice_get}
use Rattle.pv_fault.specs.declared.faults.Clause.{Clause}
use Rattle.pv_prov.specs.declared.pairs.Twin.{Twin}
use Rattle.pv_prov.specs.declared.names.Prov.{Prov}
use Rattle.pv_inst.specs.declared.values.Test.{Test}
use Rattle.pv_inst.specs.declared.values.Tried.{Tried}
use Rattle.pv_inst.specs.declared.values.Miss.{Miss}
use Rattle.pv_inst.specs.declared.values.Miss.TheVariants as miss
use Rattle.pv_inst.specs.Table.{Table}
use Rattle.pv_inst.specs.Use.{use_answer, after_use}
use Rattle.pv_object.specs.declared.values.Stop.{Stop}
use Rattle.pv_object.specs.declared.values.Stop.TheVariants as stop
use Rattle.pv_fault.specs.declared.verdict.Verdict.TheVariants as verdict
use Rattle.pv_object.specs.Access.{range_stop}
use Rattle.pv_exec.specs.Staying.{SettlesFrom, Settles, AllSettle}
use Rattle.pv_exec.proofs.Settling.Sides.{on_table, holds, Allows, Covers, Nearly, nearly}
use Rattle.pv_exec.proofs.Settling.Uses.{Agree, use-agrees, settled-covers}

-- undefined behaviour (3.4.3)
abbrev pub IsFault : Stop → Type 0
IsFault (stop.Ends (verdict.Undefined f)) = Unit {0}
IsFault (stop.Ends verdict.Indeterminate) = ⊥
IsFault (stop.Ends verdict.Undecided) = ⊥
IsFault stop.NoMemory = ⊥

abbrev pub IsErrFault : {A : Type 0} → Result A Stop → Type 0
IsErrFault (Ok a) = ⊥
IsErrFault (Err y) = IsFault y

-- the late run stops so, and leaves this
abbrev pub Ends : {A : Type 0} → List Bool → Stop → Table → Result A Stop → Type 0
Ends ds (stop.Ends (verdict.Undefined f)) U r = IsErrFault r
Ends ds (stop.Ends verdict.Undecided) U r = Unit {0}
Ends ds stop.NoMemory U r = Unit {0}
Ends ds (stop.Ends verdict.Indeterminate) U r = ((r ≡ Err (stop.Ends verdict.Indeterminate)) × Allows ds U.pairs) ⊎ (IsErrFault r × (Allows ds U.pairs → ⊥))

-- the two answers, with a relation on values, and the tables that are left
abbrev pub Along : {A : Type 0} → List Bool → (A → A → Type 0) → Result A Stop × Table → Result A Stop × Table → Type 0
Along ds V ((Ok a), U) ((Ok a'), U') = V a a' × Allows ds U.pairs × (U' ≡ on_table ds U) × Nearly ds U.pairs
Along ds V ((Ok a), U) ((Err y'), U') = IsFault y' × (Allows ds U.pairs → ⊥)
Along ds V ((Err y), U) (r', U') = Ends ds y U r'

-- the late run goes on where the settled one has stopped
pub lost : {A : Type 0} (ds : List Bool) (V : A → A → Type 0) (r : Result A Stop) (U : Table) (y' : Stop) (U' : Table) → IsFault y' → (Allows ds U.pairs → ⊥) → Along ds V (r, U) (Err y', U')
lost ds V (Ok a) U y' U' f n = (f, n)
lost ds V (Err (stop.Ends (verdict.Undefined g))) U y' U' f n = f
lost ds V (Err (stop.Ends verdict.Undecided)) U y' U' f n = tt
lost ds V (Err stop.NoMemory) U y' U' f n = tt
lost ds V (Err (stop.Ends verdict.Indeterminate)) U y' U' f n = inr (f, n)

-- two answers that differ in their values at most, or are both undefined
abbrev pub Similar : {A : Type 0} → (A → A → Type 0) → Result A Stop → Result A Stop → Type 0
Similar V (Ok a) (Ok a') = V a a'
Similar V (Ok a) (Err y') = ⊥
Similar V (Err (stop.Ends (verdict.Undefined f))) r' = IsErrFault r'
Similar V (Err (stop.Ends verdict.Indeterminate)) r' = r' ≡ Err (stop.Ends verdict.Indeterminate)
Similar V (Err (stop.Ends verdict.Undecided)) r' = Unit {0}
Similar V (Err stop.NoMemory) r' = Unit {0}

pub along : {A : Type 0} (ds : List Bool) (V : A → A → Type 0) (r r' : Result A Stop) (U U' : Table) → Similar V r r' → Allows ds U.pairs → Nearly ds U.pairs → U' ≡ on_table ds U → Along ds V (r, U) (r', U')
along ds V (Ok a) (Ok a') U U' h al n e = (h, al, e, n)
along ds V (Ok a) (Err y') U U' h al n e = absurd h
along ds V (Err (stop.Ends (verdict.Undefined f))) r' U U' h al n e = h
along ds V (Err (stop.Ends verdict.Indeterminate)) r' U U' h al n e = inl (h, al)
along ds V (Err (stop.Ends verdict.Undecided)) r' U U' h al n e = tt
along ds V (Err stop.NoMemory) r' U U' h al n e = tt

pub either-along : {A : Type 0} (ds : List Bool) (V : A → A → Type 0) (b : Bool) (x x' y y' : Result A Stop × Table) → Along ds V x x' → Along ds V y y' → Along ds V (cond b x y) (cond b x' y')
either-along ds V true x x' y y' h g = h
either-along ds V false x x' y y' h g = g

pub range-fault : (c : Clause) (m : Miss) → IsFault (range_stop c m)
range-fault c miss.Ended = tt
range-fault c miss.Empty = tt
range-fault c miss.Outside = tt
range-fault c miss.Block = tt
range-fault c miss.Apart = tt
range-fault c miss.Undecided = tt

-- an answer that is made of what a use found
pub by-answers : {A : Type 0} (ds : List Bool) (V : A → A → Type 0) (f : Result Tried Miss → Result A Stop) (T T' : Table) (p : Prov) (r r' : Result Tried Miss) → Covers ds T.pairs
    → ((t t' : Tried) → Similar V (f (Ok t)) (f (Ok t'))) → ((m : Miss) → IsErrFault (f (Err m))) → Agree ds r (after_use T p r) r' (after_use T' p r') → T' ≡ on_table ds T
    → Along ds V (f r, after_use T p r) (f r', after_use T' p r')
by-answers ds V f T T' p (Ok t) (Ok t') c s g h e = along ds V (f (Ok t)) (f (Ok t')) (after_use T p (Ok t)) (after_use T' p (Ok t')) (s t t') h.0 (nearly ds (after_use T p (Ok t)).pairs (settled-covers ds T p (Ok t) c)) h.1
by-answers {A = A} ds V f T T' p (Ok t) (Err m') c s g h e = go (f (Err m')) (g m')
  where
    go : (x : Result A Stop) → IsErrFault x → Along ds V (f (Ok t), after_use T p (Ok t)) (x, after_use T' p (Err m'))
    go (Ok a) k = absurd k
    go (Err y) k = lost ds V (f (Ok t)) (after_use T p (Ok t)) y (after_use T' p (Err m')) k h
by-answers ds V f T T' p (Err m) (Ok t') c s g h e = absurd h
by-answers {A = A} ds V f T T' p (Err m) (Err m') c s g h e = go (f (Err m)) (g m)
  where
    go : (x : Result A Stop) → IsErrFault x → Along ds V (x, after_use T p (Err m)) (f (Err m'), after_use T' p (Err m'))
    go (Ok a) k = absurd k
    go (Err (stop.Ends (verdict.Undefined fault))) k = g m'
    go (Err (stop.Ends verdict.Indeterminate)) k = absurd k
    go (Err (stop.Ends verdict.Undecided)) k = absurd k
    go (Err stop.NoMemory) k = absurd k

pub by-use : {A : Type 0} (ds : List Bool) (V : A → A → Type 0) (f : Result Tried Miss → Result A Stop) (T : Table) (p : Prov) (t : Test) → Allows ds T.pairs → Covers ds T.pairs
    → ((t t' : Tried) → Similar V (f (Ok t)) (f (Ok t'))) → ((m : Miss) → IsErrFault (f (Err m)))
    → Along ds V (f (use_answer T p t), after_use T p (use_answer T p t)) (f (use_answer (on_table ds T) p t), after_use (on_table ds T) p (use_answer (on_table ds T) p t))
by-use ds V f T p t al c s g = by-answers ds V f T (on_table ds T) p (use_answer T p t) (use_answer (on_table ds T) p t) c s g (use-agrees ds T p t al) refl

-- what is allowed later was allowed before
abbrev SettleAt : List Twin → List Twin → Type 0
SettleAt ts us = (i : ℕ) → Settles (slice_get ts i) (slice_get us i)

by-index : (ts us : List Twin) → AllSettle ts us → SettleAt ts us
by-index ts us h i = let e : i + 1 - 1 ≡ i = omega arith in subst (λ n. Settles (slice_get ts n) (slice_get us n)) e (h (i + 1))

holds-before : (d : Bool) (t u : Twin) → SettlesFrom t u → holds d u.keeps_low u.keeps_high ≡ true → holds d t.keeps_low t.keeps_high ≡ true
holds-before true t u h e = h.keeps_high e
holds-before false t u h e = h.keeps_low e

before-at : (ds : List Bool) (ts us : List Twin) → SettleAt ts us → Allows ds us → Allows ds ts
before-at [] ts us h a = tt
before-at (d ∷ ds) [] us h a = tt
before-at (d ∷ ds) (t ∷ ts) [] h a = absurd (h 0)
before-at (d ∷ ds) (t ∷ ts) (u ∷ us) h a = (holds-before d t u (h 0) a.0, before-at ds ts us (λ i. h (suc i)) a.1)

pub before : (ds : List Bool) (ts us : List Twin) → AllSettle ts us → Allows ds us → Allows ds ts
before ds ts us h a = before-at ds ts us (by-index ts us h) a

-- and no pair is lost
longer-at : (ts us : List Twin) → SettleAt ts us → length ts ≤ length us
longer-at [] us h = omega arith
longer-at (t ∷ ts) [] h = absurd (h 0)
longer-at (t ∷ ts) (u ∷ us) h = let more = longer-at ts us (λ i. h (suc i)) in omega (arith, more)

pub longer : (ts us : List Twin) → AllSettle ts us → length ts ≤ length us
longer ts us h = longer-at ts us (by-index ts us h)
