-- What an operation does in the late run, and in a settled one.
use Rattle.std.proofs.Common.{◌≡◌, ℕ, Bool, true, false, cond, List, Option, Some, None, Result, Ok, Err, refl, sym, ap, subst, ◌⊎◌, inl, inr, true≢false}
use Rattle.pv_prov.specs.declared.pairs.Twin.{Twin}
use Rattle.pv_prov.specs.declared.names.Prov.{Prov}
use Rattle.pv_inst.specs.Table.{Table}
use Rattle.pv_object.specs.declared.values.Stop.{Stop}
use Rattle.pv_object.specs.declared.values.Stop.TheVariants as stop
use Rattle.pv_fault.specs.declared.verdict.Verdict.TheVariants as verdict
use Rattle.pv_world.specs.declared.failing.Blame.{Blame}
use Rattle.pv_world.specs.Worlds.{Worth, World, Wrong, ByVerdict, Halts}
use Rattle.pv_world.specs.Telling.{Told, no_telling}
use Rattle.pv_world.specs.Doing.{Done, Answers, Fails, Breaks}
use Rattle.pv_world.specs.Worths.{wrong_of, unless}
use Rattle.pv_exec.proofs.Memory.Rows.{Leads}
use Rattle.pv_exec.proofs.Memory.Ways.{OfTables}
use Rattle.pv_exec.proofs.Memory.Worlds.{Onward, left}
use Rattle.pv_exec.proofs.Settling.Sides.{on_world, Allows, Nearly}
use Rattle.pv_exec.proofs.Settling.Along.{IsFault, Ends, before}

abbrev pub pairs_of : World → List Twin
pairs_of w = w.memory.table.pairs

-- undefined behaviour (3.4.3)
abbrev pub IsWrong : Wrong → Type 0
IsWrong (ByVerdict (verdict.Undefined f)) = Unit {0}
IsWrong (ByVerdict verdict.Undecided) = ⊥
IsWrong (ByVerdict verdict.Indeterminate) = ⊥
IsWrong (Halts h) = ⊥

abbrev pub IsBad : Done → Type 0
IsBad (Answers v w t) = ⊥
IsBad (Fails y p w t) = IsWrong y
IsBad (Breaks y b w t) = IsWrong y

-- the run ends so, and these bytes are printed
abbrev pub EndsBy : Wrong → List ℕ → Done → Type 0
EndsBy z bs (Answers v w t) = ⊥
EndsBy z bs (Fails y p w t) = (y ≡ z) × (t.bytes ≡ bs)
EndsBy z bs (Breaks y b w t) = (y ≡ z) × (t.bytes ≡ bs)

-- the late run ends for this reason, and leaves these pairs
abbrev pub Halted : List Bool → Wrong → List Twin → List ℕ → Done → Type 0
Halted ds (ByVerdict (verdict.Undefined f)) ts bs d = IsBad d
Halted ds (ByVerdict verdict.Undecided) ts bs d = Unit {0}
Halted ds (ByVerdict verdict.Indeterminate) ts bs d = (EndsBy (ByVerdict verdict.Indeterminate) bs d × Allows ds ts) ⊎ (IsBad d × (Allows ds ts → ⊥))
Halted ds (Halts h) ts bs d = (EndsBy (Halts h) bs d × Allows ds ts) ⊎ (IsBad d × (Allows ds ts → ⊥))

abbrev pub Tracks : List Bool → Done → Done → Type 0
Tracks ds (Answers v w t) (Answers v' w' t') = (v' ≡ v) × (t'.bytes ≡ t.bytes) × Allows ds (pairs_of w) × (w' ≡ on_world ds w) × Nearly ds (pairs_of w)
Tracks ds (Answers v w t) (Fails y' p' w' t') = IsWrong y' × (Allows ds (pairs_of w) → ⊥)
Tracks ds (Answers v w t) (Breaks y' b' w' t') = IsWrong y' × (Allows ds (pairs_of w) → ⊥)
Tracks ds (Fails y p w t) d' = Halted ds y (pairs_of w) t.bytes d'
Tracks ds (Breaks y b w t) d' = Halted ds y (pairs_of w) t.bytes d'

pub fault-wrong : (y : Stop) → IsFault y → IsWrong (wrong_of y)
fault-wrong (stop.Ends (verdict.Undefined f)) h = tt
fault-wrong (stop.Ends verdict.Indeterminate) h = absurd h
fault-wrong (stop.Ends verdict.Undecided) h = absurd h
fault-wrong stop.NoMemory h = absurd h

is-error : {A : Type 0} → Result A Stop → Bool
is-error (Ok a) = false
is-error (Err y) = true

error-is : {A : Type 0} → Stop → Result A Stop → Stop
error-is z (Ok a) = z
error-is z (Err y) = y

-- the late one stops, and the settled one can't answer
pub ends-ok : {A : Type 0} (ds : List Bool) (y : Stop) (U : Table) (a : A) (bs : List ℕ) (d : Done) → Ends ds y U (Ok a) → Halted ds (wrong_of y) U.pairs bs d
unfolding is-error
ends-ok ds (stop.Ends (verdict.Undefined f)) U a bs d h = absurd h
ends-ok ds (stop.Ends verdict.Indeterminate) U a bs d (inl h) = absurd (true≢false (sym (ap is-error h.0)))
ends-ok ds (stop.Ends verdict.Indeterminate) U a bs d (inr h) = absurd h.0
ends-ok ds (stop.Ends verdict.Undecided) U a bs d h = tt
ends-ok ds stop.NoMemory U a bs d h = tt

-- both stop
pub ends-err : (A : Type 0) (ds : List Bool) (y y' : Stop) (U : Table) (bs : List ℕ) (p : Option Prov) (w : World) (t : Told) → t.bytes ≡ bs → Ends {A = A} ds y U (Err y') → Halted ds (wrong_of y) U.pairs bs (Fails (wrong_of y') p w t)
unfolding error-is
ends-err A ds (stop.Ends (verdict.Undefined f)) y' U bs p w t e h = fault-wrong y' h
ends-err A ds (stop.Ends verdict.Indeterminate) y' U bs p w t e (inl h) = inl ((ap (λ r. wrong_of (error-is y' r)) h.0, e), h.1)
ends-err A ds (stop.Ends verdict.Indeterminate) y' U bs p w t e (inr h) = inr (fault-wrong y' h.0, h.1)
ends-err A ds (stop.Ends verdict.Undecided) y' U bs p w t e h = tt
ends-err A ds stop.NoMemory y' U bs p w t e h = tt

pub ends-broken : (A : Type 0) (ds : List Bool) (y y' : Stop) (U : Table) (bs : List ℕ) (b : Option Blame) (w : World) (t : Told) → t.bytes ≡ bs → Ends {A = A} ds y U (Err y') → Halted ds (wrong_of y) U.pairs bs (Breaks (wrong_of y') b w t)
unfolding error-is
ends-broken A ds (stop.Ends (verdict.Undefined f)) y' U bs b w t e h = fault-wrong y' h
ends-broken A ds (stop.Ends verdict.Indeterminate) y' U bs b w t e (inl h) = inl ((ap (λ r. wrong_of (error-is y' r)) h.0, e), h.1)
ends-broken A ds (stop.Ends verdict.Indeterminate) y' U bs b w t e (inr h) = inr (fault-wrong y' h.0, h.1)
ends-broken A ds (stop.Ends verdict.Undecided) y' U bs b w t e h = tt
ends-broken A ds stop.NoMemory y' U bs b w t e h = tt

-- both end for the same reason, in worlds with the same pairs as before
pub same-end : (ds : List Bool) (y : Wrong) (ts : List Twin) (t t' : Told) (p : Option Prov) (w : World) → t'.bytes ≡ t.bytes → Allows ds ts → Halted ds y ts t.bytes (Fails y p w t')
same-end ds (ByVerdict (verdict.Undefined f)) ts t t' p w e al = tt
same-end ds (ByVerdict verdict.Undecided) ts t t' p w e al = tt
same-end ds (ByVerdict verdict.Indeterminate) ts t t' p w e al = inl ((refl, e), al)
same-end ds (Halts h) ts t t' p w e al = inl ((refl, e), al)

-- the late run goes on where the settled one has ended
halted-lost : (ds : List Bool) (y : Wrong) (ts : List Twin) (bs : List ℕ) (d : Done) → IsBad d → (Allows ds ts → ⊥) → Halted ds y ts bs d
halted-lost ds (ByVerdict (verdict.Undefined f)) ts bs d h n = h
halted-lost ds (ByVerdict verdict.Undecided) ts bs d h n = tt
halted-lost ds (ByVerdict verdict.Indeterminate) ts bs d h n = inr (h, n)
halted-lost ds (Halts k) ts bs d h n = inr (h, n)

pub done-lost : (ds : List Bool) (d d' : Done) → IsBad d' → (Allows ds (left d).table.pairs → ⊥) → Tracks ds d d'
done-lost ds (Answers v w t) (Answers v' w' t') h n = absurd h
done-lost ds (Answers v w t) (Fails y' p' w' t') h n = (h, n)
done-lost ds (Answers v w t) (Breaks y' b' w' t') h n = (h, n)
done-lost ds (Fails y p w t) d' h n = halted-lost ds y (pairs_of w) t.bytes d' h n
done-lost ds (Breaks y b w t) d' h n = halted-lost ds y (pairs_of w) t.bytes d' h n

-- the same from where it lost on
pub lost-later : {F : Type 0} (ds : List Bool) (U : Table) (w : World) (d d' : Done) → w.memory.table ≡ U → Onward (OfTables (Leads F)) w d → IsBad d' → (Allows ds U.pairs → ⊥) → Tracks ds d d'
lost-later ds U w d d' e o h n = done-lost ds d d' h (λ a. n (subst (λ (V : Table). Allows ds V.pairs) e (before ds w.memory.table.pairs (left d).table.pairs o.leads.settle a)))

pub either-tracks : (ds : List Bool) (c : Bool) (d d' e e' : Done) → Tracks ds d d' → Tracks ds e e' → Tracks ds (cond c d e) (cond c d' e')
either-tracks ds true d d' e e' h g = h
either-tracks ds false d d' e e' h g = g

-- no pair is touched
pub gives-tracks : (ds : List Bool) (v : Worth) (w : World) (t t' : Told) → t'.bytes ≡ t.bytes → Allows ds (pairs_of w) → Nearly ds (pairs_of w) → Tracks ds (Answers v w t) (Answers v (on_world ds w) t')
gives-tracks ds v w t t' e al n = (refl, e, al, refl, n)

pub fails-tracks : (ds : List Bool) (y : Wrong) (p p' : Option Prov) (w w' : World) (t t' : Told) → t'.bytes ≡ t.bytes → Allows ds (pairs_of w) → Tracks ds (Fails y p w t) (Fails y p' w' t')
fails-tracks ds y p p' w w' t t' e al = same-end ds y (pairs_of w) t t' p' w' e al

pub unless-tracks : (ds : List Bool) (o : Option Wrong) (w : World) (d d' : Done) → Allows ds (pairs_of w) → Tracks ds d d' → Tracks ds (unless o w d) (unless o (on_world ds w) d')
unless-tracks ds None w d d' al h = h
unless-tracks ds (Some y) w d d' al h = fails-tracks ds y None None w (on_world ds w) no_telling no_telling refl al
