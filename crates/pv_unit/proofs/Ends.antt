-- The objects and functions of file scope: that they are in the tables, and that each is finished.
use Rattle.std.proofs.Common.{◌≡◌, ℕ, zero, suc, ◌+◌, ◌<◌, ◌≤◌, Bool, true, false, List, [], ◌∷◌, ◌++◌, length, drop, slice_index_or, refl, sym, ◌∙◌, ap, arith}
use Rattle.std.specs.Prelude.{◌&&◌, ◌||◌, if◌then◌else◌}
use Rattle.pv_typed.specs.Tables.{Stored}
use Rattle.pv_check.specs.Open.{Goes}
use Rattle.pv_check.specs.State.{State}
use Rattle.pv_unit.specs.Definitions.{is_finished}
use Rattle.pv_unit.specs.HeadParts.{are_finished}
use Rattle.pv_unit.specs.Redeclarations.{Entity, entity, is_entity, entities_after}
use Rattle.pv_check.proofs.Opening.{then_goes}
use Rattle.pv_unit.specs.DeclaredIn.{GoesOn}
use Rattle.pv_unit.specs.There.{HasNumber, IsThere, AreThere, ThereOn}

-- ---- they are there

number_goes : (a b : Stored) (f : Bool) (k : ℕ) → Goes a b → HasNumber a f k → HasNumber b f k
number_goes a b true k g h = let more = g.grown.functions in omega (arith, h, more)
number_goes a b false k g h = let more = g.grown.objects in omega (arith, h, more)

pub there_goes : (a b : Stored) (es : List Entity) → Goes a b → AreThere a es → AreThere b es
there_goes a b [] g h = h
there_goes a b (e ∷ es) g h = (number_goes a b e.function e.number g h.0, there_goes a b es g h.1)

pub there_more : (m : Stored) (es : List Entity) (n : ℕ) (f : Bool) (k : ℕ) → AreThere m es → HasNumber m f k → AreThere m (es ++ (entity n f k ∷ []))
there_more m [] n f k h here = (here, tt)
there_more m (e ∷ es) n f k h here = (h.0, there_more m es n f k h.1 here)

there_either : (m : Stored) (e f : Entity) (es fs : List Entity) (c : Bool) → AreThere m (f ∷ es) → AreThere m (e ∷ fs) → AreThere m (if c then f ∷ es else e ∷ fs)
there_either m e f es fs true h k = h
there_either m e f es fs false h k = k

pub there_marked : (m : Stored) (f : Bool) (k : ℕ) (d i b : Bool) (es : List Entity) → AreThere m es → AreThere m (entities_after f k d i b es)
there_marked m f k d i b [] h = h
there_marked m f k d i b (e ∷ es) h =
    there_either m e (record e { defined = e.defined || d; initialized = e.initialized || i; unsized = e.unsized || b }) es (entities_after f k d i b es) (is_entity f k e) h (h.0, there_marked m f k d i b es h.1)

pub there_at : (m : Stored) (es : List Entity) (i : ℕ) (none : Entity) → i < length es → AreThere m es → IsThere m (slice_index_or es i none)
there_at m [] i none lt h = absurd (omega arith)
there_at m (e ∷ es) zero none lt h = h.0
there_at m (e ∷ es) (suc i) none lt h = there_at m es i none (omega arith) h.1

-- ---- each is finished

finished_from : (s : State) (es : List Entity) (i : ℕ) (none : Entity) → i < length es
    → are_finished s (drop i es) ≡ (is_finished s (slice_index_or es i none) && are_finished s (drop (suc i) es))
finished_from s [] i none lt = absurd (omega arith)
finished_from s (e ∷ es) zero none lt = refl
finished_from s (e ∷ es) (suc i) none lt = finished_from s es i none (omega arith)

pub not_finished : (s : State) (es : List Entity) (i : ℕ) (none : Entity) → i < length es → is_finished s (slice_index_or es i none) ≡ false → are_finished s (drop i es) ≡ false
not_finished s es i none lt h = finished_from s es i none lt ∙ ap (λ b. b && are_finished s (drop (suc i) es)) h

pub one_finished : (s : State) (es : List Entity) (i : ℕ) (none : Entity) → i < length es → is_finished s (slice_index_or es i none) ≡ true
    → are_finished s (drop (i + 1) es) ≡ are_finished s (drop i es)
one_finished s es i none lt h =
    let next : suc i ≡ i + 1 = omega arith in
    ap (λ k. are_finished s (drop k es)) (sym next) ∙ sym (finished_from s es i none lt ∙ ap (λ b. b && are_finished s (drop (suc i) es)) h)

pub all_finished : (s : State) (es : List Entity) (i : ℕ) → length es ≤ i → are_finished s (drop i es) ≡ true
all_finished s [] zero h = refl
all_finished s [] (suc i) h = refl
all_finished s (e ∷ es) zero h = absurd (omega arith)
all_finished s (e ∷ es) (suc i) h = all_finished s es i (omega arith)

-- ---- where there is an answer

pub there_on : (a b : Stored) (es : List Entity) (c : Bool) → Goes a b → AreThere a es → ThereOn b es c
there_on a b es true g h = there_goes a b es g h
there_on a b es false g h = tt

pub goes_on : (a b c : Stored) (k : Bool) → Goes a b → GoesOn b c k → GoesOn a c k
goes_on a b c true g h = then_goes a b c g h
goes_on a b c false g h = tt
