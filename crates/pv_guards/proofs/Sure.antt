-- Two pieces of a run that are the same from a state on, and what holds where they give something (C17 5.1.2.3).
use Rattle.std.proofs.Common.{◌≡◌, ℕ, Bool, true, false, List, Option, Some, None, refl, sym, subst}
use Rattle.std.specs.Prelude.{nat_lt, if◌then◌else◌, slice_get}
use Rattle.pv_world.specs.Worlds.{Worth, World}
use Rattle.pv_world.specs.Telling.{Told}
use Rattle.pv_world.specs.Doing.{Done, Answers, Fails, Breaks}
use Rattle.pv_eval.specs.States.{Setting, State, Res, Gives, Stops, Turns, then_do, tick, spend}
use Rattle.pv_eval.specs.Acting.{after_doing, answer_with_sides, by_side, with_side, pair_count, after_telling}
use Rattle.pv_eval.specs.Operations.{Op, does, act}
use Rattle.pv_guards.specs.Soundness.{IsSound, IsAfter}
use Rattle.pv_guards.specs.Ruled.{has_rule}
use Rattle.pv_guards.specs.Plain.{plain_doing, act_plainly}
use Rattle.pv_guards.proofs.Ruled.{acts-plainly}
use Rattle.pv_guards.proofs.Results.{Answering}
use Rattle.pv_guards.proofs.Triples.{Holds, After}
use Rattle.pv_guards.proofs.Leaving.{ordered, after-itself}

-- it holds of what a piece gives, and of the world then
abbrev pub Lands : {A : Type 0} → (A → World → Type 0) → Res A → Type 0
Lands R (Gives a s) = R a s.world
Lands R (Stops y s) = Unit {0}

abbrev pub Sure : {A : Type 0} → (A → World → Type 0) → Res A → Res A → Type 0
Sure R r r' = (r ≡ r') × Lands R r

seq-by : {A B : Type 0} (P : A → World → Type 0) (R : B → World → Type 0) (r : Res A) (f f' : A → State → Res B) → Lands P r → ((a : A) (s : State) → P a s.world → Sure R (f a s) (f' a s)) → Sure R (then_do r f) (then_do r f')
seq-by P R (Gives a s) f f' h g = g a s h
seq-by P R (Stops y s) f f' h g = (refl, tt)

pub sure-seq : {A B : Type 0} (P : A → World → Type 0) (R : B → World → Type 0) (r r' : Res A) (f f' : A → State → Res B) → Sure P r r' → ((a : A) (s : State) → P a s.world → Sure R (f a s) (f' a s)) → Sure R (then_do r f) (then_do r' f')
sure-seq P R r r' f f' h g = subst (λ q. Sure R (then_do r f) (then_do q f')) h.0 (seq-by P R r f f' h.1 g)

pub lands-more : {A : Type 0} (P R : A → World → Type 0) → ((a : A) (z : World) → P a z → R a z) → (r : Res A) → Lands P r → Lands R r
lands-more P R f (Gives a s) h = f a s.world h
lands-more P R f (Stops y s) h = tt

pub sure-more : {A : Type 0} (P R : A → World → Type 0) (r r' : Res A) → ((a : A) (z : World) → P a z → R a z) → Sure P r r' → Sure R r r'
sure-more P R r r' f h = (h.0, lands-more P R f r h.1)

pub sure-if : {A : Type 0} (R : A → World → Type 0) (c : Bool) (r r' q q' : Res A) → Sure R r r' → Sure R q q' → Sure R (if c then r else q) (if c then r' else q')
sure-if R true r r' q q' h g = h
sure-if R false r r' q q' h g = g

tick-by : {A : Type 0} (R : A → World → Type 0) (c : Bool) (s : State) (r r' : Res A) → Sure R r r' → Sure R (if c then r else Stops Turns s) (if c then r' else Stops Turns s)
tick-by R true s r r' h = h
tick-by R false s r r' h = (refl, tt)

pub sure-tick : {A : Type 0} (b : Setting) (R : A → World → Type 0) (s : State) (m m' : State → Res A) → Sure R (m (spend s)) (m' (spend s)) → Sure R (tick b s m) (tick b s m')
sure-tick b R s m m' h = tick-by R (nat_lt s.taken b.bound) s (m (spend s)) (m' (spend s)) h

-- from a piece of an expression
pub after-lands : {A : Type 0} (b : Setting) (os : List ℕ) (Q : A → World → Type 0) (w : World) (r : Res A) → After (ordered b os) Q w r → Lands (λ a z. IsAfter w z × IsSound b os z × Q a z) r
after-lands b os Q w (Gives a s) h = h
after-lands b os Q w (Stops y s) h = tt

pub holds-sure : {A : Type 0} (b : Setting) (os : List ℕ) (Q : A → World → Type 0) (m m' : State → Res A) (s : State) → Holds (ordered b os) Q s.world m m' → IsSound b os s.world → Sure (λ a z. IsAfter s.world z × IsSound b os z × Q a z) (m s) (m' s)
holds-sure b os Q m m' s h sound = let p = h s after-itself sound in (p.0, after-lands b os Q s.world (m s) p.1)

-- from an operation on a world, settled or not
module _ (b : Setting) (R : Worth → World → Type 0) (closed : (v : Worth) (z : World) (k : ℕ) (high : Bool) → R v z → R v (with_side z k high)) where
  side-lands : (o : Option Bool) (v : Worth) (line : ℕ) (z : World) (told : Told) (s : State) → R v z → Lands R (by_side o v line z told s)
  side-lands None v line z told s h = tt
  side-lands (Some high) v line z told s h = closed v z (pair_count z) high h

  pair-lands : (c : Bool) (o : Option Bool) (v : Worth) (line : ℕ) (z : World) (told : Told) (s : State) → R v z → Lands R (if c then by_side o v line z told s else Gives v (after_telling z told s))
  pair-lands true o v line z told s h = side-lands o v line z told s h
  pair-lands false o v line z told s h = h

  answered-lands : (sides : Option (List Bool)) (v : Worth) (line : ℕ) (z : World) (told : Told) (s : State) → R v z → Lands R (answer_with_sides sides v line z told s)
  answered-lands None v line z told s h = h
  answered-lands (Some sides) v line z told s h = pair-lands (nat_lt (pair_count s.world) (pair_count z)) (slice_get sides (pair_count s.world)) v line z told s h

  pub acted-lands : (line : ℕ) (d : Done) (s : State) → Answering R d → Lands R (after_doing b line d s)
  acted-lands line (Answers v z told) s h = answered-lands b.sides v line z told s h
  acted-lands line (Fails y p z told) s h = tt
  acted-lands line (Breaks y p z told) s h = tt

  -- an operation that has a rule, and does what that says
  pub does-sure : (line : ℕ) (o : Op) (s : State) → has_rule b o s.world ≡ true → does b o s.world ≡ plain_doing b o s.world → Answering R (plain_doing b o s.world) → Sure R (act b line o s) (act_plainly b line o s)
  does-sure line o s c e h = (acts-plainly b line o s c e, subst (λ d. Lands R (after_doing b line d s)) (sym e) (acted-lands line (plain_doing b o s.world) s h))
