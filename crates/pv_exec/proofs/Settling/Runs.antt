-- The whole run, and the two laws.
use Rattle.std.proofs.Common.{◌≡◌, ℕ, suc, ◌≤◌, Bool, true, false, not, ◌||◌, List, [], ◌∷◌, length, map, Option, Some, None, refl, sym, ap, ◌∙◌, subst, ◌⊎◌, inl, inr, arith, IsTrue}
use Rattle.std.specs.Prelude.{nat_lt, if◌then◌else◌}
use Rattle.pv_script.specs.Lines.{ScriptLine}
use Rattle.pv_prov.specs.declared.pairs.Twin.{Twin}
use Rattle.pv_prov.specs.Twins.{KeepsOne}
use Rattle.pv_typed.specs.declared.values.Const.{Const}
use Rattle.pv_typed.specs.declared.values.Const.TheVariants as const
use Rattle.pv_typed.specs.Tables.{Stored}
use Rattle.pv_fault.specs.declared.verdict.Verdict.TheVariants as verdict
use Rattle.pv_world.specs.Worlds.{Worth, World, ByVerdict, Halts}
use Rattle.pv_world.specs.Telling.{Told}
use Rattle.pv_world.specs.Doing.{Done, Answers, Fails, Breaks}
use Rattle.pv_eval.specs.declared.marked.Marked.{Marked}
use Rattle.pv_eval.specs.States.{Setting, State, Why, Turns, Unreached, Stopped, Res, Gives, Stops, then_do, end_of, spend}
use Rattle.pv_eval.specs.TypeForms.{Lvalue}
use Rattle.pv_eval.specs.Constants.{constant_worth, is_high_pair}
use Rattle.pv_eval.specs.Acting.{answer_with_sides, after_doing, pair_count}
use Rattle.pv_eval.specs.Operations.{Op, Puts, does, act}
use Rattle.pv_eval.proofs.Closed.{IsLvalue, IsAsked, beside_setting}
use Rattle.pv_exec.specs.OfRuns.{below}
use Rattle.pv_exec.specs.Run.{setting_of, initial_state, run_of_by, run_of, outcome_of, sides_at}
use Rattle.pv_exec.specs.Laws.{run_at}
use Rattle.pv_exec.proofs.Executed.{WaysIn, Alike, even-closed, run-closed}
use Rattle.pv_exec.specs.Laying.{table_at, HasNoEmptyTag}
use Rattle.pv_exec.proofs.Memory.Rows.{Sound, led-itself}
use Rattle.pv_exec.proofs.Memory.Operations.{Filled}
use Rattle.pv_exec.proofs.Memory.Runs.{Passes, act-passes, tick-passes, seq-passes, first-sound, run-sound}
use Rattle.pv_exec.specs.Settling.{EndsAlike, EndsBy}
use Rattle.pv_exec.proofs.Settling.Sides.{on_world, holds, Allows}
use Rattle.pv_exec.proofs.Settling.Along.{before, longer}
use Rattle.pv_exec.proofs.Settling.Doings.{Tracks}
use Rattle.pv_exec.proofs.Settling.Operations.{AsksTrack, does-tracks}
use Rattle.pv_exec.proofs.Settling.Acting.{cut, cut-covers, cut-on, cut-allows, on_state, pairs_at, IsUndefined, EndsAs, Follows, acted-follows}

-- it ends undefined (3.4.3)
abbrev pub EndsUndefined : Res Worth → Type 0
EndsUndefined (Gives v s) = ⊥
EndsUndefined (Stops Turns s) = ⊥
EndsUndefined (Stops Unreached s) = ⊥
EndsUndefined (Stops (Stopped (ByVerdict (verdict.Undefined f)) line) s) = Unit {0}
EndsUndefined (Stops (Stopped (ByVerdict verdict.Undecided) line) s) = ⊥
EndsUndefined (Stops (Stopped (ByVerdict verdict.Indeterminate) line) s) = ⊥
EndsUndefined (Stops (Stopped (Halts h) line) s) = ⊥

-- it ends neither undefined nor undecided
abbrev pub EndsDecided : Res Worth → Type 0
EndsDecided (Gives v s) = Unit {0}
EndsDecided (Stops Turns s) = Unit {0}
EndsDecided (Stops Unreached s) = Unit {0}
EndsDecided (Stops (Stopped (ByVerdict (verdict.Undefined f)) line) s) = ⊥
EndsDecided (Stops (Stopped (ByVerdict verdict.Undecided) line) s) = ⊥
EndsDecided (Stops (Stopped (ByVerdict verdict.Indeterminate) line) s) = Unit {0}
EndsDecided (Stops (Stopped (Halts h) line) s) = Unit {0}

-- pieces of the late run and of a settled one
record Simulates (F : Type 0) (ds : List Bool) (A : Type 0) (m m' : State → Res A) : Type 0 where
  passes : (s : State) → Passes F s (end_of (m s))
  later : (s : State) → s.taken ≤ (end_of (m s)).taken
  follows : (s : State) (es : List Marked) → Sound F (table_at s).instances (table_at s).pairs → length (pairs_at (end_of (m s))) ≤ length ds → Allows ds (pairs_at s) → Follows ds (m s) (m' (on_state ds es s))

-- an operation takes no turn
answered-taken : (o : Option (List Bool)) (v : Worth) (line : ℕ) (w : World) (t : Told) (s : State) → o ≡ None → (end_of (answer_with_sides o v line w t s)).taken ≡ s.taken
answered-taken None v line w t s e = refl
answered-taken (Some x) v line w t s e = absurd (cc)

acted-taken : (b : Setting) (line : ℕ) (d : Done) (s : State) → b.sides ≡ None → (end_of (after_doing b line d s)).taken ≡ s.taken
acted-taken b line (Answers v w t) s e = answered-taken b.sides v line w t s e
acted-taken b line (Fails y p w t) s e = refl
acted-taken b line (Breaks y p w t) s e = refl

-- after an undefined stop nothing follows
undefined-on : {A B : Type 0} (r : Res A) (f : A → State → Res B) (n : ℕ) → IsUndefined r n → IsUndefined (then_do r f) n
undefined-on (Gives a s) f n h = absurd h
undefined-on (Stops Turns s) f n h = absurd h
undefined-on (Stops Unreached s) f n h = absurd h
undefined-on (Stops (Stopped (ByVerdict (verdict.Undefined x)) line) s) f n h = h
undefined-on (Stops (Stopped (ByVerdict verdict.Undecided) line) s) f n h = absurd h
undefined-on (Stops (Stopped (ByVerdict verdict.Indeterminate) line) s) f n h = absurd h
undefined-on (Stops (Stopped (Halts x) line) s) f n h = absurd h

undefined-later : {A : Type 0} (r : Res A) (n m : ℕ) → n ≤ m → IsUndefined r n → IsUndefined r m
undefined-later (Gives a s) n m le h = absurd h
undefined-later (Stops Turns s) n m le h = absurd h
undefined-later (Stops Unreached s) n m le h = absurd h
undefined-later (Stops (Stopped (ByVerdict (verdict.Undefined x)) line) s) n m le h = omega (arith, le, h)
undefined-later (Stops (Stopped (ByVerdict verdict.Undecided) line) s) n m le h = absurd h
undefined-later (Stops (Stopped (ByVerdict verdict.Indeterminate) line) s) n m le h = absurd h
undefined-later (Stops (Stopped (Halts x) line) s) n m le h = absurd h

ends-on : {A B : Type 0} (y : Why) (t : State) (r : Res A) (f : A → State → Res B) → EndsAs y t r → EndsAs y t (then_do r f)
ends-on y t (Gives a s) f h = absurd h
ends-on y t (Stops z s) f h = h

either-on : {P Q P' Q' N : Type 0} → (P → P') → (Q → Q') → P ⊎ (N × Q) → P' ⊎ (N × Q')
either-on f g (inl p) = inl (f p)
either-on f g (inr q) = inr (q.0, g q.1)

-- the late run has stopped
stopped-on : {A B : Type 0} (ds : List Bool) (y : Why) (t : State) (r : Res A) (f : A → State → Res B) → Follows {A = A} ds (Stops y t) r → Follows {A = B} ds (Stops y t) (then_do r f)
stopped-on ds Turns t r f h = either-on (ends-on Turns t r f) (undefined-on r f t.taken) h
stopped-on ds Unreached t r f h = either-on (ends-on Unreached t r f) (undefined-on r f t.taken) h
stopped-on ds (Stopped (ByVerdict (verdict.Undefined x)) line) t r f h = undefined-on r f t.taken h
stopped-on ds (Stopped (ByVerdict verdict.Undecided) line) t r f h = tt
stopped-on ds (Stopped (ByVerdict verdict.Indeterminate) line) t r f h = either-on (ends-on (Stopped (ByVerdict verdict.Indeterminate) line) t r f) (undefined-on r f t.taken) h
stopped-on ds (Stopped (Halts x) line) t r f h = either-on (ends-on (Stopped (Halts x) line) t r f) (undefined-on r f t.taken) h

-- the settled run has ended undefined, and the late one goes on without its side
lost-on : {A : Type 0} (ds : List Bool) (r r' : Res A) → (Allows ds (pairs_at (end_of r)) → ⊥) → IsUndefined r' (end_of r).taken → Follows ds r r'
lost-on ds (Gives a t) r' n h = inr (n, h)
lost-on ds (Stops Turns t) r' n h = inr (n, h)
lost-on ds (Stops Unreached t) r' n h = inr (n, h)
lost-on ds (Stops (Stopped (ByVerdict (verdict.Undefined x)) line) t) r' n h = h
lost-on ds (Stops (Stopped (ByVerdict verdict.Undecided) line) t) r' n h = tt
lost-on ds (Stops (Stopped (ByVerdict verdict.Indeterminate) line) t) r' n h = inr (n, h)
lost-on ds (Stops (Stopped (Halts x) line) t) r' n h = inr (n, h)

module _ (F : Type 0) (ds : List Bool) where
  seq-by : {A B : Type 0} (f f' : A → State → Res B) → ((a : A) → Simulates F ds B (f a) (f' a)) → (s : State) → Sound F (table_at s).instances (table_at s).pairs → (r r' : Res A) → Passes F s (end_of r)
      → length (pairs_at (end_of (then_do r f))) ≤ length ds → Follows ds r r' → Follows ds (then_do r f) (then_do r' f')
  seq-by f f' g s so (Gives a t) r' p n (inl h) =
      subst (λ x. Follows ds (f a t) (then_do x f')) (sym h.2) ((g a).follows t h.1 (p.sound so) n h.0)
  seq-by f f' g s so (Gives a t) r' p n (inr h) =
      let on = f a t in
      lost-on ds on (then_do r' f') (λ al. h.0 (before ds (pairs_at t) (pairs_at (end_of on)) ((g a).passes t).settle al))
      (undefined-later (then_do r' f') t.taken (end_of on).taken ((g a).later t) (undefined-on r' f' t.taken h.1))
  seq-by f f' g s so (Stops y t) r' p n h = stopped-on ds y t r' f' h

  -- enough sides for the first piece
  enough : {A B : Type 0} (f f' : A → State → Res B) → ((a : A) → Simulates F ds B (f a) (f' a)) → (r : Res A) → length (pairs_at (end_of (then_do r f))) ≤ length ds → length (pairs_at (end_of r)) ≤ length ds
  enough f f' g (Gives a t) n = let more = longer (pairs_at t) (pairs_at (end_of (f a t))) ((g a).passes t).settle in omega (arith, more, n)
  enough f f' g (Stops y t) n = n

  later-on : {A B : Type 0} (f f' : A → State → Res B) → ((a : A) → Simulates F ds B (f a) (f' a)) → (s : State) (r : Res A) → s.taken ≤ (end_of r).taken → s.taken ≤ (end_of (then_do r f)).taken
  later-on f f' g s (Gives a t) h = let more = (g a).later t in omega (arith, more, h)
  later-on f f' g s (Stops y t) h = h

  tick-later : {A : Type 0} (m : State → Res A) (s : State) (q : Bool) → ((s : State) → s.taken ≤ (end_of (m s)).taken) → s.taken ≤ (end_of (if q then m (spend s) else Stops Turns s)).taken
  tick-later m s true h = let more = h (spend s) in omega (arith, more)
  tick-later m s false h = omega arith

  tick-follows : {A : Type 0} (m m' : State → Res A) → Simulates F ds A m m' → (s : State) (es : List Marked) (q : Bool) → Sound F (table_at s).instances (table_at s).pairs
      → length (pairs_at (end_of (if q then m (spend s) else Stops Turns s))) ≤ length ds → Allows ds (pairs_at s) → Follows ds (if q then m (spend s) else Stops Turns s) (if q then m' (spend (on_state ds es s)) else Stops Turns (on_state ds es s))
  tick-follows m m' h s es true so n al = h.follows (spend s) es so n al
  tick-follows m m' h s es false so n al = inl (refl, refl, refl)

-- a constant is the same in both runs
constant-on : (ds : List Bool) (w : World) (q : Const) → constant_worth (on_world ds w) q ≡ constant_worth w q
constant-on ds w (const.Int n) = refl
constant-on ds w const.Null = refl
constant-on ds w (const.Address o n) = refl
constant-on ds w (const.Literal l n) = refl
constant-on ds w (const.Function f) = refl

module _ (b : Setting) (full : Filled b) (late : b.sides ≡ None) (ds : List Bool) (library : (cs : List Bool) → AsksTrack b (Filled b) cs) where
  abbrev c : Setting
  c = beside_setting b b.bound (Some ds)

  act-follows : (line : ℕ) (o : Op) → IsAsked b o → (s : State) (es : List Marked) → Sound (Filled b) (table_at s).instances (table_at s).pairs → length (pairs_at (end_of (act b line o s))) ≤ length ds → Allows ds (pairs_at s)
      → Follows ds (act b line o s) (act c line o (on_state ds es s))
  act-follows line o is s es so n al =
      let cs = cut ds (pairs_at s) in
      let more = longer (pairs_at s) (pairs_at (end_of (act b line o s))) (act-passes b line o is s).settle in
      let few : length (pairs_at s) ≤ length ds = omega (arith, more, n) in
      let tracks = does-tracks b (Filled b) cs full (library cs) o s.world (so, cut-allows ds (pairs_at s) al, cut-covers ds (pairs_at s) few) in
      acted-follows b c ds late refl line s es few (does b o s.world) (does c o (on_world ds s.world)) n
      (subst (λ ts. Tracks cs (does b o s.world) (does b o (record s.world { memory = record s.world.memory { table = record s.world.memory.table { pairs = ts } } }))) (cut-on ds (pairs_at s)) tracks)

  act-later : (line : ℕ) (o : Op) (s : State) → s.taken ≤ (end_of (act b line o s)).taken
  act-later line o s = let same = acted-taken b line (does b o s.world) s late in omega (arith, same)

  acting : (line : ℕ) (o : Op) → IsAsked b o → Simulates (Filled b) ds Worth (λ s. act b line o s) (λ s. act c line o s)
  acting line o is = record { passes = λ s. act-passes b line o is s; later = λ s. act-later line o s; follows = λ s es so n al. act-follows line o is s es so n al }

  constants : (line o offset : ℕ) (l : Lvalue) (q : Const) → IsLvalue b l → Simulates (Filled b) ds Worth (λ s. act b line (Puts o offset l (constant_worth s.world q)) s) (λ s. act c line (Puts o offset l (constant_worth s.world q)) s)
  constants line o offset l q is = record {
    passes = λ s. act-passes b line (Puts o offset l (constant_worth s.world q)) is s;
    later = λ s. act-later line (Puts o offset l (constant_worth s.world q)) s;
    follows = λ s es so n al.
        subst (λ v. Follows ds (act b line (Puts o offset l (constant_worth s.world q)) s) (act c line (Puts o offset l v) (on_state ds es s))) (sym (constant-on ds s.world q))
        (act-follows line (Puts o offset l (constant_worth s.world q)) is s es so n al);
  }

  simulating : WaysIn b c (λ k j A m m'. Simulates (Filled b) ds A m m')
  simulating = record {
    ways = record {
      gives = λ a. record { passes = λ s. led-itself; later = λ s. omega arith; follows = λ s es so n al. inl (al, es, refl) };
      acts = λ line o is. acting line o is;
      ticks = λ {k} {j} {A} {m} {m'} h. record {
        passes = λ s. tick-passes m s (nat_lt s.taken b.bound) h.passes;
        later = λ s. tick-later (Filled b) ds m s (nat_lt s.taken b.bound) h.later;
        follows = λ s es so n al. tick-follows (Filled b) ds m m' h s es (nat_lt s.taken b.bound) so n al;
      };
      seq = λ {k} {j} {i} {A} {B} {m} {m'} {f} {f'} h g. record {
        passes = λ s. seq-passes s (m s) f (h.passes s) (λ a. (g a).passes);
        later = λ s. later-on (Filled b) ds f f' g s (m s) (h.later s);
        follows = λ s es so n al. seq-by (Filled b) ds f f' g s so (m s) (m' (on_state ds es s)) (h.passes s) n (h.follows s es so (enough (Filled b) ds f f' g (m s) n) al);
      };
      less = λ h. h;
      more = λ h. h;
    };
    reads = λ line o offset l q is. constants line o offset l q is;
  }

  bottom : (A : Type 0) → Simulates (Filled b) ds A (λ s. Stops Unreached s) (λ s. Stops Unreached s)
  bottom A = record { passes = λ s. led-itself; later = λ s. omega arith; follows = λ s es so n al. inl (refl, refl, refl) }

  levels : (k : ℕ) → Alike b b.bound (Some ds) simulating.ways k (below b k) (below c k)
  levels k = even-closed b b.bound (Some ds) simulating.ways bottom k

none-allowed : (ds : List Bool) → Allows ds []
none-allowed [] = tt
none-allowed (d ∷ ds) = tt

-- the side that a pair keeps, low where it keeps both
side-kept : (l h : Bool) → IsTrue (l || h) → holds (not l) l h ≡ true
side-kept true h k = refl
side-kept false h k = k

own-sides : (ts : List Twin) → KeepsOne ts → Allows (map is_high_pair ts) ts
own-sides [] k = tt
own-sides (t ∷ ts) k = (side-kept t.keeps_low t.keeps_high (k 0 t (omega arith)), own-sides ts (λ i d h. k (suc i) d (omega arith)))

map-length : (ts : List Twin) → length (map is_high_pair ts) ≡ length ts
map-length [] = refl
map-length (t ∷ ts) = ap suc (map-length ts)

-- what follows from it
alike-ends : (y : Why) (t : State) (r : Res Worth) → EndsAs y t r → EndsAlike (Stops y t) r
alike-ends y t (Gives v s) h = absurd h
alike-ends y t (Stops z s) h = record { outcome = ap (λ x. outcome_of (Stops x s)) h.0 ∙ same y s t; turns = h.1; output = h.2 }
  where
    same : (y : Why) (s t : State) → outcome_of (Stops y s) ≡ outcome_of (Stops y t)
    same Turns s t = refl
    same Unreached s t = refl
    same (Stopped x line) s t = refl

late-settled : (ds : List Bool) (r r' : Res Worth) → Allows ds (pairs_at (end_of r)) → EndsDecided r → Follows ds r r' → EndsAlike r r'
late-settled ds (Gives v t) r' al d (inl h) = subst (λ x. EndsAlike (Gives v t) x) (sym h.2) (record { outcome = refl; turns = refl; output = refl })
late-settled ds (Gives v t) r' al d (inr h) = absurd (h.0 al)
late-settled ds (Stops Turns t) r' al d (inl h) = alike-ends Turns t r' h
late-settled ds (Stops Turns t) r' al d (inr h) = absurd (h.0 al)
late-settled ds (Stops Unreached t) r' al d (inl h) = alike-ends Unreached t r' h
late-settled ds (Stops Unreached t) r' al d (inr h) = absurd (h.0 al)
late-settled ds (Stops (Stopped (ByVerdict (verdict.Undefined x)) line) t) r' al d h = absurd d
late-settled ds (Stops (Stopped (ByVerdict verdict.Undecided) line) t) r' al d h = absurd d
late-settled ds (Stops (Stopped (ByVerdict verdict.Indeterminate) line) t) r' al d (inl h) = alike-ends (Stopped (ByVerdict verdict.Indeterminate) line) t r' h
late-settled ds (Stops (Stopped (Halts x) line) t) r' al d (inl h) = alike-ends (Stopped (Halts x) line) t r' h
late-settled ds (Stops (Stopped (ByVerdict verdict.Indeterminate) line) t) r' al d (inr h) = absurd (h.0 al)
late-settled ds (Stops (Stopped (Halts x) line) t) r' al d (inr h) = absurd (h.0 al)

sooner-ends : (r r' : Res Worth) → IsUndefined r' (end_of r).taken → EndsBy (end_of r).taken r'
sooner-ends r (Gives v s) h = absurd h
sooner-ends r (Stops Turns s) h = absurd h
sooner-ends r (Stops Unreached s) h = absurd h
sooner-ends r (Stops (Stopped (ByVerdict (verdict.Undefined x)) line) s) h = record { undefined = tt; turns = h }
sooner-ends r (Stops (Stopped (ByVerdict verdict.Undecided) line) s) h = absurd h
sooner-ends r (Stops (Stopped (ByVerdict verdict.Indeterminate) line) s) h = absurd h
sooner-ends r (Stops (Stopped (Halts x) line) s) h = absurd h

undefined-sooner : (ds : List Bool) (r r' : Res Worth) → EndsUndefined r → Follows ds r r' → EndsBy (end_of r).taken r'
undefined-sooner ds (Gives v t) r' d h = absurd d
undefined-sooner ds (Stops Turns t) r' d h = absurd d
undefined-sooner ds (Stops Unreached t) r' d h = absurd d
undefined-sooner ds (Stops (Stopped (ByVerdict (verdict.Undefined x)) line) t) r' d h = sooner-ends (Stops (Stopped (ByVerdict (verdict.Undefined x)) line) t) r' h
undefined-sooner ds (Stops (Stopped (ByVerdict verdict.Undecided) line) t) r' d h = absurd d
undefined-sooner ds (Stops (Stopped (ByVerdict verdict.Indeterminate) line) t) r' d h = absurd d
undefined-sooner ds (Stops (Stopped (Halts x) line) t) r' d h = absurd d

module _ (u : Stored) (full : HasNoEmptyTag u) (zap : Bool) (script : List ScriptLine) (n : ℕ) (library : (cs : List Bool) → AsksTrack (setting_of u n None zap) (HasNoEmptyTag u) cs) where
  abbrev late_run : Res Worth
  late_run = run_at u None zap script n

  run-follows : (ds : List Bool) → pair_count (end_of late_run).world ≤ length ds → Follows ds late_run (run_at u (Some ds) zap script n)
  unfolding run_of_by
  run-follows ds enough =
      let b = setting_of u n None zap in
      (run-closed b n (Some ds) (simulating b full refl ds library) n (levels b full refl ds library n)).follows (initial_state script zap) [] (first-sound (HasNoEmptyTag u) script zap) enough (none-allowed ds)

  pub late-is-settled : EndsDecided late_run → EndsAlike late_run (run_at u (Some (sides_at (end_of late_run))) zap script n)
  late-is-settled d =
      let ts = pairs_at (end_of late_run) in
      let ds = sides_at (end_of late_run) in
      let same = map-length ts in
      late-settled ds late_run (run_at u (Some ds) zap script n) (own-sides ts (run-sound u None zap script n).one) d (run-follows ds (omega (arith, same)))

  pub undefined-is-undefined : EndsUndefined late_run → (ds : List Bool) → pair_count (end_of late_run).world ≤ length ds → EndsBy (end_of late_run).taken (run_at u (Some ds) zap script n)
  undefined-is-undefined d ds enough = undefined-sooner ds late_run (run_at u (Some ds) zap script n) d (run-follows ds enough)
