-- What each piece of a run leads to, and so the run at every bound (C17 5.1.2.3, 6.2.4p2).
use Rattle.std.proofs.Common.{◌≡◌, ℕ, List, [], refl, arith}
use Rattle.std.specs.Prelude.{Bool, true, false, nat_lt, slice_get, if◌then◌else◌, None, Some}
use Rattle.std.specs.declared.option.Option.{Option}
use Rattle.std.proofs.lemmas.List.Elements.{All-nil}
use Rattle.pv_script.specs.Lines.{ScriptLine}
use Rattle.pv_prov.specs.Names.{twin_at}
use Rattle.pv_inst.specs.WellFormed.{HasMet}
use Rattle.pv_object.specs.Memory.{Mem}
use Rattle.pv_typed.specs.Tables.{Stored}
use Rattle.pv_world.specs.Worlds.{Worth, World}
use Rattle.pv_world.specs.Telling.{Told}
use Rattle.pv_world.specs.Doing.{Done, Answers, Fails, Breaks}
use Rattle.pv_eval.specs.States.{Setting, State, Turns, Res, Gives, Stops, then_do, end_of, spend}
use Rattle.pv_eval.specs.Acting.{after_telling, pair_count, with_side, by_side, answer_with_sides, after_doing}
use Rattle.pv_eval.specs.ActingParts.{one_kept, keeps_both}
use Rattle.pv_eval.specs.Constants.{constant_worth}
use Rattle.pv_eval.specs.Operations.{Op, Puts, does}
use Rattle.pv_eval.proofs.Closed.{IsAsked, beside_setting}
use Rattle.pv_exec.specs.OfRuns.{below}
use Rattle.pv_exec.specs.Run.{setting_of, initial_state, run_of_by, run_of}
use Rattle.pv_exec.specs.Laws.{run_at}
use Rattle.pv_exec.proofs.Executed.{WaysIn, Alike, even-closed, run-closed}
use Rattle.pv_exec.specs.Laying.{table_at, HasNoEmptyTag}
use Rattle.pv_exec.proofs.Memory.Rows.{Lies, Sound, Leads, led-itself}
use Rattle.pv_exec.proofs.Memory.Tables.{leading}
use Rattle.pv_exec.proofs.Memory.Ways.{Changes}
use Rattle.pv_exec.proofs.Memory.Worlds.{Onward}
use Rattle.pv_exec.proofs.Memory.Operations.{Filled, does-on}

-- from one moment to another
abbrev pub Comes : (Mem → Mem → Type 0) → State → State → Type 0
Comes R s t = R s.world.memory t.world.memory

module _ {F : Type 0} {R : Mem → Mem → Type 0} (changes : Changes F R) where
  -- in a settled run
  kept-if : (c : Bool) (w : World) (k : ℕ) (high : Bool) → keeps_both (twin_at w.memory.table.pairs k) ≡ c → R w.memory (if c then one_kept w k high else w).memory
  kept-if true w k high e = changes.settles w.memory k high e
  kept-if false w k high e = changes.itself

  sided-comes : (w : World) (k : ℕ) (high : Bool) → R w.memory (with_side w k high).memory
  sided-comes w k high = kept-if (keeps_both (twin_at w.memory.table.pairs k)) w k high refl

  side-comes : (o : Option Bool) (v : Worth) (line : ℕ) (w : World) (t : Told) (s : State) → R s.world.memory w.memory → Comes R s (end_of (by_side o v line w t s))
  side-comes None v line w t s h = h
  side-comes (Some high) v line w t s h = changes.trans h (sided-comes w (pair_count w) high)

  either-comes : {A : Type 0} (q : Bool) (s : State) (r x : Res A) → Comes R s (end_of r) → Comes R s (end_of x) → Comes R s (end_of (if q then r else x))
  either-comes true s r x h g = h
  either-comes false s r x h g = g

  answered-comes : (o : Option (List Bool)) (v : Worth) (line : ℕ) (w : World) (t : Told) (s : State) → R s.world.memory w.memory → Comes R s (end_of (answer_with_sides o v line w t s))
  answered-comes None v line w t s h = h
  answered-comes (Some sides) v line w t s h =
      let o = slice_get sides (pair_count s.world) in
      either-comes (nat_lt (pair_count s.world) (pair_count w)) s (by_side o v line w t s) (Gives v (after_telling w t s)) (side-comes o v line w t s h) h

  acted-comes : (b : Setting) (line : ℕ) (d : Done) (s : State) → Onward R s.world d → Comes R s (end_of (after_doing b line d s))
  acted-comes b line (Answers v w t) s h = answered-comes b.sides v line w t s h.leads
  acted-comes b line (Fails y p w t) s h = h.leads
  acted-comes b line (Breaks y p w t) s h = h.leads

  -- pieces of a run, wherever they begin
  tick-comes : {A : Type 0} (m : State → Res A) (s : State) (q : Bool) → ((s : State) → Comes R s (end_of (m s))) → Comes R s (end_of (if q then m (spend s) else Stops Turns s))
  tick-comes m s true h = h (spend s)
  tick-comes m s false h = changes.itself

  seq-comes : {A B : Type 0} (s : State) (r : Res A) (f : A → State → Res B) → Comes R s (end_of r) → ((a : A) (s : State) → Comes R s (end_of (f a s))) → Comes R s (end_of (then_do r f))
  seq-comes s (Gives a t) f h g = changes.trans h (g a t)
  seq-comes s (Stops y t) f h g = h

module _ (b : Setting) {R : Mem → Mem → Type 0} (changes : Changes (Filled b) R) where
  act-comes : (line : ℕ) (o : Op) → IsAsked b o → (s : State) → Comes R s (end_of (after_doing b line (does b o s.world) s))
  act-comes line o is s = acted-comes changes b line (does b o s.world) s (does-on b changes o is s.world)

  -- each way of making pieces
  coming : WaysIn b (beside_setting b b.bound b.sides) (λ k j A m m'. (s : State) → Comes R s (end_of (m s)))
  coming = record {
    ways = record {
      gives = λ a s. changes.itself;
      acts = λ line o is s. act-comes line o is s;
      ticks = λ {k} {j} {A} {m} {m'} h s. tick-comes changes m s (nat_lt s.taken b.bound) h;
      seq = λ {k} {j} {i} {A} {B} {m} {m'} {f} {f'} h g s. seq-comes changes s (m s) f (h s) g;
      less = λ h. h;
      more = λ h. h;
    };
    reads = λ line o offset l q is s. act-comes line (Puts o offset l (constant_worth s.world q)) is s;
  }

  all-come : (k : ℕ) → Alike b b.bound b.sides coming.ways k (below b k) (below (beside_setting b b.bound b.sides) k)
  all-come k = even-closed b b.bound b.sides coming.ways (λ A s. changes.itself) k

-- the whole run
pub run-comes : (u : Stored) (sides : Option (List Bool)) (zap : Bool) (script : List ScriptLine) (n : ℕ) {R : Mem → Mem → Type 0} (changes : Changes (HasNoEmptyTag u) R) → Comes R (initial_state script zap) (end_of (run_at u sides zap script n))
unfolding run_of_by
run-comes u sides zap script n changes =
    let b = setting_of u n sides zap in
    run-closed b n sides (coming b changes) n (all-come b changes n) (initial_state script zap)

-- of instances and pairs
abbrev pub Passes : Type 0 → State → State → Type 0
Passes F s t = Leads F (table_at s) (table_at t)

module _ {F : Type 0} where
  pub tick-passes : {A : Type 0} (m : State → Res A) (s : State) (q : Bool) → ((s : State) → Passes F s (end_of (m s))) → Passes F s (end_of (if q then m (spend s) else Stops Turns s))
  tick-passes m s q h = tick-comes (leading F) m s q h

  pub seq-passes : {A B : Type 0} (s : State) (r : Res A) (f : A → State → Res B) → Passes F s (end_of r) → ((a : A) (s : State) → Passes F s (end_of (f a s))) → Passes F s (end_of (then_do r f))
  seq-passes s r f h g = seq-comes (leading F) s r f h g

pub act-passes : (b : Setting) (line : ℕ) (o : Op) → IsAsked b o → (s : State) → Passes (Filled b) s (end_of (after_doing b line (does b o s.world) s))
act-passes b line o is s = act-comes b (leading (Filled b)) line o is s

pub passing : (b : Setting) → WaysIn b (beside_setting b b.bound b.sides) (λ k j A m m'. (s : State) → Passes (Filled b) s (end_of (m s)))
passing b = coming b (leading (Filled b))

pub alike : (b : Setting) (k : ℕ) → Alike b b.bound b.sides (passing b).ways k (below b k) (below (beside_setting b b.bound b.sides) k)
alike b k = even-closed b b.bound b.sides (passing b).ways (λ A s. led-itself) k

run-passes : (u : Stored) (sides : Option (List Bool)) (zap : Bool) (script : List ScriptLine) (n : ℕ) → Passes (HasNoEmptyTag u) (initial_state script zap) (end_of (run_at u sides zap script n))
run-passes u sides zap script n = run-comes u sides zap script n (leading (HasNoEmptyTag u))

-- nothing is made yet
pub first-sound : (F : Type 0) (script : List ScriptLine) (zap : Bool) → Sound F (table_at (initial_state script zap)).instances (table_at (initial_state script zap)).pairs
first-sound F script zap = record {
  placed = All-nil (Lies F);
  apart = λ i j d l h. absurd (omega (arith, h));
  met = All-nil (HasMet []);
  one = All-nil _;
  few = omega arith;
}

pub run-sound : (u : Stored) (sides : Option (List Bool)) (zap : Bool) (script : List ScriptLine) (n : ℕ) → let T = table_at (end_of (run_at u sides zap script n)) in Sound (HasNoEmptyTag u) T.instances T.pairs
run-sound u sides zap script n = (run-passes u sides zap script n).sound (first-sound (HasNoEmptyTag u) script zap)
