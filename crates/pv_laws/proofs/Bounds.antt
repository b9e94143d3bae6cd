-- Of two runs at two bounds the longer one has every instance that the shorter one had at its end (C17 6.2.4p2).
use Rattle.std.proofs.Common.{◌≡◌, ℕ, zero, ◌<◌, ◌≤◌, List, refl, sym, ap, ◌∙◌, subst, inl, inr, arith}
use Rattle.std.specs.Prelude.{◌⊎◌, Bool, true, false, nat_lt, if◌then◌else◌}
use Rattle.std.specs.declared.option.Option.{Option}
use Rattle.std.proofs.lemmas.Bool.{ltb-true, ltb-false}
use Rattle.pv_script.specs.Lines.{ScriptLine}
use Rattle.pv_typed.specs.Tables.{Stored}
use Rattle.pv_world.specs.Worlds.{Worth, World}
use Rattle.pv_world.specs.Doing.{Done, Answers, Fails, Breaks}
use Rattle.pv_eval.specs.States.{Setting, State, Turns, Res, Gives, Stops, then_do, end_of, spend}
use Rattle.pv_eval.specs.Acting.{after_doing}
use Rattle.pv_eval.specs.Constants.{constant_worth}
use Rattle.pv_eval.specs.Operations.{Op, Puts, does, act}
use Rattle.pv_eval.proofs.Closed.{beside_setting}
use Rattle.pv_exec.specs.Calls.{below_by}
use Rattle.pv_exec.specs.OfRuns.{below}
use Rattle.pv_exec.specs.Run.{setting_of, initial_state, run_of_by, run_of}
use Rattle.pv_exec.specs.Laws.{run_at}
use Rattle.pv_exec.proofs.Executed.{WaysIn, Alike, below-closed, run-closed}
use Rattle.pv_exec.specs.Staying.{InstancesRemain, PairsSettle}
use Rattle.pv_exec.proofs.Memory.Rows.{led-itself}
use Rattle.pv_exec.proofs.Memory.Operations.{Filled}
use Rattle.pv_exec.proofs.Memory.Runs.{Passes, tick-passes, seq-passes, act-passes, alike}

-- no operation looks at the bound
same-does : (b : Setting) (n : ℕ) (o : Op) (w : World) → does (beside_setting b n b.sides) o w ≡ does b o w
same-does b n o w = refl

same-acted : (b : Setting) (n line : ℕ) (d : Done) (s : State) → after_doing (beside_setting b n b.sides) line d s ≡ after_doing b line d s
same-acted b n line (Answers v w t) s = refl
same-acted b n line (Fails y p w t) s = refl
same-acted b n line (Breaks y p w t) s = refl

same-act : (b : Setting) (n line : ℕ) (o : Op) (s : State) → act (beside_setting b n b.sides) line o s ≡ act b line o s
same-act b n line o s = same-acted b n line (does (beside_setting b n b.sides) o s.world) s ∙ ap (λ (d : Done). after_doing b line d s) (same-does b n o s.world)

-- the first has stopped, and the second led on from there
abbrev Ahead : {A : Type 0} → Type 0 → Res A → Res A → Type 0
Ahead F (Gives a s) r = ⊥
Ahead F (Stops y s) r = Passes F s (end_of r)

abbrev Beside : {A : Type 0} → Type 0 → Res A → Res A → Type 0
Beside F r r' = (r' ≡ r) ⊎ Ahead F r r'

-- the second piece leads on, wherever it begins, and from one state it is the first, or is ahead of it
record Going (F : Type 0) (A : Type 0) (m m' : State → Res A) : Type 0 where
  passes : (s : State) → Passes F s (end_of (m' s))
  beside : (s : State) → Beside F (m s) (m' s)

seq-beside : {A B : Type 0} (F : Type 0) (r r' : Res A) (f f' : A → State → Res B) → ((a : A) → Going F B (f a) (f' a)) → Beside F r r' → Beside F (then_do r f) (then_do r' f')
seq-beside F (Gives a s) r' f f' g (inl e) = subst (λ q. Beside F (f a s) (then_do q f')) (sym e) ((g a).beside s)
seq-beside F (Gives a s) r' f f' g (inr o) = absurd o
seq-beside F (Stops y s) r' f f' g (inl e) = inl (ap (λ q. then_do q f') e)
seq-beside F (Stops y s) r' f f' g (inr o) = inr (seq-passes s r' f' o (λ a. (g a).passes))

tick-beside : {A : Type 0} (F : Type 0) (n l : ℕ) (m m' : State → Res A) (s : State) (t t' : Bool) → n ≤ l → nat_lt s.taken n ≡ t → nat_lt s.taken l ≡ t' → Going F A m m' → Beside F (if t then m (spend s) else Stops Turns s) (if t' then m' (spend s) else Stops Turns s)
tick-beside F n l m m' s true true le is is' h = h.beside (spend s)
tick-beside F n l m m' s true false le is is' h =
    let a : s.taken < n = ltb-true s.taken n is in
    let c : l ≤ s.taken = ltb-false s.taken l is' in
    absurd (omega (arith, le, a, c))
tick-beside F n l m m' s false true le is is' h = inr (h.passes (spend s))
tick-beside F n l m m' s false false le is is' h = inl refl

going : (b : Setting) (l : ℕ) → b.bound ≤ l → WaysIn b (beside_setting b l b.sides) (λ k j A m m'. Going (Filled b) A m m')
going b l le =
    let c = beside_setting b l b.sides in
    record {
      ways = record {
        gives = λ a. record { passes = λ s. led-itself; beside = λ s. inl refl };
        acts = λ line o is. record { passes = λ s. act-passes c line o is s; beside = λ s. inl (same-act b l line o s) };
        ticks = λ {k} {j} {A} {m} {m'} h. record { passes = λ s. tick-passes m' s (nat_lt s.taken l) h.passes; beside = λ s. tick-beside (Filled b) b.bound l m m' s (nat_lt s.taken b.bound) (nat_lt s.taken l) le refl refl h };
        seq = λ {k} {j} {i} {A} {B} {m} {m'} {f} {f'} h g. record { passes = λ s. seq-passes s (m' s) f' (h.passes s) (λ a. (g a).passes); beside = λ s. seq-beside (Filled b) (m s) (m' s) f f' g (h.beside s) };
        less = λ h. h;
        more = λ h. h;
      };
      reads = λ line o offset v q is. record { passes = λ s. act-passes c line (Puts o offset v (constant_worth s.world q)) is s; beside = λ s. inl (same-act b l line (Puts o offset v (constant_worth s.world q)) s) };
    }

-- where the first has no level left
bottom : (b : Setting) (l : ℕ) (le : b.bound ≤ l) (k : ℕ) → Alike b l b.sides (going b l le).ways zero (below b zero) (below (beside_setting b l b.sides) k)
unfolding below_by
bottom b l le k =
    let g = alike (beside_setting b l b.sides) k in
    record {
      call = λ f vs line. record { passes = g.call f vs line; beside = λ s. inr (g.call f vs line s) };
      again = λ x step y. record { passes = g.again x step y; beside = λ s. inr (g.again x step y s) };
      again_do = λ y x. record { passes = g.again_do y x; beside = λ s. inr (g.again_do y x s) };
    }

run-beside : (u : Stored) (sides : Option (List Bool)) (zap : Bool) (script : List ScriptLine) (n l : ℕ) → n ≤ l → let b = setting_of u n sides zap in Beside (Filled b) (run_at u sides zap script n) (run_at u sides zap script l)
unfolding run_of_by
run-beside u sides zap script n l le =
    let b = setting_of u n sides zap in
    (run-closed b l sides (going b l le) n (below-closed b l sides (going b l le).ways (bottom b l le) n l le)).beside (initial_state script zap)

-- what was made is there still
abbrev pub Stay : State → State → Type 0
Stay s t = InstancesRemain s t × PairsSettle s t

led-stay : (F : Type 0) (s t : State) → Passes F s t → Stay s t
led-stay F s t h = (h.remain, h.settle)

stay-by : (F : Type 0) (r r' : Res Worth) → Beside F r r' → Stay (end_of r) (end_of r')
stay-by F r r' (inl e) = subst (λ (q : Res Worth). Stay (end_of r) (end_of q)) (sym e) (led-stay F (end_of r) (end_of r) led-itself)
stay-by F (Gives v s) r' (inr o) = absurd o
stay-by F (Stops y s) r' (inr o) = led-stay F s (end_of r') o

pub run-stays : (u : Stored) (sides : Option (List Bool)) (zap : Bool) (script : List ScriptLine) (n m : ℕ) → n ≤ m → Stay (end_of (run_at u sides zap script n)) (end_of (run_at u sides zap script m))
run-stays u sides zap script n m le = stay-by (Filled (setting_of u n sides zap)) (run_at u sides zap script n) (run_at u sides zap script m) (run-beside u sides zap script n m le)
