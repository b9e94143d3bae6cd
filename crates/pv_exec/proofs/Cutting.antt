-- Of two runs at two bounds the shorter one is the longer one, or is cut off where another turn is due.
use Rattle.std.proofs.Common.{inl, inr, ◌≡◌, ℕ, zero, suc, ◌+◌, ◌<◌, ◌≤◌, List, [], append-nil, refl, sym, ap, ◌∙◌, subst, arith}
use Rattle.std.specs.Prelude.{◌⊎◌, Bool, true, false, nat_lt, if◌then◌else◌, Some}
use Rattle.std.specs.declared.option.Option.{Option}
use Rattle.std.proofs.lemmas.Bool.{ltb-true, ltb-false}
use Rattle.pv_script.specs.Lines.{ScriptLine}
use Rattle.pv_typed.specs.Tables.{Stored}
use Rattle.pv_world.specs.Worlds.{Worth, World}
use Rattle.pv_world.specs.Doing.{Done, Answers, Fails, Breaks}
use Rattle.pv_eval.specs.States.{Setting, State, Why, Turns, Unreached, Stopped, Res, Gives, Stops, then_do, end_of, spend}
use Rattle.pv_eval.specs.Acting.{after_doing}
use Rattle.pv_eval.specs.Constants.{constant_worth}
use Rattle.pv_eval.specs.Operations.{NamesFunction, MakesFunction, Finds, Op, Converts, Calculates, CalculatesOne, Tests, Negates, Accepts, Needs, Moves, Subtracts, Orders, Equals, Follows, Selects, TakesPart, Reads, Writes, NamesObject, NamesLiteral, Makes, MakesLiteral, Ends, BeginsBody, EndsBody, Fills, Puts, PutsText, Asks, does, act}
use Rattle.pv_eval.proofs.Closed.{beside_setting}
use Rattle.pv_exec.specs.declared.outcome.Outcome.TheVariants as outcome
use Rattle.pv_exec.specs.Calls.{below_by}
use Rattle.pv_exec.specs.OfRuns.{below}
use Rattle.pv_exec.specs.Run.{setting_of, initial_state, run_of_by, run_of, outcome_of}
use Rattle.pv_exec.specs.Growing.{Grew}
use Rattle.pv_exec.specs.Laws.{run_at, IsWithin, TakesAll, IsCut}
use Rattle.pv_exec.proofs.Executed.{WaysIn, Alike, below-closed, run-closed}
use Rattle.pv_exec.proofs.Growing.{Growing, grew-refl, grew-trans, tick-grows, seq-grows, acted-grows}
use Rattle.pv_exec.proofs.Adding.{alike}
use Rattle.pv_exec.proofs.Reaching.{EndFits, run-fits, within-bound, all-taken}

-- no operation looks at the bound
same-does : (b : Setting) (n : ℕ) (o : Op) (w : World) → does (beside_setting b n b.sides) o w ≡ does b o w
same-does b n (Converts how v) w = refl
same-does b n (Calculates op k v x) w = refl
same-does b n (CalculatesOne op k v) w = refl
same-does b n (Tests v) w = refl
same-does b n (Negates v) w = refl
same-does b n (Accepts v) w = refl
same-does b n (Needs v) w = refl
same-does b n (Moves minus pointer_first size v x) w = refl
same-does b n (Subtracts size v x) w = refl
same-does b n (Orders op v x) w = refl
same-does b n (Equals negated v x) w = refl
same-does b n (Follows nothing v) w = refl
same-does b n (Selects offset v) w = refl
same-does b n (Finds t v) w = refl
same-does b n (TakesPart offset l v) w = refl
same-does b n (Reads l place rivals) w = refl
same-does b n (Writes l place v from rivals) w = refl
same-does b n (NamesObject o) w = refl
same-does b n (NamesLiteral l) w = refl
same-does b n (NamesFunction f) w = refl
same-does b n (Makes o) w = refl
same-does b n (MakesLiteral l) w = refl
same-does b n (MakesFunction f) w = refl
same-does b n (Ends o) w = refl
same-does b n (BeginsBody f l) w = refl
same-does b n EndsBody w = refl
same-does b n (Fills o v) w = refl
same-does b n (Puts o offset l v) w = refl
same-does b n (PutsText o offset size l) w = refl
same-does b n (Asks f args) w = refl

same-acted : (b : Setting) (n line : ℕ) (d : Done) (s : State) → after_doing (beside_setting b n b.sides) line d s ≡ after_doing b line d s
same-acted b n line (Answers v w t) s = refl
same-acted b n line (Fails y p w t) s = refl
same-acted b n line (Breaks y p w t) s = refl

same-act : (b : Setting) (n line : ℕ) (o : Op) (s : State) → act (beside_setting b n b.sides) line o s ≡ act b line o s
same-act b n line o s = same-acted b n line (does (beside_setting b n b.sides) o s.world) s ∙ ap (λ (d : Done). after_doing b line d s) (same-does b n o s.world)

-- the first was cut off after n turns, and the second went on
abbrev Over : {A : Type 0} → ℕ → Res A → Res A → Type 0
Over n (Gives a s) r = ⊥
Over n (Stops Turns s) r = Grew (n + 1) s (end_of r)
Over n (Stops (Stopped y line) s) r = ⊥
Over n (Stops Unreached s) r = Unit {0}

abbrev Cut : {A : Type 0} → ℕ → Res A → Res A → Type 0
Cut n r r' = (r' ≡ r) ⊎ Over n r r'

-- the second piece only adds, wherever it begins, and from one state the first is the second or is cut off
record Cutting (n : ℕ) (A : Type 0) (m m' : State → Res A) : Type 0 where
  grows : Growing A m'
  cuts : (s : State) → Cut n (m s) (m' s)

over-then : {A B : Type 0} (n : ℕ) (y : Why) (s : State) (r' : Res A) (f' : A → State → Res B) → ((a : A) → Growing B (f' a)) → Over n (Stops y s) r' → Over n (Stops y s) (then_do r' f')
over-then n Turns s (Gives a t) f' g h = grew-trans (n + 1) t.taken s t (end_of (f' a t)) h.taken h (g a t)
over-then n Turns s (Stops w t) f' g h = h
over-then n (Stopped y line) s r' f' g h = absurd h
over-then n Unreached s r' f' g h = tt

seq-cuts : {A B : Type 0} (n : ℕ) (r r' : Res A) (f f' : A → State → Res B) → ((a : A) → Cutting n B (f a) (f' a)) → Cut n r r' → Cut n (then_do r f) (then_do r' f')
seq-cuts n (Gives a s) r' f f' g (inl e) = subst (λ q. Cut n (f a s) (then_do q f')) (sym e) ((g a).cuts s)
seq-cuts n (Gives a s) r' f f' g (inr o) = absurd o
seq-cuts n (Stops y s) r' f f' g (inl e) = inl (ap (λ q. then_do q f') e)
seq-cuts n (Stops y s) r' f f' g (inr o) = inr (over-then n y s r' f' (λ a. (g a).grows) o)

tick-cuts : {A : Type 0} (n l : ℕ) (m m' : State → Res A) (s : State) (t t' : Bool) → n ≤ l → nat_lt s.taken n ≡ t → nat_lt s.taken l ≡ t' → Cutting n A m m' → Cut n (if t then m (spend s) else Stops Turns s) (if t' then m' (spend s) else Stops Turns s)
tick-cuts n l m m' s true true le is is' h = h.cuts (spend s)
tick-cuts n l m m' s true false le is is' h =
    let a : s.taken < n = ltb-true s.taken n is in
    let c : l ≤ s.taken = ltb-false s.taken l is' in
    absurd (omega (arith, le, a, c))
tick-cuts n l m m' s false true le is is' h =
    let a : n ≤ s.taken = ltb-false s.taken n is in
    inr (grew-trans (n + 1) (s.taken + 1) s (spend s) (end_of (m' (spend s))) (omega (arith, a)) (record { taken = omega (arith, a); more = []; events = sym (append-nil s.events); later = tt; bytes = []; output = sym (append-nil s.output) }) (h.grows (spend s)))
tick-cuts n l m m' s false false le is is' h = inl refl

cutting : (b : Setting) (l : ℕ) → b.bound ≤ l → WaysIn b (beside_setting b l b.sides) (λ k j A m m'. Cutting b.bound A m m')
cutting b l le =
    let c = beside_setting b l b.sides in
    record {
      ways = record {
        gives = λ a. record { grows = λ s. grew-refl s.taken s (omega arith); cuts = λ s. inl refl };
        acts = λ line o is. record { grows = λ s. acted-grows c line (does c o s.world) s; cuts = λ s. inl (same-act b l line o s) };
        ticks = λ {k} {j} {A} {m} {m'} h. record { grows = λ s. tick-grows m' s (nat_lt s.taken l) h.grows; cuts = λ s. tick-cuts b.bound l m m' s (nat_lt s.taken b.bound) (nat_lt s.taken l) le refl refl h };
        seq = λ {k} {j} {i} {A} {B} {m} {m'} {f} {f'} h g. record { grows = λ s. seq-grows s (m' s) f' (h.grows s) (λ a. (g a).grows); cuts = λ s. seq-cuts b.bound (m s) (m' s) f f' g (h.cuts s) };
        less = λ h. h;
        more = λ h. h;
      };
      reads = λ line o offset v q is. record { grows = λ s. acted-grows c line (does c (Puts o offset v (constant_worth s.world q)) s.world) s; cuts = λ s. inl (same-act b l line (Puts o offset v (constant_worth s.world q)) s) };
    }

-- where the first has no level left
bottom : (b : Setting) (l : ℕ) (le : b.bound ≤ l) (k : ℕ) → Alike b l b.sides (cutting b l le).ways zero (below b zero) (below (beside_setting b l b.sides) k)
unfolding below_by
bottom b l le k =
    let c = beside_setting b l b.sides in
    let g = alike c k in
    record {
      call = λ f vs line. record { grows = g.call f vs line; cuts = λ s. inr tt };
      again = λ x step y. record { grows = g.again x step y; cuts = λ s. inr tt };
      again_do = λ y x. record { grows = g.again_do y x; cuts = λ s. inr tt };
    }

run-cut : (u : Stored) (sides : Option (List Bool)) (zap : Bool) (script : List ScriptLine) (n l : ℕ) → n ≤ l → Cut n (run_at u sides zap script n) (run_at u sides zap script l)
unfolding run_of_by
run-cut u sides zap script n l le =
    let b = setting_of u n sides zap in
    (run-closed b l sides (cutting b l le) n (below-closed b l sides (cutting b l le).ways (bottom b l le) n l le)).cuts (initial_state script zap)

is-cut : (n : ℕ) (r r' : Res Worth) → EndFits n (suc n) r → Cut n r r' → IsCut n r r'
is-cut n r r' h (inl e) = inl e
is-cut n (Gives v s) r' h (inr o) = absurd o
is-cut n (Stops Turns s) r' h (inr o) = inr (record { outcome = refl; taken = h.1; goes_on = o })
is-cut n (Stops Unreached s) r' h (inr o) = absurd h.1
is-cut n (Stops (Stopped y line) s) r' h (inr o) = absurd o

pub cut-law : (u : Stored) (sides : Option (List Bool)) (zap : Bool) (script : List ScriptLine) (n m : ℕ) → n ≤ m → IsCut n (run_at u sides zap script n) (run_at u sides zap script m)
cut-law u sides zap script n m le = is-cut n (run_at u sides zap script n) (run_at u sides zap script m) (run-fits u n sides zap script) (run-cut u sides zap script n m le)

-- what a run that ends by turns leaves undone
due-by : (n m : ℕ) (r r' : Res Worth) → n < m → TakesAll n r → TakesAll m r' → IsCut n r r' → outcome_of r ≡ Some outcome.Turns → n < (end_of r').taken
due-by n m r r' lt h g (inl e) is =
    let a : (end_of r').taken ≡ (end_of r).taken = ap (λ (q : Res Worth). (end_of q).taken) e in
    let c = h is in
    let d = g (ap outcome_of e ∙ is) in
    absurd (omega (arith, lt, a, c, d))
due-by n m r r' lt h g (inr o) is = omega (arith, o.goes_on.taken)

pub due-law : (u : Stored) (sides : Option (List Bool)) (zap : Bool) (script : List ScriptLine) (n m : ℕ) → n < m → outcome_of (run_at u sides zap script n) ≡ Some outcome.Turns → n < (end_of (run_at u sides zap script m)).taken
due-law u sides zap script n m lt is =
    due-by n m (run_at u sides zap script n) (run_at u sides zap script m) lt (all-taken u n sides zap script) (all-taken u m sides zap script) (cut-law u sides zap script n m (omega (arith, lt))) is

met-by : (n : ℕ) (r r' : Res Worth) → IsWithin n (end_of r) → IsCut n r r' → n < (end_of r').taken → outcome_of r ≡ Some outcome.Turns
met-by n r r' h (inl e) lt =
    let a : (end_of r').taken ≡ (end_of r).taken = ap (λ (q : Res Worth). (end_of q).taken) e in
    absurd (omega (arith, lt, a, h.taken))
met-by n r r' h (inr o) lt = o.outcome

pub met-law : (u : Stored) (sides : Option (List Bool)) (zap : Bool) (script : List ScriptLine) (n m : ℕ) → n ≤ m → n < (end_of (run_at u sides zap script m)).taken → outcome_of (run_at u sides zap script n) ≡ Some outcome.Turns
met-law u sides zap script n m le lt = met-by n (run_at u sides zap script n) (run_at u sides zap script m) (within-bound u n sides zap script) (cut-law u sides zap script n m le) lt
