-- What was printed and what came stays, whatever comes later.
use Rattle.std.proofs.Common.{ℕ, ◌+◌, ◌≤◌, List, [], ◌∷◌, ◌++◌, length, append_assoc, append-nil, refl, sym, ap, ◌∙◌, arith}
use Rattle.std.specs.Prelude.{Bool, true, false, nat_lt, slice_get, if◌then◌else◌, None, Some}
use Rattle.std.specs.declared.option.Option.{Option}
use Rattle.pv_typed.specs.Known.{Each}
use Rattle.pv_watch.specs.declared.event.What.{What}
use Rattle.pv_world.specs.Worlds.{Worth, World}
use Rattle.pv_world.specs.Doing.{Done, Answers, Fails, Breaks}
use Rattle.pv_world.specs.Telling.{Told, verdict_of, fault_of, fault_told}
use Rattle.pv_eval.specs.States.{Setting, State, Turns, Res, Gives, Stops, then_do, end_of, spend}
use Rattle.pv_eval.specs.Acting.{marked_events, after_telling, pair_count, with_side, settling, by_side, answer_with_sides, after_doing}
use Rattle.pv_eval.specs.Constants.{constant_worth}
use Rattle.pv_eval.specs.Operations.{Puts, does}
use Rattle.pv_eval.proofs.Closed.{beside_setting}
use Rattle.pv_exec.specs.Growing.{IsFrom, Grew}
use Rattle.pv_exec.proofs.Executed.{WaysIn}

pub each-append : {A : Type 0} (P : A → Type 0) (xs ys : List A) → Each P xs → Each P ys → Each P (xs ++ ys)
each-append P [] ys h g = g
each-append P (x ∷ xs) ys h g = (h.0, each-append P xs ys h.1 g)

pub each-weaker : {A : Type 0} (P Q : A → Type 0) (xs : List A) → ((x : A) → P x → Q x) → Each P xs → Each Q xs
each-weaker P Q [] f h = tt
each-weaker P Q (x ∷ xs) f h = (f x h.0, each-weaker P Q xs f h.1)

pub grew-refl : (n : ℕ) (s : State) → n ≤ s.taken → Grew n s s
grew-refl n s le = record { taken = le; more = []; events = sym (append-nil s.events); later = tt; bytes = []; output = sym (append-nil s.output) }

pub grew-trans : (n m : ℕ) (s t u : State) → n ≤ m → Grew n s t → Grew m t u → Grew n s u
grew-trans n m s t u l g h = record {
  taken = omega (arith, l, h.taken);
  more = g.more ++ h.more;
  events = h.events ∙ ap (λ es. es ++ h.more) g.events ∙ append_assoc s.events g.more h.more;
  later = each-append (IsFrom n) g.more h.more g.later (each-weaker (IsFrom m) (IsFrom n) h.more (λ x q. omega (arith, l, q)) h.later);
  bytes = g.bytes ++ h.bytes;
  output = h.output ∙ ap (λ xs. xs ++ h.bytes) g.output ∙ append_assoc s.output g.bytes h.bytes;
}

abbrev pub Grows : State → State → Type 0
Grows s t = Grew s.taken s t

pub grows-trans : (s t u : State) → Grows s t → Grows t u → Grows s u
grows-trans s t u g h = grew-trans s.taken t.taken s t u g.taken g h

stamped-from : (n m : ℕ) (xs : List What) → Each (IsFrom n) (marked_events n m xs)
stamped-from n m [] = tt
stamped-from n m (x ∷ xs) = (omega arith, stamped-from n m xs)

noted-grows : (w : World) (t : Told) (s : State) → Grows s (after_telling w t s)
noted-grows w t s = record {
  taken = omega arith;
  more = marked_events s.taken (length s.output) t.events;
  events = refl;
  later = stamped-from s.taken (length s.output) t.events;
  bytes = t.bytes;
  output = refl;
}

side-grows : (o : Option Bool) (v : Worth) (line : ℕ) (w : World) (t : Told) (s : State) → Grows s (end_of (by_side o v line w t s))
side-grows None v line w t s = noted-grows w (settling (pair_count w) t) s
side-grows (Some high) v line w t s = noted-grows (with_side w (pair_count w) high) (settling (pair_count w) t) s

either-grows : {A : Type 0} (q : Bool) (s : State) (r x : Res A) → Grows s (end_of r) → Grows s (end_of x) → Grows s (end_of (if q then r else x))
either-grows true s r x h g = h
either-grows false s r x h g = g

answered-grows : (o : Option (List Bool)) (v : Worth) (line : ℕ) (w : World) (t : Told) (s : State) → Grows s (end_of (answer_with_sides o v line w t s))
answered-grows None v line w t s = noted-grows w t s
answered-grows (Some sides) v line w t s =
    let o = slice_get sides (pair_count s.world) in
    either-grows (nat_lt (pair_count s.world) (pair_count w)) s (by_side o v line w t s) (Gives v (after_telling w t s)) (side-grows o v line w t s) (noted-grows w t s)

pub acted-grows : (b : Setting) (line : ℕ) (d : Done) (s : State) → Grows s (end_of (after_doing b line d s))
acted-grows b line (Answers v w t) s = answered-grows b.sides v line w t s
acted-grows b line (Fails y p w t) s = noted-grows w (record t { events = t.events ++ fault_told s.world.memory y p }) s
acted-grows b line (Breaks y p w t) s = noted-grows w (record t { events = t.events ++ fault_of p (verdict_of y) }) s

-- a piece of a run only adds
abbrev pub Growing : (A : Type 0) → (State → Res A) → Type 0
Growing A m = (s : State) → Grows s (end_of (m s))

pub spend-grows : (s : State) → Grows s (spend s)
spend-grows s = record { taken = omega arith; more = []; events = sym (append-nil s.events); later = tt; bytes = []; output = sym (append-nil s.output) }

pub tick-grows : {A : Type 0} (m : State → Res A) (s : State) (q : Bool) → Growing A m → Grows s (end_of (if q then m (spend s) else Stops Turns s))
tick-grows m s true h = grew-trans s.taken (s.taken + 1) s (spend s) (end_of (m (spend s))) (omega arith) (spend-grows s) (h (spend s))
tick-grows m s false h = grew-refl s.taken s (omega arith)

pub seq-grows : {A B : Type 0} (s : State) (r : Res A) (f : A → State → Res B) → Grows s (end_of r) → ((a : A) → Growing B (f a)) → Grows s (end_of (then_do r f))
seq-grows s (Gives a t) f h g = grows-trans s t (end_of (f a t)) h (g a t)
seq-grows s (Stops y t) f h g = h

-- each way of making pieces
pub growing : (b : Setting) → WaysIn b (beside_setting b b.bound b.sides) (λ k j A m m'. Growing A m)
growing b = record {
  ways = record {
    gives = λ a s. grew-refl s.taken s (omega arith);
    acts = λ line o is s. acted-grows b line (does b o s.world) s;
    ticks = λ {k} {j} {A} {m} {m'} h s. tick-grows m s (nat_lt s.taken b.bound) h;
    seq = λ {k} {j} {i} {A} {B} {m} {m'} {f} {f'} h g s. seq-grows s (m s) f (h s) g;
    less = λ h. h;
    more = λ h. h;
  };
  reads = λ line o offset v q is s. acted-grows b line (does b (Puts o offset v (constant_worth s.world q)) s.world) s;
}
