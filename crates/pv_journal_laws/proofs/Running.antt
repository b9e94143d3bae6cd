-- The events of each piece of a run pass, behind those that came before, and so those of the run at every bound (C17 5.1.2.3).
use Rattle.std.proofs.Common.{◌≡◌, ℕ, zero, suc, ◌≤◌, Bool, true, false, cond, eqb, ◌-◌, List, [], ◌∷◌, ◌++◌, length, map, take, drop, Option, Some, None, IsSome, refl, sym, ap, ◌∙◌, subst, arith}
use Rattle.std.specs.Prelude.{nat_lt, if◌then◌else◌}
use Rattle.std.proofs.lemmas.Option.{none-some, same_Some}
use Rattle.std.proofs.lemmas.List.{take-append-drop}
use Rattle.std.proofs.lemmas.List.Elements.{All-nil}
use Rattle.std.specs.List.{slice_get}
use Rattle.std.specs.FinMap.{get-empty}
use Rattle.std.specs.Ordering.{nat_cmp}
use Rattle.pv_script.specs.Lines.{ScriptLine}
use Rattle.pv_inst.specs.declared.values.Instance.{Instance}
use Rattle.pv_inst.specs.Table.{Table, instance_at}
use Rattle.pv_typed.specs.Known.{Each}
use Rattle.pv_typed.specs.Tables.{Stored, whole_unit}
use Rattle.pv_watch.specs.declared.event.Event.{Event}
use Rattle.pv_watch.specs.declared.event.What.{What}
use Rattle.pv_watch.specs.declared.event.What.TheVariants as what
use Rattle.pv_fault.specs.declared.verdict.Verdict.{Verdict}
use Rattle.pv_world.specs.declared.failing.Blame.{Blame}
use Rattle.pv_world.specs.Worlds.{World}
use Rattle.pv_world.specs.Telling.{Told, fault_of, verdict_of, blame_of}
use Rattle.pv_world.specs.Doing.{Done, Answers, Fails, Breaks}
use Rattle.pv_eval.specs.declared.marked.Marked.{Marked}
use Rattle.pv_eval.specs.States.{Setting, State, Turns, Res, Gives, Stops, then_do, end_of, spend}
use Rattle.pv_eval.specs.Acting.{marked_events, after_telling, noted_with, after_doing}
use Rattle.pv_eval.specs.Constants.{constant_worth}
use Rattle.pv_eval.specs.Operations.{Op, Puts, does}
use Rattle.pv_eval.proofs.Closed.{beside_setting}
use Rattle.pv_exec.specs.OfRuns.{below}
use Rattle.pv_exec.specs.Run.{setting_of, initial_state, run_of_by, run_of}
use Rattle.pv_exec.specs.Laws.{run_at}
use Rattle.pv_exec.specs.Laying.{HasNoEmptyTag, table_at}
use Rattle.pv_exec.specs.Outlets.{event_of}
use Rattle.pv_exec.specs.Words.{FitsWords, FitsWhat}
use Rattle.pv_exec.proofs.Executed.{WaysIn, Alike, even-closed, run-closed}
use Rattle.pv_exec.proofs.Memory.Runs.{first-sound}
use Rattle.pv_journal.specs.Obeying.{at_first, State as Left}
use Rattle.pv_journal_laws.specs.Naming.{HasNames}
use Rattle.pv_journal_laws.specs.Runs.{FitsLine, IsFew, TellsAJournal, run_end, events_at}
use Rattle.pv_journal_laws.proofs.Telling.{after_events, told_from}
use Rattle.pv_journal_laws.proofs.Uses.{at_table}
use Rattle.pv_journal_laws.proofs.Doings.{Fine, Answered, Passed, Coming, fine_told}
use Rattle.pv_journal_laws.proofs.Working.{does-come}
use Rattle.pv_journal_laws.proofs.Turning.{left_by, told_turn, stamped_from, events_append, events_front, stamped_append, map_both, each_parts, few_stamped, fault_passes}
use Rattle.pv_journal_laws.proofs.Journaling.{tells_journal}
use Rattle.pv_journal_laws.proofs.Parts.{some_of}

-- what was told by a moment
abbrev told_by : State → List Event
told_by s = map event_of s.events

-- what was told by a moment leaves the state of the memory's table, with the turn of the last event
record Holding (names : List (List ℕ)) (s : State) : Type 0 where
  turn : ℕ
  le : turn ≤ s.taken
  told : after_events names at_first (told_by s) ≡ Some (at_table names turn false (table_at s))
  fine : Fine names s.world

-- the same where 64 bits can say the numbers that are told
abbrev Holds : List (List ℕ) → State → Type 0
Holds names s = Each FitsLine s.events → Holding names s

-- what was told passes
abbrev AllPass : List (List ℕ) → State → Type 0
AllPass names s = Each FitsLine s.events → IsSome (after_events names at_first (told_by s))

-- what holds at the end of a piece of a run
abbrev Ends : {A : Type 0} → List (List ℕ) → Res A → Type 0
Ends names (Gives a s) = Holds names s
Ends names (Stops y s) = AllPass names s

holds_pass : (names : List (List ℕ)) (s : State) → Holds names s → AllPass names s
holds_pass names s h f = some_of _ (at_table names (h f).turn false (table_at s)) (h f).told

-- ---- events that an operation tells

-- behind what was told before
told_behind : (names : List (List ℕ)) (events more : List Marked) (s t : Left) → after_events names s (map event_of events) ≡ Some t → after_events names s (map event_of (events ++ more)) ≡ after_events names t (map event_of more)
told_behind names events more s t h = ap (after_events names s) (map_both event_of events more) ∙ events_append names (map event_of events) (map event_of more) s t h

-- the turn of the last event
abbrev turn_of : List What → (turn now : ℕ) → ℕ
turn_of [] turn now = turn
turn_of (e ∷ es) turn now = now

turn_le : (es : List What) (turn now : ℕ) → turn ≤ now → turn_of es turn now ≤ now
turn_le [] turn now le = le
turn_le (e ∷ es) turn now le = omega arith

-- the state that is left has that turn
left_table : (names : List (List ℕ)) (es : List What) (turn now : ℕ) (T U : Table) → told_from names (at_table names now false T) es ≡ Some (at_table names now false U)
    → left_by es (at_table names turn false T) (at_table names now false U) ≡ at_table names (turn_of es turn now) false U
left_table names [] turn now T U h = ap (λ (x : Left). record x { turn = turn }) (same_Some (at_table names now false T) (at_table names now false U) h)
left_table names (e ∷ es) turn now T U h = refl

module _ (names : List (List ℕ)) where
  noted-holds : (s : State) (w : World) (t : Told) → Holds names s → (Fine names s.world → Answered names s.taken s.world t.events w) → Holds names (after_telling w t s)
  noted-holds s w t h a fits =
      let parts = each_parts FitsLine s.events (marked_events s.taken (length s.output) t.events) fits in
      let was : Holding names s = h parts.0 in
      let answered = a was.fine in
      let told = answered.tells.told was.fine.sane (few_stamped s.taken (length s.output) t.events parts.1) in
      let T = table_at s in
      let U = w.memory.table in
      record {
        turn = turn_of t.events was.turn s.taken;
        le = turn_le t.events was.turn s.taken was.le;
        told =
            told_behind names s.events (marked_events s.taken (length s.output) t.events) at_first (at_table names was.turn false T) was.told
            ∙ stamped_from names s.taken (length s.output) t.events (at_table names was.turn false T) (at_table names s.taken false U) refl was.le parts.1 told refl
            ∙ ap Some (left_table names t.events was.turn s.taken T U told);
        fine = fine_told was.fine answered;
      }

  left_turn : (es : List What) (s : Left) (u : Left) (n : ℕ) → s.turn ≤ n → u.turn ≤ n → (left_by es s u).turn ≤ n
  left_turn [] s u n h g = h
  left_turn (e ∷ es) s u n h g = g

  left_over : (es : List What) (s : Left) (u : Left) → s.over ≡ false → u.over ≡ false → (left_by es s u).over ≡ false
  left_over [] s u h g = h
  left_over (e ∷ es) s u h g = g

  fault-passes : (s : State) (w : World) (t : Told) (b : Option Blame) (o : Option Verdict) → Holds names s → (Fine names s.world → Passed names s.taken s.world t.events) → AllPass names (noted_with w t (fault_of b o) s)
  fault-passes s w t b o h a fits =
      let n = s.taken in
      let m = length s.output in
      let all = each_parts FitsLine s.events (marked_events n m (t.events ++ fault_of b o)) fits in
      let both = each_parts FitsLine (marked_events n m t.events) (marked_events n m (fault_of b o)) (subst (Each FitsLine) (stamped_append n m t.events (fault_of b o)) all.1) in
      let was : Holding names s = h all.0 in
      let passing = (a was.fine).some (few_stamped n m t.events both.0) in
      let J = at_table names was.turn false (table_at s) in
      let X = left_by t.events J passing.left in
      let first : after_events names J (map event_of (marked_events n m t.events)) ≡ Some X = stamped_from names n m t.events J passing.left refl was.le both.0 passing.told passing.over in
      let whole : after_events names at_first (map event_of (s.events ++ marked_events n m (t.events ++ fault_of b o))) ≡ after_events names X (map event_of (marked_events n m (fault_of b o))) =
      told_behind names s.events (marked_events n m (t.events ++ fault_of b o)) at_first J was.told
      ∙ ap (λ l. after_events names J (map event_of l)) (stamped_append n m t.events (fault_of b o))
      ∙ told_behind names (marked_events n m t.events) (marked_events n m (fault_of b o)) J X first in
      subst IsSome (sym whole) (fault_passes names n m b o X (left_over t.events J passing.left refl passing.over) (left_turn t.events J passing.left n was.le (told_turn names (at_table names n false (table_at s)) passing.left t.events passing.told n (omega arith))) both.1)

  -- pieces of a run, wherever they begin
  holds-spent : (s : State) → Holds names s → Holds names (spend s)
  holds-spent s h f = let was : Holding names s = h f in record { turn = was.turn; le = (let le = was.le in omega (arith, le)); told = was.told; fine = was.fine }

  tick-ends : {A : Type 0} (m : State → Res A) (s : State) (q : Bool) → Holds names s → ((s : State) → Holds names s → Ends names (m s)) → Ends names (if q then m (spend s) else Stops Turns s)
  tick-ends m s true h g = g (spend s) (holds-spent s h)
  tick-ends m s false h g = holds_pass names s h

  seq-ends : {A B : Type 0} (r : Res A) (f : A → State → Res B) → Ends names r → ((a : A) (s : State) → Holds names s → Ends names (f a s)) → Ends names (then_do r f)
  seq-ends (Gives a t) f h g = g a t h
  seq-ends (Stops y t) f h g = h

module _ (u : Stored) (n : ℕ) (named : HasNames (whole_unit u)) (filled : HasNoEmptyTag u) where
  -- a run in which pairs are settled late, and pointers to what has ended may not be used
  abbrev b : Setting
  b = setting_of u n None true

  acted-ends : (line : ℕ) (d : Done) (s : State) → Holds u.names s → (Fine u.names s.world → Coming u.names s.taken s.world d) → Ends u.names (after_doing b line d s)
  acted-ends line (Answers v w t) s h c = noted-holds u.names s w t h (λ f. (c f).comes)
  acted-ends line (Fails y None w t) s h c = fault-passes u.names s w t None (verdict_of y) h (λ f. (c f).comes)
  acted-ends line (Fails y (Some p) w t) s h c = fault-passes u.names s w t (Some (blame_of s.world.memory p)) (verdict_of y) h (λ f. (c f).comes)
  acted-ends line (Breaks y p w t) s h c = fault-passes u.names s w t p (verdict_of y) h (λ f. (c f).comes)

  act-ends : (line : ℕ) (o : Op) (s : State) → Holds u.names s → Ends u.names (after_doing b line (does b o s.world) s)
  act-ends line o s h = acted-ends line (does b o s.world) s h (λ f. does-come b named filled s.taken o s.world f)

  -- each way of making pieces
  passing : WaysIn b (beside_setting b b.bound b.sides) (λ k j A m m'. (s : State) → Holds u.names s → Ends u.names (m s))
  passing = record {
    ways = record {
      gives = λ a s h. h;
      acts = λ line o is s h. act-ends line o s h;
      ticks = λ {k} {j} {A} {m} {m'} g s h. tick-ends u.names m s (nat_lt s.taken b.bound) h g;
      seq = λ {k} {j} {i} {A} {B} {m} {m'} {f} {f'} g x s h. seq-ends u.names (m s) f (g s h) x;
      less = λ h. h;
      more = λ h. h;
    };
    reads = λ line o offset l q is s h. act-ends line (Puts o offset l (constant_worth s.world q)) s h;
  }

  alike : (k : ℕ) → Alike b b.bound b.sides passing.ways k (below b k) (below (beside_setting b b.bound b.sides) k)
  alike k = even-closed b b.bound b.sides passing.ways (λ A s h. holds_pass u.names s h) k

  -- nothing is made yet
  first-holds : (script : List ScriptLine) → Holds u.names (initial_state script true)
  first-holds script fits = record {
    turn = 0;
    le = omega arith;
    told = refl;
    fine = record {
      sane = record {
        sound = first-sound (Unit {0}) script true;
        called = record {
          within = All-nil _;
          valid = All-nil _;
          counted = All-nil _;
          once = λ i j x y e. absurd (nobody i x e);
          heap = All-nil _;
        };
        zap = refl;
      };
      none = refl;
      named = λ a x e. absurd (none-some x (sym (get-empty nat_cmp a) ∙ e));
    };
  }
    where
      nobody : (i : ℕ) (x : Instance) → instance_at [] i ≡ Some x → ⊥
      nobody i x e = by (eqb i 0) e
        where
          none : (k : ℕ) → slice_get {X = Instance} [] k ≡ Some x → ⊥
          none zero e = none-some x e
          none (suc k) e = none-some x e

          by : (b : Bool) → cond b None (slice_get {X = Instance} [] (i - 1)) ≡ Some x → ⊥
          by true e = none-some x e
          by false e = none (i - 1) e

  run-ends : (script : List ScriptLine) → Ends u.names (run_at u None true script n)
  unfolding run_of_by
  run-ends script = run-closed b n b.sides passing n (alike n) (initial_state script true) (first-holds script)

ends_pass : {A : Type 0} (names : List (List ℕ)) (r : Res A) → Ends names r → AllPass names (end_of r)
ends_pass names (Gives a s) h = holds_pass names s h
ends_pass names (Stops y s) h = h

-- what is written of events that pass, or of the first of them, is a journal
passed_tells : (names : List (List ℕ)) (events : List Event) (k : ℕ) → IsSome (after_events names at_first events) → TellsAJournal (take k events) names
passed_tells names events k h = by (after_events names at_first events) refl h
  where
    by : (o : Option Left) → after_events names at_first events ≡ o → IsSome o → TellsAJournal (take k events) names
    by None e h = absurd (cc)
    by (Some t) e h =
        events_front names (take k events) (drop k events) at_first t (ap (after_events names at_first) (take-append-drop k events) ∙ e)
        (λ u first. tells_journal names (take k events) u first)

run_passes : (u : Stored) (script : List ScriptLine) (n : ℕ) → HasNames (whole_unit u) → HasNoEmptyTag u → Each FitsLine (run_end u script n).events → IsSome (after_events u.names at_first (events_at u script n))
run_passes u script n named filled fits = ends_pass u.names (run_at u None true script n) (run-ends u n named filled script) fits

-- what is written of the first events of a run is a journal, of all of them, too
pub run_tells_first : (u : Stored) (script : List ScriptLine) (n k : ℕ) → HasNames (whole_unit u) → HasNoEmptyTag u → Each FitsLine (run_end u script n).events → TellsAJournal (take k (events_at u script n)) u.names
run_tells_first u script n k named filled fits = passed_tells u.names (events_at u script n) k (run_passes u script n named filled fits)

pub run_tells : (u : Stored) (script : List ScriptLine) (n : ℕ) → HasNames (whole_unit u) → HasNoEmptyTag u → Each FitsLine (run_end u script n).events → TellsAJournal (events_at u script n) u.names
run_tells u script n named filled fits =
    let events = events_at u script n in
    subst (λ l. TellsAJournal l u.names) (take_all events (length events) refl) (run_tells_first u script n (length events) named filled fits)
  where
    take_all : (xs : List Event) (k : ℕ) → k ≡ length xs → take k xs ≡ xs
    take_all xs k e = ap (λ j. take j xs) e ∙ whole_list xs
      where
        whole_list : (xs : List Event) → take (length xs) xs ≡ xs
        whole_list [] = refl
        whole_list (x ∷ xs) = ap (λ l. x ∷ l) (whole_list xs)

-- events that are told to those who watch are such events
pub words_fit : (ms : List Marked) → Each FitsWords ms → Each FitsLine ms
words_fit [] h = tt
words_fit (m ∷ ms) h = (record { turn = h.0.turn; few = few m.event.what h.0.what }, words_fit ms h.1)
  where
    few : (w : What) → FitsWhat w → IsFew w
    few (what.Made inst name k base size) h = h.1
    few (what.Ended i) h = tt
    few (what.Exposed i) h = tt
    few (what.Pair pair address low high) h = tt
    few (what.Tried pair test low high) h = tt
    few (what.Fault verdict low high pair) h = tt
