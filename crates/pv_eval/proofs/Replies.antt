-- A call of the library: what it tells, what it comes to, and what it prints.
use Rattle.std.proofs.Common.{◌≡◌, ℕ, zero, suc, ◌+◌, ◌<◌, ◌≤◌, Bool, true, false, List, [], ◌∷◌, ◌++◌, length, drop, get_or, map, None, refl, sym, ap, ◌∙◌, subst, arith, append-nil, append_assoc}
use Rattle.std.specs.Prelude.{min, Result, Ok, Err, OnOk, OnErr, if◌then◌else◌}
use Rattle.std.proofs.lemmas.List.{drop_more}
use Rattle.pv_library.specs.declared.library.Library.{Library}
use Rattle.pv_tree.specs.declared.nodes.NodeId.{NodeId}
use Rattle.pv_typed.specs.TypedTree.{Arguments, NoArguments, MoreArguments}
use Rattle.pv_typed.specs.Nodes.{Tree, arguments_in}
use Rattle.pv_inst.specs.Table.{Table}
use Rattle.pv_object.specs.declared.values.Value.{Value}
use Rattle.pv_object.specs.declared.values.Stop.{Stop}
use Rattle.pv_object.specs.declared.values.Stop.TheVariants as stop
use Rattle.pv_fault.specs.declared.verdict.Verdict.TheVariants as verdict
use Rattle.pv_object.specs.Memory.{Mem}
use Rattle.pv_libc.specs.declared.values.Arg.{Arg}
use Rattle.pv_libc.specs.declared.values.Note.{Note}
use Rattle.pv_libc.specs.declared.values.Note.TheVariants as note
use Rattle.pv_libc.specs.declared.values.Reply.{Reply}
use Rattle.pv_libc.specs.declared.values.Reply.TheVariants as reply
use Rattle.pv_libc.specs.Steps.{Now, with_notes, Did as Step}
use Rattle.pv_libc.specs.Answers.{OrNoMemory, behind}
use Rattle.pv_libc.specs.Calls.{reply_to_call, output}
use Rattle.pv_libc.specs.Makings.{AreLive}
use Rattle.pv_watch.specs.declared.event.What.{What}
use Rattle.pv_world.specs.declared.got.Got.{Got}
use Rattle.pv_world.specs.declared.got.Failure.{Failure}
use Rattle.pv_world.specs.declared.got.Failure.TheVariants as failure
use Rattle.pv_world.specs.Worlds.{World, Nothing, Scalar, Halts, Exits, Aborts, Refused}
use Rattle.pv_world.specs.Worths.{wrong_of, missing_value}
use Rattle.pv_world.specs.Telling.{no_telling, fault_of, verdict_of}
use Rattle.pv_world.specs.Doing.{Done, Fails}
use Rattle.pv_world.specs.Coming.{Came, Did, Faulted, Gave, Ended, coming_of, worth_of}
use Rattle.pv_eval.specs.States.{Setting}
use Rattle.pv_eval.specs.Frames.{asked_with}
use Rattle.pv_eval.specs.Library.{noted_as, blame_in, with_memory, done_by_call, asks}
use Rattle.pv_eval.specs.LibraryParts.{all_noted, knows_arguments}
use Rattle.pv_eval.specs.Moments.{come_to}
use Rattle.pv_eval.specs.Operations.{Asks, does}
use Rattle.pv_eval.specs.Texts.{text_in, silent, UnlessNoMemory, Wrote}
use Rattle.pv_world.proofs.Guards.{failed}

-- what happened, one note after the other
pub next_noted : (T : Table) (told more : List What) (notes : List Note) (i : ℕ) (d : Note) → i < length notes → more ≡ told ++ noted_as T (get_or notes i d)
    → more ++ all_noted T (drop (i + 1) notes) ≡ told ++ all_noted T (drop i notes)
next_noted T told more notes i d lt e =
    ap (λ xs. xs ++ all_noted T (drop (i + 1) notes)) e
    ∙ append_assoc told (noted_as T (get_or notes i d)) (all_noted T (drop (i + 1) notes))
    ∙ ap (λ ns. told ++ all_noted T ns) (sym (drop_more notes i d lt))

-- where no value or no argument is left, there are no more
none_given : (xs : Arguments) → asked_with xs [] ≡ []
none_given NoArguments = refl
none_given (MoreArguments x xs) = refl

rest_given : (ts : List Tree) (ids : List NodeId) (gots : List Got) (i : ℕ) → min (length ids) (length gots) ≤ i → asked_with (arguments_in ts (drop i ids)) (map worth_of (drop i gots)) ≡ []
rest_given ts [] gots zero h = refl
rest_given ts [] gots (suc i) h = refl
rest_given ts (n ∷ ids) [] zero h = refl
rest_given ts (n ∷ ids) [] (suc i) h = none_given (arguments_in ts (drop i ids))
rest_given ts (n ∷ ids) (g ∷ gots) zero h = absurd (omega (arith, h))
rest_given ts (n ∷ ids) (g ∷ gots) (suc i) h = rest_given ts ids gots i (omega (arith, h))

pub all_given : (ts : List Tree) (ids : List NodeId) (gots : List Got) (i : ℕ) (args all : List Arg) → min (length ids) (length gots) ≤ i
    → args ++ asked_with (arguments_in ts (drop i ids)) (map worth_of (drop i gots)) ≡ all → args ≡ all
all_given ts ids gots i args all h e = sym (append-nil args) ∙ ap (λ xs. args ++ xs) (sym (rest_given ts ids gots i h)) ∙ e

-- of an answer that isn't want of memory all is said
abbrev IsSpent : Result Reply Stop → Type 0
IsSpent r = r ≡ Err stop.NoMemory

or_known : (r : Result Reply Stop) (S : Now) (d : Step Reply) → (IsSpent r → ⊥) → OrNoMemory r S d → (r ≡ d.answer) × (S ≡ d.after)
or_known (Ok x) S d n h = h
or_known (Err (stop.Ends (verdict.Undefined f))) S d n h = h
or_known (Err (stop.Ends verdict.Indeterminate)) S d n h = h
or_known (Err (stop.Ends verdict.Undecided)) S d n h = h
or_known (Err stop.NoMemory) S d n h = absurd (n refl)

pub none_live : (M : Mem) → AreLive M []
none_live M k d lt = absurd (omega (arith, lt))

-- of all answers it is
unless : {A : Type 0} (r : Result A Failure) (P : Type 0) → P → UnlessNoMemory r P
unless (Ok x) P h = h
unless (Err (failure.Stop z)) P h = h
unless (Err failure.NoMemory) P h = tt

-- what it comes to in the world that it leaves, after what happened within it
told_as : (w : World) (M : Mem) (notes : List Note) (told : List What) (text : List ℕ) (r : Result Reply Stop)
    → coming_of told w (silent (done_by_call w text r (with_notes M notes))) ≡ coming_of (told ++ all_noted M.table notes) (with_memory w M) (come_to (blame_in notes) r (with_memory w M))
told_as w M notes told text (Ok reply.Nothing) = ap (Gave Nothing (with_memory w M)) (sym (append-nil (told ++ all_noted M.table notes)))
told_as w M notes told text (Ok (reply.Value v)) = ap (Gave (Scalar v) (with_memory w M)) (sym (append-nil (told ++ all_noted M.table notes)))
told_as w M notes told text (Ok (reply.Exit n)) = ap (λ es. Ended (Halts (Exits n)) (with_memory w M) (es ++ [])) (sym (append-nil (told ++ all_noted M.table notes)))
told_as w M notes told text (Ok reply.Abort) = ap (λ es. Ended (Halts Aborts) (with_memory w M) (es ++ [])) (sym (append-nil (told ++ all_noted M.table notes)))
told_as w M notes told text (Ok (reply.Placement e)) = ap (λ es. Ended (Halts (Refused 1 e)) (with_memory w M) (es ++ [])) (sym (append-nil (told ++ all_noted M.table notes)))
told_as w M notes told text (Err y) =
    ap (λ es. Ended (wrong_of y) (with_memory w M) (es ++ fault_of (blame_in notes) (verdict_of (wrong_of y)))) (sym (append-nil (told ++ all_noted M.table notes)))

wrote_as : (w : World) (M : Mem) (notes : List Note) (text before after : List ℕ) (r : Result Reply Stop) → OnOk r (after ≡ before ++ text) → OnErr r (after ≡ before) → after ≡ before ++ text_in (done_by_call w text r (with_notes M notes))
wrote_as w M notes text before after (Ok reply.Nothing) ok err = ok
wrote_as w M notes text before after (Ok (reply.Value v)) ok err = ok
wrote_as w M notes text before after (Ok (reply.Exit n)) ok err = ok
wrote_as w M notes text before after (Ok reply.Abort) ok err = ok
wrote_as w M notes text before after (Ok (reply.Placement e)) ok err = ok
wrote_as w M notes text before after (Err y) ok err = err ∙ sym (append-nil before)

module _ (f : Library) (args : List Arg) (w v : World) (notes : List Note) (r : Result Reply Stop) (n : r ≡ Err stop.NoMemory → ⊥) (answer : OrNoMemory r (with_notes v.memory notes) (behind [] (reply_to_call f args w.memory))) where
  -- what the call is
  asks_is : asks f args w ≡ done_by_call w (output f args w.memory) r (with_notes v.memory notes)
  asks_is =
      let know = or_known r (with_notes v.memory notes) (behind [] (reply_to_call f args w.memory)) n answer in
      ap (λ a. done_by_call w (output f args w.memory) a (reply_to_call f args w.memory).after) (sym know.0) ∙ ap (λ S. done_by_call w (output f args w.memory) r S) (sym know.1)

  asks_did : (res : Result Got Failure) (told more es : List What) → v ≡ record w { memory = v.memory } → more ≡ told ++ all_noted v.memory.table notes
      → Did worth_of (come_to (blame_in notes) r) res v v more es → Did worth_of (λ w. silent (asks f args w)) res w v told es
  asks_did res told more es same is did =
      let text : List ℕ = output f args w.memory in
      let did1 = subst (λ xs. Came worth_of res v es (coming_of xs v (come_to (blame_in notes) r v))) is did in
      let did2 = subst (λ (x : World). Came worth_of res v es (coming_of (told ++ all_noted v.memory.table notes) x (come_to (blame_in notes) r x))) same did1 in
      let did3 = subst (λ s. Came worth_of res v es s) (sym (told_as w v.memory notes told text r)) did2 in
      subst (λ d. Came worth_of res v es (coming_of told w (silent d))) (sym asks_is) did3

  asks_text : (had text : List ℕ) → OnOk r (text ≡ had ++ output f args w.memory) → OnErr r (text ≡ had) → text ≡ had ++ text_in (asks f args w)
  asks_text had text ok err = subst (λ d. text ≡ had ++ text_in d) (sym asks_is) (wrote_as w v.memory notes (output f args w.memory) had text r ok err)

  pub asks_wrote : (res : Result Got Failure) (told more es : List What) (had text : List ℕ) → v ≡ record w { memory = v.memory } → more ≡ told ++ all_noted v.memory.table notes
      → Did worth_of (come_to (blame_in notes) r) res v v more es → OnOk r (text ≡ had ++ output f args w.memory) → OnErr r (text ≡ had) → Wrote (asks f args) res w v told es had text
  asks_wrote res told more es had text same is did ok err = record {
    did = asks_did res told more es same is did;
    wrote = unless res (text ≡ had ++ text_in (asks f args w)) (asks_text had text ok err);
  }

-- arguments whose names were made, and others
module _ (b : Setting) (f : Library) (args : List Arg) (w : World) where
  abbrev chosen : Bool → Done
  chosen t = if t then asks f args w else Fails missing_value None w no_telling

  pub known_wrote : (res : Result Got Failure) (v : World) (es fs : List What) (had text : List ℕ) → knows_arguments w.memory.table args ≡ true
      → Wrote (asks f args) res w v es fs had text → Wrote (does b (Asks f args)) res w v es fs had text
  known_wrote res v es fs had text e h = record {
    did = subst (λ t. Came worth_of res v fs (coming_of es w (silent (chosen t)))) (sym e) h.did;
    wrote = subst (λ t. UnlessNoMemory res (text ≡ had ++ text_in (chosen t))) (sym e) h.wrote;
  }

  pub unknown_wrote : (x : Failure) (es fs : List What) (had : List ℕ) → knows_arguments w.memory.table args ≡ false
      → Faulted x missing_value fs (es ++ fault_of None (verdict_of missing_value)) → Wrote (does b (Asks f args)) (Err x) w w es fs had had
  unknown_wrote x es fs had e h = record {
    did = subst (λ t. Came worth_of (Err x) w fs (coming_of es w (silent (chosen t)))) (sym e) (failed worth_of x missing_value w es fs h);
    wrote = subst (λ t. UnlessNoMemory {A = Got} (Err x) (had ≡ had ++ text_in (chosen t))) (sym e) (unless {A = Got} (Err x) (had ≡ had ++ []) (sym (append-nil had)));
  }
