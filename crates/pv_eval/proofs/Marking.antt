-- What is told is marked, and then the state is the one that an operation leaves.
use Rattle.std.proofs.Common.{◌≡◌, ℕ, List, [], ◌∷◌, ◌++◌, length, refl, sym, ap, ◌∙◌, append-nil, append_assoc, length-append}
use Rattle.std.specs.Prelude.{Err}
use Rattle.pv_watch.specs.declared.event.What.{What}
use Rattle.pv_world.specs.declared.got.Cause.{Cause}
use Rattle.pv_world.specs.declared.got.Failure.TheVariants as gone
use Rattle.pv_world.specs.Worlds.{Worth, World, Wrong}
use Rattle.pv_world.specs.Telling.{telling, fault_told, fault_of, verdict_of}
use Rattle.pv_world.specs.Doing.{Done, Answers, Fails, Breaks}
use Rattle.pv_world.specs.Coming.{Seen, Gave, Ended, Printed, printing, coming_of, Did, worth_of, wrong_for}
use Rattle.pv_eval.specs.declared.failure.Failure.TheVariants as failure
use Rattle.pv_eval.specs.declared.marked.Marked.{Marked}
use Rattle.pv_eval.specs.States.{Setting, State, Stopped, Res, Stops}
use Rattle.pv_eval.specs.Acting.{marked_events, after_telling, answer_with_sides, after_doing}
use Rattle.pv_eval.specs.Moments.{Moment, Follows, state_of, with_waiting, Came}

-- an operation's doing, by what a call of the world comes to
abbrev pub doing_seen : Setting → ℕ → List ℕ → Seen → State → Res Worth
doing_seen b line bytes (Gave x v es) s = answer_with_sides b.sides x line v (record { events = es; bytes = bytes }) s
doing_seen b line bytes (Ended y v es) s = Stops (Stopped y line) (after_telling v (record { events = es; bytes = bytes }) s)
doing_seen b line bytes (Printed bs z) s = doing_seen b line bs z s

gave_printing : (b : Setting) (line : ℕ) (bytes : List ℕ) (x : Worth) (v : World) (es : List What) (s : State)
    → answer_with_sides b.sides x line v (record { events = es; bytes = bytes }) s ≡ doing_seen b line [] (printing bytes (Gave x v es)) s
gave_printing b line [] x v es s = refl
gave_printing b line (c ∷ cs) x v es s = refl

ended_printing : (b : Setting) (line : ℕ) (bytes : List ℕ) (y : Wrong) (v : World) (es : List What) (s : State)
    → Stops (Stopped y line) (after_telling v (record { events = es; bytes = bytes }) s) ≡ doing_seen b line [] (printing bytes (Ended y v es)) s
ended_printing b line [] y v es s = refl
ended_printing b line (c ∷ cs) y v es s = refl

pub acted_seen : (b : Setting) (line : ℕ) (d : Done) (s : State) → after_doing b line d s ≡ doing_seen b line [] (coming_of [] s.world d) s
acted_seen b line (Answers x v t) s = gave_printing b line t.bytes x v t.events s
acted_seen b line (Fails y p v t) s = ended_printing b line t.bytes y v (t.events ++ fault_told s.world.memory y p) s
acted_seen b line (Breaks y p v t) s = ended_printing b line t.bytes y v (t.events ++ fault_of p (verdict_of y)) s

-- the state after what was told was marked
pub state_marked : (m : Moment) (v : World) (told : List What) (out : List ℕ) (es : List Marked) → Follows m (length out)
    → after_telling v (telling told) (state_of m out es) ≡ state_of (with_waiting m v told) out es
state_marked m v told out es h =
    let long : length (out ++ m.printed) ≡ m.total = length-append out m.printed ∙ h in
    ap (λ o. record { world = v; output = o; events = (es ++ m.waiting) ++ marked_events m.taken (length (out ++ m.printed)) told; taken = m.taken }) (append-nil (out ++ m.printed))
    ∙ ap (λ n. record { world = v; output = out ++ m.printed; events = (es ++ m.waiting) ++ marked_events m.taken n told; taken = m.taken }) long
    ∙ ap (λ e. record { world = v; output = out ++ m.printed; events = e; taken = m.taken }) (append_assoc es m.waiting (marked_events m.taken m.total told))

module _ (b : Setting) (line : ℕ) (old new : Moment) (w : World) (op : World → Done) (told : List What) (out : List ℕ) (es : List Marked) where
  -- the run ends
  pub closed_stop : (z : Cause) → Follows old (length out) → Did worth_of op (Err (gone.Stop z)) w old.world [] told → new ≡ with_waiting old old.world told
      → Came (after_doing b line (op w) (state_of (record old { world = w }) out es)) (Err (failure.Stop z line)) (state_of new out es)
  closed_stop z h did is =
      let m : Moment = record old { world = w } in
      acted_seen b line (op w) (state_of m out es)
      ∙ ap (λ x. doing_seen b line [] x (state_of m out es)) did
      ∙ ap (Stops (Stopped (wrong_for z) line)) (state_marked m old.world told out es h ∙ ap (λ n. state_of n out es) (sym is))
