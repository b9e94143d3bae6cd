-- What is shown of a run, or told of a refusal, by what `judge` answers.
use Rattle.std.proofs.Common.{◌≡◌, ℕ, ◌+◌, ◌<◌, ◌≤◌, ◌^◌, true, List, [], ◌∷◌, ◌++◌, length, map, take, codes, refl, sym, ap, ◌∙◌, subst, arith}
use Rattle.std.specs.Prelude.{None, Result, Ok, Err, IfOk, OnOk}
use Rattle.std.specs.Fmt.{decimal}
use Rattle.std.proofs.lemmas.List.{length-append, length-take, take_all}
use Rattle.pv_watch.specs.declared.event.Event.{Event}
use Rattle.pv_watch.specs.Lines.{event_lines, what_text}
use Rattle.pv_watch.specs.LineParts.{event_line}
use Rattle.pv_watch.specs.Texts.{journal_text}
use Rattle.pv_watch.specs.TextParts.{last_line}
use Rattle.pv_watch.specs.Slots.{Slot, Present, Told, SayAll}
use Rattle.pv_watch.specs.Kinds.{journal_kind}
use Rattle.pv_script.specs.Lines.{ScriptLine}
use Rattle.pv_typed.specs.Known.{Each}
use Rattle.pv_typed.specs.Tables.{whole_unit}
use Rattle.pv_typed.specs.TypedUnits.{WholeUnit}
use Rattle.pv_world.specs.Worlds.{Worth}
use Rattle.pv_eval.specs.States.{Res, end_of}
use Rattle.pv_exec.specs.Outlets.{event_of}
use Rattle.pv_exec.specs.Words.{FitsWords}
use Rattle.pv_exec.specs.declared.program.Ran.{Ran}
use Rattle.pv_serve.specs.Readings.{Program}
use Rattle.pv_serve.specs.Fitting.{IsFit}
use Rattle.pv_serve.specs.Loading.{refusal_of}
use Rattle.pv_serve.specs.Comes.{Comes}
use Rattle.pv_serve.specs.Judged.{IsRunBy}
use Rattle.pv_serve.proofs.ComesLemmas.{program_typed}
use Rattle.pv_journal_laws.specs.Runs.{run_end, events_at, TellsAJournal}
use Rattle.pv_journal_laws.proofs.Namings.{units_named}
use Rattle.pv_journal_laws.proofs.Running.{run_tells_first, words_fit}
use Rattle.pv_serve.specs.declared.words.Task.TheVariants as task
use Rattle.pv_serve.specs.declared.judging.Judgement.{Judgement}
use Rattle.pv_serve.specs.declared.judging.Judgement.TheVariants as judgement
use Rattle.pv_serve.specs.Judging.{Shown, nothing_shown, ending_of, verdict_of}
use Rattle.pv_serve.specs.Verdicts as verdict
use Rattle.pv_serve.specs.ReportParts.{report_line, status_of}
use Rattle.pv_serve.specs.Settling.{IsOutcome}
use Rattle.pv_serve.specs.Outside.{Sunk, Halls}
use Rattle.pv_serve.specs.declared.telling.Reply as code
use Rattle.pv_serve.specs.Replies.{Reply}
use Rattle.pv_serve.specs.Replying.{IsOwn, reply_view}
use Rattle.pv_serve.proofs.OutcomeLemmas.{judged_of}
use Rattle.pv_serve.proofs.RepliesLemmas.{small, large}
use Rattle.pv_serve.proofs.WatchingLemmas.{one_told}
use Rattle.pv_journal.specs.Journals.{Row}
use Rattle.pv_journal.specs.Obeying.{IsJournal}
use Rattle.pv_shown.specs.declared.reading.Command.{Command}
use Rattle.pv_shown.specs.declared.reading.CommandError.{CommandError}
use Rattle.pv_shown.specs.declared.reading.CommandError.TheVariants as error
use Rattle.pv_shown.specs.Commands.{last_position}
use Rattle.pv_shown.specs.Shown.{report_of}
use Rattle.pv_shown.specs.Views.{OrNoMemory}
use Rattle.std.specs.declared.alloc.AllocError.{AllocError}
use Rattle.pv_step.specs.Answers.{IsLookedAt, IsBy, refused_by, run_of}

-- ---- a journal has no more events than bytes

line_some : (text : List ℕ) → 1 ≤ length (text ++ 10 ∷ [])
line_some text = omega (arith, length-append text (10 ∷ []))

lines_some : (seen : List Event) (names : List (List ℕ)) (es : List Event) → length es ≤ length (event_lines seen names es)
lines_some seen names [] = omega arith
lines_some seen names (e ∷ es) =
    omega (arith, lines_some seen names es, line_some (what_text seen names e.turn e.what), length-append (event_line seen names e) (event_lines seen names es))

journal_some : (es : List Event) (names : List (List ℕ)) → length es + 1 ≤ length (journal_text es names)
journal_some es names = omega (arith, lines_some es names es, last_some (length es), length-append (event_lines es names es) (last_line (length es)))
  where
    last_some : (n : ℕ) → 1 ≤ length (last_line n)
    last_some n = line_some (codes "events " ++ decimal n)

-- where it fits the machine, all events are told
pub all_told : (events : List Event) (names : List (List ℕ)) (text : List ℕ) → text ≡ journal_text (take 18446744073709551615 events) names → length text < 2 ^ 64 → text ≡ journal_text events names
all_told events names text is few =
    let some = journal_some (take 18446744073709551615 events) names in
    let part = length-take 18446744073709551615 events in
    let same = ap length is in
    is ∙ ap (λ (es : List Event). journal_text es names) (take_all 18446744073709551615 events (omega (arith, some, part, same, few)))

-- ---- a run

-- what a run tells of its memory is the journal of lines that obey (the memory model)
run_obeys : (source : List ℕ) (unit : WholeUnit) (lines : List ScriptLine) (run : Res Worth) (names : List (List ℕ)) (runs : IsRunBy unit lines 1000000 true None run) → Comes source (Program unit)
    → IsFit runs.tables → Each FitsWords (end_of run).events → names ≡ unit.names → TellsAJournal (take 18446744073709551615 (map event_of (end_of run).events)) names
run_obeys source unit lines run names runs comes fit words named =
    let u = runs.tables in
    let typed = program_typed source (whole_unit u) (subst (λ (w : WholeUnit). Comes source (Program w)) (sym runs.stands) comes) in
    let told : TellsAJournal (take 18446744073709551615 (events_at u lines 1000000)) u.names =
    run_tells_first u lines 1000000 18446744073709551615 (units_named source typed.0 typed.1 u typed.2 typed.3 fit.known) fit.filled
    (words_fit (run_end u lines 1000000).events (subst (λ (r : Res Worth). Each FitsWords (end_of r).events) runs.is words)) in
    subst (λ (ns : List (List ℕ)). TellsAJournal (take 18446744073709551615 (map event_of (end_of run).events)) ns) (ap (λ (w : WholeUnit). w.names) runs.stands ∙ sym named)
    (subst (λ (r : Res Worth). TellsAJournal (take 18446744073709551615 (map event_of (end_of r).events)) u.names) (sym runs.is) told)

pub ran_journal : (source script : List ℕ) (out : Sunk) (hall : Halls) (j : Judgement) (ran : Ran) (names : List (List ℕ)) (most : ℕ) (text journal : List ℕ)
    → journal ≡ text → hall.old ≡ Present journal_kind 18446744073709551615 [] ∷ [] → j ≡ judgement.Ran ran names most → IsOutcome source script 1000000 true None out hall j → SayAll names hall.new text
    → (rows : List Row) × IsJournal rows journal
ran_journal source script out hall j ran names most text journal whole first same is says =
    let r = (subst (λ (k : Judgement). IsOutcome source script 1000000 true None out hall k) same is).1 in
    let events = map event_of (end_of r.run).events in
    let heard = subst (λ (ns : List (List ℕ)). Told hall.old events ns hall.new) (sym r.holds.named) r.holds.told in
    let told = one_told journal_kind 18446744073709551615 events names hall.old hall.new text (omega arith) first heard says in
    let lines = run_obeys source r.job.unit r.job.lines r.run names r.runs r.job.comes r.fit r.holds.words r.holds.named in
    (lines.0, subst (λ (bytes : List ℕ). IsJournal lines.0 bytes) (sym (whole ∙ told)) lines.1)

run_shown : (source script : List ℕ) (cs : List Command) (out : Sunk) (hall : Halls) (ran : Ran) (names : List (List ℕ)) (most : ℕ) (journal line : List ℕ) (a : Reply)
    → hall.old ≡ Present journal_kind 18446744073709551615 [] ∷ [] → IsOutcome source script 1000000 true None out hall (judgement.Ran ran names most) → SayAll names hall.new journal → length journal < 2 ^ 64
    → ((shown : Shown) → line ≡ report_line (verdict_of (judgement.Ran ran names most) shown))
    → (rows : List Row) × IsJournal rows journal × (a ≡ record { status = 0; text = report_of (run_of ran.turns ran.outcome line rows) cs }) → IsLookedAt source script cs a
run_shown source script cs out hall ran names most journal line a first is says few told shown =
    let j = judged_of source script 1000000 true out hall (judgement.Ran ran names most) is in
    let events = j.shown.events in
    let whole : journal ≡ journal_text events names =
    all_told events names journal (one_told journal_kind 18446744073709551615 events names hall.old hall.new journal (omega arith) first j.told says) few in
    record {
      verdict = verdict.Ended (ending_of ran names j.shown) most;
      judged = j.judged;
      shown = (
        shown.0,
        subst (IsJournal shown.0) whole shown.1,
        shown.2 ∙ ap (λ (l : List ℕ). record { status = 0; text = report_of (run_of ran.turns ran.outcome l shown.0) cs }) (told j.shown),
      );
    }

-- what watchers say of what they have heard
pub heard_so : (names : List (List ℕ)) (text : List ℕ) {told heard : List Slot} → told ≡ heard → SayAll names heard text → SayAll names told text
heard_so names text same says = subst (λ (s : List Slot). SayAll names s text) (sym same) says

-- what is shown of the run that was made
pub ran_shown : (source script : List ℕ) (cs : List Command) (out : Sunk) (hall : Halls) (j : Judgement) (ran : Ran) (names : List (List ℕ)) (most : ℕ) (text told journal line : List ℕ) (r : Result code.Reply AllocError)
    → journal ≡ text → line ≡ told → hall.old ≡ Present journal_kind 18446744073709551615 [] ∷ [] → j ≡ judgement.Ran ran names most → IsOutcome source script 1000000 true None out hall j
    → SayAll names hall.new text → length journal < 2 ^ 64 → ((shown : Shown) → told ≡ report_line (verdict_of j shown))
    → IfOk r (λ a. (rows : List Row) × IsJournal rows journal × (reply_view a ≡ record { status = 0; text = report_of (run_of ran.turns ran.outcome line rows) cs }))
    → IfOk r (λ a. IsLookedAt source script cs (reply_view a))
ran_shown source script cs out hall j ran names most text told journal line (Err e) whole all first same is says few tells shown = tt
ran_shown source script cs out hall j ran names most text told journal line (Ok a) whole all first same is says few tells shown =
    run_shown source script cs out hall ran names most journal line (reply_view a) first (subst (λ (k : Judgement). IsOutcome source script 1000000 true None out hall k) same is)
    (subst (SayAll names hall.new) (sym whole) says) few (λ left. all ∙ tells left ∙ ap (λ (k : Judgement). report_line (verdict_of k left)) same) shown

-- ---- a refusal, of the source or of the script

pub refusal_shown : (source script : List ℕ) (cs : List Command) (out : Sunk) (hall : Halls) (j : Judgement) (status : ℕ) (text : List ℕ)
    → ((ran : Ran) (names : List (List ℕ)) (most : ℕ) → j ≡ judgement.Ran ran names most → ⊥) → IsOutcome source script 1000000 true None out hall j
    → ((shown : Shown) → status ≡ status_of (verdict_of j shown)) → ((shown : Shown) → text ≡ report_line (verdict_of j shown)) → IsLookedAt source script cs (record { status = status; text = text })
refusal_shown source script cs out hall (judgement.Ran ran names most) status text not is s t = absurd (not ran names most refl)
refusal_shown source script cs out hall (judgement.Settled ran names most listed) status text not is s t = absurd is
refusal_shown source script cs out hall (judgement.Described described) status text not is s t = absurd is
refusal_shown source script cs out hall (judgement.Source why) status text not is s t = record {
  verdict = verdict.Refused (refusal_of why);
  judged = is.0.judged (task.Run last_position true) None;
  shown = λ i. record { status = s nothing_shown i; text = t nothing_shown i };
}
refusal_shown source script cs out hall (judgement.Script why) status text not is s t = record {
  verdict = verdict.Script why;
  judged = is.0.judged (task.Run last_position true) None;
  shown = λ i. record { status = s nothing_shown i; text = t nothing_shown i };
}

-- ---- statuses

pub own_shown : {E : Type 0} (r : Result code.Reply E) → IfOk r (λ a. a.status ≡ 0) → IfOk r (λ a. IsOwn a.status)
own_shown (Err e) h = tt
own_shown (Ok a) h = small a.status (omega (arith, h))

-- ---- by the commands

pub by_commands : (source script : List ℕ) (cs : List Command) (w : Result (List Command) CommandError) (r : Result code.Reply AllocError) → Ok cs ≡ w → IfOk r (λ a. IsLookedAt source script cs (reply_view a))
    → IfOk r (λ a. IsBy source script w (reply_view a))
by_commands source script cs w r e h = subst (λ (v : Result (List Command) CommandError). IfOk r (λ a. IsBy source script v (reply_view a))) e h

refused_so : (source script : List ℕ) (e : CommandError) (w : Result (List Command) CommandError) (r : Result code.Reply AllocError) → Err e ≡ w → IfOk r (λ a. reply_view a ≡ refused_by e)
    → IfOk r (λ a. IsBy source script w (reply_view a))
refused_so source script e w r same told = subst (λ (v : Result (List Command) CommandError). IfOk r (λ a. IsBy source script v (reply_view a))) same told

none_told : (source script : List ℕ) (w : Result (List Command) CommandError) (r : Result code.Reply AllocError) → OnOk r ⊥ → IfOk r (λ a. IsBy source script w (reply_view a))
none_told source script w (Err e) h = tt
none_told source script w (Ok a) h = absurd h

pub by_refusal : {A : Type 0} (source script : List ℕ) (e : CommandError) (w : Result (List Command) CommandError) (r : Result code.Reply AllocError) (f : A → List Command) → OrNoMemory f (Err e) w
    → IfOk r (λ a. reply_view a ≡ refused_by e) → (e ≡ error.NoMemory → OnOk r ⊥) → IfOk r (λ a. IsBy source script w (reply_view a))
by_refusal source script error.Size w r f same told memory = refused_so source script error.Size w r same told
by_refusal source script (error.BadLine n) w r f same told memory = refused_so source script (error.BadLine n) w r same told
by_refusal source script error.NoMemory w r f same told memory = none_told source script w r (memory refl)

pub own_refusal : {E : Type 0} (r : Result code.Reply E) → IfOk r (λ a. a.status ≡ 19) → IfOk r (λ a. IsOwn a.status)
own_refusal (Err e) h = tt
own_refusal (Ok a) h = large a.status (omega (arith, h))
