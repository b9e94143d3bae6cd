-- What is written of a run, or of a refusal, by what `judge` answers.
use Rattle.std.proofs.Common.{◌≡◌, ℕ, ◌<◌, true, List, [], ◌∷◌, map, refl, sym, ap, subst, arith}
use Rattle.std.specs.Prelude.{None, Result, Ok, Err, IfOk}
use Rattle.pv_watch.specs.Slots.{Slot, Present, Told, SayAll}
use Rattle.pv_watch.specs.Kinds.{journal_kind}
use Rattle.pv_exec.specs.Answering.{end_of}
use Rattle.pv_exec.specs.Outlets.{event_of}
use Rattle.pv_exec.specs.declared.program.Ran.{Ran}
use Rattle.pv_serve.specs.declared.words.Task.TheVariants as task
use Rattle.pv_serve.specs.declared.judging.Judgement.{Judgement}
use Rattle.pv_serve.specs.declared.judging.Judgement.TheVariants as judgement
use Rattle.pv_serve.specs.Judged.{Fit}
use Rattle.pv_serve.specs.Judging.{Shown, nothing_shown, ending_of, verdict_of}
use Rattle.pv_serve.specs.Verdicts as verdict
use Rattle.pv_serve.specs.Loading.{refusal_of}
use Rattle.pv_serve.specs.ReportParts.{report_line, status_of}
use Rattle.pv_serve.specs.Settling.{SomeRunBy, IsRan, IsOutcome}
use Rattle.pv_serve.specs.Outside.{Sunk, Halls}
use Rattle.pv_journal.specs.Obeying.{IsJournal}
use Rattle.pv_serve.specs.declared.telling.Reply as code
use Rattle.pv_serve.specs.Replies.{Reply}
use Rattle.pv_serve.specs.Replying.{reply_view}
use Rattle.pv_serve.proofs.RunLemmas.{run_ends}
use Rattle.pv_serve.proofs.WatchingLemmas.{one_told}
use Rattle.pv_replay.specs.Answers.{IsWritten, Obeyed, most_events}
use Rattle.pv_replay.specs.Obeying.{IsRunJournal}
use Rattle.std.specs.declared.alloc.AllocError.{AllocError}
use Rattle.pv_replay.specs.Answering.{IsRunReply}
use Rattle.pv_replay.proofs.ObeyLemmas.{run_obeys}

run_journal : (source script : List ℕ) (bound : ℕ) (out : Sunk) (hall : Halls) (ran : Ran) (names : List (List ℕ)) (text : List ℕ) → hall.old ≡ Present journal_kind 65536 [] ∷ []
    → SomeRunBy source script bound true None (IsRan out hall ran names) → SayAll names hall.new text → IsRunJournal source script bound text
run_journal source script bound out hall ran names text first is says =
    let events = map event_of (end_of is.run).events in
    let ending = ending_of ran names (record { output = (end_of is.run).output; events = events }) in
    let heard = subst (λ (ns : List (List ℕ)). Told hall.old events ns hall.new) (sym is.holds.named) is.holds.told in
    let told = one_told journal_kind 65536 events names hall.old hall.new text (omega arith) first heard says in
    let lines = run_obeys source is.job.unit is.job.lines bound most_events is.run names is.runs is.job.comes is.fit is.holds.words is.holds.named in
    let obey = subst (λ (bytes : List ℕ). IsJournal lines.0 bytes) (sym told) lines.1 in
    record {
      ending = ending;
      judged = Fit is.job.lines is.job.unit is.job.short is.job.reads is.job.comes (
        ending,
        run_ends is.job.unit is.job.lines bound true None is.run ran names is.runs is.holds.ended is.holds.named,
        refl,
      );
      told = told;
      rows = lines.0;
      obey = obey;
      checked = λ few. Obeyed lines.0 few obey refl;
    }

-- a run's journal is the reply to it
journal_reply : (source script : List ℕ) (bound : ℕ) (text : List ℕ) → IsRunJournal source script bound text → IsRunReply source script bound (record { status = 0; text = text })
journal_reply source script bound text j = record {
  written = record {
    verdict = verdict.Ended j.ending bound;
    judged = j.judged;
    is = ap (λ (t : List ℕ). record { status = 0; text = t }) j.told;
  };
  journal = λ zero. j;
}

-- what watchers say of what they have heard
pub heard_so : (names : List (List ℕ)) (text : List ℕ) {told heard : List Slot} → told ≡ heard → SayAll names heard text → SayAll names told text
heard_so names text same says = subst (λ (s : List Slot). SayAll names s text) (sym same) says

-- the journal of the run that was made
pub ran_reply : (source script : List ℕ) (bound : ℕ) (out : Sunk) (hall : Halls) (j : Judgement) (ran : Ran) (names : List (List ℕ)) (most : ℕ) (text : List ℕ) → hall.old ≡ Present journal_kind 65536 [] ∷ []
    → j ≡ judgement.Ran ran names most → IsOutcome source script bound true None out hall j → SayAll names hall.new text → IsRunReply source script bound (record { status = 0; text = text })
ran_reply source script bound out hall j ran names most text first e is says =
    let made = subst (λ (k : Judgement). IsOutcome source script bound true None out hall k) e is in
    journal_reply source script bound text (run_journal source script bound out hall ran names text first made.1 says)

-- ---- what is told of a refusal, of the source or of the script

-- its status is not 0
refused_with : (source script : List ℕ) (bound status : ℕ) (a : Reply) → IsWritten source script bound a → a.status ≡ status → 0 < status → IsRunReply source script bound a
refused_with source script bound status a written told some = record {
  written = written;
  journal = λ zero. absurd (not_zero a.status status told zero some);
}
  where
    not_zero : (n m : ℕ) → n ≡ m → n ≡ 0 → 0 < m → ⊥
    not_zero n m same zero some = omega arith

abbrev Tells : Judgement → Reply → Type 0
Tells j a = (shown : Shown) → a ≡ record { status = status_of (verdict_of j shown); text = report_line (verdict_of j shown) }

refusal_reply : (source script : List ℕ) (bound : ℕ) (out : Sunk) (hall : Halls) (j : Judgement) (a : Reply) → ((ran : Ran) (names : List (List ℕ)) (most : ℕ) → j ≡ judgement.Ran ran names most → ⊥)
    → IsOutcome source script bound true None out hall j → Tells j a → IsRunReply source script bound a
refusal_reply source script bound out hall (judgement.Ran ran names most) a not is told = absurd (not ran names most refl)
refusal_reply source script bound out hall (judgement.Settled ran names most listed) a not is told = absurd is
refusal_reply source script bound out hall (judgement.Described text) a not is told = absurd is
refusal_reply source script bound out hall (judgement.Source why) a not is told =
    let t = told nothing_shown in
    refused_with source script bound 8 a (record { verdict = verdict.Refused (refusal_of why); judged = is.0.judged (task.Run bound true) None; is = t }) (ap (λ (b : Reply). b.status) t) (omega arith)
refusal_reply source script bound out hall (judgement.Script why) a not is told =
    let t = told nothing_shown in
    refused_with source script bound 9 a (record { verdict = verdict.Script why; judged = is.0.judged (task.Run bound true) None; is = t }) (ap (λ (b : Reply). b.status) t) (omega arith)

pub refusal_told : (source script : List ℕ) (bound : ℕ) (out : Sunk) (hall : Halls) (j : Judgement) (r : Result code.Reply AllocError)
    → ((ran : Ran) (names : List (List ℕ)) (most : ℕ) → j ≡ judgement.Ran ran names most → ⊥) → IsOutcome source script bound true None out hall j
    → ((shown : Shown) → IfOk r (λ a. reply_view a ≡ record { status = status_of (verdict_of j shown); text = report_line (verdict_of j shown) }))
    → IfOk r (λ a. IsRunReply source script bound (reply_view a))
refusal_told source script bound out hall j (Err e) not is told = tt
refusal_told source script bound out hall j (Ok a) not is told = refusal_reply source script bound out hall j (reply_view a) not is told
