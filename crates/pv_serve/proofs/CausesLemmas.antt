-- The rows of the table, from what the parts of the call come to.
use Rattle.std.proofs.Common.{◌≡◌, ◌≢◌, ◌⊎◌, ℕ, ◌+◌, ◌<◌, ◌≤◌, Bool, List, [], ◌++◌, take, refl, sym, ap, ◌∙◌, subst, inl, inr, arith}
use Rattle.std.specs.Prelude.{Option, Some, None, IfSome, IsSomeAnd, Result, Ok, Err, IfOk, Vec}
use Rattle.std.specs.declared.alloc.Global.{Global}
use Rattle.std.specs.List.{filter}
use Rattle.pv_watch.specs.Slots.{Slot, is_kept}
use Rattle.pv_gen.specs.Source.{source_text}
use Rattle.pv_eval.specs.States.{State}
use Rattle.pv_exec.specs.declared.program.RunError.TheVariants as error
use Rattle.pv_exec.specs.declared.program.Ran.{Ran}
use Rattle.pv_serve.specs.declared.words.Task.{Task}
use Rattle.pv_serve.specs.declared.judging.Judgement.{Judgement}
use Rattle.pv_serve.specs.declared.judging.Judgement.TheVariants as judgement
use Rattle.std.specs.declared.alloc.AllocError.{AllocError}
use Rattle.pv_serve.specs.Verdicts.{Verdict, Course}
use Rattle.pv_serve.specs.VerdictParts.{BeganOutput}
use Rattle.pv_serve.specs.Jobs.{Job, FileJob, Files, Generated, task_of, sides_of, watched_of, kinds_of}
use Rattle.pv_serve.specs.Words.{job, generator_count, file_job}
use Rattle.pv_serve.specs.WordParts.{either}
use Rattle.pv_serve.specs.Comes.{source_limit}
use Rattle.pv_serve.specs.Judged.{Judged, SomeRun, script_limit}
use Rattle.pv_serve.specs.Outside.{AnyRose, Sunk, SinkRose, Wrote, WrotePrefix, Halls}
use Rattle.pv_serve.specs.Replying.{IsHanded}
use Rattle.pv_serve.specs.Judging.{Shown, verdict_of, IsJudged, IsCutOff}
use Rattle.pv_serve.specs.Report.{Answer, answer_of}
use Rattle.pv_serve.specs.Watching.{AreTold, IsReport, kept_by}
use Rattle.pv_serve.specs.Answer.{read_fault, HasReport, OfSource, script_needed, SomeVerdict, SomeAnswer, SomeEnd, script_held, files_of}
use Rattle.pv_serve.specs.ReportParts.{course_of, fault_line, no_job, report_line, status_of, words_line}
use Rattle.pv_serve.specs.Causes.{Call, IsAnswer, WroteReport, WroteOutput, facts_of, Served, slots_of_job}
use Rattle.pv_serve.specs.Serving.{kept_halls, IsSource, IsReportOn, HasStory, SomeReport, Reported, IsTold, Answered, FilesServed, WereRead, WereLost, HadNoRoom}
use Rattle.pv_serve.proofs.LateLemmas.{right_of}
use Rattle.pv_serve.proofs.Limits.{more_decides, more_runs}
use Rattle.pv_serve.proofs.RunLemmas.{nothing, printed_part}
use Rattle.pv_serve.proofs.OwedLemmas.{Table, is_some, owed_by, owed_by_nothing, owed_by_fault, owed_by_words, none_failed}

-- ---- the answer to a source, from its judgement and the report on that

has_report : (j : Judgement) (shown : Shown) (hall : Halls) (P : List ℕ → Type 0) → AreTold (answer_of (verdict_of j shown)).course hall.old hall.new → SomeReport j hall.new P
    → HasReport hall.old hall.new (answer_of (verdict_of j shown)) P
has_report j shown hall P told r = record { told = told; text = r.text; is = r.is shown; holds = r.holds }

printed_verdict : (source script : List ℕ) (t : Task) (sides : Option (List Bool)) (j : Judgement) (out report : Sunk) (hall : Halls) (status : ℕ)
    → IsJudged source script t sides out hall j → Reported j hall.new report status
    → status ≢ 12 → status ≢ 13 → SomeVerdict source script t sides (IsTold out report hall status)
printed_verdict source script t sides j out report hall status is told not12 not13 = record {
  verdict = verdict_of j is.shown;
  judged = is.judged;
  right = is.right;
  answered = record { status_is = told.status_is is.shown not12 not13; output = is.gains; whole = has_report j is.shown hall (Wrote report) is.told (told.whole not12 not13) };
}

pub answered_by : (source script : List ℕ) (t : Task) (sides : Option (List Bool)) (j : Judgement) (out report : Sunk) (hall : Halls) (status : ℕ)
    → IsJudged source script t sides out hall j → Reported j hall.new report status → Answered source script t sides out report hall status
answered_by source script t sides j out report hall status is told = record {
  no_read_fault = told.no_read_fault;
  no_words = told.no_words;
  write_fault = λ h. inr (told.write_fault h);
  wrote = λ h. inl (record {
    verdict = verdict_of j is.shown;
    judged = is.judged;
    right = is.right;
    answered = record { whole = is.gains; begun = has_report j is.shown hall (WrotePrefix report) is.told (told.begun h) };
  });
  printed = λ h. printed_part source script t sides (verdict_of j is.shown) out is.judged is.gains;
  no_memory = told.no_memory;
  told = printed_verdict source script t sides j out report hall status is told;
}

-- ---- the report on a judgement

-- of a source that is described or refused it is the line
pub quiet_report : (j k : Judgement) (slots : List Slot) (text : List ℕ) → j ≡ k → ((shown : Shown) → course_of (verdict_of k shown) ≡ None)
    → ((shown : Shown) → text ≡ report_line (verdict_of j shown)) → IsReportOn j slots text
quiet_report j k slots text e none line = λ shown.
    subst (λ (c : Option Course). IsReport c slots (report_line (verdict_of j shown)) text)
    (sym (ap (λ (i : Judgement). course_of (verdict_of i shown)) e ∙ none shown)) (line shown)

-- of a run it has the texts of those who watched behind the line
pub run_report : (j : Judgement) (ran : Ran) (names : List (List ℕ)) (bound : ℕ) (slots : List Slot) (line : List ℕ) (r : Result (Vec ℕ Global) AllocError)
    → j ≡ judgement.Ran ran names bound → ((shown : Shown) → line ≡ report_line (verdict_of j shown))
    → IfOk r (λ v. HasStory names slots line v.items) → IfOk r (λ v. IsReportOn j slots v.items)
run_report j ran names bound slots line (Err x) e is told = tt
run_report j ran names bound slots line (Ok v) e is told = λ shown.
    subst (λ (i : Judgement). IsReport (course_of (verdict_of i shown)) slots (report_line (verdict_of j shown)) v.items) (sym e)
    (told.0, told.1, told.2 ∙ ap (λ (bytes : List ℕ). bytes ++ told.0) (is shown))

pub reported_nothing : (j : Judgement) (new : List Slot) (report : Sunk) → report.new ≡ report.old → Reported j new report 13
reported_nothing j new report same = record {
  no_read_fault = λ h. absurd cc;
  no_words = λ h. absurd cc;
  write_fault = λ h. absurd cc;
  begun = λ h. absurd cc;
  no_memory = λ h. nothing report same;
  status_is = λ shown not12 not13. absurd (not13 refl);
  whole = λ not12 not13. absurd (not13 refl);
}

-- a status of a judgement is none of those of a call that has none
own_status : (status n : ℕ) → 10 ≤ n → n < 14 → (status < 10) ⊎ (status ≡ 14) → status ≢ n
own_status status n above below (inl few) e = omega arith
own_status status n above below (inr last) e = omega arith

pub reported_by : (j : Judgement) (new : List Slot) (report : Sunk) (text : List ℕ) (status result : ℕ) → IsReportOn j new text
    → ((shown : Shown) → status ≡ status_of (verdict_of j shown)) → (status < 10) ⊎ (status ≡ 14) → IsHanded report result (record { status = status; text = text }) → Reported j new report result
reported_by j new report text status result line is own handed = record {
  no_read_fault = λ h. own_status status 11 (omega arith) (omega arith) own (sym (handed.told (λ k. absurd cc)).0 ∙ h);
  no_words = λ h. own_status status 10 (omega arith) (omega arith) own (sym (handed.told (λ k. absurd cc)).0 ∙ h);
  write_fault = λ h. (handed.fault h).0;
  begun = λ h. record { text = text; is = line; holds = (handed.fault h).1 };
  no_memory = λ h. absurd (own_status status 13 (omega arith) (omega arith) own (sym (handed.told (λ k. absurd cc)).0 ∙ h));
  status_is = λ shown not12 not13. (handed.told not12).0 ∙ is shown;
  whole = λ not12 not13. record { text = text; is = line; holds = (handed.told not12).1 };
}

pub answered_no_memory : (source script : List ℕ) (t : Task) (sides : Option (List Bool)) (out report : Sunk) (hall : Halls) → IsCutOff source script t sides out hall error.NoMemory
    → report.new ≡ report.old → Answered source script t sides out report hall 13
answered_no_memory source script t sides out report hall cut same = record {
  no_read_fault = λ h. absurd cc;
  no_words = λ h. absurd cc;
  write_fault = λ h. absurd cc;
  wrote = λ h. absurd cc;
  printed = λ h. cut;
  no_memory = λ h. nothing report same;
  told = λ not12 not13. absurd (not13 refl);
}

pub answered_write_fault : (source script : List ℕ) (t : Task) (sides : Option (List Bool)) (out report : Sunk) (hall : Halls) → IsCutOff source script t sides out hall error.WriteFault
    → SinkRose out → report.new ≡ report.old → Answered source script t sides out report hall 12
answered_write_fault source script t sides out report hall cut rose same = record {
  no_read_fault = λ h. absurd cc;
  no_words = λ h. absurd cc;
  write_fault = λ h. inl rose;
  wrote = λ h. inr (record { plan = cut.plan; asks = cut.asks; job = cut.job; run = cut.run; runs = cut.runs; holds = record { part = cut.holds; nothing = nothing report same } });
  printed = λ h. absurd cc;
  no_memory = λ h. absurd cc;
  told = λ not12 not13. absurd (not12 refl);
}

-- ---- from what was read to what the files hold

if_some : (o : Option (List ℕ)) (P Q : List ℕ → Type 0) → ((x : List ℕ) → P x → Q x) → IfSome o P → IfSome o Q
if_some None P Q f h = tt
if_some (Some x) P Q f h = f x h

of_files : (j : FileJob) (held : List ℕ → Option (List ℕ)) (P Q : List ℕ → List ℕ → Type 0) → ((all text : List ℕ) → P all text → Q all text) → OfSource (Files j) held P → OfSource (Files j) held Q
of_files j held P Q f h =
    if_some (held j.file) (λ all. IfSome (script_needed all (script_held j.script held)) (P all)) (λ all. IfSome (script_needed all (script_held j.script held)) (Q all))
    (λ all. if_some (script_needed all (script_held j.script held)) (P all) (Q all) (f all)) h

judged_told : (all text source script : List ℕ) (t : Task) → (source ≡ take (source_limit + 1) all) × (script ≡ take (script_limit + 1) text)
    → (sides : Option (List Bool)) (v : Verdict) → Judged source script t sides v → Judged all text t sides v
judged_told all text source script t is sides v judged = more_decides all text t sides v
    (subst (λ (s : List ℕ). Judged s (take (script_limit + 1) text) t sides v) is.0 (subst (λ (s : List ℕ). Judged source s t sides v) is.1 judged))

verdict_told : (all text source script : List ℕ) (t : Task) (sides : Option (List Bool)) (P Q : Answer → Type 0) → ((a : Answer) → P a → Q a) → (source ≡ take (source_limit + 1) all) × (script ≡ take (script_limit + 1) text)
    → SomeVerdict source script t sides P → SomeVerdict all text t sides Q
verdict_told all text source script t sides P Q f is v = record {
  verdict = v.verdict;
  judged = judged_told all text source script t is sides v.verdict v.judged;
  right = right_of (Judged source script t) (Judged all text t) (judged_told all text source script t is) v.verdict v.right;
  answered = f (answer_of v.verdict) v.answered;
}

run_told : (all text source script : List ℕ) (t : Task) (sides : Option (List Bool)) (P : State → List (List ℕ) → Type 0) → (source ≡ take (source_limit + 1) all) × (script ≡ take (script_limit + 1) text)
    → SomeRun source script t sides P → SomeRun all text t sides P
run_told all text source script t sides P is v =
    more_runs all text t sides P (subst (λ (s : List ℕ). SomeRun s (take (script_limit + 1) text) t sides P) is.0 (subst (λ (s : List ℕ). SomeRun source s t sides P) is.1 v))

of_verdict : (j : Job) (held : List ℕ → Option (List ℕ)) (source script : List ℕ) (P Q : Answer → Type 0) → ((a : Answer) → P a → Q a)
    → IsSource j held source script → SomeVerdict source script (task_of j) (sides_of j) P → OfSource j held (λ all text. SomeVerdict all text (task_of j) (sides_of j) Q)
of_verdict (Files j) held source script P Q f is v =
    of_files j held (λ all text. (source ≡ take (source_limit + 1) all) × (script ≡ take (script_limit + 1) text)) (λ all text. SomeVerdict all text j.task j.sides Q)
    (λ all text read. verdict_told all text source script j.task j.sides P Q f read v) is
of_verdict (Generated n) held source script P Q f is v =
    let w : SomeVerdict source script (task_of (Generated n)) None Q = record { verdict = v.verdict; judged = v.judged; right = v.right; answered = f (answer_of v.verdict) v.answered } in
    subst (λ (s : List ℕ). SomeVerdict s [] (task_of (Generated n)) None Q) is.0 (subst (λ (s : List ℕ). SomeVerdict source s (task_of (Generated n)) None Q) is.1 w)

of_run : (j : Job) (held : List ℕ → Option (List ℕ)) (source script : List ℕ) (P : State → List (List ℕ) → Type 0)
    → IsSource j held source script → SomeRun source script (task_of j) (sides_of j) P → OfSource j held (λ all text. SomeRun all text (task_of j) (sides_of j) P)
of_run (Files j) held source script P is v =
    of_files j held (λ all text. (source ≡ take (source_limit + 1) all) × (script ≡ take (script_limit + 1) text)) (λ all text. SomeRun all text j.task j.sides P)
    (λ all text read. run_told all text source script j.task j.sides P read v) is
of_run (Generated n) held source script P is v =
    subst (λ (s : List ℕ). SomeRun s [] (task_of (Generated n)) None P) is.0 (subst (λ (s : List ℕ). SomeRun source s (task_of (Generated n)) None P) is.1 v)

some_asked : (words : List (List ℕ)) (held : List ℕ → Option (List ℕ)) (j : Job) (source script : List ℕ) (P Q : Answer → Type 0) → ((a : Answer) → P a → Q a) → job words ≡ Some j
    → IsSource j held source script → SomeVerdict source script (task_of j) (sides_of j) P → SomeAnswer (job words) held Q
some_asked words held j source script P Q f e is v = subst (λ (o : Option Job). SomeAnswer o held Q) (sym e) (of_verdict j held source script P Q f is v)

some_end : (words : List (List ℕ)) (held : List ℕ → Option (List ℕ)) (j : Job) (source script : List ℕ) (P : State → List (List ℕ) → Type 0) → job words ≡ Some j
    → IsSource j held source script → SomeRun source script (task_of j) (sides_of j) P → SomeEnd (job words) held P
some_end words held j source script P e is v = subst (λ (o : Option Job). SomeEnd o held P) (sym e) (of_run j held source script P is v)

-- ---- the table

-- the hall once those whom the job keeps are kept
abbrev halls_of : Call → Halls
halls_of c = record { old = slots_of_job c; new = c.hall.new }

-- a call that was answered
table_of_answer : (c : Call) (j : Job) (source script : List ℕ) → job c.words ≡ Some j → IsSource j c.held source script
    → Answered source script (task_of j) (sides_of j) c.out c.report (halls_of c) c.status → Table (facts_of c) c.status
table_of_answer c j source script e is r = record {
  read_fault = λ h. absurd (r.no_read_fault h);
  write_fault = λ h. (
    r.write_fault h,
    inl (elim (r.wrote h) [
      | inl v ↦ inl (some_asked c.words c.held j source script (WroteReport c.out c.report (slots_of_job c) c.hall.new) (WroteReport c.out c.report (slots_of_job c) c.hall.new) (λ a w. w) e is v)
      | inr p ↦ inr (some_end c.words c.held j source script (WroteOutput c.out c.report (slots_of_job c) c.hall.new) e is p)
    ]),
  );
  no_memory = λ h. (
    is_some (job c.words) j e,
    (elim (r.printed h) [ inl none ↦ inl none | inr p ↦ inr (some_end c.words c.held j source script (BeganOutput c.out) e is p) ], r.no_memory h),
  );
  every_other = λ not11 not12 not13. some_asked c.words c.held j source script (IsTold c.out c.report (halls_of c) c.status) (IsAnswer c)
      (λ a w. record { status = w.status_is; out = w.output; report = w.whole }) e is (r.told not12 not13);
}

served_by_answer : (c : Call) (j : Job) (source script : List ℕ) → job c.words ≡ Some j → IsSource j c.held source script
    → Answered source script (task_of j) (sides_of j) c.out c.report (halls_of c) c.status → Served c
served_by_answer c j source script e is r = owed_by (facts_of c) j c.status e (table_of_answer c j source script e is r) (λ h. r.no_words h)

-- a report that is one line, of a call that leaves those who watch as they were
line_report : (kept new : List Slot) (a : Answer) (P : List ℕ → Type 0) → a.course ≡ None → new ≡ kept → P a.line → HasReport kept new a P
line_report kept new a P none stays holds = record {
  told = subst (λ (o : Option Course). AreTold o kept new) (sym none) stays;
  text = a.line;
  is = subst (λ (o : Option Course). IsReport o new a.line a.line) (sym none) refl;
  holds = holds;
}

-- a call whose files could not be read
served_by_fault : (c : Call) (j : Job) → job c.words ≡ Some j → AnyRose (files_of j c.held) c.faults_old c.faults_new → c.out.new ≡ c.out.old → c.hall.new ≡ slots_of_job c
    → IsHanded c.report c.status (record { status = 11; text = fault_line }) → Served c
served_by_fault c j e rose same stays handed =
    owed_by_fault (facts_of c) j c.status e (subst (λ (o : Option Job). IsSomeAnd o (λ i. AnyRose (files_of i c.held) c.faults_old c.faults_new)) (sym e) rose)
    (λ not12. (
      (handed.told not12).0,
      record {
        status = (handed.told not12).0;
        out = nothing c.out same;
        report = line_report (slots_of_job c) c.hall.new read_fault (Wrote c.report) refl stays (handed.told not12).1;
      },
    ))
    (λ h. (
      inr (handed.fault h).0,
      record {
        whole = nothing c.out same;
        begun = line_report (slots_of_job c) c.hall.new read_fault (WrotePrefix c.report) refl stays (handed.fault h).1;
      },
    ))

-- a call for whose files there was no memory
pub served_by_nothing : (c : Call) (j : Job) → job c.words ≡ Some j → c.status ≡ 13 → c.out.new ≡ c.out.old → c.report.new ≡ c.report.old → Served c
served_by_nothing c j e is same kept = owed_by_nothing (facts_of c) j c.status e is (inl (nothing c.out same), nothing c.report kept)

-- words that are no job
pub served_by_words : (c : Call) → job c.words ≡ None → c.out.new ≡ c.out.old → c.hall.new ≡ c.hall.old → IsHanded c.report c.status (record { status = 10; text = words_line }) → Served c
served_by_words c e same stays handed =
    let left : c.hall.new ≡ slots_of_job c = stays ∙ sym (ap (λ (o : Option Job). kept_by o c.hall.old) e) in
    owed_by_words (facts_of c) c.status e
    (λ not12. (
      (handed.told not12).0,
      subst (λ (o : Option Job). SomeAnswer o c.held (IsAnswer c)) (sym e) (record {
        status = (handed.told not12).0;
        out = nothing c.out same;
        report = line_report (slots_of_job c) c.hall.new no_job (Wrote c.report) refl left (handed.told not12).1;
      }),
    ))
    (λ h. (
      inr (handed.fault h).0,
      (handed.fault h).0,
      inl (subst (λ (o : Option Job). SomeAnswer o c.held (WroteReport c.out c.report (slots_of_job c) c.hall.new)) (sym e) (record {
        whole = nothing c.out same;
        begun = line_report (slots_of_job c) c.hall.new no_job (WrotePrefix c.report) refl left (handed.fault h).1;
      })),
    ))

-- devices that never fail
pub served_calmly : (c : Call) → ((names : List (List ℕ)) → AnyRose names c.faults_old c.faults_new → ⊥) → (SinkRose c.out → ⊥) → (SinkRose c.report → ⊥) → Served c
    → (c.status ≡ 13) ⊎ SomeAnswer (job c.words) c.held (IsAnswer c)
served_calmly c reads out report served =
    served.complete (none_failed (job c.words) (λ j. AnyRose (files_of j c.held) c.faults_old c.faults_new) (λ j. reads (files_of j c.held))) (λ failed. elim failed [ inl rose ↦ out rose | inr rose ↦ report rose ])

-- ---- those who are kept

kept_is : (c : Call) (j : Job) (mid : List Slot) → job c.words ≡ Some j → mid ≡ filter (is_kept (kinds_of (watched_of j))) c.hall.old → mid ≡ slots_of_job c
kept_is c j mid e is = is ∙ sym (ap (λ (o : Option Job). kept_by o c.hall.old) e)

-- a call that asks for a file
pub served_by_files : (c : Call) (j : FileJob) (mid : List Slot) → job c.words ≡ Some (Files j) → mid ≡ filter (is_kept (kinds_of j.watched)) c.hall.old
    → FilesServed j c.held c.faults_old c.faults_new c.out c.report (record { old = mid; new = c.hall.new }) c.status → Served c
served_by_files c j mid e is (WereRead source script given answered) =
    served_by_answer c (Files j) source script e given
    (subst (λ (k : List Slot). Answered source script j.task j.sides c.out c.report (record { old = k; new = c.hall.new }) c.status) (kept_is c (Files j) mid e is) answered)
served_by_files c j mid e is (WereLost rose same stays handed) = served_by_fault c (Files j) e rose same (stays ∙ kept_is c (Files j) mid e is) handed
served_by_files c j mid e is (HadNoRoom status same kept) = served_by_nothing c (Files j) e status same kept

-- a call that asks for a generated source
pub served_by_number : (c : Call) (n : ℕ) → job c.words ≡ Some (Generated n)
    → Answered (source_text n) [] (task_of (Generated n)) None c.out c.report (kept_halls (Generated n) c.hall) c.status → Served c
served_by_number c n e answered =
    served_by_answer c (Generated n) (source_text n) [] e (refl, refl)
    (subst (λ (k : List Slot). Answered (source_text n) [] (task_of (Generated n)) None c.out c.report (record { old = k; new = c.hall.new }) c.status)
    (kept_is c (Generated n) (kept_by (Some (Generated n)) c.hall.old) e refl) answered)

-- which job the words are
pub job_files : (words : List (List ℕ)) (j : FileJob) → generator_count words ≡ None → file_job words ≡ Some j → job words ≡ Some (Files j)
job_files words j none e = ap (λ (o : Option ℕ). either o (file_job words)) none ∙ ap (λ (o : Option FileJob). either None o) e

pub job_number : (words : List (List ℕ)) (n : ℕ) → generator_count words ≡ Some n → job words ≡ Some (Generated n)
job_number words n e = ap (λ (o : Option ℕ). either o (file_job words)) e

pub job_none : (words : List (List ℕ)) → generator_count words ≡ None → file_job words ≡ None → job words ≡ None
job_none words none e = ap (λ (o : Option ℕ). either o (file_job words)) none ∙ ap (λ (o : Option FileJob). either None o) e
