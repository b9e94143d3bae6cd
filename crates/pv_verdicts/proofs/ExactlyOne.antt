-- Each source comes to exactly one verdict (C17 5.1.1.3, 5.1.2.3).
use Rattle.std.proofs.Common.{inl, inr, ◌≡◌, ℕ, Bool, List, Ok, refl, sym, ap, ◌∙◌, subst}
use Rattle.std.specs.Prelude.{◌⊎◌, Option, map}
use Rattle.pv_script.specs.Lines.{ScriptLine}
use Rattle.pv_script.specs.Scripts.{script_of}
use Rattle.pv_typed.specs.TypedUnits.{WholeUnit}
use Rattle.pv_world.specs.Worlds.{Worth}
use Rattle.pv_eval.specs.States.{Res, end_of}
use Rattle.pv_exec.specs.Run.{sides_at}
use Rattle.pv_exec.specs.Sided.{side_of}
use Rattle.pv_exec.specs.Laws.{run_at}
use Rattle.pv_exec.specs.Outlets.{event_of}
use Rattle.pv_numbering.specs.Same.{SameRun}
use Rattle.pv_numbering.proofs.Numbering.{same-tables}
use Rattle.pv_numbering.proofs.UnitEntries.{has_tables}
use Rattle.pv_serve.specs.declared.words.Task.{Task}
use Rattle.pv_serve.specs.Verdicts.{Verdict, Ending}
use Rattle.pv_serve.specs.Judged.{Judged, Ends, RunEnds}
use Rattle.pv_serve.specs.OneVerdict.{verdict_by, IsLeftToRun, BothRun}
use Rattle.pv_serve.specs.Comes.{Comes}
use Rattle.pv_serve.specs.Readings.{Program}
use Rattle.pv_serve.proofs.JudgedLemmas as judged
use Rattle.pv_verdicts.specs.Endings.{HasOutcome}
use Rattle.pv_verdicts.proofs.Programs.{has_outcome}

-- ---- at most one

-- an end of a run is one of each run that can't be told apart from it
ends-too : (r r' : Res Worth) (names : List (List ℕ)) (e : Ending) → SameRun r r' → Ends r' names e → Ends r names e
ends-too r r' names e s h = record {
  outcome = sym s.outcome ∙ h.outcome;
  turns = h.turns ∙ s.taken;
  output = h.output ∙ s.output;
  events = h.events ∙ ap (map event_of) s.events;
  sides = h.sides ∙ ap (map side_of) s.sides;
  names = h.names;
}

-- a unit's run has no two ends, whichever tables stand for the unit
one-end : (unit : WholeUnit) (lines : List ScriptLine) (bound : ℕ) (zap : Bool) (sides : Option (List Bool)) (e f : Ending)
    → RunEnds unit lines bound zap sides e → RunEnds unit lines bound zap sides f → e ≡ f
one-end unit lines bound zap sides e f g h =
    let u = g.runs.tables in
    let v = h.runs.tables in
    let r = run_at u sides zap lines bound in
    let left : Ends r unit.names e = subst (λ (x : Res Worth). Ends x unit.names e) g.runs.is g.ends in
    let right : Ends (run_at v sides zap lines bound) unit.names f = subst (λ (x : Res Worth). Ends x unit.names f) h.runs.is h.ends in
    let same : SameRun r (run_at v sides zap lines bound) = same-tables u v (g.runs.stands ∙ sym h.runs.stands) sides zap lines bound in
    judged.one_end r unit.names e f left (ends-too r (run_at v sides zap lines bound) unit.names f same right)

both-same : (source script : List ℕ) (t : Task) (sides : Option (List Bool)) (v w : Verdict) → BothRun source script t sides v w → v ≡ w
both-same source script t sides v w b =
    let same = one-end b.job.unit b.job.lines b.plan.bound b.plan.zap b.plan.sides b.one b.other b.ends b.others in
    b.is_one ∙ ap (λ (e : Ending). verdict_by b.plan e) same ∙ sym b.is_other

met : (source script : List ℕ) (t : Task) (sides : Option (List Bool)) (v w : Verdict) → (v ≡ w) ⊎ BothRun source script t sides v w → v ≡ w
met source script t sides v w (inl e) = e
met source script t sides v w (inr b) = both-same source script t sides v w b

pub one-verdict : (source script : List ℕ) (t : Task) (sides : Option (List Bool)) (v w : Verdict) → Judged source script t sides v → Judged source script t sides w → v ≡ w
one-verdict source script t sides v w j k = met source script t sides v w (judged.one_verdict source script t sides v w j k)

-- ---- one at least

-- the run of a program ends in some way
run-ends : (source text : List ℕ) (lines : List ScriptLine) (unit : WholeUnit) → Comes source (Program unit) → script_of text ≡ Ok lines → (bound : ℕ) (zap : Bool) (sides : Option (List Bool))
    → (e : Ending) × RunEnds unit lines bound zap sides e
run-ends source text lines unit c r bound zap sides =
    let tables = has_tables unit in
    let run = run_at tables.0 sides zap lines bound in
    let s = end_of run in
    let o : HasOutcome run = has_outcome source text lines unit c r tables.0 tables.1 sides zap bound in (
      record { outcome = o.0; turns = s.taken; output = s.output; events = map event_of s.events; sides = map side_of (sides_at s); names = unit.names },
      record {
        run = run;
        runs = record { tables = tables.0; stands = tables.1; is = refl };
        ends = record { outcome = o.1; turns = refl; output = refl; events = refl; sides = refl; names = refl };
      },
    )

left-ends : (source script : List ℕ) (t : Task) (sides : Option (List Bool)) → IsLeftToRun source script t sides → (v : Verdict) × Judged source script t sides v
left-ends source script t sides l =
    let j = l.job in
    let e = run-ends source script j.lines j.unit j.comes j.reads l.plan.bound l.plan.zap l.plan.sides in
    (verdict_by l.plan e.0, l.verdict e.0 e.1)

has : (source script : List ℕ) (t : Task) (sides : Option (List Bool)) → ((v : Verdict) × Judged source script t sides v) ⊎ IsLeftToRun source script t sides
    → (v : Verdict) × Judged source script t sides v
has source script t sides (inl v) = v
has source script t sides (inr l) = left-ends source script t sides l

pub some-verdict : (source script : List ℕ) (t : Task) (sides : Option (List Bool)) → (v : Verdict) × Judged source script t sides v
some-verdict source script t sides = has source script t sides (judged.some_verdict source script t sides)
