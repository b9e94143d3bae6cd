-- What a judgement is, from what the parts of the judging answer.
use Rattle.std.proofs.Common.{◌≡◌, ◌⊎◌, ℕ, ◌<◌, ◌≤◌, Bool, List, [], length, refl, sym, ap, ◌∙◌, subst, arith, inl, inr}
use Rattle.std.specs.Prelude.{Result, Ok, Err, IfOk, IfErr, IfNone, Option, None, Some, map, is_none}
use Rattle.std.proofs.lemmas.Option.{get_or_from_slice_get, slice_get_within}
use Rattle.pv_script.specs.Outside.{Gains}
use Rattle.pv_script.specs.declared.scripts.ScriptError.{ScriptError}
use Rattle.pv_script.specs.declared.scripts.ScriptError.TheVariants as why
use Rattle.pv_script.specs.Lines.{ScriptLine}
use Rattle.pv_script.specs.Scripts.{script_of}
use Rattle.pv_script.specs.LineView.{OrNoMemory}
use Rattle.pv_script.proofs.GainsLemmas.{gains_nothing, prefix_whole}
use Rattle.pv_watch.specs.Slots.{Told}
use Rattle.pv_typed.specs.TypedUnits.{WholeUnit}
use Rattle.pv_typed.specs.Mains.{literal_text, heap_text}
use Rattle.pv_typed.specs.Tables.{Stored, whole_unit}
use Rattle.pv_typed.specs.Known.{AreKnown}
use Rattle.pv_world.specs.Worlds.{Worth}
use Rattle.pv_eval.specs.States.{Res, State}
use Rattle.pv_eval.specs.Runnable.{IsRunnable}
use Rattle.pv_exec.specs.Run.{setting_of, run_of}
use Rattle.pv_exec.specs.declared.program.Ran.{Ran}
use Rattle.pv_exec.specs.declared.program.RunError.{RunError}
use Rattle.pv_exec.specs.declared.program.RunError.TheVariants as error
use Rattle.pv_exec.specs.Outlets.{event_of}
use Rattle.pv_exec.specs.Answering.{RanAs, ToldOr, StreamedOr, FaultCause, end_of}
use Rattle.pv_exec.specs.Laws.{run_at}
use Rattle.pv_exec.specs.SettledRuns.{SettlesAlike, IsUndefinedByAll}
use Rattle.pv_describe.specs.Describing.{check_text, layout_text}
use Rattle.pv_serve.specs.declared.words.Task.{Task}
use Rattle.pv_serve.specs.declared.words.Task.TheVariants as task
use Rattle.pv_serve.specs.declared.judging.Judgement.{Judgement}
use Rattle.pv_serve.specs.declared.judging.Judgement.TheVariants as judgement
use Rattle.pv_serve.specs.ReadWords.{IsTask}
use Rattle.pv_serve.specs.Verdicts.{Verdict, Ending, Settled, Described, Course}
use Rattle.pv_serve.specs.ReportParts.{course_of, output_of}
use Rattle.pv_serve.specs.VerdictParts.{BeganOutput}
use Rattle.pv_serve.specs.Readings.{Program}
use Rattle.pv_serve.specs.Comes.{Comes, source_limit}
use Rattle.pv_serve.specs.Judged.{Judged, Oversize, Unread, Unfit, Fit, UnitGives, IsRunBy, RunEnds, Plan, plan_of, SomeRun}
use Rattle.pv_serve.specs.Plans.{late_plan, settled_plan}
use Rattle.pv_serve.specs.Outside.{Sunk, Wrote, WrotePrefix, Halls}
use Rattle.pv_serve.specs.Judging.{Shown, nothing_shown, ending_of, verdict_of, IsJudged, LeftPart, IsCutOff, UnitJudged, UnitRun, UnitCutOff, HasFault}
use Rattle.pv_serve.specs.LateSettling.{SettlesRight}
use Rattle.pv_serve.specs.Settling.{IsRan, IsLeft, HasLetOut}
use Rattle.pv_serve.specs.Watching.{AreTold}
use Rattle.pv_serve.proofs.ComesLemmas.{source_limit_is}
use Rattle.pv_serve.proofs.LateLemmas.{right_of, settled_right}

-- ---- tables that are known can be run

pub runnable : (u : Stored) → AreKnown u → IsRunnable u
runnable u k = record {
  known = k;
  two = slice_get_within u.names 1 heap_text k.own.1;
  literal = get_or_from_slice_get u.names 0 literal_text [] k.own.0;
  heap = get_or_from_slice_get u.names 1 heap_text [] k.own.1;
}

-- ---- runs

abbrev pub shown_by : Res Worth → Shown
shown_by run = record { output = (end_of run).output; events = map event_of (end_of run).events }

-- the run of these tables is one of the unit that they stand for
abbrev pub is_run : (u : Stored) (lines : List ScriptLine) (bound : ℕ) (zap : Bool) (sides : Option (List Bool)) → IsRunBy (whole_unit u) lines bound zap sides (run_of (setting_of u bound sides zap) lines)
is_run u lines bound zap sides = record { tables = u; stands = refl; is = refl }

pub run_ends : (unit : WholeUnit) (lines : List ScriptLine) (bound : ℕ) (zap : Bool) (sides : Option (List Bool)) (run : Res Worth) (ran : Ran) (names : List (List ℕ))
    → IsRunBy unit lines bound zap sides run → RanAs run ran → names ≡ unit.names → RunEnds unit lines bound zap sides (ending_of ran names (shown_by run))
run_ends unit lines bound zap sides run ran names runs is named = record {
  run = run;
  runs = runs;
  ends = record { outcome = is.outcome; turns = is.turns; output = refl; events = refl; sides = is.sides; names = named };
}

pub run_judged : (u : Stored) (lines : List ScriptLine) (bound : ℕ) (zap : Bool) (out : Sunk) (hall : Halls) (run : Res Worth) (ran : Ran) (names : List (List ℕ))
    → IsRunBy (whole_unit u) lines bound zap None run → IsRan out hall ran names run u.names → UnitJudged (whole_unit u) lines (task.Run bound zap) None out hall (judgement.Ran ran names bound)
run_judged u lines bound zap out hall run ran names runs is = record {
  shown = shown_by run;
  gives = (ending_of ran names (shown_by run), run_ends (whole_unit u) lines bound zap None run ran names runs is.ended is.named, refl);
  right = tt;
  gains = is.gains;
  told = subst (λ (texts : List (List ℕ)). Told hall.old (map event_of (end_of run).events) texts hall.new) (sym is.named) is.told;
}

pub run_cut_off : (unit : WholeUnit) (lines : List ScriptLine) (bound : ℕ) (zap : Bool) (out : Sunk) (hall : Halls) (run : Res Worth) (e : RunError) → IsRunBy unit lines bound zap None run
    → IsLeft out hall e run unit.names → UnitCutOff unit lines (task.Run bound zap) None out hall e
run_cut_off unit lines bound zap out hall run error.NoMemory runs left = inr (record { plan = late_plan bound zap; asks = refl; run = run; runs = runs; holds = left })
run_cut_off unit lines bound zap out hall run error.WriteFault runs left = record { plan = late_plan bound zap; asks = refl; run = run; runs = runs; holds = left }

-- ---- settled runs, which nobody watches

pub settled_judged : (u : Stored) (lines : List ScriptLine) (bound : ℕ) (zap : Bool) (sides : Option (List Bool)) (out : Sunk) (nobody hall : Halls) (ran : Ran) (names : List (List ℕ)) (listed : Bool)
    → hall.new ≡ hall.old → listed ≡ is_none sides → IsRan out nobody ran names (run_at u sides zap lines bound) u.names
    → IfNone sides (SettlesAlike u bound zap lines ran) → IfNone sides (IsUndefinedByAll u bound zap lines ran)
    → UnitJudged (whole_unit u) lines (task.Settle bound zap) sides out hall (judgement.Settled ran names bound listed)
settled_judged u lines bound zap sides out nobody hall ran names listed same told is alike all =
    let run = run_at u sides zap lines bound in
    record {
      shown = shown_by run;
      gives = (
        ending_of ran names (shown_by run),
        run_ends (whole_unit u) lines bound zap sides run ran names (is_run u lines bound zap sides) is.ended is.named,
        ap (λ (b : Bool). Settled (ending_of ran names (shown_by run)) bound b) told,
      );
      right = settled_right u lines bound zap sides ran names (shown_by run) listed told is.ended refl is.named alike all;
      gains = is.gains;
      told = same;
    }

-- of what a settled run left nothing was told
told_nothing : (out : Sunk) (nobody hall : Halls) (end : State) (names : List (List ℕ)) → hall.new ≡ hall.old → LeftPart out nobody end names → LeftPart out hall end names
told_nothing out nobody hall end names same left = record {
  written = left.written;
  unwritten = left.unwritten;
  output = left.output;
  gains = left.gains;
  events = [];
  untold = end.events;
  all = refl;
  told = same;
  near = tt;
  words = tt;
}

pub settled_cut_off : (unit : WholeUnit) (lines : List ScriptLine) (bound : ℕ) (zap : Bool) (sides : Option (List Bool)) (out : Sunk) (nobody hall : Halls) (run : Res Worth) (e : RunError)
    → hall.new ≡ hall.old → IsRunBy unit lines bound zap sides run → IsLeft out nobody e run unit.names → UnitCutOff unit lines (task.Settle bound zap) sides out hall e
settled_cut_off unit lines bound zap sides out nobody hall run error.NoMemory same runs left = inr (record { plan = settled_plan bound zap sides; asks = refl; run = run; runs = runs; holds = left })
settled_cut_off unit lines bound zap sides out nobody hall run error.WriteFault same runs left = record {
  plan = settled_plan bound zap sides;
  asks = refl;
  run = run;
  runs = runs;
  holds = told_nothing out nobody hall (end_of run) unit.names same left;
}

-- what a run that was cut off left, as the run says it
pub left_by : (out : Sunk) (hall : Halls) (run : Res Worth) (names : List (List ℕ)) (e : RunError) → WrotePrefix out (end_of run).output
    → ToldOr (Err e) (record { sink = out.old; hall = hall.old }) (record { sink = out.new; hall = hall.new }) (end_of run) names → IsLeft out hall e run names
left_by out hall run names error.NoMemory part told = part
left_by out hall run names error.WriteFault part told = told

-- how far a run that was cut off was let out, as the run says it
pub let_out_by : (out : Sunk) (hall : Halls) (stage : ℕ → State) (taken : ℕ) (names : List (List ℕ)) (e : RunError)
    → StreamedOr (Err e) (record { sink = out.old; hall = hall.old }) (record { sink = out.new; hall = hall.new }) stage taken names → HasLetOut out hall stage taken names e
let_out_by out hall stage taken names error.NoMemory streamed = tt
let_out_by out hall stage taken names error.WriteFault streamed = streamed

pub fault_of : (A : Type 0) (e : RunError) (before now : ℕ) → FaultCause (Err e) before now → HasFault {A = A} (Err e) before now
fault_of A error.NoMemory before now f = tt
fault_of A error.WriteFault before now f = f

-- ---- what describes a unit

-- a sink and a hall that the call left as they were
abbrev pub IsUntouched : Sunk → Halls → Type 0
IsUntouched out hall = (out.new ≡ out.old) × (hall.new ≡ hall.old)

pub nothing : (out : Sunk) → out.new ≡ out.old → Wrote out []
nothing out same = subst (λ (o : Option (List ℕ)). Gains out.old o []) (sym same) (gains_nothing out.old)

-- what no run is told, and what prints nothing
abbrev IsQuiet : Verdict → Type 0
IsQuiet v = (output_of v ≡ []) × (course_of v ≡ None)

quiet_gains : (v : Verdict) (out : Sunk) → out.new ≡ out.old → IsQuiet v → Wrote out (output_of v)
quiet_gains v out same q = subst (λ (bytes : List ℕ). Wrote out bytes) (sym q.0) (nothing out same)

quiet_told : (v : Verdict) (hall : Halls) → hall.new ≡ hall.old → IsQuiet v → AreTold (course_of v) hall.old hall.new
quiet_told v hall same q = subst (λ (c : Option Course). AreTold c hall.old hall.new) (sym q.1) same

unit_described : (unit : WholeUnit) (lines : List ScriptLine) (t : Task) (sides : Option (List Bool)) (out : Sunk) (hall : Halls) (j : Judgement) → IsUntouched out hall
    → UnitGives unit lines t sides (verdict_of j nothing_shown) → SettlesRight (UnitGives unit lines t) (verdict_of j nothing_shown) → IsQuiet (verdict_of j nothing_shown)
    → UnitJudged unit lines t sides out hall j
unit_described unit lines t sides out hall j same gives right none = record {
  shown = nothing_shown;
  gives = gives;
  right = right;
  gains = quiet_gains (verdict_of j nothing_shown) out same.0 none;
  told = quiet_told (verdict_of j nothing_shown) hall same.1 none;
}

is_quiet : (v : Verdict) (text : List ℕ) → v ≡ Described text → IsQuiet v
is_quiet v text e = (ap output_of e, ap course_of e)

described_judged : (unit : WholeUnit) (lines : List ScriptLine) (t : Task) (sides : Option (List Bool)) (out : Sunk) (hall : Halls) (r : Result Judgement RunError) (want : List ℕ) → IsUntouched out hall
    → UnitGives unit lines t sides (Described want) → IfOk r (λ j. verdict_of j nothing_shown ≡ Described want) → IfOk r (UnitJudged unit lines t sides out hall)
described_judged unit lines t sides out hall (Ok j) want same gives e =
    unit_described unit lines t sides out hall j same (subst (UnitGives unit lines t sides) (sym e) gives)
    (subst (λ (v : Verdict). SettlesRight (UnitGives unit lines t) v) (sym e) tt) (is_quiet (verdict_of j nothing_shown) want e)
described_judged unit lines t sides out hall (Err x) want same gives e = tt

gives_check : (unit : WholeUnit) (lines : List ScriptLine) (t : Task) (sides : Option (List Bool)) → t ≡ task.Check → UnitGives unit lines t sides (Described (check_text unit))
gives_check unit lines t sides is = subst (λ (k : Task). UnitGives unit lines k sides (Described (check_text unit))) (sym is) refl

gives_layout : (unit : WholeUnit) (lines : List ScriptLine) (t : Task) (sides : Option (List Bool)) → t ≡ task.Layout → UnitGives unit lines t sides (Described (layout_text unit))
gives_layout unit lines t sides is = subst (λ (k : Task). UnitGives unit lines k sides (Described (layout_text unit))) (sym is) refl

pub check_judged : (unit : WholeUnit) (lines : List ScriptLine) (t : Task) (sides : Option (List Bool)) (out : Sunk) (hall : Halls) (r : Result Judgement RunError) → IsUntouched out hall → t ≡ task.Check
    → IfOk r (λ j. verdict_of j nothing_shown ≡ Described (check_text unit)) → IfOk r (UnitJudged unit lines t sides out hall)
check_judged unit lines t sides out hall r same is e = described_judged unit lines t sides out hall r (check_text unit) same (gives_check unit lines t sides is) e

pub layout_judged : (unit : WholeUnit) (lines : List ScriptLine) (t : Task) (sides : Option (List Bool)) (out : Sunk) (hall : Halls) (r : Result Judgement RunError) → IsUntouched out hall → t ≡ task.Layout
    → IfOk r (λ j. verdict_of j nothing_shown ≡ Described (layout_text unit)) → IfOk r (UnitJudged unit lines t sides out hall)
layout_judged unit lines t sides out hall r same is e = described_judged unit lines t sides out hall r (layout_text unit) same (gives_layout unit lines t sides is) e

pub memory_cut_unit : (unit : WholeUnit) (lines : List ScriptLine) (t : Task) (sides : Option (List Bool)) (out : Sunk) (hall : Halls) (r : Result Judgement RunError) → IsUntouched out hall
    → IfErr r (λ e. e ≡ error.NoMemory) → IfErr r (UnitCutOff unit lines t sides out hall)
memory_cut_unit unit lines t sides out hall (Ok j) same e = tt
memory_cut_unit unit lines t sides out hall (Err error.NoMemory) same e = inl (nothing out same.0)
memory_cut_unit unit lines t sides out hall (Err error.WriteFault) same e = absurd cc

-- the task of a run, which no sides change
run_any : (unit : WholeUnit) (lines : List ScriptLine) (bound : ℕ) (zap : Bool) (sides : Option (List Bool)) (out : Sunk) (hall : Halls) (r : Result Judgement RunError)
    → IfOk r (UnitJudged unit lines (task.Run bound zap) None out hall) → IfOk r (UnitJudged unit lines (task.Run bound zap) sides out hall)
run_any unit lines bound zap sides out hall (Ok j) h = record { shown = h.shown; gives = h.gives; right = h.right; gains = h.gains; told = h.told }
run_any unit lines bound zap sides out hall (Err e) h = tt

cut_any : (unit : WholeUnit) (lines : List ScriptLine) (bound : ℕ) (zap : Bool) (sides : Option (List Bool)) (P : State → List (List ℕ) → Type 0)
    → UnitRun unit lines (task.Run bound zap) None P → UnitRun unit lines (task.Run bound zap) sides P
cut_any unit lines bound zap sides P h = record { plan = h.plan; asks = h.asks; run = h.run; runs = h.runs; holds = h.holds }

run_cut_any : (unit : WholeUnit) (lines : List ScriptLine) (bound : ℕ) (zap : Bool) (sides : Option (List Bool)) (out : Sunk) (hall : Halls) (r : Result Judgement RunError)
    → IfErr r (UnitCutOff unit lines (task.Run bound zap) None out hall) → IfErr r (UnitCutOff unit lines (task.Run bound zap) sides out hall)
run_cut_any unit lines bound zap sides out hall (Ok j) h = tt
run_cut_any unit lines bound zap sides out hall (Err error.WriteFault) h = cut_any unit lines bound zap sides (LeftPart out hall) h
run_cut_any unit lines bound zap sides out hall (Err error.NoMemory) h = elim h [
  | inl none ↦ inl none
  | inr p ↦ inr (cut_any unit lines bound zap sides (BeganOutput out) p)
]

-- what holds of a task, by its name
pub task_judged : (unit : WholeUnit) (lines : List ScriptLine) (t k : Task) (sides : Option (List Bool)) (out : Sunk) (hall : Halls) (r : Result Judgement RunError) → t ≡ k
    → IfOk r (UnitJudged unit lines k sides out hall) → IfOk r (UnitJudged unit lines t sides out hall)
task_judged unit lines t k sides out hall r is h = subst (λ (x : Task). IfOk r (UnitJudged unit lines x sides out hall)) (sym is) h

pub task_cut : (unit : WholeUnit) (lines : List ScriptLine) (t k : Task) (sides : Option (List Bool)) (out : Sunk) (hall : Halls) (r : Result Judgement RunError) → t ≡ k
    → IfErr r (UnitCutOff unit lines k sides out hall) → IfErr r (UnitCutOff unit lines t sides out hall)
task_cut unit lines t k sides out hall r is h = subst (λ (x : Task). IfErr r (UnitCutOff unit lines x sides out hall)) (sym is) h

pub run_task_judged : (unit : WholeUnit) (lines : List ScriptLine) (t : Task) (bound : ℕ) (zap : Bool) (sides : Option (List Bool)) (out : Sunk) (hall : Halls) (r : Result Judgement RunError)
    → t ≡ task.Run bound zap → IfOk r (UnitJudged unit lines (task.Run bound zap) None out hall) → IfOk r (UnitJudged unit lines t sides out hall)
run_task_judged unit lines t bound zap sides out hall r is h = task_judged unit lines t (task.Run bound zap) sides out hall r is (run_any unit lines bound zap sides out hall r h)

pub run_task_cut : (unit : WholeUnit) (lines : List ScriptLine) (t : Task) (bound : ℕ) (zap : Bool) (sides : Option (List Bool)) (out : Sunk) (hall : Halls) (r : Result Judgement RunError)
    → t ≡ task.Run bound zap → IfErr r (UnitCutOff unit lines (task.Run bound zap) None out hall) → IfErr r (UnitCutOff unit lines t sides out hall)
run_task_cut unit lines t bound zap sides out hall r is h = task_cut unit lines t (task.Run bound zap) sides out hall r is (run_cut_any unit lines bound zap sides out hall r h)

pub task_bound : (t k : Task) → t ≡ k → IsTask t → IsTask k
task_bound t k is h = subst IsTask is h

-- ---- a source that is a program

pub judged_fit : (source script : List ℕ) (lines : List ScriptLine) (unit : WholeUnit) (t : Task) (sides : Option (List Bool)) (out : Sunk) (hall : Halls) (r : Result Judgement RunError)
    → length source ≤ source_limit → script_of script ≡ Ok lines → Comes source (Program unit)
    → IfOk r (UnitJudged unit lines t sides out hall) → IfOk r (IsJudged source script t sides out hall)
judged_fit source script lines unit t sides out hall (Ok j) short e c u = record {
  shown = u.shown;
  judged = Fit lines unit short e c u.gives;
  right = right_of (UnitGives unit lines t) (Judged source script t) (λ given v gives. Fit lines unit short e c gives) (verdict_of j u.shown) u.right;
  gains = u.gains;
  told = u.told;
}
judged_fit source script lines unit t sides out hall (Err x) short e c u = tt

part_fit : (source script : List ℕ) (lines : List ScriptLine) (unit : WholeUnit) (t : Task) (sides : Option (List Bool)) (P : State → List (List ℕ) → Type 0)
    → length source ≤ source_limit → script_of script ≡ Ok lines → Comes source (Program unit) → UnitRun unit lines t sides P → SomeRun source script t sides P
part_fit source script lines unit t sides P short e c p = record {
  plan = p.plan;
  asks = p.asks;
  job = record { lines = lines; unit = unit; short = short; reads = e; comes = c };
  run = p.run;
  runs = p.runs;
  holds = p.holds;
}

pub cut_fit : (source script : List ℕ) (lines : List ScriptLine) (unit : WholeUnit) (t : Task) (sides : Option (List Bool)) (out : Sunk) (hall : Halls) (r : Result Judgement RunError)
    → length source ≤ source_limit → script_of script ≡ Ok lines → Comes source (Program unit)
    → IfErr r (UnitCutOff unit lines t sides out hall) → IfErr r (IsCutOff source script t sides out hall)
cut_fit source script lines unit t sides out hall (Ok j) short e c u = tt
cut_fit source script lines unit t sides out hall (Err error.WriteFault) short e c u = part_fit source script lines unit t sides (LeftPart out hall) short e c u
cut_fit source script lines unit t sides out hall (Err error.NoMemory) short e c u = elim u [
  | inl none ↦ inl none
  | inr p ↦ inr (part_fit source script lines unit t sides (BeganOutput out) short e c p)
]

-- ---- a source or a script that is refused

pub judged_nothing : (source script : List ℕ) (t : Task) (sides : Option (List Bool)) (out : Sunk) (hall : Halls) (j : Judgement) → IsUntouched out hall
    → Judged source script t sides (verdict_of j nothing_shown) → SettlesRight (Judged source script t) (verdict_of j nothing_shown)
    → output_of (verdict_of j nothing_shown) ≡ [] → course_of (verdict_of j nothing_shown) ≡ None → IsJudged source script t sides out hall j
judged_nothing source script t sides out hall j same judged right none untold = record {
  shown = nothing_shown;
  judged = judged;
  right = right;
  gains = quiet_gains (verdict_of j nothing_shown) out same.0 (none, untold);
  told = quiet_told (verdict_of j nothing_shown) hall same.1 (none, untold);
}

pub within : (n : ℕ) → n ≤ 1048576 → n ≤ source_limit
within n le = omega (arith, source_limit_is)

pub beyond : (n : ℕ) → 1048576 < n → source_limit < n
beyond n lt = omega (arith, source_limit_is)

pub script_refused : (e : ScriptError) (wanted : Result (List ScriptLine) ScriptError) → (e ≡ why.NoMemory → ⊥) → OrNoMemory {A = List ScriptLine} (λ s. s) (Err e) wanted → wanted ≡ Err e
script_refused why.Size wanted some o = sym o
script_refused (why.BadLine n) wanted some o = sym o
script_refused (why.Repeated n m) wanted some o = sym o
script_refused why.NoMemory wanted some o = absurd (some refl)

pub memory_fault : {A : Type 0} (before now : ℕ) (r : Result A RunError) → IfErr r (λ e. e ≡ error.NoMemory) → HasFault r before now
memory_fault before now (Ok x) e = tt
memory_fault before now (Err error.NoMemory) e = tt
memory_fault before now (Err error.WriteFault) e = absurd cc

-- ---- what a judged source printed

nothing_printed : (v w : Verdict) (out : Sunk) → v ≡ w → output_of w ≡ [] → Wrote out (output_of v) → Wrote out []
nothing_printed v w out e none g = subst (λ (bytes : List ℕ). Wrote out bytes) (ap output_of e ∙ none) g

-- the output of a run that ended, as a part of what it prints
run_printed : (source script : List ℕ) (t : Task) (sides : Option (List Bool)) (plan : Plan) (v : Verdict) (e : Ending) (lines : List ScriptLine) (unit : WholeUnit) (out : Sunk)
    → length source ≤ source_limit → script_of script ≡ Ok lines → Comes source (Program unit) → plan_of t sides ≡ Some plan
    → RunEnds unit lines plan.bound plan.zap plan.sides e → output_of v ≡ e.output → Wrote out (output_of v) → SomeRun source script t sides (BeganOutput out)
run_printed source script t sides plan v e lines unit out short reads c asks r same gains = record {
  plan = plan;
  asks = asks;
  job = record { lines = lines; unit = unit; short = short; reads = reads; comes = c };
  run = r.run;
  runs = r.runs;
  holds = subst (λ (bytes : List ℕ). WrotePrefix out bytes) (same ∙ r.ends.output) (prefix_whole gains);
}

unit_printed : (source script : List ℕ) (t : Task) (sides : Option (List Bool)) (v : Verdict) (lines : List ScriptLine) (unit : WholeUnit) (out : Sunk) → length source ≤ source_limit
    → script_of script ≡ Ok lines → Comes source (Program unit) → UnitGives unit lines t sides v → Wrote out (output_of v)
    → Wrote out [] ⊎ SomeRun source script t sides (BeganOutput out)
unit_printed source script (task.Run bound zap) sides v lines unit out short e c g gains =
    inr (run_printed source script (task.Run bound zap) sides (late_plan bound zap) v g.0 lines unit out short e c refl g.1 (ap output_of g.2) gains)
unit_printed source script (task.Settle bound zap) sides v lines unit out short e c g gains =
    inr (run_printed source script (task.Settle bound zap) sides (settled_plan bound zap sides) v g.0 lines unit out short e c refl g.1 (ap output_of g.2) gains)
unit_printed source script task.Check sides v lines unit out short e c g gains = inl (nothing_printed v (Described (check_text unit)) out g refl gains)
unit_printed source script task.Layout sides v lines unit out short e c g gains = inl (nothing_printed v (Described (layout_text unit)) out g refl gains)

pub printed_part : (source script : List ℕ) (t : Task) (sides : Option (List Bool)) (v : Verdict) (out : Sunk) → Judged source script t sides v → Wrote out (output_of v)
    → Wrote out [] ⊎ SomeRun source script t sides (BeganOutput out)
printed_part source script t sides v out (Oversize l p) gains = inl (nothing_printed v _ out p refl gains)
printed_part source script t sides v out (Unread y l e p) gains = inl (nothing_printed v _ out p refl gains)
printed_part source script t sides v out (Unfit ls r l e c p) gains = inl (nothing_printed v _ out p refl gains)
printed_part source script t sides v out (Fit ls u l e c g) gains = unit_printed source script t sides v ls u out l e c g gains
