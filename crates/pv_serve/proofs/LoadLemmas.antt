-- What a source with its script is, and what a run of it comes to.
use Rattle.std.proofs.Common.{◌≡◌, ℕ, Bool, ◌<◌, ◌≤◌, List, [], length, refl, inr, Err}
use Rattle.std.specs.Prelude.{Option, None, Some, IfNone, map}
use Rattle.pv_script.specs.declared.scripts.ScriptError.{ScriptError}
use Rattle.pv_script.specs.declared.scripts.ScriptError.TheVariants as why
use Rattle.pv_script.specs.Lines.{ScriptLine}
use Rattle.pv_script.specs.Scripts.{script_of}
use Rattle.pv_script.specs.LineView.{OrNoMemory}
use Rattle.pv_typed.specs.Tables.{Stored, whole_unit}
use Rattle.pv_exec.specs.Run.{setting_of, run_of}
use Rattle.pv_exec.specs.declared.program.Ran.{Ran}
use Rattle.pv_exec.specs.declared.program.RunError.{RunError}
use Rattle.pv_exec.specs.declared.program.RunError.TheVariants as error
use Rattle.pv_exec.specs.declared.sides.Side.{Side}
use Rattle.pv_exec.specs.Answering.{highs, end_at}
use Rattle.pv_exec.specs.Laws.{run_at}
use Rattle.pv_exec.specs.Stages.{stage_of}
use Rattle.pv_exec.specs.SettledRuns.{SettlesAlike, IsUndefinedByAll}
use Rattle.pv_exec.specs.Sided.{is_high}
use Rattle.pv_serve.specs.declared.checking.Refused.TheVariants as refused
use Rattle.pv_serve.specs.declared.loading.Loaded.TheVariants as loaded
use Rattle.pv_serve.specs.declared.judging.Judgement.TheVariants as judgement
use Rattle.pv_serve.specs.Comes.{source_limit}
use Rattle.pv_serve.specs.Judged.{Oversize, Unread, IsToRun}
use Rattle.pv_serve.specs.Outside.{Sunk, Halls}
use Rattle.pv_serve.specs.Loading.{IsLoadedProgram, IsLoaded}
use Rattle.pv_serve.specs.Settling.{SomeRunBy, IsRan, IsQuiet, IsOutcome, IsLeft, IsUnfinished, HasLetOut, IsStreamed, IsSettledAgain, IsUndefinedBy}
use Rattle.pv_serve.proofs.RunLemmas.{nothing, beyond, script_refused, is_run}

-- ---- a source or a script that is refused

pub too_long : (source script : List ℕ) → 1048576 < length source → IsLoaded source script (loaded.Source refused.Size)
too_long source script long = record { judged = λ t sides. Oversize (beyond (length source) long) refl; parts = tt }

pub refused_script : (source script : List ℕ) (e : ScriptError) → (e ≡ why.NoMemory → ⊥) → length source ≤ source_limit
    → OrNoMemory {A = List ScriptLine} (λ s. s) (Err e) (script_of script) → IsLoaded source script (loaded.Script e)
refused_script source script e some short is = record { judged = λ t sides. Unread e short (script_refused e (script_of script) some is) refl; some = some }

pub quiet : (out : Sunk) (hall : Halls) → out.new ≡ out.old → hall.new ≡ hall.old → IsQuiet out hall
quiet out hall same stays = record { gains = nothing out same; told = stays }

-- ---- a program

abbrev to_run : (source script : List ℕ) (u : Stored) (lines : List ScriptLine) → IsLoadedProgram source script u lines → IsToRun source script
to_run source script u lines p = record { lines = lines; unit = whole_unit u; short = p.short; reads = p.reads; comes = p.comes }

pub ran_outcome : (source script : List ℕ) (u : Stored) (lines : List ScriptLine) (bound : ℕ) (zap : Bool) (sides : Option (List Bool)) (out : Sunk) (hall : Halls) (ran : Ran) (names : List (List ℕ))
    → IsLoadedProgram source script u lines → IsRan out hall ran names (run_of (setting_of u bound sides zap) lines) u.names → IsOutcome source script bound zap sides out hall (judgement.Ran ran names bound)
ran_outcome source script u lines bound zap sides out hall ran names p h = (
  refl,
  record {
    job = to_run source script u lines p;
    run = run_of (setting_of u bound sides zap) lines;
    runs = is_run u lines bound zap sides;
    fit = p.fit;
    holds = h;
  },
)

left_run : (source script : List ℕ) (u : Stored) (lines : List ScriptLine) (bound : ℕ) (zap : Bool) (sides : Option (List Bool)) (out : Sunk) (hall : Halls) (e : RunError)
    → IsLoadedProgram source script u lines → IsLeft out hall e (run_of (setting_of u bound sides zap) lines) u.names → SomeRunBy source script bound zap sides (IsLeft out hall e)
left_run source script u lines bound zap sides out hall e p h = record {
  job = to_run source script u lines p;
  run = run_of (setting_of u bound sides zap) lines;
  runs = is_run u lines bound zap sides;
  fit = p.fit;
  holds = h;
}

pub left_unfinished : (source script : List ℕ) (u : Stored) (lines : List ScriptLine) (bound : ℕ) (zap : Bool) (sides : Option (List Bool)) (out : Sunk) (hall : Halls) (e : RunError)
    → IsLoadedProgram source script u lines → IsLeft out hall e (run_of (setting_of u bound sides zap) lines) u.names → IsUnfinished source script bound zap sides out hall e
left_unfinished source script u lines bound zap sides out hall error.NoMemory p h = inr (left_run source script u lines bound zap sides out hall error.NoMemory p h)
left_unfinished source script u lines bound zap sides out hall error.WriteFault p h = left_run source script u lines bound zap sides out hall error.WriteFault p h

pub let_out_streamed : (source script : List ℕ) (u : Stored) (lines : List ScriptLine) (bound : ℕ) (zap : Bool) (sides : Option (List Bool)) (out : Sunk) (hall : Halls) (e : RunError)
    → IsLoadedProgram source script u lines → HasLetOut out hall (stage_of u sides zap lines) (end_at u bound sides zap lines).taken u.names e
    → IsStreamed source script bound zap sides out hall e
let_out_streamed source script u lines bound zap sides out hall error.NoMemory p left = tt
let_out_streamed source script u lines bound zap sides out hall error.WriteFault p left = record {
  job = to_run source script u lines p;
  tables = u;
  stands = refl;
  left = left;
}

-- ---- late settling

settled_again : (source script : List ℕ) (u : Stored) (lines : List ScriptLine) (bound : ℕ) (zap : Bool) (out : Sunk) (hall : Halls) (ran : Ran) (names : List (List ℕ))
    → IsLoadedProgram source script u lines → IsRan out hall ran names (run_at u None zap lines bound) u.names → SettlesAlike u bound zap lines ran
    → IsSettledAgain source script bound zap out (judgement.Ran ran names bound)
settled_again source script u lines bound zap out hall ran names p is alike = λ decided. record {
  job = to_run source script u lines p;
  run = run_at u None zap lines bound;
  runs = is_run u lines bound zap None;
  fit = p.fit;
  holds = record {
    ended = is.ended;
    gains = is.gains;
    again = record {
      job = to_run source script u lines p;
      run = run_at u (Some (map is_high ran.sides)) zap lines bound;
      runs = is_run u lines bound zap (Some (map is_high ran.sides));
      fit = p.fit;
      holds = alike decided;
    };
  };
}

undefined_by : (source script : List ℕ) (u : Stored) (lines : List ScriptLine) (bound : ℕ) (zap : Bool) (ran : Ran) → IsLoadedProgram source script u lines
    → IsUndefinedByAll u bound zap lines ran → IsUndefinedBy source script bound zap (judgement.Ran ran [] bound)
undefined_by source script u lines bound zap ran p all = λ undefined sides many. record {
  job = to_run source script u lines p;
  run = run_at u (Some sides) zap lines bound;
  runs = is_run u lines bound zap (Some sides);
  fit = p.fit;
  holds = all undefined sides many;
}

-- as clauses of `judge`, whatever sides it is given
pub late_program : {R : Type 0} (source script : List ℕ) (u : Stored) (lines : List ScriptLine) (bound : ℕ) (zap : Bool) (sides : Option R) (view : R → List Side) (out : Sunk) (hall : Halls)
    (ran : Ran) (names : List (List ℕ)) → IsLoadedProgram source script u lines → IsRan out hall ran names (run_of (setting_of u bound (highs sides view) zap) lines) u.names
    → IfNone sides (SettlesAlike u bound zap lines ran) → IfNone sides (IsSettledAgain source script bound zap out (judgement.Ran ran names bound))
late_program source script u lines bound zap None view out hall ran names p is alike = settled_again source script u lines bound zap out hall ran names p is alike
late_program source script u lines bound zap (Some r) view out hall ran names p is alike = tt

-- of the names nothing is said, so what holds of none holds of any
pub sooner_program : {R : Type 0} (source script : List ℕ) (u : Stored) (lines : List ScriptLine) (bound : ℕ) (zap : Bool) (sides : Option R) (ran : Ran)
    → IsLoadedProgram source script u lines → IfNone sides (IsUndefinedByAll u bound zap lines ran) → IfNone sides (IsUndefinedBy source script bound zap (judgement.Ran ran [] bound))
sooner_program source script u lines bound zap None ran p all = undefined_by source script u lines bound zap ran p all
sooner_program source script u lines bound zap (Some r) ran p all = tt
