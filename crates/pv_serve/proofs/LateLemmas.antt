-- Late settling is right (the memory model): from the tables of a unit, that were run, to the unit and to the bytes of its source.
use Rattle.std.proofs.Common.{◌≡◌, ℕ, Bool, true, false, List, refl, sym, ◌∙◌, subst}
use Rattle.std.specs.Prelude.{Option, Some, None, IsSomeAnd, IfNone, map, is_none}
use Rattle.pv_script.specs.Lines.{ScriptLine}
use Rattle.pv_typed.specs.Tables.{Stored, whole_unit}
use Rattle.pv_world.specs.Worlds.{Worth}
use Rattle.pv_eval.specs.States.{Res}
use Rattle.pv_exec.specs.declared.outcome.Outcome.{Outcome}
use Rattle.pv_exec.specs.declared.program.Ran.{Ran}
use Rattle.pv_exec.specs.declared.sides.Side.{Side}
use Rattle.pv_exec.specs.Answering.{RanAs, highs, end_of}
use Rattle.pv_exec.specs.Laws.{run_at}
use Rattle.pv_exec.specs.Run.{outcome_of, sides_at}
use Rattle.pv_exec.specs.Settling.{IsUndefined}
use Rattle.pv_exec.specs.SettledRuns.{SettlesAlike, IsUndefinedByAll}
use Rattle.pv_exec.specs.Sided.{is_high, side_of}
use Rattle.pv_exec.specs.Outlets.{event_of}
use Rattle.pv_serve.specs.declared.words.Task.TheVariants as task
use Rattle.pv_serve.specs.Verdicts.{Verdict, Ending, Ended, Settled, Described, Refused, Script}
use Rattle.pv_serve.specs.Judged.{UnitGives}
use Rattle.pv_serve.specs.Judging.{Shown, ending_of}
use Rattle.pv_serve.specs.LateSettling.{IsRight, SettlesRight}

-- ---- of whatever gives verdicts, and so of what gives more

pub right_of : (G H : Option (List Bool) → Verdict → Type 0) → ((sides : Option (List Bool)) (v : Verdict) → G sides v → H sides v) → (v : Verdict) → SettlesRight G v → SettlesRight H v
right_of G H f (Settled e bound true) r = record {
  alike = λ decided. let a = r.alike decided in record {
    again = a.again;
    gives = f (Some (map is_high e.sides)) (Settled a.again bound false) a.gives;
    outcome = a.outcome;
    turns = a.turns;
    output = a.output;
    names = a.names;
  };
  sooner = λ undefined sides many. let s = r.sooner undefined sides many in
      record { again = s.again; gives = f (Some sides) (Settled s.again bound false) s.gives; undefined = s.undefined; sooner = s.sooner };
}
right_of G H f (Settled e bound false) r = tt
right_of G H f (Ended e bound) r = tt
right_of G H f (Described text) r = tt
right_of G H f (Refused refusal) r = tt
right_of G H f (Script why) r = tt

-- ---- of a unit

abbrev ending_by : Res Worth → (names : List (List ℕ)) → Outcome → Ending
ending_by r names o = record {
  outcome = o;
  turns = (end_of r).taken;
  output = (end_of r).output;
  events = map event_of (end_of r).events;
  sides = map side_of (sides_at (end_of r));
  names = names;
}

-- the run of these tables by these sides gives the verdict that is its end
run_gives : (u : Stored) (lines : List ScriptLine) (bound : ℕ) (zap : Bool) (sides : List Bool) (o : Outcome) → outcome_of (run_at u (Some sides) zap lines bound) ≡ Some o
    → UnitGives (whole_unit u) lines (task.Settle bound zap) (Some sides) (Settled (ending_by (run_at u (Some sides) zap lines bound) (whole_unit u).names o) bound false)
run_gives u lines bound zap sides o e = (
  ending_by (run_at u (Some sides) zap lines bound) (whole_unit u).names o,
  record {
    run = run_at u (Some sides) zap lines bound;
    runs = record { tables = u; stands = refl; is = refl };
    ends = record { outcome = e; turns = refl; output = refl; events = refl; sides = refl; names = refl };
  },
  refl,
)

some_and : (o : Option Outcome) (P : Outcome → Type 0) → IsSomeAnd o P → (x : Outcome) × (o ≡ Some x) × P x
some_and None P h = absurd h
some_and (Some x) P h = (x, refl, h)

unit_right : (u : Stored) (lines : List ScriptLine) (bound : ℕ) (zap : Bool) (ran : Ran) (names : List (List ℕ)) (shown : Shown) → RanAs (run_at u None zap lines bound) ran
    → shown.output ≡ (end_of (run_at u None zap lines bound)).output → names ≡ u.names → SettlesAlike u bound zap lines ran → IsUndefinedByAll u bound zap lines ran
    → IsRight (UnitGives (whole_unit u) lines (task.Settle bound zap)) bound (ending_of ran names shown)
unit_right u lines bound zap ran names shown is printed named alike all = record {
  alike = λ decided. let a = alike decided in record {
    again = ending_by (run_at u (Some (map is_high ran.sides)) zap lines bound) (whole_unit u).names ran.outcome;
    gives = run_gives u lines bound zap (map is_high ran.sides) ran.outcome (a.outcome ∙ is.outcome);
    outcome = refl;
    turns = a.turns ∙ sym is.turns;
    output = a.output ∙ sym printed;
    names = sym named;
  };
  sooner = λ undefined sides many.
      let b = all undefined sides many in
      let o = some_and (outcome_of (run_at u (Some sides) zap lines bound)) IsUndefined b.undefined in
      record {
        again = ending_by (run_at u (Some sides) zap lines bound) (whole_unit u).names o.0;
        gives = run_gives u lines bound zap sides o.0 o.1;
        undefined = o.2;
        sooner = b.turns;
      };
}

settled_by : (u : Stored) (lines : List ScriptLine) (bound : ℕ) (zap : Bool) (sides : Option (List Bool)) (ran : Ran) (names : List (List ℕ)) (shown : Shown)
    → RanAs (run_at u sides zap lines bound) ran → shown.output ≡ (end_of (run_at u sides zap lines bound)).output → names ≡ u.names
    → IfNone sides (SettlesAlike u bound zap lines ran) → IfNone sides (IsUndefinedByAll u bound zap lines ran)
    → SettlesRight (UnitGives (whole_unit u) lines (task.Settle bound zap)) (Settled (ending_of ran names shown) bound (is_none sides))
settled_by u lines bound zap None ran names shown is printed named alike all = unit_right u lines bound zap ran names shown is printed named alike all
settled_by u lines bound zap (Some ds) ran names shown is printed named alike all = tt

-- a settled run, whether its sides are listed or not
pub settled_right : (u : Stored) (lines : List ScriptLine) (bound : ℕ) (zap : Bool) (sides : Option (List Bool)) (ran : Ran) (names : List (List ℕ)) (shown : Shown) (listed : Bool)
    → listed ≡ is_none sides → RanAs (run_at u sides zap lines bound) ran → shown.output ≡ (end_of (run_at u sides zap lines bound)).output → names ≡ u.names
    → IfNone sides (SettlesAlike u bound zap lines ran) → IfNone sides (IsUndefinedByAll u bound zap lines ran)
    → SettlesRight (UnitGives (whole_unit u) lines (task.Settle bound zap)) (Settled (ending_of ran names shown) bound listed)
settled_right u lines bound zap sides ran names shown listed told is printed named alike all =
    subst (λ (b : Bool). SettlesRight (UnitGives (whole_unit u) lines (task.Settle bound zap)) (Settled (ending_of ran names shown) bound b)) (sym told)
    (settled_by u lines bound zap sides ran names shown is printed named alike all)

-- ---- sides that are given, or none

pub none_highs : {R : Type 0} (o : Option R) (view : R → List Side) (P : Type 0) → IfNone o P → IfNone (highs o view) P
none_highs None view P p = p
none_highs (Some r) view P p = tt

pub if_none : {R : Type 0} (o : Option R) (P : Type 0) → P → IfNone o P
if_none None P p = p
if_none (Some r) P p = tt
