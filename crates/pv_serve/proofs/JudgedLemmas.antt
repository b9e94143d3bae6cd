-- A source with its script comes to one verdict, or is run; and one byte above a limit tells as much as all that follow.
use Rattle.std.proofs.Common.{◌≡◌, ◌⊎◌, ℕ, ◌≤◌, Bool, List, length, refl, sym, ap, ◌∙◌, subst, arith, inl, inr}
use Rattle.std.proofs.lemmas.Bool.{cases_lt}
use Rattle.std.specs.Prelude.{Option, Result, Ok, Err, Some}
use Rattle.pv_script.specs.declared.scripts.ScriptError.{ScriptError}
use Rattle.pv_script.specs.Lines.{ScriptLine}
use Rattle.pv_script.specs.Scripts.{script_of}
use Rattle.pv_typed.specs.TypedUnits.{WholeUnit}
use Rattle.pv_watch.specs.declared.event.Event.{Event}
use Rattle.pv_world.specs.Worlds.{Worth}
use Rattle.pv_eval.specs.States.{Res}
use Rattle.pv_exec.specs.declared.outcome.Outcome.{Outcome}
use Rattle.pv_exec.specs.declared.sides.Side.{Side}
use Rattle.pv_describe.specs.Describing.{check_text, layout_text}
use Rattle.pv_serve.specs.declared.words.Task.{Task}
use Rattle.pv_serve.specs.declared.words.Task.TheVariants as task
use Rattle.pv_serve.specs.Verdicts.{Refusal, Verdict, Ending, Described, Refused, Size, Script}
use Rattle.pv_serve.specs.Readings.{Reading, Program, Bad}
use Rattle.pv_serve.specs.Comes.{Comes, source_limit}
use Rattle.pv_serve.specs.Judged.{Judged, Oversize, Unread, Unfit, Fit, UnitGives, Ends}
use Rattle.pv_serve.specs.Plans.{late_plan, settled_plan}
use Rattle.pv_serve.specs.OneVerdict.{IsLeftToRun, BothRun}
use Rattle.pv_serve.proofs.ComesLemmas.{comes_to_one, comes_to_some}

-- ---- one end of a run

abbrev ending : Outcome → ℕ → List ℕ → List Event → List Side → List (List ℕ) → Ending
ending o turns output events sides names = record { outcome = o; turns = turns; output = output; events = events; sides = sides; names = names }

some_same : {A : Type 0} (x y : A) → Some x ≡ Some y → x ≡ y
some_same x y e = cc

pub one_end : (run : Res Worth) (names : List (List ℕ)) (e f : Ending) → Ends run names e → Ends run names f → e ≡ f
one_end run names e f a b =
    ap (λ (o : Outcome). ending o e.turns e.output e.events e.sides e.names) (some_same e.outcome f.outcome (sym a.outcome ∙ b.outcome))
    ∙ ap (λ (n : ℕ). ending f.outcome n e.output e.events e.sides e.names) (a.turns ∙ sym b.turns)
    ∙ ap (λ (bytes : List ℕ). ending f.outcome f.turns bytes e.events e.sides e.names) (a.output ∙ sym b.output)
    ∙ ap (λ (events : List Event). ending f.outcome f.turns f.output events e.sides e.names) (a.events ∙ sym b.events)
    ∙ ap (λ (sides : List Side). ending f.outcome f.turns f.output f.events sides e.names) (a.sides ∙ sym b.sides)
    ∙ ap (λ (texts : List (List ℕ)). ending f.outcome f.turns f.output f.events f.sides texts) (a.names ∙ sym b.names)

-- ---- some verdict

abbrev Has : (source script : List ℕ) → Task → Option (List Bool) → Type 0
Has source script t sides = ((v : Verdict) × Judged source script t sides v) ⊎ IsLeftToRun source script t sides

has_unit : (source script : List ℕ) (t : Task) (sides : Option (List Bool)) (lines : List ScriptLine) (unit : WholeUnit) → length source ≤ source_limit → script_of script ≡ Ok lines
    → Comes source (Program unit) → Has source script t sides
has_unit source script (task.Run bound zap) sides lines unit short e c = inr (record {
  plan = late_plan bound zap;
  asks = refl;
  job = record { lines = lines; unit = unit; short = short; reads = e; comes = c };
  verdict = λ f ends. Fit lines unit short e c (f, ends, refl);
})
has_unit source script (task.Settle bound zap) sides lines unit short e c = inr (record {
  plan = settled_plan bound zap sides;
  asks = refl;
  job = record { lines = lines; unit = unit; short = short; reads = e; comes = c };
  verdict = λ f ends. Fit lines unit short e c (f, ends, refl);
})
has_unit source script task.Check sides lines unit short e c = inl (Described (check_text unit), Fit lines unit short e c refl)
has_unit source script task.Layout sides lines unit short e c = inl (Described (layout_text unit), Fit lines unit short e c refl)

has_reading : (source script : List ℕ) (t : Task) (sides : Option (List Bool)) (lines : List ScriptLine) (r : Reading) → length source ≤ source_limit → script_of script ≡ Ok lines
    → Comes source r → Has source script t sides
has_reading source script t sides lines (Program unit) short e c = has_unit source script t sides lines unit short e c
has_reading source script t sides lines (Bad refusal) short e c = inl (Refused refusal, Unfit lines refusal short e c refl)

has_script : (source script : List ℕ) (t : Task) (sides : Option (List Bool)) (r : Result (List ScriptLine) ScriptError) → length source ≤ source_limit → script_of script ≡ r → Has source script t sides
has_script source script t sides (Err why) short e = inl (Script why, Unread why short e refl)
has_script source script t sides (Ok lines) short e = let c = comes_to_some source in has_reading source script t sides lines c.0 short e c.1

pub some_verdict : (source script : List ℕ) (t : Task) (sides : Option (List Bool)) → Has source script t sides
some_verdict source script t sides = elim (cases_lt source_limit (length source)) as (λ _. Has source script t sides) [
  | inl long ↦ inl (Refused Size, Oversize long refl)
  | inr short ↦ has_script source script t sides (script_of script) (omega arith) refl
]

-- ---- no other

abbrev Meet : (source script : List ℕ) → Task → Option (List Bool) → (v w : Verdict) → Type 0
Meet source script t sides v w = (v ≡ w) ⊎ BothRun source script t sides v w

ok_same : {A E : Type 0} (x y : A) → ◌≡◌ {A = Result A E} (Ok x) (Ok y) → x ≡ y
ok_same x y e = cc

err_same : {A E : Type 0} (x y : E) → ◌≡◌ {A = Result A E} (Err x) (Err y) → x ≡ y
err_same x y e = cc

ok_err : {A E : Type 0} (x : A) (y : E) → ◌≡◌ {A = Result A E} (Ok x) (Err y) → ⊥
ok_err x y e = cc

bad_same : (r s : Refusal) → Bad r ≡ Bad s → r ≡ s
bad_same r s e = cc

program_same : (u v : WholeUnit) → Program u ≡ Program v → u ≡ v
program_same u v e = cc

program_bad : (u : WholeUnit) (r : Refusal) → Program u ≡ Bad r → ⊥
program_bad u r e = cc

gives_one : (source script : List ℕ) (t : Task) (sides : Option (List Bool)) (lines : List ScriptLine) (unit : WholeUnit) (v w : Verdict) → length source ≤ source_limit
    → script_of script ≡ Ok lines → Comes source (Program unit) → UnitGives unit lines t sides v → UnitGives unit lines t sides w → Meet source script t sides v w
gives_one source script (task.Run bound zap) sides lines unit v w short e c g h = inr (record {
  plan = late_plan bound zap;
  asks = refl;
  job = record { lines = lines; unit = unit; short = short; reads = e; comes = c };
  one = g.0;
  other = h.0;
  ends = g.1;
  others = h.1;
  is_one = g.2;
  is_other = h.2;
})
gives_one source script (task.Settle bound zap) sides lines unit v w short e c g h = inr (record {
  plan = settled_plan bound zap sides;
  asks = refl;
  job = record { lines = lines; unit = unit; short = short; reads = e; comes = c };
  one = g.0;
  other = h.0;
  ends = g.1;
  others = h.1;
  is_one = g.2;
  is_other = h.2;
})
gives_one source script task.Check sides lines unit v w short e c g h = inl (g ∙ sym h)
gives_one source script task.Layout sides lines unit v w short e c g h = inl (g ∙ sym h)

fits_meet : (source script : List ℕ) (t : Task) (sides : Option (List Bool)) (ls ms : List ScriptLine) (u x : WholeUnit) (v w : Verdict) → length source ≤ source_limit
    → script_of script ≡ Ok ls → script_of script ≡ Ok ms → Comes source (Program u) → Comes source (Program x) → UnitGives u ls t sides v → UnitGives x ms t sides w
    → Meet source script t sides v w
fits_meet source script t sides ls ms u x v w short e f c d g h =
    let lines : ms ≡ ls = ok_same ms ls (sym f ∙ e) in
    let units : x ≡ u = program_same x u (comes_to_one source (Program x) (Program u) d c) in
    gives_one source script t sides ls u v w short e c g
    (subst (λ (k : WholeUnit). UnitGives k ls t sides w) units (subst (λ (k : List ScriptLine). UnitGives x k t sides w) lines h))

pub one_verdict : (source script : List ℕ) (t : Task) (sides : Option (List Bool)) (v w : Verdict) → Judged source script t sides v → Judged source script t sides w → Meet source script t sides v w
one_verdict source script t sides v w (Oversize l p) (Oversize m q) = inl (p ∙ sym q)
one_verdict source script t sides v w (Oversize l p) (Unread y m f q) = absurd (omega arith)
one_verdict source script t sides v w (Oversize l p) (Unfit ms s m f d q) = absurd (omega arith)
one_verdict source script t sides v w (Oversize l p) (Fit ms x m f d h) = absurd (omega arith)
one_verdict source script t sides v w (Unread y l e p) (Oversize m q) = absurd (omega arith)
one_verdict source script t sides v w (Unread y l e p) (Unread z m f q) = inl (p ∙ ap Script (err_same y z (sym e ∙ f)) ∙ sym q)
one_verdict source script t sides v w (Unread y l e p) (Unfit ms s m f d q) = absurd (ok_err ms y (sym f ∙ e))
one_verdict source script t sides v w (Unread y l e p) (Fit ms x m f d h) = absurd (ok_err ms y (sym f ∙ e))
one_verdict source script t sides v w (Unfit ls r l e c p) (Oversize m q) = absurd (omega arith)
one_verdict source script t sides v w (Unfit ls r l e c p) (Unread z m f q) = absurd (ok_err ls z (sym e ∙ f))
one_verdict source script t sides v w (Unfit ls r l e c p) (Unfit ms s m f d q) = inl (p ∙ ap Refused (bad_same r s (comes_to_one source (Bad r) (Bad s) c d)) ∙ sym q)
one_verdict source script t sides v w (Unfit ls r l e c p) (Fit ms x m f d h) = absurd (program_bad x r (comes_to_one source (Program x) (Bad r) d c))
one_verdict source script t sides v w (Fit ls u l e c g) (Oversize m q) = absurd (omega arith)
one_verdict source script t sides v w (Fit ls u l e c g) (Unread z m f q) = absurd (ok_err ls z (sym e ∙ f))
one_verdict source script t sides v w (Fit ls u l e c g) (Unfit ms s m f d q) = absurd (program_bad u s (comes_to_one source (Program u) (Bad s) c d))
one_verdict source script t sides v w (Fit ls u l e c g) (Fit ms x m f d h) = fits_meet source script t sides ls ms u x v w l e f c d g h
