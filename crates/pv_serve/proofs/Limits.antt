-- One byte above a limit tells as much as all that follow.
use Rattle.std.proofs.Common.{◌≡◌, ℕ, ◌+◌, ◌<◌, ◌≤◌, List, [], take, length, Bool, true, refl, sym, ap, ◌∙◌, subst, arith, inl, inr}
use Rattle.std.proofs.lemmas.Bool.{cases_lt, lt-ltb}
use Rattle.std.proofs.lemmas.List.{take_all, length-take}
use Rattle.std.specs.Prelude.{Option, Err, if◌then◌else◌, nat_lt, ◌==◌}
use Rattle.std.specs.List.{slice_split}
use Rattle.pv_script.specs.declared.scripts.ScriptError.TheVariants as error
use Rattle.pv_script.specs.Scripts.{script_of, all_said, after_lines}
use Rattle.pv_eval.specs.States.{State}
use Rattle.pv_serve.specs.declared.words.Task.{Task}
use Rattle.pv_serve.specs.Verdicts.{Verdict}
use Rattle.pv_serve.specs.Readings.{Program}
use Rattle.pv_serve.specs.Comes.{Comes, source_limit}
use Rattle.pv_serve.specs.Judged.{Judged, Oversize, Unread, Unfit, Fit, IsToRun, SomeRun, script_limit}

-- the same for any limit
long_part : (limit : ℕ) (all : List ℕ) → limit < length all → length (take (limit + 1) all) ≡ limit + 1
long_part limit all long = simp length-take (omega arith)

pub short_part : (limit : ℕ) (all : List ℕ) → length all ≤ limit → take (limit + 1) all ≡ all
short_part limit all short = take_all (limit + 1) all (omega arith)

pub was_short : (limit : ℕ) (all : List ℕ) → length (take (limit + 1) all) ≤ limit → length all ≤ limit
was_short limit all short = omega (arith, length-take (limit + 1) all)

pub was_long : (limit : ℕ) (all : List ℕ) → limit < length (take (limit + 1) all) → limit < length all
was_long limit all long = omega (arith, length-take (limit + 1) all)

-- ---- scripts

pub script_limit_is : script_limit ≡ 65536
unfolding script_limit
script_limit_is = refl

above : (n : ℕ) → script_limit < n → nat_lt 65536 n ≡ true
above n more = lt-ltb 65536 n (omega (arith, script_limit_is))

script_long : (text : List ℕ) → script_limit < length text → script_of text ≡ Err error.Size
script_long text long =
    ap (λ (b : Bool). if b then Err error.Size else all_said (after_lines 1 (slice_split (λ c. c == 10) text) [])) (above (length text) long)

pub script_cut : (text : List ℕ) → script_of (take (script_limit + 1) text) ≡ script_of text
script_cut text = elim (cases_lt script_limit (length text)) [
  | inl long ↦ script_long (take (script_limit + 1) text) (omega (arith, long_part script_limit text long)) ∙ sym (script_long text long)
  | inr short ↦ ap script_of (short_part script_limit text short)
]

same_script : (source a b : List ℕ) (t : Task) (sides : Option (List Bool)) (v : Verdict) → script_of a ≡ script_of b → Judged source a t sides v → Judged source b t sides v
same_script source a b t sides v same (Oversize l p) = Oversize l p
same_script source a b t sides v same (Unread y l e p) = Unread y l (sym same ∙ e) p
same_script source a b t sides v same (Unfit ls r l e c p) = Unfit ls r l (sym same ∙ e) c p
same_script source a b t sides v same (Fit ls u l e c g) = Fit ls u l (sym same ∙ e) c g

-- ---- sources

too_long : (script : List ℕ) (t : Task) (sides : Option (List Bool)) (v : Verdict) (xs ys : List ℕ) → source_limit < length xs → source_limit < length ys → Judged xs script t sides v → Judged ys script t sides v
too_long script t sides v xs ys long long' (Oversize l p) = Oversize long' p
too_long script t sides v xs ys long long' (Unread y l e p) = absurd (omega arith)
too_long script t sides v xs ys long long' (Unfit ls r l e c p) = absurd (omega arith)
too_long script t sides v xs ys long long' (Fit ls u l e c g) = absurd (omega arith)

more_source : (all script : List ℕ) (t : Task) (sides : Option (List Bool)) (v : Verdict) → Judged (take (source_limit + 1) all) script t sides v → Judged all script t sides v
more_source all script t sides v judged = elim (cases_lt source_limit (length all)) [
  | inl long ↦ too_long script t sides v (take (source_limit + 1) all) all (omega (arith, long_part source_limit all long)) long judged
  | inr short ↦ subst (λ (s : List ℕ). Judged s script t sides v) (short_part source_limit all short) judged
]

fewer_source : (all script : List ℕ) (t : Task) (sides : Option (List Bool)) (v : Verdict) → Judged all script t sides v → Judged (take (source_limit + 1) all) script t sides v
fewer_source all script t sides v judged = elim (cases_lt source_limit (length all)) [
  | inl long ↦ too_long script t sides v all (take (source_limit + 1) all) long (omega (arith, long_part source_limit all long)) judged
  | inr short ↦ subst (λ (s : List ℕ). Judged s script t sides v) (sym (short_part source_limit all short)) judged
]

-- ---- both

pub more_decides : (all text : List ℕ) (t : Task) (sides : Option (List Bool)) (v : Verdict) → Judged (take (source_limit + 1) all) (take (script_limit + 1) text) t sides v → Judged all text t sides v
more_decides all text t sides v judged =
    same_script all (take (script_limit + 1) text) text t sides v (script_cut text) (more_source all (take (script_limit + 1) text) t sides v judged)

pub fewer_decide : (all text : List ℕ) (t : Task) (sides : Option (List Bool)) (v : Verdict) → Judged all text t sides v → Judged (take (source_limit + 1) all) (take (script_limit + 1) text) t sides v
fewer_decide all text t sides v judged =
    same_script (take (source_limit + 1) all) text (take (script_limit + 1) text) t sides v (sym (script_cut text)) (fewer_source all text t sides v judged)

abbrev pub to_run : (all text : List ℕ) → IsToRun (take (source_limit + 1) all) (take (script_limit + 1) text) → IsToRun all text
to_run all text job =
    let short = was_short source_limit all job.short in
    record {
      lines = job.lines;
      unit = job.unit;
      short = short;
      reads = sym (script_cut text) ∙ job.reads;
      comes = subst (λ (s : List ℕ). Comes s (Program job.unit)) (short_part source_limit all short) job.comes;
    }

pub more_runs : (all text : List ℕ) (t : Task) (sides : Option (List Bool)) (P : State → List (List ℕ) → Type 0) → SomeRun (take (source_limit + 1) all) (take (script_limit + 1) text) t sides P
    → SomeRun all text t sides P
more_runs all text t sides P p = record { plan = p.plan; asks = p.asks; job = to_run all text p.job; run = p.run; runs = p.runs; holds = p.holds }
