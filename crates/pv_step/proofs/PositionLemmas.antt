-- A position says what the run with that bound says.
use Rattle.std.proofs.Common.{◌≡◌, ℕ, ◌<◌, Bool, true, false, ◌&&◌, ◌||◌, eqb, ltb, List, Some, refl, sym, ap, ◌∙◌, inl, inr, arith}
use Rattle.std.proofs.lemmas.Bool.{and_parts, and_from, lt-ltb}
use Rattle.std.proofs.lemmas.Bool.Decides.{nat_tests, Decides-eqb}
use Rattle.std.proofs.lemmas.Option.{same_Some}
use Rattle.pv_script.specs.Lines.{ScriptLine}
use Rattle.pv_typed.specs.Tables.{Stored}
use Rattle.pv_exec.specs.declared.outcome.Outcome.{Outcome}
use Rattle.pv_exec.specs.declared.outcome.Outcome.TheVariants as outcome
use Rattle.pv_exec.specs.Laws.{IsCut}
use Rattle.pv_exec.specs.Run.{outcome_of}
use Rattle.pv_serve.specs.Verdicts.{Ending}
use Rattle.pv_journal.specs.Journals.{Row}
use Rattle.pv_journal_laws.specs.Runs.{TookAll}
use Rattle.pv_shown.specs.Commands.{last_position}
use Rattle.pv_shown.specs.Shown.{runs_on}
use Rattle.pv_step.specs.Answers.{is_turns, run_of}
use Rattle.pv_step.specs.Positions.{run_with_bound, IsWhole}

turns_is : (o : Outcome) → is_turns o ≡ true → o ≡ outcome.Turns
turns_is (outcome.Exit status) h = absurd cc
turns_is (outcome.Ends v line) h = absurd cc
turns_is (outcome.Placement reason name k line) h = absurd cc
turns_is (outcome.Storage live size line) h = absurd cc
turns_is outcome.Turns h = refl
turns_is (outcome.Abort line) h = absurd cc
turns_is (outcome.SidesEnded pair) h = absurd cc

or_true : (b : Bool) → (b || true) ≡ true
or_true true = refl
or_true false = refl

module _ (u : Stored) (script : List ScriptLine) (e : Ending) (n : ℕ) (whole : IsWhole u script e) where
  pub took_so : (line : List ℕ) (rows : List Row) → runs_on (run_of e.turns e.outcome line rows) n ≡ true → TookAll n (run_with_bound u script last_position)
  took_so line rows h = by (ltb n e.turns) refl h
    where
      by : (b : Bool) → ltb n e.turns ≡ b → (b || (eqb e.turns n && is_turns e.outcome)) ≡ true → TookAll n (run_with_bound u script last_position)
      by true t h = inl (let lt : n < e.turns = grind (arith, nat_tests) in let same = whole.turns in omega (arith, lt, same))
      by false t h =
          let both = and_parts (eqb e.turns n) (is_turns e.outcome) h in
          inr (sym whole.turns ∙ (Decides-eqb e.turns n).0 both.0, whole.outcome ∙ ap Some (turns_is e.outcome both.1))

  pub took_only : (line : List ℕ) (rows : List Row) → TookAll n (run_with_bound u script last_position) → runs_on (run_of e.turns e.outcome line rows) n ≡ true
  took_only line rows (inl lt) =
      let less : n < e.turns = (let same = whole.turns in omega (arith, lt, same)) in
      ap (λ b. b || (eqb e.turns n && is_turns e.outcome)) (lt-ltb n e.turns less)
  took_only line rows (inr both) =
      let turns : eqb e.turns n ≡ true = (Decides-eqb e.turns n).1 (whole.turns ∙ both.0) in
      let ended : is_turns e.outcome ≡ true = ap is_turns (same_Some e.outcome outcome.Turns (sym whole.outcome ∙ both.1)) in
      ap (λ b. ltb n e.turns || b) (and_from (eqb e.turns n) (is_turns e.outcome) turns ended) ∙ or_true (ltb n e.turns)

-- a run that isn't cut off is the whole run
pub same_run : (u : Stored) (script : List ScriptLine) (n m : ℕ) → IsCut n (run_with_bound u script n) (run_with_bound u script m) → (outcome_of (run_with_bound u script n) ≡ Some outcome.Turns → ⊥) → run_with_bound u script n ≡ run_with_bound u script m
same_run u script n m (inl e) other = sym e
same_run u script n m (inr c) other = absurd (other c.outcome)
