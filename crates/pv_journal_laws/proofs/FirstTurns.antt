-- The events of a run at a lesser bound are the first events of the run at a greater one (C17 5.1.2.3).
use Rattle.std.proofs.Common.{◌≡◌, ℕ, ◌+◌, ◌<◌, ◌≤◌, Bool, true, false, cond, leb, List, [], ◌∷◌, ◌++◌, length, map, Some, refl, sym, ap, ◌∙◌, ◌⊎◌, inl, inr, append-nil, arith, subst}
use Rattle.std.specs.List.{filter}
use Rattle.std.specs.declared.option.Option.{Option}
use Rattle.std.proofs.lemmas.Bool.Decides.{nat_tests}
use Rattle.pv_script.specs.Lines.{ScriptLine}
use Rattle.pv_typed.specs.Known.{Each}
use Rattle.pv_typed.specs.Tables.{Stored}
use Rattle.pv_watch.specs.declared.event.Event.{Event}
use Rattle.pv_world.specs.Worlds.{Worth}
use Rattle.pv_eval.specs.declared.marked.Marked.{Marked}
use Rattle.pv_eval.specs.States.{Res, end_of}
use Rattle.pv_exec.specs.declared.outcome.Outcome.TheVariants as outcome
use Rattle.pv_exec.specs.Growing.{IsFrom}
use Rattle.pv_exec.specs.Laws.{run_at, IsUpto, IsCut}
use Rattle.pv_exec.specs.Run.{outcome_of}
use Rattle.pv_exec.specs.Outlets.{event_of}
use Rattle.pv_exec.proofs.Cutting.{cut-law, met-law}
use Rattle.pv_exec.proofs.Reaching.{within-bound, all-taken}
use Rattle.pv_journal_laws.specs.Runs.{is_upto}

all_kept : (n k p : ℕ) (ms : List Marked) → k ≤ n → Each (IsUpto k p) ms → filter (is_upto n) (map event_of ms) ≡ map event_of ms
all_kept n k p [] le h = refl
all_kept n k p (m ∷ ms) le h =
    let test : leb m.event.turn n ≡ true = (let g = h.0.0 in grind (arith, nat_tests)) in
    let rest = filter (is_upto n) (map event_of ms) in
    ap (λ b. cond b (m.event ∷ rest) rest) test ∙ ap (λ l. m.event ∷ l) (all_kept n k p ms le h.1)

all_dropped : (n : ℕ) (ms : List Marked) → Each (IsFrom (n + 1)) ms → filter (is_upto n) (map event_of ms) ≡ []
all_dropped n [] h = refl
all_dropped n (m ∷ ms) h =
    let test : leb m.event.turn n ≡ false = (let g = h.0 in grind (arith, nat_tests)) in
    let rest = filter (is_upto n) (map event_of ms) in
    ap (λ b. cond b (m.event ∷ rest) rest) test ∙ all_dropped n ms h.1

both_kept : (n : ℕ) (xs ys : List Marked) → filter (is_upto n) (map event_of (xs ++ ys)) ≡ filter (is_upto n) (map event_of xs) ++ filter (is_upto n) (map event_of ys)
both_kept n [] ys = refl
both_kept n (x ∷ xs) ys = by (leb x.event.turn n) (both_kept n xs ys)
  where
    by : (b : Bool) → filter (is_upto n) (map event_of (xs ++ ys)) ≡ filter (is_upto n) (map event_of xs) ++ filter (is_upto n) (map event_of ys)
        → cond b (x.event ∷ filter (is_upto n) (map event_of (xs ++ ys))) (filter (is_upto n) (map event_of (xs ++ ys))) ≡ cond b (x.event ∷ filter (is_upto n) (map event_of xs)) (filter (is_upto n) (map event_of xs)) ++ filter (is_upto n) (map event_of ys)
    by true h = ap (λ l. x.event ∷ l) h
    by false h = h

module _ (u : Stored) (sides : Option (List Bool)) (zap : Bool) (script : List ScriptLine) (n m : ℕ) (le : n ≤ m) where
  abbrev run : ℕ → Res Worth
  run k = run_at u sides zap script k

  abbrev shown : ℕ → List Event
  shown k = map event_of (end_of (run k)).events

  pub first_events : shown n ≡ filter (is_upto n) (shown m)
  first_events =
      let w = within-bound u n sides zap script in
      let mine : filter (is_upto n) (shown n) ≡ shown n = all_kept n (end_of (run n)).taken (length (end_of (run n)).output) (end_of (run n)).events w.taken w.events in
      by mine (cut-law u sides zap script n m le)
    where
      by : filter (is_upto n) (shown n) ≡ shown n → IsCut n (run n) (run m) → shown n ≡ filter (is_upto n) (shown m)
      by mine (inl e) = sym mine ∙ ap (λ (r : Res Worth). filter (is_upto n) (map event_of (end_of r).events)) (sym e)
      by mine (inr c) =
          let g = c.goes_on in
          sym (ap (λ l. filter (is_upto n) (map event_of l)) g.events ∙ both_kept n (end_of (run n)).events g.more
          ∙ ap (λ l. filter (is_upto n) (shown n) ++ l) (all_dropped n g.more g.later) ∙ append-nil (filter (is_upto n) (shown n)) ∙ mine)

  -- it ends by turns where the other one took more, or as many and ended by turns
  pub turns_so : outcome_of (run n) ≡ Some outcome.Turns → (n < (end_of (run m)).taken) ⊎ (((end_of (run m)).taken ≡ n) × (outcome_of (run m) ≡ Some outcome.Turns))
  turns_so h = by (cut-law u sides zap script n m le)
    where
      by : IsCut n (run n) (run m) → (n < (end_of (run m)).taken) ⊎ (((end_of (run m)).taken ≡ n) × (outcome_of (run m) ≡ Some outcome.Turns))
      by (inl e) = inr (ap (λ (r : Res Worth). (end_of r).taken) e ∙ all-taken u n sides zap script h, ap outcome_of e ∙ h)
      by (inr c) = inl (let g = c.goes_on.taken in omega (arith, g))

  -- and nowhere else
  pub turns_only_so : (n < (end_of (run m)).taken) ⊎ (((end_of (run m)).taken ≡ n) × (outcome_of (run m) ≡ Some outcome.Turns)) → outcome_of (run n) ≡ Some outcome.Turns
  turns_only_so (inl h) = met-law u sides zap script n m le h
  turns_only_so (inr h) = let same : m ≡ n = sym (all-taken u m sides zap script h.1) ∙ h.0 in subst (λ k. outcome_of (run k) ≡ Some outcome.Turns) same h.1
