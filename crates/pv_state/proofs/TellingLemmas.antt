-- What is told at places, by what runs answer.
use Rattle.std.proofs.Common.{◌≡◌, ◌⊎◌, ℕ, zero, suc, ◌+◌, ◌<◌, ◌≤◌, Bool, true, false, List, [], ◌∷◌, ◌++◌, length, drop, drop-cons, get_or, add-one, codes, refl, sym, ap, ◌∙◌, subst, arith, append_assoc, Vec, Global}
use Rattle.std.specs.Prelude.{Option, None, Result, Ok, Err, IfOk, if◌then◌else◌}
use Rattle.std.specs.Fmt.{decimal}
use Rattle.std.specs.declared.alloc.AllocError.{AllocError}
use Rattle.pv_script.specs.Lines.{ScriptLine}
use Rattle.pv_script.specs.Scripts.{script_of}
use Rattle.pv_typed.specs.TypedUnits.{WholeUnit}
use Rattle.pv_typed.specs.Tables.{Stored, whole_unit}
use Rattle.pv_world.specs.Worlds.{Worth}
use Rattle.pv_eval.specs.States.{Res, end_of}
use Rattle.pv_exec.specs.declared.program.Ran.{Ran}
use Rattle.pv_exec.specs.Answering.{RanAs}
use Rattle.pv_exec.specs.Run.{setting_of, run_of}
use Rattle.pv_serve.specs.declared.judging.Judgement.TheVariants as judgement
use Rattle.pv_serve.specs.declared.telling.Reply as code
use Rattle.pv_serve.specs.Verdicts.{Refused, Script}
use Rattle.pv_serve.specs.Judged.{IsToRun}
use Rattle.pv_serve.specs.Judging.{Shown, nothing_shown, verdict_of}
use Rattle.pv_serve.specs.Loading.{refusal_of, IsSourceRefused, IsScriptRefused, IsLoadedProgram}
use Rattle.pv_serve.specs.ReportParts.{outcome_line, report_line, status_of}
use Rattle.pv_serve.specs.Replying.{reply_view, IsOwn}
use Rattle.pv_serve.proofs.RepliesLemmas.{small}
use Rattle.pv_serve.specs.declared.words.Task.TheVariants as task
use Rattle.pv_values.specs.Standing.{line, state_text}
use Rattle.pv_state.specs.declared.words.Place.{Place}
use Rattle.pv_state.specs.declared.words.Place.TheVariants as place
use Rattle.pv_state.specs.Words.{Look}
use Rattle.pv_state.specs.Answers.{is_turns, bound_at, turn_text, place_text, IsToldAt, AreTold, IsAnswered, Refusing, Telling}

-- ---- a script is read again

ok_same : {A E : Type 0} (a b : A) → ◌≡◌ {A = Result A E} (Ok a) (Ok b) → a ≡ b
ok_same a b e = cc

pub by_script : (u : Stored) (l : Look) (p : Place) (text : List ℕ) (read lines : List ScriptLine) (r : Result (Vec ℕ Global) AllocError) → Ok read ≡ script_of text → script_of text ≡ Ok lines
    → IfOk r (λ v. IsToldAt (whole_unit u) read l p v.items) → IfOk r (λ v. IsToldAt (whole_unit u) lines l p v.items)
by_script u l p text read lines r first second h = subst (λ (ls : List ScriptLine). IfOk r (λ v. IsToldAt (whole_unit u) ls l p v.items)) (ok_same read lines (first ∙ second)) h

-- ---- one place

-- where something is so, something else is
pub if_ok : {A E : Type 0} (r : Result A E) (P Q : A → Type 0) → ((a : A) → P a → Q a) → IfOk r P → IfOk r Q
if_ok (Ok a) P Q f h = f a h
if_ok (Err e) P Q f h = tt

-- what is told of a run to the bound of a place
told_at : (u : Stored) (lines : List ScriptLine) (l : Look) (p : Place) (bound : ℕ) (ran : Ran) (text : List ℕ) → bound ≡ bound_at l p → RanAs (run_of (setting_of u bound l.sides l.zap) lines) ran
    → text ≡ place_text (whole_unit u) l p ran.outcome (end_of (run_of (setting_of u bound l.sides l.zap) lines)) → IsToldAt (whole_unit u) lines l p text
told_at u lines l p bound ran text is h told = record {
  run = run_of (setting_of u bound l.sides l.zap) lines;
  runs = record { tables = u; stands = refl; is = ap (λ (n : ℕ). run_of (setting_of u n l.sides l.zap) lines) is };
  outcome = ran.outcome;
  ended = h.outcome;
  told = told;
}

pub all_told_at : (u : Stored) (lines : List ScriptLine) (l : Look) (p : Place) (bound : ℕ) (ran : Ran) (r : Result (Vec ℕ Global) AllocError) → bound ≡ bound_at l p
    → RanAs (run_of (setting_of u bound l.sides l.zap) lines) ran → ((run : Res Worth) → RanAs run ran → IfOk r (λ v. v.items ≡ place_text (whole_unit u) l p ran.outcome (end_of run)))
    → IfOk r (λ v. IsToldAt (whole_unit u) lines l p v.items)
all_told_at u lines l p bound ran r is h told =
    if_ok r (λ v. v.items ≡ place_text (whole_unit u) l p ran.outcome (end_of (run_of (setting_of u bound l.sides l.zap) lines))) (λ v. IsToldAt (whole_unit u) lines l p v.items)
    (λ v e. told_at u lines l p bound ran v.items is h e) (told _ h)

-- the text of the end, by the run's own words
pub end_told : (u : Stored) (l : Look) (p : Place) (ran : Ran) (run : Res Worth) (r : Result (Vec ℕ Global) AllocError) → p ≡ place.End → RanAs run ran
    → IfOk r (λ v. v.items ≡ outcome_line ran.outcome u.names ran.turns l.bound ++ state_text (whole_unit u) ran.world l.all)
    → IfOk r (λ v. v.items ≡ place_text (whole_unit u) l p ran.outcome (end_of run))
end_told u l p ran run r ep h told = subst (λ (q : Place). IfOk r (λ v. v.items ≡ place_text (whole_unit u) l q ran.outcome (end_of run))) (sym ep)
    (if_ok r (λ v. v.items ≡ outcome_line ran.outcome u.names ran.turns l.bound ++ state_text (whole_unit u) ran.world l.all)
    (λ v. v.items ≡ place_text (whole_unit u) l place.End ran.outcome (end_of run))
    (λ v e. e ∙ (λ i. outcome_line ran.outcome u.names (h.turns i) l.bound ++ state_text (whole_unit u) (h.world i) l.all)) told)

if_true : {A : Type 0} (b : Bool) (x y : A) → b ≡ true → x ≡ (if b then x else y)
if_true true x y is = refl
if_true false x y is = absurd cc

-- the text of a turn that is due
pub due_told : (u : Stored) (all : Bool) (n : ℕ) (ran : Ran) (run : Res Worth) (r : Result (Vec ℕ Global) AllocError) → RanAs run ran → is_turns ran.outcome ≡ true
    → IfOk r (λ v. v.items ≡ line (codes "turn " ++ decimal n) ++ state_text (whole_unit u) ran.world all) → IfOk r (λ v. v.items ≡ turn_text (whole_unit u) all n ran.outcome (end_of run))
due_told u all n ran run r h due told = if_ok r (λ v. v.items ≡ line (codes "turn " ++ decimal n) ++ state_text (whole_unit u) ran.world all)
    (λ v. v.items ≡ turn_text (whole_unit u) all n ran.outcome (end_of run))
    (λ v e. e ∙ (λ i. line (codes "turn " ++ decimal n) ++ state_text (whole_unit u) (h.world i) all) ∙ if_true (is_turns ran.outcome) _ (line (codes "turn " ++ decimal n ++ codes " not taken")) due)
    told

-- ---- places, one behind the other

-- what is told of those that are left leads to what is told of all
abbrev pub Leads : WholeUnit → List ScriptLine → Look → (ps left : List Place) → (text : List ℕ) → Type 0
Leads u lines l ps left text = (rest : List ℕ) → AreTold u lines l left rest → AreTold u lines l ps (text ++ rest)

pub told_next : (u : WholeUnit) (lines : List ScriptLine) (l : Look) (ps : List Place) (i : ℕ) (d : Place) (text one shown new : List ℕ) → i < length ps → new ≡ text ++ shown → shown ≡ one
    → IsToldAt u lines l (get_or ps i d) one → Leads u lines l ps (drop i ps) text → Leads u lines l ps (drop (i + 1) ps) new
told_next u lines l ps i d text one shown new lt en es told before = λ rest h.
    let left : AreTold u lines l (drop (suc i) ps) rest = rw add-one at h in
    let is : new ≡ text ++ one = en ∙ ap (λ (t : List ℕ). text ++ t) es in
    subst (λ (t : List ℕ). AreTold u lines l ps t) (sym (ap (λ x. x ++ rest) is ∙ append_assoc text one rest))
    (before (one ++ rest) (subst (λ (qs : List Place). AreTold u lines l qs (one ++ rest)) (sym (drop-cons ps i d lt)) (one, rest, told, left, refl)))

append_none : (xs : List ℕ) → xs ++ [] ≡ xs
append_none [] = refl
append_none (x ∷ xs) = ap (λ ys. x ∷ ys) (append_none xs)

drop_all : {A : Type 0} (i : ℕ) (xs : List A) → length xs ≤ i → drop i xs ≡ []
drop_all i [] le = drop_none i
  where
    drop_none : {A : Type 0} (i : ℕ) → ◌≡◌ {A = List A} (drop i []) []
    drop_none zero = refl
    drop_none (suc i) = refl
drop_all zero (x ∷ xs) le = absurd (omega (arith, le))
drop_all (suc i) (x ∷ xs) le = drop_all i xs (omega (arith, le))

pub told_all : (u : WholeUnit) (lines : List ScriptLine) (l : Look) (ps : List Place) (i : ℕ) (text : List ℕ) → length ps ≤ i → Leads u lines l ps (drop i ps) text → AreTold u lines l ps text
told_all u lines l ps i text le leads = subst (λ (t : List ℕ). AreTold u lines l ps t) (append_none text) (leads [] (subst (λ (qs : List Place). AreTold u lines l qs []) (sym (drop_all i ps le)) refl))

-- ---- the reply

pub told_reply : (source script text : List ℕ) (u : Stored) (lines : List ScriptLine) (l : Look) (ps : List Place) (a : code.Reply) → IsLoadedProgram source script u lines
    → AreTold (whole_unit u) lines l ps text → reply_view a ≡ record { status = 0; text = text } → IsAnswered l ps source script (reply_view a)
told_reply source script text u lines l ps a h told is = Telling (record { lines = lines; unit = whole_unit u; short = h.short; reads = h.reads; comes = h.comes }) text told is

pub refused_source : (source script : List ℕ) (l : Look) (ps : List Place) (why : _) (r : Result code.Reply AllocError) → IsSourceRefused source script why
    → ((shown : Shown) → IfOk r (λ a. reply_view a ≡ record { status = status_of (verdict_of (judgement.Source why) shown); text = report_line (verdict_of (judgement.Source why) shown) }))
    → IfOk r (λ a. IsAnswered l ps source script (reply_view a))
refused_source source script l ps why (Err e) h told = tt
refused_source source script l ps why (Ok a) h told = Refusing (Refused (refusal_of why)) (h.judged task.Check None) refl (told nothing_shown)

pub refused_script : (source script : List ℕ) (l : Look) (ps : List Place) (why : _) (r : Result code.Reply AllocError) → IsScriptRefused source script why
    → ((shown : Shown) → IfOk r (λ a. reply_view a ≡ record { status = status_of (verdict_of (judgement.Script why) shown); text = report_line (verdict_of (judgement.Script why) shown) }))
    → IfOk r (λ a. IsAnswered l ps source script (reply_view a))
refused_script source script l ps why (Err e) h told = tt
refused_script source script l ps why (Ok a) h told = Refusing (Script why) (h.judged task.Check None) refl (told nothing_shown)

pub own_shown : (r : Result code.Reply AllocError) → IfOk r (λ a. a.status ≡ 0) → IfOk r (λ a. IsOwn a.status)
own_shown (Err e) h = tt
own_shown (Ok a) h = small a.status (omega (arith, h))
