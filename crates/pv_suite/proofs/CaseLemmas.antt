-- What one case comes to.
use Rattle.std.proofs.Common.{◌≡◌, ℕ, ◌+◌, true, false, List, [], take, sym, ap, ◌∙◌, subst}
use Rattle.std.specs.Prelude.{Option, Some, None}
use Rattle.pv_script.specs.Outside.{Gains}
use Rattle.pv_serve.specs.declared.words.Task.TheVariants as task
use Rattle.pv_serve.specs.declared.judging.Judgement.{Judgement}
use Rattle.pv_serve.specs.Judged.{Judged, script_limit}
use Rattle.pv_serve.specs.Judging.{Shown, verdict_of}
use Rattle.pv_serve.specs.ReportParts.{output_of, report_line}
use Rattle.pv_serve.specs.Settling.{IsOutcome}
use Rattle.pv_serve.specs.Outside.{Sunk, Halls, Wrote}
use Rattle.pv_serve.proofs.Limits.{more_decides}
use Rattle.pv_serve.proofs.OutcomeLemmas.{judged_of}
use Rattle.pv_cases.specs.Cases.{SuiteCase}
use Rattle.pv_cases.specs.Suites.{Gave, CaseTold, told_of}
use Rattle.pv_suite.specs.Answers.{Given, CaseComes, clause_of, is_long, wanted_of}
use Rattle.pv_suite.specs.Answering.{AreRead, IsRead, IsCaseOf}
use Rattle.pv_suite.proofs.FilesLemmas.{same_length, same_output}

-- ---- from what `judge` answers

-- what an empty sink holds
gained : (out : Sunk) (bytes output : List ℕ) → out.old ≡ Some [] → out.new ≡ Some output → Wrote out bytes → output ≡ bytes
gained out bytes output empty now wrote =
    (subst (λ (n : Option (List ℕ)). Gains (Some []) n bytes) now (subst (λ (o : Option (List ℕ)). Gains o out.new bytes) empty wrote)).adds

-- the line, the output and the clause of what `judge` answers are those of a verdict
pub comes_by : (source script : List ℕ) (bound : ℕ) (out : Sunk) (hall : Halls) (j : Judgement) (line output : List ℕ) (clause : Option (List ℕ)) → out.old ≡ Some [] → out.new ≡ Some output
    → IsOutcome source script bound true None out hall j → ((shown : Shown) → line ≡ report_line (verdict_of j shown)) → ((shown : Shown) → clause ≡ clause_of (verdict_of j shown))
    → CaseComes source script bound (record { line = line; output = output; clause = clause })
comes_by source script bound out hall j line output clause empty now is told broken =
    let judged = judged_of source script bound true out hall j is in
    let verdict = verdict_of j judged.shown in
    let printed : output ≡ output_of verdict = gained out (output_of verdict) output empty now judged.gains in
    record {
      verdict = verdict;
      judged = judged.judged;
      is = λ i. record { line = told judged.shown i; output = printed i; clause = broken judged.shown i };
    }

-- ---- for the code that compares

-- the bytes of two slices
pub of_bytes : (a b x y : List ℕ) (bound : ℕ) (gave : Gave) → a ≡ x → b ≡ y → CaseComes a b bound gave → CaseComes x y bound gave
of_bytes a b x y bound gave e f comes = subst (λ (s : List ℕ). CaseComes s y bound gave) e (subst (λ (t : List ℕ). CaseComes a t bound gave) f comes)

-- what is told is told of what the slices hold
pub compared : (n : ℕ) (line : List ℕ) (o p : Option (List ℕ)) (a b x y : List ℕ) (k : Option (List ℕ)) (t : CaseTold)
    → t ≡ told_of n (record { line = line; output = o }) (record { line = a; output = x; clause = k }) → o ≡ p → a ≡ b → x ≡ y
    → t ≡ told_of n (record { line = line; output = p }) (record { line = b; output = y; clause = k })
compared n line o p a b x y k t is e f h = is ∙ (λ i. told_of n (record { line = line; output = e i }) (record { line = f i; output = h i; clause = k }))

-- ---- from what was read to what the files hold

pub case_long : (n : ℕ) (c : SuiteCase) (held : Option Given) (read : Given) → IsRead held read → is_long read.output ≡ true → IsCaseOf n c held None
case_long n c None read is long = tt
case_long n c (Some g) read is long = sym (ap is_long is.output ∙ same_length g.output) ∙ long

all_comes : (g read : Given) (bound : ℕ) (gave : Gave) → AreRead g read → CaseComes read.source read.script bound gave → CaseComes g.source g.script bound gave
all_comes g read bound gave is comes = record {
  verdict = comes.verdict;
  judged = more_decides g.source g.script (task.Run bound true) None comes.verdict
      (subst (λ (s : List ℕ). Judged s (take (script_limit + 1) g.script) (task.Run bound true) None comes.verdict) is.source
      (subst (λ (t : List ℕ). Judged read.source t (task.Run bound true) None comes.verdict) is.script comes.judged));
  is = comes.is;
}

pub case_told : (n : ℕ) (c : SuiteCase) (held : Option Given) (read : Given) (t : CaseTold) → IsRead held read → is_long read.output ≡ false
    → (gave : Gave) × CaseComes read.source read.script c.bound gave × (t ≡ told_of n (wanted_of c read) gave) → IsCaseOf n c held (Some t)
case_told n c None read t is fits told = tt
case_told n c (Some g) read t is fits told =
    let short = sym (ap is_long is.output ∙ same_length g.output) ∙ fits in
    record {
      fits = short;
      gave = told.0;
      comes = all_comes g read c.bound told.0 is told.1;
      is = told.2 ∙ ap (λ (o : Option (List ℕ)). told_of n (record { line = c.expected; output = o }) told.0) (is.output ∙ same_output g.output short);
    }
