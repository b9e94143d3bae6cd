-- From what was read of files to what they hold.
use Rattle.std.proofs.Common.{◌≡◌, inl, inr, ℕ, ◌+◌, Bool, true, cond, List, [], take, length, ltb, sym, ap, ◌∙◌, subst, arith}
use Rattle.std.specs.Prelude.{Option, Some, None, IfSome, Result, Ok, Err}
use Rattle.std.proofs.lemmas.Bool.{lt-ltb, cases_lt}
use Rattle.std.proofs.lemmas.List.{length-take, take_all}
use Rattle.pv_serve.specs.declared.words.Task.TheVariants as task
use Rattle.pv_serve.specs.Comes.{source_limit}
use Rattle.pv_serve.specs.Judged.{Judged, script_limit}
use Rattle.pv_serve.specs.Outside.{Sunk}
use Rattle.pv_serve.specs.Answer.{script_held}
use Rattle.pv_serve.specs.Replies.{Reply}
use Rattle.pv_serve.specs.Replying.{WasTold, WasLost, HadNoRoom}
use Rattle.pv_serve.proofs.ComesLemmas.{source_limit_is}
use Rattle.pv_serve.proofs.Limits.{more_decides}
use Rattle.pv_shown.specs.declared.reading.Command.{Command}
use Rattle.pv_shown.specs.declared.reading.CommandError.{CommandError}
use Rattle.pv_shown.specs.declared.reading.CommandError.TheVariants as error
use Rattle.pv_shown.specs.Commands.{commands_of, commands_limit, lines_of, after_lines, last_position}
use Rattle.pv_step.specs.declared.reading.StepText.{StepText}
use Rattle.pv_step.specs.Words.{StepJob}
use Rattle.pv_step.specs.Answers.{OfFiles, IsStepped, IsBy}
use Rattle.pv_step.specs.Answering.{AreRead, TextServed, JobServed}

-- ---- what the files hold

three_held : (source script commands : Option (List ℕ)) (P Q : (a b c : List ℕ) → Type 0) → ((a b c : List ℕ) → P a b c → Q a b c)
    → IfSome source (λ a. IfSome script (λ b. IfSome commands (P a b))) → IfSome source (λ a. IfSome script (λ b. IfSome commands (Q a b)))
three_held None script commands P Q f h = tt
three_held (Some a) None commands P Q f h = tt
three_held (Some a) (Some b) None P Q f h = tt
three_held (Some a) (Some b) (Some c) P Q f h = f a b c h

pub of_files : (j : StepJob) (held : List ℕ → Option (List ℕ)) (P Q : (a b c : List ℕ) → Type 0) → ((a b c : List ℕ) → P a b c → Q a b c) → OfFiles j held P → OfFiles j held Q
of_files j held P Q f h = three_held (held j.file) (script_held j.script held) (held j.commands) P Q f h

-- what is told of three files, where all of them are told
joined : (source script commands : Option (List ℕ)) (a b c : List ℕ) → IfSome source (λ all. a ≡ take 1048577 all) → IfSome script (λ all. b ≡ take (script_limit + 1) all)
    → IfSome commands (λ all. c ≡ take 65537 all)
    → IfSome source (λ x. IfSome script (λ y. IfSome commands (λ z. (a ≡ take (source_limit + 1) x) × (b ≡ take (script_limit + 1) y) × (c ≡ take 65537 z))))
joined None script commands a b c p q r = tt
joined (Some x) None commands a b c p q r = tt
joined (Some x) (Some y) None a b c p q r = tt
joined (Some x) (Some y) (Some z) a b c p q r = (p ∙ ap (λ (n : ℕ). take (n + 1) x) (sym source_limit_is), q, r)

-- the files are read one after the other, and hold what they held
pub files_read : (j : StepJob) (held mid between : List ℕ → Option (List ℕ)) (source script commands : List ℕ) → ((n : List ℕ) → mid n ≡ held n) → ((n : List ℕ) → between n ≡ mid n)
    → IfSome (held j.file) (λ all. source ≡ take 1048577 all) → IfSome (script_held j.script mid) (λ all. script ≡ take (script_limit + 1) all)
    → IfSome (between j.commands) (λ all. commands ≡ take 65537 all) → AreRead j held source script commands
files_read j held mid between source script commands first later p q r =
    joined (held j.file) (script_held j.script held) (held j.commands) source script commands p
    (subst (λ (h : List ℕ → Option (List ℕ)). IfSome (script_held j.script h) (λ all. script ≡ take (script_limit + 1) all)) (λ i n. first n i) q)
    (subst (λ (o : Option (List ℕ)). IfSome o (λ all. commands ≡ take 65537 all)) (later j.commands ∙ first j.commands) r)

-- ---- a byte above its limit tells as much as all that follow

-- of a file of commands
pub commands_decide : (all : List ℕ) → commands_of (take (commands_limit + 1) all) ≡ commands_of all
commands_decide all = elim (cases_lt commands_limit (length all)) [
  | inl long ↦
      let part : ltb commands_limit (length (take (commands_limit + 1) all)) ≡ true =
      lt-ltb commands_limit (length (take (commands_limit + 1) all)) (omega (arith, length-take (commands_limit + 1) all)) in
      too_long (take (commands_limit + 1) all) part ∙ sym (too_long all (lt-ltb commands_limit (length all) long))
  | inr short ↦ ap commands_of (take_all (commands_limit + 1) all (omega arith))
]
  where
    too_long : (text : List ℕ) → ltb commands_limit (length text) ≡ true → commands_of text ≡ Err error.Size
    too_long text is = ap (λ (b : Bool). cond b (Err error.Size) (after_lines 1 (lines_of text) [])) is

-- of the source and its script
all_looked : (all rest source script : List ℕ) (cs : Result (List Command) CommandError) (a : Reply) → source ≡ take (source_limit + 1) all → script ≡ take (script_limit + 1) rest
    → IsBy source script cs a → IsBy all rest cs a
all_looked all rest source script (Err e) a first second is = is
all_looked all rest source script (Ok cs) a first second is = record {
  verdict = is.verdict;
  judged = more_decides all rest (task.Run last_position true) None is.verdict
      (subst (λ (s : List ℕ). Judged s (take (script_limit + 1) rest) (task.Run last_position true) None is.verdict) first
      (subst (λ (t : List ℕ). Judged source t (task.Run last_position true) None is.verdict) second is.judged));
  shown = is.shown;
}

all_stepped : (all rest lines : List ℕ) (t : StepText) (a : Reply) → t.source.items ≡ take (source_limit + 1) all → t.script.items ≡ take (script_limit + 1) rest
    → t.commands.items ≡ take (commands_limit + 1) lines → IsStepped t.source.items t.script.items t.commands.items a → IsStepped all rest lines a
all_stepped all rest lines t a first second third is =
    subst (λ (cs : Result (List Command) CommandError). IsBy all rest cs a) (ap commands_of third ∙ commands_decide lines)
    (all_looked all rest t.source.items t.script.items (commands_of t.commands.items) a first second is)

-- what came of what was read is what comes of the files
pub text_served : (j : StepJob) (held : List ℕ → Option (List ℕ)) (t : StepText) (faults_old faults_new : List ℕ → ℕ) (report : Sunk) (status : ℕ) → AreRead j held t.source.items t.script.items t.commands.items → TextServed t report status
    → JobServed j held faults_old faults_new report status
text_served j held t fo fn report status read (WasTold a is own handed) =
    WasTold a (of_files j held
    (λ all rest lines. (t.source.items ≡ take (source_limit + 1) all) × (t.script.items ≡ take (script_limit + 1) rest) × (t.commands.items ≡ take (commands_limit + 1) lines))
    (λ all rest lines. IsStepped all rest lines a) (λ all rest lines r. all_stepped all rest lines t a r.0 r.1 r.2 is) read) own handed
text_served j held t fo fn report status read (WasLost failed handed) = absurd failed
text_served j held t fo fn report status read (HadNoRoom is none) = HadNoRoom is none
