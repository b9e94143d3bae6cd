-- What `write` writes of a run is a journal that obeys the memory model, so that `check` accepts it.
use Rattle.std.specs.Prelude.{◌≡◌, ℕ, ◌≤◌, List, length, take, Option, None, Some, true}
use Rattle.pv_watch.specs.Texts as watched
use Rattle.pv_serve.specs.declared.words.Task.TheVariants as task
use Rattle.pv_serve.specs.Verdicts.{Ending, Ended}
use Rattle.pv_serve.specs.Judged.{Judged}
use Rattle.pv_serve.specs.Answer.{OfFiles}
use Rattle.pv_serve.specs.Outside.{Sunk, Wrote}
use Rattle.pv_journal.specs.Journals.{Row}
use Rattle.pv_journal.specs.Obeying.{IsJournal}
use Rattle.pv_replay.specs.Words.{Job, Write, Check}
use Rattle.pv_replay.specs.Answers.{most_events, journal_limit, IsChecked, acceptance}

-- docs/FORMATS.md, Journals (5.1.2.3, the memory model): the source's run with this script ended so; the text is that of its first events, and is the
-- journal of lines that obey. So `check` accepts it, unless it is too long (5.2.4.1).
pub record IsRunJournal (source script : List ℕ) (bound : ℕ) (text : List ℕ) : Type 0 where
  pub ending : Ending
  pub judged : Judged source script (task.Run bound true) None (Ended ending bound)
  pub told : text ≡ watched.journal_text (take most_events ending.events) ending.names
  pub rows : List Row
  pub obey : IsJournal rows text
  pub checked : length text ≤ journal_limit → IsChecked text (acceptance (length rows))

-- docs/FORMATS.md, Journals (the memory model): the report gained such a text
pub record WroteJournal (report : Sunk) (source script : List ℕ) (bound : ℕ) : Type 0 where
  pub text : List ℕ
  pub is : IsRunJournal source script bound text
  pub wrote : Wrote report text

-- docs/FORMATS.md, Journals (7.22.4.4p5): status 0 of `write` says that the report gained such a text, of the source and the script in its files; of other
-- jobs (5.1.2.2.1p2) and statuses nothing is said
abbrev pub WritesJournals : Option Job → (held : List ℕ → Option (List ℕ)) → (report : Sunk) → (status : ℕ) → Type 0
WritesJournals None held report status = Unit {0}
WritesJournals (Some (Check file)) held report status = Unit {0}
WritesJournals (Some (Write run)) held report status = status ≡ 0 → OfFiles run.file run.script held (λ source script. WroteJournal report source script run.bound)
