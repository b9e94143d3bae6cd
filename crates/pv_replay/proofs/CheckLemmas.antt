-- The answer to a text, and that it has one at most.
use Rattle.std.proofs.Common.{◌≡◌, ℕ, ◌^◌, ◌<◌, ◌≤◌, List, length, sym, ap, ◌∙◌, arith}
use Rattle.std.specs.Prelude.{Result, Ok, Err, IfOk}
use Rattle.std.proofs.lemmas.List.{length-map}
use Rattle.pv_journal.specs.Journals.{Row}
use Rattle.pv_journal.specs.Obeying.{IsJournal, IsBad}
use Rattle.pv_journal.specs.declared.line.Line.{Line}
use Rattle.pv_journal.specs.Lines.{row_under, rows_under}
use Rattle.std.specs.declared.alloc.AllocError.{AllocError}
use Rattle.pv_serve.specs.declared.telling.Reply as declared
use Rattle.pv_serve.specs.Replies.{Reply}
use Rattle.pv_serve.specs.Replying.{reply_view}
use Rattle.pv_replay.specs.Answers.{IsChecked, TooLong, Obeyed, Broken, acceptance, rejection}

short : (n : ℕ) → n ≤ 16777216 → n < 2 ^ 64
short n le = omega arith

-- by the laws of journals: a text is the journal of one list of lines at most, wrong at one line at most, and not both
pub one_answer : ((bytes : List ℕ) (rows others : List Row) → length bytes < 2 ^ 64 → IsJournal rows bytes → IsJournal others bytes → rows ≡ others)
    → ((bytes : List ℕ) (m n : ℕ) → length bytes < 2 ^ 64 → IsBad bytes m → IsBad bytes n → m ≡ n)
    → ((bytes : List ℕ) (rows : List Row) (n : ℕ) → length bytes < 2 ^ 64 → IsJournal rows bytes → IsBad bytes n → ⊥)
    → (bytes : List ℕ) (a b : Reply) → IsChecked bytes a → IsChecked bytes b → a ≡ b
one_answer lines line apart bytes a b (TooLong more is) (TooLong more' is') = is ∙ sym is'
one_answer lines line apart bytes a b (TooLong more is) (Obeyed rows few journal is') = absurd (omega arith)
one_answer lines line apart bytes a b (TooLong more is) (Broken n few bad is') = absurd (omega arith)
one_answer lines line apart bytes a b (Obeyed rows few journal is) (TooLong more is') = absurd (omega arith)
one_answer lines line apart bytes a b (Obeyed rows few journal is) (Obeyed others few' journal' is') =
    is ∙ ap (λ (rs : List Row). acceptance (length rs)) (lines bytes rows others (short (length bytes) few) journal journal') ∙ sym is'
one_answer lines line apart bytes a b (Obeyed rows few journal is) (Broken n few' bad is') = absurd (apart bytes rows n (short (length bytes) few) journal bad)
one_answer lines line apart bytes a b (Broken n few bad is) (TooLong more is') = absurd (omega arith)
one_answer lines line apart bytes a b (Broken n few bad is) (Obeyed rows few' journal is') = absurd (apart bytes rows n (short (length bytes) few) journal bad)
one_answer lines line apart bytes a b (Broken n few bad is) (Broken m few' bad' is') = is ∙ ap rejection (line bytes n m (short (length bytes) few) bad bad') ∙ sym is'

-- what is told of a journal: as many rows as lines
pub obeyed : (bytes : List ℕ) (names : List (List ℕ)) (lines : List Line) (n : ℕ) (r : Result declared.Reply AllocError) → length bytes ≤ 16777216 → IsJournal (rows_under names lines) bytes → n ≡ length lines
    → IfOk r (λ a. reply_view a ≡ acceptance n) → IfOk r (λ a. IsChecked bytes (reply_view a))
obeyed bytes names lines n (Err e) few is count told = tt
obeyed bytes names lines n (Ok a) few is count told = Obeyed (rows_under names lines) few is (told ∙ ap acceptance (count ∙ sym (length-map lines (row_under names))))

-- what is told of a text with this wrong line
pub broken : (bytes : List ℕ) (line : ℕ) (r : Result declared.Reply AllocError) → length bytes ≤ 16777216 → IsBad bytes line
    → IfOk r (λ a. reply_view a ≡ rejection line) → IfOk r (λ a. IsChecked bytes (reply_view a))
broken bytes line (Err e) few bad told = tt
broken bytes line (Ok a) few bad told = Broken line few bad told
