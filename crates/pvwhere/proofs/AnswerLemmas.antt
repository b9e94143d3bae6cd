-- One byte above the limit tells as much as all that follow.
use Rattle.std.proofs.Common.{◌≡◌, ℕ, ◌+◌, List, take, sym, ap, ◌∙◌, subst, arith}
use Rattle.std.specs.Prelude.{Some, Result, Ok, Err}
use Rattle.std.proofs.lemmas.List.{take-take, take_all}
use Rattle.pv_where.specs.Texts.{place_text}
use Rattle.pv_typed.specs.Tables.{Stored, whole_unit}
use Rattle.pv_serve.specs.declared.checking.Refused.{Refused}
use Rattle.pv_serve.specs.Verdicts.{Refusal}
use Rattle.pv_serve.specs.Readings.{Reading, Program, Bad}
use Rattle.pv_serve.specs.Loading.{refusal_of, reading_of}
use Rattle.pv_serve.specs.Comes.{source_limit, Comes, Reads, Long, Short}
use Rattle.pv_serve.specs.Replies.{Reply}
use Rattle.pv_serve.proofs.Limits.{was_short, was_long}
use Rattle.pvwhere.specs.Places.{first_bytes, IsPlace, IsRefused}
use Rattle.pvwhere.specs.Answers.{word_of, Gets, Nothing, ItsPlace}
use Rattle.pvwhere.specs.Answering.{told_by}

-- ---- one byte above the limit

same_first : (all : List ℕ) → first_bytes (take (source_limit + 1) all) ≡ first_bytes all
same_first all = take-take source_limit (source_limit + 1) all (omega arith)

more_reads : (all : List ℕ) (r : Reading) → Reads (take (source_limit + 1) all) r → Reads all r
more_reads all r (Long long e) = Long (was_long source_limit all long) e
more_reads all r (Short short c) =
    let less = was_short source_limit all short in
    Short less (subst (λ (s : List ℕ). Comes s r) (take_all (source_limit + 1) all (omega arith)) c)

pub more_gets : (name all : List ℕ) (a : Reply) → Gets name (take (source_limit + 1) all) a → Gets name all a
more_gets name all a (Nothing unit reads e) = Nothing unit (more_reads all (Program unit) reads) e
more_gets name all a (ItsPlace refusal place reads is e) =
    ItsPlace refusal place (more_reads all (Bad refusal) reads) (subst (λ (s : List ℕ). IsPlace s refusal place) (same_first all) is)
    (e ∙ ap (λ (s : List ℕ). told_by (Some (place_text name s place (word_of refusal)))) (same_first all))

-- ---- for the code that tells it

-- the refusal that is found has its place among the first bytes
pub is_refused : (source first : List ℕ) (refusal : Refusal) → Reads source (Bad refusal) → first ≡ first_bytes source → IsRefused first refusal
is_refused source first refusal reads are = record { source = source; reads = reads; are = are }

-- its lines
pub gets_lines : (name source first text what : List ℕ) (refusal : Refusal) (place : ℕ) → Reads source (Bad refusal) → first ≡ first_bytes source
    → IsPlace first refusal place → what ≡ word_of refusal → text ≡ place_text name first place what → Gets name source (told_by (Some text))
gets_lines name source first text what refusal place reads are is word e =
    ItsPlace refusal place reads (subst (λ (s : List ℕ). IsPlace s refusal place) are is)
    (ap (λ (t : List ℕ). told_by (Some t)) (e ∙ ap (λ (s : List ℕ). place_text name s place what) are ∙ ap (place_text name (first_bytes source) place) word))

-- its word, where it is known by its variant
pub word_by : (r k : Refused) (word : List ℕ) → r ≡ k → word ≡ word_of (refusal_of k) → word ≡ word_of (refusal_of r)
word_by r k word e is = is ∙ sym (ap (λ (x : Refused). word_of (refusal_of x)) e)

-- what the check answered
pub reads_ok : (source : List ℕ) (r : Result Stored Refused) (unit : Stored) → r ≡ Ok unit → Reads source (reading_of r) → Reads source (Program (whole_unit unit))
reads_ok source r unit e reads = subst (λ (x : Result Stored Refused). Reads source (reading_of x)) e reads

pub reads_err : (source : List ℕ) (r : Result Stored Refused) (why : Refused) → r ≡ Err why → Reads source (reading_of r) → Reads source (Bad (refusal_of why))
reads_err source r why e reads = subst (λ (x : Result Stored Refused). Reads source (reading_of x)) e reads
