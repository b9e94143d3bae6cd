-- What came of a source, and of the file that holds it.
use Rattle.std.proofs.Common.{◌≡◌, ℕ, ◌+◌, List, take, refl, sym, ap, ◌∙◌, subst, arith}
use Rattle.std.specs.Prelude.{Option, Some, None, IfSome}
use Rattle.pv_serve.specs.Outside.{Sunk}
use Rattle.pv_serve.specs.Replies.{Reply}
use Rattle.pv_serve.specs.Replying.{IsHanded, JobReplied, WasTold, WasLost, HadNoRoom}
use Rattle.pv_serve.proofs.ComesLemmas.{source_limit_is}
use Rattle.pv_serve.proofs.RunLemmas.{nothing}
use Rattle.pv_serve.proofs.RepliesLemmas.{small}
use Rattle.pvwhere.specs.Answers.{Gets, IsReply}
use Rattle.pvwhere.specs.Answering.{told_by, SourceServed}
use Rattle.pvwhere.proofs.AnswerLemmas.{more_gets}

-- a source that is not refused
pub fine_served : (name source : List ℕ) (report : Sunk) → Gets name source (told_by None) → report.new ≡ report.old → SourceServed name source report 0
fine_served name source report is same =
    WasTold (told_by None) is (small 0 (omega arith)) (record { told = λ not12. (refl, nothing report same); fault = λ h. absurd cc })

-- one whose refusal is told
pub text_served : (name source text : List ℕ) (report : Sunk) (status : ℕ) → Gets name source (told_by (Some text)) → IsHanded report status (record { status = 8; text = text })
    → SourceServed name source report status
text_served name source text report status is handed = WasTold (told_by (Some text)) is (small 8 (omega arith)) handed

-- from what was read to what the file holds
all_get : (o : Option (List ℕ)) (name source : List ℕ) (reply : Reply) → IfSome o (λ all. source ≡ take 1048577 all) → Gets name source reply → IfSome o (λ all. Gets name all reply)
all_get None name source reply read is = tt
all_get (Some all) name source reply read is =
    more_gets name all reply (subst (λ (s : List ℕ). Gets name s reply) (read ∙ ap (λ (n : ℕ). take (n + 1) all) (sym source_limit_is)) is)

pub file_served : (name source : List ℕ) (held : List ℕ → Option (List ℕ)) (Failed : Type 0) (report : Sunk) (status : ℕ)
    → IfSome (held name) (λ all. source ≡ take 1048577 all) → SourceServed name source report status → JobReplied (IsReply name held) Failed report status
file_served name source held Failed report status read (WasTold reply is own handed) = WasTold reply (all_get (held name) name source reply read is) own handed
file_served name source held Failed report status read (WasLost failed handed) = absurd failed
file_served name source held Failed report status read (HadNoRoom is none) = HadNoRoom is none
