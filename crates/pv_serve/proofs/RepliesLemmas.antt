-- What a call owes whose program writes a report and nothing else, from what its parts come to.
use Rattle.std.proofs.Common.{◌≡◌, ◌≢◌, ◌⊎◌, ℕ, ◌<◌, inl, inr, refl, sym, ◌∙◌, subst, arith}
use Rattle.std.specs.Prelude.{Option, Some, None, IsSomeAnd}
use Rattle.pv_serve.specs.Outside.{Sunk, SinkRose}
use Rattle.pv_serve.specs.Replies.{ReplyCall, Reply, Service, IsReplyTo, SomeReply, IsReplied, IsBegun, facts_of, Replied, no_job, read_fault}
use Rattle.pv_serve.specs.Replying.{IsOwn, IsHanded, JobReplied, WasTold, WasLost, HadNoRoom}
use Rattle.pv_serve.proofs.RunLemmas.{nothing}
use Rattle.pv_serve.proofs.OwedLemmas.{Table, two_apart, owed_by, owed_by_nothing, owed_by_fault, owed_by_words, none_failed}

replied : (c : ReplyCall) (reply : Reply) → IsHanded c.report c.status reply → c.status ≢ 12 → IsReplied c reply
replied c reply handed not12 = record { status = (handed.told not12).0; report = (handed.told not12).1 }

some_reply : {J : Type 0} (s : Service J) (c : ReplyCall) (j : J) (reply : Reply) (P : Reply → Type 0) → s.job c.words ≡ Some j → s.IsReply j c.held reply → P reply → SomeReply s c P
some_reply {J = J} s c j reply P e is holds = record { reply = reply; is = subst (λ (o : Option J). IsReplyTo s o c.held reply) (sym e) is; holds = holds }

-- a call whose job got a reply
told_table : {J : Type 0} (s : Service J) (c : ReplyCall) (j : J) (reply : Reply) → s.job c.words ≡ Some j → s.IsReply j c.held reply → IsOwn reply.status → IsHanded c.report c.status reply
    → Table (facts_of s c) c.status
told_table s c j reply e is own handed = record {
  read_fault = λ h. absurd (own.no_read_fault (sym (handed.told (λ k. two_apart c.status 11 12 (omega arith) h k)).0 ∙ h));
  write_fault = λ h. ((handed.fault h).0, inl (some_reply s c j reply (IsBegun c) e is (handed.fault h).1));
  no_memory = λ h. absurd (own.no_want (sym (handed.told (λ k. two_apart c.status 12 13 (omega arith) k h)).0 ∙ h));
  every_other = λ not11 not12 not13. some_reply s c j reply (IsReplied c) e is (replied c reply handed not12);
}

-- a call that asks for a job
pub replied_by : {J : Type 0} (s : Service J) (c : ReplyCall) (j : J) → s.job c.words ≡ Some j → JobReplied (s.IsReply j c.held) (s.ReadFailed j c) c.report c.status → Replied s c
replied_by s c j e (WasTold reply is own handed) =
    owed_by (facts_of s c) j c.status e (told_table s c j reply e is own handed) (λ h. own.no_words (sym (handed.told (λ k. two_apart c.status 10 12 (omega arith) h k)).0 ∙ h))
replied_by {J = J} s c j e (WasLost failed handed) =
    owed_by_fault (facts_of s c) j c.status e (subst (λ (o : Option J). IsSomeAnd o (λ i. s.ReadFailed i c)) (sym e) failed)
    (λ not12. ((handed.told not12).0, replied c read_fault handed not12)) (λ h. ((handed.fault h).0, (handed.fault h).1))
replied_by s c j e (HadNoRoom is same) = owed_by_nothing (facts_of s c) j c.status e is (nothing c.report same)

-- a call whose words are no job
pub replied_by_words : {J : Type 0} (s : Service J) (c : ReplyCall) → s.job c.words ≡ None → IsHanded c.report c.status no_job → Replied s c
replied_by_words {J = J} s c e handed =
    let is : IsReplyTo s (s.job c.words) c.held no_job = subst (λ (o : Option J). IsReplyTo s o c.held no_job) (sym e) refl in
    owed_by_words (facts_of s c) c.status e
    (λ not12. ((handed.told not12).0, record { reply = no_job; is = is; holds = replied c no_job handed not12 }))
    (λ h. ((handed.fault h).0, (handed.fault h).0, record { reply = no_job; is = is; holds = (handed.fault h).1 }))

-- more replies, or more reads that may have failed
pub more_replied : (Is Js : Reply → Type 0) (F G : Type 0) (report : Sunk) (status : ℕ) → ((reply : Reply) → Is reply → Js reply) → (F → G) → JobReplied Is F report status → JobReplied Js G report status
more_replied Is Js F G report status f g (WasTold reply is own handed) = WasTold reply (f reply is) own handed
more_replied Is Js F G report status f g (WasLost failed handed) = WasLost (g failed) handed
more_replied Is Js F G report status f g (HadNoRoom is same) = HadNoRoom is same

-- ---- statuses of replies to a job

pub small : (status : ℕ) → status < 10 → IsOwn status
small status less = record { no_words = λ e. omega arith; no_read_fault = λ e. omega arith; no_write_fault = λ e. omega arith; no_want = λ e. omega arith }

pub large : (status : ℕ) → 13 < status → IsOwn status
large status more = record { no_words = λ e. omega arith; no_read_fault = λ e. omega arith; no_write_fault = λ e. omega arith; no_want = λ e. omega arith }

-- the status of a judgement
pub own_of : (status : ℕ) → (status < 10) ⊎ (status ≡ 14) → IsOwn status
own_of status (inl less) = small status less
own_of status (inr e) = large status (omega arith)

-- ---- devices that never fail

pub replied_calmly : {J : Type 0} (s : Service J) (c : ReplyCall) → ((j : J) → s.ReadFailed j c → ⊥) → (SinkRose c.report → ⊥) → Replied s c → (c.status ≡ 13) ⊎ SomeReply s c (IsReplied c)
replied_calmly s c reads writes r = r.complete (none_failed (s.job c.words) (λ j. s.ReadFailed j c) reads) writes
