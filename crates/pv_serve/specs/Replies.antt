-- Programs that write a report and nothing else: what one call of such a program owes. C17 leaves the outside of a program to its implementation (5.1.2.3p7):
-- docs/FORMATS.md has the rules of each.
use Rattle.std.specs.Prelude.{◌≡◌, ℕ, List, [], Option, Some, None, IsSomeAnd, ◌++◌, codes}
use Rattle.pv_serve.specs.Report.{line_feed}
use Rattle.pv_serve.specs.Outside.{Sunk, SinkRose, Wrote, WrotePrefix}
use Rattle.pv_serve.specs.Owed.{Facts, Owed}

-- 5.1.2.3p7: one call: its words (5.1.2.2.1p2), what the files hold under each name (7.21.3p8) with the counts of reads that failed (7.21.8.1p3), the report,
-- and the status (7.22.4.4p5)
pub record ReplyCall : Type 0 where
  pub words : List (List ℕ)
  pub held : List ℕ → Option (List ℕ)
  pub faults_old : List ℕ → ℕ
  pub faults_new : List ℕ → ℕ
  pub report : Sunk
  pub status : ℕ

-- 7.22.4.4p5: the status that the program ends with, and the text of its report
pub record Reply : Type 0 where
  pub status : ℕ
  pub text : List ℕ

-- 5.1.2.2.1p2: the reply to words that are no job
abbrev pub no_job : Reply
no_job = record { status = 10; text = codes "words" ++ line_feed }

-- 7.21.8.1p3: the reply where a file could not be read
abbrev pub read_fault : Reply
read_fault = record { status = 11; text = codes "fault read" ++ line_feed }

-- 5.1.2.3: what a program does for its words: what they ask for, if they do (5.1.2.2.1p2), that in a call a read of a file that is asked for failed
-- (7.21.8.1p3), and which replies there are to what is asked for, by what the files hold
pub record Service (J : Type 0) : Type 1 where
  pub job : List (List ℕ) → Option J
  pub ReadFailed : J → ReplyCall → Type 0
  pub IsReply : J → (held : List ℕ → Option (List ℕ)) → Reply → Type 0

-- 5.1.2.3: a reply to the words, by what the files hold
abbrev pub IsReplyTo : {J : Type 0} → Service J → Option J → (held : List ℕ → Option (List ℕ)) → Reply → Type 0
IsReplyTo s None held reply = reply ≡ no_job
IsReplyTo s (Some job) held reply = s.IsReply job held reply

-- 5.1.2.3: there is a reply to the words of a call, and of it P holds
pub record SomeReply {J : Type 0} (s : Service J) (c : ReplyCall) (P : Reply → Type 0) : Type 0 where
  pub reply : Reply
  pub is : IsReplyTo s (s.job c.words) c.held reply
  pub holds : P reply

-- 5.1.2.3p6: all of the reply was written, and its status is that of the call
pub record IsReplied (c : ReplyCall) (reply : Reply) : Type 0 where
  pub status : c.status ≡ reply.status
  pub report : Wrote c.report reply.text

-- 7.21.8.2p3: a first part of the reply was written
abbrev pub IsBegun : ReplyCall → Reply → Type 0
IsBegun c reply = WrotePrefix c.report reply.text

-- 5.1.2.3p7: what is so of a call
abbrev pub facts_of : {J : Type 0} → Service J → ReplyCall → Facts J
facts_of s c = record {
  job = s.job c.words;
  ReadFailed = IsSomeAnd (s.job c.words) (λ job. s.ReadFailed job c);
  WriteFailed = SinkRose c.report;
  ReportFailed = SinkRose c.report;
  Answered = SomeReply s c (IsReplied c);
  AnswerBegun = SomeReply s c (IsBegun c);
  FaultTold = IsReplied c read_fault;
  FaultBegun = IsBegun c read_fault;
  Unreported = Wrote c.report [];
}

-- 5.1.2.3p7: all that a call of such a program owes
abbrev pub Replied : {J : Type 0} → Service J → ReplyCall → Type 0
Replied s c = Owed (facts_of s c) c.status
