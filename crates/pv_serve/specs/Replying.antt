-- What the parts of a call come to whose program writes a report and nothing else (5.1.2.3p7): bridges to the code.
use Rattle.std.specs.Prelude.{◌≡◌, ◌≢◌, ℕ}
use Rattle.pv_serve.specs.declared.telling.Reply as declared
use Rattle.pv_serve.specs.Outside.{Sunk, SinkRose, Wrote, WrotePrefix}
use Rattle.pv_serve.specs.Replies.{Reply, read_fault}

-- 7.22.4.4p5: the code's reply
abbrev pub reply_view : declared.Reply → Reply
reply_view reply = record { status = reply.status; text = reply.text.items }

-- docs/FORMATS.md: the status of a reply to a job (7.22.4.4p5) is none of those of words that are no job and of devices that fail
pub record IsOwn (status : ℕ) : Type 0 where
  pub no_words : status ≢ 10
  pub no_read_fault : status ≢ 11
  pub no_write_fault : status ≢ 12
  pub no_want : status ≢ 13

-- 7.22.4.4p5: a reply was handed out, with its status; or a write failed, and a first part was written (7.21.8.2p3)
pub record IsHanded (report : Sunk) (status : ℕ) (reply : Reply) : Type 0 where
  pub told : status ≢ 12 → (status ≡ reply.status) × Wrote report reply.text
  pub fault : status ≡ 12 → SinkRose report × WrotePrefix report reply.text

-- docs/FORMATS.md: what came of a job to which such replies are owed: one was handed out; a file could not be read (7.21.8.1p3); or there was no memory
pub data JobReplied (IsReply : Reply → Type 0) (ReadFailed : Type 0) (report : Sunk) (status : ℕ) : Type 0 where
  WasTold : (reply : Reply) → IsReply reply → IsOwn reply.status → IsHanded report status reply → JobReplied IsReply ReadFailed report status
  WasLost : ReadFailed → IsHanded report status read_fault → JobReplied IsReply ReadFailed report status
  HadNoRoom : status ≡ 13 → report.new ≡ report.old → JobReplied IsReply ReadFailed report status
