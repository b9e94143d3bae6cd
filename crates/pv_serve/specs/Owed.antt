-- What one call of a program owes to whoever looks at its files and at what it writes: which status comes when, what was written then, and what may have
-- failed. C17 leaves the outside of a program to its implementation (5.1.2.3p7): docs/FORMATS.md has the rules. They are the same for each program of this
-- repository, whatever its words ask for and whatever it writes.
use Rattle.std.specs.Prelude.{◌≡◌, ◌≢◌, ◌⊎◌, ℕ, Option, IsSome, IsNone}

-- 5.1.2.3p7: what is so of a call, beside its status: what its words ask for, if they do (5.1.2.2.1p2); that a read of a file that they ask for failed
-- (7.21.8.1p3), that a write failed (7.21.8.2p3), and that one of the report did; that the specified answer was written, or a first part of it; that
-- `fault read` was, or a first part of that, and nothing else was done; and that there is no byte of a report
pub record Facts (J : Type 0) : Type 1 where
  pub job : Option J
  pub ReadFailed : Type 0
  pub WriteFailed : Type 0
  pub ReportFailed : Type 0
  pub Answered : Type 0
  pub AnswerBegun : Type 0
  pub FaultTold : Type 0
  pub FaultBegun : Type 0
  pub Unreported : Type 0

-- 5.1.2.3p7: all that a call owes to its outside (docs/FORMATS.md). What each status says (7.22.4.4p5): 11: a read failed, and `fault read` is the report;
-- 12: a write failed, that of the answer or of `fault read`; 13: memory ran out, and there is no report; any other: the specified answer, whatever failed.
-- Status 10 comes exactly where the words are no job (5.1.2.2.1p2), whatever the files tell; in its place 12, where `words` can't be written. Where no read
-- and no write failed, the answer is the specified one, with all its bytes (5.1.2.3p6), or memory ran out.
pub record Owed {J : Type 0} (f : Facts J) (status : ℕ) : Type 0 where
  pub read_fault : status ≡ 11 → f.ReadFailed × f.FaultTold
  pub write_fault : status ≡ 12 → f.WriteFailed × (f.AnswerBegun ⊎ (f.ReadFailed × f.FaultBegun))
  pub no_memory : status ≡ 13 → IsSome f.job × f.Unreported
  pub every_other : status ≢ 11 → status ≢ 12 → status ≢ 13 → f.Answered
  pub words : status ≡ 10 → IsNone f.job
  pub no_job : IsNone f.job → (status ≡ 10) ⊎ ((status ≡ 12) × f.ReportFailed)
  pub complete : ¬ f.ReadFailed → ¬ f.WriteFailed → (status ≡ 13) ⊎ f.Answered
