-- A bridge: what the parts of the top call come to.
use Rattle.std.specs.Prelude.{ℕ, List, Option, Some, None}
use Rattle.pv_token.specs.Table.{Table}
use Rattle.pv_lex.specs.Lexes.{Lexes}
use Rattle.pv_stmt.specs.Behind.{SomeBehind}
use Rattle.pv_script.specs.Outside.{Rose}
use Rattle.pv_serve.specs.Outside.{Sunk}
use Rattle.pv_serve.specs.Replying.{JobReplied}
use Rattle.pv_serve.specs.Replies.{Reply}
use Rattle.pvwhere.specs.Answers.{Gets, IsReply, nothing_told}

-- docs/FORMATS.md, Where a refusal is: what came of a source under this name: it got a reply, or there was no memory
abbrev pub SourceServed : (name source : List ℕ) (report : Sunk) (status : ℕ) → Type 0
SourceServed name source report status = JobReplied (Gets name source) ⊥ report status

-- docs/FORMATS.md, Where a refusal is: what came of the file that is asked for (7.21.3): its source got a reply; it could not be read (7.21.8.1p3); or
-- there was no memory
abbrev pub FileServed : (name : List ℕ) (held : List ℕ → Option (List ℕ)) (faults_old faults_new : List ℕ → ℕ) (report : Sunk) (status : ℕ) → Type 0
FileServed name held faults_old faults_new report status = JobReplied (IsReply name held) (Rose (faults_old name) (faults_new name)) report status

-- What is told by a text, or by none.
abbrev pub told_by : Option (List ℕ) → Reply
told_by None = nothing_told
told_by (Some text) = record { status = 8; text = text }

-- A source begins with so many external declarations (6.9p1).
pub record BeginsWith (source : List ℕ) (n : ℕ) : Type 0 where
  pub tokens : Table
  pub lexed : Lexes source tokens
  pub some : SomeBehind tokens.tokens n
