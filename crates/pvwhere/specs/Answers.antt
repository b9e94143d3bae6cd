-- What is told of a source.
use Rattle.std.specs.Prelude.{◌≡◌, ℕ, List, [], Option, IfSome, codes}
use Rattle.pv_script.specs.Outside.{Rose}
use Rattle.pv_typed.specs.TypedUnits.{WholeUnit}
use Rattle.pv_where.specs.Texts.{place_text}
use Rattle.pv_serve.specs.Verdicts.{Refusal, Size, Byte, Token, Profile, Syntax, Constraint, Unresolved, NoMain}
use Rattle.pv_serve.specs.Readings.{Program, Bad}
use Rattle.pv_serve.specs.Comes.{Reads}
use Rattle.pv_serve.specs.Replies.{Reply, Service}
use Rattle.pvwhere.specs.Words.{file_of}
use Rattle.pvwhere.specs.Places.{first_bytes, IsPlace}

-- The word of a refusal (5.1.1.3p1), which the report of a check has too.
abbrev pub word_of : Refusal → List ℕ
word_of Size = codes "size"
word_of (Byte at) = codes "byte"
word_of (Token at) = codes "token"
word_of (Profile at word) = codes "profile"
word_of (Syntax whole) = codes "syntax"
word_of (Constraint index) = codes "constraint"
word_of (Unresolved name) = codes "unresolved"
word_of NoMain = codes "main"

-- Of a source that is a program nothing is told (5.1.1.3p1).
abbrev pub nothing_told : Reply
nothing_told = record { status = 0; text = [] }

-- Of one that is refused the place is told, among its first bytes (5.1.1.3p1).
abbrev pub refused_at : (name source : List ℕ) → Refusal → (place : ℕ) → Reply
refused_at name source refusal place = record { status = 8; text = place_text name (first_bytes source) place (word_of refusal) }

-- What a source under this name gets (5.1.1.3p1): it is a program, or it is refused for a reason that has a place.
pub data Gets (name source : List ℕ) (reply : Reply) : Type 0 where
  Nothing : (unit : WholeUnit) → Reads source (Program unit) → reply ≡ nothing_told → Gets name source reply
  ItsPlace : (refusal : Refusal) (place : ℕ) → Reads source (Bad refusal) → IsPlace (first_bytes source) refusal place
      → reply ≡ refused_at name source refusal place → Gets name source reply

-- docs/FORMATS.md, Where a refusal is: a reply to the source in a file (5.1.2.2.1p2); nothing is said where the file isn't told.
abbrev pub IsReply : (name : List ℕ) → (held : List ℕ → Option (List ℕ)) → Reply → Type 0
IsReply name held reply = IfSome (held name) (λ source. Gets name source reply)

-- docs/FORMATS.md, Where a refusal is (5.1.1.3): what the program does for its words; a fault at another name than the file's (7.21.8.1p3) is none of the job's.
abbrev pub service : Service (List ℕ)
service = record { job = file_of; ReadFailed = λ name c. Rose (c.faults_old name) (c.faults_new name); IsReply = IsReply }
