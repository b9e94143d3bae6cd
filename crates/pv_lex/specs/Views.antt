-- A bridge: what the code's pieces stand for in the definitions.
use Rattle.std.specs.Prelude.{ℕ, ◌+◌, ◌<◌, ◌≤◌, List, length}
use Rattle.pv_token.specs.Views.{said_of}
use Rattle.pv_lex.specs.declared.pieces.Found.{Found}
use Rattle.pv_lex.specs.declared.pieces.Found.TheVariants as found
use Rattle.pv_lex.specs.declared.pieces.Standing.{Standing}
use Rattle.pv_lex.specs.declared.pieces.Standing.TheVariants as standing
use Rattle.pv_lex.specs.Pieces.{What, White, Comment, Marker, Spelling, Stand, End, Bad, Here}
use Rattle.pv_lex.specs.declared.pieces.Fault.{Fault}
use Rattle.pv_lex.specs.declared.pieces.Fault.TheVariants as fault
use Rattle.pv_lex.specs.declared.error.LexError.{LexError}
use Rattle.pv_lex.specs.declared.error.LexError.TheVariants as error

-- What a piece is (6.4p1 and p3).
abbrev pub what_of : Found → What
what_of (found.White b) = White b
what_of (found.Comment lines) = Comment lines
what_of (found.Marker line) = Marker line
what_of (found.Spelling s) = Spelling (said_of s)

-- What stands at a place (6.4p4).
abbrev pub stand_of : Standing → Stand
stand_of standing.End = End
stand_of (standing.Bad f) = Bad f
stand_of (standing.Here what after) = Here (record { what = what_of what; after = after.now })

-- A fault as the error that reports it (6.4p2).
abbrev pub error_of : Fault → (at : ℕ) → LexError
error_of fault.BadByte at = error.BadByte at
error_of fault.BadToken at = error.BadToken at
error_of (fault.Profile word) at = error.Profile at word

-- The fault lies in the source: a byte stands at its place, and a word of the profile ends within the source (6.4.1p1).
abbrev pub LiesWithin : List ℕ → LexError → Type 0
LiesWithin source (error.BadByte at) = at < length source
LiesWithin source (error.BadToken at) = at < length source
LiesWithin source (error.Profile at word) = (0 < word) × (at + word ≤ length source)
LiesWithin source error.NoMemory = Unit {0}
