-- The fault of a source that has one.
use Rattle.std.specs.Prelude.{◌≡◌, ℕ, ◌-◌, Bool, List, length}
use Rattle.pv_lex.specs.declared.pieces.Fault.{Fault}
use Rattle.pv_lex.specs.declared.pieces.Fault.TheVariants as fault
use Rattle.pv_lex.specs.declared.error.LexError.{LexError}
use Rattle.pv_lex.specs.declared.error.LexError.TheVariants as error
use Rattle.pv_lex.specs.Pieces.{Piece, Bad}
use Rattle.pv_lex.specs.Stands.{stands}
use Rattle.pv_lex.specs.Rows.{Place, start, Row}

-- Pieces in a row reach from the start to a place where this fault stands (6.4p4): the first fault of the source.
pub record FaultAt (source : List ℕ) (f : Fault) (at : ℕ) : Type 0 where
  pub pieces : List Piece
  pub last : Place
  pub row : Row (start source) pieces last
  pub stands_there : stands last.fresh last.text ≡ Bad f
  pub place : at ≡ length source - length last.text

-- The error reports the fault of the source (6.4p2), or that memory ran out.
abbrev pub LexFault : List ℕ → LexError → Type 0
LexFault source (error.BadByte at) = FaultAt source fault.BadByte at
LexFault source (error.BadToken at) = FaultAt source fault.BadToken at
LexFault source (error.Profile at word) = FaultAt source (fault.Profile word) at
LexFault source error.NoMemory = Unit {0}

-- The source's first fault, as the error that reports it (6.4p2). That memory ran out is none.
abbrev pub IsFaultOf : List ℕ → LexError → Type 0
IsFaultOf source e = (e ≡ error.NoMemory → ⊥) × LexFault source e

-- A byte stands here at which no token begins (6.4p1).
abbrev pub HasBadByte : (fresh : Bool) → List ℕ → Type 0
HasBadByte fresh text = stands fresh text ≡ Bad fault.BadByte
