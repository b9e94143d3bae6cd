-- What may stand at a place of a source.
use Rattle.std.specs.Prelude.{ℕ, List, Option, Some, None, option_and_then}
use Rattle.pv_token.specs.Said.{Said}
use Rattle.pv_lex.specs.declared.pieces.Fault.{Fault}
use Rattle.pv_lex.specs.declared.pieces.Fault.TheVariants as fault
use Rattle.std.specs.Option.{option_map_or}

-- What a piece of the source is: a byte of white space (6.4p3), a comment with so many line feeds in it (6.4.9), a marker that numbers the next line (6.10.4p3), a token (6.4p1).
pub data What : Type 0 where
  White : (b : ℕ) → What
  Comment : (lines : ℕ) → What
  Marker : (line : ℕ) → What
  Spelling : (said : Said) → What

-- A piece, and what is left of the source behind it (6.4p4).
pub record Piece : Type 0 where
  pub what : What
  pub after : List ℕ

-- What stands at a place: the end of the source, a fault, or a piece (6.4p4).
pub data Stand : Type 0 where
  End : Stand
  Bad : (f : Fault) → Stand
  Here : (x : Piece) → Stand

-- First the one, then the other on what it gave (6.4p4: one spelling behind another).
infixl 10 ◌>>=◌
abbrev pub ◌>>=◌ : {A B : Type 0} → Option A → (A → Option B) → Option B
o >>= f = option_and_then f o

-- A piece, or the fault that none stands here though it began as one (6.4p2).
abbrev pub or_bad : Option Piece → Stand
or_bad x = option_map_or Here x (Bad fault.BadToken)

-- A token with what is left behind it (6.4p1).
abbrev pub token : Said → List ℕ → Piece
token s after = record { what = Spelling s; after = after }
