-- What it is to be the physical source line of a place (5.1.1.2p1).
use Rattle.std.specs.Prelude.{◌≡◌, ℕ, ◌+◌, ◌⊎◌, false, List, [], ◌∷◌, ◌++◌, length}
use Rattle.std.specs.List.{All}
use Rattle.pv_lex.specs.Bytes.{line_feed}
use Rattle.pv_where.specs.SourceLines.{ends_line, column, source_line}

-- 5.1.1.2p1: the source is its lines before, this line, and the rest. No byte of the line ends one; the lines before end with a byte that does, if there are any, and so does this line, unless the source ends there. The place is the byte that the column counts.
pub record IsLineOf (source : List ℕ) (place : ℕ) : Type 0 where
  pub before : List ℕ
  pub behind : List ℕ
  pub whole : source ≡ before ++ source_line source place ++ behind
  pub counted : place + 1 ≡ length before + column source place
  pub one : All (λ b. ends_line b ≡ false) (source_line source place)
  pub begun : (before ≡ []) ⊎ ((lines : List ℕ) × (before ≡ lines ++ line_feed ∷ []))
  pub ended : (behind ≡ []) ⊎ ((rest : List ℕ) × (behind ≡ line_feed ∷ rest))
