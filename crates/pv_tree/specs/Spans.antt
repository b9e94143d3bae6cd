-- A bridge: the lists of a unit (6.9p1) as it has them: each is a part of one row, in which the numbers of all stand.
use Rattle.std.specs.Prelude.{ℕ, ◌≤◌, ◌<◌, ◌^◌, List, [], ◌∷◌, length, slice_range}
use Rattle.pv_tree.specs.declared.nodes.NodeId.{NodeId}
use Rattle.pv_tree.specs.declared.lists.Span.{Span}

-- a list (as the items of a block, 6.8.2p1), by where it stands among the numbers of all
abbrev pub list_of : (numbers : List NodeId) → Span → List NodeId
list_of numbers s = slice_range numbers s.start s.end

-- a list (as the items of a block, 6.8.2p1) stands among the first n numbers
pub record IsWithin (n : ℕ) (s : Span) : Type 0 where
  pub order : s.start ≤ s.end
  pub within : s.end ≤ n

-- each of these lists stands among the first n numbers
abbrev pub AreWithin : (n : ℕ) → List Span → Type 0
AreWithin n [] = Unit {0}
AreWithin n (s ∷ ss) = IsWithin n s × AreWithin n ss

-- what holds of the lists of every translation unit (6.9p1)
pub record AreSpans (numbers : List NodeId) (ss : List Span) : Type 0 where
  pub few : length numbers < 2 ^ 32
  pub within : AreWithin (length numbers) ss
