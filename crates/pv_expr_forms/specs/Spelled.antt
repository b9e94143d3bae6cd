-- A bridge: of the trees that spell tokens from a place, the one that is found: `spells end tree` says that a tree spells those from the place to
-- before the end.
use Rattle.std.specs.Prelude.{◌≡◌, ◌≤◌, ℕ, List, length, Option, IfSome}
use Rattle.pv_token.specs.declared.token_table.Token.{Token}
use Rattle.pv_tree.specs.declared.nodes.NodeId.{NodeId}

-- 6.7p1, 6.7.7p1: what is found, if anything is, is a node, and its tree spells the tokens up to the place behind it
abbrev pub IsSpelled : {T : Type 0} → (spells : (end : ℕ) → T → Type 0) → (IsNode : NodeId → Type 0) → (tree_of : NodeId → T) → List Token → (at : ℕ) → (answer : Option (NodeId × ℕ)) → Type 0
IsSpelled spells IsNode tree_of tokens at answer = IfSome answer (λ x. IsNode x.0 × (at ≤ x.1) × (x.1 ≤ length tokens) × spells x.1 (tree_of x.0))

-- 6.7p1, 6.7.7p1: no tree spells more
abbrev pub IsLongest : {T : Type 0} → (spells : (end : ℕ) → T → Type 0) → List Token → (at : ℕ) → (answer : Option (NodeId × ℕ)) → Type 0
IsLongest {T = T} spells tokens at answer = IfSome answer (λ x. (tree : T) (end : ℕ) → at ≤ end → end ≤ length tokens → spells end tree → end ≤ x.1)

-- 6.7p1, 6.7.7p1: no other tree spells the same
abbrev pub IsOnly : {T : Type 0} → (spells : (end : ℕ) → T → Type 0) → (tree_of : NodeId → T) → (answer : Option (NodeId × ℕ)) → Type 0
IsOnly {T = T} spells tree_of answer = IfSome answer (λ x. (tree : T) → spells x.1 tree → tree ≡ tree_of x.0)

-- 6.7p1, 6.7.7p1: no tree spells anything
abbrev pub NothingSpells : {T : Type 0} → (spells : (end : ℕ) → T → Type 0) → List Token → (at : ℕ) → Type 0
NothingSpells {T = T} spells tokens at = (tree : T) (end : ℕ) → at ≤ end → end ≤ length tokens → spells end tree → ⊥
