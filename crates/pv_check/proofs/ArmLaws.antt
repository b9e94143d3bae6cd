-- From what the operands of an expression are typed as to what the expression is.
use Rattle.std.proofs.Common.{◌≡◌, ℕ, Bool, List, Option, Some, None, IfSome, refl, ◌∙◌, ap}
use Rattle.pv_tree.specs.declared.nodes.NodeId.{NodeId}
use Rattle.pv_types.specs.Known.{env, heading_at}
use Rattle.pv_types.specs.Formed.{parameters_at}
use Rattle.pv_typed.specs.TypedTree.{TypedTree}
use Rattle.pv_typed.specs.TypedUnits.{WholeUnit, layouts}
use Rattle.pv_typed.specs.Tables.{Stored}
use Rattle.pv_typed.specs.NodeTrees.{expression_at, IsExpression}
use Rattle.pv_check.specs.State.{State, After, give}
use Rattle.pv_typed.specs.Constants.{and_then}
use Rattle.pv_check.specs.Postfix.{arrow_from}
use Rattle.pv_check.specs.Values.{value_of}
use Rattle.pv_check.specs.Rows.{operand}
use Rattle.pv_check.specs.RowParts.{arrow}
use Rattle.pv_check.specs.Raw.{Raw}
use Rattle.pv_check.specs.Kept.{Kept, AreSmall, HasParameters, expression_if, env_of}
use Rattle.pv_check.specs.Open.{state_of, IsOpen, Goes}
use Rattle.pv_check.specs.Arms.{after_node, OpenIf}
use Rattle.pv_check.proofs.Opening.{lengthens_same, open_goes, state_stays, then_goes}

pub goes_kept : (a b : Stored) → Kept a b → Goes a b
unfolding AreSmall HasParameters
goes_kept a b k = record {
  grown = k.grown;
  headings = λ n lt. ap (λ (u : WholeUnit). heading_at u.headings n) k.whole;
  parameters = λ p lt. (k.lists p (parameters_at a.known p) (lt, refl)).1;
  sized = k.small;
  completed = lengthens_same (env a.known) (env b.known) (ap layouts k.whole);
}

-- the scopes stay open
pub open_kept : (a b : Stored) (s : Raw) (r : Option NodeId) → Kept a b → IsOpen a s → IfSome r (λ v. IsExpression b v) → OpenIf b s r
open_kept a b s None k o h = tt
open_kept a b s (Some n) k o h = (h, open_goes a b s o (goes_kept a b k))

module _ (texts : List (List ℕ)) (u : Bool) where
  -- where a row answers, its answer comes with the state before it
  pub row_given : (a b : Stored) (s : Raw) (r : Option NodeId) (x : Option TypedTree) → Kept a b → IsOpen a s → expression_if b r ≡ x → after_node texts u s b r ≡ give x (state_of texts u s a)
  row_given a b s None x k o e = ap (λ y. give y (state_of texts u s a)) e
  row_given a b s (Some n) x k o e =
      ap (λ st. give (Some (expression_at b n)) st) (state_stays texts u a b s o (goes_kept a b k) k.whole)
      ∙ ap (λ y. give y (state_of texts u s a)) e

-- the value of an operand, whose typing gave this
pub value_given : (texts : List (List ℕ)) (u : Bool) (a b : Stored) (s : Raw) (n : NodeId) (r : Option NodeId) (t : Option (After TypedTree)) → after_node texts u s a (Some n) ≡ t
    → Kept a b → IsOpen a s → expression_if b r ≡ value_of (env_of a) (expression_at a n) → after_node texts u s b r ≡ operand t
value_given texts u a b s n r t h k o e = row_given texts u a b s r (value_of (env_of a) (expression_at a n)) k o e ∙ ap operand h

pub goes_trans : (a b c : Stored) → Goes a b → Goes b c → Goes a c
goes_trans a b c h k = then_goes a b c h k

pub goes_then_kept : (a b c : Stored) → Goes a b → Kept b c → Goes a c
goes_then_kept a b c h k = goes_trans a b c h (goes_kept b c k)

-- `->` of the value of its operand
pub arrow_after : (v : Option TypedTree) (s : State) (line name : ℕ) → give (and_then v (arrow_from s.unit.completed line name)) s ≡ and_then (give v s) (arrow line name)
arrow_after None s line name = refl
arrow_after (Some a) s line name = refl

-- the same as a row of one operand
pub arrow_one : (o : Option (After TypedTree)) (line name : ℕ) → and_then o (λ (a : After TypedTree). and_then (operand (Some a)) (arrow line name)) ≡ and_then (operand o) (arrow line name)
arrow_one None line name = refl
arrow_one (Some a) line name = refl
