-- Statements that have a scope, within it: what the code's answers come to.
use Rattle.std.proofs.Common.{◌≡◌, ℕ, ◌+◌, ◌<◌, arith, true, false, List, Option, Some, None, length, refl, ◌∙◌, ap}
use Rattle.pv_num.specs.declared.kinds.IntKind.{IntKind}
use Rattle.pv_tree.specs.declared.nodes.NodeId.{NodeId}
use Rattle.pv_tree.specs.Syntax.{ExpressionTree, StatementTree, Block, ExpressionStatement, If, IfElse, While, DoWhile, For, ForDeclaration, Switch, SwitchBlock, Labelled, Case, Default, Break, Continue, Return, OptionalTree}
use Rattle.pv_typed.specs.TypedTree.{TypedTree}
use Rattle.pv_typed.specs.TypedStatement.{TypedStatement, statements_of}
use Rattle.pv_typed.specs.TypedStatement as typed
use Rattle.pv_typed.specs.Tables.{Stored}
use Rattle.pv_typed.specs.NodeTrees.{expression_at, statement_at, IsExpression}
use Rattle.pv_check.specs.Raw.{Raw}
use Rattle.pv_check.specs.Open.{state_of, IsOpen, Goes}
use Rattle.pv_check.specs.State.{State, After}
use Rattle.pv_check.specs.Scopes.{in_new_scope, behind_scope}
use Rattle.pv_typed.specs.Constants.{and_then}
use Rattle.pv_check.proofs.Opening.{then_goes}
use Rattle.pv_unit.specs.declared.plain.Place.{Place}
use Rattle.pv_unit.specs.declared.rows.Controlling.{Controlling}
use Rattle.pv_unit.specs.Statements.{Around, in_loop, leaving, taken_value, condition, expression_if_any, switch_value, declared_in, block_of}
use Rattle.pv_unit.specs.TypedStatements.{typed_statement, switch_block}
use Rattle.pv_unit.specs.Made.{if_made, else_made, while_made, do_made, for_made, round_made, switch_made, block_made}
use Rattle.pv_unit.specs.Scoped.{switch_body, inner, if_behind, else_last, else_behind, while_behind, do_behind, for_last, for_step, for_behind, round_last, round_step, round_behind, switch_behind, scoped_statement, has_scope}
use Rattle.pv_unit.specs.Stated.{around_in, statement_after, statements_in, items_in, optional_in, IsOptional, Moves}
use Rattle.pv_unit.specs.Switching.{switched_in}
use Rattle.pv_unit.proofs.Moving.{around_same, expression_same, optional_same, step_on, made_is}

-- a typed expression, and one that may be left out, with the state behind it
abbrev pub valued_in : List (List ℕ) → Raw → Stored → NodeId → After TypedTree
valued_in texts s m n = record { value = expression_at m n; state = state_of texts false s m }

abbrev pub choice_in : List (List ℕ) → Raw → Stored → Option NodeId → After (Option TypedTree)
choice_in texts s m o = record { value = optional_in m o; state = state_of texts false s m }

-- a scope round what was typed
pub scope_left : (texts : List (List ℕ)) (s t : Raw) (m : Stored) (n : NodeId) (o : Option (After TypedStatement)) → Some (statement_after texts s m n) ≡ o → state_of texts false t m ≡ behind_scope (state_of texts false s m)
    → Some (statement_after texts t m n) ≡ leaving o
scope_left texts s t m n o e leaves = ap (λ (z : State). Some (record { value = statement_at m n; state = z })) leaves ∙ ap leaving e

pub none_left : (o : Option (After TypedStatement)) → None ≡ o → None ≡ leaving o
none_left o e = ap leaving e

-- a statement that has a scope, by what it is within it
pub scope_is : (w : Around) (b : StatementTree) (s : State) → has_scope b ≡ true → leaving (scoped_statement w b (in_new_scope s)) ≡ typed_statement w b s
scope_is w (Block line items) s e = refl
scope_is w (If line a b) s e = refl
scope_is w (IfElse line a b d) s e = refl
scope_is w (While line a b) s e = refl
scope_is w (DoWhile line b a) s e = refl
scope_is w (For line f a t b) s e = refl
scope_is w (ForDeclaration line d a t b) s e = refl
scope_is w (Switch line a b) s e = refl
scope_is w (ExpressionStatement line a) s e = cc
scope_is w (SwitchBlock line items) s e = cc
scope_is w (Labelled line ls b) s e = cc
scope_is w (Case line a) s e = cc
scope_is w (Default line) s e = cc
scope_is w (Break line) s e = cc
scope_is w (Continue line) s e = cc
scope_is w (Return line a) s e = cc

-- the statement in its scope, where another place of the table stands for the type that is returned
pub inner_same : (a b : Stored) (w : Place) (x : StatementTree) (z : State) → Goes a b → w.result.0 < length a.known.terms → inner (around_in b.known w) x z ≡ inner (around_in a.known w) x z
inner_same a b w x z g known = ap (λ y. inner y x z) (around_same a b w g known)

pub loop_same : (a b : Stored) (w : Place) (x : StatementTree) (z : State) → Goes a b → w.result.0 < length a.known.terms → inner (in_loop (around_in b.known w)) x z ≡ inner (in_loop (around_in a.known w)) x z
loop_same a b w x z g known = ap (λ y. inner (in_loop y) x z) (around_same a b w g known)

module _ (texts : List (List ℕ)) (w : Place) (line : ℕ) where
  abbrev at : Raw → Stored → State
  at s m = state_of texts false s m

  pub if_done : (a : ExpressionTree) (body : StatementTree) (m0 m1 m2 m3 : Stored) (s0 s1 s2 : Raw) (v b made : NodeId)
      → w.result.0 < length m0.known.terms → Goes m0 m1 → Goes m1 m2 → IsExpression m1 v
      → Some (valued_in texts s1 m1 v) ≡ condition a (at s0 m0) → Some (statement_after texts s2 m2 b) ≡ inner (around_in m1.known w) body (at s1 m1)
      → statement_at m3 made ≡ typed.If line (expression_at m2 v) (statement_at m2 b) → at s2 m3 ≡ at s2 m2
      → Some (statement_after texts s2 m3 made) ≡ scoped_statement (around_in m0.known w) (If line a body) (at s0 m0)
  if_done a body m0 m1 m2 m3 s0 s1 s2 v b made known g h there first second tree same =
      step_on (condition a (at s0 m0)) (valued_in texts s1 m1 v) (if_behind (around_in m0.known w) line body) _ first
      (step_on (inner (around_in m0.known w) body (at s1 m1)) (statement_after texts s2 m2 b) (if_made line (expression_at m1 v)) _ (second ∙ inner_same m0 m1 w body (at s1 m1) g known)
      (made_is texts s2 m2 m3 made (typed.If line (expression_at m1 v) (statement_at m2 b)) (tree ∙ ap (λ e. typed.If line e (statement_at m2 b)) (expression_same m1 m2 v h there)) same))

  pub while_done : (a : ExpressionTree) (body : StatementTree) (m0 m1 m2 m3 : Stored) (s0 s1 s2 : Raw) (v b made : NodeId)
      → w.result.0 < length m0.known.terms → Goes m0 m1 → Goes m1 m2 → IsExpression m1 v
      → Some (valued_in texts s1 m1 v) ≡ condition a (at s0 m0) → Some (statement_after texts s2 m2 b) ≡ inner (in_loop (around_in m1.known w)) body (at s1 m1)
      → statement_at m3 made ≡ typed.While line (expression_at m2 v) (statement_at m2 b) → at s2 m3 ≡ at s2 m2
      → Some (statement_after texts s2 m3 made) ≡ scoped_statement (around_in m0.known w) (While line a body) (at s0 m0)
  while_done a body m0 m1 m2 m3 s0 s1 s2 v b made known g h there first second tree same =
      step_on (condition a (at s0 m0)) (valued_in texts s1 m1 v) (while_behind (around_in m0.known w) line body) _ first
      (step_on (inner (in_loop (around_in m0.known w)) body (at s1 m1)) (statement_after texts s2 m2 b) (while_made line (expression_at m1 v)) _ (second ∙ loop_same m0 m1 w body (at s1 m1) g known)
      (made_is texts s2 m2 m3 made (typed.While line (expression_at m1 v) (statement_at m2 b)) (tree ∙ ap (λ e. typed.While line e (statement_at m2 b)) (expression_same m1 m2 v h there)) same))

  pub do_done : (a : ExpressionTree) (body : StatementTree) (m0 m1 m2 m3 : Stored) (s0 s1 s2 : Raw) (b v made : NodeId) (same_body : statement_at m2 b ≡ statement_at m1 b)
      → Some (statement_after texts s1 m1 b) ≡ inner (in_loop (around_in m0.known w)) body (at s0 m0) → Some (valued_in texts s2 m2 v) ≡ condition a (at s1 m1)
      → statement_at m3 made ≡ typed.DoWhile line (statement_at m2 b) (expression_at m2 v) → at s2 m3 ≡ at s2 m2
      → Some (statement_after texts s2 m3 made) ≡ scoped_statement (around_in m0.known w) (DoWhile line body a) (at s0 m0)
  do_done a body m0 m1 m2 m3 s0 s1 s2 b v made same_body first second tree same =
      step_on (inner (in_loop (around_in m0.known w)) body (at s0 m0)) (statement_after texts s1 m1 b) (do_behind line a) _ first
      (step_on (condition a (at s1 m1)) (valued_in texts s2 m2 v) (do_made line (statement_at m1 b)) _ second
      (made_is texts s2 m2 m3 made (typed.DoWhile line (statement_at m1 b) (expression_at m2 v)) (tree ∙ ap (λ x. typed.DoWhile line x (expression_at m2 v)) same_body) same))

  pub else_done : (a : ExpressionTree) (body other : StatementTree) (m0 m1 m2 m3 m4 : Stored) (s0 s1 s2 s3 : Raw) (v b d made : NodeId)
      → w.result.0 < length m0.known.terms → Goes m0 m1 → Goes m1 m2 → Goes m2 m3 → IsExpression m1 v → statement_at m3 b ≡ statement_at m2 b
      → Some (valued_in texts s1 m1 v) ≡ condition a (at s0 m0) → Some (statement_after texts s2 m2 b) ≡ inner (around_in m1.known w) body (at s1 m1)
      → Some (statement_after texts s3 m3 d) ≡ inner (around_in m2.known w) other (at s2 m2)
      → statement_at m4 made ≡ typed.IfElse line (expression_at m3 v) (statement_at m3 b) (statement_at m3 d) → at s3 m4 ≡ at s3 m3
      → Some (statement_after texts s3 m4 made) ≡ scoped_statement (around_in m0.known w) (IfElse line a body other) (at s0 m0)
  else_done a body other m0 m1 m2 m3 m4 s0 s1 s2 s3 v b d made known g h k there taken first second third tree same =
      step_on (condition a (at s0 m0)) (valued_in texts s1 m1 v) (else_behind (around_in m0.known w) line body other) _ first
      (step_on (inner (around_in m0.known w) body (at s1 m1)) (statement_after texts s2 m2 b) (else_last (around_in m0.known w) line other (expression_at m1 v)) _ (second ∙ inner_same m0 m1 w body (at s1 m1) g known)
      (step_on (inner (around_in m0.known w) other (at s2 m2)) (statement_after texts s3 m3 d) (else_made line (expression_at m1 v) (statement_at m2 b)) _ (third ∙ inner_same m0 m2 w other (at s2 m2) (then_goes m0 m1 m2 g h) known)
      (made_is texts s3 m3 m4 made (typed.IfElse line (expression_at m1 v) (statement_at m2 b) (statement_at m3 d))
      (tree ∙ ap (λ e. typed.IfElse line e (statement_at m3 b) (statement_at m3 d)) (expression_same m1 m3 v (then_goes m1 m2 m3 h k) there) ∙ ap (λ x. typed.IfElse line (expression_at m1 v) x (statement_at m3 d)) taken) same)))

  pub for_done : (first a step : OptionalTree) (body : StatementTree) (m0 m1 m2 m3 m4 m5 : Stored) (s0 s1 s2 s3 s4 : Raw) (f v n : Option NodeId) (b made : NodeId)
      → w.result.0 < length m0.known.terms → Goes m0 m1 → Goes m1 m2 → Goes m2 m3 → Goes m3 m4 → IsOptional m1 f → IsOptional m2 v → IsOptional m3 n
      → Some (choice_in texts s1 m1 f) ≡ expression_if_any taken_value first (at s0 m0) → Some (choice_in texts s2 m2 v) ≡ expression_if_any condition a (at s1 m1) → Some (choice_in texts s3 m3 n) ≡ expression_if_any taken_value step (at s2 m2)
      → Some (statement_after texts s4 m4 b) ≡ inner (in_loop (around_in m3.known w)) body (at s3 m3)
      → statement_at m5 made ≡ typed.For line (optional_in m4 f) (optional_in m4 v) (optional_in m4 n) (statement_at m4 b) → at s4 m5 ≡ at s4 m4
      → Some (statement_after texts s4 m5 made) ≡ scoped_statement (around_in m0.known w) (For line first a step body) (at s0 m0)
  for_done first a step body m0 m1 m2 m3 m4 m5 s0 s1 s2 s3 s4 f v n b made known g h k l is_f is_v is_n e1 e2 e3 e4 tree same =
      let g3 = then_goes m0 m1 m3 g (then_goes m1 m2 m3 h k) in
      step_on (expression_if_any taken_value first (at s0 m0)) (choice_in texts s1 m1 f) (for_behind (around_in m0.known w) line a step body) _ e1
      (step_on (expression_if_any condition a (at s1 m1)) (choice_in texts s2 m2 v) (for_step (around_in m0.known w) line step body (optional_in m1 f)) _ e2
      (step_on (expression_if_any taken_value step (at s2 m2)) (choice_in texts s3 m3 n) (for_last (around_in m0.known w) line body (optional_in m1 f) (optional_in m2 v)) _ e3
      (step_on (inner (in_loop (around_in m0.known w)) body (at s3 m3)) (statement_after texts s4 m4 b) (for_made line (optional_in m1 f) (optional_in m2 v) (optional_in m3 n)) _ (e4 ∙ loop_same m0 m3 w body (at s3 m3) g3 known)
      (made_is texts s4 m4 m5 made (typed.For line (optional_in m1 f) (optional_in m2 v) (optional_in m3 n) (statement_at m4 b))
      (tree ∙ ap (λ x. typed.For line x (optional_in m4 v) (optional_in m4 n) (statement_at m4 b)) (optional_same m1 m4 f (then_goes m1 m2 m4 h (then_goes m2 m3 m4 k l)) is_f)
      ∙ ap (λ x. typed.For line (optional_in m1 f) x (optional_in m4 n) (statement_at m4 b)) (optional_same m2 m4 v (then_goes m2 m3 m4 k l) is_v)
      ∙ ap (λ x. typed.For line (optional_in m1 f) (optional_in m2 v) x (statement_at m4 b)) (optional_same m3 m4 n l is_n)) same))))

  pub round_done : (first : Option (After (List TypedStatement))) (a step : OptionalTree) (body : StatementTree) (m0 m1 m2 m3 m4 m5 : Stored) (s0 s1 s2 s3 s4 : Raw) (items : List NodeId) (v n : Option NodeId) (b made : NodeId)
      → w.result.0 < length m0.known.terms → Goes m0 m1 → Goes m1 m2 → Goes m2 m3 → Goes m3 m4 → statements_in m4 items ≡ statements_in m1 items → IsOptional m2 v → IsOptional m3 n
      → Some (items_in texts s1 m1 items) ≡ first → Some (choice_in texts s2 m2 v) ≡ expression_if_any condition a (at s1 m1) → Some (choice_in texts s3 m3 n) ≡ expression_if_any taken_value step (at s2 m2)
      → Some (statement_after texts s4 m4 b) ≡ inner (in_loop (around_in m3.known w)) body (at s3 m3)
      → statement_at m5 made ≡ typed.ForDeclaration line (declared_in (statements_in m4 items)) (statements_of (statements_in m4 items)) (optional_in m4 v) (optional_in m4 n) (statement_at m4 b) → at s4 m5 ≡ at s4 m4
      → Some (statement_after texts s4 m5 made) ≡ and_then first (round_behind (around_in m0.known w) line a step body)
  round_done first a step body m0 m1 m2 m3 m4 m5 s0 s1 s2 s3 s4 items v n b made known g h k l items_same is_v is_n e1 e2 e3 e4 tree same =
      let g3 = then_goes m0 m1 m3 g (then_goes m1 m2 m3 h k) in
      let xs = statements_in m1 items in
      step_on first (items_in texts s1 m1 items) (round_behind (around_in m0.known w) line a step body) _ e1
      (step_on (expression_if_any condition a (at s1 m1)) (choice_in texts s2 m2 v) (round_step (around_in m0.known w) line step body xs) _ e2
      (step_on (expression_if_any taken_value step (at s2 m2)) (choice_in texts s3 m3 n) (round_last (around_in m0.known w) line body xs (optional_in m2 v)) _ e3
      (step_on (inner (in_loop (around_in m0.known w)) body (at s3 m3)) (statement_after texts s4 m4 b) (round_made line xs (optional_in m2 v) (optional_in m3 n)) _ (e4 ∙ loop_same m0 m3 w body (at s3 m3) g3 known)
      (made_is texts s4 m4 m5 made (typed.ForDeclaration line (declared_in xs) (statements_of xs) (optional_in m2 v) (optional_in m3 n) (statement_at m4 b))
      (tree ∙ ap (λ ys. typed.ForDeclaration line (declared_in ys) (statements_of ys) (optional_in m4 v) (optional_in m4 n) (statement_at m4 b)) items_same
      ∙ ap (λ x. typed.ForDeclaration line (declared_in xs) (statements_of xs) x (optional_in m4 n) (statement_at m4 b)) (optional_same m2 m4 v (then_goes m2 m3 m4 k l) is_v)
      ∙ ap (λ x. typed.ForDeclaration line (declared_in xs) (statements_of xs) (optional_in m2 v) x (statement_at m4 b)) (optional_same m3 m4 n l is_n)) same))))

  pub switch_done : (a : ExpressionTree) (body : StatementTree) (m0 m1 m2 m3 : Stored) (s0 s1 s2 : Raw) (x : Controlling) (b made : NodeId)
      → w.result.0 < length m0.known.terms → Goes m0 m1 → Goes m1 m2 → IsExpression m1 x.value
      → Some (switched_in texts s1 m1 x) ≡ switch_value a (at s0 m0) → Some (statement_after texts s2 m2 b) ≡ switch_block (around_in m1.known w) x.kind body (at s1 m1)
      → statement_at m3 made ≡ typed.Switch line (expression_at m2 x.value) (statement_at m2 b) → at s2 m3 ≡ at s2 m2
      → Some (statement_after texts s2 m3 made) ≡ scoped_statement (around_in m0.known w) (Switch line a body) (at s0 m0)
  switch_done a body m0 m1 m2 m3 s0 s1 s2 x b made known g h there first second tree same =
      step_on (switch_value a (at s0 m0)) (switched_in texts s1 m1 x) (switch_behind (around_in m0.known w) line body) _ first
      (step_on (switch_block (around_in m0.known w) x.kind body (at s1 m1)) (statement_after texts s2 m2 b) (switch_made line (expression_at m1 x.value)) _
      (second ∙ ap (λ y. switch_block y x.kind body (at s1 m1)) (around_same m0 m1 w g known))
      (made_is texts s2 m2 m3 made (typed.Switch line (expression_at m1 x.value) (statement_at m2 b)) (tree ∙ ap (λ e. typed.Switch line e (statement_at m2 b)) (expression_same m1 m2 x.value h there)) same))

  pub block_done : (items : Option (After (List TypedStatement))) (m2 m3 : Stored) (s2 : Raw) (ns : List NodeId) (made : NodeId)
      → Some (items_in texts s2 m2 ns) ≡ items → statement_at m3 made ≡ block_of line (statements_in m2 ns) → at s2 m3 ≡ at s2 m2
      → Some (statement_after texts s2 m3 made) ≡ and_then items (block_made line)
  block_done items m2 m3 s2 ns made first tree same =
      step_on items (items_in texts s2 m2 ns) (block_made line) _ first (made_is texts s2 m2 m3 made (block_of line (statements_in m2 ns)) tree same)

-- the block of a switch, by its items in their scope
pub block_scope : (w : Around) (k : IntKind) (b : StatementTree) (s : State) → leaving (switch_body w k b (in_new_scope s)) ≡ switch_block w k b s
block_scope w k (SwitchBlock line items) s = refl
block_scope w k (Labelled line ls b) s = refl
block_scope w k (Block line items) s = refl
block_scope w k (ExpressionStatement line a) s = refl
block_scope w k (If line a b) s = refl
block_scope w k (IfElse line a b d) s = refl
block_scope w k (While line a b) s = refl
block_scope w k (DoWhile line b a) s = refl
block_scope w k (For line f a t b) s = refl
block_scope w k (ForDeclaration line d a t b) s = refl
block_scope w k (Switch line a b) s = refl
block_scope w k (Case line a) s = refl
block_scope w k (Default line) s = refl
block_scope w k (Break line) s = refl
block_scope w k (Continue line) s = refl
block_scope w k (Return line a) s = refl

-- what moves within a scope that is entered and left
pub scope_moves : (a b : Stored) (s t u v : Raw) → IsOpen a s → length t.scopes ≡ length s.scopes + 1 → Moves a t b u → IsOpen b v → length v.scopes + 1 ≡ length u.scopes → Moves a s b v
scope_moves a b s t u v h deep g opened left_deep =
    let d = g.deep in
    record { opened = opened; goes = g.goes; deep = omega (arith, deep, d, left_deep) }

pub scope_within : (a b : Stored) (s t u : Raw) → IsOpen a s → length t.scopes ≡ length s.scopes + 1 → Moves a t b u → 1 < length u.scopes
scope_within a b s t u h deep g =
    let some : 0 < length s.scopes = h.some in
    let d = g.deep in
    omega (arith, some, deep, d)
