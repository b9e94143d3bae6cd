-- Execution of statements (C17 6.8) and initialization of automatic objects (6.7.9). Each statement takes a turn first, but for a
-- label and for a declaration.
use Rattle.std.specs.Prelude.{Some, None, if◌then◌else◌}
use Rattle.pv_typed.specs.TypedTree.{line_of}
use Rattle.pv_typed.specs.TypedStatement.{TypedStatement, Block, Declare, Expression, Empty, If, IfElse, Switch, Case, Default, While, DoWhile, For, ForDeclaration, Continue, Break, Return, Statements, NoStatements, MoreStatements}
use Rattle.pv_typed.specs.TypedUnits.{object_at}
use Rattle.pv_world.specs.Worths.{is_true, int_of}
use Rattle.pv_eval.specs.States.{Setting, State, Res, Gives, then_do, tick}
use Rattle.pv_eval.specs.Operations.{Needs}
use Rattle.pv_eval.specs.Steps.{with_conversion_by}
use Rattle.pv_exec.specs.Rules.{Rules, unruled}
use Rattle.pv_exec.specs.Flows.{Flow, Falls, Breaks, Continues, Below, full_expression_by, nothing_done, testing_by, falls, behind_switch, declares_by, then_step_by, round_by, round_do_by, returns_value_by}
use Rattle.pv_exec.specs.Blocks.{in_block_by}
use Rattle.pv_exec.specs.Labels.{Target, target_of, is_target, unless_none}

-- 6.8p2, 5.1.2.3: what a statement does, its turn first; what the statements of a list do; and what they do from a label on
unfoldable mutual
  pub ex_by : Rules → Setting → Below → TypedStatement → State → Res Flow
  -- 6.8.2p2
  ex_by R b u (Block line os xs) s = tick b s (λ s. in_block_by R b os (λ s. exs_by R b u xs s) s)
  -- a declaration stands in a list alone
  ex_by R b u (Declare line o) s = unruled R (tick b s (λ s. Gives Falls s)) s
  ex_by R b u (Expression line x) s = tick b s (λ s. nothing_done (full_expression_by R b u.call x s))
  ex_by R b u (Empty line) s = tick b s (λ s. Gives Falls s)
  ex_by R b u (If line c x) s = tick b s (λ s. then_do (testing_by R b u.call c s) (λ v s. if is_true v then ex_by R b u x s else Gives Falls s))
  ex_by R b u (IfElse line c x y) s = tick b s (λ s. then_do (testing_by R b u.call c s) (λ v s. if is_true v then ex_by R b u x s else ex_by R b u y s))
  ex_by R b u (Switch line c (Block m os xs)) s =
      tick b s (λ s. then_do (full_expression_by R b u.call c s) (λ v s. then_do (with_conversion_by R.act b c v s) (λ v s. then_do (R.act b (line_of c) (Needs v) s) (λ v s.
      unless_none (target_of (int_of v) xs) (λ s. tick b s (λ s. then_do (in_block_by R b os (λ s. exs_at_by R b u (target_of (int_of v) xs) xs s) s) behind_switch)) s))))
  ex_by R b u (Switch line c x) s = unruled R (tick b s (λ s. Gives Falls s)) s
  ex_by R b u (Case line n x) s = ex_by R b u x s
  ex_by R b u (Default line x) s = ex_by R b u x s
  ex_by R b u (While line c x) s = tick b s (λ s. round_by R b u.call (Some c) None (λ s. ex_by R b u x s) (u.again (Some c) None x) s)
  ex_by R b u (DoWhile line x c) s = tick b s (λ s. round_do_by R b u.call c (λ s. ex_by R b u x s) (u.again_do x c) s)
  ex_by R b u (For line first c step x) s = tick b s (λ s. then_step_by R b u.call first (λ s. round_by R b u.call c step (λ s. ex_by R b u x s) (u.again c step x) s) s)
  ex_by R b u (ForDeclaration line os ds c step x) s =
      tick b s (λ s. in_block_by R b os (λ s. then_do (exs_by R b u ds s) (λ fl s. falls fl (λ s. round_by R b u.call c step (λ s. ex_by R b u x s) (u.again c step x) s) s)) s)
  ex_by R b u (Continue line) s = tick b s (λ s. Gives Continues s)
  ex_by R b u (Break line) s = tick b s (λ s. Gives Breaks s)
  ex_by R b u (Return line x) s = tick b s (λ s. returns_value_by R b u.call x line s)

  -- 6.8p2, p3: the statements of a block in their order; a declaration that is reached has its initializer stored
  pub exs_by : Rules → Setting → Below → Statements → State → Res Flow
  exs_by R b u NoStatements s = Gives Falls s
  exs_by R b u (MoreStatements (Declare line o) xs) s = then_do (declares_by R b u.call o (object_at b.unit o) s) (λ fl s. exs_by R b u xs s)
  exs_by R b u (MoreStatements x xs) s = then_do (ex_by R b u x s) (λ fl s. falls fl (λ s. exs_by R b u xs s) s)

  -- 6.8.4.2p4, p5: the statements from the one with the label on; what stands before it isn't reached
  pub exs_at_by : Rules → Setting → Below → Target → Statements → State → Res Flow
  exs_at_by R b u at NoStatements s = unruled R (Gives Falls s) s
  exs_at_by R b u at (MoreStatements x xs) s = if is_target at x then then_do (ex_by R b u x s) (λ fl s. falls fl (λ s. exs_by R b u xs s) s) else exs_at_by R b u at xs s
