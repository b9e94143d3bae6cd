-- A bridge: what a statement does once its turn is taken.
use Rattle.std.specs.Prelude.{Bool, true, false, Some, if◌then◌else◌}
use Rattle.pv_typed.specs.TypedStatement.{TypedStatement, Block, Expression, If, IfElse, Switch, Case, Default, While, DoWhile, For, ForDeclaration, Continue, Break, Return}
use Rattle.pv_eval.specs.States.{Setting, State, Res, Gives, then_do}
use Rattle.pv_exec.specs.OfRuns.{ex, exs, full_expression, testing, then_step, round_do, returns_value, in_block}
use Rattle.pv_exec.specs.Flows.{Flow, Falls, Breaks, Continues, Below, nothing_done}
use Rattle.pv_world.specs.Worths.{is_true}
use Rattle.pv_exec.specs.Parts.{loop_of, rounds, selection_jump, selection_of}
use Rattle.pv_exec.specs.Tasks.{within}

-- what each kind of statement does behind its turn; each clause is a part of the clause of execution
abbrev pub behind_turn : Setting → Below → TypedStatement → State → Res Flow
behind_turn b w (Block line os xs) s = in_block b os (λ s. exs b w xs s) s
behind_turn b w (Expression line x) s = nothing_done (full_expression b w.call x s)
behind_turn b w (If line c x) s = then_do (testing b w.call c s) (λ v s. if is_true v then ex b w x s else Gives Falls s)
behind_turn b w (IfElse line c x y) s = then_do (testing b w.call c s) (λ v s. if is_true v then ex b w x s else ex b w y s)
behind_turn b w (Switch line c (Block m os xs)) s = then_do (full_expression b w.call c s) (selection_jump b w (selection_of (Switch line c (Block m os xs))))
behind_turn b w (While line c x) s = rounds b w (loop_of (While line c x)) s
behind_turn b w (DoWhile line x c) s = round_do b w.call c (λ s. ex b w x s) (w.again_do x c) s
behind_turn b w (For line first c step x) s = then_step b w.call first (rounds b w (loop_of (For line first c step x))) s
behind_turn b w (ForDeclaration line os ds c step x) s = in_block b os (within b w (Some ds) (loop_of (ForDeclaration line os ds c step x))) s
behind_turn b w (Continue line) s = Gives Continues s
behind_turn b w (Break line) s = Gives Breaks s
behind_turn b w (Return line x) s = returns_value b w.call x line s
behind_turn b w x s = Gives Falls s

-- 6.8.1: a statement behind a label
abbrev pub is_labelled : TypedStatement → Bool
is_labelled (Case line n x) = true
is_labelled (Default line x) = true
is_labelled x = false

-- 6.8.2: a block
abbrev pub is_block_tree : TypedStatement → Bool
is_block_tree (Block line os xs) = true
is_block_tree x = false

-- 6.8.5.3: a `for` with a declaration
abbrev pub is_for_tree : TypedStatement → Bool
is_for_tree (ForDeclaration line os ds c step x) = true
is_for_tree x = false
