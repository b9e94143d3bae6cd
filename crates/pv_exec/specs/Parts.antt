-- A bridge: parts of statements: loops (C17 6.8.5) and selections (6.8.4), and what is left of each once an expression of it has a value or its
-- body was left. Each clause is a part of the clause of execution.
use Rattle.std.specs.Prelude.{ℕ, ℤ, List, None, Some, if◌then◌else◌}
use Rattle.std.specs.declared.option.Option.{Option}
use Rattle.pv_typed.specs.TypedTree.{TypedTree, line_of}
use Rattle.pv_typed.specs.TypedStatement.{TypedStatement, Block, If, IfElse, Switch, While, DoWhile, For, ForDeclaration, Statements}
use Rattle.pv_world.specs.Worlds.{Worth}
use Rattle.pv_world.specs.Worths.{is_true, int_of}
use Rattle.pv_eval.specs.States.{Setting, State, Res, Gives, then_do, tick}
use Rattle.pv_eval.specs.Operations.{Tests, Needs, act}
use Rattle.pv_eval.specs.OfRuns.{with_conversion}
use Rattle.pv_exec.specs.Flows.{Flow, Falls, Below, goes_on, behind_switch}
use Rattle.pv_exec.specs.OfRuns.{then_step, round, if_tested, in_block, ex, exs_at}
use Rattle.pv_exec.specs.Labels.{target_of, unless_none}

-- 6.8.5.1, 6.8.5.3: a loop whose condition comes first
pub record Loop : Type 0 where
  pub condition : Option TypedTree
  pub step : Option TypedTree
  pub body : TypedStatement

-- 6.8.5.1, 6.8.5.3: the loop that a statement is
abbrev pub loop_of : TypedStatement → Loop
loop_of (While line c x) = record { condition = Some c; step = None; body = x }
loop_of (For line first c step x) = record { condition = c; step = step; body = x }
loop_of (ForDeclaration line os ds c step x) = record { condition = c; step = step; body = x }
loop_of x = record { condition = None; step = None; body = x }

-- 6.8.5p4: all its rounds
abbrev pub rounds : Setting → Below → Loop → State → Res Flow
rounds b w l s = round b w.call l.condition l.step (λ s. ex b w l.body s) (w.again l.condition l.step l.body) s

-- 6.8.5p4: the line at which the condition is tested
abbrev pub line_of_condition : Option TypedTree → ℕ
line_of_condition None = 0
line_of_condition (Some c) = line_of c

-- 6.8.5.3p1: a loop from its last expression on
abbrev pub stepped_on : Setting → Below → Loop → State → Res Flow
stepped_on b w l s = then_step b w.call l.step (w.again l.condition l.step l.body) s

-- 6.8.5p4: a loop from the end of its body on, which was left so
abbrev pub rest_of_loop : Setting → Below → Loop → Flow → State → Res Flow
rest_of_loop b w l fl s = goes_on fl (then_step b w.call l.step (w.again l.condition l.step l.body)) s

-- 6.8.5p4: a loop from its condition on, which has this value
abbrev pub loop_from_test : Setting → Below → Loop → Worth → State → Res Flow
loop_from_test b w l v s =
    then_do (act b (line_of_condition l.condition) (Tests v) s) (λ v s.
    if is_true v then then_do (ex b w l.body s) (rest_of_loop b w l) else Gives Falls s)

-- 6.8.5.2: a loop whose condition comes last
pub record DoLoop : Type 0 where
  pub condition : TypedTree
  pub body : TypedStatement

-- 6.8.5.2: the `do` that a statement is
abbrev pub do_of : TypedStatement → Option DoLoop
do_of (DoWhile line x c) = Some (record { condition = c; body = x })
do_of _ = None

-- 6.8.5.2p1: a `do` from the end of its body on, which was left so
abbrev pub rounded_do : Setting → Below → Option DoLoop → Flow → State → Res Flow
rounded_do b w (Some l) fl s = goes_on fl (if_tested b w.call (Some l.condition) (w.again_do l.body l.condition)) s
rounded_do b w None fl s = Gives fl s

-- 6.8.5.2p1: a `do` from its condition on, which has this value
abbrev pub tested_do : Setting → Below → Option DoLoop → Worth → State → Res Flow
tested_do b w (Some l) v s = then_do (act b (line_of l.condition) (Tests v) s) (λ v s. if is_true v then w.again_do l.body l.condition s else Gives Falls s)
tested_do b w None v s = Gives Falls s

-- 6.8.4.1: an `if`, with or without its `else`
pub record Choice : Type 0 where
  pub condition : TypedTree
  pub body : TypedStatement
  pub other : Option TypedStatement

-- 6.8.4.1: the `if` that a statement is
abbrev pub choice_of : TypedStatement → Option Choice
choice_of (If line c x) = Some (record { condition = c; body = x; other = None })
choice_of (IfElse line c x y) = Some (record { condition = c; body = x; other = Some y })
choice_of _ = None

-- 6.8.4.1p2: the `else`, if there is one
abbrev pub other_side : Setting → Below → Option TypedStatement → State → Res Flow
other_side b w None s = Gives Falls s
other_side b w (Some y) s = ex b w y s

-- 6.8.4.1p2: once the condition has this value
abbrev pub branch_of : Setting → Below → Option Choice → Worth → State → Res Flow
branch_of b w (Some c) v s = then_do (act b (line_of c.condition) (Tests v) s) (λ v s. if is_true v then ex b w c.body s else other_side b w c.other s)
branch_of b w None v s = Gives Falls s

-- 6.8.4.2: a `switch` whose body is a block
pub record Items : Type 0 where
  pub objects : List ℕ
  pub items : Statements

-- 6.8.4.2: the expression of a `switch`, and its body
pub record Selection : Type 0 where
  pub value : TypedTree
  pub block : Items

-- 6.8.2: the body of a `switch`, where it is a block
abbrev pub items_of : TypedStatement → Option Items
items_of (Block line os xs) = Some (record { objects = os; items = xs })
items_of _ = None

-- 6.8.4.2: a `switch` with such a body
abbrev pub selection_by : TypedTree → Option Items → Option Selection
selection_by c None = None
selection_by c (Some x) = Some (record { value = c; block = x })

-- 6.8.4.2: the `switch` that a statement is
abbrev pub selection_of : TypedStatement → Option Selection
selection_of (Switch line c x) = selection_by c (items_of x)
selection_of _ = None

-- 6.8.4.2p5: the jump, which takes a turn, and the body from there on
abbrev pub jumps : Setting → Below → ℤ → Items → State → Res Flow
jumps b w n x s = unless_none (target_of n x.items) (λ s. tick b s (λ s. then_do (in_block b x.objects (λ s. exs_at b w (target_of n x.items) x.items s) s) behind_switch)) s

-- 6.8.4.2p5: once the expression has this value, which is promoted
abbrev pub selection_jump : Setting → Below → Option Selection → Worth → State → Res Flow
selection_jump b w (Some x) v s = then_do (with_conversion b x.value v s) (λ v s. then_do (act b (line_of x.value) (Needs v) s) (λ v s. jumps b w (int_of v) x.block s))
selection_jump b w None v s = Gives Falls s
