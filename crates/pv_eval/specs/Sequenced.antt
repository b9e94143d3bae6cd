-- Pieces of an expression with their accesses (6.5p2, 6.5p3).
use Rattle.std.specs.Prelude.{ℕ, List}
use Rattle.pv_seq.specs.Sequencing.{Access, Open, beside, with_operand}
use Rattle.pv_world.specs.Worlds.{Worth}
use Rattle.pv_eval.specs.States.{Setting, State, Res, Gives, then_do}
use Rattle.pv_eval.specs.Operations.{Op}

-- 6.5p2: what a node gives: its value, all its accesses, and those writes whose side effects may be incomplete
pub record Given : Type 0 where
  pub value : Worth
  pub all : List Access
  pub loose : List Access

-- 6.5p2: a node's accesses, with those of an operand that was evaluated
abbrev pub with_given : Open → Given → Open
with_given j g = with_operand j (record { foes = j.foes; all = g.all; loose = g.loose })

-- 6.5p1: a node's value, with its accesses
abbrev pub node_value : Open → Worth → State → Res Given
node_value j v s = Gives (record { value = v; all = j.all; loose = j.loose }) s

-- 5.1.2.3: what an operation does in the state of a run
abbrev pub Acts : Type 0
Acts = Setting → (line : ℕ) → Op → State → Res Worth

-- 6.5p1: an operation of the node, and then what follows
abbrev pub doing_by : Acts → Setting → (line : ℕ) → Op → State → (Worth → State → Res Given) → Res Given
doing_by A b line op s go = then_do (A b line op s) go

-- 6.5p1: an operation that gives the node's value
abbrev pub work_by : Acts → Setting → (line : ℕ) → Op → Open → State → Res Given
work_by A b line op j s = then_do (A b line op s) (node_value j)

-- 6.5p1, p2: an operand, against the node's foes and the accesses of the operands before it, from which nothing sequences it
abbrev pub operand : (List Access → State → Res Given) → Open → State → (Open → Worth → State → Res Given) → Res Given
operand e j s go = then_do (e (beside j) s) (λ g s. go (with_given j g) g.value s)

-- 5.1.2.3p3: an operand after a sequence point, against the node's foes alone
abbrev pub later_operand : (List Access → State → Res Given) → Open → State → (Open → Worth → State → Res Given) → Res Given
later_operand e j s go = then_do (e j.foes s) (λ g s. go (with_given j g) g.value s)
