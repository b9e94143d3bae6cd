-- What the machine of expressions has, and what its calls come to: a bridge from the code to evaluation (C17 6.5).
use Rattle.std.specs.Prelude.{ℕ, Bool, true, false, List, [], ◌∷◌, map, if◌then◌else◌}
use Rattle.std.specs.declared.option.Option.{Option}
use Rattle.pv_script.specs.Lines.{ScriptLine}
use Rattle.pv_tree.specs.declared.nodes.NodeId.{NodeId}
use Rattle.pv_typed.specs.Tables.{Stored}
use Rattle.pv_seq.specs.Sequencing.{Open, sequence_point}
use Rattle.pv_seq.specs.Rivals.{top, below}
use Rattle.pv_world.specs.Worlds.{Worth, Nothing}
use Rattle.pv_world.specs.Coming.{worth_of}
use Rattle.pv_eval.specs.States.{Setting, State, Unreached, Res, Stops, then_do}
use Rattle.pv_eval.specs.Sequenced.{Given, node_value}
use Rattle.pv_eval.specs.Steps.{Calling}
use Rattle.pv_eval.specs.declared.frames.Frame.{Frame}
use Rattle.pv_eval.specs.declared.frames.Now.{Now}
use Rattle.pv_eval.specs.declared.frames.Now.TheVariants as now
use Rattle.pv_eval.specs.Moments.{Moment, first_moment}
use Rattle.pv_eval.specs.Stack.{rest}
use Rattle.pv_eval.specs.Frames.{after}
use Rattle.pv_eval.specs.Ahead.{ahead, stack}

-- an expression that was started: its nodes that wait, the accesses of each and of the innermost node, and where it is
pub record Started : Type 0 where
  pub root : NodeId
  pub frames : List Frame
  pub opens : List Open
  pub place : Now

-- the moment, and the expressions that were started, the innermost first; the others wait for calls (6.5.2.2)
pub record Machine : Type 0 where
  pub moment : Moment
  pub started : List Started

-- 5.1.2p1: before a run nothing is started
abbrev pub first_machine : List ScriptLine → Option (List Bool) → (zap : Bool) → Machine
first_machine script sides zap = record { moment = first_moment script sides zap; started = [] }

-- what is left of the innermost expression
abbrev pub left_of : Setting → Calling → Stored → List Started → State → Res Given
left_of b call u [] s = Stops Unreached s
left_of b call u (e ∷ es) s = ahead b call u e.frames e.opens e.place s

-- 6.5.2.2: what is left of it once a call has given its value
abbrev pub answered_of : Setting → Calling → Stored → List Started → Worth → State → Res Given
answered_of b call u [] v s = Stops Unreached s
answered_of b call u (e ∷ es) v s = then_do (node_value (sequence_point (top e.opens)) v s) (rest (after b call u) (stack e.frames (below e.opens)))

-- the value of an expression that has ended
abbrev pub value_at : Now → Worth
value_at (now.Due n) = Nothing
value_at (now.Value v) = worth_of v
value_at (now.Asked f args line) = Nothing

-- the value of the innermost expression, where it has ended
abbrev pub ended_value : List Started → Worth
ended_value [] = Nothing
ended_value (e ∷ es) = value_at e.place

-- 6.5p2: its value with its accesses
abbrev pub given_by : List Started → Given
given_by [] = record { value = Nothing; all = []; loose = [] }
given_by (e ∷ es) = record { value = value_at e.place; all = (top e.opens).all; loose = (top e.opens).loose }

-- a node is about to begin, and its turn is due
abbrev pub is_due_at : Now → Bool
is_due_at (now.Due n) = true
is_due_at (now.Value v) = false
is_due_at (now.Asked f args line) = false

-- the expression has its value
abbrev pub is_value : Now → Bool
is_value (now.Due n) = false
is_value (now.Value v) = true
is_value (now.Asked f args line) = false

-- 6.5.2.2: a call of the program is handed up
abbrev pub is_call_at : Now → Bool
is_call_at (now.Due n) = false
is_call_at (now.Value v) = false
is_call_at (now.Asked f args line) = true

-- a turn of the innermost expression is due
abbrev pub is_due : List Started → Bool
is_due [] = false
is_due (e ∷ es) = is_due_at e.place

-- 6.5.2.2: the innermost expression hands a call up
abbrev pub is_asked : List Started → Bool
is_asked [] = false
is_asked (e ∷ es) = is_call_at e.place

-- an expression that goes on by a step
abbrev pub is_going : List Started → Bool
is_going [] = false
is_going (e ∷ es) = if is_call_at e.place then false else true

-- one that has ended
abbrev pub is_ended : List Started → Bool
is_ended [] = false
is_ended (e ∷ es) = is_value e.place

-- how many turns are due, one at most
abbrev pub turns_at : Now → ℕ
turns_at p = if is_due_at p then 1 else 0

-- the same of the innermost expression
abbrev pub due_turns : List Started → ℕ
due_turns es = if is_due es then 1 else 0

-- 6.5.2.2: the expressions behind the innermost one, which wait for calls
abbrev pub after_first : List Started → List Started
after_first [] = []
after_first (e ∷ es) = es

-- the node of the innermost expression
abbrev pub root_of : List Started → NodeId
root_of [] = record { 0 = 0 }
root_of (e ∷ es) = e.root

-- 6.5.2.2: the function that is called, where a call is handed up
abbrev pub function_asked : Now → ℕ
function_asked (now.Due n) = 0
function_asked (now.Value v) = 0
function_asked (now.Asked f args line) = f

-- 6.5.2.2: the arguments of the call that is handed up
abbrev pub arguments_at : Now → List Worth
arguments_at (now.Due n) = []
arguments_at (now.Value v) = []
arguments_at (now.Asked f args line) = map worth_of args.items

-- 6.5.2.2: the line of the call that is handed up
abbrev pub line_at : Now → ℕ
line_at (now.Due n) = 0
line_at (now.Value v) = 0
line_at (now.Asked f args line) = line

-- 6.5.2.2: the same of the innermost expression: the function
abbrev pub asked_function : List Started → ℕ
asked_function [] = 0
asked_function (e ∷ es) = function_asked e.place

-- 6.5.2.2: its arguments
abbrev pub asked_arguments : List Started → List Worth
asked_arguments [] = []
asked_arguments (e ∷ es) = arguments_at e.place

-- 6.5.2.2: its line
abbrev pub asked_line : List Started → ℕ
asked_line [] = 0
asked_line (e ∷ es) = line_at e.place
