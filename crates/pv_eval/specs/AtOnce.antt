-- Full expressions that are evaluated at once (C17 6.8p4): bridges from the code to evaluation. Each is said for every bound that allows
-- the turns that were taken.
use Rattle.std.specs.Prelude.{◌≡◌, ℕ, ◌+◌, ◌<◌, ◌≤◌, Bool, List, []}
use Rattle.pv_tree.specs.declared.nodes.NodeId.{NodeId}
use Rattle.pv_typed.specs.TypedTree.{line_of}
use Rattle.pv_typed.specs.Tables.{Stored}
use Rattle.pv_typed.specs.NodeTrees.{expression_at}
use Rattle.pv_seq.specs.Sequencing.{Access, sequence_point}
use Rattle.pv_seq.specs.Frames.{AllRead}
use Rattle.pv_world.specs.Worlds.{Worth}
use Rattle.pv_world.specs.Worths.{truth_int}
use Rattle.pv_eval.specs.declared.marked.Marked.{Marked}
use Rattle.pv_eval.specs.States.{Setting, Gives, Stops, Turns, then_do}
use Rattle.pv_eval.specs.Sequenced.{node_value}
use Rattle.pv_eval.specs.Operations.{Tests, act}
use Rattle.pv_eval.specs.Steps.{Calling}
use Rattle.pv_eval.specs.Evaluation.{ev}
use Rattle.pv_eval.specs.Moments.{Moment, Always, state_of}
use Rattle.pv_eval.specs.Pieces.{handed_at}
use Rattle.pv_eval.specs.Ahead.{ahead}
use Rattle.pv_eval.specs.Machines.{Machine, Started, left_of, value_at, ended_value}
use Rattle.pv_eval.specs.Plainly.{has_read, GivesValue}

-- 6.8p4: the full expression has this value
abbrev pub Evaluated : Stored → NodeId → Worth → (old new : Moment) → Type 0
Evaluated u n v old new =
    Always u old (λ b out es. (call : Calling) → new.taken ≤ b.bound → GivesValue (ev b call (expression_at u n) [] (state_of old out es)) v (state_of new out es))

-- the same of an expression that was started
abbrev pub EvaluatedWhole : Stored → (was now : Started) → (old new : Moment) → Type 0
EvaluatedWhole u e f old new =
    Always u old (λ b out es. (call : Calling) → new.taken ≤ b.bound → GivesValue (ahead b call u e.frames e.opens e.place (state_of old out es)) (value_at f.place) (state_of new out es))

-- the same of the innermost expression
abbrev pub EvaluatedFirst : Stored → (old new : Machine) → Type 0
EvaluatedFirst u old new =
    Always u old.moment (λ b out es. (call : Calling) → new.moment.taken ≤ b.bound → GivesValue (left_of b call u old.started (state_of old.moment out es)) (ended_value new.started) (state_of new.moment out es))

-- and under each bound that is met before that, the run stops there: nothing was printed or told, and nothing has changed
abbrev pub Cut : Stored → NodeId → (old new : Moment) → Type 0
Cut u n old new =
    Always u old (λ b out es. (call : Calling) → old.taken ≤ b.bound → b.bound < new.taken → ev b call (expression_at u n) [] (state_of old out es) ≡ Stops Turns (state_of (record old { taken = b.bound }) out es))

-- the same of an expression that was started
abbrev pub CutWhole : Stored → (was : Started) → (old new : Moment) → Type 0
CutWhole u e old new =
    Always u old (λ b out es. (call : Calling) → old.taken ≤ b.bound → b.bound < new.taken → ahead b call u e.frames e.opens e.place (state_of old out es) ≡ Stops Turns (state_of (record old { taken = b.bound }) out es))

-- the same of the innermost expression
abbrev pub CutFirst : Stored → (old new : Machine) → Type 0
CutFirst u old new =
    Always u old.moment (λ b out es. (call : Calling) → old.moment.taken ≤ b.bound → b.bound < new.moment.taken
    → left_of b call u old.started (state_of old.moment out es) ≡ Stops Turns (state_of (record old.moment { taken = b.bound }) out es))

-- 6.5p2: an operand has this value, against accesses that only read, by these reads of its own
abbrev pub EvaluatedAmong : Stored → NodeId → Worth → List Access → (old new : Moment) → Type 0
EvaluatedAmong u n v all old new =
    Always u old (λ b out es. (call : Calling) (fs : List Access) → AllRead fs → new.taken ≤ b.bound → ev b call (expression_at u n) fs (state_of old out es) ≡ Gives (record { value = v; all = all; loose = [] }) (state_of new out es))

-- and under each bound that is met before that, the run stops there
abbrev pub CutAmong : Stored → NodeId → (old new : Moment) → Type 0
CutAmong u n old new =
    Always u old (λ b out es. (call : Calling) (fs : List Access) → AllRead fs → old.taken ≤ b.bound → b.bound < new.taken → ev b call (expression_at u n) fs (state_of old out es) ≡ Stops Turns (state_of (record old { taken = b.bound }) out es))

-- 6.5.2.2p10: a call of this function comes to be made with these arguments, against accesses that only read, by these reads of its own
abbrev pub CallsAmong : Stored → NodeId → (function : ℕ) → List Worth → List Access → (old new : Moment) → Type 0
CallsAmong u n f got all old new =
    Always u old (λ b out es. (call : Calling) (fs : List Access) → AllRead fs → new.taken ≤ b.bound
    → ev b call (expression_at u n) fs (state_of old out es) ≡ then_do (call f got (line_of (expression_at u n)) (state_of new out es)) (node_value (sequence_point (has_read fs all))))

-- an expression that was started goes on so
abbrev pub GoesOn : Stored → (was now : Started) → (old new : Moment) → Type 0
GoesOn u e f old new =
    Always u old (λ b out es. (call : Calling) → new.taken ≤ b.bound → ahead b call u e.frames e.opens e.place (state_of old out es) ≡ ahead b call u f.frames f.opens f.place (state_of new out es))

-- the same of the innermost expression
abbrev pub ContinuesFirst : Stored → (old new : Machine) → Type 0
ContinuesFirst u old new =
    Always u old.moment (λ b out es. (call : Calling) → new.moment.taken ≤ b.bound → left_of b call u old.started (state_of old.moment out es) ≡ left_of b call u new.started (state_of new.moment out es))

-- a turn more was taken
abbrev pub with_turn_taken : Moment → Moment
with_turn_taken m = record m { taken = m.taken + 1 }

-- 6.8.3p2: the full expression of a statement has this value, behind the statement's turn
abbrev pub EvaluatedNext : Stored → NodeId → Worth → (old new : Moment) → Type 0
EvaluatedNext u n v old new = Evaluated u n v (with_turn_taken old) new

-- and under each bound that is met between that turn and its end, the run stops there
abbrev pub CutNext : Stored → NodeId → (old new : Moment) → Type 0
CutNext u n old new = Cut u n (with_turn_taken old) new

-- 6.8.4.1p2: the controlling expression of a statement has a value, behind the statement's turn, that compares so with 0
pub record TestedNext (u : Stored) (n : NodeId) (t : Bool) (old new : Moment) : Type 0 where
  pub worth : Worth
  pub has : EvaluatedNext u n worth old new
  pub tests : (b : Setting) (line : ℕ) (out : List ℕ) (es : List Marked) → act b line (Tests worth) (state_of new out es) ≡ Gives (truth_int t) (state_of new out es)

-- 6.8.5p4: the controlling expression of a loop has a value that compares so with 0
pub record TestedNow (u : Stored) (n : NodeId) (t : Bool) (old new : Moment) : Type 0 where
  pub worth : Worth
  pub has : Evaluated u n worth old new
  pub tests : (b : Setting) (line : ℕ) (out : List ℕ) (es : List Marked) → act b line (Tests worth) (state_of new out es) ≡ Gives (truth_int t) (state_of new out es)

-- 6.8.6.4p3: the expression of a `return` has a value, behind the statement's turn, that is converted as if by assignment, and handed on so
pub record HandedNext (u : Stored) (n : NodeId) (v : Worth) (old new : Moment) : Type 0 where
  pub worth : Worth
  pub has : EvaluatedNext u n worth old new
  pub hands : (b : Setting) (line : ℕ) (out : List ℕ) (es : List Marked) → handed_at b line (expression_at u n) worth (state_of new out es) ≡ Gives v (state_of new out es)
