-- What holds of pieces of two runs, and of the ways in which pieces are made, holds of what is left of a run in progress.
use Rattle.std.proofs.Common.{ℕ, List, [], ◌∷◌, refl}
use Rattle.std.specs.Prelude.{Bool, drop, None, Some}
use Rattle.std.specs.declared.option.Option.{Option}
use Rattle.pv_typed.specs.TypedTree.{TypedTree, line_of}
use Rattle.pv_typed.specs.TypedStatement.{TypedStatement, Statements}
use Rattle.pv_typed.specs.Trees.{declared_of, statement_line}
use Rattle.pv_typed.specs.TypedUnits.{Store, StoredValue, ValueOf, TextOf, object_at, function_at}
use Rattle.pv_typed.specs.Tables.{Stored}
use Rattle.pv_typed.specs.NodeTrees.{statement_at}
use Rattle.pv_world.specs.Worlds.{Worth, Nothing}
use Rattle.pv_world.specs.Worths.{is_true, int_of}
use Rattle.pv_eval.specs.States.{Setting, State, Res, Stops, Unreached}
use Rattle.pv_eval.specs.TypeForms.{lvalue}
use Rattle.pv_eval.specs.Operations.{Tests, Accepts, Needs, EndsBody, Puts}
use Rattle.pv_eval.specs.Machines.{Started, ended_value}
use Rattle.pv_eval.proofs.Closed.{Ways, Relation, beside_setting, choice, converted-way, handed-way}
use Rattle.pv_exec.specs.declared.task.Task.{Task}
use Rattle.pv_exec.specs.declared.task.Task.TheVariants as task
use Rattle.pv_exec.specs.declared.task.Doing.{Doing}
use Rattle.pv_exec.specs.declared.task.Doing.TheVariants as doing
use Rattle.pv_exec.specs.Flows.{Flow, Falls, Returns, Below}
use Rattle.pv_exec.specs.Labels.{target_of}
use Rattle.pv_exec.specs.OfRuns.{ex, below}
use Rattle.pv_exec.specs.Calls.{value_by}
use Rattle.pv_exec.specs.Parts.{Loop, loop_of, rounds, stepped_on, rest_of_loop, loop_from_test, line_of_condition, DoLoop, do_of, rounded_do, tested_do, Choice, choice_of, other_side, branch_of, Selection, selection_of, selection_jump}
use Rattle.pv_exec.specs.Tasks.{Reached, Left, Valued, left_flow, statements_from, return_with, returned_of, stored_value, rest_of_stores, declarations_of, within, after_flow, after_value, takes_value, after_task}
use Rattle.pv_exec.specs.Works.{flow_of, does}
use Rattle.pv_exec.proofs.Executed.{Alike, falling, going, switching, unless-way, end-way, scoped-way, testing-way, stepped-way, round-way, stores-way, ex-closed, exs-closed, exs_at-closed, even-closed}
use Rattle.pv_exec.proofs.Framed.{left-closed, answered-closed}

module _ (b : Setting) (n : ℕ) (sides : Option (List Bool)) {R : Relation} (w : Ways b (beside_setting b n sides) R) (stop : (k : ℕ) (A : Type 0) → R k k A (λ s. Stops Unreached s) (λ s. Stops Unreached s)) (u : Stored) (k : ℕ) where
  abbrev c : Setting
  c = beside_setting b n sides

  abbrev z : Below
  z = below b k

  abbrev z' : Below
  z' = below c k

  alike : Alike b n sides w k z z'
  alike = even-closed b n sides w (stop 0) k

  -- how a statement is left is handed on
  reaching : {m m' : State → Res Flow} → R k k Flow m m' → R k k Reached (λ s. left_flow (m s)) (λ s. left_flow (m' s))
  reaching h = w.seq h (λ fl. w.gives (Left fl))

  executed : (x : TypedStatement) → R k k Flow (ex b z x) (ex c z' x)
  executed x = w.less (ex-closed b n sides w k z z' alike x)

  rounds-closed : (l : Loop) → R k k Flow (rounds b z l) (rounds c z' l)
  rounds-closed l = w.less (round-way b n sides w k z z' alike l.condition l.step (ex-closed b n sides w k z z' alike l.body) (alike.again l.condition l.step l.body))

  rounded-closed : (l : Loop) (fl : Flow) → R k k Flow (rest_of_loop b z l fl) (rest_of_loop c z' l fl)
  rounded-closed l fl = going b n sides w fl (stepped-way b n sides w k z z' alike l.step (alike.again l.condition l.step l.body))

  again-closed : (l : Loop) → R k k Flow (stepped_on b z l) (stepped_on c z' l)
  again-closed l = stepped-way b n sides w k z z' alike l.step (alike.again l.condition l.step l.body)

  tested-closed : (l : Loop) (v : Worth) → R k k Flow (loop_from_test b z l v) (loop_from_test c z' l v)
  tested-closed l v = w.seq (w.acts (line_of_condition l.condition) (Tests v) tt) (λ v. choice b n sides w (is_true v) (w.seq (executed l.body) (λ fl. rounded-closed l fl)) (w.gives Falls))

  rounded-do-closed : (l : Option DoLoop) (fl : Flow) → R k k Flow (rounded_do b z l fl) (rounded_do c z' l fl)
  rounded-do-closed None fl = w.gives fl
  rounded-do-closed (Some l) fl = going b n sides w fl (w.seq (w.less (testing-way b n sides w k z z' alike l.condition)) (λ v. choice b n sides w (is_true v) (alike.again_do l.body l.condition) (w.gives Falls)))

  tested-do-closed : (l : Option DoLoop) (v : Worth) → R k k Flow (tested_do b z l v) (tested_do c z' l v)
  tested-do-closed None v = w.gives Falls
  tested-do-closed (Some l) v = w.seq (w.acts (line_of l.condition) (Tests v) tt) (λ v. choice b n sides w (is_true v) (alike.again_do l.body l.condition) (w.gives Falls))

  other-closed : (x : Option TypedStatement) → R k k Flow (other_side b z x) (other_side c z' x)
  other-closed None = w.gives Falls
  other-closed (Some x) = executed x

  chosen-closed : (x : Option Choice) (v : Worth) → R k k Flow (branch_of b z x v) (branch_of c z' x v)
  chosen-closed None v = w.gives Falls
  chosen-closed (Some x) v = w.seq (w.acts (line_of x.condition) (Tests v) tt) (λ v. choice b n sides w (is_true v) (executed x.body) (other-closed x.other))

  selected-closed : (x : Option Selection) (v : Worth) → R k k Flow (selection_jump b z x v) (selection_jump c z' x v)
  selected-closed None v = w.gives Falls
  selected-closed (Some x) v =
      w.seq (converted-way b n sides w x.value v) (λ v. w.seq (w.acts (line_of x.value) (Needs v) tt) (λ v.
      unless-way b n sides w (target_of (int_of v) x.block.items) (w.less (w.ticks (w.seq (scoped-way b n sides w x.block.objects (exs_at-closed b n sides w k z z' alike (target_of (int_of v) x.block.items) x.block.items)) (λ fl. switching b n sides w fl))))))

  returned-closed : (line : ℕ) (x : Option TypedTree) (v : Worth) → R k k Flow (return_with b line x v) (return_with c line x v)
  returned-closed line None v = w.gives Falls
  returned-closed line (Some x) v = w.seq (converted-way b n sides w x v) (λ v. w.seq (w.acts line (Accepts v) tt) (λ v. w.gives (Returns v)))

  value-closed : (o : ℕ) (x : Store) (what : StoredValue) (v : Worth) → R k k Worth (stored_value b o x what v) (stored_value c o x what v)
  value-closed o x (ValueOf e) v = w.seq (handed-way b n sides w e v) (λ v. w.acts x.line (Puts o x.offset (lvalue b x.t) v) (x.t, refl))
  value-closed o x (TextOf l) v = w.gives Nothing

  stored-closed : (o : ℕ) (xs : List Store) (v : Worth) → R k k Flow (rest_of_stores b z.call o xs v) (rest_of_stores c z'.call o xs v)
  stored-closed o [] v = w.gives Falls
  stored-closed o (x ∷ xs) v = w.seq (w.seq (value-closed o x x.what v) (λ v. stores-way b n sides w k z z' alike o xs)) (λ v. w.gives Falls)

  within-closed : (ds : Option Statements) (l : Loop) → R k k Flow (within b z ds l) (within c z' ds l)
  within-closed None l = w.gives Falls
  within-closed (Some ds) l = w.seq (exs-closed b n sides w k z z' alike ds) (λ fl. falling b n sides w fl (rounds-closed l))

  flow-closed : (es : List Started) (t : Task) (fl : Flow) → R k k Reached (after_flow b u k es t fl) (after_flow c u k es t fl)
  unfolding after_flow
  flow-closed es (task.InList l i) fl = reaching (falling b n sides w fl (exs-closed b n sides w k z z' alike (statements_from u l i)))
  flow-closed es (task.InBlock m) fl = reaching (w.seq (end-way b n sides w (declared_of (statement_at u m))) (λ v. w.gives fl))
  flow-closed es task.InSwitch fl = reaching (switching b n sides w fl)
  flow-closed es (task.Declared m) fl = reaching (falling b n sides w fl (rounds-closed (loop_of (statement_at u m))))
  flow-closed es (task.Rounded m) fl = reaching (rounded-closed (loop_of (statement_at u m)) fl)
  flow-closed es (task.RoundedDo m) fl = reaching (rounded-do-closed (do_of (statement_at u m)) fl)
  flow-closed es (task.InCall f line) fl =
      w.seq (end-way b n sides w (function_at b.unit f).params) (λ v. w.seq (w.acts line EndsBody tt) (λ v.
      w.seq (answered-closed b n sides w k z.call z'.call alike.call (stop k) u es (value_by b (function_at b.unit f) fl)) (λ g. w.gives (Valued g.value))))
  flow-closed es task.Dropping fl = w.gives (Left fl)
  flow-closed es (task.Chosen m) fl = w.gives (Left fl)
  flow-closed es (task.First m) fl = w.gives (Left fl)
  flow-closed es (task.Tested m) fl = w.gives (Left fl)
  flow-closed es (task.Stepped m) fl = w.gives (Left fl)
  flow-closed es (task.TestedDo m) fl = w.gives (Left fl)
  flow-closed es (task.Selecting m) fl = w.gives (Left fl)
  flow-closed es (task.Returning m) fl = w.gives (Left fl)
  flow-closed es (task.Storing o i) fl = w.gives (Left fl)

  value-after : (t : Task) (v : Worth) → R k k Reached (after_value b u k t v) (after_value c u k t v)
  unfolding after_value
  value-after task.Dropping v = reaching (w.gives Falls)
  value-after (task.Chosen m) v = reaching (chosen-closed (choice_of (statement_at u m)) v)
  value-after (task.First m) v = reaching (rounds-closed (loop_of (statement_at u m)))
  value-after (task.Tested m) v = reaching (tested-closed (loop_of (statement_at u m)) v)
  value-after (task.Stepped m) v = reaching (alike.again (loop_of (statement_at u m)).condition (loop_of (statement_at u m)).step (loop_of (statement_at u m)).body)
  value-after (task.TestedDo m) v = reaching (tested-do-closed (do_of (statement_at u m)) v)
  value-after (task.Selecting m) v = reaching (selected-closed (selection_of (statement_at u m)) v)
  value-after (task.Returning m) v = reaching (returned-closed (statement_line (statement_at u m)) (returned_of (statement_at u m)) v)
  value-after (task.Storing o i) v = reaching (stored-closed o (drop i (object_at b.unit o).inits) v)
  value-after (task.InList l i) v = w.gives (Valued v)
  value-after (task.InBlock m) v = w.gives (Valued v)
  value-after task.InSwitch v = w.gives (Valued v)
  value-after (task.Declared m) v = w.gives (Valued v)
  value-after (task.Rounded m) v = w.gives (Valued v)
  value-after (task.RoundedDo m) v = w.gives (Valued v)
  value-after (task.InCall f line) v = w.gives (Valued v)

  pub task-closed : (es : List Started) (t : Task) (r : Reached) → R k k Reached (after_task b u k es t r) (after_task c u k es t r)
  task-closed es t (Left fl) = flow-closed es t fl
  task-closed es t (Valued v) = choice b n sides w (takes_value t) (value-after t v) (flow-closed es t (Returns v))

  pub does-closed : (es : List Started) (d : Doing) → R k k Reached (does b u k es d) (does c u k es d)
  unfolding does
  does-closed es (doing.Enter m) = reaching (executed (statement_at u m))
  does-closed es (doing.Jump m l i) = reaching (w.less (w.ticks (scoped-way b n sides w (declared_of (statement_at u m)) (exs-closed b n sides w k z z' alike (statements_from u l i)))))
  does-closed es (doing.Statements l i) = reaching (exs-closed b n sides w k z z' alike (statements_from u l i))
  does-closed es (doing.Within m) = reaching (within-closed (declarations_of (statement_at u m)) (loop_of (statement_at u m)))
  does-closed es (doing.Again x p) = reaching (again-closed (loop_of (statement_at u p.statement)))
  does-closed es (doing.Round p) = reaching (alike.again (loop_of (statement_at u p.statement)).condition (loop_of (statement_at u p.statement)).step (loop_of (statement_at u p.statement)).body)
  does-closed es (doing.Body p) = reaching (w.seq (executed (loop_of (statement_at u p.statement)).body) (λ fl. rounded-closed (loop_of (statement_at u p.statement)) fl))
  does-closed es (doing.Store o i) = reaching (w.seq (stores-way b n sides w k z z' alike o (drop i (object_at b.unit o).inits)) (λ v. w.gives Falls))
  does-closed es doing.Absent = reaching (w.less (w.ticks (w.gives Falls)))
  does-closed es (doing.Left fl) = w.gives (Left (flow_of fl))
  does-closed es (doing.Call f) = w.seq (left-closed b n sides w k z.call z'.call alike.call (stop k) u es) (λ g. w.gives (Valued g.value))
  does-closed es doing.Evaluate = w.seq (left-closed b n sides w k z.call z'.call alike.call (stop k) u es) (λ g. w.gives (Valued g.value))
  does-closed es doing.Evaluated = w.gives (Valued (ended_value es))
