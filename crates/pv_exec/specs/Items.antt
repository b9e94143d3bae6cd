-- The next thing to do in a list of statements (C17 6.8p2), as the code finds it: a bridge to execution.
use Rattle.std.specs.Prelude.{◌≡◌, ℕ, Result, Ok, Err, None, Some}
use Rattle.std.specs.declared.option.Option.{Option}
use Rattle.pv_tree.specs.declared.nodes.ListId.{ListId}
use Rattle.pv_typed.specs.TypedStatement.{TypedStatement, Declare}
use Rattle.pv_typed.specs.TypedUnits.{object_at}
use Rattle.pv_typed.specs.Tables.{Stored}
use Rattle.pv_typed.specs.NodeTrees.{IsStatement, statement_at}
use Rattle.pv_eval.specs.declared.failure.Failure.{Failure}
use Rattle.pv_eval.specs.States.{Setting, State, Res, Gives, then_do}
use Rattle.pv_exec.specs.declared.lists.Item.{Item}
use Rattle.pv_exec.specs.declared.lists.Item.TheVariants as item
use Rattle.pv_exec.specs.Flows.{Flow, Falls, Below, falls, nothing_done}
use Rattle.pv_exec.specs.Lists.{store_all}
use Rattle.pv_exec.specs.OfRuns.{ex, exs}
use Rattle.pv_exec.specs.Tasks.{statements_from}
use Rattle.pv_exec.specs.Fits.{HasStore}

-- 6.7: the object that a statement declares
abbrev pub declared_in : TypedStatement → Option ℕ
declared_in (Declare line o) = Some o
declared_in _ = None

-- what is left of a list from this place on
abbrev pub item_does : Setting → Below → Stored → ListId → Item → State → Res Flow
item_does b w u l item.End s = Gives Falls s
item_does b w u l (item.Statement n i) s = then_do (ex b w (statement_at u n) s) (λ fl s. falls fl (λ s. exs b w (statements_from u l i) s) s)
item_does b w u l (item.Stores o i) s = then_do (nothing_done (store_all b w.call o (object_at b.unit o).inits s)) (λ fl s. exs b w (statements_from u l i) s)

-- what is left of the list from a place on, once the declarations before it were passed
abbrev pub ItemOr : Setting → Stored → ListId → (from : ℕ) → Result Item Failure → (old new : State) → Type 0
ItemOr b u l i (Ok x) s s' = (w : Below) → exs b w (statements_from u l i) s ≡ item_does b w u l x s'
ItemOr b u l i (Err e) s s' = Unit {0}

-- what it names is there: a statement (6.8), an object with an initializer (6.7.9)
abbrev pub ItemFits : Stored → Item → Type 0
ItemFits u item.End = Unit {0}
ItemFits u (item.Statement n i) = IsStatement u n
ItemFits u (item.Stores o i) = HasStore u o 0
