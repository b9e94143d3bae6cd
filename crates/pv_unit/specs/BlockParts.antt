-- A bridge: what functions answer that do a part of what Blocks says.
use Rattle.pv_check.specs.State.{State, ◌>>=◌, After}
use Rattle.pv_unit.specs.Blocks.{Reached, block_declarators, block_storage}
use Rattle.pv_unit.specs.Declarations.{specified_by}
use Rattle.std.specs.declared.option.Option.{Option}
use Rattle.std.specs.Prelude.{List}
use Rattle.pv_tree.specs.Syntax.{Trees}

-- 6.7p1: specifiers and declarators
abbrev pub block_declared : Trees → Trees → State → Option (After (List Reached))
block_declared specs ds s = do
  a ← specified_by specs s
  lasting ← block_storage a.value.storage
  block_declarators ds lasting a.value.t a.state
