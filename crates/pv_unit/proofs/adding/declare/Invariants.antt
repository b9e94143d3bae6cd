use Rattle.std.proofs.Common.{◌≡◌, ℕ, List, ◌++◌, map, take, false}
use Rattle.pv_check.specs.Open.{state_of}
use Rattle.pv_unit.specs.Reaching.{reached_of}
use Rattle.pv_unit.specs.Stated.{statements_in, AreStatements, Moves}
use Rattle.pv_unit.specs.Statements.{reached_declarations}
use Rattle.pv_unit.proofs.adding.declare.Given as goal

abbrev pub invariant-loop-x : goal.invariant-loop-x
invariant-loop-x l =
    Moves l.fn.into l.s l.into l.s × AreStatements l.into l.items.items
    × (statements_in l.into l.items.items ≡ statements_in l.fn.into l.fn.items.items ++ reached_declarations (map reached_of (take l.x-index l.all)))
    × ((texts : List (List ℕ)) → state_of texts false l.s l.into ≡ state_of texts false l.s l.fn.into)
