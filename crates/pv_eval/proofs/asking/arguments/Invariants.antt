use Rattle.std.proofs.Common.{◌≡◌, ◌++◌, drop, map}
use Rattle.pv_typed.specs.Nodes.{arguments_in}
use Rattle.pv_typed.specs.Tables.{nodes}
use Rattle.pv_world.specs.Coming.{worth_of}
use Rattle.pv_eval.specs.Frames.{asked_with}
use Rattle.pv_eval.proofs.asking.arguments.Given as goal

-- the arguments so far, with those that are left
abbrev pub invariant-loop-i : goal.invariant-loop-i
invariant-loop-i l =
    l.args.items ++ asked_with (arguments_in (nodes l.unit) (drop l.i l.children)) (map worth_of (drop l.i l.got))
    ≡ asked_with (arguments_in (nodes l.unit) l.children) (map worth_of l.got)
