use Rattle.std.proofs.Common.{◌≡◌, ◌++◌, drop}
use Rattle.pv_eval.specs.PermissionParts.{marks_of}
use Rattle.pv_eval.proofs.permission.marks_of.Given as goal

abbrev pub invariant-loop-i : goal.invariant-loop-i
invariant-loop-i l = l.marks.items ++ marks_of (drop l.i l.bytes) ≡ marks_of l.bytes
