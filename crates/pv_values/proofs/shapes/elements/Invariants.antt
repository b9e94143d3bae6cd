use Rattle.std.proofs.Common.{◌≡◌, ◌-◌, ◌++◌}
use Rattle.pv_values.specs.ShapeParts.{elements_of}
use Rattle.pv_values.proofs.shapes.elements.Given as goal

abbrev pub invariant-loop-i : goal.invariant-loop-i
invariant-loop-i l = l.parts.items ++ elements_of l.element l.bytes l.i (l.count - l.i) ≡ elements_of l.element l.bytes 0 l.count
