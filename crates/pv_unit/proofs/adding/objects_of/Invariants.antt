use Rattle.std.proofs.Common.{◌≡◌, take}
use Rattle.pv_typed.specs.Formed.{AreObjects}
use Rattle.pv_unit.specs.Stated.{statements_in}
use Rattle.pv_unit.specs.Statements.{declared_in}
use Rattle.pv_unit.proofs.adding.objects_of.Given as goal

abbrev pub invariant-loop-n : goal.invariant-loop-n
invariant-loop-n l = (l.objects.items ≡ declared_in (statements_in l.into (take l.n-index l.items))) × AreObjects l.into l.objects.items
