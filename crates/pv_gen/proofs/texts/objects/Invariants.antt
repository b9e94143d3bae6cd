use Rattle.std.proofs.Common.{◌≡◌}
use Rattle.std.specs.List.{flat_map, range_with_len}
use Rattle.pv_gen.specs.Source.{object_line}
use Rattle.pv_gen.proofs.texts.objects.Given as goal

abbrev pub invariant-loop-k : goal.invariant-loop-k
invariant-loop-k l = l.text.items ≡ flat_map object_line (range_with_len 0 l.k)
