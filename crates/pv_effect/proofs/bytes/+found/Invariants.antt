use Rattle.std.proofs.Common.{◌+◌, ◌*◌, drop}
use Rattle.pv_types.specs.Known.{tree, env}
use Rattle.pv_types.specs.Layouts.{layout_in, look}
use Rattle.pv_types.specs.LayoutParts.{part_count, or_none}
use Rattle.pv_layout.proofs.Unions.{Around}
use Rattle.pv_effect.specs.EffectiveType.{some_over}
use Rattle.pv_effect.specs.Searches.{passes}
use Rattle.pv_effect.proofs.Descents.{Descent}
use Rattle.pv_effect.proofs.bytes.+found.Given as goal

abbrev pub decreases-found : goal.decreases-found
decreases-found l = part_count (layout_in (env l.types.now) (tree l.types.now l.t.0)) * 4 + 3

abbrev pub decreases-below : goal.decreases-below
decreases-below l = part_count (layout_in (env l.types.now) (tree l.types.now l.t.0)) * 4 + 2

abbrev pub decreases-in_union : goal.decreases-in_union
decreases-in_union l = part_count (or_none (look (env l.types.now) l.tag)) * 4 + 1

abbrev pub decreases-found_in_others : goal.decreases-found_in_others
decreases-found_in_others l = part_count (or_none (look (env l.types.now) l.tag)) * 4

abbrev pub invariant-found-loop-answer : goal.invariant-found-loop-answer
invariant-found-loop-answer l = Descent l.types l.sought l.fn.t.0 l.fn.offset l.at.0 l.rest

abbrev pub decreases-found-loop-answer : goal.decreases-found-loop-answer
decreases-found-loop-answer l = part_count (layout_in (env l.types) (tree l.types l.at.0))

abbrev pub invariant-found_in_others-loop-m : goal.invariant-found_in_others-loop-m
invariant-found_in_others-loop-m l = Around l.types (some_over (env l.types) (passes l.types l.sought) l.offset) l.tag l.main.0 (drop l.m-index l.m-items)
