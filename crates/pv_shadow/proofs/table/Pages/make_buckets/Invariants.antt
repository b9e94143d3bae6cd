use Rattle.std.proofs.Common.{◌≡◌, ◌-◌, vec_len}
use Rattle.pv_shadow.specs.Buckets.{all_pages}
use Rattle.pv_shadow.proofs.table.Pages.make_buckets.Given as goal

abbrev pub invariant-loop-self : goal.invariant-loop-self
invariant-loop-self l = all_pages l.self ≡ all_pages l.initial.self

abbrev pub decreases-loop-self : goal.decreases-loop-self
decreases-loop-self l = 256 - vec_len l.self.buckets
