use Rattle.std.proofs.Common.{sym, ap, ◌∙◌}
use Rattle.pv_shadow.specs.Buckets.{all_pages}
use Rattle.pv_shadow.proofs.Pages.{slot_of, dropped}
use Rattle.pv_shadow.proofs.bytes.Bytes.drop_bare.Goals as goal

pub returns-in-Some-remove : goal.returns-in-Some-remove
returns-in-Some-remove c = rw (← c.self.view_is) (dropped (all_pages c.self.inside.pages) (all_pages c.remove.new.self) c.args.k
    (λ j. ap (λ o. slot_of o j) (sym c.in-Some.ensures.value) ∙ c.is_bare.ensures c.if-is_bare.true j) c.remove.ensures.updates)
