use Rattle.std.proofs.Common.{ap, ◌∙◌}
use Rattle.std.specs.FinMap.{from_entries}
use Rattle.pv_world.specs.BoundParts.{with_bindings}
use Rattle.pv_world.proofs.bound.Bound.new.Goals as goal

pub returns : goal.returns
returns c = ap (with_bindings (from_entries c.new-instances.result.entries)) c.new-few.ensures ∙ ap (λ es. from_entries es) c.new-instances.ensures.empty
