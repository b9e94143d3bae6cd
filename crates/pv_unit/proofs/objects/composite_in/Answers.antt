use Rattle.std.proofs.Common.{ap, ◌∙◌}
use Rattle.pv_types.specs.Known.{Known, tree}
use Rattle.pv_check.specs.Composite.{composite_of}
use Rattle.pv_check.proofs.Opening.{goes_types, whole_types}
use Rattle.pv_unit.proofs.objects.composite_in.Goals as goal

pub returns-clause-tree : goal.returns-clause-tree
returns-clause-tree c = c.in_ok-r.ensures.tree ∙ ap (λ (k : Known). composite_of (tree k c.args.a.0) (tree k c.args.b.0)) c.types_mut.ensures.value

pub returns-clause-whole : goal.returns-clause-whole
returns-clause-whole c = whole_types c.args.into.now _ _ c.types_mut.ensures.value c.requires.known c.in_ok-r.ensures.grows

pub returns-clause-goes : goal.returns-clause-goes
returns-clause-goes c = goes_types c.args.into.now _ _ c.types_mut.ensures.value c.requires.known c.in_ok-r.ensures.grows
