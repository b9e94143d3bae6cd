use Rattle.std.proofs.Common.{ap, ◌∙◌}
use Rattle.pv_types.specs.Known.{Known, tree}
use Rattle.pv_types.specs.Ty.{Ty}
use Rattle.pv_types.specs.Compatible.{are_compatible}
use Rattle.pv_check.proofs.Opening.{open_goes}
use Rattle.pv_unit.proofs.mains.is_main_type.Goals as goal

pub returns-clause-opened : goal.returns-clause-opened
returns-clause-opened c = open_goes c.args.into.now c.main_type_in.new.into c.args.s.now c.requires.opened c.in_ok-m.ensures.goes

pub returns-clause-answer : goal.returns-clause-answer
returns-clause-answer c =
    c.compatible.ensures ∙ ap (λ (k : Known). are_compatible (tree k c.args.t.0) (tree k c.in_ok-m.m.0)) c.types.ensures
    ∙ ap (λ (x : Ty). are_compatible x (tree c.main_type_in.new.into.known c.in_ok-m.m.0)) (c.in_ok-m.ensures.goes.grown.types c.args.t.0 c.requires.known)
    ∙ ap (are_compatible (tree c.args.into.now.known c.args.t.0)) c.in_ok-m.ensures.tree
