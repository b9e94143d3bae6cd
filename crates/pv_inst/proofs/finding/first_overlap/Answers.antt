use Rattle.std.proofs.Common.{◌≡◌, None, ◌∙◌}
use Rattle.pv_inst.proofs.Meetings.{no_instance}
use Rattle.pv_inst.proofs.Index.{first_is_nearest, none_is_nearest}
use Rattle.pv_inst.proofs.finding.first_overlap.Goals as goal

pub returns-in_err-i : goal.returns-in_err-i
returns-in_err-i c =
    let e : c.from_residual.result ≡ None = (cc) in
    e ∙ none_is_nearest c.args.places.now.entries c.args.instances.now c.args.base c.args.size no_instance c.requires.placed c.requires.apart c.requires.indexed c.in_default.ensures.none c.in_err-i.ensures.none

pub returns : goal.returns
returns c =
    first_is_nearest c.args.places.now.entries c.args.instances.now c.args.base c.args.size c.in_ok-i.field-0-0 c.in_ok-i.i no_instance c.requires.placed c.requires.apart c.requires.indexed c.in_default.ensures.none c.in_ok-i.ensures.there c.in_ok-i.ensures.within.0 c.in_ok-i.ensures.within.1 c.in_ok-i.ensures.least
