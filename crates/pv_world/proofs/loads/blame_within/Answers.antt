use Rattle.std.proofs.Common.{sym, ◌∙◌}
use Rattle.pv_world.proofs.Reaching.{blame_other}
use Rattle.pv_world.proofs.loads.blame_within.Goals as goal

pub returns : goal.returns
returns c = λ M t is blamed.
    let other = sym c.same_name.ensures ∙ c.if-same_name.false in
    c.blame_of.ensures ∙ blame_other M c.args.memory.now t c.args.q c.args.p is other c.requires.loaded c.requires.used
