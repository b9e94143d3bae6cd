use Rattle.std.proofs.Common.{ap, take, drop, ◌∙◌}
use Rattle.pv_shown.proofs.Parting.{take_block, drop_block}
use Rattle.pv_shown.proofs.blocks.first_block.Goals as goal

pub returns-clause-first : goal.returns-clause-first
returns-clause-first c = c.split_at.ensures.front ∙ ap (λ n. take n c.args.lives.now) c.min.ensures ∙ take_block c.args.lives.now

pub returns-clause-others : goal.returns-clause-others
returns-clause-others c = c.split_at.ensures.back ∙ ap (λ n. drop n c.args.lives.now) c.min.ensures ∙ drop_block c.args.lives.now
