use Rattle.pv_types.proofs.Peeling.{positive_size}
use Rattle.pv_effect.proofs.Below.{element_hit, element_miss}
use Rattle.pv_effect.proofs.bytes.in_array.Goals as goal

pub nonzero_div-offset : goal.nonzero_div-offset
nonzero_div-offset c = rw c.size-size.ensures (positive_size c.args.types.now c.args.element.0 c.requires.built c.requires.complete)

pub nonzero_rem-result : goal.nonzero_rem-result
nonzero_rem-result c = rw c.size-size.ensures (positive_size c.args.types.now c.args.element.0 c.requires.built c.requires.complete)

pub returns-then-offset-size-clause-value : goal.returns-then-offset-size-clause-value
returns-then-offset-size-clause-value c = λ f. element_hit c.args.types.now c.args.element.0 c.args.n c.size-size.result c.args.offset f c.requires.built c.requires.complete c.size-size.ensures c.if-offset-size.true

pub returns-else-offset-size-clause-value : goal.returns-else-offset-size-clause-value
returns-else-offset-size-clause-value c = λ f. element_miss c.args.types.now c.args.element.0 c.args.n c.size-size.result c.args.offset f c.requires.built c.requires.complete c.size-size.ensures c.if-offset-size.false
