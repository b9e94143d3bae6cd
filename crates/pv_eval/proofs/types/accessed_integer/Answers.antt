use Rattle.pv_eval.proofs.Scalars.{integer_complete, integer_align, integer_form}
use Rattle.pv_eval.proofs.types.accessed_integer.Goals as goal

pub returns-clause-complete : goal.returns-clause-complete
returns-clause-complete c = integer_complete c.args.types.now c.args.t c.args.kind c.bytes_of-size.result c.requires.known c.requires.integer c.bytes_of-size.ensures.size c.bytes_of-size.ensures.some c.bytes_of-size.ensures.few

pub returns-clause-align : goal.returns-clause-align
returns-clause-align c = integer_align c.args.types.now c.args.t.0 c.args.kind c.bytes_of-size.result c.requires.integer c.bytes_of-size.ensures.size

pub returns-clause-form : goal.returns-clause-form
returns-clause-form c = integer_form c.args.types.now c.args.t.0 c.args.kind c.requires.integer
