use Rattle.std.proofs.Common.{sym}
use Rattle.pv_types.specs.Known.{tree, env}
use Rattle.pv_eval.proofs.Scalars.{pointer_is, pointer_complete}
use Rattle.pv_eval.proofs.types.accessed_pointer.Goals as goal

pub returns-clause-complete : goal.returns-clause-complete
returns-clause-complete c = pointer_complete c.args.types.now c.args.t c.requires.known c.requires.pointer

pub returns-clause-align : goal.returns-clause-align
returns-clause-align c = sym (pointer_is (env c.args.types.now) (tree c.args.types.now c.args.t.0) c.requires.pointer).align

pub returns-clause-form : goal.returns-clause-form
returns-clause-form c = (pointer_is (env c.args.types.now) (tree c.args.types.now c.args.t.0) c.requires.pointer).form
