use Rattle.pv_eval.proofs.PlainCodes.{own_coded}
use Rattle.pv_eval.proofs.plain_coded.own_pointer.Goals as goal

pub read_pointer-requires-clause-number : goal.read_pointer-requires-clause-number
read_pointer-requires-clause-number c = c.requires.code.0.known

pub read_pointer-requires-clause-same : goal.read_pointer-requires-clause-same
read_pointer-requires-clause-same c = c.requires.code.0.same

pub read_pointer-requires-clause-pointer : goal.read_pointer-requires-clause-pointer
read_pointer-requires-clause-pointer c = c.requires.code.1

pub read_pointer-requires-clause-own : goal.read_pointer-requires-clause-own
read_pointer-requires-clause-own c = c.requires.code.2

pub returns : goal.returns
returns c =
    own_coded c.args.unit.now c.args.world.now c.args.n c.args.noting c.args.notes.now.items c.read_pointer.new.notes.items c.args.a c.args.t c.args.o c.args.lasting c.in_ok-place.place c.read_pointer.result c.requires.code.0 c.requires.code.3 c.in_ok-place.ensures c.read_pointer.ensures
