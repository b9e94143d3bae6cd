use Rattle.pv_eval.proofs.PlainCodes.{own_coded}
use Rattle.pv_eval.proofs.plain_coded.own_integer.Goals as goal

pub read_integer-requires-clause-number : goal.read_integer-requires-clause-number
read_integer-requires-clause-number c = c.requires.code.0.known

pub read_integer-requires-clause-same : goal.read_integer-requires-clause-same
read_integer-requires-clause-same c = c.requires.code.0.same

pub read_integer-requires-clause-integer : goal.read_integer-requires-clause-integer
read_integer-requires-clause-integer c = c.requires.code.1

pub read_integer-requires-clause-own : goal.read_integer-requires-clause-own
read_integer-requires-clause-own c = c.requires.code.2

pub returns : goal.returns
returns c =
    own_coded c.args.unit.now c.args.world.now c.args.n c.args.noting c.args.notes.now.items c.read_integer.new.notes.items c.args.a c.args.t c.args.o c.args.lasting c.in_ok-place.place c.read_integer.result c.requires.code.0 c.requires.code.3 c.in_ok-place.ensures c.read_integer.ensures
