use Rattle.pv_typed.specs.TypedUnits.{object_at}
use Rattle.pv_typed.specs.Tables.{nodes, whole_unit, store_in}
use Rattle.pv_exec.proofs.Inits.{mapped-at}
use Rattle.pv_exec.proofs.stores.init_at.Goals as goal

pub returns-clause-store : goal.returns-clause-store
returns-clause-store c =
    let u = c.args.unit.now in
    mapped-at (store_in u.known (nodes u)) (object_at (whole_unit u) c.args.o).inits c.inits.result.now c.args.i _ c.inits.ensures.stores c.requires.there.1
