use Rattle.std.proofs.Common.{Ok, None, not, sym, subst}
use Rattle.pv_prov.specs.declared.names.Prov.TheVariants.{Pair}
use Rattle.pv_inst.specs.declared.values.Tried.{Tried}
use Rattle.pv_inst.specs.Table.{Table}
use Rattle.pv_object.specs.Later.{IsLater}
use Rattle.pv_object.specs.Memory.{Mem}
use Rattle.pv_object.specs.Reaching.{HasLiveBytes}
use Rattle.pv_object.proofs.Later.{settled_later, live_bytes_later}
use Rattle.pv_object.proofs.memory.Memory.side.Goals as goal

pub invariant_of-self : goal.invariant_of-self
invariant_of-self c =
    let P : Table → Type 0 = λ T. HasLiveBytes T c.self.inside.bytes in
    let one : Tried = record { pair = None; low = not c.args.high; high = c.args.high } in
    subst P (sym c.side.ensures) (live_bytes_later c.self.inside.table _ c.self.inside.bytes (settled_later c.self.inside.table (Pair c.args.pair) (Ok one)) c.self.invariant)

pub returns-clause-later : goal.returns-clause-later
returns-clause-later c =
    let P : Table → Type 0 = λ T. IsLater c.self.inside.table T in
    let Q : Mem → Type 0 = λ M. IsLater M.table c.side.new.self in
    let one : Tried = record { pair = None; low = not c.args.high; high = c.args.high } in
    subst Q c.self.view_is (subst P (sym c.side.ensures) (settled_later c.self.inside.table (Pair c.args.pair) (Ok one)))
