use Rattle.std.proofs.Common.{sym, subst}
use Rattle.pv_object.specs.Memory.{Mem}
use Rattle.pv_object.specs.Reaching.{IsReach}
use Rattle.pv_object.proofs.Contents.{reached_bytes}
use Rattle.pv_object.proofs.memory.Memory.is_marked.Goals as goal

pub is_marked-requires-clause-there : goal.is_marked-requires-clause-there
is_marked-requires-clause-there c =
    let P : Mem → Type 0 = λ M. IsReach M.table c.args.at.now c.args.n in
    reached_bytes c.self.inside.table c.self.inside.bytes c.args.at.now c.args.n c.self.invariant (subst P (sym c.self.view_is) c.requires.reached)
