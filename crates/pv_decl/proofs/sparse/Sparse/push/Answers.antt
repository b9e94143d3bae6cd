use Rattle.pv_decl.proofs.Sparsed.{nothing_found}
use Rattle.pv_decl.proofs.sparse.Sparse.push.Goals as goal

pub invariant_of-self-in-None : goal.invariant_of-self-in-None
invariant_of-self-in-None g c = nothing_found c.self.inside.values.items c.self.inside.numbers.items c.args.self.now c.self.view_is c.self.invariant c.push.new.self.items c.in_ok-push-in-None.ensures.items
