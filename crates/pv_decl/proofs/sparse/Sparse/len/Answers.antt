use Rattle.std.proofs.Common.{arith}
use Rattle.pv_decl.proofs.Sparsed.{places_count}
use Rattle.pv_decl.proofs.sparse.Sparse.len.Goals as goal

pub returns : goal.returns
returns g c = omega (arith, c.len.ensures, c.self.inside.numbers.ok.0, places_count c.self.inside.values.items c.self.inside.numbers.items c.args.self.now c.self.view_is)
