use Rattle.std.proofs.Common.{◌∙◌, arith}
use Rattle.pv_decl.proofs.Sparsed.{number_within, place_read, value_read}
use Rattle.pv_decl.proofs.sparse.Sparse.at.Goals as goal

pub index-requires : goal.index-requires
index-requires g c =
    omega (arith, c.self.inside.values.ok.0, number_within c.self.inside.values.items c.self.inside.numbers.items c.args.self.now c.self.view_is c.args.i c.requires c.index-number.result.now c.index-number.ensures c.self.invariant)

pub returns-else-number-eq0 : goal.returns-else-number-eq0
returns-else-number-eq0 g c =
    value_read c.self.inside.values.items c.index-number.result.now c.index.result.now (omega arith)
    (number_within c.self.inside.values.items c.self.inside.numbers.items c.args.self.now c.self.view_is c.args.i c.requires c.index-number.result.now c.index-number.ensures c.self.invariant) c.index.ensures
    ∙ place_read c.self.inside.values.items c.self.inside.numbers.items c.args.self.now c.self.view_is c.args.i c.requires c.index-number.result.now c.index-number.ensures
