use Rattle.pv_decl.proofs.Sparsed.{places_filled, places_found}
use Rattle.pv_decl.proofs.sparse.Sparse.fill.Goals as goal

pub invariant_of-self-2 : goal.invariant_of-self-2
invariant_of-self-2 g c =
    places_found c.self.inside.values.items c.self.inside.numbers.items c.args.self.now c.self.view_is c.self.invariant c.resize.new.self.items
    c.args.count _ c.in_ok-resize.ensures.items c.self.inside.numbers.ok.0 c.requires

pub returns : goal.returns
returns g c =
    places_filled c.self.inside.values.items c.self.inside.numbers.items c.args.self.now c.self.view_is c.self.invariant c.resize.new.self.items
    c.args.count _ c.in_ok-resize.ensures.items c.self.inside.numbers.ok.0 c.requires
