use Rattle.std.proofs.Common.{◌+◌, ◌++◌, ◌∷◌, [], ap, ◌∙◌, arith}
use Rattle.pv_decl.proofs.Sparsed.{value_added, value_found}
use Rattle.pv_decl.proofs.sparse.Sparse.push_value.Goals as goal

pub invariant_of-self-2 : goal.invariant_of-self-2
invariant_of-self-2 g c =
    value_found c.self.inside.values.items c.self.inside.numbers.items c.args.self.now c.self.view_is c.self.invariant c.push_reserved.new.self.items c.args.value c.push.new.self.items c.in_ok-push.ensures.items
    (c.len-place.result + 1) (omega (arith, c.len-place.ensures, c.self.inside.values.ok.0)) (c.push_reserved.ensures.items ∙ ap (λ ns. ns ++ (c.len-place.result + 1) ∷ []) c.in_ok-reserve.ensures.items)

pub returns : goal.returns
returns g c =
    value_added c.self.inside.values.items c.self.inside.numbers.items c.args.self.now c.self.view_is c.self.invariant c.push_reserved.new.self.items c.args.value c.push.new.self.items c.in_ok-push.ensures.items
    (c.len-place.result + 1) (omega (arith, c.len-place.ensures, c.self.inside.values.ok.0)) (c.push_reserved.ensures.items ∙ ap (λ ns. ns ++ (c.len-place.result + 1) ∷ []) c.in_ok-reserve.ensures.items)
