use Rattle.std.proofs.Common.{◌+◌, ◌++◌, ◌∷◌, [], length, refl, ap, ◌∙◌, arith}
use Rattle.pv_tree.proofs.Spanned.{span, list_added, spans_added}
use Rattle.pv_tree.proofs.lists.Lists.add.Goals as goal

pub overflow_sub-start : goal.overflow_sub-start
overflow_sub-start c = omega (arith, c.len-start.ensures, c.self.inside.numbers.ok.0, c.self.invariant.few)

pub overflow_cast-start : goal.overflow_cast-start
overflow_cast-start c = omega (arith, c.len-start.ensures, c.self.inside.numbers.ok.0, c.self.invariant.few)

pub invariant_of-self-2 : goal.invariant_of-self-2
invariant_of-self-2 c =
    spans_added c.self.inside.numbers.items c.self.inside.spans.items c.args.self.now c.self.view_is c.self.invariant c.args.list.now c.extend_from_slice.new.self.items c.in_ok-extend_from_slice.ensures.items
    c.len-start.result (c.len-start.result + length c.args.list.now) (c.len-start.ensures ∙ c.self.inside.numbers.ok.0) refl c.push_reserved.new.self.items
    (c.push_reserved.ensures.items ∙ ap (λ ss. ss ++ span c.len-start.result (c.len-start.result + length c.args.list.now) ∷ []) c.reserve.ensures.items)
    (omega (arith, c.len-start.ensures, c.self.inside.numbers.ok.0, c.self.invariant.few))

pub returns-clause-added : goal.returns-clause-added
returns-clause-added c =
    list_added c.self.inside.numbers.items c.self.inside.spans.items c.args.self.now c.self.view_is c.self.invariant c.args.list.now c.extend_from_slice.new.self.items c.in_ok-extend_from_slice.ensures.items
    c.len-start.result (c.len-start.result + length c.args.list.now) (c.len-start.ensures ∙ c.self.inside.numbers.ok.0) refl c.push_reserved.new.self.items
    (c.push_reserved.ensures.items ∙ ap (λ ss. ss ++ span c.len-start.result (c.len-start.result + length c.args.list.now) ∷ []) c.reserve.ensures.items)
