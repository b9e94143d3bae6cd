use Rattle.std.proofs.Common.{◌+◌, ◌++◌, ◌∷◌, [], refl, ap, ◌∙◌, arith}
use Rattle.pv_tree.proofs.Spanned.{span, list_added, spans_added}
use Rattle.pv_tree.proofs.lists.Lists.add_one.Goals as goal

pub invariant_of-self-2 : goal.invariant_of-self-2
invariant_of-self-2 c =
    spans_added c.self.inside.numbers.items c.self.inside.spans.items c.args.self.now c.self.view_is c.self.invariant (c.args.number ∷ []) c.push.new.self.items c.in_ok-push.ensures.items
    c.len-first.result (c.len-first.result + 1) (c.len-first.ensures ∙ c.self.inside.numbers.ok.0) refl c.push_reserved.new.self.items
    (c.push_reserved.ensures.items ∙ ap (λ ss. ss ++ span c.len-first.result (c.len-first.result + 1) ∷ []) c.reserve.ensures.items)
    (omega (arith, c.len-first.ensures, c.self.inside.numbers.ok.0, c.self.invariant.few))

pub returns-clause-added : goal.returns-clause-added
returns-clause-added c =
    list_added c.self.inside.numbers.items c.self.inside.spans.items c.args.self.now c.self.view_is c.self.invariant (c.args.number ∷ []) c.push.new.self.items c.in_ok-push.ensures.items
    c.len-first.result (c.len-first.result + 1) (c.len-first.ensures ∙ c.self.inside.numbers.ok.0) refl c.push_reserved.new.self.items
    (c.push_reserved.ensures.items ∙ ap (λ ss. ss ++ span c.len-first.result (c.len-first.result + 1) ∷ []) c.reserve.ensures.items)
