use Rattle.std.proofs.Common.{◌≤◌, length, sym, ap, ◌∙◌, subst, arith}
use Rattle.pv_tree.specs.Spans.{list_of}
use Rattle.pv_tree.proofs.Spanned.{spans_count, span_within, list_read}
use Rattle.pv_tree.proofs.lists.Lists.at.Goals as goal

pub index-span-requires : goal.index-span-requires
index-span-requires c = omega (arith, c.requires, c.self.inside.spans.ok.0, spans_count c.self.inside.numbers.items c.self.inside.spans.items c.args.self.now c.self.view_is)

pub part-requires-clause-order : goal.part-requires-clause-order
part-requires-clause-order c = (span_within c.self.inside.numbers.items c.self.inside.spans.items c.args.self.now c.self.view_is c.args.i c.requires c.index-span.result.now c.index-span.ensures c.self.invariant).order

pub part-requires-clause-within : goal.part-requires-clause-within
part-requires-clause-within c =
    subst (λ xs. c.index-span.result.now.end ≤ length xs) (sym c.as_slice.ensures.value)
    (span_within c.self.inside.numbers.items c.self.inside.spans.items c.args.self.now c.self.view_is c.args.i c.requires c.index-span.result.now c.index-span.ensures c.self.invariant).within

pub returns : goal.returns
returns c =
    c.part.ensures
    ∙ ap (λ xs. list_of xs c.index-span.result.now) c.as_slice.ensures.value
    ∙ list_read c.self.inside.numbers.items c.self.inside.spans.items c.args.self.now c.self.view_is c.args.i c.requires c.index-span.result.now c.index-span.ensures
