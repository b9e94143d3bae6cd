use Rattle.std.proofs.Common.{◌++◌, ◌∷◌, [], ap, ◌∙◌, arith}
use Rattle.pv_tree.specs.declared.short.ShortNode.TheVariants as short
use Rattle.pv_tree.proofs.Shortened.{short_row, whole_added, whole_short, rows_count}
use Rattle.pv_tree.proofs.rows.Rows.push_whole.Goals as goal

pub overflow_cast-place : goal.overflow_cast-place
overflow_cast-place c = omega (arith, c.requires, c.len-place.ensures, c.self.inside.whole.ok.0, c.self.invariant.fewer, rows_count c.self.inside.whole.items c.self.inside.short.items c.args.self.now c.self.view_is)

pub invariant_of-self-2 : goal.invariant_of-self-2
invariant_of-self-2 c = whole_short c.self.inside.whole.items c.self.inside.short.items c.args.self.now c.self.view_is c.self.invariant c.push_reserved.new.self.items c.args.row.node c.args.row.line c.args.row.depth
    c.push.new.self.items c.in_ok-push.ensures.items c.len-place.result (c.len-place.ensures ∙ c.self.inside.whole.ok.0) (c.push_reserved.ensures.items ∙ ap (λ rs. rs ++ short_row (short.Whole c.len-place.result) c.args.row.line c.args.row.depth ∷ []) c.in_ok-reserve.ensures.items)

pub returns-clause-added : goal.returns-clause-added
returns-clause-added c = whole_added c.self.inside.whole.items c.self.inside.short.items c.args.self.now c.self.view_is c.self.invariant c.push_reserved.new.self.items c.args.row.node c.args.row.line c.args.row.depth
    c.push.new.self.items c.in_ok-push.ensures.items c.len-place.result (c.len-place.ensures ∙ c.self.inside.whole.ok.0) (c.push_reserved.ensures.items ∙ ap (λ rs. rs ++ short_row (short.Whole c.len-place.result) c.args.row.line c.args.row.depth ∷ []) c.in_ok-reserve.ensures.items)
