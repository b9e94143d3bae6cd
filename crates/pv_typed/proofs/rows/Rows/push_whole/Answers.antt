use Rattle.std.proofs.Common.{rules, ◌≡◌, ◌∷◌, [], ◌++◌, ◌∙◌, length, refl}
use Rattle.pv_typed.specs.declared.packed.Packed.TheVariants as packed
use Rattle.pv_typed.proofs.PackedRows.{whole_more, whole_there}
use Rattle.pv_typed.proofs.rows.Rows.push_whole.Goals as goal

last : (c : goal.After-push_reserved) → c.len-next.result ≡ length c.self.inside.whole.items
last c = search rules

pushed : (c : goal.After-push_reserved) → c.push_reserved.new.self.items ≡ c.self.inside.packed.items ++ (packed.Whole (length c.self.inside.whole.items) ∷ [])
pushed c = c.push_reserved.ensures.items ∙ rw (c.in_ok-reserve.ensures.items, last c) refl

pub invariant_of-self-2 : goal.invariant_of-self-2
invariant_of-self-2 c =
    rw (pushed c, c.in_ok-push.ensures.items)
    (whole_there c.self.inside.whole.items c.self.inside.packed.items c.args.row c.self.invariant)

pub returns-clause-added : goal.returns-clause-added
returns-clause-added c =
    rw (pushed c, c.in_ok-push.ensures.items)
    (whole_more c.self.inside.whole.items c.self.inside.packed.items c.args.row c.self.invariant c.args.self.now c.self.view_is)
