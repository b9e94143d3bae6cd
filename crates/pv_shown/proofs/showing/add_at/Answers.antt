use Rattle.std.proofs.Common.{◌∙◌, ◌++◌, ap, codes, map, List}
use Rattle.std.specs.List.{flat_map}
use Rattle.pv_journal.specs.Obeying.{Held}
use Rattle.pv_shown.specs.declared.past.Life.{Life}
use Rattle.pv_shown.specs.Shown.{inside_line}
use Rattle.pv_shown.specs.Recorded.{held_then, helds_then}
use Rattle.pv_shown.proofs.Walks.{two_parts}
use Rattle.pv_shown.proofs.Parting.{found_count}
use Rattle.pv_shown.proofs.showing.add_at.Goals as goal

pub returns : goal.returns
returns c =
    let found = rw c.as_slice.ensures.value at (c.in_ok-found.ensures c.args.names.now) in
    two_parts _ _ (codes "at") _ _ _ _ _
    (c.in_ok-add_found.ensures c.args.n
    ∙ ap (λ (ys : List Held). c.args.text.now.items ++ flat_map (inside_line c.args.a) ys)
    (ap (λ (xs : List Life). map (held_then c.args.names.now c.args.n) xs) c.as_slice-3.ensures.value ∙ found))
    (c.len.ensures ∙ c.in_ok-found.found.ok.0 ∙ found_count c.args.names.now c.args.n c.args.a c.in_ok-found.found.items (helds_then c.args.names.now c.args.n c.args.past.now.lives.items) found) c.add_count.ensures
