use Rattle.std.proofs.Common.{ℕ, List, map, refl}
use Rattle.std.specs.List.{flat_map}
use Rattle.pv_shown.specs.declared.past.Life.{Life}
use Rattle.pv_shown.specs.Shown.{inside_line}
use Rattle.pv_shown.specs.Recorded.{held_then}
use Rattle.pv_shown.proofs.Walks.{walk_more, walk_ends}
use Rattle.pv_shown.proofs.showing.add_found.Goals as goal

pub loop-x-preserved : goal.loop-x-preserved
loop-x-preserved c = λ n.
    let lines : List Life → List ℕ = λ xs. flat_map (inside_line c.args.a) (map (held_then c.args.names.now n) xs) in
    walk_more lines lines c.args.found.now c.loop-x.x-index _ c.loop-x.text.items c.add_inside.new.text.items _ _ c.loop-x-test.true (c.in_ok-add_inside.ensures n) refl (c.loop-x.invariant n)

pub returns : goal.returns
returns c = λ n.
    let lines : List Life → List ℕ = λ xs. flat_map (inside_line c.args.a) (map (held_then c.args.names.now n) xs) in
    walk_ends lines c.args.found.now c.loop-x.x-index c.loop-x.text.items _ c.loop-x-test.false refl (c.loop-x.invariant n)
