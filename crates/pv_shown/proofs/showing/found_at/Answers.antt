use Rattle.std.proofs.Common.{List, map, ap, ◌∙◌}
use Rattle.std.specs.List.{filter, fold}
use Rattle.pv_shown.specs.declared.past.Life.{Life}
use Rattle.pv_shown.specs.Shown.{put_by_address, reaches}
use Rattle.pv_shown.specs.Recorded.{held_then, helds_then}
use Rattle.pv_shown.proofs.Parting.{first_by, others_by, found_block}
use Rattle.pv_shown.proofs.showing.found_at.Goals as goal

pub put_block-requires : goal.put_block-requires
put_block-requires c =
    first_by c.loop-end.rest.now _ c.args.ends.now c.loop-end.end-index _ c.loop-end-test.true c.first_block.ensures.first c.loop-end.invariant.ends

pub loop-end-init : goal.loop-end-init
loop-end-init c = record {
  ends = c.requires;
  found = λ names.
      ap (λ (ys : List Life). fold (λ ys x. put_by_address x ys) (map (held_then names c.args.n) ys) (filter (reaches c.args.a) (helds_then names c.args.n c.args.lives.now))) c.new-found.ensures.items;
}

pub loop-end-preserved : goal.loop-end-preserved
loop-end-preserved c = record {
  ends = others_by c.loop-end.rest.now _ c.args.ends.now c.loop-end.end-index c.loop-end-test.true c.first_block.ensures.others c.loop-end.invariant.ends;
  found = λ names.
      found_block names c.args.n c.args.a c.loop-end.rest.now _ _ (map (held_then names c.args.n) c.loop-end.found.items) (map (held_then names c.args.n) c.put_block.new.found.items) _
      c.first_block.ensures.first c.first_block.ensures.others (c.in_ok-put_block.ensures names) (c.loop-end.invariant.found names);
}

pub returns : goal.returns
returns c = λ names. c.in_ok-put_each.ensures names ∙ c.loop-end.invariant.found names
