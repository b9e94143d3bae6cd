use Rattle.std.proofs.Common.{rules, ◌≡◌, ◌<◌, ◌++◌, ◌∷◌, [], length, get_or, refl, sym, ◌∙◌, arith}
use Rattle.pv_typed.specs.TypedStatement.{Declare}
use Rattle.pv_unit.specs.declared.blocks.Reached.{Reached}
use Rattle.pv_unit.specs.Stated.{statements_in}
use Rattle.pv_unit.proofs.BlockMade.{reached_at, reached_stay, reached_next, nothing_behind}
use Rattle.pv_unit.proofs.Moving.{moves_same, moves_on}
use Rattle.pv_unit.proofs.adding.declare.Goals as goal

abbrev nobody : Reached
nobody = record { object = 0; line = 0 }

pub loop-x-init : goal.loop-x-init
loop-x-init c =
    (moves_same c.args.into.now c.args.s.now c.requires.opened, c.requires.items, sym (nothing_behind (statements_in c.args.into.now c.args.items.now.items)), λ texts. refl)

pub declare_one-requires-clause-object : goal.declare_one-requires-clause-object
declare_one-requires-clause-object c =
    let xs = c.args.all.now in
    let lt : c.loop-x.x-index < length xs = omega arith in
    let here : (get_or xs c.loop-x.x-index nobody).object < length c.loop-x.into.objects = reached_at c.loop-x.into xs c.loop-x.x-index nobody (reached_stay c.args.into.now c.loop-x.into xs c.loop-x.invariant.0.goes c.requires.objects) lt in
    search rules

pub loop-x-preserved : goal.loop-x-preserved
loop-x-preserved c =
    let xs = c.args.all.now in
    let lt : c.loop-x.x-index < length xs = omega arith in
    let one : statements_in c.declare_one.new.into c.declare_one.new.items.items ≡ statements_in c.loop-x.into c.loop-x.items.items ++ (Declare (get_or xs c.loop-x.x-index nobody).line (get_or xs c.loop-x.x-index nobody).object ∷ []) = search rules in (
      moves_on c.args.into.now c.loop-x.into c.declare_one.new.into c.args.s.now c.args.s.now c.args.s.now c.loop-x.invariant.0 c.in_ok-declare_one.ensures.moves,
      c.in_ok-declare_one.ensures.there,
      reached_next c.args.into.now c.loop-x.into c.declare_one.new.into xs c.loop-x.x-index nobody c.loop-x.items.items c.declare_one.new.items.items c.args.items.now.items lt c.loop-x.invariant.2 one,
      λ texts. c.in_ok-declare_one.ensures.state texts ∙ c.loop-x.invariant.3 texts,
    )
