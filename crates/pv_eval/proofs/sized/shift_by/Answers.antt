use Rattle.std.proofs.Common.{sym, ◌∙◌, arith}
use Rattle.pv_types.specs.Known.{tree}
use Rattle.pv_world.specs.Pointers.{moves}
use Rattle.pv_world.specs.Suiting.{can_shift}
use Rattle.pv_world.specs.Coming.{worth_of}
use Rattle.pv_eval.specs.Sizes.{element_in}
use Rattle.pv_eval.proofs.Numbers.{kept}
use Rattle.pv_eval.proofs.BySize.{by_size, by_none}
use Rattle.pv_eval.proofs.sized.shift_by.Goals as goal

pub shift-requires : goal.shift-requires
shift-requires c =
    let k = kept (element_in c.args.types.now (tree c.args.types.now c.args.t.0)) c.in-Some.size (sym c.element_size.ensures ∙ c.in-Some.is) in
    omega (arith, k.also)

pub returns-in-Some : goal.returns-in-Some
returns-in-Some c = λ b.
    let v = worth_of c.args.v.now in
    let x = worth_of c.args.x.now in
    let n = element_in c.args.types.now (tree c.args.types.now c.args.t.0) in
    by_size (λ m. moves c.args.minus c.args.pointer_first m v x) (λ m. can_shift c.args.world.now.memory.table v x) n c.in-Some.size _ _ _ _ _
    (kept n c.in-Some.size (sym c.element_size.ensures ∙ c.in-Some.is)) c.shift.ensures.did

pub returns-in-None : goal.returns-in-None
returns-in-None c = λ b.
    let v = worth_of c.args.v.now in
    let x = worth_of c.args.x.now in
    by_none (λ m. moves c.args.minus c.args.pointer_first m v x) (λ m. can_shift c.args.world.now.memory.table v x) (element_in c.args.types.now (tree c.args.types.now c.args.t.0)) _ _ _ _
    (sym c.element_size.ensures ∙ c.in-None.is) c.unfit.ensures
