use Rattle.std.proofs.Common.{ℕ, sym, ap, ◌∙◌, subst}
use Rattle.std.specs.Prelude.{◌&&◌}
use Rattle.pv_types.specs.Layouts.{up_to}
use Rattle.pv_types.specs.Known.{tree}
use Rattle.pv_world.specs.declared.got.Shape.{Shape}
use Rattle.pv_world.specs.Accesses.{takes_bytes}
use Rattle.pv_world.specs.Preconditions.{HasSizeOf}
use Rattle.pv_world.specs.Suiting.{has_part, knows_worth}
use Rattle.pv_world.specs.Coming.{worth_of}
use Rattle.pv_eval.specs.TypeForms.{shape_of}
use Rattle.pv_eval.specs.Sizes.{size_in}
use Rattle.pv_eval.proofs.Numbers.{kept}
use Rattle.pv_eval.proofs.Settings.{scalar_sized}
use Rattle.pv_eval.proofs.BySize.{part_sized, by_none}
use Rattle.pv_eval.proofs.sized.part_of.Goals as goal

pub part-requires : goal.part-requires
part-requires c =
    let m = c.args.types.now in
    let T = tree m c.args.t.0 in
    let k = kept (size_in m T) c.in-Some.size (sym c.size_of.ensures ∙ c.in-Some.is) in
    let P : Shape → Type 0 = λ s. HasSizeOf s c.in-Some.size in
    let Q : ℕ → Type 0 = λ n. HasSizeOf (shape_of T) n in
    record { size = subst P (sym c.shape.ensures) (subst Q k.same (scalar_sized m T)) }

pub returns-in-Some : goal.returns-in-Some
returns-in-Some c = λ b l e f.
    part_sized c.args.offset l (worth_of c.args.v.now) c.in-Some.size _ _ _ _ _ _
    (kept l.size c.in-Some.size (ap up_to e ∙ sym c.size_of.ensures ∙ c.in-Some.is)) (c.shape.ensures ∙ sym f) c.part.ensures.did

pub returns-in-None : goal.returns-in-None
returns-in-None c = λ b l e f.
    let v = worth_of c.args.v.now in
    by_none (λ n. takes_bytes c.args.offset n l.shape v) (λ n. has_part v c.args.offset n && knows_worth c.args.world.now.memory.table v) l.size _ _ _ _
    (ap up_to e ∙ sym c.size_of.ensures ∙ c.in-None.is) c.unfit.ensures
