use Rattle.std.proofs.Common.{FitsSigned, rules, Some, ap, w64, to_z, of_z}
use Rattle.std.proofs.lemmas.Int.{to_z-of_z}
use Rattle.pv_typed.specs.TypedUnits.{TypedObject}
use Rattle.pv_world.specs.Worths.{int}
use Rattle.pv_eval.specs.declared.plain.Found.TheVariants as found
use Rattle.pv_eval.proofs.PlainNumbers.{constant_some, size_some, object_some}
use Rattle.pv_eval.proofs.plain.alone.Goals as goal

pub returns-in-Constant : goal.returns-in-Constant
returns-in-Constant c =
    let f : FitsSigned w64 c.in-Constant.k = search rules in
    constant_some c.args.unit.now c.args.world.now c.args.x c.in-Constant.k (Some (found.Number (to_z w64 (of_z w64 c.in-Constant.k)))) c.in-Constant.is (ap int (to_z-of_z w64 c.in-Constant.k f))

pub returns-in-Sizeof : goal.returns-in-Sizeof
returns-in-Sizeof c = size_some c.args.unit.now c.args.world.now c.args.x c.in-Sizeof.k c.natural.result c.in-Sizeof.is c.natural.ensures

pub returns-in-Object : goal.returns-in-Object
returns-in-Object c =
    object_some c.args.unit.now c.args.world.now c.args.x c.in-Object.o c.object.result.lasting c.object-in-Object.result c.in-Object.is (ap (λ (x : TypedObject). x.lasting) c.object.ensures.object) c.object-in-Object.ensures
