use Rattle.pv_types.specs.Known.{tree}
use Rattle.pv_world.specs.Coming.{worth_of}
use Rattle.pv_eval.proofs.Possible.{put_so, shape_sized}
use Rattle.pv_eval.proofs.objects.put.Goals as goal

pub put_sized-requires : goal.put_sized-requires
put_sized-requires c =
    let k = c.types-types.result.now in
    shape_sized k (tree k c.args.t.0) c.shape-shape.result c.in-Some.size c.shape-shape.ensures c.in-Some.ensures

pub returns-in-Some : goal.returns-in-Some
returns-in-Some c = λ told.
    put_so c.args.unit.now c.args.o c.object-lasting.result _ c.object-lasting.ensures.object c.args.t.0 c.args.offset (worth_of c.args.v.now)
    c.types-types.result.now c.in-Some.size c.number-number.result c.shape-shape.result c.args.world.now c.put_sized.new.world told
    c.types-types.ensures c.in-Some.ensures c.number-number.ensures c.shape-shape.ensures
    (c.put_sized.ensures told)
