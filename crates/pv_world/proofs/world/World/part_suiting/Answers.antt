use Rattle.std.proofs.Common.{◌≡◌, ◌+◌, ◌-◌, List, take, drop, None, ap, ◌∙◌, subst, arith}
use Rattle.pv_shadow.specs.declared.byte.Byte.{Byte}
use Rattle.pv_world.specs.Telling.{no_telling}
use Rattle.pv_world.specs.Accesses.{worth_in}
use Rattle.pv_world.specs.Coming.{Came, coming_of, worth_of}
use Rattle.pv_world.proofs.world.World.part_suiting.Goals as goal

pub returns-in-Whole-clause-did : goal.returns-in-Whole-clause-did
returns-in-Whole-clause-did c =
    let long : c.args.offset + c.args.size - c.args.offset ≡ c.args.size = omega arith in
    let P : List Byte → Type 0 = λ l. Came worth_of c.part_of.result c.part_of.new.self c.part_of.new.told.items (coming_of c.args.told.now.items c.args.self.now (worth_in c.args.self.now l c.args.shape None None no_telling)) in
    let e = ap (λ n. take n (drop c.args.offset c.deref.result.now)) long ∙ ap (λ l. take c.args.size (drop c.args.offset l)) c.deref.ensures.value in
    rw c.in-Whole.is (subst P e c.part_of.ensures.did)
