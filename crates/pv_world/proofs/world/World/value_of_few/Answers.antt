use Rattle.std.proofs.Common.{◌≡◌, List, ap, ◌∙◌, subst}
use Rattle.std.proofs.lemmas.List.{length-take-le}
use Rattle.pv_shadow.specs.declared.byte.Byte.{Byte}
use Rattle.pv_shadow.specs.Bytes.{bytes_from}
use Rattle.pv_world.specs.Loads.{ReadsOn}
use Rattle.pv_world.proofs.LoadSteps.{came_read}
use Rattle.pv_world.proofs.world.World.value_of_few.Goals as goal

pub returns-clause-did : goal.returns-clause-did
returns-clause-did c =
    let few : c.read_into.new.into ≡ bytes_from c.args.self.now.memory.bytes c.args.at.now.address c.args.n = rw (← c.self.view_is) (c.read_into.ensures.bytes ∙ ap (bytes_from c.self.inside.memory.bytes c.args.at.now.address) (length-take-le _ _ c.requires.few)) in
    let P : List Byte → Type 0 = λ bs. ReadsOn c.args.self.now bs c.args.shape c.args.at.now.address c.args.p c.args.blame c.valued.result c.valued.new.self c.args.told.now.items c.valued.new.told.items in
    subst P few (came_read c.valued.result c.args.self.now c.valued.new.self c.args.told.now.items c.valued.new.told.items c.read_into.new.into c.args.shape c.args.at.now.address c.args.p c.args.blame c.blame_since-loaded.result (rw (← c.self.view_is) c.blame_since-loaded.ensures) c.valued.ensures.did)
