use Rattle.std.proofs.Common.{◌≡◌, Some, Result, subst}
use Rattle.pv_inst.specs.declared.values.Tried.{Tried}
use Rattle.pv_inst.specs.declared.values.Miss.{Miss}
use Rattle.pv_inst.specs.Use.{after_use}
use Rattle.pv_shadow.specs.Bytes.{bytes_from}
use Rattle.pv_object.specs.Memory.{Mem}
use Rattle.pv_object.specs.Loads.{whole_pointer}
use Rattle.pv_world.specs.Worlds.{World}
use Rattle.pv_world.specs.Telling.{blame_of}
use Rattle.pv_world.proofs.LoadSteps.{came_whole}
use Rattle.pv_world.proofs.world.World.value_of_pointer.Goals as goal

pub returns-clause-did : goal.returns-clause-did
returns-clause-did c =
    let p = c.args.p in
    let q = c.in-Some.whole in
    let loaded = c.blame_within-loaded.result in
    let Found : World → Type 0 = λ w. Some q ≡ whole_pointer (bytes_from w.memory.bytes c.args.at.now.address 8) in
    let Blamed : World → Type 0 = λ w. (M : Mem) (t : Result Tried Miss) → w.memory.table ≡ after_use M.table p.prov t → c.args.blame ≡ blame_of M p.prov → loaded ≡ blame_of M q.prov in
    came_whole c.value_of_whole.result c.args.self.now c.value_of_whole.new.self c.args.told.now.items c.value_of_whole.new.told.items
    (bytes_from c.args.self.now.memory.bytes c.args.at.now.address 8) c.args.at.now.address p q c.args.blame loaded
    (subst Found c.self.view_is c.in-Some.ensures.answer) (subst Blamed c.self.view_is c.blame_within-loaded.ensures) c.value_of_whole.ensures.did
