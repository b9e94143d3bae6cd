use Rattle.std.proofs.Common.{◌≡◌, ◌++◌, Some, rules, refl, sym, ◌∙◌, subst}
use Rattle.std.proofs.lemmas.Int.{to_z-of_z}
use mir.Syntax.{w128}
use mir.Val.{SFits}
use Rattle.pv_object.specs.Operations.{together}
use Rattle.pv_fault.specs.declared.faults.Clause.TheVariants.{SubtractionOfPointers}
use Rattle.pv_world.specs.declared.failing.Blame.{Blame}
use Rattle.pv_world.specs.Worlds.{Wrong}
use Rattle.pv_world.specs.contracts.world.World.{the_view}
use Rattle.pv_world.specs.Telling.{blame_of, fault_of, verdict_of}
use Rattle.pv_world.specs.PointerParts.{uneven}
use Rattle.pv_world.specs.Coming.{Faulted, worth_of}
use Rattle.pv_world.proofs.Comings.{came_fails}
use Rattle.pv_world.proofs.Differences.{whole, no_whole}
use Rattle.pv_world.proofs.world.World.subtract_pointers.Goals as goal
use Rattle.pv_world.proofs.world.World.subtract_pointers.Goals.{in-Some, in-None}

pub returns-clause-did : goal.returns-clause-did
returns-clause-did c =
    let old = the_view c.self.inside in
    let new = the_view (record c.self.inside { memory = c.subtract.new.self }) in
    let both = together SubtractionOfPointers c.self.inside.memory.table c.args.p c.args.q in
    let settled = sym c.in-Ok.is ∙ c.subtract.ensures.answer in
    elim c.match-elements_between.branch [
      | in-Some w ↦
          let fits : SFits w128 w.in-Some.n = search rules in
          let same = to_z-of_z w128 w.in-Some.n fits in
          rw (w.result-is, w.told-is, ← c.self.view_is, same)
          (whole old new c.args.p c.args.q c.args.size c.in-Ok.difference w.in-Some.n c.args.told.now.items c.tell_both.new.told.items both settled (rw c.subtract.ensures.state refl) c.in-Ok-tell_both.ensures
          (sym w.in-Some.is ∙ c.elements_between.ensures))
      | in-None w ↦
          let blamed : c.blame_of-blame.result ≡ blame_of c.self.inside.memory c.args.p.prov = search rules in
          let P : Wrong → Type 0 = λ y. Faulted w.fail.result y w.fail.new.told.items (c.tell_both.new.told.items ++ fault_of (Some c.blame_of-blame.result) (verdict_of y)) in
          let Q : Blame → Type 0 = λ b. Faulted w.fail.result uneven w.fail.new.told.items (c.tell_both.new.told.items ++ fault_of (Some b) (verdict_of uneven)) in
          let fault = subst Q blamed (subst P w.uneven.ensures w.fail.ensures) in
          rw (w.result-is, w.told-is, ← c.self.view_is)
          (came_fails worth_of w.fail.result uneven new w.fail.new.told.items _ _
          (no_whole old new c.args.p c.args.q c.args.size c.in-Ok.difference c.args.told.now.items c.tell_both.new.told.items both settled (rw c.subtract.ensures.state refl) c.in-Ok-tell_both.ensures
          (sym w.in-None.is ∙ c.elements_between.ensures)) fault)
    ]
