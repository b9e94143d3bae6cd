use Rattle.std.proofs.Common.{◌<◌, ◌∙◌, ap, sym, length, map}
use Rattle.pv_check.proofs.SpecifierRows.{there}
use Rattle.pv_unit.specs.declared.entities.Entity.{Entity}
use Rattle.pv_unit.specs.Entering.{entity_of}
use Rattle.pv_unit.specs.Places.{noted_in, with_more}
use Rattle.pv_unit.proofs.PlaceRows.{noted_is}
use Rattle.pv_unit.proofs.entities.note_at.Goals as goal

pub returns-in-Some : goal.returns-in-Some
returns-in-Some c =
    let d = c.args.defined in
    let i = c.args.initialized in
    let b = c.args.without_size in
    noted_is d i b c.args.all.now c.in-Some.p c.noted.result (there (λ p. p < length c.args.all.now) c.in-Some.is c.requires)
    (c.noted.ensures ∙ ap (λ (e : Entity). with_more d i b (entity_of e)) c.entity_at-before.ensures)
    ∙ ap (λ o. noted_in o d i b (map entity_of c.args.all.now)) (sym c.in-Some.is)
