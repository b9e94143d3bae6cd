use Rattle.std.proofs.Common.{◌∙◌, ap, map}
use Rattle.pv_unit.specs.Entering.{entity_of}
use Rattle.pv_unit.specs.Places.{first_in, initialized_in}
use Rattle.pv_unit.proofs.PlaceRows.{place_within, initialized_first}
use Rattle.pv_unit.proofs.entities.Entities.is_initialized.Goals as goal

pub initialized_at-requires : goal.initialized_at-requires
initialized_at-requires c =
    place_within c.args.function c.args.number c.args.self.now c.as_slice.result.now c.place-place.result c.place-place.ensures (ap (map entity_of) c.as_slice.ensures.value ∙ c.self.view_is)

pub returns : goal.returns
returns c =
    c.initialized_at.ensures
    ∙ ap (λ o. initialized_in o (map entity_of c.as_slice.result.now)) c.place-place.ensures
    ∙ ap (initialized_in (first_in c.args.function c.args.number c.args.self.now)) (ap (map entity_of) c.as_slice.ensures.value ∙ c.self.view_is)
    ∙ initialized_first c.args.function c.args.number c.args.self.now
