use Rattle.std.proofs.Common.{◌∙◌, ap, false, map}
use Rattle.pv_unit.specs.Entering.{entity_of}
use Rattle.pv_unit.specs.Places.{first_in, defined_in}
use Rattle.pv_unit.proofs.PlaceRows.{place_within, defined_first}
use Rattle.pv_unit.proofs.entities.Entities.is_defined.Goals as goal

pub defined_at-requires : goal.defined_at-requires
defined_at-requires c =
    place_within false c.args.number c.args.self.now c.as_slice.result.now c.place-place.result c.place-place.ensures (ap (map entity_of) c.as_slice.ensures.value ∙ c.self.view_is)

pub returns : goal.returns
returns c =
    c.defined_at.ensures
    ∙ ap (λ o. defined_in o (map entity_of c.as_slice.result.now)) c.place-place.ensures
    ∙ ap (defined_in (first_in false c.args.number c.args.self.now)) (ap (map entity_of) c.as_slice.ensures.value ∙ c.self.view_is)
    ∙ defined_first c.args.number c.args.self.now
