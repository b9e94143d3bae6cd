use Rattle.std.proofs.Common.{rules, ◌≡◌, ◌∙◌, List, ap, sym, subst, map, true, false}
use Rattle.std.proofs.lemmas.List.{with_items_is, places}
use Rattle.pv_unit.specs.Redeclarations.{Entity, entities_after}
use Rattle.pv_unit.specs.Entering.{entity_of}
use Rattle.pv_unit.specs.Places.{ArePlaced, first_in, noted_in}
use Rattle.pv_unit.proofs.PlaceRows.{noted_first, place_within, placed_marked}
use Rattle.pv_unit.proofs.entities.Entities.note.Goals as goal

pub note_at-requires : goal.note_at-requires
note_at-requires c =
    place_within c.args.function c.args.number c.args.self.now c.as_mut_slice.result.now c.place-place.result c.place-place.ensures (ap (map entity_of) c.as_mut_slice.ensures.value ∙ c.self.view_is)

pub invariant_of-self : goal.invariant_of-self
invariant_of-self c =
    let f = c.args.function in
    let k = c.args.number in
    let d = c.args.defined in
    let i = c.args.initialized in
    let b = c.args.without_size in
    let items = c.self.inside.all.items in
    let new = c.note_at.new.all in
    let seen = ap (map entity_of) (with_items_is c.self.inside.all c.note_at.new.all (search (rules, places))) in
    let is : map entity_of new ≡ entities_after f k d i b (map entity_of items) =
    c.note_at.ensures
    ∙ ap (λ es. noted_in c.place-place.result d i b es) (ap (map entity_of) c.as_mut_slice.ensures.value)
    ∙ ap (λ o. noted_in o d i b (map entity_of items)) (c.place-place.ensures ∙ ap (first_in f k) (sym c.self.view_is))
    ∙ noted_first f k d i b (map entity_of items) in (
      subst (λ (es : List Entity). ArePlaced false es c.self.inside.objects.entries) (sym (seen ∙ is)) (placed_marked f k d i b false (map entity_of items) c.self.inside.objects.entries c.self.invariant.0),
      subst (λ (es : List Entity). ArePlaced true es c.self.inside.functions.entries) (sym (seen ∙ is)) (placed_marked f k d i b true (map entity_of items) c.self.inside.functions.entries c.self.invariant.1),
    )

pub returns : goal.returns
returns c =
    let f = c.args.function in
    let k = c.args.number in
    let d = c.args.defined in
    let i = c.args.initialized in
    let b = c.args.without_size in
    let items = c.self.inside.all.items in
    let new = c.note_at.new.all in
    let seen = ap (map entity_of) (with_items_is c.self.inside.all c.note_at.new.all (search (rules, places))) in
    seen
    ∙ c.note_at.ensures
    ∙ ap (λ es. noted_in c.place-place.result d i b es) (ap (map entity_of) c.as_mut_slice.ensures.value)
    ∙ ap (λ o. noted_in o d i b (map entity_of items)) (c.place-place.ensures ∙ ap (first_in f k) (sym c.self.view_is))
    ∙ noted_first f k d i b (map entity_of items)
    ∙ ap (entities_after f k d i b) c.self.view_is
