use Rattle.std.proofs.Common.{◌≡◌, ◌∙◌, ap, sym, subst, length, map, true, false}
use Rattle.std.proofs.lemmas.List.{length-map}
use Rattle.pv_unit.specs.declared.entities.Entity.{Entity}
use Rattle.pv_unit.specs.Entering.{entity_of}
use Rattle.pv_unit.specs.Places.{Keeps}
use Rattle.pv_unit.proofs.PlaceRows.{placed_items, placed_own, placed_object}
use Rattle.pv_unit.proofs.entities.Entities.add_object.Goals as goal

pub invariant_of-self-2 : goal.invariant_of-self-2
invariant_of-self-2 c =
    let items = c.self.inside.all.items in
    let x : Entity = record { name = c.args.name; function = false; number = c.args.number; defined = false; initialized = false; without_size = false } in
    let place : c.len-p.result ≡ length (map entity_of items) = c.len-p.ensures ∙ c.reserve.new.self.ok.0 ∙ ap length c.in_ok-reserve.ensures.items ∙ sym (length-map items entity_of) in
    let keeps : Keeps c.args.number (length (map entity_of items)) c.self.inside.objects.entries c.keep.new.places.entries = subst (λ n. Keeps c.args.number n c.self.inside.objects.entries c.keep.new.places.entries) place c.in_ok-keep.ensures.kept in (
      placed_items false items c.reserve.new.self.items c.push_reserved.new.self.items x c.keep.new.places.entries c.in_ok-reserve.ensures.items c.push_reserved.ensures.items
          (placed_own false c.args.name c.args.number (map entity_of items) c.self.inside.objects.entries c.keep.new.places.entries c.self.invariant.0 keeps),
      placed_items true items c.reserve.new.self.items c.push_reserved.new.self.items x c.self.inside.functions.entries c.in_ok-reserve.ensures.items c.push_reserved.ensures.items
          (placed_object c.args.name c.args.number (map entity_of items) c.self.inside.functions.entries c.self.invariant.1),
    )
