use Rattle.std.proofs.Common.{refl, ap, ◌∙◌}
use Rattle.pv_script.specs.Indexed.{line_for}
use Rattle.pv_script.proofs.Keys.{kept_more}
use Rattle.pv_script.proofs.kept.Lines.push.Goals as goal

pub invariant_of-self-2 : goal.invariant_of-self-2
invariant_of-self-2 c = kept_more c.self.inside.names c.add.new.self c.deref.result.now c.self.inside.lines.items c.reserve.new.self.items c.push_reserved.new.self.items c.self.inside.places.entries c.insert.new.self.entries
    record { name = c.args.line.name; number = c.in_ok-number.number; k = c.args.line.k; place = c.args.line.place; at = c.args.line.at } (c.in_ok-number.number, c.args.line.k) c.len-at.result
    c.in_ok-number.ensures.texts c.deref.ensures.value c.in_ok-number.ensures.once c.in_ok-number.ensures.number c.self.invariant c.in_ok-reserve.ensures.items c.push_reserved.ensures.items
    (ap (λ ls. line_for ls c.args.line.name.items c.args.line.k) c.self.view_is ∙ c.requires) refl (c.len-at.ensures ∙ c.reserve.new.self.ok.0) c.in_ok-insert.ensures.updates.0
