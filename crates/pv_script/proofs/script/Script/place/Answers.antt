use Rattle.std.proofs.Common.{sym, ap, ◌∙◌}
use Rattle.std.specs.Option.{option_map}
use Rattle.pv_script.specs.Places.{place_of}
use Rattle.pv_script.proofs.Keys.{place_found}
use Rattle.pv_script.proofs.script.Script.place.Goals as goal

pub returns-in-Some : goal.returns-in-Some
returns-in-Some c = ap (option_map (λ e. e.says.place)) c.in-Some.ensures ∙ sym (place_found c.self.inside.lines c.args.name.now c.args.k) ∙ ap (λ ls. place_of ls c.args.name.now c.args.k) c.self.view_is

pub returns-in-None : goal.returns-in-None
returns-in-None c = ap (option_map (λ e. e.says.place)) c.in-None.ensures ∙ sym (place_found c.self.inside.lines c.args.name.now c.args.k) ∙ ap (λ ls. place_of ls c.args.name.now c.args.k) c.self.view_is
