use Rattle.std.proofs.Common.{sym, ap, ◌∙◌}
use Rattle.std.specs.Option.{option_map}
use Rattle.pv_script.specs.LineView.{line_view}
use Rattle.pv_script.specs.Indexed.{line_for}
use Rattle.pv_script.proofs.Keys.{same_found}
use Rattle.pv_script.proofs.scripts.first_same.Goals as goal

pub returns-in-Some : goal.returns-in-Some
returns-in-Some c = ap (option_map (λ e. e.at)) (c.in-Some.ensures ∙ ap (λ n. line_for c.args.earlier.now n c.args.line.now.k) c.deref.ensures.value) ∙ sym (same_found c.args.earlier.now (line_view c.args.line.now))

pub returns-in-None : goal.returns-in-None
returns-in-None c = ap (option_map (λ e. e.at)) (c.in-None.ensures ∙ ap (λ n. line_for c.args.earlier.now n c.args.line.now.k) c.deref.ensures.value) ∙ sym (same_found c.args.earlier.now (line_view c.args.line.now))
