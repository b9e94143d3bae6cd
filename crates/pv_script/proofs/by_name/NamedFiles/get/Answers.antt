use Rattle.std.proofs.Common.{ℕ, Some, Vec, Global, option_map, sym, ap, ◌∙◌}
use Rattle.pv_script.specs.Calm.{bytes_under}
use Rattle.pv_script.proofs.Naming.{under_is}
use Rattle.pv_script.proofs.by_name.NamedFiles.get.Goals as goal

pub returns-in-Some : goal.returns-in-Some
returns-in-Some c =
    ap Some c.as_slice.ensures.value ∙ ap (option_map (λ (v : Vec ℕ Global). v.items)) c.in-Some.ensures.value ∙ sym (under_is c.self.inside.files.entries c.args.name.now)
    ∙ ap (λ ns. bytes_under ns c.args.name.now) c.self.view_is

pub returns-in-None : goal.returns-in-None
returns-in-None c =
    ap (option_map (λ (v : Vec ℕ Global). v.items)) c.in-None.ensures.value ∙ sym (under_is c.self.inside.files.entries c.args.name.now)
    ∙ ap (λ ns. bytes_under ns c.args.name.now) c.self.view_is
