use Rattle.std.proofs.Common.{◌≡◌, ℕ, Some, Vec, Global, option_map, sym, ap, ◌∙◌, arith}
use Rattle.std.specs.BTreeMap.{get_by_text}
use Rattle.std.proofs.lemmas.Map.Text.{text_keys}
use Rattle.pv_script.specs.Calm.{bytes_under}
use Rattle.pv_script.proofs.Naming.{under_is}
use Rattle.pv_script.proofs.by_name.NamedFiles.put.Goals as goal

pub returns-clause-put : goal.returns-clause-put
returns-clause-put c =
    let there : option_map (λ (v : Vec ℕ Global). v.items) (get_by_text c.insert.new.self c.args.name.now) ≡ Some c.args.bytes.now = grind (arith, text_keys) in
    under_is c.insert.new.self.entries c.args.name.now ∙ there

pub returns-clause-others : goal.returns-clause-others
returns-clause-others c = λ n other.
    let same : get_by_text c.insert.new.self n ≡ get_by_text c.self.inside.files n = grind (arith, text_keys) in
    under_is c.insert.new.self.entries n ∙ ap (option_map (λ (v : Vec ℕ Global). v.items)) same ∙ sym (under_is c.self.inside.files.entries n)
    ∙ ap (λ ns. bytes_under ns n) c.self.view_is
