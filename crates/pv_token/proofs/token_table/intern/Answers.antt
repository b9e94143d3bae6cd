use Rattle.std.proofs.Common.{sym, ap, ◌∙◌, map, Some}
use Rattle.pv_token.specs.TableParts.{with_name}
use Rattle.pv_token.proofs.Growing.{keys_named, number_named, known_name}
use Rattle.pv_token.proofs.token_table.intern.Goals as goal

pub returns-in-Some-clause-keys : goal.returns-in-Some-clause-keys
returns-in-Some-clause-keys c = (known_name c.args.names.now.keys c.args.text.now c.in-Some.index (sym c.in-Some.ensures.index)).0

pub returns-in-Some-clause-number : goal.returns-in-Some-clause-number
returns-in-Some-clause-number c = (known_name c.args.names.now.keys c.args.text.now c.in-Some.index (sym c.in-Some.ensures.index)).1

pub returns-clause-keys : goal.returns-clause-keys
returns-clause-keys c = ap (map (λ v. v.items)) c.in_ok-index.ensures.keys ∙ keys_named c.args.names.now.keys c.in_ok-name.name ∙ ap (with_name (map (λ v. v.items) c.args.names.now.keys)) c.in_ok-name.ensures.items

pub returns-clause-number : goal.returns-clause-number
returns-clause-number c =
    let s = c.in_ok-index.ensures.stored in
    number_named c.insert_full.new.self.keys c.in_ok-index.index s.0 c.in_ok-name.name s.1 s.2 ∙ ap Some c.in_ok-name.ensures.items
