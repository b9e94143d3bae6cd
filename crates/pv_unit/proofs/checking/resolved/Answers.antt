use Rattle.std.proofs.Common.{rules, ◌≡◌, ◌∙◌, true, false, sym}
use Rattle.pv_unit.proofs.checking.resolved.Goals as goal

pub returns-in-Some-clause-refused : goal.returns-in-Some-clause-refused
returns-in-Some-clause-refused c = sym (c.in_ok-name.ensures c.args.t.now.texts) ∙ c.in-Some.is

pub returns-then-not-has_main-clause-refused : goal.returns-then-not-has_main-clause-refused
returns-then-not-has_main-clause-refused c =
    let is : c.has_main.result ≡ false = search rules in
    (sym (c.in_ok-name.ensures c.args.t.now.texts) ∙ c.in_default.is, sym c.has_main.ensures ∙ is)

pub returns-clause-fine : goal.returns-clause-fine
returns-clause-fine c =
    let is : c.has_main.result ≡ true = search rules in
    (sym (c.in_ok-name.ensures c.args.t.now.texts) ∙ c.in_default.is, sym c.has_main.ensures ∙ is)
