use Rattle.std.proofs.Common.{rules, ◌≡◌, ◌++◌, ◌∷◌, []}
use Rattle.pv_check.specs.Raw.{raw_of}
use Rattle.pv_unit.proofs.FunctionRows.{open_within, deep_within, state_within}
use Rattle.pv_unit.proofs.functions.reenter.Goals as goal

pub returns-clause-opened : goal.returns-clause-opened
returns-clause-opened c =
    let e : c.reenter.new.self ≡ record c.args.s.now { scopes = c.args.s.now.scopes ++ (raw_of c.args.scope ∷ []) } = search rules in
    open_within c.args.into.now c.args.s.now c.reenter.new.self (raw_of c.args.scope) c.requires.opened c.requires.known e

pub returns-clause-deep : goal.returns-clause-deep
returns-clause-deep c =
    let e : c.reenter.new.self ≡ record c.args.s.now { scopes = c.args.s.now.scopes ++ (raw_of c.args.scope ∷ []) } = search rules in
    deep_within c.args.s.now c.reenter.new.self (raw_of c.args.scope) e

pub returns-clause-state : goal.returns-clause-state
returns-clause-state c = λ texts.
    let e : c.reenter.new.self ≡ record c.args.s.now { scopes = c.args.s.now.scopes ++ (raw_of c.args.scope ∷ []) } = search rules in
    state_within texts c.args.into.now c.args.s.now c.reenter.new.self (raw_of c.args.scope) e
