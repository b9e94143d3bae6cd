use Rattle.std.proofs.Common.{◌≡◌, ℕ, List, Option, OnOk, false, sym, subst}
use Rattle.pv_check.specs.Open.{state_of}
use Rattle.pv_unit.specs.Functions.{with_parameter}
use Rattle.pv_unit.proofs.Moving.{moves_same}
use Rattle.pv_unit.proofs.functions.add_parameter.Goals as goal

pub returns-in-None-clause-moves : goal.returns-in-None-clause-moves
returns-in-None-clause-moves c = moves_same c.args.into.now c.args.s.now c.requires.opened

pub returns-in-Some-clause-state : goal.returns-in-Some-clause-state
returns-in-Some-clause-state c =
    let s = c.args.s.now in
    subst (λ (o : Option ℕ). OnOk c.add_object.result ((texts : List (List ℕ)) → state_of texts false s c.add_object.new.into ≡ with_parameter c.args.f o (state_of texts false s c.args.into.now)))
    (sym c.in-Some.is) c.add_object.ensures.state
