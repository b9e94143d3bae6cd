use Rattle.std.proofs.Common.{◌≡◌, ◌∙◌, IsTrue, sym, ap, subst}
use Rattle.pv_types.specs.Formed.{are_adjusted}
use Rattle.pv_types.specs.Known.{Known, trees, tys_in}
use Rattle.pv_check.specs.Declarators.{parameters_shown}
use Rattle.pv_check.specs.Derivations.{parameter_types}
use Rattle.pv_check.proofs.TypeLists.{parameters_adjusted}
use Rattle.pv_check.proofs.Opening.{goes_types, whole_types}
use Rattle.pv_check.proofs.parameters.parameter_types.Goals as goal

pub list_number-requires-clause-adjusted : goal.list_number-requires-clause-adjusted
list_number-requires-clause-adjusted c =
    let m = c.args.into.now in
    let P : Known → Type 0 = λ k. IsTrue (are_adjusted (tys_in (trees k) c.in_ok-list.list.items)) in
    let Q : Known → Type 0 = λ k. tys_in (trees k) c.in_ok-list.list.items ≡ parameter_types (parameters_shown k c.args.ps.now) in
    let types : Q m.known = subst Q c.types.ensures c.in_ok-list.ensures.types in
    subst P (sym c.types_mut.ensures.value) (ap are_adjusted types ∙ parameters_adjusted m c.args.ps.now c.requires.parameters)

pub returns-clause-whole : goal.returns-clause-whole
returns-clause-whole c = whole_types c.args.into.now _ _ c.types_mut.ensures.value c.requires.known c.in_ok-p.ensures.grows

pub returns-clause-goes : goal.returns-clause-goes
returns-clause-goes c = goes_types c.args.into.now _ _ c.types_mut.ensures.value c.requires.known c.in_ok-p.ensures.grows
