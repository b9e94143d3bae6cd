use Rattle.std.proofs.Common.{ℕ, true, Some, Option, sym, ap, subst, ◌∙◌}
use Rattle.pv_types.specs.Known.{tree, env}
use Rattle.pv_types.specs.Ty.{Ty}
use Rattle.pv_check.specs.Derivations.{derived_type, with_parameter}
use Rattle.pv_check.specs.Growing.{IsType, type_if}
use Rattle.pv_check.specs.Open.{state_of}
use Rattle.pv_check.specs.RowParts.{parameter_of}
use Rattle.pv_typed.specs.Constants.{and_then}
use Rattle.pv_check.specs.Stepping.{steps_in}
use Rattle.pv_check.proofs.Opening.{open_goes}
use Rattle.pv_check.proofs.TypeLists.{adjusted_then}
use Rattle.pv_check.proofs.ParameterRows.{unnamed_after, named_after}
use Rattle.pv_check.proofs.parameters.parameter_of.Goals as goal

pub returns-in_default-clause-answer : goal.returns-in_default-clause-answer
returns-in_default-clause-answer c = λ texts u ps g.
    ap (λ (o : Option Ty). and_then o (with_parameter ps c.args.named (state_of texts u c.args.s.now c.args.into.now)))
    (ap (type_if c.parameter_type_in.new.into.known) (sym c.in_default.is) ∙ c.in_ok-t.ensures.tree)

pub returns-in-None-clause-opened : goal.returns-in-None-clause-opened
returns-in-None-clause-opened c = open_goes c.args.into.now c.parameter_type_in.new.into c.args.s.now c.requires.opened c.in_ok-t.ensures.goes

pub returns-in-None-clause-answer : goal.returns-in-None-clause-answer
returns-in-None-clause-answer c = λ texts u ps g.
    let is = ap (type_if c.parameter_type_in.new.into.known) (sym c.in-Some.is) ∙ c.in_ok-t.ensures.tree in
    unnamed_after texts u c.args.into.now c.parameter_type_in.new.into c.args.s.now ps c.in-Some.t _ c.requires.opened c.in_ok-t.ensures.goes c.in_ok-t.ensures.whole is
    ∙ ap (λ (k : Option (ℕ × ℕ)). parameter_of k (tree c.args.into.now.known c.args.base.0) ps (record { value = record { list = steps_in c.args.into.now.known c.args.steps.now; signature = g }; state = state_of texts u c.args.s.now c.args.into.now })) (sym c.in-None.is)

pub returns-in-None-clause-known : goal.returns-in-None-clause-known
returns-in-None-clause-known c =
    let k = c.parameter_type_in.new.into.known in
    let is = ap (type_if k) (sym c.in-Some.is) ∙ c.in_ok-t.ensures.tree in
    let known : IsType k (Some c.in-Some.t) = subst (IsType k) c.in-Some.is c.in_ok-t.ensures.known in
    let m = c.args.into.now.known in
    (known, tt, adjusted_then (tree k c.in-Some.t.0) (derived_type true (env m) (steps_in m c.args.steps.now) (tree m c.args.base.0)) is)

pub named_parameter-requires-clause-adjusted : goal.named_parameter-requires-clause-adjusted
named_parameter-requires-clause-adjusted c =
    let k = c.parameter_type_in.new.into.known in
    let m = c.args.into.now.known in
    adjusted_then (tree k c.in-Some.t.0) (derived_type true (env m) (steps_in m c.args.steps.now) (tree m c.args.base.0)) (ap (type_if k) (sym c.in-Some.is) ∙ c.in_ok-t.ensures.tree)

pub named_parameter-requires-clause-opened : goal.named_parameter-requires-clause-opened
named_parameter-requires-clause-opened c = open_goes c.args.into.now c.parameter_type_in.new.into c.args.s.now c.requires.opened c.in_ok-t.ensures.goes

pub returns-in_ok-r-in-Some-named-clause-answer : goal.returns-in_ok-r-in-Some-named-clause-answer
returns-in_ok-r-in-Some-named-clause-answer c = λ texts u ps g.
    let is = ap (type_if c.parameter_type_in.new.into.known) (sym c.in-Some.is) ∙ c.in_ok-t.ensures.tree in
    c.in_ok-r-in-Some-named.ensures.answer texts u ps
    ∙ named_after texts u c.args.into.now c.parameter_type_in.new.into c.args.s.now ps c.in-Some.t _ c.requires.opened c.in_ok-t.ensures.goes c.in_ok-t.ensures.whole is (Some (c.in-Some-named.n, c.in-Some-named.line))
    ∙ ap (λ (k : Option (ℕ × ℕ)). parameter_of k (tree c.args.into.now.known c.args.base.0) ps (record { value = record { list = steps_in c.args.into.now.known c.args.steps.now; signature = g }; state = state_of texts u c.args.s.now c.args.into.now })) (sym c.in-Some-named.is)
