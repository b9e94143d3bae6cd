use Rattle.std.proofs.Common.{rules, ◌≡◌, ◌∙◌, ◌<◌, ap, length, Some, None, sym, subst}
use Rattle.pv_types.specs.Known.{tree}
use Rattle.pv_check.specs.Declarators.{SignatureKnown, signature_shown, parameters_shown}
use Rattle.pv_check.specs.Stepping.{steps_in, AreSteps}
use Rattle.pv_check.proofs.ParameterRows.{signature_stays, signature_known}
use Rattle.pv_check.proofs.SpecifierRows.{there}
use Rattle.pv_unit.specs.HeadParts.{head_derived}
use Rattle.pv_unit.specs.Heads.{head_if, ParametersKnown}
use Rattle.pv_unit.specs.Outside.{unit_state}
use Rattle.pv_unit.proofs.HeadRows.{types_known, signed_none, signed_is}
use Rattle.pv_unit.proofs.heads.head_signed.Goals as goal

pub head_derived-requires-clause-parameters : goal.head_derived-requires-clause-parameters
head_derived-requires-clause-parameters c =
    let g = c.in-Some.own in
    let k : SignatureKnown c.args.into.now g = there (SignatureKnown c.args.into.now) c.in-Some.is c.requires.steps.1 in
    subst (ParametersKnown c.args.into.now.known) (sym c.deref-2.ensures.value) (types_known c.args.into.now g.parameters.items k.0)

pub head_derived-requires-clause-steps : goal.head_derived-requires-clause-steps
head_derived-requires-clause-steps c = subst (AreSteps c.args.into.now.known) (sym c.deref.ensures.value) c.requires.steps.0

pub returns-clause-known : goal.returns-clause-known
returns-clause-known c =
    let a = c.args.into.now in
    let b = c.head_derived.new.into in
    let g = c.in-Some.own in
    let k : SignatureKnown a g = there (SignatureKnown a) c.in-Some.is c.requires.steps.1 in
    let d = c.in-Some-2.defined in
    let h : (d.function < length b.functions) × (d.result_type.0 < length b.known.terms) = search rules in
    (h.0, h.1, signature_known a b g c.in_ok-defined.ensures.goes k)

pub returns-in_default-clause-answer : goal.returns-in_default-clause-answer
returns-in_default-clause-answer c = λ texts.
    let a = c.args.into.now in
    let no : c.args.steps.signature ≡ None = search rules in
    signed_none a.known c.args.steps.signature (tree a.known c.args.base.0) (steps_in a.known c.args.steps.list.items) (c.args.name, c.args.line) (unit_state texts c.args.s.now a c.args.outer.now) no

pub returns-in_default-2-clause-answer : goal.returns-in_default-2-clause-answer
returns-in_default-2-clause-answer c = λ texts.
    let a = c.args.into.now in
    let g = c.in-Some.own in
    let k : SignatureKnown a g = there (SignatureKnown a) c.in-Some.is c.requires.steps.1 in
    let no : c.in_ok-defined.field-0 ≡ None = search rules in
    signed_is a.known c.args.steps.signature g (tree a.known c.args.base.0) (steps_in a.known c.args.steps.list.items) (c.args.name, c.args.line) (unit_state texts c.args.s.now a c.args.outer.now) None c.in-Some.is
    (ap (head_if texts c.head_derived.new.s c.head_derived.new.into c.head_derived.new.outer (signature_shown a.known g)) (sym no) ∙ c.in_ok-defined.ensures.answer texts (signature_shown a.known g) (ap (parameters_shown a.known) (sym c.deref-2.ensures.value))
    ∙ ap (λ xs. head_derived (tree a.known c.args.base.0) (steps_in a.known xs) (signature_shown a.known g) (c.args.name, c.args.line) (unit_state texts c.args.s.now a c.args.outer.now)) c.deref.ensures.value)

pub returns-clause-answer : goal.returns-clause-answer
returns-clause-answer c = λ texts.
    let a = c.args.into.now in
    let b = c.head_derived.new.into in
    let g = c.in-Some.own in
    let k : SignatureKnown a g = there (SignatureKnown a) c.in-Some.is c.requires.steps.1 in
    signed_is a.known c.args.steps.signature g (tree a.known c.args.base.0) (steps_in a.known c.args.steps.list.items) (c.args.name, c.args.line) (unit_state texts c.args.s.now a c.args.outer.now) _ c.in-Some.is
    (ap (λ x. head_if texts c.head_derived.new.s b c.head_derived.new.outer x (Some c.in-Some-2.defined)) (signature_stays a b g c.in_ok-defined.ensures.goes k)
    ∙ ap (head_if texts c.head_derived.new.s b c.head_derived.new.outer (signature_shown a.known g)) (sym c.in-Some-2.is)
    ∙ c.in_ok-defined.ensures.answer texts (signature_shown a.known g) (ap (parameters_shown a.known) (sym c.deref-2.ensures.value))
    ∙ ap (λ xs. head_derived (tree a.known c.args.base.0) (steps_in a.known xs) (signature_shown a.known g) (c.args.name, c.args.line) (unit_state texts c.args.s.now a c.args.outer.now)) c.deref.ensures.value)
