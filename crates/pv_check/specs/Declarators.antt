-- A bridge: what the code has of a declarator, and what it stands for.
use Rattle.std.specs.Prelude.{◌<◌, ℕ, Bool, IsTrue, Some, None, IfSome, List, [], ◌∷◌, ◌++◌, map, length}
use Rattle.std.specs.declared.option.Option.{Option}
use Rattle.std.specs.declared.vec.Vec.{Vec}
use Rattle.std.specs.declared.alloc.Global.{Global}
use Rattle.pv_types.specs.declared.terms.TypeId.{TypeId}
use Rattle.pv_types.specs.Adjusted.{is_adjusted}
use Rattle.pv_types.specs.Known.{Known, tree}
use Rattle.pv_typed.specs.Known.{Each}
use Rattle.pv_typed.specs.Tables.{Stored}
use Rattle.pv_check.specs.declared.declarators.Steps.{Steps}
use Rattle.pv_check.specs.declared.derivations.Step.{Step}
use Rattle.pv_check.specs.declared.parameters.Parameter.{Parameter}
use Rattle.pv_check.specs.declared.parameters.Signature.{Signature}
use Rattle.pv_check.specs.Derivations.{Parameter as WholeParameter, Signature as WholeSignature, Steps as WholeSteps, with_parameter}
use Rattle.pv_check.specs.Open.{state_of, ScopeKnown}
use Rattle.pv_check.specs.Raw.{Raw, raw_of, scope_shown}
use Rattle.pv_check.specs.RowParts.{parameter_of}
use Rattle.pv_check.specs.State.{After}
use Rattle.pv_check.specs.Stepping.{steps_in, AreSteps}

-- a parameter (6.7.6.3) that the code has, with the tree of its type
abbrev pub parameter_shown : Known → Parameter → WholeParameter
parameter_shown m p = record { t = tree m p.t.0; name = p.name; object = p.object }

-- the parameters of a list, the same (6.7.6.3)
abbrev pub parameters_shown : Known → List Parameter → List WholeParameter
parameters_shown m ps = map (parameter_shown m) ps

-- a list of parameters and its scope (6.2.1p4), the same
abbrev pub signature_shown : Known → Signature → WholeSignature
signature_shown m g = record { parameters = parameters_shown m g.parameters.items; variadic = g.variadic; scope = scope_shown m (raw_of g.scope) }

-- the same, where there is one (6.7.6.3)
abbrev pub signature_if : Known → Option Signature → Option WholeSignature
signature_if m None = None
signature_if m (Some g) = Some (signature_shown m g)

-- the steps of a declarator (6.7.6), the same
abbrev pub steps_shown : Known → Steps → WholeSteps
steps_shown m x = record { list = steps_in m x.list.items; signature = signature_if m x.signature }

-- the steps of a declarator that the code answers, and the state after it (6.7.6)
abbrev pub after_steps : List (List ℕ) → Bool → Raw → Stored → Option Steps → Option (After WholeSteps)
after_steps texts u s m None = None
after_steps texts u s m (Some x) = Some (record { value = steps_shown m.known x; state = state_of texts u s m })

-- the steps of a declarator (6.7.6) with what the nearest list of parameters says, and the state after them
abbrev pub steps_after : List (List ℕ) → Bool → Raw → Stored → List Step → Option WholeSignature → After WholeSteps
steps_after texts u s m steps g = record { value = record { list = steps_in m.known steps; signature = g }; state = state_of texts u s m }

-- the parameters of a list (6.7.6.3), and the state after them
abbrev pub parameters_after : List (List ℕ) → Bool → Raw → Stored → List Parameter → After (List WholeParameter)
parameters_after texts u s m ps = record { value = parameters_shown m.known ps; state = state_of texts u s m }

-- one parameter more behind others, by its type (6.7.6.3p7)
abbrev pub with_parameter_of_type : List (List ℕ) → Bool → Raw → Stored → List WholeParameter → Option (ℕ × ℕ) → TypeId →
    Option (After (List WholeParameter))
with_parameter_of_type texts u s m ps name t = with_parameter ps name (state_of texts u s m) (tree m.known t.0)

-- one parameter more behind others, by the type that its specifiers name and the steps of its declarator (6.7.6.3p7)
abbrev pub parameter_from : List (List ℕ) → Bool → Raw → Stored → Option (ℕ × ℕ) → TypeId → List WholeParameter → List Step →
    Option WholeSignature → Option (After (List WholeParameter))
parameter_from texts u s m name base ps steps g = parameter_of name (tree m.known base.0) ps (steps_after texts u s m steps g)

-- a value, and the state after it
abbrev pub value_after : {A : Type 0} → List (List ℕ) → Bool → Raw → Stored → A → After A
value_after texts u s m x = record { value = x; state = state_of texts u s m }

-- a value that the code answers, and the state after it
abbrev pub after_value : {A : Type 0} → List (List ℕ) → Bool → Raw → Stored → Option A → Option (After A)
after_value texts u s m None = None
after_value texts u s m (Some k) = Some (record { value = k; state = state_of texts u s m })

-- one parameter more behind others, and the state after it (6.7.6.3)
abbrev pub after_parameter : List (List ℕ) → Bool → Raw → Stored → List WholeParameter → Option Parameter → Option (After (List WholeParameter))
after_parameter texts u s m before None = None
after_parameter texts u s m before (Some p) = Some (record { value = before ++ (parameter_shown m.known p ∷ []); state = state_of texts u s m })

-- parameters that the code answers (6.7.6.3)
abbrev pub parameters_if : Known → Option (Vec Parameter Global) → Option (List WholeParameter)
parameters_if m None = None
parameters_if m (Some v) = Some (parameters_shown m v.items)

-- parameters that the code answers, and the state after them (6.7.6.3)
abbrev pub after_parameters : List (List ℕ) → Bool → Raw → Stored → Option (Vec Parameter Global) → Option (After (List WholeParameter))
after_parameters texts u s m None = None
after_parameters texts u s m (Some v) = Some (record { value = parameters_shown m.known v.items; state = state_of texts u s m })

-- the type and the object of a parameter are there (6.7.6.3), and it is no array or function (p7, p8)
abbrev pub ParameterKnown : Stored → Parameter → Type 0
ParameterKnown m p = (p.t.0 < length m.known.terms) × IfSome p.object (λ o. o < length m.objects) × IsTrue (is_adjusted (tree m.known p.t.0))

-- what a list of parameters names is there (6.7.6.3)
abbrev pub SignatureKnown : Stored → Signature → Type 0
SignatureKnown m g = Each (ParameterKnown m) g.parameters.items × ScopeKnown m (raw_of g.scope)

-- what steps name is there (6.7.6)
abbrev pub StepsKnown : Stored → Steps → Type 0
StepsKnown m x = AreSteps m.known x.list.items × IfSome x.signature (SignatureKnown m)

-- the same, where there is an answer (6.7.6)
abbrev pub KnownSteps : Stored → Option Steps → Type 0
KnownSteps m o = IfSome o (StepsKnown m)
