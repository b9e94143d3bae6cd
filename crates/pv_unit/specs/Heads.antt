-- A bridge: what the code that types the heads of function definitions has and answers.
use Rattle.std.specs.Prelude.{◌≡◌, ℕ, ◌<◌, List, length, Option, Some, None}
use Rattle.pv_types.specs.Known.{Known, tree}
use Rattle.pv_typed.specs.Known.{Each}
use Rattle.pv_typed.specs.Tables.{Stored}
use Rattle.pv_check.specs.declared.parameters.Parameter.{Parameter}
use Rattle.pv_check.specs.Declarators.{parameters_shown, signature_shown, SignatureKnown}
use Rattle.pv_check.specs.Derivations.{Signature}
use Rattle.pv_check.specs.Raw.{Raw}
use Rattle.pv_unit.specs.declared.entities.Outer.{Outer}
use Rattle.pv_unit.specs.declared.heads.Defined.{Defined}
use Rattle.pv_unit.specs.declared.heads.Heading.{Heading}
use Rattle.pv_unit.specs.Definitions.{Head}
use Rattle.pv_unit.specs.Redeclarations.{UnitState}
use Rattle.pv_unit.specs.Outside.{unit_state}

-- the type of a parameter (6.7.6.3p4) is in a table of types
abbrev pub ParameterKnown : Known → Parameter → Type 0
ParameterKnown m p = p.t.0 < length m.terms

-- the same of all parameters (6.7.6.3p1)
abbrev pub ParametersKnown : Known → List Parameter → Type 0
ParametersKnown m ps = Each (ParameterKnown m) ps

-- the function that is defined (6.9.1), with the list of parameters
abbrev pub head_if : List (List ℕ) → Raw → Stored → Outer → Signature → Option Defined → Option (Head × UnitState)
head_if texts s m o g None = None
head_if texts s m o g (Some d) = Some (record { function = d.function; result = tree m.known d.result_type.0; signature = g }, unit_state texts s m o)

-- for each list of parameters, what a rule (6.9.1) makes of it and of what was known before is the answer
abbrev pub HeadBy : (Signature → UnitState → Option (Head × UnitState)) → Raw → Stored → Outer → Raw → Stored → Outer → Option Defined → Type 0
HeadBy rule s m o t n p r = (texts : List (List ℕ)) (g : Signature) → head_if texts t n p g r ≡ rule g (unit_state texts s m o)

-- the same of the list that has these parameters (6.9.1p5)
abbrev pub HeadWith : List Parameter → (Signature → UnitState → Option (Head × UnitState)) → Raw → Stored → Outer → Raw → Stored → Outer → Option Defined → Type 0
HeadWith ps rule s m o t n p r = (texts : List (List ℕ)) (g : Signature) → g.parameters ≡ parameters_shown m.known ps → head_if texts t n p g r ≡ rule g (unit_state texts s m o)

-- a head (6.9.1) with its own list of parameters as an answer, and what is known behind it
abbrev pub heading_if : List (List ℕ) → Raw → Stored → Outer → Option Heading → Option (Head × UnitState)
heading_if texts s m o None = None
heading_if texts s m o (Some h) = head_if texts s m o (signature_shown m.known h.signature) (Some h.defined)

-- what a head (6.9.1) names is in the tables
abbrev pub HeadKnown : Stored → Heading → Type 0
HeadKnown m h = (h.defined.function < length m.functions) × (h.defined.result_type.0 < length m.known.terms) × SignatureKnown m h.signature
