-- Heads of function definitions: what the code's answers come to.
use Rattle.std.proofs.Common.{◌≡◌, ℕ, zero, suc, ◌+◌, ◌<◌, Bool, true, false, List, [], ◌∷◌, Option, Some, None, length, drop, get_or, refl, sym, ◌∙◌, ap, arith}
use Rattle.std.specs.Prelude.{◌&&◌, if◌then◌else◌}
use Rattle.pv_types.specs.Ty.{Ty, Tys, FunctionTy}
use Rattle.pv_types.specs.Known.{Known, tree, env}
use Rattle.pv_types.specs.Layouts.{Entry}
use Rattle.pv_typed.specs.Known.{Each}
use Rattle.pv_typed.specs.Tables.{Stored, whole_unit}
use Rattle.pv_check.specs.declared.parameters.Parameter.{Parameter}
use Rattle.pv_check.specs.declared.parameters.Signature.{Signature as OwnSignature}
use Rattle.pv_check.specs.Declarators.{parameter_shown, parameters_shown, signature_shown, signature_if, ParameterKnown as KnownParameter}
use Rattle.pv_check.specs.Derivations.{Derivation, Signature, Steps, derived_type}
use Rattle.pv_check.specs.Open.{state_of, IsOpen, Goes}
use Rattle.pv_check.specs.Raw.{Raw}
use Rattle.pv_check.specs.State.{State, After}
use Rattle.pv_typed.specs.Constants.{and_then}
use Rattle.pv_unit.specs.declared.entities.Outer.{Outer}
use Rattle.pv_unit.specs.Definitions.{Head, may_be_defined, defined_once, head_of}
use Rattle.pv_unit.specs.HeadParts.{head_derived, head_signed, is_definable, may_define}
use Rattle.pv_unit.specs.Redeclarations.{UnitState, function_declared}
use Rattle.pv_unit.specs.Heads.{ParametersKnown}
use Rattle.pv_unit.specs.Outside.{unit_state}
use Rattle.pv_unit.proofs.EntityRows.{unit_stays}

-- ---- parameters

abbrev no_parameter : Parameter
no_parameter = record { t = record { 0 = 0 }; name = None; object = None }

define_from : (e : List Entry) (m : Known) (xs : List Parameter) (i : ℕ) → i < length xs
    → may_define e (parameters_shown m (drop i xs)) ≡ (is_definable e (parameter_shown m (get_or xs i no_parameter)) && may_define e (parameters_shown m (drop (suc i) xs)))
define_from e m [] i lt = absurd (omega arith)
define_from e m (x ∷ xs) zero lt = refl
define_from e m (x ∷ xs) (suc i) lt = define_from e m xs i (omega arith)

pub known_stay : (a b : Stored) (ps : List Parameter) → Goes a b → ParametersKnown a.known ps → ParametersKnown b.known ps
known_stay a b [] g h = h
known_stay a b (p ∷ ps) g h = let more = g.grown.terms in (omega (arith, h.0, more), known_stay a b ps g h.1)

pub shown_stay : (a b : Stored) (ps : List Parameter) → Goes a b → ParametersKnown a.known ps → parameters_shown b.known ps ≡ parameters_shown a.known ps
shown_stay a b [] g h = refl
shown_stay a b (p ∷ ps) g h =
    ap (λ (t : Ty). record { t = t; name = p.name; object = p.object } ∷ parameters_shown b.known ps) (g.grown.types p.t.0 h.0)
    ∙ ap (λ xs. parameter_shown a.known p ∷ xs) (shown_stay a b ps g h.1)

-- ---- the head of a definition

pub head_defined : (texts : List (List ℕ)) (a : Stored) (s : Raw) (o : Outer) (t : Ty) (ts : Tys) (v : Bool) (n line : ℕ) (ps : List Parameter) (g : Signature) (r : Option (Head × UnitState))
    → g.parameters ≡ parameters_shown a.known ps
    → may_be_defined (state_of texts false s a) n t v (parameters_shown a.known ps) ≡ true
    → r ≡ and_then (function_declared n line (FunctionTy t ts v) (unit_state texts s a o)) (defined_once t g)
    → r ≡ head_of (FunctionTy t ts v) g (n, line) (unit_state texts s a o)
head_defined texts a s o t ts v n line ps g r same may h =
    h ∙ sym (ap (λ b. if b then and_then (function_declared n line (FunctionTy t ts v) (unit_state texts s a o)) (defined_once t g) else None)
    (ap (may_be_defined (state_of texts false s a) n t v) same ∙ may))

pub head_refused : (texts : List (List ℕ)) (a : Stored) (s : Raw) (o : Outer) (t : Ty) (ts : Tys) (v : Bool) (n line : ℕ) (ps : List Parameter) (g : Signature)
    → g.parameters ≡ parameters_shown a.known ps
    → may_be_defined (state_of texts false s a) n t v (parameters_shown a.known ps) ≡ false
    → None ≡ head_of (FunctionTy t ts v) g (n, line) (unit_state texts s a o)
head_refused texts a s o t ts v n line ps g same may =
    sym (ap (λ b. if b then and_then (function_declared n line (FunctionTy t ts v) (unit_state texts s a o)) (defined_once t g) else None)
    (ap (may_be_defined (state_of texts false s a) n t v) same ∙ may))

pub head_done : (texts : List (List ℕ)) (a b : Stored) (s : Raw) (o : Outer) (base t n line : ℕ) (ds : List Derivation) (g : Signature) (r : Option (Head × UnitState))
    → IsOpen a s → Goes a b → whole_unit b ≡ whole_unit a → Some (tree b.known t) ≡ derived_type false (env a.known) ds (tree a.known base)
    → r ≡ head_of (tree b.known t) g (n, line) (unit_state texts s b o)
    → r ≡ head_derived (tree a.known base) ds g (n, line) (unit_state texts s a o)
head_done texts a b s o base t n line ds g r h goes same made is =
    is ∙ ap (head_of (tree b.known t) g (n, line)) (unit_stays texts a b s o h goes same)
    ∙ ap (λ x. and_then x (λ (w : Ty). head_of w g (n, line) (unit_state texts s a o))) made

-- ---- the list of parameters next to the name

pub types_known : (a : Stored) (ps : List Parameter) → Each (KnownParameter a) ps → ParametersKnown a.known ps
types_known a [] h = tt
types_known a (p ∷ ps) h = (h.0.0, types_known a ps h.1)

pub signed_none : (a : Known) (o : Option OwnSignature) (t : Ty) (list : List Derivation) (n : ℕ × ℕ) (u : UnitState) → o ≡ None → None ≡ head_signed t (record { list = list; signature = signature_if a o }) n u
signed_none a o t list n u e = sym (ap (λ q. head_signed t (record { list = list; signature = signature_if a q }) n u) e)

pub signed_is : (a : Known) (o : Option OwnSignature) (g : OwnSignature) (t : Ty) (list : List Derivation) (n : ℕ × ℕ) (u : UnitState) (r : Option (Head × UnitState)) → o ≡ Some g
    → r ≡ head_derived t list (signature_shown a g) n u → r ≡ head_signed t (record { list = list; signature = signature_if a o }) n u
signed_is a o g t list n u r e h = h ∙ sym (ap (λ q. head_signed t (record { list = list; signature = signature_if a q }) n u) e)

pub stepped_is : (t w : Ty) (x : Steps) (z : State) (n : ℕ × ℕ) (u : UnitState) (q : Option (After Steps)) (r : Option (Head × UnitState)) → w ≡ t → Some (record { value = x; state = z }) ≡ q
    → r ≡ head_signed w x n (record u { state = z }) → r ≡ and_then q (λ a. head_signed t a.value n (record u { state = a.state }))
stepped_is t w x z n u q r same made h =
    h ∙ ap (λ y. head_signed y x n (record u { state = z })) same ∙ ap (λ o. and_then o (λ a. head_signed t a.value n (record u { state = a.state }))) made
