-- What a declarator declares at file scope: what the code's answers come to.
use Rattle.std.proofs.Common.{◌≡◌, ℕ, Bool, true, false, List, [], ◌∷◌, ◌++◌, Option, Some, None, ◌<◌, length, refl, sym, ◌∙◌, ap}
use Rattle.std.specs.Prelude.{if◌then◌else◌, not, ◌&&◌, ◌||◌}
use Rattle.std.proofs.lemmas.List.{length-map}
use Rattle.pv_types.specs.Ty.{Ty}
use Rattle.pv_types.specs.Compatible.{are_compatible}
use Rattle.pv_typed.specs.Tables.{Stored, whole_unit, nodes, object_in, function_in}
use Rattle.pv_typed.specs.TypedUnits.{object_at, function_at}
use Rattle.pv_check.specs.declared.specifiers.Storage.{Storage}
use Rattle.pv_check.specs.declared.specifiers.Storage.TheVariants as storage
use Rattle.pv_check.specs.Composite.{composite_of}
use Rattle.pv_check.specs.Raw.{Raw}
use Rattle.pv_types.specs.Known.{tree}
use Rattle.pv_typed.specs.TypedTree.{is_function}
use Rattle.pv_typed.specs.Mains.{named_main}
use Rattle.pv_check.specs.Open.{state_of, IsOpen, Goes}
use Rattle.pv_check.proofs.Opening.{state_stays}
use Rattle.pv_unit.specs.MainType.{main_type}
use Rattle.pv_check.specs.State.{State, ObjectName, FunctionName}
use Rattle.pv_unit.specs.declared.entities.Outer.{Outer}
use Rattle.pv_unit.specs.Redeclarations.{Entity, UnitState, unit_name, may_have, function_declared, entity, new_object, new_function, with_new_object, with_new_function, with_object_type, with_function_type, object_again, function_again}
use Rattle.pv_unit.specs.EntityParts.{function_found}
use Rattle.pv_unit.specs.Declarations.{typedef_found, typedef_declared, variable_entity, entity_declared}
use Rattle.pv_unit.specs.RuleParts.{is_typedef}
use Rattle.pv_unit.specs.Outside.{unit_state}
use Rattle.pv_tree.specs.Syntax.{OptionalTree}

-- a state with what is known of declarations
abbrev pub joined : Outer → State → UnitState
joined o s = record { state = s; entities = o.entities; unsized_typedef = o.unsized_typedef }

-- ---- one more

pub object_more : (texts : List (List ℕ)) (a b : Stored) (s t : Raw) (x : Outer) (es : List Entity) (n line o : ℕ) (ty : Ty) → o ≡ length a.objects
    → state_of texts false t b ≡ new_object n line ty true (state_of texts false s a) → es ≡ x.entities ++ (entity n false o ∷ [])
    → (o, unit_state texts t b (record x { entities = es })) ≡ with_new_object n line ty (unit_state texts s a x)
object_more texts a b s t x es n line o ty number same more =
    let at : o ≡ length (whole_unit a).objects = number ∙ sym (length-map a.objects (object_in a.known (nodes a))) in
    ap (λ (z : State). (o, record { state = z; entities = es; unsized_typedef = x.unsized_typedef })) same
    ∙ ap (λ (zs : List Entity). (o, record { state = new_object n line ty true (state_of texts false s a); entities = zs; unsized_typedef = x.unsized_typedef })) more
    ∙ ap (λ (k : ℕ). (k, record { state = new_object n line ty true (state_of texts false s a); entities = x.entities ++ (entity n false k ∷ []); unsized_typedef = x.unsized_typedef })) at

pub function_more : (texts : List (List ℕ)) (a b : Stored) (s t : Raw) (x : Outer) (es : List Entity) (n line f : ℕ) (ty : Ty) → f ≡ length a.functions
    → state_of texts false t b ≡ new_function n line ty (state_of texts false s a) → es ≡ x.entities ++ (entity n true f ∷ [])
    → (f, unit_state texts t b (record x { entities = es })) ≡ with_new_function n line ty (unit_state texts s a x)
function_more texts a b s t x es n line f ty number same more =
    let at : f ≡ length (whole_unit a).functions = number ∙ sym (length-map a.functions (function_in a.known (nodes a))) in
    ap (λ (z : State). (f, record { state = z; entities = es; unsized_typedef = x.unsized_typedef })) same
    ∙ ap (λ (zs : List Entity). (f, record { state = new_function n line ty (state_of texts false s a); entities = zs; unsized_typedef = x.unsized_typedef })) more
    ∙ ap (λ (k : ℕ). (k, record { state = new_function n line ty (state_of texts false s a); entities = x.entities ++ (entity n true k ∷ []); unsized_typedef = x.unsized_typedef })) at

-- ---- one declaration more of the same

abbrev numbered : ℕ → Outer → State → ℕ × UnitState
numbered k o s = (k, joined o s)

abbrev number_of : ℕ → Outer → Option State → Option (ℕ × UnitState)
number_of k o None = None
number_of k o (Some s) = Some (numbered k o s)

number_either : (k : ℕ) (o : Outer) (b : Bool) (s : State) → number_of k o (if b then Some s else None) ≡ (if b then Some (numbered k o s) else None)
number_either k o true s = refl
number_either k o false s = refl

pub object_same : (texts : List (List ℕ)) (a b : Stored) (s : Raw) (x : Outer) (n line o : ℕ) (ty : Ty)
    → Some (state_of texts false s b) ≡ (if are_compatible (object_at (whole_unit a) o).t ty then Some (with_object_type o (composite_of (object_at (whole_unit a) o).t ty) (state_of texts false s a)) else None)
    → Some (o, unit_state texts s b x) ≡ object_again (Some (ObjectName o)) n line ty (unit_state texts s a x)
object_same texts a b s x n line o ty h = ap (number_of o x) h ∙ number_either o x (are_compatible (object_at (whole_unit a) o).t ty) (with_object_type o (composite_of (object_at (whole_unit a) o).t ty) (state_of texts false s a))

pub object_other : (texts : List (List ℕ)) (a : Stored) (s : Raw) (x : Outer) (n line o : ℕ) (ty : Ty)
    → None ≡ (if are_compatible (object_at (whole_unit a) o).t ty then Some (with_object_type o (composite_of (object_at (whole_unit a) o).t ty) (state_of texts false s a)) else None)
    → None ≡ object_again (Some (ObjectName o)) n line ty (unit_state texts s a x)
object_other texts a s x n line o ty h = ap (number_of o x) h ∙ number_either o x (are_compatible (object_at (whole_unit a) o).t ty) (with_object_type o (composite_of (object_at (whole_unit a) o).t ty) (state_of texts false s a))

pub function_same : (texts : List (List ℕ)) (a b : Stored) (s : Raw) (x : Outer) (n line f : ℕ) (ty : Ty)
    → Some (state_of texts false s b) ≡ (if are_compatible (function_at (whole_unit a) f).t ty then Some (with_function_type f (composite_of (function_at (whole_unit a) f).t ty) (state_of texts false s a)) else None)
    → Some (f, unit_state texts s b x) ≡ function_again (Some (FunctionName f)) n line ty (unit_state texts s a x)
function_same texts a b s x n line f ty h = ap (number_of f x) h ∙ number_either f x (are_compatible (function_at (whole_unit a) f).t ty) (with_function_type f (composite_of (function_at (whole_unit a) f).t ty) (state_of texts false s a))

pub function_other : (texts : List (List ℕ)) (a : Stored) (s : Raw) (x : Outer) (n line f : ℕ) (ty : Ty)
    → None ≡ (if are_compatible (function_at (whole_unit a) f).t ty then Some (with_function_type f (composite_of (function_at (whole_unit a) f).t ty) (state_of texts false s a)) else None)
    → None ≡ function_again (Some (FunctionName f)) n line ty (unit_state texts s a x)
function_other texts a s x n line f ty h = ap (number_of f x) h ∙ number_either f x (are_compatible (function_at (whole_unit a) f).t ty) (with_function_type f (composite_of (function_at (whole_unit a) f).t ty) (state_of texts false s a))

-- ---- storage classes

-- ---- where the name may have the type

pub unit_stays : (texts : List (List ℕ)) (a b : Stored) (s : Raw) (x : Outer) → IsOpen a s → Goes a b → whole_unit b ≡ whole_unit a → unit_state texts s b x ≡ unit_state texts s a x
unit_stays texts a b s x h g same = ap (joined x) (state_stays texts false a b s h g same)

pub function_allowed : (texts : List (List ℕ)) (a b : Stored) (s : Raw) (x : Outer) (n line t : ℕ) (r : Option (ℕ × UnitState)) → IsOpen a s → Goes a b → whole_unit b ≡ whole_unit a → t < length a.known.terms
    → may_have a.names (unit_name n) (tree a.known t) ≡ true → r ≡ function_found n line (tree b.known t) (unit_state texts s b x)
    → r ≡ function_declared n line (tree a.known t) (unit_state texts s a x)
function_allowed texts a b s x n line t r h g same lt may found =
    found ∙ ap (function_found n line (tree b.known t)) (unit_stays texts a b s x h g same)
    ∙ ap (λ (y : Ty). function_found n line y (unit_state texts s a x)) (g.grown.types t lt)
    ∙ sym (ap (λ b. if b then function_found n line (tree a.known t) (unit_state texts s a x) else None) may)

not_true : (b : Bool) → not b ≡ true → b ≡ false
not_true true e = cc
not_true false e = refl

pub typedef_allowed : (texts : List (List ℕ)) (a b : Stored) (s : Raw) (x : Outer) (n t : ℕ) (unsized k : Bool) (r : Option UnitState) → IsOpen a s → Goes a b → whole_unit b ≡ whole_unit a → t < length a.known.terms
    → not (named_main a.names (unit_name n) && not (is_function (tree a.known t) && are_compatible (tree a.known t) main_type)) ≡ true
    → k ≡ (x.unsized_typedef || unsized) → r ≡ typedef_found n (tree b.known t) (unit_state texts s b (record x { unsized_typedef = k }))
    → r ≡ typedef_declared n (tree a.known t) unsized (unit_state texts s a x)
typedef_allowed texts a b s x n t unsized k r h g same lt may either found =
    let y = record x { unsized_typedef = x.unsized_typedef || unsized } in
    found ∙ ap (λ (z : Bool). typedef_found n (tree b.known t) (unit_state texts s b (record x { unsized_typedef = z }))) either
    ∙ ap (typedef_found n (tree b.known t)) (unit_stays texts a b s y h g same)
    ∙ ap (λ (z : Ty). typedef_found n z (unit_state texts s a y)) (g.grown.types t lt)
    ∙ sym (ap (λ c. if c then None else typedef_found n (tree a.known t) (unit_state texts s a y)) (not_true _ may))
