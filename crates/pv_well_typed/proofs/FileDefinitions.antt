-- Function definitions (C17 6.9.1): what each does to the unit, and that the function is well typed.
use Rattle.std.proofs.Common.{◌≡◌, ◌≢◌, ℕ, zero, suc, ◌<◌, ◌≤◌, ◌-◌, ◌==◌, Bool, true, false, not, ◌&&◌, ◌||◌, Option, Some, None, is_some, List, [], ◌∷◌, ◌++◌, length, take, set, get_or, refl, sym, ap, subst, ◌∙◌, arith, append-nil, append_assoc, length-append, length-set, ◌⊎◌, inl, inr}
use Rattle.std.specs.Prelude.{if◌then◌else◌}
use Rattle.std.specs.Bool.{beq}
use Rattle.std.proofs.lemmas.Bool.{eqb-true}
use Rattle.pv_tree.specs.Syntax.{DeclaratorTree, StatementTree, Block, ExpressionStatement, If, IfElse, While, DoWhile, For, ForDeclaration, Switch, SwitchBlock, Labelled, Case, Default, Break, Continue, Return, Trees}
use Rattle.pv_num.specs.declared.kinds.IntKind.TheVariants.{Int}
use Rattle.pv_types.specs.Sorts.{bare_type, is_void}
use Rattle.pv_types.specs.Layouts.{Entry, is_complete_in}
use Rattle.pv_types.specs.Ty.{Ty, Tys, NoTys, MoreTys, VoidTy, IntTy, PointerTo, ArrayOf, StructTag, UnionTag, FunctionTy, ConstOf}
use Rattle.pv_typed.specs.Adding.{with_param}
use Rattle.pv_typed.specs.AddingParts.{taking}
use Rattle.pv_typed.specs.Known.{Each}
use Rattle.pv_typed.specs.Mains.{named_main}
use Rattle.pv_typed.proofs.Each.{each_append, each_weaker}
use Rattle.pv_typed.specs.TypedStatement.{TypedStatement}
use Rattle.pv_typed.specs.TypedUnits.{WholeUnit, TypedObject, TypedFunction, layouts, object_at, function_at, name_at}
use Rattle.pv_typed.specs.UnitParts.{no_function}
use Rattle.pv_check.specs.Derivations.{Derivation, ByFunction, Parameter as OneParameter, Signature, Steps, parameter_types, declared_name, derived_type, step}
use Rattle.pv_library.specs.LibraryNames.{library_named}
use Rattle.pv_check.specs.Sorts.{is_array}
use Rattle.pv_typed.specs.TypedTree.{is_function}
use Rattle.pv_check.specs.Specifiers.{Specified}
use Rattle.pv_check.specs.State.{State, After, Scope, Meaning, env}
use Rattle.pv_check.specs.Scopes.{innermost_scope, behind_scope}
use Rattle.pv_typed.specs.Constants.{and_then}
use Rattle.pv_check.specs.Typing.{steps}
use Rattle.pv_unit.specs.Declarations.{specified_by, after_declaration}
use Rattle.pv_unit.specs.Definitions.{Head, may_be_defined, defined_once, head_of, may_head, head}
use Rattle.pv_unit.specs.HeadParts.{may_return, may_define, head_function, head_derived, head_signed, head_stepped, head_specified}
use Rattle.pv_unit.specs.Redeclarations.{Entity, UnitState, unit_name, is_entity, entities_after, is_initialized, function_declared, with_function}
use Rattle.pv_unit.specs.Functions.{within, with_parameter, with_parameters, defined_with, typed_body}
use Rattle.pv_unit.specs.FunctionParts.{with_body, with_definition, body_of}
use Rattle.pv_unit.specs.Statements.{declared_in, block_of}
use Rattle.pv_unit.specs.TypedStatements.{typed_items}
use Rattle.pv_eval.specs.Objects.{heap_name}
use Rattle.pv_guards.specs.Typed.{AreLike, AreAllLike, AreFixed, IsSignature, IsIn, IsValueType}
use Rattle.pv_guards.specs.TypedStatements.{AreNew, AreParameters, IsDefinition}
use Rattle.pv_guards.specs.Worths.{IsOfType}
use Rattle.pv_world.specs.Worlds.{Nothing}
use Rattle.pv_well_typed.proofs.SourceCharacters.{StatementCharacters, TreesCharacters}
use Rattle.pv_well_typed.specs.Later.{IsFinished, Later}
use Rattle.pv_well_typed.specs.Proper.{IsValueOrVoid, IsProper}
use Rattle.pv_well_typed.specs.ProperStates.{IsFixed, HasFunctionType, IsScope, IsProperState, IsVisible, AreVisible}
use Rattle.pv_well_typed.proofs.Types.{complete-later, small, held-value}
use Rattle.pv_well_typed.proofs.Operands.{some-same}
use Rattle.pv_well_typed.proofs.UnaryRows.{both-true}
use Rattle.pv_well_typed.proofs.UnitChanges.{Signs, same-signs, set-same, like-then, like-back, with-function-later}
use Rattle.pv_well_typed.proofs.Moving.{Outer, same-outer, AreKnownNames, IsKnownMeaning, Orderly, Moves, take-all, each-take, left-orderly}
use Rattle.pv_well_typed.proofs.DeclaredTypes.{from-some, derived-any}
use Rattle.pv_well_typed.proofs.Walk.{U, steps-give}
use Rattle.pv_well_typed.proofs.StatementRows.{Here, void-none}
use Rattle.pv_well_typed.proofs.StatementWalk.{count, Kept, Avoids, all-in, in-front, in-behind, beside, new-beside, visible-more}
use Rattle.pv_well_typed.proofs.LoopRows.{Returns}
use Rattle.pv_well_typed.proofs.StatementGives.{items-give}
use Rattle.pv_well_typed.proofs.InitializerGives.{initializer-inside}
use Rattle.pv_well_typed.proofs.SignatureRows.{some-object, objects-of, IsMadeIn, IsSigned, steps-signed}
use Rattle.pv_well_typed.proofs.FileScope.{found-set, HasEntity, declared-objects, declared-has, has-declared, marked-has, has-marked, initialized-marked, IsEntityOf, IsFunctionOf, blank, IsUnit, FunctionIs, Stays, UnitIs, Goes, lead-goes, state-goes, unit-here, entity-kept, entity-found}
use Rattle.pv_well_typed.proofs.FileFunctions.{FunctionAt, function-declared, scope-more, known-more, set-at, set-orderly}
use Rattle.pv_well_typed.proofs.FileDeclarations.{Stated, specified-known, stated-goes}

-- ---- a function with its parameters and its body (6.9.1p7, p9)

set-twice : {A : Type 0} (xs : List A) (i : ℕ) (x y : A) → set (set xs i x) i y ≡ set xs i y
set-twice [] i x y = refl
set-twice (z ∷ xs) zero x y = refl
set-twice (z ∷ xs) (suc i) x y = ap (λ ys. z ∷ ys) (set-twice xs i x y)

set-own : {A : Type 0} (z : A) (xs : List A) (i : ℕ) → set xs i (get_or xs i z) ≡ xs
set-own z [] i = refl
set-own z (x ∷ xs) zero = refl
set-own z (x ∷ xs) (suc i) = ap (λ ys. x ∷ ys) (set-own z xs i)

abbrev with-functions : State → List TypedFunction → State
with-functions s fs = record s { unit = record s.unit { functions = fs } }

abbrev with-objects : TypedFunction → List ℕ → TypedFunction
with-objects x os = record x { params = x.params ++ os }

with-parameters-is : (f : ℕ) (ps : List OneParameter) (s : State) → f < length s.unit.functions
    → with_parameters f ps s ≡ with-functions s (set s.unit.functions f (with-objects (function_at s.unit f) (objects-of ps)))
with-parameters-is f [] s lt =
    sym (ap (with-functions s) (ap (λ ps. set s.unit.functions f (record (function_at s.unit f) { params = ps })) (append-nil (function_at s.unit f).params) ∙ set-own no_function s.unit.functions f))
with-parameters-is f (p ∷ ps) s lt = by (λ t less. with-parameters-is f ps t less) p.object refl
  where
    by : ((t : State) → f < length t.unit.functions → with_parameters f ps t ≡ with-functions t (set t.unit.functions f (with-objects (function_at t.unit f) (objects-of ps)))) → (o : Option ℕ) → p.object ≡ o
        → with_parameters f ps (with_parameter f o s) ≡ with-functions s (set s.unit.functions f (with-objects (function_at s.unit f) (some-object o ++ objects-of ps)))
    by rest None e = rest s lt
    by rest (Some o) e =
        let x = function_at s.unit f in
        let t : State = record s { unit = with_param s.unit f o } in
        let at : function_at t.unit f ≡ taking x o = set-same no_function s.unit.functions f (taking x o) lt in
        let size = length-set s.unit.functions f (taking x o) in
        rest t (omega (arith, size, lt))
        ∙ ap (λ (y : TypedFunction). with-functions t (set t.unit.functions f (with-objects y (objects-of ps)))) at
        ∙ ap (with-functions s) (set-twice s.unit.functions f (taking x o) (with-objects (taking x o) (objects-of ps))
        ∙ ap (λ qs. set s.unit.functions f (record x { params = qs })) (append_assoc x.params (o ∷ []) (objects-of ps)))

abbrev defined-function : List ℕ → TypedStatement → TypedFunction → TypedFunction
defined-function os b x = record x { params = x.params ++ os; body = Some b }

with-definition-is : (f : ℕ) (ps : List OneParameter) (line : ℕ) (xs : List TypedStatement) (s : State) → f < length s.unit.functions
    → with_definition f ps line xs s ≡ with_function f (defined-function (objects-of ps) (block_of line xs) (function_at s.unit f)) s
with-definition-is f ps line xs s lt =
    let x = with-objects (function_at s.unit f) (objects-of ps) in
    ap (with_body f (block_of line xs)) (with-parameters-is f ps s lt)
    ∙ ap (λ (y : TypedFunction). with-functions s (set (set s.unit.functions f x) f (record y { body = Some (block_of line xs) }))) (set-same no_function s.unit.functions f x lt)
    ∙ ap (with-functions s) (set-twice s.unit.functions f x (record x { body = Some (block_of line xs) }))

-- ---- the scope of the parameters is that of the body (6.2.1p4)

left-within : (x : Scope) (ss ts : List Scope) → Outer (ss ++ (x ∷ [])) ts → take (length ts - 1) ts ≡ ss
left-within x ss ts h =
    let l = length-append ss (x ∷ []) in
    let inner : length (ss ++ (x ∷ [])) - 1 ≡ length ss = omega (arith, l) in
    let outer : length ts - 1 ≡ length ss = ap (λ n. n - 1) h.deep ∙ inner in
    ap (λ n. take n ts) outer ∙ subst (λ n. take n ts ≡ take n (ss ++ (x ∷ []))) inner h.same ∙ take-all ss (x ∷ [])

-- ---- parameters (6.9.1p7, p10)

-- qualifiers around a type leave its values
unqualified-like : (t : Ty) → AreLike (bare_type t) t
unqualified-like (ConstOf t) = λ env w. (unqualified-like t env w)
unqualified-like VoidTy = λ env w. ((λ h. h), (λ h. h))
unqualified-like (IntTy k) = λ env w. ((λ h. h), (λ h. h))
unqualified-like (PointerTo t) = λ env w. ((λ h. h), (λ h. h))
unqualified-like (ArrayOf t n) = λ env w. ((λ h. h), (λ h. h))
unqualified-like (StructTag n) = λ env w. ((λ h. h), (λ h. h))
unqualified-like (UnionTag n) = λ env w. ((λ h. h), (λ h. h))
unqualified-like (FunctionTy t ts c) = λ env w. ((λ h. h), (λ h. h))

-- 6.9.1p3: what a function returns, at the end of the unit
returns-of : (v : WholeUnit) (q r : Ty) → IsValueOrVoid q → AreLike r q → Returns q r
returns-of v q r p l = record { like = like-back r q l; none = λ e. nothing r (subst (λ x. AreLike r x) (void-of q p e) l) }
  where
    void-of : (q : Ty) → IsValueOrVoid q → is_void q ≡ true → q ≡ VoidTy
    void-of VoidTy p e = refl
    void-of (IntTy k) p e = absurd cc
    void-of (PointerTo t) p e = absurd cc
    void-of (StructTag n) p e = absurd cc
    void-of (UnionTag n) p e = absurd cc
    void-of (ArrayOf t n) p e = absurd p
    void-of (FunctionTy t ts c) p e = absurd p
    void-of (ConstOf t) p e = absurd p

    holds-nothing : (r : Ty) → IsOfType (layouts v) r Nothing → is_void r ≡ true
    holds-nothing VoidTy h = refl
    holds-nothing (ConstOf t) h = holds-nothing t h
    holds-nothing (IntTy k) h = absurd h
    holds-nothing (PointerTo t) h = absurd h
    holds-nothing (StructTag n) h = absurd h
    holds-nothing (UnionTag n) h = absurd h
    holds-nothing (ArrayOf t n) h = absurd h
    holds-nothing (FunctionTy t ts c) h = absurd h

    nothing : (r : Ty) → AreLike r VoidTy → is_void r ≡ true
    nothing r g = holds-nothing r ((g (layouts v) Nothing).1 tt)

-- what a list of parameters stands for among the objects of the unit
each-in : (P : ℕ → Type 0) (ps : List OneParameter) → ((p : OneParameter) (o : ℕ) → p.object ≡ Some o → P o) → Each P (objects-of ps)
each-in P [] h = tt
each-in P (p ∷ ps) h = each_append P (some-object p.object) (objects-of ps) (one p.object refl) (each-in P ps h)
  where
    one : (o : Option ℕ) → p.object ≡ o → Each P (some-object o)
    one None e = tt
    one (Some o) e = (h p o e, tt)

-- ---- the head of a definition

-- behind the declaration of the function that is defined
record HeadAt (v : WholeUnit) (t r : Ty) (g : Signature) (u : UnitState) (z : Head × UnitState) : Type 0 where
  function : ℕ
  is : z.0 ≡ record { function = function; result = r; signature = g }
  goes : Goes (IsProper v t) v (Some function) u z.1
  there : function < length z.1.state.unit.functions
  unset : is_some (function_at z.1.state.unit function).body ≡ false
  marked : is_initialized true function z.1.entities ≡ true
  signs : Signs t (function_at z.1.state.unit function).t
  fixed : IsFixed t → IsFixed (function_at z.1.state.unit function).t

-- the function is marked where it is first declared
now-initialized : (k : ℕ) (es : List Entity) → HasEntity true k es → is_initialized true k (entities_after true k true true false es) ≡ true
now-initialized k [] h = absurd h
now-initialized k (e ∷ es) h = by (now-initialized k es) (is_entity true k e) refl h
  where
    or-true : (b : Bool) → (b || true) ≡ true
    or-true true = refl
    or-true false = refl

    by : (HasEntity true k es → is_initialized true k (entities_after true k true true false es) ≡ true) → (b : Bool) → is_entity true k e ≡ b → HasEntity true k (e ∷ es)
        → is_initialized true k (if b then record e { defined = e.defined || true; initialized = e.initialized || true; unsized = e.unsized || false } ∷ es else e ∷ entities_after true k true true false es) ≡ true
    by rest true q h = ap (λ c. if c then e.initialized || true else is_initialized true k es) q ∙ or-true e.initialized
    by rest false q (inl r) = let both : true ≡ false = sym r ∙ q in absurd cc
    by rest false q (inr r) = ap (λ c. if c then e.initialized else is_initialized true k (entities_after true k true true false es)) q ∙ rest r

-- while its body is typed it is defined, and has no body yet
marked-open : (k : ℕ) (u : WholeUnit) (es : List Entity) → Each (IsEntityOf None u) es → Each (IsEntityOf (Some k) u) (entities_after true k true true false es)
marked-open k u [] h = tt
marked-open k u (e ∷ es) h = by (marked-open k u es h.1) (is_entity true k e) refl
  where
    later : (x : Entity) → IsEntityOf None u x → IsEntityOf (Some k) u x
    later x q = record { object = q.object; function = q.function; defined = λ f d. of (q.defined f d) }
      where
        of : (None ≡ Some x.number) ⊎ (is_some (function_at u x.number).body ≡ true) → (Some k ≡ Some x.number) ⊎ (is_some (function_at u x.number).body ≡ true)
        of (inl z) = absurd cc
        of (inr z) = inr z

    all-later : (xs : List Entity) → Each (IsEntityOf None u) xs → Each (IsEntityOf (Some k) u) xs
    all-later xs q = each_weaker (IsEntityOf None u) (IsEntityOf (Some k) u) (λ (x : Entity) z. later x z) xs q

    by : Each (IsEntityOf (Some k) u) (entities_after true k true true false es) → (b : Bool) → is_entity true k e ≡ b
        → Each (IsEntityOf (Some k) u) (if b then record e { defined = e.defined || true; initialized = e.initialized || true; unsized = e.unsized || false } ∷ es else e ∷ entities_after true k true true false es)
    by rest true q = (
      record { object = h.0.object; function = h.0.function; defined = λ f d. inl (ap Some (sym (eqb-true e.number k (both-true (beq e.function true) (e.number == k) q).1))) },
      all-later es h.1,
    )
    by rest false q = (later e h.0, rest)

module _ (v : WholeUnit) (done : IsFinished v) where
  open-goes : (B : Type 0) (f : ℕ) (u : UnitState) → IsUnit v None u → Goes B v (Some f) u (after_declaration true f true true false u)
  open-goes B f u i = record {
    later = λ l. l;
    grown = λ e. e;
    stays = λ e o lt none. e o lt (λ q. none (marked-has true f true true false false o u.entities q));
    count = omega arith;
    functions = omega arith;
    unit = record {
      file = i.file;
      evaluated = i.evaluated;
      unnoted = i.unnoted;
      orderly = i.orderly;
      names = visible-more (blank v) (declared-objects u.entities) (declared-objects (entities_after true f true true false u.entities))
          (λ o q. has-declared o (entities_after true f true true false u.entities) (has-marked true f true true false false o u.entities (declared-has o u.entities q))) u.state.scopes i.names;
      entities = marked-open f u.state.unit u.entities i.entities;
      functions = λ j lt. let z = i.functions j lt in record {
        declared = has-marked true f true true false true j u.entities z.declared;
        shape = z.shape;
        fixed = z.fixed;
        unset = z.unset;
        fresh = λ q. z.fresh (initialized-marked true f true true false j u.entities q);
        main = z.main;
      };
      found = i.found;
    };
    is = λ b l s. record {
      proper = s.proper;
      objects = λ g o lt. let z = s.objects g o lt in record { constants = z.constants; complete = λ none. z.complete (λ q. none (has-marked true f true true false false o u.entities q)) };
      functions = λ g j lt. s.functions (λ o few none. g o few (λ q. none (marked-has true f true true false false o u.entities q))) j lt;
    };
  }

  as-head : (t r : Ty) (g : Signature) (u : UnitState) (x z : Head × UnitState) → Some x ≡ Some z → HeadAt v t r g u x → HeadAt v t r g u z
  as-head t r g u x z e h = subst (HeadAt v t r g u) (some-same x z e) h

  function-head : (t r : Ty) (n : ℕ × ℕ) (g : Signature) (u : UnitState) (z : Head × UnitState) → IsUnit v None u → is_function t ≡ true → head_function t r n g u ≡ Some z → HeadAt v t r g u z
  function-head t r n g u z i f e =
      let a = from-some (function_declared n.0 n.1 t u) (defined_once r g) z e in
      by a.0 (function-declared v done None n.0 n.1 t u i f a.0 a.1) (is_initialized true a.0.0 a.0.1.entities) refl a.2
    where
      by : (a : ℕ × UnitState) → FunctionAt v done (IsProper v t) None u t a → (b : Bool) → is_initialized true a.0 a.1.entities ≡ b
          → (if b then None else Some (record { function = a.0; result = r; signature = g }, after_declaration true a.0 true true false a.1)) ≡ Some z → HeadAt v t r g u z
      by a h true q e = absurd cc
      by a h false q e =
          as-head t r g u (record { function = a.0; result = r; signature = g }, after_declaration true a.0 true true false a.1) z e (record {
            function = a.0;
            is = refl;
            goes = lead-goes (IsProper v t) U v None (Some a.0) u a.1 (after_declaration true a.0 true true false a.1) h.goes (λ b l s. tt) (open-goes U a.0 a.1 h.goes.unit);
            there = h.there;
            unset = (h.goes.unit.functions a.0 h.there).fresh q;
            marked = now-initialized a.0 a.1.entities (h.goes.unit.functions a.0 h.there).declared;
            signs = h.signs;
            fixed = h.fixed;
          })

  -- 6.9.1p3, p5: what a definition asks of its function
  record MayDefine (es : List Entry) (q : Ty) (ps : List OneParameter) : Type 0 where
    returns : may_return es q ≡ true
    parameters : may_define es ps ≡ true

  of-head : (q : Ty) (ts : Tys) (c : Bool) (g : Signature) (n : ℕ × ℕ) (u : UnitState) (z : Head × UnitState) → IsUnit v None u → head_of (FunctionTy q ts c) g n u ≡ Some z
      → HeadAt v (FunctionTy q ts c) q g u z × (c ≡ false) × MayDefine (env u.state) q g.parameters
  of-head q ts c g n u z i e = by (may_be_defined u.state n.0 q c g.parameters) refl e
    where
      by : (b : Bool) → may_be_defined u.state n.0 q c g.parameters ≡ b → (if b then head_function (FunctionTy q ts c) q n g u else None) ≡ Some z
          → HeadAt v (FunctionTy q ts c) q g u z × (c ≡ false) × MayDefine (env u.state) q g.parameters
      by true m e =
          let first = both-true (not c && not (is_some (library_named (name_at u.state.unit (unit_name n.0)))) && may_return (env u.state) q) (may_define (env u.state) g.parameters) m in
          let second = both-true (not c && not (is_some (library_named (name_at u.state.unit (unit_name n.0))))) (may_return (env u.state) q) first.0 in
          let third = both-true (not c) (not (is_some (library_named (name_at u.state.unit (unit_name n.0))))) second.0 in
          (function-head (FunctionTy q ts c) q n g u z i refl e, is-false c third.0, record { returns = second.1; parameters = first.1 })
        where
          is-false : (c : Bool) → not c ≡ true → c ≡ false
          is-false true e = absurd cc
          is-false false e = refl
      by false m e = absurd cc

  -- the type of what is defined: a function with the parameters of the list next to its name
  record IsDefined (u : UnitState) (base : Ty) (g : Signature) (z : Head × UnitState) : Type 0 where
    result : Ty
    head : HeadAt v (FunctionTy result (parameter_types g.parameters) false) result g u z
    may : MayDefine (env u.state) result g.parameters
    proper : AreFixed v → Later u.state v → IsProper v base → IsProper v (FunctionTy result (parameter_types g.parameters) false)

  made-head : (base : Ty) (rest : List Derivation) (g : Signature) (n : ℕ × ℕ) (u : UnitState) (z : Head × UnitState) → IsUnit v None u
      → head_derived base (ByFunction (parameter_types g.parameters) g.variadic ∷ rest) g n u ≡ Some z → IsDefined u base g z
  made-head base rest g n u z i e =
      let m = from-some (derived_type false (env u.state) (ByFunction (parameter_types g.parameters) g.variadic ∷ rest) base) (λ made. head_of made g n u) z e in
      let r = from-some (derived_type false (env u.state) rest base) (step false (env u.state) (ByFunction (parameter_types g.parameters) g.variadic)) m.0 m.1 in
      by m.0 r.0 (is_function r.0) (is_array r.0) r.2 m.2 m.1
    where
      of : (w : Ty) → FunctionTy (bare_type w) (parameter_types g.parameters) g.variadic ≡ FunctionTy (bare_type w) (parameter_types g.parameters) g.variadic
          → head_of (FunctionTy (bare_type w) (parameter_types g.parameters) g.variadic) g n u ≡ Some z
          → derived_type false (env u.state) (ByFunction (parameter_types g.parameters) g.variadic ∷ rest) base ≡ Some (FunctionTy (bare_type w) (parameter_types g.parameters) g.variadic) → IsDefined u base g z
      of w same q d =
          let h = of-head (bare_type w) (parameter_types g.parameters) g.variadic g n u z i q in
          record {
            result = bare_type w;
            head = subst (λ c. HeadAt v (FunctionTy (bare_type w) (parameter_types g.parameters) c) (bare_type w) g u z) h.1 h.0;
            may = h.2;
            proper = λ fixed l p. subst (λ c. IsProper v (FunctionTy (bare_type w) (parameter_types g.parameters) c)) h.1
                (derived-any v (env u.state) l.unit.layouts fixed false (ByFunction (parameter_types g.parameters) g.variadic ∷ rest) base (FunctionTy (bare_type w) (parameter_types g.parameters) g.variadic) p d);
          }

      by : (made w : Ty) (b c : Bool) → (if b then None else (if c then None else Some (FunctionTy (bare_type w) (parameter_types g.parameters) g.variadic))) ≡ Some made → head_of made g n u ≡ Some z
          → derived_type false (env u.state) (ByFunction (parameter_types g.parameters) g.variadic ∷ rest) base ≡ Some made → IsDefined u base g z
      by made w true c f q d = absurd cc
      by made w false true f q d = absurd cc
      by made w false false f q d =
          let same = some-same (FunctionTy (bare_type w) (parameter_types g.parameters) g.variadic) made f in
          of w refl (subst (λ t. head_of t g n u ≡ Some z) (sym same) q) (subst (λ t. derived_type false (env u.state) (ByFunction (parameter_types g.parameters) g.variadic ∷ rest) base ≡ Some t) (sym same) d)

  -- a whole head: what it does, and what is known of the parameters behind the declarator
  record Header (u : UnitState) (z : Head × UnitState) : Type 0 where
    first : UnitState
    middle : UnitState
    result : Ty
    list : Signature
    head : HeadAt v (FunctionTy result (parameter_types list.parameters) false) result list middle z
    goes : AreFixed v → Goes U v (Some head.function) u z.1
    stays : Stays v z.1 → Stays v middle
    began : IsUnit v None first
    between : IsUnit v None middle
    later : Later z.1.state v → Later first.state v
    few : length first.state.unit.functions ≤ length z.1.state.unit.functions
    made : Each (IsMadeIn first.state middle.state) list.parameters
    once : AreNew (objects-of list.parameters) []
    visible : AreVisible v (objects-of list.parameters) first.state.scopes → Each (λ (e : ℕ × Meaning). IsVisible v (objects-of list.parameters) e.1) list.scope.names
    known : AreKnownNames (length z.1.state.unit.functions) list.scope
    defined : Later z.1.state v → MayDefine (layouts v) result list.parameters
    good : AreFixed v → Later z.1.state v → UnitIs v u
        → Each (λ (p : OneParameter). IsProper v p.t) list.parameters × IsScope v (length z.1.state.unit.functions) list.scope × IsProper v (FunctionTy result (parameter_types list.parameters) false)

  -- 6.7.2.3p4: what is complete stays so
  may-later : (s : State) (q : Ty) (ps : List OneParameter) → Later s v → MayDefine (env s) q ps → MayDefine (layouts v) q ps
  may-later s q ps l h = record { returns = either (is_void q) h.returns; parameters = all ps h.parameters }
    where
      either : (b : Bool) → (b || is_complete_in (env s) q) ≡ true → (b || is_complete_in (layouts v) q) ≡ true
      either true e = refl
      either false e = complete-later (env s) v l.unit.layouts q e

      both-hold : (b d : Bool) → b ≡ true → d ≡ true → (b && d) ≡ true
      both-hold true d p q = q
      both-hold false d p q = p

      all : (ps : List OneParameter) → may_define (env s) ps ≡ true → may_define (layouts v) ps ≡ true
      all [] e = refl
      all (p ∷ ps) e =
          let f = both-true (is_some p.name && is_complete_in (env s) p.t) (may_define (env s) ps) e in
          let g = both-true (is_some p.name) (is_complete_in (env s) p.t) f.0 in
          both-hold (is_some p.name && is_complete_in (layouts v) p.t) (may_define (layouts v) ps)
          (both-hold (is_some p.name) (is_complete_in (layouts v) p.t) g.0 (complete-later (env s) v l.unit.layouts p.t g.1)) (all ps f.1)

  header : (specs : Trees) (d : DeclaratorTree) (u : UnitState) (z : Head × UnitState) → IsUnit v None u → head specs d u ≡ Some z → AreFixed v → Header u z
  header specs d u z i e fixed = with-storage (may_head a.0.value.storage) a.2
    where
      a : (a : After Specified) × (specified_by specs u.state ≡ Some a) × (head_specified a.value d (record u { state = a.state }) ≡ Some z)
      a = from-some (specified_by specs u.state) (λ x. head_specified x.value d (record u { state = x.state })) z e

      h : Stated v u.state a.0.state (IsProper v a.0.value.t)
      h = specified-known v done fixed specs u.state a.0 a.1

      base : Ty
      base = a.0.value.t

      u1 : UnitState
      u1 = record u { state = a.0.state }

      g1 : Goes U v None u u1
      g1 = stated-goes v done fixed U (IsProper v a.0.value.t) None u a.0.state i h

      -- behind the declarator
      at-steps : (n : ℕ × ℕ) → declared_name d ≡ Some n → (b : After Steps) → steps d a.0.state ≡ Some b → (g : Signature) → b.value.signature ≡ Some g → head_derived a.0.value.t b.value.list g n (record u1 { state = b.state }) ≡ Some z → Header u z
      at-steps n q b f g s r = next (made-head a.0.value.t signed.nearest.0 g n u2 z g2.unit (subst (λ xs. head_derived a.0.value.t xs g n u2 ≡ Some z) signed.nearest.1 r))
        where
          u2 : UnitState
          u2 = record u1 { state = b.state }

          signed : IsSigned v (objects-of g.parameters) done a.0.state b.state b.value.list g
          signed = (steps-signed v (objects-of g.parameters) done d n q a.0.state b f).signed g s

          g2 : Goes (IsProper v a.0.value.t) v None u1 u2
          g2 =
              let r = (steps-give v [] done d a.0.state).held b f in
              stated-goes v done fixed (IsProper v a.0.value.t) U None u1 b.state g1.unit (record { moved = r.0; known = λ l p. let y = r.1 l tt p in (y.0, y.2, tt) })

          next : IsDefined u2 a.0.value.t g z → Header u z
          next k =
              let g3 = k.head.goes in
              let back : Later z.1.state v → Later b.state v = λ l. g3.later l in
              let more = g2.functions in
              let last = g3.functions in
              let count : length a.0.state.unit.functions ≤ length z.1.state.unit.functions = omega (arith, more, last) in
              record {
                first = u1;
                middle = u2;
                result = k.result;
                list = g;
                head = k.head;
                goes = λ x. lead-goes U (IsProper v a.0.value.t) v None (Some k.head.function) u u1 z.1 g1 (λ c l y. (h.known l y.proper).2)
                    (lead-goes (IsProper v a.0.value.t) (IsProper v (FunctionTy k.result (parameter_types g.parameters) false)) v None (Some k.head.function) u1 u2 z.1 g2 (λ c l y. k.proper fixed l c) g3);
                stays = λ x. g3.stays x;
                began = g1.unit;
                between = g2.unit;
                later = λ l. g2.later (back l);
                few = count;
                made = signed.made;
                once = signed.once;
                visible = λ y. signed.visible (all-in (objects-of g.parameters) (objects-of g.parameters) (λ o j. j)) y;
                known = each_weaker (λ (x : ℕ × Meaning). IsKnownMeaning (length a.0.state.unit.functions) x.1) (λ (x : ℕ × Meaning). IsKnownMeaning (length z.1.state.unit.functions) x.1)
                    (λ (x : ℕ × Meaning) y. known-more v done (length a.0.state.unit.functions) (length z.1.state.unit.functions) count x.1 y) g.scope.names (signed.known g1.unit.orderly);
                defined = λ l. may-later b.state k.result g.parameters (back l) k.may;
                good = λ x l y.
                    let s1 = h.known (g2.later (back l)) y.proper in
                    let w = signed.good (back l) s1.0 in
                    (w.0, scope-more v done (length a.0.state.unit.functions) (length z.1.state.unit.functions) count g.scope w.1, k.proper fixed (back l) s1.2);
              }

      with-signature : (n : ℕ × ℕ) → declared_name d ≡ Some n → (b : After Steps) → steps d a.0.state ≡ Some b → (o : Option Signature) → b.value.signature ≡ o
          → and_then o (λ g. head_derived a.0.value.t b.value.list g n (record u1 { state = b.state })) ≡ Some z → Header u z
      with-signature n q b f None s r = absurd cc
      with-signature n q b f (Some g) s r = at-steps n q b f g s r

      with-storage : (c : Bool) → (if c then and_then (declared_name d) (head_stepped a.0.value.t d u1) else None) ≡ Some z → Header u z
      with-storage false q = absurd cc
      with-storage true q =
          let n = from-some (declared_name d) (head_stepped a.0.value.t d u1) z q in
          let b = from-some (steps d a.0.state) (λ b. head_signed a.0.value.t b.value n.0 (record u1 { state = b.state })) z n.2 in
          with-signature n.0 n.1 b.0 b.1 b.0.value.signature refl b.2

-- ---- the parameters' objects, at the end of the unit

-- 6.9.1p7, p10: each is as its type asks
parameters-are : (v : WholeUnit) (done : IsFinished v) (apart : (o : ℕ) → (object_at v o).name ≢ heap_name) (s t : State) (ps : List OneParameter) (ts : Tys) → Each (λ (p : OneParameter). IsProper v p.t) ps → may_define (layouts v) ps ≡ true
    → Each (IsMadeIn s t) ps → ((o : ℕ) → o < count t → (object_at t.unit o).lasting ≡ false → object_at v o ≡ object_at t.unit o) → AreAllLike (parameter_types ps) ts → AreParameters v (objects-of ps) ts
parameters-are v done apart s t [] NoTys p d m k l = tt
parameters-are v done apart s t [] (MoreTys w ts) p d m k l = absurd l
parameters-are v done apart s t (p ∷ ps) NoTys q d m k l = absurd l
parameters-are v done apart s t (p ∷ ps) (MoreTys w ts) q d m k l =
    let f = both-true (is_some p.name && is_complete_in (layouts v) p.t) (may_define (layouts v) ps) d in
    let g = both-true (is_some p.name) (is_complete_in (layouts v) p.t) f.0 in
    by p.object refl (m.0.named ∙ g.0) g.1 (parameters-are v done apart s t ps ts q.1 f.1 m.1 k l.1)
  where
    by : (o : Option ℕ) → p.object ≡ o → is_some p.object ≡ true → is_complete_in (layouts v) p.t ≡ true → AreParameters v (objects-of ps) ts → AreParameters v (some-object o ++ objects-of ps) (MoreTys w ts)
    by None e some c rest = let both : false ≡ true = sym (ap is_some e) ∙ some in absurd cc
    by (Some o) e some c rest =
        let z = m.0.made o e in
        let at = k o z.1 z.3 in
        let type : (object_at v o).t ≡ p.t = ap (λ (x : TypedObject). x.t) at ∙ z.2 in
        let complete : is_complete_in (layouts v) (object_at v o).t ≡ true = ap (is_complete_in (layouts v)) type ∙ c in (
          (
            record {
              storage = ap (λ (x : TypedObject). x.lasting) at ∙ z.3;
              complete = complete;
              small = small v done (object_at v o).t (subst (IsProper v) (sym type) q.0) complete;
              named = apart o;
            },
            subst (AreLike w) (sym type) (like-then w (bare_type p.t) p.t (like-back (bare_type p.t) w l.0) (unqualified-like p.t)),
            subst (λ x. IsValueType (bare_type x)) (sym type) (held-value v (layouts v) p.t q.0 c m.0.held),
          ),
          rest,
        )

-- ---- a definition

module _ (v : WholeUnit) (done : IsFinished v) (apart : (o : ℕ) → (object_at v o).name ≢ heap_name) (fixed : AreFixed v) where
  within-orderly : (x : Scope) (s : State) → AreKnownNames (length s.unit.functions) x → Orderly s → Orderly (within x s)
  within-orderly x s k h = record { names = each_append (AreKnownNames (length s.unit.functions)) s.scopes (x ∷ []) h.names (k, tt); uses = h.uses; sources = h.sources; written = h.written; ended = h.ended; laid = h.laid; apart = h.apart }

  within-moves : (x : Scope) (s t : State) → AreKnownNames (length s.unit.functions) x → Moves ⊥ v [] (within x s) t → Moves U v [] s (behind_scope t)
  within-moves x s t known m =
      let same = left-within x s.scopes t.scopes m.outer in
      record {
        later = λ l. let k = m.later (record { unit = l.unit; used = l.used }) in record { unit = k.unit; used = k.used };
        outer = subst (λ ts. Outer s.scopes ts) (sym same) (same-outer s.scopes);
        grows = m.grows;
        names = λ f w ps h. subst (AreVisible w ps) (sym same) h;
        evaluated = m.evaluated;
        functions = m.functions;
        spelled = m.spelled;
        noted = m.noted;
        orderly = λ h. left-orderly t (m.orderly (within-orderly x s known h));
        count = m.count;
        older = m.older;
      }

  within-proper : (x : Scope) (s : State) → IsScope v (length s.unit.functions) x → IsProperState v s → IsProperState v (within x s)
  within-proper x s k h =
      let l = length-append s.scopes (x ∷ []) in
      record { unit = h.unit; some = omega (arith, l); scopes = each_append (IsScope v (length s.unit.functions)) s.scopes (x ∷ []) h.scopes (k, tt) }

  left-proper-within : (x : Scope) (s t : State) → 0 < length s.scopes → Outer (within x s).scopes t.scopes → IsProperState v t → IsProperState v (behind_scope t)
  left-proper-within x s t some outer h =
      let same = left-within x s.scopes t.scopes outer in
      record { unit = h.unit; some = subst (λ (ts : List Scope). 0 < length ts) (sym same) some; scopes = each-take (IsScope v (length t.unit.functions)) (length t.scopes - 1) t.scopes h.scopes }

  -- the function with its parameters and its body in the place of the one that was declared
  defined-goes : (C : Type 0) (f : ℕ) (y : TypedFunction) (u : UnitState) → IsUnit v (Some f) u → f < length u.state.unit.functions → is_initialized true f u.entities ≡ true → y.name ≡ (function_at u.state.unit f).name → y.t ≡ (function_at u.state.unit f).t
      → IsFixed (function_at u.state.unit f).t → is_some y.body ≡ true → (C → Later (with_function f y u.state) v → Stays v u → FunctionIs v f y) → Goes C v None u (record u { state = with_function f y u.state })
  defined-goes C f y u i there marked named typed plain body h =
      let s = u.state in
      let few = length-set s.unit.functions f y in
      record {
        later = with-function-later v f y s named (subst (λ t. Signs (function_at s.unit f).t t) (sym typed) (same-signs (function_at s.unit f).t));
        grown = λ g o lt. g o lt;
        stays = λ g o lt none. g o lt none;
        count = omega arith;
        functions = omega (arith, few);
        unit = record {
          file = i.file;
          evaluated = i.evaluated;
          unnoted = i.unnoted;
          orderly = set-orderly v done f y s named i.orderly;
          names = i.names;
          entities = each_weaker (IsEntityOf (Some f) s.unit) (IsEntityOf None (with_function f y s).unit) (λ (e : Entity) q. kept e few q) u.entities i.entities;
          functions = λ g lt. at g (omega (arith, lt, few)) (i.functions g (omega (arith, lt, few)));
          found = found-set s.unit.functions (innermost_scope s.scopes).names f y named i.found;
        };
        is = λ b l z. record {
          proper = record {
            unit = record {
              objects = z.proper.unit.objects;
              functions = λ g lt.
                  let less : g < length s.unit.functions = omega (arith, lt, few) in
                  set-at v done u f y (λ (x : TypedFunction). HasFunctionType v (library_named (name_at s.unit x.name)) x.t) g less
                  (λ e. subst (λ n. HasFunctionType v (library_named (name_at s.unit n)) y.t) (sym named) (subst (λ t. HasFunctionType v (library_named (name_at s.unit (function_at s.unit f).name)) t) (sym typed)
                  (z.proper.unit.functions f there))) (z.proper.unit.functions g less);
              completed = z.proper.unit.completed;
            };
            some = z.proper.some;
            scopes = subst (λ n. Each (IsScope v n) s.scopes) (sym few) z.proper.scopes;
          };
          objects = λ g o lt. let y = z.objects (λ j less. g j less) o lt in record { constants = y.constants; complete = y.complete };
          functions = λ g j lt.
              let less : j < length s.unit.functions = omega (arith, lt, few) in
              let before : Stays v u = λ o few none. g o few none in
              set-at v done u f y (FunctionIs v j) j less (λ e. subst (λ n. FunctionIs v n y) e (h b l before)) (z.functions before j less);
        };
      }
    where
      kept : (e : Entity) → length (set u.state.unit.functions f y) ≡ length u.state.unit.functions → IsEntityOf (Some f) u.state.unit e → IsEntityOf None (with_function f y u.state).unit e
      kept e few q = record {
        object = q.object;
        function = λ g. let z = q.function g in let less = z.0 in (
          omega (arith, less, few),
          set-at v done u f y (λ (x : TypedFunction). x.name ≡ unit_name e.name) e.number z.0 (λ s. named ∙ ap (λ j. (function_at u.state.unit j).name) s ∙ z.1) z.1,
        );
        defined = λ g d. inr (other (q.function g).0 (q.defined g d));
      }
        where
          other : e.number < length u.state.unit.functions → (Some f ≡ Some e.number) ⊎ (is_some (function_at u.state.unit e.number).body ≡ true) → is_some (function_at (with_function f y u.state).unit e.number).body ≡ true
          other lt (inl z) =
              subst (λ j. is_some (function_at (with_function f y u.state).unit j).body ≡ true) (some-same f e.number z) (ap (λ (x : TypedFunction). is_some x.body) (set-same no_function u.state.unit.functions f y there) ∙ body)
          other lt (inr z) = set-at v done u f y (λ (x : TypedFunction). is_some x.body ≡ true) e.number lt (λ s. body) z

      at : (g : ℕ) → g < length u.state.unit.functions → IsFunctionOf u.state.unit u.entities g → IsFunctionOf (with_function f y u.state).unit u.entities g
      at g lt z = record {
        declared = z.declared;
        shape = set-at v done u f y (λ (x : TypedFunction). is_function x.t ≡ true) g lt (λ s. ap is_function typed ∙ ap (λ j. is_function (function_at u.state.unit j).t) s ∙ z.shape) z.shape;
        fixed = set-at v done u f y (λ (x : TypedFunction). is_some x.body ≡ true → IsFixed x.t) g lt (λ s b. subst IsFixed (sym typed) plain) z.fixed;
        unset = set-at v done u f y (λ (x : TypedFunction). is_some x.body ≡ false → x.params ≡ []) g lt (λ s b. absurd (true-false body b)) z.unset;
        fresh = set-at v done u f y (λ (x : TypedFunction). is_initialized true g u.entities ≡ false → is_some x.body ≡ false) g lt
            (λ s b. absurd (true-false (subst (λ j. is_initialized true j u.entities ≡ true) s marked) b)) z.fresh;
        main = set-at v done u f y (λ (x : TypedFunction). named_main u.state.unit.names x.name ≡ true → x.t ≡ FunctionTy (IntTy Int) NoTys false) g lt
            (λ s b. typed ∙ ap (λ j. (function_at u.state.unit j).t) s ∙ z.main (subst (λ n. named_main u.state.unit.names n ≡ true) (named ∙ ap (λ j. (function_at u.state.unit j).name) s) b)) z.main;
      }
        where
          true-false : {b : Bool} → b ≡ true → b ≡ false → ⊥
          true-false p q = let both : true ≡ false = sym p ∙ q in absurd cc

  -- the objects of the parameters were there
  each-made : (s t : State) (ps : List OneParameter) → Each (IsMadeIn s t) ps → Each (λ o. o < count t) (objects-of ps)
  each-made s t [] h = tt
  each-made s t (p ∷ ps) h = each_append (λ o. o < count t) (some-object p.object) (objects-of ps) (one p.object refl) (each-made s t ps h.1)
    where
      one : (o : Option ℕ) → p.object ≡ o → Each (λ o. o < count t) (some-object o)
      one None e = tt
      one (Some o) e = ((h.0.made o e).1, tt)

  in-each : (P : ℕ → Type 0) (ns : List ℕ) → Each P ns → (n : ℕ) → IsIn n ns → P n
  in-each P [] h n i = absurd i
  in-each P (m ∷ ns) h n (inl e) = subst P (sym e) h.0
  in-each P (m ∷ ns) h n (inr i) = in-each P ns h.1 n i

  returns-same : (q : Ty) → Returns q q
  returns-same q = record { like = λ env w. ((λ h. h), (λ h. h)); none = λ e. void-none q e }

  nothing-in : (v : WholeUnit) (os : List ℕ) (ss : List Scope) → AreVisible v [] ss → AreVisible v os ss
  nothing-in v os ss h = visible-more v [] os (λ o i. absurd i) ss h

  -- what is known before the body
  abbrev IsReady : {u : UnitState} {z : Head × UnitState} → Header v done u z → Type 0
  IsReady {u} {z} k = Each (λ (p : OneParameter). IsProper v p.t) k.list.parameters × IsScope v (length z.1.state.unit.functions) k.list.scope × IsProper v (FunctionTy k.result (parameter_types k.list.parameters) false)

  -- 6.9.1: the function is well typed
  function-is : (u : UnitState) (z : Head × UnitState) (k : Header v done u z) (line : ℕ) (items : Trees) → TreesCharacters items → (x : After (List TypedStatement)) → typed_items (body_of k.result) items (within k.list.scope z.1.state) ≡ Some x
      → IsProperState v z.1.state × IsReady k → Later (behind_scope x.state) v → Stays v (record z.1 { state = behind_scope x.state }) → (params : List ℕ) → params ≡ [] → FunctionIs v k.head.function (defined-function (objects-of k.list.parameters) (block_of line x.value) (record (function_at (behind_scope x.state).unit k.head.function) { params = params }))
  function-is u z k line items c x q ready l st params none r ts e =
      let ps = k.list.parameters in
      let os = objects-of ps in
      let u4 = z.1 in
      let s0 = within k.list.scope u4.state in
      let i4 = k.head.goes.unit in
      let walked = (items-give v done apart (initializer-inside v done) (body_of k.result) k.result (returns-same k.result) items c s0 i4.evaluated).held x q in
      let m = walked.0 in
      let n = within-moves k.list.scope u4.state x.state k.known m in
      let l4 = n.later l in
      let lx : Later x.state v = record { unit = l.unit; used = l.used } in
      let sign = k.head.signs (function_at v k.head.function).t (l4.unit.functions k.head.function k.head.there).signed k.result (parameter_types ps) refl in
      let both : AreLike r k.result × AreAllLike (parameter_types ps) ts = subst (λ t. IsSignature t k.result (parameter_types ps)) e sign in
      let returns = returns-of v k.result r ready.1.2.0 both.0 in
      let typed = ((items-give v done apart (initializer-inside v done) (body_of k.result) r returns items c s0 i4.evaluated).held x q).1 lx tt (within-proper k.list.scope u4.state ready.1.1 ready.0) in
      let h = typed.1 in
      let kept : Kept v x.state = λ o lt plain. st o lt (λ j. no-object (Some k.head.function) u4.entities (behind_scope x.state) (each_weaker (IsEntityOf (Some k.head.function) u4.state.unit) (IsEntityOf (Some k.head.function) (behind_scope x.state).unit) (λ (y : Entity) w. entity-kept (Some k.head.function) u4.state (behind_scope x.state) U v [] n y w) u4.entities i4.entities) o plain j) in
      let st4 : Stays v u4 = λ o lt apart. let more = n.count in st o (omega (arith, more, lt)) apart ∙ n.older o lt in
      let here : Here v os s0 = record {
        evaluated = i4.evaluated;
        visible = each_append (λ (y : Scope). Each (λ (w : ℕ × Meaning). IsVisible v os w.1) y.names) u4.state.scopes (k.list.scope ∷ []) (nothing-in v os u4.state.scopes (unit-here v (Some k.head.function) u4 i4 l4).visible)
            (k.visible (nothing-in v os k.first.state.scopes (unit-here v None k.first k.began (k.later l4)).visible), tt);
      } in
      let below = each-made k.first.state k.middle.state ps k.made in
      let grown = k.head.goes.count in
      let avoid : Avoids (count s0) (count x.state) os = λ o j. let b = in-each (λ o. o < count k.middle.state) os below o j in inl (omega (arith, b, grown)) in
      let ds = declared_in x.value in
      let more : Here v (ds ++ os) s0 = record { evaluated = here.evaluated; visible = visible-more v os (ds ++ os) (λ o j. in-behind ds os o j) s0.scopes here.visible } in
      let body = h.typed kept (ds ++ os) more (all-in ds (ds ++ os) (λ d j. in-front ds os d j)) (beside (count s0) (count x.state) ds os avoid) in
      subst (λ qs. IsDefinition v r ts (qs ++ os) (Some (block_of line x.value))) (sym none) (
        parameters-are v done apart k.first.state k.middle.state ps ts ready.1.0 (k.defined l4).parameters k.made
            (λ o lt plain. k.stays st4 o lt (λ j. no-object _ k.middle.entities k.middle.state k.between.entities o plain j)) both.1,
        k.once,
        (h.made kept, new-beside (count s0) (count x.state) ds os h.fresh h.once avoid, body.0),
      )
    where
      no-object : (j : Option ℕ) (es : List Entity) (t : State) → Each (IsEntityOf j t.unit) es → (o : ℕ) → (object_at t.unit o).lasting ≡ false → HasEntity false o es → ⊥
      no-object j es t h o plain i = let both : true ≡ false = sym (entity-found j t.unit o es h i).1 ∙ plain in absurd cc

  -- the body is typed in the scope of the parameters
  body-goes : (u : UnitState) (z : Head × UnitState) (k : Header v done u z) (line : ℕ) (items : Trees) → TreesCharacters items → (w : UnitState) → typed_body (Block line items) z ≡ Some w → Goes (IsReady k) v None z.1 w
  body-goes u z k line items c w e =
      let e' = subst (λ (hd : Head). and_then (typed_items (body_of hd.result) items (within hd.signature.scope z.1.state)) (defined_with hd line z.1) ≡ Some w) k.head.is e in
      let x = from-some (typed_items (body_of k.result) items (within k.list.scope z.1.state)) (defined_with (record { function = k.head.function; result = k.result; signature = k.list }) line z.1) w e' in
      at x.0 x.1 x.2
    where
      at : (x : After (List TypedStatement)) → typed_items (body_of k.result) items (within k.list.scope z.1.state) ≡ Some x
          → Some (record z.1 { state = with_definition k.head.function k.list.parameters line x.value (behind_scope x.state) }) ≡ Some w → Goes (IsReady k) v None z.1 w
      at x q r =
          let f = k.head.function in
          let s0 = within k.list.scope z.1.state in
          let i4 = k.head.goes.unit in
          let walked = (items-give v done apart (initializer-inside v done) (body_of k.result) k.result (returns-same k.result) items c s0 i4.evaluated).held x q in
          let n = within-moves k.list.scope z.1.state x.state k.known walked.0 in
          let five : UnitState = record z.1 { state = behind_scope x.state } in
          let g5 = state-goes (IsReady k) v (Some f) z.1 (behind_scope x.state) i4 n
          (λ b l p. let y = walked.1 (record { unit = l.unit; used = l.used }) tt (within-proper k.list.scope z.1.state b.1 p) in (left-proper-within k.list.scope z.1.state x.state p.some walked.0.outer y.0, y.2)) in
          let same : function_at (behind_scope x.state).unit f ≡ function_at z.1.state.unit f = ap (λ (fs : List TypedFunction). get_or fs f no_function) n.functions in
          let there : f < length (behind_scope x.state).unit.functions = subst (λ (fs : List TypedFunction). f < length fs) (sym n.functions) k.head.there in
          let none : (function_at (behind_scope x.state).unit f).params ≡ [] = ap (λ (y : TypedFunction). y.params) same ∙ (i4.functions f k.head.there).unset k.head.unset in
          let y = defined-function (objects-of k.list.parameters) (block_of line x.value) (function_at (behind_scope x.state).unit f) in
          let last = defined-goes (IsProperState v z.1.state × IsReady k) f y five g5.unit there k.head.marked refl refl (subst (λ (y : TypedFunction). IsFixed y.t) (sym same) (k.head.fixed refl)) refl
          (λ b l st. function-is u z k line items c x q b (with-function-later v f y (behind_scope x.state) refl (same-signs (function_at (behind_scope x.state).unit f).t) l) st (function_at (behind_scope x.state).unit f).params none) in
          subst (Goes (IsReady k) v None z.1) (ap (λ t. record z.1 { state = t }) (sym (with-definition-is f k.list.parameters line x.value (behind_scope x.state) there)) ∙ some-same (record z.1 { state = with_definition f k.list.parameters line x.value (behind_scope x.state) }) w r)
          (lead-goes (IsReady k) (IsProperState v z.1.state × IsReady k) v (Some f) None z.1 five (record z.1 { state = with_function f y (behind_scope x.state) }) g5 (λ b l p. (p.proper, b)) last)

  none-some : (w : UnitState) → None ≡ Some w → ⊥
  none-some w e = absurd cc

  -- 6.9.1p1: a function definition
  pub definition-goes : (specs : Trees) (d : DeclaratorTree) (b : StatementTree) (u w : UnitState) → StatementCharacters b → IsUnit v None u → and_then (head specs d u) (typed_body b) ≡ Some w → Goes U v None u w
  definition-goes specs d (Block line items) u w c i e =
      let z = from-some (head specs d u) (typed_body (Block line items)) w e in
      let k = header v done specs d u z.0 i z.1 fixed in
      lead-goes U (IsReady k) v (Some k.head.function) None u z.0.1 w (k.goes fixed) (λ b l s. k.good fixed l s) (body-goes u z.0 k line items c w z.2)
  definition-goes specs d (ExpressionStatement line a) u w c i e = let z = from-some (head specs d u) (typed_body (ExpressionStatement line a)) w e in absurd (none-some w z.2)
  definition-goes specs d (If line a x) u w c i e = let z = from-some (head specs d u) (typed_body (If line a x)) w e in absurd (none-some w z.2)
  definition-goes specs d (IfElse line a x y) u w c i e = let z = from-some (head specs d u) (typed_body (IfElse line a x y)) w e in absurd (none-some w z.2)
  definition-goes specs d (While line a x) u w c i e = let z = from-some (head specs d u) (typed_body (While line a x)) w e in absurd (none-some w z.2)
  definition-goes specs d (DoWhile line x a) u w c i e = let z = from-some (head specs d u) (typed_body (DoWhile line x a)) w e in absurd (none-some w z.2)
  definition-goes specs d (For line f a t x) u w c i e = let z = from-some (head specs d u) (typed_body (For line f a t x)) w e in absurd (none-some w z.2)
  definition-goes specs d (ForDeclaration line f a t x) u w c i e = let z = from-some (head specs d u) (typed_body (ForDeclaration line f a t x)) w e in absurd (none-some w z.2)
  definition-goes specs d (Switch line a x) u w c i e = let z = from-some (head specs d u) (typed_body (Switch line a x)) w e in absurd (none-some w z.2)
  definition-goes specs d (SwitchBlock line items) u w c i e = let z = from-some (head specs d u) (typed_body (SwitchBlock line items)) w e in absurd (none-some w z.2)
  definition-goes specs d (Labelled line ls x) u w c i e = let z = from-some (head specs d u) (typed_body (Labelled line ls x)) w e in absurd (none-some w z.2)
  definition-goes specs d (Case line a) u w c i e = let z = from-some (head specs d u) (typed_body (Case line a)) w e in absurd (none-some w z.2)
  definition-goes specs d (Default line) u w c i e = let z = from-some (head specs d u) (typed_body (Default line)) w e in absurd (none-some w z.2)
  definition-goes specs d (Break line) u w c i e = let z = from-some (head specs d u) (typed_body (Break line)) w e in absurd (none-some w z.2)
  definition-goes specs d (Continue line) u w c i e = let z = from-some (head specs d u) (typed_body (Continue line)) w e in absurd (none-some w z.2)
  definition-goes specs d (Return line a) u w c i e = let z = from-some (head specs d u) (typed_body (Return line a)) w e in absurd (none-some w z.2)
