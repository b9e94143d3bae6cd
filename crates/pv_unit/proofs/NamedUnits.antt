-- The names of a typed unit are those of its tokens, behind two that no token has, and each object and each function has the name of a
-- token (C17 6.4.2.1, 6.9).
use Rattle.std.proofs.Common.{◌≡◌, ◌<◌, ℕ, suc, Bool, true, false, not, ◌||◌, ◌&&◌, Option, Some, None, List, [], ◌∷◌, length, map, take, refl, sym, ap, subst, arith}
use Rattle.std.specs.Prelude.{if◌then◌else◌, nat_lt}
use Rattle.pv_token.specs.declared.words.Word.{Word}
use Rattle.pv_token.specs.Table.{Table}
use Rattle.pv_tree.specs.Syntax.{DeclarationTree, Function as FunctionTree, Declaration, InitDeclarator, DeclaratorTree, InitializerTree, StatementTree, Block, Tree, OfDeclaration, OfInitializer, Trees, NoTrees, Then, OptionalTree, Absent, Present}
use Rattle.pv_types.specs.Ty.{Ty, FunctionTy}
use Rattle.pv_types.specs.Compatible.{are_compatible}
use Rattle.pv_typed.specs.AddingParts.{taking}
use Rattle.pv_typed.specs.Known.{Each, AreKnown}
use Rattle.pv_typed.specs.Tables.{Stored, whole_unit, nodes, object_in, function_in}
use Rattle.pv_typed.specs.TypedStatement.{TypedStatement}
use Rattle.pv_typed.specs.TypedUnits.{WholeUnit, TypedObject, TypedFunction, object_at, function_at}
use Rattle.pv_typed.specs.Mains.{literal_text, heap_text, named_main}
use Rattle.pv_check.specs.State.{State, After, Meaning, ObjectName, FunctionName, TypedefOf, env}
use Rattle.pv_check.specs.Scopes.{find, innermost_scope, behind_scope}
use Rattle.pv_typed.specs.Constants.{and_then}
use Rattle.pv_check.specs.declared.specifiers.Storage.{Storage}
use Rattle.pv_check.specs.declared.specifiers.Storage.TheVariants as storage
use Rattle.pv_check.specs.Specifiers.{Specified}
use Rattle.pv_typed.specs.TypedTree.{is_function}
use Rattle.pv_check.specs.Tags.{tag_alone}
use Rattle.pv_types.specs.SameTypes.{same_type as same}
use Rattle.pv_check.specs.Composite.{composite_of}
use Rattle.pv_check.specs.Derivations.{Parameter, Signature, declared_name, derived_type}
use Rattle.pv_check.specs.Typing.{steps}
use Rattle.pv_unit.specs.MainType.{main_type}
use Rattle.pv_unit.specs.Redeclarations.{UnitState, unit_name, is_initialized, object_again, object_declared, function_again, may_have, function_declared}
use Rattle.pv_unit.specs.ValueRules.{typed_initializer}
use Rattle.pv_unit.specs.Declarations.{specified_by, tags_alone, only_tag, type_declared, typedef_again, typedef_declared, after_declaration, object_initialized, plain_entity, entity_declared, file_declarator, file_init_declarator, file_declarators, file_alone, file_declaration, typedef_entity, variable_entity}
use Rattle.pv_unit.specs.DeclarationParts.{declares_something, object_noted, file_declared}
use Rattle.pv_unit.specs.Definitions.{Head, may_be_defined, defined_once, head_of, may_head, head, may_end}
use Rattle.pv_unit.specs.HeadParts.{head_stepped}
use Rattle.pv_unit.specs.Functions.{within, with_parameter, with_parameters, defined_with, typed_body, typed_declaration, typed_external}
use Rattle.pv_unit.specs.FunctionParts.{with_body, body_of}
use Rattle.pv_unit.specs.Identifiers.{IsIdentifier, HasIdentifiers}
use Rattle.pv_unit.specs.Statements.{block_of}
use Rattle.pv_unit.specs.TypedStatements.{typed_items}
use Rattle.pv_unit.specs.Units.{typed_first, typed_last, typed_to, unit_at_first, Typed, UnitComes}
use Rattle.pv_unit.proofs.Named.{IsOfSource, AreNamed, object_added, object_changed, function_added, function_changed, Keeps, some_keeps, if_keeps, steps_keep}
use Rattle.pv_unit.proofs.NamedGiven.{initialized_keeps}
use Rattle.pv_unit.proofs.NamedBlocks.{StateKeeps, given_named, specified_keeps, declared_keeps, tag_state}
use Rattle.pv_unit.proofs.NamedStatements.{items_keep}

-- of an answer with a state in it: its unit is named so
abbrev Held : {X : Type 0} → (X → State) → List (List ℕ) → Option X → Type 0
Held at n None = Unit {0}
Held at n (Some x) = AreNamed n (at x).unit

-- where the state of an answer stands
abbrev alone : UnitState → State
alone u = u.state

abbrev beside : {A : Type 0} → A × UnitState → State
beside p = p.1.state

module _ {Y : Type 0} (at : Y → State) (n : List (List ℕ)) where
  held_then : {X : Type 0} (from : X → State) (o : Option X) (f : X → Option Y) → Held from n o → ((x : X) → AreNamed n (from x).unit → Held at n (f x)) → Held at n (and_then o f)
  held_then from None f h k = tt
  held_then from (Some x) f h k = k x h

  after_held : {A : Type 0} (o : Option (After A)) (f : After A → Option Y) → Keeps n o → ((a : After A) → AreNamed n a.state.unit → Held at n (f a)) → Held at n (and_then o f)
  after_held None f h k = tt
  after_held (Some a) f h k = k a (h.held a refl)

  state_held : (o : Option State) (f : State → Option Y) → StateKeeps n o → ((s : State) → AreNamed n s.unit → Held at n (f s)) → Held at n (and_then o f)
  state_held None f h k = tt
  state_held (Some s) f h k = k s h

  value_held : {A : Type 0} (o : Option A) (f : A → Option Y) → ((a : A) → Held at n (f a)) → Held at n (and_then o f)
  value_held None f k = tt
  value_held (Some a) f k = k a

  if_held : (b : Bool) (o : Option Y) → Held at n o → Held at n (if b then o else None)
  if_held true o h = h
  if_held false o h = tt

  not_held : (b : Bool) (o : Option Y) → Held at n o → Held at n (if b then None else o)
  not_held true o h = tt
  not_held false o h = h

  either_held : (b : Bool) (o p : Option Y) → Held at n o → Held at n p → Held at n (if b then o else p)
  either_held true o p h g = h
  either_held false o p h g = g

-- ---- objects and functions

object_again_held : (m : Option Meaning) (k line : ℕ) (t : Ty) (n : List (List ℕ)) (u : UnitState) → AreNamed n u.state.unit → Held beside n (object_again m k line t u)
object_again_held None k line t n u h = object_added n u.state.unit k line t true h
object_again_held (Some (ObjectName o)) k line t n u h =
    let c = composite_of (object_at u.state.unit o).t t in
    if_held beside n (are_compatible (object_at u.state.unit o).t t) (Some (o, _)) (object_changed n u.state.unit o (λ x. record x { t = c }) (λ x p. p) h)
object_again_held (Some _) k line t n u h = tt

object_held : (k line : ℕ) (t : Ty) (n : List (List ℕ)) (u : UnitState) → AreNamed n u.state.unit → Held beside n (object_declared k line t u)
object_held k line t n u h =
    let m = find (innermost_scope u.state.scopes).names k in
    not_held beside n (named_main u.state.unit.names (unit_name k)) (object_again m k line t u) (object_again_held m k line t n u h)

function_again_held : (m : Option Meaning) (k line : ℕ) (t : Ty) (n : List (List ℕ)) (u : UnitState) → AreNamed n u.state.unit → Held beside n (function_again m k line t u)
function_again_held None k line t n u h = function_added n u.state.unit k line t h
function_again_held (Some (FunctionName f)) k line t n u h =
    let c = composite_of (function_at u.state.unit f).t t in
    if_held beside n (are_compatible (function_at u.state.unit f).t t) (Some (f, _)) (function_changed n u.state.unit f (λ x. record x { t = c }) (λ x p. p) h)
function_again_held (Some _) k line t n u h = tt

function_held : (k line : ℕ) (t : Ty) (n : List (List ℕ)) (u : UnitState) → AreNamed n u.state.unit → Held beside n (function_declared k line t u)
function_held k line t n u h =
    let m = find (innermost_scope u.state.scopes).names k in
    if_held beside n (may_have u.state.unit.names (unit_name k) t) (function_again m k line t u) (function_again_held m k line t n u h)

typedef_again_held : (m : Option Meaning) (k : ℕ) (t : Ty) (n : List (List ℕ)) (u : UnitState) → AreNamed n u.state.unit → Held alone n (typedef_again m k t u)
typedef_again_held None k t n u h = h
typedef_again_held (Some (TypedefOf v)) k t n u h = if_held alone n (same v t) (Some u) h
typedef_again_held (Some _) k t n u h = tt

typedef_held : (k : ℕ) (t : Ty) (unsized : Bool) (n : List (List ℕ)) (u : UnitState) → AreNamed n u.state.unit → Held alone n (typedef_declared k t unsized u)
typedef_held k t unsized n u h =
    let m = find (innermost_scope u.state.scopes).names k in
    let v = record u { unsized_typedef = u.unsized_typedef || unsized } in
    not_held alone n (named_main u.state.unit.names (unit_name k) && not (is_function t && are_compatible t main_type)) (typedef_again m k t v) (typedef_again_held m k t n v h)

-- ---- declarations of file scope

given_held : (i : InitializerTree) (n : List (List ℕ)) (a : ℕ × UnitState) → AreNamed n a.1.state.unit → Held alone n (object_initialized i a)
given_held i n a h =
    let t = (object_at a.1.state.unit a.0).t in
    not_held alone n (is_initialized false a.0 a.1.entities) _ (after_held alone n (typed_initializer true t i a.1.state) _ (initialized_keeps true t i n a.1.state h) (λ f j. given_named n a.0 f j))

plain_held : (x : Storage) (t : Ty) (k : ℕ × ℕ) (unsized : Bool) (n : List (List ℕ)) (u : UnitState) → AreNamed n u.state.unit → Held alone n (plain_entity x t k unsized u)
plain_held x t k unsized n u h =
    either_held alone n (is_function t) _ _
    (held_then alone n beside (function_declared k.0 k.1 t u) (λ a. Some (after_declaration true a.0 false false unsized a.1)) (function_held k.0 k.1 t n u h) (λ a j. j))
    (held_then alone n beside (object_declared k.0 k.1 t u) (λ a. Some (object_noted x unsized a)) (object_held k.0 k.1 t n u h) (λ a j. j))

variable_held : (x : Storage) (t : Ty) (k : ℕ × ℕ) (unsized : Bool) (i : OptionalTree) (n : List (List ℕ)) (u : UnitState) → AreNamed n u.state.unit → Held alone n (variable_entity x t k unsized i u)
variable_held x t k unsized Absent n u h = plain_held x t k unsized n u h
variable_held x t k unsized (Present (OfInitializer i)) n u h =
    not_held alone n (is_function t) _ (held_then alone n beside (object_declared k.0 k.1 t u) (object_initialized i) (object_held k.0 k.1 t n u h) (λ a j. given_held i n a j))
variable_held x t k unsized (Present _) n u h = tt

named_held : (t : Ty) (k : ℕ × ℕ) (unsized : Bool) (i : OptionalTree) (n : List (List ℕ)) (u : UnitState) → AreNamed n u.state.unit → Held alone n (typedef_entity t k unsized i u)
named_held t k unsized Absent n u h = typedef_held k.0 t unsized n u h
named_held t k unsized (Present i) n u h = tt

entity_held : (x : Storage) (t : Ty) (k : ℕ × ℕ) (unsized : Bool) (i : OptionalTree) (n : List (List ℕ)) (u : UnitState) → AreNamed n u.state.unit → Held alone n (entity_declared x t k unsized i u)
entity_held storage.Typedef t k unsized i n u h = named_held t k unsized i n u h
entity_held storage.Plain t k unsized i n u h = variable_held storage.Plain t k unsized i n u h
entity_held storage.Extern t k unsized i n u h = variable_held storage.Extern t k unsized i n u h
entity_held storage.Static t k unsized i n u h = variable_held storage.Static t k unsized i n u h

declarator_held : (x : Specified) (d : DeclaratorTree) (i : OptionalTree) (n : List (List ℕ)) (u : UnitState) → AreNamed n u.state.unit → Held alone n (file_declarator x d i u)
declarator_held x d i n u h =
    value_held alone n (declared_name d) _ (λ (k : ℕ × ℕ). after_held alone n (type_declared true x.t d u.state) _ (declared_keeps true x.t d n u.state h)
    (λ a j. entity_held x.storage a.value.t k a.value.unsized i n (record u { state = a.state }) j))

init_held : (x : Specified) (t : Tree) (n : List (List ℕ)) (u : UnitState) → AreNamed n u.state.unit → Held alone n (file_init_declarator x t u)
init_held x (OfDeclaration (InitDeclarator line d i)) n u h = declarator_held x d i n u h
init_held x (OfDeclaration _) n u h = tt
init_held x _ n u h = tt

declarators_held : (ds : Trees) (x : Specified) (n : List (List ℕ)) (u : UnitState) → AreNamed n u.state.unit → Held alone n (file_declarators ds x u)
declarators_held NoTrees x n u h = h
declarators_held (Then before t) x n u h = held_then alone n alone (file_declarators before x u) (file_init_declarator x t) (declarators_held before x n u h) (λ v j. init_held x t n v j)

alone_held : (tag : Option (Word × ℕ)) (specs : Trees) (n : List (List ℕ)) (u : UnitState) → AreNamed n u.state.unit → Held alone n (file_alone tag specs u)
alone_held (Some (w, k)) specs n u h = state_held alone n (tag_alone w k u.state) _ (tag_state n w k u.state h) (λ s j. j)
alone_held None specs n u h =
    after_held alone n (specified_by specs u.state) _ (specified_keeps specs n u.state h)
    (λ a j. after_held alone n (tags_alone specs u.state a) _ (if_keeps n (declares_something specs u.state a.state) (Some a) (some_keeps n a.value a.state j)) (λ b i. i))

behind_held : (specs ds : Trees) (n : List (List ℕ)) (u : UnitState) → AreNamed n u.state.unit → Held alone n (file_declared specs ds u)
behind_held specs ds n u h =
    after_held alone n (specified_by specs u.state) _ (specified_keeps specs n u.state h) (λ a j. declarators_held ds a.value n (record u { state = a.state }) j)

file_held : (d : DeclarationTree) (n : List (List ℕ)) (u : UnitState) → AreNamed n u.state.unit → Held alone n (file_declaration d u)
file_held (Declaration line specs NoTrees) n u h = alone_held (only_tag specs) specs n u h
file_held (Declaration line specs (Then before x)) n u h = behind_held specs (Then before x) n u h
file_held _ n u h = tt

-- ---- definitions of functions

head_of_held : (made : Ty) (g : Signature) (k : ℕ × ℕ) (n : List (List ℕ)) (u : UnitState) → AreNamed n u.state.unit → Held beside n (head_of made g k u)
head_of_held (FunctionTy t ts v) g k n u h =
    if_held beside n (may_be_defined u.state k.0 t v g.parameters) _ (held_then beside n beside (function_declared k.0 k.1 (FunctionTy t ts v) u) (defined_once t g) (function_held k.0 k.1 (FunctionTy t ts v) n u h)
    (λ a j. not_held beside n (is_initialized true a.0 a.1.entities) (Some (_, _)) j))
head_of_held _ g k n u h = tt

stepped_held : (t : Ty) (d : DeclaratorTree) (n : List (List ℕ)) (u : UnitState) (k : ℕ × ℕ) → AreNamed n u.state.unit → Held beside n (head_stepped t d u k)
stepped_held t d n u k h =
    after_held beside n (steps d u.state) _ (steps_keep d n u.state h)
    (λ a j. value_held beside n a.value.signature _ (λ (g : Signature). value_held beside n (derived_type false (env a.state) a.value.list t) _ (λ (made : Ty). head_of_held made g k n (record u { state = a.state }) j)))

head_held : (specs : Trees) (d : DeclaratorTree) (n : List (List ℕ)) (u : UnitState) → AreNamed n u.state.unit → Held beside n (head specs d u)
head_held specs d n u h =
    after_held beside n (specified_by specs u.state) _ (specified_keeps specs n u.state h)
    (λ x j. if_held beside n (may_head x.value.storage) _ (value_held beside n (declared_name d) _ (λ (k : ℕ × ℕ). stepped_held x.value.t d n (record u { state = x.state }) k j)))

parameter_named : (n : List (List ℕ)) (f : ℕ) (o : Option ℕ) (s : State) → AreNamed n s.unit → AreNamed n (with_parameter f o s).unit
parameter_named n f None s h = h
parameter_named n f (Some o) s h = function_changed n s.unit f (λ x. taking x o) (λ x p. p) h

parameters_named : (n : List (List ℕ)) (f : ℕ) (ps : List Parameter) (s : State) → AreNamed n s.unit → AreNamed n (with_parameters f ps s).unit
parameters_named n f [] s h = h
parameters_named n f (p ∷ ps) s h = parameters_named n f ps (with_parameter f p.object s) (parameter_named n f p.object s h)

body_named : (n : List (List ℕ)) (f : ℕ) (b : TypedStatement) (s : State) → AreNamed n s.unit → AreNamed n (with_body f b s).unit
body_named n f b s h = function_changed n s.unit f (λ x. record x { body = Some b }) (λ x p. p) h

body_held : (b : StatementTree) (x : Head × UnitState) (n : List (List ℕ)) → AreNamed n x.1.state.unit → Held alone n (typed_body b x)
body_held (Block line items) x n h =
    let s = within x.0.signature.scope x.1.state in
    after_held alone n (typed_items (body_of x.0.result) items s) (defined_with x.0 line x.1) (items_keep items (body_of x.0.result) n s h)
    (λ y j. body_named n x.0.function (block_of line y.value) (with_parameters x.0.function x.0.signature.parameters (behind_scope y.state))
    (parameters_named n x.0.function x.0.signature.parameters (behind_scope y.state) j))
body_held _ x n h = tt

-- ---- external declarations

declaration_held : (d : DeclarationTree) (n : List (List ℕ)) (u : UnitState) → AreNamed n u.state.unit → Held alone n (typed_declaration d u)
declaration_held (FunctionTree line specs d b) n u h = held_then alone n beside (head specs d u) (typed_body b) (head_held specs d n u h) (λ x j. body_held b x n j)
declaration_held d n u h = file_held d n u h

external_held : (d : DeclarationTree) (n : List (List ℕ)) (u : UnitState) → AreNamed n u.state.unit → Held alone n (typed_external d u)
external_held d n u h = held_then alone n alone (typed_declaration d u) _ (declaration_held d n u h) (λ v j. j)

first_held : (ds : List DeclarationTree) (n : List (List ℕ)) (u : UnitState) → AreNamed n u.state.unit → Held alone n (typed_first ds u)
first_held [] n u h = h
first_held (d ∷ ds) n u h = held_then alone n alone (typed_external d u) (typed_first ds) (external_held d n u h) (λ v j. first_held ds n v j)

last_held : (ds : List DeclarationTree) (n : List (List ℕ)) (u : UnitState) → AreNamed n u.state.unit → Held alone n (typed_last ds u)
last_held [] n u h = h
last_held (d ∷ ds) n u h = if_held alone n (may_end u) (Some u) h

to_held : (ds : List DeclarationTree) (k : ℕ) (n : List (List ℕ)) (u : UnitState) → AreNamed n u.state.unit → Held alone n (typed_to ds k u)
unfolding typed_to
to_held ds k n u h =
    either_held alone n (nat_lt k (length ds)) (typed_first (take k ds) u) (and_then (typed_first ds u) (typed_last ds))
    (first_held (take k ds) n u h)
    (held_then alone n alone (typed_first ds u) (typed_last ds) (first_held ds n u h) (λ v j. last_held ds n v j))

-- ---- a unit that has a typing

named_unit : (t : Table) (ds : List DeclarationTree) (w : WholeUnit) → UnitComes t ds (Typed w) → AreNamed (literal_text ∷ heap_text ∷ t.names) w
named_unit t ds w h =
    let n = literal_text ∷ heap_text ∷ t.names in
    let held : Held alone n (Some h.0) = subst (Held alone n) h.1.0 (to_held ds (length ds) n (unit_at_first t) (refl, tt, tt)) in
    subst (AreNamed n) (sym h.1.3) held

-- its names
pub unit_names : (t : Table) (ds : List DeclarationTree) (w : WholeUnit) → UnitComes t ds (Typed w) → w.names ≡ literal_text ∷ heap_text ∷ t.names
unit_names t ds w h = (named_unit t ds w h).0

-- a name of a source that is there is one of the tokens'
identifier : (t : Table) (u : WholeUnit) (k : ℕ) → u.names ≡ literal_text ∷ heap_text ∷ t.names → IsOfSource k → k < length u.names → IsIdentifier t k
identifier t u k names (i, is) lt =
    let long : length u.names ≡ suc (suc (length t.names)) = ap (λ (xs : List (List ℕ)). length xs) names in
    (i, (omega (arith, long, is, lt), is))

-- of each of a list that is mapped, by what holds of it and of what it was mapped from
each_mapped : {A B : Type 0} (f : A → B) (P : B → Type 0) (K : A → Type 0) (Q : B → Type 0) → ((x : A) → P (f x) → K x → Q (f x)) → (xs : List A) → Each P (map f xs) → Each K xs → Each Q (map f xs)
each_mapped f P K Q g [] h k = tt
each_mapped f P K Q g (x ∷ xs) h k = (g x h.0 k.0, each_mapped f P K Q g xs h.1 k.1)

pub unit_identifiers : (t : Table) (ds : List DeclarationTree) (m : Stored) → UnitComes t ds (Typed (whole_unit m)) → AreKnown m → HasIdentifiers t (whole_unit m)
unit_identifiers t ds m h k =
    let named = named_unit t ds (whole_unit m) h in
    record {
      names = named.0;
      objects = each_mapped (object_in m.known (nodes m)) (λ (x : TypedObject). IsOfSource x.name) _ (λ (x : TypedObject). IsIdentifier t x.name) (λ e p q. identifier t (whole_unit m) e.0.name named.0 p q.1) m.objects named.1 k.objects;
      functions = each_mapped (function_in m.known (nodes m)) (λ (x : TypedFunction). IsOfSource x.name) _ (λ (x : TypedFunction). IsIdentifier t x.name) (λ e p q. identifier t (whole_unit m) e.0.name named.0 p q.1) m.functions named.2 k.functions;
    }
