-- Declarations (C17 6.7): at file scope and in blocks.
use Rattle.std.specs.Prelude.{ℕ, ◌+◌, nat_lt, Bool, true, false, ◌&&◌, ◌||◌, not, if◌then◌else◌, Some, None, is_some, length}
use Rattle.std.specs.declared.option.Option.{Option}
use Rattle.pv_token.specs.declared.words.Word.{Word}
use Rattle.pv_types.specs.Ty.{Ty}
use Rattle.pv_tree.specs.Syntax.{DeclarationTree, Declaration, InitDeclarator, DeclaratorTree, Composite, Tag, SpecifierTree, InitializerTree, Tree, OfDeclaration, OfSpecifier, OfInitializer, Trees, NoTrees, Then, OptionalTree, Absent, Present}
use Rattle.pv_typed.specs.TypedUnits.{object_at}
use Rattle.pv_typed.specs.TypedTree.{is_function}
use Rattle.pv_check.specs.State.{State, After, ◌>>=◌, Scope, Meaning, TypedefOf, give, env}
use Rattle.pv_check.specs.Scopes.{innermost_scope, find, bind}
use Rattle.pv_typed.specs.Constants.{and_then}
use Rattle.pv_check.specs.declared.specifiers.Storage.{Storage}
use Rattle.pv_check.specs.declared.specifiers.Storage.TheVariants as storage
use Rattle.pv_check.specs.Specifiers.{Specified, specification_of}
use Rattle.pv_check.specs.Tags.{tag_alone}
use Rattle.pv_typed.specs.Mains.{named_main}
use Rattle.pv_check.specs.Derivations.{Derivation, ByArray, declared_name, derived_type}
use Rattle.pv_check.specs.Typing.{specifiers, steps}
use Rattle.pv_types.specs.Compatible.{are_compatible}
use Rattle.pv_unit.specs.MainType.{main_type}
use Rattle.pv_types.specs.SameTypes.{same_type}
use Rattle.pv_unit.specs.Redeclarations.{UnitState, unit_name, entities_after, is_initialized, object_declared, function_declared}
use Rattle.pv_unit.specs.ValueRules.{typed_initializer, with_given}
use Rattle.std.specs.List.{list_any}

-- ---- without declarators

-- how many names and tags a scope has (6.2.3p1)
abbrev pub bound_in : Scope → ℕ
bound_in x = length x.names + length x.tags

-- 6.7.2.3p6: a structure or a union with a tag and members
abbrev pub is_listed : SpecifierTree → Bool
is_listed (Composite line w n ms) = is_some n
is_listed _ = false

-- 6.7.2.3p6: such a one stands among specifiers
abbrev pub has_list : Trees → Bool
has_list NoTrees = false
has_list (Then before (OfSpecifier x)) = is_listed x || has_list before
has_list (Then before _) = has_list before

-- 6.7.2.3p7: a tag specifier and nothing else
abbrev pub only_tag : Trees → Option (Word × ℕ)
only_tag (Then NoTrees (OfSpecifier (Tag line w n))) = Some (w, n)
only_tag _ = None

-- 6.7p2: specifiers without declarators declare a tag or enumerators, or complete a tag
abbrev pub tags_alone : Trees → State → After Specified → Option (After Specified)
tags_alone specs s a = if nat_lt (bound_in (innermost_scope s.scopes)) (bound_in (innermost_scope a.state.scopes)) || has_list specs then Some a else None

-- 6.7p1: what specifiers say
-- worked: type_words, storage_classes, qualified_types, members, enumerations, enumerator_values (proofs/WorkedDeclarations)
abbrev pub specified_by : Trees → State → Option (After Specified)
specified_by specs s = do a ← specifiers specs s; give (specification_of a.value) a.state

-- ---- one declarator

-- 6.7.6.2p4: an array of no size among the steps of a declarator
abbrev pub is_unsized : Derivation → Bool
is_unsized (ByArray None) = true
is_unsized _ = false

-- 6.7.6p4: what a declarator makes of the type before it, and whether it has an array of no size
pub record DeclaredType : Type 0 where
  pub t : Ty
  pub unsized : Bool

-- 6.7.6p4, 6.7.6.2p4: the type that a declarator gives its name, and whether one of its steps is an array of no size, in the state behind it
-- worked: declarator_forms, arrays, array_sizes, largest_objects, void_objects (proofs/WorkedDeclarations)
abbrev pub type_declared : (unsized : Bool) → Ty → DeclaratorTree → State → Option (After DeclaredType)
type_declared unsized t d s = do
  a ← steps d s
  give (derived_type unsized (env a.state) a.value.list t >>= λ t. Some (record { t = t; unsized = list_any is_unsized a.value.list })) a.state

-- ---- at file scope

-- 6.7p3: the same typedef may stand again, with the same type
abbrev pub typedef_again : Option Meaning → ℕ → Ty → UnitState → Option UnitState
typedef_again None n t u = Some (record u { state = bind n (TypedefOf t) u.state })
typedef_again (Some (TypedefOf v)) n t u = if same_type v t then Some u else None
typedef_again (Some _) n t u = None

-- 6.7p3: by what the name stands for at file scope
abbrev pub typedef_found : ℕ → Ty → UnitState → Option UnitState
typedef_found n t u = typedef_again (find (innermost_scope u.state.scopes).names n) n t u

-- 6.7.8p3: a typedef name; `main` is a function (5.1.2.2.1p1)
-- worked: typedef_names (proofs/WorkedDeclarations)
abbrev pub typedef_declared : ℕ → Ty → Bool → UnitState → Option UnitState
typedef_declared n t unsized u =
    if named_main u.state.unit.names (unit_name n) && not (is_function t && are_compatible t main_type) then None
    else typedef_found n t (record u { unsized_typedef = u.unsized_typedef || unsized })

-- 6.7.1p1: the storage-class specifier `extern`
abbrev pub is_extern : Storage → Bool
is_extern storage.Extern = true
is_extern _ = false

-- 6.9.2p1, p2, 6.9p5: what a declaration says of an object or a function, beside what others said
abbrev pub after_declaration : Bool → ℕ → (defined initialized unsized : Bool) → UnitState → UnitState
after_declaration function k d i b u = record u { entities = entities_after function k d i b u.entities }

-- 6.7.9: it has one initializer at most, which may complete its type
abbrev pub object_initialized : InitializerTree → ℕ × UnitState → Option UnitState
object_initialized i a =
    if is_initialized false a.0 a.1.entities then None
    else (do
      f ← typed_initializer true (object_at a.1.state.unit a.0).t i a.1.state
      Some (after_declaration false a.0 true true false (record a.1 { state = with_given a.0 f.value f.state })))

-- 6.7p4, 6.7.6.3, 6.9.2p1, p2: a function without a body is declared, and so is an object without an initializer, which is defined where it is not
-- `extern`
abbrev pub plain_entity : Storage → Ty → ℕ × ℕ → Bool → UnitState → Option UnitState
plain_entity x t n unsized u =
    if is_function t then and_then (function_declared n.0 n.1 t u) (λ a. Some (after_declaration true a.0 false false unsized a.1))
    else and_then (object_declared n.0 n.1 t u) (λ a. Some (after_declaration false a.0 (not (is_extern x)) false unsized a.1))

-- 6.7.9p3: an object with an initializer, which no function has
abbrev pub given_entity : Ty → ℕ × ℕ → InitializerTree → UnitState → Option UnitState
given_entity t n i u = if is_function t then None else and_then (object_declared n.0 n.1 t u) (object_initialized i)

-- 6.7p3, 6.7.9: a typedef name, which has no initializer
abbrev pub typedef_entity : Ty → ℕ × ℕ → Bool → OptionalTree → UnitState → Option UnitState
typedef_entity t n unsized Absent u = typedef_declared n.0 t unsized u
typedef_entity t n unsized _ u = None

-- 6.7p1: a function or an object, with or without an initializer
abbrev pub variable_entity : Storage → Ty → ℕ × ℕ → Bool → OptionalTree → UnitState → Option UnitState
variable_entity x t n unsized Absent u = plain_entity x t n unsized u
variable_entity x t n unsized (Present (OfInitializer i)) u = given_entity t n i u
variable_entity x t n unsized _ u = None

-- 6.7p1: what one declarator declares, by the storage class: a typedef name, which has no initializer (6.7p3, 6.7.9), or a function or an object, with
-- or without one
abbrev pub entity_declared : Storage → Ty → ℕ × ℕ → Bool → OptionalTree → UnitState → Option UnitState
entity_declared storage.Typedef t n unsized i u = typedef_entity t n unsized i u
entity_declared x t n unsized i u = variable_entity x t n unsized i u

-- 6.7p1: one declarator of file scope
abbrev pub file_declarator : Specified → DeclaratorTree → OptionalTree → UnitState → Option UnitState
file_declarator x d i u = do
  n ← declared_name d
  a ← type_declared true x.t d u.state
  entity_declared x.storage a.value.t n a.value.unsized i (record u { state = a.state })

-- 6.7p1: one init-declarator of file scope
abbrev pub file_init_declarator : Specified → Tree → UnitState → Option UnitState
file_init_declarator x (OfDeclaration (InitDeclarator line d i)) u = file_declarator x d i u
file_init_declarator x _ u = None

-- 6.7p1: the init-declarators of a declaration, from left to right
abbrev pub file_declarators : Trees → Specified → UnitState → Option UnitState
file_declarators NoTrees x u = Some u
file_declarators (Then before t) x u = file_declarators before x u >>= file_init_declarator x t

-- 6.7.2.3p7, 6.7p2: a tag specifier alone, without declarators, or other specifiers
-- worked: tags (proofs/WorkedDeclarations)
abbrev pub file_alone : Option (Word × ℕ) → Trees → UnitState → Option UnitState
file_alone (Some (w, n)) specs u = do s ← tag_alone w n u.state; Some (record u { state = s })
file_alone None specs u = do
  a ← specified_by specs u.state
  b ← tags_alone specs u.state a
  Some (record u { state = b.state })

-- 6.9p1, 6.7p1: a declaration among the external declarations: specifiers alone, or with declarators
abbrev pub file_declaration : DeclarationTree → UnitState → Option UnitState
file_declaration (Declaration line specs NoTrees) u = file_alone (only_tag specs) specs u
file_declaration (Declaration line specs ds) u = do a ← specified_by specs u.state; file_declarators ds a.value (record u { state = a.state })
file_declaration _ u = None
