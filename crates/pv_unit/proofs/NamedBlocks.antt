-- Typing declarations in blocks leaves the names of the unit as they were, and each new object has the name of an identifier (C17 6.4.2.1, 6.7).
use Rattle.std.proofs.Common.{ℕ, Bool, true, false, Option, Some, None, is_some, List, [], ◌++◌, length, refl}
use Rattle.std.specs.Prelude.{if◌then◌else◌}
use Rattle.pv_token.specs.declared.words.Word.{Word}
use Rattle.pv_token.specs.declared.words.Word.TheVariants as word
use Rattle.pv_types.specs.Ty.{Ty}
use Rattle.std.specs.Bool.{beq}
use Rattle.pv_types.specs.Layouts.{is_complete_in, tag_type}
use Rattle.pv_tree.specs.Syntax.{DeclarationTree, Function as FunctionTree, Declaration, InitDeclarator, MemberDeclaration, Enumerator, Parameter, TypeName, DeclaratorTree, Tree, OfExpression, OfDeclaration, OfDeclarator, OfSpecifier, OfInitializer, OfStatement, Trees, NoTrees, Then, OptionalTree, Absent, Present}
use Rattle.pv_typed.specs.TypedUnits.{object_at}
use Rattle.pv_check.specs.State.{State, After, env, TagMeaning, CompositeTag, EnumerationTag, OpenEnumeration, give}
use Rattle.pv_check.specs.Scopes.{find, innermost_scope}
use Rattle.pv_typed.specs.Constants.{and_then}
use Rattle.pv_check.specs.Specifiers.{Specified, specification_of}
use Rattle.pv_check.specs.Derivations.{Steps, declared_name, derived_type}
use Rattle.pv_typed.specs.TypedTree.{is_function}
use Rattle.pv_check.specs.Tags.{composite_named, tag_alone}
use Rattle.pv_check.specs.Typing.{specifiers, steps}
use Rattle.pv_unit.specs.Blocks.{Reached, block_storage, with_initializer, block_object, is_present, block_declarator, block_init_declarator, block_declarators, block_alone, block_declaration, reached_object}
use Rattle.pv_unit.specs.BlockParts.{block_declared}
use Rattle.pv_unit.specs.Declarations.{DeclaredType, only_tag, tags_alone, specified_by, type_declared}
use Rattle.pv_unit.specs.DeclarationParts.{declares_something, with_unsized, has_unsized}
use Rattle.pv_unit.specs.Redeclarations.{new_object}
use Rattle.pv_unit.specs.Initializers.{Given}
use Rattle.pv_unit.specs.ValueRules.{typed_initializer, with_given}
use Rattle.pv_unit.proofs.Named.{AreNamed, object_added, object_changed, Keeps, specifiers_keep, steps_keep, none_keeps, some_keeps, give_keeps, then_keeps, value_then}
use Rattle.pv_unit.proofs.NamedGiven.{initialized_keeps}

-- states alone
abbrev pub StateKeeps : List (List ℕ) → Option State → Type 0
StateKeeps n None = Unit {0}
StateKeeps n (Some s) = AreNamed n s.unit

pub state_then : {A : Type 0} (n : List (List ℕ)) (o : Option State) (x : A) → StateKeeps n o → Keeps n (and_then o (give (Some x)))
state_then n None x h = none_keeps n
state_then n (Some s) x h = some_keeps n x s h

-- ---- declarations in blocks

pub specified_keeps : (specs : Trees) (n : List (List ℕ)) (s : State) → AreNamed n s.unit → Keeps n (specified_by specs s)
specified_keeps specs n s h = then_keeps n (specifiers specs s) (λ a. give (specification_of a.value) a.state) (specifiers_keep specs n s h) (λ a k. give_keeps n (specification_of a.value) a.state k)

abbrev made : Bool → Ty → After Steps → Option (After DeclaredType)
made unsized t a = give (and_then (derived_type unsized (env a.state) a.value.list t) (with_unsized (has_unsized a.value.list))) a.state

pub declared_keeps : (unsized : Bool) (t : Ty) (d : DeclaratorTree) (n : List (List ℕ)) (s : State) → AreNamed n s.unit → Keeps n (type_declared unsized t d s)
declared_keeps unsized t d n s h = then_keeps n (steps d s) (made unsized t) (steps_keep d n s h) (λ a k. give_keeps n (and_then (derived_type unsized (env a.state) a.value.list t) (with_unsized (has_unsized a.value.list))) a.state k)

-- 6.7.9: an object with its initializer
pub given_named : (n : List (List ℕ)) (o : ℕ) (f : After Given) → AreNamed n f.state.unit → AreNamed n (with_given o f.value f.state).unit
given_named n o f h = object_changed n f.state.unit o (λ x. record x { t = f.value.t; braced = f.value.braced; inits = x.inits ++ f.value.stores }) (λ x p. p) h

given_state : (n : List (List ℕ)) (o : ℕ) (c : Option (After Given)) → Keeps n c → StateKeeps n (and_then c (λ f. if is_complete_in (env f.state) f.value.t then Some (with_given o f.value f.state) else None))
given_state n o None h = tt
given_state n o (Some f) h = here (is_complete_in (env f.state) f.value.t)
  where
    here : (b : Bool) → StateKeeps n (if b then Some (with_given o f.value f.state) else None)
    here true = given_named n o f (h.held f refl)
    here false = tt

if_state : (n : List (List ℕ)) (b : Bool) (s : State) → AreNamed n s.unit → StateKeeps n (if b then Some s else None)
if_state n true s h = h
if_state n false s h = tt

initializer_state : (n : List (List ℕ)) (lasting : Bool) (o : ℕ) (i : OptionalTree) (s : State) → AreNamed n s.unit → StateKeeps n (with_initializer lasting o i s)
initializer_state n lasting o Absent s h = if_state n (is_complete_in (env s) (object_at s.unit o).t) s h
initializer_state n lasting o (Present (OfInitializer i)) s h = given_state n o (typed_initializer lasting (object_at s.unit o).t i s) (initialized_keeps lasting (object_at s.unit o).t i n s h)
initializer_state n lasting o (Present (OfExpression x)) s h = tt
initializer_state n lasting o (Present (OfDeclaration x)) s h = tt
initializer_state n lasting o (Present (OfDeclarator x)) s h = tt
initializer_state n lasting o (Present (OfSpecifier x)) s h = tt
initializer_state n lasting o (Present (OfStatement x)) s h = tt

not_state : (n : List (List ℕ)) (b : Bool) (o : Option State) → StateKeeps n o → StateKeeps n (if b then None else o)
not_state n true o h = tt
not_state n false o h = h

block_object_state : (n : List (List ℕ)) (lasting : Bool) (t : Ty) (k : ℕ × ℕ) (i : OptionalTree) (s : State) → AreNamed n s.unit → StateKeeps n (block_object lasting t k i s)
block_object_state n lasting t k i s h =
    not_state n (is_some (find (innermost_scope s.scopes).names k.0)) (with_initializer lasting (length s.unit.objects) i (new_object k.0 k.1 t lasting s))
    (initializer_state n lasting (length s.unit.objects) i (new_object k.0 k.1 t lasting s) (object_added n s.unit k.0 k.1 t lasting h))

pub not_keeps : {A : Type 0} (n : List (List ℕ)) (b : Bool) (o : Option (After A)) → Keeps n o → Keeps n (if b then None else o)
not_keeps n true o h = none_keeps n
not_keeps n false o h = h

abbrev object_behind : Bool → ℕ × ℕ → OptionalTree → List Reached → After DeclaredType → Option (After (List Reached))
object_behind lasting k i xs a =
    if is_function a.value.t then None
    else and_then (block_object lasting a.value.t k i a.state) (give (Some (xs ++ reached_object lasting (length a.state.unit.objects) k)))

declarator_keeps : (lasting : Bool) (t : Ty) (d : DeclaratorTree) (i : OptionalTree) (n : List (List ℕ)) (r : After (List Reached)) → AreNamed n r.state.unit → Keeps n (block_declarator lasting t d i r)
declarator_keeps lasting t d i n r h =
    value_then n (declared_name d) _ (λ (k : ℕ × ℕ). then_keeps n (type_declared (is_present i) t d r.state) (object_behind lasting k i r.value) (declared_keeps (is_present i) t d n r.state h)
    (λ a j. not_keeps n (is_function a.value.t) (and_then (block_object lasting a.value.t k i a.state) (give (Some (r.value ++ reached_object lasting (length a.state.unit.objects) k))))
    (state_then n (block_object lasting a.value.t k i a.state) (r.value ++ reached_object lasting (length a.state.unit.objects) k) (block_object_state n lasting a.value.t k i a.state j))))

init_keeps : (lasting : Bool) (t : Ty) (x : Tree) (n : List (List ℕ)) (r : After (List Reached)) → AreNamed n r.state.unit → Keeps n (block_init_declarator lasting t x r)
init_keeps lasting t (OfDeclaration (InitDeclarator line d i)) n r h = declarator_keeps lasting t d i n r h
init_keeps lasting t (OfDeclaration (FunctionTree line specs d b)) n r h = none_keeps n
init_keeps lasting t (OfDeclaration (Declaration line specs ds)) n r h = none_keeps n
init_keeps lasting t (OfDeclaration (MemberDeclaration line specs ds)) n r h = none_keeps n
init_keeps lasting t (OfDeclaration (Enumerator line k v)) n r h = none_keeps n
init_keeps lasting t (OfDeclaration (Parameter line specs d)) n r h = none_keeps n
init_keeps lasting t (OfDeclaration (TypeName line specs d)) n r h = none_keeps n
init_keeps lasting t (OfExpression x) n r h = none_keeps n
init_keeps lasting t (OfDeclarator x) n r h = none_keeps n
init_keeps lasting t (OfSpecifier x) n r h = none_keeps n
init_keeps lasting t (OfInitializer x) n r h = none_keeps n
init_keeps lasting t (OfStatement x) n r h = none_keeps n

declarators_keep : (ds : Trees) (lasting : Bool) (t : Ty) (n : List (List ℕ)) (s : State) → AreNamed n s.unit → Keeps n (block_declarators ds lasting t s)
declarators_keep NoTrees lasting t n s h = some_keeps n [] s h
declarators_keep (Then before x) lasting t n s h =
    then_keeps n (block_declarators before lasting t s) (block_init_declarator lasting t x) (declarators_keep before lasting t n s h) (λ a j. init_keeps lasting t x n a j)

composite_state : (n : List (List ℕ)) (union : Bool) (k : ℕ) (m : Option TagMeaning) (s : State) → AreNamed n s.unit → StateKeeps n (and_then (composite_named union k m s) (λ (a : After Ty). Some a.state))
composite_state n union k None s h = h
composite_state n union k (Some (CompositeTag u i)) s h = here (beq u union)
  where
    here : (b : Bool) → StateKeeps n (and_then (if b then give (Some (tag_type u i)) s else None) (λ (a : After Ty). Some a.state))
    here true = h
    here false = tt
composite_state n union k (Some EnumerationTag) s h = tt
composite_state n union k (Some OpenEnumeration) s h = tt

pub tag_state : (n : List (List ℕ)) (w : Word) (k : ℕ) (s : State) → AreNamed n s.unit → StateKeeps n (tag_alone w k s)
tag_state n word.Struct k s h = composite_state n false k (find (innermost_scope s.scopes).tags k) s h
tag_state n word.Union k s h = composite_state n true k (find (innermost_scope s.scopes).tags k) s h
tag_state n _ k s h = tt

pub tags_keep : (specs : Trees) (s : State) (n : List (List ℕ)) (a : After Specified) → AreNamed n a.state.unit → Keeps {A = List Reached} n (and_then (tags_alone specs s a) (λ (b : After Specified). give (Some []) b.state))
tags_keep specs s n a h = here (declares_something specs s a.state)
  where
    here : (b : Bool) → Keeps {A = List Reached} n (and_then (if b then Some a else None) (λ (c : After Specified). give (Some []) c.state))
    here true = some_keeps n [] a.state h
    here false = none_keeps n

alone_keeps : (tag : Option (Word × ℕ)) (specs : Trees) (n : List (List ℕ)) (s : State) → AreNamed n s.unit → Keeps n (block_alone tag specs s)
alone_keeps (Some (w, k)) specs n s h = state_then n (tag_alone w k s) [] (tag_state n w k s h)
alone_keeps None specs n s h =
    then_keeps n (specified_by specs s) _ (specified_keeps specs n s h) (λ a j. value_then n (block_storage a.value.storage) _ (λ (lasting : Bool). tags_keep specs s n a j))

behind_keeps : (specs ds : Trees) (n : List (List ℕ)) (s : State) → AreNamed n s.unit → Keeps n (block_declared specs ds s)
behind_keeps specs ds n s h =
    then_keeps n (specified_by specs s) _ (specified_keeps specs n s h) (λ a j. value_then n (block_storage a.value.storage) _ (λ (lasting : Bool). declarators_keep ds lasting a.value.t n a.state j))

pub declaration_keeps : (d : DeclarationTree) (n : List (List ℕ)) (s : State) → AreNamed n s.unit → Keeps n (block_declaration d s)
declaration_keeps (Declaration line specs NoTrees) n s h = alone_keeps (only_tag specs) specs n s h
declaration_keeps (Declaration line specs (Then before x)) n s h = behind_keeps specs (Then before x) n s h
declaration_keeps (FunctionTree line specs d b) n s h = none_keeps n
declaration_keeps (InitDeclarator line d i) n s h = none_keeps n
declaration_keeps (MemberDeclaration line specs ds) n s h = none_keeps n
declaration_keeps (Enumerator line k v) n s h = none_keeps n
declaration_keeps (Parameter line specs d) n s h = none_keeps n
declaration_keeps (TypeName line specs d) n s h = none_keeps n
