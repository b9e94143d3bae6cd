-- Typing declarations leaves as many scopes as there were.
use Rattle.std.proofs.Common.{◌≡◌, ℕ, ◌-◌, Bool, true, false, Option, Some, None, is_some, List, [], ◌++◌, length, refl, ◌∙◌, length-set}
use Rattle.std.specs.Prelude.{if◌then◌else◌}
use Rattle.pv_token.specs.declared.words.Word.{Word}
use Rattle.pv_token.specs.declared.words.Word.TheVariants as word
use Rattle.pv_types.specs.Ty.{Ty}
use Rattle.std.specs.Bool.{beq}
use Rattle.pv_types.specs.Layouts.{is_complete_in, tag_type}
use Rattle.pv_tree.specs.Syntax.{DeclarationTree, Function as FunctionTree, Declaration, InitDeclarator, MemberDeclaration, Enumerator, Parameter, TypeName, DeclaratorTree, Tree, OfExpression, OfDeclaration, OfDeclarator, OfSpecifier, OfInitializer, OfStatement, Trees, NoTrees, Then, OptionalTree, Absent, Present}
use Rattle.pv_typed.specs.TypedUnits.{object_at}
use Rattle.pv_check.specs.State.{State, After, env, TagMeaning, CompositeTag, EnumerationTag, OpenEnumeration, give}
use Rattle.pv_check.specs.Scopes.{find, innermost_scope}
use Rattle.pv_typed.specs.Constants.{and_then}
use Rattle.pv_check.specs.Specifiers.{Specified, specification_of}
use Rattle.pv_check.specs.Derivations.{Steps, declared_name, derived_type}
use Rattle.pv_typed.specs.TypedTree.{is_function}
use Rattle.pv_check.specs.Tags.{composite_named, tag_alone}
use Rattle.pv_check.specs.Typing.{specifiers, steps}
use Rattle.pv_check.proofs.Leaving.{Leaves, specifiers_leave, steps_leave}
use Rattle.pv_unit.specs.Blocks.{Reached, block_storage, with_initializer, block_object, is_present, block_declarator, block_init_declarator, block_declarators, block_alone, block_declaration, reached_object}
use Rattle.pv_unit.specs.BlockParts.{block_declared}
use Rattle.pv_unit.specs.Declarations.{DeclaredType, only_tag, tags_alone, specified_by, type_declared}
use Rattle.pv_unit.specs.DeclarationParts.{declares_something, with_unsized, has_unsized}
use Rattle.pv_unit.specs.Redeclarations.{new_object}
use Rattle.pv_unit.specs.Initializers.{Given}
use Rattle.pv_unit.specs.ValueRules.{typed_initializer, with_given}
use Rattle.pv_unit.proofs.GivenDepths.{initialized_leaves}
use Rattle.pv_unit.proofs.Values.{none_leaves, some_leaves, give_leaves, then_leaves, value_then}

-- states alone
abbrev KeepsDepth : ℕ → Option State → Type 0
KeepsDepth n None = Unit {0}
KeepsDepth n (Some s) = length s.scopes ≡ n

state_then : {A : Type 0} (n : ℕ) (o : Option State) (x : A) → KeepsDepth n o → Leaves n (and_then o (give (Some x)))
state_then n None x h = none_leaves n
state_then n (Some s) x h = some_leaves n x s h

-- ---- declarations in blocks

specified_leaves : (specs : Trees) (n : ℕ) (s : State) → length s.scopes ≡ n → Leaves n (specified_by specs s)
specified_leaves specs n s h = then_leaves n (specifiers specs s) (λ a. give (specification_of a.value) a.state) (specifiers_leave specs n s h) (λ a k. give_leaves n (specification_of a.value) a.state k)

abbrev made : Bool → Ty → After Steps → Option (After DeclaredType)
made unsized t a = give (and_then (derived_type unsized (env a.state) a.value.list t) (with_unsized (has_unsized a.value.list))) a.state

declared_leaves : (unsized : Bool) (t : Ty) (d : DeclaratorTree) (n : ℕ) (s : State) → length s.scopes ≡ n → Leaves n (type_declared unsized t d s)
declared_leaves unsized t d n s h = then_leaves n (steps d s) (made unsized t) (steps_leave d n s h) (λ a k. give_leaves n (and_then (derived_type unsized (env a.state) a.value.list t) (with_unsized (has_unsized a.value.list))) a.state k)

object_depth : (n name line : ℕ) (t : Ty) (lasting : Bool) (s : State) → length s.scopes ≡ n → length (new_object name line t lasting s).scopes ≡ n
object_depth n name line t lasting s h = length-set s.scopes (length s.scopes - 1) _ ∙ h

given_depth : (n o : ℕ) (c : Option (After Given)) → Leaves n c → KeepsDepth n (and_then c (λ f. if is_complete_in (env f.state) f.value.t then Some (with_given o f.value f.state) else None))
given_depth n o None h = tt
given_depth n o (Some f) h = here (is_complete_in (env f.state) f.value.t)
  where
    here : (b : Bool) → KeepsDepth n (if b then Some (with_given o f.value f.state) else None)
    here true = h.held f refl
    here false = tt

if_depth : (n : ℕ) (b : Bool) (s : State) → length s.scopes ≡ n → KeepsDepth n (if b then Some s else None)
if_depth n true s h = h
if_depth n false s h = tt

initializer_depth : (n : ℕ) (lasting : Bool) (o : ℕ) (i : OptionalTree) (s : State) → length s.scopes ≡ n → KeepsDepth n (with_initializer lasting o i s)
initializer_depth n lasting o Absent s h = if_depth n (is_complete_in (env s) (object_at s.unit o).t) s h
initializer_depth n lasting o (Present (OfInitializer i)) s h = given_depth n o (typed_initializer lasting (object_at s.unit o).t i s) (initialized_leaves lasting (object_at s.unit o).t i n s h)
initializer_depth n lasting o (Present (OfExpression x)) s h = tt
initializer_depth n lasting o (Present (OfDeclaration x)) s h = tt
initializer_depth n lasting o (Present (OfDeclarator x)) s h = tt
initializer_depth n lasting o (Present (OfSpecifier x)) s h = tt
initializer_depth n lasting o (Present (OfStatement x)) s h = tt

not_depth : (n : ℕ) (b : Bool) (o : Option State) → KeepsDepth n o → KeepsDepth n (if b then None else o)
not_depth n true o h = tt
not_depth n false o h = h

block_object_depth : (n : ℕ) (lasting : Bool) (t : Ty) (k : ℕ × ℕ) (i : OptionalTree) (s : State) → length s.scopes ≡ n → KeepsDepth n (block_object lasting t k i s)
block_object_depth n lasting t k i s h =
    not_depth n (is_some (find (innermost_scope s.scopes).names k.0)) (with_initializer lasting (length s.unit.objects) i (new_object k.0 k.1 t lasting s))
    (initializer_depth n lasting (length s.unit.objects) i (new_object k.0 k.1 t lasting s) (object_depth n k.0 k.1 t lasting s h))

not_leaves : {A : Type 0} (n : ℕ) (b : Bool) (o : Option (After A)) → Leaves n o → Leaves n (if b then None else o)
not_leaves n true o h = none_leaves n
not_leaves n false o h = h

abbrev object_behind : Bool → ℕ × ℕ → OptionalTree → List Reached → After DeclaredType → Option (After (List Reached))
object_behind lasting k i xs a =
    if is_function a.value.t then None
    else and_then (block_object lasting a.value.t k i a.state) (give (Some (xs ++ reached_object lasting (length a.state.unit.objects) k)))

declarator_leaves : (lasting : Bool) (t : Ty) (d : DeclaratorTree) (i : OptionalTree) (n : ℕ) (r : After (List Reached)) → length r.state.scopes ≡ n → Leaves n (block_declarator lasting t d i r)
declarator_leaves lasting t d i n r h =
    value_then n (declared_name d) _ (λ (k : ℕ × ℕ). then_leaves n (type_declared (is_present i) t d r.state) (object_behind lasting k i r.value) (declared_leaves (is_present i) t d n r.state h)
    (λ a j. not_leaves n (is_function a.value.t) (and_then (block_object lasting a.value.t k i a.state) (give (Some (r.value ++ reached_object lasting (length a.state.unit.objects) k))))
    (state_then n (block_object lasting a.value.t k i a.state) (r.value ++ reached_object lasting (length a.state.unit.objects) k) (block_object_depth n lasting a.value.t k i a.state j))))

init_leaves : (lasting : Bool) (t : Ty) (x : Tree) (n : ℕ) (r : After (List Reached)) → length r.state.scopes ≡ n → Leaves n (block_init_declarator lasting t x r)
init_leaves lasting t (OfDeclaration (InitDeclarator line d i)) n r h = declarator_leaves lasting t d i n r h
init_leaves lasting t (OfDeclaration (FunctionTree line specs d b)) n r h = none_leaves n
init_leaves lasting t (OfDeclaration (Declaration line specs ds)) n r h = none_leaves n
init_leaves lasting t (OfDeclaration (MemberDeclaration line specs ds)) n r h = none_leaves n
init_leaves lasting t (OfDeclaration (Enumerator line k v)) n r h = none_leaves n
init_leaves lasting t (OfDeclaration (Parameter line specs d)) n r h = none_leaves n
init_leaves lasting t (OfDeclaration (TypeName line specs d)) n r h = none_leaves n
init_leaves lasting t (OfExpression x) n r h = none_leaves n
init_leaves lasting t (OfDeclarator x) n r h = none_leaves n
init_leaves lasting t (OfSpecifier x) n r h = none_leaves n
init_leaves lasting t (OfInitializer x) n r h = none_leaves n
init_leaves lasting t (OfStatement x) n r h = none_leaves n

declarators_leave : (ds : Trees) (lasting : Bool) (t : Ty) (n : ℕ) (s : State) → length s.scopes ≡ n → Leaves n (block_declarators ds lasting t s)
declarators_leave NoTrees lasting t n s h = some_leaves n [] s h
declarators_leave (Then before x) lasting t n s h =
    then_leaves n (block_declarators before lasting t s) (block_init_declarator lasting t x) (declarators_leave before lasting t n s h) (λ a j. init_leaves lasting t x n a j)

composite_depth : (n : ℕ) (union : Bool) (k : ℕ) (m : Option TagMeaning) (s : State) → length s.scopes ≡ n → KeepsDepth n (and_then (composite_named union k m s) (λ (a : After Ty). Some a.state))
composite_depth n union k None s h = length-set s.scopes (length s.scopes - 1) _ ∙ h
composite_depth n union k (Some (CompositeTag u i)) s h = here (beq u union)
  where
    here : (b : Bool) → KeepsDepth n (and_then (if b then give (Some (tag_type u i)) s else None) (λ (a : After Ty). Some a.state))
    here true = h
    here false = tt
composite_depth n union k (Some EnumerationTag) s h = tt
composite_depth n union k (Some OpenEnumeration) s h = tt

tag_depth : (n : ℕ) (w : Word) (k : ℕ) (s : State) → length s.scopes ≡ n → KeepsDepth n (tag_alone w k s)
tag_depth n word.Struct k s h = composite_depth n false k (find (innermost_scope s.scopes).tags k) s h
tag_depth n word.Union k s h = composite_depth n true k (find (innermost_scope s.scopes).tags k) s h
tag_depth n _ k s h = tt

tags_leave : (specs : Trees) (s : State) (n : ℕ) (a : After Specified) → length a.state.scopes ≡ n → Leaves {A = List Reached} n (and_then (tags_alone specs s a) (λ (b : After Specified). give (Some []) b.state))
tags_leave specs s n a h = here (declares_something specs s a.state)
  where
    here : (b : Bool) → Leaves {A = List Reached} n (and_then (if b then Some a else None) (λ (c : After Specified). give (Some []) c.state))
    here true = some_leaves n [] a.state h
    here false = none_leaves n

alone_leaves : (tag : Option (Word × ℕ)) (specs : Trees) (n : ℕ) (s : State) → length s.scopes ≡ n → Leaves n (block_alone tag specs s)
alone_leaves (Some (w, k)) specs n s h = state_then n (tag_alone w k s) [] (tag_depth n w k s h)
alone_leaves None specs n s h =
    then_leaves n (specified_by specs s) _ (specified_leaves specs n s h) (λ a j. value_then n (block_storage a.value.storage) _ (λ (lasting : Bool). tags_leave specs s n a j))

behind_leaves : (specs ds : Trees) (n : ℕ) (s : State) → length s.scopes ≡ n → Leaves n (block_declared specs ds s)
behind_leaves specs ds n s h =
    then_leaves n (specified_by specs s) _ (specified_leaves specs n s h) (λ a j. value_then n (block_storage a.value.storage) _ (λ (lasting : Bool). declarators_leave ds lasting a.value.t n a.state j))

pub declaration_leaves : (d : DeclarationTree) (n : ℕ) (s : State) → length s.scopes ≡ n → Leaves n (block_declaration d s)
declaration_leaves (Declaration line specs NoTrees) n s h = alone_leaves (only_tag specs) specs n s h
declaration_leaves (Declaration line specs (Then before x)) n s h = behind_leaves specs (Then before x) n s h
declaration_leaves (FunctionTree line specs d b) n s h = none_leaves n
declaration_leaves (InitDeclarator line d i) n s h = none_leaves n
declaration_leaves (MemberDeclaration line specs ds) n s h = none_leaves n
declaration_leaves (Enumerator line k v) n s h = none_leaves n
declaration_leaves (Parameter line specs d) n s h = none_leaves n
declaration_leaves (TypeName line specs d) n s h = none_leaves n
