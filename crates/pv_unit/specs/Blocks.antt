-- Declarations in blocks (C17 6.7, 6.2.4): automatic and static objects.
use Rattle.std.specs.Prelude.{ℕ, Bool, true, false, if◌then◌else◌, Some, None, is_some, List, [], ◌∷◌, ◌++◌, length}
use Rattle.std.specs.declared.option.Option.{Option}
use Rattle.pv_token.specs.declared.words.Word.{Word}
use Rattle.pv_types.specs.Ty.{Ty}
use Rattle.pv_types.specs.Layouts.{is_complete_in}
use Rattle.pv_tree.specs.Syntax.{DeclarationTree, Declaration, InitDeclarator, DeclaratorTree, Tree, OfDeclaration, OfInitializer, Trees, NoTrees, Then, OptionalTree, Absent, Present}
use Rattle.pv_typed.specs.TypedUnits.{object_at}
use Rattle.pv_typed.specs.TypedTree.{is_function}
use Rattle.pv_check.specs.State.{State, After, ◌>>=◌, give, env}
use Rattle.pv_check.specs.Scopes.{innermost_scope, find}
use Rattle.pv_check.specs.declared.specifiers.Storage.{Storage}
use Rattle.pv_check.specs.declared.specifiers.Storage.TheVariants as storage
use Rattle.pv_check.specs.Tags.{tag_alone}
use Rattle.pv_check.specs.Derivations.{declared_name}
use Rattle.pv_unit.specs.Redeclarations.{new_object}
use Rattle.pv_unit.specs.Declarations.{specified_by, only_tag, tags_alone, type_declared}
use Rattle.pv_unit.specs.ValueRules.{typed_initializer, with_given}

-- 6.2.4p5, p6: an automatic object that a declaration reaches, and the line of its name
pub record Reached : Type 0 where
  pub object : ℕ
  pub line : ℕ

-- 6.7.1p1, our choice: what a block's declarations may have: no `typedef` and no `extern` below file scope
abbrev pub block_storage : Storage → Option Bool
block_storage storage.Plain = Some false
block_storage storage.Static = Some true
block_storage _ = None

-- 6.7p7: a complete type at the end of the declarator, or of the initializer where there is one
abbrev pub with_initializer : Bool → ℕ → OptionalTree → State → Option State
with_initializer lasting o Absent s = if is_complete_in (env s) (object_at s.unit o).t then Some s else None
with_initializer lasting o (Present (OfInitializer i)) s =
    typed_initializer lasting (object_at s.unit o).t i s >>= λ f. if is_complete_in (env f.state) f.value.t then Some (with_given o f.value f.state) else None
with_initializer lasting o _ s = None

-- 6.7p3: the name is new in the block; 6.2.1p7: it begins behind its declarator
abbrev pub block_object : Bool → Ty → ℕ × ℕ → OptionalTree → State → Option State
block_object lasting t n i s =
    if is_some (find (innermost_scope s.scopes).names n.0) then None
    else with_initializer lasting (length s.unit.objects) i (new_object n.0 n.1 t lasting s)

-- 6.7.9: there is an initializer
abbrev pub is_present : OptionalTree → Bool
is_present Absent = false
is_present (Present t) = true

-- 6.2.4p3: a static object is made before the program starts
abbrev pub reached_object : Bool → ℕ → ℕ × ℕ → List Reached
reached_object true o n = []
reached_object false o n = record { object = o; line = n.1 } ∷ []

-- 6.7p1: one declarator of a block, which declares no function (our choice)
abbrev pub block_declarator : Bool → Ty → DeclaratorTree → OptionalTree → After (List Reached) → Option (After (List Reached))
block_declarator lasting t d i r = do
  n ← declared_name d
  a ← type_declared (is_present i) t d r.state
  if is_function a.value.t then None
      else block_object lasting a.value.t n i a.state >>= give (Some (r.value ++ reached_object lasting (length a.state.unit.objects) n))

-- 6.7p1: one init-declarator of a block
abbrev pub block_init_declarator : Bool → Ty → Tree → After (List Reached) → Option (After (List Reached))
block_init_declarator lasting t (OfDeclaration (InitDeclarator line d i)) r = block_declarator lasting t d i r
block_init_declarator lasting t _ r = None

-- 6.7p1: the init-declarators of a declaration, from left to right
abbrev pub block_declarators : Trees → Bool → Ty → State → Option (After (List Reached))
block_declarators NoTrees lasting t s = give (Some []) s
block_declarators (Then before x) lasting t s = block_declarators before lasting t s >>= block_init_declarator lasting t x

-- 6.7.2.3p7, 6.7p2: a tag specifier alone, without declarators, or other specifiers
abbrev pub block_alone : Option (Word × ℕ) → Trees → State → Option (After (List Reached))
block_alone (Some (w, n)) specs s = tag_alone w n s >>= give (Some [])
block_alone None specs s = do
  a ← specified_by specs s
  lasting ← block_storage a.value.storage
  b ← tags_alone specs s a
  give (Some []) b.state

-- 6.8.2p1, 6.7p1: a declaration in a block, and the automatic objects that it reaches: specifiers alone, or with declarators
-- worked: block_declarations (proofs/WorkedDeclarations)
abbrev pub block_declaration : DeclarationTree → State → Option (After (List Reached))
block_declaration (Declaration line specs NoTrees) s = block_alone (only_tag specs) specs s
block_declaration (Declaration line specs ds) s = do
  a ← specified_by specs s
  lasting ← block_storage a.value.storage
  block_declarators ds lasting a.value.t a.state
block_declaration _ s = None
