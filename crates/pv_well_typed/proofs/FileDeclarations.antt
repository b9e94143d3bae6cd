-- Declarations at file scope (C17 6.7, 6.9): what each does to the unit.
use Rattle.std.proofs.Common.{◌≡◌, ℕ, Bool, true, false, Option, Some, None, [], refl, ap, subst}
use Rattle.std.specs.Prelude.{if◌then◌else◌}
use Rattle.pv_token.specs.declared.words.Word.{Word}
use Rattle.pv_token.specs.declared.words.Word.TheVariants as word
use Rattle.pv_tree.specs.Syntax.{DeclarationTree, Function as FunctionTree, Declaration, InitDeclarator, MemberDeclaration, Enumerator, Parameter, TypeName, DeclaratorTree, InitializerTree, Tree, OfExpression, OfDeclaration, OfDeclarator, OfSpecifier, OfInitializer, OfStatement, Trees, NoTrees, Then, OptionalTree, Absent, Present}
use Rattle.pv_types.specs.Ty.{Ty}
use Rattle.pv_typed.specs.TypedUnits.{WholeUnit}
use Rattle.pv_check.specs.Derivations.{declared_name, derived_type}
use Rattle.pv_typed.specs.TypedTree.{is_function}
use Rattle.pv_check.specs.Specifiers.{Specified, specification_of}
use Rattle.pv_check.specs.State.{State, After, give, env}
use Rattle.pv_check.specs.Scopes.{innermost_scope, find}
use Rattle.pv_typed.specs.Constants.{and_then}
use Rattle.pv_check.specs.Tags.{composite_named, tag_alone}
use Rattle.pv_check.specs.Typing.{specifiers, steps}
use Rattle.pv_check.specs.declared.specifiers.Storage.{Storage}
use Rattle.pv_check.specs.declared.specifiers.Storage.TheVariants as storage
use Rattle.pv_unit.specs.Declarations.{DeclaredType, only_tag, tags_alone, specified_by, type_declared, typedef_entity, plain_entity, given_entity, variable_entity, entity_declared, object_initialized, file_declarator, file_init_declarator, file_declarators, file_alone, file_declaration}
use Rattle.pv_unit.specs.DeclarationParts.{declares_something, with_unsized, has_unsized, plain_function, plain_object, file_declared}
use Rattle.pv_unit.specs.Redeclarations.{UnitState, object_declared}
use Rattle.pv_guards.specs.Typed.{AreFixed}
use Rattle.pv_well_typed.proofs.SourceCharacters.{InitializerCharacters, OptionalCharacters, TreeCharacters, TreesCharacters, DeclarationCharacters}
use Rattle.pv_well_typed.specs.Later.{IsFinished, Later}
use Rattle.pv_well_typed.specs.Proper.{IsProper}
use Rattle.pv_well_typed.specs.ProperStates.{IsProperState}
use Rattle.pv_well_typed.proofs.Operands.{some-same}
use Rattle.pv_well_typed.proofs.Changes.{inner-tag}
use Rattle.pv_well_typed.proofs.Moving.{HasMade, Moves}
use Rattle.pv_well_typed.proofs.DeclaredTypes.{from-some, specified-proper, derived-any}
use Rattle.pv_well_typed.proofs.TagRows.{composite-gives}
use Rattle.pv_well_typed.proofs.Walk.{U, specifiers-give, steps-give}
use Rattle.pv_well_typed.proofs.SignatureRows.{given-state}
use Rattle.pv_well_typed.proofs.FileScope.{IsUnit, Goes, lead-goes, then-goes, same-goes, state-goes}
use Rattle.pv_well_typed.proofs.FileObjects.{object-declared, plain-object-goes, initialized-goes, typedef-goes}
use Rattle.pv_well_typed.proofs.FileFunctions.{plain-function-goes}

-- what is typed in a state, and is so of it
pub record Stated (v : WholeUnit) (s t : State) (C : Type 0) : Type 0 where
  pub moved : Moves U v [] s t
  pub known : Later t v → IsProperState v s → IsProperState v t × HasMade v s t × C

module _ (v : WholeUnit) (done : IsFinished v) (fixed : AreFixed v) where
  -- 6.7p1: specifiers
  pub specified-known : (specs : Trees) (s : State) (a : After Specified) → specified_by specs s ≡ Some a → Stated v s a.state (IsProper v a.value.t)
  specified-known specs s a e =
      let b = from-some (specifiers specs s) (λ b. give (specification_of b.value) b.state) a e in
      let r = (specifiers-give v [] done specs s).held b.0 b.1 in
      let g = given-state (specification_of b.0.value) b.0.state a b.2 in
      subst (λ t. Stated v s t (IsProper v a.value.t)) g.1 (record { moved = r.0; known = λ l p. let z = r.1 l tt p in (z.0, z.2, specified-proper v b.0.value a.value z.1 g.0) })

  -- 6.7.6p4: a declarator
  pub type-known : (unsized : Bool) (t : Ty) (d : DeclaratorTree) (s : State) (a : After DeclaredType) → type_declared unsized t d s ≡ Some a → Stated v s a.state (IsProper v t → IsProper v a.value.t)
  type-known unsized t d s a e =
      let b = from-some (steps d s) (λ b. give (and_then (derived_type unsized (env b.state) b.value.list t) (with_unsized (has_unsized b.value.list))) b.state) a e in
      let r = (steps-give v [] done d s).held b.0 b.1 in
      let g = given-state (and_then (derived_type unsized (env b.0.state) b.0.value.list t) (with_unsized (has_unsized b.0.value.list))) b.0.state a b.2 in
      let c = from-some (derived_type unsized (env b.0.state) b.0.value.list t) (with_unsized (has_unsized b.0.value.list)) a.value g.0 in
      let same : c.0 ≡ a.value.t = ap (λ (x : DeclaredType). x.t) (some-same (record { t = c.0; unsized = has_unsized b.0.value.list }) a.value c.2) in
      subst (λ z. Stated v s z (IsProper v t → IsProper v a.value.t)) g.1 (record {
        moved = r.0;
        known = λ l p. let z = r.1 l tt p in (z.0, z.2, λ q. subst (IsProper v) same (derived-any v (env b.0.state) l.unit.layouts fixed unsized b.0.value.list t c.0 q c.1));
      })

  pub stated-goes : (B C : Type 0) (k : Option ℕ) (u : UnitState) (t : State) → IsUnit v k u → Stated v u.state t C → Goes B v k u (record u { state = t })
  stated-goes B C k u t i h = state-goes B v k u t i h.moved (λ b l p. let z = h.known l p in (z.0, z.1))

  as-unit : (B : Type 0) (k : Option ℕ) (u x w : UnitState) → Some x ≡ Some w → Goes B v k u x → Goes B v k u w
  as-unit B k u x w e h = subst (Goes B v k u) (some-same x w e) h

  -- ---- one declarator (6.7p1)

  plain-goes : (k : Option ℕ) (x : Storage) (t : Ty) (n : ℕ × ℕ) (unsized : Bool) (u w : UnitState) → IsUnit v k u → plain_entity x t n unsized u ≡ Some w → Goes (IsProper v t) v k u w
  plain-goes k x t n unsized u w i e = by (is_function t) refl e
    where
      by : (b : Bool) → is_function t ≡ b → (if b then plain_function t n unsized u else plain_object x t n unsized u) ≡ Some w → Goes (IsProper v t) v k u w
      by true f q = plain-function-goes v done k t n unsized u w i f q
      by false f q = plain-object-goes v done k x t n unsized u w i q

  given-goes : (k : Option ℕ) (t : Ty) (n : ℕ × ℕ) (i : InitializerTree) (u w : UnitState) → InitializerCharacters i → IsUnit v k u → given_entity t n i u ≡ Some w → Goes (IsProper v t) v k u w
  given-goes k t n i u w c h e = by (is_function t) e
    where
      by : (b : Bool) → (if b then None else and_then (object_declared n.0 n.1 t u) (object_initialized i)) ≡ Some w → Goes (IsProper v t) v k u w
      by true q = absurd cc
      by false q =
          let a = from-some (object_declared n.0 n.1 t u) (object_initialized i) w q in
          let o = object-declared v done k n.0 n.1 t u h a.0 a.1 in
          lead-goes (IsProper v t) U v k k u a.0.1 w o.goes (λ b l s. tt) (initialized-goes v done k i a.0 w c o.goes.unit o.declared a.2)

  variable-goes : (k : Option ℕ) (x : Storage) (t : Ty) (n : ℕ × ℕ) (unsized : Bool) (o : OptionalTree) (u w : UnitState) → OptionalCharacters o → IsUnit v k u → variable_entity x t n unsized o u ≡ Some w → Goes (IsProper v t) v k u w
  variable-goes k x t n unsized Absent u w c i e = plain-goes k x t n unsized u w i e
  variable-goes k x t n unsized (Present (OfInitializer y)) u w c i e = given-goes k t n y u w c i e
  variable-goes k x t n unsized (Present (OfExpression y)) u w c i e = absurd cc
  variable-goes k x t n unsized (Present (OfDeclaration y)) u w c i e = absurd cc
  variable-goes k x t n unsized (Present (OfDeclarator y)) u w c i e = absurd cc
  variable-goes k x t n unsized (Present (OfSpecifier y)) u w c i e = absurd cc
  variable-goes k x t n unsized (Present (OfStatement y)) u w c i e = absurd cc

  typedef-entity-goes : (k : Option ℕ) (t : Ty) (n : ℕ × ℕ) (unsized : Bool) (o : OptionalTree) (u w : UnitState) → IsUnit v k u → typedef_entity t n unsized o u ≡ Some w → Goes (IsProper v t) v k u w
  typedef-entity-goes k t n unsized Absent u w i e = typedef-goes v done k n.0 t unsized u w i e
  typedef-entity-goes k t n unsized (Present y) u w i e = absurd cc

  entity-goes : (k : Option ℕ) (x : Storage) (t : Ty) (n : ℕ × ℕ) (unsized : Bool) (o : OptionalTree) (u w : UnitState) → OptionalCharacters o → IsUnit v k u → entity_declared x t n unsized o u ≡ Some w → Goes (IsProper v t) v k u w
  entity-goes k storage.Typedef t n unsized o u w c i e = typedef-entity-goes k t n unsized o u w i e
  entity-goes k storage.Plain t n unsized o u w c i e = variable-goes k storage.Plain t n unsized o u w c i e
  entity-goes k storage.Static t n unsized o u w c i e = variable-goes k storage.Static t n unsized o u w c i e
  entity-goes k storage.Extern t n unsized o u w c i e = variable-goes k storage.Extern t n unsized o u w c i e

  declarator-goes : (k : Option ℕ) (x : Specified) (d : DeclaratorTree) (o : OptionalTree) (u w : UnitState) → OptionalCharacters o → IsUnit v k u → file_declarator x d o u ≡ Some w → Goes (IsProper v x.t) v k u w
  declarator-goes k x d o u w c i e =
      let n = from-some (declared_name d) (λ n. and_then (type_declared true x.t d u.state) (λ a. entity_declared x.storage a.value.t n a.value.unsized o (record u { state = a.state }))) w e in
      let a = from-some (type_declared true x.t d u.state) (λ a. entity_declared x.storage a.value.t n.0 a.value.unsized o (record u { state = a.state })) w n.2 in
      let h = type-known true x.t d u.state a.0 a.1 in
      let g = stated-goes (IsProper v x.t) (IsProper v x.t → IsProper v a.0.value.t) k u a.0.state i h in
      lead-goes (IsProper v x.t) (IsProper v a.0.value.t) v k k u (record u { state = a.0.state }) w g (λ b l s. (h.known l s.proper).2 b)
      (entity-goes k x.storage a.0.value.t n.0 a.0.value.unsized o (record u { state = a.0.state }) w c g.unit a.2)

  init-goes : (k : Option ℕ) (x : Specified) (t : Tree) (u w : UnitState) → TreeCharacters t → IsUnit v k u → file_init_declarator x t u ≡ Some w → Goes (IsProper v x.t) v k u w
  init-goes k x (OfDeclaration (InitDeclarator line d o)) u w c i e = declarator-goes k x d o u w c i e
  init-goes k x (OfDeclaration (FunctionTree line specs d b)) u w c i e = absurd cc
  init-goes k x (OfDeclaration (Declaration line specs ds)) u w c i e = absurd cc
  init-goes k x (OfDeclaration (MemberDeclaration line specs ds)) u w c i e = absurd cc
  init-goes k x (OfDeclaration (Enumerator line n y)) u w c i e = absurd cc
  init-goes k x (OfDeclaration (Parameter line specs d)) u w c i e = absurd cc
  init-goes k x (OfDeclaration (TypeName line specs d)) u w c i e = absurd cc
  init-goes k x (OfExpression y) u w c i e = absurd cc
  init-goes k x (OfDeclarator y) u w c i e = absurd cc
  init-goes k x (OfSpecifier y) u w c i e = absurd cc
  init-goes k x (OfInitializer y) u w c i e = absurd cc
  init-goes k x (OfStatement y) u w c i e = absurd cc

  declarators-go : (k : Option ℕ) (ds : Trees) (x : Specified) (u w : UnitState) → TreesCharacters ds → IsUnit v k u → file_declarators ds x u ≡ Some w → Goes (IsProper v x.t) v k u w
  declarators-go k NoTrees x u w c i e = as-unit (IsProper v x.t) k u u w e (same-goes (IsProper v x.t) v k u i)
  declarators-go k (Then before t) x u w c i e =
      let a = from-some (file_declarators before x u) (file_init_declarator x t) w e in
      let g = declarators-go k before x u a.0 c.0 i a.1 in
      then-goes (IsProper v x.t) v k u a.0 w g (init-goes k x t a.0 w c.1 g.unit a.2)

  -- ---- declarations (6.7p1, 6.7.2.3p7)

  declared-goes : (k : Option ℕ) (specs ds : Trees) (u w : UnitState) → TreesCharacters ds → IsUnit v k u → file_declared specs ds u ≡ Some w → Goes U v k u w
  declared-goes k specs ds u w c i e =
      let a = from-some (specified_by specs u.state) (λ a. file_declarators ds a.value (record u { state = a.state })) w e in
      let h = specified-known specs u.state a.0 a.1 in
      let g = stated-goes U (IsProper v a.0.value.t) k u a.0.state i h in
      lead-goes U (IsProper v a.0.value.t) v k k u (record u { state = a.0.state }) w g (λ b l s. (h.known l s.proper).2) (declarators-go k ds a.0.value (record u { state = a.0.state }) w c g.unit a.2)

  composite-known : (b : Bool) (n : ℕ) (s t : State) → and_then (composite_named b n (find (innermost_scope s.scopes).tags n) s) (λ a. Some a.state) ≡ Some t → Stated v s t U
  composite-known b n s t e =
      let a = from-some (composite_named b n (find (innermost_scope s.scopes).tags n) s) (λ a. Some a.state) t e in
      let r = (composite-gives U v [] U b n (find (innermost_scope s.scopes).tags n) s (λ g k q. inner-tag v s g n k q)).held a.0 a.1 in
      subst (λ z. Stated v s z U) (some-same a.0.state t a.2) (record { moved = r.0; known = λ l p. let z = r.1 l tt p in (z.0, z.2, tt) })

  tag-known : (w : Word) (n : ℕ) (s t : State) → tag_alone w n s ≡ Some t → Stated v s t U
  tag-known word.Struct n s t e = composite-known false n s t e
  tag-known word.Union n s t e = composite-known true n s t e
  tag-known _ n s t e = absurd cc

  alone-goes : (k : Option ℕ) (tag : Option (Word × ℕ)) (specs : Trees) (u w : UnitState) → IsUnit v k u → file_alone tag specs u ≡ Some w → Goes U v k u w
  alone-goes k (Some (x, n)) specs u w i e =
      let a = from-some (tag_alone x n u.state) (λ s. Some (record u { state = s })) w e in
      as-unit U k u (record u { state = a.0 }) w a.2 (stated-goes U U k u a.0 i (tag-known x n u.state a.0 a.1))
  alone-goes k None specs u w i e =
      let a = from-some (specified_by specs u.state) (λ a. and_then (tags_alone specs u.state a) (λ b. Some (record u { state = b.state }))) w e in
      let b = from-some (tags_alone specs u.state a.0) (λ b. Some (record u { state = b.state })) w a.2 in
      as-unit U k u (record u { state = b.0.state }) w b.2
      (subst (λ (z : After Specified). Goes U v k u (record u { state = z.state })) (same-tags specs u.state a.0 b.0 b.1) (stated-goes U (IsProper v a.0.value.t) k u a.0.state i (specified-known specs u.state a.0 a.1)))
    where
      same-tags : (specs : Trees) (s : State) (a b : After Specified) → tags_alone specs s a ≡ Some b → a ≡ b
      same-tags specs s a b e = by (declares_something specs s a.state) e
        where
          by : (c : Bool) → (if c then Some a else None) ≡ Some b → a ≡ b
          by true q = some-same a b q
          by false q = absurd cc

  -- 6.9p1: a declaration among the external declarations
  pub declaration-goes : (k : Option ℕ) (d : DeclarationTree) (u w : UnitState) → DeclarationCharacters d → IsUnit v k u → file_declaration d u ≡ Some w → Goes U v k u w
  declaration-goes k (Declaration line specs NoTrees) u w c i e = alone-goes k (only_tag specs) specs u w i e
  declaration-goes k (Declaration line specs (Then before x)) u w c i e = declared-goes k specs (Then before x) u w c i e
  declaration-goes k (FunctionTree line specs d b) u w c i e = absurd cc
  declaration-goes k (InitDeclarator line d o) u w c i e = absurd cc
  declaration-goes k (MemberDeclaration line specs ds) u w c i e = absurd cc
  declaration-goes k (Enumerator line n x) u w c i e = absurd cc
  declaration-goes k (Parameter line specs d) u w c i e = absurd cc
  declaration-goes k (TypeName line specs d) u w c i e = absurd cc
