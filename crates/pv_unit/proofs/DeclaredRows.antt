-- Specifiers and declarators of declarations: what the code's answers come to.
use Rattle.std.proofs.Common.{◌≡◌, ◌≢◌, ℕ, zero, suc, ◌+◌, ◌<◌, ◌≤◌, Bool, true, false, List, [], ◌∷◌, Option, Some, None, length, take, drop, get_or, refl, sym, ◌∙◌, ap, arith}
use Rattle.std.specs.Prelude.{◌||◌, is_some}
use Rattle.std.proofs.lemmas.List.{length-map}
use Rattle.std.specs.List.{fold}
use Rattle.pv_tree.specs.declared.nodes.NodeId.{NodeId}
use Rattle.pv_tree.specs.Syntax.{DeclaratorTree, Tree, OfExpression, OfDeclaration, OfDeclarator, OfSpecifier, OfInitializer, OfStatement, Trees, NoTrees, Then}
use Rattle.pv_tree.specs.Tables.{Forest, tree_at, trees_of, specifier_at, as_specifier, is_specifier}
use Rattle.pv_types.specs.declared.terms.TypeId.{TypeId}
use Rattle.pv_types.specs.Ty.{Ty}
use Rattle.pv_types.specs.Known.{Known, tree, env}
use Rattle.pv_typed.specs.Tables.{Stored, whole_unit}
use Rattle.pv_check.specs.declared.declarators.Steps.{Steps}
use Rattle.pv_check.specs.declared.specifiers.Seen.{Seen}
use Rattle.pv_check.specs.declared.specifiers.Specified.{Specified}
use Rattle.pv_check.specs.Specifiers.{Seen as WhatIsSeen, Specified as WhatIsSpecified, specification_of}
use Rattle.pv_check.specs.Declarators.{steps_shown}
use Rattle.pv_check.specs.Derivations.{derived_type, Steps as WholeSteps}
use Rattle.pv_check.specs.Growing.{type_if}
use Rattle.pv_check.specs.Seeing.{seen_in, specified_if}
use Rattle.pv_check.specs.Stepping.{step_in, steps_in}
use Rattle.pv_check.specs.declared.derivations.Step.{Step}
use Rattle.pv_check.specs.declared.derivations.Step.TheVariants as step
use Rattle.pv_check.specs.State as state
use Rattle.pv_check.specs.State.{State, After, Scope, Meaning, TagMeaning, give}
use Rattle.pv_check.specs.Scopes.{innermost_scope}
use Rattle.pv_typed.specs.Constants.{and_then}
use Rattle.pv_check.specs.Raw.{Raw, raw_innermost, name_shown, tag_shown, scope_shown}
use Rattle.pv_check.specs.Typing.{specifiers, steps}
use Rattle.pv_check.specs.Open.{state_of, after_type, IsOpen, Goes}
use Rattle.pv_check.proofs.Opening.{state_stays}
use Rattle.pv_check.proofs.Showing.{innermost_shown}
use Rattle.pv_unit.specs.declared.declarators.DeclaredType.{DeclaredType}
use Rattle.pv_unit.specs.Declarations.{DeclaredType as WholeType, is_unsized, type_declared, specified_by, is_listed, has_list, only_tag, bound_in}
use Rattle.pv_unit.specs.DeclarationParts.{with_unsized, has_unsized}
use Rattle.pv_unit.specs.DeclaredIn.{after_specified, after_declared, state_on}
use Rattle.pv_unit.proofs.Lists.{split_from, take_from, take_all}

-- ---- specifiers

specified_gives : (texts : List (List ℕ)) (s : Raw) (m : Stored) (r : Option Specified) → after_specified texts s m r ≡ give (specified_if m.known r) (state_of texts false s m)
specified_gives texts s m None = refl
specified_gives texts s m (Some x) = refl

abbrev take_together : After WhatIsSeen → Option (After WhatIsSpecified)
take_together a = give (specification_of a.value) a.state

pub specified_done : (texts : List (List ℕ)) (specs : Trees) (start : State) (a b : Stored) (s : Raw) (seen : Seen) (r : Option Specified) → IsOpen a s → Goes a b → whole_unit b ≡ whole_unit a
    → Some (record { value = seen_in a.known seen; state = state_of texts false s a }) ≡ specifiers specs start → specified_if b.known r ≡ specification_of (seen_in a.known seen)
    → after_specified texts s b r ≡ specified_by specs start
specified_done texts specs start a b s seen r h g same first second =
    specified_gives texts s b r
    ∙ ap (λ o. give o (state_of texts false s b)) second
    ∙ ap (give (specification_of (seen_in a.known seen))) (state_stays texts false a b s h g same)
    ∙ ap (λ o. and_then o take_together) first

-- ---- the type of a declarator

abbrev made : Bool → Ty → After WholeSteps → Option (After WholeType)
made unsized t a = give (and_then (derived_type unsized (state.env a.state) a.value.list t) (with_unsized (has_unsized a.value.list))) a.state

abbrev declared_of : Bool → Option TypeId → Option DeclaredType
declared_of b None = None
declared_of b (Some t) = Some (record { t = t; without_size = b })

declared_gives : (texts : List (List ℕ)) (s : Raw) (m : Stored) (b : Bool) (r : Option TypeId)
    → after_declared texts s m (declared_of b r) ≡ give (and_then (type_if m.known r) (with_unsized b)) (state_of texts false s m)
declared_gives texts s m b None = refl
declared_gives texts s m b (Some t) = refl

pub declared_done : (texts : List (List ℕ)) (unsized b : Bool) (base : ℕ) (d : DeclaratorTree) (start : State) (a e f : Stored) (z : Raw) (x : Steps) (r : Option TypeId)
    → base < length a.known.terms → Goes a e → IsOpen e z → Goes e f → whole_unit f ≡ whole_unit e
    → Some (record { value = steps_shown e.known x; state = state_of texts false z e }) ≡ steps d start
    → type_if f.known r ≡ derived_type unsized (env e.known) (steps_in e.known x.list.items) (tree e.known base)
    → has_unsized (steps_in e.known x.list.items) ≡ b
    → after_declared texts z f (declared_of b r) ≡ type_declared unsized (tree a.known base) d start
declared_done texts unsized b base d start a e f z x r here g opened l still first second third =
    declared_gives texts z f b r
    ∙ ap (λ o. give (and_then o (with_unsized b)) (state_of texts false z f)) second
    ∙ ap (give (and_then (derived_type unsized (env e.known) (steps_in e.known x.list.items) (tree e.known base)) (with_unsized b))) (state_stays texts false e f z opened l still)
    ∙ ap (λ c. give (and_then (derived_type unsized (env e.known) (steps_in e.known x.list.items) (tree e.known base)) (with_unsized c)) (state_of texts false z e)) (sym third)
    ∙ ap (λ t. give (and_then (derived_type unsized (env e.known) (steps_in e.known x.list.items) t) (with_unsized (has_unsized (steps_in e.known x.list.items)))) (state_of texts false z e)) (g.grown.types base here)
    ∙ ap (λ o. and_then o (made unsized (tree a.known base))) first

pub declared_none : (texts : List (List ℕ)) (unsized b : Bool) (base : ℕ) (d : DeclaratorTree) (start : State) (a e f : Stored) (z : Raw) (x : Steps)
    → base < length a.known.terms → Goes a e → IsOpen e z → Goes e f → whole_unit f ≡ whole_unit e
    → Some (record { value = steps_shown e.known x; state = state_of texts false z e }) ≡ steps d start
    → None ≡ derived_type unsized (env e.known) (steps_in e.known x.list.items) (tree e.known base)
    → None ≡ type_declared unsized (tree a.known base) d start
declared_none texts unsized b base d start a e f z x here g opened l still first second =
    declared_done texts unsized (has_unsized (steps_in e.known x.list.items)) base d start a e f z x None here g opened l still first second refl

-- ---- specifiers with lists

listed_behind : (before : Trees) (t : Tree) → has_list before ≡ true → has_list (Then before t) ≡ true
listed_behind before (OfSpecifier x) h = by (is_listed x) h
  where
    by : (b : Bool) → has_list before ≡ true → (b || has_list before) ≡ true
    by true h = refl
    by false h = h
listed_behind before (OfExpression x) h = h
listed_behind before (OfDeclaration x) h = h
listed_behind before (OfDeclarator x) h = h
listed_behind before (OfInitializer x) h = h
listed_behind before (OfStatement x) h = h

listed_more : (f : Forest) (t : Trees) (ns : List NodeId) → has_list t ≡ true → has_list (fold (λ b n. Then b (tree_at f n)) t ns) ≡ true
listed_more f t [] h = h
listed_more f t (n ∷ ns) h = listed_more f (Then t (tree_at f n)) ns (listed_behind t (tree_at f n) h)

specifier_is : (t : Tree) → is_specifier t ≡ true → t ≡ OfSpecifier (as_specifier t)
specifier_is (OfSpecifier x) h = refl
specifier_is (OfExpression x) h = absurd cc
specifier_is (OfDeclaration x) h = absurd cc
specifier_is (OfDeclarator x) h = absurd cc
specifier_is (OfInitializer x) h = absurd cc
specifier_is (OfStatement x) h = absurd cc

listed_here : (before : Trees) (t : Tree) → is_specifier t ≡ true → has_list (Then before t) ≡ (is_listed (as_specifier t) || has_list before)
listed_here before t h = ap (λ x. has_list (Then before x)) (specifier_is t h)

pub listed_at : (f : Forest) (ns : List NodeId) (k : ℕ) (d : NodeId) → k < length ns → is_specifier (tree_at f (get_or ns k d)) ≡ true → is_listed (specifier_at f (get_or ns k d)) ≡ true
    → true ≡ has_list (trees_of f ns)
listed_at f ns k d lt kind h =
    let before = trees_of f (take k ns) in
    let one = tree_at f (get_or ns k d) in
    let here = listed_here before one kind ∙ ap (λ b. b || has_list before) h in
    sym (ap has_list (split_from f NoTrees ns k d lt) ∙ listed_more f (Then before one) (drop (suc k) ns) here)

pub listed_next : (f : Forest) (ns : List NodeId) (k : ℕ) (d : NodeId) → k < length ns → is_specifier (tree_at f (get_or ns k d)) ≡ true → is_listed (specifier_at f (get_or ns k d)) ≡ false
    → has_list (trees_of f (take k ns)) ≡ false → has_list (trees_of f (take (k + 1) ns)) ≡ false
listed_next f ns k d lt kind other none =
    let next : suc k ≡ k + 1 = omega arith in
    ap (λ j. has_list (trees_of f (take j ns))) (sym next)
    ∙ ap has_list (take_from f NoTrees ns k d lt)
    ∙ listed_here (trees_of f (take k ns)) (tree_at f (get_or ns k d)) kind
    ∙ ap (λ b. b || has_list (trees_of f (take k ns))) other ∙ none

-- ---- a tag specifier and nothing else

more_tags : (f : Forest) (before : Trees) (x y : Tree) (ns : List NodeId) → None ≡ only_tag (fold (λ b n. Then b (tree_at f n)) (Then (Then before x) y) ns)
more_tags f before x y [] = refl
more_tags f before x y (n ∷ ns) = more_tags f (Then before x) y (tree_at f n) ns

pub no_tag : (f : Forest) (ns : List NodeId) → length ns ≢ 1 → None ≡ only_tag (trees_of f ns)
no_tag f [] h = refl
no_tag f (n ∷ []) h = absurd (h refl)
no_tag f (n ∷ k ∷ ns) h = more_tags f NoTrees (tree_at f n) (tree_at f k) ns

-- ---- how many names and tags the innermost scope has

pub bound_shown : (texts : List (List ℕ)) (u : Bool) (m : Stored) (s : Raw) → IsOpen m s
    → length (raw_innermost s.scopes).names + length (raw_innermost s.scopes).tags ≡ bound_in (innermost_scope (state_of texts u s m).scopes)
bound_shown texts u m s h =
    let x = raw_innermost s.scopes in
    sym (ap bound_in (innermost_shown m.known s.scopes h.some)
    ∙ ap (λ k. k + length (scope_shown m.known x).tags) (length-map x.names (name_shown m.known))
    ∙ ap (λ k. length x.names + k) (length-map x.tags (tag_shown m.known)))

-- ---- an array of no size among steps

abbrev pub no_step : Step
no_step = step.Pointer false

unsized_from : (m : Known) (xs : List Step) (i : ℕ) → i < length xs → has_unsized (steps_in m (drop i xs)) ≡ (is_unsized (step_in m (get_or xs i no_step)) || has_unsized (steps_in m (drop (suc i) xs)))
unsized_from m [] i lt = absurd (omega arith)
unsized_from m (x ∷ xs) zero lt = refl
unsized_from m (x ∷ xs) (suc i) lt = unsized_from m xs i (omega arith)

pub unsized_at : (m : Known) (xs : List Step) (i : ℕ) → i < length xs → is_unsized (step_in m (get_or xs i no_step)) ≡ true → has_unsized (steps_in m (drop i xs)) ≡ true
unsized_at m xs i lt h = unsized_from m xs i lt ∙ ap (λ b. b || has_unsized (steps_in m (drop (suc i) xs))) h

pub unsized_next : (m : Known) (xs : List Step) (i : ℕ) → i < length xs → is_unsized (step_in m (get_or xs i no_step)) ≡ false → has_unsized (steps_in m (drop (i + 1) xs)) ≡ has_unsized (steps_in m (drop i xs))
unsized_next m xs i lt h =
    let next : suc i ≡ i + 1 = omega arith in
    ap (λ k. has_unsized (steps_in m (drop k xs))) (sym next) ∙ sym (unsized_from m xs i lt ∙ ap (λ b. b || has_unsized (steps_in m (drop (suc i) xs))) h)

-- ---- a tag alone

pub state_of_type : (texts : List (List ℕ)) (s : Raw) (m : Stored) (r : Option TypeId) → state_on texts s m (is_some r) ≡ and_then (after_type texts false s m r) (λ a. Some a.state)
state_of_type texts s m None = refl
state_of_type texts s m (Some t) = refl
