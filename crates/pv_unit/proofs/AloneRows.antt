-- Declarations without declarators.
use Rattle.std.proofs.Common.{◌≡◌, ℕ, Bool, true, false, List, [], ◌∷◌, ◌<◌, length, Option, Some, None, refl, sym, ◌∙◌, ap, arith}
use Rattle.std.specs.Prelude.{if◌then◌else◌, ◌||◌, nat_lt}
use Rattle.std.specs.List.{fold}
use Rattle.pv_tree.specs.declared.nodes.NodeId.{NodeId}
use Rattle.pv_tree.specs.Syntax.{Tree, Trees, NoTrees, Then, Declaration}
use Rattle.pv_tree.specs.Tables.{Forest, tree_at, trees_of}
use Rattle.pv_typed.specs.Tables.{Stored}
use Rattle.pv_check.specs.Raw.{Raw}
use Rattle.pv_check.specs.Open.{state_of}
use Rattle.pv_check.specs.Specifiers.{Specified as WhatIsSpecified}
use Rattle.pv_check.specs.State.{After}
use Rattle.pv_check.specs.Scopes.{innermost_scope}
use Rattle.pv_typed.specs.Constants.{and_then}
use Rattle.pv_unit.specs.declared.entities.Outer.{Outer}
use Rattle.pv_unit.specs.Redeclarations.{UnitState}
use Rattle.pv_unit.specs.Declarations.{specified_by, tags_alone, bound_in, has_list, file_alone, file_declaration}
use Rattle.pv_unit.specs.DeclarationParts.{file_declared}
use Rattle.pv_unit.specs.Outside.{unit_state, unit_if}

abbrev with_state : UnitState → After WhatIsSpecified → Option UnitState
with_state u b = Some (record u { state = b.state })

alone_if : (texts : List (List ℕ)) (b : Stored) (t : Raw) (o : Outer) (u : UnitState) (x : WhatIsSpecified) (r : Bool) → u.entities ≡ o.entities → u.unsized_typedef ≡ o.unsized_typedef
    → unit_if texts t b o r ≡ and_then (if r then Some (record { value = x; state = state_of texts false t b }) else None) (with_state u)
alone_if texts b t o u x false e f = refl
alone_if texts b t o u x true e f =
    ap (λ es. Some (record { state = state_of texts false t b; entities = es; unsized_typedef = o.unsized_typedef })) (sym e)
    ∙ ap (λ c. Some (record { state = state_of texts false t b; entities = u.entities; unsized_typedef = c })) (sym f)

pub file_alone_done : (texts : List (List ℕ)) (specs : Trees) (a b : Stored) (s t : Raw) (o : Outer) (k : ℕ) (r : Bool) (x : WhatIsSpecified)
    → Some (record { value = x; state = state_of texts false t b }) ≡ specified_by specs (state_of texts false s a)
    → k ≡ bound_in (innermost_scope (state_of texts false s a).scopes)
    → r ≡ (nat_lt k (bound_in (innermost_scope (state_of texts false t b).scopes)) || has_list specs)
    → unit_if texts t b o r ≡ file_alone None specs (unit_state texts s a o)
file_alone_done texts specs a b s t o k r x first before whether =
    let u = unit_state texts s a o in
    let after : After WhatIsSpecified = record { value = x; state = state_of texts false t b } in
    alone_if texts b t o u x r refl refl
    ∙ ap (λ (c : Bool). and_then (if c then Some after else None) (with_state u)) (whether ∙ ap (λ j. nat_lt j (bound_in (innermost_scope (state_of texts false t b).scopes)) || has_list specs) before)
    ∙ ap (λ (q : Option (After WhatIsSpecified)). and_then q (λ y. and_then (tags_alone specs u.state y) (with_state u))) first

-- ---- with declarators

some_declared : (line : ℕ) (specs : Trees) (f : Forest) (before : Trees) (x : Tree) (ns : List NodeId) (u : UnitState)
    → file_declared specs (fold (λ b n. Then b (tree_at f n)) (Then before x) ns) u ≡ file_declaration (Declaration line specs (fold (λ b n. Then b (tree_at f n)) (Then before x) ns)) u
some_declared line specs f before x [] u = refl
some_declared line specs f before x (n ∷ ns) u = some_declared line specs f (Then before x) (tree_at f n) ns u

pub declared_is : (line : ℕ) (specs : Trees) (f : Forest) (ns : List NodeId) (u : UnitState) → 0 < length ns → file_declared specs (trees_of f ns) u ≡ file_declaration (Declaration line specs (trees_of f ns)) u
declared_is line specs f [] u h = absurd (omega arith)
declared_is line specs f (n ∷ ns) u h = some_declared line specs f NoTrees (tree_at f n) ns u
