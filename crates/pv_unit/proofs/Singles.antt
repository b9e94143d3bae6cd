-- One expression that initializes a part.
use Rattle.std.proofs.Common.{◌≡◌, ℕ, ◌<◌, ◌≤◌, Bool, true, false, List, [], ◌∷◌, ◌++◌, Some, None, length, if◌then◌else◌, option_map, option_and_then, Result, Ok, Err, IfOk, refl, sym, ◌∙◌, ap, arith}
use Rattle.pv_tree.specs.declared.nodes.NodeId.{NodeId}
use Rattle.pv_tree.specs.Syntax.{ExpressionTree, Tree, OfExpression, OfDeclaration, OfDeclarator, OfSpecifier, OfInitializer, OfStatement}
use Rattle.pv_tree.specs.Lines.{expression_line}
use Rattle.pv_tree.specs.TreeLines.{tree_line}
use Rattle.pv_tree.specs.Tables.{as_expression, is_expression}
use Rattle.pv_types.specs.declared.terms.TypeId.{TypeId}
use Rattle.pv_types.specs.Known.{tree}
use Rattle.pv_types.specs.Formed.{completions}
use Rattle.pv_types.specs.Layouts.{Part}
use Rattle.pv_types.specs.Ty.{Ty}
use Rattle.pv_types.specs.Sorts.{bare_type}
use Rattle.pv_typed.specs.declared.entries.Init.{Init}
use Rattle.pv_typed.specs.declared.entries.InitValue.TheVariants as value
use Rattle.pv_typed.specs.Tables.{Stored, nodes, store_in}
use Rattle.pv_typed.specs.NodeTrees.{expression_at, IsExpression}
use Rattle.pv_typed.specs.TypedTree.{TypedTree}
use Rattle.pv_typed.specs.TypedUnits.{Store, ValueOf}
use Rattle.pv_check.specs.Arms.{after_node}
use Rattle.pv_check.specs.Kept.{Kept, expression_if}
use Rattle.pv_check.specs.Open.{state_of, IsOpen, Goes}
use Rattle.pv_check.specs.Raw.{Raw}
use Rattle.pv_check.specs.Rows.{operand}
use Rattle.pv_check.specs.State.{State}
use Rattle.pv_check.specs.Typing.{types}
use Rattle.pv_check.specs.Values.{as_if_assigned}
use Rattle.pv_check.proofs.ArmLaws.{goes_kept}
use Rattle.pv_check.proofs.Opening.{open_goes, state_stays, then_goes}
use Rattle.pv_unit.specs.declared.parts.Subobject.{Subobject}
use Rattle.pv_unit.specs.Rules.{After}
use Rattle.pv_unit.specs.Initializers.{one, single_store, store_of_value}
use Rattle.pv_unit.specs.InitializerParts.{is_allowed, as_constant, unqualified_part, zero_leaf, zero}
use Rattle.pv_unit.specs.Stores.{AreStores, Fills, behind, stores_if, stores_in}
use Rattle.pv_unit.specs.Subobjects.{part_of}
use Rattle.pv_unit.specs.ValueRules.{to_initializers, values}
use Rattle.pv_unit.proofs.Growth.{made, pushed, store_with}
use Rattle.pv_unit.proofs.ValueWords.{values_assigned, values_completed, values_operand}

pub line_is : (t : Tree) → is_expression t ≡ true → tree_line t ≡ expression_line (as_expression t)
line_is (OfExpression a) e = refl
line_is (OfDeclaration d) e = cc
line_is (OfDeclarator d) e = cc
line_is (OfSpecifier s) e = cc
line_is (OfInitializer i) e = cc
line_is (OfStatement s) e = cc

abbrev pub made_store : Subobject → TypeId → ℕ → NodeId → Init
made_store part t line c = record { offset = part.offset; t = t; line = line; what = value.Node c }

abbrev after_of : TypedTree → State → After State TypedTree
after_of e s = record { value = e; state = s }

-- what a single expression comes to, where its operand was typed
single_is : (lasting : Bool) (texts : List (List ℕ)) (m0 m1 : Stored) (s0 s1 : Raw) (part : Subobject) (a : ExpressionTree) (t : TypeId) (v : NodeId) → Goes m0 m1 → part.t.0 < length m0.known.terms
    → after_node texts false s1 m1 (Some v) ≡ operand (types a (state_of texts false s0 m0)) → tree m1.known t.0 ≡ bare_type (tree m1.known part.t.0)
    → option_and_then (as_constant values lasting (unqualified_part (part_of m0.known part)) (expression_line a) (state_of texts false s1 m1)) (as_if_assigned (tree m1.known t.0) (expression_at m1 v)) ≡ single_store values lasting (part_of m0.known part) a (state_of texts false s0 m0)
single_is lasting texts m0 m1 s0 s1 part a t v g known typed bared =
    let p = part_of m0.known part in
    let st0 = state_of texts false s0 m0 in
    let st1 = state_of texts false s1 m1 in
    let store = as_constant values lasting (unqualified_part p) (expression_line a) st1 in
    let whole : tree m1.known t.0 ≡ bare_type p.t = bared ∙ ap bare_type (g.grown.types part.t.0 known) in
    let operand_is : Some (after_of (expression_at m1 v) st1) ≡ values.operand a st0 = ap to_initializers typed ∙ sym (values_operand a st0) in
    ap (λ (u : Ty). option_and_then store (as_if_assigned u (expression_at m1 v))) whole
    ∙ ap (option_and_then store) (sym (values_assigned st1 (bare_type p.t) (expression_at m1 v)))
    ∙ ap (option_and_then (store_of_value values lasting p (expression_line a))) operand_is

-- ---- there is none

-- its operand has no typing
pub single_untyped : (lasting : Bool) (p : Part) (a : ExpressionTree) (s : State) (before : List Store) → None ≡ operand (types a s) → None ≡ option_map (behind before) (single_store values lasting p a s)
single_untyped lasting p a s before e =
    ap (λ o. option_map (behind before) (option_and_then (store_of_value values lasting p (expression_line a)) o)) (ap to_initializers e ∙ sym (values_operand a s))

-- the part can't have its value
pub single_unassigned : (lasting : Bool) (texts : List (List ℕ)) (m0 m1 : Stored) (s0 s1 : Raw) (part : Subobject) (a : ExpressionTree) (t : TypeId) (v : NodeId) (before : List Store) → Goes m0 m1 → part.t.0 < length m0.known.terms
    → after_node texts false s1 m1 (Some v) ≡ operand (types a (state_of texts false s0 m0)) → tree m1.known t.0 ≡ bare_type (tree m1.known part.t.0) → None ≡ as_if_assigned (tree m1.known t.0) (expression_at m1 v)
    → None ≡ option_map (behind before) (single_store values lasting (part_of m0.known part) a (state_of texts false s0 m0))
single_unassigned lasting texts m0 m1 s0 s1 part a t v before g known typed bared e =
    let store = as_constant values lasting (unqualified_part (part_of m0.known part)) (expression_line a) (state_of texts false s1 m1) in
    ap (option_map (behind before)) (ap (option_and_then store) e ∙ single_is lasting texts m0 m1 s0 s1 part a t v g known typed bared)

some_then : {A : Type 0} (b : Bool) (x : A) → b ≡ true → Some x ≡ (if b then Some x else None)
some_then true x e = refl
some_then false x e = cc

none_else : {A : Type 0} (b : Bool) (x : A) → b ≡ false → None ≡ (if b then Some x else None)
none_else true x e = cc
none_else false x e = refl

-- it would have to be constant
pub single_forbidden : (lasting : Bool) (texts : List (List ℕ)) (m0 m1 m2 : Stored) (s0 s1 : Raw) (part : Subobject) (a : ExpressionTree) (t : TypeId) (v c : NodeId) (before : List Store) → Goes m0 m1 → IsOpen m1 s1 → Kept m1 m2 → part.t.0 < length m0.known.terms
    → after_node texts false s1 m1 (Some v) ≡ operand (types a (state_of texts false s0 m0)) → tree m1.known t.0 ≡ bare_type (tree m1.known part.t.0) → expression_if m2 (Some c) ≡ as_if_assigned (tree m1.known t.0) (expression_at m1 v)
    → is_allowed values lasting (state_of texts false s1 m2) (expression_at m2 c) ≡ false
    → None ≡ option_map (behind before) (single_store values lasting (part_of m0.known part) a (state_of texts false s0 m0))
single_forbidden lasting texts m0 m1 m2 s0 s1 part a t v c before g ready k known typed bared as_is may =
    let p = part_of m0.known part in
    let st1 = state_of texts false s1 m1 in
    let same : state_of texts false s1 m2 ≡ st1 = state_stays texts false m1 m2 s1 ready (goes_kept m1 m2 k) k.whole in
    let forbidden : is_allowed values lasting st1 (expression_at m2 c) ≡ false = sym (ap (λ z. is_allowed values lasting z (expression_at m2 c)) same) ∙ may in
    let store = as_constant values lasting (unqualified_part p) (expression_line a) st1 in
    let none : None ≡ option_and_then store (Some (expression_at m2 c)) = none_else (is_allowed values lasting st1 (expression_at m2 c)) (one (unqualified_part p) (expression_line a) (ValueOf (expression_at m2 c)) st1) forbidden in
    ap (option_map (behind before)) (none ∙ ap (option_and_then store) as_is ∙ single_is lasting texts m0 m1 s0 s1 part a t v g known typed bared)

-- ---- there is one

pub record Single (lasting : Bool) (texts : List (List ℕ)) (m0 m2 : Stored) (s0 s1 : Raw) (part : Subobject) (a : ExpressionTree) (before out : List Init) : Type 0 where
  pub typed : stores_if texts s1 m2 out (Some 1) ≡ option_map (behind (stores_in m0 before)) (single_store values lasting (part_of m0.known part) a (state_of texts false s0 m0))
  pub fills : Fills m0 m2 s1 out

pub single_of : (lasting : Bool) (texts : List (List ℕ)) (m0 m1 m2 : Stored) (s0 s1 : Raw) (part : Subobject) (a : ExpressionTree) (t : TypeId) (line : ℕ) (v c : NodeId) (before out : List Init)
    → Goes m0 m1 → IsOpen m1 s1 → Kept m1 m2 → AreStores m0 before → part.t.0 < length m0.known.terms
    → after_node texts false s1 m1 (Some v) ≡ operand (types a (state_of texts false s0 m0))
    → tree m1.known t.0 ≡ bare_type (tree m1.known part.t.0) → t.0 < length m1.known.terms
    → expression_if m2 (Some c) ≡ as_if_assigned (tree m1.known t.0) (expression_at m1 v) → IsExpression m2 c
    → is_allowed values lasting (state_of texts false s1 m2) (expression_at m2 c) ≡ true → line ≡ expression_line a → out ≡ before ++ (made_store part t line c ∷ [])
    → Single lasting texts m0 m2 s0 s1 part a before out
single_of lasting texts m0 m1 m2 s0 s1 part a t line v c before out g ready k are known typed bared earlier as_is there may at pushed_is =
    let h = goes_kept m1 m2 k in
    let goes = then_goes m0 m1 m2 g h in
    let p = part_of m0.known part in
    let st1 = state_of texts false s1 m1 in
    let type_is : tree m2.known t.0 ≡ bare_type p.t = h.grown.types t.0 earlier ∙ bared ∙ ap bare_type (g.grown.types part.t.0 known) in
    let same : state_of texts false s1 m2 ≡ st1 = state_stays texts false m1 m2 s1 ready h k.whole in
    let allowed_is : is_allowed values lasting st1 (expression_at m2 c) ≡ true = sym (ap (λ z. is_allowed values lasting z (expression_at m2 c)) same) ∙ may in
    let what = ValueOf (expression_at m2 c) in
    let store = as_constant values lasting (unqualified_part p) (expression_line a) st1 in
    let given : Some (one (unqualified_part p) (expression_line a) what st1) ≡ option_and_then store (Some (expression_at m2 c)) = some_then (is_allowed values lasting st1 (expression_at m2 c)) (one (unqualified_part p) (expression_line a) what st1) allowed_is in
    let done = given ∙ ap (option_and_then store) as_is ∙ single_is lasting texts m0 m1 s0 s1 part a t v g known typed bared in
    let terms : length m1.known.terms ≤ length m2.known.terms = h.grown.terms in
    let q = pushed m0 m2 before (made_store part t line c) goes are (omega (arith, terms, earlier), there) in
    let store_is : store_in m2.known (nodes m2) (made_store part t line c) ≡ store_with part.offset (bare_type p.t) (expression_line a) what =
    ap (λ (u : Ty). store_with part.offset u line what) type_is ∙ ap (λ (l : ℕ). store_with part.offset (bare_type p.t) l what) at in
    let stores = ap (stores_in m2) pushed_is ∙ q.same ∙ ap (λ (x : Store). stores_in m0 before ++ (x ∷ [])) store_is in
    record {
      typed = ap (λ z. Some (made (stores_in m2 out) 1 z)) same ∙ ap (λ xs. Some (made xs 1 st1)) stores ∙ ap (option_map (behind (stores_in m0 before))) done;
      fills = record { goes = goes; opened = open_goes m1 m2 s1 ready h; stores = rw pushed_is q.are };
    }

-- ---- the first scalar

pub zero_some : (lasting : Bool) (texts : List (List ℕ)) (s : Raw) (m : Stored) (part leaf : Subobject) (a : ExpressionTree) → Some (part_of m.known leaf) ≡ zero_leaf (completions m.known) (part_of m.known part)
    → single_store values lasting (part_of m.known leaf) a (state_of texts false s m) ≡ zero values lasting (part_of m.known part) a (state_of texts false s m)
zero_some lasting texts s m part leaf a e =
    let st = state_of texts false s m in
    ap (option_and_then (λ (q : Part). single_store values lasting q a st)) (e ∙ ap (λ c. zero_leaf c (part_of m.known part)) (sym (values_completed st)))

pub zero_none : (lasting : Bool) (texts : List (List ℕ)) (s : Raw) (m : Stored) (part : Subobject) (a : ExpressionTree) (before : List Store) → None ≡ zero_leaf (completions m.known) (part_of m.known part)
    → None ≡ option_map (behind before) (zero values lasting (part_of m.known part) a (state_of texts false s m))
zero_none lasting texts s m part a before e =
    let st = state_of texts false s m in
    ap (λ o. option_map (behind before) (option_and_then (λ (q : Part). single_store values lasting q a st) o)) (e ∙ ap (λ c. zero_leaf c (part_of m.known part)) (sym (values_completed st)))

-- ---- answers that say the same

pub ok_same : {A E X : Type 0} (f : A → X) (x y : X) (r : Result A E) → x ≡ y → IfOk r (λ a. f a ≡ x) → IfOk r (λ a. f a ≡ y)
ok_same f x y (Ok a) e h = h ∙ e
ok_same f x y (Err b) e h = tt
