-- The labels of a statement, one after the other.
use Rattle.std.proofs.Common.{◌≡◌, ℕ, ℤ, suc, ◌+◌, ◌-◌, drop-cons, ◌<◌, ◌≤◌, Bool, true, false, List, [], ◌∷◌, ◌++◌, map, Option, Some, None, length, take, drop, get_or, if◌then◌else◌, refl, sym, ◌∙◌, ap, arith, append_assoc}
use Rattle.std.specs.Prelude.{◌||◌, not}
use Rattle.std.specs.Option.{option_eq}
use Rattle.std.specs.Ordering.{int_eq}
use Rattle.std.specs.List.{list_any}
use Rattle.std.proofs.lemmas.List.{take_all}
use Rattle.pv_num.specs.declared.kinds.IntKind.{IntKind}
use Rattle.pv_tree.specs.declared.nodes.NodeId.{NodeId}
use Rattle.pv_tree.specs.Syntax.{StatementTree, Tree, OfExpression, OfDeclaration, OfDeclarator, OfSpecifier, OfInitializer, OfStatement}
use Rattle.pv_tree.specs.Tables.{Forest, tree_at, trees_of, statement_at, as_statement, is_statement}
use Rattle.pv_typed.specs.TypedStatement.{TypedStatement}
use Rattle.pv_typed.specs.TypedStatement as typed
use Rattle.pv_typed.specs.Tables.{Stored}
use Rattle.pv_check.specs.Raw.{Raw}
use Rattle.pv_check.specs.Open.{state_of, IsOpen}
use Rattle.pv_check.specs.State.{State, After}
use Rattle.pv_typed.specs.Constants.{and_then}
use Rattle.pv_check.proofs.ListRows.{one_more, none_at}
use Rattle.pv_unit.specs.declared.labels.Label.{Label}
use Rattle.pv_unit.specs.declared.labels.Label.TheVariants as label
use Rattle.pv_unit.specs.Statements.{is_label, label_in, typed_label, typed_labels, under}
use Rattle.pv_unit.specs.StatementParts.{labels_with, stands}
use Rattle.pv_unit.specs.Statements as statements
use Rattle.pv_unit.specs.Stated.{Moves}
use Rattle.pv_unit.specs.Switching.{label_of, labels_of, key_of, labels_if, behind_labels, with_label}
use Rattle.pv_unit.proofs.Moving.{moves_same, moves_on}

stmt_is : (t : Tree) → is_statement t ≡ true → t ≡ OfStatement (as_statement t)
stmt_is (OfStatement b) e = refl
stmt_is (OfDeclaration d) e = cc
stmt_is (OfExpression a) e = cc
stmt_is (OfDeclarator d) e = cc
stmt_is (OfSpecifier d) e = cc
stmt_is (OfInitializer i) e = cc

-- the switch's labels with one more are the own ones with one more behind those that were seen
moved : (seen own : List statements.Label) (x : After statements.Label) → with_label (seen ++ own) x ≡ behind_labels seen (labels_with seen own x)
moved seen own x = moved_by (stands x.value (seen ++ own))
  where
    moved_by : (b : Bool) → (if b then None else Some (record { value = seen ++ own ++ (x.value ∷ []); state = x.state })) ≡ behind_labels seen (if b then None else Some (record { value = own ++ (x.value ∷ []); state = x.state }))
    moved_by true = refl
    moved_by false = ap (λ (ls : List statements.Label). Some (record { value = ls; state = x.state })) (append_assoc seen own (x.value ∷ []))

moved_all : (seen own : List statements.Label) (o : Option (After statements.Label)) → and_then o (with_label (seen ++ own)) ≡ behind_labels seen (and_then o (labels_with seen own))
moved_all seen own None = refl
moved_all seen own (Some x) = moved seen own x

abbrev value_or : List statements.Label → Option (After (List statements.Label)) → List statements.Label
value_or d None = d
value_or d (Some x) = x.value

abbrev state_or : State → Option (After (List statements.Label)) → State
state_or d None = d
state_or d (Some x) = x.state

-- the own labels among all
pub found : (seen all : List statements.Label) (s : State) (o : Option (After (List statements.Label))) → Some (record { value = all; state = s }) ≡ behind_labels seen o
    → (own : List statements.Label) × ((o ≡ Some (record { value = own; state = s })) × (seen ++ own ≡ all))
found seen all s None e = cc
found seen all s (Some y) e =
    let state = ap (state_or s) e in
    (y.value, (ap (λ (z : State). Some (record { value = y.value; state = z })) (sym state), sym (ap (value_or all) e)))

pub unmapped : (seen : List statements.Label) (o : Option (After (List statements.Label))) → None ≡ behind_labels seen o → o ≡ None
unmapped seen None e = refl
unmapped seen (Some y) e = cc

abbrev labelled_next : IntKind → List statements.Label → StatementTree → After (List statements.Label) → Option (After (List statements.Label))
labelled_next k seen l own = and_then (typed_label k l own.state) (labels_with seen own.value)

-- some labels are typed
pub record Along (texts : List (List ℕ)) (k : IntKind) (f : Forest) (ns : List NodeId) (seen : List statements.Label) (s0 : Raw) (m0 : Stored) (i : ℕ) (s : Raw) (m : Stored) (all : List Label) : Type 0 where
  pub typed : labels_if texts s m all true ≡ behind_labels seen (typed_labels k seen (trees_of f (take i ns)) (state_of texts false s0 m0))
  pub moves : Moves m0 s0 m s

-- the next one, behind the own ones
here : (texts : List (List ℕ)) (k : IntKind) (f : Forest) (ns : List NodeId) (seen : List statements.Label) (s0 s : Raw) (m0 m : Stored) (i : ℕ) (all : List Label) (d : NodeId)
    → Along texts k f ns seen s0 m0 i s m all → i < length ns → is_statement (tree_at f (get_or ns i d)) ≡ true
    → and_then (typed_label k (statement_at f (get_or ns i d)) (state_of texts false s m)) (with_label (labels_of all)) ≡ behind_labels seen (typed_labels k seen (trees_of f (take (i + 1) ns)) (state_of texts false s0 m0))
here texts k f ns seen s0 s m0 m i all d a lt kind =
    let t = tree_at f (get_or ns i d) in
    let z = state_of texts false s m in
    let h = found seen (labels_of all) z (typed_labels k seen (trees_of f (take i ns)) (state_of texts false s0 m0)) a.typed in
    let own : After (List statements.Label) = record { value = h.0; state = z } in
    ap (λ ls. and_then (typed_label k (as_statement t) z) (with_label ls)) (sym h.1.1)
    ∙ moved_all seen h.0 (typed_label k (as_statement t) z)
    ∙ ap (behind_labels seen) (ap (λ x. label_in k seen x own) (sym (stmt_is t kind))
    ∙ one_more (typed_labels k seen) (label_in k seen) (λ before x y. refl) f ns i d (state_of texts false s0 m0) own lt (sym h.1.0))

pub along_start : (texts : List (List ℕ)) (k : IntKind) (f : Forest) (ns : List NodeId) (s : Raw) (m : Stored) (all : List Label) → IsOpen m s → Along texts k f ns (labels_of all) s m 0 s m all
along_start texts k f ns s m all opened = record {
  typed = ap (λ (ls : List statements.Label). Some (record { value = ls; state = state_of texts false s m })) (nil_right (labels_of all));
  moves = moves_same m s opened;
}
  where
    nil_right : (xs : List statements.Label) → xs ≡ xs ++ []
    nil_right [] = refl
    nil_right (x ∷ xs) = ap (λ ys. x ∷ ys) (nil_right xs)

pub along_next : (texts : List (List ℕ)) (k : IntKind) (f : Forest) (ns : List NodeId) (seen : List statements.Label) (s0 s t : Raw) (m0 m e : Stored) (i : ℕ) (all more : List Label) (d : NodeId)
    → Along texts k f ns seen s0 m0 i s m all → i < length ns → is_statement (tree_at f (get_or ns i d)) ≡ true
    → labels_if texts t e more true ≡ and_then (typed_label k (statement_at f (get_or ns i d)) (state_of texts false s m)) (with_label (labels_of all)) → Moves m s e t
    → Along texts k f ns seen s0 m0 (i + 1) t e more
along_next texts k f ns seen s0 s t m0 m e i all more d a lt kind held moves = record {
  typed = held ∙ here texts k f ns seen s0 s m0 m i all d a lt kind;
  moves = moves_on m0 m e s0 s t a.moves moves;
}

pub along_stop : (texts : List (List ℕ)) (k : IntKind) (f : Forest) (ns : List NodeId) (seen : List statements.Label) (s0 s : Raw) (m0 m : Stored) (i : ℕ) (all : List Label) (d : NodeId)
    → Along texts k f ns seen s0 m0 i s m all → i < length ns → is_statement (tree_at f (get_or ns i d)) ≡ true
    → None ≡ and_then (typed_label k (statement_at f (get_or ns i d)) (state_of texts false s m)) (with_label (labels_of all))
    → None ≡ behind_labels seen (typed_labels k seen (trees_of f ns) (state_of texts false s0 m0))
along_stop texts k f ns seen s0 s m0 m i all d a lt kind held =
    let t = tree_at f (get_or ns i d) in
    let z = state_of texts false s m in
    let h = found seen (labels_of all) z (typed_labels k seen (trees_of f (take i ns)) (state_of texts false s0 m0)) a.typed in
    let own : After (List statements.Label) = record { value = h.0; state = z } in
    let none : labelled_next k seen (as_statement t) own ≡ None =
    unmapped seen (labelled_next k seen (as_statement t) own) (held ∙ ap (λ ls. and_then (typed_label k (as_statement t) z) (with_label ls)) (sym h.1.1) ∙ moved_all seen h.0 (typed_label k (as_statement t) z)) in
    ap (behind_labels seen) (none_at (typed_labels k seen) (label_in k seen) (λ before x y. refl) f ns i d (state_of texts false s0 m0) own lt (sym h.1.0) (sym none ∙ ap (λ x. label_in k seen x own) (sym (stmt_is t kind))))

pub along_done : (texts : List (List ℕ)) (k : IntKind) (f : Forest) (ns : List NodeId) (seen : List statements.Label) (s0 s : Raw) (m0 m : Stored) (i : ℕ) (all : List Label)
    → Along texts k f ns seen s0 m0 i s m all → length ns ≤ i → labels_if texts s m all true ≡ behind_labels seen (typed_labels k seen (trees_of f ns) (state_of texts false s0 m0))
along_done texts k f ns seen s0 s m0 m i all a end = a.typed ∙ ap (λ xs. behind_labels seen (typed_labels k seen (trees_of f xs) (state_of texts false s0 m0))) (take_all i ns end)

-- ---- a statement under its labels, from the last label on

label_front : (labels : List Label) (at : ℕ) (d : Label) (b : TypedStatement) → 0 < at → at ≤ length labels → under (map label_of (drop (at - 1) labels)) b ≡ under (label_of (get_or labels (at - 1) d) ∷ map label_of (drop at labels)) b
label_front labels at d b lt le =
    let next : suc (at - 1) ≡ at = omega (arith, lt) in
    ap (λ ls. under (map label_of ls) b) (drop-cons labels (at - 1) d (omega (arith, lt, le))) ∙ ap (λ k. under (label_of (get_or labels (at - 1) d) ∷ map label_of (drop k labels)) b) next

pub case_step : (labels : List Label) (at line : ℕ) (value : ℤ) (d : Label) (b c : TypedStatement) → 0 < at → at ≤ length labels → get_or labels (at - 1) d ≡ label.Case line value → c ≡ under (map label_of (drop at labels)) b
    → typed.Case line value c ≡ under (map label_of (drop (at - 1) labels)) b
case_step labels at line value d b c lt le is e =
    ap (typed.Case line value) e ∙ sym (label_front labels at d b lt le ∙ ap (λ l. under (label_of l ∷ map label_of (drop at labels)) b) is)

pub default_step : (labels : List Label) (at line : ℕ) (d : Label) (b c : TypedStatement) → 0 < at → at ≤ length labels → get_or labels (at - 1) d ≡ label.Default line → c ≡ under (map label_of (drop at labels)) b
    → typed.Default line c ≡ under (map label_of (drop (at - 1) labels)) b
default_step labels at line d b c lt le is e =
    ap (typed.Default line) e ∙ sym (label_front labels at d b lt le ∙ ap (λ l. under (label_of l ∷ map label_of (drop at labels)) b) is)

-- ---- the set of what the labels are

same_key : (l x : Label) → option_eq int_eq (key_of l) (key_of x) ≡ is_label (label_of l) (label_of x)
same_key (label.Case a m) (label.Case b n) = refl
same_key (label.Case a m) (label.Default b) = refl
same_key (label.Default a) (label.Case b n) = refl
same_key (label.Default a) (label.Default b) = refl

key_stands : (l : Label) (ls : List Label) → list_any (option_eq int_eq (key_of l)) (map key_of ls) ≡ stands (label_of l) (map label_of ls)
key_stands l [] = refl
key_stands l (x ∷ ls) =
    ap (λ b. b || list_any (option_eq int_eq (key_of l)) (map key_of ls)) (same_key l x)
    ∙ ap (λ b. is_label (label_of l) (label_of x) || b) (key_stands l ls)

pub added_is : (b : Bool) (l : Label) (k : Option ℤ) (ks : List (Option ℤ)) (ls : List Label) → b ≡ not (list_any (option_eq int_eq k) ks) → k ≡ key_of l → ks ≡ map key_of ls
    → b ≡ not (stands (label_of l) (map label_of ls))
added_is b l k ks ls h e f =
    h ∙ ap (λ x. not (list_any (option_eq int_eq x) ks)) e ∙ ap (λ xs. not (list_any (option_eq int_eq (key_of l)) xs)) f ∙ ap not (key_stands l ls)
